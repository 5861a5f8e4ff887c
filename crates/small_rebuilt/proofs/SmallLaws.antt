-- What is rebuilt from small terms has small terms.
use Rattle.std.proofs.Common.{◌≡◌, inl, inr, ◌&&◌, not, ℕ, zero, suc, true, List, [], ◌∷◌, ◌++◌, map, take, Some, slice_get, refl, sym, subst}
use Rattle.std.specs.List.{AllByRecursion}
use Rattle.std.proofs.lemmas.Bool.{false≢true, or_cases}
use Rattle.tableau_calculus.specs.Witnesses.{Row}
use Rattle.tableau_calculus.specs.Rules.{PlainRule}
use Rattle.tableau_calculus.specs.declared.rule_use.RuleUse.TheVariants.{AtOne, AtTwo, AllPos}
use Rattle.sat_base.specs.declared.literal.Var.{Var}
use Rattle.sat_base.specs.declared.literal.SatLit.{SatLit}
use Rattle.sat_base.specs.Literal.{positive, negative, negated, same_literal, holds}
use Rattle.sat_base.proofs.LiteralLaws.{same_literal-true}
use Rattle.sat_log.specs.Resolution.{without_literal, each_once, resolvent, resolved}
use Rattle.sat_log.proofs.ChainLaws.{resolved_cases}
use Rattle.tableau_calculus.specs.Each.{Each}
use Rattle.search_spec.proofs.NamingLaws.{each-joined, pick_good}
use Rattle.search_spec.proofs.TypedPushes.{each_filtered}
use Rattle.rebuild_spec.specs.Input.{clause_by, Input, literals_of}
use Rattle.rebuild_spec.specs.Trees.{Place, at_result, Tree, leaf, cut, branch}
use Rattle.rebuild_spec.specs.Stands.{Standing, start, line, rule_at_places, joined_standing, standing_after_step, premise_place, Stands, of_start, of_instance, of_first, of_next, of_result}
use Rattle.rebuild_spec.specs.Lines.{walked, line_of}
use Rattle.rebuild_spec.proofs.WalkLaws.{IsEach}
use Rattle.rebuild_spec.proofs.ReachedLaws.{walked_all}
use Rattle.refute_print.specs.Sizes.{IsSmallTerm, AreSmallLiterals}
use Rattle.small_rebuilt.specs.Small.{TakesSmall, IsSmallNumber, InputHasSmallTerms, HasSmallParts, RebuiltTermsAreSmall}

pub placed_takes : (r : PlainRule) (is : List ℕ) → TakesSmall r → TakesSmall (rule_at_places r is)
placed_takes (AtOne kind k) (i ∷ is) h = tt
placed_takes (AtTwo kind k m) (i ∷ j ∷ is) h = tt
placed_takes (AllPos k u) (i ∷ is) h = h
placed_takes r is h = h

module _ (input : Input) where
  abbrev Small : SatLit → Type 0
  Small l = IsSmallNumber input l

  negations_small : (c : List SatLit) → Each Small c → Each Small (map negated c)
  negations_small [] h = tt
  negations_small (l ∷ c) h = (h.0, negations_small c h.1)

  without_small : (l : SatLit) (c : List SatLit) → Each Small c → Each Small (without_literal l c)
  without_small l c h = each_filtered Small Small (λ m. not (same_literal l m)) (λ m k e. k) c h

  once_small : (c : List SatLit) → Each Small c → Each Small (each_once c)
  once_small [] h = tt
  once_small (l ∷ c) h = (h.0, without_small l (each_once c) (once_small c h.1))

  resolvent_small : (v : Var) (a b : List SatLit) → Each Small a → Each Small b → Each Small (resolvent v a b)
  resolvent_small v a b h k =
      once_small (without_literal (positive v) a ++ without_literal (negative v) b)
      (each-joined Small (without_literal (positive v) a) (without_literal (negative v) b) (without_small (positive v) a h) (without_small (negative v) b k))

  held_small : (c : List SatLit) (l : SatLit) → holds c l ≡ true → Each Small c → Small l
  held_small [] l e h = absurd (false≢true e)
  held_small (m ∷ c) l e h =
      elim (or_cases (same_literal l m) (holds c l) e) [
        | inl same ↦ subst Small (sym (same_literal-true l m same)) h.0
        | inr later ↦ held_small c l later h.1
      ]

  -- the atom of a variable on which clauses are resolved, and what they give
  resolved_small : (v : Var) (a b c : List SatLit) → resolved v a b ≡ Some c → Each Small a → Each Small b → Small (positive v) × Each Small c
  resolved_small v a b c e h k =
      elim (resolved_cases v a b c e) [
        | inl own ↦ (held_small a (positive v) own.0 h, subst (Each Small) (sym own.2) (resolvent_small v a b h k))
        | inr other ↦ (held_small b (positive v) other.0 k, subst (Each Small) (sym other.2) (resolvent_small v b a k h))
      ]

  -- a line whose branch and whose rule's term are small
  abbrev IsSmallTree : Tree → Type 0
  IsSmallTree (leaf p ls r children) = Each Small ls × TakesSmall r
  IsSmallTree (cut p v t u) = Each Small (branch (cut p v t u)) × Small (positive v)

  whole_branch : (t : Tree) → IsEach IsSmallTree t → Each Small (branch t)
  whole_branch (leaf p ls r children) h = h.0
  whole_branch (cut p v t u) h = h.0.0

  abbrev StandsSmall : Standing → Type 0
  StandsSmall (start n l) = Small l
  StandsSmall (line t) = IsEach IsSmallTree t

  joined_small : (p : Place) (v : Var) (s t : Standing) → Small (positive v) → StandsSmall s → StandsSmall t → StandsSmall (joined_standing p v s t)
  joined_small p v (start m l) (start n k) here first second = (pick_good (Each Small) _ (l ∷ k ∷ []) (k ∷ l ∷ []) (first, (second, tt)) (second, (first, tt)), tt)
  joined_small p v (start m l) (line t) here first second = second
  joined_small p v (line t) (start n k) here first second = first
  joined_small p v (line t) (line u) here first second = ((resolvent_small v (branch u) (branch t) (whole_branch u second) (whole_branch t first), here), second, first)

  stepped_small : (p : Place) (v : Var) (a b : List SatLit) (s t : Standing) → Small (positive v) → StandsSmall s → StandsSmall t → StandsSmall (standing_after_step p v a s b t)
  stepped_small p v a b s t here first second =
      pick_good StandsSmall (holds a (positive v) && holds b (negative v)) (joined_standing p v s t) (joined_standing p v t s) (joined_small p v s t here first second) (joined_small p v t s here second first)

  module _ (given : InputHasSmallTerms input) where
    stands_small : (p : Place) (c : List SatLit) (s : Standing) → Stands input p c s → Each Small c × StandsSmall s
    stands_small p c s (of_start n l e) = let h = given.clauses n _ e in ((h, tt), h)
    stands_small p c s (of_instance n d i e) = let h = given.clauses n (clause_by d i) e in (h.0, (negations_small d h.0, placed_takes i.rule _ h.1))
    stands_small p c s (of_first n entry d t e h) = stands_small (premise_place entry.chain.first) d t h
    stands_small p c s (of_next n k entry step a b d x y e f h j r) =
        let first = stands_small _ a x h in
        let second = stands_small (premise_place step.premise) b y j in
        let both = resolved_small step.var a b d r first.0 second.0 in
        (both.1, stepped_small _ step.var a b x y both.0 first.1 second.1)
    stands_small p c s (of_result n entry d t e h) = stands_small _ d t h

  literals_small : (ls : List SatLit) → Each Small ls → AreSmallLiterals (literals_of input.atoms ls)
  literals_small [] h = tt
  literals_small (l ∷ ls) h = (h.0, literals_small ls h.1)

  line_small : (lines : List Tree) (t : Tree) → IsSmallTree t → HasSmallParts (line_of input.atoms lines t)
  line_small lines (leaf p ls r children) h = record { branch = literals_small ls h.0; takes = h.1 }
  line_small lines (cut p v t u) h = record { branch = literals_small (branch (cut p v t u)) h.0; takes = h.1 }

  lines_small : (lines trees : List Tree) → ((i : ℕ) (t : Tree) → slice_get trees i ≡ Some t → IsSmallTree t) → AllByRecursion HasSmallParts (map (line_of input.atoms lines) trees)
  lines_small lines [] h = tt
  lines_small lines (t ∷ trees) h = (line_small lines t (h zero t refl), lines_small lines trees (λ i u e. h (suc i) u e))

pub taken_small : (n : ℕ) (rows : List Row) → AllByRecursion (λ (row : Row). IsSmallTerm row.predicate) rows → AllByRecursion (λ (row : Row). IsSmallTerm row.predicate) (take n rows)
taken_small zero rows h = tt
taken_small (suc n) [] h = tt
taken_small (suc n) (r ∷ rows) h = (h.0, taken_small n rows h.1)

pub rebuilt_small : RebuiltTermsAreSmall
rebuilt_small input refutation given is =
    let standing = (stands_small input given (at_result is.number) [] (line is.last) is.stands).1 in
    let trees = walked [] is.last in
    let all = walked_all (IsSmallTree input) is.last [] (λ i u h. cc) standing in
    record {
      rows = subst (AllByRecursion (λ (row : Row). IsSmallTerm row.predicate)) (sym is.rows) (taken_small _ input.rows given.rows);
      lines = subst (AllByRecursion HasSmallParts) (sym is.lines) (lines_small input trees trees all);
    }
