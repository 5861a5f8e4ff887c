-- The lines of a walk over right lines are right.
use Rattle.std.proofs.Common.{◌≡◌, ◌<◌, ℕ, zero, suc, Bool, true, false, List, [], ◌∷◌, ◌++◌, map, length, Some, slice_get, slice_index_or, option_map, Contains, refl, sym, ap, ◌∙◌, subst, append_assoc}
use Rattle.std.proofs.lemmas.Bool.{or_left, or_right}
use Rattle.std.proofs.lemmas.Option.{slice_get-map}
use Rattle.stt_core.specs.Lambda.{Lambda, constant, falsity}
use Rattle.stt_core.specs.Typing.{Scope}
use Rattle.stt_core.proofs.ListLaws.{map-append}
use Rattle.tableau_calculus.specs.Literals.{Literal, plus, opposite, IsLiteral, IsBranch}
use Rattle.tableau_calculus.specs.Witnesses.{Row}
use Rattle.tableau_calculus.specs.Rules.{cut_rule}
use Rattle.tableau_calculus.specs.Accepted.{Within, ClosesBy, IsRightLine, AreRightAfter}
use Rattle.tableau_calculus.specs.declared.refutation.Child.TheVariants as child
use Rattle.tableau_calculus.proofs.ListLaws.{contains-first, contains-later, within-each}
use Rattle.tableau_calculus.proofs.TypedLaws.{branch-each}
use Rattle.sat_base.specs.declared.literal.Var.{Var}
use Rattle.sat_base.specs.declared.literal.SatLit.{SatLit}
use Rattle.sat_base.specs.Literal.{positive, negative, same_literal, holds}
use Rattle.sat_base.proofs.LiteralLaws.{same_literal-true, holds-append}
use Rattle.sat_log.specs.Resolution.{without_literal, each_once}
use Rattle.sat_log.proofs.ResolutionLaws.{holds-without_repeats}
use Rattle.search_spec.specs.Numbered.{literal_at}
use Rattle.rebuild_spec.specs.Input.{literals_of}
use Rattle.rebuild_spec.specs.Trees.{Tree, leaf, cut, branch}
use Rattle.rebuild_spec.specs.Lines.{line_number_in, line_of}
use Rattle.rebuild_spec.proofs.BackedLaws.{without-held}
use Rattle.rebuild_spec.proofs.LiteralLaws.{contains_literal, each_literal}
use Rattle.rebuild_spec.proofs.SoundLaws.{IsRightLeaf}
use Rattle.rebuild_spec.proofs.WalkLaws.{IsListed, HasEarlierChildren, IsOrdered, get-front, get-middle}

-- a line that rests on no other is right, and of a cut nothing is asked
abbrev pub IsRightAlone : Scope → List Row → List Lambda → Tree → Type 0
IsRightAlone scope rows atoms (leaf p ls rule children) = IsRightLeaf scope rows atoms ls rule children
IsRightAlone scope rows atoms (cut p v t u) = Unit {0}

-- what a child's branch holds is the cut's literal, or the cut's branch holds it
first_within : (v : Var) (t u : List SatLit) (m : SatLit) → holds t m ≡ true → same_literal (positive v) m ≡ false → holds (each_once (without_literal (positive v) t ++ without_literal (negative v) u)) m ≡ true
first_within v t u m h other =
    holds-without_repeats (without_literal (positive v) t ++ without_literal (negative v) u) m
    ∙ holds-append (without_literal (positive v) t) (without_literal (negative v) u) m
    ∙ or_left (holds (without_literal (positive v) t) m) (holds (without_literal (negative v) u) m) (without-held (positive v) t m h other)

second_within : (v : Var) (t u : List SatLit) (m : SatLit) → holds u m ≡ true → same_literal (negative v) m ≡ false → holds (each_once (without_literal (positive v) t ++ without_literal (negative v) u)) m ≡ true
second_within v t u m h other =
    holds-without_repeats (without_literal (positive v) t ++ without_literal (negative v) u) m
    ∙ holds-append (without_literal (positive v) t) (without_literal (negative v) u) m
    ∙ or_right (holds (without_literal (positive v) t) m) (holds (without_literal (negative v) u) m) (without-held (negative v) u m h other)

module _ (scope : Scope) (rows : List Row) (atoms : List Lambda) (formulas : (t : Lambda) → Contains atoms t → IsLiteral scope (plus t)) where
  -- what a literal of the clauses stands for is a literal
  pub typed_literal : (l : SatLit) → IsLiteral scope (literal_at atoms l)
  typed_literal l = record { formula = (go atoms l.var.0 formulas).formula; unsigned = (go atoms l.var.0 formulas).unsigned }
    where
      go : (ts : List Lambda) (n : ℕ) → ((t : Lambda) → Contains ts t → IsLiteral scope (plus t)) → IsLiteral scope (plus (slice_index_or ts n (constant falsity)))
      go [] n each = record { formula = (tt, refl); unsigned = refl }
      go (t ∷ ts) zero each = each t (contains-first t ts)
      go (t ∷ ts) (suc n) each = go ts n (λ u h. each u (contains-later u t ts h))

  pub typed_branch : (ls : List SatLit) → IsBranch scope (literals_of atoms ls)
  typed_branch ls = branch-each scope (literals_of atoms ls) (each_literal atoms (IsLiteral scope) ls (λ m h. typed_literal m))

  pub branch_of-line : (lines : List Tree) (t : Tree) → (line_of atoms lines t).branch ≡ literals_of atoms (branch t)
  branch_of-line lines (leaf p ls rule children) = refl
  branch_of-line lines (cut p v t u) = refl

  -- the literals of a branch are within those of another with one more in front
  within_more : (ls ks : List SatLit) (k : SatLit) → ((m : SatLit) → holds ls m ≡ true → same_literal k m ≡ false → holds ks m ≡ true) → Within (literals_of atoms ls) (literal_at atoms k ∷ literals_of atoms ks)
  within_more ls ks k each =
      within-each (literals_of atoms ls) (literal_at atoms k ∷ literals_of atoms ks)
      (each_literal atoms (Contains (literal_at atoms k ∷ literals_of atoms ks)) ls (λ m h. go m (same_literal k m) refl h))
    where
      go : (m : SatLit) (b : Bool) → same_literal k m ≡ b → holds ls m ≡ true → Contains (literal_at atoms k ∷ literals_of atoms ks) (literal_at atoms m)
      go m true e h = subst (λ x. Contains (literal_at atoms k ∷ literals_of atoms ks) (literal_at atoms x)) (same_literal-true k m e) (contains-first (literal_at atoms k) (literals_of atoms ks))
      go m false e h = contains-later (literal_at atoms m) (literal_at atoms k) (literals_of atoms ks) (contains_literal atoms ks m (each m h e))

  module _ (Is : Tree → Type 0) (alone : (t : Tree) → Is t → IsRightAlone scope rows atoms t) (lines : List Tree) (ordered : IsOrdered Is lines) where
    -- a child that was listed before closes the branch that its own branch is within
    child_closes : (front back : List Tree) (t : Tree) (ls : List Literal) → lines ≡ front ++ back → IsListed lines t → line_number_in lines t < length front → Within (literals_of atoms (branch t)) ls → ClosesBy (map (line_of atoms lines) front) ls (child.Line (line_number_in lines t))
    child_closes front back t ls e listed below within =
        let at : slice_get front (line_number_in lines t) ≡ Some t = get-front front back (line_number_in lines t) t below (ap (λ k. slice_get k (line_number_in lines t)) (sym e) ∙ listed) in
        (line_of atoms lines t, slice_get-map (line_of atoms lines) front (line_number_in lines t) ∙ ap (option_map (line_of atoms lines)) at, subst (λ k. Within k ls) (sym (branch_of-line lines t)) within)

    line_right : (front back : List Tree) (t : Tree) → lines ≡ front ++ back → Is t → HasEarlierChildren lines (length front) t → IsRightLine scope rows (map (line_of atoms lines) front) (line_of atoms lines t)
    line_right front back (leaf p ls rule children) e is earlier =
        let right : IsRightLeaf scope rows atoms ls rule children = alone (leaf p ls rule children) is in
        record { typed = (typed_branch ls, right.typed); alternatives = right.alternatives; instance = right.instance; children = right.closed (map (line_of atoms lines) front) }
    line_right front back (cut p v t u) e is earlier =
        let l = literal_at atoms (positive v) in
        record {
          typed = (typed_branch (branch (cut p v t u)), typed_literal (positive v));
          alternatives = (l ∷ []) ∷ (opposite l ∷ []) ∷ [];
          instance = record { principals = []; at_places = tt; fits = cut_rule l (typed_literal (positive v)) };
          children = (
            child_closes front back t (l ∷ literals_of atoms (branch (cut p v t u))) e earlier.0.0 earlier.0.1 (within_more (branch t) (branch (cut p v t u)) (positive v) (λ m h other. first_within v (branch t) (branch u) m h other)),
            (child_closes front back u (opposite l ∷ literals_of atoms (branch (cut p v t u))) e earlier.1.0 earlier.1.1 (within_more (branch u) (branch (cut p v t u)) (negative v) (λ m h other. second_within v (branch t) (branch u) m h other)), tt),
          );
        }

    lines_right : (front back : List Tree) → lines ≡ front ++ back → AreRightAfter scope rows (map (line_of atoms lines) front) (map (line_of atoms lines) back)
    lines_right front [] e = tt
    lines_right front (t ∷ back) e =
        let at : slice_get lines (length front) ≡ Some t = ap (λ k. slice_get k (length front)) e ∙ get-middle front back t in (
          line_right front (t ∷ back) t e (ordered.each (length front) t at) (ordered.earlier (length front) t at),
          subst (λ k. AreRightAfter scope rows k (map (line_of atoms lines) back)) (map-append (line_of atoms lines) front (t ∷ [])) (lines_right (front ++ t ∷ []) back (e ∙ sym (append_assoc front (t ∷ []) back))),
        )

    pub all_right : AreRightAfter scope rows [] (map (line_of atoms lines) lines)
    all_right = lines_right [] lines refl
