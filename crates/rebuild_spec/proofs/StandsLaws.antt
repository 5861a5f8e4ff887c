-- At a place there is one clause, and one thing stands for it.
use Rattle.std.proofs.Common.{◌≡◌, ◌&&◌, if◌then◌else◌, suc, nat_eq, Bool, true, false, List, [], ◌∷◌, length, Some, sym, ap, ap₂, ◌∙◌, subst}
use Rattle.std.proofs.lemmas.Bool.{false≢true, and_parts, eqb-true}
use Rattle.stt_core.specs.Typing.{Scope}
use Rattle.tableau_calculus.specs.Literals.{Literal}
use Rattle.tableau_calculus.specs.Witnesses.{with_rows}
use Rattle.sat_base.specs.declared.literal.Var.{Var}
use Rattle.sat_base.specs.declared.literal.SatLit.{SatLit}
use Rattle.sat_base.specs.Literal.{positive, negative, holds}
use Rattle.sat_log.specs.declared.chain.ChainStep.{ChainStep}
use Rattle.sat_log.specs.Resolution.{resolved}
use Rattle.rebuild_spec.specs.Input.{Input}
use Rattle.rebuild_spec.specs.Given.{IsGiven}
use Rattle.rebuild_spec.specs.Trees.{Place, at_clause, at_step, at_result, same_place, Tree, made_at, same_line}
use Rattle.rebuild_spec.specs.Stands.{Standing, start, line, instance_line, joined_standing, standing_after_step, premise_place, Stands, of_start, of_instance, of_first, of_next, of_result}
use Rattle.rebuild_spec.proofs.SoundLaws.{IsRightThere, stands_right}
use Rattle.rebuild_spec.proofs.WalkLaws.{IsEach}
use Rattle.rebuild_spec.proofs.FlatLaws.{IsRightAlone}

pub same_place-true : (p q : Place) → same_place p q ≡ true → p ≡ q
same_place-true (at_clause m) (at_clause n) h = ap at_clause (eqb-true m n h)
same_place-true (at_clause m) (at_step n k) h = absurd (false≢true h)
same_place-true (at_clause m) (at_result n) h = absurd (false≢true h)
same_place-true (at_step m j) (at_clause n) h = absurd (false≢true h)
same_place-true (at_step m j) (at_step n k) h =
    let parts = and_parts (nat_eq m n) (nat_eq j k) h in
    ap₂ at_step (eqb-true m n parts.0) (eqb-true j k parts.1)
same_place-true (at_step m j) (at_result n) h = absurd (false≢true h)
same_place-true (at_result m) (at_clause n) h = absurd (false≢true h)
same_place-true (at_result m) (at_step n k) h = absurd (false≢true h)
same_place-true (at_result m) (at_result n) h = ap at_result (eqb-true m n h)

same_stepped : (p : Place) (v w : Var) (a b c d : List SatLit) (s t x y : Standing) → v ≡ w → a ≡ b → c ≡ d → s ≡ t → x ≡ y → standing_after_step p v a s c x ≡ standing_after_step p w b t d y
same_stepped p v w a b c d s t x y e f g h i =
    ap (λ k. standing_after_step p k a s c x) e
    ∙ ap (λ k. standing_after_step p w k s c x) f
    ∙ ap (λ k. standing_after_step p w b k c x) h
    ∙ ap (λ k. standing_after_step p w b t k x) g
    ∙ ap (λ k. standing_after_step p w b t d k) i

module _ (input : Input) where
  pub one_stands : (p : Place) (c d : List SatLit) (s t : Standing) → Stands input p c s → Stands input p d t → (c ≡ d) × (s ≡ t)
  one_stands p c d s t (of_start n l e) (of_start m k f) = let same : l ≡ k = cc in (ap (λ x. x ∷ []) same, ap (start n) same)
  one_stands p c d s t (of_start n l e) (of_instance m k i f) = cc
  one_stands p c d s t (of_instance n k i f) (of_start m l e) = cc
  one_stands p c d s t (of_instance n k i f) (of_instance m l j g) =
      let same : k ≡ l = cc in
      let also : i ≡ j = cc in
      (same, ap₂ (λ x y. line (instance_line n x y)) same also)
  one_stands p c d s t (of_first n entry k x e h) (of_first m other l y f j) =
      let same : entry ≡ other = cc in
      one_stands (premise_place entry.chain.first) c d s t h (subst (λ z. Stands input (premise_place z.chain.first) d t) (sym same) j)
  one_stands p c d s t (of_next n k entry step a b r x y e f h j z) (of_next m q other also a' b' r' x' y' e' f' h' j' z') =
      let same : entry ≡ other = cc in
      let step_same : step ≡ also = cc in
      let first = one_stands (at_step n k) a a' x x' h h' in
      let second = one_stands (premise_place step.premise) b b' y y' j (subst (λ w. Stands input (premise_place w.premise) b' y') (sym step_same) j') in
      let var_same : step.var ≡ also.var = ap (λ (w : ChainStep). w.var) step_same in
      let clause : Some c ≡ Some d = sym z ∙ ap (λ w. resolved w a b) var_same ∙ ap (λ w. resolved also.var w b) first.0 ∙ ap (resolved also.var a') second.0 ∙ z' in
      let one : c ≡ d = cc in
      (one, same_stepped (at_step n (suc k)) step.var also.var a a' b b' x x' y y' var_same first.0 second.0 first.1 second.1)
  one_stands p c d s t (of_result n entry k x e h) (of_result m other l y f j) =
      let same : entry ≡ other = cc in
      one_stands (at_step n (length entry.chain.steps)) c d s t h (subst (λ z. Stands input (at_step n (length z.chain.steps)) d t) (sym same) j)

module _ (scope : Scope) (begin : List Literal) (input : Input) (given : IsGiven scope begin input) where
  -- the line stands at its place, and is right where it rests on no other
  pub record IsMade (t : Tree) : Type 0 where
    pub clause : List SatLit
    pub stands : Stands input (made_at t) clause (line t)
    pub alone : IsRightAlone (with_rows scope input.rows) input.rows input.atoms t

  pub one_made : (t u : Tree) → IsMade t → IsMade u → same_line t u ≡ true → t ≡ u
  one_made t u h k e =
      let at : made_at t ≡ made_at u = same_place-true (made_at t) (made_at u) e in
      let both = one_stands input (made_at t) h.clause k.clause (line t) (line u) h.stands (subst (λ p. Stands input p k.clause (line u)) (sym at) k.stands) in
      let lines : line t ≡ line u = both.1 in
      cc

  abbrev AreMade : Standing → Type 0
  AreMade (start n l) = Unit {0}
  AreMade (line t) = IsEach IsMade t

  joined_made : (p : Place) (v : Var) (c : List SatLit) (s t : Standing) → Stands input p c (joined_standing p v s t) → IsRightThere scope begin input given c (joined_standing p v s t) → AreMade s → AreMade t → AreMade (joined_standing p v s t)
  joined_made p v c (start m l) (start n k) whole right first second = record { clause = c; stands = whole; alone = right.1 }
  joined_made p v c (start m l) (line t) whole right first second = second
  joined_made p v c (line t) (start n k) whole right first second = first
  joined_made p v c (line t) (line u) whole right first second = (record { clause = c; stands = whole; alone = tt }, second, first)

  stepped_made : (p : Place) (v : Var) (a b c : List SatLit) (s t : Standing) → Stands input p c (standing_after_step p v a s b t) → AreMade s → AreMade t → AreMade (standing_after_step p v a s b t)
  stepped_made p v a b c s t whole first second = go (holds a (positive v) && holds b (negative v)) whole (stands_right scope begin input given p c (standing_after_step p v a s b t) whole)
    where
      go : (x : Bool) → Stands input p c (if x then joined_standing p v s t else joined_standing p v t s) → IsRightThere scope begin input given c (if x then joined_standing p v s t else joined_standing p v t s) → AreMade (if x then joined_standing p v s t else joined_standing p v t s)
      go true whole right = joined_made p v c s t whole right first second
      go false whole right = joined_made p v c t s whole right second first

  are_made : (p : Place) (c : List SatLit) (s : Standing) → Stands input p c s → AreMade s
  are_made p c s (of_start n l e) = tt
  are_made p c s (of_instance n d i e) =
      record { clause = d; stands = of_instance n d i e; alone = (stands_right scope begin input given (at_clause n) d (line (instance_line n d i)) (of_instance n d i e)).1 }
  are_made p c s (of_first n entry d t e h) = are_made (premise_place entry.chain.first) d t h
  are_made p c s (of_next n k entry step a b d x y e f h j r) =
      stepped_made (at_step n (suc k)) step.var a b d x y (of_next n k entry step a b d x y e f h j r) (are_made (at_step n k) a x h) (are_made (premise_place step.premise) b y j)
  are_made p c s (of_result n entry d t e h) = are_made (at_step n (length entry.chain.steps)) d t h

  -- each line of the tree that stands for a clause is made
  pub lines_made : (p : Place) (c : List SatLit) (t : Tree) → Stands input p c (line t) → IsEach IsMade t
  lines_made p c t h = are_made p c (line t) h
