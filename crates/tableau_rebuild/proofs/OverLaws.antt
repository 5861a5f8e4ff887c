-- The lines that stand for clauses are over the numbered atoms, and the clauses' lines come from instances.
use Rattle.std.proofs.Common.{◌≡◌, ◌<◌, ◌&&◌, nat_lt, if◌then◌else◌, ℕ, suc, Bool, true, false, List, [], ◌∷◌, ◌++◌, map, length, Some, None, refl, sym, ◌∙◌, subst, inl, inr}
use Rattle.std.specs.List.{All}
use Rattle.std.proofs.lemmas.Bool.{false≢true, and_parts, or_cases, or_left, or_right}
use Rattle.std.proofs.lemmas.List.Elements.{All-nil, All-cons, All-head, All-tail, All-contains}
use Rattle.sat_base.specs.declared.literal.Var.{Var}
use Rattle.sat_base.specs.declared.literal.SatLit.{SatLit}
use Rattle.sat_base.specs.Literal.{positive, negative, negated, same_literal, holds, IsOver}
use Rattle.sat_base.proofs.LiteralLaws.{same_literal-refl, same_literal-true, holds-append}
use Rattle.sat_log.specs.Resolution.{without_literal, each_once, resolvent, resolved}
use Rattle.sat_log.proofs.ResolutionLaws.{holds-without_repeats}
use Rattle.sat_log.specs.declared.log.LogEntry.{LogEntry}
use Rattle.term_bank.specs.Content.{Content}
use Rattle.witness_names.specs.Rows.{rows_of}
use Rattle.tableau_clauses.specs.Table.{Table, EachComes}
use Rattle.rebuild_spec.specs.Input.{Instance}
use Rattle.rebuild_spec.specs.Trees.{Place, at_clause, at_step, at_result, Tree, leaf, cut, branch}
use Rattle.rebuild_spec.specs.Stands.{Standing, start, line, literals_in_order, joined_standing, standing_after_step, Stands, of_start, of_instance, of_first, of_next, of_result}
use Rattle.rebuild_spec.proofs.WalkLaws.{IsEach}
use Rattle.rebuild_spec.proofs.BackedLaws.{held-without}
use Rattle.rebuild_spec.proofs.LiteralLaws.{negated-held}
use Rattle.rebuild_spec.proofs.PickedLaws.{Picks, clause_picked}
use Rattle.tableau_rebuild.specs.Tables.{the_input}
use Rattle.tableau_rebuild.specs.Conditions.{AreUnitsNumbered, IsInstanceOver}
use Rattle.tableau_rebuild.specs.Internal.LineParts.{IsClauseFrom}
use Rattle.tableau_rebuild.specs.Internal.Written.{IsFoundedLine}
use Rattle.tableau_rebuild.proofs.SourceLaws.{IsInstanceClause, instance_clause, unit_over}

-- LISTS OF LITERALS

-- the variables of a list that is over so many are below that number
pub over_held : (n : ℕ) (ls : List SatLit) (m : SatLit) → IsOver n ls → holds ls m ≡ true → m.var.0 < n
over_held n [] m over h = absurd (false≢true h)
over_held n (l ∷ ls) m over h =
    let P : SatLit → Type 0 = λ k. k.var.0 < n in
    elim (or_cases (same_literal m l) (holds ls m) h) [
      | inl e ↦ subst P (sym (same_literal-true m l e)) (All-head P l ls over)
      | inr later ↦ over_held n ls m (All-tail P l ls over) later
    ]

pub held_over : (n : ℕ) (ls : List SatLit) → ((m : SatLit) → holds ls m ≡ true → m.var.0 < n) → IsOver n ls
held_over n [] h = All-nil (λ (k : SatLit). k.var.0 < n)
held_over n (l ∷ ls) h =
    All-cons (λ (k : SatLit). k.var.0 < n) l ls (h l (or_left _ _ (same_literal-refl l)))
    (held_over n ls (λ m held. h m (or_right (same_literal m l) _ held)))

negated_over : (n : ℕ) (ls : List SatLit) → IsOver n ls → IsOver n (map negated ls)
negated_over n ls over = held_over n (map negated ls) (λ m h. over_held n ls (negated m) over (negated-held ls m h))

repeats_over : (n : ℕ) (ks ls : List SatLit) → IsOver n ks → IsOver n ls → IsOver n (each_once (ks ++ ls))
repeats_over n ks ls first second =
    held_over n (each_once (ks ++ ls)) (λ m h.
    elim (or_cases (holds ks m) (holds ls m) (sym (holds-append ks ls m) ∙ sym (holds-without_repeats (ks ++ ls) m) ∙ h)) [
      | inl e ↦ over_held n ks m first e
      | inr e ↦ over_held n ls m second e
    ])

without_over : (n : ℕ) (l : SatLit) (ls : List SatLit) → IsOver n ls → IsOver n (without_literal l ls)
without_over n l ls over = held_over n (without_literal l ls) (λ m h. over_held n ls m over (held-without l ls m h).0)

resolvent_over : (n : ℕ) (v : Var) (a b : List SatLit) → IsOver n a → IsOver n b → IsOver n (resolvent v a b)
resolvent_over n v a b first second = repeats_over n (without_literal (positive v) a) (without_literal (negative v) b) (without_over n (positive v) a first) (without_over n (negative v) b second)

picked_over : (n : ℕ) (picked : List SatLit) (alternatives : List (List SatLit)) → Picks picked alternatives → All (IsOver n) alternatives → IsOver n picked
picked_over n [] alternatives picks over = All-nil (λ (k : SatLit). k.var.0 < n)
picked_over n (l ∷ picked) [] picks over = absurd picks
picked_over n (l ∷ picked) (a ∷ as') picks over =
    let P : SatLit → Type 0 = λ k. k.var.0 < n in
    All-cons P l picked (All-contains P a l (All-head (IsOver n) a as' over) picks.0) (picked_over n picked as' picks.1 (All-tail (IsOver n) a as' over))

pair_over : (n : ℕ) (l m : SatLit) → l.var.0 < n → m.var.0 < n → IsOver n (l ∷ m ∷ [])
pair_over n l m first second =
    let P : SatLit → Type 0 = λ k. k.var.0 < n in
    All-cons P l (m ∷ []) first (All-cons P m [] second (All-nil P))

-- LINES

module _ (b : Content) (atoms : List ℕ) (t : Table) where
  abbrev Is : Tree → Type 0
  Is = IsFoundedLine b atoms t

  abbrev pub AreFounded : Standing → Type 0
  AreFounded (start m l) = l.var.0 < length atoms
  AreFounded (line x) = IsEach (IsFoundedLine b atoms t) x

  pub branch_over : (x : Tree) → IsFoundedLine b atoms t x → IsOver (length atoms) (branch x)
  branch_over (leaf (at_clause n) ls rule children) h = h.0
  branch_over (leaf (at_step n k) ls rule children) h = h
  branch_over (leaf (at_result n) ls rule children) h = h
  branch_over (cut p v x y) h = h.1

  root : (x : Tree) → IsEach (IsFoundedLine b atoms t) x → IsFoundedLine b atoms t x
  root (leaf p ls rule children) h = h
  root (cut p v x y) h = h.0

  whole_over : (x : Tree) → IsEach (IsFoundedLine b atoms t) x → IsOver (length atoms) (branch x)
  whole_over x h = branch_over x (root x h)

  order_over : (m : ℕ) (l : SatLit) (n : ℕ) (k : SatLit) → l.var.0 < length atoms → k.var.0 < length atoms → IsOver (length atoms) (literals_in_order m l n k)
  order_over m l n k first second = go (nat_lt m n)
    where
      go : (x : Bool) → IsOver (length atoms) (if x then l ∷ k ∷ [] else k ∷ l ∷ [])
      go true = pair_over (length atoms) l k first second
      go false = pair_over (length atoms) k l second first

  joined_founded : (n k : ℕ) (v : Var) (s u : Standing) → v.0 < length atoms → AreFounded s → AreFounded u → AreFounded (joined_standing (at_step n k) v s u)
  joined_founded n k v (start m l) (start j i) number first second = order_over m l j i first second
  joined_founded n k v (start m l) (line x) number first second = second
  joined_founded n k v (line x) (start j i) number first second = first
  joined_founded n k v (line x) (line y) number first second =
      ((number, resolvent_over (length atoms) v (branch y) (branch x) (whole_over y second) (whole_over x first)), second, first)

  -- what a step gives, and its clause
  stepped_founded : (n k : ℕ) (v : Var) (a c d : List SatLit) (s u : Standing) → resolved v a c ≡ Some d → IsOver (length atoms) a → IsOver (length atoms) c → AreFounded s → AreFounded u → IsOver (length atoms) d × AreFounded (standing_after_step (at_step n k) v a s c u)
  stepped_founded n k v a c d s u e one two first second = go (holds a (positive v) && holds c (negative v)) (holds a (negative v) && holds c (positive v)) refl refl e
    where
      go : (x y : Bool) → (holds a (positive v) && holds c (negative v)) ≡ x → (holds a (negative v) && holds c (positive v)) ≡ y → (if x then Some (resolvent v a c) else (if y then Some (resolvent v c a) else None)) ≡ Some d
          → IsOver (length atoms) d × AreFounded (if x then joined_standing (at_step n k) v s u else joined_standing (at_step n k) v u s)
      go true y is isnt e =
          let parts = and_parts (holds a (positive v)) (holds c (negative v)) is in
          let same : resolvent v a c ≡ d = cc in
          (subst (IsOver (length atoms)) same (resolvent_over (length atoms) v a c one two), joined_founded n k v s u (over_held (length atoms) a (positive v) one parts.0) first second)
      go false true is isnt e =
          let parts = and_parts (holds a (negative v)) (holds c (positive v)) isnt in
          let same : resolvent v c a ≡ d = cc in
          (subst (IsOver (length atoms)) same (resolvent_over (length atoms) v c a two one), joined_founded n k v u s (over_held (length atoms) a (negative v) one parts.0) second first)
      go false false is isnt e = cc

  module _ (log : List LogEntry) (witnesses : List ℕ) (comes : EachComes t) (instances : All (IsInstanceOver b atoms (rows_of b.terms witnesses)) t.1) (units : AreUnitsNumbered atoms t) where
    instance_over : (n : ℕ) (c : List SatLit) (i : Instance) → IsInstanceClause b atoms t witnesses comes instances n c i → IsOver (length atoms) c
    instance_over n c i h =
        let by = clause_picked h.kept.principals h.kept.alternatives c h.is_one in
        subst (IsOver (length atoms)) (sym by.is)
        (repeats_over (length atoms) (map negated h.kept.principals) by.picked (negated_over (length atoms) h.kept.principals h.over.principals) (picked_over (length atoms) by.picked h.kept.alternatives by.picks h.over.alternatives))

    clause_from : (n : ℕ) (c : List SatLit) (i : Instance) (h : IsInstanceClause b atoms t witnesses comes instances n c i) → IsClauseFrom b atoms t n h.kept
    clause_from n c i h = record {
      clause = c;
      number = h.number;
      step = h.step;
      instance = h.there;
      good = h.over.takes;
    }

    -- what stands for a clause is founded, and the clause is over the numbered atoms
    pub stands_founded : (p : Place) (c : List SatLit) (s : Standing) → Stands (the_input b atoms t log witnesses) p c s → IsOver (length atoms) c × AreFounded s
    stands_founded p c s (of_start n l e) =
        let over = unit_over b atoms t witnesses comes instances units n l e in
        (over, All-head (λ (k : SatLit). k.var.0 < length atoms) l [] over)
    stands_founded p c s (of_instance n d i e) =
        let h = instance_clause b atoms t witnesses comes instances n d i e in
        let over = instance_over n d i h in
        (over, (negated_over (length atoms) d over, (h.kept, clause_from n d i h)))
    stands_founded p c s (of_first n entry d x e h) = stands_founded _ d x h
    stands_founded p c s (of_next n k entry step a f d x y e g h j r) =
        let first = stands_founded _ a x h in
        let second = stands_founded _ f y j in
        stepped_founded n (suc k) step.var a f d x y r first.0 second.0 first.1 second.1
    stands_founded p c s (of_result n entry d x e h) = stands_founded _ d x h
