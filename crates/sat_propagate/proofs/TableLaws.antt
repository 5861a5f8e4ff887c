-- The table of a trail.
use Rattle.std.proofs.Common.{◌≡◌, ◌≢◌, ◌⊎◌, inl, inr, ◌<◌, ◌≤◌, ◌+◌, ◌↔◌, ℕ, zero, suc, ◌&&◌, ◌||◌, not, Bool, true, false, List, [], ◌∷◌, ◌++◌, Option, Some, IsTrue, map, length, take, drop, get_or, set, refl, sym, ap, ◌∙◌, subst, if◌then◌else◌, ◌*◌, arith, length-append, length-set, get_or-set_other, get_or-set_same}
use Rattle.std.specs.Bool.{beq}
use Rattle.std.specs.List.{All, slice_get}
use Rattle.std.specs.Option.{option_map}
use Rattle.std.proofs.lemmas.Bool.{false≢true, cases_Bool, or_cases, or_parts, or_left, or_right, or_from, and_parts, and_from, false_from_ne_true, true_from_ne_false, cases_order, not-true, not_from_false}
use Rattle.std.proofs.lemmas.List.{length-map, get_or_past, get_or-take, length-take-le}
use Rattle.std.proofs.lemmas.List.Elements.{All-push, All-weaker}
use Rattle.std.proofs.lemmas.List.Folds.{list_any-append}
use Rattle.std.proofs.lemmas.Option.{slice_get_within, slice_get-map, slice_get-get_or, same_Some}
use Rattle.std.proofs.Math.ListN.{get_or-map}
use Rattle.sat_base.specs.declared.literal.Var.{Var}
use Rattle.sat_base.specs.declared.literal.SatLit.{SatLit}
use Rattle.sat_base.specs.Literal.{literal, negated, same_var, same_literal, holds, mentions_variable, HoldsNoVariableTwice, IsOver}
use Rattle.sat_laws.specs.Internal.Packing.{packed, unpacked}
use Rattle.sat_laws.proofs.PackingLaws.{unpacked-packed}
use Rattle.sat_base.proofs.LiteralLaws.{same_literal-refl, same_literal-true, same_literal-comm, same_var-refl, same_var-true, holds-append, mentions-held, All-held, All-from_held}
use Rattle.sat_laws.proofs.TrailLaws.{held_at}
use Rattle.sat_propagate.specs.Internal.Trail.{TrailState, literals, open_cell, cell_of, is_true_in, is_true_by, SetsValue, AreDenials, AreValues, IsTabled, IsTrail, IsTrailInside}
use Rattle.sat_propagate.specs.declared.trail.Step.{Step}
use Rattle.sat_propagate.specs.declared.trail.Cell.{Cell}
use Rattle.sat_propagate.proofs.ListLaws.{get-take, map-set_same, unmentioned}
use Rattle.sat_propagate.proofs.PlaceLaws.{literal_at, place_of, once_place, not_after}
use Rattle.sat_laws.proofs.AnalysisLaws.{place_below}
use Rattle.sat_laws.proofs.WatchLaws.{held-take}
use Rattle.sat_propagate.proofs.PropagatorLaws.{step_cases, literals-push, trail_short, if_true, if_false}

var_apart : (v w : Var) → same_var v w ≡ false → v ≢ w
var_apart v w e same = false≢true (sym e ∙ subst (λ (x : Var). same_var v x ≡ true) same (same_var-refl v))

apart_comm : (v w : Var) → same_var v w ≡ false → same_var w v ≡ false
apart_comm v w e = false_from_ne_true (same_var w v) (λ t. var_apart v w e (sym (same_var-true w v t)))

beq-comm : (a b : Bool) → beq a b ≡ beq b a
beq-comm true true = refl
beq-comm true false = refl
beq-comm false true = refl
beq-comm false false = refl

beq_same : (a b : Bool) → beq a b ≡ true → a ≡ b
beq_same true true e = refl
beq_same true false e = absurd (false≢true e)
beq_same false true e = absurd (false≢true e)
beq_same false false e = refl

-- the phase of a variable that has a value is this value
pub phase_held : (cells : List Cell) (steps : List Step) → IsTabled cells steps → (l : SatLit) → holds (literals steps) l ≡ true
    → get_or (map (λ (cell : Cell). cell.positive) cells) l.var.0 false ≡ l.positive
phase_held cells steps tabled l h =
    let parts = and_parts (cell_of cells l.var).assigned (beq (cell_of cells l.var).positive l.positive) (tabled.values l ∙ h) in
    get_or-map (λ (cell : Cell). cell.positive) cells l.var.0 open_cell ∙ beq_same (cell_of cells l.var).positive l.positive parts.1

pub once_push : (some : List SatLit) (l : SatLit) → HoldsNoVariableTwice some → mentions_variable some l.var ≡ false → HoldsNoVariableTwice (some ++ l ∷ [])
once_push [] l once absent = (refl, tt)
once_push (m ∷ some) l once absent =
    let parts = or_parts (same_var l.var m.var) (mentions_variable some l.var) absent in (
      list_any-append (λ (k : SatLit). same_var m.var k.var) some (l ∷ []) ∙ or_from _ _ once.0 (or_from _ _ (apart_comm l.var m.var parts.0) refl),
      once_push some l once.1 parts.1,
    )

-- a cell that was written, and the others
cell_written : (cells : List Cell) (v : Var) (cell : Cell) → v.0 < length cells → cell_of (set cells v.0 cell) v ≡ cell
cell_written cells v cell h = get_or-set_same cells v.0 cell open_cell h

cell_other : (cells : List Cell) (v w : Var) (cell : Cell) → same_var w v ≡ false → cell_of (set cells v.0 cell) w ≡ cell_of cells w
cell_other cells v w cell apart =
    get_or-set_other cells v.0 w.0 cell open_cell (λ e. var_apart w v apart (ap (λ (n : ℕ). record { 0 = n }) e))

unheld_by_var : (some : List SatLit) (m : SatLit) → mentions_variable some m.var ≡ false → holds some m ≡ false
unheld_by_var some m absent = false_from_ne_true (holds some m) (λ t. false≢true (sym absent ∙ mentions-held some m t))

same_literal_apart : (m l : SatLit) → same_var m.var l.var ≡ false → same_literal m l ≡ false
same_literal_apart m l apart = ap (λ (b : Bool). b && beq m.positive l.positive) apart

same_literal_here : (m l : SatLit) → same_var m.var l.var ≡ true → same_literal m l ≡ beq m.positive l.positive
same_literal_here m l same = ap (λ (b : Bool). b && beq m.positive l.positive) same

or_false : (b : Bool) → (b || false) ≡ b
or_false true = refl
or_false false = refl

-- a literal becomes true
pub tabled_assigned : (cells : List Cell) (steps : List Step) (l : SatLit) (reason : Option ℕ) → IsTabled cells steps → l.var.0 < length cells → mentions_variable (literals steps) l.var ≡ false
    → IsTabled (set cells l.var.0 (record { assigned = true; positive = l.positive; place = length steps })) (steps ++ record { literal = l; reason = reason } ∷ [])
tabled_assigned cells steps l reason tabled inside absent = record {
  values = λ m. elim (cases_Bool (same_var m.var l.var)) [
    | inl same ↦
        let var_is : m.var ≡ l.var = same_var-true m.var l.var same in
        let cell_is : cell_of after m.var ≡ new = ap (cell_of after) var_is ∙ cell_written cells l.var new inside in
        ap (λ (cell : Cell). cell.assigned && beq cell.positive m.positive) cell_is
        ∙ beq-comm l.positive m.positive
        ∙ sym (same_literal_here m l same)
        ∙ sym (or_false (same_literal m l))
        ∙ ap (λ (b : Bool). b || (same_literal m l || false)) (sym (unheld_by_var (literals steps) m (ap (mentions_variable (literals steps)) var_is ∙ absent)))
        ∙ sym (holds_push m)
    | inr apart ↦
        ap (λ (cell : Cell). cell.assigned && beq cell.positive m.positive) (cell_other cells l.var m.var new apart)
        ∙ tabled.values m
        ∙ sym (or_false (holds (literals steps) m))
        ∙ ap (λ (b : Bool). holds (literals steps) m || (b || false)) (sym (same_literal_apart m l apart))
        ∙ sym (holds_push m)
  ];
  places = λ i step at. elim (step_cases steps last i step at) [
    | inl before ↦
        let held = held_at (literals steps) i step.literal (slice_get-map (λ (s : Step). s.literal) steps i ∙ ap (option_map (λ (s : Step). s.literal)) before.1) in
        let apart : same_var step.literal.var l.var ≡ false = false_from_ne_true (same_var step.literal.var l.var)
        (λ t. false≢true (sym absent ∙ ap (mentions_variable (literals steps)) (sym (same_var-true step.literal.var l.var t)) ∙ mentions-held (literals steps) step.literal held)) in
        ap (λ (cell : Cell). cell.place) (cell_other cells l.var step.literal.var new apart) ∙ tabled.places i step before.1
    | inr end ↦
        ap (λ (s : Step). (cell_of after s.literal.var).place) (sym end.1)
        ∙ ap (λ (cell : Cell). cell.place) (cell_written cells l.var new inside)
        ∙ sym end.0
  ];
}
  where
    last : Step
    last = record { literal = l; reason = reason }

    new : Cell
    new = record { assigned = true; positive = l.positive; place = length steps }

    after : List Cell
    after = set cells l.var.0 (record { assigned = true; positive = l.positive; place = length steps })

    holds_push : (m : SatLit) → holds (literals (steps ++ record { literal = l; reason = reason } ∷ [])) m ≡ (holds (literals steps) m || (same_literal m l || false))
    holds_push m = ap (λ (some : List SatLit). holds some m) (literals-push steps (record { literal = l; reason = reason })) ∙ holds-append (literals steps) (l ∷ []) m

pub inside_assigned : (cells : List Cell) (steps : List Step) (starts : List ℕ) (l : SatLit) (reason : Option ℕ)
    → IsTrailInside cells (record { steps = steps; starts = starts; phases = map (λ (cell : Cell). cell.positive) cells }) → l.var.0 < length cells → mentions_variable (literals steps) l.var ≡ false
    → IsTrailInside (set cells l.var.0 (record { assigned = true; positive = l.positive; place = length steps }))
    (record { steps = steps ++ record { literal = l; reason = reason } ∷ []; starts = starts; phases = map (λ (cell : Cell). cell.positive) (set cells l.var.0 (record { assigned = true; positive = l.positive; place = length steps })) })
inside_assigned cells steps starts l reason inside made absent = record {
  tabled = tabled_assigned cells steps l reason inside.tabled made absent;
  right = record {
    once = subst HoldsNoVariableTwice (sym (literals-push steps (record { literal = l; reason = reason }))) (once_push (literals steps) l inside.right.once absent);
    over = subst (λ (n : ℕ). IsOver n (literals (steps ++ record { literal = l; reason = reason } ∷ []))) (sym same_count)
        (subst (IsOver (length cells)) (sym (literals-push steps (record { literal = l; reason = reason })))
        (All-push (λ (m : SatLit). m.var.0 < length cells) (literals steps) l (subst (λ (n : ℕ). IsOver n (literals steps)) (length-map cells (λ (cell : Cell). cell.positive)) inside.right.over) made));
    within = λ k d h. let before = inside.right.within k d h in omega (arith, length-append steps (record { literal = l; reason = reason } ∷ []));
    ascending = inside.right.ascending;
  };
}
  where
    same_count : length (map (λ (cell : Cell). cell.positive) (set cells l.var.0 (record { assigned = true; positive = l.positive; place = length steps }))) ≡ length cells
    same_count = length-map (set cells l.var.0 (record { assigned = true; positive = l.positive; place = length steps })) (λ (cell : Cell). cell.positive)
        ∙ length-set cells l.var.0 (record { assigned = true; positive = l.positive; place = length steps })

-- whether a variable is open
pub open_iff : (cells : List Cell) (steps : List Step) (v : Var) → IsTabled cells steps → (IsTrue (not (cell_of cells v).assigned)) ↔ (mentions_variable (literals steps) v ≡ false)
open_iff cells steps v tabled = (
  λ open_now.
      let closed : (cell_of cells v).assigned ≡ false = not-true _ open_now in
      let untrue : (sign : Bool) → is_true_in cells (literal v sign) ≡ false = λ sign. ap (λ (b : Bool). b && beq (cell_of cells v).positive sign) closed in
      unmentioned (literals steps) (literal v true) (sym (tabled.values (literal v true)) ∙ untrue true) (sym (tabled.values (literal v false)) ∙ untrue false),
  λ absent. not_from_false _ (false_from_ne_true (cell_of cells v).assigned (λ assigned.
      let l : SatLit = literal v (cell_of cells v).positive in
      let now : is_true_in cells l ≡ true = and_from _ _ assigned (beq_same (cell_of cells v).positive) in
      false≢true (sym absent ∙ mentions-held (literals steps) l (sym (tabled.values l) ∙ now)))),
)
  where
    beq_same : (b : Bool) → beq b b ≡ true
    beq_same true = refl
    beq_same false = refl

-- the place of a variable that has a value is that of a literal on it
pub found_there : (cells : List Cell) (steps : List Step) (v : Var) → IsTabled cells steps → (cell_of cells v).assigned ≡ true
    → (step : Step) × (slice_get steps (cell_of cells v).place ≡ Some step) × (step.literal.var ≡ v)
found_there cells steps v tabled assigned =
    let there : mentions_variable (literals steps) v ≡ true =
    true_from_ne_false (mentions_variable (literals steps) v) (λ absent. false≢true (sym (ap not assigned) ∙ (open_iff cells steps v tabled).1 absent)) in
    let some = place_of steps v there in
    let place : (cell_of cells v).place ≡ some.0 = ap (λ (w : Var). (cell_of cells w).place) (sym some.3) ∙ tabled.places some.0 some.1 some.2 in
    (some.1, ap (slice_get steps) place ∙ some.2, some.3)

-- a variable without a value is not mentioned
pub found_nowhere : (cells : List Cell) (steps : List Step) (v : Var) → IsTabled cells steps → (cell_of cells v).assigned ≡ false → mentions_variable (literals steps) v ≡ false
found_nowhere cells steps v tabled unassigned = (open_iff cells steps v tabled).0 (not_from_false _ unassigned)

-- the same with the place and the steps as the code names them
pub inside_read : (cells : List Cell) (steps after : List Step) (starts : List ℕ) (l : SatLit) (reason : Option ℕ) (place : ℕ) → place ≡ length steps → after ≡ steps ++ record { literal = l; reason = reason } ∷ []
    → IsTrailInside (set cells l.var.0 (record { assigned = true; positive = l.positive; place = length steps }))
    (record { steps = steps ++ record { literal = l; reason = reason } ∷ []; starts = starts; phases = map (λ (cell : Cell). cell.positive) (set cells l.var.0 (record { assigned = true; positive = l.positive; place = length steps })) })
    → IsTrailInside (set cells l.var.0 (record { assigned = true; positive = l.positive; place = place }))
    (record { steps = after; starts = starts; phases = map (λ (cell : Cell). cell.positive) (set cells l.var.0 (record { assigned = true; positive = l.positive; place = place })) })
inside_read cells steps after starts l reason place place_is after_is h =
    subst (λ (list : List Step). IsTrailInside (set cells l.var.0 (record { assigned = true; positive = l.positive; place = place }))
    (record { steps = list; starts = starts; phases = map (λ (cell : Cell). cell.positive) (set cells l.var.0 (record { assigned = true; positive = l.positive; place = place })) })) (sym after_is)
    (subst (λ (n : ℕ). IsTrailInside (set cells l.var.0 (record { assigned = true; positive = l.positive; place = n }))
    (record { steps = steps ++ record { literal = l; reason = reason } ∷ []; starts = starts; phases = map (λ (cell : Cell). cell.positive) (set cells l.var.0 (record { assigned = true; positive = l.positive; place = n })) })) (sym place_is) h)

-- reading a list with one more element
pub get_or_seam : {X : Type 0} (xs : List X) (y d : X) → get_or (xs ++ y ∷ []) (length xs) d ≡ y
get_or_seam [] y d = refl
get_or_seam (x ∷ xs) y d = get_or_seam xs y d

pub get_or-append_left : {X : Type 0} (xs ys : List X) (i : ℕ) (d : X) → i < length xs → get_or (xs ++ ys) i d ≡ get_or xs i d
get_or-append_left [] ys i d h = absurd (omega arith)
get_or-append_left (x ∷ xs) ys zero d h = refl
get_or-append_left (x ∷ xs) ys (suc i) d h = get_or-append_left xs ys i d (omega arith)

-- two more defaults change no reading
pub get_or-defaults : {X : Type 0} (xs : List X) (i : ℕ) (d : X) → get_or (xs ++ d ∷ d ∷ []) i d ≡ get_or xs i d
get_or-defaults [] zero d = refl
get_or-defaults [] (suc zero) d = refl
get_or-defaults [] (suc (suc i)) d = refl
get_or-defaults (x ∷ xs) zero d = refl
get_or-defaults (x ∷ xs) (suc i) d = get_or-defaults xs i d

-- one more default changes no reading
pub get_or-default : {X : Type 0} (xs : List X) (i : ℕ) (d : X) → get_or (xs ++ d ∷ []) i d ≡ get_or xs i d
get_or-default [] zero d = refl
get_or-default [] (suc i) d = refl
get_or-default (x ∷ xs) zero d = refl
get_or-default (x ∷ xs) (suc i) d = get_or-default xs i d

-- a decision's place is a new start
pub inside_started : (cells : List Cell) (steps : List Step) (starts : List ℕ) (last : Step) (phases : List Bool) → All (λ s. s < length steps) starts
    → IsTrailInside cells (record { steps = steps ++ last ∷ []; starts = starts; phases = phases })
    → IsTrailInside cells (record { steps = steps ++ last ∷ []; starts = starts ++ length steps ∷ []; phases = phases })
inside_started cells steps starts last phases below inside = record {
  tabled = inside.tabled;
  right = record {
    once = inside.right.once;
    over = inside.right.over;
    within = All-push (λ (s : ℕ). s < length (steps ++ last ∷ [])) starts (length steps) inside.right.within (omega (arith, length-append steps (last ∷ [])));
    ascending = λ i j h within. ascending i j h within;
  };
}
  where
    ascending : (i j : ℕ) → i < j → j < length (starts ++ length steps ∷ []) → get_or (starts ++ length steps ∷ []) i 0 < get_or (starts ++ length steps ∷ []) j 0
    ascending i j h within =
        elim (cases_order j (length starts)) [
          | inl end ↦
              let i_in : i < length starts = omega arith in
              let first : get_or (starts ++ length steps ∷ []) i 0 ≡ get_or starts i 0 = get_or-append_left starts (length steps ∷ []) i 0 i_in in
              let second : get_or (starts ++ length steps ∷ []) j 0 ≡ length steps = ap (λ (k : ℕ). get_or (starts ++ length steps ∷ []) k 0) end ∙ get_or_seam starts (length steps) 0 in
              let less : get_or starts i 0 < length steps = below i 0 i_in in
              omega arith
          | inr other ↦ elim other [
            | inl before ↦
                let i_in : i < length starts = omega arith in
                let first : get_or (starts ++ length steps ∷ []) i 0 ≡ get_or starts i 0 = get_or-append_left starts (length steps ∷ []) i 0 i_in in
                let second : get_or (starts ++ length steps ∷ []) j 0 ≡ get_or starts j 0 = get_or-append_left starts (length steps ∷ []) j 0 before in
                let less : get_or starts i 0 < get_or starts j 0 = inside.right.ascending i j h before in
                omega arith
            | inr after ↦ let long : length (starts ++ length steps ∷ []) ≡ length starts + 1 = length-append starts (length steps ∷ []) in absurd (omega arith)
          ]
        ]

-- one more variable, which is open
pub inside_variable : (cells : List Cell) (steps : List Step) (starts : List ℕ) → IsTrailInside cells (record { steps = steps; starts = starts; phases = map (λ (cell : Cell). cell.positive) cells })
    → IsTrailInside (cells ++ open_cell ∷ []) (record { steps = steps; starts = starts; phases = map (λ (cell : Cell). cell.positive) (cells ++ open_cell ∷ []) })
inside_variable cells steps starts inside = record {
  tabled = record {
    values = λ l. ap (λ (cell : Cell). cell.assigned && beq cell.positive l.positive) (get_or-default cells l.var.0 open_cell) ∙ inside.tabled.values l;
    places = λ i step at. ap (λ (cell : Cell). cell.place) (get_or-default cells step.literal.var.0 open_cell) ∙ inside.tabled.places i step at;
  };
  right = record {
    once = inside.right.once;
    over = All-weaker (λ (l : SatLit). l.var.0 < length (map (λ (cell : Cell). cell.positive) cells)) (λ (l : SatLit). l.var.0 < length (map (λ (cell : Cell). cell.positive) (cells ++ open_cell ∷ [])))
        (λ l h. omega (arith, length-map cells (λ (cell : Cell). cell.positive), length-map (cells ++ open_cell ∷ []) (λ (cell : Cell). cell.positive), length-append cells (open_cell ∷ []))) (literals steps) inside.right.over;
    within = inside.right.within;
    ascending = inside.right.ascending;
  };
}

-- a variable is open where neither of its literals is true
pub open_by_literals : (some : List SatLit) (v : Var) (a b : Bool) → a ≡ holds some (literal v true) → b ≡ holds some (literal v false) → IsTrue (not a && not b) ↔ (mentions_variable some v ≡ false)
open_by_literals some v a b a_is b_is = (
  λ both.
      let parts = and_parts (not a) (not b) both in
      unmentioned some (literal v true) (sym a_is ∙ not-true a parts.0) (sym b_is ∙ not-true b parts.1),
  λ absent. and_from _ _ (not_from_false a (a_is ∙ unheld_by_var some (literal v true) absent)) (not_from_false b (b_is ∙ unheld_by_var some (literal v false) absent)),
)

-- a variable that is mentioned is made
pub made_if_mentioned : (cells : List Cell) (steps : List Step) (v : Var) → IsTabled cells steps → mentions_variable (literals steps) v ≡ true → v.0 < length cells
made_if_mentioned cells steps v tabled there =
    elim (cases_lt_le v.0 (length cells)) [
      | inl inside ↦ inside
      | inr past ↦
          let cell_is : cell_of cells v ≡ open_cell = get_or_past cells v.0 open_cell past in
          let untrue : (sign : Bool) → holds (literals steps) (literal v sign) ≡ false = λ sign. sym (tabled.values (literal v sign)) ∙ ap (λ (cell : Cell). cell.assigned && beq cell.positive sign) cell_is in
          absurd (false≢true (sym (unmentioned (literals steps) (literal v true) (untrue true) (untrue false)) ∙ there))
    ]
  where
    cases_lt_le : (a b : ℕ) → (a < b) ⊎ (b ≤ a)
    cases_lt_le a b = elim (cases_order a b) [
      | inl same ↦ inr (omega arith)
      | inr other ↦ elim other [ inl less ↦ inl less | inr more ↦ inr (omega arith) ]
    ]

pub open_then : (some : List SatLit) (v : Var) (a b : Bool) → a ≡ holds some (literal v true) → b ≡ holds some (literal v false) → not a ≡ true → IsTrue (not b) ↔ (mentions_variable some v ≡ false)
open_then some v a b a_is b_is first =
    let both = open_by_literals some v a b a_is b_is in
    (λ second. both.0 (and_from _ _ first second), λ absent. (and_parts (not a) (not b) (both.1 absent)).1)

pub open_else : (some : List SatLit) (v : Var) (a : Bool) → a ≡ holds some (literal v true) → not a ≡ false → IsTrue false ↔ (mentions_variable some v ≡ false)
open_else some v a a_is first = (
  λ never. absurd (false≢true never),
  λ absent. absurd (false≢true (sym first ∙ not_from_false a (a_is ∙ unheld_by_var some (literal v true) absent))),
)

-- a reading within the list does not hang on the default
pub get_or-any : {X : Type 0} (xs : List X) (i : ℕ) (d e : X) → i < length xs → get_or xs i d ≡ get_or xs i e
get_or-any [] i d e h = absurd (omega arith)
get_or-any (x ∷ xs) zero d e h = refl
get_or-any (x ∷ xs) (suc i) d e h = get_or-any xs i d e (omega arith)

-- the steps from a start up to i are taken out of a table, whose other fields are as they were
pub record IsUndone (before cells : List Cell) (steps : List Step) (start i : ℕ) : Type 0 where
  pub values : (l : SatLit) → is_true_in cells l ≡ (holds (take start (literals steps)) l || holds (drop i (literals steps)) l)
  pub places : (k : ℕ) (step : Step) → slice_get steps k ≡ Some step → (cell_of cells step.literal.var).place ≡ k
  pub phases : map (λ (cell : Cell). cell.positive) cells ≡ map (λ (cell : Cell). cell.positive) before

split_at : (some : List SatLit) (n : ℕ) → some ≡ take n some ++ drop n some
split_at some zero = refl
split_at [] (suc n) = refl
split_at (l ∷ some) (suc n) = ap (λ (rest : List SatLit). l ∷ rest) (split_at some n)

pub undone_start : (cells : List Cell) (steps : List Step) (start : ℕ) → IsTabled cells steps → IsUndone cells cells steps start start
undone_start cells steps start tabled = record {
  values = λ l. tabled.values l ∙ ap (λ (some : List SatLit). holds some l) (split_at (literals steps) start) ∙ holds-append (take start (literals steps)) (drop start (literals steps)) l;
  places = tabled.places;
  phases = refl;
}

drop_next : (some : List SatLit) (i : ℕ) (l m : SatLit) → slice_get some i ≡ Some l → holds (drop i some) m ≡ (same_literal m l || holds (drop (i + 1) some) m)
drop_next [] i l m at = absurd (cc)
drop_next (x ∷ some) zero l m at = ap (λ (k : SatLit). same_literal m k || holds some m) (same_Some x l at)
drop_next (x ∷ some) (suc i) l m at =
    let next : suc i + 1 ≡ suc (i + 1) = omega arith in
    drop_next some i l m at ∙ ap (λ (k : ℕ). same_literal m l || holds (drop k (x ∷ some)) m) (sym next)

pub undone_next : (before cells : List Cell) (steps : List Step) (start i : ℕ) (step : Step) (old : Cell) → IsUndone before cells steps start i → HoldsNoVariableTwice (literals steps) → start ≤ i → slice_get steps i ≡ Some step
    → step.literal.var.0 < length cells → old ≡ cell_of cells step.literal.var
    → IsUndone before (set cells step.literal.var.0 (record { assigned = false; positive = old.positive; place = old.place })) steps start (i + 1)
undone_next before cells steps start i step old undone once from at inside old_is = record {
  values = λ m. elim (cases_Bool (same_var m.var step.literal.var)) [
    | inl same ↦
        let var_is : m.var ≡ step.literal.var = same_var-true m.var step.literal.var same in
        ap (λ (cell : Cell). cell.assigned && beq cell.positive m.positive) (ap (cell_of (set cells step.literal.var.0 new)) var_is ∙ cell_written cells step.literal.var new inside)
        ∙ sym (or_from _ _ (not_before m var_is) (unheld_by_var (drop (i + 1) (literals steps)) m (ap (mentions_variable (drop (i + 1) (literals steps))) var_is ∙ not_after steps i (i + 1) step once at (omega arith))))
    | inr apart ↦
        ap (λ (cell : Cell). cell.assigned && beq cell.positive m.positive) (cell_other cells step.literal.var m.var new apart)
        ∙ undone.values m
        ∙ ap (λ (b : Bool). holds (take start (literals steps)) m || b) (drop_next (literals steps) i step.literal m (literal_at steps i step at)
        ∙ ap (λ (b : Bool). b || holds (drop (i + 1) (literals steps)) m) (same_literal_apart m step.literal apart))
  ];
  places = λ k other there. elim (cases_Bool (same_var other.literal.var step.literal.var)) [
    | inl same ↦
        let var_is : other.literal.var ≡ step.literal.var = same_var-true other.literal.var step.literal.var same in
        ap (λ (cell : Cell). cell.place) (ap (cell_of (set cells step.literal.var.0 new)) var_is ∙ cell_written cells step.literal.var new inside)
        ∙ ap (λ (cell : Cell). cell.place) (old_is ∙ ap (cell_of cells) (sym var_is)) ∙ undone.places k other there
    | inr apart ↦ ap (λ (cell : Cell). cell.place) (cell_other cells step.literal.var other.literal.var new apart) ∙ undone.places k other there
  ];
  phases = map-set_same (λ (cell : Cell). cell.positive) cells step.literal.var.0 old new (slice_get-get_or cells step.literal.var.0 open_cell inside ∙ ap Some (sym old_is)) refl ∙ undone.phases;
}
  where
    new : Cell
    new = record { assigned = false; positive = old.positive; place = old.place }

    not_before : (m : SatLit) → m.var ≡ step.literal.var → holds (take start (literals steps)) m ≡ false
    not_before m var_is = false_from_ne_true (holds (take start (literals steps)) m) (λ h.
        let found = place_below (literals steps) start m h in
        let same = once_place (literals steps) found.0 i m step.literal once found.2 (literal_at steps i step at) var_is in
        let early = found.1 in
        omega arith)

pub take_literals_is : (steps : List Step) (n : ℕ) → take n (literals steps) ≡ literals (take n steps)
take_literals_is steps zero = refl
take_literals_is [] (suc n) = refl
take_literals_is (s ∷ steps) (suc n) = ap (λ (rest : List SatLit). s.literal ∷ rest) (take_literals_is steps n)

once_take : (some : List SatLit) (n : ℕ) → HoldsNoVariableTwice some → HoldsNoVariableTwice (take n some)
once_take some zero once = tt
once_take [] (suc n) once = tt
once_take (l ∷ some) (suc n) once = (false_from_ne_true (mentions_variable (take n some) l.var) (λ t. false≢true (sym once.0 ∙ mentions_take some n l.var t)), once_take some n once.1)
  where
    mentions_take : (some : List SatLit) (n : ℕ) (v : Var) → mentions_variable (take n some) v ≡ true → mentions_variable some v ≡ true
    mentions_take some zero v h = absurd (false≢true h)
    mentions_take [] (suc n) v h = h
    mentions_take (m ∷ some) (suc n) v h =
        elim (or_cases (same_var v m.var) (mentions_variable (take n some) v) h) [
          | inl here ↦ or_left _ _ here
          | inr later ↦ or_right (same_var v m.var) _ (mentions_take some n v later)
        ]

-- a trail that was gone back to a decision
pub inside_back : (before cells : List Cell) (steps : List Step) (starts : List ℕ) (levels start : ℕ) → IsUndone before cells steps start (length steps)
    → IsTrail (record { steps = steps; starts = starts; phases = map (λ (cell : Cell). cell.positive) before }) → levels < length starts → start ≡ get_or starts levels 0 → start ≤ length steps
    → IsTrailInside cells (record { steps = take start steps; starts = take levels starts; phases = map (λ (cell : Cell). cell.positive) cells })
inside_back before cells steps starts levels start undone right inside start_is short = record {
  tabled = record {
    values = λ l. undone.values l
        ∙ ap (λ (b : Bool). holds (take start (literals steps)) l || b) (ap (λ (some : List SatLit). holds some l) (drop_all (length steps) (literals steps) (omega (arith, length-map steps (λ (s : Step). s.literal)))))
        ∙ or_false (holds (take start (literals steps)) l)
        ∙ ap (λ (some : List SatLit). holds some l) (take_literals_is steps start);
    places = λ i step at. undone.places i step (sym (get-take start steps i (within_take i step at)) ∙ at);
  };
  right = record {
    once = subst HoldsNoVariableTwice (take_literals_is steps start) (once_take (literals steps) start right.once);
    over = All-from_held (λ (l : SatLit). l.var.0 < length (map (λ (cell : Cell). cell.positive) cells)) (literals (take start steps)) (λ l h.
        subst (λ (list : List Bool). l.var.0 < length list) (sym undone.phases)
        (All-held (λ (m : SatLit). m.var.0 < length (map (λ (cell : Cell). cell.positive) before)) (literals steps) l right.over
        (held-take start (literals steps) l (ap (λ (some : List SatLit). holds some l) (take_literals_is steps start) ∙ h))));
    within = λ k d h.
        let k_in : k < levels = omega (arith, length-take-le levels starts (omega arith)) in
        let same : get_or (take levels starts) k d ≡ get_or starts k d = get_or-take levels starts k d k_in in
        let default : get_or starts k d ≡ get_or starts k 0 = get_or-any starts k d 0 (omega arith) in
        let less = right.ascending k levels k_in inside in
        omega (arith, length-take-le start steps short);
    ascending = λ i j h within.
        let j_in : j < levels = omega (arith, length-take-le levels starts (omega arith)) in
        let i_in : i < levels = omega arith in
        let first : get_or (take levels starts) i 0 ≡ get_or starts i 0 = get_or-take levels starts i 0 i_in in
        let second : get_or (take levels starts) j 0 ≡ get_or starts j 0 = get_or-take levels starts j 0 j_in in
        let less = right.ascending i j h (omega arith) in
        omega arith;
  };
}
  where
    within_take : (i : ℕ) (step : Step) → slice_get (take start steps) i ≡ Some step → i < start
    within_take i step at =
        let inside_it = slice_get_within (take start steps) i step at in
        omega (arith, length-take-le start steps short)

    drop_all : (n : ℕ) (some : List SatLit) → length some ≤ n → drop n some ≡ []
    drop_all zero [] h = refl
    drop_all (suc n) [] h = refl
    drop_all zero (l ∷ some) h = absurd (omega arith)
    drop_all (suc n) (l ∷ some) h = drop_all n some (omega arith)

-- the variable of a step is in the table, also after some steps were taken out
pub var_in_table : (before cells : List Cell) (steps : List Step) (i : ℕ) (step : Step) → IsOver (length (map (λ (cell : Cell). cell.positive) before)) (literals steps)
    → map (λ (cell : Cell). cell.positive) cells ≡ map (λ (cell : Cell). cell.positive) before → slice_get steps i ≡ Some step → step.literal.var.0 < length cells
var_in_table before cells steps i step over same at =
    let held = held_at (literals steps) i step.literal (literal_at steps i step at) in
    let below : step.literal.var.0 < length (map (λ (cell : Cell). cell.positive) before) = All-held (λ (m : SatLit). m.var.0 < length (map (λ (cell : Cell). cell.positive) before)) (literals steps) step.literal over held in
    omega (arith, ap (λ (list : List Bool). length list) same, length-map cells (λ (cell : Cell). cell.positive))

pub open_else_true : (some : List SatLit) (v : Var) (a : Bool) → a ≡ holds some (literal v true) → a ≡ true → IsTrue (not a) ↔ (mentions_variable some v ≡ false)
open_else_true some v a a_is first =
    let closed = open_else some v a a_is (ap not first) in
    (λ open_now. closed.0 (sym (ap not first) ∙ open_now), λ absent. ap not first ∙ closed.1 absent)

-- where a variable is open, there are fewer true literals than variables
pub trail_room : (trail : TrailState) (v : Var) → IsTrail trail → v.0 < length trail.phases → mentions_variable (literals trail.steps) v ≡ false → length trail.steps < length trail.phases
trail_room trail v right made absent =
    let longer = trail_short (length trail.phases) (literals trail.steps ++ literal v true ∷ []) (once_push (literals trail.steps) (literal v true) right.once absent)
    (All-push (λ (m : SatLit). m.var.0 < length trail.phases) (literals trail.steps) (literal v true) right.over made) in
    omega (arith, length-append (literals trail.steps) (literal v true ∷ []), length-map trail.steps (λ (s : Step). s.literal))

-- a byte that was written, and the others
pub byte_written : (values : List Bool) (l : SatLit) (value : Bool) → packed l < length values → SetsValue values (set values (packed l) value) l value
byte_written values l value inside = record {
  values = λ m. elim (cases_Bool (same_literal l m)) [
    | inl same ↦
        ap (λ (k : SatLit). is_true_by (set values (packed l) value) k) (sym (same_literal-true l m same))
        ∙ get_or-set_same values (packed l) value false inside
        ∙ sym (if_true (same_literal l m) value (is_true_by values m) same)
    | inr apart ↦
        get_or-set_other values (packed l) (packed m) value false (λ e. false≢true (sym apart ∙ subst (λ (k : SatLit). same_literal l k ≡ true) (packed_same l m (sym e)) (same_literal-refl l)))
        ∙ sym (if_false (same_literal l m) value (is_true_by values m) apart)
  ];
  made = length-set values (packed l) value;
}
  where
    packed_same : (l m : SatLit) → packed l ≡ packed m → l ≡ m
    packed_same l m e = sym (unpacked-packed l) ∙ ap unpacked e ∙ unpacked-packed m

-- two literals more, which are not false
pub denied_longer : (denials values : List Bool) → AreDenials denials values → AreDenials (denials ++ false ∷ false ∷ []) (values ++ false ∷ false ∷ [])
denied_longer denials values right = record {
  same = λ l. get_or-defaults denials (packed l) false ∙ right.same l ∙ sym (get_or-defaults values (packed (negated l)) false);
  made = omega (arith, right.made, length-append denials (false ∷ false ∷ []), length-append values (false ∷ false ∷ []));
}

pub number_below : (l : SatLit) → packed l < l.var.0 * 2 + 2
number_below l = go l.positive
  where
    go : (b : Bool) → l.var.0 * 2 + (if b then 1 else 0) < l.var.0 * 2 + 2
    go true = omega arith
    go false = omega arith

not_held_apart : (l m : SatLit) → same_literal l m ≡ false → same_literal m l ≡ false
not_held_apart l m apart = same_literal-comm m l ∙ apart

-- the bytes after a literal became true
pub values_assigned : (values after : List Bool) (cells written : List Cell) (steps longer : List Step) (l : SatLit) (reason : Option ℕ)
    → IsTabled cells steps → IsTabled written longer → longer ≡ steps ++ record { literal = l; reason = reason } ∷ [] → AreValues values cells → SetsValue values after l true → length written ≡ length cells
    → AreValues after written
values_assigned values after cells written steps longer l reason tabled tabled_longer longer_is valued sets same_count = record {
  same = λ m. elim (cases_Bool (same_literal l m)) [
    | inl same ↦
        sets.values m ∙ if_true (same_literal l m) true (is_true_by values m) same
        ∙ sym (tabled_longer.values m ∙ held m ∙ or_right (holds (literals steps) m) _ (or_left (same_literal m l) false (same_literal-comm m l ∙ same)))
    | inr apart ↦
        sets.values m ∙ if_false (same_literal l m) true (is_true_by values m) apart ∙ valued.same m ∙ tabled.values m
        ∙ sym (or_false (holds (literals steps) m))
        ∙ ap (λ (b : Bool). holds (literals steps) m || (b || false)) (sym (not_held_apart l m apart))
        ∙ sym (tabled_longer.values m ∙ held m)
  ];
  made = sets.made ∙ valued.made ∙ ap (λ (n : ℕ). n * 2) (sym same_count);
}
  where
    held : (m : SatLit) → holds (literals longer) m ≡ (holds (literals steps) m || (same_literal m l || false))
    held m = ap (λ (list : List Step). holds (literals list) m) longer_is
        ∙ ap (λ (some : List SatLit). holds some m) (literals-push steps (record { literal = l; reason = reason })) ∙ holds-append (literals steps) (l ∷ []) m

-- the bytes after a step was taken out
pub values_undone : (values after : List Bool) (before cells written : List Cell) (steps : List Step) (start i : ℕ) (step : Step)
    → IsUndone before cells steps start i → IsUndone before written steps start (i + 1) → slice_get steps i ≡ Some step → is_true_in written step.literal ≡ false
    → AreValues values cells → SetsValue values after step.literal false → length written ≡ length cells → AreValues after written
values_undone values after before cells written steps start i step undone next at gone valued sets same_count = record {
  same = λ m. elim (cases_Bool (same_literal step.literal m)) [
    | inl same ↦
        sets.values m ∙ if_true (same_literal step.literal m) false (is_true_by values m) same ∙ sym (ap (is_true_in written) (sym (same_literal-true step.literal m same)) ∙ gone)
    | inr apart ↦
        sets.values m ∙ if_false (same_literal step.literal m) false (is_true_by values m) apart ∙ valued.same m ∙ undone.values m
        ∙ ap (λ (b : Bool). holds (take start (literals steps)) m || b) (drop_next (literals steps) i step.literal m (literal_at steps i step at)
        ∙ ap (λ (b : Bool). b || holds (drop (i + 1) (literals steps)) m) (not_held_apart step.literal m apart))
        ∙ sym (next.values m)
  ];
  made = sets.made ∙ valued.made ∙ ap (λ (n : ℕ). n * 2) (sym same_count);
}

-- a step that was taken out is not true
pub gone_cell : (cells : List Cell) (l : SatLit) (positive : Bool) (place : ℕ) → l.var.0 < length cells → is_true_in (set cells l.var.0 (record { assigned = false; positive = positive; place = place })) l ≡ false
gone_cell cells l positive place inside =
    ap (λ (cell : Cell). cell.assigned && beq cell.positive l.positive) (cell_written cells l.var (record { assigned = false; positive = positive; place = place }) inside)

-- the bytes after one more variable
pub values_variable : (values after : List Bool) (cells : List Cell) → AreValues values cells → ((l : SatLit) → is_true_by after l ≡ is_true_by values l) → length after ≡ length values + 2
    → AreValues after (cells ++ open_cell ∷ [])
values_variable values after cells valued same longer = record {
  same = λ l. same l ∙ valued.same l ∙ ap (λ (cell : Cell). cell.assigned && beq cell.positive l.positive) (sym (get_or-default cells l.var.0 open_cell));
  made = let count = valued.made in omega (arith, length-append cells (open_cell ∷ []));
}
