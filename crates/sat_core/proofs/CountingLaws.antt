-- How many literals of a part of the trail are marked.
use Rattle.std.proofs.Common.{◌≡◌, ◌<◌, ◌≤◌, ◌+◌, ◌-◌, ℕ, zero, suc, ◌&&◌, ◌||◌, not, Bool, true, false, List, [], ◌∷◌, Some, length, drop, refl, sym, ap, ◌∙◌, arith, length-drop}
use Rattle.std.proofs.lemmas.List.{length-map}
use Rattle.std.specs.List.{slice_get}
use Rattle.std.proofs.lemmas.Bool.{false≢true, or_left, or_right, false_from_ne_true}
use Rattle.std.proofs.lemmas.Option.{same_Some}
use Rattle.sat_base.specs.declared.literal.Var.{Var}
use Rattle.sat_base.specs.declared.literal.SatLit.{SatLit}
use Rattle.sat_base.specs.Literal.{same_var, same_literal, holds, mentions_variable, HoldsNoVariableTwice}
use Rattle.sat_base.proofs.LiteralLaws.{same_var-refl, same_var-true, same_literal-refl, mentions-held}
use Rattle.sat_laws.specs.Internal.Analysis.{one_if, how_many}
use Rattle.sat_laws.proofs.AnalysisLaws.{how_many-same, how_many-more}
use Rattle.sat_propagate.proofs.PlaceLaws.{not_after}
use Rattle.sat_propagate.specs.Internal.Trail.{TrailState, literals, IsTrail}
use Rattle.sat_core.specs.Internal.Marks.{is_marked, marks_literal}
use Rattle.sat_propagate.specs.declared.trail.Step.{Step}

-- a literal is in the part of the trail from its place on, and not in a later part
pub held_from : (steps : List Step) (i start : ℕ) (step : Step) → slice_get steps i ≡ Some step → start ≤ i → holds (drop start (literals steps)) step.literal ≡ true
held_from [] i start step at h = absurd (cc)
held_from (s ∷ steps) zero zero step at h = let same : s ≡ step = same_Some s step at in or_left _ _ (ap (λ (k : Step). same_literal step.literal k.literal) same ∙ same_literal-refl step.literal)
held_from (s ∷ steps) zero (suc start) step at h = absurd (omega arith)
held_from (s ∷ steps) (suc i) zero step at h = or_right (same_literal step.literal s.literal) _ (held_from steps i zero step at (omega arith))
held_from (s ∷ steps) (suc i) (suc start) step at h = held_from steps i start step at (omega arith)

pub once_drop : (some : List SatLit) (n : ℕ) → HoldsNoVariableTwice some → HoldsNoVariableTwice (drop n some)
once_drop some zero once = once
once_drop [] (suc n) once = tt
once_drop (l ∷ some) (suc n) once = once_drop some n once.1

-- the marks with one variable more
abbrev pub MarksOneMore : List Bool → List Bool → Var → Type 0
MarksOneMore before after var = (v : Var) → is_marked after v ≡ (is_marked before v || same_var v var)

or_false : (b : Bool) → (b || false) ≡ b
or_false true = refl
or_false false = refl

-- a new mark counts one more where its place is in the part, and none where it is not
pub counted_late : (trail : TrailState) (before after : List Bool) (var : Var) (i start : ℕ) (step : Step) → IsTrail trail → slice_get trail.steps i ≡ Some step → step.literal.var ≡ var → start ≤ i
    → is_marked before var ≡ false → MarksOneMore before after var
    → 1 + how_many (marks_literal before) (drop start (literals trail.steps)) ≡ how_many (marks_literal after) (drop start (literals trail.steps))
counted_late trail before after var i start step right at same_var_is late unmarked more =
    let one = how_many-more (marks_literal before) (marks_literal after) (drop start (literals trail.steps)) step.literal (once_drop (literals trail.steps) start right.once)
    (held_from trail.steps i start step at late) (ap (is_marked before) same_var_is ∙ unmarked)
    (more step.literal.var ∙ or_right (is_marked before step.literal.var) _ (ap (λ (v : Var). same_var v var) same_var_is ∙ same_var-refl var))
    (λ l apart. more l.var ∙ ap (λ (b : Bool). is_marked before l.var || b) (ap (same_var l.var) (sym same_var_is) ∙ apart) ∙ or_false (is_marked before l.var)) in
    omega arith

pub counted_early : (trail : TrailState) (before after : List Bool) (var : Var) (i start : ℕ) (step : Step) → IsTrail trail → slice_get trail.steps i ≡ Some step → step.literal.var ≡ var → i < start
    → MarksOneMore before after var
    → 0 + how_many (marks_literal before) (drop start (literals trail.steps)) ≡ how_many (marks_literal after) (drop start (literals trail.steps))
counted_early trail before after var i start step right at same_var_is early more =
    let gone = not_after trail.steps i start step right.once at early in
    let none = how_many-same (marks_literal before) (marks_literal after) (drop start (literals trail.steps))
    (λ l h. more l.var ∙ ap (λ (b : Bool). is_marked before l.var || b)
    (false_from_ne_true (same_var l.var var) (λ t. false≢true (sym gone ∙ ap (mentions_variable (drop start (literals trail.steps))) (same_var_is ∙ sym (same_var-true l.var var t)) ∙ mentions-held (drop start (literals trail.steps)) l h)))
    ∙ or_false (is_marked before l.var)) in
    omega arith

pub how_many-le : (p : SatLit → Bool) (some : List SatLit) → how_many p some ≤ length some
how_many-le p [] = omega arith
how_many-le p (l ∷ some) = let rest = how_many-le p some in omega (arith, one_if-le (p l))
  where
    one_if-le : (b : Bool) → one_if b ≤ 1
    one_if-le true = omega arith
    one_if-le false = omega arith

-- the marks with one variable less
abbrev pub MarksOneLess : List Bool → List Bool → Var → Type 0
MarksOneLess before after var = (v : Var) → is_marked after v ≡ (is_marked before v && not (same_var v var))

and_true : (b : Bool) → (b && true) ≡ b
and_true true = refl
and_true false = refl

-- one mark less counts one less, where it counted
pub counted_less : (some : List SatLit) (before after : List Bool) (own : SatLit) → HoldsNoVariableTwice some → holds some own ≡ true → is_marked before own.var ≡ true → MarksOneLess before after own.var
    → how_many (marks_literal before) some ≡ how_many (marks_literal after) some + 1
counted_less some before after own once there marked less =
    how_many-more (marks_literal after) (marks_literal before) some own once there
    (less own.var ∙ ap (λ (b : Bool). is_marked before own.var && not b) (same_var-refl own.var) ∙ and_false (is_marked before own.var))
    marked
    (λ l apart. sym (less l.var ∙ ap (λ (b : Bool). is_marked before l.var && not b) apart ∙ and_true (is_marked before l.var)))
  where
    and_false : (b : Bool) → (b && false) ≡ false
    and_false true = refl
    and_false false = refl

-- the count after a mark is taken away and others are made
pub counted_resolved : (trail : TrailState) (before between after : List Bool) (own : SatLit) (start late more : ℕ) → IsTrail trail → holds (drop start (literals trail.steps)) own ≡ true
    → is_marked before own.var ≡ true → MarksOneLess before between own.var → late ≡ how_many (marks_literal before) (drop start (literals trail.steps))
    → more + how_many (marks_literal between) (drop start (literals trail.steps)) ≡ how_many (marks_literal after) (drop start (literals trail.steps))
    → (1 ≤ late) × (late - 1 + more ≡ how_many (marks_literal after) (drop start (literals trail.steps))) × (late - 1 + more ≤ length trail.steps)
counted_resolved trail before between after own start late more right there marked less late_is counted =
    let part = drop start (literals trail.steps) in
    let fewer : how_many (marks_literal before) part ≡ how_many (marks_literal between) part + 1 = counted_less part before between own (once_drop (literals trail.steps) start right.once) there marked less in
    let bound : how_many (marks_literal after) part ≤ length part = how_many-le (marks_literal after) part in
    let short : length part ≤ length trail.steps = omega (arith, length-drop start (literals trail.steps), length-map trail.steps (λ (s : Step). s.literal)) in
    (omega arith, omega arith, omega arith)
