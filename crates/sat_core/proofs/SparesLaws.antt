-- Which variables are judged.
use Rattle.std.proofs.Common.{◌≡◌, ◌++◌, inl, inr, ℕ, Bool, false, ltb, List, [], ◌∷◌, Some, length, map, sym, ap, subst, ◌∙◌, append_assoc, append-nil, arith}
use Rattle.std.specs.List.{Contains, slice_get}
use Rattle.std.proofs.lemmas.Bool.{true≢false, lt-ltb}
use Rattle.std.proofs.lemmas.List.{map-append}
use Rattle.std.proofs.lemmas.List.Elements.{Contains-append_left, Contains-append_right, Contains-append_cases, Contains-push, Contains-push_cases}
use Rattle.sat_base.specs.declared.literal.Var.{Var}
use Rattle.sat_propagate.specs.Internal.Trail.{TrailState}
use Rattle.sat_propagate.specs.declared.trail.Step.{Step}
use Rattle.sat_core.specs.Internal.Spares.{held, StandsBefore}
use Rattle.sat_core.specs.declared.spares.Visit.{Visit}

-- one visit more
pub held_push : (judged : List Var) (rest : List Visit) (visit : Visit) → held judged (rest ++ visit ∷ []) ≡ held judged rest ++ visit.var ∷ []
held_push judged rest visit =
    ap (λ (vars : List Var). judged ++ vars) (map-append (λ (x : Visit). x.var) rest (visit ∷ [])) ∙ sym (append_assoc judged (map (λ (x : Visit). x.var) rest) (visit.var ∷ []))

-- the last visit's variable is judged
pub held_noted : (judged later : List Var) (visits rest : List Visit) (visit : Visit) → visits ≡ rest ++ visit ∷ [] → later ≡ judged ++ visit.var ∷ []
    → (v : Var) → Contains (held judged visits) v → Contains (held later rest) v
held_noted judged later visits rest visit popped noted v has =
    let vars : List Var = map (λ (x : Visit). x.var) rest in
    let split = Contains-push_cases (held judged rest) visit.var v
    (subst (λ (list : List Var). Contains list v) (ap (held judged) popped ∙ held_push judged rest visit) has) in
    subst (λ (list : List Var). Contains (held list rest) v) (sym noted)
    (elim split [
      | inl before ↦ elim (Contains-append_cases judged vars v before) [
        | inl here ↦ Contains-append_left (judged ++ visit.var ∷ []) vars v (Contains-append_left judged (visit.var ∷ []) v here)
        | inr there ↦ Contains-append_right (judged ++ visit.var ∷ []) vars v there
      ]
      | inr last ↦ Contains-append_left (judged ++ visit.var ∷ []) vars v (subst (λ (w : Var). Contains (judged ++ visit.var ∷ []) w) last (Contains-push judged visit.var))
    ])

-- the last visit goes on after another one
pub held_needed : (judged : List Var) (visits rest first later : List Visit) (visit same more : Visit) → visits ≡ rest ++ visit ∷ [] → same.var ≡ visit.var
    → first ≡ rest ++ same ∷ [] → later ≡ first ++ more ∷ [] → (v : Var) → Contains (held judged visits) v → Contains (held judged later) v
held_needed judged visits rest first later visit same more popped is pushed again v has =
    let at : held judged visits ≡ held judged first =
    ap (held judged) popped ∙ held_push judged rest visit ∙ ap (λ (w : Var). held judged rest ++ w ∷ []) (sym is) ∙ sym (held_push judged rest same) ∙ ap (held judged) (sym pushed) in
    subst (λ (list : List Var). Contains list v) (sym (ap (held judged) again ∙ held_push judged first more))
    (Contains-append_left (held judged first) (more.var ∷ []) v (subst (λ (list : List Var). Contains list v) at has))

-- what is judged is held
pub held_judged : (judged : List Var) (visits : List Visit) (v : Var) → Contains judged v → Contains (held judged visits) v
held_judged judged visits v has = Contains-append_left judged (map (λ (x : Visit). x.var) visits) v has

-- where no reason is read
pub held_none : (judged : List Var) (visits : List Visit) → length visits ≡ 0 → (v : Var) → Contains (held judged visits) v → Contains judged v
held_none judged [] none v has = subst (λ (list : List Var). Contains list v) (append-nil judged) has
held_none judged (x ∷ visits) none v has = absurd (omega (arith, none))

-- the first visit
pub held_started : (judged : List Var) (visits rest : List Visit) (visit : Visit) → visits ≡ rest ++ visit ∷ [] → Contains (held judged visits) visit.var
held_started judged visits rest visit pushed =
    subst (λ (list : List Var). Contains list visit.var) (sym (ap (held judged) pushed ∙ held_push judged rest visit)) (Contains-push (held judged rest) visit.var)

-- a variable that stands before the start isn't found at a later place
pub not_before : (trail : TrailState) (start : ℕ) (v : Var) (place : ℕ) (is_before : Bool) → (step : Step) × (slice_get trail.steps place ≡ Some step) × (step.literal.var ≡ v)
    → is_before ≡ ltb place start → is_before ≡ false → StandsBefore trail start v → ⊥
not_before trail start v place is_before found is past stands = true≢false (sym (lt-ltb place start (stands.before place found.0 found.1 found.2)) ∙ sym is ∙ past)
