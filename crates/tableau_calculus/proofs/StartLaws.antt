-- The start of a problem, literal after literal.
use Rattle.std.proofs.Common.{◌≡◌, ℕ, zero, suc, ◌+◌, List, [], ◌∷◌, ◌++◌, map, take, slice_get, Some, sym, ap, subst, ◌∙◌}
use Rattle.stt_core.specs.Lambda.{Lambda}
use Rattle.stt_core.specs.Typing.{Scope}
use Rattle.stt_core.specs.Declarations.{scope_of}
use Rattle.stt_core.specs.PlainProblem.{PlainProblem}
use Rattle.stt_core.specs.TypedProblem.{IsFormula, AreFormulas}
use Rattle.stt_core.proofs.ListLaws.{take_got, map-append}
use Rattle.tableau_calculus.specs.Literals.{Literal, opposite}
use Rattle.tableau_calculus.specs.Start.{without_repeats, normal_literal, denied, start}
use Rattle.tableau_calculus.specs.Kinds.{added, formulas}
use Rattle.tableau_calculus.proofs.AddedLaws.{added-append}

pub formula_at : (scope : Scope) (ts : List Lambda) (i : ℕ) (t : Lambda) → slice_get ts i ≡ Some t → AreFormulas scope ts → IsFormula scope t
formula_at scope [] i t g h = cc
formula_at scope (u ∷ ts) zero t g h = let e : u ≡ t = cc in subst (IsFormula scope) e h.0
formula_at scope (u ∷ ts) (suc i) t g h = formula_at scope ts i t g h.1

-- one formula more is gone through
pub literals-more : (f : Lambda → Literal) (ts : List Lambda) (i : ℕ) (t : Lambda) → slice_get ts i ≡ Some t → map f (take (i + 1) ts) ≡ map f (take i ts) ++ f t ∷ []
literals-more f ts i t g = ap (map f) (take_got ts i t g) ∙ map-append f (take i ts) (t ∷ [])

pub added-more : (f : Lambda → Literal) (ts : List Lambda) (i : ℕ) (t : Lambda) (before after : List Literal) → slice_get ts i ≡ Some t → before ≡ added formulas [] (map f (take i ts)) → after ≡ added formulas before (f t ∷ []) → after ≡ added formulas [] (map f (take (i + 1) ts))
added-more f ts i t before after g h k =
    k
    ∙ ap (λ ls. added formulas ls (f t ∷ [])) h
    ∙ sym (ap (added formulas []) (literals-more f ts i t g) ∙ added-append [] (map f (take i ts)) (f t ∷ []))

pub start-denied : (p : PlainProblem) (t : Lambda) (d : Literal) (ls after : List Literal) → p.conjecture ≡ Some t → d ≡ opposite (normal_literal (scope_of p.declared) t) → ls ≡ without_repeats (map (normal_literal (scope_of p.declared)) p.assumed) → after ≡ added formulas ls (d ∷ []) → after ≡ start p
start-denied p t d ls after c e h k =
    let scope = scope_of p.declared in
    let assumed = map (normal_literal scope) p.assumed in
    let last = opposite (normal_literal scope t) ∷ [] in
    k
    ∙ ap (λ x. added formulas ls (x ∷ [])) e
    ∙ ap (λ xs. added formulas xs last) h
    ∙ sym (ap (λ o. without_repeats (assumed ++ denied scope o)) c ∙ added-append [] assumed last)
