-- A value doesn't depend on the witnesses that the term doesn't name.
use Rattle.std.proofs.Common.{◌≡◌, ℕ, List, [], ◌∷◌, refl, ap, ap₂, ◌∙◌, option_map, if◌then◌else◌, None, unwrap_or}
use mathlib.Core.Path.{fun_ext}
use Rattle.stt_core.specs.SimpleType.{SimpleType, formula, arrow, is_declared}
use Rattle.stt_core.specs.Lambda.{Constant, name, witness, falsity, negation, implication, all, equality, choice, description, Lambda, bound, constant, lam, app}
use Rattle.stt_core.specs.Typing.{Scope, type_of, constant_type, applied_type}
use Rattle.stt_core.specs.Digits.{entry, table}
use Rattle.stt_core.specs.Meaning.{Model, size, result_size, value, constant_value}
use Rattle.tableau_calculus.specs.Literals.{Literal}
use Rattle.tableau_calculus.specs.Meets.{MeetsBranch}
use Rattle.tableau_calculus.specs.Along.{with_witnesses}
use Rattle.tableau_calculus.specs.Witnesses.{Row, with_rows, IsNoWitness, NamesNoWitness, NoneNamesWitness}

module _ (scope : Scope) (rows : List Row) where
  constant_type-rows : (c : Constant) → IsNoWitness c → constant_type (with_rows scope rows) c ≡ constant_type scope c
  constant_type-rows (name k) h = refl
  constant_type-rows (witness k) h = absurd h
  constant_type-rows falsity h = refl
  constant_type-rows negation h = refl
  constant_type-rows implication h = refl
  constant_type-rows (all a) h = refl
  constant_type-rows (equality a) h = refl
  constant_type-rows (choice a) h = refl
  constant_type-rows (description a) h = refl

  pub type_of-rows : (ctx : List SimpleType) (t : Lambda) → NamesNoWitness t → type_of (with_rows scope rows) ctx t ≡ type_of scope ctx t
  type_of-rows ctx (bound k) h = refl
  type_of-rows ctx (constant c) h = constant_type-rows c h
  type_of-rows ctx (lam a s) h = ap (λ o. if is_declared scope.bases a then option_map (arrow a) o else None) (type_of-rows (a ∷ ctx) s h)
  type_of-rows ctx (app s u) h = ap₂ applied_type (type_of-rows ctx s h.0) (type_of-rows ctx u h.1)

  module _ (m : Model) (values : List ℕ) where
    constant_value-witnesses : (c : Constant) → IsNoWitness c → constant_value (with_witnesses m values) c ≡ constant_value m c
    constant_value-witnesses (name k) h = refl
    constant_value-witnesses (witness k) h = absurd h
    constant_value-witnesses falsity h = refl
    constant_value-witnesses negation h = refl
    constant_value-witnesses implication h = refl
    constant_value-witnesses (all a) h = refl
    constant_value-witnesses (equality a) h = refl
    constant_value-witnesses (choice a) h = refl
    constant_value-witnesses (description a) h = refl

    -- the value of a term that names no witness is the same over any rows, whatever the values of their witnesses
    pub value-rows : (ctx : List SimpleType) (env : List ℕ) (t : Lambda) → NamesNoWitness t → value (with_rows scope rows) (with_witnesses m values) ctx env t ≡ value scope m ctx env t
    value-rows ctx env (bound k) h = refl
    value-rows ctx env (constant c) h = constant_value-witnesses c h
    value-rows ctx env (lam a s) h =
        ap₂ (λ b g. table b (size m a) g) (ap (λ o. size m (unwrap_or o formula)) (type_of-rows (a ∷ ctx) s h)) (fun_ext (λ x. value-rows (a ∷ ctx) (x ∷ env) s h))
    value-rows ctx env (app s u) h =
        ap (λ o. entry (result_size m o) (value (with_rows scope rows) (with_witnesses m values) ctx env s) (value (with_rows scope rows) (with_witnesses m values) ctx env u)) (type_of-rows ctx s h.0)
        ∙ ap₂ (entry (result_size m (type_of scope ctx s))) (value-rows ctx env s h.0) (value-rows ctx env u h.1)

    pub met-rows : (branch : List Literal) → NoneNamesWitness branch → MeetsBranch scope m branch → MeetsBranch (with_rows scope rows) (with_witnesses m values) branch
    met-rows [] h met = tt
    met-rows (l ∷ branch) h met = (value-rows [] [] l.atom h.0 ∙ met.0, met-rows branch h.1 met.1)
