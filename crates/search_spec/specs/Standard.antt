-- The search by a mode whose keys of this project's own stand at their standard numbers. It is the plain one: what such a key touches is
-- what it would be without the key.
use Rattle.std.specs.Prelude.{◌≡◌, ℕ, zero, suc, ◌+◌, ◌++◌, List, [], ◌∷◌, map}
use Rattle.std.specs.List.{list_any}
use Rattle.stt_core.specs.SimpleType.{SimpleType, base, formula, same_type}
use Rattle.stt_core.specs.Lambda.{name, witness, falsity, negation, implication, all, equality, choice, Lambda, bound, constant}
use Rattle.stt_core.specs.Typing.{Scope}
use Rattle.tableau_calculus.specs.Literals.{Literal}
use Rattle.tableau_calculus.specs.Witnesses.{Row, with_rows}
use Rattle.mode_file.specs.declared.Mode.{Mode}
use Rattle.search_spec.specs.Partial.{Hole}
use Rattle.search_spec.specs.Heads.{places_to, bases_from, fitting_heads}
use Rattle.search_spec.specs.State.{State, Command, kind_delay, delay, moment_by}
use Rattle.search_spec.specs.Offers.{is_prepared, early_terms, offered_witness, offered_sides, offered_heads}

-- the keys of this project's own have their standard numbers
pub record IsPlainMode (mode : Mode) : Type 0 where
  pub clock : mode.clock ≡ 0
  pub terms : mode.terms ≡ 0
  pub defaults : mode.defaults ≡ 0
  pub names : mode.names ≡ 0

-- The logic's own heads with this target type: falsity, negation, implication, the equality of formulas, the equality on each other base
-- type and the quantifier over each, or else the choice.
abbrev pub all_logical_heads : Scope → ℕ → List Lambda
all_logical_heads scope zero =
    constant falsity ∷ constant negation ∷ constant implication ∷ constant (equality formula) ∷ []
    ++ map (λ c. constant (equality c)) (bases_from 1 (scope.bases + 1))
    ++ map (λ c. constant (all c)) (bases_from 1 (scope.bases + 1))
all_logical_heads scope (suc n) = constant (choice (base (suc n))) ∷ []

-- all heads whose target type is the hole's: variables, names and witnesses, and the logic's own
abbrev pub all_heads : Scope → Hole → List Lambda
all_heads scope h =
    (map bound (places_to h.base 0 h.context)
    ++ map (λ k. constant (name k)) (places_to h.base 0 scope.names)
    ++ map (λ k. constant (witness k)) (places_to h.base 0 scope.witnesses))
    ++ all_logical_heads scope h.base

-- Commands are carried out at moments that count them, and wait as long as their kind. A base type is prepared where it has terms, and no
-- term comes early. Each hole is offered all heads that fit.
pub record SearchesPlainly (mode : Mode) : Type 0 where
  pub moments : (count due : ℕ) → moment_by mode.clock count due ≡ count
  pub delays : (c : Command) → delay mode c ≡ kind_delay mode c
  pub prepared : (n : ℕ) (s : State) → is_prepared mode (base n) s ≡ list_any (λ u. same_type (base n) u.type) s.terms
  pub early : (a : SimpleType) (s : State) → early_terms mode a s ≡ []
  pub witnesses : (a : SimpleType) (w : Lambda) (s : State) → offered_witness mode a w s ≡ []
  pub sides : (s t : Lambda) → offered_sides mode s t ≡ []
  pub heads :
      (scope : Scope) (start : List Literal) (rows : List Row) (h : Hole)
      → fitting_heads (offered_heads mode scope start) (with_rows scope rows) h ≡ all_heads (with_rows scope rows) h
