-- What is done for a literal, by its shape.
use Rattle.std.specs.Prelude.{zero, suc, ◌++◌, ◌&&◌, Bool, true, false, [], ◌∷◌, map, Option, Some, None, if◌then◌else◌}
use Rattle.stt_core.specs.SimpleType.{SimpleType, base, arrow, formula}
use Rattle.stt_core.specs.Lambda.{falsity, implication, all, equality, Lambda, constant, app, eq, every}
use Rattle.stt_core.specs.Typing.{type_of}
use Rattle.stt_core.specs.SameTerm.{same_term}
use Rattle.tableau_calculus.specs.Literals.{Literal, plus, minus}
use Rattle.search_spec.specs.Spine.{head_of, arguments, is_spine, same_head}
use Rattle.search_spec.specs.State.{State, Setting, inst, with_commands, scope_in}
use Rattle.tableau_calculus.specs.declared.rule_use.OnePlace.{OnePlace}
use Rattle.tableau_calculus.specs.declared.rule_use.OnePlace.TheVariants.{False, ImpPos, ImpNeg}
use Rattle.tableau_calculus.specs.Rules.{Alone, false_alone, imp_pos_alone, imp_neg_alone, Alternatives, imp_pos, imp_neg, bool_pos, bool_neg, fun_pos, fun_neg, differ}
use Rattle.search_spec.specs.Instances.{with_instance}
use Rattle.search_spec.specs.Terms.{terms_of, with_term, with_terms}
use Rattle.search_spec.specs.Offers.{offered_sides}
use Rattle.search_spec.specs.Preparing.{with_preparation}
use Rattle.search_spec.specs.Partners.{matings, confrontations}
use Rattle.search_spec.specs.Selections.{selections_in, with_selections}
use Rattle.search_spec.specs.Witness.{with_denied}

-- the negated equation between two terms with the same compared head is decomposed
abbrev pub with_decomposition : Setting → SimpleType → Lambda → Lambda → State → State
with_decomposition setting a s t state =
    if is_spine s && same_head s t
    then with_instance setting.mode (minus (eq a s t) ∷ [])
    (differ (type_of (scope_in setting state) [] (head_of s)) (arguments s) (arguments t)) state
    else state

abbrev pub with_confrontations : Setting → SimpleType → Literal → State → State
with_confrontations setting a l state = with_commands setting.mode (confrontations a l state.noted) state

-- an equation, or the negation of one with two different sides, by its type
abbrev pub with_equation : Setting → SimpleType → Bool → Lambda → Lambda → State → State
with_equation setting (base zero) true s t = with_instance setting.mode (plus (eq formula s t) ∷ []) (bool_pos s t)
with_equation setting (base zero) false s t = with_instance setting.mode (minus (eq formula s t) ∷ []) (bool_neg s t)
with_equation setting (arrow a b) true s t = with_instance setting.mode (plus (eq (arrow a b) s t) ∷ []) (fun_pos a b s t)
with_equation setting (arrow a b) false s t =
    λ state.
    with_instance setting.mode (minus (eq (arrow a b) s t) ∷ []) (fun_neg a b s t)
    (with_terms setting.mode (arrow a b) (offered_sides setting.mode s t) state)
with_equation setting (base (suc n)) true s t = with_confrontations setting (base (suc n)) (plus (eq (base (suc n)) s t))
with_equation setting (base (suc n)) false s t =
    λ state. with_confrontations setting (base (suc n)) (minus (eq (base (suc n)) s t))
    (with_decomposition setting (base (suc n)) s t
    (with_term setting.mode (base (suc n)) t
    (with_term setting.mode (base (suc n)) s state)))

-- the predicate holds everywhere: its type is prepared, and it is instantiated with each term of the type
abbrev pub with_universal : Setting → SimpleType → Lambda → State → State
with_universal setting a f state = instances (with_preparation setting a state)
  where
    instances : State → State
    instances ready = with_commands setting.mode (map (inst (plus (every a f))) (terms_of a ready)) ready

abbrev pub with_matings : Setting → Literal → State → State
with_matings setting l state = if is_spine l.atom then with_commands setting.mode (matings l state.noted) state else state

-- a rule of which the literal alone is a principal, with its alternatives
pub record LiteralRule (l : Literal) : Type 0 where
  pub kind : OnePlace
  pub alternatives : Alternatives
  pub fits : Alone kind l alternatives

-- the rule that a literal of this sign has by the connective of its atom
abbrev pub connective_rule : (t : Lambda) (sign : Bool) → Option (LiteralRule (record { positive = sign; atom = t }))
connective_rule (constant falsity) true = Some (record { kind = False; alternatives = []; fits = false_alone })
connective_rule (app (app (constant implication) s) t) true =
    Some (record { kind = ImpPos; alternatives = imp_pos s t; fits = imp_pos_alone s t })
connective_rule (app (app (constant implication) s) t) false =
    Some (record { kind = ImpNeg; alternatives = imp_neg s t; fits = imp_neg_alone s t })
connective_rule t sign = None

-- the instance of the literal's rule, or its matings where it has none
abbrev pub with_connective : (l : Literal) → Setting → Option (LiteralRule l) → State → State
with_connective l setting (Some rule) state = with_instance setting.mode (l ∷ []) rule.alternatives state
with_connective l setting None state = with_matings setting l state

-- what is done for a literal of this sign and atom
abbrev pub with_rules : Setting → Bool → Lambda → State → State
with_rules setting true (app (app (constant (equality a)) s) t) state = with_equation setting a true s t state
with_rules setting false (app (app (constant (equality a)) s) t) state =
    if same_term s t then with_instance setting.mode (minus (eq a s t) ∷ []) [] state else with_equation setting a false s t state
with_rules setting true (app (constant (all a)) f) state = with_universal setting a f state
with_rules setting false (app (constant (all a)) f) state = with_denied setting a f state
with_rules setting sign t state = with_connective (record { positive = sign; atom = t }) setting (connective_rule t sign) state

-- The literal is processed: what its shape asks for is done, it is noted, and the choices and descriptions in its atom are taken up.
abbrev pub with_processing : Setting → Literal → State → State
with_processing setting l s = noted (with_rules setting l.positive l.atom s)
  where
    noted : State → State
    noted done = with_selections setting.mode (selections_in l.atom) (record done { noted = done.noted ++ l ∷ [] })
