-- The terms with which quantifiers are instantiated.
use Rattle.std.specs.Prelude.{zero, suc, ◌++◌, ◌&&◌, Bool, false, List, [], ◌∷◌, map, filter, if◌then◌else◌}
use Rattle.std.specs.List.{list_any}
use Rattle.stt_core.specs.SimpleType.{SimpleType, base, arrow, same_type}
use Rattle.stt_core.specs.Lambda.{falsity, all, choice, Lambda, constant, lam, app, neg}
use Rattle.stt_core.specs.SameTerm.{same_term}
use Rattle.tableau_calculus.specs.Literals.{Literal}
use Rattle.mode_file.specs.declared.Mode.{Mode}
use Rattle.search_spec.specs.Partial.{first_hole}
use Rattle.search_spec.specs.Heads.{heads_for}
use Rattle.search_spec.specs.State.{State, Setting, Sketch, inst, grow, with_commands, scope_in}

-- the terms of a type, in the order in which they came
abbrev pub terms_of : SimpleType → State → List Lambda
terms_of a s = map (λ u. u.term) (filter (λ u. same_type a u.type) s.terms)

-- whether a term is a quantified formula that ranges over this type
abbrev pub ranges_over : SimpleType → Lambda → Bool
ranges_over a (app (constant (all b)) f) = same_type a b
ranges_over a t = false

-- the processed literals that say of a predicate on the type that it holds everywhere, in order
abbrev pub universals : SimpleType → State → List Literal
universals a s = filter (λ l. l.positive && ranges_over a l.atom) s.noted

-- the term, where it is new, is the last of its type, and each universal literal is to be instantiated with it
abbrev pub with_term : Mode → SimpleType → Lambda → State → State
with_term mode a u s =
    if list_any (same_term u) (terms_of a s) then s
    else with_commands mode (map (λ l. inst l u) (universals a s)) (record s { terms = s.terms ++ record { type = a; term = u } ∷ [] })

abbrev pub with_terms : Mode → SimpleType → List Lambda → State → State
with_terms mode a [] s = s
with_terms mode a (u ∷ us) s = with_terms mode a us (with_term mode a u s)

-- A partial term is opened: it is parked, and its first hole is to be filled with each head that fits.
abbrev pub with_opening : Setting → Sketch → State → State
with_opening setting p s =
    with_commands setting.mode (map (grow p) (heads_for s.offers (scope_in setting s) (first_hole [] p.partial)))
    (record s { parked = s.parked ++ p ∷ [] })

-- the first terms of a base type: falsity and its negation for formulas, and else what the empty predicate chooses
abbrev pub first_terms : SimpleType → List Lambda
first_terms (base zero) = constant falsity ∷ neg (constant falsity) ∷ []
first_terms (base (suc n)) = app (constant (choice (base (suc n)))) (lam (base (suc n)) (constant falsity)) ∷ []
first_terms (arrow a b) = []
