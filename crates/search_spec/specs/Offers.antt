-- What the keys of a mode change in what the search goes over: which terms there are at once, and which heads grow partial terms. At its
-- standard number a key changes nothing.
use Rattle.std.specs.Prelude.{ℕ, zero, suc, ◌+◌, ◌==◌, ◌&&◌, ◌||◌, nat_eq, not, slice_index_or, Bool, true, false, length, List, [], ◌∷◌, if◌then◌else◌}
use Rattle.std.specs.List.{list_any}
use Rattle.stt_core.specs.SimpleType.{SimpleType, base, arrow, same_type}
use Rattle.stt_core.specs.Lambda.{Constant, name, witness, all, equality, choice, description, Lambda, bound, constant, lam, app}
use Rattle.stt_core.specs.Typing.{Scope}
use Rattle.normal_forms.specs.Normal.{eta}
use Rattle.tableau_calculus.specs.Literals.{Literal}
use Rattle.tableau_calculus.specs.Witnesses.{Row}
use Rattle.mode_file.specs.declared.Mode.{Mode}
use Rattle.search_spec.specs.Heads.{HeadOffers}
use Rattle.search_spec.specs.State.{State}
use Rattle.search_spec.specs.Terms.{ranges_over}

-- whether witnesses, and the sides of negated equations between functions, are terms at once
abbrev pub offers_terms : Mode → Bool
offers_terms mode = not (mode.terms == 0)

-- whether a processed literal says of a predicate on the type that it holds everywhere
abbrev pub is_ranged_over : SimpleType → State → Bool
is_ranged_over a s = list_any (λ l. l.positive && ranges_over a l.atom) s.noted

-- Whether a type is prepared: a function type is where one of its partial terms is parked, and a base type where it has terms, or where
-- terms are offered once a processed literal ranges over it.
abbrev pub is_prepared : Mode → SimpleType → State → Bool
is_prepared mode (base n) s = if offers_terms mode then is_ranged_over (base n) s else list_any (λ u. same_type (base n) u.type) s.terms
is_prepared mode (arrow a b) s = list_any (λ p. same_type (arrow a b) p.type) s.parked

-- the witnesses of exactly this type in their eta-long forms, in order; that of the first row has this number
abbrev pub witness_terms : SimpleType → ℕ → List Row → List Lambda
witness_terms a k [] = []
witness_terms a k (r ∷ rows) =
    if same_type a r.type then eta a (constant (witness k)) ∷ witness_terms a (suc k) rows else witness_terms a (suc k) rows

-- the terms that a type gets before its first ones where it is prepared
abbrev pub early_terms : Mode → SimpleType → State → List Lambda
early_terms mode a s = if offers_terms mode then witness_terms a 0 s.rows else []

-- whether a new witness of a type is one of its terms at once: a base type takes it always, a function type where it is prepared
abbrev pub takes_witness : Mode → SimpleType → State → Bool
takes_witness mode (base n) s = offers_terms mode
takes_witness mode (arrow a b) s = offers_terms mode && is_prepared mode (arrow a b) s

-- the new witness of a type, where it is a term at once
abbrev pub offered_witness : Mode → SimpleType → Lambda → State → List Lambda
offered_witness mode a w s = if takes_witness mode a s then eta a w ∷ [] else []

-- the sides of a negated equation between functions, where they are terms at once
abbrev pub offered_sides : Mode → Lambda → Lambda → List Lambda
offered_sides mode s t = if offers_terms mode then s ∷ t ∷ [] else []

-- whether a constant that passes a test occurs in a term
abbrev pub has_constant : (Constant → Bool) → Lambda → Bool
has_constant test (bound k) = false
has_constant test (constant c) = test c
has_constant test (lam a t) = has_constant test t
has_constant test (app s t) = has_constant test s || has_constant test t

-- whether one occurs in a literal of the start
abbrev pub has_in_start : (Constant → Bool) → List Literal → Bool
has_in_start test start = list_any (λ l. has_constant test l.atom) start

abbrev pub is_name : ℕ → Constant → Bool
is_name k (name j) = nat_eq j k
is_name k c = false

abbrev pub has_base : ℕ → SimpleType → Bool
has_base n (base m) = nat_eq m n
has_base n (arrow a b) = has_base n a || has_base n b

-- whether a base type other than that of formulas occurs in the type of a constant, where the names have these types
abbrev pub is_over : List SimpleType → ℕ → Constant → Bool
is_over names n (name k) = has_base n (slice_index_or names k (base 0))
is_over names n (all a) = has_base n a
is_over names n (equality a) = has_base n a
is_over names n (choice a) = has_base n a
is_over names n (description a) = has_base n a
is_over names n c = false

abbrev pub is_selection : Constant → Bool
is_selection (choice a) = true
is_selection (description a) = true
is_selection c = false

-- whether heads are offered that don't occur in the start
abbrev pub offers_unseen : Mode → Bool
offers_unseen mode = mode.names == 0

-- the answers of a test to so many numbers, from one on
abbrev pub answers_from : (ℕ → Bool) → ℕ → ℕ → List Bool
answers_from test k zero = []
answers_from test k (suc n) = test k ∷ answers_from test (suc k) n

-- Which heads are offered to holes: all of them, or the names that occur in the start, the equality on the base types that occur in types
-- there and the quantifier over them, and choices where one occurs there, or a description.
abbrev pub offered_heads : Mode → Scope → List Literal → HeadOffers
offered_heads mode scope start = record {
  names = answers_from (λ k. offers_unseen mode || has_in_start (is_name k) start) 0 (length scope.names);
  bases = answers_from (λ n. offers_unseen mode || has_in_start (is_over scope.names n) start) 0 (scope.bases + 2);
  choices = offers_unseen mode || has_in_start is_selection start;
}
