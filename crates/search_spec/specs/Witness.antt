-- The witness of a predicate that doesn't hold everywhere.
use Rattle.std.specs.Prelude.{ℕ, ◌++◌, ◌&&◌, nat_eq, Bool, false, List, [], ◌∷◌, map, filter, Option, Some, None, if◌then◌else◌}
use Rattle.std.specs.List.{list_any, position_or_len}
use Rattle.stt_core.specs.SimpleType.{SimpleType, same_type, target}
use Rattle.stt_core.specs.Lambda.{Lambda, constant, witness, every}
use Rattle.stt_core.specs.SameTerm.{same_term}
use Rattle.tableau_calculus.specs.Literals.{minus}
use Rattle.tableau_calculus.specs.Witnesses.{Row}
use Rattle.search_spec.specs.Partial.{Hole, first_hole}
use Rattle.search_spec.specs.State.{State, Setting, Sketch, grow, with_commands}
use Rattle.tableau_calculus.specs.Rules.{all_neg}
use Rattle.search_spec.specs.Terms.{with_terms}
use Rattle.search_spec.specs.Offers.{offered_witness}
use Rattle.search_spec.specs.Instances.{with_instance}

abbrev pub same_row : Row → Row → Bool
same_row q r = same_type q.type r.type && same_term q.predicate r.predicate

-- the witness of a row: its place in the table, or the place behind the table
abbrev pub witness_of : List Row → Row → Lambda
witness_of rows r = constant (witness (position_or_len (same_row r) rows))

abbrev pub is_hole_of : ℕ → Option Hole → Bool
is_hole_of n None = false
is_hole_of n (Some h) = nat_eq h.base n

-- whether a partial term's first hole has this base type
abbrev pub has_hole_of : ℕ → Sketch → Bool
has_hole_of n p = is_hole_of n (first_hole [] p.partial)

-- each parked partial term whose first hole takes a witness of this type is to be filled with it
abbrev pub with_new_witness : Setting → SimpleType → Lambda → State → State
with_new_witness setting a w s = with_commands setting.mode (map (λ p. grow p w) (filter (has_hole_of (target a)) s.parked)) s

-- The rule for a predicate that doesn't hold everywhere, with the witness w: the one of the table, or a new one, with which the partial
-- terms grow afterwards.
abbrev pub with_witness : Setting → SimpleType → Lambda → State → State
with_witness setting a f s =
    let r : Row = record { type = a; predicate = f } in
    let w = witness_of s.rows r in
    let added = with_instance setting.mode (minus (every a f) ∷ []) (all_neg a f w) in
    if list_any (same_row r) s.rows then added s
    else with_new_witness setting a w (added (record s { rows = s.rows ++ r ∷ [] }))

-- What is done for the denial: the rule, and a new witness is a term afterwards where it is offered as one.
abbrev pub with_denied : Setting → SimpleType → Lambda → State → State
with_denied setting a f s =
    let r : Row = record { type = a; predicate = f } in
    let done = with_witness setting a f s in
    if list_any (same_row r) s.rows then done
    else with_terms setting.mode a (offered_witness setting.mode a (witness_of s.rows r) done) done
