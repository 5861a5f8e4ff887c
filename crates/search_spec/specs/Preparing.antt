-- Types over which quantifiers range are prepared.
use Rattle.std.specs.Prelude.{if◌then◌else◌}
use Rattle.stt_core.specs.SimpleType.{SimpleType, base, arrow}
use Rattle.search_spec.specs.Partial.{blank_partial}
use Rattle.search_spec.specs.State.{State, Setting}
use Rattle.search_spec.specs.Terms.{with_terms, with_opening, first_terms}
use Rattle.search_spec.specs.Offers.{is_prepared, early_terms}

-- a base type gets its first terms, and for a function type one hole under its binders is opened
abbrev pub with_beginning : Setting → SimpleType → State → State
with_beginning setting (base n) s = with_terms setting.mode (base n) (first_terms (base n)) s
with_beginning setting (arrow a b) s = with_opening setting (record { type = arrow a b; partial = blank_partial (arrow a b) }) s

-- A type is prepared, unless it was before: it gets the terms that are offered early, and begins.
abbrev pub with_preparation : Setting → SimpleType → State → State
with_preparation setting a s =
    if is_prepared setting.mode a s then s else with_beginning setting a (with_terms setting.mode a (early_terms setting.mode a s) s)
