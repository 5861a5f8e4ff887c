-- What a mode's key `defaults` makes wait longer: what stands for a value of which nothing is known. At its standard number it adds
-- nothing.
use Rattle.std.specs.Prelude.{ℕ, ◌&&◌, nat_lt, Bool, true, false, if◌then◌else◌}
use Rattle.stt_core.specs.SimpleType.{SimpleType, base, arrow}
use Rattle.stt_core.specs.Lambda.{falsity, choice, Lambda, constant, lam, app}
use Rattle.mode_file.specs.declared.Mode.{Mode}

-- whether a type is a base type other than that of formulas
abbrev pub is_value_type : SimpleType → Bool
is_value_type (base n) = nat_lt 0 n
is_value_type (arrow a b) = false

-- whether a head is the choice on such a type
abbrev pub is_value_choice : Lambda → Bool
is_value_choice (constant (choice a)) = is_value_type a
is_value_choice t = false

abbrev pub is_falsehood : Lambda → Bool
is_falsehood (constant falsity) = true
is_falsehood t = false

-- whether a term is a predicate that holds of nothing
abbrev pub holds_of_nothing : Lambda → Bool
holds_of_nothing (lam a t) = is_falsehood t
holds_of_nothing t = false

-- whether a term is the default one of its type: what is chosen by the predicate that holds of nothing
abbrev pub is_default_term : Lambda → Bool
is_default_term (app h f) = is_value_choice h && holds_of_nothing f
is_default_term t = false

-- how much longer a command waits, by whether it brings in a default
abbrev pub default_delay : Mode → Bool → ℕ
default_delay mode brings = if brings then mode.defaults else 0
