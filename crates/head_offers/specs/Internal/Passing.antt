-- Heads that pass a test.
use Rattle.std.specs.Prelude.{ℕ, nat_eq, Bool, false, List, Option, Some, None}
use Rattle.std.specs.List.{list_any}
use Rattle.stt_core.specs.SimpleType.{SimpleType}
use Rattle.stt_core.specs.Lambda.{Constant, name, all, equality, choice, description, Lambda, bound, constant, lam, app}
use Rattle.term_bank.specs.Terms.{term_at}
use Rattle.search_spec.specs.Offers.{has_base}

-- whether the head of a term is a constant that passes a test
abbrev pub head_passes : (Constant → Bool) → Lambda → Bool
head_passes test (constant c) = test c
head_passes test (app s u) = head_passes test s
head_passes test (bound k) = false
head_passes test (lam a s) = false

-- whether one of the heads of these terms is one
abbrev pub any_passes : List Lambda → (Constant → Bool) → List ℕ → Bool
any_passes terms test ids = list_any (λ id. head_passes test (term_at terms id)) ids

-- the name that a head is, where it is one
abbrev pub name_number : Lambda → Option ℕ
name_number (constant (name k)) = Some k
name_number t = None

-- the type over which a head of the logic's own is one
abbrev pub ranged_in : Lambda → Option SimpleType
ranged_in (constant (all a)) = Some a
ranged_in (constant (equality a)) = Some a
ranged_in (constant (choice a)) = Some a
ranged_in (constant (description a)) = Some a
ranged_in t = None

abbrev pub is_number : ℕ → Option ℕ → Bool
is_number k None = false
is_number k (Some j) = nat_eq j k

abbrev pub has_base_if_any : ℕ → Option SimpleType → Bool
has_base_if_any n None = false
has_base_if_any n (Some a) = has_base n a
