-- Heads of holes by numbers, which are the same in each search.
use Rattle.std.specs.Prelude.{ℕ, zero, suc, ◌*◌, ◌/◌, ◌%◌, ◌^◌, ◌<◌}
use Rattle.stt_core.specs.SimpleType.{base}
use Rattle.stt_core.specs.Lambda.{Lambda, bound, constant, name, witness, falsity, negation, implication, all, equality, choice}

-- the head of a kind with this number: a variable, a name, a witness, or a constant of the logic, some of them at a base type
abbrev pub head_of_kind : ℕ → ℕ → Lambda
head_of_kind zero k = bound k
head_of_kind (suc zero) k = constant (name k)
head_of_kind (suc (suc zero)) k = constant (witness k)
head_of_kind (suc (suc (suc zero))) k = constant (all (base k))
head_of_kind (suc (suc (suc (suc zero)))) k = constant (equality (base k))
head_of_kind (suc (suc (suc (suc (suc zero))))) k = constant (choice (base k))
head_of_kind (suc (suc (suc (suc (suc (suc zero)))))) k = constant falsity
head_of_kind (suc (suc (suc (suc (suc (suc (suc zero))))))) k = constant negation
head_of_kind (suc (suc (suc (suc (suc (suc (suc (suc n)))))))) k = constant implication

-- In the list of all heads the nine kinds take turns.
abbrev pub head_numbered : ℕ → Lambda
head_numbered h = head_of_kind (h % 9) (h / 9)

-- the number is that of a head
abbrev pub IsHeadNumber : ℕ → Type 0
IsHeadNumber h = h < 9 * 2 ^ 32
