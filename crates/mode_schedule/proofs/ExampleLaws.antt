-- The worked examples of schedules.
use Rattle.std.specs.Prelude.{◌≤◌, ℕ, List, refl}
use Rattle.std.proofs.Common.{arith}
use Rattle.tableau_calculus.specs.Literals.{Literal}
use Rattle.search_spec.specs.State.{Setting}
use Rattle.search_spec.specs.Result.{GoesOnUntil}
use Rattle.mode_schedule.specs.Turns.{has_none_left, is_at_limit, goes_on, closes, ends_after, no_turn_left}
use Rattle.mode_schedule.specs.Laws.{FirstCloses, FirstHasNoneLeft, SecondCloses}

-- a run that goes on until some command goes on until an earlier one
pub until-fewer : (setting : Setting) (start : List Literal) (m n : ℕ) → m ≤ n → GoesOnUntil setting start n → GoesOnUntil setting start m
until-fewer setting start m n h until k l = until k (omega (arith, h, l))

pub first_closes : FirstCloses
first_closes first second start p =
    ends_after _ _ _ (goes_on _ _ _ (record { is_next = refl; its_slot = refl }) (until-fewer first start 3 8 (omega arith) p.until))
    (ends_after _ _ _ (goes_on _ _ _ (record { is_next = refl; its_slot = refl }) (until-fewer first start 6 8 (omega arith) p.until))
    (closes _ _ _ 2 (record { is_next = refl; its_slot = refl }) (omega arith) p))

pub first_has_none_left : FirstHasNoneLeft
first_has_none_left first second start p q =
    ends_after _ _ _ (goes_on _ _ _ (record { is_next = refl; its_slot = refl }) p.until)
    (ends_after _ _ _ (is_at_limit _ _ _ 0 (record { is_next = refl; its_slot = refl }) (omega arith) q)
    (ends_after _ _ _ (has_none_left _ _ _ 0 (record { is_next = refl; its_slot = refl }) (omega arith) p)
    (no_turn_left _ refl)))

pub second_closes : SecondCloses
second_closes first second start p q =
    ends_after _ _ _ (goes_on _ _ _ (record { is_next = refl; its_slot = refl }) (until-fewer first start 1 9 (omega arith) p.until))
    (ends_after _ _ _ (goes_on _ _ _ (record { is_next = refl; its_slot = refl }) (until-fewer second start 1 3 (omega arith) q.until))
    (ends_after _ _ _ (goes_on _ _ _ (record { is_next = refl; its_slot = refl }) (until-fewer first start 2 9 (omega arith) p.until))
    (ends_after _ _ _ (goes_on _ _ _ (record { is_next = refl; its_slot = refl }) (until-fewer second start 2 3 (omega arith) q.until))
    (ends_after _ _ _ (goes_on _ _ _ (record { is_next = refl; its_slot = refl }) (until-fewer first start 3 9 (omega arith) p.until))
    (ends_after _ _ _ (goes_on _ _ _ (record { is_next = refl; its_slot = refl }) q.until)
    (ends_after _ _ _ (goes_on _ _ _ (record { is_next = refl; its_slot = refl }) (until-fewer first start 4 9 (omega arith) p.until))
    (closes _ _ _ 0 (record { is_next = refl; its_slot = refl }) (omega arith) q)))))))
