-- Runs at their places.
use Rattle.std.specs.Prelude.{◌≡◌, ◌+◌, ℕ, List, Option, Some, None}
use Rattle.std.proofs.Common.{sym, subst, ◌∙◌}
use Rattle.std.proofs.lemmas.Option.{same_Some}
use Rattle.tableau_calculus.specs.Literals.{Literal}
use Rattle.search_spec.specs.State.{Setting}
use Rattle.mode_schedule.specs.declared.turned.Turned.{Turned}
use Rattle.mode_schedule.specs.declared.turned.Turned.TheVariants.{Closed, HasNoneLeft, IsAtLimit, Spent, Paused}
use Rattle.mode_schedule.specs.Internal.Turning.{IsRunThere, TookTurn, TookPlace, WherePaused, WhereClosed, WhereLeft}

module _ {S : Type 0} (At : ℕ → S → Type 0) (n : ℕ) (place : Option S) where
  pub placed : (run : S) → IsRunThere At n place → place ≡ Some run → At n run
  placed run there e = subst (At n) (same_Some there.run run (sym there.place_is ∙ e)) there.holds

  pub no_none : IsRunThere At n place → place ≡ None → ⊥
  no_none there e = let some = there.place_is in absurd (cc)

there_now : {S : Type 0} (P : ℕ → S → Type 0) (n : ℕ) (run : S) (place : Option S) → place ≡ Some run → P n run → IsRunThere P n place
there_now P n run place e h = record { run = run; place_is = e; holds = h }

-- a turn of the run at a place, which is dropped where it leaves
pub took_place : {S : Type 0} (At Left : ℕ → S → Type 0) (setting : Setting) (start : List Literal) (slice n : ℕ) (run : S) (place : Option S) (turned : Turned) (commands : ℕ)
    → TookTurn (λ k. At k run) (λ k. Left k run) setting start slice n turned commands
    → WhereLeft turned (place ≡ None) → WherePaused turned (place ≡ Some run) → WhereClosed turned (place ≡ Some run)
    → TookPlace At Left setting start slice n place turned commands
took_place At Left setting start slice n run place Closed commands t left paused closed =
    record { ends = t.ends; within = t.within; paused = tt; closed = there_now Left (n + commands) run place closed t.closed; left = tt }
took_place At Left setting start slice n run place HasNoneLeft commands t left paused closed =
    record { ends = t.ends; within = t.within; paused = tt; closed = tt; left = left }
took_place At Left setting start slice n run place IsAtLimit commands t left paused closed =
    record { ends = t.ends; within = t.within; paused = tt; closed = tt; left = left }
took_place At Left setting start slice n run place (Spent conflicts) commands t left paused closed =
    record { ends = t.ends; within = t.within; paused = tt; closed = tt; left = tt }
took_place At Left setting start slice n run place Paused commands t left paused closed =
    record { ends = t.ends; within = t.within; paused = there_now At (n + commands) run place paused t.paused; closed = tt; left = tt }
