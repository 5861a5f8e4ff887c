-- Turns of searches.
use Rattle.std.specs.Prelude.{◌≡◌, ◌+◌, ℕ, Bool, false, List}
use Rattle.std.proofs.Common.{sym, ap, subst, ◌∙◌, arith}
use Rattle.tableau_calculus.specs.Literals.{Literal}
use Rattle.search_spec.specs.State.{Setting}
use Rattle.mode_file.specs.declared.Mode.{Mode}
use Rattle.command_queue.specs.Queue.{Queue}
use Rattle.prover_state.specs.declared.command.Planned.{Planned}
use Rattle.prover_state.specs.declared.command.Delays.{Delays}
use Rattle.prover_state.specs.declared.tables.Tables.{Tables}
use Rattle.prover_state.specs.Internal.Standing.{setting_by}
use Rattle.prover_search.specs.Internal.Running.{start_in, IsUnderWay}
use Rattle.mode_schedule.specs.declared.turned.Turned.{Turned}
use Rattle.mode_schedule.specs.declared.turned.Turned.TheVariants.{Closed, HasNoneLeft, IsAtLimit, Spent, Paused}
use Rattle.mode_schedule.specs.Internal.Searching.{IsReadyAt, IsClosedAfter, ClosesSearch}
use Rattle.mode_schedule.specs.Internal.Turning.{TurnEnds, WherePaused, WhereClosed, TookTurn}

module _ (setting : Setting) (start : List Literal) (n : ℕ) (t : Tables) (q : Queue Planned Delays) (m : Mode) (refused : Bool) (at : IsReadyAt setting start n t q m refused) (t2 : Tables) (q2 : Queue Planned Delays) (m2 : Mode) (refused2 : Bool)
    (under_way : IsUnderWay t2 q2 m2) (same : setting_by t2 q2 ≡ setting_by t q) (literals : start_in t2 ≡ start_in t) (ready : refused2 ≡ false) (slice commands : ℕ) (done : n + commands ≡ t2.done) where
  its_setting : setting_by t2 q2 ≡ setting
  its_setting = same ∙ at.at.setting_is

  its_start : start_in t2 ≡ start
  its_start = literals ∙ at.at.start_is

  ends_so : (turned : Turned) → TurnEnds (setting_by t q) (start_in t) slice t.done t2.done turned → TurnEnds setting start slice n (n + commands) turned
  ends_so turned h =
      subst (λ (s : Setting). TurnEnds s start slice n (n + commands) turned) at.at.setting_is
      (subst (λ (ls : List Literal). TurnEnds (setting_by t q) ls slice n (n + commands) turned) at.at.start_is
      (subst (λ k. TurnEnds (setting_by t q) (start_in t) slice k (n + commands) turned) at.at.done_is
      (subst (λ k. TurnEnds (setting_by t q) (start_in t) slice t.done k turned) (sym done) h)))

  waits : (turned : Turned) → TurnEnds setting start slice n (n + commands) turned → WherePaused turned (IsReadyAt setting start (n + commands) t2 q2 m2 refused2)
  waits Closed h = tt
  waits HasNoneLeft h = tt
  waits IsAtLimit h = tt
  waits (Spent conflicts) h = tt
  waits Paused h = record { at = record { under_way = under_way; setting_is = its_setting; start_is = its_start; done_is = sym done; until = h.1 }; ready = ready }

  closes_so : (turned : Turned) → ClosesSearch t2 q2 turned → WhereClosed turned (IsClosedAfter setting start (n + commands) t2 q2 m2)
  closes_so Closed h = record { under_way = under_way; setting_is = its_setting; start_is = its_start; done_is = sym done; closed = h }
  closes_so HasNoneLeft h = tt
  closes_so IsAtLimit h = tt
  closes_so (Spent conflicts) h = tt
  closes_so Paused h = tt

  pub took-turn : (turned : Turned) → TurnEnds (setting_by t q) (start_in t) slice t.done t2.done turned → ClosesSearch t2 q2 turned
      → TookTurn (λ k. IsReadyAt setting start k t2 q2 m2 refused2) (λ k. IsClosedAfter setting start k t2 q2 m2) setting start slice n turned commands
  took-turn turned h closed =
      let ends = ends_so turned h in
      let limit : q2.rule.mode.commands ≡ setting.mode.commands = ap (λ (s : Setting). s.mode.commands) its_setting in
      record { ends = ends; within = omega (arith, under_way.running.within, done, limit); paused = waits turned ends; closed = closes_so turned closed }
