-- The refutation of a run that closes a schedule.
use Rattle.std.specs.Prelude.{◌≡◌, ℕ, List, slice_get, length, Option, Some, None, refl}
use Rattle.std.proofs.Common.{sym, subst, ◌∙◌}
use Rattle.std.proofs.lemmas.Option.{same_Some}
use Rattle.tableau_calculus.specs.Literals.{Literal}
use Rattle.tableau_calculus.specs.declared.refutation.Refutation.{Refutation}
use Rattle.sat_core.specs.Solver.{learned}
use Rattle.search_spec.specs.State.{Setting}
use Rattle.search_spec.specs.Result.{GoesOnUntil}
use Rattle.mode_file.specs.declared.Mode.{Mode}
use Rattle.command_queue.specs.Queue.{Queue}
use Rattle.prover_state.specs.declared.command.Planned.{Planned}
use Rattle.prover_state.specs.declared.command.Delays.{Delays}
use Rattle.prover_state.specs.declared.tables.Tables.{Tables}
use Rattle.prover_state.specs.Internal.Standing.{without_witnesses, rows_in, setting_by}
use Rattle.prover_search.specs.Internal.Running.{start_in}
use Rattle.prover_search.specs.Internal.Progress.{Progress}
use Rattle.prover_search.specs.Internal.Answers.{StepCloses}
use Rattle.prover_run.specs.Ended.{RefutesFrom, IsProvedBy}
use Rattle.prover_run.specs.RunTables.{clauses_of}
use Rattle.prover_run.proofs.RunLaws.{is-proved}
use Rattle.mode_schedule.specs.declared.ended.Ended.{Ended}
use Rattle.mode_schedule.specs.declared.ended.Ended.TheVariants.{Closed}
use Rattle.mode_schedule.specs.Turns.{Slot}
use Rattle.mode_schedule.specs.Ends.{IsLeft, WhereClosedBy}
use Rattle.mode_schedule.specs.Internal.Searching.{IsClosedAfter}

-- the run that closes a schedule is left
module _ {S : Type 0} (Left : Setting → ℕ → S → Type 0) (slots : List Slot) (start : List Literal) (runs : List (Option S)) where
  pub closed-left : (e : Ended) (block total : ℕ) → e ≡ Closed block total → WhereClosedBy e (IsLeft Left slots start runs) → IsLeft Left slots start runs block
  closed-left e block total is h = subst (λ (x : Ended). WhereClosedBy x (IsLeft Left slots start runs)) is h

  -- and it is the run that is there
  pub left-held : (number : ℕ) (left : IsLeft Left slots start runs number) (run : S) → slice_get runs number ≡ Some (Some run) → Left left.slot.setting left.commands run
  left-held number left run e =
      subst (Left left.slot.setting left.commands) (same_Some left.run run (same_Some (Some left.run) (Some run) (sym left.its_run ∙ e))) left.left

-- what refutes the clauses of a search that is left closed, refutes its run
module _ (setting : Setting) (start : List Literal) (n : ℕ) (t : Tables) (q : Queue Planned Delays) (m : Mode) (left : IsClosedAfter setting start n t q m) (until : GoesOnUntil setting start n) where
  abbrev here : Progress
  here = record { tables = t; plan = q }

  until_here : GoesOnUntil (setting_by t q) (start_in t) t.done
  until_here =
      subst (λ (s : Setting). GoesOnUntil s (start_in t) t.done) (sym left.setting_is)
      (subst (λ (ls : List Literal). GoesOnUntil setting ls t.done) (sym left.start_is) (subst (GoesOnUntil setting start) (sym left.done_is) until))

  closes_here : StepCloses here here
  closes_here = record { unsatisfiable = left.closed.unsatisfiable; stays = record { state = refl; done = refl }; ends = left.closed.ends; propagated = left.closed.propagated }

  pub proved-by : (refutation : Refutation) → RefutesFrom (without_witnesses t.basis.bank) (start_in t) (rows_in t.basis) (clauses_of t) (length (learned t.solver)) refutation → IsProvedBy setting start n refutation
  proved-by refutation refutes =
      let running = left.under_way.running in
      let by : IsProvedBy (setting_by t q) (start_in t) t.done refutation = (is-proved t q running t q refutation None None closes_here running.right refl (record { refutes = refutes; tree = tt }) until_here).0 in
      subst (λ (s : Setting). IsProvedBy s start n refutation) left.setting_is
      (subst (λ (ls : List Literal). IsProvedBy (setting_by t q) ls n refutation) left.start_is
      (subst (λ (k : ℕ). IsProvedBy (setting_by t q) (start_in t) k refutation) left.done_is by))
