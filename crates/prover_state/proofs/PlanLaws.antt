-- The commands that wait have their numbers one after the other, as they come and go.
use Rattle.std.specs.Prelude.{◌≡◌, ◌<◌, ℕ, suc, List, refl}
use Rattle.std.proofs.Common.{sym, subst, arith}
use Rattle.command_queue.specs.declared.entry.Entry.{Entry}
use Rattle.command_queue.specs.Queue.{Queue, AddsEntry, AddsEntryAt, TakesEntry}
use Rattle.tableau_calculus.specs.Each.{Each}
use Rattle.prover_state.specs.declared.command.Planned.{Planned}
use Rattle.prover_state.specs.Internal.Pending.{span, EndsBelow, IsApart, AreSpaced}
use Rattle.prover_state.proofs.EachLaws.{each-from_All, each-left, each-right}
use Rattle.prover_state.proofs.SpacedLaws.{spaced-last, spaced-without, spaced-between, all_before, all_behind}

module _ {R : Type 0} (old new : Queue Planned R) (spaced : AreSpaced old.entries old.pushes) where
  pub spaced-pushed : (numbers d : ℕ) (p : Planned) → numbers ≡ suc (span p) → AddsEntry old new numbers d p → AreSpaced new.entries new.pushes
  spaced-pushed numbers d p count adds =
      let Q : List (Entry Planned) → Type 0 = λ es. AreSpaced es new.pushes in
      subst Q (sym adds.entries)
      (spaced-last old.entries (record { due = d; number = old.pushes; command = p }) old.pushes new.pushes spaced refl (omega (arith, adds.pushes)) (omega (arith, adds.pushes, count)))

  pub spaced-taken : (e : Entry Planned) → TakesEntry old new e → AreSpaced new.entries new.pushes
  spaced-taken e takes =
      let Q : List (Entry Planned) → Type 0 = λ es. AreSpaced es old.pushes in
      let N : ℕ → Type 0 = λ n. AreSpaced new.entries n in
      subst N (sym takes.pushes) (subst Q (sym takes.leaves) (spaced-without takes.before e takes.behind old.pushes (subst Q takes.stands spaced)))

  pub spaced-put_back : (e : Entry Planned) → Each (IsApart e) old.entries → EndsBelow old.pushes e → AddsEntryAt old new e → AreSpaced new.entries new.pushes
  spaced-put_back e apart below adds =
      let Q : List (Entry Planned) → Type 0 = λ es. AreSpaced es old.pushes in
      let N : ℕ → Type 0 = λ n. AreSpaced new.entries n in
      let A : List (Entry Planned) → Type 0 = λ es. Each (IsApart e) es in
      let apart' = subst A adds.stood apart in
      subst N (sym adds.pushes) (subst Q (sym adds.stands)
      (spaced-between adds.before e adds.behind old.pushes (subst Q adds.stood spaced)
      (all_before e adds.before (each-from_All (λ (x : Entry Planned). x.number < e.number) adds.before adds.below) (each-left (IsApart e) adds.before adds.behind apart'))
      (all_behind e adds.behind (each-from_All (λ (x : Entry Planned). e.number < x.number) adds.behind adds.above) (each-right (IsApart e) adds.before adds.behind apart')) below))
