use Rattle.std.proofs.Common.{◌<◌, ℕ, List, [], length, slice_get, sym, ap, subst, ◌∙◌}
use Rattle.stt_core.specs.SimpleType.{base}
use Rattle.instantiate.specs.Listing.{ids_of}
use Rattle.search_spec.specs.Partial.{first_hole}
use Rattle.prover_state.specs.declared.command.Command.{Command}
use Rattle.prover_state.specs.declared.command.Command.TheVariants.{Grow}
use Rattle.prover_state.specs.Internal.Names.{sketch_at, command_at, IsNumberedCommand}
use Rattle.prover_state.specs.Internal.Pending.{base_of, over_parked}
use Rattle.prover_state.specs.Internal.Standing.{naming_in, sketches_in, sources}
use Rattle.prover_state.proofs.EachLaws.{each-at}
use Rattle.prover_state.proofs.LoopLists.{got-mapped, within-mapped}
use Rattle.prover_state.proofs.HoleLaws.{parked-loop, parked-below}
use Rattle.prover_state.proofs.tables.Tables.in_parked.Goals as goal

pub number_at-requires : goal.number_at-requires
number_at-requires c =
    let t = c.args.self.now in
    let p = c.in-Grow.p in
    let n = base_of (first_hole [] (sketch_at (sketches_in t) p).partial) in
    let W : Command → Type 0 = λ f. c.args.place < length (over_parked (sources t) (command_at (naming_in t) f)) in
    subst (λ (xs : List ℕ). c.args.place < length xs) (sym c.parked_like.ensures)
    (within-mapped (over_parked (sources t) (command_at (naming_in t) (Grow p c.in-Grow.h))) (λ i. command_at (naming_in t) (Grow i c.in-Grow.h)) (ids_of (base n) t.holes) (parked-loop t c.requires.right.0 c.requires.right.1 p c.in-Grow.h) c.args.place (subst W c.in-Grow.is c.requires.within))

pub returns-clause-command : goal.returns-clause-command
returns-clause-command c =
    let t = c.args.self.now in
    let p = c.in-Grow.p in
    let n = base_of (first_hole [] (sketch_at (sketches_in t) p).partial) in
    ap (λ f. slice_get (over_parked (sources t) (command_at (naming_in t) f)) c.args.place) c.in-Grow.is
    ∙ got-mapped (over_parked (sources t) (command_at (naming_in t) (Grow p c.in-Grow.h))) (λ i. command_at (naming_in t) (Grow i c.in-Grow.h)) (ids_of (base n) t.holes) (parked-loop t c.requires.right.0 c.requires.right.1 p c.in-Grow.h) c.args.place c.number_at.result
    (ap (λ (xs : List ℕ). slice_get xs c.args.place) (sym c.parked_like.ensures) ∙ c.number_at.ensures)

pub returns-clause-numbers : goal.returns-clause-numbers
returns-clause-numbers c =
    let t = c.args.self.now in
    let p = c.in-Grow.p in
    let n = base_of (first_hole [] (sketch_at (sketches_in t) p).partial) in
    let numbers = subst (IsNumberedCommand (naming_in t)) c.in-Grow.is c.requires.numbers in
    (each-at (λ i. i < length (sketches_in t)) (ids_of (base n) t.holes) c.args.place c.number_at.result (parked-below t c.requires.right.0 c.requires.right.1 n) (ap (λ (xs : List ℕ). slice_get xs c.args.place) (sym c.parked_like.ensures) ∙ c.number_at.ensures), numbers.1)
