use Rattle.std.proofs.Common.{◌<◌, ℕ, List, length, slice_get, sym, ap, subst, ◌∙◌}
use Rattle.literal_map.specs.Atoms.{bank_literal}
use Rattle.prover_state.specs.declared.command.Command.{Command}
use Rattle.prover_state.specs.declared.command.Command.TheVariants.{Inst}
use Rattle.prover_state.specs.Internal.Names.{command_at, IsPlace, IsNumberedCommand}
use Rattle.prover_state.specs.Internal.Pending.{range_of, over_terms}
use Rattle.prover_state.specs.Internal.Standing.{naming_in, sources}
use Rattle.instantiate.specs.Listing.{ids_of}
use Rattle.prover_state.proofs.EachLaws.{each-at}
use Rattle.prover_state.proofs.PlaceLaws.{places-of}
use Rattle.prover_state.proofs.LoopLists.{terms-loop, got-mapped, within-mapped}
use Rattle.prover_state.proofs.tables.Tables.in_terms.Goals as goal

pub id_of-requires : goal.id_of-requires
id_of-requires c =
    let t = c.args.self.now in
    let first = command_at (naming_in t) (Inst c.in-Inst.lit c.in-Inst.field-1) in
    let a = range_of (bank_literal t.basis.bank.terms t.basis.lits c.in-Inst.lit).atom in
    let W : Command → Type 0 = λ f. c.args.place < length (over_terms (sources t) (command_at (naming_in t) f)) in
    subst (λ (xs : List ℕ). c.args.place < length xs) (sym c.listed_under-ids.ensures)
    (within-mapped (over_terms (sources t) first) (λ i. command_at (naming_in t) (Inst c.in-Inst.lit i)) (ids_of a t.terms) (terms-loop t c.requires.right.0 c.requires.right.1 c.in-Inst.lit c.in-Inst.field-1) c.args.place (subst W c.in-Inst.is c.requires.within))

pub returns-clause-command : goal.returns-clause-command
returns-clause-command c =
    let t = c.args.self.now in
    let first = command_at (naming_in t) (Inst c.in-Inst.lit c.in-Inst.field-1) in
    let a = range_of (bank_literal t.basis.bank.terms t.basis.lits c.in-Inst.lit).atom in
    ap (λ f. slice_get (over_terms (sources t) (command_at (naming_in t) f)) c.args.place) c.in-Inst.is
    ∙ got-mapped (over_terms (sources t) first) (λ i. command_at (naming_in t) (Inst c.in-Inst.lit i)) (ids_of a t.terms) (terms-loop t c.requires.right.0 c.requires.right.1 c.in-Inst.lit c.in-Inst.field-1) c.args.place c.id_of.result
    (ap (λ (xs : List ℕ). slice_get xs c.args.place) (sym c.listed_under-ids.ensures) ∙ c.id_of.ensures)

pub returns-clause-numbers : goal.returns-clause-numbers
returns-clause-numbers c =
    let t = c.args.self.now in
    let a = range_of (bank_literal t.basis.bank.terms t.basis.lits c.in-Inst.lit).atom in
    let numbers = subst (IsNumberedCommand (naming_in t)) c.in-Inst.is c.requires.numbers in
    (numbers.0, each-at (IsPlace t.basis.bank.terms) (ids_of a t.terms) c.args.place c.id_of.result (places-of t.basis.bank.terms a t.terms c.requires.right.1.terms) (ap (λ (xs : List ℕ). slice_get xs c.args.place) (sym c.listed_under-ids.ensures) ∙ c.id_of.ensures))
