use Rattle.std.proofs.Common.{◌<◌, ℕ, List, length, slice_get, Some, sym, ap, subst, ◌∙◌}
use Rattle.sat_base.specs.declared.literal.SatLit.{SatLit}
use Rattle.literal_map.specs.Atoms.{bank_literal}
use Rattle.term_bank.specs.Terms.{term_at}
use Rattle.search_spec.specs.State.{inst}
use Rattle.prover_state.specs.declared.command.Command.{Command}
use Rattle.prover_state.specs.declared.command.Command.TheVariants.{Inst}
use Rattle.prover_state.specs.Internal.Names.{command_at, IsNumberIn, IsNumberedCommand}
use Rattle.prover_state.specs.Internal.Pending.{range_of, over_universals}
use Rattle.prover_state.specs.Internal.Standing.{naming_in, sources}
use Rattle.instantiate.specs.Listing.{ids_of}
use Rattle.prover_state.proofs.EachLaws.{each-at}
use Rattle.prover_state.proofs.TermLaws.{noted_at, noted-is, universals-within, universal-numbers}
use Rattle.prover_state.proofs.LoopLists.{universal-loop, got-mapped, within-mapped}
use Rattle.prover_state.proofs.tables.Tables.in_universals.Goals as goal

pub id_of-noted-requires : goal.id_of-noted-requires
id_of-noted-requires c =
    let t = c.args.self.now in
    let q = c.requires.right.0 in
    let r = c.requires.right.1 in
    let first = command_at (naming_in t) (Inst c.in-Inst.lit c.in-Inst.id) in
    let a = range_of (bank_literal t.basis.bank.terms t.basis.lits c.in-Inst.lit).atom in
    let W : Command → Type 0 = λ f. c.args.place < length (over_universals (sources t) (command_at (naming_in t) f)) in
    subst (λ (xs : List ℕ). c.args.place < length xs) (sym c.listed_under-places.ensures)
    (within-mapped (over_universals (sources t) first) (λ i. command_at (naming_in t) (Inst (noted_at t q r a i) c.in-Inst.id)) (ids_of a t.universals) (universal-loop t q r c.in-Inst.lit c.in-Inst.id) c.args.place (subst W c.in-Inst.is c.requires.within))

pub literal_of-universal-requires : goal.literal_of-universal-requires
literal_of-universal-requires c =
    let t = c.args.self.now in
    let q = c.requires.right.0 in
    let r = c.requires.right.1 in
    let a = range_of (bank_literal t.basis.bank.terms t.basis.lits c.in-Inst.lit).atom in
    subst (λ (ls : List SatLit). c.id_of-noted.result < length ls) (sym c.as_slice.ensures.value)
    (each-at (λ i. i < length t.noted.items) (ids_of a t.universals) c.args.place c.id_of-noted.result (universals-within t q r a) (ap (λ (xs : List ℕ). slice_get xs c.args.place) (sym c.listed_under-places.ensures) ∙ c.id_of-noted.ensures))

pub returns-clause-command : goal.returns-clause-command
returns-clause-command c =
    let t = c.args.self.now in
    let q = c.requires.right.0 in
    let r = c.requires.right.1 in
    let first = command_at (naming_in t) (Inst c.in-Inst.lit c.in-Inst.id) in
    let a = range_of (bank_literal t.basis.bank.terms t.basis.lits c.in-Inst.lit).atom in
    ap (λ f. slice_get (over_universals (sources t) (command_at (naming_in t) f)) c.args.place) c.in-Inst.is
    ∙ got-mapped (over_universals (sources t) first) (λ i. command_at (naming_in t) (Inst (noted_at t q r a i) c.in-Inst.id)) (ids_of a t.universals) (universal-loop t q r c.in-Inst.lit c.in-Inst.id) c.args.place c.id_of-noted.result
    (ap (λ (xs : List ℕ). slice_get xs c.args.place) (sym c.listed_under-places.ensures) ∙ c.id_of-noted.ensures)
    ∙ ap (λ l. Some (inst (bank_literal t.basis.bank.terms t.basis.lits l) (term_at t.basis.bank.terms c.in-Inst.id)))
    (sym (noted-is t q r a c.id_of-noted.result c.literal_of-universal.result (ap (λ ls. slice_get ls c.id_of-noted.result) (sym c.as_slice.ensures.value) ∙ c.literal_of-universal.ensures)))

pub returns-clause-numbers : goal.returns-clause-numbers
returns-clause-numbers c =
    let t = c.args.self.now in
    let q = c.requires.right.0 in
    let r = c.requires.right.1 in
    let a = range_of (bank_literal t.basis.bank.terms t.basis.lits c.in-Inst.lit).atom in
    let numbers = subst (IsNumberedCommand (naming_in t)) c.in-Inst.is c.requires.numbers in (
      subst (IsNumberIn t.basis.lits) (sym (noted-is t q r a c.id_of-noted.result c.literal_of-universal.result (ap (λ ls. slice_get ls c.id_of-noted.result) (sym c.as_slice.ensures.value) ∙ c.literal_of-universal.ensures)))
          (each-at (λ i. IsNumberIn t.basis.lits (noted_at t q r a i)) (ids_of a t.universals) c.args.place c.id_of-noted.result (universal-numbers t q r a) (ap (λ (xs : List ℕ). slice_get xs c.args.place) (sym c.listed_under-places.ensures) ∙ c.id_of-noted.ensures)),
      numbers.1,
    )
