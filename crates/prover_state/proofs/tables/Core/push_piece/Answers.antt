use Rattle.std.proofs.Common.{◌≡◌, ◌∷◌, List, Option, sym, ap, subst, ◌∙◌}
use Rattle.tableau_calculus.specs.Each.{Each}
use Rattle.search_spec.specs.State.{Command as Meant, with_commands}
use Rattle.prover_state.specs.declared.command.Rest.{Rest}
use Rattle.prover_state.specs.Internal.Names.{command_at}
use Rattle.prover_state.specs.Internal.Pending.{later_of, IsEntry}
use Rattle.prover_state.specs.Internal.Pieces.{extra_delay}
use Rattle.prover_state.specs.Internal.Standing.{without_witnesses, naming_in, sources, the_state}
use Rattle.prover_state.proofs.WholeLaws.{there-part, part-is}
use Rattle.prover_state.proofs.tables.Core.push_piece.Goals as goal

pub push_loop-requires-clause-entry : goal.push_loop-requires-clause-entry
push_loop-requires-clause-entry g c =
    let t = c.args.self.now.tables in
    let scope = without_witnesses t.basis.bank in
    let piece = c.args.piece in
    let p = c.requires.piece in
    let E : Option Rest → Type 0 = λ r. IsEntry scope (naming_in t) (sources t) (record { first = piece.first; rest = r }) in
    subst E (sym c.between-rest.ensures)
    (record { numbers = p.numbers; later = there-part scope (sources t) c.args.over (command_at (naming_in t) piece.first) piece.from c.args.end p.leads p.some p.within c.requires.fits.witnesses c.requires.fits.signed })

pub push_loop-requires-clause-even : goal.push_loop-requires-clause-even
push_loop-requires-clause-even g c =
    let self = c.args.self.now in
    let t = self.tables in
    let scope = without_witnesses t.basis.bank in
    let piece = c.args.piece in
    let p = c.requires.piece in
    let first = command_at (naming_in t) piece.first in
    let E : List Meant → Type 0 = Each (λ d. extra_delay self.plan.rule.mode d ≡ piece.extra) in
    let R : Option Rest → Type 0 = λ r. E (first ∷ later_of scope (sources t) first r) in
    subst R (sym c.between-rest.ensures)
    (subst E (sym (part-is scope (sources t) c.args.over first piece.from c.args.end p.leads p.some p.within c.requires.fits.witnesses c.requires.fits.signed)) p.even)

pub returns-clause-state : goal.returns-clause-state
returns-clause-state g c =
    let self = c.args.self.now in
    let t = self.tables in
    let scope = without_witnesses t.basis.bank in
    let piece = c.args.piece in
    let p = c.requires.piece in
    let first = command_at (naming_in t) piece.first in
    c.in_ok-push_loop.ensures.state
    ∙ ap (λ (r : Option Rest). with_commands self.plan.rule.mode (first ∷ later_of scope (sources t) first r) (the_state t self.plan)) c.between-rest.ensures
    ∙ ap (λ (cs : List Meant). with_commands self.plan.rule.mode cs (the_state t self.plan))
    (part-is scope (sources t) c.args.over first piece.from c.args.end p.leads p.some p.within c.requires.fits.witnesses c.requires.fits.signed)
