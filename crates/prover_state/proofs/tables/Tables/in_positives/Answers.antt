use Rattle.std.proofs.Common.{◌<◌, length, slice_get, ap, subst, ◌∙◌}
use Rattle.tableau_calculus.specs.Literals.{Literal}
use Rattle.sat_base.specs.declared.literal.SatLit.{SatLit}
use Rattle.literal_map.specs.Atoms.{bank_literal}
use Rattle.mating_rules.specs.Noted.{partners_of}
use Rattle.search_spec.specs.State.{mate, confront}
use Rattle.prover_state.specs.declared.command.Command.{Command}
use Rattle.prover_state.specs.declared.command.Command.TheVariants.{Mate, Confront}
use Rattle.prover_state.specs.declared.command.Over.TheVariants.{Positives}
use Rattle.prover_state.specs.Internal.Names.{command_at, IsNumberIn, IsNumberedCommand}
use Rattle.prover_state.specs.Internal.Pending.{over_positives, IsSigned}
use Rattle.prover_state.specs.Internal.Standing.{naming_in, sources}
use Rattle.prover_state.proofs.EachLaws.{each-at}
use Rattle.prover_state.proofs.PartnerLaws.{partner-numbers, negative-mated, negative-confronted}
use Rattle.prover_state.proofs.LoopLists.{got-mapped, within-mapped}
use Rattle.prover_state.proofs.tables.Tables.in_positives.Goals as goal

pub partner_at-requires-clause-within : goal.partner_at-requires-clause-within
partner_at-requires-clause-within c =
    let t = c.args.self.now in
    let q = c.requires.right.0 in
    let r = c.requires.right.1 in
    let d : SatLit → Literal = bank_literal t.basis.bank.terms t.basis.lits in
    let found = partners_of t.basis.bank.terms t.basis.lits c.in-Mate.lit t.index.noted in
    let S : Command → Type 0 = λ f. IsSigned Positives (command_at (naming_in t) f) in
    let are = negative-mated t q r c.in-Mate.lit (subst S c.in-Mate.is c.requires.signed) in
    let W : Command → Type 0 = λ f. c.args.place < length (over_positives (sources t) (command_at (naming_in t) f)) in
    within-mapped (over_positives (sources t) (command_at (naming_in t) (Mate c.in-Mate.field-0 c.in-Mate.lit))) (λ m. mate (d m) (d c.in-Mate.lit)) found are c.args.place (subst W c.in-Mate.is c.requires.within)

pub returns-in_ok-partner_at-in-Mate-clause-command : goal.returns-in_ok-partner_at-in-Mate-clause-command
returns-in_ok-partner_at-in-Mate-clause-command c =
    let t = c.args.self.now in
    let q = c.requires.right.0 in
    let r = c.requires.right.1 in
    let d : SatLit → Literal = bank_literal t.basis.bank.terms t.basis.lits in
    let found = partners_of t.basis.bank.terms t.basis.lits c.in-Mate.lit t.index.noted in
    let S : Command → Type 0 = λ f. IsSigned Positives (command_at (naming_in t) f) in
    let are = negative-mated t q r c.in-Mate.lit (subst S c.in-Mate.is c.requires.signed) in
    ap (λ f. slice_get (over_positives (sources t) (command_at (naming_in t) f)) c.args.place) c.in-Mate.is
    ∙ got-mapped (over_positives (sources t) (command_at (naming_in t) (Mate c.in-Mate.field-0 c.in-Mate.lit))) (λ m. mate (d m) (d c.in-Mate.lit)) found are c.args.place c.in_ok-partner_at-in-Mate.field-0 c.in_ok-partner_at-in-Mate.ensures

pub returns-in_ok-partner_at-in-Mate-clause-numbers : goal.returns-in_ok-partner_at-in-Mate-clause-numbers
returns-in_ok-partner_at-in-Mate-clause-numbers c =
    let t = c.args.self.now in
    (each-at (IsNumberIn t.basis.lits) (partners_of t.basis.bank.terms t.basis.lits c.in-Mate.lit t.index.noted) c.args.place c.in_ok-partner_at-in-Mate.field-0 (partner-numbers t c.requires.right.0 c.requires.right.1 c.in-Mate.lit) c.in_ok-partner_at-in-Mate.ensures, (subst (IsNumberedCommand (naming_in t)) c.in-Mate.is c.requires.numbers).1)

pub partner_at-requires-in-Confront-clause-within : goal.partner_at-requires-in-Confront-clause-within
partner_at-requires-in-Confront-clause-within c =
    let t = c.args.self.now in
    let q = c.requires.right.0 in
    let r = c.requires.right.1 in
    let d : SatLit → Literal = bank_literal t.basis.bank.terms t.basis.lits in
    let found = partners_of t.basis.bank.terms t.basis.lits c.in-Confront.lit t.index.noted in
    let S : Command → Type 0 = λ f. IsSigned Positives (command_at (naming_in t) f) in
    let are = negative-confronted t q r c.in-Confront.lit (subst S c.in-Confront.is c.requires.signed) in
    let W : Command → Type 0 = λ f. c.args.place < length (over_positives (sources t) (command_at (naming_in t) f)) in
    within-mapped (over_positives (sources t) (command_at (naming_in t) (Confront c.in-Confront.field-0 c.in-Confront.lit))) (λ m. confront (d m) (d c.in-Confront.lit)) found are c.args.place (subst W c.in-Confront.is c.requires.within)

pub returns-in_ok-partner_at-in-Confront-clause-command : goal.returns-in_ok-partner_at-in-Confront-clause-command
returns-in_ok-partner_at-in-Confront-clause-command c =
    let t = c.args.self.now in
    let q = c.requires.right.0 in
    let r = c.requires.right.1 in
    let d : SatLit → Literal = bank_literal t.basis.bank.terms t.basis.lits in
    let found = partners_of t.basis.bank.terms t.basis.lits c.in-Confront.lit t.index.noted in
    let S : Command → Type 0 = λ f. IsSigned Positives (command_at (naming_in t) f) in
    let are = negative-confronted t q r c.in-Confront.lit (subst S c.in-Confront.is c.requires.signed) in
    ap (λ f. slice_get (over_positives (sources t) (command_at (naming_in t) f)) c.args.place) c.in-Confront.is
    ∙ got-mapped (over_positives (sources t) (command_at (naming_in t) (Confront c.in-Confront.field-0 c.in-Confront.lit))) (λ m. confront (d m) (d c.in-Confront.lit)) found are c.args.place c.in_ok-partner_at-in-Confront.field-0 c.in_ok-partner_at-in-Confront.ensures

pub returns-in_ok-partner_at-in-Confront-clause-numbers : goal.returns-in_ok-partner_at-in-Confront-clause-numbers
returns-in_ok-partner_at-in-Confront-clause-numbers c =
    let t = c.args.self.now in
    (each-at (IsNumberIn t.basis.lits) (partners_of t.basis.bank.terms t.basis.lits c.in-Confront.lit t.index.noted) c.args.place c.in_ok-partner_at-in-Confront.field-0 (partner-numbers t c.requires.right.0 c.requires.right.1 c.in-Confront.lit) c.in_ok-partner_at-in-Confront.ensures, (subst (IsNumberedCommand (naming_in t)) c.in-Confront.is c.requires.numbers).1)
