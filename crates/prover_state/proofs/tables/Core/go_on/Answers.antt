use Rattle.std.proofs.Common.{refl}
use Rattle.prover_state.specs.Internal.Standing.{the_state}
use Rattle.prover_state.proofs.PieceLaws.{more-piece, next-piece, own-loop, own-piece, piece-pushed}
use Rattle.prover_state.proofs.tables.Core.go_on.Goals as goal

pub command_of-requires-clause-right : goal.command_of-requires-clause-right
command_of-requires-clause-right g c = (c.args.self.now.plan, c.requires.right)

pub returns-then-extra-piece-clause-piece : goal.returns-then-extra-piece-clause-piece
returns-then-extra-piece-clause-piece g c =
    let self = c.args.self.now in
    more-piece self.plan.rule.mode self.tables c.args.over c.args.first c.args.place c.requires.within c.in_ok-command.command c.in_ok-command.ensures.command c.extra_delay-extra.result c.extra_delay-extra.ensures c.args.piece c.requires.piece c.if-extra-piece.true

pub push_piece-requires-clause-fits : goal.push_piece-requires-clause-fits
push_piece-requires-clause-fits g c =
    let self = c.args.self.now in
    own-loop self.plan.rule.mode self.tables c.args.over c.args.first c.requires.fits c.args.piece c.args.place c.requires.piece

pub push_piece-requires-clause-piece : goal.push_piece-requires-clause-piece
push_piece-requires-clause-piece g c =
    let self = c.args.self.now in
    own-piece self.plan.rule.mode self.tables c.args.over c.args.first c.requires.fits c.args.piece c.args.place c.requires.piece

pub returns-clause-piece : goal.returns-clause-piece
returns-clause-piece g c =
    let self = c.args.self.now in
    next-piece self.plan.rule.mode self.tables c.args.over c.args.first c.args.place c.requires.within c.in_ok-command.command c.in_ok-command.ensures.command c.extra_delay-extra.result c.extra_delay-extra.ensures c.in_ok-command.ensures.numbers _ refl

pub returns-clause-state : goal.returns-clause-state
returns-clause-state g c =
    let self = c.args.self.now in
    piece-pushed self.plan.rule.mode self.tables c.args.over c.args.first c.requires.fits c.args.piece c.args.place c.requires.piece self.plan.rule.mode refl self.tables refl
    (the_state self.tables self.plan) (the_state c.push_piece.new.self.tables c.push_piece.new.self.plan) _ c.in_ok-push_piece.ensures.state refl
