use Rattle.std.proofs.Common.{◌≡◌, ◌≤◌, ◌<◌, ◌+◌, ℕ, drop, length, refl, sym, ap, subst, ◌∙◌, arith}
use Rattle.mode_file.specs.declared.Mode.{Mode}
use Rattle.search_spec.specs.State.{with_commands}
use Rattle.prover_state.specs.declared.command.Command.{Command}
use Rattle.prover_state.specs.declared.command.Delays.{Delays}
use Rattle.prover_state.specs.declared.command.Over.{Over}
use Rattle.prover_state.specs.declared.piece.Piece.{Piece}
use Rattle.prover_state.specs.declared.tables.Tables.{Tables}
use Rattle.prover_state.specs.Internal.Names.{IsNumberedCommand}
use Rattle.prover_state.specs.Internal.Pieces.{numbered_loop, even_until, IsPiece, IsLoop}
use Rattle.prover_state.specs.Internal.Standing.{naming_in, the_state}
use Rattle.prover_state.proofs.PieceLaws.{first-piece, fits-there, piece-there, piece-pushed, whole-pushed}
use Rattle.prover_state.proofs.tables.Core.push_whole.Goals as goal

-- the last piece goes to the end of the loop
whole_piece : (mode : Mode) (t : Tables) (over : Over) (c : Command) (count : ℕ) → count ≡ length (numbered_loop t over c) → (piece : Piece) (place : ℕ) → count ≤ place → IsPiece mode t over c piece place → IsPiece mode t over c piece count
whole_piece mode t over c count n piece place h p = subst (λ k. IsPiece mode t over c piece k) (let w = p.within in let e : place ≡ count = omega (arith, w, h, n) in e) p

pub loop-place-init : goal.loop-place-init
loop-place-init g c =
    let self = c.args.self.now in
    record {
      right = c.requires.right;
      tables = refl;
      rule = refl;
      piece = first-piece self.plan.rule.mode self.tables c.args.over c.args.first c.requires.begins c.args.count c.requires.count c.requires.numbers c.extra_delay-extra.result c.extra_delay-extra.ensures c.even_until-place.result (c.even_until-place.ensures ∙ ap (λ m. even_until m.defaults c.args.over c.args.count) c.mode.ensures) _ refl;
      state = refl;
    }

pub go_on-requires-clause-numbers : goal.go_on-requires-clause-numbers
go_on-requires-clause-numbers g c = subst (λ (t : Tables). IsNumberedCommand (naming_in t) c.args.first) (sym c.loop-place.invariant.tables) c.requires.numbers

pub go_on-requires-clause-fits : goal.go_on-requires-clause-fits
go_on-requires-clause-fits g c = subst (λ (t : Tables). IsLoop t c.args.over c.args.first) (sym c.loop-place.invariant.tables) (record { witnesses = c.requires.witnesses; signed = c.requires.signed })

pub go_on-requires-clause-within : goal.go_on-requires-clause-within
go_on-requires-clause-within g c =
    subst (λ (t : Tables). c.loop-place.place < length (numbered_loop t c.args.over c.args.first)) (sym c.loop-place.invariant.tables) (omega (arith, c.loop-place-test.true, c.requires.count))

pub go_on-requires-clause-piece : goal.go_on-requires-clause-piece
go_on-requires-clause-piece g c =
    let first = c.args.self.now in
    let self = c.loop-place.self in
    let inv = c.loop-place.invariant in
    let modes = ap (λ (r : Delays). r.mode) inv.rule in
    subst (λ (t : Tables). IsPiece self.plan.rule.mode t c.args.over c.args.first c.loop-place.piece c.loop-place.place) (sym inv.tables)
    (subst (λ (m : Mode). IsPiece m first.tables c.args.over c.args.first c.loop-place.piece c.loop-place.place) (sym modes) inv.piece)

pub loop-place-preserved : goal.loop-place-preserved
loop-place-preserved g c =
    let first = c.args.self.now in
    let self = c.loop-place.self in
    let inv = c.loop-place.invariant in
    let done = c.in_ok-piece.ensures in
    let next = c.in_ok-piece.piece in
    let s = the_state self.tables self.plan in
    let s' = the_state c.go_on.new.self.tables c.go_on.new.self.plan in
    let modes = ap (λ (r : Delays). r.mode) inv.rule in
    record {
      right = done.stays.right;
      tables = c.go_on.ensures.tables ∙ inv.tables;
      rule = done.stays.rule ∙ inv.rule;
      piece =
          subst (λ (m : Mode). IsPiece m first.tables c.args.over c.args.first next (c.loop-place.place + 1)) modes
          (subst (λ (t : Tables). IsPiece self.plan.rule.mode t c.args.over c.args.first next (c.loop-place.place + 1)) inv.tables done.piece);
      state =
          subst (λ (m : Mode). with_commands m (drop next.from (numbered_loop first.tables c.args.over c.args.first)) s' ≡ with_commands m (drop c.loop-place.piece.from (numbered_loop first.tables c.args.over c.args.first)) s) modes
          (subst (λ (t : Tables). with_commands self.plan.rule.mode (drop next.from (numbered_loop t c.args.over c.args.first)) s' ≡ with_commands self.plan.rule.mode (drop c.loop-place.piece.from (numbered_loop t c.args.over c.args.first)) s) inv.tables done.state)
          ∙ inv.state;
    }

pub push_piece-requires-clause-fits : goal.push_piece-requires-clause-fits
push_piece-requires-clause-fits g c =
    let first = c.args.self.now in
    let self = c.loop-place.self in
    let inv = c.loop-place.invariant in
    fits-there first.plan.rule.mode first.tables c.args.over c.args.first (record { witnesses = c.requires.witnesses; signed = c.requires.signed }) c.loop-place.piece c.loop-place.place inv.piece self.plan.rule.mode (ap (λ (r : Delays). r.mode) inv.rule) self.tables inv.tables

pub push_piece-requires-clause-piece : goal.push_piece-requires-clause-piece
push_piece-requires-clause-piece g c =
    let first = c.args.self.now in
    let self = c.loop-place.self in
    let inv = c.loop-place.invariant in
    let p = whole_piece first.plan.rule.mode first.tables c.args.over c.args.first c.args.count c.requires.count c.loop-place.piece c.loop-place.place (omega (arith, c.loop-place-test.false)) inv.piece in
    piece-there first.plan.rule.mode first.tables c.args.over c.args.first (record { witnesses = c.requires.witnesses; signed = c.requires.signed }) c.loop-place.piece c.args.count p self.plan.rule.mode (ap (λ (r : Delays). r.mode) inv.rule) self.tables inv.tables

pub returns-clause-state : goal.returns-clause-state
returns-clause-state g c =
    let first = c.args.self.now in
    let self = c.loop-place.self in
    let inv = c.loop-place.invariant in
    let mode = first.plan.rule.mode in
    let p = whole_piece mode first.tables c.args.over c.args.first c.args.count c.requires.count c.loop-place.piece c.loop-place.place (omega (arith, c.loop-place-test.false)) inv.piece in
    whole-pushed mode (numbered_loop first.tables c.args.over c.args.first) c.args.count (omega (arith, c.requires.count)) (the_state c.push_piece.new.self.tables c.push_piece.new.self.plan) _
    (piece-pushed mode first.tables c.args.over c.args.first (record { witnesses = c.requires.witnesses; signed = c.requires.signed }) c.loop-place.piece c.args.count p self.plan.rule.mode (ap (λ (r : Delays). r.mode) inv.rule) self.tables inv.tables
    (the_state self.tables self.plan) (the_state c.push_piece.new.self.tables c.push_piece.new.self.plan) _ c.in_ok-push_piece.ensures.state inv.state)
