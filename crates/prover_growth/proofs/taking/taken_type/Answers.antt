use Rattle.std.proofs.Common.{Some, arith}
use Rattle.std.proofs.lemmas.Option.{same_Some}
use Rattle.stt_core.specs.View.{the_type}
use Rattle.prover_state.specs.Internal.Heads.{the_hole_head}
use Rattle.prover_state.proofs.HoleLaws.{holes-length}
use Rattle.prover_growth.proofs.TakingLaws.{taken-type, typed-there}
use Rattle.prover_growth.proofs.taking.taken_type.Goals as goal

pub head_type-requires-clause-number : goal.head_type-requires-clause-number
head_type-requires-clause-number c = let n = holes-length c.args.tables.now c.requires.right.0 c.requires.right.1 in omega (arith, n, c.requires.number)

pub head_type-requires-clause-typed : goal.head_type-requires-clause-typed
head_type-requires-clause-typed c = λ holes at.
    typed-there c.args.tables.now c.requires.right.0 c.requires.right.1 c.args.p c.requires.number (the_hole_head c.args.head) c.requires.takes holes at

pub returns : goal.returns
returns c = λ takes.
    same_Some (the_type c.in_ok-head_type.field-0) takes.type
    (taken-type c.args.tables.now c.requires.right.0 c.requires.right.1 c.args.p c.requires.number (the_hole_head c.args.head) takes (Some (the_type c.in_ok-head_type.field-0)) (λ holes at. c.in_ok-head_type.ensures holes at))
