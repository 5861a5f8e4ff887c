use Rattle.problem_gen.specs.Chain.{implication, lines_below}
use Rattle.outside.specs.Writing.{Took}
use Rattle.problem_gen.proofs.write.write_implications.Given as goal

abbrev pub invariant-loop-j : goal.invariant-loop-j
invariant-loop-j g l =
    let sink = g.S.Sink in
    Took sink.tells sink.written sink.faults l.fn.sink l.sink (lines_below implication l.j)
