use Rattle.problem_gen.specs.Chain.{predicate_letter, lines_below}
use Rattle.outside.specs.Writing.{Took}
use Rattle.problem_gen.proofs.write.write_predicates.Given as goal

abbrev pub invariant-loop-k : goal.invariant-loop-k
invariant-loop-k g l =
    let sink = g.S.Sink in
    Took sink.tells sink.written sink.faults l.fn.sink l.sink (lines_below predicate_letter l.k)
