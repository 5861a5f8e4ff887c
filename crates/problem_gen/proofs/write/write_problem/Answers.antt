use Rattle.std.proofs.Common.{ℕ, ◌+◌, ◌++◌, List, codes}
use Rattle.problem_gen.specs.Chain.{predicate_letter, implication, goal, lines_below}
use Rattle.outside.proofs.Writes.{on_err, took_both, stopped_first, stopped_later}
use Rattle.problem_gen.proofs.write.write_problem.Goals as proved

abbrev first : List ℕ
first = codes "thf(c_type,type,c: $i).\n"

abbrev start : List ℕ
start = codes "thf(a0,axiom,( p0 @ c )).\n"

abbrev declared : ℕ → List ℕ
declared n = lines_below predicate_letter (n + 1)

abbrev implied : ℕ → List ℕ
implied n = lines_below implication n

pub returns-clause-took : proved.returns-clause-took
returns-clause-took g c =
    let n = c.args.n in
    took_both first (declared n ++ (start ++ (implied n ++ goal n))) c.in_ok-write.ensures.took
    (took_both (declared n) (start ++ (implied n ++ goal n)) c.in_ok-write_predicates.ensures.took
    (took_both start (implied n ++ goal n) c.in_ok-write-2.ensures.took
    (took_both (implied n) (goal n) c.in_ok-write_implications.ensures.took c.in_ok-write_goal.ensures.took)))

pub returns-in_err-write-clause-stopped : proved.returns-in_err-write-clause-stopped
returns-in_err-write-clause-stopped g c =
    let n = c.args.n in
    on_err c.from_residual.result (stopped_first first (declared n ++ (start ++ (implied n ++ goal n))) c.in_err-write.ensures.stopped)

pub returns-in_err-write_predicates-clause-stopped : proved.returns-in_err-write_predicates-clause-stopped
returns-in_err-write_predicates-clause-stopped g c =
    let n = c.args.n in
    on_err c.from_residual-in_err-write_predicates.result
    (stopped_later first (declared n ++ (start ++ (implied n ++ goal n))) c.in_ok-write.ensures.took
    (stopped_first (declared n) (start ++ (implied n ++ goal n)) c.in_err-write_predicates.ensures.stopped))

pub returns-in_err-write-2-clause-stopped : proved.returns-in_err-write-2-clause-stopped
returns-in_err-write-2-clause-stopped g c =
    let n = c.args.n in
    on_err c.from_residual-in_err-write-2.result
    (stopped_later first (declared n ++ (start ++ (implied n ++ goal n))) c.in_ok-write.ensures.took
    (stopped_later (declared n) (start ++ (implied n ++ goal n)) c.in_ok-write_predicates.ensures.took
    (stopped_first start (implied n ++ goal n) c.in_err-write-2.ensures.stopped)))

pub returns-in_err-write_implications-clause-stopped : proved.returns-in_err-write_implications-clause-stopped
returns-in_err-write_implications-clause-stopped g c =
    let n = c.args.n in
    on_err c.from_residual-in_err-write_implications.result
    (stopped_later first (declared n ++ (start ++ (implied n ++ goal n))) c.in_ok-write.ensures.took
    (stopped_later (declared n) (start ++ (implied n ++ goal n)) c.in_ok-write_predicates.ensures.took
    (stopped_later start (implied n ++ goal n) c.in_ok-write-2.ensures.took (stopped_first (implied n) (goal n) c.in_err-write_implications.ensures.stopped))))

pub returns-in_err-write_goal-clause-stopped : proved.returns-in_err-write_goal-clause-stopped
returns-in_err-write_goal-clause-stopped g c =
    let n = c.args.n in
    on_err c.from_residual-in_err-write_goal.result
    (stopped_later first (declared n ++ (start ++ (implied n ++ goal n))) c.in_ok-write.ensures.took
    (stopped_later (declared n) (start ++ (implied n ++ goal n)) c.in_ok-write_predicates.ensures.took
    (stopped_later start (implied n ++ goal n) c.in_ok-write-2.ensures.took
    (stopped_later (implied n) (goal n) c.in_ok-write_implications.ensures.took c.in_err-write_goal.ensures.stopped))))
