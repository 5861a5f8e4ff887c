use Rattle.std.proofs.Common.{◌≡◌, ℕ, List, ◌++◌, ◌+◌, ◌-◌, ◌*◌, ◌≤◌, length, Ok}
use Rattle.std.specs.Vec.Iter.{into_iter_items}
use Rattle.thf_grammar.specs.View.{the_file}
use Rattle.thf_include.specs.Gathering.{file_limit}
use Rattle.thf_include.specs.Internal.Chain.{the_chain}
use Rattle.thf_include.specs.Internal.Steps.{StatementsStep}
use Rattle.thf_include.specs.View.{the_statements}
use Rattle.thf_include.proofs.gathering.+gathering.Given as goal

-- each opened file leaves room for one less
abbrev pub decreases-gather_file : goal.decreases-gather_file
decreases-gather_file g l = 4 * (file_limit - length l.opened.now.names)

abbrev pub decreases-gather_include : goal.decreases-gather_include
decreases-gather_include g l = 4 * (file_limit - length l.opened.now.names) + 1

abbrev pub decreases-gather_statement : goal.decreases-gather_statement
decreases-gather_statement g l = 4 * (file_limit - length l.opened.now.names) + 2

abbrev pub decreases-gather_statements : goal.decreases-gather_statements
decreases-gather_statements g l = 4 * (file_limit - length l.opened.now.names) + 3

abbrev pub invariant-gather_statements-loop-statement : goal.invariant-gather_statements-loop-statement
invariant-gather_statements-loop-statement g l =
    let files = g.F.Files in
    record {
      can : (goal.iterator-gather_statements-loop-statement g).can_next l.statement-iterator;
      finite : (goal.iterator-gather_statements-loop-statement g).is_finite l.statement-iterator;
      seen : l.fn.statements.items ≡ l.yielded ++ into_iter_items l.statement-iterator;
      steps : StatementsStep (files.seen l.fn.files) (the_chain l.chain) l.file (the_file l.yielded) l.fn.opened l.opened (the_statements l.fn.gathered) (the_statements l.gathered) (Ok (tt {0}));
      grows : length l.fn.opened.names ≤ length l.opened.names;
      quiet : (other : List ℕ) → files.faults l.files other ≡ files.faults l.fn.files other;
      later : (other : List ℕ) → files.faults l.fn.files other ≤ files.faults l.files other;
      same : files.seen l.files ≡ files.seen l.fn.files;
    }
