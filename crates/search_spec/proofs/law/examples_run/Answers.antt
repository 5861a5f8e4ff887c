use Rattle.search_spec.proofs.Rows.{all_runs, agree_runs, chosen_runs, described_runs, sym_runs, some_runs, due_runs, offered_runs, delayed_runs, seen_runs}
use Rattle.search_spec.proofs.law.examples_run.Goals as goal

pub returns : goal.returns
returns c = (all_runs, agree_runs, chosen_runs, described_runs, sym_runs, some_runs, due_runs, offered_runs, delayed_runs, seen_runs)
