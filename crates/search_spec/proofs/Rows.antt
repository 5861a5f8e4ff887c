-- The runs of the worked examples, by computation.
use Rattle.std.specs.Prelude.{refl}
use Rattle.search_spec.specs.Rows.{AllRuns, AgreeRuns, ChosenRuns, DescribedRuns, SymRuns, SomeRuns, DueRuns, OfferedRuns, DelayedRuns, SeenRuns}

pub all_runs : AllRuns
all_runs = (refl, refl)

pub agree_runs : AgreeRuns
agree_runs = (refl, refl)

pub chosen_runs : ChosenRuns
chosen_runs = refl

pub described_runs : DescribedRuns
described_runs = (refl, refl)

pub sym_runs : SymRuns
sym_runs = refl

pub some_runs : SomeRuns
some_runs = (refl, refl)

pub due_runs : DueRuns
due_runs = (refl, refl, refl, refl)

pub offered_runs : OfferedRuns
offered_runs = (refl, refl, refl)

pub delayed_runs : DelayedRuns
delayed_runs = (refl, refl)

pub seen_runs : SeenRuns
seen_runs = ((refl, refl, refl, refl, refl), refl, refl)
