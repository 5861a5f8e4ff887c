-- What the crate's types stand for.
use Rattle.std.specs.Prelude.{option_map}
use Rattle.cli_words.specs.Requests as request
use Rattle.cli_words.specs.Requests.{Request}
use Rattle.cli_words.specs.declared.Asked.{Asked}
use Rattle.cli_words.specs.declared.Asked.TheVariants.{Prove, BySchedule, Check, Demo, Models, Same}
use Rattle.cli_words.specs.declared.entry.Entry.{Entry}
use Rattle.cli_words.specs.declared.entry.Entry.TheVariants as entry

abbrev pub the_request : Asked → Request
the_request (Prove problem mode nodes) = request.prove problem.now (option_map (λ m. m.now) mode) nodes
the_request (BySchedule schedule problem) = request.by_schedule schedule.now problem.now
the_request (Check text problem cuts) = request.refutation cuts text.now problem.now
the_request (Demo n) = request.generated n
the_request (Models upto problem) = request.models upto problem.now
the_request (Same problem) = request.sides problem.now

abbrev pub the_entry : Entry → request.WordEntry
the_entry (entry.Value o v) = request.value o v.now
the_entry entry.Same = request.flag
the_entry (entry.Problem p) = request.problem p.now
