pub use Rattle.cli_words.specs.Requests
pub use Rattle.cli_words.specs.View as CliWordsView
pub use Rattle.conv_laws.specs.Sides
pub use Rattle.delta_defs.specs.Unfolding
pub use Rattle.finite_models.specs.Laws as FiniteModelsLaws
pub use Rattle.finite_models.specs.Small
pub use Rattle.finite_models.specs.Symbols
pub use Rattle.mode_file.specs.Given
pub use Rattle.mode_file.specs.Grammar
pub use Rattle.mode_file.specs.Refusals
pub use Rattle.mode_schedule.specs.Ends
pub use Rattle.mode_schedule.specs.Grammar as ScheduleGrammar
pub use Rattle.mode_schedule.specs.Refusals as ScheduleRefusals
pub use Rattle.mode_schedule.specs.Scheduled
pub use Rattle.mode_schedule.specs.Turns
pub use Rattle.outside.specs.Causes as OutsideCauses
pub use Rattle.outside.specs.Limits
pub use Rattle.outside.specs.Lines
pub use Rattle.outside.specs.Seen
pub use Rattle.problem_gen.specs.Chain
pub use Rattle.prover_run.specs.Ended
pub use Rattle.refute_check.specs.Acceptance
pub use Rattle.refute_check.specs.Numbered
pub use Rattle.refute_print.specs.Named
pub use Rattle.refute_print.specs.Text
pub use Rattle.refute_print.specs.Trees
pub use Rattle.refute_text.specs.Reading
pub use Rattle.search_spec.specs.Result
pub use Rattle.stt_core.specs.Lambda
pub use Rattle.stt_core.specs.PlainProblem
pub use Rattle.stt_core.specs.TypedProblem
pub use Rattle.szs_report.specs.ModelText
pub use Rattle.szs_report.specs.Outcomes
pub use Rattle.szs_report.specs.Report
pub use Rattle.tableau_calculus.specs.Start
pub use Rattle.thf_grammar.specs.Printable
pub use Rattle.thf_include.specs.Answer
pub use Rattle.thf_include.specs.Gathering
pub use Rattle.thf_include.specs.View as ThfIncludeView
pub use Rattle.type_check.specs.Statements
pub mod Requested
pub mod Names
pub mod Files
pub mod NamedFiles
pub mod Modes
pub mod Schedules
pub mod Checked
pub mod Compared
pub mod Modelled
pub mod Solved
pub mod Answers
pub mod Causes
pub mod Internal
