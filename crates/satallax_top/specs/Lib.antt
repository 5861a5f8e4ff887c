pub use Rattle.cli_words.specs.Requests
pub use Rattle.conv_laws.specs.Sides
pub use Rattle.delta_defs.specs.Unfolding
pub use Rattle.finite_models.specs.Candidates
pub use Rattle.finite_models.specs.Laws as FiniteModelsLaws
pub use Rattle.finite_models.specs.Small
pub use Rattle.finite_models.specs.Symbols
pub use Rattle.mode_schedule.specs.Laws as ScheduleLaws
pub use Rattle.mode_schedule.specs.Scheduled
pub use Rattle.mode_schedule.specs.Turns
pub use Rattle.outside.specs.Causes as OutsideCauses
pub use Rattle.outside.specs.Prefix
pub use Rattle.outside.specs.Seen
pub use Rattle.prover_run.specs.Ended
pub use Rattle.prover_run.specs.Learning
pub use Rattle.refute_print.specs.Named
pub use Rattle.refute_print.specs.Text
pub use Rattle.request_answers.specs.Answers
pub use Rattle.request_answers.specs.Causes as RequestAnswersCauses
pub use Rattle.request_answers.specs.Checked
pub use Rattle.request_answers.specs.Compared
pub use Rattle.request_answers.specs.Modelled
pub use Rattle.request_answers.specs.Files
pub use Rattle.request_answers.specs.Modes
pub use Rattle.request_answers.specs.NamedFiles
pub use Rattle.request_answers.specs.Names
pub use Rattle.request_answers.specs.Requested
pub use Rattle.request_answers.specs.Schedules
pub use Rattle.request_answers.specs.Solved
pub use Rattle.stt_core.specs.Declarations
pub use Rattle.stt_core.specs.Meaning
pub use Rattle.stt_core.specs.Meets
pub use Rattle.stt_core.specs.PlainProblem
pub use Rattle.szs_report.specs.ModelText
pub use Rattle.szs_report.specs.Outcomes
pub use Rattle.szs_report.specs.Report
pub use Rattle.tableau_calculus.specs.Closed
pub use Rattle.tableau_calculus.specs.Start
pub use Rattle.tableau_calculus.specs.Witnesses
pub mod Headline
pub mod Models
pub mod Scheduling
pub mod Laws
