use Rattle.std.proofs.Common.{ap, ◌++◌, ◌∙◌}
use Rattle.szs_report.specs.Report.{report_of}
use Rattle.satallax_top.proofs.HeadlineLaws.{proof_appended, no_model_answer, sides_answer, words_answer, defined_answer}
use Rattle.satallax_top.proofs.ModelLaws.{model_appended, models_answer}
use Rattle.satallax_top.proofs.ScheduleLaws.{schedule_told}
use Rattle.satallax_top.proofs.top.satallax.Goals as goal

pub returns-in-Ok-clause-proof : goal.returns-in-Ok-clause-proof
returns-in-Ok-clause-proof g c = λ told proved.
    let a = c.call-called.result.answer in
    let old = g.S.Sink.written c.args.out.now in
    proof_appended c.args.words.now (g.F.Files.seen c.args.files.now) c.outcome.result a old (g.S.Sink.written c.write_report.new.out) c.call-called.ensures.answers c.outcome.ensures
    (c.in-Ok.ensures.appended told ∙ ap (λ name. old ++ report_of name a) c.as_bytes.ensures.value ∙ ap (λ r. old ++ r) c.call-called.ensures.reported) proved

pub returns-in-Ok-clause-no_model : goal.returns-in-Ok-clause-no_model
returns-in-Ok-clause-no_model g c = λ shows.
    no_model_answer c.args.words.now (g.F.Files.seen c.args.files.now) c.outcome.result c.call-called.result.answer c.call-called.ensures.answers c.outcome.ensures shows

pub returns-in-Ok-clause-schedule : goal.returns-in-Ok-clause-schedule
returns-in-Ok-clause-schedule g c = λ file problem asked ends.
    schedule_told c.args.words.now (g.F.Files.seen c.args.files.now) c.outcome.result c.call-called.result.answer c.call-called.ensures.answers c.outcome.ensures file problem asked ends

pub returns-in-Ok-clause-model : goal.returns-in-Ok-clause-model
returns-in-Ok-clause-model g c = λ told model.
    let a = c.call-called.result.answer in
    let old = g.S.Sink.written c.args.out.now in
    model_appended c.args.words.now (g.F.Files.seen c.args.files.now) c.outcome.result a old (g.S.Sink.written c.write_report.new.out) c.call-called.ensures.answers c.outcome.ensures
    (c.in-Ok.ensures.appended told ∙ ap (λ name. old ++ report_of name a) c.as_bytes.ensures.value ∙ ap (λ r. old ++ r) c.call-called.ensures.reported) model

pub returns-in-Ok-clause-models : goal.returns-in-Ok-clause-models
returns-in-Ok-clause-models g c = λ says.
    models_answer c.args.words.now (g.F.Files.seen c.args.files.now) c.outcome.result c.call-called.result.answer c.call-called.ensures.answers c.outcome.ensures says

pub returns-in-Ok-clause-sides : goal.returns-in-Ok-clause-sides
returns-in-Ok-clause-sides g c = λ says.
    sides_answer c.args.words.now (g.F.Files.seen c.args.files.now) c.outcome.result c.call-called.result.answer c.call-called.ensures.answers c.outcome.ensures says

pub returns-in-Ok-clause-words : goal.returns-in-Ok-clause-words
returns-in-Ok-clause-words g c = λ is.
    words_answer c.args.words.now (g.F.Files.seen c.args.files.now) c.outcome.result c.call-called.result.answer c.call-called.ensures.answers c.outcome.ensures is

pub returns-in-Ok-clause-complete : goal.returns-in-Ok-clause-complete
returns-in-Ok-clause-complete g c = λ told quiet still.
    defined_answer c.args.words.now (g.F.Files.seen c.args.files.now) (g.F.Files.faults c.args.files.now) (g.F.Files.faults c.call-called.new.files) c.outcome.result c.call-called.result.answer c.call-called.ensures.answers c.outcome.ensures told c.call-called.ensures.cause quiet
