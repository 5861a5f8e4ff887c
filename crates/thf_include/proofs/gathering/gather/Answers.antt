use Rattle.thf_include.proofs.Totals.{few, placed}
use Rattle.thf_include.proofs.gathering.gather.Goals as goal

pub returns-in-Ok-clause-placed : goal.returns-in-Ok-clause-placed
returns-in-Ok-clause-placed g c =
    let files = g.F.Files in
    placed c.new-opened.result c.new-opened.ensures.names c.new-opened.ensures.left c.in-Ok.field-0 (files.seen c.args.files.now) c.args.name.now c.gather_file-answer.new.opened c.new-gathered.result c.gather_file-answer.new.gathered c.new-gathered.ensures c.in-Ok.ensures.steps

pub returns-in-Ok-clause-counted : goal.returns-in-Ok-clause-counted
returns-in-Ok-clause-counted g c =
    let files = g.F.Files in
    few c.new-opened.result c.new-opened.ensures.names c.new-opened.ensures.left c.in-Ok.field-0 (files.seen c.args.files.now) c.args.name.now c.gather_file-answer.new.opened c.new-gathered.result c.gather_file-answer.new.gathered c.new-gathered.ensures c.in-Ok.ensures.steps
