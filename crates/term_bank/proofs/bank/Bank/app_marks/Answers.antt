use Rattle.std.proofs.Common.{◌<◌, length, get_or}
use Rattle.std.proofs.lemmas.Option.{slice_get-get_or}
use Rattle.stt_core.specs.View.{the_head}
use Rattle.term_bank.proofs.MarkLaws.{marks_more}
use Rattle.term_bank.proofs.bank.Bank.app_marks.Goals as goal

pub loop-i-preserved : goal.loop-i-preserved
loop-i-preserved c =
    let i = c.loop-i.i in
    let l : i < length c.args.args.now = c.loop-i-test.true in
    let m = c.in_ok-more.ensures in
    marks_more c.args.self.now.terms (the_head c.args.head.now) c.args.args.now i (get_or c.args.args.now i 0) c.loop-i.marks c.in_ok-more.more _ (slice_get-get_or c.args.args.now i 0 l) c.loop-i.invariant m.depth m.missing m.greatest c.max.ensures c.max-in-loop-i.ensures c.greater_of.ensures
