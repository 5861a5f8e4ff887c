use Rattle.refute_check.proofs.AcceptanceLaws.{one_text_failure, fails_not_accepted}
use Rattle.refute_check.proofs.law.one_refusal.Goals as goal

pub returns : goal.returns
returns c = record {
  one = λ t first line other why cause f g. one_text_failure c.args.problem.now t first line other why cause f g;
  refused = λ t first line why f h. fails_not_accepted c.args.problem.now t first line why f h;
}
