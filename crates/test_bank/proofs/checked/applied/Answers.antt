use Rattle.std.proofs.Common.{[], subst, refl}
use Rattle.stt_core.specs.View.{the_type}
use Rattle.stt_core.specs.Canonical.{IsCanonical}
use Rattle.term_bank.specs.Content.{content_scope}
use Rattle.term_bank.specs.Terms.{term_at}
use Rattle.test_bank.proofs.checked.applied.Goals as goal

pub instantiate-requires-clause-fits : goal.instantiate-requires-clause-fits
instantiate-requires-clause-fits c =
    let b = c.args.bank.now in
    let t = c.if-not-takes.ensures refl in
    record {
      ctx = [];
      applies = record {
        argument = the_type c.in_ok-argument_type.argument_type;
        result = t.0;
        function_in = subst (λ a. IsCanonical (content_scope b) [] a (term_at b.terms c.args.function)) t.1 c.in_ok-function_type.ensures;
        argument_in = c.in_ok-argument_type.ensures;
      };
    }

pub instantiate-requires-clause-right : goal.instantiate-requires-clause-right
instantiate-requires-clause-right c = c.new-normal.ensures c.args.bank.now
