use Rattle.std.proofs.Common.{subst}
use Rattle.term_bank.specs.Terms.{term_at}
use Rattle.tableau_rules.specs.Internal.Functions.{AreFunctionsOf}
use Rattle.tableau_rules.proofs.GrownLaws.{functions_sides, fun_pos_found}
use Rattle.tableau_rules.proofs.function.fun_pos_drafts.Goals as goal

pub agreement_of-requires : goal.agreement_of-requires
agreement_of-requires c = functions_sides c.args.bank.now c.args.p c.in-Some.functions c.requires (subst (AreFunctionsOf c.args.bank.now (term_at c.args.bank.now.terms c.args.p.atom)) c.in-Some.is c.in_ok-functions.ensures)

pub returns-in_ok-one-in-Some-clause-drafted : goal.returns-in_ok-one-in-Some-clause-drafted
returns-in_ok-one-in-Some-clause-drafted c = λ rows.
    fun_pos_found c.args.bank.now c.agreement_of.new.bank rows c.args.p c.in-Some.functions c.in_ok-agree-in-Some.agree c.holds.result c.in_ok-one-in-Some.field-0 c.agreement_of.ensures.grows c.requires (subst (AreFunctionsOf c.args.bank.now (term_at c.args.bank.now.terms c.args.p.atom)) c.in-Some.is c.in_ok-functions.ensures) c.in_ok-agree-in-Some.ensures.term c.in_ok-one-in-Some.ensures c.if-not-p.false c.holds.ensures
