use Rattle.std.proofs.Common.{refl}
use Rattle.stt_core.specs.View.{the_type}
use Rattle.tableau_rules.proofs.DeclareLaws.{declares_itself}
use Rattle.tableau_rules.proofs.WitnessLaws.{row_typed}
use Rattle.tableau_rules.proofs.witness.witness_of.Goals as goal

pub fresh-requires-clause-predicate : goal.fresh-requires-clause-predicate
fresh-requires-clause-predicate c = row_typed c.args.bank.now (the_type c.args.ty.now) c.args.predicate c.args.witnesses.now c.requires.predicate c.requires.rows

pub returns-in_err-w-clause-declares : goal.returns-in_err-w-clause-declares
returns-in_err-w-clause-declares c = declares_itself c.args.bank.now c.args.bank.now c.fresh.new.self c.fresh.ensures.rows refl
