use Rattle.std.proofs.Common.{sym, refl, arith}
use Rattle.tableau_rules.proofs.DeclareLaws.{all_declared, declares_itself}
use Rattle.tableau_rules.proofs.witness.declare.Goals as goal

pub loop-w-init : goal.loop-w-init
loop-w-init c = record { declares = declares_itself c.args.bank.now c.args.bank.now c.args.witnesses.now c.requires.rows refl; next = sym c.witness_types-w.ensures }

pub returns-clause-all : goal.returns-clause-all
returns-clause-all c =
    let v = c.loop-w.invariant in
    all_declared c.loop-w.bank c.args.witnesses.now v.declares.rows (omega (arith, v.next, c.loop-w-test.false, c.len-w-end.ensures))
