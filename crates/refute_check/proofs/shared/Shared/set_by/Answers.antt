use Rattle.std.proofs.Common.{arith}
use Rattle.std.proofs.lemmas.Option.{slice_get-get_or}
use Rattle.refute_check.proofs.StartLaws.{represents-next}
use Rattle.refute_check.proofs.SharedLaws.{number_of-atom, literals_numbered}
use Rattle.refute_check.proofs.shared.Shared.set_by.Goals as goal

pub returns-clause-numbered : goal.returns-clause-numbered
returns-clause-numbered c =
    let s = c.args.self.now in
    literals_numbered s.bank s.lits c.equal_ids_for_equal_terms.ensures c.atoms_differ.ensures c.requires.good.atoms c.args.list.now c.requires.numbers

pub loop-i-preserved : goal.loop-i-preserved
loop-i-preserved c =
    let s = c.args.self.now in
    let list = c.args.list.now in
    let i = c.loop-i.i in
    represents-next s list i _ c.loop-i.set c.insert.new.self c.requires.numbers (slice_get-get_or list i _ (omega (arith, c.loop-i-test.true))) c.loop-i.invariant
    (number_of-atom s.bank s.lits c.equal_ids_for_equal_terms.ensures c.atoms_differ.ensures c.requires.good.atoms) c.in_ok-insert.ensures
