use Rattle.std.proofs.Common.{◌≡◌, map, arith}
use Rattle.std.proofs.lemmas.Grind.{common_steps}
use Rattle.search_spec.specs.Numbered.{literal_at}
use Rattle.tableau_rebuild.specs.Tables.{atoms_at}
use Rattle.tableau_rebuild.proofs.PoolLaws.{made-at}
use Rattle.tableau_rebuild.proofs.pool.Pool.place_of.Goals as goal

pub returns-then-is_new-clause-place : goal.returns-then-is_new-clause-place
returns-then-is_new-clause-place c =
    let atoms = atoms_at c.args.bank.now.terms c.args.atoms.now in
    let made : c.push.new.self ≡ map (literal_at atoms) c.insert_full.new.self.keys = grind (arith, common_steps, c.in_ok-push.ensures.ok, c.requires.made.lits, c.in_ok-lit.ensures.literal, c.in_ok-place.ensures.keys, c.in_ok-place.ensures.added, c.if-is_new.true) in
    made-at (literal_at atoms) c.insert_full.new.self.keys c.push.new.self c.in_ok-place.place c.args.literal made c.in_ok-place.ensures.stored

pub returns-clause-place : goal.returns-clause-place
returns-clause-place c =
    let atoms = atoms_at c.args.bank.now.terms c.args.atoms.now in
    let made : c.args.self.now.lits ≡ map (literal_at atoms) c.insert_full.new.self.keys = grind (arith, common_steps, c.requires.made.lits, c.in_ok-place.ensures.keys, c.in_ok-place.ensures.added, c.if-is_new.false) in
    made-at (literal_at atoms) c.insert_full.new.self.keys c.args.self.now.lits c.in_ok-place.place c.args.literal made c.in_ok-place.ensures.stored
