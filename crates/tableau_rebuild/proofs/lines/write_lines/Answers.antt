use Rattle.tableau_rebuild.proofs.lines.write_lines.Goals as goal

pub write-requires-clause-made : goal.write-requires-clause-made
write-requires-clause-made c = c.new-writing.ensures.made c.args.bank.now.terms c.args.atoms.now
