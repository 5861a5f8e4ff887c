use Rattle.std.proofs.Common.{Err, map, ap, ◌∙◌}
use Rattle.literal_map.specs.Atoms.{bank_literal}
use Rattle.prover_state.specs.declared.tables.Basis.{Basis}
use Rattle.prover_growth.proofs.DenialLaws.{denial-fits, denial-made, denial-widens, denied-rows, denied-alternatives}
use Rattle.prover_growth.proofs.denial.make_denial.Goals as goal

pub unreachable-requires : goal.unreachable-requires
unreachable-requires c =
    let g = c.args.basis.now in
    let d = c.requires.denies in
    c.make-made.ensures.not_this_rule (c.in-Err.is ∙ ap Err c.in-NotThisRule.is) _ _ (denial-fits g.bank g.lits c.args.lit d.0 d.1.0 d.1.1)

pub returns-in-Ok-clause-made : goal.returns-in-Ok-clause-made
returns-in-Ok-clause-made c =
    let old = c.args.basis.now in
    let new : Basis = record { bank = c.make-made.new.bank; normal = c.make-made.new.normal; lits = c.make-made.new.lits; witnesses = c.make-made.new.witnesses } in
    denial-made old new c.make-made.ensures.begins c.args.lit c.requires.number c.in-Ok.instance c.in-Ok.ensures.by c.in-Ok.ensures.principals c.in-Ok.ensures.numbers c.in-Ok.ensures.instance

pub returns-in-Ok-clause-widens : goal.returns-in-Ok-clause-widens
returns-in-Ok-clause-widens c =
    let old = c.args.basis.now in
    let new : Basis = record { bank = c.make-made.new.bank; normal = c.make-made.new.normal; lits = c.make-made.new.lits; witnesses = c.make-made.new.witnesses } in
    denial-widens old new _ c.make-made.ensures.widens c.make-made.ensures.begins c.in-Ok.ensures.witnesses

pub returns-in-Ok-clause-rows : goal.returns-in-Ok-clause-rows
returns-in-Ok-clause-rows c = λ a f denies.
    let old = c.args.basis.now in
    let new : Basis = record { bank = c.make-made.new.bank; normal = c.make-made.new.normal; lits = c.make-made.new.lits; witnesses = c.make-made.new.witnesses } in
    let w = denial-widens old new _ c.make-made.ensures.widens c.make-made.ensures.begins c.in-Ok.ensures.witnesses in
    denied-rows old new w c.requires.good c.args.lit c.requires.number a f denies c.equal_ids_for_equal_terms.ensures c.in-Ok.ensures.witnesses

pub returns-in-Ok-clause-alternatives : goal.returns-in-Ok-clause-alternatives
returns-in-Ok-clause-alternatives c = λ a f denies.
    let old = c.args.basis.now in
    let new : Basis = record { bank = c.make-made.new.bank; normal = c.make-made.new.normal; lits = c.make-made.new.lits; witnesses = c.make-made.new.witnesses } in
    let w = denial-widens old new _ c.make-made.ensures.widens c.make-made.ensures.begins c.in-Ok.ensures.witnesses in
    let rows = denied-rows old new w c.requires.good c.args.lit c.requires.number a f denies c.equal_ids_for_equal_terms.ensures c.in-Ok.ensures.witnesses in
    denied-alternatives old new w c.requires.good c.args.lit c.requires.number a f denies
    (record { atoms = c.make-made.ensures.atoms; rows = c.make-made.ensures.rows; typed = c.in-Ok.ensures.types; memo = c.make-made.ensures.right }) rows
    (map (map (bank_literal new.bank.terms new.lits)) c.in-Ok.instance.alternatives) c.in-Ok.ensures.instance
