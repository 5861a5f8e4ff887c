use Rattle.std.proofs.Common.{Err, ap, ◌∙◌}
use Rattle.prover_state.specs.declared.tables.Basis.{Basis}
use Rattle.prover_state.proofs.RuleLaws.{widened-grows, no-witness}
use Rattle.prover_state.proofs.tables.Basis.make_instance.Goals as goal

pub unreachable-requires : goal.unreachable-requires
unreachable-requires c = c.make-made.ensures.not_this_rule (c.in-Err.is ∙ ap Err c.in-NotThisRule.is) _ c.requires.fits.0 c.requires.fits.1

pub returns-in-Ok-clause-grows : goal.returns-in-Ok-clause-grows
returns-in-Ok-clause-grows c =
    let old = c.args.self.now in
    let new : Basis = record { bank = c.make-made.new.bank; normal = c.make-made.new.normal; lits = c.make-made.new.lits; witnesses = c.make-made.new.witnesses } in
    let by = c.args.by.now in
    let same = no-witness new.bank new.lits by old.witnesses new.witnesses c.requires.unwitnessed c.in-Ok.ensures.witnesses in
    record {
      bank = widened-grows old new c.requires.good c.make-made.ensures.widens same c.in-Ok.ensures.types;
      lits = c.make-made.ensures.begins;
      witnesses = same;
    }
