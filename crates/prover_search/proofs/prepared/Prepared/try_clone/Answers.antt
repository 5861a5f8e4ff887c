use Rattle.std.proofs.Common.{ap, ◌∙◌, ◌++◌}
use Rattle.prover_state.specs.declared.tables.Basis.{Basis}
use Rattle.prover_search.proofs.PreparedLaws.{prepared-copied}
use Rattle.prover_search.proofs.prepared.Prepared.try_clone.Goals as goal

pub returns : goal.returns
returns c = λ p h.
    let new : Basis = record { bank = c.in_ok-bank.bank; normal = c.new.result; lits = c.in_ok-lits.lits; witnesses = c.new-2.result } in
    prepared-copied p c.args.self.now.basis new c.args.self.now.start.items c.extend_from_slice.new.self.items c.in_ok-bank.ensures c.in_ok-lits.ensures c.new-2.ensures (c.new.ensures c.in_ok-bank.bank)
    (c.in_ok-extend_from_slice.ensures.items ∙ ap (λ ls. ls ++ c.as_slice.result.now) c.new-start.ensures.items ∙ c.as_slice.ensures.value) h
