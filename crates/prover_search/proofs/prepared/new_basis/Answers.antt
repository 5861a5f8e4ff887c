use Rattle.std.proofs.Common.{ap}
use Rattle.term_bank.specs.Content.{Content}
use Rattle.prover_state.specs.declared.tables.Basis.{Basis}
use Rattle.prover_search.proofs.BasisLaws.{basis-none}
use Rattle.prover_search.proofs.prepared.new_basis.Goals as goal

pub returns-clause-good : goal.returns-clause-good
returns-clause-good c =
    let new : Basis = record { bank = c.new.result; normal = c.new-2.result; lits = c.new-3.result; witnesses = c.new-4.result } in
    basis-none new c.new-3.ensures c.new-4.ensures (ap (λ (b : Content). b.witnesses) c.new.ensures) (c.new-2.ensures c.new.result)
