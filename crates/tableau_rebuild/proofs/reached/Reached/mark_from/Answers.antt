use Rattle.std.proofs.Common.{length, sym, subst, arith}
use Rattle.tableau_clauses.specs.Table.{the_clauses}
use Rattle.tableau_rebuild.specs.Internal.Flags.{ArePremisesThere}
use Rattle.tableau_rebuild.proofs.ChainLaws.{chain_entry}
use Rattle.tableau_rebuild.proofs.FlagLaws.{entry_premises, premises_later}
use Rattle.tableau_rebuild.proofs.reached.Reached.mark_from.Goals as goal

pub mark_chain-requires : goal.mark_chain-requires
mark_chain-requires c =
    let t = c.args.steps.now in
    let log = c.args.log.now in
    let chain = c.chain.result.now in
    let found = chain_entry t log c.requires.right c.args.n chain c.chain.ensures in
    let within = c.requires.within in
    let there = premises_later t log c.args.n (length log) found.0.chain (omega (arith, within)) (entry_premises t log c.requires.right c.args.n found.0 found.1) in
    subst (λ m. ArePremisesThere m (length c.args.self.now.results.items) chain) (sym c.requires.clauses)
    (subst (λ m. ArePremisesThere (length (the_clauses t)) m chain) (sym c.requires.results)
    (subst (ArePremisesThere (length (the_clauses t)) (length log)) found.2 there))
