use Rattle.std.proofs.Common.{◌≡◌, ◌<◌, List, length, Some, sym, subst}
use Rattle.sat_base.specs.declared.literal.SatLit.{SatLit}
use Rattle.sat_log.specs.declared.chain.Premise.TheVariants.{Clause}
use Rattle.sat_log.specs.Chains.{premise_clause, results}
use Rattle.tableau_clauses.specs.Table.{the_clauses}
use Rattle.rebuild_spec.specs.Stands.{premise_place}
use Rattle.tableau_rebuild.specs.declared.arena.Standing.TheVariants.{Start}
use Rattle.tableau_rebuild.specs.Internal.Arenas.{IsThere, StandsFor}
use Rattle.tableau_rebuild.proofs.ArenaLaws.{start_premise, instance_premise}
use Rattle.tableau_rebuild.proofs.ChainLaws.{result_premise}
use Rattle.tableau_rebuild.proofs.arena.Arena.premise.Goals as goal

pub returns-in-Result-clause-stands : goal.returns-in-Result-clause-stands
returns-in-Result-clause-stands c =
    let t = c.args.steps.now in
    let log = c.args.log.now in
    let old = c.args.self.now in
    let there : c.in-Result.n < length old.of_result.items = subst (IsThere (length (the_clauses t)) (length old.of_result.items)) c.in-Result.is c.requires.there in
    subst (λ p. (d : List SatLit) → premise_clause (the_clauses t) (results log) p ≡ Some d → StandsFor t log old.drafts.items (premise_place p) d c.index.result.now) (sym c.in-Result.is)
    (λ d h. result_premise t log old.drafts.items old.of_result.items c.in-Result.n c.index.result.now d c.requires.results there c.index.ensures h)

pub returns-in-Start-clause-stands : goal.returns-in-Start-clause-stands
returns-in-Start-clause-stands c =
    let t = c.args.steps.now in
    let log = c.args.log.now in
    let ds = c.args.self.now.drafts.items in
    subst (λ p. (d : List SatLit) → premise_clause (the_clauses t) (results log) p ≡ Some d → StandsFor t log ds (premise_place p) d (Start c.in-Clause.n)) (sym c.in-Clause.is)
    (λ d h. start_premise t log ds c.clauses_come_from_origins.ensures c.in-Clause.n d c.in-Start.ensures h)

pub returns-in_ok-line_of-in-Instance-clause-stands : goal.returns-in_ok-line_of-in-Instance-clause-stands
returns-in_ok-line_of-in-Instance-clause-stands c =
    let t = c.args.steps.now in
    let log = c.args.log.now in
    let ds = c.line_of.new.self.drafts.items in
    let line = c.in_ok-line_of-in-Instance.ensures.line in
    subst (λ p. (d : List SatLit) → premise_clause (the_clauses t) (results log) p ≡ Some d → StandsFor t log ds (premise_place p) d c.in_ok-line_of-in-Instance.field-0) (sym c.in-Clause.is)
    (subst (λ s. (d : List SatLit) → premise_clause (the_clauses t) (results log) (Clause c.in-Clause.n) ≡ Some d → StandsFor t log ds (premise_place (Clause c.in-Clause.n)) d s) (sym line.1)
    (λ d h. instance_premise t log ds c.in-Clause.n line.0 c.in-Instance.field-0 d line.2 c.in-Instance.ensures h))
