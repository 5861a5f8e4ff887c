use Rattle.std.proofs.Common.{◌&&◌, true, false, length, IsSome, sym, ap, subst, ◌∙◌, arith}
use Rattle.std.proofs.lemmas.Option.{slice_get_within}
use Rattle.sat_base.specs.Literal.{positive, holds}
use Rattle.sat_log.specs.Resolution.{resolved}
use Rattle.tableau_clauses.specs.Table.{the_clauses}
use Rattle.tableau_rebuild.specs.Internal.Arenas.{IsThere}
use Rattle.tableau_rebuild.proofs.ChainLaws.{there_later, step_facts, no_repeats, resolves, chained_more}
use Rattle.tableau_rebuild.proofs.arena.Arena.step.Goals as goal

pub premise-requires-clause-there : goal.premise-requires-clause-there
premise-requires-clause-there c =
    let t = c.args.steps.now in
    let log = c.args.log.now in
    let facts = step_facts t log c.args.self.now.drafts.items c.args.at.result c.args.at.step c.args.resolver.now c.args.standing c.args.step c.requires.chained c.requires.has in
    subst (λ n. IsThere (length (the_clauses t)) n c.args.step.premise) (sym c.requires.next) facts.there

pub copied-requires : goal.copied-requires
copied-requires c =
    let t = c.args.steps.now in
    let log = c.args.log.now in
    let facts = step_facts t log c.args.self.now.drafts.items c.args.at.result c.args.at.step c.args.resolver.now c.args.standing c.args.step c.requires.chained c.requires.has in
    (c.args.at.result, facts.there)

pub literals_of-literals-requires-clause-there : goal.literals_of-literals-requires-clause-there
literals_of-literals-requires-clause-there c =
    let t = c.args.steps.now in
    let log = c.args.log.now in
    let facts = step_facts t log c.args.self.now.drafts.items c.args.at.result c.args.at.step c.args.resolver.now c.args.standing c.args.step c.requires.chained c.requires.has in
    let within = slice_get_within log c.args.at.result c.requires.has.entry c.requires.has.is_entry in
    there_later t log c.args.at.result (length log) c.args.step.premise (omega (arith, within)) facts.there

pub resolve-requires-clause-once : goal.resolve-requires-clause-once
resolve-requires-clause-once c = no_repeats c.args.steps.now c.args.log.now c.args.self.now.drafts.items c.args.at.result c.args.at.step c.args.resolver.now c.args.standing c.requires.chained

pub resolve-requires-clause-resolves : goal.resolve-requires-clause-resolves
resolve-requires-clause-resolves c =
    resolves c.args.steps.now c.args.log.now c.args.self.now.drafts.items c.args.at.result c.args.at.step c.args.resolver.now c.literals_of-literals.result.now c.args.standing c.args.step c.requires.chained c.requires.has c.literals_of-literals.ensures

pub join-requires-clause-before : goal.join-requires-clause-before
join-requires-clause-before c = c.in_ok-other.ensures.before c.args.at.result c.args.at.step c.requires.before

pub join-requires-else-is_first-clause-before : goal.join-requires-else-is_first-clause-before
join-requires-else-is_first-clause-before c = c.in_ok-other.ensures.before c.args.at.result c.args.at.step c.requires.before

pub returns-then-is_first-clause-chained : goal.returns-then-is_first-clause-chained
returns-then-is_first-clause-chained c =
    let old = c.args.resolver.now in
    let v = c.args.step.var in
    let premise = c.literals_of-literals.result.now in
    chained_more c.args.steps.now c.args.log.now c.args.self.now.drafts.items c.premise.new.self.drafts.items c.join.new.self.drafts.items c.args.at.result c.args.at.step old premise c.resolve.new.self c.args.standing c.in_ok-other.other c.in_ok-join.field-0 c.args.step c.requires.chained c.requires.has
    c.in_ok-other.ensures.extends c.literals_of-literals.ensures (c.in_ok-other.ensures.stands premise c.literals_of-literals.ensures) c.in_ok-resolve.ensures.ok true
    (c.if-is_first.ensures ∙ ap (λ l. holds old (positive v) && holds premise l) c.negated.ensures)
    c.in_ok-join.ensures.joined

pub returns-clause-chained : goal.returns-clause-chained
returns-clause-chained c =
    let old = c.args.resolver.now in
    let v = c.args.step.var in
    let premise = c.literals_of-literals.result.now in
    chained_more c.args.steps.now c.args.log.now c.args.self.now.drafts.items c.premise.new.self.drafts.items c.join-else-is_first.new.self.drafts.items c.args.at.result c.args.at.step old premise c.resolve.new.self c.args.standing c.in_ok-other.other c.in_ok-join-2.field-0 c.args.step c.requires.chained c.requires.has
    c.in_ok-other.ensures.extends c.literals_of-literals.ensures (c.in_ok-other.ensures.stands premise c.literals_of-literals.ensures) c.in_ok-resolve.ensures.ok false
    (c.if-is_first.ensures ∙ ap (λ l. holds old (positive v) && holds premise l) c.negated.ensures)
    c.in_ok-join-2.ensures.joined
