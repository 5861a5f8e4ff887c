use Rattle.std.proofs.Common.{◌<◌, [], length, sym, subst}
use Rattle.rebuild_spec.specs.Trees.{at_result}
use Rattle.rebuild_spec.specs.Stands.{line, Stands}
use Rattle.tableau_rebuild.specs.Tables.{the_input, the_sources}
use Rattle.tableau_rebuild.specs.declared.arena.Standing.TheVariants.{Line}
use Rattle.tableau_rebuild.specs.Internal.Arenas.{the_standing, StandsFor}
use Rattle.tableau_rebuild.specs.Internal.Drafts.{AreDrafts}
use Rattle.tableau_rebuild.specs.Internal.Written.{the_tree, IsFounded}
use Rattle.tableau_rebuild.proofs.ArenaLaws.{are_drafts}
use Rattle.tableau_rebuild.proofs.LastLaws.{last_stands, last_start}
use Rattle.tableau_rebuild.proofs.OverLaws.{stands_founded}
use Rattle.tableau_rebuild.proofs.refutation.refutation_from.Goals as goal

pub unreachable-requires : goal.unreachable-requires
unreachable-requires c =
    let t = c.args.steps.now in
    let log = c.args.log.now in
    let arena = c.in_ok-arena.arena in
    let ds = arena.drafts.items in
    let made = c.in_ok-arena.ensures in
    let h = last_stands t log ds arena.of_result.items made.results made.all c.requires.closed c.len.result c.len.ensures c.index.result.now c.index.ensures in
    last_start t log ds c.args.bank.now c.requires.closed.number c.in-Start.field-0 (subst (StandsFor t log ds (at_result c.requires.closed.number) []) c.in-Start.is h)

pub refutation_of-requires-clause-right : goal.refutation_of-requires-clause-right
refutation_of-requires-clause-right c =
    let arena = c.in_ok-arena.arena in
    subst AreDrafts (sym c.deref.ensures.value) (are_drafts arena.drafts.items arena.of_clause.items c.in_ok-arena.ensures.drawn)

pub refutation_of-requires-clause-last : goal.refutation_of-requires-clause-last
refutation_of-requires-clause-last c =
    let t = c.args.steps.now in
    let log = c.args.log.now in
    let arena = c.in_ok-arena.arena in
    let ds = arena.drafts.items in
    let made = c.in_ok-arena.ensures in
    let h = last_stands t log ds arena.of_result.items made.results made.all c.requires.closed c.len.result c.len.ensures c.index.result.now c.index.ensures in
    let stands = subst (StandsFor t log ds (at_result c.requires.closed.number) []) c.in-Line.is h in
    subst (λ xs. c.in-Line.last < length xs) (sym c.deref.ensures.value) stands.within

pub refutation_of-requires-clause-founded : goal.refutation_of-requires-clause-founded
refutation_of-requires-clause-founded c =
    let b = c.args.bank.now in
    let atoms = c.args.lits.now in
    let witnesses = c.args.witnesses.now in
    let t = c.args.steps.now in
    let log = c.args.log.now in
    let arena = c.in_ok-arena.arena in
    let ds = arena.drafts.items in
    let made = c.in_ok-arena.ensures in
    let h = last_stands t log ds arena.of_result.items made.results made.all c.requires.closed c.len.result c.len.ensures c.index.result.now c.index.ensures in
    let stands = subst (StandsFor t log ds (at_result c.requires.closed.number) []) c.in-Line.is h in
    let founded =
    stands_founded b atoms t log witnesses c.clauses_come_from_origins.ensures c.requires.instances c.requires.units (at_result c.requires.closed.number) [] (the_standing (the_sources b.terms atoms t) ds (Line c.in-Line.last)) (stands.stands b atoms witnesses) in
    subst (λ xs. IsFounded b atoms t xs c.in-Line.last) (sym c.deref.ensures.value) founded.1

pub returns-clause-rebuilt : goal.returns-clause-rebuilt
returns-clause-rebuilt c =
    let b = c.args.bank.now in
    let atoms = c.args.lits.now in
    let witnesses = c.args.witnesses.now in
    let t = c.args.steps.now in
    let log = c.args.log.now in
    let arena = c.in_ok-arena.arena in
    let ds = arena.drafts.items in
    let made = c.in_ok-arena.ensures in
    let last = c.in-Line.last in
    let h = last_stands t log ds arena.of_result.items made.results made.all c.requires.closed c.len.result c.len.ensures c.index.result.now c.index.ensures in
    let stands = subst (StandsFor t log ds (at_result c.requires.closed.number) []) c.in-Line.is h in
    record {
      number = c.requires.closed.number;
      is_last = c.requires.closed.is_last;
      last = the_tree b.terms atoms t c.deref.result.now last;
      stands = subst (λ xs. Stands (the_input b atoms t log witnesses) (at_result c.requires.closed.number) [] (line (the_tree b.terms atoms t xs last))) (sym c.deref.ensures.value) (stands.stands b atoms witnesses);
      lines = c.in_ok-refutation_of-in-Line.ensures.lines;
      rows = c.in_ok-refutation_of-in-Line.ensures.rows;
    }
