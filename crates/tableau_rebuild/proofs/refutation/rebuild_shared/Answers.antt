use Rattle.term_bank.specs.Content.{content_scope}
use Rattle.tableau_rebuild.specs.Tables.{atoms_at, the_input, unit_literals}
use Rattle.tableau_rebuild.proofs.refutation.rebuild_shared.Goals as goal

pub returns-clause-accepted : goal.returns-clause-accepted
returns-clause-accepted c =
    let b = c.args.bank.now in
    let atoms = c.args.lits.now in
    let t = c.args.steps.now in
    c.rebuilt_is_accepted.ensures.accepted (content_scope b) (unit_literals (atoms_at b.terms atoms) t.0) (the_input b atoms t c.args.log.now c.args.witnesses.now) c.in_ok-refutation_from.field-0 c.tables_are_given.ensures c.in_ok-refutation_from.ensures.rebuilt

pub returns-clause-closed : goal.returns-clause-closed
returns-clause-closed c =
    let b = c.args.bank.now in
    let atoms = c.args.lits.now in
    let t = c.args.steps.now in
    c.rebuilt_is_accepted.ensures.closed (content_scope b) (unit_literals (atoms_at b.terms atoms) t.0) (the_input b atoms t c.args.log.now c.args.witnesses.now) c.in_ok-refutation_from.field-0 c.tables_are_given.ensures c.in_ok-refutation_from.ensures.rebuilt

pub returns-clause-reached : goal.returns-clause-reached
returns-clause-reached c =
    let b = c.args.bank.now in
    let atoms = c.args.lits.now in
    let t = c.args.steps.now in
    c.rebuilt_is_trimmed.ensures.reached (content_scope b) (unit_literals (atoms_at b.terms atoms) t.0) (the_input b atoms t c.args.log.now c.args.witnesses.now) c.in_ok-refutation_from.field-0 c.tables_are_given.ensures c.in_ok-refutation_from.ensures.rebuilt

pub returns-clause-from_search : goal.returns-clause-from_search
returns-clause-from_search c =
    let b = c.args.bank.now in
    let atoms = c.args.lits.now in
    let t = c.args.steps.now in
    c.rebuilt_is_trimmed.ensures.from_search (content_scope b) (unit_literals (atoms_at b.terms atoms) t.0) (the_input b atoms t c.args.log.now c.args.witnesses.now) c.in_ok-refutation_from.field-0 c.tables_are_given.ensures c.in_ok-refutation_from.ensures.rebuilt

pub returns-clause-few : goal.returns-clause-few
returns-clause-few c =
    let b = c.args.bank.now in
    let atoms = c.args.lits.now in
    let t = c.args.steps.now in
    c.rebuilt_is_trimmed.ensures.few (content_scope b) (unit_literals (atoms_at b.terms atoms) t.0) (the_input b atoms t c.args.log.now c.args.witnesses.now) c.in_ok-refutation_from.field-0 c.tables_are_given.ensures c.in_ok-refutation_from.ensures.rebuilt
