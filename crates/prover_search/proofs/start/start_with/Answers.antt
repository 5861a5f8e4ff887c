use Rattle.std.proofs.Common.{◌≡◌, true, [], ◌∷◌, ap, sym, ◌∙◌, arith}
use Rattle.std.proofs.lemmas.Bool.{le-leb, lt-leb}
use Rattle.std.proofs.lemmas.Option.{get_or_from_slice_get}
use Rattle.stt_core.specs.Depth.{depth}
use Rattle.search_spec.specs.Shallow.{is_shallow_literal}
use Rattle.term_bank.specs.Terms.{term_at}
use Rattle.literal_map.specs.Atoms.{bank_atom, bank_literal}
use Rattle.prover_state.specs.Internal.Standing.{the_state}
use Rattle.prover_state.proofs.InstanceLaws.{shallow_added, right-added}
use Rattle.prover_search.proofs.StartingLaws.{alone-deep, all-shallow, unit-clauses, adds-deep, adds-shallow}
use Rattle.prover_search.proofs.start.start_with.Goals as goal

pub returns-then-depth-gt-DEPTH-clause-state : goal.returns-then-depth-gt-DEPTH-clause-state
returns-then-depth-gt-DEPTH-clause-state g c =
    let core = c.args.core.now in
    let b = core.tables.basis in
    let l = c.args.lit in
    let deep : depth (bank_atom b.bank.terms b.lits l.var.0) ≡ c.depth.result =
    ap (λ id. depth (term_at b.bank.terms id)) (get_or_from_slice_get b.lits l.var.0 c.formula_of.result 0 c.formula_of.ensures) ∙ sym c.depth.ensures in
    alone-deep core.plan.rule.mode (bank_literal b.bank.terms b.lits l) (the_state core.tables core.plan)
    (lt-leb (depth (bank_atom b.bank.terms b.lits l.var.0)) 4096 (omega (arith, deep, c.if-depth-gt-DEPTH.true)))

pub returns-then-depth-gt-DEPTH-clause-steps : goal.returns-then-depth-gt-DEPTH-clause-steps
returns-then-depth-gt-DEPTH-clause-steps g c =
    let core = c.args.core.now in
    let b = core.tables.basis in
    let l = c.args.lit in
    let deep : depth (bank_atom b.bank.terms b.lits l.var.0) ≡ c.depth.result =
    ap (λ id. depth (term_at b.bank.terms id)) (get_or_from_slice_get b.lits l.var.0 c.formula_of.result 0 c.formula_of.ensures) ∙ sym c.depth.ensures in
    adds-deep l core.tables (lt-leb (depth (bank_atom b.bank.terms b.lits l.var.0)) 4096 (omega (arith, deep, c.if-depth-gt-DEPTH.true)))

pub see-requires-clause-right : goal.see-requires-clause-right
see-requires-clause-right g c =
    let core = c.args.core.now in
    let lit = c.args.lit in
    right-added core.tables core.plan c.equal_ids_for_equal_terms.ensures c.atoms_differ.ensures c.requires.right core.plan.rule.mode [] ((lit ∷ []) ∷ []) tt ((c.requires.number, tt), tt)
    c.add_unit.new.steps c.add_unit.new.solver (unit-clauses lit core.tables.steps c.add_unit.new.steps c.in_ok-add_unit.ensures.unit) c.in_ok-add_unit.ensures.same c.in_ok-add_unit.ensures.learned

pub returns-clause-state : goal.returns-clause-state
returns-clause-state g c =
    let core = c.args.core.now in
    let b = core.tables.basis in
    let lit = c.args.lit in
    let mode = core.plan.rule.mode in
    let deep : depth (bank_atom b.bank.terms b.lits lit.var.0) ≡ c.depth.result =
    ap (λ id. depth (term_at b.bank.terms id)) (get_or_from_slice_get b.lits lit.var.0 c.formula_of.result 0 c.formula_of.ensures) ∙ sym c.depth.ensures in
    let shallow : is_shallow_literal (bank_literal b.bank.terms b.lits lit) ≡ true = le-leb (depth (bank_atom b.bank.terms b.lits lit.var.0)) 4096 (omega (arith, deep, c.if-depth-gt-DEPTH.false)) in
    c.in_ok-see.ensures.state
    ∙ shallow_added core.tables core.plan c.equal_ids_for_equal_terms.ensures c.atoms_differ.ensures c.requires.right mode [] ((lit ∷ []) ∷ []) tt ((c.requires.number, tt), tt)
    c.add_unit.new.steps c.add_unit.new.solver (unit-clauses lit core.tables.steps c.add_unit.new.steps c.in_ok-add_unit.ensures.unit) (all-shallow (bank_literal b.bank.terms b.lits lit) shallow)

pub returns-clause-steps : goal.returns-clause-steps
returns-clause-steps g c =
    let core = c.args.core.now in
    let b = core.tables.basis in
    let lit = c.args.lit in
    let deep : depth (bank_atom b.bank.terms b.lits lit.var.0) ≡ c.depth.result =
    ap (λ id. depth (term_at b.bank.terms id)) (get_or_from_slice_get b.lits lit.var.0 c.formula_of.result 0 c.formula_of.ensures) ∙ sym c.depth.ensures in
    let shallow : is_shallow_literal (bank_literal b.bank.terms b.lits lit) ≡ true = le-leb (depth (bank_atom b.bank.terms b.lits lit.var.0)) 4096 (omega (arith, deep, c.if-depth-gt-DEPTH.false)) in
    adds-shallow lit core.tables (record core.tables { steps = c.add_unit.new.steps; solver = c.add_unit.new.solver }) c.see.new.self.tables c.see.new.self.tables.seen c.in_ok-see.ensures.tables shallow c.in_ok-add_unit.ensures.unit
