use Rattle.std.proofs.Common.{◌<◌, ◌-◌, ◌++◌, ◌∷◌, [], List, length, sym, ap, subst, ◌∙◌, arith}
use Rattle.stt_core.proofs.ListLaws.{take_got}
use Rattle.sat_base.specs.declared.literal.SatLit.{SatLit}
use Rattle.sat_core.specs.Solver.{SolverState, learned}
use Rattle.tableau_calculus.specs.Each.{Each}
use Rattle.search_spec.specs.Clauses.{instance_clauses}
use Rattle.search_spec.specs.Numbered.{numbers}
use Rattle.tableau_clauses.specs.Table.{the_clauses, the_instances}
use Rattle.prover_state.proofs.ClauseLaws.{first_clauses, made-all}
use Rattle.prover_state.proofs.EachLaws.{each-at}
use Rattle.prover_state.proofs.StepLaws.{steps-grow}
use Rattle.prover_state.proofs.clauses.add_clauses.Goals as goal

pub loop-n-init : goal.loop-n-init
loop-n-init c = record {
  made = c.in_ok-make_variables.ensures.made;
  same =
      c.make_variables.ensures.clauses ∙ c.requires.same
      ∙ first_clauses numbers (the_clauses c.args.steps.now) (instance_clauses numbers c.args.instance.principals c.args.instance.alternatives) (the_clauses c.add.new.self) c.in_ok-new.new.start c.in_ok-new.ensures.start c.in_ok-new.ensures.clauses;
  learned = c.make_variables.ensures.learned;
  log = c.make_variables.ensures.log;
}

pub add-requires-in-loop-n : goal.add-requires-in-loop-n
add-requires-in-loop-n c =
    let C : List (List SatLit) → Type 0 = λ cs. Each (Each (λ l. l.var.0 < c.args.atoms)) cs in
    made-all c.args.atoms (length c.loop-n.solver.values) c.in_ok-clause.clause
    (each-at (Each (λ l. l.var.0 < c.args.atoms)) (the_clauses c.add.new.self) c.loop-n.n c.in_ok-clause.clause (subst C (sym c.in_ok-new.ensures.clauses) c.requires.numbers) c.in_ok-clause.ensures)
    c.loop-n.invariant.made

pub loop-n-preserved : goal.loop-n-preserved
loop-n-preserved c = record {
  made = let e = ap (λ (s : SolverState). length s.values) c.in_ok-add.ensures.ok in omega (arith, e, c.loop-n.invariant.made);
  same =
      ap (λ (s : SolverState). s.clauses) c.in_ok-add.ensures.ok
      ∙ ap (λ cs. cs ++ c.in_ok-clause.clause ∷ []) c.loop-n.invariant.same
      ∙ sym (take_got (the_clauses c.add.new.self) c.loop-n.n c.in_ok-clause.clause c.in_ok-clause.ensures);
  learned = ap (λ (s : SolverState). learned s) c.in_ok-add.ensures.ok ∙ c.loop-n.invariant.learned;
  log = ap (λ (s : SolverState). s.log) c.in_ok-add.ensures.ok ∙ c.loop-n.invariant.log;
}

pub returns-clause-steps : goal.returns-clause-steps
returns-clause-steps c =
    steps-grow c.args.steps.now c.add.new.self c.args.instance (instance_clauses numbers c.args.instance.principals c.args.instance.alternatives) (c.in_ok-new.new.end - c.in_ok-new.new.start) (length (the_instances c.args.steps.now))
    c.in_ok-new.ensures.clauses c.in_ok-new.ensures.origins c.in_ok-new.ensures.instances
