use Rattle.std.proofs.Common.{refl, subst, sym, ap, ◌∙◌}
use Rattle.delta_defs.specs.Unfolding.{taken_names, unfolded_problem}
use Rattle.delta_defs.proofs.KeptModels.{taken_declared}
use Rattle.prover_run.specs.Ended.{EndsAs}
use Rattle.refute_print.specs.Named.{named_refutation, IsNamed}
use Rattle.refute_print.specs.Text.{text_lines, as_bytes}
use Rattle.request_answers.specs.Names.{names_in}
use Rattle.request_answers.specs.Solved.{IsProofOf}
use Rattle.request_answers.proofs.SolvedLaws.{run_named, proof_of_run}
use Rattle.request_answers.proofs.solve.ended_answer.Goals as goal

pub proof_text-requires-clause-named : goal.proof_text-requires-clause-named
proof_text-requires-clause-named c =
    let p = c.args.problem.now in
    let m = c.args.mode.now in
    let ends = subst (EndsAs (unfolded_problem p) m c.args.nodes) c.in-Proved.is c.requires.ended in
    subst (IsNamed (names_in p)) (sym c.written-refutation.ensures.written)
    (run_named c.args.nodes m p c.in-Proved.commands c.in-Proved.refutation c.requires.texts ends.0 c.in-Proved.tree ends.1)

pub returns-in_ok-text-in-Proved : goal.returns-in_ok-text-in-Proved
returns-in_ok-text-in-Proved c =
    let p = c.args.problem.now in
    let m = c.args.mode.now in
    let n = c.in-Proved.commands in
    let ends = subst (EndsAs (unfolded_problem p) m c.args.nodes) c.in-Proved.is c.requires.ended in
    let text = c.in_ok-text-in-Proved.text in (
      c.claim_of.ensures,
      refl,
      subst (λ tree. IsProofOf c.args.nodes m p n tree text) (sym c.written-refutation.ensures.told)
          (proof_of_run c.args.nodes m p n c.in-Proved.refutation c.requires.texts ends.0 c.in-Proved.tree ends.1 (taken_declared p c.requires.texts.typed) text
          (c.in_ok-text-in-Proved.ensures
          ∙ ap (λ r. as_bytes (text_lines (named_refutation (names_in p) (taken_names p) r))) c.written-refutation.ensures.written)),
    )
