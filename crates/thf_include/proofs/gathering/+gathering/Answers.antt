use Rattle.std.proofs.Common.{◌≡◌, ◌∷◌, [], ◌++◌, length, map, Contains, length-append, append_assoc, ap, sym, subst, ◌∙◌, refl, Ok, Err, arith}
use Rattle.std.proofs.lemmas.List.{map-append}
use Rattle.std.proofs.lemmas.Result.{err_from_is_err_and}
use Rattle.std.specs.Vec.Iter.{into_iter_items}
use Rattle.thf_grammar.specs.Trees.{include}
use Rattle.thf_grammar.specs.View.{the_annotated, the_file, the_statement, the_selected, the_selection}
use Rattle.thf_include.specs.Internal.Chain.{the_chain}
use Rattle.thf_include.specs.Internal.Steps.{FileSteps, StatementSteps, StatementsStep}
use Rattle.thf_include.specs.Internal.Names.{AreNamedStatements}
use Rattle.thf_include.specs.View.{the_placed, the_statements}
use Rattle.thf_include.proofs.FileSteps.{read-refused, text-refused, file-follows}
use Rattle.thf_include.proofs.IncludeNames.{tree-named}
use Rattle.thf_include.proofs.Totals.{one-named}
use Rattle.thf_include.proofs.StatementSteps.{next-statement, last-statement, include-stopped, include-whole, include-selected, cycle-step, full-step, memory-step, stays-step, none-step, same-statement, same-statements}
use Rattle.thf_include.proofs.gathering.+gathering.Goals as goal

pub gather_file-returns-in_err-text-clause-steps : goal.gather_file-returns-in_err-text-clause-steps
gather_file-returns-in_err-text-clause-steps g t c =
    let files = g.F.Files in
    let p = err_from_is_err_and c.from_residual.result c.from_residual.ensures.1 in
    rw (p.1, p.2)
    (read-refused (files.seen c.args.files.now) (the_chain c.args.chain.now) c.args.name.now c.args.opened.now c.read.new.self
    (the_statements c.args.gathered.now) (the_statements c.args.gathered.now) c.in_err-text.field-0.0 c.in_err-text.ensures.refused)

pub gather_file-returns-in_err-statements-clause-steps : goal.gather_file-returns-in_err-statements-clause-steps
gather_file-returns-in_err-statements-clause-steps g t c =
    let files = g.F.Files in
    let p = err_from_is_err_and c.from_residual-in_err-statements.result c.from_residual-in_err-statements.ensures.1 in
    rw (p.1, p.2)
    (text-refused (files.seen c.args.files.now) (the_chain c.args.chain.now) c.args.name.now c.in_ok-text.text c.args.opened.now c.read.new.self
    c.len-file.result c.len-file.ensures c.in_ok-text.ensures.names c.in_ok-text.ensures.left c.in_ok-text.ensures.told
    (the_statements c.args.gathered.now) (the_statements c.args.gathered.now) c.in_err-statements.field-0.0 c.in_err-statements.ensures.refused)

pub gather_file-gather_statements-requires : goal.gather_file-gather_statements-requires
gather_file-gather_statements-requires g t c κs within = (
  omega (arith, ap length c.in_ok-text.ensures.names, length-append c.args.opened.now.names (c.args.name.now ∷ [])),
  (within, tree-named c.in_ok-text.text (the_file c.in_ok-statements.statements.items) c.in_ok-statements.ensures.tree),
)

pub gather_file-returns-clause-steps : goal.gather_file-returns-clause-steps
gather_file-returns-clause-steps g t c =
    let files = g.F.Files in
    let seen = files.seen c.args.files.now in
    let tree = the_file c.in_ok-statements.statements.items in
    let before = the_statements c.args.gathered.now in
    let after = the_statements c.gather_statements.new.gathered in
    file-follows seen (the_chain c.args.chain.now) c.args.name.now c.in_ok-text.text c.args.opened.now c.read.new.self
    c.len-file.result c.len-file.ensures c.in_ok-text.ensures.names c.in_ok-text.ensures.left c.in_ok-text.ensures.told
    c.gather_statements.new.opened tree c.in_ok-statements.ensures.tree before after c.gather_statements.result
    (subst (λ n. StatementsStep seen (n ∷ the_chain c.args.chain.now) c.len-file.result tree c.read.new.self c.gather_statements.new.opened before after c.gather_statements.result) c.as_bytes.ensures.value
    (same-statements seen (files.seen c.read.new.files) c.in_ok-text.ensures.same (c.as_bytes.result.now ∷ the_chain c.args.chain.now) c.len-file.result
    c.read.new.self c.gather_statements.new.opened before after c.gather_statements.result tree c.gather_statements.ensures.steps))

pub gather_include-returns-then-contains-clause-steps : goal.gather_include-returns-then-contains-clause-steps
gather_include-returns-then-contains-clause-steps g t c =
    let files = g.F.Files in
    cycle-step (files.seen c.args.files.now) (the_chain c.args.chain.now) c.args.statement.now.file c.args.opened.now (the_statements c.args.gathered.now)
    c.args.statement.now.at c.args.statement.now.name (the_selection c.args.statement.now.only)
    (subst (λ n. Contains (the_chain c.args.chain.now) n) c.as_slice.ensures (c.contains.ensures.0 c.if-contains.true))

pub gather_include-returns-then-len-ge-MAX_FILES-clause-steps : goal.gather_include-returns-then-len-ge-MAX_FILES-clause-steps
gather_include-returns-then-len-ge-MAX_FILES-clause-steps g t c =
    let files = g.F.Files in
    let apart : Contains (the_chain c.args.chain.now) c.args.statement.now.name → ⊥ = λ k. let is = c.contains.ensures.1 (subst (λ n. Contains (the_chain c.args.chain.now) n) (sym c.as_slice.ensures) k) in let no = c.if-contains.false in cc in
    full-step (files.seen c.args.files.now) (the_chain c.args.chain.now) c.args.statement.now.file c.args.opened.now (the_statements c.args.gathered.now)
    c.args.statement.now.at c.args.statement.now.name (the_selection c.args.statement.now.only) apart (omega arith)

pub gather_include-returns-in-None-clause-steps : goal.gather_include-returns-in-None-clause-steps
gather_include-returns-in-None-clause-steps g t c =
    let files = g.F.Files in
    let seen = files.seen c.args.files.now in
    let chain = the_chain c.args.chain.now in
    let before = the_statements c.args.gathered.now in
    let after = the_statements c.gather_file.new.gathered in
    let apart : Contains chain c.args.statement.now.name → ⊥ = λ k. let is = c.contains.ensures.1 (subst (λ n. Contains chain n) (sym c.as_slice.ensures) k) in let no = c.if-contains.false in cc in
    subst (λ o. StatementSteps seen chain c.args.statement.now.file (include c.args.statement.now.at c.args.statement.now.name (the_selection o)) c.args.opened.now c.gather_file.new.opened before after c.gather_file.result) (sym c.in-None.is)
    (include-whole seen chain c.args.statement.now.file c.args.statement.now.at c.args.statement.now.name c.args.opened.now c.gather_file.new.opened apart (omega arith) before after c.gather_file.result
    (subst (λ n. FileSteps seen chain n c.args.opened.now c.gather_file.new.opened before after c.gather_file.result) (c.text_of-name.ensures ∙ c.as_slice-2.ensures) c.gather_file.ensures.steps))

pub gather_include-returns-in_err-gather_file-in-Some-clause-steps : goal.gather_include-returns-in_err-gather_file-in-Some-clause-steps
gather_include-returns-in_err-gather_file-in-Some-clause-steps g t c =
    let files = g.F.Files in
    let seen = files.seen c.args.files.now in
    let chain = the_chain c.args.chain.now in
    let before = the_statements c.args.gathered.now in
    let fresh = the_statements c.new-included.result in
    let included = the_statements c.gather_file-in-Some.new.gathered in
    let e = c.in_err-gather_file-in-Some.field-0.0 in
    let apart : Contains chain c.args.statement.now.name → ⊥ = λ k. let is = c.contains.ensures.1 (subst (λ n. Contains chain n) (sym c.as_slice.ensures) k) in let no = c.if-contains.false in cc in
    let p = err_from_is_err_and c.from_residual.result c.from_residual.ensures.1 in
    rw (p.1, p.2)
    (include-stopped seen chain c.args.statement.now.file c.args.statement.now.at c.args.statement.now.name c.args.opened.now c.gather_file-in-Some.new.opened apart (omega arith) (the_selection c.args.statement.now.only) fresh included before before e
    (subst (λ n. FileSteps {T = Unit {0}} seen chain n c.args.opened.now c.gather_file-in-Some.new.opened fresh included (Err e)) (c.text_of-name.ensures ∙ c.as_slice-2.ensures) c.in_err-gather_file-in-Some.ensures.steps))

pub gather_include-returns-in_ok-gather_file-in-Some-clause-steps : goal.gather_include-returns-in_ok-gather_file-in-Some-clause-steps
gather_include-returns-in_ok-gather_file-in-Some-clause-steps g t c =
    let files = g.F.Files in
    let seen = files.seen c.args.files.now in
    let chain = the_chain c.args.chain.now in
    let before = the_statements c.args.gathered.now in
    let after = the_statements c.keep_selected.new.gathered in
    let fresh = the_statements c.new-included.result in
    let included = the_statements c.gather_file-in-Some.new.gathered in
    let apart : Contains chain c.args.statement.now.name → ⊥ = λ k. let is = c.contains.ensures.1 (subst (λ n. Contains chain n) (sym c.as_slice.ensures) k) in let no = c.if-contains.false in cc in
    subst (λ o. StatementSteps seen chain c.args.statement.now.file (include c.args.statement.now.at c.args.statement.now.name (the_selection o)) c.args.opened.now c.gather_file-in-Some.new.opened before after c.keep_selected.result) (sym c.in-Some.is)
    (include-selected seen chain c.args.statement.now.file c.args.statement.now.at c.args.statement.now.name c.args.opened.now c.gather_file-in-Some.new.opened apart (omega arith) c.in_ok-gather_file-in-Some.field-0 (map the_selected c.in-Some.only) fresh included before after
    (ap the_statements c.new-included.ensures)
    (subst (λ n. FileSteps seen chain n c.args.opened.now c.gather_file-in-Some.new.opened fresh included (Ok c.in_ok-gather_file-in-Some.field-0)) (c.text_of-name.ensures ∙ c.as_slice-2.ensures) c.in_ok-gather_file-in-Some.ensures.steps)
    c.keep_selected.result c.keep_selected.ensures)

pub gather_statement-returns-in_err-push-in-Annotated-clause-steps : goal.gather_statement-returns-in_err-push-in-Annotated-clause-steps
gather_statement-returns-in_err-push-in-Annotated-clause-steps g t c =
    let files = g.F.Files in
    let p = err_from_is_err_and c.from_residual.result c.from_residual.ensures.1 in
    rw (p.1, p.2)
    (memory-step (files.seen c.args.files.now) (the_chain c.args.chain.now) c.args.file c.args.opened.now (the_statements c.args.gathered.now) (the_statement c.args.statement) (the_statements c.push.new.self))

pub gather_statement-returns-in_ok-push-in-Annotated-clause-steps : goal.gather_statement-returns-in_ok-push-in-Annotated-clause-steps
gather_statement-returns-in_ok-push-in-Annotated-clause-steps g t c =
    let files = g.F.Files in
    let seen = files.seen c.args.files.now in
    let before = the_statements c.args.gathered.now in
    let after = the_statements c.push.new.self in
    subst (λ s. StatementSteps seen (the_chain c.args.chain.now) c.args.file (the_statement s) c.args.opened.now c.args.opened.now before after (Ok (tt {0}))) (sym c.in-Annotated.is)
    (stays-step seen (the_chain c.args.chain.now) c.args.file c.args.opened.now before (tt {0}) (the_annotated c.in-Annotated.statement) after
    (ap the_statements c.in_ok-push-in-Annotated.ensures.ok ∙ map-append the_placed c.args.gathered.now (record { file = c.args.file; statement = c.in-Annotated.statement } ∷ [])))

pub gather_statements-loop-statement-init : goal.gather_statements-loop-statement-init
gather_statements-loop-statement-init g t c =
    let files = g.F.Files in
    record {
      can = tt;
      finite = tt;
      seen = sym c.into_iter-statement-iterator.ensures.into_iter_gives.0;
      steps = none-step (files.seen c.args.files.now) (the_chain c.args.chain.now) c.args.file c.args.opened.now (the_statements c.args.gathered.now);
      grows = omega arith;
      quiet = λ other. refl;
      later = λ other. omega arith;
      same = refl;
    }

pub gather_statements-gather_statement-requires : goal.gather_statements-gather_statement-requires
gather_statements-gather_statement-requires g t c κs within =
    let all : c.args.statements.items ≡ c.loop-statement.yielded ++ c.in-Some.statement ∷ into_iter_items c.next.new.self = c.loop-statement.invariant.seen ∙ ap (λ xs. c.loop-statement.yielded ++ xs) c.in-Some.ensures.steps.0 in (
      omega (arith, c.loop-statement.invariant.grows),
      (within, one-named c.loop-statement.yielded (into_iter_items c.next.new.self) c.in-Some.statement (subst (λ xs. AreNamedStatements (the_file xs)) all c.requires)),
    )

pub gather_statements-loop-statement-preserved : goal.gather_statements-loop-statement-preserved
gather_statements-loop-statement-preserved g t c =
    let files = g.F.Files in
    let seen = files.seen c.args.files.now in
    let chain = the_chain c.args.chain.now in
    let before = the_statements c.args.gathered.now in
    let between = the_statements c.loop-statement.gathered in
    let after = the_statements c.gather_statement.new.gathered in
    let so_far = c.loop-statement.invariant in
    let step = c.in_ok-gather_statement.ensures in
    let all : c.args.statements.items ≡ c.loop-statement.yielded ++ c.in-Some.statement ∷ into_iter_items c.next.new.self = so_far.seen ∙ ap (λ xs. c.loop-statement.yielded ++ xs) c.in-Some.ensures.steps.0 in
    record {
      can = tt;
      finite = tt;
      seen = all ∙ sym (append_assoc c.loop-statement.yielded (c.in-Some.statement ∷ []) (into_iter_items c.next.new.self));
      steps =
          subst (λ tree. StatementsStep seen chain c.args.file tree c.args.opened.now c.gather_statement.new.opened before after (Ok (tt {0}))) (sym (map-append the_statement c.loop-statement.yielded (c.in-Some.statement ∷ [])))
          (next-statement seen chain c.args.file (the_file c.loop-statement.yielded) (the_statement c.in-Some.statement) c.args.opened.now c.loop-statement.opened c.gather_statement.new.opened before between after so_far.steps c.in_ok-gather_statement.field-0
          (same-statement seen (files.seen c.loop-statement.files) so_far.same chain c.args.file c.loop-statement.opened c.gather_statement.new.opened between after (Ok c.in_ok-gather_statement.field-0) (the_statement c.in-Some.statement) step.steps));
      grows = omega (arith, so_far.grows, step.grows);
      quiet = λ other. step.quiet (tt {0}) other ∙ so_far.quiet other;
      later = λ other. omega (arith, so_far.later other, step.later other);
      same = step.same ∙ so_far.same;
    }

pub gather_statements-returns-in_err-gather_statement-clause-steps : goal.gather_statements-returns-in_err-gather_statement-clause-steps
gather_statements-returns-in_err-gather_statement-clause-steps g t c =
    let files = g.F.Files in
    let seen = files.seen c.args.files.now in
    let chain = the_chain c.args.chain.now in
    let before = the_statements c.args.gathered.now in
    let between = the_statements c.loop-statement.gathered in
    let after = the_statements c.gather_statement.new.gathered in
    let so_far = c.loop-statement.invariant in
    let e = c.in_err-gather_statement.field-0.0 in
    let rest = into_iter_items c.next.new.self in
    let all : c.args.statements.items ≡ c.loop-statement.yielded ++ c.in-Some.statement ∷ rest = so_far.seen ∙ ap (λ xs. c.loop-statement.yielded ++ xs) c.in-Some.ensures.steps.0 in
    let p = err_from_is_err_and c.from_residual.result c.from_residual.ensures.1 in
    rw (p.1, p.2)
    (subst (λ tree. StatementsStep {T = Unit {0}} seen chain c.args.file tree c.args.opened.now c.gather_statement.new.opened before after (Err e)) (sym (ap the_file all ∙ map-append the_statement c.loop-statement.yielded (c.in-Some.statement ∷ rest)))
    (last-statement seen chain c.args.file (the_file c.loop-statement.yielded) (the_statement c.in-Some.statement) c.args.opened.now c.loop-statement.opened c.gather_statement.new.opened before between after so_far.steps e (the_file rest) after
    (same-statement {T = Unit {0}} seen (files.seen c.loop-statement.files) so_far.same chain c.args.file c.loop-statement.opened c.gather_statement.new.opened between after (Err e) (the_statement c.in-Some.statement) c.in_err-gather_statement.ensures.steps)))
