use Rattle.std.proofs.lemmas.Result.{IfOk-weaker}
use Rattle.std.proofs.Common.{length, ◌≡◌, ◌-◌, ◌^◌, ◌<◌, ◌≤◌, ◌∷◌, drop, option_map, ap, ap₂, sym, subst, ◌∙◌, refl, arith, nat_eq, if◌then◌else◌}
use Rattle.stt_core.specs.SimpleType.{arrow}
use Rattle.stt_core.specs.Lambda.{bound, name, choice, description, applied, lambdas, constant}
use Rattle.stt_core.specs.Internal.Sizes.{node_counts}
use Rattle.stt_core.specs.View.{the_type, the_head}
use Rattle.stt_core.specs.ContextView.{the_context}
use Rattle.stt_core.specs.Digits.{entry, table}
use Rattle.stt_core.proofs.HeadLaws.{atom_head}
use Rattle.stt_core.proofs.ListLaws.{drop_got}
use Rattle.stt_core.proofs.SizeLaws.{node_count-at, node_count-spine}
use Rattle.finite_models.specs.Sizes.{size_in}
use Rattle.finite_models.specs.Internal.Worth.{worth, IsSafe, all_one}
use Rattle.finite_models.specs.Internal.Stands.{frame_scope, CanCompile, CanCompileSpine, HasCompiled, StandsForTerm, IsLeafIn}
use Rattle.finite_models.proofs.CompileLaws.{starts, leaf_typed, argument_in, goes_on_from, not_base_within, truth_spine, truth_whole, negation_can, negation_stands, implication_can, implication_stands, equation_can, equation_stands, all_can, all_small, every_spine, every_stands, falsity_stands, leaf_in, no_witness_head, spine_in, spine_whole, under, no_function_within, function_stands, spine_not_lam}
use Rattle.finite_models.specs.declared.expr.Expr.TheVariants as expr
use Rattle.finite_models.proofs.compile.+compile.Goals as goal

pub compile-compile_under-requires : goal.compile-compile_under-requires
compile-compile_under-requires t c =
    let i = c.nf.inside in
    let scope = frame_scope c.args.frame.now in (
      omega (arith, c.decreases, node_count-spine i.binders (the_head i.head) i.args c.args.nf.now c.nf.view_is),
      (
        c.requires.ground,
        subst (CanCompile scope c.args.frame.now.size c.args.frame.now.choosers.now (the_context c.args.ctx.now) (the_type c.args.ty.now)) (sym c.nf.view_is) c.requires.term,
      ),
    )

pub compile_applied-compile_from-requires : goal.compile_applied-compile_from-requires
compile_applied-compile_from-requires t c =
    let scope = frame_scope c.args.frame.now in
    let typed = sym (ap (option_map the_type) (sym c.in-Some.is) ∙ c.in_ok-ty.ensures) in (
      omega (arith, c.decreases),
      (
        c.requires.ground,
        (c.requires.spine, starts scope c.args.frame.now.size c.args.frame.now.choosers.now c.requires.ground (the_context c.args.ctx.now) (the_head c.args.head.now) c.args.args.now (the_type c.in-Some.ty) c.in_ok-leaf.leaf c.requires.leaf c.requires.spine typed (c.in_ok-leaf.ensures (the_context c.args.ctx.now))),
      ),
    )

pub compile_applied-unreachable-requires : goal.compile_applied-unreachable-requires
compile_applied-unreachable-requires t c =
    let scope = frame_scope c.args.frame.now in
    leaf_typed scope c.args.frame.now.size c.args.frame.now.choosers.now c.requires.ground (the_context c.args.ctx.now) (the_head c.args.head.now) c.args.args.now c.requires.spine (sym (ap (option_map the_type) (sym c.in-None.is) ∙ c.in_ok-ty.ensures))

pub compile_from-compile-requires : goal.compile_from-compile-requires
compile_from-compile-requires t c =
    let scope = frame_scope c.args.frame.now in
    let s = c.args.frame.now.size in
    let ys = c.args.frame.now.choosers.now in
    let ctx = the_context c.args.ctx.now in
    let h = the_head c.args.head.now in
    let us = c.args.args.now in
    let e : the_type c.args.ty.now ≡ arrow (the_type c.deref-from.result.now) (the_type c.deref-to.result.now) = ap the_type c.in-Arrow.is ∙ ap₂ (λ x y. arrow (the_type x) (the_type y)) (sym c.deref-from.ensures) (sym c.deref-to.ensures) in
    let compiled = subst (λ a. HasCompiled scope c.args.frame.now.size c.args.frame.now.choosers.now ctx a h us c.args.i c.args.expr) e c.requires.compiled in (
      omega (arith, c.decreases, ap node_counts (drop_got us c.args.i c.at.result.now c.at.ensures)),
      (
        c.requires.ground,
        argument_in scope s ys c.requires.ground ctx (the_type c.deref-from.result.now) (the_type c.deref-to.result.now) h us c.args.i c.at.result.now c.args.expr c.requires.spine compiled c.at.ensures,
      ),
    )

pub compile_from-compile_from-requires : goal.compile_from-compile_from-requires
compile_from-compile_from-requires t c =
    let scope = frame_scope c.args.frame.now in
    let s = c.args.frame.now.size in
    let ys = c.args.frame.now.choosers.now in
    let ctx = the_context c.args.ctx.now in
    let h = the_head c.args.head.now in
    let us = c.args.args.now in
    let b = the_type c.deref-to.result.now in
    let e : the_type c.args.ty.now ≡ arrow (the_type c.deref-from.result.now) (the_type c.deref-to.result.now) = ap the_type c.in-Arrow.is ∙ ap₂ (λ x y. arrow (the_type x) (the_type y)) (sym c.deref-from.ensures) (sym c.deref-to.ensures) in
    let compiled = subst (λ a. HasCompiled scope c.args.frame.now.size c.args.frame.now.choosers.now ctx a h us c.args.i c.args.expr) e c.requires.compiled in
    let f = c.in_ok-function-in-Arrow.ensures.ok in
    let g = c.in_ok-place-in-Arrow.ensures.ok in
    let w = compiled.within in (
      omega (arith, c.decreases, ap node_counts (drop_got us c.args.i c.at.result.now c.at.ensures)),
      (
        c.requires.ground,
        (
          c.requires.spine,
          goes_on_from scope s ys c.requires.ground ctx (the_type c.deref-from.result.now) b h us c.args.i c.at.result.now c.args.expr c.in_ok-given-in-Arrow.given _ c.requires.spine compiled c.at.ensures (omega arith) c.in_ok-given-in-Arrow.ensures
              (λ vs env. ap (λ n. entry n (worth c.in_ok-function-in-Arrow.function.value vs env) (worth c.in_ok-place-in-Arrow.place.value vs env)) c.size_of-base.ensures.size ∙ ap₂ (λ x y. entry (size_in s b) (worth x vs env) (worth y vs env)) f g)
              (λ vs env x y. (c.size_of-base.ensures.pos, (subst (λ z. IsSafe z vs env) (sym f) x, subst (λ z. IsSafe z vs env) (sym g) y))),
        ),
      ),
    )

pub compile_from-unreachable-requires : goal.compile_from-unreachable-requires
compile_from-unreachable-requires t c =
    let scope = frame_scope c.args.frame.now in
    let ctx = the_context c.args.ctx.now in
    let h = the_head c.args.head.now in
    let us = c.args.args.now in
    let compiled = subst (λ a. HasCompiled scope c.args.frame.now.size c.args.frame.now.choosers.now ctx a h us c.args.i c.args.expr) (ap the_type c.in-Base.is) c.requires.compiled in
    not_base_within scope c.args.frame.now.size c.args.frame.now.choosers.now c.requires.ground ctx c.in-Base.field-0 h us c.args.i c.args.expr c.requires.spine compiled (λ e. c.if-i-len.false (e ∙ sym c.len.ensures))

-- FORMULAS

pub compile_truth-compile_spine-requires : goal.compile_truth-compile_spine-requires
compile_truth-compile_spine-requires t c =
    let scope = frame_scope c.args.frame.now in
    let s = c.args.frame.now.size in
    let ys = c.args.frame.now.choosers.now in
    let ctx = the_context c.args.ctx.now in
    let i = c.nf.inside in (
      omega (arith, c.decreases, node_count-spine i.binders (the_head i.head) i.args c.args.nf.now c.nf.view_is),
      (
        c.requires.ground,
        truth_spine scope s ys c.requires.ground ctx i.binders (applied (the_head i.head) i.args) c.args.nf.now (spine_not_lam (the_head i.head) i.args (atom_head i.head)) c.nf.view_is c.requires.term,
      ),
    )

pub compile_truth-returns : goal.compile_truth-returns
compile_truth-returns t c =
    let scope = frame_scope c.args.frame.now in
    let s = c.args.frame.now.size in
    let ys = c.args.frame.now.choosers.now in
    let ctx = the_context c.args.ctx.now in
    let i = c.nf.inside in
    IfOk-weaker c.compile_spine.result _ _
    (λ e h. truth_whole scope s ys c.requires.ground ctx i.binders (applied (the_head i.head) i.args) c.args.nf.now e c.nf.view_is c.requires.term h)
    c.compile_spine.ensures

pub compile_negation-at-first-requires : goal.compile_negation-at-first-requires
compile_negation-at-first-requires t c =
    let scope = frame_scope c.args.frame.now in
    let s = c.args.frame.now.size in
    let ys = c.args.frame.now.choosers.now in
    let ctx = the_context c.args.ctx.now in
    (negation_can scope s ys c.requires.ground ctx c.args.args.now c.requires.spine).0

pub compile_negation-compile_truth-requires : goal.compile_negation-compile_truth-requires
compile_negation-compile_truth-requires t c =
    let scope = frame_scope c.args.frame.now in
    let s = c.args.frame.now.size in
    let ys = c.args.frame.now.choosers.now in
    let ctx = the_context c.args.ctx.now in (
      omega (arith, c.decreases, node_count-at c.args.args.now 0 c.at-first.result.now c.at-first.ensures),
      (
        c.requires.ground,
        (negation_can scope s ys c.requires.ground ctx c.args.args.now c.requires.spine).1 c.at-first.result.now c.at-first.ensures,
      ),
    )

pub compile_negation-returns : goal.compile_negation-returns
compile_negation-returns t c =
    let scope = frame_scope c.args.frame.now in
    let s = c.args.frame.now.size in
    let ys = c.args.frame.now.choosers.now in
    let ctx = the_context c.args.ctx.now in
    let f = c.in_ok-inner.ensures.ok in
    negation_stands scope s ys c.requires.ground ctx c.args.args.now c.at-first.result.now c.in_ok-body.body _ c.requires.spine c.at-first.ensures c.in_ok-body.ensures
    (λ vs env. ap (λ x. 1 - worth x vs env) f)
    (λ vs env x. subst (λ z. IsSafe z vs env) (sym f) x)

pub compile_implication-at-first-requires : goal.compile_implication-at-first-requires
compile_implication-at-first-requires t c =
    let scope = frame_scope c.args.frame.now in
    let s = c.args.frame.now.size in
    let ys = c.args.frame.now.choosers.now in
    let ctx = the_context c.args.ctx.now in
    let h = (implication_can scope s ys c.requires.ground ctx c.args.args.now c.requires.spine).0 in
    omega arith

pub compile_implication-at-second-requires : goal.compile_implication-at-second-requires
compile_implication-at-second-requires t c =
    let scope = frame_scope c.args.frame.now in
    let s = c.args.frame.now.size in
    let ys = c.args.frame.now.choosers.now in
    let ctx = the_context c.args.ctx.now in
    (implication_can scope s ys c.requires.ground ctx c.args.args.now c.requires.spine).0

pub compile_implication-compile_truth-requires : goal.compile_implication-compile_truth-requires
compile_implication-compile_truth-requires t c =
    let scope = frame_scope c.args.frame.now in
    let s = c.args.frame.now.size in
    let ys = c.args.frame.now.choosers.now in
    let ctx = the_context c.args.ctx.now in (
      omega (arith, c.decreases, node_count-at c.args.args.now 0 c.at-first.result.now c.at-first.ensures),
      (
        c.requires.ground,
        (implication_can scope s ys c.requires.ground ctx c.args.args.now c.requires.spine).1.0 c.at-first.result.now c.at-first.ensures,
      ),
    )

pub compile_implication-compile_truth-requires-2 : goal.compile_implication-compile_truth-requires-2
compile_implication-compile_truth-requires-2 t c =
    let scope = frame_scope c.args.frame.now in
    let s = c.args.frame.now.size in
    let ys = c.args.frame.now.choosers.now in
    let ctx = the_context c.args.ctx.now in (
      omega (arith, c.decreases, node_count-at c.args.args.now 1 c.at-second.result.now c.at-second.ensures),
      (
        c.requires.ground,
        (implication_can scope s ys c.requires.ground ctx c.args.args.now c.requires.spine).1.1 c.at-second.result.now c.at-second.ensures,
      ),
    )

pub compile_implication-returns : goal.compile_implication-returns
compile_implication-returns t c =
    let scope = frame_scope c.args.frame.now in
    let s = c.args.frame.now.size in
    let ys = c.args.frame.now.choosers.now in
    let ctx = the_context c.args.ctx.now in
    let f = c.in_ok-premise.ensures.ok in
    let g = c.in_ok-conclusion.ensures.ok in
    implication_stands scope s ys c.requires.ground ctx c.args.args.now c.at-first.result.now c.at-second.result.now c.in_ok-left.left c.in_ok-right.right _ c.requires.spine c.at-first.ensures c.at-second.ensures c.in_ok-left.ensures c.in_ok-right.ensures
    (λ vs env. ap₂ (λ x y. if nat_eq (worth x vs env) 1 then worth y vs env else 1) f g)
    (λ vs env x y. (subst (λ z. IsSafe z vs env) (sym f) x, subst (λ z. IsSafe z vs env) (sym g) y))

pub compile_equation-at-first-requires : goal.compile_equation-at-first-requires
compile_equation-at-first-requires t c =
    let scope = frame_scope c.args.frame.now in
    let s = c.args.frame.now.size in
    let ys = c.args.frame.now.choosers.now in
    let ctx = the_context c.args.ctx.now in
    let h = (equation_can scope s ys c.requires.ground ctx (the_type c.args.a.now) c.args.args.now c.requires.spine).0 in
    omega arith

pub compile_equation-at-second-requires : goal.compile_equation-at-second-requires
compile_equation-at-second-requires t c =
    let scope = frame_scope c.args.frame.now in
    let s = c.args.frame.now.size in
    let ys = c.args.frame.now.choosers.now in
    let ctx = the_context c.args.ctx.now in
    (equation_can scope s ys c.requires.ground ctx (the_type c.args.a.now) c.args.args.now c.requires.spine).0

pub compile_equation-compile-requires : goal.compile_equation-compile-requires
compile_equation-compile-requires t c =
    let scope = frame_scope c.args.frame.now in
    let s = c.args.frame.now.size in
    let ys = c.args.frame.now.choosers.now in
    let ctx = the_context c.args.ctx.now in (
      omega (arith, c.decreases, node_count-at c.args.args.now 0 c.at-first.result.now c.at-first.ensures),
      (
        c.requires.ground,
        (equation_can scope s ys c.requires.ground ctx (the_type c.args.a.now) c.args.args.now c.requires.spine).1.0 c.at-first.result.now c.at-first.ensures,
      ),
    )

pub compile_equation-compile-requires-2 : goal.compile_equation-compile-requires-2
compile_equation-compile-requires-2 t c =
    let scope = frame_scope c.args.frame.now in
    let s = c.args.frame.now.size in
    let ys = c.args.frame.now.choosers.now in
    let ctx = the_context c.args.ctx.now in (
      omega (arith, c.decreases, node_count-at c.args.args.now 1 c.at-second.result.now c.at-second.ensures),
      (
        c.requires.ground,
        (equation_can scope s ys c.requires.ground ctx (the_type c.args.a.now) c.args.args.now c.requires.spine).1.1 c.at-second.result.now c.at-second.ensures,
      ),
    )

pub compile_equation-returns : goal.compile_equation-returns
compile_equation-returns t c =
    let scope = frame_scope c.args.frame.now in
    let s = c.args.frame.now.size in
    let ys = c.args.frame.now.choosers.now in
    let ctx = the_context c.args.ctx.now in
    let f = c.in_ok-one.ensures.ok in
    let g = c.in_ok-other.ensures.ok in
    equation_stands scope s ys c.requires.ground ctx (the_type c.args.a.now) c.args.args.now c.at-first.result.now c.at-second.result.now c.in_ok-left.left c.in_ok-right.right _ c.requires.spine c.at-first.ensures c.at-second.ensures c.in_ok-left.ensures c.in_ok-right.ensures
    (λ vs env. ap₂ (λ x y. if nat_eq (worth x vs env) (worth y vs env) then 1 else 0) f g)
    (λ vs env x y. (subst (λ z. IsSafe z vs env) (sym f) x, subst (λ z. IsSafe z vs env) (sym g) y))

pub compile_every-at-predicate-requires : goal.compile_every-at-predicate-requires
compile_every-at-predicate-requires t c =
    let scope = frame_scope c.args.frame.now in
    let s = c.args.frame.now.size in
    let ys = c.args.frame.now.choosers.now in
    let ctx = the_context c.args.ctx.now in
    (all_can scope s ys c.requires.ground ctx (the_type c.args.a.now) c.args.args.now c.requires.spine).0

pub compile_every-compile_spine-requires : goal.compile_every-compile_spine-requires
compile_every-compile_spine-requires t c =
    let scope = frame_scope c.args.frame.now in
    let s = c.args.frame.now.size in
    let ys = c.args.frame.now.choosers.now in
    let ctx = the_context c.args.ctx.now in
    let i = c.predicate.inside in (
      omega (arith, c.decreases, node_count-at c.args.args.now 0 c.at-predicate.result.now c.at-predicate.ensures, node_count-spine i.binders (the_head i.head) i.args c.at-predicate.result.now c.predicate.view_is),
      (
        c.requires.ground,
        every_spine scope s ys c.requires.ground ctx (the_type c.args.a.now) c.args.args.now c.at-predicate.result.now i.binders (applied (the_head i.head) i.args) c.requires.spine c.at-predicate.ensures (spine_not_lam (the_head i.head) i.args (atom_head i.head)) c.predicate.view_is,
      ),
    )

pub compile_every-size_of-size-requires-clause-small : goal.compile_every-size_of-size-requires-clause-small
compile_every-size_of-size-requires-clause-small t c =
    let scope = frame_scope c.args.frame.now in
    let s = c.args.frame.now.size in
    let ys = c.args.frame.now.choosers.now in
    let ctx = the_context c.args.ctx.now in
    all_small scope s ys c.requires.ground ctx (the_type c.args.a.now) c.args.args.now c.requires.spine

pub compile_every-returns : goal.compile_every-returns
compile_every-returns t c =
    let scope = frame_scope c.args.frame.now in
    let s = c.args.frame.now.size in
    let ys = c.args.frame.now.choosers.now in
    let ctx = the_context c.args.ctx.now in
    let i = c.predicate.inside in
    let f = c.in_ok-body-2.ensures.ok in
    let r = c.rounds-needed.ensures in
    let n = c.size_of-size.ensures.size in
    every_stands scope s ys c.requires.ground ctx (the_type c.args.a.now) c.args.args.now c.at-predicate.result.now i.binders (applied (the_head i.head) i.args) c.in_ok-body.body _ c.requires.spine c.at-predicate.ensures (spine_not_lam (the_head i.head) i.args (atom_head i.head)) c.predicate.view_is c.in_ok-body.ensures
    (λ vs env. ap (λ x. all_one c.rounds-needed.result (λ y. worth x vs (y ∷ env))) f ∙ r.same vs env ∙ ap (λ m. all_one m (λ y. worth c.in_ok-body.body vs (y ∷ env))) n)
    (λ vs env h x l. let few = r.few in subst (λ z. IsSafe z vs (x ∷ env)) (sym f) (h x (subst (λ m. x < m) n (omega arith))))

-- HEADS

pub compile_spine-returns-in-False : goal.compile_spine-returns-in-False
compile_spine-returns-in-False t c =
    let scope = frame_scope c.args.frame.now in
    let s = c.args.frame.now.size in
    let ys = c.args.frame.now.choosers.now in
    let ctx = the_context c.args.ctx.now in
    let e = ap the_head c.in-False.is in
    subst (λ h. StandsForTerm scope c.args.frame.now.size c.args.frame.now.choosers.now ctx (applied h c.args.args.now) expr.False) (sym e)
    (falsity_stands scope s ys c.requires.ground ctx c.args.args.now expr.False (subst (λ h. CanCompileSpine scope c.args.frame.now.size c.args.frame.now.choosers.now ctx (applied h c.args.args.now)) e c.requires.spine) (λ vs env. refl) (λ vs env. tt {0}))

pub compile_spine-unreachable-requires : goal.compile_spine-unreachable-requires
compile_spine-unreachable-requires t c =
    let scope = frame_scope c.args.frame.now in
    let s = c.args.frame.now.size in
    let ys = c.args.frame.now.choosers.now in
    let ctx = the_context c.args.ctx.now in
    no_witness_head scope s ys c.requires.ground ctx c.in-Wit.field-0 c.args.args.now (subst (λ h. CanCompileSpine scope c.args.frame.now.size c.args.frame.now.choosers.now ctx (applied h c.args.args.now)) (ap the_head c.in-Wit.is) c.requires.spine)

pub compile_spine-compile_applied-requires : goal.compile_spine-compile_applied-requires
compile_spine-compile_applied-requires t c =
    let scope = frame_scope c.args.frame.now in
    let s = c.args.frame.now.size in
    let ys = c.args.frame.now.choosers.now in
    let ctx = the_context c.args.ctx.now in
    let e = ap the_head c.in-Bound.is in
    let p = subst (λ h. CanCompileSpine scope c.args.frame.now.size c.args.frame.now.choosers.now ctx (applied h c.args.args.now)) e c.requires.spine in (
      omega (arith, c.decreases),
      (
        c.requires.ground,
        (subst (IsLeafIn scope c.args.frame.now.choosers.now) (sym e) (leaf_in scope s ys c.requires.ground ctx (bound c.in-Bound.field-0) c.args.args.now p tt), c.requires.spine),
      ),
    )

pub compile_spine-compile_applied-requires-in-Name : goal.compile_spine-compile_applied-requires-in-Name
compile_spine-compile_applied-requires-in-Name t c =
    let scope = frame_scope c.args.frame.now in
    let s = c.args.frame.now.size in
    let ys = c.args.frame.now.choosers.now in
    let ctx = the_context c.args.ctx.now in
    let e = ap the_head c.in-Name.is in
    let p = subst (λ h. CanCompileSpine scope c.args.frame.now.size c.args.frame.now.choosers.now ctx (applied h c.args.args.now)) e c.requires.spine in (
      omega (arith, c.decreases),
      (
        c.requires.ground,
        (subst (IsLeafIn scope c.args.frame.now.choosers.now) (sym e) (leaf_in scope s ys c.requires.ground ctx (constant (name c.in-Name.field-0)) c.args.args.now p tt), c.requires.spine),
      ),
    )

pub compile_spine-compile_applied-requires-in-Choice : goal.compile_spine-compile_applied-requires-in-Choice
compile_spine-compile_applied-requires-in-Choice t c =
    let scope = frame_scope c.args.frame.now in
    let s = c.args.frame.now.size in
    let ys = c.args.frame.now.choosers.now in
    let ctx = the_context c.args.ctx.now in
    let e = ap the_head c.in-Choice.is in
    let p = subst (λ h. CanCompileSpine scope c.args.frame.now.size c.args.frame.now.choosers.now ctx (applied h c.args.args.now)) e c.requires.spine in (
      omega (arith, c.decreases),
      (
        c.requires.ground,
        (subst (IsLeafIn scope c.args.frame.now.choosers.now) (sym e) (leaf_in scope s ys c.requires.ground ctx (constant (choice (the_type c.in-Choice.field-0))) c.args.args.now p tt), c.requires.spine),
      ),
    )

pub compile_spine-compile_applied-requires-in-Desc : goal.compile_spine-compile_applied-requires-in-Desc
compile_spine-compile_applied-requires-in-Desc t c =
    let scope = frame_scope c.args.frame.now in
    let s = c.args.frame.now.size in
    let ys = c.args.frame.now.choosers.now in
    let ctx = the_context c.args.ctx.now in
    let e = ap the_head c.in-Desc.is in
    let p = subst (λ h. CanCompileSpine scope c.args.frame.now.size c.args.frame.now.choosers.now ctx (applied h c.args.args.now)) e c.requires.spine in (
      omega (arith, c.decreases),
      (
        c.requires.ground,
        (subst (IsLeafIn scope c.args.frame.now.choosers.now) (sym e) (leaf_in scope s ys c.requires.ground ctx (constant (description (the_type c.in-Desc.field-0))) c.args.args.now p tt), c.requires.spine),
      ),
    )

-- UNDER BINDERS

pub compile_under-compile_spine-requires : goal.compile_under-compile_spine-requires
compile_under-compile_spine-requires t c =
    let scope = frame_scope c.args.frame.now in
    let s = c.args.frame.now.size in
    let ys = c.args.frame.now.choosers.now in
    let ctx = the_context c.args.ctx.now in
    let inside = applied (the_head c.args.head.now) c.args.args.now in (
      omega (arith, c.decreases),
      (
        c.requires.ground,
        spine_in scope s ys c.requires.ground ctx (the_type c.args.ty.now) c.args.binders.now c.args.i inside (omega arith) (spine_not_lam (the_head c.args.head.now) c.args.args.now (atom_head c.args.head.now)) c.requires.term,
      ),
    )

pub compile_under-returns-then-i-len : goal.compile_under-returns-then-i-len
compile_under-returns-then-i-len t c =
    let scope = frame_scope c.args.frame.now in
    let s = c.args.frame.now.size in
    let ys = c.args.frame.now.choosers.now in
    let ctx = the_context c.args.ctx.now in
    let inside = applied (the_head c.args.head.now) c.args.args.now in
    let past : length c.args.binders.now ≤ c.args.i = omega arith in
    IfOk-weaker c.compile_spine.result _ _
    (λ e h. spine_whole scope s ys c.requires.ground ctx c.args.binders.now c.args.i inside e past h)
    c.compile_spine.ensures

pub compile_under-compile_under-requires : goal.compile_under-compile_under-requires
compile_under-compile_under-requires t c =
    let scope = frame_scope c.args.frame.now in
    let s = c.args.frame.now.size in
    let ys = c.args.frame.now.choosers.now in
    let ctx = the_context c.args.ctx.now in
    let inside = applied (the_head c.args.head.now) c.args.args.now in
    let e : the_type c.args.ty.now ≡ arrow (the_type c.in-Arrow._argument.value) (the_type c.deref-to.result.now) = ap the_type c.in-Arrow.is ∙ ap (λ x. arrow (the_type c.in-Arrow._argument.value) (the_type x)) (sym c.deref-to.ensures) in
    let can = subst (λ a. CanCompile scope c.args.frame.now.size c.args.frame.now.choosers.now ctx a (lambdas (drop c.args.i c.args.binders.now) (applied (the_head c.args.head.now) c.args.args.now))) e c.requires.term in (
      omega (arith, c.decreases),
      (
        c.requires.ground,
        (under scope s ys c.requires.ground ctx (the_type c.in-Arrow._argument.value) (the_type c.deref-to.result.now) (the_type c.at-a.result.now) c.args.binders.now c.args.i inside c.at-a.ensures can).can,
      ),
    )

pub compile_under-size_of-base-requires-clause-small : goal.compile_under-size_of-base-requires-clause-small
compile_under-size_of-base-requires-clause-small t c =
    let scope = frame_scope c.args.frame.now in
    let s = c.args.frame.now.size in
    let ys = c.args.frame.now.choosers.now in
    let ctx = the_context c.args.ctx.now in
    let inside = applied (the_head c.args.head.now) c.args.args.now in
    let e : the_type c.args.ty.now ≡ arrow (the_type c.in-Arrow._argument.value) (the_type c.deref-to.result.now) = ap the_type c.in-Arrow.is ∙ ap (λ x. arrow (the_type c.in-Arrow._argument.value) (the_type x)) (sym c.deref-to.ensures) in
    let can = subst (λ a. CanCompile scope c.args.frame.now.size c.args.frame.now.choosers.now ctx a (lambdas (drop c.args.i c.args.binders.now) (applied (the_head c.args.head.now) c.args.args.now))) e c.requires.term in
    (under scope s ys c.requires.ground ctx (the_type c.in-Arrow._argument.value) (the_type c.deref-to.result.now) (the_type c.at-a.result.now) c.args.binders.now c.args.i inside c.at-a.ensures can).outcome_small

pub compile_under-size_of-entries-requires-clause-small : goal.compile_under-size_of-entries-requires-clause-small
compile_under-size_of-entries-requires-clause-small t c =
    let scope = frame_scope c.args.frame.now in
    let s = c.args.frame.now.size in
    let ys = c.args.frame.now.choosers.now in
    let ctx = the_context c.args.ctx.now in
    let inside = applied (the_head c.args.head.now) c.args.args.now in
    let e : the_type c.args.ty.now ≡ arrow (the_type c.in-Arrow._argument.value) (the_type c.deref-to.result.now) = ap the_type c.in-Arrow.is ∙ ap (λ x. arrow (the_type c.in-Arrow._argument.value) (the_type x)) (sym c.deref-to.ensures) in
    let can = subst (λ a. CanCompile scope c.args.frame.now.size c.args.frame.now.choosers.now ctx a (lambdas (drop c.args.i c.args.binders.now) (applied (the_head c.args.head.now) c.args.args.now))) e c.requires.term in
    (under scope s ys c.requires.ground ctx (the_type c.in-Arrow._argument.value) (the_type c.deref-to.result.now) (the_type c.at-a.result.now) c.args.binders.now c.args.i inside c.at-a.ensures can).small

pub compile_under-unreachable-requires : goal.compile_under-unreachable-requires
compile_under-unreachable-requires t c =
    let scope = frame_scope c.args.frame.now in
    let s = c.args.frame.now.size in
    let ys = c.args.frame.now.choosers.now in
    let ctx = the_context c.args.ctx.now in
    let inside = applied (the_head c.args.head.now) c.args.args.now in
    let can = subst (λ a. CanCompile scope c.args.frame.now.size c.args.frame.now.choosers.now ctx a (lambdas (drop c.args.i c.args.binders.now) (applied (the_head c.args.head.now) c.args.args.now))) (ap the_type c.in-Base.is) c.requires.term in
    no_function_within scope s ys c.requires.ground ctx c.in-Base.field-0 c.args.binders.now c.args.i inside (omega arith) can

pub compile_under-table_of-requires-clause-small : goal.compile_under-table_of-requires-clause-small
compile_under-table_of-requires-clause-small t c =
    let scope = frame_scope c.args.frame.now in
    let s = c.args.frame.now.size in
    let ys = c.args.frame.now.choosers.now in
    let ctx = the_context c.args.ctx.now in
    let inside = applied (the_head c.args.head.now) c.args.args.now in
    let e : the_type c.args.ty.now ≡ arrow (the_type c.in-Arrow._argument.value) (the_type c.deref-to.result.now) = ap the_type c.in-Arrow.is ∙ ap (λ x. arrow (the_type c.in-Arrow._argument.value) (the_type x)) (sym c.deref-to.ensures) in
    let can = subst (λ a. CanCompile scope c.args.frame.now.size c.args.frame.now.choosers.now ctx a (lambdas (drop c.args.i c.args.binders.now) (applied (the_head c.args.head.now) c.args.args.now))) e c.requires.term in
    let b = c.size_of-base.ensures.size in
    let n = c.size_of-entries.ensures.size in
    let u = under scope s ys c.requires.ground ctx (the_type c.in-Arrow._argument.value) (the_type c.deref-to.result.now) (the_type c.at-a.result.now) c.args.binders.now c.args.i inside c.at-a.ensures can in
    subst (λ x. x ≤ 2 ^ 20) (sym (ap₂ (λ x y. x ^ y) b n)) u.few

pub compile_under-returns : goal.compile_under-returns
compile_under-returns t c =
    let scope = frame_scope c.args.frame.now in
    let s = c.args.frame.now.size in
    let ys = c.args.frame.now.choosers.now in
    let ctx = the_context c.args.ctx.now in
    let inside = applied (the_head c.args.head.now) c.args.args.now in
    let e : the_type c.args.ty.now ≡ arrow (the_type c.in-Arrow._argument.value) (the_type c.deref-to.result.now) = ap the_type c.in-Arrow.is ∙ ap (λ x. arrow (the_type c.in-Arrow._argument.value) (the_type x)) (sym c.deref-to.ensures) in
    let can = subst (λ a. CanCompile scope c.args.frame.now.size c.args.frame.now.choosers.now ctx a (lambdas (drop c.args.i c.args.binders.now) (applied (the_head c.args.head.now) c.args.args.now))) e c.requires.term in
    let b = c.size_of-base.ensures.size in
    let n = c.size_of-entries.ensures.size in
    let u = under scope s ys c.requires.ground ctx (the_type c.in-Arrow._argument.value) (the_type c.deref-to.result.now) (the_type c.at-a.result.now) c.args.binders.now c.args.i inside c.at-a.ensures can in
    let rest = c.in_ok-rest-in-Arrow.rest in
    IfOk-weaker c.table_of.result _ _
    (λ e whole. function_stands scope s ys c.requires.ground ctx (the_type c.in-Arrow._argument.value) (the_type c.deref-to.result.now) (the_type c.at-a.result.now) c.args.binders.now c.args.i inside rest e c.at-a.ensures can c.in_ok-rest-in-Arrow.ensures
    (λ vs env. whole.is vs env ∙ ap₂ (λ x y. table x y (λ z. worth rest vs (z ∷ env))) b n)
    (λ vs env h. whole.safe vs env (λ x l. let k = h x (subst (λ y. x < y) n l) in (k.0, subst (λ y. worth rest vs (x ∷ env) < y) (sym b) k.1))))
    c.table_of.ensures

pub compile_spine-returns-in-Not : goal.compile_spine-returns-in-Not
compile_spine-returns-in-Not t c = rw (c.in-Not.is) c.compile_negation.ensures

pub compile_spine-returns-in-Imp : goal.compile_spine-returns-in-Imp
compile_spine-returns-in-Imp t c = rw (c.in-Imp.is) c.compile_implication.ensures

pub compile_spine-returns-in-Eq : goal.compile_spine-returns-in-Eq
compile_spine-returns-in-Eq t c = rw (c.in-Eq.is) c.compile_equation.ensures

pub compile_spine-returns-in-All : goal.compile_spine-returns-in-All
compile_spine-returns-in-All t c = rw (c.in-All.is) c.compile_every.ensures

pub compile-returns : goal.compile-returns
compile-returns t c = rw (← c.nf.view_is) c.compile_under.ensures
