use Rattle.std.proofs.Common.{◌≡◌, ap, ◌∙◌, ◌+◌, ◌-◌, drop, map, refl, take, take_all, sym, length, arith, length-drop}
use Rattle.stt_core.specs.SimpleType.{arrow}
use Rattle.stt_core.specs.Lambda.{bound}
use Rattle.stt_core.specs.View.{the_head, the_type}
use Rattle.stt_core.proofs.HeadLaws.{constant_head}
use Rattle.stt_core.proofs.ListLaws.{map_more}
use Rattle.normal_forms.specs.Normal.{ways, replace}
use Rattle.normal_forms.specs.Internal.Applying.{body_under}
use Rattle.normal_forms.proofs.ReplaceLaws.{body_view, replaced_whole}
use Rattle.normal_forms.proofs.CycleLaws.{not_function_head, one_ready, one_returns, all_ready, all_returns, no_argument, head_ready, head_returns, below_returns, above_returns, constant_returns, argument_ready, head_of_ready}
use Rattle.stt_normal.proofs.apply.+apply.Goals as goal

pub apply_all-replace_nf-requires : goal.apply_all-replace_nf-requires
apply_all-replace_nf-requires t c =
    let e : the_type c.args.ty.now ≡ arrow (the_type c.deref.result.now) (the_type c.in-Arrow.rest.value) = ap the_type c.in-Arrow.is ∙ ap (λ x. arrow (the_type x) (the_type c.in-Arrow.rest.value)) (sym c.deref.ensures) in
    let h = one_ready (the_type c.args.ty.now) (the_type c.deref.result.now) (the_type c.in-Arrow.rest.value) c.args.f c.at.result.now c.args.args.now c.args.i c.requires.fits e c.at.ensures in
    (omega (arith, c.decreases, h.1), h.0)

pub apply_all-apply_all-requires : goal.apply_all-apply_all-requires
apply_all-apply_all-requires t c =
    let x = the_type c.deref.result.now in
    let y = the_type c.deref-in-Arrow.result.now in
    let e : the_type c.args.ty.now ≡ arrow x y = ap the_type c.in-Arrow.is ∙ ap (λ z. arrow (the_type z) (the_type c.in-Arrow.rest.value)) (sym c.deref.ensures) ∙ ap (λ z. arrow x (the_type z)) (sym c.deref-in-Arrow.ensures) in
    let g = one_returns (the_type c.args.ty.now) x y c.args.f c.at.result.now c.in_ok-g-in-Arrow.g c.args.args.now c.args.i c.requires.fits e c.at.ensures c.in_ok-g-in-Arrow.ensures in
    let h = all_ready (the_type c.args.ty.now) x y c.args.f c.at.result.now c.in_ok-g-in-Arrow.g c.args.args.now c.args.i c.requires.fits e c.at.ensures g in
    (omega (arith, c.decreases, h.1), (h.0, omega (arith, c.requires.within, c.len.ensures)))

pub apply_all-returns : goal.apply_all-returns
apply_all-returns t c =
    let x = the_type c.deref.result.now in
    let y = the_type c.deref-in-Arrow.result.now in
    let e : the_type c.args.ty.now ≡ arrow x y = ap the_type c.in-Arrow.is ∙ ap (λ z. arrow (the_type z) (the_type c.in-Arrow.rest.value)) (sym c.deref.ensures) ∙ ap (λ z. arrow x (the_type z)) (sym c.deref-in-Arrow.ensures) in
    let g = one_returns (the_type c.args.ty.now) x y c.args.f c.at.result.now c.in_ok-g-in-Arrow.g c.args.args.now c.args.i c.requires.fits e c.at.ensures c.in_ok-g-in-Arrow.ensures in
    all_returns (the_type c.args.ty.now) x y c.args.f c.at.result.now c.in_ok-g-in-Arrow.g c.in_ok-apply_all-in-Arrow.field-0 c.args.args.now c.args.i e c.at.ensures g c.in_ok-apply_all-in-Arrow.ensures

pub apply_all-unreachable-requires : goal.apply_all-unreachable-requires
apply_all-unreachable-requires t c =
    no_argument (the_type c.args.ty.now) c.in-Base.field-0 c.args.f c.args.args.now c.args.i c.requires.fits (ap the_type c.in-Base.is) (omega (arith, c.requires.within, c.if-i-len.false, c.len.ensures))

pub replace_head-apply_all-requires : goal.replace_head-apply_all-requires
replace_head-apply_all-requires t c =
    let h = head_ready (the_type c.args.ty.now) c.args.k c.args.r.now (the_head c.args.head.now) c.in_ok-f-in-Bound.f c.args.args c.requires (ap the_head c.in-Bound.is ∙ ap bound c.if-j-k-2.true) c.in_ok-f-in-Bound.ensures in
    (omega (arith, c.decreases, h.1), (h.0, omega arith))

pub replace_head-returns-then-j-k : goal.replace_head-returns-then-j-k
replace_head-returns-then-j-k t c =
    c.spine.ensures ∙ below_returns (ways (the_type c.args.ty.now)) c.args.k c.in-Bound.j c.args.r.now (the_head c.args.head.now) c.args.args (ap the_head c.in-Bound.is) c.if-j-k.true

pub replace_head-returns-in_ok-apply_all-in-Bound : goal.replace_head-returns-in_ok-apply_all-in-Bound
replace_head-returns-in_ok-apply_all-in-Bound t c =
    head_returns (ways (the_type c.args.ty.now)) c.args.k c.args.r.now (the_head c.args.head.now) c.in_ok-f-in-Bound.f c.in_ok-apply_all-in-Bound.field-0 c.args.args (ap the_head c.in-Bound.is ∙ ap bound c.if-j-k-2.true) c.in_ok-f-in-Bound.ensures c.in_ok-apply_all-in-Bound.ensures

pub replace_head-returns-else-j-k-2 : goal.replace_head-returns-else-j-k-2
replace_head-returns-else-j-k-2 t c =
    c.spine-else-j-k-2.ensures
    ∙ above_returns (ways (the_type c.args.ty.now)) c.args.k c.in-Bound.j (c.in-Bound.j - 1) c.args.r.now (the_head c.args.head.now) c.args.args (ap the_head c.in-Bound.is) (omega (arith, c.if-j-k.false, c.if-j-k-2.false)) (omega (arith, c.if-j-k.false, c.if-j-k-2.false))

pub replace_head-returns-in_ok-head-in_default : goal.replace_head-returns-in_ok-head-in_default
replace_head-returns-in_ok-head-in_default t c =
    let d = constant_head c.args.head.now c.in_default.not-Bound in
    c.spine-in_default.ensures
    ∙ constant_returns (ways (the_type c.args.ty.now)) c.args.k c.args.r.now (the_head c.args.head.now) (the_head c.in_ok-head-in_default.head) d.0 c.args.args d.1 c.in_ok-head-in_default.ensures

pub replace_nf-replace_nf-requires : goal.replace_nf-replace_nf-requires
replace_nf-replace_nf-requires t c =
    let i = c.nf.inside in
    let n : c.in_ok-inner.inner ≡ c.args.k + length (drop c.args.skip i.binders) = c.in_ok-inner.ensures ∙ ap (λ n. c.args.k + n) (c.saturating_sub.ensures ∙ ap (λ n. n - c.args.skip) c.len.ensures ∙ sym (length-drop c.args.skip i.binders)) in
    let h = argument_ready (the_type c.args.ty.now) c.args.k c.in_ok-inner.inner c.args.r.now (drop c.args.skip i.binders) (the_head i.head) i.args (body_under c.args.skip c.args.nf.now) (not_function_head i.head) n (body_view c.args.skip i.binders (the_head i.head) i.args c.args.nf.now (not_function_head i.head) c.nf.view_is) c.requires c.loop-i.i c.at.result.now c.at.ensures in
    (omega (arith, c.decreases, h.1), h.0)

pub replace_nf-loop-i-preserved : goal.replace_nf-loop-i-preserved
replace_nf-loop-i-preserved t c =
    map_more (replace (ways (the_type c.args.ty.now)) c.in_ok-inner.inner c.args.r.now) c.nf.inside.args c.loop-i.i c.at.result.now c.loop-i.args c.push.new.self c.in_ok-arg.arg c.at.ensures c.loop-i.invariant c.in_ok-arg.ensures c.in_ok-push.ensures.ok

pub replace_nf-replace_head-requires : goal.replace_nf-replace_head-requires
replace_nf-replace_head-requires t c =
    let i = c.nf.inside in
    let n : c.in_ok-inner.inner ≡ c.args.k + length (drop c.args.skip i.binders) = c.in_ok-inner.ensures ∙ ap (λ n. c.args.k + n) (c.saturating_sub.ensures ∙ ap (λ n. n - c.args.skip) c.len.ensures ∙ sym (length-drop c.args.skip i.binders)) in
    let h = head_of_ready (the_type c.args.ty.now) c.args.k c.in_ok-inner.inner c.args.r.now (drop c.args.skip i.binders) (the_head i.head) i.args c.loop-i.args (body_under c.args.skip c.args.nf.now) (not_function_head i.head) n (body_view c.args.skip i.binders (the_head i.head) i.args c.args.nf.now (not_function_head i.head) c.nf.view_is) c.requires (c.loop-i.invariant ∙ ap (map (replace (ways (the_type c.args.ty.now)) c.in_ok-inner.inner c.args.r.now)) (take_all c.loop-i.i i.args (omega (arith, c.len-i-end.ensures)))) in
    (omega (arith, c.decreases, h.1), h.0)

pub replace_nf-returns : goal.replace_nf-returns
replace_nf-returns t c =
    let i = c.nf.inside in
    let bs = drop c.args.skip i.binders in
    let n : c.in_ok-inner.inner ≡ c.args.k + length (drop c.args.skip i.binders) = c.in_ok-inner.ensures ∙ ap (λ n. c.args.k + n) (c.saturating_sub.ensures ∙ ap (λ n. n - c.args.skip) c.len.ensures ∙ sym (length-drop c.args.skip i.binders)) in
    c.in_ok-bind_all.ensures
    ∙ replaced_whole (ways (the_type c.args.ty.now)) c.args.k c.in_ok-inner.inner c.args.r.now bs bs (the_head i.head) i.args c.loop-i.args (take c.loop-i.i i.args) c.in_ok-inside.inside (body_under c.args.skip c.args.nf.now) n refl c.loop-i.invariant (take_all c.loop-i.i i.args (omega (arith, c.len-i-end.ensures))) c.in_ok-inside.ensures (body_view c.args.skip i.binders (the_head i.head) i.args c.args.nf.now (not_function_head i.head) c.nf.view_is)
