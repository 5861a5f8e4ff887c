use Rattle.std.proofs.Common.{◌≤◌, length, ap, ap₂, sym, ◌∙◌, arith}
use Rattle.std.proofs.lemmas.List.{at_drop_all}
use Rattle.stt_core.specs.Lambda.{applied, lambdas}
use Rattle.stt_core.specs.Typing.{applied_type}
use Rattle.stt_core.specs.Internal.CanonicalType.{where_base, abstracted_type, canonical_type}
use Rattle.stt_core.specs.View.{the_type, the_head}
use Rattle.stt_core.specs.ContextView.{the_context, declared_scope}
use Rattle.stt_core.proofs.CanonicalTypes.{neutral_type-more, canonical_type-spine}
use Rattle.stt_core.proofs.HeadLaws.{atom_head}
use Rattle.stt_core.proofs.ListLaws.{drop_got}
use Rattle.stt_core.proofs.SizeLaws.{node_count-at, node_count-spine}
use Rattle.stt_core.proofs.typing.+canonical.Goals as goal

pub spine_type-type_in-requires : goal.spine_type-type_in-requires
spine_type-type_in-requires t c = (omega (arith, c.decreases, node_count-at c.args.args.now c.loop-i.i c.at.result.now c.at.ensures), tt)

pub spine_type-loop-i-preserved : goal.spine_type-loop-i-preserved
spine_type-loop-i-preserved t c =
    c.in_ok-ty-2.ensures
    ∙ ap₂ applied_type c.loop-i.invariant c.in_ok-argument.ensures
    ∙ sym (neutral_type-more (declared_scope c.args.declared.now) (the_context c.args.ctx.now) (the_head c.args.head.now) c.args.args.now c.loop-i.i c.at.result.now c.at.ensures)

pub type_in-type_under-requires : goal.type_in-type_under-requires
type_in-type_under-requires t c =
    let i = c.nf.inside in
    (omega (arith, c.decreases, node_count-spine i.binders (the_head i.head) i.args c.args.nf.now c.nf.view_is), tt)

pub type_under-returns-then-i-len : goal.type_under-returns-then-i-len
type_under-returns-then-i-len t c =
    let scope = declared_scope c.args.declared.now in
    let ctx = the_context c.args.ctx.now in
    let h = the_head c.args.head.now in
    let none_left : length c.args.binders.now ≤ c.args.i = omega arith in
    c.where_of_base.ensures
    ∙ ap where_base c.in_ok-inside.ensures
    ∙ sym (canonical_type-spine scope ctx h c.args.args.now (atom_head c.args.head.now))
    ∙ sym (at_drop_all (λ bs. canonical_type scope ctx (lambdas bs (applied h c.args.args.now))) c.args.binders.now c.args.i none_left)

pub type_under-returns : goal.type_under-returns
type_under-returns t c =
    let scope = declared_scope c.args.declared.now in
    let ctx = the_context c.args.ctx.now in
    let a = the_type c.at-a.result.now in
    let inside = applied (the_head c.args.head.now) c.args.args.now in
    c.in_ok-abstracted.ensures
    ∙ ap (abstracted_type scope a) c.in_ok-outcome.ensures
    ∙ sym (ap (λ bs. canonical_type scope ctx (lambdas bs inside)) (drop_got c.args.binders.now c.args.i a c.at-a.ensures))
