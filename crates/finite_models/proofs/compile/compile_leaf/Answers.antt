use Rattle.std.proofs.Common.{◌<◌, ap, sym, subst, ◌∙◌, refl, map, length, slice_index}
use Rattle.std.specs.Prelude.{option_to_list}
use Rattle.stt_core.specs.View.{the_head}
use Rattle.stt_core.proofs.HeadLaws.{atom_head}
use Rattle.finite_models.specs.ChooserView.{the_chooser}
use Rattle.finite_models.specs.Internal.Stands.{frame_scope, IsLeafIn, StandsForTerm}
use Rattle.finite_models.specs.declared.expr.Expr.TheVariants as expr
use Rattle.finite_models.proofs.StandsLaws.{stands_name}
use Rattle.finite_models.proofs.CompileLaws.{stands_chooser}
use Rattle.finite_models.proofs.compile.compile_leaf.Goals as goal

pub returns-in-Name : goal.returns-in-Name
returns-in-Name c = λ ctx.
    let scope = frame_scope c.args.frame.now in
    let s = c.args.frame.now.size in
    let ys = c.args.frame.now.choosers.now in
    let e = ap the_head c.in-Name.is in
    let l = subst (IsLeafIn scope c.args.frame.now.choosers.now) e c.requires.leaf in
    subst (λ h. StandsForTerm scope c.args.frame.now.size c.args.frame.now.choosers.now ctx h (expr.Symbol c.in-Name.k)) (sym e) (stands_name scope s ys c.requires.ground ctx c.in-Name.k l.0 (expr.Symbol c.in-Name.k) l.1 (λ vs env. refl) (λ vs env q. q))

pub returns-in_ok-place_behind-in-Some : goal.returns-in_ok-place_behind-in-Some
returns-in_ok-place_behind-in-Some c = λ ctx.
    let scope = frame_scope c.args.frame.now in
    let s = c.args.frame.now.size in
    let ys = c.args.frame.now.choosers.now in
    let n = c.in_ok-place_behind-in-Some.field-0 in
    let p = c.in_ok-place_behind-in-Some.ensures in
    let e = ap (λ o. map the_chooser (option_to_list o)) (sym c.in-Some.is) ∙ c.in_ok-chooser-in_default.ensures in
    stands_chooser scope s ys c.requires.ground ctx (the_head c.args.head.now) (the_chooser c.in-Some.chooser) p.place (expr.Symbol c.in_ok-place_behind-in-Some.field-0) e (atom_head c.args.head.now) p.first
    (λ vs env. ap (slice_index vs) p.is)
    (λ vs env l. subst (λ k. k < length vs) (sym p.is) l)
