use Rattle.std.proofs.Common.{ap, sym, ◌∙◌, option_map}
use Rattle.stt_core.specs.ContextView.{the_context, declared_scope}
use Rattle.stt_core.specs.View.{the_head, the_term, the_type}
use Rattle.normal_forms.proofs.NormalReady.{head_returns}
use Rattle.stt_normal.proofs.normal.normal_head.Goals as goal

pub returns : goal.returns
returns c =
    head_returns (declared_scope c.args.declared.now) (the_context c.args.ctx.now) (the_term c.args.term.now) (the_head c.in_ok-head.head) c.in_ok-eta_long-in-Some.field-0 (the_type c.in-Some.ty) (the_type c.outcome.result.now) c.args.args c.len.result c.requires.leaf c.requires.fits
    c.in_ok-head.ensures
    (ap (option_map the_type) (sym c.in-Some.is) ∙ c.in_ok-ty.ensures)
    c.len.ensures
    c.outcome.ensures
    c.in_ok-eta_long-in-Some.ensures
