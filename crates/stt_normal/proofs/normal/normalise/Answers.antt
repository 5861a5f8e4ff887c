use Rattle.std.proofs.Common.{reverse}
use Rattle.stt_core.specs.ScopeView.{the_scope}
use Rattle.stt_core.specs.View.{the_term}
use Rattle.normal_forms.specs.Normal.{normal_form}
use Rattle.normal_forms.proofs.NormalReady.{whole_ready, whole_is, whole_type, whole_value}
use Rattle.stt_normal.proofs.normal.normalise.Goals as goal

pub normal_applied-requires : goal.normal_applied-requires
normal_applied-requires c =
    whole_ready (the_scope c.args.sig.now c.args.wits.now) c.args.ctx.now (the_term c.args.term.now) c.new.result c.requires.declared c.requires.context_declared c.requires.typed c.new.ensures

pub returns-clause-same_type : goal.returns-clause-same_type
returns-clause-same_type c =
    let scope = the_scope c.args.sig.now c.args.wits.now in
    let ctx = reverse c.args.ctx.now in
    let t = the_term c.args.term.now in
    let ready = whole_ready scope c.args.ctx.now t c.new.result c.requires.declared c.requires.context_declared c.requires.typed c.new.ensures in
    whole_type scope ctx t c.in_ok-normal_applied.field-0 ready.term (whole_is (normal_form scope ctx t) c.in_ok-normal_applied.field-0 c.new.result c.new.ensures c.in_ok-normal_applied.ensures)

pub returns-clause-same_value : goal.returns-clause-same_value
returns-clause-same_value c =
    let scope = the_scope c.args.sig.now c.args.wits.now in
    let ctx = reverse c.args.ctx.now in
    let t = the_term c.args.term.now in
    let ready = whole_ready scope c.args.ctx.now t c.new.result c.requires.declared c.requires.context_declared c.requires.typed c.new.ensures in
    whole_value scope ctx t c.in_ok-normal_applied.field-0 ready.term (whole_is (normal_form scope ctx t) c.in_ok-normal_applied.field-0 c.new.result c.new.ensures c.in_ok-normal_applied.ensures)
