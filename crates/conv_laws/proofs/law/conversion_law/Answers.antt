use Rattle.std.proofs.Common.{length, reverse}
use Rattle.stt_core.specs.View.{the_term}
use Rattle.stt_core.specs.ScopeView.{the_scope}
use Rattle.normal_forms.proofs.NormalReady.{AreDeclared-reverse}
use Rattle.conv_laws.proofs.Steps.{step_keeps}
use Rattle.conv_laws.proofs.Exactly.{exactly, converts}
use Rattle.conv_laws.proofs.law.conversion_law.Goals as goal

pub returns-clause-first : goal.returns-clause-first
returns-clause-first c =
    let d = AreDeclared-reverse (length c.args.sig.now.bases) c.args.ctx.now c.requires.context_declared in
    converts (the_scope c.args.sig.now c.args.wits.now) c.requires.declared (reverse c.args.ctx.now) d c.requires.typed.type (the_term c.args.s.now) c.requires.typed.first

pub returns-clause-second : goal.returns-clause-second
returns-clause-second c =
    let d = AreDeclared-reverse (length c.args.sig.now.bases) c.args.ctx.now c.requires.context_declared in
    converts (the_scope c.args.sig.now c.args.wits.now) c.requires.declared (reverse c.args.ctx.now) d c.requires.typed.type (the_term c.args.t.now) c.requires.typed.second

pub returns-clause-step : goal.returns-clause-step
returns-clause-step c =
    let d = AreDeclared-reverse (length c.args.sig.now.bases) c.args.ctx.now c.requires.context_declared in
    λ k.
    step_keeps (the_scope c.args.sig.now c.args.wits.now) c.requires.declared (reverse c.args.ctx.now) c.requires.typed.type (the_term c.args.s.now) (the_term c.args.t.now) d c.requires.typed.first c.requires.typed.second k

pub returns-clause-exactly : goal.returns-clause-exactly
returns-clause-exactly c =
    let d = AreDeclared-reverse (length c.args.sig.now.bases) c.args.ctx.now c.requires.context_declared in
    exactly (the_scope c.args.sig.now c.args.wits.now) c.requires.declared (reverse c.args.ctx.now) d (the_term c.args.s.now) (the_term c.args.t.now) c.requires.typed
