use Rattle.std.proofs.Common.{◌≡◌, ◌∙◌, IfOk, option_map, sym, ap, subst}
use Rattle.stt_core.specs.View.{the_type}
use Rattle.type_check.specs.Terms.{variable_named}
use Rattle.type_check.specs.Internal.ScopeView.{the_binders, variables, placed_typed}
use Rattle.type_check.specs.Internal.TypedView.{the_typed}
use Rattle.type_check.specs.declared.scope.Scope.{Scope}
use Rattle.type_check.proofs.ScopeLaws.{variable_hidden, variable_here}
use Rattle.type_check.proofs.scope.Scope.+variable.Goals as goal

pub returns-then-eq : goal.returns-then-eq
returns-then-eq t c =
    let here = variable_here c.args.k (record { name = c.in-Inner.innermost.now; type = the_type c.in-Inner.ty.now }) (the_binders c.in-Inner.outer.now) c.args.name.now (sym c.eq.ensures ∙ c.if-eq.true) in
    sym (ap (λ (s : Scope). option_map (placed_typed c.args.k (the_binders s)) (variable_named c.args.k (variables (the_binders s)) c.args.name.now)) c.in-Inner.is ∙ here)

pub returns-in_ok-one_more-in-Hidden : goal.returns-in_ok-one_more-in-Hidden
returns-in_ok-one_more-in-Hidden t c =
    let outer = the_binders c.in-Hidden.outer.now in
    let more = ap (λ n. option_map (placed_typed n outer) (variable_named n (variables outer) c.args.name.now)) c.in_ok-one_more-in-Hidden.ensures in
    let is = ap (λ (s : Scope). option_map (placed_typed c.args.k (the_binders s)) (variable_named c.args.k (variables (the_binders s)) c.args.name.now)) c.in-Hidden.is in
    subst (λ o. IfOk c.variable-in-Hidden.result (λ x. option_map the_typed x ≡ o)) (more ∙ variable_hidden c.args.k outer c.args.name.now ∙ sym is) c.variable-in-Hidden.ensures
