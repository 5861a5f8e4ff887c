use Rattle.std.proofs.Common.{codes, ◌++◌}
use Rattle.thf_grammar.specs.View.{the_var}
use Rattle.thf_syntax.specs.Texts.{var_text}
use Rattle.thf_names.proofs.Lists.{flat_map-map_map}
use Rattle.outside.proofs.Writes.{on_err}
use Rattle.thf_names.proofs.Writes.{stopped_at, took_all}
use Rattle.thf_syntax.proofs.write_types.write_further_vars.Goals as goal

pub returns-in_err-write_var-clause-stopped : goal.returns-in_err-write_var-clause-stopped
returns-in_err-write_var-clause-stopped g c = on_err c.from_residual.result
    (rw (flat_map-map_map (λ t. codes ", " ++ t) var_text the_var c.args.vars.now)
    (stopped_at (λ x. codes ", " ++ var_text (the_var x)) c.args.vars.now c.loop-var.var-index c.var-item.result c.var-item.result c.loop-var-test.true c.var-item.is c.loop-var.invariant c.in_err-write_var.ensures.stopped))

pub returns-clause-took : goal.returns-clause-took
returns-clause-took g c = rw (flat_map-map_map (λ t. codes ", " ++ t) var_text the_var c.args.vars.now) (took_all (λ x. codes ", " ++ var_text (the_var x)) c.args.vars.now c.loop-var.var-index c.loop-var-test.false c.loop-var.invariant)
