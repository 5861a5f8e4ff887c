use Rattle.std.proofs.Common.{take, codes, ◌++◌}
use Rattle.std.specs.List.{flat_map}
use Rattle.thf_grammar.specs.View.{the_var}
use Rattle.thf_syntax.specs.Texts.{var_text}
use Rattle.outside.specs.Writing.{Took}
use Rattle.thf_syntax.proofs.write_types.write_further_vars.Given as goal

abbrev pub invariant-loop-var : goal.invariant-loop-var
invariant-loop-var g l =
    let sink = g.S.Sink in
    Took sink.tells sink.written sink.faults l.fn.sink l.sink (flat_map (λ v. codes ", " ++ var_text (the_var v)) (take l.var-index l.vars))
