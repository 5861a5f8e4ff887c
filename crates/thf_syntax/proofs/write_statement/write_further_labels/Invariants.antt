use Rattle.std.proofs.Common.{take, codes, ◌++◌}
use Rattle.std.specs.List.{flat_map}
use Rattle.thf_grammar.specs.View.{the_selected}
use Rattle.thf_syntax.specs.Texts.{selected_text}
use Rattle.outside.specs.Writing.{Took}
use Rattle.thf_syntax.proofs.write_statement.write_further_labels.Given as goal

abbrev pub invariant-loop-selected : goal.invariant-loop-selected
invariant-loop-selected g l =
    let sink = g.S.Sink in
    Took sink.tells sink.written sink.faults l.fn.sink l.sink (flat_map (λ s. codes "," ++ selected_text (the_selected s)) (take l.selected-index l.only))
