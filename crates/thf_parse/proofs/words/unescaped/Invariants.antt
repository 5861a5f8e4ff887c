use Rattle.std.proofs.Common.{◌≡◌, ◌++◌, length}
use Rattle.thf_grammar.specs.Words.{unescaped}
use Rattle.thf_parse.proofs.words.unescaped.Given as goal

-- what is left gives the rest of the name
abbrev pub invariant-loop-rest : goal.invariant-loop-rest
invariant-loop-rest l = l.name ++ unescaped l.rest ≡ unescaped l.text

abbrev pub decreases-loop-rest : goal.decreases-loop-rest
decreases-loop-rest l = length l.rest
