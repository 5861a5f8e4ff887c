use Rattle.std.proofs.Common.{◌-◌, length}
use Rattle.thf_grammar.proofs.Quotes.{Passed}
use Rattle.thf_lex.proofs.quoted.quoted_len.Given as goal

abbrev pub invariant-loop-at : goal.invariant-loop-at
invariant-loop-at l = Passed l.quote l.bytes l.at

abbrev pub decreases-loop-at : goal.decreases-loop-at
decreases-loop-at l = length l.bytes - l.at
