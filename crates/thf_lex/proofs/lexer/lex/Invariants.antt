use Rattle.std.proofs.Common.{◌≤◌, ◌-◌, ◌++◌, List, length, drop}
use Rattle.thf_grammar.specs.declared.token.Token.{Token}
use Rattle.thf_grammar.specs.Reading.{Reads}
use Rattle.thf_lex.proofs.lexer.lex.Given as goal

-- The tokens of what is left complete the tokens.
abbrev pub invariant-loop-len : goal.invariant-loop-len
invariant-loop-len l = record {
  within : l.at ≤ length l.bytes;
  completes : (later : List Token) → Reads l.at (drop l.at l.bytes) later → Reads 0 l.bytes (l.tokens ++ later);
}

abbrev pub decreases-loop-len : goal.decreases-loop-len
decreases-loop-len l = length l.bytes - l.at
