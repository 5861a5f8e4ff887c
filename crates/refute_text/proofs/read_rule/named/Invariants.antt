use Rattle.std.proofs.Common.{◌≡◌, drop}
use Rattle.refute_text.specs.Internal.LineReader.{named_first}
use Rattle.refute_text.proofs.read_rule.named.Given as goal

-- the rules that are left tell
abbrev pub invariant-loop-rule : goal.invariant-loop-rule
invariant-loop-rule g l = named_first g.K.NamedRule.name (drop l.rule-index l.rules) l.bytes ≡ named_first g.K.NamedRule.name g.K.NamedRule.rules l.bytes
