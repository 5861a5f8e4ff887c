-- Rules with what they take, by numbers.
use Rattle.std.specs.Prelude.{ℕ}
use Rattle.sat_base.specs.declared.literal.SatLit.{SatLit}
use Rattle.tableau_calculus.specs.declared.rule_use.RuleUse.{RuleUse}

-- A rule with literals by number as its principals, and with the place of a term in the bank or the literal of a cut.
abbrev pub UseByNumbers : Type 0
UseByNumbers = RuleUse SatLit ℕ SatLit
