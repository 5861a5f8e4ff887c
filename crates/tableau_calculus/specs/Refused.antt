-- What is said of a refusal.
use Rattle.std.specs.Prelude.{ℕ}
use Rattle.tableau_calculus.specs.declared.refutation.Why.{Why}
use Rattle.tableau_calculus.specs.declared.refused.PlainRefused.{PlainRefused}
use Rattle.tableau_calculus.specs.declared.refused.PlainRefused.TheVariants.{Refused, Memory}

-- unless memory ran out, this holds of its place and its word
abbrev pub IfRefused : PlainRefused → (ℕ → Why → Type 0) → Type 0
IfRefused (Refused line why) P = P line why
IfRefused Memory P = Unit {0}
