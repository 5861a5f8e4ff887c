use Rattle.std.proofs.Common.{◌≡◌, ◌<◌, length}
use Rattle.tableau_calculus.specs.Literals.{as_literal}
use Rattle.term_bank.specs.Terms.{term_at}
use Rattle.literal_map.proofs.PeelLaws.{with_sign}
use Rattle.literal_map.proofs.unsigned.atom_of.Given as goal

-- the literal of what is left, with the sign so far, is that of the formula
abbrev pub invariant-loop-inner : goal.invariant-loop-inner
invariant-loop-inner l = record {
  within : l.atom < length l.bank.terms;
  literal : with_sign l.positive (as_literal (term_at l.bank.terms l.atom)) ≡ as_literal (term_at l.bank.terms l.formula);
}

abbrev pub decreases-loop-inner : goal.decreases-loop-inner
decreases-loop-inner l = l.atom
