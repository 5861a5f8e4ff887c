-- Refutations without cut.
use Rattle.std.specs.Prelude.{◌≡◌, Bool, true, false, List, All}
use Rattle.tableau_calculus.specs.declared.refutation.Line.{Line}
use Rattle.tableau_calculus.specs.declared.rule_use.RuleUse.{RuleUse}
use Rattle.tableau_calculus.specs.declared.rule_use.RuleUse.TheVariants.{Cut}

abbrev pub is_cut_use : {P T L : Type 0} → RuleUse P T L → Bool
is_cut_use (Cut l) = true
is_cut_use rule = false

-- no line is a cut
abbrev pub HasNoCut : List Line → Type 0
HasNoCut lines = All (λ line. is_cut_use line.rule ≡ false) lines
