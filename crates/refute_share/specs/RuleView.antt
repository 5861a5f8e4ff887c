-- The rules of the code as those of the calculus.
use Rattle.std.specs.Prelude.{ℕ}
use Rattle.std.specs.Rc.{rc_value}
use Rattle.std.specs.declared.rc.Rc.{Rc}
use Rattle.stt_core.specs.Lambda.{Lambda}
use Rattle.tableau_calculus.specs.Literals.{Literal}
use Rattle.tableau_calculus.specs.RuleUses.{map_use}
use Rattle.tableau_calculus.specs.Rules.{PlainRule}
use Rattle.tableau_calculus.specs.declared.rule_use.RuleUse.{RuleUse}

-- the rule, with the terms that its parts stand for
abbrev pub the_rule_use : {Z : Type 0} → RuleUse ℕ (Rc Lambda Z) Literal → PlainRule
the_rule_use rule = map_use (λ i. i) rc_value (λ l. l) rule
