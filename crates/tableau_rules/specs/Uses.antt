-- What rules take, by numbers.
use Rattle.std.specs.Prelude.{ℕ, List, map}
use Rattle.stt_core.specs.Lambda.{Lambda}
use Rattle.tableau_calculus.specs.Literals.{Literal}
use Rattle.tableau_calculus.specs.Witnesses.{Row}
use Rattle.tableau_calculus.specs.RuleUses.{map_use, principals_of}
use Rattle.tableau_calculus.specs.Rules.{PlainRule, IsInstance}
use Rattle.tableau_calculus.specs.declared.rule_use.RuleUse.{RuleUse}
use Rattle.tableau_calculus.specs.declared.rule_use.RuleUse.TheVariants.{AtOne, AtTwo, AllPos, WithPredicate, Cut}
use Rattle.term_bank.specs.Content.{Content, content_scope}
use Rattle.term_bank.specs.Terms.{term_at}
use Rattle.literal_map.specs.Atoms.{bank_literal}
use Rattle.literal_map.specs.Numbers.{UseByNumbers}

-- the rule with what it takes, where its principals stand first in the branch, in their order
abbrev pub placed : {P T L : Type 0} → RuleUse P T L → RuleUse ℕ T L
placed (AtOne rule p) = AtOne rule 0
placed (AtTwo rule p q) = AtTwo rule 0 1
placed (AllPos p t) = AllPos 0 t
placed (WithPredicate rule t) = WithPredicate rule t
placed (Cut l) = Cut l

-- the rule with what it takes, over a bank and the places of the atoms in it
abbrev pub use_of : List Lambda → List ℕ → UseByNumbers → PlainRule
use_of terms atoms by = placed (map_use (bank_literal terms atoms) (term_at terms) (bank_literal terms atoms) by)

-- the rule has an instance with these principals, in their order, and these are its alternatives
abbrev pub IsInstanceBy : Content → List ℕ → List Row → UseByNumbers → List (List Literal) → Type 0
IsInstanceBy b atoms rows by alternatives =
    IsInstance (content_scope b) rows (map (bank_literal b.terms atoms) (principals_of by)) (use_of b.terms atoms by) alternatives
