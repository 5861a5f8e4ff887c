-- Maps of a rule's use.
use Rattle.tableau_calculus.specs.RuleUses.{EachPart}
use Rattle.tableau_calculus.specs.declared.rule_use.RuleUse.{RuleUse}
use Rattle.tableau_calculus.specs.declared.rule_use.RuleUse.TheVariants.{AtOne, AtTwo, AllPos, WithPredicate, Cut}

-- each part meets what follows from what it meets
pub each_part-more : {P T L : Type 0} (A A' : T → Type 0) (B B' : L → Type 0) → ((x : T) → A x → A' x) → ((x : L) → B x → B' x) → (r : RuleUse P T L) → EachPart A B r → EachPart A' B' r
each_part-more A A' B B' a b (AtOne kind i) h = h
each_part-more A A' B B' a b (AtTwo kind i j) h = h
each_part-more A A' B B' a b (AllPos i u) h = a u h
each_part-more A A' B B' a b (WithPredicate kind f) h = a f h
each_part-more A A' B B' a b (Cut x) h = b x h
