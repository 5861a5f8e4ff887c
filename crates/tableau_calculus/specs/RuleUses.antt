-- Uses of rules, whatever stands for a principal, a term and a literal.
use Rattle.std.specs.Prelude.{List, [], ◌∷◌, Option, Some, None, option_map}
use Rattle.tableau_calculus.specs.declared.rule_use.RuleUse.{RuleUse}
use Rattle.tableau_calculus.specs.declared.rule_use.RuleUse.TheVariants.{AtOne, AtTwo, AllPos, WithPredicate, Cut}

-- the use with its principals, its term and its literal mapped
abbrev pub map_use : {P P' T T' L L' : Type 0} → (P → P') → (T → T') → (L → L') → RuleUse P T L → RuleUse P' T' L'
map_use p t l (AtOne kind i) = AtOne kind (p i)
map_use p t l (AtTwo kind i j) = AtTwo kind (p i) (p j)
map_use p t l (AllPos i u) = AllPos (p i) (t u)
map_use p t l (WithPredicate kind f) = WithPredicate kind (t f)
map_use p t l (Cut k) = Cut (l k)

-- what two values come to where there are both
abbrev pub option_both : {A B C : Type 0} → (A → B → C) → Option A → Option B → Option C
option_both f (Some a) b = option_map (f a) b
option_both f None b = None

-- the use with its parts mapped, where each part has an image
abbrev pub map_use_option :
    {P P' T T' L L' : Type 0} → (P → Option P') → (T → Option T') → (L → Option L') → RuleUse P T L → Option (RuleUse P' T' L')
map_use_option p t l (AtOne kind i) = option_map (AtOne kind) (p i)
map_use_option p t l (AtTwo kind i j) = option_both (AtTwo kind) (p i) (p j)
map_use_option p t l (AllPos i u) = option_both AllPos (p i) (t u)
map_use_option p t l (WithPredicate kind f) = option_map (WithPredicate kind) (t f)
map_use_option p t l (Cut k) = option_map Cut (l k)

-- the principals in their order
abbrev pub principals_of : {P T L : Type 0} → RuleUse P T L → List P
principals_of (AtOne kind i) = i ∷ []
principals_of (AtTwo kind i j) = i ∷ j ∷ []
principals_of (AllPos i u) = i ∷ []
principals_of (WithPredicate kind f) = []
principals_of (Cut k) = []

-- what the rule takes beside its principals, a term or a literal, meets this
abbrev pub EachPart : {P T L : Type 0} → (T → Type 0) → (L → Type 0) → RuleUse P T L → Type 0
EachPart ofTerm ofLiteral (AtOne kind i) = Unit {0}
EachPart ofTerm ofLiteral (AtTwo kind i j) = Unit {0}
EachPart ofTerm ofLiteral (AllPos i u) = ofTerm u
EachPart ofTerm ofLiteral (WithPredicate kind f) = ofTerm f
EachPart ofTerm ofLiteral (Cut k) = ofLiteral k
