-- Terms whose arguments are compared.
use Rattle.std.specs.Prelude.{◌≡◌, ℕ, ◌<◌, List, [], ◌∷◌, map, length, Option, Some, None, All}
use Rattle.stt_core.specs.SimpleType.{SimpleType, base, arrow}
use Rattle.stt_core.specs.Lambda.{Constant, Lambda, constant, applied}
use Rattle.stt_core.specs.Typing.{constant_type}
use Rattle.tableau_calculus.specs.Rules.{IsDecomposed, differ_each}
use Rattle.term_bank.specs.Content.{Content, content_scope}
use Rattle.term_bank.specs.Terms.{term_at}
use Rattle.tableau_rules.specs.Internal.Drafted.{alternatives_at, AreDraftedWithin, IsDifference}
use Rattle.tableau_rules.specs.Internal.Typed.{AreSides}
use Rattle.tableau_rules.specs.declared.draft.Signed.{Signed}
use Rattle.tableau_rules.specs.declared.spine.Arguments.{Arguments}

-- no constant whose arguments are compared is the head of both terms with arguments of both
abbrev pub AreNotCompared : Lambda → Lambda → Type 0
AreNotCompared s t =
    (c : Constant) (u v : Lambda) (us vs : List Lambda)
    → IsDecomposed c
    → s ≡ applied (constant c) (u ∷ us)
    → t ≡ applied (constant c) (v ∷ vs)
    → ⊥

-- both terms are one such constant with arguments at these places
pub record HaveArguments (b : Content) (s t : Lambda) (left right : List ℕ) : Type 0 where
  pub head : Constant
  pub decomposed : IsDecomposed head
  pub left_is : s ≡ applied (constant head) (map (term_at b.terms) left)
  pub right_is : t ≡ applied (constant head) (map (term_at b.terms) right)
  pub left_within : All (λ i. i < length b.terms) left
  pub right_within : All (λ i. i < length b.terms) right
  pub left_some : 0 < length left
  pub right_some : 0 < length right

-- the arguments of both terms that are compared, or these aren't compared
abbrev pub AreArgumentsOf : Content → Lambda → Lambda → Option Arguments → Type 0
AreArgumentsOf b s t (Some p) = HaveArguments b s t p.left p.right
AreArgumentsOf b s t None = AreNotCompared s t

-- closed terms of one base type stand at the places
abbrev pub AreBaseSides : Content → ℕ → ℕ → Type 0
AreBaseSides b s t = (n : ℕ) × AreSides b (base n) s t

-- both lists have the places of all arguments of a function of this type
abbrev pub TakesBoth : Content → SimpleType → List ℕ → List ℕ → Type 0
TakesBoth b (base n) [] [] = Unit {0}
TakesBoth b (base n) [] (t ∷ ts) = ⊥
TakesBoth b (base n) (s ∷ ss) ts = ⊥
TakesBoth b (arrow c a) [] ts = ⊥
TakesBoth b (arrow c a) (s ∷ ss) [] = ⊥
TakesBoth b (arrow c a) (s ∷ ss) (t ∷ ts) = AreSides b c s t × TakesBoth b a ss ts

-- the signed formula denies that the terms at two places of an earlier bank are equal, where these have one type
abbrev pub DiffersAt : Content → Content → ℕ → ℕ → Signed → Type 0
DiffersAt old new s t d = (a : SimpleType) → AreSides old a s t → IsDifference old new a s t d

-- for each place of the first list a draft denies that the term there and that at the place of the second are equal
abbrev pub DifferEach : Content → Content → List ℕ → List ℕ → List (List Signed) → Type 0
DifferEach old new [] [] ds = ds ≡ []
DifferEach old new [] (t ∷ ts) ds = ⊥
DifferEach old new (s ∷ ss) [] ds = ⊥
DifferEach old new (s ∷ ss) (t ∷ ts) ds =
    (d : Signed) × (rest : List (List Signed)) × (ds ≡ (d ∷ []) ∷ rest) × DiffersAt old new s t d × DifferEach old new ss ts rest

-- the drafts are the alternatives that the arguments of two terms differ
pub record IsComparison (old new : Content) (s t : Lambda) (ds : List (List Signed)) : Type 0 where
  pub head : Constant
  pub decomposed : IsDecomposed head
  pub type : SimpleType
  pub has_type : constant_type (content_scope old) head ≡ Some type
  pub left_first : Lambda
  pub left_rest : List Lambda
  pub left_is : s ≡ applied (constant head) (left_first ∷ left_rest)
  pub right_first : Lambda
  pub right_rest : List Lambda
  pub right_is : t ≡ applied (constant head) (right_first ∷ right_rest)
  pub within : AreDraftedWithin new ds
  pub alternatives : alternatives_at new ds ≡ differ_each type (left_first ∷ left_rest) (right_first ∷ right_rest)

-- the drafts for two terms, or these aren't compared
abbrev pub AreComparedBy : Content → Content → Lambda → Lambda → Option (List (List Signed)) → Type 0
AreComparedBy old new s t (Some ds) = IsComparison old new s t ds
AreComparedBy old new s t None = AreNotCompared s t
