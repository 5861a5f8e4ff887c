-- The types of the logic's own heads, as they are kept.
use Rattle.std.specs.Prelude.{◌≡◌, ℕ, suc, List, [], ◌∷◌}
use Rattle.stt_core.specs.SimpleType.{SimpleType, base, arrow, formula, predicate}
use Rattle.stt_core.specs.View.{the_type}
use Rattle.prover_state.specs.declared.head_types.BaseHeads.{BaseHeads}

-- the types of the equality, the quantifier and the choice of a base type
pub record IsBaseHeads (n : ℕ) (h : BaseHeads) : Type 0 where
  pub equality : the_type h.equality ≡ arrow (base n) (predicate (base n))
  pub quantifier : the_type h.quantifier ≡ arrow (predicate (base n)) formula
  pub choice : the_type h.choice ≡ arrow (predicate (base n)) (base n)

-- those of the base types from a number on
abbrev pub AreBaseHeads : ℕ → List BaseHeads → Type 0
AreBaseHeads n [] = Unit {0}
AreBaseHeads n (h ∷ hs) = IsBaseHeads n h × AreBaseHeads (suc n) hs

-- the types of falsity, of negation and of implication, and those of the heads of base types
pub record AreHeadTypes (a b c : SimpleType) (hs : List BaseHeads) : Type 0 where
  pub falsity : a ≡ formula
  pub negation : b ≡ arrow formula formula
  pub implication : c ≡ arrow formula (arrow formula formula)
  pub bases : AreBaseHeads 0 hs
