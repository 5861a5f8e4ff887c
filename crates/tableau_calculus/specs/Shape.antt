-- What stands at a formula's head.
use Rattle.std.specs.Prelude.{◌≡◌}
use Rattle.stt_core.specs.Lambda.{falsity, Lambda, constant, neg, imp}
use Rattle.tableau_calculus.specs.declared.shape.Shape.{Shape}
use Rattle.tableau_calculus.specs.declared.shape.Shape.TheVariants.{False, Not, Imp, Other}

-- the term is neither falsity nor a negation nor an implication
pub record IsOther (t : Lambda) : Type 0 where
  pub not_falsity : t ≡ constant falsity → ⊥
  pub not_negation : (s : Lambda) → t ≡ neg s → ⊥
  pub not_implication : (s u : Lambda) → t ≡ imp s u → ⊥

-- the term has the shape
abbrev pub HasShape : Shape → Lambda → Type 0
HasShape False t = t ≡ constant falsity
HasShape (Not s) t = t ≡ neg s.now
HasShape (Imp s u) t = t ≡ imp s.now u.now
HasShape Other t = IsOther t
