-- Eta-long forms of heads that are lifted by all their binders at once.
use Rattle.std.specs.Prelude.{◌≡◌, ℕ, suc}
use Rattle.stt_core.specs.SimpleType.{SimpleType, base, arrow}
use Rattle.stt_core.specs.Lambda.{Lambda, bound, lam, app}
use Rattle.stt_core.specs.Lift.{lift_by}
use Rattle.stt_core.specs.Typing.{Scope}
use Rattle.normal_forms.specs.Normal.{eta}
use Rattle.bank_normal.specs.Fits.{IsNeutralOf}

-- how many arguments a function of this type takes
abbrev pub arrow_count : SimpleType → ℕ
arrow_count (base n) = 0
arrow_count (arrow a b) = suc (arrow_count b)

-- the eta-long form of a head of this type, which stands under the binders of that form already
abbrev pub eta_lifted : SimpleType → Lambda → Lambda
eta_lifted (base n) t = t
eta_lifted (arrow a b) t = lam a (eta_lifted b (app t (eta a (bound (arrow_count b)))))

-- t is a head of this type with arguments, lifted by the binders of its eta-long form
pub record IsLiftedHead (scope : Scope) (a : SimpleType) (t : Lambda) : Type 0 where
  pub head : Lambda
  pub neutral : IsNeutralOf scope a head
  pub is : t ≡ lift_by (arrow_count a) 0 head
