use Rattle.std.proofs.Common.{◌≡◌, ◌↔◌, ℕ, zero, suc, IsTrue, nat_lt, sym, ap, ◌∙◌, arith}
use Rattle.std.proofs.lemmas.Bool.{lt-ltb}
use Rattle.stt_core.specs.SimpleType.{SimpleType, base}
use Rattle.stt_core.specs.View.{the_type}
use Rattle.stt_tableau.proofs.equation.is_plain_base.Goals as goal

positive : (k : ℕ) (a : SimpleType) → a ≡ base k → IsTrue (nat_lt 0 k) ↔ ((n : ℕ) × (a ≡ base (suc n)))
positive zero a e = (λ h. cc, λ h. let p : base 0 ≡ base (suc h.0) = sym e ∙ h.1 in cc)
positive (suc k) a e = (λ h. (k, e), λ h. lt-ltb 0 (suc k) (omega arith))

pub returns-in-Base : goal.returns-in-Base
returns-in-Base c = positive c.in-Base.n (the_type c.args.ty.now) (ap the_type c.in-Base.is)
