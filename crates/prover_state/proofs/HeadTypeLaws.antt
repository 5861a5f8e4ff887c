-- The types of the logic's own heads.
use Rattle.std.specs.Prelude.{◌≡◌, ◌<◌, ◌+◌, get_or, ℕ, zero, suc, Bool, true, false, List, [], ◌∷◌, ◌++◌, length, slice_get, Some, None, if◌then◌else◌}
use Rattle.std.proofs.Common.{sym, ap, subst, ◌∙◌, arith}
use Rattle.std.proofs.lemmas.Option.{same_Some, slice_get-get_or}
use Rattle.stt_core.specs.SimpleType.{SimpleType}
use Rattle.prover_state.specs.declared.head_types.BaseHeads.{BaseHeads}
use Rattle.prover_state.specs.Internal.HeadTypes.{IsBaseHeads, AreBaseHeads}

pub base-heads-last : (n : ℕ) (hs : List BaseHeads) (h : BaseHeads) → AreBaseHeads n hs → IsBaseHeads (n + length hs) h → AreBaseHeads n (hs ++ h ∷ [])
base-heads-last n [] h a k = (subst (λ m. IsBaseHeads m h) (let e : n + 0 ≡ n = omega arith in e) k, tt)
base-heads-last n (x ∷ hs) h a k = (a.0, base-heads-last (suc n) hs h a.1 (subst (λ m. IsBaseHeads m h) (let e : n + suc (length hs) ≡ suc n + length hs = omega arith in e) k))

pub base-heads-at : (n : ℕ) (hs : List BaseHeads) (i : ℕ) (h : BaseHeads) → AreBaseHeads n hs → slice_get hs i ≡ Some h → IsBaseHeads (n + i) h
base-heads-at n [] i h a at = cc
base-heads-at n (x ∷ hs) zero h a at = subst (IsBaseHeads (n + 0)) (same_Some x h at) (subst (λ m. IsBaseHeads m x) (let e : n ≡ n + 0 = omega arith in e) a.0)
base-heads-at n (x ∷ hs) (suc i) h a at = subst (λ m. IsBaseHeads m h) (let e : suc n + i ≡ n + suc i = omega arith in e) (base-heads-at (suc n) hs i h a.1 at)

pub base-heads-here : (hs : List BaseHeads) (n : ℕ) (h : BaseHeads) → AreBaseHeads 0 hs → n < length hs → h ≡ get_or hs n h → IsBaseHeads n h
base-heads-here hs n h a within e =
    subst (λ m. IsBaseHeads m h) (let z : 0 + n ≡ n = omega arith in z) (base-heads-at 0 hs n h a (slice_get-get_or hs n h within ∙ ap Some (sym e)))

-- the type of what is declared
pub declared-type : (x : Bool) (b a : SimpleType) → (if x then Some b else None) ≡ Some a → b ≡ a
declared-type true b a e = same_Some b a e
declared-type false b a e = cc
