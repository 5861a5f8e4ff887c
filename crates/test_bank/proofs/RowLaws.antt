-- Canonical terms over the constants of the rows.
use Rattle.std.proofs.Common.{◌≡◌, ℕ, List, [], ◌∷◌, Some, slice_get, length, map, refl, sym, ap, subst, ◌∙◌, true, arith}
use Rattle.stt_core.specs.SimpleType.{SimpleType, base, arrow, is_declared}
use Rattle.stt_core.specs.Lambda.{Lambda, bound, constant, name, lam, app}
use Rattle.stt_core.specs.Canonical.{IsCanonical}
use Rattle.stt_core.specs.Internal.CanonicalType.{canonical_type}
use Rattle.stt_core.specs.Typing.{Scope}
use Rattle.stt_core.specs.ScopeView.{the_scope}
use Rattle.stt_core.specs.declared.signature.Signature.{Signature}
use Rattle.stt_core.proofs.CanonicalTypes.{canonical-is}
use Rattle.term_bank.specs.Content.{Content, content_scope, HasTerm, Grows}
use Rattle.term_bank.specs.Terms.{term_at, IsTypedTerm}
use Rattle.term_bank.proofs.GrowLaws.{grown_scope, grown_at, grown_within, has_within, has_at}
use Rattle.test_bank.specs.Individuals.{NamesIndividuals, HasNoWitness, IsOf}

-- the term that stands at the place is of its type
pub is_of : (b : Content) (ctx : List SimpleType) (a : SimpleType) (id : ℕ) (t : Lambda) → IsCanonical (content_scope b) ctx a t → HasTerm b id t → IsOf b ctx a id
is_of b ctx a id t c h = record { within = has_within b id t h; canonical = subst (IsCanonical (content_scope b) ctx a) (sym (has_at b id t h)) c }

-- a term stays canonical
grown_canonical : (a b : Content) (ctx : List SimpleType) (ty : SimpleType) (t : Lambda) → Grows a b → IsCanonical (content_scope a) ctx ty t → IsCanonical (content_scope b) ctx ty t
grown_canonical a b ctx ty t g c = subst (λ s. IsCanonical s ctx ty t) (sym (grown_scope a b g)) c

pub of_grown : (a b : Content) (ctx : List SimpleType) (ty : SimpleType) (id : ℕ) (t : Lambda) → Grows a b → IsCanonical (content_scope a) ctx ty t → HasTerm b id t → IsOf b ctx ty id
of_grown a b ctx ty id t g c h = is_of b ctx ty id t (grown_canonical a b ctx ty t g c) h

-- a place keeps its type
pub stays : (a b : Content) (ctx : List SimpleType) (ty : SimpleType) (id : ℕ) → Grows a b → IsOf a ctx ty id → IsOf b ctx ty id
stays a b ctx ty id g o = record {
  within = grown_within a b id g o.within;
  canonical = subst (IsCanonical (content_scope b) ctx ty) (sym (grown_at a b id g o.within)) (grown_canonical a b ctx ty (term_at a.terms id) g o.canonical);
}

pub names_stay : (a b : Content) → Grows a b → NamesIndividuals a → NamesIndividuals b
names_stay a b g h = ap (λ cs. map (λ c. c.type) cs) g.consts ∙ h

pub constant-canonical : (b : Content) → NamesIndividuals b → IsCanonical (content_scope b) [] (base 1) (constant (name 0))
constant-canonical b h = (tt, ap (λ ns. slice_get ns 0) h)

pub variable-canonical : (b : Content) → IsCanonical (content_scope b) (base 1 ∷ []) (base 1) (bound 0)
variable-canonical b = (tt, refl)

pub paired-canonical : (b : Content) → NamesIndividuals b → (ctx : List SimpleType) (t u : Lambda) → IsCanonical (content_scope b) ctx (base 1) t → IsCanonical (content_scope b) ctx (base 1) u
    → IsCanonical (content_scope b) ctx (base 1) (app (app (constant (name 2)) t) u)
paired-canonical b h ctx t u c d = (tt, (base 1, (base 1, ap (λ ns. slice_get ns 2) h, c), d))

pub doubled-canonical : (b : Content) → NamesIndividuals b → (ctx : List SimpleType) (t : Lambda) → IsCanonical (content_scope b) ctx (base 1) t
    → IsCanonical (content_scope b) ctx (base 1) (app (app (constant (name 2)) t) t)
doubled-canonical b h ctx t c = paired-canonical b h ctx t t c c

declared_individual : (n : ℕ) → is_declared n (base 1) ≡ true
declared_individual n = grind arith

pub function-canonical : (b : Content) (t : Lambda) → IsCanonical (content_scope b) (base 1 ∷ []) (base 1) t
    → IsCanonical (content_scope b) [] (arrow (base 1) (base 1)) (lam (base 1) t)
function-canonical b t c = (declared_individual (length b.bases), (refl, c))

-- what has a type over the signature of a bank without witnesses is typed there
pub signature_scope : (b : Content) (sig : Signature) (witnesses : List SimpleType) → sig.bases ≡ b.bases → sig.consts ≡ b.consts → witnesses ≡ [] → HasNoWitness b
    → the_scope sig witnesses ≡ content_scope b
signature_scope b sig witnesses hb hc hw h =
    λ i. record { bases = length (hb i); names = map (λ c. c.type) (hc i); witnesses = (hw ∙ sym h) i }

pub checked_typed : (b : Content) (scope : Scope) (t : Lambda) (a : SimpleType) → scope ≡ content_scope b → canonical_type scope [] t ≡ Some a → IsTypedTerm (content_scope b) t
checked_typed b scope t a e h = record { ctx = []; type = a; canonical = subst (λ s. IsCanonical s [] a t) e (canonical-is scope [] a t h) }
