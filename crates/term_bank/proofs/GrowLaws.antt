-- Banks that grow.
use Rattle.std.proofs.Common.{◌≡◌, ℕ, ◌<◌, List, [], ◌++◌, map, length, get_or, slice_get, refl, sym, ap, ◌∙◌, append_assoc, append-nil, arith, length-append}
use Rattle.std.specs.Prelude.{All}
use Rattle.std.proofs.lemmas.Option.{slice_get-get_or, get_or_from_slice_get, slice_get_within}
use Rattle.std.proofs.lemmas.List.Elements.{All-weaker}
use Rattle.stt_core.specs.Lambda.{Lambda, bound}
use Rattle.term_bank.specs.Terms.{term_at}
use Rattle.term_bank.specs.Content.{Content, content_scope, HasTerm, Grows}
use Rattle.stt_core.proofs.ListLaws.{slice_get-append}
use Rattle.term_bank.proofs.ListLaws.{get_or-front, map-same}

pub grows_itself : (b : Content) → Grows b b
grows_itself b = record { bases = refl; consts = refl; witnesses = refl; further = []; terms = sym (append-nil b.terms) }

pub grows_on : (a b c : Content) → Grows a b → Grows b c → Grows a c
grows_on a b c g h = record {
  bases = h.bases ∙ g.bases;
  consts = h.consts ∙ g.consts;
  witnesses = h.witnesses ∙ g.witnesses;
  further = g.further ++ h.further;
  terms = h.terms ∙ ap (λ l. l ++ h.further) g.terms ∙ append_assoc a.terms g.further h.further;
}

pub grown_scope : (a b : Content) → Grows a b → content_scope b ≡ content_scope a
grown_scope a b g = λ i. record { bases = length (g.bases i); names = map (λ c. c.type) (g.consts i); witnesses = g.witnesses i }

pub grown_term : (a b : Content) (id : ℕ) (t : Lambda) → Grows a b → HasTerm a id t → HasTerm b id t
grown_term a b id t g h = ap (λ l. slice_get l id) g.terms ∙ slice_get-append a.terms g.further id t h

pub grown_at : (a b : Content) (id : ℕ) → Grows a b → id < length a.terms → term_at b.terms id ≡ term_at a.terms id
grown_at a b id g h = ap (λ l. get_or l id (bound 0)) g.terms ∙ get_or-front a.terms g.further id (bound 0) h

pub grown_within : (a b : Content) (id : ℕ) → Grows a b → id < length a.terms → id < length b.terms
grown_within a b id g h = omega (arith, ap length g.terms, length-append a.terms g.further)

pub grown_all : (a b : Content) (ids : List ℕ) → Grows a b → All (λ i. i < length a.terms) ids → All (λ i. i < length b.terms) ids
grown_all a b ids g h = All-weaker (λ i. i < length a.terms) (λ i. i < length b.terms) (λ i k. grown_within a b i g k) ids h

pub grown_terms : (a b : Content) (ids : List ℕ) → Grows a b → All (λ i. i < length a.terms) ids → map (term_at b.terms) ids ≡ map (term_at a.terms) ids
grown_terms a b ids g h = map-same (λ i. i < length a.terms) (term_at b.terms) (term_at a.terms) (λ i k. grown_at a b i g k) ids h

-- where a term stands is a place, and it is the term at that place
pub has_within : (b : Content) (id : ℕ) (t : Lambda) → HasTerm b id t → id < length b.terms
has_within b id t h = slice_get_within b.terms id t h

pub has_at : (b : Content) (id : ℕ) (t : Lambda) → HasTerm b id t → term_at b.terms id ≡ t
has_at b id t h = get_or_from_slice_get b.terms id t (bound 0) h

pub at_has : (b : Content) (id : ℕ) → id < length b.terms → HasTerm b id (term_at b.terms id)
at_has b id h = slice_get-get_or b.terms id (bound 0) h
