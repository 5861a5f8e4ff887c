-- The entries of a bank, and their terms.
use Rattle.std.proofs.Common.{◌≡◌, ℕ, zero, suc, ◌+◌, ◌<◌, List, [], ◌∷◌, map, length, slice_get, Some, refl, sym, ap, subst, ◌∙◌, arith}
use Rattle.std.proofs.lemmas.Option.{get_or_from_slice_get, same_Some}
use Rattle.std.proofs.lemmas.List.{length-map}
use Rattle.stt_core.specs.Typing.{Scope}
use Rattle.stt_core.specs.Lambda.{Lambda, bound}
use Rattle.term_bank.specs.Shape.{Shape}
use Rattle.term_bank.specs.Terms.{term_at, shape_term, IsBelow}
use Rattle.term_bank.specs.NodeView.{the_shape}
use Rattle.term_bank.specs.Internal.MarksView.{IsMarked}
use Rattle.term_bank.specs.Internal.Sound.{ShapeEntry, entry_terms, AreSound}
use Rattle.term_bank.proofs.TermLaws.{terms_after-length, term_of_node, AreBelow}

-- the node of an entry
abbrev pub entry_shape : ShapeEntry → Shape
entry_shape e = the_shape e.0

pub terms_of-length : (es : List ShapeEntry) → length (entry_terms es) ≡ length es
terms_of-length es = omega (arith, terms_after-length [] (map entry_shape es), length-map es entry_shape)

-- what is mapped to a place
mapped_at : (es : List ShapeEntry) (k : ℕ) (s : Shape) → slice_get (map entry_shape es) k ≡ Some s → (e : ShapeEntry) × (slice_get es k ≡ Some e) × (entry_shape e ≡ s)
mapped_at [] k s h = cc
mapped_at (e ∷ es) zero s h = (e, refl, same_Some (entry_shape e) s h)
mapped_at (e ∷ es) (suc k) s h = mapped_at es k s h

get_mapped : (es : List ShapeEntry) (k : ℕ) (e : ShapeEntry) → slice_get es k ≡ Some e → slice_get (map entry_shape es) k ≡ Some (entry_shape e)
get_mapped [] k e h = cc
get_mapped (d ∷ es) zero e h = ap (λ x. Some (entry_shape x)) (same_Some d e h)
get_mapped (d ∷ es) (suc k) e h = get_mapped es k e h

module _ (scope : Scope) (es : List ShapeEntry) (sound : AreSound scope es) where
  are_below : AreBelow 0 (map entry_shape es)
  are_below k s h =
      let m = mapped_at es k s h in
      let e : k ≡ 0 + k = omega arith in
      subst (λ n. IsBelow n s) e (subst (IsBelow k) m.2 (sound.below k m.0 m.1))

  -- at each place stands the term of its node
  pub entry_term : (k : ℕ) (e : ShapeEntry) → slice_get es k ≡ Some e → slice_get (entry_terms es) k ≡ Some (shape_term (entry_terms es) (entry_shape e))
  entry_term k e h =
      let z : k ≡ 0 + k = omega arith in
      ap (slice_get (entry_terms es)) z ∙ term_of_node [] (map entry_shape es) are_below k (entry_shape e) (get_mapped es k e h)

  pub node_is : (ts : List Lambda) (k : ℕ) (e : ShapeEntry) → entry_terms es ≡ ts → slice_get es k ≡ Some e → term_at ts k ≡ shape_term ts (entry_shape e)
  node_is ts k e same h =
      ap (λ l. term_at l k) (sym same)
      ∙ get_or_from_slice_get (entry_terms es) k (shape_term (entry_terms es) (entry_shape e)) (bound 0) (entry_term k e h)
      ∙ ap (λ l. shape_term l (entry_shape e)) same

  pub marks_are : (ts : List Lambda) (k : ℕ) (e : ShapeEntry) → entry_terms es ≡ ts → slice_get es k ≡ Some e → IsMarked scope (term_at ts k) e.1
  marks_are ts k e same h = subst (λ l. IsMarked scope (term_at l k) e.1) same (sound.marked k e h)

-- the places of the terms are those of the entries
pub within_entries : (es : List ShapeEntry) (ts : List Lambda) (k : ℕ) → entry_terms es ≡ ts → k < length ts → k < length es
within_entries es ts k same h = omega (arith, terms_of-length es, ap length same)
