-- Rows of a witness table differ.
use Rattle.std.proofs.Common.{◌≡◌, ℕ, zero, suc, List, [], ◌∷◌, ◌++◌, map, length, slice_get, Some, refl, sym, ap, ◌∙◌}
use Rattle.std.proofs.lemmas.Option.{same_Some, get_or_from_slice_get, slice_get_within}
use Rattle.stt_core.proofs.ListLaws.{mapped_get, slice_get-append, slice_get-end}
use Rattle.stt_core.specs.Typing.{Scope}
use Rattle.tableau_calculus.specs.Witnesses.{Row, IsTwice, IsTable, IsTableAfter}
use Rattle.tableau_calculus.proofs.InstanceLaws.{AreDistinct}

twice : (earlier : List Row) (r q : Row) (j : ℕ) → slice_get earlier j ≡ Some q → q.predicate ≡ r.predicate → IsTwice earlier r
twice earlier r q j h e =
    let got = mapped_get (λ (x : Row). x.predicate) earlier j q h in
    (j, slice_get_within (map (λ (x : Row). x.predicate) earlier) j q.predicate got, get_or_from_slice_get (map (λ (x : Row). x.predicate) earlier) j q.predicate r.predicate got ∙ e)

earlier_differ : (scope : Scope) (earlier rows : List Row) → IsTableAfter scope earlier rows → (j k : ℕ) (q r : Row) → slice_get earlier j ≡ Some q → slice_get rows k ≡ Some r → q.predicate ≡ r.predicate → ⊥
earlier_differ scope earlier [] t j k q r g h e = cc
earlier_differ scope earlier (x ∷ rows) t j zero q r g h e = t.1 (twice earlier x q j g (e ∙ ap (λ (y : Row). y.predicate) (sym (same_Some x r h))))
earlier_differ scope earlier (x ∷ rows) t j (suc k) q r g h e = earlier_differ scope (earlier ++ x ∷ []) rows t.2 j k q r (slice_get-append earlier (x ∷ []) j q g) h e

rows_differ : (scope : Scope) (earlier rows : List Row) → IsTableAfter scope earlier rows → AreDistinct rows
rows_differ scope earlier [] t j k q r g h e = cc
rows_differ scope earlier (x ∷ rows) t zero zero q r g h e = refl
rows_differ scope earlier (x ∷ rows) t zero (suc k) q r g h e =
    absurd (earlier_differ scope (earlier ++ x ∷ []) rows t.2 (length earlier) k x r (slice_get-end earlier x) h (ap (λ (y : Row). y.predicate) (same_Some x q g) ∙ e))
rows_differ scope earlier (x ∷ rows) t (suc j) zero q r g h e =
    absurd (earlier_differ scope (earlier ++ x ∷ []) rows t.2 (length earlier) j x q (slice_get-end earlier x) g (ap (λ (y : Row). y.predicate) (same_Some x r h) ∙ sym e))
rows_differ scope earlier (x ∷ rows) t (suc j) (suc k) q r g h e = ap suc (rows_differ scope (earlier ++ x ∷ []) rows t.2 j k q r g h e)

-- no two rows of a witness table have one predicate
pub rows_distinct : (scope : Scope) (rows : List Row) → IsTable scope rows → AreDistinct rows
rows_distinct scope rows t = rows_differ scope [] rows t
