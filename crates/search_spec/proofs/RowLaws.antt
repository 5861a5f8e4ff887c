-- The witness of a row: its place in the table.
use Rattle.std.specs.Prelude.{◌≡◌, ◌+◌, ◌<◌, slice_index_or, ◌&&◌, ◌||◌, ℕ, zero, suc, Bool, true, false, not, List, [], ◌∷◌, ◌++◌, length, Some, slice_get, map, refl, if◌then◌else◌}
use Rattle.std.specs.List.{list_any, position_or_len}
use Rattle.std.proofs.Common.{sym, ap, ap₂, ◌∙◌, subst, arith}
use Rattle.std.proofs.lemmas.Bool.{and_parts}
use Rattle.stt_core.specs.SimpleType.{SimpleType, predicate, same_type}
use Rattle.stt_core.specs.SameTerm.{same_term}
use Rattle.stt_core.specs.Lambda.{Lambda, bound, constant, lam, app}
use Rattle.stt_core.specs.Typing.{Scope, IsScope, AreDeclared}
use Rattle.stt_core.specs.Canonical.{IsCanonical}
use Rattle.stt_core.proofs.SameTerms.{same_term-true, same_term-of}
use Rattle.stt_core.proofs.TypeLaws.{same_type-true, differ_type}
use Rattle.tableau_calculus.specs.Witnesses.{Row, with_rows, IsTypedRow, IsTableAfter, IsTable}
use Rattle.tableau_calculus.proofs.FailureLaws.{table-append}
use Rattle.tableau_calculus.proofs.FunctionLaws.{predicate_declared}
use Rattle.search_spec.specs.Witness.{same_row}

pub same_row-true : (q r : Row) → same_row q r ≡ true → q ≡ r
same_row-true q r e =
    let p = and_parts _ _ e in
    ap₂ (λ a f. record { type = a; predicate = f }) (same_type-true q.type r.type p.0) (same_term-true q.predicate r.predicate p.1)

-- a row that is there stands at its place
pub row_at : (rows : List Row) (r : Row) → list_any (same_row r) rows ≡ true → slice_get rows (position_or_len (same_row r) rows) ≡ Some r
row_at [] r e = cc
row_at (q ∷ rows) r e = by_test (same_row r q) refl e (row_at rows r)
  where
    by_test : (b : Bool) → same_row r q ≡ b → (b || list_any (same_row r) rows) ≡ true → (list_any (same_row r) rows ≡ true → slice_get rows (position_or_len (same_row r) rows) ≡ Some r) → slice_get (q ∷ rows) (position_or_len (same_row r) (q ∷ rows)) ≡ Some r
    by_test true f g rest = ap (λ b. slice_get (q ∷ rows) (if not b then 1 + position_or_len (same_row r) rows else 0)) f ∙ ap Some (sym (same_row-true r q f))
    by_test false f g rest =
        let one : 1 + position_or_len (same_row r) rows ≡ suc (position_or_len (same_row r) rows) = omega arith in
        ap (λ b. slice_get (q ∷ rows) (if not b then 1 + position_or_len (same_row r) rows else 0)) f ∙ ap (slice_get (q ∷ rows)) one ∙ rest g

-- where a row isn't there, its place is behind the table
pub no_row : (rows : List Row) (r : Row) → list_any (same_row r) rows ≡ false → position_or_len (same_row r) rows ≡ length rows
no_row [] r e = refl
no_row (q ∷ rows) r e = by_test (same_row r q) refl e (no_row rows r)
  where
    by_test : (b : Bool) → same_row r q ≡ b → (b || list_any (same_row r) rows) ≡ false → (list_any (same_row r) rows ≡ false → position_or_len (same_row r) rows ≡ length rows) → position_or_len (same_row r) (q ∷ rows) ≡ suc (length rows)
    by_test true f g rest = cc
    by_test false f g rest =
        let one : 1 + position_or_len (same_row r) rows ≡ suc (position_or_len (same_row r) rows) = omega arith in
        ap (λ b. if not b then 1 + position_or_len (same_row r) rows else 0) f ∙ one ∙ ap suc (rest g)

-- a predicate is one on one type
pub one_type : (scope other : Scope) (a b : SimpleType) (f : Lambda) → IsCanonical scope [] (predicate a) f → IsCanonical other [] (predicate b) f → a ≡ b
one_type scope other a b (bound k) h g = absurd h.0
one_type scope other a b (constant c) h g = absurd h.0
one_type scope other a b (app s u) h g = absurd h.0
one_type scope other a b (lam c s) h g = h.1.0 ∙ sym g.1.0

other_row : (r q : Row) → same_row r q ≡ false → r.type ≡ q.type → r.predicate ≡ q.predicate → ⊥
other_row r q e t p = by_type (same_type r.type q.type) refl e
  where
    by_type : (b : Bool) → same_type r.type q.type ≡ b → (b && same_term r.predicate q.predicate) ≡ false → ⊥
    by_type false f g = differ_type r.type q.type f t
    by_type true f g = clash (same_term-of r.predicate q.predicate p) g
      where
        clash : same_term r.predicate q.predicate ≡ true → same_term r.predicate q.predicate ≡ false → ⊥
        clash x y = cc

first_false : (a b : Bool) → (a || b) ≡ false → (a ≡ false) × (b ≡ false)
first_false true b e = cc
first_false false b e = (refl, e)

no_place : (scope other : Scope) (r : Row) → IsCanonical other [] (predicate r.type) r.predicate → (earlier rows : List Row) → IsTableAfter scope earlier rows → list_any (same_row r) rows ≡ false → (k : ℕ) → k < length (map (λ q. q.predicate) rows) → slice_index_or (map (λ q. q.predicate) rows) k r.predicate ≡ r.predicate → ⊥
no_place scope other r c earlier [] t e k l h = absurd (omega (arith, l))
no_place scope other r c earlier (q ∷ rows) t e zero l h =
    let P : Lambda → Type 0 = λ f. IsCanonical (with_rows scope earlier) [] (predicate q.type) f in
    other_row r q (first_false _ _ e).0 (one_type other (with_rows scope earlier) r.type q.type r.predicate c (subst P h t.0)) (sym h)
no_place scope other r c earlier (q ∷ rows) t e (suc k) l h = no_place scope other r c (earlier ++ q ∷ []) rows t.2 (first_false _ _ e).1 k (omega (arith, l)) h

-- the table with a row that isn't there
pub table_with : (scope : Scope) (rows : List Row) (r : Row) → IsTable scope rows → IsTypedRow scope rows r → list_any (same_row r) rows ≡ false → IsTable scope (rows ++ r ∷ [])
table_with scope rows r t h e = table-append scope [] rows r t h (λ twice. no_place scope (with_rows scope rows) r h [] rows t e twice.0 twice.1 twice.2)

-- the types of a table's rows are declared
pub table_declared : (scope : Scope) (earlier rows : List Row) → IsTableAfter scope earlier rows → AreDeclared scope.bases (map (λ r. r.type) rows)
table_declared scope earlier [] t = tt
table_declared scope earlier (r ∷ rows) t = (predicate_declared (with_rows scope earlier) r.type r.predicate t.0, table_declared scope (earlier ++ r ∷ []) rows t.2)

pub table_scope : (scope : Scope) (rows : List Row) → IsScope scope → IsTable scope rows → IsScope (with_rows scope rows)
table_scope scope rows s t = record { names_declared = s.names_declared; witnesses_declared = table_declared scope [] rows t }
