-- Rows and lines are right one after the other, up to the first failure.
use Rattle.std.proofs.Common.{◌≡◌, ◌<◌, ◌≤◌, ◌+◌, ◌-◌, ℕ, zero, suc, List, [], ◌∷◌, ◌++◌, Some, length, take, drop, map, slice_get, Contains, refl, sym, ap, ap₂, subst, ◌∙◌, append_assoc, append-nil, take_all, arith}
use Rattle.std.proofs.lemmas.List.{length-take-le, take-append-drop}
use Rattle.stt_core.specs.SimpleType.{SimpleType}
use Rattle.stt_core.proofs.ListLaws.{take_got, drop_got, map_more}
use Rattle.stt_core.specs.Typing.{Scope}
use Rattle.stt_core.specs.ScopeView.{the_scope}
use Rattle.stt_core.specs.declared.signature.Signature.{Signature}
use Rattle.tableau_calculus.specs.Literals.{Literal}
use Rattle.tableau_calculus.specs.Witnesses.{Row, with_rows, IsTypedRow, IsTwice, IsTableAfter, IsTable}
use Rattle.tableau_calculus.specs.Accepted.{Within, IsRightLine, AreRightAfter, AreRightLines, EndsWithin, RowFails, LineFails, FirstFailure, at_row, at_line, at_last, no_line}
use Rattle.tableau_calculus.specs.declared.refutation.Line.{Line}
use Rattle.tableau_calculus.specs.declared.refutation.Refutation.{Refutation}
use Rattle.tableau_calculus.specs.declared.refutation.Why.{Why}
use Rattle.tableau_calculus.specs.declared.refutation.Why.TheVariants.{Last}

pub split_at : {A : Type 0} (xs : List A) (i : ℕ) (x : A) → slice_get xs i ≡ Some x → xs ≡ take i xs ++ x ∷ drop (i + 1) xs
split_at xs i x h = sym (take-append-drop i xs) ∙ ap (λ l. take i xs ++ l) (drop_got xs i x h)

pub below_length : {A : Type 0} (xs : List A) (i : ℕ) (x : A) → slice_get xs i ≡ Some x → i < length xs
below_length [] i x h = cc
below_length (y ∷ xs) zero x h = omega arith
below_length (y ∷ xs) (suc i) x h = omega (arith, below_length xs i x h)

pub length-front : {A : Type 0} (xs : List A) (i : ℕ) (x : A) → slice_get xs i ≡ Some x → length (take i xs) ≡ i
length-front xs i x h = length-take-le i xs (omega (arith, below_length xs i x h))

-- a list ends with its last element
pub last_split : {A : Type 0} (xs : List A) (count : ℕ) (x : A) → count ≡ length xs → 0 < count → slice_get xs (count - 1) ≡ Some x → xs ≡ take (count - 1) xs ++ x ∷ []
last_split xs count x all some at =
    let n : count - 1 + 1 ≡ count = omega (arith, some) in
    let l : length xs ≤ count = omega (arith, all) in
    sym (take_all count xs l) ∙ ap (λ k. take k xs) (sym n) ∙ take_got xs (count - 1) x at

-- one row more
pub table-append : (scope : Scope) (earlier front : List Row) (r : Row) → IsTableAfter scope earlier front → IsTypedRow scope (earlier ++ front) r → (IsTwice (earlier ++ front) r → ⊥) → IsTableAfter scope earlier (front ++ r ∷ [])
table-append scope earlier [] r h typed once =
    (subst (λ e. IsTypedRow scope e r) (append-nil earlier) typed, subst (λ e. IsTwice e r → ⊥) (append-nil earlier) once, tt)
table-append scope earlier (q ∷ front) r h typed once =
    let e = append_assoc earlier (q ∷ []) front in
    (h.0, h.1, table-append scope (earlier ++ q ∷ []) front r h.2 (subst (λ e. IsTypedRow scope e r) (sym e) typed) (subst (λ e. IsTwice e r → ⊥) (sym e) once))

pub table-more : (scope : Scope) (rows : List Row) (i : ℕ) (r : Row) → slice_get rows i ≡ Some r → IsTable scope (take i rows) → IsTypedRow scope (take i rows) r → (IsTwice (take i rows) r → ⊥) → IsTable scope (take (i + 1) rows)
table-more scope rows i r at h typed once =
    subst (IsTable scope) (sym (take_got rows i r at)) (table-append scope [] (take i rows) r h typed once)

-- one line more
pub lines-append : (scope : Scope) (rows : List Row) (earlier front : List Line) (line : Line) → AreRightAfter scope rows earlier front → IsRightLine scope rows (earlier ++ front) line → AreRightAfter scope rows earlier (front ++ line ∷ [])
lines-append scope rows earlier [] line h right = (subst (λ e. IsRightLine scope rows e line) (append-nil earlier) right, tt)
lines-append scope rows earlier (l ∷ front) line h right =
    (h.0, lines-append scope rows (earlier ++ l ∷ []) front line h.1 (subst (λ e. IsRightLine scope rows e line) (sym (append_assoc earlier (l ∷ []) front)) right))

pub lines-more : (scope : Scope) (rows : List Row) (lines : List Line) (i : ℕ) (line : Line) → slice_get lines i ≡ Some line → AreRightAfter scope rows [] (take i lines) → IsRightLine scope rows (take i lines) line → AreRightAfter scope rows [] (take (i + 1) lines)
lines-more scope rows lines i line at h right =
    subst (AreRightAfter scope rows []) (sym (take_got lines i line at)) (lines-append scope rows [] (take i lines) line h right)

module _ (scope : Scope) (start : List Literal) (refutation : Refutation) where
  pub row_refused : (i : ℕ) (r : Row) (why : Why) → slice_get refutation.witnesses i ≡ Some r → IsTable scope (take i refutation.witnesses) → RowFails scope (take i refutation.witnesses) r why → FirstFailure scope start refutation i why
  row_refused i r why at h fails =
      let rows = refutation.witnesses in
      subst (λ n. FirstFailure scope start refutation n why) (length-front rows i r at)
      (at_row (take i rows) (drop (i + 1) rows) r why (split_at rows i r at) h fails)

  pub line_refused : (n i : ℕ) (line : Line) (why : Why) → n ≡ length refutation.witnesses → slice_get refutation.lines i ≡ Some line → IsTable scope refutation.witnesses → AreRightLines scope refutation.witnesses (take i refutation.lines) → LineFails (with_rows scope refutation.witnesses) refutation.witnesses (take i refutation.lines) line why → FirstFailure scope start refutation (n + i) why
  line_refused n i line why count at table h fails =
      let lines = refutation.lines in
      subst (λ k. FirstFailure scope start refutation k why) (ap₂ (λ x y. x + y) (sym count) (length-front lines i line at))
      (at_line (take i lines) (drop (i + 1) lines) line why table (split_at lines i line at) h fails)

  module _ (n : ℕ) (is : n ≡ length refutation.witnesses) (table : IsTable scope refutation.witnesses) (right : AreRightLines scope refutation.witnesses refutation.lines) where
    pub last_refused : (count : ℕ) (line : Line) → count ≡ length refutation.lines → 0 < count → slice_get refutation.lines (count - 1) ≡ Some line → (Within line.branch start → ⊥) → FirstFailure scope start refutation (n + (count - 1)) Last
    last_refused count line all some at outside =
        let lines = refutation.lines in
        subst (λ k. FirstFailure scope start refutation k Last) (ap₂ (λ x y. x + y) (sym is) (length-front lines (count - 1) line at))
        (at_last (take (count - 1) lines) line table (last_split lines count line all some at) right outside)

    pub none_refused : length refutation.lines ≡ 0 → FirstFailure scope start refutation n Last
    none_refused none = subst (λ k. FirstFailure scope start refutation k Last) (sym is) (no_line table (empty refutation.lines none))
      where
        empty : (ls : List Line) → length ls ≡ 0 → ls ≡ []
        empty [] e = refl
        empty (l ∷ ls) e = absurd (omega (arith, e))

pub ends_within : (start : List Literal) (lines : List Line) (count : ℕ) (line : Line) → count ≡ length lines → 0 < count → slice_get lines (count - 1) ≡ Some line → Within line.branch start → EndsWithin start lines
ends_within start lines count line all some at within = record { front = take (count - 1) lines; last = line; are = last_split lines count line all some at; within = within }

pub contains_map : {A B : Type 0} (f : A → B) (xs : List A) (y : B) → Contains (map f xs) y → (x : A) × Contains xs x × (f x ≡ y)
contains_map f [] y h = absurd (omega (arith, h.1))
contains_map f (x ∷ xs) y (zero, below, is) = (x, (0, omega arith, refl), is)
contains_map f (x ∷ xs) y (suc k, below, is) =
    let rest = contains_map f xs y (k, omega (arith, below), is) in
    (rest.0, (suc rest.1.0, omega (arith, rest.1.1), rest.1.2), rest.2)

pub element : {A : Type 0} (xs : List A) (i : ℕ) → i < length xs → (x : A) × (slice_get xs i ≡ Some x)
element [] i h = absurd (omega (arith, h))
element (x ∷ xs) zero h = (x, refl)
element (x ∷ xs) (suc i) h = element xs i (omega (arith, h))

-- one row's type more
pub types-more : (rows : List Row) (i : ℕ) (r q : Row) (done all : List SimpleType) (a : SimpleType) → slice_get rows i ≡ Some r → done ≡ map (λ x. x.type) (take i rows) → q ≡ r → a ≡ q.type → all ≡ done ++ a ∷ [] → all ≡ map (λ x. x.type) (take (i + 1) rows)
types-more rows i r q done all a at before same is e = map_more (λ x. x.type) rows i r done all a at before (is ∙ ap (λ x. x.type) same) e

-- a line's answer over the scope with the rows' witnesses is one over the scope with witnesses of their types
pub over_rows : (P : Scope → Type 0) (sig : Signature) (types : List SimpleType) (rows : List Row) → types ≡ map (λ r. r.type) rows → P (the_scope sig types) → P (with_rows (the_scope sig []) rows)
over_rows P sig types rows e h = subst (λ ts. P (the_scope sig ts)) e h
