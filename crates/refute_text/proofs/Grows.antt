-- A text with one row or one line more.
use Rattle.std.proofs.Common.{◌≡◌, ℕ, suc, ◌+◌, ◌<◌, inl, inr, true, false, List, [], ◌∷◌, ◌++◌, Option, Some, None, length, map, refl, sym, ap, ap₂, subst, ◌∙◌, append_assoc, append-nil, arith, length-append}
use Rattle.std.specs.List.{AllByRecursion}
use Rattle.std.proofs.lemmas.List.{length-map, map_push}
use Rattle.refute_print.specs.Trees.{TermTree, LineTree, RefutationTree}
use Rattle.refute_print.specs.Text.{version_text, definition_text, row_text, line_text, row_texts, line_texts, text_lines}
use Rattle.refute_print.specs.Limits.{IsWithinLimits, IsLine}
use Rattle.refute_print.specs.TextView.{the_line, the_text}
use Rattle.refute_print.specs.declared.line.TextLine.{TextLine}
use Rattle.refute_print.specs.declared.line.RefutationText.{RefutationText}
use Rattle.refute_text.specs.Internal.LineReader.{definition_at, row_at, line_at}
use Rattle.refute_text.specs.Reading.{IsTextName, HasText, IsFront}
use Rattle.refute_text.specs.Internal.Refusals.{IsReaderRefusal}
use Rattle.refute_text.specs.Internal.Places.{IfForm, MayDefine}
use Rattle.refute_text.specs.declared.refusal.Refusal.{Refusal}
use Rattle.refute_text.specs.declared.refusal.Refusal.TheVariants.{Form, Memory}
use Rattle.refute_text.proofs.DefinitionLines.{definition_reads, definition_at-text}
use Rattle.refute_text.proofs.LineReads.{row_reads, line_reads}
use Rattle.refute_text.proofs.LineBack.{row_at-text, line_at-text}
use Rattle.refute_text.proofs.Fronts.{IsNext, is_row, is_definition, line-no_definition, line-no_row, front-next}

all-push : {X : Type 0} (P : X → Type 0) (xs : List X) (x : X) → AllByRecursion P xs → P x → AllByRecursion P (xs ++ x ∷ [])
all-push P [] x h p = (p, tt)
all-push P (y ∷ xs) x h p = (h.0, all-push P xs x h.1 p)

row_texts-push : (k : ℕ) (rows : List TermTree) (t : TermTree) → row_texts k (rows ++ t ∷ []) ≡ row_texts k rows ++ row_text (k + length rows) t ∷ []
row_texts-push k [] t = ap (λ n. row_text n t ∷ []) (omega arith)
row_texts-push k (u ∷ rows) t =
    ap (λ x. row_text k u ∷ x) (row_texts-push (suc k) rows t ∙ ap (λ n. row_texts (suc k) rows ++ row_text n t ∷ []) (omega arith))

line_texts-push : (k : ℕ) (lines : List LineTree) (l : LineTree) → line_texts k (lines ++ l ∷ []) ≡ line_texts k lines ++ line_text (k + length lines) l ∷ []
line_texts-push k [] l = ap (λ n. line_text n l ∷ []) (omega arith)
line_texts-push k (m ∷ lines) l =
    ap (λ x. line_text k m ∷ x) (line_texts-push (suc k) lines l ∙ ap (λ n. line_texts (suc k) lines ++ line_text n l ∷ []) (omega arith))

behind_definitions : (names new old : List (List ℕ)) (line : List ℕ) → new ≡ old ++ line ∷ [] → version_text names ∷ (map definition_text names ++ new) ≡ (version_text names ∷ (map definition_text names ++ old)) ++ line ∷ []
behind_definitions names new old line e =
    ap (λ x. version_text names ∷ x) (ap (λ x. map definition_text names ++ x) e ∙ sym (append_assoc (map definition_text names) old (line ∷ [])))

abbrev pub with_row : RefutationTree → TermTree → RefutationTree
with_row r t = record { names = r.names; rows = r.rows ++ t ∷ []; lines = r.lines }

abbrev pub with_line : RefutationTree → LineTree → RefutationTree
with_line r l = record { names = r.names; rows = r.rows; lines = r.lines ++ l ∷ [] }

abbrev pub with_name : RefutationTree → List ℕ → RefutationTree
with_name r w = record { names = r.names ++ w ∷ []; rows = r.rows; lines = r.lines }

version-push : (names : List (List ℕ)) (w : List ℕ) → 0 < length names → version_text (names ++ w ∷ []) ≡ version_text names
version-push [] w some = absurd (omega arith)
version-push (n ∷ names) w some = refl

-- a definition more, where there are others and no rows and no lines
pub name_more : (r : RefutationTree) (line w : List ℕ) → HasText r → 0 < length r.names → r.rows ≡ [] → r.lines ≡ [] → definition_at line ≡ Some w → HasText (with_name r w) × (text_lines (with_name r w) ≡ text_lines r ++ line ∷ [])
name_more r line w h some none no_lines at =
    let s = definition_reads line w at in
    let empty : row_texts 0 r.rows ++ line_texts 0 r.lines ≡ [] = ap₂ (λ rows ls. row_texts 0 rows ++ line_texts 0 ls) none no_lines in
    let definitions = map definition_text r.names in (
      record {
        names = all-push IsTextName r.names w h.names s.is_name;
        rows = h.rows;
        row_numbers = h.row_numbers;
        lines = h.lines;
        line_numbers = h.line_numbers;
      },
      ap₂ (λ v x. v ∷ x) (version-push r.names w some)
          (ap₂ (λ x y. x ++ y) (map_push definition_text r.names w) empty
          ∙ append-nil (definitions ++ definition_text w ∷ [])
          ∙ ap (λ x. definitions ++ x ∷ []) (sym s.text)
          ∙ ap (λ x. x ++ line ∷ []) (sym (ap (λ x. definitions ++ x) empty ∙ append-nil definitions))),
    )

-- a row more, where there are no lines
pub row_more : (r : RefutationTree) (line : List ℕ) (t : TermTree) → HasText r → r.lines ≡ [] → row_at (length r.rows) line ≡ Some t → HasText (with_row r t) × (text_lines (with_row r t) ≡ text_lines r ++ line ∷ [])
row_more r line t h none at =
    let s = row_reads (length r.rows) line t at in
    let n = s.number in (
      record {
        names = h.names;
        rows = all-push IsWithinLimits r.rows t h.rows s.within;
        row_numbers = omega (arith, n, length-append r.rows (t ∷ []));
        lines = h.lines;
        line_numbers = h.line_numbers;
      },
      behind_definitions r.names (row_texts 0 (r.rows ++ t ∷ []) ++ line_texts 0 r.lines) (row_texts 0 r.rows ++ line_texts 0 r.lines) line
          (ap (λ ls. row_texts 0 (r.rows ++ t ∷ []) ++ line_texts 0 ls) none ∙ append-nil (row_texts 0 (r.rows ++ t ∷ [])) ∙ row_texts-push 0 r.rows t
          ∙ ap (λ x. row_texts 0 r.rows ++ x ∷ []) (ap (λ k. row_text k t) (omega arith) ∙ sym s.text)
          ∙ ap (λ x. x ++ line ∷ []) (sym (append-nil (row_texts 0 r.rows)) ∙ ap (λ ls. row_texts 0 r.rows ++ line_texts 0 ls) (sym none))),
    )

-- a line more
pub line_more : (r : RefutationTree) (line : List ℕ) (l : LineTree) → HasText r → line_at (length r.lines) line ≡ Some l → HasText (with_line r l) × (text_lines (with_line r l) ≡ text_lines r ++ line ∷ [])
line_more r line l h at =
    let s = line_reads (length r.lines) line l at in
    let n = s.number in (
      record {
        names = h.names;
        rows = h.rows;
        row_numbers = h.row_numbers;
        lines = all-push IsLine r.lines l h.lines s.is_line;
        line_numbers = omega (arith, n, length-append r.lines (l ∷ []));
      },
      behind_definitions r.names (row_texts 0 r.rows ++ line_texts 0 (r.lines ++ l ∷ [])) (row_texts 0 r.rows ++ line_texts 0 r.lines) line
          (ap (λ x. row_texts 0 r.rows ++ x) (line_texts-push 0 r.lines l ∙ ap (λ x. line_texts 0 r.lines ++ x ∷ []) (ap (λ k. line_text k l) (omega arith) ∙ sym s.text))
          ∙ sym (append_assoc (row_texts 0 r.rows) (line_texts 0 r.lines) (line ∷ []))),
    )

some-none : {A : Type 0} (a : A) (o : Option A) → o ≡ Some a → o ≡ None → ⊥
some-none a o h k = cc

-- a line that begins as a definition, and is none
pub no_definition-no_front : (r : RefutationTree) (line : List ℕ) → HasText r → is_definition line ≡ true → definition_at line ≡ None → IsFront (text_lines r ++ line ∷ []) → ⊥
no_definition-no_front r line h definition none f = go (front-next r line h f)
  where
    go : IsNext r line → ⊥
    go (inl p) =
        let s = p.1.2.1 in
        some-none p.1.2.0 (definition_at line) (ap definition_at s.text ∙ definition_at-text p.1.2.0 s.is_name) none
    go (inr (inl p)) =
        let other : is_definition line ≡ false = ap is_definition p.1.1.text in
        cc
    go (inr (inr p)) =
        let s = p.1 in
        let other : is_definition line ≡ false = ap is_definition s.text ∙ line-no_definition (length r.lines) p.0 s.number in
        cc

-- a line that begins as a row, and is none
pub no_row-no_front : (r : RefutationTree) (line : List ℕ) → HasText r → is_row line ≡ true → row_at (length r.rows) line ≡ None → IsFront (text_lines r ++ line ∷ []) → ⊥
no_row-no_front r line h row none f = go (front-next r line h f)
  where
    go : IsNext r line → ⊥
    go (inl p) =
        let other : is_row line ≡ false = ap is_row p.1.2.1.text in
        cc
    go (inr (inl p)) =
        let s = p.1.1 in
        some-none p.1.0 (row_at (length r.rows) line) (ap (row_at (length r.rows)) s.text ∙ row_at-text (length r.rows) p.1.0 s.number s.within) none
    go (inr (inr p)) =
        let s = p.1 in
        let other : is_row line ≡ false = ap is_row s.text ∙ line-no_row (length r.lines) p.0 s.number in
        cc

-- a line that is none, where it is no definition and no row
pub no_line-no_front : (r : RefutationTree) (line : List ℕ) → HasText r → (0 < length r.names → r.rows ≡ [] → r.lines ≡ [] → is_definition line ≡ false) → (r.lines ≡ [] → is_row line ≡ false) → line_at (length r.lines) line ≡ None → IsFront (text_lines r ++ line ∷ []) → ⊥
no_line-no_front r line h no_definition no_row none f = go (front-next r line h f)
  where
    go : IsNext r line → ⊥
    go (inl p) =
        let definition : is_definition line ≡ true = ap is_definition p.1.2.1.text in
        let other = no_definition p.0 p.1.0 p.1.1 in
        cc
    go (inr (inl p)) =
        let s = p.1.1 in
        let row : is_row line ≡ true = ap is_row s.text in
        let other = no_row p.0 in
        cc
    go (inr (inr p)) =
        let s = p.1 in
        some-none p.0 (line_at (length r.lines) line) (ap (line_at (length r.lines)) s.text ∙ line_at-text (length r.lines) p.0 s.number s.is_line) none

no_lines : (lines : List TextLine) → length lines ≡ 0 → map the_line lines ≡ []
no_lines [] h = refl
no_lines (l ∷ lines) h = absurd (omega arith)

no_rows : (rows : List TermTree) → length rows ≡ 0 → rows ≡ []
no_rows [] h = refl
no_rows (t ∷ rows) h = absurd (omega arith)

-- texts of the code
pub name_added : (t : RefutationText) (line w : List ℕ) → HasText (the_text t) → MayDefine t → definition_at line ≡ Some w → HasText (with_name (the_text t) w) × (text_lines (with_name (the_text t) w) ≡ text_lines (the_text t) ++ line ∷ [])
name_added t line w h may at = name_more (the_text t) line w h may.0 (no_rows t.witnesses may.1) (no_lines t.lines may.2) at

pub row_added : (t : RefutationText) (line : List ℕ) (row : TermTree) → HasText (the_text t) → length t.lines ≡ 0 → row_at (length t.witnesses) line ≡ Some row → HasText (with_row (the_text t) row) × (text_lines (with_row (the_text t) row) ≡ text_lines (the_text t) ++ line ∷ [])
row_added t line row h none at = row_more (the_text t) line row h (no_lines t.lines none) at

abbrev of_lines : List (List ℕ) → List TermTree → List LineTree → RefutationTree
of_lines names rows lines = record { names = names; rows = rows; lines = lines }

pub line_added : (t : RefutationText) (line : List ℕ) (l : TextLine) → HasText (the_text t) → line_at (length t.lines) line ≡ Some (the_line l) → HasText (of_lines t.names t.witnesses (map the_line (t.lines ++ l ∷ []))) × (text_lines (of_lines t.names t.witnesses (map the_line (t.lines ++ l ∷ []))) ≡ text_lines (the_text t) ++ line ∷ [])
line_added t line l h at =
    let more = line_more (the_text t) line (the_line l) h (ap (λ n. line_at n line) (length-map t.lines the_line) ∙ at) in
    let same = map_push the_line t.lines l in
    (subst (λ ls. HasText (of_lines t.names t.witnesses ls)) (sym same) more.0, ap (λ ls. text_lines (of_lines t.names t.witnesses ls)) same ∙ more.1)

pub definition_refused : (t : RefutationText) (line : List ℕ) (e : Refusal) → HasText (the_text t) → is_definition line ≡ true → IsReaderRefusal e (definition_at line) → IfForm e (IsFront (text_lines (the_text t) ++ line ∷ []) → ⊥)
definition_refused t line Form h definition none = no_definition-no_front (the_text t) line h definition none
definition_refused t line Memory h definition none = tt

pub row_refused : (t : RefutationText) (line : List ℕ) (e : Refusal) → HasText (the_text t) → is_row line ≡ true → IsReaderRefusal e (row_at (length t.witnesses) line) → IfForm e (IsFront (text_lines (the_text t) ++ line ∷ []) → ⊥)
row_refused t line Form h row none = no_row-no_front (the_text t) line h row none
row_refused t line Memory h row none = tt

pub line_refused : (t : RefutationText) (line : List ℕ) (e : Refusal) → HasText (the_text t) → (MayDefine t → is_definition line ≡ false) → (length t.lines ≡ 0 → is_row line ≡ false) → IsReaderRefusal e (line_at (length t.lines) line) → IfForm e (IsFront (text_lines (the_text t) ++ line ∷ []) → ⊥)
line_refused t line Form h no_definition no_row none =
    let n : length (map the_line t.lines) ≡ length t.lines = length-map t.lines the_line in
    no_line-no_front (the_text t) line h (λ some rows lines. no_definition (some, ap length rows, sym n ∙ ap length lines)) (λ e. no_row (sym n ∙ ap length e)) (ap (λ k. line_at k line) n ∙ none)
line_refused t line Memory h no_definition no_row none = tt
