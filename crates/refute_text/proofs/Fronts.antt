-- The lines with which a text begins.
use Rattle.std.proofs.Common.{◌≡◌, ℕ, suc, ◌+◌, ◌^◌, ◌<◌, ◌≤◌, ◌||◌, ◌⊎◌, inl, inr, nat_eq, Bool, true, false, List, [], ◌∷◌, ◌++◌, length, map, get_or, codes, refl, sym, ap, ap₂, subst, ◌∙◌, append_assoc, append-nil, arith}
use Rattle.std.specs.List.{AllByRecursion, list_any, starts_with}
use Rattle.refute_print.specs.Letters.{is_printable_name}
use Rattle.refute_print.specs.Trees.{TermTree, LineTree, RefutationTree}
use Rattle.refute_print.specs.Text.{version_text, definition_text, rule_text, branch_text, children_text, row_text, line_text, row_texts, line_texts, text_lines}
use Rattle.refute_print.specs.Limits.{IsWithinLimits, IsLine}
use Rattle.refute_text.specs.Reading.{is_end_mark, IsTextName, HasText, IsFront}
use Rattle.refute_text.proofs.LineReads.{IsRowText, IsLineText}
use Rattle.refute_text.proofs.DefinitionLines.{IsDefinitionText}
use Rattle.refute_text.proofs.LiteralBack.{starts_with-decimal}

-- a line behind its number
abbrev numbered_rest : LineTree → List ℕ
numbered_rest l = codes ": " ++ (rule_text l.rule ++ (codes " [" ++ (branch_text l.branch ++ (codes "] [" ++ (children_text l.children ++ codes "]")))))

-- whether a line begins as a row does
abbrev pub is_row : List ℕ → Bool
is_row line = starts_with nat_eq line (codes "w")

pub line-no_row : (k : ℕ) (l : LineTree) → k < 2 ^ 64 → is_row (line_text k l) ≡ false
line-no_row k l small = starts_with-decimal 119 [] k (numbered_rest l) refl small

-- whether a line begins as a definition does
abbrev pub is_definition : List ℕ → Bool
is_definition line = starts_with nat_eq line (codes "d")

pub line-no_definition : (k : ℕ) (l : LineTree) → k < 2 ^ 64 → is_definition (line_text k l) ≡ false
line-no_definition k l small = starts_with-decimal 100 [] k (numbered_rest l) refl small

row-no_line : (k n : ℕ) (t : TermTree) (l : LineTree) → n < 2 ^ 64 → row_text k t ≡ line_text n l → ⊥
row-no_line k n t l small e = let same : true ≡ false = ap is_row e ∙ line-no_row n l small in cc

-- no row and no line begins like an end line
rows_without_end : (k : ℕ) (rows : List TermTree) → list_any is_end_mark (row_texts k rows) ≡ false
rows_without_end k [] = refl
rows_without_end k (t ∷ rows) = rows_without_end (suc k) rows

lines_without_end : (k : ℕ) (lines : List LineTree) → k + length lines ≤ 2 ^ 64 → list_any is_end_mark (line_texts k lines) ≡ false
lines_without_end k [] h = refl
lines_without_end k (l ∷ lines) h =
    ap₂ (λ a b. a || b) (starts_with-decimal 37 (codes " SZS output end Refutation for ") k (numbered_rest l) refl (omega (arith, h))) (lines_without_end (suc k) lines (omega (arith, h)))

pub list_any-append : {X : Type 0} (p : X → Bool) (xs ys : List X) → list_any p (xs ++ ys) ≡ list_any p xs || list_any p ys
list_any-append p [] ys = refl
list_any-append p (x ∷ xs) ys = go (p x) (list_any-append p xs ys)
  where
    go : (b : Bool) → list_any p (xs ++ ys) ≡ list_any p xs || list_any p ys → b || list_any p (xs ++ ys) ≡ b || list_any p xs || list_any p ys
    go true h = refl
    go false h = h

version_without_end : (names : List (List ℕ)) → is_end_mark (version_text names) ≡ false
version_without_end [] = refl
version_without_end (w ∷ names) = refl

definitions_without_end : (names : List (List ℕ)) → list_any is_end_mark (map definition_text names) ≡ false
definitions_without_end [] = refl
definitions_without_end (w ∷ names) = definitions_without_end names

text-without_end : (r : RefutationTree) → HasText r → list_any is_end_mark (text_lines r) ≡ false
text-without_end r h =
    let body = row_texts 0 r.rows ++ line_texts 0 r.lines in
    ap₂ (λ a b. a || b) (version_without_end r.names)
    (list_any-append is_end_mark (map definition_text r.names) body
    ∙ ap₂ (λ a b. a || b) (definitions_without_end r.names)
    (list_any-append is_end_mark (row_texts 0 r.rows) (line_texts 0 r.lines)
    ∙ ap₂ (λ a b. a || b) (rows_without_end 0 r.rows) (lines_without_end 0 r.lines (let n = h.line_numbers in omega (arith, n)))))

pub any_inside : {X : Type 0} (p : X → Bool) (xs : List X) (x : X) (ys : List X) → p x ≡ true → list_any p (xs ++ (x ∷ ys)) ≡ true
any_inside p [] x ys h = ap (λ b. b || list_any p ys) h
any_inside p (z ∷ xs) x ys h = go (p z) (any_inside p xs x ys h)
  where
    go : (b : Bool) → list_any p (xs ++ (x ∷ ys)) ≡ true → b || list_any p (xs ++ (x ∷ ys)) ≡ true
    go true e = refl
    go false e = e

-- a prefix of a text holds no end line
pub front-without_end : (xs : List (List ℕ)) (last : List ℕ) (ys : List (List ℕ)) → is_end_mark last ≡ true → IsFront (xs ++ (last ∷ ys)) → ⊥
front-without_end xs last ys ends f =
    let inside : list_any is_end_mark ((xs ++ (last ∷ ys)) ++ f.more) ≡ true = ap (list_any is_end_mark) (append_assoc xs (last ∷ ys) f.more) ∙ any_inside is_end_mark xs last (ys ++ f.more) ends in
    let outside : list_any is_end_mark ((xs ++ (last ∷ ys)) ++ f.more) ≡ false = ap (list_any is_end_mark) f.whole ∙ text-without_end f.refutation f.has_text in
    cc

pub front-append : (xs ys : List (List ℕ)) → IsFront (xs ++ ys) → IsFront xs
front-append xs ys f = record { refutation = f.refutation; more = ys ++ f.more; has_text = f.has_text; whole = sym (append_assoc xs ys f.more) ∙ f.whole }

pub front-text : (r : RefutationTree) → HasText r → IsFront (text_lines r)
front-text r h = record { refutation = r; more = []; has_text = h; whole = append-nil (text_lines r) }

-- the row or the line that comes next
abbrev pub IsNextBelow : List TermTree → List LineTree → List ℕ → Type 0
IsNextBelow rows ls line = ((ls ≡ []) × ((t : TermTree) × IsRowText (length rows) line t)) ⊎ ((l : LineTree) × IsLineText (length ls) line l)

-- a definition comes next, where nothing stands behind the definitions
abbrev pub IsNextDefinition : List TermTree → List LineTree → List ℕ → Type 0
IsNextDefinition rows ls line = (rows ≡ []) × (ls ≡ []) × ((w : List ℕ) × IsDefinitionText line w)

-- the line that comes next
abbrev pub IsNext : RefutationTree → List ℕ → Type 0
IsNext r line = ((0 < length r.names) × IsNextDefinition r.rows r.lines line) ⊎ IsNextBelow r.rows r.lines line

pub first-same : (a b : List ℕ) (as' bs : List (List ℕ)) → a ∷ as' ≡ b ∷ bs → a ≡ b
first-same a b as' bs h = cc

pub rest-same : (a b : List ℕ) (as' bs : List (List ℕ)) → a ∷ as' ≡ b ∷ bs → as' ≡ bs
rest-same a b as' bs h = cc

next_line : (k : ℕ) (ls ms : List LineTree) (line : List ℕ) (more : List (List ℕ)) → AllByRecursion IsLine ms → k + length ms ≤ 2 ^ 64 → line_texts k ls ++ (line ∷ more) ≡ line_texts k ms → (l : LineTree) × IsLineText (k + length ls) line l
next_line k [] [] line more are small h = cc
next_line k [] (m ∷ ms) line more are small h =
    let n : k ≡ k + 0 = omega arith in
    (m, record { text = first-same line (line_text k m) more (line_texts (suc k) ms) h ∙ ap (λ i. line_text i m) n; number = omega (arith, small); is_line = are.0 })
next_line k (l ∷ ls) [] line more are small h = cc
next_line k (l ∷ ls) (m ∷ ms) line more are small h =
    let r = next_line (suc k) ls ms line more are.1 (omega (arith, small)) (rest-same (line_text k l) (line_text k m) (line_texts (suc k) ls ++ (line ∷ more)) (line_texts (suc k) ms) h) in
    let n : suc k + length ls ≡ k + suc (length ls) = omega arith in
    (r.0, subst (λ i. IsLineText i line r.0) n r.1)

-- no row stands where lines begin
line-then_row : (ls : List LineTree) (line : List ℕ) (more : List (List ℕ)) (k : ℕ) (t : TermTree) (others : List (List ℕ)) → length ls ≤ 2 ^ 64 → line_texts 0 ls ++ (line ∷ more) ≡ row_text k t ∷ others → (ls ≡ []) × (line ≡ row_text k t)
line-then_row [] line more k t others small h = (refl, first-same line (row_text k t) more others h)
line-then_row (l ∷ ls) line more k t others small h =
    absurd (row-no_line k 0 t l (omega arith) (sym (first-same (line_text 0 l) (row_text k t) (line_texts 1 ls ++ (line ∷ more)) others h)))

pub row-then_line : (k : ℕ) (t : TermTree) (others : List (List ℕ)) (ms : List LineTree) → row_text k t ∷ others ≡ line_texts 0 ms → ⊥
row-then_line k t others [] h = cc
row-then_line k t others (m ∷ ms) h = row-no_line k 0 t m (omega arith) (first-same (row_text k t) (line_text 0 m) others (line_texts 1 ms) h)

next_row : (k : ℕ) (rows others : List TermTree) (ls ms : List LineTree) (line : List ℕ) (more : List (List ℕ)) → AllByRecursion IsWithinLimits others → k + length others ≤ 2 ^ 32 → AllByRecursion IsLine ms → length ms ≤ 2 ^ 64 → length ls ≤ 2 ^ 64 → row_texts k rows ++ (line_texts 0 ls ++ (line ∷ more)) ≡ row_texts k others ++ line_texts 0 ms → ((ls ≡ []) × ((t : TermTree) × IsRowText (k + length rows) line t)) ⊎ ((l : LineTree) × IsLineText (length ls) line l)
next_row k [] [] ls ms line more are small lines_are lines_small ls_small h =
    let r = next_line 0 ls ms line more lines_are (omega (arith, lines_small)) h in
    let n : 0 + length ls ≡ length ls = omega arith in
    inr (r.0, subst (λ i. IsLineText i line r.0) n r.1)
next_row k [] (t ∷ others) ls ms line more are small lines_are lines_small ls_small h =
    let r = line-then_row ls line more k t (row_texts (suc k) others ++ line_texts 0 ms) ls_small h in
    let n : k ≡ k + 0 = omega arith in
    inl (r.0, (t, record { text = r.1 ∙ ap (λ i. row_text i t) n; number = omega (arith, small); within = are.0 }))
next_row k (t ∷ rows) [] ls ms line more are small lines_are lines_small ls_small h =
    absurd (row-then_line k t (row_texts (suc k) rows ++ (line_texts 0 ls ++ (line ∷ more))) ms h)
next_row k (t ∷ rows) (u ∷ others) ls ms line more are small lines_are lines_small ls_small h =
    let e = rest-same (row_text k t) (row_text k u) (row_texts (suc k) rows ++ (line_texts 0 ls ++ (line ∷ more))) (row_texts (suc k) others ++ line_texts 0 ms) h in
    let n : suc k + length rows ≡ k + suc (length rows) = omega arith in
    subst (λ i. ((ls ≡ []) × ((v : TermTree) × IsRowText i line v)) ⊎ ((l : LineTree) × IsLineText (length ls) line l)) n
    (next_row (suc k) rows others ls ms line more are.1 (omega (arith, small)) lines_are lines_small ls_small e)

pub versions_differ : codes "version 1" ≡ codes "version 2" → ⊥
versions_differ e = let same : 49 ≡ 50 = ap (λ l. get_or l 8 0) e in absurd (omega (arith, same))

-- no definition stands where rows and lines stand
pub definition-then_below : (w : List ℕ) (others : List (List ℕ)) (rows : List TermTree) (ls : List LineTree) → definition_text w ∷ others ≡ row_texts 0 rows ++ line_texts 0 ls → ⊥
definition-then_below w others [] [] h = cc
definition-then_below w others [] (l ∷ ls) h =
    let same : true ≡ false = ap is_definition (first-same (definition_text w) (line_text 0 l) others (line_texts 1 ls) h) ∙ line-no_definition 0 l (omega arith) in
    cc
definition-then_below w others (t ∷ rows) ls h =
    let same : true ≡ false = ap is_definition (first-same (definition_text w) (row_text 0 t) others (row_texts 1 rows ++ line_texts 0 ls) h) in
    cc

below-then_definition : (rows : List TermTree) (ls : List LineTree) (line : List ℕ) (more : List (List ℕ)) (w : List ℕ) (others : List (List ℕ)) → is_printable_name w ≡ true → row_texts 0 rows ++ (line_texts 0 ls ++ (line ∷ more)) ≡ definition_text w ∷ others → IsNextDefinition rows ls line
below-then_definition [] [] line more w others is h = (refl, refl, (w, record { text = first-same line (definition_text w) more others h; is_name = is }))
below-then_definition [] (l ∷ ls) line more w others is h =
    let same : true ≡ false = ap is_definition (sym (first-same (line_text 0 l) (definition_text w) (line_texts 1 ls ++ (line ∷ more)) others h)) ∙ line-no_definition 0 l (omega arith) in
    absurd cc
below-then_definition (t ∷ rows) ls line more w others is h =
    let same : true ≡ false = ap is_definition (sym (first-same (row_text 0 t) (definition_text w) (row_texts 1 rows ++ (line_texts 0 ls ++ (line ∷ more))) others h)) in
    absurd cc

-- a line with which a text goes on
module _ (r s : RefutationTree) (line : List ℕ) (more : List (List ℕ)) (h : HasText r) (k : HasText s) where
  next_below : row_texts 0 r.rows ++ (line_texts 0 r.lines ++ (line ∷ more)) ≡ row_texts 0 s.rows ++ line_texts 0 s.lines → IsNextBelow r.rows r.lines line
  next_below e =
      let n : 0 + length r.rows ≡ length r.rows = omega arith in
      subst (λ i. ((r.lines ≡ []) × ((t : TermTree) × IsRowText i line t)) ⊎ ((l : LineTree) × IsLineText (length r.lines) line l)) n
      (next_row 0 r.rows s.rows r.lines s.lines line more k.rows (let m = k.row_numbers in omega (arith, m)) k.lines k.line_numbers h.line_numbers e)

  next_after : (ns ms : List (List ℕ)) → AllByRecursion IsTextName ms → map definition_text ns ++ (row_texts 0 r.rows ++ (line_texts 0 r.lines ++ (line ∷ more))) ≡ map definition_text ms ++ (row_texts 0 s.rows ++ line_texts 0 s.lines) → IsNextDefinition r.rows r.lines line ⊎ IsNextBelow r.rows r.lines line
  next_after [] [] are e = inr (next_below e)
  next_after [] (m ∷ ms) are e = inl (below-then_definition r.rows r.lines line more m (map definition_text ms ++ (row_texts 0 s.rows ++ line_texts 0 s.lines)) are.0 e)
  next_after (n ∷ ns) [] are e =
      absurd (definition-then_below n (map definition_text ns ++ (row_texts 0 r.rows ++ (line_texts 0 r.lines ++ (line ∷ more)))) s.rows s.lines e)
  next_after (n ∷ ns) (m ∷ ms) are e =
      next_after ns ms are.1 (rest-same (definition_text n) (definition_text m) (map definition_text ns ++ (row_texts 0 r.rows ++ (line_texts 0 r.lines ++ (line ∷ more)))) (map definition_text ms ++ (row_texts 0 s.rows ++ line_texts 0 s.lines)) e)

  next_behind : (ns ms : List (List ℕ)) → AllByRecursion IsTextName ms → version_text ns ≡ version_text ms → map definition_text ns ++ (row_texts 0 r.rows ++ (line_texts 0 r.lines ++ (line ∷ more))) ≡ map definition_text ms ++ (row_texts 0 s.rows ++ line_texts 0 s.lines) → ((0 < length ns) × IsNextDefinition r.rows r.lines line) ⊎ IsNextBelow r.rows r.lines line
  next_behind [] [] are v e = inr (next_below e)
  next_behind [] (m ∷ ms) are v e = absurd (versions_differ v)
  next_behind (n ∷ ns) ms are v e = go (next_after (n ∷ ns) ms are e)
    where
      go : IsNextDefinition r.rows r.lines line ⊎ IsNextBelow r.rows r.lines line → ((0 < length (n ∷ ns)) × IsNextDefinition r.rows r.lines line) ⊎ IsNextBelow r.rows r.lines line
      go (inl d) = inl (omega arith, d)
      go (inr b) = inr b

pub front-next : (r : RefutationTree) (line : List ℕ) → HasText r → IsFront (text_lines r ++ (line ∷ [])) → IsNext r line
front-next r line h f =
    let s = f.refutation in
    let rows = row_texts 0 r.rows in
    let lines = line_texts 0 r.lines in
    let below = row_texts 0 s.rows ++ line_texts 0 s.lines in
    let behind = map definition_text r.names ++ (rows ++ lines) in
    let e : text_lines r ++ (line ∷ f.more) ≡ text_lines s = sym (append_assoc (text_lines r) (line ∷ []) f.more) ∙ f.whole in
    let regroup : behind ++ (line ∷ f.more) ≡ map definition_text r.names ++ (rows ++ (lines ++ (line ∷ f.more))) =
    append_assoc (map definition_text r.names) (rows ++ lines) (line ∷ f.more) ∙ ap (λ x. map definition_text r.names ++ x) (append_assoc rows lines (line ∷ f.more)) in
    next_behind r s line f.more h f.has_text r.names s.names f.has_text.names (first-same (version_text r.names) (version_text s.names) (behind ++ (line ∷ f.more)) (map definition_text s.names ++ below) e)
    (sym regroup ∙ rest-same (version_text r.names) (version_text s.names) (behind ++ (line ∷ f.more)) (map definition_text s.names ++ below) e)
