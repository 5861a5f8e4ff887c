-- Refutations with the same text are the same.
use Rattle.std.proofs.Common.{◌≡◌, ℕ, suc, ◌+◌, ◌^◌, ◌<◌, ◌≤◌, List, [], ◌∷◌, ◌++◌, Some, length, map, refl, sym, ap, ap₂, ◌∙◌, arith}
use Rattle.std.specs.List.{AllByRecursion}
use Rattle.refute_print.specs.Trees.{TermTree, LineTree, RefutationTree}
use Rattle.refute_print.specs.Text.{version_text, definition_text, row_text, line_text, row_texts, line_texts, text_lines}
use Rattle.refute_print.specs.Limits.{IsWithinLimits, IsLine}
use Rattle.refute_text.specs.Internal.LineReader.{row_at, line_at}
use Rattle.refute_text.specs.Reading.{IsTextName, HasText}
use Rattle.refute_text.proofs.LineBack.{row_at-text, line_at-text}
use Rattle.refute_text.proofs.DefinitionLines.{definition_text-same}
use Rattle.refute_text.proofs.Fronts.{first-same, rest-same, row-then_line, definition-then_below}

some-same : {A : Type 0} (a b : A) → Some a ≡ Some b → a ≡ b
some-same a b e = cc

row_text-same : (k : ℕ) (t u : TermTree) → k < 2 ^ 32 → IsWithinLimits t → IsWithinLimits u → row_text k t ≡ row_text k u → t ≡ u
row_text-same k t u small h g e = some-same t u (sym (row_at-text k t small h) ∙ ap (row_at k) e ∙ row_at-text k u small g)

line_text-same : (k : ℕ) (l m : LineTree) → k < 2 ^ 64 → IsLine l → IsLine m → line_text k l ≡ line_text k m → l ≡ m
line_text-same k l m small h g e = some-same l m (sym (line_at-text k l small h) ∙ ap (line_at k) e ∙ line_at-text k m small g)

line_texts-same : (k : ℕ) (ls ms : List LineTree) → AllByRecursion IsLine ls → AllByRecursion IsLine ms → k + length ls ≤ 2 ^ 64 → line_texts k ls ≡ line_texts k ms → ls ≡ ms
line_texts-same k [] [] h g small e = refl
line_texts-same k [] (m ∷ ms) h g small e = cc
line_texts-same k (l ∷ ls) [] h g small e = cc
line_texts-same k (l ∷ ls) (m ∷ ms) h g small e =
    ap₂ (λ x y. x ∷ y) (line_text-same k l m (omega (arith, small)) h.0 g.0 (first-same (line_text k l) (line_text k m) (line_texts (suc k) ls) (line_texts (suc k) ms) e))
    (line_texts-same (suc k) ls ms h.1 g.1 (omega (arith, small)) (rest-same (line_text k l) (line_text k m) (line_texts (suc k) ls) (line_texts (suc k) ms) e))

texts-same : (k : ℕ) (rows others : List TermTree) (ls ms : List LineTree) → AllByRecursion IsWithinLimits rows → AllByRecursion IsWithinLimits others → k + length rows ≤ 2 ^ 32 → AllByRecursion IsLine ls → AllByRecursion IsLine ms → length ls ≤ 2 ^ 64 → row_texts k rows ++ line_texts 0 ls ≡ row_texts k others ++ line_texts 0 ms → (rows ≡ others) × (ls ≡ ms)
texts-same k [] [] ls ms h g small are others_are lines_small e = (refl, line_texts-same 0 ls ms are others_are (omega (arith, lines_small)) e)
texts-same k [] (u ∷ others) ls ms h g small are others_are lines_small e = absurd (row-then_line k u (row_texts (suc k) others ++ line_texts 0 ms) ls (sym e))
texts-same k (t ∷ rows) [] ls ms h g small are others_are lines_small e = absurd (row-then_line k t (row_texts (suc k) rows ++ line_texts 0 ls) ms e)
texts-same k (t ∷ rows) (u ∷ others) ls ms h g small are others_are lines_small e =
    let first = first-same (row_text k t) (row_text k u) (row_texts (suc k) rows ++ line_texts 0 ls) (row_texts (suc k) others ++ line_texts 0 ms) e in
    let rest = rest-same (row_text k t) (row_text k u) (row_texts (suc k) rows ++ line_texts 0 ls) (row_texts (suc k) others ++ line_texts 0 ms) e in
    let more = texts-same (suc k) rows others ls ms h.1 g.1 (omega (arith, small)) are others_are lines_small rest in
    (ap₂ (λ x y. x ∷ y) (row_text-same k t u (omega (arith, small)) h.0 g.0 first) more.0, more.1)

definitions-same : (ns ms : List (List ℕ)) (rows others : List TermTree) (ls os : List LineTree) → AllByRecursion IsTextName ns → AllByRecursion IsTextName ms → map definition_text ns ++ (row_texts 0 rows ++ line_texts 0 ls) ≡ map definition_text ms ++ (row_texts 0 others ++ line_texts 0 os) → (ns ≡ ms) × (row_texts 0 rows ++ line_texts 0 ls ≡ row_texts 0 others ++ line_texts 0 os)
definitions-same [] [] rows others ls os h g e = (refl, e)
definitions-same [] (m ∷ ms) rows others ls os h g e =
    absurd (definition-then_below m (map definition_text ms ++ (row_texts 0 others ++ line_texts 0 os)) rows ls (sym e))
definitions-same (n ∷ ns) [] rows others ls os h g e =
    absurd (definition-then_below n (map definition_text ns ++ (row_texts 0 rows ++ line_texts 0 ls)) others os e)
definitions-same (n ∷ ns) (m ∷ ms) rows others ls os h g e =
    let behind = map definition_text ns ++ (row_texts 0 rows ++ line_texts 0 ls) in
    let other = map definition_text ms ++ (row_texts 0 others ++ line_texts 0 os) in
    let first = definition_text-same n m h.0 g.0 (first-same (definition_text n) (definition_text m) behind other e) in
    let rest = definitions-same ns ms rows others ls os h.1 g.1 (rest-same (definition_text n) (definition_text m) behind other e) in
    (ap₂ (λ x y. x ∷ y) first rest.0, rest.1)

abbrev refutation : List (List ℕ) → List TermTree → List LineTree → RefutationTree
refutation names rows lines = record { names = names; rows = rows; lines = lines }

pub text_lines-same : (r s : RefutationTree) → HasText r → HasText s → text_lines r ≡ text_lines s → r ≡ s
text_lines-same r s h g e =
    let behind = map definition_text r.names ++ (row_texts 0 r.rows ++ line_texts 0 r.lines) in
    let other = map definition_text s.names ++ (row_texts 0 s.rows ++ line_texts 0 s.lines) in
    let d = definitions-same r.names s.names r.rows s.rows r.lines s.lines h.names g.names (rest-same (version_text r.names) (version_text s.names) behind other e) in
    let p = texts-same 0 r.rows s.rows r.lines s.lines h.rows g.rows (let n = h.row_numbers in omega (arith, n)) h.lines g.lines h.line_numbers d.1 in
    ap (λ names. refutation names r.rows r.lines) d.0 ∙ ap₂ (refutation s.names) p.0 p.1
