-- The lines behind the start line, one after another.
use Rattle.std.proofs.Common.{◌≡◌, ℕ, suc, ◌+◌, ◌-◌, ◌≤◌, false, List, [], ◌∷◌, ◌++◌, length, map, Option, Some, None, option_map, codes, refl, sym, ap, ap₂, subst, ◌∙◌, arith, length-append, Result, Ok, Err, IfOk, IfErr, IfSome}
use Rattle.std.specs.List.{AllByRecursion}
use Rattle.std.proofs.lemmas.List.{length-map}
use Rattle.refute_print.specs.Trees.{TermTree, LineTree, RefutationTree}
use Rattle.refute_print.specs.Text.{version_text, definition_text, row_texts, line_texts, text_lines}
use Rattle.refute_print.specs.TextView.{the_line, the_text, IsNumberedText}
use Rattle.refute_print.specs.declared.line.RefutationText.{RefutationText}
use Rattle.outside.specs.Lines.{lines_of}
use Rattle.refute_text.specs.Reading.{is_end_mark, IsTextName, HasText, IsFront, IsText, HoldsText, TextReading, read, bad_line, no_start, no_end, ReadsText}
use Rattle.refute_text.specs.Answered.{reading_of}
use Rattle.refute_text.specs.Internal.Places.{BehindStart, RefusesBehind, nothing_placed}
use Rattle.refute_text.specs.declared.refusal.TextRefused.{TextRefused}
use Rattle.refute_text.specs.declared.refusal.TextRefused.TheVariants.{BadLine, NoStart, NoEnd, Memory}
use Rattle.refute_text.specs.Internal.LineReader.{definition_at}
use Rattle.refute_text.proofs.DefinitionLines.{definition_reads, definition_at-text}
use Rattle.refute_text.proofs.Fronts.{front-text, first-same, rest-same, versions_differ}
use Rattle.refute_text.proofs.ReadingLaws.{reading-same}

-- the text that was read up to this line, and the bytes that are left
pub record TextSoFar (lines : List (List ℕ)) (names_at : ℕ) (text : RefutationText) (line : ℕ) (rest : List ℕ) : Type 0 where
  pub are_lines : lines ≡ text_lines (the_text text) ++ lines_of rest
  pub has_text : HasText (the_text text)
  pub numbered : IsNumberedText text
  pub place_is : text.names_at ≡ names_at
  pub line_is : line + 1 ≡ names_at + length (text_lines (the_text text))

length-row_texts : (k : ℕ) (rows : List TermTree) → length (row_texts k rows) ≡ length rows
length-row_texts k [] = refl
length-row_texts k (t ∷ rows) = ap suc (length-row_texts (suc k) rows)

length-line_texts : (k : ℕ) (lines : List LineTree) → length (line_texts k lines) ≡ length lines
length-line_texts k [] = refl
length-line_texts k (l ∷ lines) = ap suc (length-line_texts (suc k) lines)

pub length-text_lines : (r : RefutationTree) → length (text_lines r) ≡ suc (length r.names + (length r.rows + length r.lines))
length-text_lines r =
    ap suc
    (length-append (map definition_text r.names) (row_texts 0 r.rows ++ line_texts 0 r.lines)
    ∙ ap₂ (λ m n. m + n) (length-map r.names definition_text) (length-append (row_texts 0 r.rows) (line_texts 0 r.lines) ∙ ap₂ (λ m n. m + n) (length-row_texts 0 r.rows) (length-line_texts 0 r.lines)))

nothing_has_text : (names : List (List ℕ)) → AllByRecursion IsTextName names → HasText (nothing_placed names)
nothing_has_text names h = record { names = h; rows = tt; row_numbers = omega arith; lines = tt; line_numbers = omega arith }

pub version_1_has_text : HasText (nothing_placed [])
version_1_has_text = nothing_has_text [] tt

pub front-none : IsFront []
front-none = record { refutation = nothing_placed []; more = codes "version 1" ∷ []; has_text = version_1_has_text; whole = refl }

-- some definition comes behind version 2
pub front-version_2 : IsFront (codes "version 2" ∷ [])
front-version_2 = record { refutation = nothing_placed (codes "a" ∷ []); more = codes "d a" ∷ []; has_text = nothing_has_text (codes "a" ∷ []) (refl, tt); whole = refl }

pub text_bad : (lines : List (List ℕ)) (names_at : ℕ) (text : RefutationText) (n : ℕ) (rest line more : List ℕ) → 1 ≤ names_at → TextSoFar lines names_at text n rest → lines_of rest ≡ line ∷ lines_of more → is_end_mark line ≡ false → (IsFront (text_lines (the_text text) ++ line ∷ []) → ⊥) → RefusesBehind lines (names_at - 1) (BadLine n)
text_bad lines names_at text n rest line more counted s e h wrong = (
  length (text_lines (the_text text)),
  (
    record {
      before = text_lines (the_text text);
      bad = line;
      after = lines_of more;
      are_lines = s.are_lines ∙ ap (λ x. text_lines (the_text text) ++ x) e;
      place_is = refl;
      is_front = front-text (the_text text) s.has_text;
      no_front = wrong;
      no_end = λ k. cc;
    },
    let k = s.line_is in omega (arith, k, counted),
  ),
)

-- the rows and the lines are counted
pub text_first : (lines : List (List ℕ)) (names_at : ℕ) (text : RefutationText) (n : ℕ) (rest : List ℕ) → TextSoFar lines names_at text n rest → text.first + length text.witnesses + length text.lines ≡ n
text_first lines names_at text n rest s =
    let k = s.line_is in
    let p = s.place_is in
    let f = s.numbered.first_is in
    omega (arith, k, f, p, length-text_lines (the_text text), length-map text.lines the_line)

-- the line of the version
pub version_missing : (start : ℕ) → RefusesBehind [] start (NoEnd start)
version_missing start = (front-none, omega arith)

version-same : (line : List ℕ) (names : List (List ℕ)) → line ≡ version_text names → (line ≡ codes "version 1" → ⊥) → (line ≡ codes "version 2" → ⊥) → ⊥
version-same line [] e h g = h e
version-same line (w ∷ names) e h g = g e

no_whole_text : IsText [] → ⊥
no_whole_text t = let k = t.whole in cc

pub version_bad : (start : ℕ) (behind : List (List ℕ)) (line : List ℕ) (more : List (List ℕ)) → behind ≡ line ∷ more → (line ≡ codes "version 1" → ⊥) → (line ≡ codes "version 2" → ⊥) → RefusesBehind behind start (BadLine start)
version_bad start behind line more e h g = (
  0,
  (
    record {
      before = [];
      bad = line;
      after = more;
      are_lines = e;
      place_is = refl;
      is_front = front-none;
      no_front = λ f. version-same line f.refutation.names (first-same line (version_text f.refutation.names) f.more (map definition_text f.refutation.names ++ (row_texts 0 f.refutation.rows ++ line_texts 0 f.refutation.lines)) f.whole) h g;
      no_end = λ k. no_whole_text;
    },
    omega arith,
  ),
)

-- the line behind version 2
pub definitions_missing : (line : ℕ) → 1 ≤ line → RefusesBehind (codes "version 2" ∷ []) (line - 1) (NoEnd line)
definitions_missing line counted = (front-version_2, omega (arith, counted))

no_text-version_2 : (names : List (List ℕ)) (more : List (List ℕ)) → codes "version 2" ∷ [] ≡ version_text names ∷ (map definition_text names ++ more) → ⊥
no_text-version_2 [] more e = versions_differ (sym (first-same (codes "version 2") (codes "version 1") [] more e))
no_text-version_2 (w ∷ names) more e = cc

first_definition : (names : List (List ℕ)) (line : List ℕ) (more others : List (List ℕ)) → AllByRecursion IsTextName names → codes "version 2" ∷ (line ∷ more) ≡ version_text names ∷ (map definition_text names ++ others) → definition_at line ≡ None → ⊥
first_definition [] line more others h e none = versions_differ (sym (first-same (codes "version 2") (codes "version 1") (line ∷ more) others e))
first_definition (w ∷ names) line more others h e none =
    let rest = rest-same (codes "version 2") (codes "version 2") (line ∷ more) (definition_text w ∷ (map definition_text names ++ others)) e in
    let text = first-same line (definition_text w) more (map definition_text names ++ others) rest in
    let at = ap definition_at text ∙ definition_at-text w h.0 in
    cc

pub definition_bad : (line : ℕ) (lines : List (List ℕ)) (bad : List ℕ) (more : List (List ℕ)) → 1 ≤ line → lines ≡ bad ∷ more → definition_at bad ≡ None → RefusesBehind (codes "version 2" ∷ lines) (line - 1) (BadLine line)
definition_bad line lines bad more counted e none = (
  1,
  (
    record {
      before = codes "version 2" ∷ [];
      bad = bad;
      after = more;
      are_lines = ap (λ x. codes "version 2" ∷ x) e;
      place_is = refl;
      is_front = front-version_2;
      no_front = λ f. first_definition f.refutation.names bad f.more (row_texts 0 f.refutation.rows ++ line_texts 0 f.refutation.lines) f.has_text.names f.whole none;
      no_end = λ k t. no_text-version_2 t.refutation.names (row_texts 0 t.refutation.rows ++ line_texts 0 t.refutation.lines) t.whole;
    },
    omega (arith, counted),
  ),
)

-- the text of version 2 with its first definition
pub definition_begins : (line w : List ℕ) → definition_at line ≡ Some w → HasText (nothing_placed (w ∷ [])) × (text_lines (nothing_placed (w ∷ [])) ≡ codes "version 2" ∷ line ∷ [])
definition_begins line w at =
    let s = definition_reads line w at in
    (nothing_has_text (w ∷ []) (s.is_name, tt), ap (λ x. codes "version 2" ∷ x ∷ []) (sym s.text))

some-same : {A : Type 0} (a b : A) → Some a ≡ Some b → a ≡ b
some-same a b e = cc

abbrev begun_with : List ℕ → RefutationTree
begun_with w = nothing_placed (w ∷ [])

pub version_2_begins : (t : RefutationTree) (line : List ℕ) → option_map begun_with (definition_at line) ≡ Some t → HasText t × (text_lines t ≡ codes "version 2" ∷ line ∷ [])
version_2_begins t line h = go (definition_at line) refl h
  where
    go : (o : Option (List ℕ)) → definition_at line ≡ o → option_map begun_with o ≡ Some t → HasText t × (text_lines t ≡ codes "version 2" ∷ line ∷ [])
    go None e k = cc
    go (Some w) e k =
        subst (λ x. HasText x × (text_lines x ≡ codes "version 2" ∷ line ∷ [])) (some-same (begun_with w) t k) (definition_begins line w e)

pub no_definition : (line : List ℕ) → option_map begun_with (definition_at line) ≡ None → definition_at line ≡ None
no_definition line h = go (definition_at line) refl h
  where
    go : (o : Option (List ℕ)) → definition_at line ≡ o → option_map begun_with o ≡ None → definition_at line ≡ None
    go None e k = e
    go (Some w) e k = cc

-- whole texts
pub read_from : (lines : List (List ℕ)) (n : ℕ) (behind : List (List ℕ)) (r : Result RefutationText TextRefused) → BehindStart lines n behind → IfOk r (λ t. HoldsText behind (the_text t)) → IfOk r (λ t. t.names_at ≡ n + 1) → IfOk r IsNumberedText → IfErr r (RefusesBehind behind n) → IfSome (reading_of r) (ReadsText lines)
read_from lines n behind (Ok t) s h e i f = record { before = s.before; behind = behind; starts = s.starts; holds = h; first_is = let k = s.line_is in let p = i.first_is in omega (arith, k, e, p) }
read_from lines n behind (Err (BadLine line)) s h e i f = record { before = s.before; behind = behind; place = f.0; starts = s.starts; bad = f.1.0; line_is = let k = s.line_is in let q = f.1.1 in omega (arith, k, q) }
read_from lines n behind (Err (NoStart line)) s h e i f = absurd f
read_from lines n behind (Err (NoEnd line)) s h e i f = record {
  before = s.before;
  behind = behind;
  starts = s.starts;
  is_front = f.0;
  line_is =
      let k = s.line_is in
      let q = f.1 in
      omega (arith, k, q, ap length s.starts.are_lines ∙ length-append s.before (s.starts.start ∷ behind));
}
read_from lines n behind (Err Memory) s h e i f = tt

pub one_answer : (lines : List (List ℕ)) (r : Result RefutationText TextRefused) → IfSome (reading_of r) (ReadsText lines) → IfSome (reading_of r) (λ o. (p : TextReading) → ReadsText lines p → p ≡ o)
one_answer lines (Ok t) h = λ p k. reading-same lines p (read (the_text t) t.first) k h
one_answer lines (Err (BadLine line)) h = λ p k. reading-same lines p (bad_line line) k h
one_answer lines (Err (NoStart line)) h = λ p k. reading-same lines p (no_start line) k h
one_answer lines (Err (NoEnd line)) h = λ p k. reading-same lines p (no_end line) k h
one_answer lines (Err Memory) h = tt
