-- A refutation with the names of what is declared, and then with their numbers again, is the refutation.
use Rattle.std.proofs.Common.{◌≡◌, ◌≢◌, ◌<◌, ◌+◌, ◌-◌, nat_lt, ℕ, zero, suc, Bool, true, false, List, [], ◌∷◌, ◌++◌, length, map, get_or, AllPairs, refl, sym, ap, ap₂, ◌∙◌, length-append, arith}
use Rattle.std.specs.Str.{bytes_eq}
use Rattle.std.specs.Cmp.Lexicographic.{bytes_decides}
use Rattle.std.proofs.lemmas.Bool.{and_parts}
use Rattle.std.proofs.lemmas.Bool.Decides.{nat_tests}
use Rattle.std.proofs.lemmas.Option.{unwrap_or-slice_get}
use Rattle.std.proofs.lemmas.List.{get_or_append_left, get_or-append_right}
use Rattle.std.proofs.lemmas.List.Sums.{position_or_len_is}
use Rattle.stt_core.specs.SimpleType.{SimpleType, base, arrow, predicate, is_declared}
use Rattle.stt_core.specs.Lambda.{Constant, name, witness, falsity, negation, implication, all, equality, choice, description, Lambda, bound, constant, lam, app}
use Rattle.stt_core.specs.Declarations.{Declarations}
use Rattle.stt_core.specs.TypedProblem.{NamesDiffer}
use Rattle.stt_core.specs.Typing.{Scope}
use Rattle.stt_core.specs.Canonical.{IsCanonical}
use Rattle.tableau_calculus.specs.Literals.{Literal}
use Rattle.tableau_calculus.specs.Witnesses.{Row, with_rows, IsTableAfter}
use Rattle.tableau_calculus.specs.Rules.{PlainRule}
use Rattle.tableau_calculus.specs.declared.rule_use.RuleUse.TheVariants.{AtOne, AtTwo, AllPos, WithPredicate, Cut}
use Rattle.tableau_calculus.specs.declared.refutation.Line.{Line}
use Rattle.tableau_calculus.specs.declared.refutation.Refutation.{Refutation}
use Rattle.refute_print.specs.Named.{Names, names_of, name_numbered, named_type, named_constant, named_term, named_literal, named_rule, named_line, named_refutation, HasTypeNames, HasConstantNames, HasNames, HaveNames, HasRuleNames, LinesHaveNames, RowsHaveNames, IsNamed}
use Rattle.refute_check.specs.Numbered.{name_place, numbered_type, numbered_constant, numbered_term, numbered_literal, numbered_rule, numbered_line, numbered_row, numbered_refutation}
use Rattle.witness_names.specs.Rows.{binder_of}

-- each name stands at its own place only
abbrev pub ArePlaced : List (List ℕ) → Type 0
ArePlaced names = (k : ℕ) → k < length names → name_place names (name_numbered names k) ≡ k

apart : (x y : List ℕ) → x ≢ y → bytes_eq x y ≡ false
apart x y other = go (bytes_eq x y) refl
  where
    go : (b : Bool) → bytes_eq x y ≡ b → bytes_eq x y ≡ false
    go true e = absurd (other ((bytes_decides x y).0 e))
    go false e = e

-- names of which no two are the same
pub different_placed : (names : List (List ℕ)) → AllPairs (λ a b. a ≢ b) names → ArePlaced names
different_placed names d k within =
    let own : name_numbered names k ≡ get_or names k [] = unwrap_or-slice_get names k [] in
    ap (name_place names) own
    ∙ position_or_len_is (λ n. bytes_eq n (get_or names k [])) names k [] (omega arith)
    (λ i before. apart (get_or names i []) (get_or names k []) (d i k [] before within))
    (λ h. (bytes_decides (get_or names k []) (get_or names k [])).1 refl)

pairs_left : (xs ys : List (List ℕ)) → AllPairs (λ a b. a ≢ b) (xs ++ ys) → AllPairs (λ a b. a ≢ b) xs
pairs_left xs ys h i j d before within e =
    let longer = length-append xs ys in
    h i j d before (omega arith) (get_or_append_left xs ys d i (omega arith) ∙ e ∙ sym (get_or_append_left xs ys d j within))

pairs_right : (xs ys : List (List ℕ)) → AllPairs (λ a b. a ≢ b) (xs ++ ys) → AllPairs (λ a b. a ≢ b) ys
pairs_right xs ys h i j d before within e =
    let longer = length-append xs ys in
    h (length xs + i) (length xs + j) d (omega arith) (omega arith) (right i ∙ e ∙ sym (right j))
  where
    right : (k : ℕ) → get_or (xs ++ ys) (length xs + k) d ≡ get_or ys k d
    right k = let n : length xs + k - length xs ≡ k = omega arith in get_or-append_right xs ys (length xs) (length xs + k) d refl (omega arith) ∙ ap (λ m. get_or ys m d) n

pub record AllPlaced (names : Names) : Type 0 where
  pub bases : ArePlaced names.bases
  pub constants : ArePlaced names.constants

pub declared_placed : (d : Declarations) → NamesDiffer d → AllPlaced (names_of d.bases d.consts)
declared_placed d h = record {
  bases = different_placed d.bases (pairs_left d.bases (map (λ c. c.name) d.consts) h);
  constants = different_placed (map (λ c. c.name) d.consts) (pairs_right d.bases (map (λ c. c.name) d.consts) h);
}

module _ (names : Names) (p : AllPlaced names) where
  type-same : (a : SimpleType) → HasTypeNames names a → numbered_type names (named_type names a) ≡ a
  type-same (base zero) h = refl
  type-same (base (suc zero)) h = refl
  type-same (base (suc (suc k))) h = let two : k + 2 ≡ suc (suc k) = omega arith in ap (λ n. base (n + 2)) (p.bases k (within k h)) ∙ ap base two
    where
      within : (k : ℕ) → HasTypeNames names (base (suc (suc k))) → k < length names.bases
      within k h = let e : nat_lt (suc (suc k)) (length names.bases + 2) ≡ true = h in grind (arith, nat_tests, e)
  type-same (arrow a b) h =
      let both = and_parts (is_declared (length names.bases) a) (is_declared (length names.bases) b) h in
      ap₂ arrow (type-same a both.0) (type-same b both.1)

  constant-same : (c : Constant) → HasConstantNames names c → numbered_constant names (named_constant names c) ≡ c
  constant-same (name k) h = ap name (p.constants k h)
  constant-same (witness k) h = refl
  constant-same falsity h = refl
  constant-same negation h = refl
  constant-same implication h = refl
  constant-same (all a) h = ap all (type-same a h)
  constant-same (equality a) h = ap equality (type-same a h)
  constant-same (choice a) h = ap choice (type-same a h)
  constant-same (description a) h = ap description (type-same a h)

  term-same : (t : Lambda) → HasNames names t → numbered_term names (named_term names t) ≡ t
  term-same (bound k) h = refl
  term-same (constant c) h = ap constant (constant-same c h)
  term-same (lam a s) h = ap₂ lam (type-same a h.0) (term-same s h.1)
  term-same (app s u) h = ap₂ app (term-same s h.0) (term-same u h.1)

  literal-same : (l : Literal) → HasNames names l.atom → numbered_literal names (named_literal names l) ≡ l
  literal-same l h = ap (λ t. record { positive = l.positive; atom = t }) (term-same l.atom h)

  branch-same : (ls : List Literal) → HaveNames names ls → map (numbered_literal names) (map (named_literal names) ls) ≡ ls
  branch-same [] h = refl
  branch-same (l ∷ ls) h = ap₂ (λ x xs. x ∷ xs) (literal-same l h.0) (branch-same ls h.1)

  rule-same : (r : PlainRule) → HasRuleNames names r → numbered_rule names (named_rule names r) ≡ r
  rule-same (AtOne k i) h = refl
  rule-same (AtTwo k i j) h = refl
  rule-same (AllPos i u) h = ap (AllPos i) (term-same u h)
  rule-same (WithPredicate k f) h = ap (WithPredicate k) (term-same f h)
  rule-same (Cut l) h = ap Cut (literal-same l h)

  lines-same : (lines : List Line) → LinesHaveNames names lines → map (numbered_line names) (map (named_line names) lines) ≡ lines
  lines-same [] h = refl
  lines-same (l ∷ lines) h =
      ap₂ (λ x xs. x ∷ xs) (ap₂ (λ (b : List Literal) (r : PlainRule). record { branch = b; rule = r; children = l.children }) (branch-same l.branch h.0.branch_named) (rule-same l.rule h.0.rule_named)) (lines-same lines h.1)

  -- the predicate of a row tells its type
  row_type : (scope : Scope) (a : SimpleType) (t : Lambda) → IsCanonical scope [] (predicate a) t → binder_of t ≡ a
  row_type scope a (bound k) h = absurd h.0
  row_type scope a (constant c) h = absurd h.0
  row_type scope a (app s u) h = absurd h.0
  row_type scope a (lam c s) h = sym h.1.0

  rows-same : (scope : Scope) (earlier rows : List Row) → IsTableAfter scope earlier rows → RowsHaveNames names rows → map (numbered_row names) (map (λ row. named_term names row.predicate) rows) ≡ rows
  rows-same scope earlier [] t h = refl
  rows-same scope earlier (r ∷ rows) t h =
      let same = term-same r.predicate h.0 in
      ap₂ (λ x xs. x ∷ xs)
      (ap₂ (λ (a : SimpleType) (f : Lambda). record { type = a; predicate = f }) (ap binder_of same ∙ row_type (with_rows scope earlier) r.type r.predicate t.0) same)
      (rows-same scope (earlier ++ r ∷ []) rows t.2 h.1)

  pub refutation-same : (scope : Scope) (taken : List ℕ) (r : Refutation) → IsTableAfter scope [] r.witnesses → IsNamed names r → numbered_refutation names (named_refutation names taken r) ≡ r
  refutation-same scope taken r t h =
      ap₂ (λ (rows : List Row) (lines : List Line). record { witnesses = rows; lines = lines }) (rows-same scope [] r.witnesses t h.rows_named) (lines-same r.lines h.lines_named)
