-- An accepted refutation that is small has a text, whatever printable names it has.
use Rattle.std.proofs.Common.{◌≡◌, ◌+◌, ◌<◌, ◌≤◌, ◌^◌, nat_lt, ◌⊎◌, inl, inr, ℕ, zero, suc, max, Bool, true, false, List, [], ◌∷◌, ◌++◌, length, length-append, map, Some, refl, sym, ap₂, subst, arith}
use Rattle.std.specs.List.{AllByRecursion}
use Rattle.std.proofs.lemmas.Bool.{and_parts}
use Rattle.std.proofs.lemmas.Bool.Decides.{nat_tests}
use Rattle.std.proofs.lemmas.Option.{slice_get_within}
use Rattle.std.proofs.lemmas.List.{length-map}
use Rattle.stt_core.specs.SimpleType.{SimpleType, base, arrow, predicate, formula, is_declared}
use Rattle.stt_core.specs.Lambda.{Constant, name, witness, falsity, negation, implication, all, equality, choice, description, Lambda, bound, constant, lam, app}
use Rattle.stt_core.specs.Depth.{depth}
use Rattle.stt_core.specs.Typing.{Scope, constant_type}
use Rattle.stt_core.specs.Canonical.{IsCanonical, IsNeutral}
use Rattle.tableau_calculus.specs.Literals as plain
use Rattle.tableau_calculus.specs.Literals.{Literal, IsBranch}
use Rattle.tableau_calculus.specs.Witnesses.{Row, with_rows, IsTableAfter}
use Rattle.tableau_calculus.specs.Accepted.{IsTypedUse, AreRightAfter, IsAccepted}
use Rattle.tableau_calculus.specs.Rules.{PlainRule}
use Rattle.tableau_calculus.specs.declared.rule_use.RuleUse.TheVariants.{AtOne, AtTwo, AllPos, WithPredicate, Cut}
use Rattle.tableau_calculus.specs.declared.refutation.Line.{Line}
use Rattle.tableau_calculus.specs.declared.refutation.Refutation.{Refutation}
use Rattle.refute_print.specs.Letters.{is_printable_name}
use Rattle.refute_print.specs.Limits as text
use Rattle.refute_print.specs.Limits.{constant_depth, term_depth, spine_depth, IsPrintableType, IsConstant, IsTerm, IsSpine, IsWithinLimits, IsLiteralText, IsRule, IsLine}
use Rattle.refute_print.specs.Sizes.{term_limit, nesting, nesting_in, type_depth, IsSmallTerm, AreSmallLiterals, IsSmallRule, IsSmallLine, IsSmall}
use Rattle.refute_print.specs.Named.{Names, name_numbered, named_type, named_constant, named_term, named_literal, named_rule, named_line, named_refutation, HasTypeNames, HasConstantNames, ArePlaces}
use Rattle.refute_text.specs.Reading.{IsTextName, HasText}
use Rattle.request_answers.proofs.NameLaws.{NamesAll, type_named, constant_named}

-- the names are THF's
pub record AreWords (names : Names) : Type 0 where
  pub bases : AllByRecursion (λ w. is_printable_name w ≡ true) names.bases
  pub constants : AllByRecursion (λ w. is_printable_name w ≡ true) names.constants

word_at : (names : List (List ℕ)) (k : ℕ) → AllByRecursion (λ w. is_printable_name w ≡ true) names → k < length names → is_printable_name (name_numbered names k) ≡ true
word_at [] k h within = absurd (omega arith)
word_at (w ∷ names) zero h within = h.0
word_at (w ∷ names) (suc k) h within = word_at names k h.1 (omega arith)

module _ (names : Names) (words : AreWords names) where
  type_word : (a : SimpleType) → HasTypeNames names a → IsPrintableType (named_type names a)
  type_word (base zero) h = tt
  type_word (base (suc zero)) h = tt
  type_word (base (suc (suc k))) h = word_at names.bases k words.bases (within k h)
    where
      within : (k : ℕ) → HasTypeNames names (base (suc (suc k))) → k < length names.bases
      within k h = let e : nat_lt (suc (suc k)) (length names.bases + 2) ≡ true = h in grind (arith, nat_tests, e)
  type_word (arrow a b) h =
      let both = and_parts (is_declared (length names.bases) a) (is_declared (length names.bases) b) h in
      (type_word a both.0, type_word b both.1)

  constant_word : (scope : Scope) (c : Constant) (a : SimpleType) → length scope.witnesses ≤ 2 ^ 32 → constant_type scope c ≡ Some a → HasConstantNames names c → IsConstant (named_constant names c)
  constant_word scope (name k) a few t h = word_at names.constants k words.constants h
  constant_word scope (witness k) a few t h = let within = slice_get_within scope.witnesses k a t in omega (arith, few, within)
  constant_word scope falsity a few t h = tt
  constant_word scope negation a few t h = tt
  constant_word scope implication a few t h = tt
  constant_word scope (all b) a few t h = type_word b h
  constant_word scope (equality b) a few t h = type_word b h
  constant_word scope (choice b) a few t h = type_word b h
  constant_word scope (description b) a few t h = type_word b h

-- names change no depth
type_nests : (names : Names) (a : SimpleType) → text.type_tree_depth (named_type names a) ≡ nesting a
type_nests names (base zero) = refl
type_nests names (base (suc zero)) = refl
type_nests names (base (suc (suc k))) = refl
type_nests names (arrow a b) = ap₂ (λ m n. suc (max m n)) (type_nests names a) (type_nests names b)

constant_nests : (names : Names) (c : Constant) → constant_depth (named_constant names c) ≤ nesting_in c + 1
constant_nests names (name k) = omega arith
constant_nests names (witness k) = omega arith
constant_nests names falsity = omega arith
constant_nests names negation = omega arith
constant_nests names implication = omega arith
constant_nests names (all a) = let e = type_nests names a in omega arith
constant_nests names (equality a) = let e = type_nests names a in omega arith
constant_nests names (choice a) = let e = type_nests names a in omega arith
constant_nests names (description a) = let e = type_nests names a in omega arith

max_bound : (a b c : ℕ) → a ≤ c → b ≤ c → max a b ≤ c
max_bound a b c h k = grind (arith, h, k)

max_first : (a b : ℕ) → a ≤ max a b
max_first a b = grind arith

max_second : (a b : ℕ) → b ≤ max a b
max_second a b = grind arith

-- a head with arguments, or a constant or variable alone
mutual
  term_nests : (names : Names) (scope : Scope) (ctx : List SimpleType) (a : SimpleType) (t : Lambda) → IsCanonical scope ctx a t → term_depth (named_term names t) ≤ depth t + type_depth t + 1
  term_nests names scope ctx a (bound k) h = let g : 0 ≤ 0 + 0 + 1 = omega arith in g
  term_nests names scope ctx a (constant c) h =
      let n = constant_nests names c in
      let g : constant_depth (named_constant names c) ≤ 0 + nesting_in c + 1 = omega (arith, n) in
      g
  term_nests names scope ctx (base k) (lam c s) h = absurd h.1
  term_nests names scope ctx (arrow d b) (lam c s) h =
      let e = type_nests names c in
      let own = term_nests names scope (c ∷ ctx) b s h.1.1 in
      let one = max_first (nesting c) (type_depth s) in
      let two = max_second (nesting c) (type_depth s) in
      let both = max_bound (text.type_tree_depth (named_type names c)) (term_depth (named_term names s)) (depth s + max (nesting c) (type_depth s) + 1) (omega (arith, e, one)) (omega (arith, own, two)) in
      let g : suc (max (text.type_tree_depth (named_type names c)) (term_depth (named_term names s))) ≤ suc (depth s) + max (nesting c) (type_depth s) + 1 = omega (arith, both) in
      g
  term_nests names scope ctx a (app s u) h =
      let head = spine_nests names scope ctx (arrow h.1.0 a) s h.1.1 in
      let argument = term_nests names scope ctx h.1.0 u h.1.2 in
      let one = max_first (type_depth s) (type_depth u) in
      let two = max_second (type_depth s) (type_depth u) in
      let three = max_first (depth s) (suc (depth u)) in
      let four = max_second (depth s) (suc (depth u)) in
      let whole = max (depth s) (suc (depth u)) + max (type_depth s) (type_depth u) in
      let top = max_bound 1 (depth s) (max (depth s) (suc (depth u))) (omega (arith, four)) three in
      let both = max_bound (spine_depth (named_term names s)) (term_depth (named_term names u)) whole (omega (arith, head, one, top)) (omega (arith, argument, two, four)) in
      let g : suc (max (spine_depth (named_term names s)) (term_depth (named_term names u))) ≤ max (depth s) (suc (depth u)) + max (type_depth s) (type_depth u) + 1 = omega (arith, both) in
      g

  spine_nests : (names : Names) (scope : Scope) (ctx : List SimpleType) (a : SimpleType) (t : Lambda) → IsNeutral scope ctx a t → spine_depth (named_term names t) ≤ max 1 (depth t) + type_depth t
  spine_nests names scope ctx a (bound k) h = let g : 0 ≤ max 1 0 + 0 = omega arith in g
  spine_nests names scope ctx a (constant c) h =
      let n = constant_nests names c in
      let m = max_first 1 0 in
      let g : constant_depth (named_constant names c) ≤ max 1 0 + nesting_in c = omega (arith, n, m) in
      g
  spine_nests names scope ctx a (lam c s) h = absurd h
  spine_nests names scope ctx a (app s u) h =
      let head = spine_nests names scope ctx (arrow h.0 a) s h.1 in
      let argument = term_nests names scope ctx h.0 u h.2 in
      let one = max_first (type_depth s) (type_depth u) in
      let two = max_second (type_depth s) (type_depth u) in
      let three = max_first (depth s) (suc (depth u)) in
      let four = max_second (depth s) (suc (depth u)) in
      let five = max_second 1 (max (depth s) (suc (depth u))) in
      let top = max_bound 1 (depth s) (max (depth s) (suc (depth u))) (omega (arith, four)) three in
      max_bound (spine_depth (named_term names s)) (term_depth (named_term names u)) (max 1 (max (depth s) (suc (depth u))) + max (type_depth s) (type_depth u)) (omega (arith, head, one, top, five)) (omega (arith, argument, two, four, five))

-- a term with negation as its head: negation itself, or a negation
abbrev IsNegation : SimpleType → Lambda → Type 0
IsNegation a t = ((a ≡ arrow formula formula) × (t ≡ constant negation)) ⊎ ((a ≡ formula) × (plain.is_negated t ≡ true))

neutral_negated : (names : Names) (scope : Scope) (ctx : List SimpleType) (a : SimpleType) (t : Lambda) → IsNeutral scope ctx a t → text.is_negated_text (named_term names t) ≡ true → IsNegation a t
neutral_negated names scope ctx a (bound k) h e = cc
neutral_negated names scope ctx a (constant (name k)) h e = cc
neutral_negated names scope ctx a (constant (witness k)) h e = cc
neutral_negated names scope ctx a (constant falsity) h e = cc
neutral_negated names scope ctx a (constant negation) h e = let same : arrow formula formula ≡ a = cc in inl (sym same, refl)
neutral_negated names scope ctx a (constant implication) h e = cc
neutral_negated names scope ctx a (constant (all b)) h e = cc
neutral_negated names scope ctx a (constant (equality b)) h e = cc
neutral_negated names scope ctx a (constant (choice b)) h e = cc
neutral_negated names scope ctx a (constant (description b)) h e = cc
neutral_negated names scope ctx a (lam c s) h e = absurd h
neutral_negated names scope ctx a (app s u) h e = go (neutral_negated names scope ctx (arrow h.0 a) s h.1 e)
  where
    go : IsNegation (arrow h.0 a) s → IsNegation a (app s u)
    go (inl q) = let r = q.0 in let same : a ≡ formula = cc in inr (same, subst (λ x. plain.is_negated (app x u) ≡ true) (sym q.1) refl)
    go (inr q) = let r = q.0 in cc

-- the head of a literal's atom isn't negation
unsigned : (names : Names) (scope : Scope) (t : Lambda) → IsCanonical scope [] formula t → plain.is_negated t ≡ false → text.is_negated_text (named_term names t) ≡ false
unsigned names scope (bound k) h e = refl
unsigned names scope (constant c) h e = constant_unsigned c h.1
  where
    constant_unsigned : (c : Constant) → constant_type scope c ≡ Some formula → text.is_negated_text (named_term names (constant c)) ≡ false
    constant_unsigned (name k) t = refl
    constant_unsigned (witness k) t = refl
    constant_unsigned falsity t = refl
    constant_unsigned negation t = cc
    constant_unsigned implication t = refl
    constant_unsigned (all b) t = refl
    constant_unsigned (equality b) t = refl
    constant_unsigned (choice b) t = refl
    constant_unsigned (description b) t = refl
unsigned names scope (lam c s) h e = refl
unsigned names scope (app s u) h e = go (text.is_negated_text (named_term names s)) refl
  where
    go : (b : Bool) → text.is_negated_text (named_term names s) ≡ b → text.is_negated_text (named_term names s) ≡ false
    go false k = k
    go true k = by (neutral_negated names scope [] (arrow h.1.0 formula) s h.1.1 k)
      where
        by : IsNegation (arrow h.1.0 formula) s → text.is_negated_text (named_term names s) ≡ false
        by (inl q) = let bad : plain.is_negated (app s u) ≡ true = subst (λ x. plain.is_negated (app x u) ≡ true) (sym q.1) refl in cc
        by (inr q) = let r = q.0 in cc

module _ (names : Names) (words : AreWords names) (scope : Scope) (all_named : NamesAll names scope) (few : length scope.witnesses ≤ 2 ^ 32) where
  mutual
    canonical_text : (ctx : List SimpleType) (a : SimpleType) (t : Lambda) → length ctx + depth t ≤ term_limit → IsCanonical scope ctx a t → IsTerm (named_term names t)
    canonical_text ctx a (bound k) small h = let within = slice_get_within ctx k a h.1 in omega (arith, small, within)
    canonical_text ctx a (constant c) small h = constant_word names words scope c a few h.1 (constant_named names scope all_named c a h.1)
    canonical_text ctx (base k) (lam c s) small h = absurd h.1
    canonical_text ctx (arrow d b) (lam c s) small h = (type_word names words c (type_named names scope all_named c h.0), canonical_text (c ∷ ctx) b s (omega (arith, small)) h.1.1)
    canonical_text ctx a (app s u) small h =
        let first = max_first (depth s) (suc (depth u)) in
        let second = max_second (depth s) (suc (depth u)) in
        (neutral_text ctx (arrow h.1.0 a) s (omega (arith, small, first)) h.1.1, canonical_text ctx h.1.0 u (omega (arith, small, second)) h.1.2)

    neutral_text : (ctx : List SimpleType) (a : SimpleType) (t : Lambda) → length ctx + depth t ≤ term_limit → IsNeutral scope ctx a t → IsSpine (named_term names t)
    neutral_text ctx a (bound k) small h = let within = slice_get_within ctx k a h in omega (arith, small, within)
    neutral_text ctx a (constant c) small h = constant_word names words scope c a few h (constant_named names scope all_named c a h)
    neutral_text ctx a (lam c s) small h = absurd h
    neutral_text ctx a (app s u) small h =
        let first = max_first (depth s) (suc (depth u)) in
        let second = max_second (depth s) (suc (depth u)) in
        (neutral_text ctx (arrow h.0 a) s (omega (arith, small, first)) h.1, canonical_text ctx h.0 u (omega (arith, small, second)) h.2)

  term_written : (a : SimpleType) (t : Lambda) → IsCanonical scope [] a t → IsSmallTerm t → IsWithinLimits (named_term names t)
  term_written a t h small = record {
    is_term = canonical_text [] a t (let d = small.terms in omega (arith, d)) h;
    within = let n = term_nests names scope [] a t h in let d = small.terms in let e = small.types in omega (arith, n, d, e);
  }

  literal_written : (l : Literal) → plain.IsLiteral scope l → IsSmallTerm l.atom → IsLiteralText (named_literal names l)
  literal_written l h small = record { atom = term_written formula l.atom h.formula small; unsigned = unsigned names scope l.atom h.formula h.unsigned }

  branch_written : (ls : List Literal) → IsBranch scope ls → AreSmallLiterals ls → AllByRecursion IsLiteralText (map (named_literal names) ls)
  branch_written [] h small = tt
  branch_written (l ∷ ls) h small = (literal_written l h.0 small.0, branch_written ls h.1 small.1)

  rule_written : (r : PlainRule) → IsTypedUse scope r → IsSmallRule r → IsRule (named_rule names r)
  rule_written (AtOne k i) h small = small
  rule_written (AtTwo k i j) h small = small
  rule_written (AllPos i u) h small = (small.0, term_written h.0 u h.1 small.1)
  rule_written (WithPredicate k f) h small = term_written (predicate h.0) f h.1 small
  rule_written (Cut l) h small = literal_written l h small

  lines_written : (rows : List Row) (earlier lines : List Line) → AreRightAfter scope rows earlier lines → AllByRecursion IsSmallLine lines → AllByRecursion IsLine (map (named_line names) lines)
  lines_written rows earlier [] h small = tt
  lines_written rows earlier (l ∷ lines) h small = (
    record { branch = branch_written l.branch h.0.typed.0 small.0.branch; rule = rule_written l.rule h.0.typed.1 small.0.rule; children = small.0.children },
    lines_written rows (earlier ++ l ∷ []) lines h.1 small.1,
  )

rows_written : (names : Names) (words : AreWords names) (scope : Scope) (n : NamesAll names scope) (earlier rows : List Row) → length earlier + length rows ≤ 2 ^ 32 → IsTableAfter scope earlier rows → AllByRecursion (λ (row : Row). IsSmallTerm row.predicate) rows → AllByRecursion IsWithinLimits (map (λ (row : Row). named_term names row.predicate) rows)
rows_written names words scope n earlier [] few h small = tt
rows_written names words scope n earlier (r ∷ rows) few h small =
    let own = length-map earlier (λ (q : Row). q.type) in
    let more = length-append earlier (r ∷ []) in (
      term_written names words (with_rows scope earlier) (record { bases = n.bases; constants = n.constants }) (omega (arith, few, own)) (predicate r.type) r.predicate h.0 small.0,
      rows_written names words scope n (earlier ++ r ∷ []) rows (omega (arith, few, more)) h.2 small.1,
    )

-- the names at places of the list
taken_words : (names : Names) → AreWords names → (taken : List ℕ) → ArePlaces names taken → AllByRecursion IsTextName (map (name_numbered names.constants) taken)
taken_words names words [] h = tt
taken_words names words (k ∷ taken) h = (word_at names.constants k words.constants h.0, taken_words names words taken h.1)

pub has_text : (names : Names) (scope : Scope) → NamesAll names scope → AreWords names → (taken : List ℕ) → ArePlaces names taken → (start : List Literal) (r : Refutation) → IsAccepted scope start r → IsSmall r → HasText (named_refutation names taken r)
has_text names scope n words taken places start r h small =
    let few = small.row_numbers in
    let witnesses = length-map r.witnesses (λ (q : Row). q.type) in
    let rows = length-map r.witnesses (λ (row : Row). named_term names row.predicate) in
    let lines = length-map r.lines (named_line names) in
    let numbers = small.lines.numbers in
    record {
      names = taken_words names words taken places;
      rows = rows_written names words scope n [] r.witnesses (omega (arith, few)) h.table small.rows;
      row_numbers = omega (arith, few, rows);
      lines = lines_written names words (with_rows scope r.witnesses) (record { bases = n.bases; constants = n.constants }) (omega (arith, few, witnesses)) r.witnesses [] r.lines h.lines small.lines.each;
      line_numbers = omega (arith, numbers, lines);
    }
