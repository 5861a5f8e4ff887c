-- A refutation keeps right with those rows of its witness table alone that its lines need.
use Rattle.std.proofs.Common.{◌≡◌, ◌<◌, ◌≤◌, ◌+◌, cond, not, ℕ, zero, suc, Bool, true, false, List, [], ◌∷◌, ◌++◌, map, take, Option, Some, slice_get, Contains, refl, sym, ap, ◌∙◌, subst, arith}
use Rattle.std.specs.List.{position_or_len}
use Rattle.std.proofs.lemmas.List.Elements.{Contains-append_left, Contains-append_right}
use Rattle.stt_core.specs.SimpleType.{SimpleType, base, arrow, formula, predicate}
use Rattle.stt_core.specs.Lambda.{Constant, name, witness, falsity, negation, implication, all, equality, choice, description, Lambda, bound, constant, lam, app, applied}
use Rattle.stt_core.specs.Typing.{Scope, constant_type}
use Rattle.stt_core.specs.Canonical.{IsCanonical, IsNeutral}
use Rattle.stt_core.specs.SameTerm.{same_term}
use Rattle.stt_core.proofs.SameTerms.{same_term-refl, same_term-true}
use Rattle.stt_core.proofs.ListLaws.{map-append}
use Rattle.tableau_calculus.specs.Literals.{Literal, IsLiteral, IsBranch}
use Rattle.tableau_calculus.specs.Witnesses.{Row, with_rows, IsTableAfter, IsTable}
use Rattle.tableau_calculus.specs.RuleUses.{principals_of}
use Rattle.tableau_calculus.specs.Rules.{PlainRule, Rule, AreAt, alone_rule, close_rule, all_pos_rule, all_neg_rule, mat_rule, dec_rule, con_rule, cho_rule, des_rule, cut_rule}
use Rattle.tableau_calculus.specs.Accepted.{IsTypedUse, IsRightLine, AreRightAfter}
use Rattle.tableau_calculus.specs.declared.rule_use.RuleUse.TheVariants.{AtOne, AtTwo, AllPos, WithPredicate, Cut}
use Rattle.tableau_calculus.specs.declared.refutation.Line.{Line}
use Rattle.tableau_calculus.proofs.ListLaws.{contains-first}
use Rattle.rebuild_spec.specs.NeededRows.{rows_for_constant, rows_for, rows_for_all, rows_up_to_principal, rows_for_rule, rows_for_lines}

-- the first rows of a witness table are one
table-take : (scope : Scope) (n : ℕ) (earlier rows : List Row) → IsTableAfter scope earlier rows → IsTableAfter scope earlier (take n rows)
table-take scope zero earlier rows h = tt
table-take scope (suc n) earlier [] h = tt
table-take scope (suc n) earlier (r ∷ rows) h = (h.0, h.1, table-take scope n (earlier ++ r ∷ []) rows h.2)

-- a row doesn't have the predicate of an earlier one
apart : (scope : Scope) (earlier rows : List Row) (j : ℕ) (r : Row) → IsTableAfter scope earlier rows → slice_get rows j ≡ Some r → Contains (map (λ (q : Row). q.predicate) earlier) r.predicate → ⊥
apart scope earlier [] j r h e c = cc
apart scope earlier (q ∷ rows) zero r h e c = let same : q ≡ r = cc in h.1 (subst (λ x. Contains (map (λ (q : Row). q.predicate) earlier) x.predicate) (sym same) c)
apart scope earlier (q ∷ rows) (suc j) r h e c =
    apart scope (earlier ++ q ∷ []) rows j r h.2 e
    (subst (λ l. Contains l r.predicate) (sym (map-append (λ (q : Row). q.predicate) earlier (q ∷ []))) (Contains-append_left (map (λ (q : Row). q.predicate) earlier) (q.predicate ∷ []) r.predicate c))

-- a row of a witness table is found by its predicate
row_found : (scope : Scope) (earlier rows : List Row) (k : ℕ) (r : Row) → IsTableAfter scope earlier rows → slice_get rows k ≡ Some r → position_or_len (λ q. same_term r.predicate q.predicate) rows ≡ k
row_found scope earlier [] k r h e = cc
row_found scope earlier (q ∷ rows) zero r h e =
    let same : q ≡ r = cc in
    ap (λ b. cond (not b) (1 + position_or_len (λ q. same_term r.predicate q.predicate) rows) 0) (subst (λ x. same_term r.predicate x.predicate ≡ true) (sym same) (same_term-refl r.predicate))
row_found scope earlier (q ∷ rows) (suc k) r h e = go (same_term r.predicate q.predicate) refl (row_found scope (earlier ++ q ∷ []) rows k r h.2 e)
  where
    go : (b : Bool) → same_term r.predicate q.predicate ≡ b → position_or_len (λ q. same_term r.predicate q.predicate) rows ≡ k → position_or_len (λ q. same_term r.predicate q.predicate) (q ∷ rows) ≡ suc k
    go true same rest =
        let one : r.predicate ≡ q.predicate = same_term-true r.predicate q.predicate same in
        absurd (apart scope (earlier ++ q ∷ []) rows k r h.2 e
        (subst (λ l. Contains l r.predicate) (sym (map-append (λ (q : Row). q.predicate) earlier (q ∷ []))) (Contains-append_right (map (λ (q : Row). q.predicate) earlier) (q.predicate ∷ []) r.predicate (subst (λ x. Contains (q.predicate ∷ []) x) (sym one) (contains-first q.predicate [])))))
    go false other rest =
        let more : 1 + position_or_len (λ q. same_term r.predicate q.predicate) rows ≡ suc k = omega (arith, rest) in
        ap (λ b. cond (not b) (1 + position_or_len (λ q. same_term r.predicate q.predicate) rows) 0) other ∙ more

get-take : {A : Type 0} (n : ℕ) (xs : List A) (k : ℕ) (x : A) → k < n → slice_get xs k ≡ Some x → slice_get (take n xs) k ≡ Some x
get-take zero xs k x l h = absurd (omega (arith, l))
get-take (suc n) [] k x l h = cc
get-take (suc n) (y ∷ xs) zero x l h = h
get-take (suc n) (y ∷ xs) (suc k) x l h = get-take n xs k x (omega (arith, l)) h

map-take : {A B : Type 0} (f : A → B) (n : ℕ) (xs : List A) → map f (take n xs) ≡ take n (map f xs)
map-take f zero xs = refl
map-take f (suc n) [] = refl
map-take f (suc n) (x ∷ xs) = ap (λ l. f x ∷ l) (map-take f n xs)

-- the head of a term needs no more rows than the term
head_rows : (t : Lambda) (us : List Lambda) → rows_for t ≤ rows_for (applied t us)
head_rows t [] = omega arith
head_rows t (u ∷ us) = let h = head_rows (app t u) us in omega (arith, h)

-- a constant keeps its type where its row is there
get-take_same : {A : Type 0} (n : ℕ) (xs : List A) (k : ℕ) → k < n → slice_get (take n xs) k ≡ slice_get xs k
get-take_same zero xs k l = absurd (omega (arith, l))
get-take_same (suc n) [] k l = refl
get-take_same (suc n) (y ∷ xs) zero l = refl
get-take_same (suc n) (y ∷ xs) (suc k) l = get-take_same n xs k (omega (arith, l))

module _ (scope : Scope) (rows : List Row) (n : ℕ) where
  constant_kept : (c : Constant) (o : Option SimpleType) → rows_for_constant c ≤ n → constant_type (with_rows scope rows) c ≡ o → constant_type (with_rows scope (take n rows)) c ≡ o
  constant_kept (witness k) o l h = ap (λ ts. slice_get ts k) (map-take (λ (r : Row). r.type) n rows) ∙ get-take_same n (map (λ (r : Row). r.type) rows) k (omega (arith, l)) ∙ h
  constant_kept (name k) o l h = h
  constant_kept falsity o l h = h
  constant_kept negation o l h = h
  constant_kept implication o l h = h
  constant_kept (all a) o l h = h
  constant_kept (equality a) o l h = h
  constant_kept (choice a) o l h = h
  constant_kept (description a) o l h = h

  mutual
    term_kept : (ctx : List SimpleType) (a : SimpleType) (t : Lambda) → rows_for t ≤ n → IsCanonical (with_rows scope rows) ctx a t → IsCanonical (with_rows scope (take n rows)) ctx a t
    term_kept ctx a (bound k) l h = h
    term_kept ctx a (constant c) l h = (h.0, constant_kept c (Some a) l h.1)
    term_kept ctx a (app s u) l h =
        let first : rows_for s ≤ n = omega (arith, l) in
        let second : rows_for u ≤ n = omega (arith, l) in
        (h.0, (h.1.0, neutral_kept ctx (arrow h.1.0 a) s first h.1.1, term_kept ctx h.1.0 u second h.1.2))
    term_kept ctx (base m) (lam c s) l h = (h.0, h.1)
    term_kept ctx (arrow d b) (lam c s) l h = (h.0, (h.1.0, term_kept (c ∷ ctx) b s l h.1.1))

    neutral_kept : (ctx : List SimpleType) (a : SimpleType) (t : Lambda) → rows_for t ≤ n → IsNeutral (with_rows scope rows) ctx a t → IsNeutral (with_rows scope (take n rows)) ctx a t
    neutral_kept ctx a (bound k) l h = h
    neutral_kept ctx a (constant c) l h = constant_kept c (Some a) l h
    neutral_kept ctx a (app s u) l h =
        let first : rows_for s ≤ n = omega (arith, l) in
        let second : rows_for u ≤ n = omega (arith, l) in
        (h.0, neutral_kept ctx (arrow h.0 a) s first h.1, term_kept ctx h.0 u second h.2)
    neutral_kept ctx a (lam c s) l h = h

  literal_kept : (l : Literal) → rows_for l.atom ≤ n → IsLiteral (with_rows scope rows) l → IsLiteral (with_rows scope (take n rows)) l
  literal_kept l b h = record { formula = term_kept [] formula l.atom b h.formula; unsigned = h.unsigned }

  branch_kept : (branch : List Literal) → rows_for_all branch ≤ n → IsBranch (with_rows scope rows) branch → IsBranch (with_rows scope (take n rows)) branch
  branch_kept [] b h = tt
  branch_kept (l ∷ branch) b h =
      let first : rows_for l.atom ≤ n = omega (arith, b) in
      let second : rows_for_all branch ≤ n = omega (arith, b) in
      (literal_kept l first h.0, branch_kept branch second h.1)

  -- the head of a spine, whose row is there where those of the spine are
  head_below : (c : Constant) (us : List Lambda) → rows_for (applied (constant c) us) ≤ n → rows_for_constant c ≤ n
  head_below c us l = let h = head_rows (constant c) us in omega (arith, h, l)

  -- the literals at these places need no more rows than the branch
  at_below : (branch : List Literal) (is : List ℕ) (ls : List Literal) → AreAt branch is ls → rows_for_all branch ≤ n → rows_for_all ls ≤ n
  at_below branch [] [] h b = omega arith
  at_below branch [] (l ∷ ls) h b = absurd h
  at_below branch (i ∷ is) [] h b = omega arith
  at_below branch (i ∷ is) (l ∷ ls) h b =
      let first = got branch i l h.0 b in
      let second = at_below branch is ls h.1 b in
      omega (arith, first, second)
    where
      got : (branch : List Literal) (i : ℕ) (l : Literal) → slice_get branch i ≡ Some l → rows_for_all branch ≤ n → rows_for l.atom ≤ n
      got [] i l h b = cc
      got (k ∷ branch) zero l h b = let same : k ≡ l = cc in let c : rows_for k.atom ≤ n = omega (arith, b) in subst (λ x. rows_for x.atom ≤ n) same c
      got (k ∷ branch) (suc i) l h b = got branch i l h (omega (arith, b))

  module _ (table : IsTable scope rows) where
    row_kept : (k : ℕ) (r : Row) → slice_get rows k ≡ Some r → suc (position_or_len (λ q. same_term r.predicate q.predicate) rows) ≤ n → slice_get (take n rows) k ≡ Some r
    row_kept k r h b = let found = row_found scope [] rows k r table h in get-take n rows k r (omega (arith, found, b)) h

    rule_kept : (branch : List Literal) (rule : PlainRule) (principals : List Literal) (alternatives : List (List Literal)) → Rule (with_rows scope rows) rows rule principals alternatives → AreAt branch (principals_of rule) principals → rows_for_all principals ≤ n → rows_for_rule rows branch rule ≤ n → Rule (with_rows scope (take n rows)) (take n rows) rule principals alternatives
    rule_kept branch rule principals alternatives (alone_rule i kind l as' h) at below few = alone_rule i kind l as' h
    rule_kept branch rule principals alternatives (close_rule i j l) at below few = close_rule i j l
    rule_kept branch rule principals alternatives (all_pos_rule i a f u h) at below few = all_pos_rule i a f u (term_kept [] a u few h)
    rule_kept branch rule principals alternatives (all_neg_rule i k a f h) at below few = all_neg_rule i k a f (row_kept k (record { type = a; predicate = f }) h (subst (λ o. rows_up_to_principal rows o ≤ n) at.0 few))
    rule_kept branch rule principals alternatives (mat_rule i j c a s t ss ts h0 h1) at below few = mat_rule i j c a s t ss ts h0 (constant_kept c (Some a) (head_below c (s ∷ ss) (omega (arith, below))) h1)
    rule_kept branch rule principals alternatives (dec_rule i m c a s t ss ts h0 h1) at below few = dec_rule i m c a s t ss ts h0 (constant_kept c (Some a) (head_below c (s ∷ ss) (omega (arith, below))) h1)
    rule_kept branch rule principals alternatives (con_rule i j n s t u v) at below few = con_rule i j n s t u v
    rule_kept branch rule principals alternatives (cho_rule a f h) at below few = cho_rule a f (term_kept [] (predicate a) f few h)
    rule_kept branch rule principals alternatives (des_rule a f h) at below few = des_rule a f (term_kept [] (predicate a) f few h)
    rule_kept branch rule principals alternatives (cut_rule l h) at below few = cut_rule l (literal_kept l few h)

    use_kept : (branch : List Literal) (rule : PlainRule) → rows_for_rule rows branch rule ≤ n → IsTypedUse (with_rows scope rows) rule → IsTypedUse (with_rows scope (take n rows)) rule
    use_kept branch (AtOne kind i) b h = tt
    use_kept branch (AtTwo kind i j) b h = tt
    use_kept branch (AllPos i u) b h = (h.0, term_kept [] h.0 u b h.1)
    use_kept branch (WithPredicate kind f) b h = (h.0, term_kept [] (predicate h.0) f b h.1)
    use_kept branch (Cut l) b h = literal_kept l b h

    line_kept : (earlier : List Line) (l : Line) → rows_for_all l.branch ≤ n → rows_for_rule rows l.branch l.rule ≤ n → IsRightLine (with_rows scope rows) rows earlier l → IsRightLine (with_rows scope (take n rows)) (take n rows) earlier l
    line_kept earlier l b c h = record {
      typed = (branch_kept l.branch b h.typed.0, use_kept l.branch l.rule c h.typed.1);
      alternatives = h.alternatives;
      instance = record {
        principals = h.instance.principals;
        at_places = h.instance.at_places;
        fits = rule_kept l.branch l.rule h.instance.principals h.alternatives h.instance.fits h.instance.at_places (at_below l.branch (principals_of l.rule) h.instance.principals h.instance.at_places b) c;
      };
      children = h.children;
    }

    pub lines_kept : (earlier lines : List Line) → rows_for_lines rows lines ≤ n → AreRightAfter (with_rows scope rows) rows earlier lines → AreRightAfter (with_rows scope (take n rows)) (take n rows) earlier lines
    lines_kept earlier [] b h = tt
    lines_kept earlier (l ∷ lines) b h =
        let first : rows_for_all l.branch ≤ n = omega (arith, b) in
        let second : rows_for_rule rows l.branch l.rule ≤ n = omega (arith, b) in
        let third : rows_for_lines rows lines ≤ n = omega (arith, b) in
        (line_kept earlier l first second h.0, lines_kept (earlier ++ l ∷ []) lines third h.1)

    pub table_kept : IsTable scope (take n rows)
    table_kept = table-take scope n [] rows table
