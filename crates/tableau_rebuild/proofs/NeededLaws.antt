-- How many rows of the witness table terms and lines need.
use Rattle.std.proofs.Common.{◌≡◌, ◌<◌, ◌≤◌, ◌+◌, max, if◌then◌else◌, cond, not, nat_lt, nat_eq, ℕ, suc, Bool, true, false, List, [], ◌∷◌, ◌++◌, map, take, length, Option, Some, None, slice_get, position, refl, sym, ap, ap₂, ◌∙◌, subst, inl, inr, arith}
use Rattle.std.specs.List.{All, position_or_len}
use Rattle.std.proofs.lemmas.Bool.{false≢true, eqb-true, eq-eqb, ltb-false}
use Rattle.std.proofs.lemmas.List.Sums.{prefix_len-le-length}
use Rattle.std.proofs.lemmas.List.Elements.{All-head, All-tail}
use Rattle.stt_core.specs.Lambda.{Constant, name, witness, falsity, negation, implication, all, equality, choice, description, Lambda, bound, constant, lam, app, applied}
use Rattle.stt_core.specs.SimpleType.{formula}
use Rattle.stt_core.specs.declared.nf.Head.{Head}
use Rattle.stt_core.specs.declared.nf.Head.TheVariants as head
use Rattle.stt_core.specs.View.{the_head}
use Rattle.stt_core.specs.Occurrence.{Occurs}
use Rattle.stt_core.specs.SameTerm.{same_term}
use Rattle.stt_core.proofs.ListLaws.{take_got, map-append}
use Rattle.stt_core.proofs.SameTerms.{same_term-refl, same_term-true}
use Rattle.tableau_calculus.specs.Literals.{Literal}
use Rattle.tableau_calculus.specs.Witnesses.{Row}
use Rattle.tableau_calculus.specs.declared.refutation.Line.{Line}
use Rattle.term_bank.specs.Content.{Content}
use Rattle.term_bank.specs.Terms.{term_at}
use Rattle.term_bank.specs.Laws.{EqualIdsForEqualTerms}
use Rattle.witness_names.specs.Rows.{binder_of, rows_of}
use Rattle.rebuild_spec.specs.NeededRows.{rows_for_constant, rows_for, rows_for_all, rows_up_to, rows_for_rule, rows_for_lines}
use Rattle.sat_base.specs.declared.literal.SatLit.{SatLit}
use Rattle.search_spec.specs.Numbered.{literal_at}
use Rattle.rebuild_spec.specs.Input.{literals_of}
use Rattle.tableau_rebuild.specs.Internal.LineParts.{first_in}
use Rattle.tableau_rebuild.specs.Internal.Needed.{is_quantifier}

-- TERMS

-- a witness that occurs needs its row
constant_least : (c : Constant) (w : ℕ) → c ≡ witness w → suc w ≤ rows_for_constant c
constant_least c w e = let h : rows_for_constant c ≡ suc w = ap rows_for_constant e in omega (arith, h)

rows_least : (t : Lambda) (w : ℕ) → Occurs (witness w) t → suc w ≤ rows_for t
rows_least (bound k) w o = absurd o
rows_least (constant c) w o = constant_least c w o
rows_least (lam a s) w o = rows_least s w o
rows_least (app s u) w (inl o) = let h = rows_least s w o in omega (arith, h)
rows_least (app s u) w (inr o) = let h = rows_least u w o in omega (arith, h)

-- no more rows are needed than for the witnesses that occur
constant_most : (c : Constant) (n : ℕ) → ((w : ℕ) → c ≡ witness w → suc w ≤ n) → rows_for_constant c ≤ n
constant_most (name k) n h = omega arith
constant_most (witness k) n h = h k refl
constant_most falsity n h = omega arith
constant_most negation n h = omega arith
constant_most implication n h = omega arith
constant_most (all a) n h = omega arith
constant_most (equality a) n h = omega arith
constant_most (choice a) n h = omega arith
constant_most (description a) n h = omega arith

rows_most : (t : Lambda) (n : ℕ) → ((w : ℕ) → Occurs (witness w) t → suc w ≤ n) → rows_for t ≤ n
rows_most (bound k) n h = omega arith
rows_most (constant c) n h = constant_most c n h
rows_most (lam a s) n h = rows_most s n h
rows_most (app s u) n h =
    let first = rows_most s n (λ w o. h w (inl o)) in
    let second = rows_most u n (λ w o. h w (inr o)) in
    omega (arith, first, second)

module _ (t : Lambda) (greatest : Option ℕ) (is : (w : ℕ) → Occurs (witness w) t → (m : ℕ) × (greatest ≡ Some m) × (w ≤ m)) where
  -- the rows of a term whose greatest witness this is, or that has none
  pub rows_some : (w : ℕ) → greatest ≡ Some w → Occurs (witness w) t → w + 1 ≡ rows_for t
  rows_some w e o =
      let least = rows_least t w o in
      let most = rows_most t (suc w) (λ v p. at_most v (is v p)) in
      omega (arith, least, most)
    where
      at_most : (v : ℕ) → (m : ℕ) × (greatest ≡ Some m) × (v ≤ m) → suc v ≤ suc w
      at_most v h = let same : h.0 ≡ w = cc in let l = h.2 in omega (arith, same, l)

  pub rows_none : greatest ≡ None → 0 ≡ rows_for t
  rows_none e = let most = rows_most t 0 (λ v p. none v (is v p)) in omega (arith, most)
    where
      none : (v : ℕ) → (m : ℕ) × (greatest ≡ Some m) × (v ≤ m) → suc v ≤ 0
      none v h = let e : None ≡ Some h.0 = cc in cc

-- the first of places
pub first_in-map : {A : Type 0} (f : A → ℕ) (xs : List A) (x : A) → slice_get xs 0 ≡ Some x → first_in (map f xs) ≡ f x
first_in-map f [] x h = cc
first_in-map f (y ∷ xs) x h = let same : y ≡ x = cc in ap f same

-- BRANCHES AND LINES

pub rows_for_all-push : (ls : List Literal) (l : Literal) → rows_for_all (ls ++ l ∷ []) ≡ max (rows_for_all ls) (rows_for l.atom)
rows_for_all-push [] l = omega arith
rows_for_all-push (k ∷ ls) l = let rest = rows_for_all-push ls l in omega (arith, rest)

-- a literal of a branch more
pub branch_more : (atoms : List Lambda) (branch : List SatLit) (i : ℕ) (l : SatLit) (m n more : ℕ) → slice_get branch i ≡ Some l → m ≡ rows_for_all (literals_of atoms (take i branch)) → n ≡ rows_for (literal_at atoms l).atom → more ≡ max m n → more ≡ rows_for_all (literals_of atoms (take (i + 1) branch))
branch_more atoms branch i l m n more at e f g =
    g
    ∙ ap (λ x. max x n) e
    ∙ ap (max (rows_for_all (literals_of atoms (take i branch)))) f
    ∙ sym (ap (λ ls. rows_for_all (literals_of atoms ls)) (take_got branch i l at) ∙ ap rows_for_all (map-append (literal_at atoms) (take i branch) (l ∷ [])) ∙ rows_for_all-push (literals_of atoms (take i branch)) (literal_at atoms l))

pub rows_for_lines-push : (rows : List Row) (ls : List Line) (l : Line) → rows_for_lines rows (ls ++ l ∷ []) ≡ max (rows_for_lines rows ls) (max (rows_for_all l.branch) (rows_for_rule rows l.branch l.rule))
rows_for_lines-push rows [] l = omega arith
rows_for_lines-push rows (k ∷ ls) l = let rest = rows_for_lines-push rows ls l in omega (arith, rest)

-- a line more
pub lines_more : (rows : List Row) (ls new : List Line) (l : Line) (m n more : ℕ) → new ≡ ls ++ l ∷ [] → m ≡ rows_for_lines rows ls → n ≡ max (rows_for_all l.branch) (rows_for_rule rows l.branch l.rule) → more ≡ max m n → more ≡ rows_for_lines rows new
lines_more rows ls new l m n more e f g h =
    h ∙ ap (λ x. max x n) f ∙ ap (max (rows_for_lines rows ls)) g ∙ sym (ap (rows_for_lines rows) e ∙ rows_for_lines-push rows ls l)

-- QUANTIFIED FORMULAS

-- a head with one argument
pub rows_up_to-one : (rows : List Row) (h u : Lambda) → rows_up_to rows (app h u) ≡ (if is_quantifier h then suc (position_or_len (λ r. same_term u r.predicate) rows) else 0)
rows_up_to-one rows (bound k) u = refl
rows_up_to-one rows (constant (name k)) u = refl
rows_up_to-one rows (constant (witness k)) u = refl
rows_up_to-one rows (constant falsity) u = refl
rows_up_to-one rows (constant negation) u = refl
rows_up_to-one rows (constant implication) u = refl
rows_up_to-one rows (constant (all a)) u = refl
rows_up_to-one rows (constant (equality a)) u = refl
rows_up_to-one rows (constant (choice a)) u = refl
rows_up_to-one rows (constant (description a)) u = refl
rows_up_to-one rows (lam a s) u = refl
rows_up_to-one rows (app s v) u = refl

rows_up_to-more : (rows : List Row) (s u v : Lambda) (us : List Lambda) → rows_up_to rows (applied (app (app s u) v) us) ≡ 0
rows_up_to-more rows s u v [] = refl
rows_up_to-more rows s u v (w ∷ us) = rows_up_to-more rows (app s u) v w us

-- a head with another number of arguments
pub rows_up_to-other : (rows : List Row) (h : Lambda) (us : List Lambda) → rows_up_to rows h ≡ 0 → (length us ≡ 1 → ⊥) → rows_up_to rows (applied h us) ≡ 0
rows_up_to-other rows h [] none other = none
rows_up_to-other rows h (u ∷ []) none other = absurd (other (omega arith))
rows_up_to-other rows h (u ∷ v ∷ us) none other = rows_up_to-more rows h u v us

module _ (b : Content) (differ : EqualIdsForEqualTerms b) (p : ℕ) (inside : p < length b.terms) where
  one_row : (id : ℕ) → id < length b.terms → same_term (term_at b.terms p) (term_at b.terms id) ≡ nat_eq p id
  one_row id l = go (nat_eq p id) refl (same_term (term_at b.terms p) (term_at b.terms id)) refl
    where
      go : (x : Bool) → nat_eq p id ≡ x → (y : Bool) → same_term (term_at b.terms p) (term_at b.terms id) ≡ y → y ≡ x
      go true e true f = refl
      go false e false f = refl
      go true e false f =
          let same : p ≡ id = eqb-true p id e in
          absurd (false≢true (sym f ∙ subst (λ k. same_term (term_at b.terms p) (term_at b.terms k) ≡ true) same (same_term-refl (term_at b.terms p))))
      go false e true f =
          let same = (differ p id inside l).1 (same_term-true (term_at b.terms p) (term_at b.terms id) f) in
          absurd (false≢true (sym e ∙ eq-eqb p id same))

  -- a predicate's row has the place of its number
  pub row_place : (ids : List ℕ) → All (λ id. id < length b.terms) ids → position_or_len (λ r. same_term (term_at b.terms p) r.predicate) (rows_of b.terms ids) ≡ position_or_len (nat_eq p) ids
  row_place [] h = refl
  row_place (id ∷ ids) h =
      let P : ℕ → Type 0 = λ i. i < length b.terms in
      ap₂ (λ x n. cond (not x) (1 + n) 0) (one_row id (All-head P id ids h)) (row_place ids (All-tail P id ids h))

  -- where its number is found, or where it isn't
  pub row_found : (ids : List ℕ) → All (λ id. id < length b.terms) ids → (w : ℕ) → position (nat_eq p) ids ≡ Some w → w ≡ position_or_len (λ r. same_term (term_at b.terms p) r.predicate) (rows_of b.terms ids)
  row_found ids h w e = go (nat_lt (position_or_len (nat_eq p) ids) (length ids)) e ∙ sym (row_place ids h)
    where
      go : (x : Bool) → cond x (Some (position_or_len (nat_eq p) ids)) None ≡ Some w → w ≡ position_or_len (nat_eq p) ids
      go true f = cc
      go false f = cc

  pub row_missing : (ids : List ℕ) → All (λ id. id < length b.terms) ids → position (nat_eq p) ids ≡ None → length ids ≡ position_or_len (λ r. same_term (term_at b.terms p) r.predicate) (rows_of b.terms ids)
  row_missing ids h e = go (nat_lt (position_or_len (nat_eq p) ids) (length ids)) refl e ∙ sym (row_place ids h)
    where
      go : (x : Bool) → nat_lt (position_or_len (nat_eq p) ids) (length ids) ≡ x → cond x (Some (position_or_len (nat_eq p) ids)) None ≡ None → length ids ≡ position_or_len (nat_eq p) ids
      go true i f = cc
      go false i f =
          let most = prefix_len-le-length (λ x. not (nat_eq p x)) ids in
          let least = ltb-false (position_or_len (nat_eq p) ids) (length ids) i in
          omega (arith, most, least)

-- the head of a term needs no row for what it says everywhere
pub head_alone : (rows : List Row) (h : Head) → rows_up_to rows (the_head h) ≡ 0
head_alone rows (head.Bound k) = refl
head_alone rows (head.Name k) = refl
head_alone rows (head.Wit k) = refl
head_alone rows head.False = refl
head_alone rows head.Not = refl
head_alone rows head.Imp = refl
head_alone rows (head.All a) = refl
head_alone rows (head.Eq a) = refl
head_alone rows (head.Choice a) = refl
head_alone rows (head.Desc a) = refl

-- the binder of a head with arguments
binder_applied : (s u : Lambda) (us : List Lambda) → binder_of (applied (app s u) us) ≡ formula
binder_applied s u [] = refl
binder_applied s u (v ∷ us) = binder_applied (app s u) v us

pub binder_of-head : (h : Head) (us : List Lambda) → binder_of (applied (the_head h) us) ≡ formula
binder_of-head h (u ∷ us) = binder_applied (the_head h) u us
binder_of-head (head.Bound k) [] = refl
binder_of-head (head.Name k) [] = refl
binder_of-head (head.Wit k) [] = refl
binder_of-head head.False [] = refl
binder_of-head head.Not [] = refl
binder_of-head head.Imp [] = refl
binder_of-head (head.All a) [] = refl
binder_of-head (head.Eq a) [] = refl
binder_of-head (head.Choice a) [] = refl
binder_of-head (head.Desc a) [] = refl

-- one argument
pub one_argument : (terms : List Lambda) (is : List ℕ) (i : ℕ) → length is ≡ 1 → slice_get is 0 ≡ Some i → map (term_at terms) is ≡ term_at terms i ∷ []
one_argument terms [] i l h = cc
one_argument terms (j ∷ []) i l h = let same : j ≡ i = cc in ap (λ k. term_at terms k ∷ []) same
one_argument terms (j ∷ k ∷ is) i l h = absurd (omega (arith, l))

pub first_there : (is : List ℕ) → length is ≡ 1 → (i : ℕ) × (slice_get is 0 ≡ Some i)
first_there [] l = absurd (omega (arith, l))
first_there (i ∷ is) l = (i, refl)
