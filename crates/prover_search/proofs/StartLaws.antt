-- A start, literal by literal.
use Rattle.std.specs.Prelude.{◌≡◌, ◌&&◌, ◌||◌, ◌+◌, ℕ, suc, Bool, true, false, not, List, [], ◌∷◌, ◌++◌, map, filter, length, if◌then◌else◌, refl}
use Rattle.std.specs.List.{list_any}
use Rattle.std.proofs.Common.{sym, ap, ap₂, ◌∙◌, append_assoc, append-nil, length-append, arith}
use Rattle.std.proofs.lemmas.List.Elements.{filter-append}
use Rattle.stt_core.proofs.ListLaws.{map-append}
use Rattle.stt_core.specs.SameTerm.{same_term}
use Rattle.tableau_calculus.specs.Literals.{Literal, opposite}
use Rattle.tableau_calculus.specs.Kinds.{has, same_sign, same_signed, formulas, Kind}
use Rattle.tableau_calculus.proofs.AddedLaws.{same_literal-true}
use Rattle.mode_file.specs.declared.Mode.{Mode}
use Rattle.search_spec.specs.Shallow.{is_shallow_literal}
use Rattle.search_spec.specs.Clauses.{same_clause, with_clauses, instance_clauses}
use Rattle.search_spec.specs.Unsatisfiable.{Clause}
use Rattle.search_spec.specs.Queue.{new_entries}
use Rattle.command_queue.specs.declared.entry.Entry.{Entry}
use Rattle.search_spec.specs.State.{State, Setting, Command, process, due, with_commands}
use Rattle.search_spec.specs.Instances.{with_literals, with_instance}
use Rattle.search_spec.specs.After.{nothing_yet}
use Rattle.search_spec.specs.Heads.{HeadOffers}
use Rattle.prover_search.specs.Internal.Starting.{start_offering}

-- the clauses of an alternative alone, which is a literal
pub alone-clauses : {L : Type 0} (kind : Kind L) (l : L) → kind.same (kind.opposite l) l ≡ false → instance_clauses kind [] ((l ∷ []) ∷ []) ≡ (l ∷ []) ∷ []
alone-clauses {L} kind l e = ap (λ (b : Bool). if not ((b || false) || false) then (l ∷ []) ∷ [] else []) e

sign_differs : (b : Bool) → same_sign (not b) b ≡ false
sign_differs true = refl
sign_differs false = refl

opposite_differs : (l : Literal) → same_signed (opposite l) l ≡ false
opposite_differs l = ap (λ (b : Bool). b && same_term l.atom l.atom) (sign_differs l.positive)

-- the clause of one literal
abbrev pub unit : Literal → Clause
unit l = l ∷ []

same_unit : (b c : Bool) → (if b then true else false) || c ≡ b || c
same_unit true c = refl
same_unit false c = refl

units_have : (l : Literal) (ls : List Literal) → list_any (same_clause formulas (unit l)) (map unit ls) ≡ has formulas ls l
units_have l [] = refl
units_have l (k ∷ ks) = same_unit (same_signed l k) (list_any (same_clause formulas (unit l)) (map unit ks)) ∙ ap (λ b. same_signed l k || b) (units_have l ks)

none_of : (b c : Bool) → (b || c) ≡ false → (b ≡ false) × (c ≡ false)
none_of true c e = cc
none_of false c e = (refl, e)

-- a further unit clause
with_unit : (ls : List Literal) (l : Literal) → has formulas ls l ≡ false → with_clauses formulas (map unit ls) (instance_clauses formulas [] ((l ∷ []) ∷ [])) ≡ map unit (ls ++ l ∷ [])
with_unit ls l e =
    ap (with_clauses formulas (map unit ls)) (alone-clauses formulas l (opposite_differs l))
    ∙ ap (λ (b : Bool). if b then map unit ls else map unit ls ++ unit l ∷ []) (units_have l ls ∙ e)
    ∙ sym (map-append unit ls (l ∷ []))

-- a unit clause that is there already
with_unit_again : (ls : List Literal) (l : Literal) → has formulas ls l ≡ true → with_clauses formulas (map unit ls) (instance_clauses formulas [] ((l ∷ []) ∷ [])) ≡ map unit ls
with_unit_again ls l e =
    ap (with_clauses formulas (map unit ls)) (alone-clauses formulas l (opposite_differs l))
    ∙ ap (λ (b : Bool). if b then map unit ls else map unit ls ++ unit l ∷ []) (units_have l ls ∙ e)

-- PUSHES

waiting_last : (d : Command → ℕ) (n : ℕ) (cs : List Command) (c : Command) → new_entries d n (cs ++ c ∷ []) ≡ new_entries d n cs ++ new_entries d (n + length cs) (c ∷ [])
waiting_last d n [] c = let e : n ≡ n + 0 = omega arith in ap (λ k. new_entries d k (c ∷ [])) e
waiting_last d n (x ∷ cs) c =
    let e : suc n + length cs ≡ n + suc (length cs) = omega arith in
    ap (λ (qs : List (Entry Command)). record { due = d x; number = n; command = x } ∷ qs) (waiting_last d (suc n) cs c ∙ ap (λ k. new_entries d (suc n) cs ++ new_entries d k (c ∷ [])) e)

pushed_last : (mode : Mode) (cs : List Command) (c : Command) (s : State) → with_commands mode (cs ++ c ∷ []) s ≡ with_commands mode (c ∷ []) (with_commands mode cs s)
pushed_last mode cs c s =
    let d = due mode s.moment in
    let lengths : s.pushes + length (cs ++ c ∷ []) ≡ s.pushes + length cs + length (c ∷ []) = omega (arith, length-append cs (c ∷ [])) in
    ap₂ (λ (q : List (Entry Command)) (n : ℕ). record s { queue = q; pushes = n })
    (ap (λ w. s.queue ++ w) (waiting_last d s.pushes cs c) ∙ sym (append_assoc s.queue (new_entries d s.pushes cs) (new_entries d (s.pushes + length cs) (c ∷ []))))
    lengths

none_filtered : (l : Literal) (ls : List Literal) → has formulas ls l ≡ false → has formulas (filter is_shallow_literal ls) l ≡ false
none_filtered l [] e = refl
none_filtered l (k ∷ ks) e = by_test (is_shallow_literal k) (none_filtered l ks (none_of (same_signed l k) (has formulas ks l) e).1)
  where
    by_test : (b : Bool) → has formulas (filter is_shallow_literal ks) l ≡ false → has formulas (if b then k ∷ filter is_shallow_literal ks else filter is_shallow_literal ks) l ≡ false
    by_test true rest = ap₂ (λ x y. x || y) (none_of (same_signed l k) (has formulas ks l) e).0 rest
    by_test false rest = rest

later : (b c : Bool) → c ≡ true → b || c ≡ true
later true c e = refl
later false c e = e

has-filter : (l : Literal) (ls : List Literal) → is_shallow_literal l ≡ true → has formulas ls l ≡ true → has formulas (filter is_shallow_literal ls) l ≡ true
has-filter l [] shallow e = cc
has-filter l (k ∷ ks) shallow e = by_test (same_signed l k) refl e (λ h. has-filter l ks shallow h)
  where
    with_depth : (b : Bool) → has formulas (filter is_shallow_literal ks) l ≡ true → has formulas (if b then k ∷ filter is_shallow_literal ks else filter is_shallow_literal ks) l ≡ true
    with_depth true h = later (same_signed l k) (has formulas (filter is_shallow_literal ks) l) h
    with_depth false h = h

    by_test : (b : Bool) → same_signed l k ≡ b → b || has formulas ks l ≡ true → (has formulas ks l ≡ true → has formulas (filter is_shallow_literal ks) l ≡ true) → has formulas (filter is_shallow_literal (k ∷ ks)) l ≡ true
    by_test true same h rest =
        let first : is_shallow_literal k ≡ true = ap is_shallow_literal (sym (same_literal-true l k same)) ∙ shallow in
        ap (λ (b : Bool). has formulas (if b then k ∷ filter is_shallow_literal ks else filter is_shallow_literal ks) l) first
        ∙ ap (λ (b : Bool). b || has formulas (filter is_shallow_literal ks) l) same
    by_test false same h rest = with_depth (is_shallow_literal k) (rest h)

module _ (offers : HeadOffers) (setting : Setting) where
  abbrev blank : List Literal → State
  blank ls = record nothing_yet { clauses = map unit ls; seen = ls; offers = offers }

  abbrev begun : List Literal → State
  begun ls = with_commands setting.mode (map process ls) (blank ls)

  -- the state with the clauses of one literal
  abbrev with_clause : List Literal → Literal → State
  with_clause ls l = record (begun ls) { clauses = with_clauses formulas (begun ls).clauses (instance_clauses formulas [] ((l ∷ []) ∷ [])) }

  begun_last : (ls : List Literal) (l : Literal) → has formulas ls l ≡ false → begun (ls ++ l ∷ []) ≡ with_literals setting.mode (l ∷ []) (with_clause ls l)
  begun_last ls l e =
      let after = with_commands setting.mode (process l ∷ []) (record (with_clause ls l) { seen = ls ++ l ∷ [] }) in
      ap (λ cs. with_commands setting.mode cs (blank (ls ++ l ∷ []))) (map-append process ls (l ∷ []))
      ∙ pushed_last setting.mode (map process ls) (process l) (blank (ls ++ l ∷ []))
      ∙ ap (λ (cs : List Clause). with_commands setting.mode (process l ∷ []) (record (begun ls) { clauses = cs; seen = ls ++ l ∷ [] })) (sym (with_unit ls l e))
      ∙ sym (ap (λ (b : Bool). if b then with_clause ls l else after) e)

  begun_again : (ls : List Literal) (l : Literal) → has formulas ls l ≡ true → with_literals setting.mode (l ∷ []) (with_clause ls l) ≡ begun ls
  begun_again ls l e =
      ap (λ (b : Bool). if b then with_clause ls l else with_commands setting.mode (process l ∷ []) (record (with_clause ls l) { seen = ls ++ l ∷ [] })) e
      ∙ ap (λ (cs : List Clause). record (begun ls) { clauses = cs }) (with_unit_again ls l e)

  abbrev shallow : List Literal → List Literal
  shallow ls = filter is_shallow_literal ls

  abbrev with_all : List Literal → Literal → State
  with_all xs l = with_literals setting.mode (l ∷ []) (with_clause (shallow xs) l)

  with_test : (xs : List Literal) (l : Literal) (b : Bool) → is_shallow_literal l ≡ b → (if (b && true) && true then with_all xs l else begun (shallow xs)) ≡ with_instance setting.mode [] ((l ∷ []) ∷ []) (start_offering offers setting xs)
  with_test xs l b e = sym (ap (λ (c : Bool). if (c && true) && true then with_all xs l else begun (shallow xs)) e)

  -- a start with one literal more
  pub started-last : (xs : List Literal) (l : Literal) → has formulas xs l ≡ false → start_offering offers setting (xs ++ l ∷ []) ≡ with_instance setting.mode [] ((l ∷ []) ∷ []) (start_offering offers setting xs)
  started-last xs l fresh = by_depth (is_shallow_literal l) refl
    where
      filtered : (b : Bool) → is_shallow_literal l ≡ b → shallow (xs ++ l ∷ []) ≡ shallow xs ++ (if b then l ∷ [] else [])
      filtered b e = filter-append is_shallow_literal xs (l ∷ []) ∙ ap (λ (c : Bool). shallow xs ++ (if c then l ∷ [] else [])) e

      by_depth : (b : Bool) → is_shallow_literal l ≡ b → start_offering offers setting (xs ++ l ∷ []) ≡ with_instance setting.mode [] ((l ∷ []) ∷ []) (start_offering offers setting xs)
      by_depth true e = ap begun (filtered true e) ∙ begun_last (shallow xs) l (none_filtered l xs fresh) ∙ with_test xs l true e
      by_depth false e = ap begun (filtered false e ∙ append-nil (shallow xs)) ∙ with_test xs l false e

  -- a literal that is there already changes nothing
  pub started-again : (xs : List Literal) (l : Literal) → has formulas xs l ≡ true → with_instance setting.mode [] ((l ∷ []) ∷ []) (start_offering offers setting xs) ≡ start_offering offers setting xs
  started-again xs l there = by_depth (is_shallow_literal l) refl
    where
      by_depth : (b : Bool) → is_shallow_literal l ≡ b → with_instance setting.mode [] ((l ∷ []) ∷ []) (start_offering offers setting xs) ≡ start_offering offers setting xs
      by_depth true e = sym (with_test xs l true e) ∙ begun_again (shallow xs) l (has-filter l xs e there)
      by_depth false e = sym (with_test xs l false e)
