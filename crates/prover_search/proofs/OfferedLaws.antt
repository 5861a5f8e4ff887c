-- What occurs in literals, as they are by numbers and without repeats.
use Rattle.std.specs.Prelude.{◌≡◌, ◌<◌, ◌≤◌, ◌+◌, ◌||◌, ℕ, Bool, true, false, List, [], ◌∷◌, ◌++◌, map, filter, take, length, get_or, slice_get, Some, refl, if◌then◌else◌}
use Rattle.std.specs.List.{All, list_any}
use Rattle.std.proofs.Common.{sym, ap, ap₂, subst, ◌∙◌, arith, append-nil}
use Rattle.std.proofs.lemmas.Bool.{le-leb, lt-leb}
use Rattle.std.proofs.lemmas.List.{take_more}
use Rattle.std.proofs.lemmas.Option.{get_or_from_slice_get}
use Rattle.std.proofs.lemmas.List.Elements.{filter-append}
use Rattle.std.proofs.lemmas.List.Folds.{list_any-append}
use Rattle.stt_core.specs.Depth.{depth}
use Rattle.stt_core.specs.Lambda.{Constant, Lambda}
use Rattle.stt_core.proofs.ListLaws.{map-append}
use Rattle.sat_base.specs.declared.literal.SatLit.{SatLit}
use Rattle.term_bank.specs.Content.{Content}
use Rattle.term_bank.specs.Terms.{term_at}
use Rattle.literal_map.specs.Atoms.{bank_literal, IsAtom}
use Rattle.tableau_calculus.specs.Literals.{Literal}
use Rattle.tableau_calculus.specs.Kinds.{has, added, same_signed, formulas}
use Rattle.tableau_calculus.proofs.AddedLaws.{same_literal-true}
use Rattle.tableau_calculus.specs.Start.{without_repeats}
use Rattle.search_spec.specs.Offers.{has_constant, has_in_start}
use Rattle.search_spec.specs.Shallow.{is_shallow_literal}
use Rattle.head_offers.specs.Offering.{occurs_among}
use Rattle.prover_state.specs.Internal.Names.{IsNumberIn}

or_true : (b : Bool) → (b || true) ≡ true
or_true true = refl
or_true false = refl

or_false : (b : Bool) → (b || false) ≡ b
or_false true = refl
or_false false = refl

or_assoc : (a b c : Bool) → (a || (b || c)) ≡ ((a || b) || c)
or_assoc true b c = refl
or_assoc false b c = refl

-- what occurs among atoms occurs in their literals
among_atoms : (test : Constant → Bool) (ls : List Literal) → occurs_among (map (λ l. l.atom) ls) test ≡ has_in_start test ls
among_atoms test [] = refl
among_atoms test (l ∷ ls) = ap (λ (b : Bool). has_constant test l.atom || b) (among_atoms test ls)

module _ (P : Literal → Bool) where
  abbrev any : List Literal → Bool
  any ls = list_any P (filter is_shallow_literal ls)

  any_append : (xs ys : List Literal) → any (xs ++ ys) ≡ (any xs || any ys)
  any_append xs ys = ap (list_any P) (filter-append is_shallow_literal xs ys) ∙ list_any-append P (filter is_shallow_literal xs) (filter is_shallow_literal ys)

  -- what one literal of a list has the list has
  seen_any : (ls : List Literal) (l : Literal) → has formulas ls l ≡ true → any (l ∷ []) ≡ true → any ls ≡ true
  seen_any [] l h e = cc
  seen_any (k ∷ ks) l h e = any_append (k ∷ []) ks ∙ by_test (same_signed l k) refl h (λ g. seen_any ks l g e)
    where
      by_test : (b : Bool) → same_signed l k ≡ b → (b || has formulas ks l) ≡ true → (has formulas ks l ≡ true → any ks ≡ true) → (any (k ∷ []) || any ks) ≡ true
      by_test true same g rest = ap (λ (x : Literal). any (x ∷ []) || any ks) (sym (same_literal-true l k same)) ∙ ap (λ (b : Bool). b || any ks) e
      by_test false same g rest = ap (λ (b : Bool). any (k ∷ []) || b) (rest g) ∙ or_true (any (k ∷ []))

  -- an element that is there already adds nothing
  added_one : (ls : List Literal) (l : Literal) → any (if has formulas ls l then ls else ls ++ l ∷ []) ≡ (any ls || any (l ∷ []))
  added_one ls l = by_test (has formulas ls l) refl
    where
      there : (b : Bool) → (b ≡ true → any ls ≡ true) → any ls ≡ (any ls || b)
      there true f = f refl ∙ sym (ap (λ (x : Bool). x || true) (f refl))
      there false f = sym (or_false (any ls))

      by_test : (b : Bool) → has formulas ls l ≡ b → any (if b then ls else ls ++ l ∷ []) ≡ (any ls || any (l ∷ []))
      by_test true e = there (any (l ∷ [])) (seen_any ls l e)
      by_test false e = any_append ls (l ∷ [])

  any_added : (ls xs : List Literal) → any (added formulas ls xs) ≡ (any ls || any xs)
  any_added ls [] = sym (or_false (any ls))
  any_added ls (x ∷ xs) =
      any_added (if has formulas ls x then ls else ls ++ x ∷ []) xs
      ∙ ap (λ (b : Bool). b || any xs) (added_one ls x)
      ∙ sym (or_assoc (any ls) (any (x ∷ [])) (any xs))
      ∙ ap (λ (b : Bool). any ls || b) (sym (any_append (x ∷ []) xs))

-- what occurs in the atoms of the literals that aren't too deep occurs in their start
pub occurs-start : (ls : List Literal) (ts : List Lambda) → ts ≡ map (λ l. l.atom) (filter is_shallow_literal ls) → (test : Constant → Bool) → occurs_among ts test ≡ has_in_start test (filter is_shallow_literal (without_repeats ls))
occurs-start ls ts are test =
    ap (λ (us : List Lambda). occurs_among us test) are
    ∙ among_atoms test (filter is_shallow_literal ls)
    ∙ sym (any_added (λ l. has_constant test l.atom) [] ls)

-- ONE AFTER THE OTHER

pub atom-within : (b : Content) (atoms : List ℕ) (start : List SatLit) (i : ℕ) (d : SatLit) → i < length start → All (IsAtom b) atoms → All (IsNumberIn atoms) start → (atom : ℕ) → slice_get atoms (get_or start i d).var.0 ≡ Some atom → atom < length b.terms
atom-within b atoms start i d l good numbers atom at =
    subst (λ n. n < length b.terms) (get_or_from_slice_get atoms (get_or start i d).var.0 atom 0 at) (good (get_or start i d).var.0 0 (numbers i d l)).within

module _ (ts : List Lambda) (atoms : List ℕ) (start : List SatLit) where
  abbrev literals : ℕ → List Literal
  literals n = map (bank_literal ts atoms) (take n start)

  -- numbers of the atoms of the first literals that aren't too deep
  abbrev pub AreAtoms : ℕ → List ℕ → Type 0
  AreAtoms n ids = map (term_at ts) ids ≡ map (λ l. l.atom) (filter is_shallow_literal (literals n))

  module _ (i : ℕ) (d : SatLit) (within : i < length start) (atom n : ℕ) (at : slice_get atoms (get_or start i d).var.0 ≡ Some atom) (deep : n ≡ depth (term_at ts atom)) where
    abbrev next : Literal
    next = bank_literal ts atoms (get_or start i d)

    atom_is : next.atom ≡ term_at ts atom
    atom_is = ap (term_at ts) (get_or_from_slice_get atoms (get_or start i d).var.0 atom 0 at)

    literals_more : literals (i + 1) ≡ literals i ++ next ∷ []
    literals_more = ap (map (bank_literal ts atoms)) (take_more start i d within) ∙ map-append (bank_literal ts atoms) (take i start) (get_or start i d ∷ [])

    shallow_more : (b : Bool) → is_shallow_literal next ≡ b → map (λ l. l.atom) (filter is_shallow_literal (literals (i + 1))) ≡ map (λ l. l.atom) (filter is_shallow_literal (literals i)) ++ map (λ l. l.atom) (if b then next ∷ [] else [])
    shallow_more b e =
        ap (λ ls. map (λ l. l.atom) (filter is_shallow_literal ls)) literals_more
        ∙ ap (map (λ l. l.atom)) (filter-append is_shallow_literal (literals i) (next ∷ []) ∙ ap (λ (c : Bool). filter is_shallow_literal (literals i) ++ (if c then next ∷ [] else [])) e)
        ∙ map-append (λ l. l.atom) (filter is_shallow_literal (literals i)) (if b then next ∷ [] else [])

    deep_is : depth next.atom ≡ n
    deep_is = ap depth atom_is ∙ sym deep

    pub atom-taken : n ≤ 4096 → (old new : List ℕ) → new ≡ old ++ atom ∷ [] → AreAtoms i old → AreAtoms (i + 1) new
    atom-taken h old new is are =
        ap (map (term_at ts)) is ∙ map-append (term_at ts) old (atom ∷ [])
        ∙ ap₂ (λ xs t. xs ++ t ∷ []) are (sym atom_is)
        ∙ sym (shallow_more true (le-leb (depth next.atom) 4096 (omega (arith, h, deep_is))))

    pub atom-passed : 4096 < n → (old : List ℕ) → AreAtoms i old → AreAtoms (i + 1) old
    atom-passed h old are = are ∙ sym (shallow_more false (lt-leb (depth next.atom) 4096 (omega (arith, h, deep_is))) ∙ append-nil (map (λ l. l.atom) (filter is_shallow_literal (literals i))))
