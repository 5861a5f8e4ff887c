-- Literals of the clauses and those of the calculus that they stand for.
use Rattle.std.proofs.Common.{◌≡◌, ◌+◌, ℕ, suc, ◌||◌, not, cond, Bool, true, false, List, [], ◌∷◌, map, Some, slice_get, Contains, refl, sym, ap, ap₂, ◌∙◌, subst, inl, inr, arith}
use Rattle.std.proofs.lemmas.Bool.{false≢true, or_cases, or_left, or_right}
use Rattle.stt_core.specs.Lambda.{Lambda}
use Rattle.tableau_calculus.specs.Literals.{Literal}
use Rattle.tableau_calculus.proofs.ListLaws.{contains-first, contains-later, contains_cases}
use Rattle.sat_base.specs.declared.literal.SatLit.{SatLit}
use Rattle.sat_base.specs.Literal.{negated, same_literal as same_variable_literal, holds}
use Rattle.sat_base.proofs.LiteralLaws.{same_literal-refl as satlit-refl, same_literal-true as satlit-true, negated-negated}
use Rattle.search_spec.specs.Numbered.{literal_at}
use Rattle.rebuild_spec.specs.Input.{literals_of}
use Rattle.rebuild_spec.specs.Stands.{place_in}

get_later : (k : SatLit) (branch : List SatLit) (n : ℕ) → slice_get (k ∷ branch) (1 + n) ≡ slice_get branch n
get_later k branch n = let e : 1 + n ≡ suc n = omega arith in ap (slice_get (k ∷ branch)) e

-- a literal of the branch stands at its place
pub place_found : (branch : List SatLit) (l : SatLit) → holds branch l ≡ true → slice_get branch (place_in branch l) ≡ Some l
place_found [] l h = absurd (false≢true h)
place_found (k ∷ branch) l h = go (same_variable_literal l k) refl (λ later. place_found branch l later)
  where
    go : (b : Bool) → same_variable_literal l k ≡ b → (holds branch l ≡ true → slice_get branch (place_in branch l) ≡ Some l) → slice_get (k ∷ branch) (place_in (k ∷ branch) l) ≡ Some l
    go true e rest = ap (λ b. slice_get (k ∷ branch) (cond (not b) (1 + place_in branch l) 0)) e ∙ ap Some (sym (satlit-true l k e))
    go false e rest =
        ap (λ b. slice_get (k ∷ branch) (cond (not b) (1 + place_in branch l) 0)) e
        ∙ get_later k branch (place_in branch l)
        ∙ rest (ap (λ b. b || holds branch l) (sym e) ∙ h)

-- what a list holds, the list of what it stands for contains
pub contains_literal : (atoms : List Lambda) (ls : List SatLit) (m : SatLit) → holds ls m ≡ true → Contains (literals_of atoms ls) (literal_at atoms m)
contains_literal atoms [] m h = absurd (false≢true h)
contains_literal atoms (l ∷ ls) m h =
    elim (or_cases (same_variable_literal m l) (holds ls m) h) [
      | inl e ↦ subst (λ k. Contains (literals_of atoms (l ∷ ls)) (literal_at atoms k)) (sym (satlit-true m l e)) (contains-first (literal_at atoms l) (literals_of atoms ls))
      | inr later ↦ contains-later (literal_at atoms m) (literal_at atoms l) (literals_of atoms ls) (contains_literal atoms ls m later)
    ]

-- what holds of each literal that a list stands for, where it holds of those that the list holds
pub each_literal : (atoms : List Lambda) (P : Literal → Type 0) (ls : List SatLit) → ((m : SatLit) → holds ls m ≡ true → P (literal_at atoms m)) → (l : Literal) → Contains (literals_of atoms ls) l → P l
each_literal atoms P [] each l h = absurd (omega (arith, h.1))
each_literal atoms P (m ∷ ls) each l h =
    contains_cases (P l) l (literal_at atoms m) (literals_of atoms ls) h (λ same. subst P same (each m (or_left _ _ (satlit-refl m))))
    (λ later. each_literal atoms P ls (λ k held. each k (or_right (same_variable_literal k m) _ held)) l later)

-- a list that contains a literal holds it
pub held_in : (ls : List SatLit) (m : SatLit) → Contains ls m → holds ls m ≡ true
held_in [] m h = absurd (omega (arith, h.1))
held_in (l ∷ ls) m h =
    contains_cases (holds (l ∷ ls) m ≡ true) m l ls h (λ same. or_left _ _ (subst (λ k. same_variable_literal m k ≡ true) (sym same) (satlit-refl m)))
    (λ later. or_right (same_variable_literal m l) _ (held_in ls m later))

pub contains_held : (ls : List SatLit) (m : SatLit) → holds ls m ≡ true → Contains ls m
contains_held [] m h = absurd (false≢true h)
contains_held (l ∷ ls) m h =
    elim (or_cases (same_variable_literal m l) (holds ls m) h) [
      | inl e ↦ subst (Contains (l ∷ ls)) (sym (satlit-true m l e)) (contains-first l ls)
      | inr later ↦ contains-later m l ls (contains_held ls m later)
    ]

-- the negations of what a list holds
pub held-negated : (ls : List SatLit) (m : SatLit) → holds ls m ≡ true → holds (map negated ls) (negated m) ≡ true
held-negated [] m h = absurd (false≢true h)
held-negated (l ∷ ls) m h =
    elim (or_cases (same_variable_literal m l) (holds ls m) h) [
      | inl e ↦ or_left _ _ (subst (λ k. same_variable_literal (negated m) (negated k) ≡ true) (satlit-true m l e) (satlit-refl (negated m)))
      | inr later ↦ or_right (same_variable_literal (negated m) (negated l)) _ (held-negated ls m later)
    ]

pub negated-held : (ls : List SatLit) (m : SatLit) → holds (map negated ls) m ≡ true → holds ls (negated m) ≡ true
negated-held ls m h =
    subst (λ k. holds k (negated m) ≡ true) (back ls) (held-negated (map negated ls) m h)
  where
    back : (ls : List SatLit) → map negated (map negated ls) ≡ ls
    back [] = refl
    back (l ∷ ls) = ap₂ (λ k ks. k ∷ ks) (negated-negated l) (back ls)
