-- The clauses of an instance are those of its choices.
use Rattle.std.proofs.Common.{◌≡◌, if◌then◌else◌, not, cond, Bool, true, false, List, [], ◌∷◌, ◌++◌, map, filter, Contains, refl, sym, ap, ◌∙◌, subst, append_assoc, append-nil, inl, inr, arith}
use Rattle.std.specs.List.{flat_map}
use Rattle.std.proofs.lemmas.List.Elements.{Contains-append_cases}
use Rattle.tableau_calculus.proofs.ListLaws.{contains-first, contains-later, contains_cases}
use Rattle.sat_base.specs.declared.literal.SatLit.{SatLit}
use Rattle.sat_base.specs.Literal.{negated, holds}
use Rattle.sat_log.specs.Resolution.{each_once, HasNoRepeats}
use Rattle.sat_log.proofs.ResolutionLaws.{without_repeats-append_left, without_repeats-push_held, without_repeats-push_new}
use Rattle.search_spec.specs.Clauses.{choices, is_tautology, clause_of, instance_clauses}
use Rattle.tableau_calculus.specs.Kinds.{added}
use Rattle.search_spec.specs.Numbered.{numbers}

pub added-without_repeats : (ks ls : List SatLit) → HasNoRepeats ls → added numbers ls ks ≡ each_once (ls ++ ks)
added-without_repeats [] ls once = sym once ∙ ap each_once (sym (append-nil ls))
added-without_repeats (k ∷ ks) ls once = go (holds ls k) refl (λ next h. added-without_repeats ks next h)
  where
    whole : each_once (each_once (ls ++ k ∷ []) ++ ks) ≡ each_once (ls ++ k ∷ ks)
    whole = without_repeats-append_left (ls ++ k ∷ []) ks ∙ ap each_once (append_assoc ls (k ∷ []) ks)

    go : (b : Bool) → holds ls k ≡ b → ((next : List SatLit) → HasNoRepeats next → added numbers next ks ≡ each_once (next ++ ks)) → added numbers (if b then ls else ls ++ k ∷ []) ks ≡ each_once (ls ++ k ∷ ks)
    go true e rest =
        let same : each_once (ls ++ k ∷ []) ≡ ls = without_repeats-push_held ls k e ∙ once in
        rest ls once ∙ ap (λ x. each_once (x ++ ks)) (sym same) ∙ whole
    go false e rest =
        let same : each_once (ls ++ k ∷ []) ≡ ls ++ k ∷ [] = without_repeats-push_new ls k e ∙ ap (λ x. x ++ k ∷ []) once in
        rest (ls ++ k ∷ []) same ∙ ap (λ x. each_once (x ++ ks)) (sym same) ∙ whole

-- the clause of a choice
pub clause_of-without_repeats : (principals picked : List SatLit) → clause_of numbers principals picked ≡ each_once (map negated principals ++ picked)
clause_of-without_repeats principals picked = added-without_repeats (map negated principals ++ picked) [] refl

-- one literal from each alternative
abbrev pub Picks : List SatLit → List (List SatLit) → Type 0
Picks [] [] = Unit {0}
Picks [] (a ∷ as') = ⊥
Picks (l ∷ ls) [] = ⊥
Picks (l ∷ ls) (a ∷ as') = Contains a l × Picks ls as'

by_rest : (a : List SatLit) (as' : List (List SatLit)) (picked : List SatLit) (l : SatLit) → Contains a l → (xs : List (List SatLit)) → ((x : List SatLit) → Contains xs x → Picks x as') → Contains (map (λ ls. l ∷ ls) xs) picked → Picks picked (a ∷ as')
by_rest a as' picked l there [] each h = absurd (omega (arith, h.1))
by_rest a as' picked l there (x ∷ xs) each h =
    contains_cases (Picks picked (a ∷ as')) picked (l ∷ x) (map (λ ls. l ∷ ls) xs) h (λ same. subst (λ k. Picks k (a ∷ as')) same (there, each x (contains-first x xs)))
    (λ later. by_rest a as' picked l there xs (λ y c. each y (contains-later y x xs c)) later)

by_literal : (a : List SatLit) (as' rest : List (List SatLit)) (picked : List SatLit) → ((x : List SatLit) → Contains rest x → Picks x as') → (b : List SatLit) → ((l : SatLit) → Contains b l → Contains a l) → Contains (flat_map (λ l. map (λ ls. l ∷ ls) rest) b) picked → Picks picked (a ∷ as')
by_literal a as' rest picked each [] within h = absurd (omega (arith, h.1))
by_literal a as' rest picked each (l ∷ b) within h =
    elim (Contains-append_cases (map (λ ls. l ∷ ls) rest) (flat_map (λ l. map (λ ls. l ∷ ls) rest) b) picked h) [
      | inl here ↦ by_rest a as' picked l (within l (contains-first l b)) rest each here
      | inr later ↦ by_literal a as' rest picked each b (λ k c. within k (contains-later k l b c)) later
    ]

choice_picks : (alternatives : List (List SatLit)) (picked : List SatLit) → Contains (choices alternatives) picked → Picks picked alternatives
choice_picks [] picked h = contains_cases (Picks picked []) picked [] [] h (λ same. subst (λ k. Picks k []) same tt) (λ later. absurd (omega (arith, later.1)))
choice_picks (a ∷ as') picked h = by_literal a as' (choices as') picked (λ x c. choice_picks as' x c) a (λ l c. c) h

-- the clause is that of what is picked from the alternatives
pub record IsPicked (principals : List SatLit) (alternatives : List (List SatLit)) (clause : List SatLit) : Type 0 where
  pub picked : List SatLit
  pub picks : Picks picked alternatives
  pub is : clause ≡ each_once (map negated principals ++ picked)

pub clause_picked : (principals : List SatLit) (alternatives : List (List SatLit)) (clause : List SatLit) → Contains (instance_clauses numbers principals alternatives) clause → IsPicked principals alternatives clause
clause_picked principals alternatives clause h = go (choices alternatives) (λ x c. choice_picks alternatives x c) h
  where
    kept : List SatLit → Bool
    kept c = not (is_tautology numbers c)

    go : (xs : List (List SatLit)) → ((x : List SatLit) → Contains xs x → Picks x alternatives) → Contains (filter kept (map (clause_of numbers principals) xs)) clause → IsPicked principals alternatives clause
    go [] each h = absurd (omega (arith, h.1))
    go (x ∷ xs) each h = here (kept c) (λ later. go xs (λ y d. each y (contains-later y x xs d)) later) h
      where
        c : List SatLit
        c = clause_of numbers principals x

        others : List (List SatLit)
        others = filter kept (map (clause_of numbers principals) xs)

        here : (b : Bool) → (Contains others clause → IsPicked principals alternatives clause) → Contains (cond b (c ∷ others) others) clause → IsPicked principals alternatives clause
        here true rest d =
            contains_cases (IsPicked principals alternatives clause) clause c others d
            (λ same. record { picked = x; picks = each x (contains-first x xs); is = sym same ∙ clause_of-without_repeats principals x }) rest
        here false rest d = rest d
