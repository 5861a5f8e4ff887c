-- Clauses are added choice by choice.
use Rattle.std.specs.Prelude.{◌≡◌, ℕ, ◌-◌, length, take, not, List, [], ◌∷◌, ◌++◌, map, filter, refl}
use Rattle.std.specs.List.{flat_map}
use Rattle.std.proofs.Common.{sym, ap, ◌∙◌, append_assoc, arith, length-append}
use Rattle.std.proofs.lemmas.List.{map-append}
use Rattle.std.proofs.lemmas.List.Elements.{filter-append}
use Rattle.sat_base.specs.declared.literal.SatLit.{SatLit}
use Rattle.search_spec.specs.Clauses.{choices, is_tautology, clause_of, instance_clauses}
use Rattle.search_spec.specs.Numbered.{numbers}
use Rattle.tableau_clauses.specs.Internal.Chosen.{clauses_from, choices_after}

-- the clauses of choices and of others
pub clauses-joined : (ps : List SatLit) (xs ys : List (List SatLit)) → clauses_from ps (xs ++ ys) ≡ clauses_from ps xs ++ clauses_from ps ys
clauses-joined ps xs ys =
    ap (filter (λ c. not (is_tautology numbers c))) (map-append (clause_of numbers ps) xs ys) ∙ filter-append (λ c. not (is_tautology numbers c)) (map (clause_of numbers ps) xs) (map (clause_of numbers ps) ys)

-- what was found, then the clauses of choices, then those of further ones
pub then_further : (ps : List SatLit) (fs found gs : List (List SatLit)) (xs ys : List (List SatLit)) → found ≡ fs ++ clauses_from ps xs → gs ≡ found ++ clauses_from ps ys → gs ≡ fs ++ clauses_from ps (xs ++ ys)
then_further ps fs found gs xs ys e g =
    g ∙ ap (λ zs. zs ++ clauses_from ps ys) e ∙ append_assoc fs (clauses_from ps xs) (clauses_from ps ys) ∙ ap (λ zs. fs ++ zs) (sym (clauses-joined ps xs ys))

flat_map-same : {X Y : Type 0} (f g : X → List Y) → ((x : X) → f x ≡ g x) → (xs : List X) → flat_map f xs ≡ flat_map g xs
flat_map-same f g e [] = refl
flat_map-same f g e (x ∷ xs) = ap (λ ys. ys ++ flat_map f xs) (e x) ∙ ap (λ ys. g x ++ ys) (flat_map-same f g e xs)

map-over : (chosen : List SatLit) (l : SatLit) (cs : List (List SatLit)) → map (λ ls. (chosen ++ l ∷ []) ++ ls) cs ≡ map (λ ls. chosen ++ ls) (map (λ ls. l ∷ ls) cs)
map-over chosen l [] = refl
map-over chosen l (c ∷ cs) = ap (λ x. x ∷ map (λ ls. (chosen ++ l ∷ []) ++ ls) cs) (append_assoc chosen (l ∷ []) c) ∙ ap (λ xs. (chosen ++ l ∷ c) ∷ xs) (map-over chosen l cs)

map-flat : {X Y Z : Type 0} (f : Y → Z) (g : X → List Y) (xs : List X) → flat_map (λ x. map f (g x)) xs ≡ map f (flat_map g xs)
map-flat f g [] = refl
map-flat f g (x ∷ xs) = ap (λ ys. map f (g x) ++ ys) (map-flat f g xs) ∙ sym (map-append f (g x) (flat_map g xs))

after_is : (chosen : List SatLit) (as' : List (List SatLit)) → choices_after chosen as' ≡ map (λ ls. chosen ++ ls) (choices as')
after_is chosen [] = ap (λ ls. ls ∷ []) (sym (nil chosen))
  where
    nil : (xs : List SatLit) → xs ++ [] ≡ xs
    nil [] = refl
    nil (x ∷ xs) = ap (λ ys. x ∷ ys) (nil xs)
after_is chosen (a ∷ as') =
    flat_map-same _ _ (λ l. after_is (chosen ++ l ∷ []) as' ∙ map-over chosen l (choices as')) a
    ∙ map-flat (λ ls. chosen ++ ls) (λ l. map (λ ls. l ∷ ls) (choices as')) a

-- the clauses of all choices are those of the instance
pub all_choices : (ps : List SatLit) (as' : List (List SatLit)) → clauses_from ps (choices_after [] as') ≡ instance_clauses numbers ps as'
all_choices ps as' = ap (clauses_from ps) (after_is [] as' ∙ same (choices as'))
  where
    same : (cs : List (List SatLit)) → map (λ (ls : List SatLit). [] ++ ls) cs ≡ cs
    same [] = refl
    same (c ∷ cs) = ap (λ xs. c ∷ xs) (same cs)

take-front : {X : Type 0} (xs ys : List X) → take (length xs) (xs ++ ys) ≡ xs
take-front [] [] = refl
take-front [] (y ∷ ys) = refl
take-front (x ∷ xs) ys = ap (λ zs. x ∷ zs) (take-front xs ys)

-- what was pushed and taken away
pub last_away : (xs pushed popped : List SatLit) (y : SatLit) (n : ℕ) → pushed ≡ xs ++ y ∷ [] → n ≡ length pushed → popped ≡ take (n - 1) pushed → popped ≡ xs
last_away xs pushed popped y n e len p =
    p ∙ ap (take (n - 1)) e ∙ ap (λ (k : ℕ). take k (xs ++ y ∷ [])) (omega (arith, len, ap length e, length-append xs (y ∷ []))) ∙ take-front xs (y ∷ [])

-- the clauses of one literal's choices, and then those of the other literals of the alternative
pub each_found :
    (ps chosen pushed popped lits rest : List SatLit) (lit : SatLit) (others fs found gs : List (List SatLit))
    → lits ≡ lit ∷ rest
    → pushed ≡ chosen ++ lit ∷ []
    → found ≡ fs ++ clauses_from ps (choices_after pushed others)
    → popped ≡ chosen
    → gs ≡ found ++ clauses_from ps (flat_map (λ l. choices_after (popped ++ l ∷ []) others) rest)
    → gs ≡ fs ++ clauses_from ps (flat_map (λ l. choices_after (chosen ++ l ∷ []) others) lits)
each_found ps chosen pushed popped lits rest lit others fs found gs split push here pop later =
    then_further ps fs found gs (choices_after (chosen ++ lit ∷ []) others) (flat_map (λ l. choices_after (chosen ++ l ∷ []) others) rest)
    (here ∙ ap (λ c. fs ++ clauses_from ps (choices_after c others)) push)
    (later ∙ ap (λ (c : List SatLit). found ++ clauses_from ps (flat_map (λ l. choices_after (c ++ l ∷ []) others) rest)) pop)
    ∙ ap (λ (ls : List SatLit). fs ++ clauses_from ps (flat_map (λ l. choices_after (chosen ++ l ∷ []) others) ls)) (sym split)

-- what is found from nothing is all of it
pub all_found : (fs : List (List SatLit)) (qs ps chosen : List SatLit) (bs as' : List (List SatLit)) → fs ≡ [] → qs ≡ ps → chosen ≡ [] → bs ≡ as' → fs ++ clauses_from qs (choices_after chosen bs) ≡ instance_clauses numbers ps as'
all_found fs qs ps chosen bs as' empty principals none alternatives =
    ap (λ xs. xs ++ clauses_from qs (choices_after chosen bs)) empty
    ∙ ap (λ xs. clauses_from xs (choices_after chosen bs)) principals
    ∙ ap (λ xs. clauses_from ps (choices_after xs bs)) none
    ∙ ap (λ xs. clauses_from ps (choices_after [] xs)) alternatives
    ∙ all_choices ps as'
