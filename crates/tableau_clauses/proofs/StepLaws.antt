-- Clauses that are added to others.
use Rattle.std.proofs.Common.{◌≡◌, ℕ, ◌-◌, List, [], ◌∷◌, ◌++◌, map, length, Some, Bool, true, false, is_some, if◌then◌else◌, refl, sym, ap, subst, ◌∙◌, append_assoc, true≢false, arith, replicate, length-append}
use Rattle.std.specs.Prelude.{cond, ◌||◌}
use Rattle.std.specs.List.{list_any}
use Rattle.std.specs.Map.{lookup}
use Rattle.std.proofs.lemmas.List.{map-append, length-map}
use Rattle.indexmap.specs.IndexMap.{IndexMap, get_by, insert_entry}
use Rattle.sat_base.specs.declared.literal.SatLit.{SatLit}
use Rattle.search_spec.specs.Clauses.{same_clause, with_clauses}
use Rattle.search_spec.specs.Numbered.{numbers}
use Rattle.tableau_clauses.specs.declared.origin.Origin.{Origin}
use Rattle.tableau_clauses.specs.Table.{Step, clauses_in, origins_in}
use Rattle.tableau_clauses.specs.Internal.Stepping.{with_steps, Adds}

abbrev pub is_there : List SatLit → List Step → Bool
is_there c es = list_any (same_clause numbers c) (clauses_in es)

-- A clause is found exactly where it is there.
lookup-any : (test : List SatLit → Bool) (es : List Step) → is_some (lookup test es) ≡ list_any test (clauses_in es)
lookup-any test [] = refl
lookup-any test (e ∷ es) = go (test e.0) (lookup-any test es)
  where
    go : (b : Bool) → is_some (lookup test es) ≡ list_any test (clauses_in es) → is_some (cond b (Some e.1) (lookup test es)) ≡ (b || list_any test (clauses_in es))
    go true rest = refl
    go false rest = rest

pub found-any : {S : Type 0} (test : List SatLit → Bool) (m : IndexMap (List SatLit) Origin S) (es : List Step) → m.entries ≡ es → is_some (get_by test m) ≡ list_any test (clauses_in es)
found-any test m es e = lookup-any test m.entries ∙ ap (λ xs. list_any test (clauses_in xs)) e

insert-new : (es : List Step) (c : List SatLit) (o : Origin) → is_there c es ≡ false → insert_entry (same_clause numbers) es c o ≡ es ++ (c, o) ∷ []
insert-new [] c o h = refl
insert-new (e ∷ es) c o h = go (same_clause numbers c e.0) (insert-new es c o) h
  where
    go : (b : Bool) → (is_there c es ≡ false → insert_entry (same_clause numbers) es c o ≡ es ++ (c, o) ∷ []) → (b || is_there c es) ≡ false → (if b then (e.0, o) ∷ es else e ∷ insert_entry (same_clause numbers) es c o) ≡ e ∷ (es ++ (c, o) ∷ [])
    go true rest g = absurd (true≢false g)
    go false rest g = ap (λ xs. e ∷ xs) (rest g)

pub old_step : (es : List Step) (c : List SatLit) (o : Origin) → is_there c es ≡ true → es ≡ with_steps o es (c ∷ [])
old_step es c o h = sym (ap (λ (b : Bool). if b then es else es ++ (c, o) ∷ []) h)

pub new_step : (es kept after : List Step) (c : List SatLit) (o : Origin) → kept ≡ es → is_there c es ≡ false → after ≡ insert_entry (same_clause numbers) kept c o → after ≡ with_steps o es (c ∷ [])
new_step es kept after c o same h e = e ∙ ap (λ xs. insert_entry (same_clause numbers) xs c o) same ∙ insert-new es c o h ∙ sym (ap (λ (b : Bool). if b then es else es ++ (c, o) ∷ []) h)

-- WHAT IS ADDED STANDS BEHIND

append-nil : {X : Type 0} (xs : List X) → xs ++ [] ≡ xs
append-nil [] = refl
append-nil (x ∷ xs) = ap (λ ys. x ∷ ys) (append-nil xs)

pub none_added : (o : Origin) (es : List Step) → Adds o es es
none_added o es = record { further = []; steps = sym (append-nil es) }

pub step_added : (o : Origin) (es : List Step) (c : List SatLit) → Adds o es (with_steps o es (c ∷ []))
step_added o es c = go (is_there c es)
  where
    go : (b : Bool) → Adds o es (if b then es else es ++ (c, o) ∷ [])
    go true = none_added o es
    go false = record { further = c ∷ []; steps = refl }

pub then_added : (o : Origin) (old between new : List Step) → Adds o old between → Adds o between new → Adds o old new
then_added o old between new a b = record {
  further = a.further ++ b.further;
  steps =
      b.steps ∙ ap (λ xs. xs ++ map (λ c. (c, o)) b.further) a.steps
      ∙ append_assoc old (map (λ c. (c, o)) a.further) (map (λ c. (c, o)) b.further)
      ∙ ap (λ xs. old ++ xs) (sym (map-append (λ c. (c, o)) a.further b.further));
}

pub step_later : (o : Origin) (old es after : List Step) (c : List SatLit) → Adds o old es → after ≡ with_steps o es (c ∷ []) → Adds o old after
step_later o old es after c a e = then_added o old es after a (subst (Adds o es) (sym e) (step_added o es c))

-- THE CLAUSES

clauses-if : (b : Bool) (es fs : List Step) → clauses_in (if b then es else fs) ≡ (if b then clauses_in es else clauses_in fs)
clauses-if true es fs = refl
clauses-if false es fs = refl

pub clauses-with_steps : (o : Origin) (es : List Step) (cs : List (List SatLit)) → clauses_in (with_steps o es cs) ≡ with_clauses numbers (clauses_in es) cs
clauses-with_steps o es [] = refl
clauses-with_steps o es (c ∷ cs) =
    clauses-with_steps o (if is_there c es then es else es ++ (c, o) ∷ []) cs
    ∙ ap (λ ds. with_clauses numbers ds cs) (clauses-if (is_there c es) es (es ++ (c, o) ∷ []) ∙ ap (λ ds. if is_there c es then clauses_in es else ds) (map-append (λ (e : Step). e.0) es ((c, o) ∷ [])))

-- THE ORIGINS

origins-same : (o : Origin) (cs : List (List SatLit)) → origins_in (map (λ c. (c, o)) cs) ≡ replicate (length cs) o
origins-same o [] = refl
origins-same o (c ∷ cs) = ap (λ os. o ∷ os) (origins-same o cs)

-- each clause that is added has the origin
pub origins-added : (o : Origin) (old new : List Step) (start end : ℕ) → Adds o old new → start ≡ length (clauses_in old) → end ≡ length (clauses_in new) → origins_in new ≡ origins_in old ++ replicate (end - start) o
origins-added o old new start end a s e =
    ap origins_in a.steps ∙ map-append (λ (x : Step). x.1) old (map (λ c. (c, o)) a.further)
    ∙ ap (λ os. origins_in old ++ os) (origins-same o a.further ∙ ap (λ (n : ℕ). replicate n o) count)
  where
    count : length a.further ≡ end - start
    count = omega (arith, s, e, length-map old (λ (x : Step). x.0), length-map new (λ (x : Step). x.0), ap length a.steps, length-append old (map (λ c. (c, o)) a.further), length-map {B = Step} a.further (λ (c : List SatLit). (c, o)))
