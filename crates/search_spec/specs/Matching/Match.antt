-- Matching a pattern with a term (as E-matching in de Moura and Bjorner, Efficient E-matching for SMT solvers, 2007, but up to no
-- equations; higher-order patterns by Miller 1991).
use Rattle.std.specs.Prelude.{ℕ, zero, suc, ◌++◌, ◌-◌, slice_index_or, length, take, reverse, replicate, map, List, [], ◌∷◌, Option, Some, None, option_map, option_and_then, filter_map, if◌then◌else◌}
use Rattle.stt_core.specs.SimpleType.{SimpleType, formula, same_type}
use Rattle.stt_core.specs.Lambda.{equality, Lambda, bound, constant, lam, app, eq}
use Rattle.stt_core.specs.SameTerm.{same_term}
use Rattle.search_spec.specs.Matching.Variables.{free_head, local_arguments}
use Rattle.search_spec.specs.Matching.Patterns.{Pattern}

-- What free variables stand for, innermost first, as far as it is known.
abbrev pub Bindings : Type 0
Bindings = List (Option Lambda)

-- the place of a variable among these
abbrev pub place_among : List ℕ → ℕ → Option ℕ
place_among [] j = None
place_among (y ∷ ys) j = if same_term (bound y) (bound j) then Some 0 else option_map suc (place_among ys j)

-- what a variable becomes under k binders that stay, where new binders, innermost first, bind these variables, and no other one is free
abbrev pub rebound_variable : List ℕ → ℕ → ℕ → Option ℕ
rebound_variable ys zero j = place_among ys j
rebound_variable ys (suc k) zero = Some zero
rebound_variable ys (suc k) (suc j) = option_map suc (rebound_variable ys k j)

abbrev pub both_of : {A B C : Type 0} → (A → B → C) → Option A → Option B → Option C
both_of f None y = None
both_of f (Some x) y = option_map (f x) y

-- the same of a term
abbrev pub rebound : List ℕ → ℕ → Lambda → Option Lambda
rebound ys k (bound j) = option_map bound (rebound_variable ys k j)
rebound ys k (constant c) = Some (constant c)
rebound ys k (lam a s) = option_map (lam a) (rebound ys (suc k) s)
rebound ys k (app s u) = both_of app (rebound ys k s) (rebound ys k u)

-- a term under new binders for these variables, innermost first, which have the types of the local ones
abbrev pub under_binders : List SimpleType → List ℕ → Lambda → Lambda
under_binders locals [] t = t
under_binders locals (y ∷ ys) t = under_binders locals ys (lam (slice_index_or locals y formula) t)

-- The function that gives a term for these variables, last argument first, where no other variable is free in it. `locals` has the types
-- of the variables of the binders around the term, innermost first.
abbrev pub function_giving : List SimpleType → List ℕ → Lambda → Option Lambda
function_giving locals ys v = option_map (under_binders locals ys) (rebound ys 0 v)

-- bindings in which variable i stands for u too, unless it stands for another term
abbrev pub with_binding : ℕ → Lambda → Bindings → Option Bindings
with_binding i u [] = None
with_binding zero u (None ∷ bindings) = Some (Some u ∷ bindings)
with_binding zero u (Some w ∷ bindings) = if same_term w u then Some (Some w ∷ bindings) else None
with_binding (suc i) u (b ∷ bindings) = option_map (λ bs. b ∷ bs) (with_binding i u bindings)

-- Free variable i with these local variables as arguments, last one first, stands for v; with other arguments anything goes.
abbrev pub match_variable : List SimpleType → ℕ → Option (List ℕ) → Lambda → Bindings → Option Bindings
match_variable locals i None v bindings = Some bindings
match_variable locals i (Some ys) v bindings = option_and_then (λ u. with_binding i u bindings) (function_giving locals ys v)

-- where the head of the pattern t is a free variable, by that, and else as told
abbrev pub match_head : List SimpleType → Option ℕ → Lambda → Lambda → Bindings → Option Bindings → Option Bindings
match_head locals None t v bindings otherwise = otherwise
match_head locals (Some i) t v bindings otherwise = match_variable locals i (local_arguments (length locals) t) v bindings

-- The bindings, and what free variables of the pattern have to stand for besides so that it is v. `locals` has the types of the variables
-- of the binders that are passed in both, innermost first.
abbrev pub match_term : List SimpleType → Lambda → Lambda → Bindings → Option Bindings
match_term locals (bound j) v bindings =
    match_head locals (free_head (length locals) (bound j)) (bound j) v bindings (if same_term (bound j) v then Some bindings else None)
match_term locals (constant c) v bindings = if same_term (constant c) v then Some bindings else None
match_term locals (lam a s) (lam c v) bindings = if same_type a c then match_term (a ∷ locals) s v bindings else None
match_term locals (lam a s) v bindings = None
match_term locals (app s u) (app v w) bindings =
    match_head locals (free_head (length locals) s) (app s u) (app v w) bindings
    (option_and_then (match_term locals u w) (match_term locals s v bindings))
match_term locals (app s u) v bindings = match_head locals (free_head (length locals) s) (app s u) v bindings None

-- a term, and where it is an equation with two different sides, with its sides exchanged
abbrev pub faces : Lambda → List Lambda
faces (app (app (constant (equality a)) s) t) = eq a s t ∷ (if same_term s t then [] else eq a t s ∷ [])
faces t = t ∷ []

-- the matches of a pattern's term with a closed term or an equation from either side, as far as they agree with the bindings
abbrev pub match_faces : Lambda → Lambda → Bindings → List Bindings
match_faces t v bindings = filter_map (λ w. match_term [] t w bindings) (faces v)

-- The matches of a pattern of a group with a closed term. Given is what the first variables of the literal stand for, outermost first, as
-- far as it is known; each match says it of these.
abbrev pub matches_of : Pattern → Lambda → List (Option Lambda) → List (List (Option Lambda))
matches_of p v found =
    map (λ bindings. take (length found) (reverse bindings))
    (match_faces p.term v (reverse (found ++ replicate (length p.binders - length found) None)))
