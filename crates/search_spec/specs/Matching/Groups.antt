-- The patterns of a literal that are used, and which variables they find.
use Rattle.std.specs.Prelude.{ℕ, zero, suc, ◌-◌, nat_eq, slice_index_or, length, map, filter, not, ◌&&◌, ◌||◌, Bool, true, false, List, [], ◌∷◌, Option, Some, None, is_some, if◌then◌else◌}
use Rattle.std.specs.List.{list_any}
use Rattle.stt_core.specs.SimpleType.{same_type}
use Rattle.stt_core.specs.Lambda.{all, Lambda, bound, constant, lam, app}
use Rattle.stt_core.specs.SameTerm.{same_term}
use Rattle.tableau_calculus.specs.Literals.{Literal}
use Rattle.tableau_calculus.specs.Kinds.{same_sign}
use Rattle.search_spec.specs.Matching.Variables.{free_head, local_arguments}
use Rattle.search_spec.specs.Matching.Patterns.{PassedBinder, Polarity, even_polarity, odd_polarity, both_polarities, MatchedWith, known_terms, processed_literals, Pattern, literal_patterns}

-- whether free variable i stands at the head of a term under d binders
abbrev pub is_headed_by : ℕ → ℕ → Lambda → Bool
is_headed_by i d t = is_this i (free_head d t)
  where
    is_this : ℕ → Option ℕ → Bool
    is_this i None = false
    is_this i (Some j) = nat_eq i j

-- Whether matching a term under d binders finds what free variable i stands for: somewhere the variable is the head of distinct variables
-- of binders inside the term, and not in an argument of a free variable that has other arguments.
abbrev pub finds : ℕ → ℕ → Lambda → Bool
finds i d (bound j) = is_headed_by i d (bound j)
finds i d (constant c) = false
finds i d (lam a s) = finds i (suc d) s
finds i d (app s u) =
    if is_some (free_head d s) then is_headed_by i d s && is_some (local_arguments d (app s u)) else finds i d s || finds i d u

-- whether each variable that is free in a term has its flag, innermost first
abbrev pub is_within : List Bool → Lambda → Bool
is_within flags (bound k) = slice_index_or flags k false
is_within flags (constant c) = true
is_within flags (lam a s) = is_within (true ∷ flags) s
is_within flags (app s u) = is_within flags s && is_within flags u

-- over how many variables a formula quantifies outermost
abbrev pub outermost_count : Lambda → ℕ
outermost_count (app (constant (all a)) (lam b s)) = suc (outermost_count s)
outermost_count t = 0

-- Whether a pattern determines variable j of its literal, where the outermost one is number 0.
abbrev pub determines : Pattern → ℕ → Bool
determines p j = finds (length p.binders - suc j) 0 p.term

-- whether it determines one of the first n
abbrev pub determines_one : Pattern → ℕ → Bool
determines_one p zero = false
determines_one p (suc n) = determines p n || determines_one p n

-- whether it determines all of the first n
abbrev pub determines_all : Pattern → ℕ → Bool
determines_all p zero = true
determines_all p (suc n) = determines p n && determines_all p n

-- a pattern is used where matching finds each variable that is free in it, and it determines one of the n outermost variables
abbrev pub is_used : ℕ → Pattern → Bool
is_used n p = is_within (map (λ b. b.matchable) p.binders) p.term && determines_one p n

abbrev pub same_polarity : Polarity → Polarity → Bool
same_polarity even_polarity even_polarity = true
same_polarity odd_polarity odd_polarity = true
same_polarity both_polarities both_polarities = true
same_polarity p q = false

abbrev pub is_same_place : MatchedWith → MatchedWith → Bool
is_same_place known_terms known_terms = true
is_same_place (processed_literals p) (processed_literals q) = same_polarity p q
is_same_place known_terms (processed_literals q) = false
is_same_place (processed_literals p) known_terms = false

abbrev pub are_same_binders : List PassedBinder → List PassedBinder → Bool
are_same_binders [] [] = true
are_same_binders (a ∷ as') (b ∷ bs) = same_sign a.matchable b.matchable && same_type a.type b.type && are_same_binders as' bs
are_same_binders as' bs = false

abbrev pub same_pattern : Pattern → Pattern → Bool
same_pattern p q =
    is_same_place p.matched_with q.matched_with && are_same_binders p.binders q.binders && same_term p.term q.term

-- each pattern once, where it comes first
abbrev pub each_once : List Pattern → List Pattern
each_once [] = []
each_once (p ∷ ps) = p ∷ filter (λ q. not (same_pattern p q)) (each_once ps)

-- how many of n variables, from number j on, are determined one after the other by some pattern
abbrev pub determined_from : List Pattern → ℕ → ℕ → ℕ
determined_from ps j zero = 0
determined_from ps j (suc n) = if list_any (λ p. determines p j) ps then suc (determined_from ps (suc j) n) else 0

-- The patterns with which instances of a literal are found, and of how many of its variables, outermost first, they find the values.
pub record MatchingGroup : Type 0 where
  pub count : ℕ
  pub patterns : List Pattern

-- those that determine all n variables, if there is one, and else all
abbrev pub full_ones : ℕ → List Pattern → List Pattern
full_ones n ps = if list_any (λ p. determines_all p n) ps then filter (λ p. determines_all p n) ps else ps

-- the patterns that are used of a literal
abbrev pub used_patterns : Literal → List Pattern
used_patterns l = each_once (filter (is_used (outermost_count l.atom)) (literal_patterns l))

-- the first of its outermost variables that patterns determine, up to one that none does
abbrev pub determined_count : Literal → ℕ
determined_count l = determined_from (used_patterns l) 0 (outermost_count l.atom)

-- The group of a literal, where its outermost variable is determined.
abbrev pub group_of : Literal → Option MatchingGroup
group_of l =
    if nat_eq (determined_count l) 0 then None
    else Some (record { count = determined_count l; patterns = full_ones (determined_count l) (used_patterns l) })
