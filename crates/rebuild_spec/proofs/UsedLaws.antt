-- How many lines a rebuilt refutation has.
use Rattle.std.proofs.Common.{◌≡◌, ◌<◌, ◌≤◌, ◌+◌, ◌&&◌, ◌||◌, cond, not, nat_eq, if◌then◌else◌, ℕ, zero, suc, Bool, true, false, List, [], ◌∷◌, ◌++◌, map, length, Option, Some, None, slice_get, Contains, refl, sym, ap, ◌∙◌, subst, append_assoc, length-append, arith}
use Rattle.std.specs.List.{list_any}
use Rattle.std.proofs.lemmas.Bool.{false≢true, eqb-true, eq-eqb}
use Rattle.std.proofs.lemmas.Option.{slice_get_within}
use Rattle.std.proofs.lemmas.List.{length-map}
use Rattle.std.proofs.lemmas.List.Elements.{Contains-append_left, Contains-append_right}
use Rattle.tableau_calculus.proofs.ListLaws.{contains-first, contains-later, contains_cases, contains-get}
use Rattle.sat_base.specs.declared.literal.Var.{Var}
use Rattle.sat_base.specs.declared.literal.SatLit.{SatLit}
use Rattle.sat_base.specs.Literal.{positive, negative, holds}
use Rattle.sat_log.specs.declared.chain.Premise.{Premise}
use Rattle.sat_log.specs.declared.chain.Premise.TheVariants.{Clause, Result}
use Rattle.sat_log.specs.declared.chain.ChainStep.{ChainStep}
use Rattle.sat_log.specs.declared.log.LogEntry.{LogEntry}
use Rattle.rebuild_spec.specs.Input.{Input}
use Rattle.rebuild_spec.specs.Trees.{Place, at_clause, at_step, at_result, same_place, Tree, made_at, same_line}
use Rattle.rebuild_spec.specs.Stands.{Standing, start, line, joined_standing, standing_after_step, premise_place, Stands, of_start, of_instance, of_first, of_next, of_result}
use Rattle.rebuild_spec.specs.Lines.{walked, line_number_in, line_of, lines_from}
use Rattle.rebuild_spec.specs.Used.{IsUsed, last_result, first_of, step_of, steps_in, steps_of, AreDistinct, AreFew}
use Rattle.rebuild_spec.proofs.WalkLaws.{same_place-refl, IsEach, IsOrdered, get-middle}
use Rattle.rebuild_spec.proofs.ReachedLaws.{walked_all}
use Rattle.rebuild_spec.proofs.CountLaws.{HasNoneTwice, no_longer}

-- the places after the steps of a chain, and of the chains of results of a log
step_places : ℕ → ℕ → List ChainStep → List Place
step_places n k [] = []
step_places n k (step ∷ steps) = at_step n (suc k) ∷ step_places n (suc k) steps

steps_at : Option LogEntry → List ChainStep
steps_at None = []
steps_at (Some entry) = entry.chain.steps

result_places : List LogEntry → List ℕ → List Place
result_places log [] = []
result_places log (n ∷ ns) = step_places n zero (steps_at (slice_get log n)) ++ result_places log ns

step_places-length : (n k : ℕ) (steps : List ChainStep) → length (step_places n k steps) ≡ length steps
unfolding step_places
step_places-length n k [] = refl
step_places-length n k (step ∷ steps) = let rest = step_places-length n (suc k) steps in omega (arith, rest)

steps_at-length : (o : Option LogEntry) → length (steps_at o) ≡ steps_in o
unfolding steps_at
steps_at-length None = refl
steps_at-length (Some entry) = refl

result_places-length : (log : List LogEntry) (ns : List ℕ) → length (result_places log ns) ≡ steps_of log ns
unfolding result_places
result_places-length log [] = refl
result_places-length log (n ∷ ns) =
    let here = step_places-length n zero (steps_at (slice_get log n)) in
    let steps = steps_at-length (slice_get log n) in
    let rest = result_places-length log ns in
    let both = length-append (step_places n zero (steps_at (slice_get log n))) (result_places log ns) in
    omega (arith, here, steps, rest, both)

step_there : (n k : ℕ) (steps : List ChainStep) (j r : ℕ) → r ≡ k + j → j < length steps → Contains (step_places n k steps) (at_step n (suc r))
unfolding step_places
step_there n k [] j r e l = absurd (omega (arith, l))
step_there n k (step ∷ steps) zero r e l =
    let same : k ≡ r = omega (arith, e) in
    subst (λ x. Contains (at_step n (suc k) ∷ step_places n (suc k) steps) (at_step n (suc x))) same (contains-first (at_step n (suc k)) (step_places n (suc k) steps))
step_there n k (step ∷ steps) (suc j) r e l =
    contains-later (at_step n (suc r)) (at_step n (suc k)) (step_places n (suc k) steps) (step_there n (suc k) steps j r (omega (arith, e)) (omega (arith, l)))

place_here : (n j : ℕ) (o : Option LogEntry) (entry : LogEntry) → o ≡ Some entry → j < length entry.chain.steps → Contains (step_places n zero (steps_at o)) (at_step n (suc j))
unfolding steps_at
place_here n j None entry e l = cc
place_here n j (Some other) entry e l =
    let same : other ≡ entry = cc in
    step_there n zero other.chain.steps j j (omega arith) (subst (λ x. j < length x.chain.steps) (sym same) l)

place_there : (log : List LogEntry) (ns : List ℕ) (n : ℕ) (entry : LogEntry) (j : ℕ) → Contains ns n → slice_get log n ≡ Some entry → j < length entry.chain.steps → Contains (result_places log ns) (at_step n (suc j))
unfolding result_places
place_there log [] n entry j c h l = absurd (omega (arith, c.1))
place_there log (m ∷ ns) n entry j c h l =
    contains_cases (Contains (step_places m zero (steps_at (slice_get log m)) ++ result_places log ns) (at_step n (suc j))) n m ns c
    (λ same. Contains-append_left (step_places m zero (steps_at (slice_get log m))) (result_places log ns) (at_step n (suc j))
    (subst (λ x. Contains (step_places x zero (steps_at (slice_get log x))) (at_step n (suc j))) (sym same) (place_here n j (slice_get log n) entry h l)))
    (λ later. Contains-append_right (step_places m zero (steps_at (slice_get log m))) (result_places log ns) (at_step n (suc j)) (place_there log ns n entry j later h l))

-- the numbers of the results among some places, each once
with_number : ℕ → List ℕ → List ℕ
with_number n ns = if list_any (nat_eq n) ns then ns else n ∷ ns

step_numbers : List Place → List ℕ
step_numbers [] = []
step_numbers (at_clause n ∷ ps) = step_numbers ps
step_numbers (at_step n k ∷ ps) = with_number n (step_numbers ps)
step_numbers (at_result n ∷ ps) = step_numbers ps

among : (n : ℕ) (ns : List ℕ) → list_any (nat_eq n) ns ≡ true → Contains ns n
among n [] e = absurd (cc)
among n (m ∷ ns) e = go (nat_eq n m) refl e (among n ns)
  where
    go : (b : Bool) → nat_eq n m ≡ b → (b || list_any (nat_eq n) ns) ≡ true → (list_any (nat_eq n) ns ≡ true → Contains ns n) → Contains (m ∷ ns) n
    go true same h later = subst (λ x. Contains (x ∷ ns) n) (eqb-true n m same) (contains-first n ns)
    go false other h later = contains-later n m ns (later h)

not_among : (n : ℕ) (ns : List ℕ) → list_any (nat_eq n) ns ≡ false → Contains ns n → ⊥
not_among n [] e c = omega (arith, c.1)
not_among n (m ∷ ns) e c = contains_cases ⊥ n m ns c (λ same. absurd (false≢true (sym (or_false_left (nat_eq n m) (list_any (nat_eq n) ns) e) ∙ eq-eqb n m (sym same)))) (λ later. not_among n ns (or_false_right (nat_eq n m) (list_any (nat_eq n) ns) e) later)
  where
    or_false_left : (a b : Bool) → (a || b) ≡ false → a ≡ false
    or_false_left true b h = absurd (false≢true (sym h))
    or_false_left false b h = refl

    or_false_right : (a b : Bool) → (a || b) ≡ false → b ≡ false
    or_false_right true b h = absurd (false≢true (sym h))
    or_false_right false b h = h

with_there : (n m : ℕ) (ns : List ℕ) → Contains ns m → Contains (with_number n ns) m
unfolding with_number
with_there n m ns c = go (list_any (nat_eq n) ns)
  where
    go : (b : Bool) → Contains (if b then ns else n ∷ ns) m
    go true = c
    go false = contains-later m n ns c

with_itself : (n : ℕ) (ns : List ℕ) → Contains (with_number n ns) n
unfolding with_number
with_itself n ns = go (list_any (nat_eq n) ns) refl
  where
    go : (b : Bool) → list_any (nat_eq n) ns ≡ b → Contains (if b then ns else n ∷ ns) n
    go true e = among n ns e
    go false e = contains-first n ns

with_distinct : (n : ℕ) (ns : List ℕ) → AreDistinct ns → AreDistinct (with_number n ns)
unfolding with_number
with_distinct n ns h = go (list_any (nat_eq n) ns) refl
  where
    go : (b : Bool) → list_any (nat_eq n) ns ≡ b → AreDistinct (if b then ns else n ∷ ns)
    go true e = h
    go false e = (not_among n ns e, h)

with_cases : (Q : Type 0) (n m : ℕ) (ns : List ℕ) → Contains (with_number n ns) m → (n ≡ m → Q) → (Contains ns m → Q) → Q
unfolding with_number
with_cases Q n m ns c same later = go (list_any (nat_eq n) ns) c
  where
    go : (b : Bool) → Contains (if b then ns else n ∷ ns) m → Q
    go true k = later k
    go false k = contains_cases Q m n ns k same later

step_number : (ps : List Place) (n k : ℕ) → Contains ps (at_step n k) → Contains (step_numbers ps) n
unfolding step_numbers
step_number [] n k h = absurd (omega (arith, h.1))
step_number (at_clause m ∷ ps) n k h = contains_cases (Contains (step_numbers ps) n) (at_step n k) (at_clause m) ps h (λ same. cc) (λ later. step_number ps n k later)
step_number (at_step m j ∷ ps) n k h =
    contains_cases (Contains (with_number m (step_numbers ps)) n) (at_step n k) (at_step m j) ps h
    (λ same. let e : m ≡ n = cc in subst (λ x. Contains (with_number x (step_numbers ps)) n) (sym e) (with_itself n (step_numbers ps)))
    (λ later. with_there m n (step_numbers ps) (step_number ps n k later))
step_number (at_result m ∷ ps) n k h = contains_cases (Contains (step_numbers ps) n) (at_step n k) (at_result m) ps h (λ same. cc) (λ later. step_number ps n k later)

number_step : (ps : List Place) (n : ℕ) → Contains (step_numbers ps) n → (k : ℕ) × Contains ps (at_step n k)
unfolding step_numbers
number_step [] n h = absurd (omega (arith, h.1))
number_step (at_clause m ∷ ps) n h = let r = number_step ps n h in (r.0, contains-later (at_step n r.0) (at_clause m) ps r.1)
number_step (at_step m j ∷ ps) n h =
    with_cases ((k : ℕ) × Contains (at_step m j ∷ ps) (at_step n k)) m n (step_numbers ps) h
    (λ same. (j, subst (λ x. Contains (at_step m j ∷ ps) (at_step x j)) same (contains-first (at_step m j) ps)))
    (λ later. let r = number_step ps n later in (r.0, contains-later (at_step n r.0) (at_step m j) ps r.1))
number_step (at_result m ∷ ps) n h = let r = number_step ps n h in (r.0, contains-later (at_step n r.0) (at_result m) ps r.1)

steps_distinct : (ps : List Place) → AreDistinct (step_numbers ps)
unfolding step_numbers
steps_distinct [] = tt
steps_distinct (at_clause m ∷ ps) = steps_distinct ps
steps_distinct (at_step m j ∷ ps) = with_distinct m (step_numbers ps) (steps_distinct ps)
steps_distinct (at_result m ∷ ps) = steps_distinct ps

-- the numbers of the clauses among some places
clause_numbers : List Place → List ℕ
clause_numbers [] = []
clause_numbers (at_clause n ∷ ps) = n ∷ clause_numbers ps
clause_numbers (at_step n k ∷ ps) = clause_numbers ps
clause_numbers (at_result n ∷ ps) = clause_numbers ps

number_place : (ps : List Place) (n : ℕ) → Contains (clause_numbers ps) n → Contains ps (at_clause n)
unfolding clause_numbers
number_place [] n h = absurd (omega (arith, h.1))
number_place (at_clause m ∷ ps) n h =
    contains_cases (Contains (at_clause m ∷ ps) (at_clause n)) n m (clause_numbers ps) h (λ same. subst (λ k. Contains (at_clause m ∷ ps) (at_clause k)) same (contains-first (at_clause m) ps))
    (λ later. contains-later (at_clause n) (at_clause m) ps (number_place ps n later))
number_place (at_step m k ∷ ps) n h = contains-later (at_clause n) (at_step m k) ps (number_place ps n h)
number_place (at_result m ∷ ps) n h = contains-later (at_clause n) (at_result m) ps (number_place ps n h)

place_number : (ps : List Place) (n : ℕ) → Contains ps (at_clause n) → Contains (clause_numbers ps) n
unfolding clause_numbers
place_number [] n h = absurd (omega (arith, h.1))
place_number (at_clause m ∷ ps) n h =
    contains_cases (Contains (m ∷ clause_numbers ps) n) (at_clause n) (at_clause m) ps h (λ same. let e : m ≡ n = cc in subst (Contains (m ∷ clause_numbers ps)) e (contains-first m (clause_numbers ps)))
    (λ later. contains-later n m (clause_numbers ps) (place_number ps n later))
place_number (at_step m k ∷ ps) n h = contains_cases (Contains (clause_numbers ps) n) (at_clause n) (at_step m k) ps h (λ same. cc) (λ later. place_number ps n later)
place_number (at_result m ∷ ps) n h = contains_cases (Contains (clause_numbers ps) n) (at_clause n) (at_result m) ps h (λ same. cc) (λ later. place_number ps n later)

numbers_distinct : (ps : List Place) → HasNoneTwice ps → AreDistinct (clause_numbers ps)
unfolding clause_numbers
numbers_distinct [] h = tt
numbers_distinct (at_clause m ∷ ps) h = (λ c. h.0 (number_place ps m c), numbers_distinct ps h.1)
numbers_distinct (at_step m k ∷ ps) h = numbers_distinct ps h.1
numbers_distinct (at_result m ∷ ps) h = numbers_distinct ps h.1

contains_map : {A B : Type 0} (f : A → B) (xs : List A) (x : A) → Contains xs x → Contains (map f xs) (f x)
contains_map f [] x h = absurd (omega (arith, h.1))
contains_map f (y ∷ xs) x h = contains_cases (Contains (map f (y ∷ xs)) (f x)) x y xs h (λ same. subst (λ z. Contains (map f (y ∷ xs)) (f z)) same (contains-first (f y) (map f xs))) (λ later. contains-later (f x) (f y) (map f xs) (contains_map f xs x later))

module _ (log : List LogEntry) where
  -- a place that is counted: a clause that is used, or a step of a result that is used
  abbrev IsCounted : Place → Type 0
  IsCounted (at_clause n) = IsUsed log (at_clause n)
  IsCounted (at_step n zero) = ⊥
  IsCounted (at_step n (suc k)) = IsUsed log (at_result n) × ((entry : LogEntry) × (slice_get log n ≡ Some entry) × (k < length entry.chain.steps))
  IsCounted (at_result n) = ⊥

  abbrev IsCountedLine : Tree → Type 0
  IsCountedLine t = IsCounted (made_at t)

  abbrev pub IsUsedAt : Place → Type 0
  IsUsedAt (at_clause n) = IsUsed log (at_clause n)
  IsUsedAt (at_step n k) = IsUsed log (at_result n)
  IsUsedAt (at_result n) = IsUsed log (at_result n)

  pub used_at : (p : Premise) → IsUsed log (premise_place p) → IsUsedAt (premise_place p)
  used_at (Clause n) h = h
  used_at (Result n) h = h

  abbrev AreCounted : Standing → Type 0
  AreCounted (start n l) = Unit {0}
  AreCounted (line t) = IsEach IsCountedLine t

  joined_counted : (p : Place) (v : Var) (s t : Standing) → IsCounted p → AreCounted s → AreCounted t → AreCounted (joined_standing p v s t)
  joined_counted p v (start m l) (start n k) here first second = here
  joined_counted p v (start m l) (line t) here first second = second
  joined_counted p v (line t) (start n k) here first second = first
  joined_counted p v (line t) (line u) here first second = (here, second, first)

  stepped_counted : (p : Place) (v : Var) (a b : List SatLit) (s t : Standing) → IsCounted p → AreCounted s → AreCounted t → AreCounted (standing_after_step p v a s b t)
  stepped_counted p v a b s t here first second = go (holds a (positive v) && holds b (negative v))
    where
      go : (x : Bool) → AreCounted (if x then joined_standing p v s t else joined_standing p v t s)
      go true = joined_counted p v s t here first second
      go false = joined_counted p v t s here second first

module _ (input : Input) where
  are_counted : (p : Place) (c : List SatLit) (s : Standing) → Stands input p c s → IsUsedAt input.log p → AreCounted input.log s
  are_counted p c s (of_start n l e) used = tt
  are_counted p c s (of_instance n d i e) used = used
  are_counted p c s (of_first n entry d t e h) used =
      are_counted (premise_place entry.chain.first) d t h (used_at input.log entry.chain.first (first_of n entry e used))
  are_counted p c s (of_next n k entry step a b d x y e f h j r) used =
      let premise = used_at input.log step.premise (step_of n entry step e used (contains-get entry.chain.steps k step f)) in
      stepped_counted input.log (at_step n (suc k)) step.var a b x y (used, (entry, e, slice_get_within entry.chain.steps k step f)) (are_counted (at_step n k) a x h used) (are_counted (premise_place step.premise) b y j premise)
  are_counted p c s (of_result n entry d t e h) used = are_counted (at_step n (length entry.chain.steps)) d t h used

-- a line stands at no later place than one that is made where it is
number_bound : (lines : List Tree) (i : ℕ) (t u : Tree) → slice_get lines i ≡ Some t → same_line u t ≡ true → line_number_in lines u ≤ i
number_bound [] i t u h e = cc
number_bound (x ∷ lines) zero t u h e =
    let same : x ≡ t = cc in
    let first : line_number_in (x ∷ lines) u ≡ 0 = ap (λ b. cond (not b) (1 + line_number_in lines u) 0) (subst (λ y. same_line u y ≡ true) (sym same) e) in
    omega (arith, first)
number_bound (x ∷ lines) (suc i) t u h e = go (same_line u x) refl (number_bound lines i t u h e)
  where
    go : (b : Bool) → same_line u x ≡ b → line_number_in lines u ≤ i → line_number_in (x ∷ lines) u ≤ suc i
    go true is rest = let first : line_number_in (x ∷ lines) u ≡ 0 = ap (λ b. cond (not b) (1 + line_number_in lines u) 0) is in omega (arith, first)
    go false is rest = let first : line_number_in (x ∷ lines) u ≡ 1 + line_number_in lines u = ap (λ b. cond (not b) (1 + line_number_in lines u) 0) is in omega (arith, first, rest)

module _ (Is : Tree → Type 0) (trees : List Tree) (ordered : IsOrdered Is trees) where
  -- no two lines are made at one place
  apart : (front back : List Tree) (t : Tree) → trees ≡ front ++ t ∷ back → Contains (map made_at back) (made_at t) → ⊥
  apart front back t e h =
      let other = mapped back h in
      let later = other.1.0 in
      let at : slice_get trees (length front) ≡ Some t = ap (λ k. slice_get k (length front)) e ∙ get-middle front back t in
      let there : slice_get trees (suc (length front) + later) ≡ Some other.0 = ap (λ k. slice_get k (suc (length front) + later)) e ∙ behind front t back later other.0 other.1.1 in
      let number = ordered.numbered (suc (length front) + later) other.0 there in
      let same : same_line other.0 t ≡ true = subst (λ p. same_place p (made_at t) ≡ true) (sym other.1.2) (same_place-refl (made_at t)) in
      let few = number_bound trees (length front) t other.0 at same in
      absurd (omega (arith, number, few))
    where
      mapped : (back : List Tree) → Contains (map made_at back) (made_at t) → (u : Tree) × ((i : ℕ) × (slice_get back i ≡ Some u) × (made_at u ≡ made_at t))
      mapped [] h = absurd (omega (arith, h.1))
      mapped (u ∷ back) h = contains_cases ((w : Tree) × ((i : ℕ) × (slice_get (u ∷ back) i ≡ Some w) × (made_at w ≡ made_at t))) (made_at t) (made_at u) (map made_at back) h (λ same. (u, (zero, refl, same))) (λ later. let r = mapped back later in (r.0, (suc r.1.0, r.1.1, r.1.2)))

      behind : (front : List Tree) (t : Tree) (back : List Tree) (i : ℕ) (u : Tree) → slice_get back i ≡ Some u → slice_get (front ++ t ∷ back) (suc (length front) + i) ≡ Some u
      behind [] t back i u h = let e : suc i ≡ suc (length {A = Tree} []) + i = omega arith in subst (λ k. slice_get (t ∷ back) k ≡ Some u) e h
      behind (x ∷ front) t back i u h = let e : suc (suc (length front) + i) ≡ suc (length (x ∷ front)) + i = omega arith in subst (λ k. slice_get (x ∷ (front ++ t ∷ back)) k ≡ Some u) e (behind front t back i u h)

  none_twice : (front back : List Tree) → trees ≡ front ++ back → HasNoneTwice (map made_at back)
  none_twice front [] e = tt
  none_twice front (t ∷ back) e = (apart front back t e, none_twice (front ++ t ∷ []) back (e ∙ sym (append_assoc front (t ∷ []) back)))

  pub places_once : HasNoneTwice (map made_at trees)
  places_once = none_twice [] trees refl

-- the counted places are among those of the results that are used and those of clauses
within_counted : (log : List LogEntry) (ps : List Place) → ((p : Place) → Contains ps p → IsCounted log p) → (p : Place) → Contains ps p → Contains (result_places log (step_numbers ps) ++ map at_clause (clause_numbers ps)) p
within_counted log ps counted (at_clause n) h =
    Contains-append_right (result_places log (step_numbers ps)) (map at_clause (clause_numbers ps)) (at_clause n) (contains_map at_clause (clause_numbers ps) n (place_number ps n h))
within_counted log ps counted (at_step n zero) h = absurd (counted (at_step n zero) h)
within_counted log ps counted (at_step n (suc k)) h =
    let there = (counted (at_step n (suc k)) h).1 in
    Contains-append_left (result_places log (step_numbers ps)) (map at_clause (clause_numbers ps)) (at_step n (suc k)) (place_there log (step_numbers ps) n there.0 k (step_number ps n (suc k) h) there.1 there.2)
within_counted log ps counted (at_result n) h = absurd (counted (at_result n) h)

-- a result with a counted step is used
used_step : (log : List LogEntry) (ps : List Place) → ((p : Place) → Contains ps p → IsCounted log p) → (n k : ℕ) → Contains ps (at_step n k) → IsUsed log (at_result n)
used_step log ps counted n zero h = absurd (counted (at_step n zero) h)
used_step log ps counted n (suc k) h = (counted (at_step n (suc k)) h).0

each_place : (P : Place → Type 0) (trees : List Tree) → ((i : ℕ) (t : Tree) → slice_get trees i ≡ Some t → P (made_at t)) → (p : Place) → Contains (map made_at trees) p → P p
each_place P [] all p h = absurd (omega (arith, h.1))
each_place P (t ∷ trees) all p h = contains_cases (P p) p (made_at t) (map made_at trees) h (λ same. subst P same (all zero t refl)) (λ later. each_place P trees (λ i u at. all (suc i) u at) p later)

pub lines_few : (input : Input) (n : ℕ) (t : Tree) → length input.log ≡ n + 1 → Stands input (at_result n) [] (line t) → (Is : Tree → Type 0) → IsOrdered Is (walked [] t) → AreFew input.log (lines_from input.atoms t)
lines_few input n t last stands Is ordered =
    let trees = walked [] t in
    let ps = map made_at trees in
    let is = are_counted input (at_result n) [] (line t) stands (last_result n last) in
    let counted = each_place (IsCounted input.log) trees (walked_all (IsCountedLine input.log) t [] (λ i u h. cc) is) in
    let once = places_once Is trees ordered in
    let ys = result_places input.log (step_numbers ps) ++ map at_clause (clause_numbers ps) in
    let bound = no_longer ps ys once (within_counted input.log ps counted) in
    let lines = length-map trees (line_of input.atoms trees) in
    let places = length-map trees made_at in
    let both = length-append (result_places input.log (step_numbers ps)) (map at_clause (clause_numbers ps)) in
    let steps = result_places-length input.log (step_numbers ps) in
    let numbers = length-map (clause_numbers ps) at_clause in
    record {
      results = step_numbers ps;
      results_distinct = steps_distinct ps;
      each_result = λ m h. let step = number_step ps m h in used_step input.log ps counted m step.0 step.1;
      used = clause_numbers ps;
      distinct = numbers_distinct ps once;
      each_used = λ m h. counted (at_clause m) (number_place ps m h);
      few = omega (arith, bound, lines, places, both, steps, numbers);
    }
