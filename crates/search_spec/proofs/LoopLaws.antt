-- Queues of loops, and queues of commands that are named otherwise.
use Rattle.std.specs.Prelude.{◌≡◌, ◌<◌, ◌≤◌, ◌+◌, ◌==◌, ℕ, suc, Bool, true, false, not, ◌||◌, ◌&&◌, nat_lt, ◌⊎◌, length, List, [], ◌∷◌, ◌++◌, map, Some, refl, if◌then◌else◌}
use Rattle.std.proofs.Common.{sym, ap, ◌∙◌, inl, inr, arith}
use Rattle.std.proofs.lemmas.Bool.{ne_eqb, eq-eqb, ltb-false, le-ltb}
use Rattle.std.proofs.lemmas.List.Elements.{filter-append}
use Rattle.std.proofs.lemmas.Grind.{flat_map-append}
use Rattle.search_spec.specs.Queue.{new_entries, first_waiting, next_command, without_number}
use Rattle.command_queue.specs.declared.entry.Entry.{Entry}
use Rattle.command_queue.specs.Queue.{comes_before}
use Rattle.search_spec.specs.Internal.Loops.{Loop, entries, first_entry, queue_of, loop_left, loops_after, IsFirstOrNone}
use Rattle.tableau_calculus.specs.Each.{Each}
use Rattle.search_spec.proofs.NamingLaws.{pick}

weaker : (a c x y : Bool) → (x ≡ false → y ≡ false) → (a || (c && x)) ≡ false → (a || (c && y)) ≡ false
weaker true c x y f h = h
weaker false true x y f h = f h
weaker false false x y f h = refl

neither : (a c x : Bool) → a ≡ false → x ≡ false → (a || (c && x)) ≡ false
neither true c x e f = e
neither false true x e f = f
neither false false x e f = refl

-- a command that was pushed after another one, and is due with it, isn't before what the other isn't before
later_not_before : {C : Type 0} (d k j : ℕ) (b c : C) (q : Entry C) → k ≤ j → comes_before (record { due = d; number = k; command = b }) q ≡ false → comes_before (record { due = d; number = j; command = c }) q ≡ false
later_not_before d k j b c q h e =
    weaker (nat_lt d q.due) (d == q.due) (nat_lt k q.number) (nat_lt j q.number) (λ f. le-ltb j q.number (omega (arith, h, ltb-false k q.number f))) e

not_before_itself : {C : Type 0} (q : Entry C) → comes_before q q ≡ false
not_before_itself q = neither (nat_lt q.due q.due) (q.due == q.due) (nat_lt q.number q.number) (le-ltb q.due q.due (omega arith)) (le-ltb q.number q.number (omega arith))

-- commands that aren't before the first so far are passed over
passed_over : {C : Type 0} (d k : ℕ) (b : C) (q : Entry C) → comes_before (record { due = d; number = k; command = b }) q ≡ false → (j : ℕ) → k ≤ j → (cs : List C) (rest : List (Entry C)) → first_waiting q (new_entries (λ c. d) j cs ++ rest) ≡ first_waiting q rest
passed_over d k b q e j h [] rest = refl
passed_over d k b q e j h (c ∷ cs) rest =
    ap (λ t. first_waiting (if t then record { due = d; number = j; command = c } else q) (new_entries (λ _. d) (suc j) cs ++ rest)) (later_not_before d k j b c q h e)
    ∙ passed_over d k b q e (suc j) (omega (arith, h)) cs rest

-- the better of two isn't after either
kept : {C : Type 0} (p q : Entry C) (b : Bool) → comes_before p q ≡ b → comes_before p (if b then p else q) ≡ false
kept p q true e = not_before_itself p
kept p q false e = e

first_of_loops : {C : Type 0} (q : Entry C) (loops : List (Loop C)) → first_waiting q (queue_of loops) ≡ first_waiting q (map first_entry loops)
first_of_loops q [] = refl
first_of_loops q (l ∷ loops) =
    passed_over l.due l.number l.first (if comes_before (first_entry l) q then first_entry l else q) (kept (first_entry l) q (comes_before (first_entry l) q) refl) (suc l.number) (omega arith) l.later (queue_of loops)
    ∙ first_of_loops (if comes_before (first_entry l) q then first_entry l else q) loops

-- The next command of a queue of loops is the next of their first ones.
pub next_of_loops : {C : Type 0} (loops : List (Loop C)) → next_command (queue_of loops) ≡ next_command (map first_entry loops)
next_of_loops [] = refl
next_of_loops (l ∷ loops) =
    ap Some (passed_over l.due l.number l.first (first_entry l) (not_before_itself (first_entry l)) (suc l.number) (omega arith) l.later (queue_of loops) ∙ first_of_loops (first_entry l) loops)

joined_nil : {X : Type 0} (xs : List X) → xs ++ [] ≡ xs
joined_nil [] = refl
joined_nil (x ∷ xs) = ap (λ ys. x ∷ ys) (joined_nil xs)

-- the number isn't one of the m numbers from j on
abbrev Outside : ℕ → ℕ → ℕ → Type 0
Outside n j m = (n < j) ⊎ (j + m ≤ n)

differs : (n j m : ℕ) → Outside n j (suc m) → j ≡ n → ⊥
differs n j m (inl h) e = omega (arith, h, e)
differs n j m (inr h) e = omega (arith, h, e)

narrower : (n j m : ℕ) → Outside n j (suc m) → Outside n (suc j) m
narrower n j m (inl h) = inl (omega (arith, h))
narrower n j m (inr h) = inr (omega (arith, h))

-- the first is dropped where it has the number
dropped : {C : Type 0} (n : ℕ) (q : Entry C) (qs : List (Entry C)) → q.number ≡ n → without_number n (q ∷ qs) ≡ without_number n qs
dropped n q qs e = ap (λ b. pick (not b) (q ∷ without_number n qs) (without_number n qs)) (eq-eqb q.number n e)

left_there : {C : Type 0} (n : ℕ) (q : Entry C) (qs : List (Entry C)) → (q.number ≡ n → ⊥) → without_number n (q ∷ qs) ≡ q ∷ without_number n qs
left_there n q qs h = ap (λ b. pick (not b) (q ∷ without_number n qs) (without_number n qs)) (ne_eqb q.number n h)

none_dropped : {C : Type 0} (n d j : ℕ) (cs : List C) → Outside n j (length cs) → without_number n (new_entries (λ c. d) j cs) ≡ new_entries (λ c. d) j cs
none_dropped n d j [] h = refl
none_dropped n d j (c ∷ cs) h =
    left_there n (record { due = d; number = j; command = c }) (new_entries (λ c. d) (suc j) cs) (differs n j (length cs) h)
    ∙ ap (λ qs. record { due = d; number = j; command = c } ∷ qs) (none_dropped n d (suc j) cs (narrower n j (length cs) h))

left_entries : {C : Type 0} (d j : ℕ) (cs : List C) → new_entries (λ c. d) (suc j) cs ≡ queue_of (loop_left d j cs)
left_entries d j [] = refl
left_entries d j (c ∷ cs) = sym (joined_nil (new_entries (λ c. d) (suc j) (c ∷ cs)))

outside : {C : Type 0} (n : ℕ) (l : Loop C) → (n < l.number) ⊎ (l.number + length l.later < n) → Outside n l.number (suc (length l.later))
outside n l (inl h) = inl h
outside n l (inr h) = inr (omega (arith, h))

one_advanced : {C : Type 0} (n : ℕ) (l : Loop C) → IsFirstOrNone n l → without_number n (entries l) ≡ queue_of (if l.number == n then loop_left l.due l.number l.later else l ∷ [])
one_advanced n l (inl e) =
    dropped n (first_entry l) (new_entries (λ c. l.due) (suc l.number) l.later) e
    ∙ none_dropped n l.due (suc l.number) l.later (inl (omega (arith, e)))
    ∙ left_entries l.due l.number l.later
    ∙ sym (ap (λ b. queue_of (if b then loop_left l.due l.number l.later else l ∷ [])) (eq-eqb l.number n e))
one_advanced n l (inr h) =
    none_dropped n l.due l.number (l.first ∷ l.later) (outside n l h)
    ∙ sym (joined_nil (entries l))
    ∙ sym (ap (λ b. queue_of (if b then loop_left l.due l.number l.later else l ∷ [])) (ne_eqb l.number n (differs n l.number (length l.later) (outside n l h))))

-- The queue without the command of a number is that of the loops without it, where it is the first of its loop.
pub without_from_loops : {C : Type 0} (n : ℕ) (loops : List (Loop C)) → Each (IsFirstOrNone n) loops → without_number n (queue_of loops) ≡ queue_of (loops_after n loops)
without_from_loops n [] h = refl
without_from_loops {C} n (l ∷ loops) h =
    filter-append (λ q. not (q.number == n)) (entries l) (queue_of loops)
    ∙ ap (λ qs. qs ++ without_number n (queue_of loops)) (one_advanced n l h.0)
    ∙ ap (λ qs. queue_of one ++ qs) (without_from_loops n loops h.1)
    ∙ sym (flat_map-append entries one (loops_after n loops))
  where
    one : List (Loop C)
    one = if l.number == n then loop_left l.due l.number l.later else l ∷ []
