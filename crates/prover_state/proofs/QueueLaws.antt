-- The queue that the entries of an agenda stand for, as entries join and leave.
use Rattle.std.specs.Prelude.{◌≡◌, ◌<◌, ◌==◌, ◌&&◌, ◌||◌, nat_lt, ℕ, suc, Bool, true, false, length, List, [], ◌∷◌, ◌++◌, map, Some, refl, if◌then◌else◌}
use Rattle.std.proofs.Common.{inl, inr, arith, ap, ap₂, ◌∙◌, sym, subst, append-nil}
use Rattle.std.proofs.lemmas.Bool.{ne_eqb, eq-eqb, le-ltb, ltb-true, eqb-true}
use Rattle.std.proofs.lemmas.Grind.{flat_map-append}
use Rattle.stt_core.proofs.ListLaws.{map-append}
use Rattle.command_queue.specs.declared.entry.Entry.{Entry}
use Rattle.command_queue.specs.Queue.{Queue, IsBefore, TakesEntry, AddsEntryAt, comes_before}
use Rattle.tableau_calculus.specs.Each.{Each}
use Rattle.search_spec.specs.Queue.{first_waiting, next_command, without_number}
use Rattle.search_spec.specs.Internal.Loops.{Loop, entries, first_entry, queue_of, loop_left, loops_after, IsFirstOrNone}
use Rattle.search_spec.proofs.LoopLaws.{next_of_loops, without_from_loops}
use Rattle.prover_state.specs.declared.command.Planned.{Planned}
use Rattle.prover_state.specs.Internal.Pending.{span, EndsBelow, AreSpaced}
use Rattle.prover_state.proofs.EachLaws.{each-from_All, each-weaker, each-left, each-right}
use Rattle.prover_state.proofs.SpacedLaws.{before_ends, behind_begins}

module _ {D : Type 0} where
  not_after : (p q : Entry D) → comes_before p q ≡ true → comes_before q p ≡ false
  not_after p q h = go (nat_lt p.due q.due) refl (p.due == q.due) refl (nat_lt p.number q.number) refl h
    where
      second : (b : Bool) → p.due ≡ q.due → p.number < q.number → (q.due == p.due) ≡ b → (nat_lt q.due p.due || (b && nat_lt q.number p.number)) ≡ false
      second b e l f = both (nat_lt q.due p.due) b (nat_lt q.number p.number) (le-ltb q.due p.due (omega (arith, e))) (le-ltb q.number p.number (omega (arith, l)))
        where
          both : (x y z : Bool) → x ≡ false → z ≡ false → (x || (y && z)) ≡ false
          both true y z e g = e
          both false true z e g = g
          both false false z e g = refl

      first : p.due < q.due → (nat_lt q.due p.due || ((q.due == p.due) && nat_lt q.number p.number)) ≡ false
      first l = both (nat_lt q.due p.due) (q.due == p.due) (nat_lt q.number p.number) (le-ltb q.due p.due (omega (arith, l))) (ne_eqb q.due p.due (λ e. omega (arith, e, l)))
        where
          both : (x y z : Bool) → x ≡ false → y ≡ false → (x || (y && z)) ≡ false
          both true y z e g = e
          both false true z e g = absurd (no g)
            where
              no : true ≡ false → ⊥
              no k = cc
          both false false z e g = refl

      go : (a : Bool) → nat_lt p.due q.due ≡ a → (b : Bool) → (p.due == q.due) ≡ b → (c : Bool) → nat_lt p.number q.number ≡ c → (a || (b && c)) ≡ true → comes_before q p ≡ false
      go true e b f c g k = first (ltb-true p.due q.due e)
      go false e true f true g k = second (q.due == p.due) (eqb-true p.due q.due f) (ltb-true p.number q.number g) refl
      go false e true f false g k = cc
      go false e false f c g k = cc

  -- nothing is before the first
  stays_first : (q : Entry D) (ps : List (Entry D)) → Each (λ p. comes_before q p ≡ true) ps → first_waiting q ps ≡ q
  stays_first q [] h = refl
  stays_first q (p ∷ ps) h = ap (λ b. first_waiting (if b then p else q) ps) (not_after q p h.0) ∙ stays_first q ps h.1

  -- what is before all others is taken for the first
  comes_first : (e q : Entry D) (ps qs : List (Entry D)) → comes_before e q ≡ true → Each (λ p. comes_before e p ≡ true) ps → Each (λ p. comes_before e p ≡ true) qs → first_waiting q (ps ++ e ∷ qs) ≡ e
  comes_first e q [] qs h k l = ap (λ b. first_waiting (if b then e else q) qs) h ∙ stays_first e qs l
  comes_first e q (p ∷ ps) qs h k l = comes_first e (if comes_before p q then p else q) ps qs (one (comes_before p q)) k.1 l
    where
      one : (b : Bool) → comes_before e (if b then p else q) ≡ true
      one true = k.0
      one false = h

  pub next-is : (e : Entry D) (ps qs : List (Entry D)) → Each (λ p. comes_before e p ≡ true) ps → Each (λ p. comes_before e p ≡ true) qs → next_command (ps ++ e ∷ qs) ≡ Some e
  next-is e [] qs k l = ap Some (stays_first e qs l)
  next-is e (p ∷ ps) qs k l = ap Some (comes_first e p ps qs k.0 k.1 l)

  others_stay : (n : ℕ) (ls : List (Loop D)) → Each (λ l. l.number ≡ n → ⊥) ls → loops_after n ls ≡ ls
  others_stay n [] h = refl
  others_stay n (l ∷ ls) h =
      ap (λ b. (if b then loop_left l.due l.number l.later else l ∷ []) ++ loops_after n ls) (ne_eqb l.number n h.0) ∙ ap (λ xs. l ∷ xs) (others_stay n ls h.1)

  -- the loop of the number goes on, and the others stay
  one_goes_on : (before : List (Loop D)) (l : Loop D) (behind : List (Loop D)) → Each (λ k. k.number ≡ l.number → ⊥) before → Each (λ k. k.number ≡ l.number → ⊥) behind → loops_after l.number (before ++ l ∷ behind) ≡ before ++ (loop_left l.due l.number l.later ++ behind)
  one_goes_on before l behind h k =
      flat_map-append (λ x. if x.number == l.number then loop_left x.due x.number x.later else x ∷ []) before (l ∷ behind)
      ∙ ap₂ (λ xs ys. xs ++ ys) (others_stay l.number before h)
      (ap (λ b. (if b then loop_left l.due l.number l.later else l ∷ []) ++ loops_after l.number behind) (eq-eqb l.number l.number refl)
      ∙ ap (λ ys. loop_left l.due l.number l.later ++ ys) (others_stay l.number behind k))

-- two ways to part a list at a number are one
parted_once : (n : ℕ) (xs ys xs' ys' : List (Entry Planned)) → xs ++ ys ≡ xs' ++ ys' → Each (λ x. x.number < n) xs → Each (λ x. n < x.number) ys → Each (λ x. x.number < n) xs' → Each (λ x. n < x.number) ys' → (xs ≡ xs') × (ys ≡ ys')
parted_once n [] ys [] ys' e a b c d = (refl, e)
parted_once n [] [] (x' ∷ xs') ys' e a b c d = cc
parted_once n [] (y ∷ ys) (x' ∷ xs') ys' e a b c d = absurd (omega (arith, b.0, c.0, ap (λ (z : Entry Planned). z.number) (heads e)))
  where
    heads : y ∷ ys ≡ x' ∷ (xs' ++ ys') → y ≡ x'
    heads h = cc
parted_once n (x ∷ xs) ys [] [] e a b c d = cc
parted_once n (x ∷ xs) ys [] (y' ∷ ys') e a b c d = absurd (omega (arith, a.0, d.0, ap (λ (z : Entry Planned). z.number) (heads e)))
  where
    heads : x ∷ (xs ++ ys) ≡ y' ∷ ys' → x ≡ y'
    heads h = cc
parted_once n (x ∷ xs) ys (x' ∷ xs') ys' e a b c d = joined (heads e) (parted_once n xs ys xs' ys' (tails e) a.1 b c.1 d)
  where
    heads : x ∷ (xs ++ ys) ≡ x' ∷ (xs' ++ ys') → x ≡ x'
    heads h = cc

    tails : x ∷ (xs ++ ys) ≡ x' ∷ (xs' ++ ys') → xs ++ ys ≡ xs' ++ ys'
    tails h = cc

    joined : x ≡ x' → (xs ≡ xs') × (ys ≡ ys') → (x ∷ xs ≡ x' ∷ xs') × (ys ≡ ys')
    joined p q = (ap₂ (λ z zs. z ∷ zs) p q.0, q.1)

module _ {D : Type 0} (f : Entry Planned → Loop D) (due_is : (e : Entry Planned) → (f e).due ≡ e.due) (number_is : (e : Entry Planned) → (f e).number ≡ e.number) where
  -- as many commands come after the first one as the entry says
  abbrev IsFull : Entry Planned → Type 0
  IsFull e = length (f e).later ≡ span e.command

  -- a further entry's commands are the last ones
  pub queue-last : (es : List (Entry Planned)) (e : Entry Planned) → queue_of (map f (es ++ e ∷ [])) ≡ queue_of (map f es) ++ entries (f e)
  queue-last es e =
      ap queue_of (map-append f es (e ∷ [])) ∙ flat_map-append entries (map f es) (f e ∷ []) ∙ ap (λ qs. queue_of (map f es) ++ qs) (append-nil (entries (f e)))

  earlier : (e : Entry Planned) (xs : List (Entry Planned)) → Each (IsBefore e) xs → Each (λ p. comes_before (first_entry (f e)) p ≡ true) (map first_entry (map f xs))
  earlier e [] h = tt
  earlier e (x ∷ xs) h = (one, earlier e xs h.1)
    where
      one : comes_before (first_entry (f e)) (first_entry (f x)) ≡ true
      one =
          ap₂ (λ d n. nat_lt d (f x).due || ((d == (f x).due) && nat_lt n (f x).number)) (due_is e) (number_is e)
          ∙ ap₂ (λ d n. nat_lt e.due d || ((e.due == d) && nat_lt e.number n)) (due_is x) (number_is x)
          ∙ h.0

  firsts : (xs ys : List (Entry Planned)) (e : Entry Planned) → map first_entry (map f (xs ++ e ∷ ys)) ≡ map first_entry (map f xs) ++ first_entry (f e) ∷ map first_entry (map f ys)
  firsts xs ys e = ap (map first_entry) (map-append f xs (e ∷ ys)) ∙ map-append first_entry (map f xs) (f e ∷ map f ys)

  -- The command that leaves is the next one.
  pub next-taken : {R : Type 0} (old new : Queue Planned R) (e : Entry Planned) → TakesEntry old new e → next_command (queue_of (map f old.entries)) ≡ Some (first_entry (f e))
  next-taken old new e t =
      let least : Each (IsBefore e) (t.before ++ t.behind) = subst (Each (IsBefore e)) t.leaves (each-from_All (IsBefore e) new.entries t.least) in
      next_of_loops (map f old.entries)
      ∙ ap (λ es. next_command (map first_entry (map f es))) t.stands
      ∙ ap next_command (firsts t.before t.behind e)
      ∙ next-is (first_entry (f e)) (map first_entry (map f t.before)) (map first_entry (map f t.behind))
      (earlier e t.before (each-left (IsBefore e) t.before t.behind least)) (earlier e t.behind (each-right (IsBefore e) t.before t.behind least))

  differ_before : (n : ℕ) (xs : List (Entry Planned)) → Each (EndsBelow n) xs → Each (λ k. k.number ≡ n → ⊥) (map f xs)
  differ_before n [] h = tt
  differ_before n (x ∷ xs) h = ((λ p. omega (arith, h.0, sym (number_is x) ∙ p)), differ_before n xs h.1)

  differ_behind : (e : Entry Planned) (xs : List (Entry Planned)) → Each (λ x. EndsBelow x.number e) xs → Each (λ k. k.number ≡ e.number → ⊥) (map f xs)
  differ_behind e [] h = tt
  differ_behind e (x ∷ xs) h = ((λ p. omega (arith, h.0, sym (number_is x) ∙ p)), differ_behind e xs h.1)

  outside_before : (n : ℕ) (xs : List (Entry Planned)) → Each (EndsBelow n) xs → Each IsFull xs → Each (IsFirstOrNone n) (map f xs)
  outside_before n [] h k = tt
  outside_before n (x ∷ xs) h k = (inr (inr (omega (arith, h.0, k.0, number_is x))), outside_before n xs h.1 k.1)

  outside_behind : (e : Entry Planned) (xs : List (Entry Planned)) → Each (λ x. EndsBelow x.number e) xs → Each (IsFirstOrNone e.number) (map f xs)
  outside_behind e [] h = tt
  outside_behind e (x ∷ xs) h = (inr (inl (omega (arith, h.0, number_is x))), outside_behind e xs h.1)

  joined_each : {X : Type 0} (P : X → Type 0) (xs ys : List X) → Each P xs → Each P ys → Each P (xs ++ ys)
  joined_each P [] ys h k = k
  joined_each P (x ∷ xs) ys h k = (h.0, joined_each P xs ys h.1 k)

  -- The queue without the first command of an entry: the later ones are left of it.
  without-first : (before : List (Entry Planned)) (e : Entry Planned) (behind : List (Entry Planned)) (n : ℕ) → AreSpaced (before ++ e ∷ behind) n → Each IsFull (before ++ e ∷ behind)
      → without_number e.number (queue_of (map f (before ++ e ∷ behind))) ≡ queue_of (map f before ++ (loop_left (f e).due (f e).number (f e).later ++ map f behind))
  without-first before e behind n h k =
      let P : List (Loop D) → Type 0 = λ ls. Each (IsFirstOrNone e.number) ls in
      let below = before_ends before e behind n h in
      let above = behind_begins before e behind n h in
      let each : Each (IsFirstOrNone e.number) (map f (before ++ e ∷ behind)) =
      subst P (sym (map-append f before (e ∷ behind)))
      (joined_each (IsFirstOrNone e.number) (map f before) (f e ∷ map f behind) (outside_before e.number before below (each-left IsFull before (e ∷ behind) k))
      (inl (number_is e), outside_behind e behind above)) in
      without_from_loops e.number (map f (before ++ e ∷ behind)) each
      ∙ ap (λ ls. queue_of (loops_after e.number ls)) (map-append f before (e ∷ behind))
      ∙ ap (λ m. queue_of (loops_after m (map f before ++ f e ∷ map f behind))) (sym (number_is e))
      ∙ ap queue_of (one_goes_on (map f before) (f e) (map f behind)
      (renumbered (map f before) (differ_before e.number before below)) (renumbered (map f behind) (differ_behind e behind above)))
    where
      renumbered : (ls : List (Loop D)) → Each (λ k. k.number ≡ e.number → ⊥) ls → Each (λ k. k.number ≡ (f e).number → ⊥) ls
      renumbered ls g = each-weaker _ _ (λ l r q. r (q ∙ number_is e)) ls g

  -- An entry without later commands leaves.
  pub without-alone : {R : Type 0} (old new : Queue Planned R) (e : Entry Planned) → TakesEntry old new e → AreSpaced old.entries old.pushes → Each IsFull old.entries → (f e).later ≡ []
      → without_number e.number (queue_of (map f old.entries)) ≡ queue_of (map f new.entries)
  without-alone old new e t h k none =
      let P : List (Entry Planned) → Type 0 = λ es. AreSpaced es old.pushes in
      ap (λ es. without_number e.number (queue_of (map f es))) t.stands
      ∙ without-first t.before e t.behind old.pushes (subst P t.stands h) (subst (Each IsFull) t.stands k)
      ∙ ap (λ cs. queue_of (map f t.before ++ (loop_left (f e).due (f e).number cs ++ map f t.behind))) none
      ∙ ap queue_of (sym (map-append f t.before t.behind) ∙ ap (map f) (sym t.leaves))

  -- An entry leaves, and one with its later commands joins in its place.
  pub without-more : {R : Type 0} (old mid new : Queue Planned R) (e e' : Entry Planned) → TakesEntry old mid e → AddsEntryAt mid new e' → AreSpaced old.entries old.pushes → Each IsFull old.entries
      → e'.number ≡ suc e.number → 0 < span e.command → loop_left (f e).due (f e).number (f e).later ≡ f e' ∷ []
      → without_number e.number (queue_of (map f old.entries)) ≡ queue_of (map f new.entries)
  without-more old mid new e e' t a h k number_follows some left =
      let P : List (Entry Planned) → Type 0 = λ es. AreSpaced es old.pushes in
      let h' = subst P t.stands h in
      let same : t.before ++ t.behind ≡ a.before ++ a.behind = sym t.leaves ∙ a.stood in
      let parts = parted_once e'.number t.before t.behind a.before a.behind same
      (each-weaker (EndsBelow e.number) (λ x. x.number < e'.number) (λ x l. omega (arith, l, number_follows)) t.before (before_ends t.before e t.behind old.pushes h'))
      (each-weaker (λ x. EndsBelow x.number e) (λ x. e'.number < x.number) (λ x l. omega (arith, l, number_follows, some)) t.behind (behind_begins t.before e t.behind old.pushes h'))
      (each-from_All (λ x. x.number < e'.number) a.before a.below) (each-from_All (λ x. e'.number < x.number) a.behind a.above) in
      ap (λ es. without_number e.number (queue_of (map f es))) t.stands
      ∙ without-first t.before e t.behind old.pushes h' (subst (Each IsFull) t.stands k)
      ∙ ap (λ ls. queue_of (map f t.before ++ (ls ++ map f t.behind))) left
      ∙ ap₂ (λ xs ys. queue_of (map f xs ++ f e' ∷ map f ys)) parts.0 parts.1
      ∙ ap queue_of (sym (map-append f a.before (e' ∷ a.behind)) ∙ ap (map f) (sym a.stands))
