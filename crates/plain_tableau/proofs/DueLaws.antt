-- Which instances are due on a branch with a literal more or less, and whether it is closed with an alternative.
use Rattle.std.proofs.Common.{◌≡◌, ◌<◌, ◌≤◌, ◌+◌, ◌||◌, ◌&&◌, not, ℕ, Bool, true, false, List, [], ◌∷◌, ◌++◌, length, Some, slice_get, get_or, Contains, refl, sym, ap, ap₂, ◌∙◌, subst, inl, inr, ◌⊎◌, arith}
use Rattle.std.specs.List.{list_any, position_or_len}
use Rattle.std.proofs.lemmas.Bool.{false≢true, or_cases, or_left, or_right}
use Rattle.std.proofs.lemmas.List.Sums.{position_or_len_is}
use Rattle.std.proofs.lemmas.Option.{slice_get-get_or}
use Rattle.tableau_calculus.proofs.ListLaws.{contains_cases}
use Rattle.sat_base.specs.declared.literal.SatLit.{SatLit}
use Rattle.sat_base.specs.Literal.{negated, same_var, same_literal, holds, mentions_variable}
use Rattle.sat_base.proofs.LiteralLaws.{same_var-refl, same_literal-true, negated-negated, holds-append}
use Rattle.tableau_calculus.specs.Kinds.{added}
use Rattle.search_spec.specs.Numbered.{numbers}
use Rattle.tableau_clauses.specs.Table.{Table}
use Rattle.rebuild_spec.proofs.LiteralLaws.{held_in, contains_held}
use Rattle.plain_tableau.specs.Trees.{TreeInstance}
use Rattle.plain_tableau.specs.Expansion.{is_closed_branch, has_all, is_due}
use Rattle.plain_tableau.specs.declared.due.Due.{Due}
use Rattle.plain_tableau.specs.Internal.Due.{at_number, is_due_at, is_due_place, AreDue, IsInside, names_variable, AreNotedByVariable, clashes}
use Rattle.plain_tableau.proofs.ListLaws.{one_passes}
use Rattle.plain_tableau.proofs.BranchLaws.{added_holds}

or_parts : (a b : Bool) → (a || b) ≡ false → (a ≡ false) × (b ≡ false)
or_parts true b h = absurd (false≢true (sym h))
or_parts false b h = (refl, h)

or_none : (a : Bool) → (a || false) ≡ a
or_none true = refl
or_none false = refl

-- another variable's literal is another one
other_literal : (l m : SatLit) → same_var l.var m.var ≡ false → same_literal m l ≡ false
other_literal l m h = go (same_literal m l) refl
  where
    go : (b : Bool) → same_literal m l ≡ b → b ≡ false
    go true e = absurd (false≢true (sym h ∙ subst (λ (k : SatLit). same_var l.var k.var ≡ true) (sym (same_literal-true m l e)) (same_var-refl l.var)))
    go false e = refl

holds_push : (b : List SatLit) (l m : SatLit) → same_var l.var m.var ≡ false → holds (b ++ l ∷ []) m ≡ holds b m
holds_push b l m h = holds-append b (l ∷ []) m ∙ ap (λ x. holds b m || (x || false)) (other_literal l m h) ∙ or_none (holds b m)

all_push : (b : List SatLit) (l : SatLit) (ls : List SatLit) → mentions_variable ls l.var ≡ false → has_all numbers (b ++ l ∷ []) ls ≡ has_all numbers b ls
all_push b l [] h = refl
all_push b l (m ∷ ls) h =
    let parts = or_parts (same_var l.var m.var) (mentions_variable ls l.var) h in
    ap₂ (λ x y. x && y) (holds_push b l m parts.0) (all_push b l ls parts.1)

any_push : (b : List SatLit) (l : SatLit) (as' : List (List SatLit)) → list_any (λ a. mentions_variable a l.var) as' ≡ false → list_any (has_all numbers (b ++ l ∷ [])) as' ≡ list_any (has_all numbers b) as'
any_push b l [] h = refl
any_push b l (a ∷ as') h =
    let parts = or_parts (mentions_variable a l.var) (list_any (λ c. mentions_variable c l.var) as') h in
    ap₂ (λ x y. x || y) (all_push b l a parts.0) (any_push b l as' parts.1)

-- a literal on a variable that doesn't stand in the instance doesn't matter to it
pub due_push : (b : List SatLit) (l : SatLit) (i : TreeInstance SatLit) → names_variable i l.var ≡ false → is_due numbers (b ++ l ∷ []) i ≡ is_due numbers b i
due_push b l i h =
    let parts = or_parts (mentions_variable i.principals l.var) (list_any (λ a. mentions_variable a l.var) i.alternatives) h in
    ap₂ (λ x y. x && not y) (all_push b l i.principals parts.0) (any_push b l i.alternatives parts.1)

module _ (t : Table) (used : List ℕ) (noted : List (List ℕ)) (are : AreNotedByVariable t used noted) (places : List ℕ) (l : SatLit) (listed : (u : ℕ) → Contains (get_or noted l.var.0 []) u → Contains places u) where
  -- what is known of the branch with the literal, where the instances in which its variable stands were looked at again
  abbrev pub IsRefreshed : List SatLit → Due → Due → Type 0
  IsRefreshed branch old new = (u k : ℕ) → slice_get used u ≡ Some k → (Contains places u) ⊎ (is_due_place old u ≡ is_due_at t branch k) → is_due_place new u ≡ is_due_at t branch k

  pub due_with : (b : List SatLit) (old new : Due) → AreDue t used b old → IsRefreshed (b ++ l ∷ []) old new → AreDue t used (b ++ l ∷ []) new
  due_with b old new due right u k e = go (names_variable (at_number t k) l.var) refl
    where
      go : (x : Bool) → names_variable (at_number t k) l.var ≡ x → is_due_place new u ≡ is_due_at t (b ++ l ∷ []) k
      go true h = right u k e (inl (listed u (are u k l.var e h)))
      go false h = right u k e (inr (due u k e ∙ sym (due_push b l (at_number t k) h)))

  pub due_without : (b : List SatLit) (old new : Due) → AreDue t used (b ++ l ∷ []) old → IsRefreshed b old new → AreDue t used b new
  due_without b old new due right u k e = go (names_variable (at_number t k) l.var) refl
    where
      go : (x : Bool) → names_variable (at_number t k) l.var ≡ x → is_due_place new u ≡ is_due_at t b k
      go true h = right u k e (inl (listed u (are u k l.var e h)))
      go false h = right u k e (inr (due u k e ∙ due_push b l (at_number t k) h))

-- the least place that is due is the first one
pub first_due : (t : Table) (used : List ℕ) (b : List SatLit) (due : Due) → AreDue t used b due → IsInside used due → (u : ℕ) → is_due_place due u ≡ true → ((v : ℕ) → v < u → is_due_place due v ≡ false) → (u < length used) × (position_or_len (is_due_at t b) used ≡ u)
first_due t used b due are inside u there least =
    let in_range : u < length used = inside u there in (
      in_range,
      position_or_len_is (is_due_at t b) used u 0 (omega (arith, in_range)) (λ k below. let h : k < length used = omega (arith, below, in_range) in sym (are k (get_or used k 0) (slice_get-get_or used k 0 h)) ∙ least k below)
          (λ h. sym (are u (get_or used u 0) (slice_get-get_or used u 0 h)) ∙ there),
    )

pub none_due : (t : Table) (used : List ℕ) (b : List SatLit) (due : Due) → AreDue t used b due → ((v : ℕ) → is_due_place due v ≡ false) → position_or_len (is_due_at t b) used ≡ length used
none_due t used b due are none =
    position_or_len_is (is_due_at t b) used (length used) 0 (omega arith) (λ k h. sym (are k (get_or used k 0) (slice_get-get_or used k 0 h)) ∙ none k) (λ h. absurd (omega (arith, h)))

-- one that passes is enough
pub any_of : (p : SatLit → Bool) (xs : List SatLit) (x : SatLit) → Contains xs x → p x ≡ true → list_any p xs ≡ true
any_of p [] x h e = absurd (omega (arith, h.1))
any_of p (y ∷ xs) x h e = contains_cases ((p y || list_any p xs) ≡ true) x y xs h (λ same. or_left (p y) _ (subst (λ z. p z ≡ true) (sym same) e)) (λ later. or_right (p y) _ (any_of p xs x later e))

-- an open branch is closed with an alternative where this clashes with it
pub closed_added : (b a : List SatLit) → is_closed_branch numbers b ≡ false → is_closed_branch numbers (added numbers b a) ≡ clashes b a
closed_added b a is_open = go (clashes b a) refl (is_closed_branch numbers (added numbers b a)) refl
  where
    c : List SatLit
    c = added numbers b a

    clash : (m : SatLit) → holds a m ≡ true → (holds b (negated m) ≡ true) ⊎ (holds a (negated m) ≡ true) → clashes b a ≡ true
    clash m h other =
        any_of (λ l. holds b (negated l) || holds a (negated l)) a m (contains_held a m h)
        (elim other [ inl old ↦ or_left (holds b (negated m)) _ old | inr new ↦ or_right (holds b (negated m)) _ new ])

    old_pair : (m : SatLit) → holds b m ≡ true → (holds b (negated m) ≡ true) ⊎ (holds a (negated m) ≡ true) → clashes b a ≡ true
    old_pair m h (inl old) = absurd (false≢true (sym is_open ∙ any_of (λ l. holds b (negated l)) b m (contains_held b m h) old))
    old_pair m h (inr new) = clash (negated m) new (inl (subst (λ k. holds b k ≡ true) (sym (negated-negated m)) h))

    go : (x : Bool) → clashes b a ≡ x → (y : Bool) → is_closed_branch numbers (added numbers b a) ≡ y → y ≡ x
    go true e true f = refl
    go false e false f = refl
    go true e false f =
        let found = one_passes (λ l. holds b (negated l) || holds a (negated l)) a e in
        let in_c = added_holds b a found.0 ∙ or_right (holds b found.0) _ (held_in a found.0 found.1) in
        let other = added_holds b a (negated found.0) ∙ found.2 in
        absurd (false≢true (sym f ∙ any_of (λ l. holds (added numbers b a) (negated l)) (added numbers b a) found.0 (contains_held (added numbers b a) found.0 in_c) other))
    go false e true f =
        let found = one_passes (λ l. holds (added numbers b a) (negated l)) (added numbers b a) f in
        let m = found.0 in
        let in_c = sym (added_holds b a m) ∙ held_in (added numbers b a) m found.1 in
        let other = or_cases (holds b (negated m)) (holds a (negated m)) (sym (added_holds b a (negated m)) ∙ found.2) in
        let clashed : clashes b a ≡ true = elim (or_cases (holds b m) (holds a m) in_c) [ inl old ↦ old_pair m old other | inr new ↦ clash m new other ] in
        absurd (false≢true (sym e ∙ clashed))
