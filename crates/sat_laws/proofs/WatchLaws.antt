-- What guarded and watched literals keep while a trail changes.
use Rattle.std.proofs.Common.{◌≡◌, ◌≢◌, ◌⊎◌, inl, inr, ◌≤◌, ◌<◌, ◌+◌, ℕ, zero, suc, ◌||◌, true, false, List, [], ◌∷◌, ◌++◌, IsTrue, length, take, get_or, sym, ap, ◌∙◌, subst, arith}
use Rattle.std.specs.List.{Contains}
use Rattle.std.proofs.lemmas.Bool.{false≢true, or_cases, or_left, or_right}
use Rattle.std.proofs.lemmas.List.{take-take, take_all, take_more, take-append-le}
use Rattle.std.proofs.lemmas.List.Elements.{Contains-push_cases}
use Rattle.sat_base.specs.declared.literal.SatLit.{SatLit}
use Rattle.sat_base.specs.Literal.{negated, same_literal, holds}
use Rattle.sat_base.proofs.LiteralLaws.{holds-append, same_literal-true}
use Rattle.sat_log.specs.Propagation.{IsUnitClause, IsFalseIn, IsConsistent}
use Rattle.sat_laws.specs.Internal.Complete.{satisfies}
use Rattle.sat_laws.specs.Internal.Watching.{IsGuarded, IsKept}
use Rattle.sat_laws.proofs.CompleteLaws.{satisfies-more, satisfied_complete, satisfied_complete_unit, watched_not_false, watched_unit}

-- each boundary is within the trail
abbrev pub AreWithin : List ℕ → ℕ → Type 0
AreWithin starts n = (s : ℕ) → Contains starts s → s ≤ n

held-append : (xs ys : List SatLit) (l : SatLit) → holds xs l ≡ true → holds (xs ++ ys) l ≡ true
held-append xs ys l h = holds-append xs ys l ∙ or_left _ _ h

satisfies-append : (trail more clause : List SatLit) → satisfies trail clause ≡ true → satisfies (trail ++ more) clause ≡ true
satisfies-append trail more clause h = satisfies-more trail (trail ++ more) clause (λ l t. held-append trail more l t) h

-- 1. Completeness: at each boundary, and of the whole trail where all of it is processed

pub kept_at : (starts : List ℕ) (trail : List SatLit) (processed : ℕ) (clause : List SatLit) (first second : SatLit) (s : ℕ) → Contains starts s
    → IsConsistent (take s trail) → IsKept starts trail processed clause first second
    → ¬ IsFalseIn (take s trail) clause × ((l : SatLit) → IsUnitClause (take s trail) clause l → holds (take s trail) l ≡ true)
kept_at starts trail processed clause first second s at consistent (inl w) = (
  watched_not_false (take s trail) clause first second consistent w.first_in (w.first_guarded.at_decisions s at),
  watched_unit (take s trail) clause first second consistent w.first_in w.second_in w.apart (w.first_guarded.at_decisions s at) (w.second_guarded.at_decisions s at),
)
kept_at starts trail processed clause first second s at consistent (inr r) = (
  satisfied_complete (take s trail) clause consistent (r.at_decisions s at),
  satisfied_complete_unit (take s trail) clause consistent (r.at_decisions s at),
)

pub kept_now : (starts : List ℕ) (trail : List SatLit) (clause : List SatLit) (first second : SatLit) → IsConsistent trail
    → IsKept starts trail (length trail) clause first second
    → ¬ IsFalseIn trail clause × ((l : SatLit) → IsUnitClause trail clause l → holds trail l ≡ true)
kept_now starts trail clause first second consistent (inl w) = (
  watched_not_false trail clause first second consistent w.first_in (whole first w.first_guarded),
  watched_unit trail clause first second consistent w.first_in w.second_in w.apart (whole first w.first_guarded) (whole second w.second_guarded),
)
  where
    whole : (l : SatLit) → IsGuarded starts trail (length trail) clause l → holds trail (negated l) ≡ true → satisfies trail clause ≡ true
    whole l g h = g.now (ap (λ (some : List SatLit). holds some (negated l)) (take_all (length trail) trail (omega arith)) ∙ h)
kept_now starts trail clause first second consistent (inr r) = (
  satisfied_complete trail clause consistent r.now,
  satisfied_complete_unit trail clause consistent r.now,
)

-- 2. One literal more on the trail

guarded_push : (starts : List ℕ) (trail : List SatLit) (processed : ℕ) (clause : List SatLit) (l m : SatLit) → AreWithin starts (length trail) → processed ≤ length trail
    → IsGuarded starts trail processed clause l → IsGuarded starts (trail ++ m ∷ []) processed clause l
guarded_push starts trail processed clause l m within inside g = record {
  at_decisions = λ s at. let short : s ≤ length trail = within s at in rw take-append-le (g.at_decisions s at);
  now = λ h. satisfies-append trail (m ∷ []) clause (g.now (rw take-append-le at h));
}

pub kept_push : (starts : List ℕ) (trail : List SatLit) (processed : ℕ) (clause : List SatLit) (first second m : SatLit) → AreWithin starts (length trail) → processed ≤ length trail
    → IsKept starts trail processed clause first second → IsKept starts (trail ++ m ∷ []) processed clause first second
kept_push starts trail processed clause first second m within inside (inl w) = inl (record {
  first_in = w.first_in;
  second_in = w.second_in;
  apart = w.apart;
  first_guarded = guarded_push starts trail processed clause first m within inside w.first_guarded;
  second_guarded = guarded_push starts trail processed clause second m within inside w.second_guarded;
})
kept_push starts trail processed clause first second m within inside (inr r) = inr (record {
  at_decisions = λ s at. let short : s ≤ length trail = within s at in rw take-append-le (r.at_decisions s at);
  now = satisfies-append trail (m ∷ []) clause r.now;
})

-- 3. A decision, where all of the trail is processed

guarded_start : (starts : List ℕ) (trail : List SatLit) (clause : List SatLit) (l : SatLit)
    → IsGuarded starts trail (length trail) clause l → IsGuarded (starts ++ length trail ∷ []) trail (length trail) clause l
guarded_start starts trail clause l g = record {
  at_decisions = λ s at. elim (Contains-push_cases starts (length trail) s at) [
    | inl before ↦ g.at_decisions s before
    | inr here ↦
        let whole : take s trail ≡ trail = ap (λ (k : ℕ). take k trail) (sym here) ∙ take_all (length trail) trail (omega arith) in
        λ h. ap (λ (some : List SatLit). satisfies some clause) whole
        ∙ g.now (ap (λ (k : ℕ). holds (take k trail) (negated l)) here ∙ h)
  ];
  now = g.now;
}

pub kept_start : (starts : List ℕ) (trail : List SatLit) (clause : List SatLit) (first second : SatLit)
    → IsKept starts trail (length trail) clause first second → IsKept (starts ++ length trail ∷ []) trail (length trail) clause first second
kept_start starts trail clause first second (inl w) = inl (record {
  first_in = w.first_in;
  second_in = w.second_in;
  apart = w.apart;
  first_guarded = guarded_start starts trail clause first w.first_guarded;
  second_guarded = guarded_start starts trail clause second w.second_guarded;
})
kept_start starts trail clause first second (inr r) = inr (record {
  at_decisions = λ s at. elim (Contains-push_cases starts (length trail) s at) [
    | inl before ↦ r.at_decisions s before
    | inr here ↦
        ap (λ (k : ℕ). satisfies (take k trail) clause) (sym here)
        ∙ ap (λ (some : List SatLit). satisfies some clause) (take_all (length trail) trail (omega arith))
        ∙ r.now
  ];
  now = r.now;
})

-- 4. Back to a boundary

guarded_back : (starts fewer : List ℕ) (trail : List SatLit) (processed s : ℕ) (clause : List SatLit) (l : SatLit) → Contains starts s
    → ((k : ℕ) → Contains fewer k → Contains starts k) → AreWithin fewer s
    → IsGuarded starts trail processed clause l → IsGuarded fewer (take s trail) s clause l
guarded_back starts fewer trail processed s clause l at among before g = record {
  at_decisions = λ k there. let short : k ≤ s = before k there in rw take-take (g.at_decisions k (among k there));
  now = λ h. let same : take s (take s trail) ≡ take s trail = take-take s s trail (omega arith) in g.at_decisions s at (ap (λ (some : List SatLit). holds some (negated l)) (sym same) ∙ h);
}

pub kept_back : (starts fewer : List ℕ) (trail : List SatLit) (processed s : ℕ) (clause : List SatLit) (first second : SatLit) → Contains starts s
    → ((k : ℕ) → Contains fewer k → Contains starts k) → AreWithin fewer s
    → IsKept starts trail processed clause first second → IsKept fewer (take s trail) s clause first second
kept_back starts fewer trail processed s clause first second at among before (inl w) = inl (record {
  first_in = w.first_in;
  second_in = w.second_in;
  apart = w.apart;
  first_guarded = guarded_back starts fewer trail processed s clause first at among before w.first_guarded;
  second_guarded = guarded_back starts fewer trail processed s clause second at among before w.second_guarded;
})
kept_back starts fewer trail processed s clause first second at among before (inr r) = inr (record {
  at_decisions = λ k there. let short : k ≤ s = before k there in rw take-take (r.at_decisions k (among k there));
  now = r.at_decisions s at;
})

-- 5. One literal more is processed, and the clauses that watch its negation are true

-- a literal of the clause whose negation is the next one to be processed only where the clause is true
abbrev pub IsReady : List SatLit → SatLit → List SatLit → SatLit → Type 0
IsReady trail next clause l = negated l ≡ next → IsTrue (satisfies trail clause)

guarded_next : (starts : List ℕ) (trail : List SatLit) (processed : ℕ) (clause : List SatLit) (l next : SatLit) → processed < length trail → get_or trail processed next ≡ next
    → IsReady trail next clause l → IsGuarded starts trail processed clause l → IsGuarded starts trail (processed + 1) clause l
guarded_next starts trail processed clause l next inside is ready g = record {
  at_decisions = g.at_decisions;
  now = λ h. elim (or_cases (holds (take processed trail) (negated l)) (same_literal (negated l) next || false)
      (sym (holds-append (take processed trail) (next ∷ []) (negated l))
      ∙ ap (λ (some : List SatLit). holds some (negated l)) (ap (λ (k : SatLit). take processed trail ++ k ∷ []) (sym is) ∙ sym (take_more trail processed next inside)) ∙ h)) [
        | inl before ↦ g.now before
        | inr last ↦ elim (or_cases (same_literal (negated l) next) false last) [
          | inl same ↦ ready (same_literal-true (negated l) next same)
          | inr never ↦ absurd (false≢true never)
        ]
      ];
}

pub kept_next : (starts : List ℕ) (trail : List SatLit) (processed : ℕ) (clause : List SatLit) (first second next : SatLit) → processed < length trail → get_or trail processed next ≡ next
    → (negated first ≡ next → satisfies trail clause ≡ true) → (negated second ≡ next → satisfies trail clause ≡ true)
    → IsKept starts trail processed clause first second → IsKept starts trail (processed + 1) clause first second
kept_next starts trail processed clause first second next inside is first_ready second_ready (inl w) = inl (record {
  first_in = w.first_in;
  second_in = w.second_in;
  apart = w.apart;
  first_guarded = guarded_next starts trail processed clause first next inside is first_ready w.first_guarded;
  second_guarded = guarded_next starts trail processed clause second next inside is second_ready w.second_guarded;
})
kept_next starts trail processed clause first second next inside is first_ready second_ready (inr r) = inr r

-- 6. Another literal is watched, which is not false

pub held-take : (n : ℕ) (trail : List SatLit) (l : SatLit) → holds (take n trail) l ≡ true → holds trail l ≡ true
held-take zero trail l h = absurd (false≢true h)
held-take (suc n) [] l h = h
held-take (suc n) (m ∷ trail) l h =
    elim (or_cases (same_literal l m) (holds (take n trail) l) h) [
      | inl here ↦ or_left _ _ here
      | inr later ↦ or_right (same_literal l m) _ (held-take n trail l later)
    ]

pub guarded_open : (starts : List ℕ) (trail : List SatLit) (processed : ℕ) (clause : List SatLit) (l : SatLit) → holds trail (negated l) ≡ false
    → IsGuarded starts trail processed clause l
guarded_open starts trail processed clause l undenied = record {
  at_decisions = λ s at h. absurd (false≢true (sym undenied ∙ held-take s trail (negated l) h));
  now = λ h. absurd (false≢true (sym undenied ∙ held-take processed trail (negated l) h));
}

kept_flip : (starts : List ℕ) (trail : List SatLit) (processed : ℕ) (clause : List SatLit) (first second : SatLit)
    → IsKept starts trail processed clause first second → IsKept starts trail processed clause second first
kept_flip starts trail processed clause first second (inl w) = inl (record {
  first_in = w.second_in;
  second_in = w.first_in;
  apart = λ e. w.apart (sym e);
  first_guarded = w.second_guarded;
  second_guarded = w.first_guarded;
})
kept_flip starts trail processed clause first second (inr r) = inr r

pub kept_rewatched : (starts : List ℕ) (trail : List SatLit) (processed : ℕ) (clause : List SatLit) (from to other : SatLit) → holds clause to ≡ true → to ≢ other → holds trail (negated to) ≡ false
    → IsKept starts trail processed clause from other → IsKept starts trail processed clause to other
kept_rewatched starts trail processed clause from to other member apart undenied (inl w) = inl (record {
  first_in = member;
  second_in = w.second_in;
  apart = apart;
  first_guarded = guarded_open starts trail processed clause to undenied;
  second_guarded = w.second_guarded;
})
kept_rewatched starts trail processed clause from to other member apart undenied (inr r) = inr r

-- two watched literals in one order or the other
abbrev pub ArePair : SatLit → SatLit → SatLit → SatLit → Type 0
ArePair first second l other = ((first ≡ l) × (second ≡ other)) ⊎ ((second ≡ l) × (first ≡ other))

pub kept_from_pair : (starts : List ℕ) (trail : List SatLit) (processed : ℕ) (clause : List SatLit) (first second l other : SatLit) → ArePair first second l other
    → IsKept starts trail processed clause first second → IsKept starts trail processed clause l other
kept_from_pair starts trail processed clause first second l other (inl p) k =
    subst (λ (x : SatLit). IsKept starts trail processed clause x other) p.0 (subst (λ (x : SatLit). IsKept starts trail processed clause first x) p.1 k)
kept_from_pair starts trail processed clause first second l other (inr p) k =
    kept_flip starts trail processed clause other l
    (subst (λ (x : SatLit). IsKept starts trail processed clause x l) p.1 (subst (λ (x : SatLit). IsKept starts trail processed clause first x) p.0 k))

pub kept_to_pair : (starts : List ℕ) (trail : List SatLit) (processed : ℕ) (clause : List SatLit) (first second l other : SatLit) → ArePair first second l other
    → IsKept starts trail processed clause l other → IsKept starts trail processed clause first second
kept_to_pair starts trail processed clause first second l other (inl p) k =
    subst (λ (x : SatLit). IsKept starts trail processed clause x second) (sym p.0) (subst (λ (x : SatLit). IsKept starts trail processed clause l x) (sym p.1) k)
kept_to_pair starts trail processed clause first second l other (inr p) k =
    subst (λ (x : SatLit). IsKept starts trail processed clause x second) (sym p.1)
    (subst (λ (x : SatLit). IsKept starts trail processed clause other x) (sym p.0) (kept_flip starts trail processed clause l other k))
