-- The clauses of a table stand in the order of its instances.
use Rattle.std.proofs.Common.{◌≡◌, ℕ, zero, suc, ◌<◌, ◌≤◌, ◌⊎◌, inl, inr, List, [], ◌∷◌, ◌++◌, length, Some, slice_get, Contains, Bool, true, false, IsTrue, if◌then◌else◌, refl, sym, ap, subst, ◌∙◌, arith, true≢false}
use Rattle.std.specs.Prelude.{◌||◌}
use Rattle.std.specs.List.{list_any}
use Rattle.std.proofs.lemmas.List.{map-append, length-append}
use Rattle.std.proofs.lemmas.List.Folds.{list_any-append}
use Rattle.std.proofs.lemmas.Option.{slice_get_within}
use Rattle.tableau_calculus.proofs.ListLaws.{contains-first, contains-later, contains_cases}
use Rattle.sat_base.specs.declared.literal.SatLit.{SatLit}
use Rattle.sat_base.proofs.LiteralLaws.{same_literal-refl}
use Rattle.literal_map.specs.declared.instance.Instance.{Instance}
use Rattle.search_spec.specs.Clauses.{same_clause, instance_clauses}
use Rattle.search_spec.specs.Numbered.{numbers}
use Rattle.tableau_clauses.specs.declared.origin.Origin.{Origin}
use Rattle.tableau_clauses.specs.declared.origin.Origin.TheVariants.{Start, Instance as From}
use Rattle.tableau_clauses.specs.Table.{Step, clauses_in, origins_in, Table, ComesFromOrigin, EachComes}
use Rattle.tableau_clauses.specs.Internal.Stepping.{with_steps, IsRightTable}
use Rattle.tableau_clauses.proofs.StepLaws.{is_there}
use Rattle.tableau_clauses.proofs.SourceLaws.{none_come, start_comes, instance_comes}

-- WHAT IS THERE AND WHAT IS ADDED

same_clause-refl : (c : List SatLit) → same_clause numbers c c ≡ true
same_clause-refl [] = refl
same_clause-refl (l ∷ ls) = ap (λ (b : Bool). if b then same_clause numbers ls ls else false) (same_literal-refl l) ∙ same_clause-refl ls

or-left : (a b : Bool) → a ≡ true → (a || b) ≡ true
or-left a b h = ap (λ (x : Bool). x || b) h

none-left : (a b : Bool) → (a || b) ≡ false → a ≡ false
none-left true b h = h
none-left false b h = refl

there-append : (c : List SatLit) (es fs : List Step) → is_there c (es ++ fs) ≡ (is_there c es || is_there c fs)
there-append c es fs =
    ap (list_any (same_clause numbers c)) (map-append (λ (e : Step). e.0) es fs) ∙ list_any-append (same_clause numbers c) (clauses_in es) (clauses_in fs)

-- a clause that is there stays there
there_kept : (c : List SatLit) (o : Origin) (es : List Step) (cs : List (List SatLit)) → is_there c es ≡ true → is_there c (with_steps o es cs) ≡ true
there_kept c o es [] h = h
there_kept c o es (d ∷ ds) h = there_kept c o (if is_there d es then es else es ++ (d, o) ∷ []) ds (go (is_there d es))
  where
    go : (b : Bool) → is_there c (if b then es else es ++ (d, o) ∷ []) ≡ true
    go true = h
    go false = there-append c es ((d, o) ∷ []) ∙ or-left (is_there c es) (is_there c ((d, o) ∷ [])) h

-- each clause that is to be added is there then
there_added : (c : List SatLit) (o : Origin) (es : List Step) (cs : List (List SatLit)) → Contains cs c → is_there c (with_steps o es cs) ≡ true
there_added c o es [] k = absurd (omega (arith, k.1))
there_added c o es (d ∷ ds) k =
    let next = if is_there d es then es else es ++ (d, o) ∷ [] in
    contains_cases (is_there c (with_steps o next ds) ≡ true) c d ds k
    (λ e. subst (λ x. is_there x (with_steps o next ds) ≡ true) e (there_kept d o next ds (here (is_there d es) refl)))
    (λ later. there_added c o next ds later)
  where
    own : (is_there d es || is_there d ((d, o) ∷ [])) ≡ true
    own = go (is_there d es)
      where
        go : (b : Bool) → (b || is_there d ((d, o) ∷ [])) ≡ true
        go true = refl
        go false = or-left (same_clause numbers d d) false (same_clause-refl d)

    here : (b : Bool) → is_there d es ≡ b → is_there d (if b then es else es ++ (d, o) ∷ []) ≡ true
    here true e = e
    here false e = there-append d es ((d, o) ∷ []) ∙ own

-- A step is an earlier one, or stands behind those, with a clause that wasn't there.
pub record IsNewStep (o : Origin) (es : List Step) (cs : List (List SatLit)) (n : ℕ) (s : Step) : Type 0 where
  pub behind : length es ≤ n
  pub origin : s.1 ≡ o
  pub among : Contains cs s.0
  pub new : is_there s.0 es ≡ false

get-behind : {A : Type 0} (xs : List A) (x y : A) (i : ℕ) → slice_get (xs ++ x ∷ []) i ≡ Some y → (slice_get xs i ≡ Some y) ⊎ ((x ≡ y) × (length xs ≤ i))
get-behind [] x y zero h = inr (cc, omega arith)
get-behind [] x y (suc i) h = cc
get-behind (z ∷ xs) x y zero h = inl h
get-behind (z ∷ xs) x y (suc i) h = go (get-behind xs x y i h)
  where
    go : (slice_get xs i ≡ Some y) ⊎ ((x ≡ y) × (length xs ≤ i)) → (slice_get xs i ≡ Some y) ⊎ ((x ≡ y) × (length (z ∷ xs) ≤ suc i))
    go (inl a) = inl a
    go (inr b) = inr (b.0, omega (arith, b.1))

step_cases : (o : Origin) (es : List Step) (cs : List (List SatLit)) (n : ℕ) (s : Step) → slice_get (with_steps o es cs) n ≡ Some s → (slice_get es n ≡ Some s) ⊎ IsNewStep o es cs n s
step_cases o es [] n s h = inl h
step_cases o es (c ∷ cs) n s h = go (is_there c es) refl (step_cases o (if is_there c es then es else es ++ (c, o) ∷ []) cs n s h)
  where
    later : IsNewStep o es cs n s → IsNewStep o es (c ∷ cs) n s
    later w = record { behind = w.behind; origin = w.origin; among = contains-later s.0 c cs w.among; new = w.new }

    shorter : IsNewStep o (es ++ (c, o) ∷ []) cs n s → IsNewStep o es (c ∷ cs) n s
    shorter w = record {
      behind = omega (arith, w.behind, length-append es ((c, o) ∷ []));
      origin = w.origin;
      among = contains-later s.0 c cs w.among;
      new = none-left (is_there s.0 es) (is_there s.0 ((c, o) ∷ [])) (sym (there-append s.0 es ((c, o) ∷ [])) ∙ w.new);
    }

    added : is_there c es ≡ false → (slice_get es n ≡ Some s) ⊎ (((c, o) ≡ s) × (length es ≤ n)) → (slice_get es n ≡ Some s) ⊎ IsNewStep o es (c ∷ cs) n s
    added none (inl a) = inl a
    added none (inr b) = inr (record {
      behind = b.1;
      origin = sym (ap (λ (x : Step). x.1) b.0);
      among = subst (λ (x : Step). Contains (c ∷ cs) x.0) b.0 (contains-first c cs);
      new = subst (λ (x : Step). is_there x.0 es ≡ false) b.0 none;
    })

    go : (b : Bool) → is_there c es ≡ b → (slice_get (if b then es else es ++ (c, o) ∷ []) n ≡ Some s) ⊎ IsNewStep o (if b then es else es ++ (c, o) ∷ []) cs n s → (slice_get es n ≡ Some s) ⊎ IsNewStep o es (c ∷ cs) n s
    go true e (inl a) = inl a
    go true e (inr w) = inr (later w)
    go false e (inl a) = added e (get-behind es (c, o) s n a)
    go false e (inr w) = inr (shorter w)

-- THE ORDER

-- the step at which an origin stands
step_of : (es : List Step) (n : ℕ) (o : Origin) → slice_get (origins_in es) n ≡ Some o → (s : Step) × (slice_get es n ≡ Some s) × (s.1 ≡ o)
step_of [] n o h = cc
step_of (e ∷ es) zero o h = (e, refl, cc)
step_of (e ∷ es) (suc n) o h = step_of es n o h

origin_at : (es : List Step) (n : ℕ) (s : Step) (o : Origin) → slice_get es n ≡ Some s → s.1 ≡ o → slice_get (origins_in es) n ≡ Some o
origin_at [] n s o h e = cc
origin_at (x ∷ es) zero s o h e = let same : x ≡ s = cc in ap (λ (y : Step). Some y.1) same ∙ ap (λ (p : Origin). Some p) e
origin_at (x ∷ es) (suc n) s o h e = origin_at es n s o h e

-- the instance of an origin is there
origin_within : (t : Table) → EachComes t → (n b : ℕ) (s : Step) → slice_get t.0 n ≡ Some s → s.1 ≡ From b → b < length t.1
origin_within t each n b s h e =
    let come : ComesFromOrigin t.1 s.0 (From b) = subst (ComesFromOrigin t.1 s.0) e (each n s h) in
    slice_get_within t.1 b come.0 come.1

pub none_in_order : IsRightTable ([], [])
none_in_order = record {
  comes = none_come;
  order = record { sorted = λ m n a b h k l. cc; first = λ n a b s i h o k c. cc };
  all = λ a i c h k. cc;
}

pub start_in_order : (old new : Table) (l : SatLit) → IsRightTable old → new.0 ≡ with_steps Start old.0 ((l ∷ []) ∷ []) → new.1 ≡ old.1 → IsRightTable new
start_in_order old new l right steps same = record {
  comes = start_comes old new l right.comes steps same;
  order = record {
    sorted = λ m n a b h k less.
        let p = step_of new.0 m (From a) h in
        let q = step_of new.0 n (From b) k in
        right.order.sorted m n a b (origin_at old.0 m p.0 (From a) (early m p.0 a p.1 p.2) p.2) (origin_at old.0 n q.0 (From b) (early n q.0 b q.1 q.2) q.2) less;
    first = λ n a b s i h o k c. right.order.first n a b s i (early n s b h o) o (subst (λ is. slice_get is a ≡ Some i) same k) c;
  };
  all = λ a i c h k.
      subst (λ es. IsTrue (is_there c es)) (sym steps) (there_kept c Start old.0 ((l ∷ []) ∷ []) (right.all a i c (subst (λ is. slice_get is a ≡ Some i) same h) k));
}
  where
    early : (n : ℕ) (s : Step) (b : ℕ) → slice_get new.0 n ≡ Some s → s.1 ≡ From b → slice_get old.0 n ≡ Some s
    early n s b h e = go (step_cases Start old.0 ((l ∷ []) ∷ []) n s (subst (λ es. slice_get es n ≡ Some s) steps h))
      where
        go : (slice_get old.0 n ≡ Some s) ⊎ IsNewStep Start old.0 ((l ∷ []) ∷ []) n s → slice_get old.0 n ≡ Some s
        go (inl x) = x
        go (inr w) = let no : Start ≡ From b = sym w.origin ∙ e in cc

pub instance_in_order : (old new : Table) (i : Instance) (cs : List (List SatLit)) → IsRightTable old → cs ≡ instance_clauses numbers i.principals i.alternatives → new.0 ≡ with_steps (From (length old.1)) old.0 cs → new.1 ≡ old.1 ++ i ∷ [] → IsRightTable new
instance_in_order old new i cs right are steps grown = record {
  comes = instance_comes old new i cs right.comes are steps grown;
  order = record {
    sorted = λ m n a b h k less.
        let p = step_of new.0 m (From a) h in
        let q = step_of new.0 n (From b) k in
        sorted m n a b p.0 q.0 (cases m p.0 p.1) (cases n q.0 q.1) p.2 q.2 less;
    first = λ n a b s j h o k c. first n a b s j (cases n s h) o (get-behind old.1 i j a (subst (λ is. slice_get is a ≡ Some j) grown k)) c;
  };
  all = λ a j c h k. subst (λ es. IsTrue (is_there c es)) (sym steps) (all a j c (get-behind old.1 i j a (subst (λ is. slice_get is a ≡ Some j) grown h)) k);
}
  where
    own : Origin
    own = From (length old.1)

    cases : (n : ℕ) (s : Step) → slice_get new.0 n ≡ Some s → (slice_get old.0 n ≡ Some s) ⊎ IsNewStep (From (length old.1)) old.0 cs n s
    cases n s h = step_cases (From (length old.1)) old.0 cs n s (subst (λ es. slice_get es n ≡ Some s) steps h)

    number : (b : ℕ) (s : Step) → s.1 ≡ From (length old.1) → s.1 ≡ From b → b ≡ length old.1
    number b s e f = let same : From (length old.1) ≡ From b = sym e ∙ f in cc

    sorted : (m n a b : ℕ) (s r : Step) → (slice_get old.0 m ≡ Some s) ⊎ IsNewStep (From (length old.1)) old.0 cs m s → (slice_get old.0 n ≡ Some r) ⊎ IsNewStep (From (length old.1)) old.0 cs n r → s.1 ≡ From a → r.1 ≡ From b → a < b → m < n
    sorted m n a b s r (inl x) (inl y) e f less = right.order.sorted m n a b (origin_at old.0 m s (From a) x e) (origin_at old.0 n r (From b) y f) less
    sorted m n a b s r (inl x) (inr w) e f less = let within = slice_get_within old.0 m s x in omega (arith, within, w.behind)
    sorted m n a b s r (inr v) (inl y) e f less = let within = origin_within old right.comes n b r y f in absurd (omega (arith, within, number a s v.origin e, less))
    sorted m n a b s r (inr v) (inr w) e f less = absurd (omega (arith, number a s v.origin e, number b r w.origin f, less))

    first : (n a b : ℕ) (s : Step) (j : Instance) → (slice_get old.0 n ≡ Some s) ⊎ IsNewStep (From (length old.1)) old.0 cs n s → s.1 ≡ From b → (slice_get old.1 a ≡ Some j) ⊎ ((i ≡ j) × (length old.1 ≤ a)) → Contains (instance_clauses numbers j.principals j.alternatives) s.0 → b ≤ a
    first n a b s j (inl x) o (inl k) c = right.order.first n a b s j x o k c
    first n a b s j (inl x) o (inr k) c = let within = origin_within old right.comes n b s x o in omega (arith, within, k.1)
    first n a b s j (inr w) o (inl k) c = absurd (true≢false (sym (right.all a j s.0 k c) ∙ w.new))
    first n a b s j (inr w) o (inr k) c = omega (arith, number b s w.origin o, k.1)

    all : (a : ℕ) (j : Instance) (c : List SatLit) → (slice_get old.1 a ≡ Some j) ⊎ ((i ≡ j) × (length old.1 ≤ a)) → Contains (instance_clauses numbers j.principals j.alternatives) c → is_there c (with_steps (From (length old.1)) old.0 cs) ≡ true
    all a j c (inl k) h = there_kept c (From (length old.1)) old.0 cs (right.all a j c k h)
    all a j c (inr k) h =
        there_added c (From (length old.1)) old.0 cs
        (subst (λ ds. Contains ds c) (sym are) (subst (λ (x : Instance). Contains (instance_clauses numbers x.principals x.alternatives) c) (sym k.0) h))
