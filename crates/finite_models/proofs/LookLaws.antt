-- What the calls of the search for models owe, and what they give.
use Rattle.std.proofs.Common.{◌≡◌, ℕ, zero, suc, ◌+◌, ◌*◌, ◌-◌, ◌^◌, ◌<◌, ◌≤◌, ◌↔◌, List, [], ◌∷◌, ◌++◌, length, map, take, Option, Some, None, Bool, false, slice_get, slice_index, slice_index_or, option_map, refl, ap, ap₂, sym, subst, ◌∙◌, ◌⊎◌, inl, inr, ⊎_elim, arith, mul-le-mul_right, mul-le-mul_left}
use Rattle.std.proofs.Math.Nat.{eq-or-lt_of_le}
use Rattle.std.proofs.lemmas.Nat.{pow_below}
use Rattle.stt_core.specs.SimpleType.{SimpleType, arrow, predicate}
use Rattle.stt_core.specs.Lambda.{name, Lambda, app, lambdas, applied}
use Rattle.std.specs.Prelude.{MatchOption, IsTrue}
use Rattle.stt_core.specs.TypedName.{TypedName}
use Rattle.stt_core.specs.Typing.{Scope}
use Rattle.stt_core.specs.Declarations.{scope_of}
use Rattle.stt_core.specs.PlainProblem.{PlainProblem}
use Rattle.stt_core.specs.TypedProblem.{IsTyped}
use Rattle.stt_core.proofs.ListLaws.{map-append}
use Rattle.normal_forms.specs.Normal.{normal_form}
use Rattle.finite_models.specs.Sizes.{size_in, IsSmallType, NamesSmallTypes}
use Rattle.finite_models.specs.Symbols.{Symbol, declared_symbols, EachIsSmall, EachNamesSmallTypes, conjectures, normal_formulas, model_symbols, choosing_symbols_of, with_symbols, FitsSize, symbols_with}
use Rattle.finite_models.specs.Candidates.{IsLawful, IsCandidate, model_of}
use Rattle.finite_models.specs.Small.{NoneMeets, IsFirstCandidate, IsPassed, ArePassedBefore}
use Rattle.finite_models.specs.Laws.{NoModelHasSize}
use Rattle.finite_models.specs.Internal.Search.{IsAllowed, AreReady}
use Rattle.finite_models.specs.Internal.Stands.{IsGround}
use Rattle.finite_models.specs.Internal.Looking.{EachIsSmallType, IsSizeOf, At, AreSizes, product, IsDomain, IsCheck, AreChecks, CanCompileEach, NonePasses, FirstPasses}
use Rattle.finite_models.proofs.GlueLaws.{all_are_small, product_is, ground_of, can_compile_each, is_first, none_meets}
use Rattle.finite_models.specs.declared.search.Check.{Check}
use Rattle.finite_models.proofs.RankLaws.{get_within}
use Rattle.stt_core.specs.Meaning.{IsModel}
use Rattle.stt_core.specs.Meets.{MeetsProblem}
use Rattle.finite_models.proofs.CandidateLaws.{candidate_model}
use Rattle.finite_models.proofs.SufficeLaws.{none_of_size}

-- NORMAL FORMS

pub forms_some : (p : PlainProblem) (t f : Lambda) (ts after : List Lambda) → p.conjecture ≡ Some t → ts ≡ map (normal_form (scope_of p.declared) []) p.assumed → f ≡ normal_form (scope_of p.declared) [] t → after ≡ ts ++ f ∷ [] → after ≡ normal_formulas p
forms_some p t f ts after c e k w =
    let nf = normal_form (scope_of p.declared) [] in
    w ∙ ap₂ (λ l x. l ++ x ∷ []) e k ∙ sym (map-append nf p.assumed (t ∷ [])) ∙ ap (λ o. map nf (p.assumed ++ conjectures o)) (sym c)

-- SMALL TYPES

pub each_type : (s : ℕ) (types : List SimpleType) → ((j : ℕ) (a : SimpleType) → slice_get types j ≡ Some a → IsSmallType s a) → EachIsSmallType s types
each_type s [] h = tt
each_type s (a ∷ types) h = (h 0 a refl, each_type s types (λ j b g. h (suc j) b g))

pub type_at : (s : ℕ) (types : List SimpleType) → EachIsSmallType s types → (j : ℕ) (a : SimpleType) → slice_get types j ≡ Some a → IsSmallType s a
type_at s [] h j a g = cc
type_at s (b ∷ types) h zero a g = let e : b ≡ a = cc in subst (IsSmallType s) e h.0
type_at s (b ∷ types) h (suc j) a g = type_at s types h.1 j a g

pub each_named : (s : ℕ) (ts : List Lambda) → ((j : ℕ) (t : Lambda) → slice_get ts j ≡ Some t → NamesSmallTypes s t) → EachNamesSmallTypes s ts
each_named s [] h = tt
each_named s (t ∷ ts) h = (h 0 t refl, each_named s ts (λ j u g. h (suc j) u g))

pub named_at : (s : ℕ) (ts : List Lambda) → EachNamesSmallTypes s ts → (j : ℕ) (t : Lambda) → slice_get ts j ≡ Some t → NamesSmallTypes s t
named_at s [] h j t g = cc
named_at s (u ∷ ts) h zero t g = let e : u ≡ t = cc in subst (NamesSmallTypes s) e h.0
named_at s (u ∷ ts) h (suc j) t g = named_at s ts h.1 j t g

-- what holds below i and at i holds below i + 1
pub more : {A : Type 0} (P : A → Type 0) (xs : List A) (i : ℕ) (x : A) → slice_get xs i ≡ Some x → ((j : ℕ) (y : A) → j < i → slice_get xs j ≡ Some y → P y) → P x → (j : ℕ) (y : A) → j < i + 1 → slice_get xs j ≡ Some y → P y
more P xs i x g before here j y l k =
    ⊎_elim
    (λ e. let q : slice_get xs i ≡ Some y = subst (λ n. slice_get xs n ≡ Some y) e k in let same : x ≡ y = cc in subst P same here)
    (λ m. before j y m k)
    (eq-or-lt_of_le (below j i l))
  where
    below : (j i : ℕ) → j < i + 1 → j ≤ i
    below j i l = omega arith

-- the parts of a term name small types
named_binders : (s : ℕ) (bs : List SimpleType) (t : Lambda) → NamesSmallTypes s (lambdas bs t) → EachIsSmallType s bs × NamesSmallTypes s t
named_binders s [] t h = (tt, h)
named_binders s (b ∷ bs) t h = let r = named_binders s bs t h.1 in ((h.0, r.0), r.1)

named_arguments : (s : ℕ) (t : Lambda) (us : List Lambda) → NamesSmallTypes s (applied t us) → NamesSmallTypes s t × EachNamesSmallTypes s us
named_arguments s t [] h = (h, tt)
named_arguments s t (u ∷ us) h = let r = named_arguments s (app t u) us h in (r.0.0, (r.0.1, r.1))

pub parts_small : (s : ℕ) (bs : List SimpleType) (h : Lambda) (us : List Lambda) (whole : Lambda) → lambdas bs (applied h us) ≡ whole → NamesSmallTypes s whole → EachIsSmallType s bs × (NamesSmallTypes s h × EachNamesSmallTypes s us)
parts_small s bs h us whole e k =
    let r = named_binders s bs (applied h us) (subst (NamesSmallTypes s) (sym e) k) in
    let q = named_arguments s h us r.1 in
    (r.0, (q.0, q.1))

whole_binders : (s : ℕ) (bs : List SimpleType) (t : Lambda) → EachIsSmallType s bs → NamesSmallTypes s t → NamesSmallTypes s (lambdas bs t)
whole_binders s [] t h k = k
whole_binders s (b ∷ bs) t h k = (h.0, whole_binders s bs t h.1 k)

whole_arguments : (s : ℕ) (t : Lambda) (us : List Lambda) → NamesSmallTypes s t → EachNamesSmallTypes s us → NamesSmallTypes s (applied t us)
whole_arguments s t [] h k = h
whole_arguments s t (u ∷ us) h k = whole_arguments s (app t u) us (h, k.0) k.1

pub whole_small : (s : ℕ) (bs : List SimpleType) (h : Lambda) (us : List Lambda) (whole : Lambda) → lambdas bs (applied h us) ≡ whole → EachIsSmallType s bs → NamesSmallTypes s h → EachNamesSmallTypes s us → NamesSmallTypes s whole
whole_small s bs h us whole e b k l = subst (NamesSmallTypes s) e (whole_binders s bs (applied h us) b (whole_arguments s h us k l))

-- CHOOSERS

-- how many values a small chooser's type is on
pub few_chosen : (s : ℕ) (a : SimpleType) (n : ℕ) → n ≡ size_in s a → IsSmallType s (arrow (predicate a) a) → n ≤ 20
few_chosen s a n e small = go n (subst (λ x. 2 ^ x ≤ 2 ^ 20) (sym e) small.1.0.0)
  where
    go : (n : ℕ) → 2 ^ n ≤ 2 ^ 20 → n ≤ 20
    go n h = ⊎_elim (λ l. absurd (let k = pow_below 20 n l in omega arith)) (λ l. l) (split 20 n)
      where
        split : (a b : ℕ) → (a < b) ⊎ (b ≤ a)
        split a zero = inr (omega arith)
        split zero (suc b) = inl (omega arith)
        split (suc a) (suc b) = ⊎_elim (λ e. inl (omega arith)) (λ e. inr (omega arith)) (split a b)

-- SYMBOLS

pub symbol_declared : (k : ℕ) (types : List SimpleType) (ys : List Symbol) (i : ℕ) (x : Symbol) (a : SimpleType) → slice_get (declared_symbols k types ++ ys) i ≡ Some x → slice_get types i ≡ Some a → x ≡ record { constant = name (k + i); type = a }
symbol_declared k [] ys i x a g h = cc
symbol_declared k (b ∷ types) ys zero x a g h =
    let e : k + 0 ≡ k = omega arith in
    let q : b ≡ a = cc in
    let p : x ≡ record { constant = name k; type = b } = one g in
    p ∙ ap₂ (λ j c. record { constant = name j; type = c }) (sym e) q
  where
    one : Some (record { constant = name k; type = b }) ≡ Some x → x ≡ record { constant = name k; type = b }
    one g = cc
symbol_declared k (b ∷ types) ys (suc i) x a g h =
    let e : suc k + i ≡ k + suc i = omega arith in
    symbol_declared (suc k) types ys i x a g h ∙ ap (λ j. record { constant = name j; type = a }) e

pub symbol_behind : (k : ℕ) (types : List SimpleType) (ys : List Symbol) (i : ℕ) → length types ≤ i → slice_get (declared_symbols k types ++ ys) i ≡ slice_get ys (i - length types)
symbol_behind k [] ys i l = let e : i - 0 ≡ i = omega arith in ap (slice_get ys) (sym e)
symbol_behind k (b ∷ types) ys zero l = absurd (omega arith)
symbol_behind k (b ∷ types) ys (suc i) l =
    let e : i - length types ≡ suc i - suc (length types) = omega arith in
    symbol_behind (suc k) types ys i (omega arith) ∙ ap (slice_get ys) e

pub symbols_length : (k : ℕ) (types : List SimpleType) (ys : List Symbol) → length (declared_symbols k types ++ ys) ≡ length types + length ys
symbols_length k [] ys = omega arith
symbols_length k (b ∷ types) ys = omega (arith, symbols_length (suc k) types ys)

-- PRODUCTS

product_pos : (ns : List ℕ) → ((i : ℕ) → i < length ns → 1 ≤ slice_index ns i) → 1 ≤ product ns
product_pos [] h = omega arith
product_pos (n ∷ ns) h =
    let here : 1 ≤ n = h 0 (omega arith) in
    let rest : 1 ≤ product ns = product_pos ns (λ i l. h (suc i) (omega arith)) in
    omega (arith, mul-le-mul_right (product ns) here)

pub product_more : (ns : List ℕ) (i : ℕ) → i < length ns → product (take (i + 1) ns) ≡ product (take i ns) * slice_index ns i
product_more [] i l = absurd (omega arith)
product_more (n ∷ ns) zero l = omega arith
product_more (n ∷ ns) (suc i) l =
    let e : suc i + 1 ≡ suc (i + 1) = omega arith in
    ap (λ k. product (take k (n ∷ ns))) e ∙ ap (λ x. n * x) (product_more ns i (omega arith)) ∙ omega arith

product_front : (ns : List ℕ) (i : ℕ) → ((i : ℕ) → i < length ns → 1 ≤ slice_index ns i) → product (take i ns) ≤ product ns
product_front [] zero h = omega arith
product_front [] (suc i) h = omega arith
product_front (n ∷ ns) zero h = product_pos (n ∷ ns) h
product_front (n ∷ ns) (suc i) h = mul-le-mul_left n (product_front ns i (λ j l. h (suc j) (omega arith)))

pub product_exceeds : (ns : List ℕ) (i limit : ℕ) → ((i : ℕ) → i < length ns → 1 ≤ slice_index ns i) → limit < product (take i ns) → limit < product ns
product_exceeds ns i limit h l = omega (arith, product_front ns i h)

-- ONE SIZE

pub symbols_are : (p : PlainProblem) (scope : Scope) (ys : List Symbol) (ts : List Lambda) → scope ≡ scope_of p.declared → ts ≡ normal_formulas p → ys ≡ with_symbols [] (choosing_symbols_of ts) → symbols_with scope ys ≡ model_symbols p
symbols_are p scope ys ts e f g = ap₂ symbols_with e (g ∙ ap (λ l. with_symbols [] (choosing_symbols_of l)) f)

module _ (p : PlainProblem) (typed : IsTyped p) (s : ℕ) (pos : 1 ≤ s) where
  abbrev ys : List Symbol
  ys = with_symbols [] (choosing_symbols_of (normal_formulas p))

  pub fits_of : (ns : List ℕ) → EachNamesSmallTypes s (normal_formulas p) → AreSizes s (model_symbols p) ns → product ns ≤ 2 ^ 20 → FitsSize p s
  fits_of ns named sizes few = record {
    symbols_small = all_are_small s (model_symbols p) ns sizes;
    named_small = named;
    few_lists = subst (λ n. n ≤ 2 ^ 20) (product_is s (model_symbols p) ns sizes) few;
  }

  pub not_few : (ns : List ℕ) → AreSizes s (model_symbols p) ns → (product ns ≤ 2 ^ 20 → ⊥) → FitsSize p s → ⊥
  not_few ns sizes n f = n (subst (λ m. m ≤ 2 ^ 20) (sym (product_is s (model_symbols p) ns sizes)) f.few_lists)

  pub first_found : (vs : List ℕ) → FirstPasses (scope_of p.declared) s ys (length p.assumed) (normal_formulas p) vs → IsFirstCandidate p s vs
  first_found vs h = is_first p typed s pos h.checks h.are_checks h.domains h.are_domains vs h.first

  pub none_found : NonePasses (scope_of p.declared) s ys (length p.assumed) (normal_formulas p) → NoneMeets p s
  none_found h = none_meets p typed s pos h.checks h.are_checks h.domains h.are_domains h.none

-- SIZE AFTER SIZE

pub passed_more : (p : PlainProblem) (s : ℕ) → ArePassedBefore p s → IsPassed p s → ArePassedBefore p (s + 1)
passed_more p s h k n l m = ⊎_elim (λ e. subst (IsPassed p) (sym e) k) (λ q. h n l q) (eq-or-lt_of_le (below n s m))
  where
    below : (n s : ℕ) → n < s + 1 → n ≤ s
    below n s l = omega arith

pub none_before : (p : PlainProblem) → IsTyped p → (s : ℕ) → ArePassedBefore p s → (n : ℕ) → 1 ≤ n → n < s → NoModelHasSize p n
none_before p typed s h n l m = λ model good sized w. none_of_size p typed n l model good sized (h n l m).none w

-- THE SYMBOL AT A PLACE

pub type_got : (cs : List TypedName) (i : ℕ) (a : SimpleType) → Some a ≡ option_map (λ c. c.type) (slice_get cs i) → slice_get (map (λ c. c.type) cs) i ≡ Some a
type_got [] i a e = cc
type_got (c ∷ cs) zero a e = cc
type_got (c ∷ cs) (suc i) a e = type_got cs i a e

pub declared_size : (s : ℕ) (scope : Scope) (ys : List Symbol) (i : ℕ) (a : SimpleType) (r : Option ℕ) → slice_get scope.names i ≡ Some a → MatchOption r (IsSmallType s a → ⊥) (λ n. IsSmallType s a × (n ≡ size_in s a) × (n ≤ 2 ^ 20) × (1 ≤ n)) → MatchOption r (At (symbols_with scope ys) i (λ x. IsSmallType s x.type → ⊥)) (λ n. At (symbols_with scope ys) i (λ x. IsSizeOf s x.type n))
declared_size s scope ys i a None g h = λ x k. let e = symbol_declared 0 scope.names ys i x a k g in subst (λ t. IsSmallType s t → ⊥) (sym (ap (λ y. y.type) e)) h
declared_size s scope ys i a (Some n) g h = λ x k.
    let e = symbol_declared 0 scope.names ys i x a k g in
    subst (λ t. IsSizeOf s t n) (sym (ap (λ y. y.type) e)) (record { small = h.0; is = h.1; pos = h.3; few = h.2 })

pub chooser_size_found : (s : ℕ) (scope : Scope) (ys : List Symbol) (i : ℕ) (y : Symbol) (a : SimpleType) (r : Option ℕ) → length scope.names ≤ i → slice_get ys (i - length scope.names) ≡ Some y → y.type ≡ arrow (predicate a) a → MatchOption r (IsSmallType s (arrow (predicate a) a) → ⊥) (λ n. IsSizeOf s (arrow (predicate a) a) n) → MatchOption r (At (symbols_with scope ys) i (λ x. IsSmallType s x.type → ⊥)) (λ n. At (symbols_with scope ys) i (λ x. IsSizeOf s x.type n))
chooser_size_found s scope ys i y a r l g e h = go r h
  where
    same : (x : Symbol) → slice_get (symbols_with scope ys) i ≡ Some x → arrow (predicate a) a ≡ x.type
    same x k =
        let q : slice_get ys (i - length scope.names) ≡ Some x = sym (symbol_behind 0 scope.names ys i l) ∙ k in
        let p : y ≡ x = cc in
        sym e ∙ ap (λ z. z.type) p

    go : (r : Option ℕ) → MatchOption r (IsSmallType s (arrow (predicate a) a) → ⊥) (λ n. IsSizeOf s (arrow (predicate a) a) n) → MatchOption r (At (symbols_with scope ys) i (λ x. IsSmallType s x.type → ⊥)) (λ n. At (symbols_with scope ys) i (λ x. IsSizeOf s x.type n))
    go None h = λ x k. subst (λ t. IsSmallType s t → ⊥) (same x k) h
    go (Some n) h = λ x k. subst (λ t. IsSizeOf s t n) (same x k) h

pub behind_place : (scope : Scope) (ys : List Symbol) (i n : ℕ) → n ≡ length scope.names → n ≤ i → i < length (symbols_with scope ys) → i - n < length ys
behind_place scope ys i n e l m = omega (arith, symbols_length 0 scope.names ys)

-- the domain of a declared constant has all values
pub declared_domain : (s : ℕ) (scope : Scope) (ys : List Symbol) (i size : ℕ) (d : List Bool) → i < length scope.names → At (symbols_with scope ys) i (λ x. IsSizeOf s x.type size) → length d ≡ size → ((v : ℕ) → v < size → IsAllowed d v) → At (symbols_with scope ys) i (λ x. IsDomain s x d)
declared_domain s scope ys i size d l h c each = λ x k.
    let a = some_type scope.names i l in
    let e = symbol_declared 0 scope.names ys i x a.0 k a.1 in
    let is = (h x k).is in
    record {
      count = c ∙ is;
      allowed = λ v m. (λ _. subst (λ y. IsLawful s y.constant v) (sym e) tt, λ _. each v (omega arith));
    }
  where
    some_type : (types : List SimpleType) (i : ℕ) → i < length types → (a : SimpleType) × (slice_get types i ≡ Some a)
    some_type [] i l = absurd (omega arith)
    some_type (a ∷ types) zero l = (a, refl)
    some_type (a ∷ types) (suc i) l = some_type types i (omega arith)

pub behind_same : (scope : Scope) (ys : List Symbol) (i : ℕ) (y x : Symbol) → length scope.names ≤ i → slice_get ys (i - length scope.names) ≡ Some y → slice_get (symbols_with scope ys) i ≡ Some x → y ≡ x
behind_same scope ys i y x l g k =
    let q : slice_get ys (i - length scope.names) ≡ Some x = sym (symbol_behind 0 scope.names ys i l) ∙ k in
    cc

-- LISTS THAT GROW

pub index_before : (xs : List ℕ) (n j : ℕ) → j < length xs → slice_index (xs ++ n ∷ []) j ≡ slice_index xs j
index_before [] n j l = absurd (omega arith)
index_before (x ∷ xs) n zero l = refl
index_before (x ∷ xs) n (suc j) l = index_before xs n j (omega arith)

pub index_last : (xs : List ℕ) (n j : ℕ) → j ≡ length xs → slice_index (xs ++ n ∷ []) j ≡ n
index_last [] n zero e = refl
index_last [] n (suc j) e = absurd (omega arith)
index_last (x ∷ xs) n zero e = absurd (omega arith)
index_last (x ∷ xs) n (suc j) e = index_last xs n j (omega arith)

pub bool_before : (xs : List Bool) (b : Bool) (j : ℕ) → j < length xs → slice_index_or (xs ++ b ∷ []) j false ≡ slice_index_or xs j false
bool_before [] b j l = absurd (omega arith)
bool_before (x ∷ xs) b zero l = refl
bool_before (x ∷ xs) b (suc j) l = bool_before xs b j (omega arith)

pub bool_last : (xs : List Bool) (b : Bool) (j : ℕ) → j ≡ length xs → slice_index_or (xs ++ b ∷ []) j false ≡ b
bool_last [] b zero e = refl
bool_last [] b (suc j) e = absurd (omega arith)
bool_last (x ∷ xs) b zero e = absurd (omega arith)
bool_last (x ∷ xs) b (suc j) e = bool_last xs b j (omega arith)

-- one value more
pub sizes_more : (s : ℕ) (xs : List Symbol) (ns after : List ℕ) (i n : ℕ) → length ns ≡ i → ((j : ℕ) → j < i → At xs j (λ x. IsSizeOf s x.type (slice_index ns j))) → At xs i (λ x. IsSizeOf s x.type n) → after ≡ ns ++ n ∷ [] → (length after ≡ i + 1) × ((j : ℕ) → j < i + 1 → At xs j (λ x. IsSizeOf s x.type (slice_index after j)))
sizes_more s xs ns after i n c before here e = (
  ap length e ∙ length_more ns n ∙ ap (λ k. k + 1) c,
  λ j l x g.
      ⊎_elim
      (λ q. subst (IsSizeOf s x.type) (sym (ap (λ l. slice_index l j) e ∙ index_last ns n j (q ∙ sym c))) (here x (subst (λ k. slice_get xs k ≡ Some x) q g)))
      (λ m. subst (IsSizeOf s x.type) (sym (ap (λ l. slice_index l j) e ∙ index_before ns n j (omega arith))) (before j m x g))
      (eq-or-lt_of_le (below j i l)),
)
  where
    below : (j i : ℕ) → j < i + 1 → j ≤ i
    below j i l = omega arith

    length_more : (xs : List ℕ) (n : ℕ) → length (xs ++ n ∷ []) ≡ length xs + 1
    length_more [] n = omega arith
    length_more (x ∷ xs) n = omega (arith, length_more xs n)

pub allowed_more : (P : ℕ → Type 0) (ds after : List Bool) (i : ℕ) (b : Bool) → length ds ≡ i → ((v : ℕ) → v < i → IsAllowed ds v ↔ P v) → IsTrue b ↔ P i → after ≡ ds ++ b ∷ [] → (length after ≡ i + 1) × ((v : ℕ) → v < i + 1 → IsAllowed after v ↔ P v)
allowed_more P ds after i b c before here e = (
  ap length e ∙ length_more ds b ∙ ap (λ k. k + 1) c,
  λ v l.
      ⊎_elim
      (λ q.
      let is : slice_index_or after v false ≡ b = ap (λ l. slice_index_or l v false) e ∙ bool_last ds b v (q ∙ sym c) in
      (λ h. subst P (sym q) (here.0 (sym is ∙ h)), λ p. is ∙ here.1 (subst P q p)))
      (λ m.
      let is : slice_index_or after v false ≡ slice_index_or ds v false = ap (λ l. slice_index_or l v false) e ∙ bool_before ds b v (omega arith) in
      let r = before v m in
      (λ h. r.0 (sym is ∙ h), λ p. is ∙ r.1 p))
      (eq-or-lt_of_le (below v i l)),
)
  where
    below : (j i : ℕ) → j < i + 1 → j ≤ i
    below j i l = omega arith

    length_more : (xs : List Bool) (n : Bool) → length (xs ++ n ∷ []) ≡ length xs + 1
    length_more [] n = omega arith
    length_more (x ∷ xs) n = omega (arith, length_more xs n)

-- what stands in a list with one element more
pub pushed_get : {A : Type 0} (xs : List A) (x : A) (j : ℕ) (y : A) → slice_get (xs ++ x ∷ []) j ≡ Some y → ((j ≡ length xs) × (x ≡ y)) ⊎ (slice_get xs j ≡ Some y)
pushed_get [] x zero y g = let e : x ≡ y = cc in inl (refl, e)
pushed_get [] x (suc j) y g = cc
pushed_get (z ∷ xs) x zero y g = inr g
pushed_get (z ∷ xs) x (suc j) y g = ⊎_elim (λ e. inl (ap suc e.0, e.1)) (λ h. inr h) (pushed_get xs x j y g)

pub pushed_length : {A : Type 0} (xs : List A) (x : A) → length (xs ++ x ∷ []) ≡ length xs + 1
pushed_length [] x = omega arith
pushed_length (z ∷ xs) x = omega (arith, pushed_length xs x)

pub few_step : (ns : List ℕ) (i lists size : ℕ) → lists ≡ product (take i ns) → size ≡ slice_index ns i → i < length ns → lists * size ≡ product (take (i + 1) ns)
few_step ns i lists size e f l = ap₂ (λ x y. x * y) e f ∙ sym (product_more ns i l)

pub not_all_small : (s : ℕ) (xs : List Symbol) (i : ℕ) → i < length xs → At xs i (λ x. IsSmallType s x.type → ⊥) → EachIsSmall s xs → ⊥
not_all_small s [] i l n h = absurd (omega arith)
not_all_small s (x ∷ xs) zero l n h = n x refl h.0
not_all_small s (x ∷ xs) (suc i) l n h = not_all_small s xs i (omega arith) n h.1

pub domains_more : (s : ℕ) (xs : List Symbol) (ds after : List (List Bool)) (i : ℕ) (d : List Bool) → length ds ≡ i → ((j : ℕ) (e : List Bool) → slice_get ds j ≡ Some e → At xs j (λ x. IsDomain s x e)) → At xs i (λ x. IsDomain s x d) → after ≡ ds ++ d ∷ [] → (length after ≡ i + 1) × ((j : ℕ) (e : List Bool) → slice_get after j ≡ Some e → At xs j (λ x. IsDomain s x e))
domains_more s xs ds after i d c before here e = (
  ap length e ∙ pushed_length ds d ∙ ap (λ k. k + 1) c,
  λ j f g x k.
      ⊎_elim
      (λ h. subst (IsDomain s x) h.1 (here x (subst (λ n. slice_get xs n ≡ Some x) (h.0 ∙ c) k)))
      (λ h. before j f h x k)
      (pushed_get ds d j f (subst (λ l. slice_get l j ≡ Some f) e g)),
)

pub checks_more : (scope : Scope) (s : ℕ) (ys : List Symbol) (assumed : ℕ) (ts : List Lambda) (cs after : List Check) (i : ℕ) (t : Lambda) (c : Check) → length cs ≡ i → slice_get ts i ≡ Some t → ((j : ℕ) (u : Lambda) (d : Check) → slice_get ts j ≡ Some u → slice_get cs j ≡ Some d → IsCheck scope s ys assumed j u d) → IsCheck scope s ys assumed i t c → after ≡ cs ++ c ∷ [] → (length after ≡ i + 1) × ((j : ℕ) (u : Lambda) (d : Check) → slice_get ts j ≡ Some u → slice_get after j ≡ Some d → IsCheck scope s ys assumed j u d)
checks_more scope s ys assumed ts cs after i t c n g before here e = (
  ap length e ∙ pushed_length cs c ∙ ap (λ k. k + 1) n,
  λ j u d k l.
      ⊎_elim
      (λ h.
      let q : j ≡ i = h.0 ∙ n in
      let k' : slice_get ts i ≡ Some u = subst (λ m. slice_get ts m ≡ Some u) q k in
      let same : t ≡ u = cc in
      subst (λ m. IsCheck scope s ys assumed m u d) (sym q) (subst (λ x. IsCheck scope s ys assumed i u x) h.1 (subst (λ x. IsCheck scope s ys assumed i x c) same here)))
      (λ h. before j u d k h)
      (pushed_get cs c j d (subst (λ m. slice_get m j ≡ Some d) e l)),
)

some_formula : (ts : List Lambda) (i : ℕ) → i < length ts → (t : Lambda) × (slice_get ts i ≡ Some t)
some_formula [] i l = absurd (omega arith)
some_formula (t ∷ ts) zero l = (t, refl)
some_formula (t ∷ ts) (suc i) l = some_formula ts i (omega arith)

pub ready_of : (scope : Scope) (s : ℕ) (ys : List Symbol) (assumed : ℕ) (ts : List Lambda) (cs : List Check) → AreChecks scope s ys assumed ts cs → (vs : List ℕ) → IsCandidate s (symbols_with scope ys) vs → AreReady cs vs
ready_of scope s ys assumed ts cs h vs c i k g =
    let l = get_within cs i k g in
    let n = h.count in
    let t = some_formula ts i (omega arith) in
    let is = h.each i t.0 k t.1 g in
    (is.stands.safe vs [] c tt, is.reach)

-- what is worked out over the code's signature and lists, said of the problem
module _ (p : PlainProblem) (typed : IsTyped p) (s : ℕ) (pos : 1 ≤ s) (scope : Scope) (zs : List Symbol) (ts : List Lambda) (scope_is : scope ≡ scope_of p.declared) (ts_is : ts ≡ normal_formulas p) (zs_is : zs ≡ with_symbols [] (choosing_symbols_of ts)) where
  zs_are : zs ≡ with_symbols [] (choosing_symbols_of (normal_formulas p))
  zs_are = zs_is ∙ ap (λ l. with_symbols [] (choosing_symbols_of l)) ts_is

  pub ground_here : s ≤ 8 → EachIsSmall s (model_symbols p) → IsGround scope s zs
  ground_here few small = subst (λ x. IsGround x s zs) (sym scope_is) (subst (IsGround (scope_of p.declared) s) (sym zs_are) (ground_of p typed s pos few small))

  pub can_here : EachNamesSmallTypes s ts → CanCompileEach scope s zs ts
  can_here named =
      subst (λ x. CanCompileEach x s zs ts) (sym scope_is)
      (subst (λ x. CanCompileEach (scope_of p.declared) s x ts) (sym zs_are)
      (subst (λ x. CanCompileEach (scope_of p.declared) s (with_symbols [] (choosing_symbols_of (normal_formulas p))) x) (sym ts_is) (can_compile_each p typed s pos (subst (EachNamesSmallTypes s) ts_is named))))

  pub sizes_here : (ns : List ℕ) → AreSizes s (model_symbols p) ns → AreSizes s (symbols_with scope zs) ns
  sizes_here ns h = subst (λ x. AreSizes s x ns) (sym (symbols_are p scope zs ts scope_is ts_is zs_is)) h

  pub first_here : (n : ℕ) → n ≡ length p.assumed → (vs : List ℕ) → FirstPasses scope s zs n ts vs → IsFirstCandidate p s vs
  first_here n e vs h =
      first_found p typed s pos vs
      (subst (λ x. FirstPasses (scope_of p.declared) s (with_symbols [] (choosing_symbols_of (normal_formulas p))) (length p.assumed) x vs) ts_is
      (subst (λ x. FirstPasses (scope_of p.declared) s x (length p.assumed) ts vs) zs_are
      (subst (λ x. FirstPasses (scope_of p.declared) s zs x ts vs) e
      (subst (λ x. FirstPasses x s zs n ts vs) scope_is h))))

  pub none_here : (n : ℕ) → n ≡ length p.assumed → NonePasses scope s zs n ts → NoneMeets p s
  none_here n e h =
      none_found p typed s pos
      (subst (λ x. NonePasses (scope_of p.declared) s (with_symbols [] (choosing_symbols_of (normal_formulas p))) (length p.assumed) x) ts_is
      (subst (λ x. NonePasses (scope_of p.declared) s x (length p.assumed) ts) zs_are
      (subst (λ x. NonePasses (scope_of p.declared) s zs x ts) e
      (subst (λ x. NonePasses x s zs n ts) scope_is h))))

-- what is found at a size is a model
pub shows_first : (p : PlainProblem) (s : ℕ) → 1 ≤ s → (vs ws : List ℕ) → ws ≡ vs → IsFirstCandidate p s vs → IsModel (scope_of p.declared) (model_of s (model_symbols p) ws) × (ℕ → s ≡ s) × MeetsProblem p (model_of s (model_symbols p) ws)
shows_first p s l vs ws e f =
    subst (λ us. IsModel (scope_of p.declared) (model_of s (model_symbols p) us) × (ℕ → s ≡ s) × MeetsProblem p (model_of s (model_symbols p) us)) (sym e)
    (candidate_model p s vs l f.candidate, λ n. refl, f.meets)
