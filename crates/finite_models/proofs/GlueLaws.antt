-- From lists of allowed values that pass to candidates that meet a problem.
use Rattle.std.proofs.Common.{◌≡◌, ℕ, zero, suc, ◌*◌, ◌<◌, ◌≤◌, List, [], ◌∷◌, ◌++◌, length, map, Option, Some, None, Bool, true, false, slice_get, slice_index, nat_lt, if◌then◌else◌, refl, ap, ap₂, sym, subst, ◌∙◌, ◌⊎◌, inl, inr, ⊎_elim, arith}
use Rattle.std.specs.List.{AllByRecursion as Every}
use Rattle.std.proofs.lemmas.List.{length-map}
use Rattle.std.proofs.lemmas.Bool.{lt-ltb}
use borrow.Author.Tests.{ltb-true}
use Rattle.stt_core.specs.SimpleType.{formula}
use Rattle.stt_core.specs.Lambda.{Constant, choice, description, Lambda}
use Rattle.stt_core.specs.Typing.{Scope}
use Rattle.stt_core.specs.Canonical.{IsCanonical}
use Rattle.stt_core.specs.Meaning.{Model, IsModel, value}
use Rattle.stt_core.specs.Meets.{MeetsFormula, MeetsFormulas, Refutes}
use Rattle.stt_core.specs.Declarations.{scope_of}
use Rattle.stt_core.specs.PlainProblem.{PlainProblem}
use Rattle.stt_core.specs.TypedProblem.{IsFormula, AreFormulas, IsFormulaIfThere, IsTyped}
use Rattle.stt_core.proofs.ListLaws.{slice_get-append, slice_get-end, mapped_get}
use Rattle.stt_core.proofs.ValueLaws.{value-lt}
use Rattle.normal_forms.specs.Normal.{normal_form}
use Rattle.normal_forms.proofs.NormalValues.{canonical-normal_form, value-normal_form}
use Rattle.finite_models.specs.Sizes.{size_in, NamesSmallTypes}
use Rattle.finite_models.specs.Symbols.{Symbol, EachIsSmall, EachNamesSmallTypes, value_lists, conjectures, normal_formulas, model_symbols, choosing_symbols_of, with_symbols}
use Rattle.finite_models.specs.Candidates.{IsLawful, IsCandidate, IsEarlierCandidate, model_of}
use Rattle.finite_models.specs.Small.{CandidateMeets, NoneMeets, IsFirstCandidate}
use Rattle.finite_models.specs.Internal.Search.{IsAllowed, AreAllowed, AreFewValues, IsEarlier, PassesAll, AreReady, IsFirstPassing}
use Rattle.finite_models.specs.Internal.Stands.{IsChooserSymbol, IsGround, IsCoveredBy}
use Rattle.finite_models.specs.Internal.Looking.{AreSizes, product, AreDomains, AreChecks, CanCompileEach}
use Rattle.finite_models.specs.Internal.Worth.{worth}
use Rattle.finite_models.specs.declared.search.Check.{Check}
use Rattle.finite_models.proofs.SymbolLaws.{Has, Covers, every_added, choosers_cover}
use Rattle.finite_models.proofs.CandidateLaws.{candidate_model}
use Rattle.finite_models.proofs.RankLaws.{get_within, allowed-lt}
use Rattle.finite_models.proofs.CompileLaws.{formula_small}

-- SIZES

sizes_tail : (s : ℕ) (x : Symbol) (xs : List Symbol) (n : ℕ) (ns : List ℕ) → AreSizes s (x ∷ xs) (n ∷ ns) → AreSizes s xs ns
sizes_tail s x xs n ns h = record { count = let c = h.count in omega arith; each = λ i y g. h.each (suc i) y g }

pub all_are_small : (s : ℕ) (xs : List Symbol) (ns : List ℕ) → AreSizes s xs ns → EachIsSmall s xs
all_are_small s [] ns h = tt
all_are_small s (x ∷ xs) [] h = let c = h.count in absurd (omega arith)
all_are_small s (x ∷ xs) (n ∷ ns) h = ((h.each 0 x refl).small, all_are_small s xs ns (sizes_tail s x xs n ns h))

pub product_is : (s : ℕ) (xs : List Symbol) (ns : List ℕ) → AreSizes s xs ns → product ns ≡ value_lists s xs
product_is s [] [] h = refl
product_is s [] (n ∷ ns) h = let c = h.count in absurd (omega arith)
product_is s (x ∷ xs) [] h = let c = h.count in absurd (omega arith)
product_is s (x ∷ xs) (n ∷ ns) h = ap₂ (λ a b. a * b) (h.each 0 x refl).is (product_is s xs ns (sizes_tail s x xs n ns h))

pub sizes_bounded : (s : ℕ) (xs : List Symbol) (ns : List ℕ) → AreSizes s xs ns → (i : ℕ) → i < length ns → (1 ≤ slice_index ns i) × (slice_index ns i ≤ 1048576)
sizes_bounded s xs ns h i l = let c = h.count in let g = some xs i (omega arith) in let k = h.each i g.0 g.1 in (k.pos, k.few)
  where
    some : (xs : List Symbol) (i : ℕ) → i < length xs → (x : Symbol) × (slice_get xs i ≡ Some x)
    some [] i l = absurd (omega arith)
    some (x ∷ xs) zero l = (x, refl)
    some (x ∷ xs) (suc i) l = some xs i (omega arith)

-- DOMAINS

domains_tail : (s : ℕ) (x : Symbol) (xs : List Symbol) (d : List Bool) (ds : List (List Bool)) → AreDomains s (x ∷ xs) (d ∷ ds) → AreDomains s xs ds
domains_tail s x xs d ds h = record { count = let c = h.count in omega arith; each = λ i e g y k. h.each (suc i) e g y k }

pub to_allowed : (s : ℕ) (xs : List Symbol) (ds : List (List Bool)) (vs : List ℕ) → AreDomains s xs ds → IsCandidate s xs vs → AreAllowed ds vs
to_allowed s [] [] [] h c = record { count = refl; each = λ i d g. cc }
to_allowed s [] [] (v ∷ vs) h c = absurd c
to_allowed s [] (d ∷ ds) vs h c = let n = h.count in absurd (omega arith)
to_allowed s (x ∷ xs) [] vs h c = let n = h.count in absurd (omega arith)
to_allowed s (x ∷ xs) (d ∷ ds) [] h c = absurd c
to_allowed s (x ∷ xs) (d ∷ ds) (v ∷ vs) h c =
    let r = to_allowed s xs ds vs (domains_tail s x xs d ds h) c.2 in
    record { count = let n = r.count in omega arith; each = each ((h.each 0 d refl x refl).allowed v c.0).1 r }
  where
    each : (IsLawful s x.constant v → IsAllowed d v) → AreAllowed ds vs → (i : ℕ) (e : List Bool) → slice_get (d ∷ ds) i ≡ Some e → IsAllowed e (slice_index (v ∷ vs) i)
    each f r zero e g = let q : d ≡ e = cc in subst (λ y. IsAllowed y v) q (f c.1)
    each f r (suc i) e g = r.each i e g

allowed_tail : (d : List Bool) (ds : List (List Bool)) (v : ℕ) (vs : List ℕ) → AreAllowed (d ∷ ds) (v ∷ vs) → AreAllowed ds vs
allowed_tail d ds v vs h = record { count = let c = h.count in omega arith; each = λ i e g. h.each (suc i) e g }

pub to_candidate : (s : ℕ) (xs : List Symbol) (ds : List (List Bool)) (vs : List ℕ) → AreDomains s xs ds → AreAllowed ds vs → IsCandidate s xs vs
to_candidate s [] [] [] h a = tt
to_candidate s [] [] (v ∷ vs) h a = let n = a.count in absurd (omega arith)
to_candidate s [] (d ∷ ds) vs h a = let n = h.count in absurd (omega arith)
to_candidate s (x ∷ xs) [] vs h a = let n = h.count in absurd (omega arith)
to_candidate s (x ∷ xs) (d ∷ ds) [] h a = let n = a.count in absurd (omega arith)
to_candidate s (x ∷ xs) (d ∷ ds) (v ∷ vs) h a =
    let is = h.each 0 d refl x refl in
    let here = a.each 0 d refl in
    let below : v < size_in s x.type = subst (λ n. v < n) is.count (allowed-lt d v here) in
    (below, (is.allowed v below).0 here, to_candidate s xs ds vs (domains_tail s x xs d ds h) (allowed_tail d ds v vs a))

pub domains_few : (s : ℕ) (xs : List Symbol) (ns : List ℕ) (ds : List (List Bool)) → AreSizes s xs ns → AreDomains s xs ds → AreFewValues ds
domains_few s xs ns ds h k i d g =
    let c = k.count in
    let l = get_within ds i d g in
    let x = some xs i (omega arith) in
    let n = (k.each i d g x.0 x.1).count in
    let m = h.each i x.0 x.1 in
    let few = m.few in
    let is = m.is in
    omega arith
  where
    some : (xs : List Symbol) (i : ℕ) → i < length xs → (x : Symbol) × (slice_get xs i ≡ Some x)
    some [] i l = absurd (omega arith)
    some (x ∷ xs) zero l = (x, refl)
    some (x ∷ xs) (suc i) l = some xs i (omega arith)

-- THE ORDER

pub to_earlier : (ws vs : List ℕ) → IsEarlierCandidate ws vs → IsEarlier ws vs
to_earlier [] vs h = absurd h
to_earlier (w ∷ ws) [] h = absurd h
to_earlier (w ∷ ws) (v ∷ vs) (inl l) = record { at = 0; within = omega arith; same = λ j k. absurd (omega arith); less = l }
to_earlier (w ∷ ws) (v ∷ vs) (inr h) =
    let r = to_earlier ws vs h.1 in
    record { at = suc r.at; within = let w = r.within in omega arith; same = same h.0 r.at r.same; less = r.less }
  where
    same : w ≡ v → (i : ℕ) → ((j : ℕ) → j < i → slice_index ws j ≡ slice_index vs j) → (j : ℕ) → j < suc i → slice_index (w ∷ ws) j ≡ slice_index (v ∷ vs) j
    same e i f zero l = e
    same e i f (suc j) l = f j (omega arith)

-- THE FORMULAS

covered_by : (c : Constant) (xs : List Symbol) → Has c xs → IsCoveredBy xs c
covered_by c [] h = h
covered_by c (x ∷ xs) (inl e) = inl e
covered_by c (x ∷ xs) (inr h) = inr (covered_by c xs h)

some_check : (cs : List Check) (i : ℕ) → i < length cs → (c : Check) × (slice_get cs i ≡ Some c)
some_check [] i l = absurd (omega arith)
some_check (c ∷ cs) zero l = (c, refl)
some_check (c ∷ cs) (suc i) l = some_check cs i (omega arith)

each_meets : (scope : Scope) (m : Model) (ts : List Lambda) → ((i : ℕ) (t : Lambda) → slice_get ts i ≡ Some t → MeetsFormula scope m t) → MeetsFormulas scope m ts
each_meets scope m [] h = tt
each_meets scope m (t ∷ ts) h = (h 0 t refl, each_meets scope m ts (λ i u g. h (suc i) u g))

pub formula_at : (scope : Scope) (ts : List Lambda) → AreFormulas scope ts → (i : ℕ) (t : Lambda) → slice_get ts i ≡ Some t → IsFormula scope t
formula_at scope [] h i t g = cc
formula_at scope (u ∷ ts) h zero t g = let e : u ≡ t = cc in subst (IsFormula scope) e h.0
formula_at scope (u ∷ ts) h (suc i) t g = formula_at scope ts h.1 i t g

some_term : (ts : List Lambda) (i : ℕ) → i < length ts → (t : Lambda) × (slice_get ts i ≡ Some t)
some_term [] i l = absurd (omega arith)
some_term (t ∷ ts) zero l = (t, refl)
some_term (t ∷ ts) (suc i) l = some_term ts i (omega arith)

lt_true : (i n : ℕ) → i < n → nat_lt i n ≡ true
lt_true i n l = lt-ltb i n l

lt_false : (i n : ℕ) → n ≤ i → nat_lt i n ≡ false
lt_false i n l = go (nat_lt i n) refl
  where
    go : (b : Bool) → nat_lt i n ≡ b → b ≡ false
    go true e = absurd (let k = ltb-true i n e in omega arith)
    go false e = refl

module _ (p : PlainProblem) (typed : IsTyped p) (s : ℕ) (pos : 1 ≤ s) where
  abbrev scope : Scope
  scope = scope_of p.declared

  abbrev ys : List Symbol
  ys = with_symbols [] (choosing_symbols_of (normal_formulas p))

  abbrev nf : Lambda → Lambda
  nf = normal_form scope []

  -- what the compiler needs
  pub ground_of : s ≤ 8 → EachIsSmall s (model_symbols p) → IsGround scope s ys
  ground_of few small = record { pos = pos; few = few; no_witness = refl; choosers = every_added IsChooserSymbol (λ a. refl) (λ a. refl) (normal_formulas p); small = small }

  named_get : (ts : List Lambda) (i : ℕ) (t : Lambda) → EachNamesSmallTypes s ts → slice_get ts i ≡ Some t → NamesSmallTypes s t
  named_get [] i t h g = cc
  named_get (u ∷ ts) zero t h g = let e : u ≡ t = cc in subst (NamesSmallTypes s) e h.0
  named_get (u ∷ ts) (suc i) t h g = named_get ts i t h.1 g

  covers_get : (ts : List Lambda) (i : ℕ) (t : Lambda) → Every (Covers ys) ts → slice_get ts i ≡ Some t → Covers ys t
  covers_get [] i t h g = cc
  covers_get (u ∷ ts) zero t h g = let e : u ≡ t = cc in subst (Covers ys) e h.0
  covers_get (u ∷ ts) (suc i) t h g = covers_get ts i t h.1 g

  canonical_get : (ts : List Lambda) (i : ℕ) (t : Lambda) → ((i : ℕ) (u : Lambda) → slice_get ts i ≡ Some u → IsFormula scope u) → slice_get (map nf ts) i ≡ Some t → IsCanonical scope [] formula t
  canonical_get [] i t h g = cc
  canonical_get (u ∷ ts) zero t h g =
      let e : nf u ≡ t = cc in
      subst (IsCanonical scope [] formula) e (canonical-normal_form scope typed.scope [] formula u tt (h 0 u refl))
  canonical_get (u ∷ ts) (suc i) t h g = canonical_get ts i t (λ j v k. h (suc j) v k) g

  all_formulas : (i : ℕ) (t : Lambda) → slice_get (p.assumed ++ conjectures p.conjecture) i ≡ Some t → IsFormula scope t
  all_formulas = go p.assumed p.conjecture typed.assumed typed.conjecture
    where
      go : (ts : List Lambda) (o : Option Lambda) → AreFormulas scope ts → IsFormulaIfThere scope o → (i : ℕ) (t : Lambda) → slice_get (ts ++ conjectures o) i ≡ Some t → IsFormula scope t
      go [] None h k i t g = cc
      go [] (Some u) h k zero t g = let e : u ≡ t = cc in subst (IsFormula scope) e k
      go [] (Some u) h k (suc i) t g = cc
      go (u ∷ ts) o h k zero t g = let e : u ≡ t = cc in subst (IsFormula scope) e h.0
      go (u ∷ ts) o h k (suc i) t g = go ts o h.1 k i t g

  pub can_compile_each : EachNamesSmallTypes s (normal_formulas p) → CanCompileEach scope s ys (normal_formulas p)
  can_compile_each named i t g =
      let cover = covers_get (normal_formulas p) i t (choosers_cover (normal_formulas p)) g in
      record {
        canonical = canonical_get (p.assumed ++ conjectures p.conjecture) i t all_formulas g;
        type_small = formula_small s;
        ctx_small = tt;
        named = named_get (normal_formulas p) i t named g;
        chooses = record {
          choices = λ a o. covered_by (choice a) ys (cover (choice a) tt o);
          descriptions = λ a o. covered_by (description a) ys (cover (description a) tt o);
        };
      }

  -- the checks and what they mean
  module _ (cs : List Check) (checks : AreChecks scope s ys (length p.assumed) (normal_formulas p) cs) where
    pub checks_ready : (vs : List ℕ) → IsCandidate s (model_symbols p) vs → AreReady cs vs
    checks_ready vs c i k g =
        let l = get_within cs i k g in
        let n = checks.count in
        let t = some_term (normal_formulas p) i (omega arith) in
        let is = checks.each i t.0 k t.1 g in
        (is.stands.safe vs [] c tt, is.reach)

    module _ (vs : List ℕ) (c : IsCandidate s (model_symbols p) vs) where
      abbrev m : Model
      m = model_of s (model_symbols p) vs

      good : IsModel scope m
      good = candidate_model p s vs pos c

      -- the check of formula t is worth its value
      worth_is : (i : ℕ) (t : Lambda) (k : Check) → slice_get (p.assumed ++ conjectures p.conjecture) i ≡ Some t → slice_get cs i ≡ Some k → worth k.expr vs [] ≡ value scope m [] [] t
      worth_is i t k g h =
          let is = checks.each i (nf t) k (mapped_get nf (p.assumed ++ conjectures p.conjecture) i t g) h in
          is.stands.is vs [] c tt ∙ value-normal_form scope typed.scope m good [] [] formula t tt (all_formulas i t g) tt

      wanted_is : (i : ℕ) (t : Lambda) (k : Check) → slice_get (p.assumed ++ conjectures p.conjecture) i ≡ Some t → slice_get cs i ≡ Some k → k.wanted ≡ (if nat_lt i (length p.assumed) then 1 else 0)
      wanted_is i t k g h = (checks.each i (nf t) k (mapped_get nf (p.assumed ++ conjectures p.conjecture) i t g) h).wanted

      there : (i : ℕ) → i < length (p.assumed ++ conjectures p.conjecture) → (k : Check) × (slice_get cs i ≡ Some k)
      there i l =
          let n = checks.count in
          let e = length-map (p.assumed ++ conjectures p.conjecture) nf in
          some_check cs i (omega arith)

      assumed_met : PassesAll cs vs → (i : ℕ) (t : Lambda) → slice_get p.assumed i ≡ Some t → MeetsFormula scope m t
      assumed_met h i t g =
          let g' = slice_get-append p.assumed (conjectures p.conjecture) i t g in
          let k = there i (get_within (p.assumed ++ conjectures p.conjecture) i t g') in
          sym (worth_is i t k.0 g' k.1)
          ∙ h i k.0 k.1
          ∙ wanted_is i t k.0 g' k.1
          ∙ ap (λ b. if b then 1 else 0) (lt_true i (length p.assumed) (get_within p.assumed i t g))

      conjecture_refuted : PassesAll cs vs → (o : Option Lambda) → p.conjecture ≡ o → Refutes scope m o
      conjecture_refuted h None e = tt
      conjecture_refuted h (Some t) e = λ w.
          let g : slice_get (p.assumed ++ conjectures p.conjecture) (length p.assumed) ≡ Some t = ap (λ o. slice_get (p.assumed ++ conjectures o) (length p.assumed)) e ∙ slice_get-end p.assumed t in
          let k = there (length p.assumed) (get_within (p.assumed ++ conjectures p.conjecture) (length p.assumed) t g) in
          let zero_is : value scope m [] [] t ≡ 0 =
          sym (worth_is (length p.assumed) t k.0 g k.1)
          ∙ h (length p.assumed) k.0 k.1
          ∙ wanted_is (length p.assumed) t k.0 g k.1
          ∙ ap (λ b. if b then 1 else 0) (lt_false (length p.assumed) (length p.assumed) (omega arith)) in
          absurd (omega arith)

      pub to_meets : PassesAll cs vs → CandidateMeets p s vs
      to_meets h = record { assumed = each_meets scope m p.assumed (assumed_met h); conjecture = conjecture_refuted h p.conjecture refl }

      not_one : (t : Lambda) → IsFormula scope t → (value scope m [] [] t ≡ 1 → ⊥) → value scope m [] [] t ≡ 0
      not_one t f n = let l = value-lt scope m good [] [] formula t f tt in go (value scope m [] [] t) l n
        where
          go : (v : ℕ) → v < 2 → (v ≡ 1 → ⊥) → v ≡ 0
          go zero l n = refl
          go (suc zero) l n = absurd (n refl)
          go (suc (suc v)) l n = absurd (omega arith)

      value_wanted : CandidateMeets p s vs → (ts : List Lambda) (o : Option Lambda) → AreFormulas scope ts → IsFormulaIfThere scope o → MeetsFormulas scope m ts → Refutes scope m o → (i : ℕ) (t : Lambda) → slice_get (ts ++ conjectures o) i ≡ Some t → value scope m [] [] t ≡ (if nat_lt i (length ts) then 1 else 0)
      value_wanted w [] None h k a r i t g = cc
      value_wanted w [] (Some u) h k a r zero t g =
          let e : u ≡ t = cc in
          subst (λ x. value scope m [] [] x ≡ 0) e (not_one u k r)
      value_wanted w [] (Some u) h k a r (suc i) t g = cc
      value_wanted w (u ∷ ts) o h k a r zero t g =
          let e : u ≡ t = cc in
          subst (λ x. value scope m [] [] x ≡ 1) e a.0 ∙ sym (ap (λ b. if b then 1 else 0) (lt_true 0 (length (u ∷ ts)) (omega arith)))
      value_wanted w (u ∷ ts) o h k a r (suc i) t g =
          value_wanted w ts o h.1 k a.1 r i t g ∙ ap (λ b. if b then 1 else 0) (shift i (length ts))
        where
          shift : (i n : ℕ) → nat_lt i n ≡ nat_lt (suc i) (suc n)
          shift i n = go (nat_lt i n) refl
            where
              go : (b : Bool) → nat_lt i n ≡ b → b ≡ nat_lt (suc i) (suc n)
              go true e = sym (lt_true (suc i) (suc n) (let l = ltb-true i n e in omega arith))
              go false e = sym (lt_false (suc i) (suc n) (not_below i n e))
                where
                  not_below : (i n : ℕ) → nat_lt i n ≡ false → suc n ≤ suc i
                  not_below i n e = ⊎_elim (λ l. let k = lt_true i n l in absurd (both k e)) (λ l. omega arith) (split i n)
                    where
                      both : nat_lt i n ≡ true → nat_lt i n ≡ false → ⊥
                      both k e = cc

                      split : (a b : ℕ) → (a < b) ⊎ (b ≤ a)
                      split a zero = inr (omega arith)
                      split zero (suc b) = inl (omega arith)
                      split (suc a) (suc b) = ⊎_elim (λ e. inl (omega arith)) (λ e. inr (omega arith)) (split a b)

      pub to_passes : CandidateMeets p s vs → PassesAll cs vs
      to_passes w i k g =
          let l = get_within cs i k g in
          let n = checks.count in
          let e = length-map (p.assumed ++ conjectures p.conjecture) nf in
          let t = some_term (p.assumed ++ conjectures p.conjecture) i (omega arith) in
          worth_is i t.0 k t.1 g
          ∙ value_wanted w p.assumed p.conjecture typed.assumed typed.conjecture w.assumed w.conjecture i t.0 t.1
          ∙ sym (wanted_is i t.0 k t.1 g)

    -- the first list that passes is the first candidate that meets the problem
    module _ (ds : List (List Bool)) (domains : AreDomains s (model_symbols p) ds) where
      pub allowed_ready : (vs : List ℕ) → AreAllowed ds vs → AreReady cs vs
      allowed_ready vs a = checks_ready vs (to_candidate s (model_symbols p) ds vs domains a)

      pub is_first : (vs : List ℕ) → IsFirstPassing ds cs vs → IsFirstCandidate p s vs
      is_first vs h =
          let c = to_candidate s (model_symbols p) ds vs domains h.allowed in
          record {
            candidate = c;
            meets = to_meets vs c h.passes;
            first = λ ws k b w. h.first ws (to_allowed s (model_symbols p) ds ws domains k) (to_earlier ws vs b) (to_passes ws k w);
          }

      pub none_meets : ((ws : List ℕ) → AreAllowed ds ws → PassesAll cs ws → ⊥) → NoneMeets p s
      none_meets h ws k w = h ws (to_allowed s (model_symbols p) ds ws domains k) (to_passes ws k w)
