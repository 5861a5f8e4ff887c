-- Which expressions stand for terms: case by case.
use Rattle.std.proofs.Common.{◌≡◌, ℕ, zero, suc, ◌+◌, ◌*◌, ◌-◌, ◌^◌, ◌<◌, ◌≤◌, List, [], ◌∷◌, ◌++◌, length, Some, Bool, true, false, nat_eq, slice_get, slice_index, unwrap_or, refl, ap, ap₂, sym, subst, ◌∙◌, ◌⊎◌, inl, inr, arith, if◌then◌else◌}
use Rattle.std.specs.List.{AllByRecursion as Every}
use Rattle.stt_core.specs.SimpleType.{SimpleType, arrow, formula, is_declared, same_type}
use Rattle.stt_core.specs.Lambda.{Constant, name, witness, falsity, negation, implication, all, equality, choice, description, Lambda, bound, constant, lam, app, neg, imp, eq, every}
use Rattle.stt_core.specs.Typing.{Scope, type_of}
use Rattle.stt_core.specs.Digits.{entry, table}
use Rattle.stt_core.specs.Meaning.{Model, IsModel, Fits, size, value, listed, least_table, all_ones}
use Rattle.stt_core.proofs.DigitLaws.{entry-table, table_same}
use Rattle.stt_core.proofs.TypeLaws.{same_type_refl, same_type-true, lambda_type}
use Rattle.stt_core.proofs.ValueLaws.{value-lt, value-lam, value-app}
use Rattle.stt_core.proofs.ConstantValues.{value-neg, value-imp, value-eq, value-every, bit}
use Rattle.finite_models.specs.Sizes.{size_in}
use Rattle.finite_models.specs.Symbols.{Symbol, declared_symbols, symbols_with}
use Rattle.finite_models.specs.Candidates.{IsCandidate, as_choice, as_description, values_listed, model_of}
use Rattle.finite_models.specs.Internal.Choosers.{IsFirstPlace}
use Rattle.finite_models.specs.Internal.Stands.{IsChooserBy, IsChooserSymbol, IsGround, StandsForTerm}
use Rattle.finite_models.specs.Internal.Worth.{worth, IsSafe, all_one}
use Rattle.finite_models.specs.declared.expr.Expr.{Expr}
use Rattle.finite_models.proofs.CandidateLaws.{IsFormedBy, IsFormed, declared_formed, candidate_model_of, size_here}
use Rattle.finite_models.proofs.SymbolLaws.{every_both}

chooser_formed : (c : Constant) (t : SimpleType) → IsChooserBy c t → IsFormedBy c t
chooser_formed (name k) t h = tt
chooser_formed (witness k) t h = tt
chooser_formed falsity t h = tt
chooser_formed negation t h = tt
chooser_formed implication t h = tt
chooser_formed (all a) t h = tt
chooser_formed (equality a) t h = tt
chooser_formed (choice a) t h = h
chooser_formed (description a) t h = h

choosers_formed : (ys : List Symbol) → Every IsChooserSymbol ys → Every IsFormed ys
choosers_formed [] h = tt
choosers_formed (y ∷ ys) h = (chooser_formed y.constant y.type h.0, choosers_formed ys h.1)

-- how the quantifier reads a table
ones_table : (n k : ℕ) (g : ℕ → ℕ) → ((x : ℕ) → x < n → g x < 2) → k ≤ n → all_ones (table 2 n g) k ≡ all_one k g
ones_table n zero g h l = refl
ones_table n (suc k) g h l =
    ap₂ (λ x y. x * y) (ones_table n k g h (omega arith)) (entry-table 2 n g (omega arith) h k (omega arith)) ∙ go (g k) (bit (g k) (h k (omega arith)))
  where
    go : (v : ℕ) → (v ≡ 0) ⊎ (v ≡ 1) → all_one k g * v ≡ (if nat_eq v 1 then all_one k g else 0)
    go v (inl e) = subst (λ w. all_one k g * w ≡ (if nat_eq w 1 then all_one k g else 0)) (sym e) (omega arith)
    go v (inr e) = subst (λ w. all_one k g * w ≡ (if nat_eq w 1 then all_one k g else 0)) (sym e) (omega arith)

module _ (scope : Scope) (s : ℕ) (ys : List Symbol) (ground : IsGround scope s ys) where
  abbrev xs : List Symbol
  xs = symbols_with scope ys

  abbrev the_model : List ℕ → Model
  the_model vs = model_of s xs vs

  pub is_model : (vs : List ℕ) → IsCandidate s xs vs → IsModel scope (the_model vs)
  is_model vs h =
      candidate_model_of scope s ys vs ground.no_witness (every_both IsFormed (declared_symbols 0 scope.names) ys (declared_formed 0 scope.names) (choosers_formed ys ground.choosers)) ground.pos h

  -- the worth of an expression is a value of the term's type
  pub stands-lt : (ctx : List SimpleType) (a : SimpleType) (t : Lambda) (e : Expr) → type_of scope ctx t ≡ Some a → StandsForTerm scope s ys ctx t e → (vs env : List ℕ) → IsCandidate s xs vs → Fits (the_model vs) ctx env → worth e vs env < size_in s a
  stands-lt ctx a t e h st vs env c f =
      subst (λ v. v < size_in s a) (sym (st.is vs env c f)) (subst (λ n. value scope (the_model vs) ctx env t < n) (size_here s xs vs a) (value-lt scope (the_model vs) (is_model vs c) ctx env a t h f))

  pub stands_negation : (ctx : List SimpleType) (t : Lambda) (e whole : Expr) → type_of scope ctx t ≡ Some formula → StandsForTerm scope s ys ctx t e → ((vs env : List ℕ) → worth whole vs env ≡ 1 - worth e vs env) → ((vs env : List ℕ) → IsSafe e vs env → IsSafe whole vs env) → StandsForTerm scope s ys ctx (neg t) whole
  stands_negation ctx t e whole h st w k = record {
    safe = λ vs env c f. k vs env (st.safe vs env c f);
    is = λ vs env c f. w vs env ∙ ap (λ v. 1 - v) (st.is vs env c f) ∙ sym (value-neg scope (the_model vs) (is_model vs c) ctx env f t h);
  }

  pub stands_implication : (ctx : List SimpleType) (t u : Lambda) (e d whole : Expr) → type_of scope ctx t ≡ Some formula → type_of scope ctx u ≡ Some formula → StandsForTerm scope s ys ctx t e → StandsForTerm scope s ys ctx u d → ((vs env : List ℕ) → worth whole vs env ≡ (if nat_eq (worth e vs env) 1 then worth d vs env else 1)) → ((vs env : List ℕ) → IsSafe e vs env → IsSafe d vs env → IsSafe whole vs env) → StandsForTerm scope s ys ctx (imp t u) whole
  stands_implication ctx t u e d whole h k st sd w safe = record {
    safe = λ vs env c f. safe vs env (st.safe vs env c f) (sd.safe vs env c f);
    is = λ vs env c f. w vs env ∙ ap₂ (λ x y. if nat_eq x 1 then y else 1) (st.is vs env c f) (sd.is vs env c f) ∙ sym (value-imp scope (the_model vs) (is_model vs c) ctx env f t u h k);
  }

  pub stands_equation : (ctx : List SimpleType) (a : SimpleType) (t u : Lambda) (e d whole : Expr) → is_declared scope.bases a ≡ true → type_of scope ctx t ≡ Some a → type_of scope ctx u ≡ Some a → StandsForTerm scope s ys ctx t e → StandsForTerm scope s ys ctx u d → ((vs env : List ℕ) → worth whole vs env ≡ (if nat_eq (worth e vs env) (worth d vs env) then 1 else 0)) → ((vs env : List ℕ) → IsSafe e vs env → IsSafe d vs env → IsSafe whole vs env) → StandsForTerm scope s ys ctx (eq a t u) whole
  stands_equation ctx a t u e d whole declared h k st sd w safe = record {
    safe = λ vs env c f. safe vs env (st.safe vs env c f) (sd.safe vs env c f);
    is = λ vs env c f. w vs env ∙ ap₂ (λ x y. if nat_eq x y then 1 else 0) (st.is vs env c f) (sd.is vs env c f) ∙ sym (value-eq scope (the_model vs) (is_model vs c) ctx env f a t u (record { declared = declared; left = h; right = k }));
  }

  -- a value of a type as the definition counts it
  below_here : (vs : List ℕ) (a : SimpleType) (x : ℕ) → x < size_in s a → x < size (the_model vs) a
  below_here vs a x l = subst (λ n. x < n) (sym (size_here s xs vs a)) l

  pub stands_every : (ctx : List SimpleType) (a : SimpleType) (t : Lambda) (e whole : Expr) → is_declared scope.bases a ≡ true → type_of scope (a ∷ ctx) t ≡ Some formula → StandsForTerm scope s ys (a ∷ ctx) t e → ((vs env : List ℕ) → worth whole vs env ≡ all_one (size_in s a) (λ x. worth e vs (x ∷ env))) → ((vs env : List ℕ) → ((x : ℕ) → x < size_in s a → IsSafe e vs (x ∷ env)) → IsSafe whole vs env) → StandsForTerm scope s ys ctx (every a (lam a t)) whole
  stands_every ctx a t e whole declared h st w safe = record {
    safe = λ vs env c f. safe vs env (λ x l. st.safe vs (x ∷ env) c (below_here vs a x l, f));
    is = λ vs env c f.
        let m = the_model vs in
        let g : ℕ → ℕ = λ x. worth e vs (x ∷ env) in
        let k : ℕ → ℕ = λ x. value scope m (a ∷ ctx) (x ∷ env) t in
        let n : ℕ = size_in s a in
        w vs env
        ∙ sym (ones_table n n g (λ x l. stands-lt (a ∷ ctx) formula t e h st vs (x ∷ env) c (below_here vs a x l, f)) (omega arith))
        ∙ ap (λ p. all_ones p n) (table_same 2 n g k (λ x l. st.is vs (x ∷ env) c (below_here vs a x l, f)))
        ∙ ap (λ z. all_ones (table 2 z k) z) (sym (size_here s xs vs a))
        ∙ ap (λ p. all_ones p (size m a)) (sym (value-lam scope m ctx env a formula t h))
        ∙ sym (value-every scope m (is_model vs c) ctx env f a (lam a t) declared (lambda_type scope ctx (arrow a formula) a t declared (refl, h)));
  }

  pub stands_function : (ctx : List SimpleType) (a b : SimpleType) (t : Lambda) (e whole : Expr) → size_in s b ^ size_in s a ≤ 2 ^ 20 → type_of scope (a ∷ ctx) t ≡ Some b → StandsForTerm scope s ys (a ∷ ctx) t e → ((vs env : List ℕ) → worth whole vs env ≡ table (size_in s b) (size_in s a) (λ x. worth e vs (x ∷ env))) → ((vs env : List ℕ) → ((x : ℕ) → x < size_in s a → IsSafe e vs (x ∷ env) × (worth e vs (x ∷ env) < size_in s b)) → IsSafe whole vs env) → StandsForTerm scope s ys ctx (lam a t) whole
  stands_function ctx a b t e whole small h st w safe = record {
    safe = λ vs env c f. safe vs env (λ x l. (st.safe vs (x ∷ env) c (below_here vs a x l, f), stands-lt (a ∷ ctx) b t e h st vs (x ∷ env) c (below_here vs a x l, f)));
    is = λ vs env c f.
        let m = the_model vs in
        let k : ℕ → ℕ = λ x. value scope m (a ∷ ctx) (x ∷ env) t in
        w vs env
        ∙ table_same (size_in s b) (size_in s a) (λ x. worth e vs (x ∷ env)) k (λ x l. st.is vs (x ∷ env) c (below_here vs a x l, f))
        ∙ ap₂ (λ y z. table y z k) (sym (size_here s xs vs b)) (sym (size_here s xs vs a))
        ∙ sym (value-lam scope m ctx env a b t h);
  }

  pub stands_application : (ctx : List SimpleType) (a b : SimpleType) (t u : Lambda) (e d whole : Expr) → type_of scope ctx t ≡ Some (arrow a b) → StandsForTerm scope s ys ctx t e → StandsForTerm scope s ys ctx u d → ((vs env : List ℕ) → worth whole vs env ≡ entry (size_in s b) (worth e vs env) (worth d vs env)) → ((vs env : List ℕ) → IsSafe e vs env → IsSafe d vs env → IsSafe whole vs env) → StandsForTerm scope s ys ctx (app t u) whole
  stands_application ctx a b t u e d whole h st sd w safe = record {
    safe = λ vs env c f. safe vs env (st.safe vs env c f) (sd.safe vs env c f);
    is = λ vs env c f.
        w vs env
        ∙ ap₂ (entry (size_in s b)) (st.is vs env c f) (sd.is vs env c f)
        ∙ ap (λ n. entry n (value scope (the_model vs) ctx env t) (value scope (the_model vs) ctx env u)) (sym (size_here s xs vs b))
        ∙ sym (value-app scope (the_model vs) ctx env a b t u h);
  }

  -- LEAVES

  pub stands_falsity : (ctx : List SimpleType) (whole : Expr) → ((vs env : List ℕ) → worth whole vs env ≡ 0) → ((vs env : List ℕ) → IsSafe whole vs env) → StandsForTerm scope s ys ctx (constant falsity) whole
  stands_falsity ctx whole w safe = record { safe = λ vs env c f. safe vs env; is = λ vs env c f. w vs env }

  pub stands_variable : (ctx : List SimpleType) (k : ℕ) (whole : Expr) → ((vs env : List ℕ) → worth whole vs env ≡ slice_index env k) → ((vs env : List ℕ) → IsSafe whole vs env) → StandsForTerm scope s ys ctx (bound k) whole
  stands_variable ctx k whole w safe = record { safe = λ vs env c f. safe vs env; is = λ vs env c f. w vs env }

  declared_within : (k : ℕ) (types : List SimpleType) (zs : List Symbol) (vs : List ℕ) → IsCandidate s (declared_symbols k types ++ zs) vs → (i : ℕ) (a : SimpleType) → slice_get types i ≡ Some a → i < length vs
  declared_within k [] zs vs h i a g = cc
  declared_within k (b ∷ types) zs [] h i a g = absurd h
  declared_within k (b ∷ types) zs (v ∷ vs) h zero a g = omega arith
  declared_within k (b ∷ types) zs (v ∷ vs) h (suc i) a g = omega (arith, declared_within (suc k) types zs vs h.2 i a g)

  pub stands_name : (ctx : List SimpleType) (k : ℕ) (a : SimpleType) (whole : Expr) → slice_get scope.names k ≡ Some a → ((vs env : List ℕ) → worth whole vs env ≡ slice_index vs k) → ((vs env : List ℕ) → k < length vs → IsSafe whole vs env) → StandsForTerm scope s ys ctx (constant (name k)) whole
  stands_name ctx k a whole g w safe = record { safe = λ vs env c f. safe vs env (declared_within 0 scope.names ys vs c k a g); is = λ vs env c f. w vs env }

  -- the value that is listed for a chooser's type stands at its place
  listed_here : (a : SimpleType) (v : ℕ) (rest : List (SimpleType × ℕ)) → listed ((a, v) ∷ rest) a ≡ Some v
  listed_here a v rest = ap (λ b. if b then Some v else listed rest a) (same_type_refl a)

  listed_later : (b a : SimpleType) (v : ℕ) (rest : List (SimpleType × ℕ)) → (b ≡ a → ⊥) → listed ((b, v) ∷ rest) a ≡ listed rest a
  listed_later b a v rest n = go (same_type b a) refl
    where
      go : (t : Bool) → same_type b a ≡ t → (if t then Some v else listed rest a) ≡ listed rest a
      go true q = absurd (n (same_type-true b a q))
      go false q = refl

  choice_later : (c : Constant) (a : SimpleType) (v : ℕ) (rest : List (SimpleType × ℕ)) → (choice a ≡ c → ⊥) → listed (as_choice c v ++ rest) a ≡ listed rest a
  choice_later (name k) a v rest n = refl
  choice_later (witness k) a v rest n = refl
  choice_later falsity a v rest n = refl
  choice_later negation a v rest n = refl
  choice_later implication a v rest n = refl
  choice_later (all b) a v rest n = refl
  choice_later (equality b) a v rest n = refl
  choice_later (description b) a v rest n = refl
  choice_later (choice b) a v rest n = listed_later b a v rest (λ e. n (ap choice (sym e)))

  description_later : (c : Constant) (a : SimpleType) (v : ℕ) (rest : List (SimpleType × ℕ)) → (description a ≡ c → ⊥) → listed (as_description c v ++ rest) a ≡ listed rest a
  description_later (name k) a v rest n = refl
  description_later (witness k) a v rest n = refl
  description_later falsity a v rest n = refl
  description_later negation a v rest n = refl
  description_later implication a v rest n = refl
  description_later (all b) a v rest n = refl
  description_later (equality b) a v rest n = refl
  description_later (choice b) a v rest n = refl
  description_later (description b) a v rest n = listed_later b a v rest (λ e. n (ap description (sym e)))

  abbrev FirstAt : Constant → List Symbol → ℕ → Type 0
  FirstAt c zs i = ((z : Symbol) → slice_get zs i ≡ Some z → c ≡ z.constant) × ((j : ℕ) (z : Symbol) → j < i → slice_get zs j ≡ Some z → c ≡ z.constant → ⊥)

  chosen_at : (a : SimpleType) (zs : List Symbol) (vs : List ℕ) → IsCandidate s zs vs → (i : ℕ) → i < length zs → FirstAt (choice a) zs i → (listed (values_listed as_choice zs vs) a ≡ Some (slice_index vs i)) × (i < length vs)
  chosen_at a [] vs h i l f = absurd (omega arith)
  chosen_at a (z ∷ zs) [] h i l f = absurd h
  chosen_at a (z ∷ zs) (v ∷ vs) h zero l f =
      let e : choice a ≡ z.constant = f.0 z refl in
      (subst (λ c. listed (as_choice c v ++ values_listed as_choice zs vs) a ≡ Some v) e (listed_here a v (values_listed as_choice zs vs)), omega arith)
  chosen_at a (z ∷ zs) (v ∷ vs) h (suc i) l f =
      let r = chosen_at a zs vs h.2 i (omega arith) (f.0, λ j y k g e. f.1 (suc j) y (omega arith) g e) in
      (choice_later z.constant a v (values_listed as_choice zs vs) (f.1 0 z (omega arith) refl) ∙ r.0, omega (arith, r.1))

  described_at : (a : SimpleType) (zs : List Symbol) (vs : List ℕ) → IsCandidate s zs vs → (i : ℕ) → i < length zs → FirstAt (description a) zs i → (listed (values_listed as_description zs vs) a ≡ Some (slice_index vs i)) × (i < length vs)
  described_at a [] vs h i l f = absurd (omega arith)
  described_at a (z ∷ zs) [] h i l f = absurd h
  described_at a (z ∷ zs) (v ∷ vs) h zero l f =
      let e : description a ≡ z.constant = f.0 z refl in
      (subst (λ c. listed (as_description c v ++ values_listed as_description zs vs) a ≡ Some v) e (listed_here a v (values_listed as_description zs vs)), omega arith)
  described_at a (z ∷ zs) (v ∷ vs) h (suc i) l f =
      let r = described_at a zs vs h.2 i (omega arith) (f.0, λ j y k g e. f.1 (suc j) y (omega arith) g e) in
      (description_later z.constant a v (values_listed as_description zs vs) (f.1 0 z (omega arith) refl) ∙ r.0, omega (arith, r.1))

  -- behind the constants of the signature
  first_behind : (c : Constant) (k : ℕ) (types : List SimpleType) (zs : List Symbol) (i : ℕ) → ((j : ℕ) → c ≡ name j → ⊥) → FirstAt c zs i → FirstAt c (declared_symbols k types ++ zs) (length types + i)
  first_behind c k [] zs i n f = let e : 0 + i ≡ i = omega arith in subst (FirstAt c zs) (sym e) f
  first_behind c k (a ∷ types) zs i n f =
      let r = first_behind c (suc k) types zs i n f in
      let e : suc (length types) + i ≡ suc (length types + i) = omega arith in
      subst (FirstAt c (declared_symbols k (a ∷ types) ++ zs)) (sym e) (r.0, earlier r)
    where
      earlier : FirstAt c (declared_symbols (suc k) types ++ zs) (length types + i) → (j : ℕ) (z : Symbol) → j < suc (length types + i) → slice_get (declared_symbols k (a ∷ types) ++ zs) j ≡ Some z → c ≡ z.constant → ⊥
      earlier r zero z l g e = let q : z.constant ≡ name k = ap (λ y. y.constant) (same g) in n k (e ∙ q)
        where
          same : Some (record { constant = name k; type = a }) ≡ Some z → z ≡ record { constant = name k; type = a }
          same g = cc
      earlier r (suc j) z l g e = r.1 j z (omega arith) g e

  length_behind : (k : ℕ) (types : List SimpleType) (zs : List Symbol) (i : ℕ) → i < length zs → length types + i < length (declared_symbols k types ++ zs)
  length_behind k [] zs i l = omega arith
  length_behind k (a ∷ types) zs i l = omega (arith, length_behind (suc k) types zs i l)

  first_of : (y : Symbol) (zs : List Symbol) (i : ℕ) → IsFirstPlace y zs i → FirstAt y.constant zs i × (i < length zs)
  first_of y zs i p = ((λ z g. let q = p.there in let e : p.symbol ≡ z = one q g in p.same ∙ ap (λ x. x.constant) e, p.first), within zs i p.symbol p.there)
    where
      one : slice_get zs i ≡ Some p.symbol → {z : Symbol} → slice_get zs i ≡ Some z → p.symbol ≡ z
      one q g = cc

      within : (zs : List Symbol) (i : ℕ) (z : Symbol) → slice_get zs i ≡ Some z → i < length zs
      within [] i z g = cc
      within (x ∷ zs) zero z g = omega arith
      within (x ∷ zs) (suc i) z g = omega (arith, within zs i z g)

  pub stands_choice : (ctx : List SimpleType) (a : SimpleType) (y : Symbol) (i : ℕ) (whole : Expr) → y.constant ≡ choice a → IsFirstPlace y ys i → ((vs env : List ℕ) → worth whole vs env ≡ slice_index vs (length scope.names + i)) → ((vs env : List ℕ) → length scope.names + i < length vs → IsSafe whole vs env) → StandsForTerm scope s ys ctx (constant (choice a)) whole
  stands_choice ctx a y i whole e p w safe =
      let q = first_of y ys i p in
      let f = first_behind (choice a) 0 scope.names ys i (λ j r. not_name j r) (subst (λ c. FirstAt c ys i) e q.0) in
      let l = length_behind 0 scope.names ys i q.1 in
      record {
        safe = λ vs env c fits. safe vs env (chosen_at a xs vs c (length scope.names + i) l f).1;
        is = λ vs env c fits. w vs env ∙ sym (ap (λ o. unwrap_or o (least_table (size (the_model vs) a))) (chosen_at a xs vs c (length scope.names + i) l f).0);
      }
    where
      not_name : (j : ℕ) → choice a ≡ name j → ⊥
      not_name j r = cc

  pub stands_description : (ctx : List SimpleType) (a : SimpleType) (y : Symbol) (i : ℕ) (whole : Expr) → y.constant ≡ description a → IsFirstPlace y ys i → ((vs env : List ℕ) → worth whole vs env ≡ slice_index vs (length scope.names + i)) → ((vs env : List ℕ) → length scope.names + i < length vs → IsSafe whole vs env) → StandsForTerm scope s ys ctx (constant (description a)) whole
  stands_description ctx a y i whole e p w safe =
      let q = first_of y ys i p in
      let f = first_behind (description a) 0 scope.names ys i (λ j r. not_name j r) (subst (λ c. FirstAt c ys i) e q.0) in
      let l = length_behind 0 scope.names ys i q.1 in
      record {
        safe = λ vs env c fits. safe vs env (described_at a xs vs c (length scope.names + i) l f).1;
        is = λ vs env c fits. w vs env ∙ sym (ap (λ o. unwrap_or o (least_table (size (the_model vs) a))) (described_at a xs vs c (length scope.names + i) l f).0);
      }
    where
      not_name : (j : ℕ) → description a ≡ name j → ⊥
      not_name j r = cc
