-- What the calls of the compiler owe, and what they give.
use Rattle.std.proofs.Common.{◌≡◌, ℕ, zero, suc, ◌+◌, ◌-◌, ◌^◌, ◌<◌, ◌≤◌, List, [], ◌∷◌, ◌++◌, length, take, drop, Some, None, true, slice_get, slice_index, refl, ap, ap₂, sym, subst, ◌∙◌, inl, inr, arith, nat_eq, if◌then◌else◌}
use Rattle.std.specs.List.{AllByRecursion as Every}
use Rattle.std.proofs.lemmas.List.{at_drop_all}
use Rattle.stt_core.specs.SimpleType.{SimpleType, base, arrow, formula, predicate, is_declared}
use Rattle.stt_core.specs.Lambda.{Constant, name, witness, falsity, negation, implication, all, equality, choice, description, Lambda, bound, constant, lam, app, lambdas, applied}
use Rattle.stt_core.specs.Typing.{Scope, type_of}
use Rattle.stt_core.specs.Canonical.{IsCanonical, IsNeutral}
use Rattle.stt_core.specs.Digits.{entry, table}
use Rattle.stt_core.specs.Occurrence.{Occurs}
use Rattle.stt_core.proofs.TypeLaws.{type_of-canonical, type_of-neutral, given}
use Rattle.stt_core.proofs.CanonicalTypes.{applied-more}
use Rattle.stt_core.proofs.ListLaws.{drop_got, take_got}
use Rattle.stt_core.proofs.SpineLaws.{IsAtom}
use Rattle.finite_models.specs.Sizes.{size_in, IsSmallType, NamesSmallTypes}
use Rattle.finite_models.specs.Symbols.{Symbol, declared_symbols, choosing_symbol, choosing_symbols, EachIsSmall}
use Rattle.finite_models.specs.Internal.Choosers.{IsNoPlace, IsFirstPlace}
use Rattle.finite_models.specs.Internal.Stands.{IsChooserBy, IsChooserSymbol, IsGround, IsCoveredBy, Chooses, CanCompile, CanCompileSpine, StandsForTerm, HasCompiled, IsLeafIn}
use Rattle.finite_models.specs.Internal.Worth.{worth, IsSafe, all_one}
use Rattle.finite_models.specs.declared.expr.Expr.{Expr}
use Rattle.finite_models.proofs.NeutralLaws.{NotLam, applied_not_lam, based_neutral, neutral_head, argument_at, one_type, named_head, named_argument, occurs_head, occurs_argument, no_argument, one_argument, imp_arguments, eq_arguments, all_arguments, over_body}
use Rattle.finite_models.proofs.StandsLaws.{stands_negation, stands_implication, stands_equation, stands_every, stands_function, stands_application, stands_falsity, stands_choice, stands_description}

-- a variable, a constant of the signature, a choice or a description
abbrev pub IsOther : Lambda → Type 0
IsOther (bound k) = Unit {0}
IsOther (constant (name k)) = Unit {0}
IsOther (constant (witness k)) = ⊥
IsOther (constant falsity) = ⊥
IsOther (constant negation) = ⊥
IsOther (constant implication) = ⊥
IsOther (constant (all a)) = ⊥
IsOther (constant (equality a)) = ⊥
IsOther (constant (choice a)) = Unit {0}
IsOther (constant (description a)) = Unit {0}
IsOther (lam a t) = ⊥
IsOther (app t u) = ⊥

-- SMALL TYPES

-- a formula is small
pub formula_small : (s : ℕ) → IsSmallType s formula
formula_small s = omega arith

every_get : (s : ℕ) (ctx : List SimpleType) (k : ℕ) (a : SimpleType) → Every (IsSmallType s) ctx → slice_get ctx k ≡ Some a → IsSmallType s a
every_get s [] k a h g = cc
every_get s (b ∷ ctx) zero a h g = let e : b ≡ a = cc in subst (IsSmallType s) e h.0
every_get s (b ∷ ctx) (suc k) a h g = every_get s ctx k a h.1 g

declared_small : (s k : ℕ) (types : List SimpleType) (ys : List Symbol) → EachIsSmall s (declared_symbols k types ++ ys) → (i : ℕ) (a : SimpleType) → slice_get types i ≡ Some a → IsSmallType s a
declared_small s k [] ys h i a g = cc
declared_small s k (b ∷ types) ys h zero a g = let e : b ≡ a = cc in subst (IsSmallType s) e h.0
declared_small s k (b ∷ types) ys h (suc i) a g = declared_small s (suc k) types ys h.1 i a g

behind_small : (s k : ℕ) (types : List SimpleType) (ys : List Symbol) → EachIsSmall s (declared_symbols k types ++ ys) → EachIsSmall s ys
behind_small s k [] ys h = h
behind_small s k (b ∷ types) ys h = behind_small s (suc k) types ys h.1

chooser_small : (s : ℕ) (c : Constant) (t : SimpleType) (ys : List Symbol) → EachIsSmall s ys → Every IsChooserSymbol ys → ((u : SimpleType) → IsChooserBy c u → u ≡ t) → IsCoveredBy ys c → IsSmallType s t
chooser_small s c t [] h k f o = absurd o
chooser_small s c t (y ∷ ys) h k f (inl e) = subst (IsSmallType s) (f y.type (subst (λ d. IsChooserBy d y.type) e k.0)) h.0
chooser_small s c t (y ∷ ys) h k f (inr o) = chooser_small s c t ys h.1 k.1 f o

pub no_place_for : (ys : List Symbol) (y : Symbol) → IsCoveredBy ys y.constant → IsNoPlace y ys → ⊥
no_place_for [] y o n = o
no_place_for (z ∷ zs) y (inl e) n = n 0 z refl (sym e)
no_place_for (z ∷ zs) y (inr o) n = no_place_for zs y o (λ j x g e. n (suc j) x g e)

module _ (scope : Scope) (s : ℕ) (ys : List Symbol) (ground : IsGround scope s ys) (ctx : List SimpleType) where
  -- LEAVES

  pub stands_chooser : (h : Lambda) (y : Symbol) (i : ℕ) (whole : Expr) → y ∷ [] ≡ choosing_symbols h → IsAtom h → IsFirstPlace y ys i → ((vs env : List ℕ) → worth whole vs env ≡ slice_index vs (length scope.names + i)) → ((vs env : List ℕ) → length scope.names + i < length vs → IsSafe whole vs env) → StandsForTerm scope s ys ctx h whole
  stands_chooser (bound k) y i whole e o f w safe = cc
  stands_chooser (constant (name k)) y i whole e o f w safe = cc
  stands_chooser (constant (witness k)) y i whole e o f w safe = cc
  stands_chooser (constant falsity) y i whole e o f w safe = cc
  stands_chooser (constant negation) y i whole e o f w safe = cc
  stands_chooser (constant implication) y i whole e o f w safe = cc
  stands_chooser (constant (all a)) y i whole e o f w safe = cc
  stands_chooser (constant (equality a)) y i whole e o f w safe = cc
  stands_chooser (constant (choice a)) y i whole e o f w safe =
      let q : y ≡ choosing_symbol (choice a) a = cc in
      stands_choice scope s ys ground ctx a y i whole (ap (λ x. x.constant) q) f w safe
  stands_chooser (constant (description a)) y i whole e o f w safe =
      let q : y ≡ choosing_symbol (description a) a = cc in
      stands_description scope s ys ground ctx a y i whole (ap (λ x. x.constant) q) f w safe
  stands_chooser (lam a t) y i whole e o f w safe = absurd o
  stands_chooser (app t u) y i whole e o f w safe = absurd o

  leaf_neutral : (h : Lambda) (a : SimpleType) → IsLeafIn scope ys h → type_of scope ctx h ≡ Some a → IsNeutral scope ctx a h
  leaf_neutral (bound k) a l t = t
  leaf_neutral (constant c) a l t = t
  leaf_neutral (lam b u) a l t = absurd l
  leaf_neutral (app u v) a l t = absurd l

  leaf_small : (h : Lambda) (a : SimpleType) → Every (IsSmallType s) ctx → IsLeafIn scope ys h → type_of scope ctx h ≡ Some a → IsSmallType s a
  leaf_small (bound k) a f l t = every_get s ctx k a f t
  leaf_small (constant (name k)) a f l t = declared_small s 0 scope.names ys ground.small k a t
  leaf_small (constant (witness k)) a f l t = absurd l
  leaf_small (constant falsity) a f l t = absurd l
  leaf_small (constant negation) a f l t = absurd l
  leaf_small (constant implication) a f l t = absurd l
  leaf_small (constant (all b)) a f l t = absurd l
  leaf_small (constant (equality b)) a f l t = absurd l
  leaf_small (constant (choice b)) a f l t =
      let g = given scope b (arrow (predicate b) b) a t in
      chooser_small s (choice b) a ys (behind_small s 0 scope.names ys ground.small) ground.choosers (λ u e. e ∙ g.is) l
  leaf_small (constant (description b)) a f l t =
      let g = given scope b (arrow (predicate b) b) a t in
      chooser_small s (description b) a ys (behind_small s 0 scope.names ys ground.small) ground.choosers (λ u e. e ∙ g.is) l
  leaf_small (lam b u) a f l t = absurd l
  leaf_small (app u v) a f l t = absurd l

  pub leaf_typed : (h : Lambda) (us : List Lambda) → CanCompileSpine scope s ys ctx (applied h us) → type_of scope ctx h ≡ None → ⊥
  leaf_typed h us p e =
      let r = neutral_head scope ctx p.type h us p.neutral in
      let t = type_of-neutral scope ctx r.0 h r.1 in
      cc

  pub starts : (h : Lambda) (us : List Lambda) (a : SimpleType) (e : Expr) → IsLeafIn scope ys h → CanCompileSpine scope s ys ctx (applied h us) → type_of scope ctx h ≡ Some a → StandsForTerm scope s ys ctx h e → HasCompiled scope s ys ctx a h us 0 e
  starts h us a e l p t st = record {
    within = omega arith;
    neutral = leaf_neutral h a l t;
    small = leaf_small h a p.ctx_small l t;
    stands = st;
  }

  -- ARGUMENTS

  argument_can : (a : SimpleType) (h : Lambda) (us : List Lambda) (i : ℕ) (u : Lambda) → CanCompileSpine scope s ys ctx (applied h us) → slice_get us i ≡ Some u → IsSmallType s a → IsCanonical scope ctx a u → CanCompile scope s ys ctx a u
  argument_can a h us i u p g small k = record {
    canonical = k;
    type_small = small;
    ctx_small = p.ctx_small;
    named = named_argument s h us p.named i u g;
    chooses = record {
      choices = λ b o. p.chooses.choices b (occurs_argument (choice b) h us i u g o);
      descriptions = λ b o. p.chooses.descriptions b (occurs_argument (description b) h us i u g o);
    };
  }

  pub argument_in : (a b : SimpleType) (h : Lambda) (us : List Lambda) (i : ℕ) (u : Lambda) (e : Expr) → CanCompileSpine scope s ys ctx (applied h us) → HasCompiled scope s ys ctx (arrow a b) h us i e → slice_get us i ≡ Some u → CanCompile scope s ys ctx a u
  argument_in a b h us i u e p c g =
      let r = argument_at scope ctx p.type h us p.neutral i u g in
      let same = one_type scope ctx (arrow r.argument r.result) (arrow a b) (applied h (take i us)) r.function_in c.neutral in
      let q : r.argument ≡ a = cc in
      argument_can a h us i u p g c.small.1.0 (subst (λ x. IsCanonical scope ctx x u) q r.argument_in)

  pub goes_on_from : (a b : SimpleType) (h : Lambda) (us : List Lambda) (i : ℕ) (u : Lambda) (e d whole : Expr) → CanCompileSpine scope s ys ctx (applied h us) → HasCompiled scope s ys ctx (arrow a b) h us i e → slice_get us i ≡ Some u → i < length us → StandsForTerm scope s ys ctx u d → ((vs env : List ℕ) → worth whole vs env ≡ entry (size_in s b) (worth e vs env) (worth d vs env)) → ((vs env : List ℕ) → IsSafe e vs env → IsSafe d vs env → IsSafe whole vs env) → HasCompiled scope s ys ctx b h us (i + 1) whole
  goes_on_from a b h us i u e d whole p c g l st w safe =
      let more : applied h (take (i + 1) us) ≡ app (applied h (take i us)) u = ap (applied h) (take_got us i u g) ∙ applied-more h (take i us) u in
      let can = argument_in a b h us i u e p c g in
      let function_type = type_of-neutral scope ctx (arrow a b) (applied h (take i us)) c.neutral in
      record {
        within = omega arith;
        neutral = subst (IsNeutral scope ctx b) (sym more) (a, c.neutral, can.canonical);
        small = c.small.1.1;
        stands = subst (λ t. StandsForTerm scope s ys ctx t whole) (sym more) (stands_application scope s ys ground ctx a b (applied h (take i us)) u e d whole function_type c.stands st w safe);
      }

  take_whole : (us : List Lambda) (i : ℕ) → i ≡ length us → take i us ≡ us
  take_whole us i e = ap (λ n. take n us) e ∙ go us
    where
      go : (us : List Lambda) → take (length us) us ≡ us
      go [] = refl
      go (u ∷ us) = ap (λ l. u ∷ l) (go us)

  pub done : (a : SimpleType) (h : Lambda) (us : List Lambda) (i : ℕ) (e : Expr) → HasCompiled scope s ys ctx a h us i e → i ≡ length us → StandsForTerm scope s ys ctx (applied h us) e
  done a h us i e c q = subst (λ vs. StandsForTerm scope s ys ctx (applied h vs) e) (take_whole us i q) c.stands

  pub not_base : (n : ℕ) (h : Lambda) (us : List Lambda) (i : ℕ) (u : Lambda) (e : Expr) → CanCompileSpine scope s ys ctx (applied h us) → HasCompiled scope s ys ctx (base n) h us i e → slice_get us i ≡ Some u → ⊥
  not_base n h us i u e p c g =
      let r = argument_at scope ctx p.type h us p.neutral i u g in
      let same = one_type scope ctx (arrow r.argument r.result) (base n) (applied h (take i us)) r.function_in c.neutral in
      cc

  some_argument : (us : List Lambda) (i : ℕ) → i < length us → (u : Lambda) × (slice_get us i ≡ Some u)
  some_argument [] i l = absurd (omega arith)
  some_argument (u ∷ us) zero l = (u, refl)
  some_argument (u ∷ us) (suc i) l = some_argument us i (omega arith)

  pub not_base_within : (n : ℕ) (h : Lambda) (us : List Lambda) (i : ℕ) (e : Expr) → CanCompileSpine scope s ys ctx (applied h us) → HasCompiled scope s ys ctx (base n) h us i e → (i ≡ length us → ⊥) → ⊥
  not_base_within n h us i e p c d =
      let w = c.within in
      let u = some_argument us i (below i (length us) w d) in
      not_base n h us i u.0 e p c u.1
    where
      below : (i n : ℕ) → i ≤ n → (i ≡ n → ⊥) → i < n
      below i n l d = omega arith

  -- THE CONSTANTS OF THE LOGIC

  pub falsity_stands : (us : List Lambda) (whole : Expr) → CanCompileSpine scope s ys ctx (applied (constant falsity) us) → ((vs env : List ℕ) → worth whole vs env ≡ 0) → ((vs env : List ℕ) → IsSafe whole vs env) → StandsForTerm scope s ys ctx (applied (constant falsity) us) whole
  falsity_stands us whole p w safe =
      let e = no_argument scope ctx p.type p.is_base us p.neutral in
      subst (λ vs. StandsForTerm scope s ys ctx (applied (constant falsity) vs) whole) (sym e) (stands_falsity scope s ys ground ctx whole w safe)

  first_of_two : (x y : Lambda) (us : List Lambda) → us ≡ x ∷ y ∷ [] → (slice_get us 0 ≡ Some x) × (slice_get us 1 ≡ Some y)
  first_of_two x y us e = (ap (λ l. slice_get l 0) e, ap (λ l. slice_get l 1) e)

  pub negation_can : (us : List Lambda) → CanCompileSpine scope s ys ctx (applied (constant negation) us) → (0 < length us) × ((u : Lambda) → slice_get us 0 ≡ Some u → CanCompile scope s ys ctx formula u)
  negation_can us p =
      let r = one_argument scope ctx p.type p.is_base us p.neutral in
      let l = ap length r.is in
      let g = ap (λ l. slice_get l 0) r.is in (
        omega arith,
        λ u k. let q : r.first ≡ u = cc in argument_can formula (constant negation) us 0 u p k (formula_small s) (subst (IsCanonical scope ctx formula) q r.first_in),
      )

  pub negation_stands : (us : List Lambda) (u : Lambda) (e whole : Expr) → CanCompileSpine scope s ys ctx (applied (constant negation) us) → slice_get us 0 ≡ Some u → StandsForTerm scope s ys ctx u e → ((vs env : List ℕ) → worth whole vs env ≡ 1 - worth e vs env) → ((vs env : List ℕ) → IsSafe e vs env → IsSafe whole vs env) → StandsForTerm scope s ys ctx (applied (constant negation) us) whole
  negation_stands us u e whole p k st w safe =
      let r = one_argument scope ctx p.type p.is_base us p.neutral in
      let g = ap (λ l. slice_get l 0) r.is in
      let q : r.first ≡ u = cc in
      let is : us ≡ u ∷ [] = r.is ∙ ap (λ x. x ∷ []) q in
      let t = type_of-canonical scope ctx formula u (subst (IsCanonical scope ctx formula) q r.first_in) in
      subst (λ vs. StandsForTerm scope s ys ctx (applied (constant negation) vs) whole) (sym is) (stands_negation scope s ys ground ctx u e whole t st w safe)

  pub implication_can : (us : List Lambda) → CanCompileSpine scope s ys ctx (applied (constant implication) us) → (1 < length us) × (((u : Lambda) → slice_get us 0 ≡ Some u → CanCompile scope s ys ctx formula u) × ((u : Lambda) → slice_get us 1 ≡ Some u → CanCompile scope s ys ctx formula u))
  implication_can us p =
      let r = imp_arguments scope ctx p.type p.is_base us p.neutral in
      let l = ap length r.is in
      let g = ap (λ l. slice_get l 0) r.is in
      let h = ap (λ l. slice_get l 1) r.is in (
        omega arith,
        (
          λ u k. let q : r.first ≡ u = cc in argument_can formula (constant implication) us 0 u p k (formula_small s) (subst (IsCanonical scope ctx formula) q r.first_in),
          λ u k. let q : r.second ≡ u = cc in argument_can formula (constant implication) us 1 u p k (formula_small s) (subst (IsCanonical scope ctx formula) q r.second_in),
        ),
      )

  pub implication_stands : (us : List Lambda) (u v : Lambda) (e d whole : Expr) → CanCompileSpine scope s ys ctx (applied (constant implication) us) → slice_get us 0 ≡ Some u → slice_get us 1 ≡ Some v → StandsForTerm scope s ys ctx u e → StandsForTerm scope s ys ctx v d → ((vs env : List ℕ) → worth whole vs env ≡ (if nat_eq (worth e vs env) 1 then worth d vs env else 1)) → ((vs env : List ℕ) → IsSafe e vs env → IsSafe d vs env → IsSafe whole vs env) → StandsForTerm scope s ys ctx (applied (constant implication) us) whole
  implication_stands us u v e d whole p k m st sd w safe =
      let r = imp_arguments scope ctx p.type p.is_base us p.neutral in
      let g = ap (λ l. slice_get l 0) r.is in
      let h = ap (λ l. slice_get l 1) r.is in
      let q : r.first ≡ u = cc in
      let o : r.second ≡ v = cc in
      let is : us ≡ u ∷ v ∷ [] = r.is ∙ ap₂ (λ x y. x ∷ y ∷ []) q o in
      let t = type_of-canonical scope ctx formula u (subst (IsCanonical scope ctx formula) q r.first_in) in
      let t' = type_of-canonical scope ctx formula v (subst (IsCanonical scope ctx formula) o r.second_in) in
      subst (λ vs. StandsForTerm scope s ys ctx (applied (constant implication) vs) whole) (sym is) (stands_implication scope s ys ground ctx u v e d whole t t' st sd w safe)

  pub equation_can : (a : SimpleType) (us : List Lambda) → CanCompileSpine scope s ys ctx (applied (constant (equality a)) us) → (1 < length us) × (((u : Lambda) → slice_get us 0 ≡ Some u → CanCompile scope s ys ctx a u) × ((u : Lambda) → slice_get us 1 ≡ Some u → CanCompile scope s ys ctx a u))
  equation_can a us p =
      let d = eq_arguments scope ctx p.type p.is_base a us p.neutral in
      let r = d.arguments in
      let l = ap length r.is in
      let g = ap (λ l. slice_get l 0) r.is in
      let h = ap (λ l. slice_get l 1) r.is in
      let small = named_head s (constant (equality a)) us p.named in (
        omega arith,
        (
          λ u k. let q : r.first ≡ u = cc in argument_can a (constant (equality a)) us 0 u p k small (subst (IsCanonical scope ctx a) q r.first_in),
          λ u k. let q : r.second ≡ u = cc in argument_can a (constant (equality a)) us 1 u p k small (subst (IsCanonical scope ctx a) q r.second_in),
        ),
      )

  pub equation_stands : (a : SimpleType) (us : List Lambda) (u v : Lambda) (e d whole : Expr) → CanCompileSpine scope s ys ctx (applied (constant (equality a)) us) → slice_get us 0 ≡ Some u → slice_get us 1 ≡ Some v → StandsForTerm scope s ys ctx u e → StandsForTerm scope s ys ctx v d → ((vs env : List ℕ) → worth whole vs env ≡ (if nat_eq (worth e vs env) (worth d vs env) then 1 else 0)) → ((vs env : List ℕ) → IsSafe e vs env → IsSafe d vs env → IsSafe whole vs env) → StandsForTerm scope s ys ctx (applied (constant (equality a)) us) whole
  equation_stands a us u v e d whole p k m st sd w safe =
      let dec = eq_arguments scope ctx p.type p.is_base a us p.neutral in
      let r = dec.arguments in
      let g = ap (λ l. slice_get l 0) r.is in
      let h = ap (λ l. slice_get l 1) r.is in
      let q : r.first ≡ u = cc in
      let o : r.second ≡ v = cc in
      let is : us ≡ u ∷ v ∷ [] = r.is ∙ ap₂ (λ x y. x ∷ y ∷ []) q o in
      let t = type_of-canonical scope ctx a u (subst (IsCanonical scope ctx a) q r.first_in) in
      let t' = type_of-canonical scope ctx a v (subst (IsCanonical scope ctx a) o r.second_in) in
      subst (λ vs. StandsForTerm scope s ys ctx (applied (constant (equality a)) vs) whole) (sym is) (stands_equation scope s ys ground ctx a u v e d whole dec.declared t t' st sd w safe)

  -- the predicate of a quantifier is a binder over its body
  pub record HasBody (a : SimpleType) (bs : List SimpleType) (inside : Lambda) : Type 0 where
    pub is : (bs ≡ a ∷ drop 1 bs) × (1 ≤ length bs)
    pub can : CanCompile scope s ys (a ∷ ctx) formula (lambdas (drop 1 bs) inside)

  lam_choices : (c : Constant) (a : SimpleType) (t u : Lambda) → u ≡ lam a t → Occurs c t → Occurs c u
  lam_choices c a t u e o = subst (Occurs c) (sym e) o

  pub all_can : (a : SimpleType) (us : List Lambda) → CanCompileSpine scope s ys ctx (applied (constant (all a)) us) → (0 < length us) × ((u : Lambda) → slice_get us 0 ≡ Some u → (bs : List SimpleType) (inside : Lambda) → NotLam inside → lambdas bs inside ≡ u → HasBody a bs inside)
  all_can a us p =
      let d = all_arguments scope ctx p.type p.is_base a us p.neutral in
      let r = d.argument in
      let l = ap length r.is in
      let g = ap (λ l. slice_get l 0) r.is in
      let small = named_head s (constant (all a)) us p.named in (
        omega arith,
        λ u k bs inside o e.
            let q : r.first ≡ u = cc in
            let can = subst (IsCanonical scope ctx (predicate a)) (q ∙ sym e) r.first_in in
            let b = over_body scope ctx a formula bs inside o can in
            let rest : b.rest ≡ drop 1 bs = sym (ap (drop 1) b.is) in
            let whole : u ≡ lam a (lambdas (drop 1 bs) inside) = sym e ∙ ap (λ x. lambdas x inside) b.is ∙ ap (λ x. lam a (lambdas x inside)) rest in
            let named = subst (NamesSmallTypes s) whole (named_argument s (constant (all a)) us p.named 0 u k) in
            let n = ap length b.is in
            record {
              is = (b.is ∙ ap (λ x. a ∷ x) rest, omega arith);
              can = record {
                canonical = subst (λ x. IsCanonical scope (a ∷ ctx) formula (lambdas x inside)) rest b.body_in;
                type_small = formula_small s;
                ctx_small = (small, p.ctx_small);
                named = named.1;
                chooses = record {
                  choices = λ c x. p.chooses.choices c (occurs_argument (choice c) (constant (all a)) us 0 u k (lam_choices (choice c) a (lambdas (drop 1 bs) inside) u whole x));
                  descriptions = λ c x. p.chooses.descriptions c (occurs_argument (description c) (constant (all a)) us 0 u k (lam_choices (description c) a (lambdas (drop 1 bs) inside) u whole x));
                };
              };
            },
      )

  pub all_small : (a : SimpleType) (us : List Lambda) → CanCompileSpine scope s ys ctx (applied (constant (all a)) us) → IsSmallType s a
  all_small a us p = named_head s (constant (all a)) us p.named

  pub all_stands : (a : SimpleType) (us : List Lambda) (u : Lambda) (bs : List SimpleType) (inside : Lambda) (e whole : Expr) → CanCompileSpine scope s ys ctx (applied (constant (all a)) us) → slice_get us 0 ≡ Some u → NotLam inside → lambdas bs inside ≡ u → StandsForTerm scope s ys (a ∷ ctx) (lambdas (drop 1 bs) inside) e → ((vs env : List ℕ) → worth whole vs env ≡ all_one (size_in s a) (λ x. worth e vs (x ∷ env))) → ((vs env : List ℕ) → ((x : ℕ) → x < size_in s a → IsSafe e vs (x ∷ env)) → IsSafe whole vs env) → StandsForTerm scope s ys ctx (applied (constant (all a)) us) whole
  all_stands a us u bs inside e whole p k o q st w safe =
      let d = all_arguments scope ctx p.type p.is_base a us p.neutral in
      let r = d.argument in
      let g = ap (λ l. slice_get l 0) r.is in
      let first : r.first ≡ u = cc in
      let has = (all_can a us p).1 u k bs inside o q in
      let body = lambdas (drop 1 bs) inside in
      let t = type_of-canonical scope (a ∷ ctx) formula body has.can.canonical in
      let is : us ≡ lam a body ∷ [] = r.is ∙ ap (λ x. x ∷ []) (first ∙ sym q ∙ ap (λ x. lambdas x inside) has.is.0) in
      subst (λ vs. StandsForTerm scope s ys ctx (applied (constant (all a)) vs) whole) (sym is) (stands_every scope s ys ground ctx a body e whole d.declared t st w safe)

  -- UNDER BINDERS

  drop_none : (bs : List SimpleType) (i : ℕ) → length bs ≤ i → drop i bs ≡ []
  drop_none bs i l = at_drop_all (λ x. x) bs i l

  pub spine_in : (a : SimpleType) (bs : List SimpleType) (i : ℕ) (inside : Lambda) → length bs ≤ i → NotLam inside → CanCompile scope s ys ctx a (lambdas (drop i bs) inside) → CanCompileSpine scope s ys ctx inside
  spine_in a bs i inside l o c =
      let e : lambdas (drop i bs) inside ≡ inside = ap (λ x. lambdas x inside) (drop_none bs i l) in
      let b = based_neutral scope ctx a inside o (subst (IsCanonical scope ctx a) e c.canonical) in
      record {
        type = a;
        is_base = b.0;
        neutral = b.1;
        ctx_small = c.ctx_small;
        named = subst (NamesSmallTypes s) e c.named;
        chooses = subst (Chooses ys) e c.chooses;
      }

  pub spine_whole : (bs : List SimpleType) (i : ℕ) (inside : Lambda) (e : Expr) → length bs ≤ i → StandsForTerm scope s ys ctx inside e → StandsForTerm scope s ys ctx (lambdas (drop i bs) inside) e
  spine_whole bs i inside e l st = subst (λ x. StandsForTerm scope s ys ctx (lambdas x inside) e) (sym (drop_none bs i l)) st

  -- the parts of a function under its binder
  pub record Under (a b c : SimpleType) (rest : Lambda) : Type 0 where
    pub same : a ≡ c
    pub declared : is_declared scope.bases c ≡ true
    pub small : IsSmallType s c
    pub few : size_in s b ^ size_in s c ≤ 2 ^ 20
    pub outcome_small : IsSmallType s b
    pub can : CanCompile scope s ys (c ∷ ctx) b rest

  pub under : (a b c : SimpleType) (bs : List SimpleType) (i : ℕ) (inside : Lambda) → slice_get bs i ≡ Some c → CanCompile scope s ys ctx (arrow a b) (lambdas (drop i bs) inside) → Under a b c (lambdas (drop (i + 1) bs) inside)
  under a b c bs i inside g k =
      let e : lambdas (drop i bs) inside ≡ lam c (lambdas (drop (i + 1) bs) inside) = ap (λ x. lambdas x inside) (drop_got bs i c g) in
      let can = subst (IsCanonical scope ctx (arrow a b)) e k.canonical in
      let named = subst (NamesSmallTypes s) e k.named in
      let chooses = subst (Chooses ys) e k.chooses in
      let same : a ≡ c = can.1.0 in
      let small = subst (λ x. (size_in s b ^ size_in s x ≤ 2 ^ 20) × (IsSmallType s x × IsSmallType s b)) same k.type_small in
      record {
        same = same;
        declared = can.0;
        small = small.1.0;
        few = small.0;
        outcome_small = small.1.1;
        can = record {
          canonical = can.1.1;
          type_small = small.1.1;
          ctx_small = (small.1.0, k.ctx_small);
          named = named.1;
          chooses = record { choices = λ x o. chooses.choices x o; descriptions = λ x o. chooses.descriptions x o };
        };
      }

  pub no_function : (n : ℕ) (c : SimpleType) (bs : List SimpleType) (i : ℕ) (inside : Lambda) → slice_get bs i ≡ Some c → CanCompile scope s ys ctx (base n) (lambdas (drop i bs) inside) → ⊥
  no_function n c bs i inside g k =
      (subst (IsCanonical scope ctx (base n)) (ap (λ x. lambdas x inside) (drop_got bs i c g)) k.canonical).1

  some_binder : (bs : List SimpleType) (i : ℕ) → i < length bs → (b : SimpleType) × (slice_get bs i ≡ Some b)
  some_binder [] i l = absurd (omega arith)
  some_binder (b ∷ bs) zero l = (b, refl)
  some_binder (b ∷ bs) (suc i) l = some_binder bs i (omega arith)

  pub no_function_within : (n : ℕ) (bs : List SimpleType) (i : ℕ) (inside : Lambda) → i < length bs → CanCompile scope s ys ctx (base n) (lambdas (drop i bs) inside) → ⊥
  no_function_within n bs i inside l k = let b = some_binder bs i l in no_function n b.0 bs i inside b.1 k

  pub function_stands : (a b c : SimpleType) (bs : List SimpleType) (i : ℕ) (inside : Lambda) (e whole : Expr) → slice_get bs i ≡ Some c → CanCompile scope s ys ctx (arrow a b) (lambdas (drop i bs) inside) → StandsForTerm scope s ys (c ∷ ctx) (lambdas (drop (i + 1) bs) inside) e → ((vs env : List ℕ) → worth whole vs env ≡ table (size_in s b) (size_in s c) (λ x. worth e vs (x ∷ env))) → ((vs env : List ℕ) → ((x : ℕ) → x < size_in s c → IsSafe e vs (x ∷ env) × (worth e vs (x ∷ env) < size_in s b)) → IsSafe whole vs env) → StandsForTerm scope s ys ctx (lambdas (drop i bs) inside) whole
  function_stands a b c bs i inside e whole g k st w safe =
      let u = under a b c bs i inside g k in
      let rest = lambdas (drop (i + 1) bs) inside in
      let is : lambdas (drop i bs) inside ≡ lam c rest = ap (λ x. lambdas x inside) (drop_got bs i c g) in
      let t = type_of-canonical scope (c ∷ ctx) b rest u.can.canonical in
      subst (λ x. StandsForTerm scope s ys ctx x whole) (sym is) (stands_function scope s ys ground ctx c b rest e whole u.few t st w safe)

  -- A FORMULA

  no_binder : (bs : List SimpleType) (inside : Lambda) (n : ℕ) → IsCanonical scope ctx (base n) (lambdas bs inside) → bs ≡ []
  no_binder [] inside n h = refl
  no_binder (b ∷ bs) inside n h = absurd h.1

  pub truth_spine : (bs : List SimpleType) (inside whole : Lambda) → NotLam inside → lambdas bs inside ≡ whole → CanCompile scope s ys ctx formula whole → CanCompileSpine scope s ys ctx inside
  truth_spine bs inside whole o e c =
      let none = no_binder bs inside 0 (subst (IsCanonical scope ctx formula) (sym e) c.canonical) in
      let is : whole ≡ inside = sym e ∙ ap (λ x. lambdas x inside) none in
      let b = based_neutral scope ctx formula inside o (subst (IsCanonical scope ctx formula) is c.canonical) in
      record {
        type = formula;
        is_base = b.0;
        neutral = b.1;
        ctx_small = c.ctx_small;
        named = subst (NamesSmallTypes s) is c.named;
        chooses = subst (Chooses ys) is c.chooses;
      }

  pub truth_whole : (bs : List SimpleType) (inside whole : Lambda) (e : Expr) → lambdas bs inside ≡ whole → CanCompile scope s ys ctx formula whole → StandsForTerm scope s ys ctx inside e → StandsForTerm scope s ys ctx whole e
  truth_whole bs inside whole d e c st =
      let none = no_binder bs inside 0 (subst (IsCanonical scope ctx formula) (sym e) c.canonical) in
      let is : inside ≡ whole = sym (ap (λ x. lambdas x inside) none) ∙ e in
      subst (λ x. StandsForTerm scope s ys ctx x d) is st

  -- the body of a quantifier's predicate
  pub every_spine : (a : SimpleType) (us : List Lambda) (u : Lambda) (bs : List SimpleType) (inside : Lambda) → CanCompileSpine scope s ys ctx (applied (constant (all a)) us) → slice_get us 0 ≡ Some u → NotLam inside → lambdas bs inside ≡ u → CanCompileSpine scope s ys (a ∷ ctx) inside
  every_spine a us u bs inside p k o e =
      let has = (all_can a us p).1 u k bs inside o e in
      under_spine (a ∷ ctx) (drop 1 bs) inside o has.can
    where
      under_spine : (ctx : List SimpleType) (bs : List SimpleType) (inside : Lambda) → NotLam inside → CanCompile scope s ys ctx formula (lambdas bs inside) → CanCompileSpine scope s ys ctx inside
      under_spine ctx [] inside o c =
          let b = based_neutral scope ctx formula inside o c.canonical in
          record { type = formula; is_base = b.0; neutral = b.1; ctx_small = c.ctx_small; named = c.named; chooses = c.chooses }
      under_spine ctx (b ∷ bs) inside o c = absurd c.canonical.1

  pub every_stands : (a : SimpleType) (us : List Lambda) (u : Lambda) (bs : List SimpleType) (inside : Lambda) (e whole : Expr) → CanCompileSpine scope s ys ctx (applied (constant (all a)) us) → slice_get us 0 ≡ Some u → NotLam inside → lambdas bs inside ≡ u → StandsForTerm scope s ys (a ∷ ctx) inside e → ((vs env : List ℕ) → worth whole vs env ≡ all_one (size_in s a) (λ x. worth e vs (x ∷ env))) → ((vs env : List ℕ) → ((x : ℕ) → x < size_in s a → IsSafe e vs (x ∷ env)) → IsSafe whole vs env) → StandsForTerm scope s ys ctx (applied (constant (all a)) us) whole
  every_stands a us u bs inside e whole p k o q st w safe =
      let has = (all_can a us p).1 u k bs inside o q in
      let none : drop 1 bs ≡ [] = empty (a ∷ ctx) (drop 1 bs) has.can.canonical in
      all_stands a us u bs inside e whole p k o q (subst (λ x. StandsForTerm scope s ys (a ∷ ctx) (lambdas x inside) e) (sym none) st) w safe
    where
      empty : (ctx : List SimpleType) (bs : List SimpleType) → IsCanonical scope ctx formula (lambdas bs inside) → bs ≡ []
      empty ctx [] h = refl
      empty ctx (b ∷ bs) h = absurd h.1

  -- a head that has a type and is none of the logic's own constants is a leaf
  pub leaf_in : (h : Lambda) (us : List Lambda) → CanCompileSpine scope s ys ctx (applied h us) → IsOther h → IsLeafIn scope ys h
  leaf_in (bound k) us p o = tt
  leaf_in (constant (name k)) us p o = neutral_head scope ctx p.type (constant (name k)) us p.neutral
  leaf_in (constant (witness k)) us p o = absurd o
  leaf_in (constant falsity) us p o = absurd o
  leaf_in (constant negation) us p o = absurd o
  leaf_in (constant implication) us p o = absurd o
  leaf_in (constant (all a)) us p o = absurd o
  leaf_in (constant (equality a)) us p o = absurd o
  leaf_in (constant (choice a)) us p o = p.chooses.choices a (occurs_head (choice a) (constant (choice a)) us refl)
  leaf_in (constant (description a)) us p o = p.chooses.descriptions a (occurs_head (description a) (constant (description a)) us refl)
  leaf_in (lam b u) us p o = absurd o
  leaf_in (app u v) us p o = absurd o

  pub no_witness_head : (k : ℕ) (us : List Lambda) → CanCompileSpine scope s ys ctx (applied (constant (witness k)) us) → ⊥
  no_witness_head k us p =
      let r = neutral_head scope ctx p.type (constant (witness k)) us p.neutral in
      let w : slice_get [] k ≡ Some r.0 = subst (λ ws. slice_get ws k ≡ Some r.0) ground.no_witness r.1 in
      cc

pub atom_not_lam : (h : Lambda) → IsAtom h → NotLam h
atom_not_lam (bound k) o = tt
atom_not_lam (constant c) o = tt
atom_not_lam (lam a t) o = absurd o
atom_not_lam (app t u) o = absurd o

-- a head with its arguments has no binder in front
pub spine_not_lam : (h : Lambda) (us : List Lambda) → IsAtom h → NotLam (applied h us)
spine_not_lam h us o = applied_not_lam h us (atom_not_lam h o)
