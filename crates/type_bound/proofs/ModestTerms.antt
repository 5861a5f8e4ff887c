-- Terms that are made of modest ones are modest.
use Rattle.std.proofs.Common.{◌≡◌, ◌≤◌, ℕ, zero, suc, Bool, true, false, List, [], ◌∷◌, Option, Some, None, slice_get, if◌then◌else◌, arith}
use Rattle.stt_core.specs.SimpleType.{SimpleType, base, arrow, formula, predicate, is_declared}
use Rattle.stt_core.specs.Lambda.{Constant, name, witness, falsity, negation, implication, all, equality, choice, description, Lambda, bound, constant, lam, app, IsLeaf}
use Rattle.stt_core.specs.Typing.{Scope, constant_type, type_of}
use Rattle.stt_core.specs.Lift.{lift}
use Rattle.normal_forms.specs.Normal.{Way, eta, later, by_first, ways_at, ways_of, put, replace, apply_by, ways, apply}
use Rattle.tableau_calculus.specs.Literals.{Literal, as_literal}
use Rattle.tableau_calculus.specs.Rules.{at_new, agreement, nowhere, chosen, at_most_once, described, differ_each, Alone, Alternatives, bool_pos, bool_neg, fun_pos, fun_neg, all_pos, all_neg, differ, con, cho, des}
use Rattle.tableau_calculus.specs.declared.rule_use.OnePlace.{OnePlace}
use Rattle.tableau_calculus.proofs.AloneLaws.{IsOfParts, alone_parts, literal-of}
use Rattle.tableau_calculus.specs.Each.{Each}
use Rattle.search_spec.specs.Spine.{head_of, arguments, is_compared, has_compared_head}
use Rattle.search_spec.proofs.NamingLaws.{each-joined}
use Rattle.type_bound.specs.Types.{IsShallowType}
use Rattle.refute_print.specs.Sizes.{nesting}
use Rattle.type_bound.specs.Modest.{IsModestConstant, IsModest, IsModestLiteral}

module _ (limit : ℕ) where
  abbrev Keeps : Lambda → Type 0
  Keeps t = IsModest limit t

  pub lift_keeps : (k : ℕ) (t : Lambda) → Keeps t → Keeps (lift k t)
  lift_keeps k (bound j) h = tt
  lift_keeps k (constant c) h = h
  lift_keeps k (lam a s) h = (h.0, lift_keeps (suc k) s h.1)
  lift_keeps k (app s u) h = (lift_keeps k s h.0, lift_keeps k u h.1)

  put_keeps : (k : ℕ) (r : Lambda) (j : ℕ) → Keeps r → Keeps (put k r j)
  put_keeps zero r zero h = h
  put_keeps zero r (suc j) h = tt
  put_keeps (suc k) r zero h = tt
  put_keeps (suc k) r (suc j) h = lift_keeps zero (put k r j) (put_keeps k r j h)

  -- the ways make no deeper types
  abbrev AreGood : List Way → Type 0
  AreGood [] = Unit {0}
  AreGood (w ∷ ws) = ((s u : Lambda) → Keeps s → Keeps u → Keeps (w s u)) × AreGood ws

  first_keeps : (ws : List Way) (s u : Lambda) → AreGood ws → Keeps s → Keeps u → Keeps (by_first ws s u)
  first_keeps [] s u good h k = (h, k)
  first_keeps (w ∷ ws) s u good h k = good.0 s u h k

  later_good : (ws : List Way) → AreGood ws → AreGood (later ws)
  later_good [] good = tt
  later_good (w ∷ ws) good = good.1

  at_good : (k j : ℕ) (ws : List Way) → AreGood ws → AreGood (ways_at k j ws)
  at_good zero zero ws good = good
  at_good zero (suc j) ws good = tt
  at_good (suc k) zero ws good = tt
  at_good (suc k) (suc j) ws good = at_good k j ws good

  of_good : (ws : List Way) (k : ℕ) (t : Lambda) → AreGood ws → AreGood (ways_of ws k t)
  of_good ws k (bound j) good = at_good k j ws good
  of_good ws k (constant c) good = tt
  of_good ws k (lam a s) good = tt
  of_good ws k (app s u) good = later_good (ways_of ws k s) (of_good ws k s good)

  replace_keeps : (ws : List Way) (k : ℕ) (r t : Lambda) → AreGood ws → Keeps r → Keeps t → Keeps (replace ws k r t)
  replace_keeps ws k r (bound j) good h g = put_keeps k r j h
  replace_keeps ws k r (constant c) good h g = g
  replace_keeps ws k r (lam a s) good h g = (g.0, replace_keeps ws (suc k) r s good h g.1)
  replace_keeps ws k r (app s u) good h g =
      first_keeps (ways_of ws k s) (replace ws k r s) (replace ws k r u) (of_good ws k s good) (replace_keeps ws k r s good h g.0) (replace_keeps ws k r u good h g.1)

  by_keeps : (ws : List Way) → AreGood ws → (s u : Lambda) → Keeps s → Keeps u → Keeps (apply_by ws s u)
  by_keeps ws good (lam a s) u h k = replace_keeps ws zero u s good k h.1
  by_keeps ws good (bound j) u h k = (h, k)
  by_keeps ws good (constant c) u h k = (h, k)
  by_keeps ws good (app s v) u h k = (h, k)

  ways_good : (a : SimpleType) → AreGood (ways a)
  ways_good (base n) = tt
  ways_good (arrow a b) = (by_keeps (ways a) (ways_good a), ways_good b)

  pub apply_keeps : (s u : Lambda) → Keeps s → Keeps u → Keeps (apply s u)
  apply_keeps (lam a s) u h k = replace_keeps (ways a) zero u s (ways_good a) k h.1
  apply_keeps (bound j) u h k = (h, k)
  apply_keeps (constant c) u h k = (h, k)
  apply_keeps (app s v) u h k = (h, k)

  pub eta_keeps : (a : SimpleType) (t : Lambda) → nesting a ≤ suc (suc limit) → Keeps t → Keeps (eta a t)
  eta_keeps (base n) t within h = h
  eta_keeps (arrow a b) t within h =
      let binder : nesting a ≤ suc limit = omega (arith, within) in
      let first : nesting a ≤ suc (suc limit) = omega (arith, within) in
      let second : nesting b ≤ suc (suc limit) = omega (arith, within) in
      (binder, eta_keeps b (app (lift zero t) (eta a (bound zero))) second (lift_keeps zero t h, eta_keeps a (bound zero) first tt))

  -- LITERALS

  modest_parts : IsOfParts (IsModest limit)
  modest_parts = record { negations = λ s h. h.1; implications = λ s t h. (h.0.1, h.1); equations = λ a s t h. (h.0.1, h.1) }

  pub as_literal_keeps : (t : Lambda) → Keeps t → IsModestLiteral limit (as_literal t)
  as_literal_keeps = literal-of (IsModest limit) modest_parts

  at_new_keeps : (a : SimpleType) (f : Lambda) → nesting a ≤ limit → Keeps f → Keeps (at_new a f)
  at_new_keeps a f within h = apply_keeps (lift 0 f) (eta a (bound 0)) (lift_keeps 0 f h) (eta_keeps a (bound 0) (omega (arith, within)) tt)

  agreement_keeps : (a b : SimpleType) (s t : Lambda) → nesting (arrow a b) ≤ limit → Keeps s → Keeps t → Keeps (agreement a b s t)
  agreement_keeps a b s t within h k =
      let first : nesting a ≤ limit = omega (arith, within) in
      let second : nesting b ≤ limit = omega (arith, within) in
      (first, (omega (arith, first), ((second, at_new_keeps a s first h), at_new_keeps a t first k)))

  nowhere_keeps : (a : SimpleType) (f : Lambda) → nesting a ≤ limit → Keeps f → Keeps (nowhere a f)
  nowhere_keeps a f within h = (within, (omega (arith, within), (tt, at_new_keeps a f within h)))

  at_most_once_keeps : (a : SimpleType) (f : Lambda) → nesting a ≤ limit → Keeps f → Keeps (at_most_once a f)
  at_most_once_keeps a f within h =
      let binder : nesting a ≤ suc limit = omega (arith, within) in
      let wide : nesting a ≤ suc (suc limit) = omega (arith, within) in
      let outer = lift_keeps 0 (at_new a f) (at_new_keeps a f within h) in
      let inner = at_new_keeps a (lift 0 f) within (lift_keeps 0 f h) in
      (within, (binder, (within, (binder, ((tt, outer), ((tt, inner), ((within, eta_keeps a (bound 1) wide tt), eta_keeps a (bound 0) wide tt)))))))

  -- ALTERNATIVES

  abbrev pub AreModest : Alternatives → Type 0
  AreModest as' = Each (Each (IsModestLiteral limit)) as'

  pub bool_pos_keeps : (s t : Lambda) → Keeps s → Keeps t → AreModest (bool_pos s t)
  bool_pos_keeps s t h k = ((as_literal_keeps s h, (as_literal_keeps t k, tt)), ((as_literal_keeps s h, (as_literal_keeps t k, tt)), tt))

  pub bool_neg_keeps : (s t : Lambda) → Keeps s → Keeps t → AreModest (bool_neg s t)
  bool_neg_keeps s t h k = ((as_literal_keeps s h, (as_literal_keeps t k, tt)), ((as_literal_keeps s h, (as_literal_keeps t k, tt)), tt))

  pub fun_pos_keeps : (a b : SimpleType) (s t : Lambda) → nesting (arrow a b) ≤ limit → Keeps s → Keeps t → AreModest (fun_pos a b s t)
  fun_pos_keeps a b s t within h k = ((as_literal_keeps (agreement a b s t) (agreement_keeps a b s t within h k), tt), tt)

  pub fun_neg_keeps : (a b : SimpleType) (s t : Lambda) → nesting (arrow a b) ≤ limit → Keeps s → Keeps t → AreModest (fun_neg a b s t)
  fun_neg_keeps a b s t within h k = ((as_literal_keeps (agreement a b s t) (agreement_keeps a b s t within h k), tt), tt)

  -- the alternatives of a rule that looks at its principal alone
  pub alone_keeps : (kind : OnePlace) (l : Literal) (as' : Alternatives) → Alone kind l as' → IsModestLiteral limit l → AreModest as'
  alone_keeps kind l as' fits h =
      alone_parts (IsModest limit) modest_parts AreModest (λ bs each. each)
      (λ a b s t g. (fun_pos_keeps a b s t g.0.0 g.0.1 g.1, fun_neg_keeps a b s t g.0.0 g.0.1 g.1)) kind l as' fits h

  pub all_pos_keeps : (f u : Lambda) → Keeps f → Keeps u → AreModest (all_pos f u)
  all_pos_keeps f u h k = ((as_literal_keeps (apply f u) (apply_keeps f u h k), tt), tt)

  pub all_neg_keeps : (a : SimpleType) (f w : Lambda) → nesting a ≤ limit → Keeps f → Keeps w → AreModest (all_neg a f w)
  all_neg_keeps a f w within h k = ((as_literal_keeps (apply f (eta a w)) (apply_keeps f (eta a w) h (eta_keeps a w (omega (arith, within)) k)), tt), tt)

  differ_each_keeps : (a : SimpleType) (ss ts : List Lambda) → nesting a ≤ suc limit → Each Keeps ss → Each Keeps ts → AreModest (differ_each a ss ts)
  differ_each_keeps (base n) ss ts within h k = tt
  differ_each_keeps (arrow a b) [] ts within h k = tt
  differ_each_keeps (arrow a b) (s ∷ ss) [] within h k = tt
  differ_each_keeps (arrow a b) (s ∷ ss) (t ∷ ts) within h k =
      let first : nesting a ≤ limit = omega (arith, within) in
      let second : nesting b ≤ suc limit = omega (arith, within) in
      ((((first, h.0), k.0), tt), differ_each_keeps b ss ts second h.1 k.1)

  pub differ_keeps : (o : Option SimpleType) (ss ts : List Lambda) → IsShallowType (suc limit) o → Each Keeps ss → Each Keeps ts → AreModest (differ o ss ts)
  differ_keeps None ss ts within h k = tt
  differ_keeps (Some a) ss ts within h k = differ_each_keeps a ss ts within h k

  pub con_keeps : (b : SimpleType) (s t u v : Lambda) → nesting b ≤ limit → Keeps s → Keeps t → Keeps u → Keeps v → AreModest (con b s t u v)
  con_keeps b s t u v within hs ht hu hv = ((((within, hs), hu), (((within, ht), hu), tt)), ((((within, hs), hv), (((within, ht), hv), tt)), tt))

  chosen_keeps : (a : SimpleType) (f : Lambda) → suc (nesting a) ≤ limit → Keeps f → Keeps (chosen a f)
  chosen_keeps a f within h = eta_keeps a (app (constant (choice a)) f) (omega (arith, within)) (within, h)

  described_keeps : (a : SimpleType) (f : Lambda) → suc (nesting a) ≤ limit → Keeps f → Keeps (described a f)
  described_keeps a f within h = eta_keeps a (app (constant (description a)) f) (omega (arith, within)) (within, h)

  pub cho_keeps : (a : SimpleType) (f : Lambda) → suc (nesting a) ≤ limit → Keeps f → AreModest (cho a f)
  cho_keeps a f within h =
      let less : nesting a ≤ limit = omega (arith, within) in
      ((as_literal_keeps (nowhere a f) (nowhere_keeps a f less h), tt), ((as_literal_keeps (apply f (chosen a f)) (apply_keeps f (chosen a f) h (chosen_keeps a f within h)), tt), tt))

  pub des_keeps : (a : SimpleType) (f : Lambda) → suc (nesting a) ≤ limit → Keeps f → AreModest (des a f)
  des_keeps a f within h =
      let less : nesting a ≤ limit = omega (arith, within) in (
        (as_literal_keeps (nowhere a f) (nowhere_keeps a f less h), tt),
        (
          (as_literal_keeps (at_most_once a f) (at_most_once_keeps a f less h), tt),
          ((as_literal_keeps (apply f (described a f)) (apply_keeps f (described a f) h (described_keeps a f within h)), tt), tt),
        ),
      )

  -- HEADS

  pub head_of_keeps : (t : Lambda) → Keeps t → Keeps (head_of t)
  head_of_keeps (bound k) h = tt
  head_of_keeps (constant c) h = h
  head_of_keeps (lam a s) h = h
  head_of_keeps (app s u) h = head_of_keeps s h.0

  pub arguments_keep : (t : Lambda) → Keeps t → Each Keeps (arguments t)
  arguments_keep (bound k) h = tt
  arguments_keep (constant c) h = tt
  arguments_keep (lam a s) h = tt
  arguments_keep (app s u) h = each-joined Keeps (arguments s) (u ∷ []) (arguments_keep s h.0) (h.1, tt)

  if_shallow : (bound_is : ℕ) (b : Bool) (a : SimpleType) → nesting a ≤ bound_is → IsShallowType bound_is (if b then Some a else None)
  if_shallow bound_is true a h = h
  if_shallow bound_is false a h = tt

  pub at_shallow : (bound_is : ℕ) (types : List SimpleType) (k : ℕ) → Each (λ a. nesting a ≤ bound_is) types → IsShallowType bound_is (slice_get types k)
  at_shallow bound_is [] k h = tt
  at_shallow bound_is (a ∷ types) zero h = h.0
  at_shallow bound_is (a ∷ types) (suc k) h = at_shallow bound_is types k h.1

  wider : (small large : ℕ) (o : Option SimpleType) → small ≤ large → IsShallowType small o → IsShallowType large o
  wider small large None le h = tt
  wider small large (Some a) le h = omega (arith, le, h)

  module _ (scope : Scope) (names : Each (λ a. nesting a ≤ limit) scope.names) (witnesses : Each (λ a. nesting a ≤ limit) scope.witnesses) where
    -- the type of a modest constant
    pub constant_shallow : (c : Constant) → IsModestConstant limit c → IsShallowType (suc (suc limit)) (constant_type scope c)
    constant_shallow (name k) h = wider limit (suc (suc limit)) (slice_get scope.names k) (omega arith) (at_shallow limit scope.names k names)
    constant_shallow (witness k) h = wider limit (suc (suc limit)) (slice_get scope.witnesses k) (omega arith) (at_shallow limit scope.witnesses k witnesses)
    constant_shallow falsity h = omega arith
    constant_shallow negation h = omega arith
    constant_shallow implication h = omega arith
    constant_shallow (all a) h = if_shallow (suc (suc limit)) (is_declared scope.bases a) (arrow (predicate a) formula) (omega (arith, h))
    constant_shallow (equality a) h = if_shallow (suc (suc limit)) (is_declared scope.bases a) (arrow a (predicate a)) (omega (arith, h))
    constant_shallow (choice a) h = if_shallow (suc (suc limit)) (is_declared scope.bases a) (arrow (predicate a) a) (omega (arith, h))
    constant_shallow (description a) h = if_shallow (suc (suc limit)) (is_declared scope.bases a) (arrow (predicate a) a) (omega (arith, h))

    -- the type of a leaf, where this is the context
    pub leaf_shallow : (ctx : List SimpleType) (t : Lambda) → Each (λ a. nesting a ≤ suc limit) ctx → IsLeaf t → Keeps t → IsShallowType (suc (suc limit)) (type_of scope ctx t)
    leaf_shallow ctx (bound k) are leaf h = wider (suc limit) (suc (suc limit)) (slice_get ctx k) (omega arith) (at_shallow (suc limit) ctx k are)
    leaf_shallow ctx (constant c) are leaf h = constant_shallow c h
    leaf_shallow ctx (lam a s) are leaf h = absurd leaf
    leaf_shallow ctx (app s u) are leaf h = absurd leaf

    compared_shallow : (c : Constant) → is_compared c ≡ true → IsModestConstant limit c → IsShallowType (suc limit) (constant_type scope c)
    compared_shallow (name k) e h = wider limit (suc limit) (slice_get scope.names k) (omega arith) (at_shallow limit scope.names k names)
    compared_shallow (witness k) e h = wider limit (suc limit) (slice_get scope.witnesses k) (omega arith) (at_shallow limit scope.witnesses k witnesses)
    compared_shallow (choice a) e h = if_shallow (suc limit) (is_declared scope.bases a) (arrow (predicate a) a) (omega (arith, h))
    compared_shallow (description a) e h = if_shallow (suc limit) (is_declared scope.bases a) (arrow (predicate a) a) (omega (arith, h))
    compared_shallow falsity e h = cc
    compared_shallow negation e h = cc
    compared_shallow implication e h = cc
    compared_shallow (all a) e h = cc
    compared_shallow (equality a) e h = cc

    -- the type of a head whose arguments are compared
    pub head_shallow : (t : Lambda) → has_compared_head t ≡ true → Keeps t → IsShallowType (suc limit) (type_of scope [] t)
    head_shallow (constant c) e h = compared_shallow c e h
    head_shallow (bound k) e h = cc
    head_shallow (lam a s) e h = cc
    head_shallow (app s u) e h = cc
