-- Where no candidate of a size meets a problem, no model of that size does: its values of the symbols are a candidate, whose model gives
-- each formula the same value.
use Rattle.std.proofs.Common.{◌≡◌, ℕ, zero, suc, ◌+◌, ◌^◌, ◌<◌, ◌≤◌, List, [], ◌∷◌, ◌++◌, map, Option, Some, None, Bool, true, false, slice_get, slice_index, unwrap_or, refl, ap, sym, subst, ◌∙◌, ◌⊎◌, inl, inr, if◌then◌else◌, arith}
use Rattle.std.specs.List.{AllByRecursion as Every}
use Rattle.stt_core.specs.SimpleType.{SimpleType, arrow, predicate, same_type}
use Rattle.stt_core.specs.Lambda.{Constant, name, witness, falsity, negation, implication, all, equality, choice, description, Lambda, bound, constant, lam, app}
use Rattle.stt_core.specs.Typing.{Scope, type_of, constant_type}
use Rattle.stt_core.specs.Meaning.{Model, IsModel, size, listed, least_table, constant_value, value, IsChoice, IsDescription}
use Rattle.stt_core.specs.Meets.{MeetsFormulas, Refutes, MeetsProblem}
use Rattle.stt_core.specs.Occurrence.{Occurs}
use Rattle.stt_core.specs.OccurrenceLaw.{AgreeOn}
use Rattle.stt_core.specs.Declarations.{scope_of}
use Rattle.stt_core.specs.PlainProblem.{PlainProblem}
use Rattle.stt_core.specs.TypedProblem.{IsFormula, AreFormulas, IsFormulaIfThere, IsTyped}
use Rattle.stt_core.specs.SimpleType.{formula}
use Rattle.stt_core.proofs.TypeLaws.{applies, abstracts, same_type-true, same_type_refl, type_of-canonical}
use Rattle.stt_core.proofs.DigitLaws.{table-lt}
use Rattle.stt_core.proofs.ValueLaws.{size_pos, least-lt}
use Rattle.stt_core.proofs.OccurrenceValues.{value_same}
use Rattle.normal_forms.specs.Normal.{normal_form}
use Rattle.normal_forms.proofs.NormalValues.{canonical-normal_form, value-normal_form}
use Rattle.finite_models.specs.Sizes.{size_in}
use Rattle.finite_models.specs.Symbols.{Symbol, declared_symbols, choosing_symbol, choosing_symbols_of, with_symbols, conjectures, normal_formulas, model_symbols}
use Rattle.finite_models.specs.Candidates.{IsLawful, IsCandidate, as_choice, as_description, values_listed, model_of}
use Rattle.finite_models.specs.Small.{NoneMeets}
use Rattle.finite_models.specs.Laws.{HasSize}
use Rattle.stt_core.proofs.ChoiceLaws.{chooses, describes}
use Rattle.finite_models.proofs.SizeLaws.{size_is}
use Rattle.finite_models.proofs.SymbolLaws.{every_symbol, Has, Covers, symbols_cover}
use Rattle.finite_models.proofs.CandidateLaws.{candidate_model}

-- the values that a model gives to symbols
abbrev pub values_in : Model → List Symbol → List ℕ
values_in m xs = map (λ x. constant_value m x.constant) xs

-- the constant of a typed term is declared
pub named_declared : (scope : Scope) (ctx : List SimpleType) (t : Lambda) (b : SimpleType) (k : ℕ) → type_of scope ctx t ≡ Some b → Occurs (name k) t → (a : SimpleType) × (slice_get scope.names k ≡ Some a)
named_declared scope ctx (bound j) b k h o = absurd o
named_declared scope ctx (constant c) b k h o = (b, subst (λ d. constant_type scope d ≡ Some b) o h)
named_declared scope ctx (lam a s) b k h o = let d = abstracts scope.bases a (type_of scope (a ∷ ctx) s) b h in named_declared scope (a ∷ ctx) s d.result k d.body_type o
named_declared scope ctx (app s u) b k h (inl o) = let d = applies (type_of scope ctx s) (type_of scope ctx u) b h in named_declared scope ctx s (arrow d.argument b) k d.function_type o
named_declared scope ctx (app s u) b k h (inr o) = let d = applies (type_of scope ctx s) (type_of scope ctx u) b h in named_declared scope ctx u d.argument k d.argument_type o

-- what a model gives to a constant of the signature is the value at its place
pub named_value : (m : Model) (k : ℕ) (types : List SimpleType) (xs : List Symbol) (i : ℕ) (a : SimpleType) → slice_get types i ≡ Some a → m.name_values (k + i) ≡ slice_index (values_in m (declared_symbols k types ++ xs)) i
named_value m k [] xs i a g = cc
named_value m k (b ∷ types) xs zero a g = let e : k + 0 ≡ k = omega arith in ap m.name_values e
named_value m k (b ∷ types) xs (suc i) a g =
    let e : k + suc i ≡ suc k + i = omega arith in
    ap m.name_values e ∙ named_value m (suc k) types xs i a g

-- what it gives to a chooser among the symbols is what is listed for its type
module _ (m : Model) where
  abbrev given : Constant → ℕ
  given c = constant_value m c

  listed_first : (b a : SimpleType) (v w : ℕ) (rest : List (SimpleType × ℕ)) → (b ≡ a → v ≡ w) → (same_type b a ≡ false → listed rest a ≡ Some w) → listed ((b, v) ∷ rest) a ≡ Some w
  listed_first b a v w rest here later = go (same_type b a) refl
    where
      go : (t : Bool) → same_type b a ≡ t → (if t then Some v else listed rest a) ≡ Some w
      go true q = ap Some (here (same_type-true b a q))
      go false q = later q

  choice_step : (c : Constant) (a : SimpleType) (rest : List (SimpleType × ℕ)) → (c ≡ choice a) ⊎ (listed rest a ≡ Some (given (choice a))) → listed (as_choice c (given c) ++ rest) a ≡ Some (given (choice a))
  choice_step (name k) a rest (inl e) = cc
  choice_step (witness k) a rest (inl e) = cc
  choice_step falsity a rest (inl e) = cc
  choice_step negation a rest (inl e) = cc
  choice_step implication a rest (inl e) = cc
  choice_step (all b) a rest (inl e) = cc
  choice_step (equality b) a rest (inl e) = cc
  choice_step (description b) a rest (inl e) = cc
  choice_step (choice b) a rest (inl e) =
      listed_first b a (given (choice b)) (given (choice a)) rest (λ q. ap (λ x. given (choice x)) q) (λ q. let same : b ≡ a = cc in absurd (apart b a same q))
    where
      apart : (b a : SimpleType) → b ≡ a → same_type b a ≡ false → ⊥
      apart b a e q = let r = same_type_refl a in let p : same_type b a ≡ same_type a a = ap (λ x. same_type x a) e in cc
  choice_step (name k) a rest (inr h) = h
  choice_step (witness k) a rest (inr h) = h
  choice_step falsity a rest (inr h) = h
  choice_step negation a rest (inr h) = h
  choice_step implication a rest (inr h) = h
  choice_step (all b) a rest (inr h) = h
  choice_step (equality b) a rest (inr h) = h
  choice_step (description b) a rest (inr h) = h
  choice_step (choice b) a rest (inr h) = listed_first b a (given (choice b)) (given (choice a)) rest (λ q. ap (λ x. given (choice x)) q) (λ q. h)

  description_step : (c : Constant) (a : SimpleType) (rest : List (SimpleType × ℕ)) → (c ≡ description a) ⊎ (listed rest a ≡ Some (given (description a))) → listed (as_description c (given c) ++ rest) a ≡ Some (given (description a))
  description_step (name k) a rest (inl e) = cc
  description_step (witness k) a rest (inl e) = cc
  description_step falsity a rest (inl e) = cc
  description_step negation a rest (inl e) = cc
  description_step implication a rest (inl e) = cc
  description_step (all b) a rest (inl e) = cc
  description_step (equality b) a rest (inl e) = cc
  description_step (choice b) a rest (inl e) = cc
  description_step (description b) a rest (inl e) =
      listed_first b a (given (description b)) (given (description a)) rest (λ q. ap (λ x. given (description x)) q) (λ q. let same : b ≡ a = cc in absurd (apart b a same q))
    where
      apart : (b a : SimpleType) → b ≡ a → same_type b a ≡ false → ⊥
      apart b a e q = let r = same_type_refl a in let p : same_type b a ≡ same_type a a = ap (λ x. same_type x a) e in cc
  description_step (name k) a rest (inr h) = h
  description_step (witness k) a rest (inr h) = h
  description_step falsity a rest (inr h) = h
  description_step negation a rest (inr h) = h
  description_step implication a rest (inr h) = h
  description_step (all b) a rest (inr h) = h
  description_step (equality b) a rest (inr h) = h
  description_step (choice b) a rest (inr h) = h
  description_step (description b) a rest (inr h) = listed_first b a (given (description b)) (given (description a)) rest (λ q. ap (λ x. given (description x)) q) (λ q. h)

  chosen : (xs : List Symbol) (a : SimpleType) → Has (choice a) xs → listed (values_listed as_choice xs (values_in m xs)) a ≡ Some (given (choice a))
  chosen [] a h = absurd h
  chosen (x ∷ xs) a (inl e) = choice_step x.constant a (values_listed as_choice xs (values_in m xs)) (inl e)
  chosen (x ∷ xs) a (inr h) = choice_step x.constant a (values_listed as_choice xs (values_in m xs)) (inr (chosen xs a h))

  described : (xs : List Symbol) (a : SimpleType) → Has (description a) xs → listed (values_listed as_description xs (values_in m xs)) a ≡ Some (given (description a))
  described [] a h = absurd h
  described (x ∷ xs) a (inl e) = description_step x.constant a (values_listed as_description xs (values_in m xs)) (inl e)
  described (x ∷ xs) a (inr h) = description_step x.constant a (values_listed as_description xs (values_in m xs)) (inr (described xs a h))

-- the values of a model are a candidate
module _ (scope : Scope) (m : Model) (good : IsModel scope m) (s : ℕ) (sized : HasSize s m) where
  abbrev IsIn : Symbol → Type 0
  IsIn x = (constant_value m x.constant < size_in s x.type) × IsLawful s x.constant (constant_value m x.constant)

  chosen-lt : (a : SimpleType) (o : Option ℕ) → ((e : ℕ) → o ≡ Some e → e < size m (arrow (predicate a) a)) → unwrap_or o (least_table (size m a)) < size m (arrow (predicate a) a)
  chosen-lt a None h = table-lt (size m a) (2 ^ size m a) _ (λ p k. least-lt p (size m a) 0 (size m a) (size_pos scope m good a) (omega arith))
  chosen-lt a (Some e) h = h e refl

  choice_in : (a : SimpleType) → IsIn (choosing_symbol (choice a) a)
  choice_in a = (
    subst (λ n. constant_value m (choice a) < n) (size_is s m sized (arrow (predicate a) a)) (chosen-lt a (listed m.choices a) (good.choices_in a)),
    subst (λ n. IsChoice n (constant_value m (choice a))) (size_is s m sized a) (λ p k x l h. chooses scope m good a p k x l h),
  )

  description_in : (a : SimpleType) → IsIn (choosing_symbol (description a) a)
  description_in a = (
    subst (λ n. constant_value m (description a) < n) (size_is s m sized (arrow (predicate a) a)) (chosen-lt a (listed m.descriptions a) (good.descriptions_in a)),
    subst (λ n. IsDescription n (constant_value m (description a))) (size_is s m sized a) (λ p k x l h alone. describes scope m good a p k x l h alone),
  )

  declared_in : (k : ℕ) (types : List SimpleType) → ((i : ℕ) (a : SimpleType) → slice_get types i ≡ Some a → m.name_values (k + i) < size_in s a) → Every IsIn (declared_symbols k types)
  declared_in k [] h = tt
  declared_in k (a ∷ types) h =
      let e : k + 0 ≡ k = omega arith in (
        (subst (λ j. m.name_values j < size_in s a) e (h 0 a refl), tt),
        declared_in (suc k) types (λ i b g. let q : k + suc i ≡ suc k + i = omega arith in subst (λ j. m.name_values j < size_in s b) q (h (suc i) b g)),
      )

  each_candidate : (xs : List Symbol) → Every IsIn xs → IsCandidate s xs (values_in m xs)
  each_candidate [] h = tt
  each_candidate (x ∷ xs) h = (h.0.0, h.0.1, each_candidate xs h.1)

  pub values_candidate : (ts : List Lambda) → IsCandidate s (declared_symbols 0 scope.names ++ with_symbols [] (choosing_symbols_of ts)) (values_in m (declared_symbols 0 scope.names ++ with_symbols [] (choosing_symbols_of ts)))
  values_candidate ts =
      each_candidate (declared_symbols 0 scope.names ++ with_symbols [] (choosing_symbols_of ts))
      (every_symbol IsIn choice_in description_in scope.names ts
      (declared_in 0 scope.names (λ i a g. let e : 0 + i ≡ i = omega arith in subst (λ j. m.name_values j < size_in s a) (sym e) (subst (λ n. m.name_values i < n) (size_is s m sized a) (good.names_in i a g)))))

module _ (p : PlainProblem) (typed : IsTyped p) (s : ℕ) (pos : 1 ≤ s) (m : Model) (good : IsModel (scope_of p.declared) m) (sized : HasSize s m) where
  abbrev scope : Scope
  scope = scope_of p.declared

  abbrev vs : List ℕ
  vs = values_in m (model_symbols p)

  abbrev n : Model
  n = model_of s (model_symbols p) vs

  candidate : IsCandidate s (model_symbols p) vs
  candidate = values_candidate scope m good s sized (normal_formulas p)

  other : IsModel scope n
  other = candidate_model p s vs pos candidate

  agree : (t : Lambda) → type_of scope [] t ≡ Some formula → Covers (model_symbols p) t → AgreeOn m n [] [] t
  agree t h covers = record {
    sizes = sized;
    names = λ k o. let d = named_declared scope [] t formula k h o in let e : 0 + k ≡ k = omega arith in ap m.name_values (sym e) ∙ named_value m 0 scope.names (with_symbols [] (choosing_symbols_of (normal_formulas p))) k d.0 d.1;
    witnesses = λ k o. no_witness t [] formula k h o;
    choices = λ a o. sym (ap (λ x. unwrap_or x (least_table (size n a))) (chosen m (model_symbols p) a (covers (choice a) tt o)));
    descriptions = λ a o. sym (ap (λ x. unwrap_or x (least_table (size n a))) (described m (model_symbols p) a (covers (description a) tt o)));
    variables = λ k f. refl;
  }
    where
      no_witness : (t : Lambda) (ctx : List SimpleType) (b : SimpleType) (k : ℕ) → type_of scope ctx t ≡ Some b → Occurs (witness k) t → m.witness_values k ≡ n.witness_values k
      no_witness (bound j) ctx b k h o = absurd o
      no_witness (constant c) ctx b k h o = let e : constant_type scope (witness k) ≡ Some b = subst (λ d. constant_type scope d ≡ Some b) o h in cc
      no_witness (lam a u) ctx b k h o = let d = abstracts scope.bases a (type_of scope (a ∷ ctx) u) b h in no_witness u (a ∷ ctx) d.result k d.body_type o
      no_witness (app u v) ctx b k h (inl o) = let d = applies (type_of scope ctx u) (type_of scope ctx v) b h in no_witness u ctx (arrow d.argument b) k d.function_type o
      no_witness (app u v) ctx b k h (inr o) = let d = applies (type_of scope ctx u) (type_of scope ctx v) b h in no_witness v ctx d.argument k d.argument_type o

  same_truth : (t : Lambda) → IsFormula scope t → Covers (model_symbols p) (normal_form scope [] t) → value scope m [] [] t ≡ value scope n [] [] t
  same_truth t h covers =
      let nf = normal_form scope [] t in
      let typed_nf = type_of-canonical scope [] formula nf (canonical-normal_form scope typed.scope [] formula t tt h) in
      sym (value-normal_form scope typed.scope m good [] [] formula t tt h tt)
      ∙ value_same m n scope [] [] [] nf (agree nf typed_nf covers)
      ∙ value-normal_form scope typed.scope n other [] [] formula t tt h tt

  abbrev Covered : Lambda → Type 0
  Covered t = Covers (model_symbols p) (normal_form scope [] t)

  covered : (ts us : List Lambda) → Every (Covers (model_symbols p)) (map (normal_form scope []) (ts ++ us)) → Every Covered ts × Every Covered us
  covered [] us h = (tt, only us h)
    where
      only : (us : List Lambda) → Every (Covers (model_symbols p)) (map (normal_form scope []) us) → Every Covered us
      only [] h = tt
      only (u ∷ us) h = (h.0, only us h.1)
  covered (t ∷ ts) us h = let r = covered ts us h.1 in ((h.0, r.0), r.1)

  all_covered : Every Covered p.assumed × Every Covered (conjectures p.conjecture)
  all_covered = covered p.assumed (conjectures p.conjecture) (symbols_cover scope.names (normal_formulas p))

  assumed_met : (ts : List Lambda) → AreFormulas scope ts → Every Covered ts → MeetsFormulas scope m ts → MeetsFormulas scope n ts
  assumed_met [] h c k = tt
  assumed_met (t ∷ ts) h c k = (sym (same_truth t h.0 c.0) ∙ k.0, assumed_met ts h.1 c.1 k.1)

  denied : (o : Option Lambda) → IsFormulaIfThere scope o → Every Covered (conjectures o) → Refutes scope m o → Refutes scope n o
  denied None h c k = tt
  denied (Some t) h c k = λ e. k (same_truth t h c.0 ∙ e)

  pub model_is_candidate : MeetsProblem p m → MeetsProblem p n
  model_is_candidate h = record { assumed = assumed_met p.assumed typed.assumed all_covered.0 h.assumed; conjecture = denied p.conjecture typed.conjecture all_covered.1 h.conjecture }

  pub none_of_size : NoneMeets p s → MeetsProblem p m → ⊥
  none_of_size none h = none vs candidate (model_is_candidate h)
