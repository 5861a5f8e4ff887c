-- Processing keeps a state typed.
use Rattle.std.specs.Prelude.{◌≡◌, ◌&&◌, ℕ, zero, suc, Bool, true, false, List, [], ◌∷◌, map, filter, Some, refl, if◌then◌else◌}
use Rattle.std.proofs.Common.{sym, ap, ap₂, ◌∙◌, subst}
use Rattle.std.proofs.lemmas.Bool.{and_parts}
use Rattle.stt_core.specs.SimpleType.{SimpleType, base, arrow, formula, same_type}
use Rattle.stt_core.specs.Lambda.{Constant, Lambda, constant, applied, eq, every}
use Rattle.stt_core.specs.Typing.{Scope, IsScope, type_of, constant_type}
use Rattle.stt_core.specs.Canonical.{IsBase, IsCanonical}
use Rattle.stt_core.proofs.TypeLaws.{same_type-true}
use Rattle.tableau_calculus.specs.Literals.{Literal, plus, minus, IsLiteral, IsBranch}
use Rattle.tableau_calculus.specs.Witnesses.{Row, with_rows}
use Rattle.tableau_calculus.specs.Rules.{differ_each, bool_pos_alone, bool_neg_alone, fun_pos_alone, fun_neg_alone, dec_rule, Alternatives, bool_pos, bool_neg, fun_pos, fun_neg, differ}
use Rattle.tableau_calculus.specs.declared.rule_use.RuleUse.TheVariants.{AtOne}
use Rattle.tableau_calculus.specs.declared.rule_use.OnePlace.TheVariants.{BoolPos, BoolNeg, FunPos, FunNeg, Dec}
use Rattle.tableau_calculus.proofs.AloneLaws.{alone_typed}
use Rattle.tableau_calculus.proofs.EquationLaws.{eq_canonical}
use Rattle.tableau_calculus.proofs.FunctionLaws.{every_canonical}
use Rattle.tableau_calculus.specs.Each.{Each}
use Rattle.search_spec.specs.Spine.{head_of, arguments, is_spine, same_head}
use Rattle.search_spec.specs.State.{State, Setting, Typed, inst, with_commands}
use Rattle.search_spec.specs.Instances.{with_instance}
use Rattle.search_spec.specs.Terms.{terms_of, with_term, with_terms}
use Rattle.search_spec.specs.Offers.{offers_terms, offered_sides}
use Rattle.search_spec.specs.Preparing.{with_preparation}
use Rattle.search_spec.specs.Partners.{matings, confrontations}
use Rattle.search_spec.specs.Processing.{with_decomposition, with_confrontations, with_equation, with_universal, with_matings}
use Rattle.search_spec.specs.TypedState.{IsTypedCommand, IsTypedStateWith}
use Rattle.search_spec.proofs.NamingLaws.{pick_good}
use Rattle.search_spec.proofs.TypedAlternatives.{alternatives_typed}
use Rattle.search_spec.proofs.SpineLaws.{spine_is, same_head_is, applied_whole}
use Rattle.search_spec.proofs.TypedPushes.{each_mapped, each_filtered, pushed-typed, with_instance-typed, with_term-typed, with_terms-typed, noted-each}
use Rattle.search_spec.proofs.TypedOpening.{prepared-typed}
use Rattle.search_spec.proofs.TypedPartners.{head_function, matings-typed, confrontations-typed}

module _ (setting : Setting) (rows : List Row) (good : IsScope (with_rows setting.scope rows)) where
  abbrev over : Scope
  over = with_rows setting.scope rows

  abbrev Good : State → Type 0
  Good s = IsTypedStateWith setting rows s

  pub mated-typed : (l : Literal) (s : State) → IsLiteral over l → Good s → Good (with_matings setting l s)
  mated-typed l s h g = by_test (is_spine l.atom) refl
    where
      by_test : (b : Bool) → is_spine l.atom ≡ b → Good (if b then with_commands setting.mode (matings l s.noted) s else s)
      by_test true e = pushed-typed setting rows (matings l s.noted) s (matings-typed over l s.noted h e (noted-each setting rows s g)) g
      by_test false e = g

  confronted-typed : (n : ℕ) (sign : Bool) (s t : Lambda) (st : State) → IsLiteral over (record { positive = sign; atom = eq (base (suc n)) s t }) → Good st → Good (with_confrontations setting (base (suc n)) (record { positive = sign; atom = eq (base (suc n)) s t }) st)
  confronted-typed n sign s t st h g =
      let l : Literal = record { positive = sign; atom = eq (base (suc n)) s t } in
      pushed-typed setting rows (confrontations (base (suc n)) l st.noted) st (confrontations-typed over n sign s t st.noted h (noted-each setting rows st g)) g

  -- the arguments of a head whose type is known
  pub spines_differ : (s t : Lambda) (c : Constant) (a : SimpleType) (x : Lambda) (xs : List Lambda) (y : Lambda) (ys : List Lambda) → head_of s ≡ constant c → arguments s ≡ x ∷ xs → arguments t ≡ y ∷ ys → constant_type over c ≡ Some a → differ (type_of over [] (head_of s)) (arguments s) (arguments t) ≡ differ_each a (x ∷ xs) (y ∷ ys)
  spines_differ s t c a x xs y ys h e f k =
      ap (λ u. differ (type_of over [] u) (arguments s) (arguments t)) h ∙ ap (λ o. differ o (arguments s) (arguments t)) k ∙ ap (λ us. differ_each a us (arguments t)) e ∙ ap (λ us. differ_each a (x ∷ xs) us) f

  no_base : (b x y : SimpleType) → IsBase b → Some b ≡ Some (arrow x y) → ⊥
  no_base (base n) x y h e = cc
  no_base (arrow c d) x y h e = h

  -- what has the head of a function has arguments
  pub other_arguments : (c : Constant) (t : Lambda) (b x y : SimpleType) → head_of t ≡ constant c → IsCanonical over [] b t → constant_type over c ≡ Some (arrow x y) → (us : List Lambda) → arguments t ≡ us → (s : Lambda) × (ss : List Lambda) × (arguments t ≡ s ∷ ss)
  other_arguments c t b x y e h g [] f =
      let P : Lambda → Type 0 = λ u. IsCanonical over [] b u in
      let k = subst P (sym (sym (ap₂ applied e f) ∙ applied_whole t)) h in
      absurd (no_base b x y k.0 (sym k.1 ∙ g))
  other_arguments c t b x y e h g (s ∷ ss) f = (s, ss, f)

  pub decomposed-typed : (n : ℕ) (s t : Lambda) (st : State) → IsLiteral over (minus (eq (base (suc n)) s t)) → Good st → Good (with_decomposition setting (base (suc n)) s t st)
  decomposed-typed n s t st h g = by_test (is_spine s && same_head s t) refl
    where
      b : SimpleType
      b = base (suc n)

      alternatives : List Row → Alternatives
      alternatives r = differ (type_of (with_rows setting.scope r) [] (head_of s)) (arguments s) (arguments t)

      typed : (is_spine s && same_head s t) ≡ true → Each (IsBranch over) (alternatives rows)
      typed e =
          let p = and_parts _ _ e in
          let sp = spine_is s p.0 in
          let sides = eq_canonical over b s t h.formula in
          let P : Lambda → Type 0 = λ u. IsCanonical over [] b u in
          let f = head_function over (constant sp.head) sp.first sp.more b (subst P sp.is sides.left) in
          let same : head_of t ≡ constant sp.head = sym (same_head_is s t p.1) ∙ sp.head_is in
          let o = other_arguments sp.head t b f.0 f.1 same sides.right f.2 (arguments t) refl in
          let t_is : t ≡ applied (constant sp.head) (o.0 ∷ o.1) = sym (applied_whole t) ∙ ap₂ applied same o.2 in
          let L : Lambda → Lambda → Type 0 = λ u v. IsLiteral over (minus (eq b u v)) in
          let k = subst (λ v. L (applied (constant sp.head) (sp.first ∷ sp.more)) v) t_is (subst (λ u. L u t) sp.is h) in
          let D : Alternatives → Type 0 = λ as'. Each (IsBranch over) as' in
          subst D (sym (spines_differ s t sp.head (arrow f.0 f.1) sp.first sp.more o.0 o.1 sp.head_is sp.arguments_are o.2 f.2))
          (alternatives_typed over good rows refl (AtOne Dec 0) _ _ (dec_rule 0 n sp.head (arrow f.0 f.1) sp.first o.0 sp.more o.1 sp.compared f.2) (k, tt))

      by_test : (x : Bool) → (is_spine s && same_head s t) ≡ x → Good (if x then with_instance setting.mode (minus (eq b s t) ∷ []) (alternatives st.rows) st else st)
      by_test false e = g
      by_test true e =
          let A : List Row → Type 0 = λ r. Each (IsBranch over) (alternatives r) in
          with_instance-typed setting rows (minus (eq b s t) ∷ []) (alternatives st.rows) st (subst A (sym g.are_rows) (typed e)) g

  pub equated-typed : (a : SimpleType) (sign : Bool) (s t : Lambda) (st : State) → IsLiteral over (record { positive = sign; atom = eq a s t }) → Good st → Good (with_equation setting a sign s t st)
  equated-typed (base zero) true s t st h g = with_instance-typed setting rows (plus (eq formula s t) ∷ []) (bool_pos s t) st (alone_typed over BoolPos _ _ (bool_pos_alone s t) h) g
  equated-typed (base zero) false s t st h g = with_instance-typed setting rows (minus (eq formula s t) ∷ []) (bool_neg s t) st (alone_typed over BoolNeg _ _ (bool_neg_alone s t) h) g
  equated-typed (arrow a b) true s t st h g = with_instance-typed setting rows (plus (eq (arrow a b) s t) ∷ []) (fun_pos a b s t) st (alone_typed over FunPos _ _ (fun_pos_alone a b s t) h) g
  equated-typed (arrow a b) false s t st h g =
      let c = arrow a b in
      let sides = eq_canonical over c s t h.formula in
      let us = offered_sides setting.mode s t in
      with_instance-typed setting rows (minus (eq c s t) ∷ []) (fun_neg a b s t) (with_terms setting.mode c us st) (alone_typed over FunNeg _ _ (fun_neg_alone a b s t) h)
      (with_terms-typed setting rows c us st (pick_good (Each (IsCanonical over [] c)) (offers_terms setting.mode) (s ∷ t ∷ []) [] (sides.left, (sides.right, tt)) tt) g)
  equated-typed (base (suc n)) true s t st h g = confronted-typed n true s t st h g
  equated-typed (base (suc n)) false s t st h g =
      let b = base (suc n) in
      let sides = eq_canonical over b s t h.formula in
      let first = with_term setting.mode b s st in
      let second = with_term setting.mode b t first in
      confronted-typed n false s t (with_decomposition setting b s t second) h
      (decomposed-typed n s t second h
      (with_term-typed setting rows b t first sides.right
      (with_term-typed setting rows b s st sides.left g)))

  each_of_type : (a : SimpleType) (us : List Typed) → Each (λ u. IsCanonical over [] u.type u.term) us → Each (IsCanonical over [] a) (map (λ u. u.term) (filter (λ u. same_type a u.type) us))
  each_of_type a us h =
      each_mapped (λ (u : Typed). IsCanonical over [] a u.term) (IsCanonical over [] a) (λ u. u.term) (λ u k. k) (filter (λ u. same_type a u.type) us)
      (each_filtered (λ (u : Typed). IsCanonical over [] u.type u.term) (λ u. IsCanonical over [] a u.term) (λ u. same_type a u.type)
      (λ u k e. let P : SimpleType → Type 0 = λ b. IsCanonical over [] b u.term in subst P (sym (same_type-true a u.type e)) k) us h)

  instances-typed : (a : SimpleType) (f : Lambda) (st : State) → IsLiteral over (plus (every a f)) → Good st → Each (IsTypedCommand over) (map (inst (plus (every a f))) (terms_of a st))
  instances-typed a f st h g =
      each_mapped (IsCanonical over [] a) (IsTypedCommand over) (inst (plus (every a f))) (λ u k. record { literal = h; type = a; predicate = f; is_universal = refl; argument = k }) (terms_of a st) (each_of_type a st.terms g.terms)

  pub quantified-typed : (a : SimpleType) (f : Lambda) (st : State) → IsLiteral over (plus (every a f)) → Good st → Good (with_universal setting a f st)
  quantified-typed a f st h g =
      let ready = with_preparation setting a st in
      let k = prepared-typed setting rows good a st (every_canonical over a f h.formula).0 g in
      pushed-typed setting rows (map (inst (plus (every a f))) (terms_of a ready)) ready (instances-typed a f ready h k) k
