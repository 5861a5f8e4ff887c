-- The witness of a predicate that doesn't hold everywhere, and the drafts of its rule.
use Rattle.std.proofs.Common.{◌≡◌, ℕ, true, false, List, [], ◌∷◌, map, length, Some, None, slice_get, ◌⊎◌, inl, inr, refl, sym, ap, ap₂, subst, subst₂, ◌∙◌}
use Rattle.std.specs.Prelude.{Result, Ok, Err, OnErr}
use Rattle.stt_core.specs.SimpleType.{SimpleType, formula, predicate, is_declared}
use Rattle.stt_core.specs.Lambda.{Lambda, bound, constant, lam, app, witness, every}
use Rattle.stt_core.specs.Typing.{Scope}
use Rattle.stt_core.specs.Canonical.{IsCanonical}
use Rattle.stt_core.specs.View.{the_type}
use Rattle.stt_core.proofs.ListLaws.{mapped_get}
use Rattle.normal_forms.specs.Normal.{eta, apply}
use Rattle.normal_forms.proofs.NormalValues.{canonical-eta}
use Rattle.tableau_calculus.specs.Literals.{Literal, minus, opposite, as_literal}
use Rattle.tableau_calculus.specs.Witnesses.{Row, with_rows, IsTypedRow}
use Rattle.tableau_calculus.specs.declared.rule_use.OnePlace.TheVariants.{AllNeg}
use Rattle.tableau_calculus.specs.declared.rule_use.RuleUse.TheVariants.{AtOne}
use Rattle.tableau_calculus.proofs.FunctionLaws.{every_canonical}
use Rattle.tableau_calculus.proofs.InstanceLaws.{all_neg_is}
use Rattle.term_bank.specs.Content.{Content, content_scope, HasTerm, Grows}
use Rattle.term_bank.specs.Terms.{term_at}
use Rattle.term_bank.proofs.GrowLaws.{grown_scope, grown_at, grown_within, has_at, has_within}
use Rattle.bank_normal.specs.Fits.{AppliesIn, IsNeutralOf}
use Rattle.witness_names.specs.Rows.{binder_of, row_of, rows_of, AreRows, with_predicate}
use Rattle.tableau_rules.specs.Changes.{Widens}
use Rattle.tableau_rules.specs.Internal.Declaring.{AreDeclaredIn, IsWitnessed, MayBeWitnessed, DraftedOver}
use Rattle.tableau_rules.specs.Internal.Drafted.{principal_at, alternatives_at, IsPrincipal}
use Rattle.tableau_rules.specs.Internal.Parts.{IsQuantifiedOf}
use Rattle.tableau_rules.specs.Internal.Typed.{IsPredicate}
use Rattle.tableau_rules.specs.declared.draft.Principal.{Principal}
use Rattle.tableau_rules.specs.declared.draft.Signed.{Signed}
use Rattle.tableau_rules.specs.declared.part.Quantified.{Quantified}
use Rattle.tableau_rules.proofs.DraftLaws.{nay}
use Rattle.tableau_rules.proofs.FoundLaws.{all_neg_none}
use Rattle.tableau_rules.proofs.WideLaws.{canonical_more, wide_at, wide_within, wide_canonical}

pub on_err : {T E P : Type 0} (r : Result T E) → P → OnErr r P
on_err (Ok x) h = tt
on_err (Err e) h = h

-- the type that a predicate is one on is that of its binder
binder_is : (scope : Scope) (a : SimpleType) (t : Lambda) → IsCanonical scope [] (predicate a) t → a ≡ binder_of t
binder_is scope a (bound k) h = absurd h.0
binder_is scope a (constant c) h = absurd h.0
binder_is scope a (app s u) h = absurd h.0
binder_is scope a (lam c s) h = h.1.0

pub row_typed : (b : Content) (a : SimpleType) (f : ℕ) (ids : List ℕ) → IsPredicate b a f → AreRows b ids → IsTypedRow (content_scope b) (rows_of b.terms ids) (row_of (term_at b.terms f))
row_typed b a f ids p rows =
    let t = term_at b.terms f in
    let wider : IsCanonical (with_rows (content_scope b) (rows_of b.terms ids)) [] (predicate a) t =
    subst (λ ws. IsCanonical (record { bases = length b.bases; names = map (λ k. k.type) b.consts; witnesses = ws }) [] (predicate a) t) (sym rows.types)
    (canonical_more (content_scope b) rows.further [] (predicate a) t p.predicate_in) in
    subst (λ y. IsCanonical (with_rows (content_scope b) (rows_of b.terms ids)) [] (predicate y) t) (binder_is (content_scope b) a t p.predicate_in) wider

module _ (b : Content) (p : Principal) (q : Quantified) (h : IsPrincipal b p) (is : IsQuantifiedOf b (term_at b.terms p.atom) (Some q)) where
  parts : (is_declared (content_scope b).bases (the_type q.ty.now) ≡ true) × IsCanonical (content_scope b) [] (predicate (the_type q.ty.now)) (term_at b.terms q.predicate)
  parts = every_canonical (content_scope b) (the_type q.ty.now) (term_at b.terms q.predicate) (subst (IsCanonical (content_scope b) [] formula) is.0 h.typed.formula)

  pub denied_predicate : (x : SimpleType) → x ≡ the_type q.ty.now → IsPredicate b x q.predicate
  denied_predicate x e = subst (λ y. IsPredicate b y q.predicate) (sym e) (record { within = is.1; predicate_in = parts.1 })

  module _ (c : Content) (w : Widens b c) (sign : p.positive ≡ false) where
    denies : principal_at c p ≡ minus (every (the_type q.ty.now) (term_at c.terms q.predicate))
    denies =
        let e : term_at c.terms p.atom ≡ every (the_type q.ty.now) (term_at c.terms q.predicate) =
        wide_at b c w p.atom h.within ∙ is.0 ∙ ap (every (the_type q.ty.now)) (sym (wide_at b c w q.predicate is.1)) in
        λ i. record { positive = sign i; atom = e i }

    pub witnessed : (old new : List ℕ) → new ≡ with_predicate old q.predicate → IsWitnessed c p old new
    witnessed old new e = record { type = the_type q.ty.now; predicate = q.predicate; within = wide_within b c w q.predicate is.1; denies = denies; added = e }

    pub may_be_witnessed : (old new : List ℕ) → (new ≡ old) ⊎ (new ≡ with_predicate old q.predicate) → MayBeWitnessed c p old new
    may_be_witnessed old new (inl e) = inl e
    may_be_witnessed old new (inr e) = inr (witnessed old new e)

    -- THE WITNESS IN THE BANK

    module _ (ids : List ℕ) (k : ℕ) (row : slice_get ids k ≡ Some q.predicate) where
      predicate_on : IsCanonical (content_scope c) [] (predicate (the_type q.ty.now)) (term_at c.terms q.predicate)
      predicate_on = subst (IsCanonical (content_scope c) [] (predicate (the_type q.ty.now))) (sym (wide_at b c w q.predicate is.1)) (wide_canonical b c w [] (predicate (the_type q.ty.now)) (term_at b.terms q.predicate) parts.1)

      row_is : slice_get (rows_of c.terms ids) k ≡ Some (record { type = the_type q.ty.now; predicate = term_at c.terms q.predicate })
      row_is =
          mapped_get (λ i. row_of (term_at c.terms i)) ids k q.predicate row
          ∙ ap (λ y. Some (record { type = y; predicate = term_at c.terms q.predicate })) (sym (binder_is (content_scope c) (the_type q.ty.now) (term_at c.terms q.predicate) predicate_on))

      declared_on : is_declared (content_scope c).bases (the_type q.ty.now) ≡ true
      declared_on = subst (λ bs. is_declared (length bs) (the_type q.ty.now) ≡ true) (sym w.bases) parts.0

      module _ (all : AreDeclaredIn c ids) where
        has_type : slice_get c.witnesses k ≡ Some (the_type q.ty.now)
        has_type = ap (λ l. slice_get l k) (sym all) ∙ mapped_get (λ (r : Row). r.type) (rows_of c.terms ids) k (record { type = the_type q.ty.now; predicate = term_at c.terms q.predicate }) row_is

        pub witness_neutral : (x : SimpleType) → x ≡ the_type q.ty.now → IsNeutralOf (content_scope c) x (constant (witness k))
        witness_neutral x e = subst (λ y. IsNeutralOf (content_scope c) y (constant (witness k))) (sym e) (record { ctx = []; declared = declared_on; neutral = has_type })

        module _ (x : SimpleType) (e : x ≡ the_type q.ty.now) (d : Content) (v : ℕ) (g : Grows c d) (variable : HasTerm d v (eta x (constant (witness k)))) where
          witness_at : term_at d.terms v ≡ eta (the_type q.ty.now) (constant (witness k))
          witness_at = has_at d v (eta x (constant (witness k))) variable ∙ ap (λ y. eta y (constant (witness k))) e

          pub witness_applies : AppliesIn (content_scope d) (term_at d.terms q.predicate) (term_at d.terms v)
          witness_applies =
              subst₂ (λ s u. AppliesIn s u (term_at d.terms v)) (sym (grown_scope c d g)) (sym (grown_at c d q.predicate g (wide_within b c w q.predicate is.1)))
              (subst (AppliesIn (content_scope c) (term_at c.terms q.predicate)) (sym witness_at)
              (record { ctx = []; applies = record { argument = the_type q.ty.now; result = formula; function_in = predicate_on; argument_in = canonical-eta (content_scope c) [] (the_type q.ty.now) (constant (witness k)) declared_on has_type } }))

          pub value_made : (m : Content) (n : ℕ) → Grows d m → HasTerm m n (apply (term_at d.terms q.predicate) (term_at d.terms v)) → HasTerm m n (apply (term_at m.terms q.predicate) (eta (the_type q.ty.now) (constant (witness k))))
          value_made m n l made = made ∙ ap Some (ap₂ apply (sym (grown_at d m q.predicate l (grown_within c d q.predicate g (wide_within b c w q.predicate is.1)))) witness_at)

      pub all_neg_found : (n : ℕ) → HasTerm c n (apply (term_at c.terms q.predicate) (eta (the_type q.ty.now) (constant (witness k)))) → (s : Signed) (ds : List (List Signed)) → s ≡ nay n → ds ≡ (s ∷ []) ∷ [] → DraftedOver c (rows_of c.terms ids) (p ∷ []) (AtOne AllNeg 0) (Some ds)
      all_neg_found n made s ds hs e =
          subst (λ l. DraftedOver c (rows_of c.terms ids) (p ∷ []) (AtOne AllNeg 0) (Some l)) (sym (e ∙ ap (λ x. (x ∷ []) ∷ []) hs)) (
            ((has_within c n (apply (term_at c.terms q.predicate) (eta (the_type q.ty.now) (constant (witness k)))) made, tt), tt),
            all_neg_is (content_scope c) (rows_of c.terms ids) (principal_at c p ∷ []) 0 k (the_type q.ty.now) (term_at c.terms q.predicate) (eta (the_type q.ty.now) (constant (witness k))) (term_at c.terms n) (as_literal (term_at c.terms n)) (opposite (as_literal (term_at c.terms n))) (alternatives_at c ((nay n ∷ []) ∷ []))
                (ap Some denies) row_is refl (has_at c n (apply (term_at c.terms q.predicate) (eta (the_type q.ty.now) (constant (witness k)))) made) refl refl refl,
          )

pub all_neg_positive : (b : Content) (rows : List Row) (p : Principal) → p.positive ≡ true → DraftedOver b rows (p ∷ []) (AtOne AllNeg 0) None
all_neg_positive b rows p sign = λ others. all_neg_none (content_scope b) others (principal_at b p) (λ a f e. let s : true ≡ false = sym sign ∙ ap (λ (l : Literal). l.positive) e in cc)

pub all_neg_other : (b : Content) (rows : List Row) (p : Principal) → IsQuantifiedOf b (term_at b.terms p.atom) None → DraftedOver b rows (p ∷ []) (AtOne AllNeg 0) None
all_neg_other b rows p none = λ others. all_neg_none (content_scope b) others (principal_at b p) (λ a f e. none a f (ap (λ (l : Literal). l.atom) e))
