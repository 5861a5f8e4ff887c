-- Each rule keeps a model.
use Rattle.std.proofs.Common.{◌≡◌, ℕ, zero, suc, ◌<◌, List, [], ◌∷◌, Some, slice_get, map, refl, sym, ap, ◌∙◌, true, if◌then◌else◌, ◌⊎◌, inl, inr, ⊎_elim, arith}
use Rattle.stt_core.specs.SimpleType.{SimpleType, is_declared, base, formula}
use Rattle.stt_core.specs.Lambda.{witness, Lambda, constant, applied}
use Rattle.stt_core.specs.Typing.{Scope}
use Rattle.stt_core.specs.Canonical.{IsCanonical}
use Rattle.stt_core.specs.Meaning.{Model, value, IsModel}
use Rattle.stt_core.proofs.TypeLaws.{type_of-canonical}
use Rattle.stt_core.specs.Digits.{entry}
use Rattle.stt_core.proofs.ValueLaws.{value-lt}
use Rattle.stt_core.proofs.ConstantValues.{bit}
use Rattle.tableau_calculus.specs.Literals.{Literal, IsBranch}
use Rattle.tableau_calculus.specs.Meets.{MeetsBranch, MeetsOne}
use Rattle.tableau_calculus.specs.Witnesses.{Row}
use Rattle.tableau_calculus.specs.Rules.{Rule, alone_rule, close_rule, all_pos_rule, all_neg_rule, mat_rule, dec_rule, con_rule, cho_rule, des_rule, cut_rule, nowhere, chosen, at_most_once, described, PlainRule}
use Rattle.tableau_calculus.proofs.LiteralLaws.{value-bit, as_literal-says, literal_or_opposite, not_both}
use Rattle.normal_forms.specs.Normal.{eta, apply}
use Rattle.normal_forms.proofs.NormalValues.{canonical-eta, value-eta}
use Rattle.tableau_calculus.specs.Along.{GoesAlong}
use Rattle.tableau_calculus.proofs.FunctionLaws.{every_canonical, canonical-nowhere, canonical-chosen, canonical-at_most_once, canonical-described, canonical-applied, value-applied, value-every-canonical, value-chosen, value-described}
use Rattle.tableau_calculus.proofs.AloneLaws.{alone_keeps}
use Rattle.tableau_calculus.proofs.DecompositionLaws.{arguments_taken, differ_one}
use Rattle.tableau_calculus.proofs.EquationLaws.{eq_canonical, same_or_not, met-eq, met-differ, meets-differ}

-- the type of a witness is that of its row
witness_typed : (scope : Scope) (rows : List Row) → scope.witnesses ≡ map (λ r. r.type) rows → (k : ℕ) (r : Row) → slice_get rows k ≡ Some r → slice_get scope.witnesses k ≡ Some r.type
witness_typed scope rows e k r h = ap (λ ws. slice_get ws k) e ∙ typed_at rows k h
  where
    typed_at : (rows : List Row) (k : ℕ) → slice_get rows k ≡ Some r → slice_get (map (λ q. q.type) rows) k ≡ Some r.type
    typed_at [] k h = cc
    typed_at (q ∷ rows) zero h = let same : q ≡ r = cc in ap (λ x. Some x.type) same
    typed_at (q ∷ rows) (suc k) h = typed_at rows k h

pub canonical-witness : (scope : Scope) (rows : List Row) → scope.witnesses ≡ map (λ r. r.type) rows → (k : ℕ) (a : SimpleType) (f : Lambda) → slice_get rows k ≡ Some (record { type = a; predicate = f }) → is_declared scope.bases a ≡ true → IsCanonical scope [] a (eta a (constant (witness k)))
canonical-witness scope rows e k a f h d = canonical-eta scope [] a (constant (witness k)) d (witness_typed scope rows e k (record { type = a; predicate = f }) h)

module _ (scope : Scope) (m : Model) (good : IsModel scope m) where
  -- a model that meets the principals of a rule meets one whole alternative
  pub rule_keeps : (rows : List Row) → scope.witnesses ≡ map (λ r. r.type) rows → GoesAlong scope m rows → (rule : PlainRule) (principals : List Literal) (alternatives : List (List Literal)) → Rule scope rows rule principals alternatives → IsBranch scope principals → MeetsBranch scope m principals → MeetsOne scope m alternatives
  rule_keeps rows types along _ _ _ (alone_rule i kind l alternatives h) typed met = alone_keeps scope m good kind l alternatives h typed.0 met.0
  rule_keeps rows types along _ _ _ (close_rule i j l) typed met = not_both scope m l met.0 met.1.0
  rule_keeps rows types along _ _ _ (all_pos_rule i a f u c) typed met =
      let e = every_canonical scope a f typed.0.formula in
      let o = (value-every-canonical scope m good a f e.0 e.1).0 met.0 (value scope m [] [] u) (value-lt scope m good [] [] a u (type_of-canonical scope [] a u c) tt) in
      inl ((as_literal-says scope m good (apply f u) (canonical-applied scope a f u e.1 c)).at_one (value-applied scope m good a f u e.1 c ∙ o), tt)
  rule_keeps rows types along _ _ _ (all_neg_rule i k a f g) typed met =
      let e = every_canonical scope a f typed.0.formula in
      let w = eta a (constant (witness k)) in
      let c = canonical-witness scope rows types k a f g e.0 in
      let z = (value-every-canonical scope m good a f e.0 e.1).1 met.0 in
      let o = along.at_witness k (record { type = a; predicate = f }) g z.0 z.1 z.2 in
      let v : value scope m [] [] (eta a (constant (witness k))) ≡ m.witness_values k = value-eta scope m good [] [] a (constant (witness k)) e.0 tt (witness_typed scope rows types k (record { type = a; predicate = f }) g) in
      inl ((as_literal-says scope m good (apply f (eta a (constant (witness k)))) (canonical-applied scope a f (eta a (constant (witness k))) e.1 c)).at_zero (value-applied scope m good a f (eta a (constant (witness k))) e.1 c ∙ ap (entry 2 (value scope m [] [] f)) v ∙ o), tt)
  rule_keeps rows types along _ _ _ (cho_rule a f c) typed met =
      let n = canonical-nowhere scope a f c in
      let k = canonical-applied scope a f (chosen a f) c (canonical-chosen scope a f c) in
      ⊎_elim
      (λ z. inr (inl ((as_literal-says scope m good (apply f (chosen a f)) k).at_one (value-chosen scope m good a f c z), tt)))
      (λ o. inl ((as_literal-says scope m good (nowhere a f) n).at_one o, tt))
      (bit (value scope m [] [] (nowhere a f)) (value-bit scope m good (nowhere a f) n))
  rule_keeps rows types along _ _ _ (des_rule a f c) typed met =
      let n = canonical-nowhere scope a f c in
      let u = canonical-at_most_once scope a f c in
      let k = canonical-applied scope a f (described a f) c (canonical-described scope a f c) in
      ⊎_elim
      (λ z. inr (⊎_elim
      (λ v. inl ((as_literal-says scope m good (at_most_once a f) u).at_zero v, tt))
      (λ o. inr (inl ((as_literal-says scope m good (apply f (described a f)) k).at_one (value-described scope m good a f c z o), tt)))
      (bit (value scope m [] [] (at_most_once a f)) (value-bit scope m good (at_most_once a f) u))))
      (λ o. inl ((as_literal-says scope m good (nowhere a f) n).at_one o, tt))
      (bit (value scope m [] [] (nowhere a f)) (value-bit scope m good (nowhere a f) n))
  rule_keeps rows types along _ _ _ (mat_rule i j c a s t ss ts d e) typed met =
      differ_one scope m good a formula (constant c) (constant c) (s ∷ ss) (t ∷ ts) tt e e refl (arguments_taken scope c a s ss formula e typed.0.formula) (arguments_taken scope c a t ts formula e typed.1.0.formula)
      (λ k. absurd (omega (arith, met.0, met.1.0, k)))
  rule_keeps rows types along _ _ _ (dec_rule i n c a s t ss ts d e) typed met =
      let b = base (suc n) in
      let sides = eq_canonical scope b (applied (constant c) (s ∷ ss)) (applied (constant c) (t ∷ ts)) typed.0.formula in
      differ_one scope m good a b (constant c) (constant c) (s ∷ ss) (t ∷ ts) tt e e refl (arguments_taken scope c a s ss b e sides.left) (arguments_taken scope c a t ts b e sides.right)
      (met-differ scope m good b (applied (constant c) (s ∷ ss)) (applied (constant c) (t ∷ ts)) sides met.0)
  rule_keeps rows types along _ _ _ (con_rule i j n s t u v) typed met =
      let b = base (suc n) in
      let e = eq_canonical scope b s t typed.0.formula in
      let g = eq_canonical scope b u v typed.1.0.formula in
      let st = met-eq scope m good b s t e met.0 in
      let uv = met-differ scope m good b u v g met.1.0 in
      let d = λ (x y : Lambda) (p : IsCanonical scope [] b x) (q : IsCanonical scope [] b y). meets-differ scope m good b x y (record { declared = e.declared; left = p; right = q }) in
      ⊎_elim
      (λ c. inr (inl (d s v e.left g.right (λ k. uv (sym c ∙ k)), (d t v e.right g.right (λ k. uv (sym c ∙ st ∙ k)), tt))))
      (λ apart. inl (d s u e.left g.left apart, (d t u e.right g.left (λ k. apart (st ∙ k)), tt)))
      (same_or_not (value scope m [] [] s) (value scope m [] [] u))
  rule_keeps rows types along _ _ _ (cut_rule l is_literal) typed met =
      ⊎_elim (λ k. inl (k, tt)) (λ k. inr (inl (k, tt))) (literal_or_opposite scope m good l is_literal)
