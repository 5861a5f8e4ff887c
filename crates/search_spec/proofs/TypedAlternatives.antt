-- What a rule's alternatives hold are literals.
use Rattle.std.specs.Prelude.{◌≡◌, suc, true, List, [], ◌∷◌, map}
use Rattle.std.proofs.lemmas.Bool.{and_parts}
use Rattle.stt_core.specs.SimpleType.{SimpleType, base, arrow, formula, is_declared}
use Rattle.stt_core.specs.Lambda.{Lambda, constant, witness, applied}
use Rattle.stt_core.specs.Typing.{Scope, IsScope}
use Rattle.stt_core.specs.Canonical.{IsCanonical}
use Rattle.stt_core.proofs.TypeLaws.{constant_declared}
use Rattle.normal_forms.specs.Normal.{eta, apply}
use Rattle.tableau_calculus.specs.Literals.{Literal, opposite, as_literal, IsLiteral, IsBranch}
use Rattle.tableau_calculus.specs.Witnesses.{Row}
use Rattle.tableau_calculus.specs.Rules.{PlainRule, Rule, alone_rule, close_rule, all_pos_rule, all_neg_rule, mat_rule, dec_rule, con_rule, cho_rule, des_rule, cut_rule, nowhere, chosen, at_most_once, described, differ_each}
use Rattle.tableau_calculus.proofs.AloneLaws.{alone_typed}
use Rattle.tableau_calculus.proofs.LiteralLaws.{as_literal-is_literal, opposite-is_literal}
use Rattle.tableau_calculus.proofs.EquationLaws.{eq_canonical, differ-is_literal}
use Rattle.tableau_calculus.proofs.FunctionLaws.{every_canonical, canonical-nowhere, canonical-chosen, canonical-at_most_once, canonical-described, canonical-applied}
use Rattle.tableau_calculus.proofs.DecompositionLaws.{Takes, arguments_taken}
use Rattle.tableau_calculus.proofs.RuleLaws.{canonical-witness}
use Rattle.tableau_calculus.specs.Each.{Each}

module _ (scope : Scope) where
  lit : (t : Lambda) → IsCanonical scope [] formula t → IsLiteral scope (as_literal t)
  lit t h = as_literal-is_literal scope t h

  denied : (t : Lambda) → IsCanonical scope [] formula t → IsLiteral scope (opposite (as_literal t))
  denied t h = opposite-is_literal scope (as_literal t) (as_literal-is_literal scope t h)

  differ_typed : (a b : SimpleType) (ss ts : List Lambda) → is_declared scope.bases a ≡ true → Takes scope a ss b → Takes scope a ts b → Each (IsBranch scope) (differ_each a ss ts)
  differ_typed (base n) b ss ts d hs ht = tt
  differ_typed (arrow c e) b [] ts d hs ht = tt
  differ_typed (arrow c e) b (s ∷ ss) [] d hs ht = tt
  differ_typed (arrow c e) b (s ∷ ss) (t ∷ ts) d hs ht =
      let p = and_parts _ _ d in
      ((differ-is_literal scope c s t (record { declared = p.0; left = hs.0; right = ht.0 }), tt), differ_typed e b ss ts p.1 hs.1 ht.1)

  pub alternatives_typed : IsScope scope → (rows : List Row) → scope.witnesses ≡ map (λ r. r.type) rows → (rule : PlainRule) (principals : List Literal) (alternatives : List (List Literal)) → Rule scope rows rule principals alternatives → IsBranch scope principals → Each (IsBranch scope) alternatives
  alternatives_typed over rows types _ _ _ (alone_rule i kind l alternatives h) typed = alone_typed scope kind l alternatives h typed.0
  alternatives_typed over rows types _ _ _ (close_rule i j l) typed = tt
  alternatives_typed over rows types _ _ _ (all_pos_rule i a f u c) typed =
      let e = every_canonical scope a f typed.0.formula in
      ((lit (apply f u) (canonical-applied scope a f u e.1 c), tt), tt)
  alternatives_typed over rows types _ _ _ (all_neg_rule i k a f g) typed =
      let e = every_canonical scope a f typed.0.formula in
      let w = eta a (constant (witness k)) in
      ((denied (apply f w) (canonical-applied scope a f w e.1 (canonical-witness scope rows types k a f g e.0)), tt), tt)
  alternatives_typed over rows types _ _ _ (mat_rule i j c a s t ss ts d e) typed =
      differ_typed a formula (s ∷ ss) (t ∷ ts) (constant_declared scope over c a e) (arguments_taken scope c a s ss formula e typed.0.formula) (arguments_taken scope c a t ts formula e typed.1.0.formula)
  alternatives_typed over rows types _ _ _ (dec_rule i n c a s t ss ts d e) typed =
      let b = base (suc n) in
      let sides = eq_canonical scope b (applied (constant c) (s ∷ ss)) (applied (constant c) (t ∷ ts)) typed.0.formula in
      differ_typed a b (s ∷ ss) (t ∷ ts) (constant_declared scope over c a e) (arguments_taken scope c a s ss b e sides.left) (arguments_taken scope c a t ts b e sides.right)
  alternatives_typed over rows types _ _ _ (con_rule i j n s t u v) typed =
      let b = base (suc n) in
      let e = eq_canonical scope b s t typed.0.formula in
      let g = eq_canonical scope b u v typed.1.0.formula in
      let d = λ (x y : Lambda) (p : IsCanonical scope [] b x) (q : IsCanonical scope [] b y). differ-is_literal scope b x y (record { declared = e.declared; left = p; right = q }) in
      ((d s u e.left g.left, (d t u e.right g.left, tt)), ((d s v e.left g.right, (d t v e.right g.right, tt)), tt))
  alternatives_typed over rows types _ _ _ (cho_rule a f c) typed =
      ((lit (nowhere a f) (canonical-nowhere scope a f c), tt), ((lit (apply f (chosen a f)) (canonical-applied scope a f (chosen a f) c (canonical-chosen scope a f c)), tt), tt))
  alternatives_typed over rows types _ _ _ (des_rule a f c) typed =
      ((lit (nowhere a f) (canonical-nowhere scope a f c), tt), ((denied (at_most_once a f) (canonical-at_most_once scope a f c), tt), ((lit (apply f (described a f)) (canonical-applied scope a f (described a f) c (canonical-described scope a f c)), tt), tt)))
  alternatives_typed over rows types _ _ _ (cut_rule l h) typed = ((h, tt), ((opposite-is_literal scope l h, tt), tt))
