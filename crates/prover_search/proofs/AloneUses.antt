-- The rules that take one literal, by its shape.
use Rattle.std.specs.Prelude.{◌≡◌, ◌&&◌, ℕ, suc, true, [], ◌∷◌, Some, refl}
use Rattle.std.proofs.Common.{sym, ap, ap₂, ◌∙◌, subst}
use Rattle.std.proofs.lemmas.Bool.{and_parts}
use Rattle.stt_core.specs.SimpleType.{SimpleType, base, arrow, formula}
use Rattle.stt_core.specs.Lambda.{Lambda, constant, applied, eq}
use Rattle.stt_core.specs.Typing.{Scope, IsScope, type_of}
use Rattle.stt_core.specs.Canonical.{IsCanonical}
use Rattle.tableau_calculus.specs.Literals.{Literal, plus, minus}
use Rattle.tableau_calculus.specs.Rules.{Alone, refl_alone, bool_pos_alone, bool_neg_alone, fun_pos_alone, fun_neg_alone, alone_rule, dec_rule, Alternatives, bool_pos, bool_neg, fun_pos, fun_neg, differ}
use Rattle.tableau_calculus.specs.declared.rule_use.OnePlace.{OnePlace}
use Rattle.tableau_calculus.specs.declared.rule_use.OnePlace.TheVariants.{Refl, BoolPos, BoolNeg, FunPos, FunNeg, Dec}
use Rattle.tableau_calculus.specs.declared.rule_use.RuleUse.TheVariants.{AtOne}
use Rattle.tableau_calculus.proofs.EquationLaws.{eq_canonical}
use Rattle.sat_base.specs.declared.literal.SatLit.{SatLit}
use Rattle.search_spec.specs.Mode.{standard_mode}
use Rattle.search_spec.specs.Spine.{head_of, arguments, is_spine, same_head}
use Rattle.search_spec.specs.State.{Setting}
use Rattle.search_spec.proofs.SpineLaws.{spine_is, same_head_is, applied_whole}
use Rattle.search_spec.proofs.TypedPartners.{head_function}
use Rattle.search_spec.proofs.TypedProcessing.{spines_differ, other_arguments}
use Rattle.literal_map.specs.Atoms.{bank_literal}
use Rattle.tableau_rules.specs.Uses.{IsInstanceBy}
use Rattle.prover_state.specs.declared.tables.Basis.{Basis}
use Rattle.prover_state.specs.Internal.Names.{IsNumberIn}
use Rattle.prover_state.specs.Internal.Standing.{without_witnesses, rows_in, scope_by, IsBasis}
use Rattle.prover_search.proofs.RuleUses.{scope-is, typed_here}

-- the atom of a number is a closed formula
pub atom-canonical : (g : Basis) → IsBasis g → (lit : SatLit) → IsNumberIn g.lits lit → IsCanonical (scope_by g) [] formula (bank_literal g.bank.terms g.lits lit).atom
atom-canonical g good lit number =
    let P : Scope → Type 0 = λ s. IsCanonical s [] formula (bank_literal g.bank.terms g.lits lit).atom in
    subst P (sym (scope-is g good)) (good.atoms lit.var.0 0 number).is_formula

module _ (g : Basis) (lit : SatLit) where
  abbrev l_at : Literal
  l_at = bank_literal g.bank.terms g.lits lit

  abbrev pub Takes : OnePlace → Alternatives → Type 0
  Takes rule as' = IsInstanceBy g.bank g.lits (rows_in g) (AtOne rule lit) as'

  pub alone-takes : (kind : OnePlace) (k : Literal) (as' : Alternatives) → Alone kind k as' → l_at ≡ k → Takes kind as'
  alone-takes kind k as' fits e = record { principals = k ∷ []; at_places = (ap Some e, tt); fits = alone_rule 0 kind k as' fits }

  pub refl-takes : (a : SimpleType) (s : Lambda) → l_at ≡ minus (eq a s s) → Takes Refl []
  refl-takes a s e = alone-takes Refl (minus (eq a s s)) [] (refl_alone a s) e

  pub bool_pos-takes : (s t : Lambda) → l_at ≡ plus (eq formula s t) → Takes BoolPos (bool_pos s t)
  bool_pos-takes s t e = alone-takes BoolPos (plus (eq formula s t)) (bool_pos s t) (bool_pos_alone s t) e

  pub bool_neg-takes : (s t : Lambda) → l_at ≡ minus (eq formula s t) → Takes BoolNeg (bool_neg s t)
  bool_neg-takes s t e = alone-takes BoolNeg (minus (eq formula s t)) (bool_neg s t) (bool_neg_alone s t) e

  pub fun_pos-takes : (a b : SimpleType) (s t : Lambda) → l_at ≡ plus (eq (arrow a b) s t) → Takes FunPos (fun_pos a b s t)
  fun_pos-takes a b s t e = alone-takes FunPos (plus (eq (arrow a b) s t)) (fun_pos a b s t) (fun_pos_alone a b s t) e

  pub fun_neg-takes : (a b : SimpleType) (s t : Lambda) → l_at ≡ minus (eq (arrow a b) s t) → Takes FunNeg (fun_neg a b s t)
  fun_neg-takes a b s t e = alone-takes FunNeg (minus (eq (arrow a b) s t)) (fun_neg a b s t) (fun_neg_alone a b s t) e

  -- the sides of a negated equation, which have one compared head
  module _ (good : IsBasis g) (number : IsNumberIn g.lits lit) (over : IsScope (scope_by g)) where
    pub dec-takes : (n : ℕ) (s t : Lambda) → l_at ≡ minus (eq (base (suc n)) s t) → (is_spine s && same_head s t) ≡ true → Takes Dec (differ (type_of (scope_by g) [] (head_of s)) (arguments s) (arguments t))
    dec-takes n s t e h =
        let b : SimpleType = base (suc n) in
        let setting : Setting = record { scope = without_witnesses g.bank; mode = standard_mode } in
        let C : Lambda → Type 0 = λ u. IsCanonical (scope_by g) [] formula u in
        let P : Lambda → Type 0 = λ u. IsCanonical (scope_by g) [] b u in
        let p = and_parts (is_spine s) (same_head s t) h in
        let sp = spine_is s p.0 in
        let sides = eq_canonical (scope_by g) b s t (subst C (ap (λ (x : Literal). x.atom) e) (atom-canonical g good lit number)) in
        let f = head_function (scope_by g) (constant sp.head) sp.first sp.more b (subst P sp.is sides.left) in
        let same : head_of t ≡ constant sp.head = sym (same_head_is s t p.1) ∙ sp.head_is in
        let o = other_arguments setting (rows_in g) over sp.head t b f.0 f.1 same sides.right f.2 (arguments t) refl in
        let t_is : t ≡ applied (constant sp.head) (o.0 ∷ o.1) = sym (applied_whole t) ∙ ap₂ applied same o.2 in
        let S : Lambda = applied (constant sp.head) (sp.first ∷ sp.more) in
        let T : Lambda = applied (constant sp.head) (o.0 ∷ o.1) in
        subst (Takes Dec) (sym (spines_differ setting (rows_in g) over s t sp.head (arrow f.0 f.1) sp.first sp.more o.0 o.1 sp.head_is sp.arguments_are o.2 f.2))
        (record {
          principals = minus (eq b S T) ∷ [];
          at_places = (ap Some (e ∙ ap₂ (λ u v. minus (eq b u v)) sp.is t_is), tt);
          fits = dec_rule 0 n sp.head (arrow f.0 f.1) sp.first o.0 sp.more o.1 sp.compared (typed_here g good sp.head (arrow f.0 f.1) f.2);
        })
