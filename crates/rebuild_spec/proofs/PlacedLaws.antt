-- Rules at other places of their principals.
use Rattle.std.proofs.Common.{◌≡◌, ◌∙◌, ℕ, true, List, [], ◌∷◌, map, option_map, refl, ap, subst, sym}
use Rattle.std.proofs.lemmas.Bool.{or_left, or_right}
use Rattle.std.proofs.lemmas.Option.{slice_get-map}
use Rattle.stt_core.specs.Lambda.{Lambda}
use Rattle.stt_core.specs.Typing.{Scope}
use Rattle.tableau_calculus.specs.Literals.{Literal}
use Rattle.tableau_calculus.specs.Witnesses.{Row}
use Rattle.tableau_calculus.specs.RuleUses.{principals_of}
use Rattle.tableau_calculus.specs.Rules.{PlainRule, Rule, AreAt, IsInstance, alone_rule, close_rule, all_pos_rule, all_neg_rule, mat_rule, dec_rule, con_rule, cho_rule, des_rule, cut_rule}
use Rattle.tableau_calculus.specs.Accepted.{IsTypedUse}
use Rattle.sat_base.specs.declared.literal.SatLit.{SatLit}
use Rattle.sat_base.specs.Literal.{same_literal, holds}
use Rattle.sat_base.proofs.LiteralLaws.{same_literal-refl}
use Rattle.search_spec.specs.Numbered.{literal_at}
use Rattle.rebuild_spec.specs.Input.{literals_of}
use Rattle.rebuild_spec.specs.Stands.{rule_at_places, place_in}
use Rattle.rebuild_spec.proofs.LiteralLaws.{place_found}

module _ (scope : Scope) (rows : List Row) (atoms : List Lambda) (at : SatLit → ℕ) where
  no_literal : (ps : List SatLit) → literals_of atoms ps ≡ [] → ps ≡ []
  no_literal [] e = refl
  no_literal (p ∷ ps) e = cc

  one_literal : (ps : List SatLit) (l : Literal) → literals_of atoms ps ≡ l ∷ [] → (p : SatLit) × (ps ≡ p ∷ [])
  one_literal [] l e = cc
  one_literal (p ∷ []) l e = (p, refl)
  one_literal (p ∷ q ∷ ps) l e = cc

  pub two_literals : (ps : List SatLit) (l k : Literal) → literals_of atoms ps ≡ l ∷ k ∷ [] → (p : SatLit) × (q : SatLit) × (ps ≡ p ∷ q ∷ [])
  two_literals [] l k e = cc
  two_literals (p ∷ []) l k e = cc
  two_literals (p ∷ q ∷ []) l k e = (p, q, refl)
  two_literals (p ∷ q ∷ r ∷ ps) l k e = cc

  -- the rule fits at these places
  abbrev IsPlacedRule : PlainRule → List Literal → List (List Literal) → List SatLit → Type 0
  IsPlacedRule rule ls alternatives ps = (principals_of (rule_at_places rule (map at ps)) ≡ map at ps) × Rule scope rows (rule_at_places rule (map at ps)) ls alternatives

  -- a rule fits at whichever places of its principals
  pub placed_fits : (rule : PlainRule) (ls : List Literal) (alternatives : List (List Literal)) → Rule scope rows rule ls alternatives → (ps : List SatLit) → literals_of atoms ps ≡ ls → IsPlacedRule rule ls alternatives ps
  placed_fits rule ls alternatives (alone_rule i kind l as' h) ps e = let o = one_literal ps _ e in subst (IsPlacedRule rule ls alternatives) (sym o.1) (refl, alone_rule (at o.0) kind l as' h)
  placed_fits rule ls alternatives (close_rule i j l) ps e = let o = two_literals ps _ _ e in subst (IsPlacedRule rule ls alternatives) (sym o.2) (refl, close_rule (at o.0) (at o.1) l)
  placed_fits rule ls alternatives (all_pos_rule i a f u h) ps e = let o = one_literal ps _ e in subst (IsPlacedRule rule ls alternatives) (sym o.1) (refl, all_pos_rule (at o.0) a f u h)
  placed_fits rule ls alternatives (all_neg_rule i k a f h) ps e = let o = one_literal ps _ e in subst (IsPlacedRule rule ls alternatives) (sym o.1) (refl, all_neg_rule (at o.0) k a f h)
  placed_fits rule ls alternatives (mat_rule i j c a s t ss ts h0 h1) ps e = let o = two_literals ps _ _ e in subst (IsPlacedRule rule ls alternatives) (sym o.2) (refl, mat_rule (at o.0) (at o.1) c a s t ss ts h0 h1)
  placed_fits rule ls alternatives (dec_rule i n c a s t ss ts h0 h1) ps e = let o = one_literal ps _ e in subst (IsPlacedRule rule ls alternatives) (sym o.1) (refl, dec_rule (at o.0) n c a s t ss ts h0 h1)
  placed_fits rule ls alternatives (con_rule i j n s t u v) ps e = let o = two_literals ps _ _ e in subst (IsPlacedRule rule ls alternatives) (sym o.2) (refl, con_rule (at o.0) (at o.1) n s t u v)
  placed_fits rule ls alternatives (cho_rule a f h) ps e = let o = no_literal ps e in subst (IsPlacedRule rule [] alternatives) (sym o) (refl, cho_rule a f h)
  placed_fits rule ls alternatives (des_rule a f h) ps e = let o = no_literal ps e in subst (IsPlacedRule rule [] alternatives) (sym o) (refl, des_rule a f h)
  placed_fits rule ls alternatives (cut_rule l h) ps e = let o = no_literal ps e in subst (IsPlacedRule rule [] alternatives) (sym o) (refl, cut_rule l h)

module _ (scope : Scope) (rows : List Row) where
  -- what a rule takes beside its principals has its type
  pub fits_typed : (rule : PlainRule) (principals : List Literal) (alternatives : List (List Literal)) → Rule scope rows rule principals alternatives → IsTypedUse scope rule
  fits_typed rule principals alternatives (all_pos_rule i a f u h) = (a, h)
  fits_typed rule principals alternatives (cho_rule a f h) = (a, h)
  fits_typed rule principals alternatives (des_rule a f h) = (a, h)
  fits_typed rule principals alternatives (cut_rule l h) = h
  fits_typed rule principals alternatives fits = tt

  module _ (atoms : List Lambda) where
    -- principals stand at the places that are found for them
    pub at_found : (branch principals : List SatLit) → ((l : SatLit) → holds principals l ≡ true → holds branch l ≡ true) → AreAt (literals_of atoms branch) (map (place_in branch) principals) (literals_of atoms principals)
    at_found branch [] within = tt
    at_found branch (l ∷ principals) within = (
      slice_get-map (literal_at atoms) branch (place_in branch l) ∙ ap (option_map (literal_at atoms)) (place_found branch l (within l (or_left _ _ (same_literal-refl l)))),
      at_found branch principals (λ k h. within k (or_right (same_literal k l) _ h)),
    )

    -- the rule with the places that are found for its principals has an instance in the branch
    pub instance_placed : (branch principals : List SatLit) (rule : PlainRule) (alternatives : List (List Literal)) → Rule scope rows rule (literals_of atoms principals) alternatives → ((l : SatLit) → holds principals l ≡ true → holds branch l ≡ true) → IsInstance scope rows (literals_of atoms branch) (rule_at_places rule (map (place_in branch) principals)) alternatives
    instance_placed branch principals rule alternatives fits within =
        let found = placed_fits scope rows atoms (place_in branch) rule (literals_of atoms principals) alternatives fits principals refl in
        record {
          principals = literals_of atoms principals;
          at_places = subst (λ is. AreAt (literals_of atoms branch) is (literals_of atoms principals)) (sym found.0) (at_found branch principals within);
          fits = found.1;
        }
