-- Banks with further witnesses and further terms.
use Rattle.std.proofs.Common.{◌≡◌, ◌<◌, ℕ, List, [], ◌∷◌, ◌++◌, map, length, get_or, slice_get, Some, refl, sym, ap, ap₂, subst, ◌∙◌, append-nil, append_assoc, length-append, arith}
use Rattle.std.specs.Prelude.{All}
use Rattle.std.proofs.lemmas.List.{map-append}
use Rattle.std.proofs.lemmas.List.Elements.{All-weaker}
use Rattle.stt_core.specs.SimpleType.{SimpleType, formula, predicate}
use Rattle.stt_core.specs.TypedName.{TypedName}
use Rattle.stt_core.specs.Lambda.{Constant, name, Lambda, bound, constant}
use Rattle.stt_core.specs.Typing.{Scope, constant_type}
use Rattle.stt_core.specs.Canonical.{IsCanonical, IsNeutral}
use Rattle.tableau_calculus.specs.Literals.{Literal, is_negated}
use Rattle.tableau_calculus.specs.Witnesses.{Row, with_rows}
use Rattle.tableau_calculus.specs.Rules.{PlainRule, Rule, alone_rule, close_rule, all_pos_rule, all_neg_rule, mat_rule, dec_rule, con_rule, cho_rule, des_rule, cut_rule, IsInstance}
use Rattle.term_bank.specs.Content.{Content, content_scope, HasTerm, Grows}
use Rattle.term_bank.specs.Terms.{term_at}
use Rattle.term_bank.proofs.ListLaws.{get_or-front}
use Rattle.stt_core.specs.Lift.{lift_by}
use Rattle.normal_forms.specs.Normal.{replace, apply, eta}
use Rattle.bank_normal.specs.Right.{IsRightNormaliser, term_ways}
use Rattle.bank_normal.specs.declared.normaliser.Normaliser.{Normaliser}
use Rattle.literal_map.specs.Atoms.{IsAtom}
use Rattle.search_spec.proofs.WiderLaws.{canonical_wider, neutral_wider}
use Rattle.tableau_rules.specs.Changes.{Widens}

pub widens_itself : (b : Content) → Widens b b
widens_itself b = record { bases = refl; consts = refl; types = []; witnesses = sym (append-nil b.witnesses); further = []; terms = sym (append-nil b.terms) }

pub widens_on : (a b c : Content) → Widens a b → Widens b c → Widens a c
widens_on a b c g h = record {
  bases = h.bases ∙ g.bases;
  consts = h.consts ∙ g.consts;
  types = g.types ++ h.types;
  witnesses = h.witnesses ∙ ap (λ l. l ++ h.types) g.witnesses ∙ append_assoc a.witnesses g.types h.types;
  further = g.further ++ h.further;
  terms = h.terms ∙ ap (λ l. l ++ h.further) g.terms ∙ append_assoc a.terms g.further h.further;
}

pub grown_wide : (b c : Content) → Grows b c → Widens b c
grown_wide b c g = record { bases = g.bases; consts = g.consts; types = []; witnesses = g.witnesses ∙ sym (append-nil b.witnesses); further = g.further; terms = g.terms }

-- WHAT IS TYPED STAYS TYPED

module _ (s : Scope) (types : List SimpleType) where
  abbrev wider : Scope
  wider = record { bases = s.bases; names = s.names; witnesses = s.witnesses ++ types }

  types_back : (ts : List SimpleType) → map (λ (r : Row). r.type) (map (λ a. record { type = a; predicate = bound 0 }) ts) ≡ ts
  types_back [] = refl
  types_back (a ∷ ts) = ap (λ l. a ∷ l) (types_back ts)

  abbrev rows_on : List SimpleType → List Row
  rows_on ts = map (λ a. record { type = a; predicate = bound 0 }) ts

  before_is : with_rows s (rows_on s.witnesses) ≡ s
  before_is = λ i. record { bases = s.bases; names = s.names; witnesses = types_back s.witnesses i }

  after_is : with_rows s (rows_on s.witnesses ++ rows_on types) ≡ wider
  after_is =
      let e : map (λ (r : Row). r.type) (rows_on s.witnesses ++ rows_on types) ≡ s.witnesses ++ types =
      map-append (λ (r : Row). r.type) (rows_on s.witnesses) (rows_on types) ∙ ap₂ (λ x y. x ++ y) (types_back s.witnesses) (types_back types) in
      λ i. record { bases = s.bases; names = s.names; witnesses = e i }

  pub canonical_more : (ctx : List SimpleType) (a : SimpleType) (t : Lambda) → IsCanonical s ctx a t → IsCanonical wider ctx a t
  canonical_more ctx a t h =
      subst (λ x. IsCanonical x ctx a t) after_is
      (canonical_wider s (rows_on types) (rows_on s.witnesses) ctx a t (subst (λ x. IsCanonical x ctx a t) (sym before_is) h))

  neutral_more : (ctx : List SimpleType) (a : SimpleType) (t : Lambda) → IsNeutral s ctx a t → IsNeutral wider ctx a t
  neutral_more ctx a t h =
      subst (λ x. IsNeutral x ctx a t) after_is
      (neutral_wider s (rows_on types) (rows_on s.witnesses) ctx a t (subst (λ x. IsNeutral x ctx a t) (sym before_is) h))

  constant_more : (c : Constant) (a : SimpleType) → constant_type s c ≡ Some a → constant_type wider c ≡ Some a
  constant_more c a h = neutral_more [] a (constant c) h

  rule_more : (rows : List Row) (rule : PlainRule) (ps : List Literal) (as' : List (List Literal)) → Rule s rows rule ps as' → Rule wider rows rule ps as'
  rule_more rows _ _ _ (alone_rule i kind l as' h) = alone_rule i kind l as' h
  rule_more rows _ _ _ (close_rule i j l) = close_rule i j l
  rule_more rows _ _ _ (all_pos_rule i a f u c) = all_pos_rule i a f u (canonical_more [] a u c)
  rule_more rows _ _ _ (all_neg_rule i k a f g) = all_neg_rule i k a f g
  rule_more rows _ _ _ (mat_rule i j c a u t us ts d e) = mat_rule i j c a u t us ts d (constant_more c a e)
  rule_more rows _ _ _ (dec_rule i n c a u t us ts d e) = dec_rule i n c a u t us ts d (constant_more c a e)
  rule_more rows _ _ _ (con_rule i j n u t v w) = con_rule i j n u t v w
  rule_more rows _ _ _ (cho_rule a f c) = cho_rule a f (canonical_more [] (predicate a) f c)
  rule_more rows _ _ _ (des_rule a f c) = des_rule a f (canonical_more [] (predicate a) f c)
  rule_more rows _ _ _ (cut_rule l h) = cut_rule l (record { formula = canonical_more [] formula l.atom h.formula; unsigned = h.unsigned })

-- OVER A WIDENED BANK

module _ (b c : Content) (w : Widens b c) where
  pub wide_at : (id : ℕ) → id < length b.terms → term_at c.terms id ≡ term_at b.terms id
  wide_at id h = ap (λ l. get_or l id (bound 0)) w.terms ∙ get_or-front b.terms w.further id (bound 0) h

  pub wide_within : (id : ℕ) → id < length b.terms → id < length c.terms
  wide_within id h = omega (arith, h, ap length w.terms, length-append b.terms w.further)

  wide_scope : content_scope c ≡ record { bases = length b.bases; names = map (λ k. k.type) b.consts; witnesses = b.witnesses ++ w.types }
  wide_scope = λ i. record { bases = length (w.bases i); names = map (λ k. k.type) (w.consts i); witnesses = w.witnesses i }

  pub wide_canonical : (ctx : List SimpleType) (a : SimpleType) (t : Lambda) → IsCanonical (content_scope b) ctx a t → IsCanonical (content_scope c) ctx a t
  wide_canonical ctx a t h = subst (λ s. IsCanonical s ctx a t) (sym wide_scope) (canonical_more (content_scope b) w.types ctx a t h)

  pub wide_instance : (rows : List Row) (branch : List Literal) (rule : PlainRule) (as' : List (List Literal)) → IsInstance (content_scope b) rows branch rule as' → IsInstance (content_scope c) rows branch rule as'
  wide_instance rows branch rule as' h =
      subst (λ s. IsInstance s rows branch rule as') (sym wide_scope)
      (record { principals = h.principals; at_places = h.at_places; fits = rule_more (content_scope b) w.types rows rule h.principals as' h.fits })

  wide_atom : (id : ℕ) → IsAtom b id → IsAtom c id
  wide_atom id h = record {
    within = wide_within id h.within;
    is_formula = subst (IsCanonical (content_scope c) [] formula) (sym (wide_at id h.within)) (wide_canonical [] formula (term_at b.terms id) h.is_formula);
    unsigned = ap is_negated (wide_at id h.within) ∙ h.unsigned;
  }

  pub wide_atoms : (atoms : List ℕ) → All (IsAtom b) atoms → All (IsAtom c) atoms
  wide_atoms atoms h = All-weaker (IsAtom b) (IsAtom c) wide_atom atoms h

-- a memo that is right over a bank is right over one with the same constants and terms
pub right_by : (n : Normaliser) (b c : Content) → c.consts ≡ b.consts → c.terms ≡ b.terms → IsRightNormaliser n b → IsRightNormaliser n c
right_by n b c d e h = record {
  lifted = λ k i.
      let x = h.lifted k i in
      record { term_within = subst (λ ts. k.term < length ts) (sym e) x.term_within; result_is = subst (λ ts. HasTerm (record c { terms = ts }) k.result (lift_by k.by k.depth (term_at ts k.term))) (sym e) x.result_is };
  replaced = λ k i.
      let x = h.replaced k i in
      record {
        term_within = subst (λ ts. k.term < length ts) (sym e) x.term_within;
        by_within = subst (λ ts. k.by < length ts) (sym e) x.by_within;
        result_is = subst (λ ts. HasTerm (record c { terms = ts }) k.result (replace (term_ways (term_at ts k.by)) k.depth (term_at ts k.by) (term_at ts k.term))) (sym e) x.result_is;
      };
  applied = λ k i.
      let x = h.applied k i in
      record {
        term_within = subst (λ ts. k.term < length ts) (sym e) x.term_within;
        by_within = subst (λ ts. k.by < length ts) (sym e) x.by_within;
        result_is = subst (λ ts. HasTerm (record c { terms = ts }) k.result (apply (term_at ts k.term) (term_at ts k.by))) (sym e) x.result_is;
      };
  long = λ k i.
      let x = h.long k i in
      record {
        type = x.type;
        type_is = subst (λ cs. slice_get (map (λ (y : TypedName). y.type) cs) k.term ≡ Some x.type) (sym d) x.type_is;
        result_is = subst (λ ts. HasTerm (record c { terms = ts }) k.result (eta x.type (constant (name k.term)))) (sym e) x.result_is;
      };
  variables = λ k i. subst (λ ts. HasTerm (record c { terms = ts }) k.result (eta k.type (bound 0))) (sym e) (h.variables k i);
}
