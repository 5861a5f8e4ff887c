-- The instances of commands, by numbers.
use Rattle.std.specs.Prelude.{◌≡◌, ℕ, suc, Bool, true, false, List, [], ◌∷◌, ◌++◌, map, length, Some, refl, if◌then◌else◌}
use Rattle.std.proofs.Common.{sym, ap, ◌∙◌, subst, append_assoc}
use Rattle.stt_core.specs.SimpleType.{SimpleType, base, arrow, formula, predicate}
use Rattle.stt_core.specs.Lambda.{Constant, Lambda, constant, app, applied, every, eq}
use Rattle.stt_core.specs.Typing.{Scope, IsScope, constant_type, type_of}
use Rattle.stt_core.specs.Canonical.{IsCanonical}
use Rattle.tableau_calculus.specs.Literals.{Literal, plus, minus}
use Rattle.tableau_calculus.specs.Rules.{all_pos_rule, mat_rule, con_rule, cho_rule, des_rule, Alternatives, all_pos, con, cho, des, differ}
use Rattle.tableau_calculus.specs.declared.rule_use.TwoPlaces.TheVariants.{Mat, Con}
use Rattle.tableau_calculus.specs.declared.rule_use.OfPredicate.TheVariants.{Cho, Des}
use Rattle.tableau_calculus.specs.declared.rule_use.RuleUse.TheVariants.{AtTwo, AllPos, WithPredicate}
use Rattle.sat_base.specs.declared.literal.SatLit.{SatLit}
use Rattle.search_spec.specs.Spine.{head_of, arguments}
use Rattle.search_spec.specs.Mode.{standard_mode}
use Rattle.search_spec.specs.Shallow.{is_shallow}
use Rattle.search_spec.specs.State.{State, Setting}
use Rattle.search_spec.specs.Instances.{with_instance}
use Rattle.search_spec.specs.Commands.{with_confrontation, with_instantiation}
use Rattle.search_spec.specs.TypedState.{Mates, Confronts, Instantiates}
use Rattle.search_spec.proofs.TypedPartners.{head_function}
use Rattle.search_spec.proofs.TypedProcessing.{spines_differ}
use Rattle.term_bank.specs.Content.{content_scope}
use Rattle.term_bank.specs.Terms.{term_at}
use Rattle.literal_map.specs.Atoms.{bank_literal}
use Rattle.literal_map.specs.Numbers.{UseByNumbers}
use Rattle.tableau_rules.specs.Uses.{IsInstanceBy}
use Rattle.prover_state.specs.declared.tables.Basis.{Basis}
use Rattle.prover_state.specs.Internal.Standing.{without_witnesses, rows_in, scope_by, IsBasis}

pub head_of-applied : (t : Lambda) (us : List Lambda) → head_of (applied t us) ≡ head_of t
head_of-applied t [] = refl
head_of-applied t (u ∷ us) = head_of-applied (app t u) us

joined_nil : {X : Type 0} (xs : List X) → xs ≡ xs ++ []
joined_nil [] = refl
joined_nil (x ∷ xs) = ap (λ ys. x ∷ ys) (joined_nil xs)

pub arguments-applied : (t : Lambda) (us : List Lambda) → arguments (applied t us) ≡ arguments t ++ us
arguments-applied t [] = joined_nil (arguments t)
arguments-applied t (u ∷ us) = arguments-applied (app t u) us ∙ append_assoc (arguments t) (u ∷ []) us

-- the witnesses that have types are those of the rows
pub scope-is : (g : Basis) → IsBasis g → scope_by g ≡ content_scope g.bank
scope-is g good = λ i. record { bases = length g.bank.bases; names = map (λ c. c.type) g.bank.consts; witnesses = good.typed i }

module _ (g : Basis) (good : IsBasis g) where
  abbrev l_at : SatLit → Literal
  l_at = bank_literal g.bank.terms g.lits

  abbrev t_at : ℕ → Lambda
  t_at = term_at g.bank.terms

  abbrev Fits : UseByNumbers → Alternatives → Type 0
  Fits by as' = IsInstanceBy g.bank g.lits (rows_in g) by as'

  canonical_here : (a : SimpleType) (t : Lambda) → IsCanonical (scope_by g) [] a t → IsCanonical (content_scope g.bank) [] a t
  canonical_here a t h = let P : Scope → Type 0 = λ s. IsCanonical s [] a t in subst P (scope-is g good) h

  pub typed_here : (c : Constant) (a : SimpleType) → constant_type (scope_by g) c ≡ Some a → constant_type (content_scope g.bank) c ≡ Some a
  typed_here c a h = let P : Scope → Type 0 = λ s. constant_type s c ≡ Some a in subst P (scope-is g good) h

  pub inst-fits : (l : SatLit) (u : ℕ) (h : Instantiates (scope_by g) (l_at l) (t_at u)) → Fits (AllPos l u) (all_pos h.predicate (t_at u))
  inst-fits l u h = record {
    principals = plus (every h.type h.predicate) ∷ [];
    at_places = (ap Some h.is_universal, tt);
    fits = all_pos_rule 0 h.type h.predicate (t_at u) (canonical_here h.type (t_at u) h.argument);
  }

  pub choose-fits : (u : ℕ) (a : SimpleType) → IsCanonical (scope_by g) [] (predicate a) (t_at u) → Fits (WithPredicate Cho u) (cho a (t_at u))
  choose-fits u a h = record { principals = []; at_places = tt; fits = cho_rule a (t_at u) (canonical_here (predicate a) (t_at u) h) }

  pub describe-fits : (u : ℕ) (a : SimpleType) → IsCanonical (scope_by g) [] (predicate a) (t_at u) → Fits (WithPredicate Des u) (des a (t_at u))
  describe-fits u a h = record { principals = []; at_places = tt; fits = des_rule a (t_at u) (canonical_here (predicate a) (t_at u) h) }

  pub confront-fits : (l m : SatLit) (h : Confronts (scope_by g) (l_at l) (l_at m)) → Fits (AtTwo Con l m) (con (base (suc h.n)) h.s h.t h.u h.v)
  confront-fits l m h = record {
    principals = plus (eq (base (suc h.n)) h.s h.t) ∷ minus (eq (base (suc h.n)) h.u h.v) ∷ [];
    at_places = (ap Some h.is_positive, (ap Some h.is_negative, tt));
    fits = con_rule 0 1 h.n h.s h.t h.u h.v;
  }

  -- what the arguments of mated literals differ in
  abbrev pub differing : SatLit → SatLit → Alternatives
  differing l m = differ (type_of (scope_by g) [] (head_of (l_at l).atom)) (arguments (l_at l).atom) (arguments (l_at m).atom)

  module _ (over : IsScope (scope_by g)) where
    pub mate-fits : (l m : SatLit) → Mates (scope_by g) (l_at l) (l_at m) → Fits (AtTwo Mat l m) (differing l m)
    mate-fits l m h =
        let c = h.head in
        let lits : (l_at l).atom ≡ applied (constant c) (h.s ∷ h.ss) = ap (λ (x : Literal). x.atom) h.is_positive in
        let mits : (l_at m).atom ≡ applied (constant c) (h.t ∷ h.ts) = ap (λ (x : Literal). x.atom) h.is_negative in
        let P : Lambda → Type 0 = λ u. IsCanonical (scope_by g) [] formula u in
        let f = head_function (scope_by g) (constant c) h.s h.ss formula (subst P lits h.positive.formula) in
        let setting : Setting = record { scope = without_witnesses g.bank; mode = standard_mode } in
        let same = spines_differ setting (rows_in g) over (l_at l).atom (l_at m).atom c (arrow f.0 f.1) h.s h.ss h.t h.ts
        (ap head_of lits ∙ head_of-applied (constant c) (h.s ∷ h.ss))
        (ap arguments lits ∙ arguments-applied (constant c) (h.s ∷ h.ss))
        (ap arguments mits ∙ arguments-applied (constant c) (h.t ∷ h.ts)) f.2 in
        subst (Fits (AtTwo Mat l m)) (sym same)
        (record {
          principals = plus (applied (constant c) (h.s ∷ h.ss)) ∷ minus (applied (constant c) (h.t ∷ h.ts)) ∷ [];
          at_places = (ap Some h.is_positive, (ap Some h.is_negative, tt));
          fits = mat_rule 0 1 c (arrow f.0 f.1) h.s h.t h.ss h.ts h.compared (typed_here c (arrow f.0 f.1) f.2);
        })

-- What the commands do, where they have their instances.
module _ (setting : Setting) (s : State) where
  pub instantiated-is : (scope : Scope) (l : Literal) (u : Lambda) (h : Instantiates scope l u) → is_shallow u ≡ true → with_instance setting.mode (l ∷ []) (all_pos h.predicate u) s ≡ with_instantiation setting l l.atom u s
  instantiated-is scope l u h e =
      let P : Lambda → Type 0 = λ x. with_instance setting.mode (l ∷ []) (all_pos h.predicate u) s ≡ with_instantiation setting l x u s in
      subst P (sym (ap (λ (x : Literal). x.atom) h.is_universal)) (sym (ap (λ (b : Bool). if b then with_instance setting.mode (l ∷ []) (all_pos h.predicate u) s else s) e))

  pub instantiated-deep : (scope : Scope) (l : Literal) (u : Lambda) (h : Instantiates scope l u) → is_shallow u ≡ false → s ≡ with_instantiation setting l l.atom u s
  instantiated-deep scope l u h e =
      let P : Lambda → Type 0 = λ x. s ≡ with_instantiation setting l x u s in
      subst P (sym (ap (λ (x : Literal). x.atom) h.is_universal)) (sym (ap (λ (b : Bool). if b then with_instance setting.mode (l ∷ []) (all_pos h.predicate u) s else s) e))

  pub confronted-is : (scope : Scope) (l m : Literal) (h : Confronts scope l m) → with_instance setting.mode (l ∷ m ∷ []) (con (base (suc h.n)) h.s h.t h.u h.v) s ≡ with_confrontation setting l m l.atom m.atom s
  confronted-is scope l m h =
      let b = base (suc h.n) in
      let done = with_instance setting.mode (l ∷ m ∷ []) (con b h.s h.t h.u h.v) s in
      let P : Lambda → Type 0 = λ x. done ≡ with_confrontation setting l m x m.atom s in
      let Q : Lambda → Type 0 = λ y. done ≡ with_confrontation setting l m (eq b h.s h.t) y s in
      subst P (sym (ap (λ (x : Literal). x.atom) h.is_positive)) (subst Q (sym (ap (λ (x : Literal). x.atom) h.is_negative)) refl)
