-- One row more.
use Rattle.std.proofs.Common.{◌≡◌, ℕ, ◌<◌, ◌-◌, ◌^◌, Bool, true, false, nat_eq, List, [], ◌∷◌, ◌++◌, Some, None, position, nat_lt, cond, map, length, get_or, slice_get, refl, sym, ap, ap₂, subst, ◌∙◌, append-nil, eq-eqb, true≢false, arith, if◌then◌else◌}
use Rattle.std.specs.Prelude.{All}
use Rattle.std.specs.List.{list_any, position_or_len}
use Rattle.std.proofs.lemmas.Grind.{common_steps}
use Rattle.std.proofs.lemmas.List.Sums.{fails_before_first}
use Rattle.std.proofs.lemmas.List.Folds.{list_any_at, list_any_none}
use Rattle.stt_core.specs.SimpleType.{SimpleType}
use Rattle.stt_core.specs.Lambda.{Lambda, bound, constant, lam, app}
use Rattle.std.proofs.lemmas.List.{length-map}
use Rattle.stt_core.proofs.ListLaws.{map-append, mapped_get}
use Rattle.tableau_calculus.proofs.ListLaws.{contains-get}
use Rattle.tableau_calculus.specs.Witnesses.{Row, with_rows, IsTwice}
use Rattle.tableau_calculus.proofs.FailureLaws.{contains_map}
use Rattle.term_bank.specs.Content.{Content, content_scope, HasTerm, Grows}
use Rattle.term_bank.specs.Terms.{term_at}
use Rattle.term_bank.specs.Laws.{EqualIdsForEqualTerms}
use Rattle.term_bank.proofs.GrowLaws.{has_within, has_at, grown_all}
use Rattle.literal_map.proofs.TableLaws.{found_at}
use Rattle.witness_names.proofs.StayLaws.{rows_same}
use Rattle.std.proofs.lemmas.List.Quantifiers.{position-Some}
use Rattle.std.proofs.lemmas.Option.{slice_get-get_or}
use Rattle.bank_normal.specs.Right.{IsRightNormaliser}
use Rattle.literal_map.specs.Atoms.{IsAtom}
use Rattle.witness_names.specs.Rows.{binder_of, row_of, rows_of, AreRows, with_predicate}
use Rattle.tableau_rules.specs.Changes.{Widens}
use Rattle.tableau_rules.proofs.WideLaws.{wide_atoms, right_by}
use Rattle.tableau_rules.proofs.DeclareLaws.{table_by}
use Rattle.refute_check.specs.declared.shared.Shared.{Shared}
use Rattle.refute_check.specs.Internal.Shared.{declared_in, shared_atoms, the_rows, IsGoodShared}

binder_is : (t : Lambda) → binder_of t ≡ binder_of t
binder_is (bound k) = refl
binder_is (constant c) = refl
binder_is (lam a s) = refl
binder_is (app s u) = refl

-- a test that no element passes at a first place is passed by none
pub position_any : (p : ℕ → Bool) (xs : List ℕ) → position p xs ≡ None → list_any p xs ≡ false
position_any p xs h = list_any_none p xs (λ k d l. fails_before_first p xs k d (go (nat_lt (position_or_len p xs) (length xs)) refl h k l))
  where
    go : (b : Bool) → nat_lt (position_or_len p xs) (length xs) ≡ b → cond b (Some (position_or_len p xs)) None ≡ None → (k : ℕ) → k < length xs → k < position_or_len p xs
    go true e g k l = cc
    go false e g k l = grind (arith, common_steps)

-- a predicate that has no witness is in no row
not_twice : (b : Content) (ids : List ℕ) (id : ℕ) (t : Lambda) → EqualIdsForEqualTerms b → All (λ i. i < length b.terms) ids → HasTerm b id t → list_any (nat_eq id) ids ≡ false → (r : Row) → r.predicate ≡ t → IsTwice (rows_of b.terms ids) r → ⊥
not_twice b ids id t equal within has none r is h =
    let q = contains_map (λ x. x.predicate) (rows_of b.terms ids) r.predicate h in
    let p = contains_map (λ i. row_of (term_at b.terms i)) ids q.0 q.1 in
    let inside : p.0 < length b.terms = subst (λ x. x < length b.terms) p.1.2 (within p.1.0 p.0 p.1.1) in
    let same : term_at b.terms p.0 ≡ term_at b.terms id = ap (λ x. x.predicate) p.2 ∙ q.2 ∙ is ∙ sym (has_at b id t has) in
    let e : p.0 ≡ id = (equal p.0 id inside (has_within b id t has)).1 same in
    true≢false (sym (list_any_at (nat_eq id) ids p.1.0 p.0 p.1.1 (eq-eqb id (get_or ids p.1.0 p.0) (sym (p.1.2 ∙ e)))) ∙ none)

-- a predicate that is there is in a row
is_twice : (b : Content) (ids : List ℕ) (id k : ℕ) (t : Lambda) → HasTerm b id t → slice_get ids k ≡ Some id → (r : Row) → r.predicate ≡ t → IsTwice (rows_of b.terms ids) r
is_twice b ids id k t has at r is =
    contains-get (map (λ q. q.predicate) (rows_of b.terms ids)) k r.predicate
    (mapped_get (λ (q : Row). q.predicate) (rows_of b.terms ids) k (row_of (term_at b.terms id)) (mapped_get (λ i. row_of (term_at b.terms i)) ids k id at) ∙ ap Some (has_at b id t has ∙ sym is))

pub row_of_place : (b : Content) (id : ℕ) (t : Lambda) → HasTerm b id t → row_of (term_at b.terms id) ≡ record { type = binder_of t; predicate = t }
row_of_place b id t has = ap row_of (has_at b id t has) ∙ ap (λ a. record { type = a; predicate = t }) (sym (binder_is t))

module _ (s : Shared) (good : IsGoodShared s) (b : Content) (g : Grows s.bank b) (id : ℕ) (r : Row) (has : HasTerm b id r.predicate) where
  pub found_twice : (k : ℕ) → position (nat_eq id) s.witnesses ≡ Some k → IsTwice (the_rows s) r
  found_twice k h =
      let p = position-Some (nat_eq id) s.witnesses k 0 h in
      let at : slice_get s.witnesses k ≡ Some id = slice_get-get_or s.witnesses k 0 p.0 ∙ ap Some (found_at s.witnesses id k (sym h)) in
      subst (λ rs. IsTwice rs r) (rows_same s.bank b g s.witnesses good.rows) (is_twice b s.witnesses id k r.predicate has at r refl)

  pub found_once : EqualIdsForEqualTerms b → position (nat_eq id) s.witnesses ≡ None → IsTwice (the_rows s) r → ⊥
  found_once equal h twice =
      not_twice b s.witnesses id r.predicate equal (grown_all s.bank b s.witnesses g good.rows.within) has (position_any (nat_eq id) s.witnesses h) r refl
      (subst (λ rs. IsTwice rs r) (sym (rows_same s.bank b g s.witnesses good.rows)) twice)

module _ (s : Shared) (good : IsGoodShared s) (id : ℕ) (none : list_any (nat_eq id) s.witnesses ≡ false) where
  abbrev the_row : Row
  the_row = row_of (term_at s.bank.terms id)

  abbrev with_type : SimpleType → Content
  with_type a = record { bases = s.bank.bases; consts = s.bank.consts; witnesses = s.bank.witnesses ++ a ∷ []; terms = s.bank.terms }

  type_count : length s.bank.witnesses ≡ length s.witnesses
  type_count = ap length (sym good.declared) ∙ length-map (the_rows s) (λ (r : Row). r.type) ∙ length-map s.witnesses (λ i. row_of (term_at s.bank.terms i))

  pub few_types : length s.witnesses < 2 ^ 32 - 1 → length s.bank.witnesses < 2 ^ 32 - 1
  few_types h = omega (arith, h, type_count)

  module _ (new : Shared) (a : SimpleType) (takes : a ≡ the_row.type) (bank : new.bank ≡ with_type a) (ids : new.witnesses ≡ with_predicate s.witnesses id) (types : new.types ≡ s.types ++ a ∷ []) (lits : new.lits ≡ s.lits) (normal : new.normal ≡ s.normal) where
    terms : new.bank.terms ≡ s.bank.terms
    terms = ap (λ (b : Content). b.terms) bank

    added : new.witnesses ≡ s.witnesses ++ id ∷ []
    added = ids ∙ ap (λ t. if t then s.witnesses else s.witnesses ++ id ∷ []) none

    pub row_added : the_rows new ≡ the_rows s ++ the_row ∷ []
    row_added = ap (λ ts. rows_of ts new.witnesses) terms ∙ ap (rows_of s.bank.terms) added ∙ map-append (λ i. row_of (term_at s.bank.terms i)) s.witnesses (id ∷ [])

    pub row_atoms : shared_atoms new ≡ shared_atoms s
    row_atoms = ap (λ ts. map (term_at ts) new.lits) terms ∙ ap (map (term_at s.bank.terms)) lits

    pub row_declared : declared_in new ≡ declared_in s
    row_declared = ap (λ b. with_rows (content_scope b) []) bank

    module _ (rows : AreRows s.bank new.witnesses) where
      all_types : map (λ (r : Row). r.type) (rows_of s.bank.terms new.witnesses) ≡ s.bank.witnesses ++ a ∷ []
      all_types =
          ap (λ ws. map (λ (r : Row). r.type) (rows_of s.bank.terms ws)) added
          ∙ ap (map (λ (r : Row). r.type)) (map-append (λ i. row_of (term_at s.bank.terms i)) s.witnesses (id ∷ []))
          ∙ map-append (λ (r : Row). r.type) (the_rows s) (the_row ∷ [])
          ∙ ap₂ (λ x y. x ++ y ∷ []) good.declared (sym takes)

      rows_with : AreRows (with_type a) new.witnesses
      rows_with = record {
        within = rows.within;
        table = table_by (content_scope s.bank) (content_scope (with_type a)) refl refl [] (rows_of s.bank.terms new.witnesses) rows.table;
        further = [];
        types = all_types ∙ sym (append-nil (s.bank.witnesses ++ a ∷ []));
      }

      wider : Widens s.bank (with_type a)
      wider = record { bases = refl; consts = refl; types = a ∷ []; witnesses = refl; further = []; terms = sym (append-nil s.bank.terms) }

      pub row_good : IsGoodShared new
      row_good = record {
        normal = subst (λ n. IsRightNormaliser n new.bank) (sym normal) (right_by s.normal s.bank new.bank (ap (λ (b : Content). b.consts) bank) terms good.normal);
        atoms = subst (λ xs. All (IsAtom new.bank) xs) (sym lits) (subst (λ b. All (IsAtom b) s.lits) (sym bank) (wide_atoms s.bank (with_type a) wider s.lits good.atoms));
        rows = subst (λ b. AreRows b new.witnesses) (sym bank) rows_with;
        declared = ap (λ ts. map (λ (r : Row). r.type) (rows_of ts new.witnesses)) terms ∙ all_types ∙ sym (ap (λ (b : Content). b.witnesses) bank);
        types = types ∙ ap (λ xs. xs ++ a ∷ []) good.types ∙ sym (ap (λ (b : Content). b.witnesses) bank);
      }
