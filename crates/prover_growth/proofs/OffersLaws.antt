-- Witnesses that are terms at once.
use Rattle.std.specs.Prelude.{◌≡◌, ◌<◌, ◌≤◌, ◌+◌, ◌&&◌, ◌||◌, ◌==◌, not, nat_lt, ℕ, suc, Bool, true, false, List, [], ◌∷◌, map, drop, length, slice_get, Some, refl, if◌then◌else◌}
use Rattle.std.specs.List.{list_any}
use Rattle.std.proofs.Common.{sym, ap, ◌∙◌, subst, arith}
use Rattle.std.proofs.Math.ListN.{drop_of_length-le}
use Rattle.std.proofs.lemmas.Bool.{ne_eqb, ltb-true, ltb-false}
use Rattle.std.proofs.lemmas.Option.{same_Some}
use Rattle.stt_core.specs.SimpleType.{SimpleType, base, arrow, same_type}
use Rattle.stt_core.specs.Lambda.{witness, Lambda, constant, lam}
use Rattle.stt_core.proofs.ListLaws.{drop_got, mapped_get}
use Rattle.stt_core.proofs.TypeLaws.{get_declared}
use Rattle.normal_forms.specs.Normal.{eta}
use Rattle.tableau_calculus.specs.Literals.{Literal}
use Rattle.tableau_calculus.specs.Witnesses.{Row}
use Rattle.sat_base.specs.declared.literal.SatLit.{SatLit}
use Rattle.mode_file.specs.declared.Mode.{Mode}
use Rattle.search_spec.specs.State.{State, Typed}
use Rattle.search_spec.specs.Terms.{ranges_over, with_terms}
use Rattle.search_spec.specs.Offers.{offers_terms, is_prepared, witness_terms, takes_witness, offered_witness}
use Rattle.search_spec.proofs.RowLaws.{table_declared}
use Rattle.term_bank.specs.Content.{content_scope}
use Rattle.term_bank.specs.Terms.{term_at}
use Rattle.bank_normal.specs.Fits.{IsNeutralOf}
use Rattle.literal_map.specs.Atoms.{bank_literal}
use Rattle.instantiate.specs.Listing.{Listing, ids_of}
use Rattle.witness_names.specs.Rows.{binder_of, row_of}
use Rattle.prover_state.specs.declared.tables.Basis.{Basis}
use Rattle.prover_state.specs.Internal.Names.{typed_at}
use Rattle.prover_state.specs.Internal.Standing.{rows_in, is_universal, places_where, IsBasis}
use Rattle.prover_growth.proofs.BaseTermLaws.{some_listed, none_listed}

-- WHETHER TERMS ARE OFFERED

pub offers-not : (mode : Mode) → mode.terms ≡ 0 → offers_terms mode ≡ false
offers-not mode e = ap (λ n. not (n == 0)) e

pub offers-so : (mode : Mode) → (mode.terms ≡ 0 → ⊥) → offers_terms mode ≡ true
offers-so mode h = ap not (ne_eqb mode.terms 0 h)

pub takes-none : (mode : Mode) (a : SimpleType) (s : State) → offers_terms mode ≡ false → takes_witness mode a s ≡ false
takes-none mode (base n) s e = e
takes-none mode (arrow a b) s e = ap (λ (x : Bool). x && is_prepared mode (arrow a b) s) e

pub takes-base : (mode : Mode) (a : SimpleType) (n : ℕ) (s : State) → a ≡ base n → offers_terms mode ≡ true → takes_witness mode a s ≡ true
takes-base mode a n s is e = ap (λ (x : SimpleType). takes_witness mode x s) is ∙ e

pub takes-arrow : (mode : Mode) (c a b : SimpleType) (s : State) → c ≡ arrow a b → offers_terms mode ≡ true → takes_witness mode c s ≡ is_prepared mode c s
takes-arrow mode c a b s is e =
    let P : SimpleType → Type 0 = λ x. takes_witness mode x s ≡ is_prepared mode x s in
    subst P (sym is) (ap (λ (x : Bool). x && is_prepared mode (arrow a b) s) e)

-- whether a type is prepared
pub prepared-terms : (mode : Mode) (a : SimpleType) (n : ℕ) (s : State) (b : Bool) → a ≡ base n → offers_terms mode ≡ false → list_any (λ u. same_type a u.type) s.terms ≡ b → b ≡ is_prepared mode a s
prepared-terms mode a n s b is e h =
    let P : SimpleType → Type 0 = λ x. list_any (λ u. same_type x u.type) s.terms ≡ b → b ≡ is_prepared mode x s in
    subst P (sym is) (λ k. sym (ap (λ (x : Bool). if x then list_any (λ l. l.positive && ranges_over (base n) l.atom) s.noted else list_any (λ u. same_type (base n) u.type) s.terms) e ∙ k)) h

pub prepared-ranged : (mode : Mode) (a : SimpleType) (n : ℕ) (s : State) (b : Bool) → a ≡ base n → offers_terms mode ≡ true → list_any (λ l. l.positive && ranges_over a l.atom) s.noted ≡ b → b ≡ is_prepared mode a s
prepared-ranged mode a n s b is e h =
    let P : SimpleType → Type 0 = λ x. list_any (λ l. l.positive && ranges_over x l.atom) s.noted ≡ b → b ≡ is_prepared mode x s in
    subst P (sym is) (λ k. sym (ap (λ (x : Bool). if x then list_any (λ l. l.positive && ranges_over (base n) l.atom) s.noted else list_any (λ u. same_type (base n) u.type) s.terms) e ∙ k)) h

pub prepared-parked : (mode : Mode) (c a b : SimpleType) (s : State) (r : Bool) → c ≡ arrow a b → list_any (λ p. same_type c p.type) s.parked ≡ r → r ≡ is_prepared mode c s
prepared-parked mode c a b s r is h =
    let P : SimpleType → Type 0 = λ x. list_any (λ p. same_type x p.type) s.parked ≡ r → r ≡ is_prepared mode x s in
    subst P (sym is) (λ k. sym k) h

-- the processed literals that range over a type, by their places
module _ (terms : List Lambda) (atoms : List ℕ) (a : SimpleType) where
  abbrev d : SatLit → Literal
  d = bank_literal terms atoms

  abbrev ranges : Literal → Bool
  ranges l = l.positive && ranges_over a l.atom

  pub ranged-some : (n : ℕ) (ls : List SatLit) → 0 < length (places_where (is_universal terms atoms a) n ls) → list_any ranges (map d ls) ≡ true
  ranged-some n [] h = absurd (omega (arith, h))
  ranged-some n (l ∷ ls) h = go (is_universal terms atoms a l) h (ranged-some (suc n) ls)
    where
      go : (b : Bool) → 0 < length (if b then n ∷ places_where (is_universal terms atoms a) (suc n) ls else places_where (is_universal terms atoms a) (suc n) ls)
          → (0 < length (places_where (is_universal terms atoms a) (suc n) ls) → list_any ranges (map d ls) ≡ true) → (b || list_any ranges (map d ls)) ≡ true
      go true k rest = refl
      go false k rest = rest k

  pub ranged-none : (n : ℕ) (ls : List SatLit) → length (places_where (is_universal terms atoms a) n ls) ≤ 0 → list_any ranges (map d ls) ≡ false
  ranged-none n [] h = refl
  ranged-none n (l ∷ ls) h = go (is_universal terms atoms a l) h (ranged-none (suc n) ls)
    where
      go : (b : Bool) → length (if b then n ∷ places_where (is_universal terms atoms a) (suc n) ls else places_where (is_universal terms atoms a) (suc n) ls) ≤ 0
          → (length (places_where (is_universal terms atoms a) (suc n) ls) ≤ 0 → list_any ranges (map d ls) ≡ false) → (b || list_any ranges (map d ls)) ≡ false
      go true k rest = absurd (omega (arith, k))
      go false k rest = rest k

-- whether there is one, by how many there are
module _ (terms : List Lambda) (atoms : List ℕ) (a : SimpleType) (n : ℕ) where
  pub listed-told : (listed : List Listing) → n ≡ length (ids_of a listed) → nat_lt 0 n ≡ list_any (λ (u : Typed). same_type a u.type) (map (typed_at terms) listed)
  listed-told listed e = by_test (nat_lt 0 n) refl
    where
      by_test : (b : Bool) → nat_lt 0 n ≡ b → nat_lt 0 n ≡ list_any (λ (u : Typed). same_type a u.type) (map (typed_at terms) listed)
      by_test true t = t ∙ sym (some_listed terms a listed (let h = ltb-true 0 n t in omega (arith, h, e)))
      by_test false t = t ∙ sym (none_listed terms a listed (let h = ltb-false 0 n t in omega (arith, h, e)))

  pub ranged-told : (ls : List SatLit) → n ≡ length (places_where (is_universal terms atoms a) 0 ls) → nat_lt 0 n ≡ list_any (ranges terms atoms a) (map (d terms atoms a) ls)
  ranged-told ls e = by_test (nat_lt 0 n) refl
    where
      by_test : (b : Bool) → nat_lt 0 n ≡ b → nat_lt 0 n ≡ list_any (ranges terms atoms a) (map (d terms atoms a) ls)
      by_test true t = t ∙ sym (ranged-some terms atoms a 0 ls (let h = ltb-true 0 n t in omega (arith, h, e)))
      by_test false t = t ∙ sym (ranged-none terms atoms a 0 ls (let h = ltb-false 0 n t in omega (arith, h, e)))

-- WITNESSES IN THE BANK

module _ (g : Basis) (w id : ℕ) (at : slice_get g.witnesses w ≡ Some id) where
  abbrev own : Row
  own = row_of (term_at g.bank.terms id)

  pub row-there-is : slice_get (rows_in g) w ≡ Some own
  row-there-is = mapped_get (λ (i : ℕ). row_of (term_at g.bank.terms i)) g.witnesses w id at

  -- the type of the row is that of the predicate's binder
  pub row-type : (r : Row) → slice_get (rows_in g) w ≡ Some r → (a : SimpleType) (s : Lambda) → term_at g.bank.terms id ≡ lam a s → r.type ≡ a
  row-type r e a s is = ap (λ (q : Row). q.type) (same_Some r own (sym e ∙ row-there-is)) ∙ ap binder_of is

-- a witness stands for a term of the type of its row
pub witness-neutral : (g : Basis) → IsBasis g → (w : ℕ) (r : Row) → slice_get (rows_in g) w ≡ Some r → (a : SimpleType) → r.type ≡ a → IsNeutralOf (content_scope g.bank) a (constant (witness w))
witness-neutral g good w r e a is =
    let there : slice_get (map (λ (q : Row). q.type) (rows_in g)) w ≡ Some r.type = mapped_get (λ (q : Row). q.type) (rows_in g) w r e in
    subst (λ (x : SimpleType). IsNeutralOf (content_scope g.bank) x (constant (witness w))) is
    (record {
      ctx = [];
      declared = get_declared (length g.bank.bases) (map (λ (q : Row). q.type) (rows_in g)) w r.type (table_declared (content_scope g.bank) [] (rows_in g) good.rows.table) there;
      neutral = ap (λ (ts : List SimpleType). slice_get ts w) (sym good.typed) ∙ there;
    })

-- WITNESSES ONE AFTER THE OTHER

module _ (mode : Mode) (a : SimpleType) where
  -- the witness of a row, where the row has the type
  abbrev pub one-offered : ℕ → Row → List Lambda
  one-offered w r = if same_type a r.type then eta a (constant (witness w)) ∷ [] else []

  split : (b : Bool) (u : Lambda) (us : List Lambda) (s : State) → with_terms mode a (if b then u ∷ us else us) s ≡ with_terms mode a us (with_terms mode a (if b then u ∷ [] else []) s)
  split true u us s = refl
  split false u us s = refl

  module _ (rows : List Row) (w : ℕ) (goal : State) where
    pub early-more : (r : Row) → slice_get rows w ≡ Some r → (s s' : State) (mode' : Mode) → mode' ≡ mode → s' ≡ with_terms mode' a (one-offered w r) s
        → with_terms mode a (witness_terms a w (drop w rows)) s ≡ goal → with_terms mode a (witness_terms a (w + 1) (drop (w + 1) rows)) s' ≡ goal
    early-more r at s s' mode' m is h =
        let rest : List Row = drop (w + 1) rows in
        let one : w + 1 ≡ suc w = omega arith in
        ap (λ n. with_terms mode a (witness_terms a n rest) s') one
        ∙ ap (with_terms mode a (witness_terms a (suc w) rest)) (is ∙ ap (λ (x : Mode). with_terms x a (one-offered w r) s) m)
        ∙ sym (split (same_type a r.type) (eta a (constant (witness w))) (witness_terms a (suc w) rest) s)
        ∙ sym (ap (λ (xs : List Row). with_terms mode a (witness_terms a w xs) s) (drop_got rows w r at))
        ∙ h

    pub early-all : length rows ≤ w → (s : State) → with_terms mode a (witness_terms a w (drop w rows)) s ≡ goal → s ≡ goal
    early-all h s e = sym (ap (λ (xs : List Row). with_terms mode a (witness_terms a w xs) s) (drop_of_length-le rows h)) ∙ e

  -- where the row has the type, or hasn't
  pub offered-one : (w : ℕ) (r : Row) (s : State) → same_type a r.type ≡ true → with_terms mode a (eta a (constant (witness w)) ∷ []) s ≡ with_terms mode a (one-offered w r) s
  offered-one w r s e = sym (ap (λ (b : Bool). with_terms mode a (if b then eta a (constant (witness w)) ∷ [] else []) s) e)

  pub offered-none : (w : ℕ) (r : Row) (s : State) → same_type a r.type ≡ false → s ≡ with_terms mode a (one-offered w r) s
  offered-none w r s e = sym (ap (λ (b : Bool). with_terms mode a (if b then eta a (constant (witness w)) ∷ [] else []) s) e)

  -- where a new witness is a term, or isn't
  pub new-one : (w : Lambda) (s : State) → takes_witness mode a s ≡ true → with_terms mode a (eta a w ∷ []) s ≡ with_terms mode a (offered_witness mode a w s) s
  new-one w s e = sym (ap (λ (b : Bool). with_terms mode a (if b then eta a w ∷ [] else []) s) e)

  pub new-none : (w : Lambda) (s : State) → takes_witness mode a s ≡ false → s ≡ with_terms mode a (offered_witness mode a w s) s
  new-none w s e = sym (ap (λ (b : Bool). with_terms mode a (if b then eta a w ∷ [] else []) s) e)

  -- where no terms are offered early
  pub early-none : (s : State) → offers_terms mode ≡ false → s ≡ with_terms mode a (if offers_terms mode then witness_terms a 0 s.rows else []) s
  early-none s e = sym (ap (λ (b : Bool). with_terms mode a (if b then witness_terms a 0 s.rows else []) s) e)

  pub early-some : (s : State) → offers_terms mode ≡ true → with_terms mode a (witness_terms a 0 s.rows) s ≡ with_terms mode a (if offers_terms mode then witness_terms a 0 s.rows else []) s
  early-some s e = sym (ap (λ (b : Bool). with_terms mode a (if b then witness_terms a 0 s.rows else []) s) e)
