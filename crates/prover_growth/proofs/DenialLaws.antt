-- The instance of the rule for a predicate that doesn't hold everywhere, and the row of its witness.
use Rattle.std.specs.Prelude.{◌≡◌, ◌≤◌, ◌&&◌, nat_eq, ℕ, suc, Bool, true, false, List, [], ◌∷◌, ◌++◌, map, length, slice_get, Some, refl, if◌then◌else◌}
use Rattle.std.specs.List.{list_any, position_or_len}
use Rattle.std.proofs.Common.{sym, ap, ap₂, subst, ◌∙◌, arith, append-nil, length-append}
use Rattle.std.proofs.lemmas.List.{length-map}
use Rattle.stt_core.specs.SimpleType.{SimpleType, predicate, formula, same_type}
use Rattle.stt_core.specs.Lambda.{witness, Lambda, bound, constant, lam, app, every}
use Rattle.stt_core.specs.SameTerm.{same_term}
use Rattle.stt_core.specs.Typing.{Scope}
use Rattle.stt_core.specs.Canonical.{IsCanonical}
use Rattle.stt_core.proofs.ListLaws.{map-append, slice_get-end}
use Rattle.stt_core.proofs.SameTerms.{same_term-true}
use Rattle.stt_core.proofs.TypeLaws.{same_type_refl}
use Rattle.tableau_calculus.specs.Literals.{Literal, minus}
use Rattle.tableau_calculus.specs.Rules.{all_neg_rule, IsInstance, all_neg}
use Rattle.tableau_calculus.specs.Witnesses.{Row}
use Rattle.tableau_calculus.specs.CutFree.{is_cut_use}
use Rattle.tableau_calculus.specs.RuleUses.{principals_of, EachPart}
use Rattle.tableau_calculus.specs.declared.rule_use.OnePlace.TheVariants.{AllNeg}
use Rattle.tableau_calculus.specs.declared.rule_use.RuleUse.TheVariants.{AtOne}
use Rattle.tableau_calculus.proofs.FunctionLaws.{every_canonical}
use Rattle.tableau_calculus.proofs.InstanceLaws.{AreDistinct, one_instance}
use Rattle.sat_base.specs.declared.literal.SatLit.{SatLit}
use Rattle.term_bank.specs.Content.{Content, content_scope}
use Rattle.term_bank.specs.Laws.{EqualIdsForEqualTerms}
use Rattle.term_bank.specs.Terms.{term_at}
use Rattle.literal_map.specs.Atoms.{bank_literal, Begins}
use Rattle.literal_map.specs.Numbers.{UseByNumbers}
use Rattle.literal_map.specs.declared.instance.Instance.{Instance}
use Rattle.witness_names.specs.Rows.{binder_of, row_of, rows_of, with_predicate}
use Rattle.tableau_rules.specs.Changes.{Widens, HasWitness}
use Rattle.tableau_rules.specs.Uses.{IsInstanceBy}
use Rattle.refute_print.specs.Sizes.{IsSmallTerm}
use Rattle.tableau_calculus.specs.Each.{Each}
use Rattle.search_spec.specs.Witness.{same_row, witness_of}
use Rattle.search_spec.proofs.NamingLaws.{either}
use Rattle.search_spec.proofs.RowLaws.{row_at, no_row}
use Rattle.prover_growth.specs.Internal.Denials.{Denies, with_row}
use Rattle.prover_state.specs.declared.tables.Basis.{Basis}
use Rattle.prover_state.specs.Internal.Growing.{Longer, Continues, BasisWidens}
use Rattle.prover_state.specs.Internal.Names.{Naming, IsNumberIn, IsPlace}
use Rattle.prover_state.specs.Internal.Standing.{rows_in, IsBasis}
use Rattle.prover_state.specs.Internal.Steps.{IsMadeInstance}
use Rattle.prover_state.proofs.EachLaws.{each-weaker, each-from_All}
use Rattle.prover_state.proofs.NamesLaws.{place-stays, literal-stays}
use Rattle.prover_state.proofs.PlaceLaws.{same-places}
use Rattle.prover_state.proofs.RowLaws.{table-distinct}
use Rattle.prover_growth.proofs.WidenLaws.{rows-stay}

-- what the rule takes
abbrev pub denial_use : SatLit → UseByNumbers
denial_use lit = AtOne AllNeg lit

abbrev pub denied_row : SimpleType → Lambda → Row
denied_row a f = record { type = a; predicate = f }

-- ROWS

-- the witness of a row stands in the table with the row
pub witness-place : (rows : List Row) (r : Row) → slice_get (with_row rows r) (position_or_len (same_row r) rows) ≡ Some r
witness-place rows r = by_test (list_any (same_row r) rows) refl
  where
    by_test : (b : Bool) → list_any (same_row r) rows ≡ b → slice_get (if b then rows else rows ++ r ∷ []) (position_or_len (same_row r) rows) ≡ Some r
    by_test true e = row_at rows r e
    by_test false e = ap (slice_get (rows ++ r ∷ [])) (no_row rows r e) ∙ slice_get-end rows r

pub row-there : (rows : List Row) (r : Row) → list_any (same_row r) rows ≡ true → with_row rows r ≡ rows
row-there rows r e = ap (λ (b : Bool). if b then rows else rows ++ r ∷ []) e

pub row-new : (rows : List Row) (r : Row) → list_any (same_row r) rows ≡ false → with_row rows r ≡ rows ++ r ∷ []
row-new rows r e = ap (λ (b : Bool). if b then rows else rows ++ r ∷ []) e

pub rows-length : (g : Basis) → length (rows_in g) ≡ length g.witnesses
rows-length g = length-map g.witnesses (λ id. row_of (term_at g.bank.terms id))

-- INSTANCES

module _ (scope : Scope) (rows : List Row) (l : Literal) (a : SimpleType) (f : Lambda) (k : ℕ) (denies : l ≡ minus (every a f)) (at : slice_get rows k ≡ Some (denied_row a f)) where
  pub denial-instance : IsInstance scope rows (l ∷ []) (AtOne AllNeg 0) (all_neg a f (constant (witness k)))
  denial-instance = record { principals = minus (every a f) ∷ []; at_places = (ap Some denies, tt); fits = all_neg_rule 0 k a f at }

  pub denial-alternatives : AreDistinct rows → (as' : List (List Literal)) → IsInstance scope rows (l ∷ []) (AtOne AllNeg 0) as' → as' ≡ all_neg a f (constant (witness k))
  denial-alternatives distinct as' h = one_instance scope rows distinct (l ∷ []) (AtOne AllNeg 0) as' (all_neg a f (constant (witness k))) h denial-instance

-- the rule is one for the literal
pub denial-fits : (b : Content) (atoms : List ℕ) (lit : SatLit) (a : SimpleType) (f : Lambda) → bank_literal b.terms atoms lit ≡ minus (every a f) → IsInstanceBy b atoms (denied_row a f ∷ []) (denial_use lit) (all_neg a f (constant (witness 0)))
denial-fits b atoms lit a f denies = denial-instance (content_scope b) (denied_row a f ∷ []) (bank_literal b.terms atoms lit) a f 0 denies refl

pub alternatives-by : (b : Content) (atoms : List ℕ) (rows : List Row) (lit : SatLit) (a : SimpleType) (f : Lambda) (k : ℕ) → bank_literal b.terms atoms lit ≡ minus (every a f) → slice_get rows k ≡ Some (denied_row a f) → AreDistinct rows
    → (as' : List (List Literal)) → IsInstanceBy b atoms rows (denial_use lit) as' → as' ≡ all_neg a f (constant (witness k))
alternatives-by b atoms rows lit a f k denies at distinct as' h =
    denial-alternatives (content_scope b) rows (bank_literal b.terms atoms lit) a f k denies at distinct as' h

-- names without partial terms
abbrev plain : Basis → Naming
plain g = record { terms = g.bank.terms; atoms = g.lits; sketches = [] }

-- the type that a predicate is one on is that of its binder
binder_is : (scope : Scope) (a : SimpleType) (t : Lambda) → IsCanonical scope [] (predicate a) t → binder_of t ≡ a
binder_is scope a (bound k) h = absurd h.0
binder_is scope a (constant c) h = absurd h.0
binder_is scope a (app s u) h = absurd h.0
binder_is scope a (lam c s) h = sym h.1.0

same_arguments : (a b : SimpleType) (f g : Lambda) → every a f ≡ every b g → f ≡ g
same_arguments a b f g e = cc

same_predicates : (a b : SimpleType) (f g : Lambda) → minus (every a f) ≡ minus (every b g) → f ≡ g
same_predicates a b f g e = same_arguments a b f g (ap (λ (l : Literal). l.atom) e)

module _ (old new : Basis) (w : BasisWidens old new) (good : IsBasis old) (lit : SatLit) (number : IsNumberIn old.lits lit) (a : SimpleType) (f : Lambda) (denies : Denies old lit a f) where
  literal_same : bank_literal new.bank.terms new.lits lit ≡ bank_literal old.bank.terms old.lits lit
  literal_same =
      let c : Continues (plain old) (plain new) = record {
        within = λ k d h. (good.atoms k d h).within;
        terms = (w.bank.further, w.bank.terms);
        atoms = (w.lits.further, w.lits.is);
        sketches = ([], refl);
      } in
      literal-stays (plain old) (plain new) c lit number

  pub denies-on : Denies new lit a f
  denies-on = literal_same ∙ denies

  predicate_binder : binder_of f ≡ a
  predicate_binder =
      let scope = content_scope old.bank in
      let C : Lambda → Type 0 = λ t. IsCanonical scope [] formula t in
      binder_is scope a f (every_canonical scope a f (subst C (ap (λ (l : Literal). l.atom) denies) (good.atoms lit.var.0 0 number).is_formula)).1

  module _ (equal : EqualIdsForEqualTerms new.bank) (pid : ℕ) (within : IsPlace new.bank.terms pid) (is : f ≡ term_at new.bank.terms pid) where
    abbrev term : ℕ → Lambda
    term i = term_at new.bank.terms i

    one_row : (i : ℕ) → IsPlace new.bank.terms i → same_row (denied_row a f) (row_of (term i)) ≡ nat_eq pid i
    one_row i h = go (same_term f (term i)) refl ∙ ap (λ u. same_term u (term i)) is ∙ same-places new.bank equal pid i within h
      where
        dropped : (b : Bool) → (b && false) ≡ false
        dropped true = refl
        dropped false = refl

        go : (b : Bool) → same_term f (term i) ≡ b → (same_type a (binder_of (term i)) && same_term f (term i)) ≡ same_term f (term i)
        go true e =
            ap (λ (t : Lambda). same_type a (binder_of t) && same_term f (term i)) (sym (same_term-true f (term i) e))
            ∙ ap (λ (b : SimpleType). same_type a b && same_term f (term i)) predicate_binder
            ∙ ap (λ (b : Bool). b && same_term f (term i)) (same_type_refl a)
        go false e = ap (λ (b : Bool). same_type a (binder_of (term i)) && b) e ∙ dropped (same_type a (binder_of (term i))) ∙ sym e

    any_row : (ids : List ℕ) → Each (IsPlace new.bank.terms) ids → list_any (same_row (denied_row a f)) (rows_of new.bank.terms ids) ≡ list_any (nat_eq pid) ids
    any_row [] h = refl
    any_row (i ∷ ids) h = either (one_row i h.0) (any_row ids h.1)

    row_is : row_of (term pid) ≡ denied_row a f
    row_is = ap row_of (sym is) ∙ ap (λ (b : SimpleType). denied_row b f) predicate_binder

    places : Each (IsPlace new.bank.terms) old.witnesses
    places =
        each-weaker (IsPlace old.bank.terms) (IsPlace new.bank.terms) (λ i h. place-stays old.bank.terms new.bank.terms (w.bank.further, w.bank.terms) i h) old.witnesses
        (each-from_All (IsPlace old.bank.terms) old.witnesses good.rows.within)

    any_stays : list_any (nat_eq pid) old.witnesses ≡ list_any (same_row (denied_row a f)) (rows_in old)
    any_stays = sym (any_row old.witnesses places) ∙ ap (list_any (same_row (denied_row a f))) (rows-stay old new w good)

    rows_by : (b : Bool) → rows_of new.bank.terms (if b then old.witnesses else old.witnesses ++ pid ∷ []) ≡ (if b then rows_in old else rows_in old ++ denied_row a f ∷ [])
    rows_by true = rows-stay old new w good
    rows_by false = map-append (λ id. row_of (term id)) old.witnesses (pid ∷ []) ∙ ap₂ (λ (rows : List Row) (r : Row). rows ++ r ∷ []) (rows-stay old new w good) row_is

    pub rows-with : new.witnesses ≡ with_predicate old.witnesses pid → rows_in new ≡ with_row (rows_in old) (denied_row a f)
    rows-with e =
        ap (rows_of new.bank.terms) e
        ∙ rows_by (list_any (nat_eq pid) old.witnesses)
        ∙ ap (λ (b : Bool). if b then rows_in old else rows_in old ++ denied_row a f ∷ []) any_stays

  -- the rows after the rule
  pub denied-rows : EqualIdsForEqualTerms new.bank → HasWitness new.bank new.lits lit old.witnesses new.witnesses → rows_in new ≡ with_row (rows_in old) (denied_row a f)
  denied-rows equal h =
      rows-with equal h.predicate h.within (same_predicates a h.type f (term_at new.bank.terms h.predicate) (sym denies-on ∙ h.denies)) h.added

  -- the alternatives of the rule
  pub denied-alternatives : IsBasis new → rows_in new ≡ with_row (rows_in old) (denied_row a f) → (as' : List (List Literal)) → IsInstanceBy new.bank new.lits (rows_in new) (denial_use lit) as' → as' ≡ all_neg a f (witness_of (rows_in old) (denied_row a f))
  denied-alternatives better rows as' h =
      alternatives-by new.bank new.lits (rows_in new) lit a f (position_or_len (same_row (denied_row a f)) (rows_in old)) denies-on
      (ap (λ (rs : List Row). slice_get rs (position_or_len (same_row (denied_row a f)) (rows_in old))) rows ∙ witness-place (rows_in old) (denied_row a f))
      (table-distinct (content_scope new.bank) (rows_in new) better.rows.table) as' h

-- WHAT BECOMES OF A BASIS

pub predicates-longer : (ids new : List ℕ) (id : ℕ) → new ≡ with_predicate ids id → Longer ids new × (length new ≤ suc (length ids))
predicates-longer ids new id e = subst P (sym e) (by_test (list_any (nat_eq id) ids))
  where
    P : List ℕ → Type 0
    P xs = Longer ids xs × (length xs ≤ suc (length ids))

    by_test : (b : Bool) → P (if b then ids else ids ++ id ∷ [])
    by_test true = (([], sym (append-nil ids)), omega arith)
    by_test false = ((id ∷ [], refl), let n = length-append ids (id ∷ []) in omega (arith, n))

pub denial-widens : (old new : Basis) (lit : SatLit) → Widens old.bank new.bank → Begins old.lits new.lits → HasWitness new.bank new.lits lit old.witnesses new.witnesses → BasisWidens old new
denial-widens old new lit w begins h =
    let l = predicates-longer old.witnesses new.witnesses h.predicate h.added in
    record { bank = w; lits = begins; witnesses = l.0; few = l.1 }

-- the instance is one of the rule with what it takes
pub denial-made : (old new : Basis) → Begins old.lits new.lits → (lit : SatLit) → IsNumberIn old.lits lit → (i : Instance) → i.by ≡ denial_use lit → i.principals ≡ principals_of (denial_use lit) → Each (Each (IsNumberIn new.lits)) i.alternatives
    → IsInstanceBy new.bank new.lits (rows_in new) (denial_use lit) (map (map (bank_literal new.bank.terms new.lits)) i.alternatives) → IsMadeInstance new i
denial-made old new begins lit number i e principals listed fits = record {
  principals = principals ∙ ap principals_of (sym e);
  numbered = subst (λ (b : UseByNumbers). Each (IsNumberIn new.lits) (principals_of b)) (sym e) (here, tt);
  parts = subst (EachPart (IsPlace new.bank.terms) (IsNumberIn new.lits)) (sym e) tt;
  small = subst (EachPart (λ u. IsSmallTerm (term_at new.bank.terms u)) (λ l. Unit {0})) (sym e) tt;
  uncut = ap is_cut_use e;
  numbers = listed;
  fits = subst (λ (b : UseByNumbers). IsInstanceBy new.bank new.lits (rows_in new) b (map (map (bank_literal new.bank.terms new.lits)) i.alternatives)) (sym e) fits;
}
  where
    here : IsNumberIn new.lits lit
    here = let n = ap length begins.is in let m = length-append old.lits begins.further in omega (arith, number, n, m)
