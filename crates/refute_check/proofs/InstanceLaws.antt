-- Instances over shared terms.
use Rattle.std.proofs.Common.{◌≡◌, ℕ, ◌<◌, Bool, true, false, nat_eq, List, [], ◌∷◌, ◌++◌, Option, Some, None, map, length, get_or, slice_get, refl, sym, ap, subst, ◌∙◌, append-nil, length-append, eq-eqb, arith, if◌then◌else◌}
use Rattle.std.specs.List.{list_any}
use Rattle.std.proofs.lemmas.Option.{same_Some, get_or_from_slice_get, slice_get_within}
use Rattle.std.proofs.lemmas.List.Folds.{list_any_at}
use Rattle.sat_base.specs.declared.literal.SatLit.{SatLit}
use Rattle.stt_core.specs.SimpleType.{SimpleType}
use Rattle.stt_core.specs.Lambda.{Lambda, every}
use Rattle.stt_core.specs.Typing.{Scope}
use Rattle.tableau_calculus.specs.Literals.{Literal, minus}
use Rattle.tableau_calculus.specs.Witnesses.{Row}
use Rattle.tableau_calculus.specs.RuleUses.{principals_of, EachPart}
use Rattle.tableau_calculus.specs.Rules.{PlainRule, Rule, AreAt, IsInstance, alone_rule, all_neg_rule}
use Rattle.tableau_calculus.specs.declared.rule_use.OnePlace.TheVariants.{AllNeg}
use Rattle.tableau_calculus.specs.declared.rule_use.RuleUse.TheVariants.{AtOne, AtTwo, AllPos, WithPredicate, Cut}
use Rattle.term_bank.specs.Content.{Content}
use Rattle.term_bank.specs.Terms.{term_at}
use Rattle.term_bank.specs.Laws.{EqualIdsForEqualTerms}
use Rattle.term_bank.proofs.ListLaws.{map-same, get_or-front}
use Rattle.literal_map.specs.Atoms.{Begins}
use Rattle.literal_map.specs.Numbers.{UseByNumbers}
use Rattle.tableau_calculus.specs.Each.{Each}
use Rattle.witness_names.specs.Rows.{row_of, rows_of, AreRows}
use Rattle.tableau_rules.specs.Uses.{use_of, IsInstanceBy}
use Rattle.tableau_rules.specs.Changes.{Widens, HasWitness, denial_of, AreWitnessesAfter, AreWitnessesBy}
use Rattle.tableau_rules.proofs.WideLaws.{wide_at}
use Rattle.refute_check.specs.declared.shared.Shared.{Shared}
use Rattle.refute_check.specs.Internal.Shared.{shared_scope, the_rows, literal_in, IsSharedNumber, IsGoodShared, ExtendsShared}
use Rattle.refute_check.specs.Internal.Taking.{IsTaken}
use Rattle.refute_check.proofs.NumberLaws.{mapped_at}
use Rattle.refute_check.proofs.SharedLaws.{map_each, extends_scope, extends_rows, extends_literal}

-- WITNESSES AFTER A RULE

kept_or_longer : (old : List ℕ) (id : ℕ) (t : Bool) → length (if t then old else old ++ id ∷ []) ≡ length old → (if t then old else old ++ id ∷ []) ≡ old
kept_or_longer old id true h = refl
kept_or_longer old id false h = absurd (omega (arith, h, length-append old (id ∷ [])))

module _ (b : Content) (atoms : List ℕ) (old new : List ℕ) where
  -- the witnesses are those before where they are as many
  after_same : (l : Option SatLit) → AreWitnessesAfter b atoms l old new → length new ≡ length old → new ≡ old
  after_same None h e = h
  after_same (Some l) h e = h.added ∙ kept_or_longer old h.predicate (list_any (nat_eq h.predicate) old) (ap length (sym h.added) ∙ e)

  -- where they are more, the rule has made one
  after_more : (l : Option SatLit) → AreWitnessesAfter b atoms l old new → (length new ≡ length old → ⊥) → (n : SatLit) × (l ≡ Some n) × HasWitness b atoms n old new
  after_more None h e = absurd (e (ap length h))
  after_more (Some n) h e = (n, refl, h)

-- the one rule that makes a witness
denial_is : (by : UseByNumbers) (n : SatLit) → denial_of by ≡ Some n → by ≡ AtOne AllNeg n
denial_is (AtOne AllNeg l) n h = ap (λ x. AtOne AllNeg x) (same_Some l n h)
denial_is by n h = cc

pub witnesses_same : (b : Content) (atoms : List ℕ) (by : UseByNumbers) (old new : List ℕ) → AreWitnessesBy b atoms by old new → length new ≡ length old → new ≡ old
witnesses_same b atoms by old new h e = after_same b atoms old new (denial_of by) h e

rows_wide : (b c : Content) (ids : List ℕ) → Widens b c → AreRows b ids → rows_of c.terms ids ≡ rows_of b.terms ids
rows_wide b c ids w rows =
    map-same (λ i. i < length b.terms) (λ i. row_of (term_at c.terms i)) (λ i. row_of (term_at b.terms i)) (λ i k. ap row_of (wide_at b c w i k)) ids rows.within

module _ (old new : Shared) (good : IsGoodShared old) (w : Widens old.bank new.bank) (begins : Begins old.lits new.lits) where
  -- where no witness has come, there are further terms alone
  pub widened_extends : map (λ (r : Row). r.type) (the_rows new) ≡ new.bank.witnesses → new.witnesses ≡ old.witnesses → ExtendsShared old new
  widened_extends types same = record {
    bank = record {
      bases = w.bases;
      consts = w.consts;
      witnesses =
          sym types
          ∙ ap (λ ws. map (λ (r : Row). r.type) (rows_of new.bank.terms ws)) same
          ∙ ap (map (λ (r : Row). r.type)) (rows_wide old.bank new.bank old.witnesses w good.rows)
          ∙ good.declared;
      further = w.further;
      terms = w.terms;
    };
    lits = begins;
    witnesses = same;
  }

-- THE INSTANCE

module _ (old new : Shared) (good : IsGoodShared old) (e : ExtendsShared old new) where
  term_same : (id : ℕ) → id < length old.bank.terms → term_at new.bank.terms id ≡ term_at old.bank.terms id
  term_same id h = wide_at old.bank new.bank (record { bases = e.bank.bases; consts = e.bank.consts; types = []; witnesses = e.bank.witnesses ∙ sym (append-nil old.bank.witnesses); further = e.bank.further; terms = e.bank.terms }) id h

  use_same : (by : UseByNumbers) → EachPart (λ id. id < length old.bank.terms) (IsSharedNumber old) by → use_of new.bank.terms new.lits by ≡ use_of old.bank.terms old.lits by
  use_same (AtOne r l) h = refl
  use_same (AtTwo r l k) h = refl
  use_same (AllPos l id) h = ap (λ t. AllPos 0 t) (term_same id h)
  use_same (WithPredicate r id) h = ap (λ t. WithPredicate r t) (term_same id h)
  use_same (Cut l) h = ap (λ x. Cut x) (extends_literal old new e good l h)

  pub instance_found : (ls : List Literal) (r : PlainRule) (by : UseByNumbers) → IsTaken old ls r by → (as' : List (List Literal)) → IsInstanceBy new.bank new.lits (the_rows new) by as' → IsInstance (shared_scope old) (the_rows old) ls r as'
  instance_found ls r by taken as' h =
      let same = map_each (IsSharedNumber old) (literal_in new) (literal_in old) (extends_literal old new e good) (principals_of by) taken.principals in
      taken.to (shared_scope old) (the_rows old) as'
      (subst (λ x. IsInstance (shared_scope old) (the_rows old) (map (literal_in old) (principals_of by)) x as') (use_same by taken.parts)
      (subst (λ ps. IsInstance (shared_scope old) (the_rows old) ps (use_of new.bank.terms new.lits by) as') same
      (subst (λ rs. IsInstance (shared_scope old) rs (map (literal_in new) (principals_of by)) (use_of new.bank.terms new.lits by) as') (extends_rows old new e good)
      (subst (λ s. IsInstance s (the_rows new) (map (literal_in new) (principals_of by)) (use_of new.bank.terms new.lits by) as') (extends_scope old new e) h))))

pub instance_none : (s : Shared) (ls : List Literal) (r : PlainRule) (by : UseByNumbers) → IsTaken s ls r by → ((rows : List Row) (as' : List (List Literal)) → IsInstanceBy s.bank s.lits rows by as' → ⊥) → (as' : List (List Literal)) → IsInstance (shared_scope s) (the_rows s) ls r as' → ⊥
instance_none s ls r by taken none as' h = none (the_rows s) as' (taken.back (shared_scope s) (the_rows s) as' h)

-- WHERE A WITNESS WOULD HAVE TO COME

-- what the instance of the rule takes, and its row
pub record IsDenied (rows : List Row) (branch : List Literal) : Type 0 where
  pub type : SimpleType
  pub predicate : Lambda
  pub row : ℕ
  pub at : slice_get rows row ≡ Some (record { type = type; predicate = predicate })
  pub literal : slice_get branch 0 ≡ Some (minus (every type predicate))

denied_of : (scope : Scope) (rows : List Row) (branch : List Literal) (as' : List (List Literal)) → IsInstance scope rows branch (AtOne AllNeg 0) as' → IsDenied rows branch
denied_of scope rows branch as' h = go h.principals as' h.fits h.at_places
  where
    go : (ps : List Literal) (as' : List (List Literal)) → Rule scope rows (AtOne AllNeg 0) ps as' → AreAt branch (0 ∷ []) ps → IsDenied rows branch
    go _ _ (alone_rule _ _ l _ x) g = elim x [ ]
    go _ _ (all_neg_rule i k a f at) g = record { type = a; predicate = f; row = k; at = at; literal = g.0 }

module _ (old new : Shared) (good : IsGoodShared old) (w : Widens old.bank new.bank) (begins : Begins old.lits new.lits) (equal : EqualIdsForEqualTerms new.bank) (ls : List Literal) (r : PlainRule) (by : UseByNumbers) (taken : IsTaken old ls r by) where
  literal_wide : (n : SatLit) → IsSharedNumber old n → literal_in new n ≡ literal_in old n
  literal_wide n k =
      let place : get_or new.lits n.var.0 0 ≡ get_or old.lits n.var.0 0 = ap (λ xs. get_or xs n.var.0 0) begins.is ∙ get_or-front old.lits begins.further n.var.0 0 k in
      let L : Lambda → Literal = λ t. record { positive = n.positive; atom = t } in
      ap L (ap (term_at new.bank.terms) place ∙ wide_at old.bank new.bank w (get_or old.lits n.var.0 0) (good.atoms n.var.0 0 k).within)

  pub instance_made : AreWitnessesBy new.bank new.lits by old.witnesses new.witnesses → (length new.witnesses ≡ length old.witnesses → ⊥) → (as' : List (List Literal)) → IsInstance (shared_scope old) (the_rows old) ls r as' → ⊥
  instance_made ws more as' h = more (ap length (made.2.added ∙ ap (λ t. if t then old.witnesses else old.witnesses ++ made.2.predicate ∷ []) there))
    where
      made : (n : SatLit) × (denial_of by ≡ Some n) × HasWitness new.bank new.lits n old.witnesses new.witnesses
      made = after_more new.bank new.lits old.witnesses new.witnesses (denial_of by) ws more

      is : by ≡ AtOne AllNeg made.0
      is = denial_is by made.0 made.1

      alone : IsInstance (shared_scope old) (the_rows old) (literal_in old made.0 ∷ []) (AtOne AllNeg 0) as'
      alone = subst (λ x. IsInstance (shared_scope old) (the_rows old) (map (literal_in old) (principals_of x)) (use_of old.bank.terms old.lits x) as') is (taken.back (shared_scope old) (the_rows old) as' h)

      d : IsDenied (the_rows old) (literal_in old made.0 ∷ [])
      d = denied_of (shared_scope old) (the_rows old) (literal_in old made.0 ∷ []) as' alone

      number : IsSharedNumber old made.0
      number = (subst (λ x. Each (IsSharedNumber old) (principals_of x)) is taken.principals).0

      same : minus (every d.type d.predicate) ≡ minus (every made.2.type (term_at new.bank.terms made.2.predicate))
      same = same_Some _ _ (sym d.literal) ∙ sym (literal_wide made.0 number) ∙ made.2.denies

      predicate_same : d.predicate ≡ term_at new.bank.terms made.2.predicate
      predicate_same = let e : every d.type d.predicate ≡ every made.2.type (term_at new.bank.terms made.2.predicate) = ap (λ l. l.atom) same in cc

      place : (id : ℕ) × (slice_get old.witnesses d.row ≡ Some id) × (row_of (term_at old.bank.terms id) ≡ record { type = d.type; predicate = d.predicate })
      place = mapped_at (λ id. row_of (term_at old.bank.terms id)) old.witnesses d.row (record { type = d.type; predicate = d.predicate }) d.at

      inside : place.0 < length old.bank.terms
      inside = subst (λ x. x < length old.bank.terms) (get_or_from_slice_get old.witnesses d.row place.0 0 place.1) (good.rows.within d.row 0 (slice_get_within old.witnesses d.row place.0 place.1))

      id_same : place.0 ≡ made.2.predicate
      id_same = (equal place.0 made.2.predicate (omega (arith, inside, ap length w.terms, length-append old.bank.terms w.further)) made.2.within).1
          (wide_at old.bank new.bank w place.0 inside ∙ ap (λ q. q.predicate) place.2 ∙ predicate_same)

      there : list_any (nat_eq made.2.predicate) old.witnesses ≡ true
      there = list_any_at (nat_eq made.2.predicate) old.witnesses d.row 0 (slice_get_within old.witnesses d.row place.0 place.1)
          (eq-eqb made.2.predicate (get_or old.witnesses d.row 0) (sym id_same ∙ sym (get_or_from_slice_get old.witnesses d.row place.0 0 place.1)))
