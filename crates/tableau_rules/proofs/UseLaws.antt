-- Drafts of what a rule takes.
use Rattle.std.proofs.Common.{◌≡◌, ◌<◌, ℕ, Bool, true, false, List, [], ◌∷◌, map, length, get_or, Option, Some, None, refl, sym, ap, ap₂, subst, ◌∙◌, ◌⊎◌, inl, inr, if◌then◌else◌}
use Rattle.std.specs.Prelude.{All}
use Rattle.std.specs.Option.{ForSome}
use Rattle.std.proofs.lemmas.Option.{same_Some}
use Rattle.sat_base.specs.declared.literal.SatLit.{SatLit}
use Rattle.stt_core.specs.Lambda.{Lambda}
use Rattle.tableau_calculus.specs.Literals.{Literal}
use Rattle.tableau_calculus.specs.Witnesses.{Row}
use Rattle.tableau_calculus.specs.RuleUses.{principals_of}
use Rattle.tableau_calculus.specs.Rules.{IsInstance}
use Rattle.tableau_calculus.specs.declared.rule_use.OnePlace.{OnePlace}
use Rattle.tableau_calculus.specs.declared.rule_use.OnePlace.TheVariants.{AllNeg}
use Rattle.tableau_calculus.specs.declared.rule_use.TwoPlaces.{TwoPlaces}
use Rattle.tableau_calculus.specs.declared.rule_use.OfPredicate.{OfPredicate}
use Rattle.tableau_calculus.specs.declared.rule_use.RuleUse.TheVariants.{AtOne, AtTwo, AllPos, WithPredicate, Cut}
use Rattle.term_bank.specs.Content.{Content, content_scope, Grows}
use Rattle.term_bank.specs.Terms.{term_at}
use Rattle.term_bank.proofs.ListLaws.{get_or-front}
use Rattle.literal_map.specs.Atoms.{bank_literal, IsAtom, Begins}
use Rattle.literal_map.specs.Numbers.{UseByNumbers}
use Rattle.literal_map.proofs.StayLaws.{literals_same}
use Rattle.tableau_calculus.specs.Each.{Each}
use Rattle.tableau_rules.specs.Uses.{use_of}
use Rattle.tableau_rules.specs.Changes.{Widens, makes_witness, denial_of, AreWitnessesAfter, AreWitnessesBy}
use Rattle.tableau_rules.specs.Internal.Drafted.{principal_at, alternatives_at, IsPrincipal, Drafted}
use Rattle.tableau_rules.specs.Internal.Declaring.{DraftedOver, IsWitnessed, WitnessedWhere, MayBeWitnessed}
use Rattle.tableau_rules.specs.Internal.Used.{DraftedBy, WitnessesWhere}
use Rattle.tableau_rules.specs.declared.draft.Principal.{Principal}
use Rattle.tableau_rules.specs.declared.draft.Signed.{Signed}
use Rattle.tableau_rules.proofs.GrownLaws.{principal_grown}
use Rattle.tableau_rules.proofs.NumberLaws.{begins_itself}
use Rattle.tableau_rules.proofs.WideLaws.{wide_at}

pub principal_now : (b c : Content) (atoms : List ℕ) (l : SatLit) (p : Principal) → Grows b c → All (IsAtom b) atoms → l.var.0 < length atoms → IsPrincipal b p → principal_at b p ≡ bank_literal b.terms atoms l → principal_at c p ≡ bank_literal c.terms atoms l
principal_now b c atoms l p g are k h e = principal_grown b c p g h ∙ e ∙ sym (literals_same b c g atoms atoms are (begins_itself atoms) l k)

pub principal_wide : (b c : Content) (atoms : List ℕ) (l : SatLit) (p : Principal) → Widens b c → All (IsAtom b) atoms → l.var.0 < length atoms → IsPrincipal b p → principal_at b p ≡ bank_literal b.terms atoms l → principal_at c p ≡ bank_literal c.terms atoms l
principal_wide b c atoms l p w are k h e =
    let P : Lambda → Literal = λ t. record { positive = p.positive; atom = t } in
    let L : Lambda → Literal = λ t. record { positive = l.positive; atom = t } in
    ap P (wide_at b c w p.atom h.within) ∙ e ∙ sym (ap L (wide_at b c w (get_or atoms l.var.0 0) (are l.var.0 0 k).within))

module _ (c : Content) (atoms : List ℕ) where
  drafted_by : (ps : List Principal) (by : UseByNumbers) (o : Option (List (List Signed))) → map (principal_at c) ps ≡ map (bank_literal c.terms atoms) (principals_of by) → ((rows : List Row) → Drafted c rows ps (use_of c.terms atoms by) o) → (rows : List Row) → DraftedBy c atoms rows by o
  drafted_by ps by (Some ds) same d rows =
      ((d rows).0, subst (λ ls. IsInstance (content_scope c) rows ls (use_of c.terms atoms by) (alternatives_at c ds)) same (d rows).1)
  drafted_by ps by None same d rows = λ others as' h.
      d others as' (subst (λ ls. IsInstance (content_scope c) others ls (use_of c.terms atoms by) as') (sym same) h)

  pub one_by : (rule : OnePlace) (l : SatLit) (p : Principal) (k : OnePlace) (o : Option (List (List Signed))) → rule ≡ k → principal_at c p ≡ bank_literal c.terms atoms l → ((rows : List Row) → Drafted c rows (p ∷ []) (AtOne k 0) o) → (rows : List Row) → DraftedBy c atoms rows (AtOne rule l) o
  one_by rule l p k o e same d rows =
      subst (λ x. DraftedBy c atoms rows (AtOne x l) o) (sym e) (drafted_by (p ∷ []) (AtOne k l) o (ap (λ x. x ∷ []) same) d rows)

  pub two_by : (rule : TwoPlaces) (l m : SatLit) (p q : Principal) (k : TwoPlaces) (o : Option (List (List Signed))) → rule ≡ k → principal_at c p ≡ bank_literal c.terms atoms l → principal_at c q ≡ bank_literal c.terms atoms m → ((rows : List Row) → Drafted c rows (p ∷ q ∷ []) (AtTwo k 0 1) o) → (rows : List Row) → DraftedBy c atoms rows (AtTwo rule l m) o
  two_by rule l m p q k o e first second d rows =
      subst (λ x. DraftedBy c atoms rows (AtTwo x l m) o) (sym e) (drafted_by (p ∷ q ∷ []) (AtTwo k l m) o (ap₂ (λ x y. x ∷ y ∷ []) first second) d rows)

  pub all_pos_by : (l : SatLit) (u : ℕ) (p : Principal) (t : Lambda) (o : Option (List (List Signed))) → t ≡ term_at c.terms u → principal_at c p ≡ bank_literal c.terms atoms l → ((rows : List Row) → Drafted c rows (p ∷ []) (AllPos 0 t) o) → (rows : List Row) → DraftedBy c atoms rows (AllPos l u) o
  all_pos_by l u p t o is same d rows =
      drafted_by (p ∷ []) (AllPos l u) o (ap (λ x. x ∷ []) same) (subst (λ x. (rs : List Row) → Drafted c rs (p ∷ []) (AllPos 0 x) o) is d) rows

  pub predicate_by : (rule : OfPredicate) (u : ℕ) (k : OfPredicate) (t : Lambda) (o : Option (List (List Signed))) → rule ≡ k → t ≡ term_at c.terms u → ((rows : List Row) → Drafted c rows [] (WithPredicate k t) o) → (rows : List Row) → DraftedBy c atoms rows (WithPredicate rule u) o
  predicate_by rule u k t o e is d rows =
      subst (λ x. DraftedBy c atoms rows (WithPredicate x u) o) (sym e)
      (drafted_by [] (WithPredicate k u) o refl (subst (λ x. (rs : List Row) → Drafted c rs [] (WithPredicate k x) o) is d) rows)

  pub cut_by : (l : SatLit) (p : Principal) (ds : List (List Signed)) → principal_at c p ≡ bank_literal c.terms atoms l → ((rows : List Row) → Drafted c rows [] (Cut (principal_at c p)) (Some ds)) → (rows : List Row) → DraftedBy c atoms rows (Cut l) (Some ds)
  cut_by l p ds same d rows = drafted_by [] (Cut l) (Some ds) refl (subst (λ x. (rs : List Row) → Drafted c rs [] (Cut x) (Some ds)) same d) rows

-- WHICH RULE MAKES A WITNESS

pub denies_none : (rule : OnePlace) (l : SatLit) → makes_witness rule ≡ false → denial_of (AtOne rule l) ≡ None
denies_none rule l h = ap (λ b. if b then Some l else None) h

-- a witness is made for a principal
pub denial_within : (P : SatLit → Type 0) (by : UseByNumbers) → Each P (principals_of by) → ForSome (denial_of by) P
denial_within P (AtOne rule l) h = go (makes_witness rule)
  where
    go : (b : Bool) → ForSome (if b then Some l else None) P
    go true = λ x e. subst P (same_Some l x e) h.0
    go false = λ x e. cc
denial_within P (AtTwo rule l m) h = λ x e. cc
denial_within P (AllPos l u) h = λ x e. cc
denial_within P (WithPredicate rule u) h = λ x e. cc
denial_within P (Cut l) h = λ x e. cc

-- THE RULE THAT MAKES A WITNESS

module _ (c : Content) (atoms : List ℕ) (l : SatLit) (p : Principal) (same : principal_at c p ≡ bank_literal c.terms atoms l) where
  pub witnessed_by : (rows : List Row) (o : Option (List (List Signed))) → DraftedOver c rows (p ∷ []) (AtOne AllNeg 0) o → DraftedBy c atoms rows (AtOne AllNeg l) o
  witnessed_by rows (Some ds) h = (h.0, subst (λ x. IsInstance (content_scope c) rows (x ∷ []) (AtOne AllNeg 0) (alternatives_at c ds)) same h.1)
  witnessed_by rows None h = λ others as' k. h others as' (subst (λ x. IsInstance (content_scope c) others (x ∷ []) (AtOne AllNeg 0) as') (sym same) k)

  witness_by : (old new : List ℕ) → IsWitnessed c p old new → AreWitnessesBy c atoms (AtOne AllNeg l) old new
  witness_by old new h = record { type = h.type; predicate = h.predicate; within = h.within; denies = sym same ∙ h.denies; added = h.added }

  pub witnesses_by : (old new : List ℕ) (o : Option (List (List Signed))) → WitnessedWhere c p old new o → WitnessesWhere c atoms (AtOne AllNeg l) old new o
  witnesses_by old new (Some ds) h = witness_by old new h
  witnesses_by old new None h = h

  pub may_be_by : (old new : List ℕ) → MayBeWitnessed c p old new → (new ≡ old) ⊎ AreWitnessesBy c atoms (AtOne AllNeg l) old new
  may_be_by old new (inl e) = inl e
  may_be_by old new (inr h) = inr (witness_by old new h)

-- a rule that makes no witness leaves the witnesses
pub no_witness_by : (c : Content) (atoms : List ℕ) (by : UseByNumbers) (ids : List ℕ) (o : Option (List (List Signed))) → denial_of by ≡ None → WitnessesWhere c atoms by ids ids o
no_witness_by c atoms by ids None n = refl
no_witness_by c atoms by ids (Some ds) n = subst (λ d. AreWitnessesAfter c atoms d ids ids) (sym n) refl

-- the witnesses over more atoms
pub witnesses_on : (b : Content) (atoms more : List ℕ) (by : UseByNumbers) (old new : List ℕ) → Begins atoms more → Each (λ (l : SatLit). l.var.0 < length atoms) (principals_of by) → AreWitnessesBy b atoms by old new → AreWitnessesBy b more by old new
witnesses_on b atoms more by old new g within = go (denial_of by) (denial_within (λ (l : SatLit). l.var.0 < length atoms) by within)
  where
    go : (o : Option SatLit) → ForSome o (λ (l : SatLit). l.var.0 < length atoms) → AreWitnessesAfter b atoms o old new → AreWitnessesAfter b more o old new
    go None k h = h
    go (Some l) k h = record {
      type = h.type;
      predicate = h.predicate;
      within = h.within;
      denies = ap (λ x. record { positive = l.positive; atom = term_at b.terms x }) (ap (λ xs. get_or xs l.var.0 0) g.is ∙ get_or-front atoms g.further l.var.0 0 (k l refl)) ∙ h.denies;
      added = h.added;
    }
