-- Rules with their principals at the places of a branch, and alone.
use Rattle.std.proofs.Common.{◌≡◌, ℕ, ◌<◌, List, [], ◌∷◌, Some, None, option_map, map, length, slice_get, refl, sym, ap, subst, ◌∙◌}
use Rattle.std.proofs.lemmas.Option.{slice_get-map}
use Rattle.sat_base.specs.declared.literal.SatLit.{SatLit}
use Rattle.stt_core.specs.Lambda.{Lambda}
use Rattle.stt_core.specs.Typing.{Scope}
use Rattle.tableau_calculus.specs.Literals.{Literal}
use Rattle.tableau_calculus.specs.Witnesses.{Row}
use Rattle.tableau_calculus.specs.RuleUses.{principals_of, EachPart}
use Rattle.tableau_calculus.specs.Rules.{PlainRule, Rule, AreAt, IsInstance, alone_rule, close_rule, all_pos_rule, all_neg_rule, mat_rule, dec_rule, con_rule, cho_rule, des_rule, cut_rule}
use Rattle.tableau_calculus.specs.declared.rule_use.OnePlace.{OnePlace}
use Rattle.tableau_calculus.specs.declared.rule_use.TwoPlaces.{TwoPlaces}
use Rattle.tableau_calculus.specs.declared.rule_use.OfPredicate.{OfPredicate}
use Rattle.tableau_calculus.specs.declared.rule_use.RuleUse.TheVariants.{AtOne, AtTwo, AllPos, WithPredicate, Cut}
use Rattle.term_bank.specs.Content.{HasTerm}
use Rattle.term_bank.proofs.GrowLaws.{has_within, has_at}
use Rattle.literal_map.specs.Numbers.{UseByNumbers}
use Rattle.tableau_calculus.specs.Each.{Each}
use Rattle.tableau_rules.specs.Uses.{use_of}
use Rattle.refute_check.specs.declared.shared.Shared.{Shared}
use Rattle.refute_check.specs.declared.taking.Taking.TheVariants.{Missing, By}
use Rattle.refute_check.specs.Internal.Shared.{literal_in, IsSharedNumber, AreNumbersOf}
use Rattle.refute_check.specs.Internal.Taking.{HasNoInstance, IsTaken, Takes}
use Rattle.refute_check.proofs.SharedLaws.{each_at}

-- the rule with its principals at other places
abbrev moved : ℕ → ℕ → PlainRule → PlainRule
moved i j (AtOne r k) = AtOne r i
moved i j (AtTwo r k l) = AtTwo r i j
moved i j (AllPos k u) = AllPos i u
moved i j (WithPredicate r f) = WithPredicate r f
moved i j (Cut l) = Cut l

module _ (scope : Scope) (rows : List Row) (i j : ℕ) where
  rule_moved : (r : PlainRule) (ps : List Literal) (as' : List (List Literal)) → Rule scope rows r ps as' → Rule scope rows (moved i j r) ps as'
  rule_moved _ _ _ (alone_rule k kind l as' h) = alone_rule i kind l as' h
  rule_moved _ _ _ (close_rule k m l) = close_rule i j l
  rule_moved _ _ _ (all_pos_rule k a f u h) = all_pos_rule i a f u h
  rule_moved _ _ _ (all_neg_rule k n a f h) = all_neg_rule i n a f h
  rule_moved _ _ _ (mat_rule k m c a s t ss ts d e) = mat_rule i j c a s t ss ts d e
  rule_moved _ _ _ (dec_rule k n c a s t ss ts d e) = dec_rule i n c a s t ss ts d e
  rule_moved _ _ _ (con_rule k m n s t u v) = con_rule i j n s t u v
  rule_moved _ _ _ (cho_rule a f h) = cho_rule a f h
  rule_moved _ _ _ (des_rule a f h) = des_rule a f h
  rule_moved _ _ _ (cut_rule l h) = cut_rule l h

  -- the instance where the principals stand at the other places of another branch
  instance_moved : (branch other : List Literal) (r : PlainRule) (as' : List (List Literal)) → ((ps : List Literal) → AreAt branch (principals_of r) ps → AreAt other (principals_of (moved i j r)) ps) → IsInstance scope rows branch r as' → IsInstance scope rows other (moved i j r) as'
  instance_moved branch other r as' at h = record { principals = h.principals; at_places = at h.principals h.at_places; fits = rule_moved r h.principals as' h.fits }

-- one principal, and two of them
one_there : (branch : List Literal) (i : ℕ) (l : Literal) → slice_get branch i ≡ Some l → (ps : List Literal) → AreAt (l ∷ []) (0 ∷ []) ps → AreAt branch (i ∷ []) ps
one_there branch i l at [] h = absurd h
one_there branch i l at (p ∷ []) h = (at ∙ h.0, tt)
one_there branch i l at (p ∷ q ∷ ps) h = absurd h.1

one_back : (branch : List Literal) (i : ℕ) (l : Literal) → slice_get branch i ≡ Some l → (ps : List Literal) → AreAt branch (i ∷ []) ps → AreAt (l ∷ []) (0 ∷ []) ps
one_back branch i l at [] h = absurd h
one_back branch i l at (p ∷ []) h = (sym at ∙ h.0, tt)
one_back branch i l at (p ∷ q ∷ ps) h = absurd h.1

two_there : (branch : List Literal) (i j : ℕ) (l k : Literal) → slice_get branch i ≡ Some l → slice_get branch j ≡ Some k → (ps : List Literal) → AreAt (l ∷ k ∷ []) (0 ∷ 1 ∷ []) ps → AreAt branch (i ∷ j ∷ []) ps
two_there branch i j l k at there [] h = absurd h
two_there branch i j l k at there (p ∷ []) h = absurd h.1
two_there branch i j l k at there (p ∷ q ∷ []) h = (at ∙ h.0, (there ∙ h.1.0, tt))
two_there branch i j l k at there (p ∷ q ∷ r ∷ ps) h = absurd h.1.1

two_back : (branch : List Literal) (i j : ℕ) (l k : Literal) → slice_get branch i ≡ Some l → slice_get branch j ≡ Some k → (ps : List Literal) → AreAt branch (i ∷ j ∷ []) ps → AreAt (l ∷ k ∷ []) (0 ∷ 1 ∷ []) ps
two_back branch i j l k at there [] h = absurd h
two_back branch i j l k at there (p ∷ []) h = absurd h.1
two_back branch i j l k at there (p ∷ q ∷ []) h = (sym at ∙ h.0, (sym there ∙ h.1.0, tt))
two_back branch i j l k at there (p ∷ q ∷ r ∷ ps) h = absurd h.1.1

-- without a principal there is no instance
none_at : (branch : List Literal) (r : PlainRule) (i : ℕ) (more : List ℕ) → principals_of r ≡ i ∷ more → slice_get branch i ≡ None → HasNoInstance branch r
none_at branch r i more is none scope rows as' h = go h.principals (subst (λ p. AreAt branch p h.principals) is h.at_places)
  where
    go : (ps : List Literal) → AreAt branch (i ∷ more) ps → ⊥
    go [] g = g
    go (p ∷ ps) g = let bad : None ≡ Some p = sym none ∙ g.0 in cc

none_second : (branch : List Literal) (r : PlainRule) (i j : ℕ) (more : List ℕ) → principals_of r ≡ i ∷ j ∷ more → slice_get branch j ≡ None → HasNoInstance branch r
none_second branch r i j more is none scope rows as' h = go h.principals (subst (λ p. AreAt branch p h.principals) is h.at_places)
  where
    go : (ps : List Literal) → AreAt branch (i ∷ j ∷ more) ps → ⊥
    go [] g = g
    go (p ∷ []) g = g.1
    go (p ∷ q ∷ ps) g = let bad : None ≡ Some q = sym none ∙ g.1.0 in cc

module _ (s : Shared) (branch : List Literal) where
  -- the rule by its numbers, with its principals alone
  abbrev alone : UseByNumbers → PlainRule
  alone by = use_of s.bank.terms s.lits by

  abbrev AreParts : UseByNumbers → Type 0
  AreParts by = EachPart (λ id. id < length s.bank.terms) (IsSharedNumber s) by

  -- A RULE WITH ONE PRINCIPAL

  module _ (i : ℕ) (n : SatLit) (number : IsSharedNumber s n) (at : slice_get branch i ≡ Some (literal_in s n)) where
    one_taken : (r : PlainRule) (by : UseByNumbers) → AreParts by → principals_of by ≡ n ∷ [] → principals_of r ≡ i ∷ [] → principals_of (alone by) ≡ 0 ∷ [] → moved i 0 (alone by) ≡ r → moved 0 0 r ≡ alone by → IsTaken s branch r by
    one_taken r by parts principals at_r at_alone there back = record {
      principals = subst (Each (IsSharedNumber s)) (sym principals) (number, tt);
      parts = parts;
      to = λ scope rows as' h.
          subst (λ x. IsInstance scope rows branch x as') there
          (instance_moved scope rows i 0 (literal_in s n ∷ []) branch (alone by) as'
          (λ ps g. subst (λ p. AreAt branch p ps) (sym (ap principals_of there ∙ at_r)) (one_there branch i (literal_in s n) at ps (subst (λ p. AreAt (literal_in s n ∷ []) p ps) at_alone g)))
          (subst (λ ls. IsInstance scope rows ls (alone by) as') (ap (map (literal_in s)) principals) h));
      back = λ scope rows as' h.
          subst (λ x. IsInstance scope rows (map (literal_in s) (principals_of by)) x as') back
          (subst (λ ls. IsInstance scope rows ls (moved 0 0 r) as') (sym (ap (map (literal_in s)) principals))
          (instance_moved scope rows 0 0 branch (literal_in s n ∷ []) r as'
          (λ ps g. subst (λ p. AreAt (literal_in s n ∷ []) p ps) (sym (ap principals_of back ∙ at_alone)) (one_back branch i (literal_in s n) at ps (subst (λ p. AreAt branch p ps) at_r g))) h));
    }

    pub one_takes : (r : OnePlace) → Takes s branch (AtOne r i) (By (AtOne r n))
    one_takes r = (tt, one_taken (AtOne r i) (AtOne r n) tt refl refl refl refl refl)

    -- the instance of a quantified formula at a term
    pub term_taken : (id : ℕ) (u : Lambda) → HasTerm s.bank id u → IsTaken s branch (AllPos i u) (AllPos n id)
    term_taken id u h =
        one_taken (AllPos i u) (AllPos n id) (has_within s.bank id u h) refl refl refl (ap (λ x. AllPos i x) (has_at s.bank id u h)) (ap (λ x. AllPos 0 x) (sym (has_at s.bank id u h)))

  pub one_missing : (r : OnePlace) (i : ℕ) → slice_get branch i ≡ None → Takes s branch (AtOne r i) Missing
  one_missing r i h = (tt, none_at branch (AtOne r i) i [] refl h)

  pub term_missing : (i : ℕ) (u : Lambda) → slice_get branch i ≡ None → HasNoInstance branch (AllPos i u)
  term_missing i u h = none_at branch (AllPos i u) i [] refl h

  -- A RULE WITH TWO PRINCIPALS

  module _ (i j : ℕ) (n m : SatLit) (number : IsSharedNumber s n) (second : IsSharedNumber s m) (at : slice_get branch i ≡ Some (literal_in s n)) (there : slice_get branch j ≡ Some (literal_in s m)) where
    pub two_takes : (r : TwoPlaces) → Takes s branch (AtTwo r i j) (By (AtTwo r n m))
    two_takes r = (
      tt,
      record {
        principals = (number, (second, tt));
        parts = tt;
        to = λ scope rows as' h.
            instance_moved scope rows i j (literal_in s n ∷ literal_in s m ∷ []) branch (AtTwo r 0 1) as' (two_there branch i j (literal_in s n) (literal_in s m) at there) h;
        back = λ scope rows as' h.
            instance_moved scope rows 0 1 branch (literal_in s n ∷ literal_in s m ∷ []) (AtTwo r i j) as' (two_back branch i j (literal_in s n) (literal_in s m) at there) h;
      },
    )

  pub first_missing : (r : TwoPlaces) (i j : ℕ) → slice_get branch i ≡ None → Takes s branch (AtTwo r i j) Missing
  first_missing r i j h = (tt, none_at branch (AtTwo r i j) i (j ∷ []) refl h)

  pub second_missing : (r : TwoPlaces) (i j : ℕ) → slice_get branch j ≡ None → Takes s branch (AtTwo r i j) Missing
  second_missing r i j h = (tt, none_second branch (AtTwo r i j) i j [] refl h)

  -- A RULE WITHOUT PRINCIPALS

  none_there : (ps : List Literal) → AreAt [] [] ps → AreAt branch [] ps
  none_there [] h = tt
  none_there (p ∷ ps) h = absurd h

  none_back : (ps : List Literal) → AreAt branch [] ps → AreAt [] [] ps
  none_back [] h = tt
  none_back (p ∷ ps) h = absurd h

  none_taken : (r : PlainRule) (by : UseByNumbers) → AreParts by → principals_of by ≡ [] → principals_of r ≡ [] → alone by ≡ r → IsTaken s branch r by
  none_taken r by parts none e is = record {
    principals = subst (Each (IsSharedNumber s)) (sym none) tt;
    parts = parts;
    to = λ scope rows as' h.
        let k = subst (λ x. IsInstance scope rows [] x as') is (subst (λ ls. IsInstance scope rows ls (alone by) as') (ap (map (literal_in s)) none) h) in
        record { principals = k.principals; at_places = subst (λ p. AreAt branch p k.principals) (sym e) (none_there k.principals (subst (λ p. AreAt [] p k.principals) e k.at_places)); fits = k.fits };
    back = λ scope rows as' h.
        let k : IsInstance scope rows [] r as' = record { principals = h.principals; at_places = subst (λ p. AreAt [] p h.principals) (sym e) (none_back h.principals (subst (λ p. AreAt branch p h.principals) e h.at_places)); fits = h.fits } in
        subst (λ ls. IsInstance scope rows ls (alone by) as') (sym (ap (map (literal_in s)) none)) (subst (λ x. IsInstance scope rows [] x as') (sym is) k);
  }

  pub predicate_taken : (r : OfPredicate) (id : ℕ) (f : Lambda) → HasTerm s.bank id f → IsTaken s branch (WithPredicate r f) (WithPredicate r id)
  predicate_taken r id f h =
      none_taken (WithPredicate r f) (WithPredicate r id) (has_within s.bank id f h) refl refl (ap (λ x. WithPredicate r x) (has_at s.bank id f h))

  pub cut_taken : (n : SatLit) (l : Literal) → IsSharedNumber s n → literal_in s n ≡ l → IsTaken s branch (Cut l) (Cut n)
  cut_taken n l number is = none_taken (Cut l) (Cut n) number refl refl (ap (λ x. Cut x) is)

-- the literal of a number at a place
pub number_at : (s : Shared) (ls : List Literal) (ns : List SatLit) (i : ℕ) (n : SatLit) → AreNumbersOf s ls ns → slice_get ns i ≡ Some n → IsSharedNumber s n × (slice_get ls i ≡ Some (literal_in s n))
number_at s ls ns i n h e = (
  each_at (IsSharedNumber s) ns i n h.numbers e,
  ap (λ x. slice_get x i) (sym h.literals) ∙ slice_get-map (literal_in s) ns i ∙ ap (option_map (literal_in s)) e,
)

pub no_number_at : (s : Shared) (ls : List Literal) (ns : List SatLit) (i : ℕ) → AreNumbersOf s ls ns → slice_get ns i ≡ None → slice_get ls i ≡ None
no_number_at s ls ns i h e = ap (λ x. slice_get x i) (sym h.literals) ∙ slice_get-map (literal_in s) ns i ∙ ap (option_map (literal_in s)) e
