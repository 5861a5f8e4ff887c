-- Where the lines of a rebuilt refutation come from.
use Rattle.std.proofs.Common.{◌≡◌, ◌⊎◌, ◌&&◌, nat_lt, if◌then◌else◌, ℕ, suc, Bool, true, false, List, [], ◌∷◌, ◌++◌, map, length, Some, None, slice_get, Contains, refl, sym, ap, ◌∙◌, subst, inl, inr, arith}
use Rattle.std.proofs.lemmas.Bool.{and_parts, or_cases}
use Rattle.stt_core.specs.Typing.{Scope}
use Rattle.stt_core.specs.Lambda.{Lambda}
use Rattle.tableau_calculus.specs.Literals.{Literal, opposite}
use Rattle.tableau_calculus.specs.Rules.{PlainRule, Rule, cut_rule}
use Rattle.tableau_calculus.specs.Witnesses.{Row, with_rows}
use Rattle.tableau_calculus.specs.declared.rule_use.RuleUse.TheVariants.{AtTwo, Cut}
use Rattle.tableau_calculus.specs.declared.rule_use.TwoPlaces.TheVariants.{Close}
use Rattle.tableau_calculus.specs.declared.refutation.Child.{Child}
use Rattle.tableau_calculus.proofs.ListLaws.{contains-first, contains_cases}
use Rattle.sat_base.specs.declared.literal.Var.{Var}
use Rattle.sat_base.specs.declared.literal.SatLit.{SatLit}
use Rattle.sat_base.specs.Literal.{positive, negative, negated, holds}
use Rattle.sat_base.proofs.LiteralLaws.{holds-append, mentions-held}
use Rattle.sat_log.specs.Resolution.{without_literal, resolvent, resolved}
use Rattle.sat_log.proofs.ResolutionLaws.{holds-without_repeats}
use Rattle.search_spec.specs.Numbered.{literal_at}
use Rattle.rebuild_spec.specs.Input.{Instance, start_unit, clause_by, Input, literals_of}
use Rattle.rebuild_spec.specs.Given.{IsClauseOf, IsGiven}
use Rattle.rebuild_spec.specs.Trees.{Place, at_step, Tree, leaf, cut}
use Rattle.rebuild_spec.specs.Stands.{Standing, start, line, rule_at_places, place_in, joined_standing, standing_after_step, premise_place, Stands, of_start, of_instance, of_first, of_next, of_result}
use Rattle.rebuild_spec.specs.Lines.{line_of}
use Rattle.rebuild_spec.specs.Trimmed.{OccursInInput, IsAtomOfInput, IsFromSearch}
use Rattle.rebuild_spec.proofs.BackedLaws.{held-without}
use Rattle.rebuild_spec.proofs.LiteralLaws.{contains_literal, held_in}
use Rattle.rebuild_spec.proofs.PickedLaws.{Picks, clause_picked}
use Rattle.rebuild_spec.proofs.SoundLaws.{picked_held, IsStart, IsRightThere, stands_right}
use Rattle.rebuild_spec.proofs.WalkLaws.{IsEach}

-- what a step holds, one of its clauses holds
resolvent_held : (v : Var) (a b : List SatLit) (m : SatLit) → holds (resolvent v a b) m ≡ true → (holds a m ≡ true) ⊎ (holds b m ≡ true)
resolvent_held v a b m h =
    elim (or_cases (holds (without_literal (positive v) a) m) (holds (without_literal (negative v) b) m) (sym (holds-append (without_literal (positive v) a) (without_literal (negative v) b) m) ∙ sym (holds-without_repeats (without_literal (positive v) a ++ without_literal (negative v) b) m) ∙ h)) [
      | inl e ↦ inl (held-without (positive v) a m e).0
      | inr e ↦ inr (held-without (negative v) b m e).0
    ]

-- what a step tells: that the first clause holds the variable with one sign, and that what is held was held
record Steps (v : Var) (a b c : List SatLit) : Type 0 where
  sign : (holds a (positive v) ≡ true) ⊎ (holds a (negative v) ≡ true)
  held : (m : SatLit) → holds c m ≡ true → (holds a m ≡ true) ⊎ (holds b m ≡ true)

steps : (v : Var) (a b c : List SatLit) → resolved v a b ≡ Some c → Steps v a b c
steps v a b c e = go (holds a (positive v) && holds b (negative v)) (holds a (negative v) && holds b (positive v)) refl refl e
  where
    turned : (m : SatLit) → (holds b m ≡ true) ⊎ (holds a m ≡ true) → (holds a m ≡ true) ⊎ (holds b m ≡ true)
    turned m (inl h) = inr h
    turned m (inr h) = inl h

    go : (x y : Bool) → (holds a (positive v) && holds b (negative v)) ≡ x → (holds a (negative v) && holds b (positive v)) ≡ y → (if x then Some (resolvent v a b) else (if y then Some (resolvent v b a) else None)) ≡ Some c → Steps v a b c
    go true y is isnt e =
        let same : resolvent v a b ≡ c = cc in
        record { sign = inl (and_parts (holds a (positive v)) (holds b (negative v)) is).0; held = λ m h. resolvent_held v a b m (ap (λ k. holds k m) same ∙ h) }
    go false true is isnt e =
        let same : resolvent v b a ≡ c = cc in
        record { sign = inr (and_parts (holds a (negative v)) (holds b (positive v)) isnt).0; held = λ m h. turned m (resolvent_held v b a m (ap (λ k. holds k m) same ∙ h)) }
    go false false is isnt e = cc

module _ (input : Input) where
  -- the variables of what is derived occur in the clauses
  pub variables_occur : (p : Place) (c : List SatLit) (s : Standing) → Stands input p c s → (m : SatLit) → holds c m ≡ true → OccursInInput input m.var
  variables_occur p c s (of_start n l e) m h = record { number = n; clause = start_unit l; there = e; mentioned = mentions-held (l ∷ []) m h }
  variables_occur p c s (of_instance n d i e) m h = record { number = n; clause = clause_by d i; there = e; mentioned = mentions-held d m h }
  variables_occur p c s (of_first n entry d t e j) m h = variables_occur (premise_place entry.chain.first) d t j m h
  variables_occur p c s (of_next n k entry step a b d x y e f h j r) m g =
      elim ((steps step.var a b d r).held m g) [
        | inl held ↦ variables_occur (at_step n k) a x h m held
        | inr held ↦ variables_occur (premise_place step.premise) b y j m held
      ]
  variables_occur p c s (of_result n entry d t e j) m h = variables_occur (at_step n (length entry.chain.steps)) d t j m h

  -- two start units close each other
  pub record AreUnits (Start : SatLit → Type 0) (ls : List SatLit) (rule : PlainRule) : Type 0 where
    pub first : SatLit
    pub second : SatLit
    pub is_rule : rule ≡ AtTwo Close 0 1
    pub are : ls ≡ first ∷ second ∷ []
    pub first_start : Start first
    pub second_start : Start second

  -- the branch is the negations of a clause's literals
  pub record IsNegated (ls : List SatLit) : Type 0 where
    pub number : ℕ
    pub clause : List SatLit
    pub instance : Instance
    pub there : slice_get input.clauses number ≡ Some (clause_by clause instance)
    pub are : ls ≡ map negated clause

  -- where a line of this rule comes from that rests on no other
  abbrev pub IsLeafBy : PlainRule → (SatLit → Type 0) → List SatLit → Type 0
  IsLeafBy (Cut l) Start ls = IsAtomOfInput input l.atom
  IsLeafBy rule Start ls = AreUnits Start ls rule ⊎ IsNegated ls

  abbrev pub IsFrom : (SatLit → Type 0) → Tree → Type 0
  IsFrom Start (leaf p ls rule children) = IsLeafBy rule Start ls
  IsFrom Start (cut p v t u) = OccursInInput input v

  leaf_by : (Start : SatLit → Type 0) (ls : List SatLit) (rule : PlainRule) → ((l : Literal) → rule ≡ Cut l → IsAtomOfInput input l.atom) → IsNegated ls → IsLeafBy rule Start ls
  leaf_by Start ls (Cut l) atom negated = atom l refl
  leaf_by Start ls rule atom negated = inr negated

-- A CLAUSE OF A CUT

-- a rule at other places is a cut only where it is one
placed_cut : (rule : PlainRule) (is : List ℕ) (l : Literal) → rule_at_places rule is ≡ Cut l → rule ≡ Cut l
placed_cut (Cut k) is l e = e
placed_cut rule [] l e = cc
placed_cut rule (i ∷ []) l e = cc
placed_cut rule (i ∷ j ∷ is) l e = cc

cut_alternatives : (scope : Scope) (rows : List Row) (rule : PlainRule) (principals : List Literal) (alternatives : List (List Literal)) (l : Literal) → Rule scope rows rule principals alternatives → rule ≡ Cut l → alternatives ≡ (l ∷ []) ∷ (opposite l ∷ []) ∷ []
cut_alternatives scope rows rule principals alternatives l (cut_rule k h) e = let same : k ≡ l = cc in ap (λ x. (x ∷ []) ∷ (opposite x ∷ []) ∷ []) same
cut_alternatives scope rows rule principals alternatives l fits e = cc

-- what is picked from the first alternative, where that is one literal
first_picked : (atoms : List Lambda) (l : Literal) (rest : List (List Literal)) (alternatives : List (List SatLit)) (picked : List SatLit) → Picks picked alternatives → map (literals_of atoms) alternatives ≡ (l ∷ []) ∷ rest
    → (k : SatLit) × (holds picked k ≡ true) × (literal_at atoms k ≡ l)
first_picked atoms l rest [] picked picks e = cc
first_picked atoms l rest (a ∷ as') [] picks e = absurd picks
first_picked atoms l rest (a ∷ as') (k ∷ picked) picks e =
    let only : literals_of atoms a ≡ l ∷ [] = cc in
    let there = subst (λ ls. Contains ls (literal_at atoms k)) only (contains_literal atoms a k (held_in a k picks.0)) in
    (k, held_in (k ∷ picked) k (contains-first k picked), contains_cases (literal_at atoms k ≡ l) (literal_at atoms k) l [] there (λ same. sym same) (λ none. absurd (omega (arith, none.1))))

-- the atom of a cut is that of a variable of each clause of its instance
cut_occurs : (scope : Scope) (rows : List Row) (input : Input) (n : ℕ) (clause : List SatLit) (i : Instance) (l : Literal) → slice_get input.clauses n ≡ Some (clause_by clause i) → IsClauseOf scope rows input.atoms clause i → i.rule ≡ Cut l → IsAtomOfInput input l.atom
cut_occurs scope rows input n clause i l there right e =
    let p = clause_picked i.principals i.alternatives clause right.is_one in
    let first = first_picked input.atoms l ((opposite l ∷ []) ∷ []) i.alternatives p.picked p.picks (cut_alternatives scope rows i.rule (literals_of input.atoms i.principals) (map (literals_of input.atoms) i.alternatives) l right.fits e) in
    let held = subst (λ c. holds c first.0 ≡ true) (sym p.is) (picked_held scope rows input.atoms i.principals p.picked first.0 first.1) in
    record {
      variable = first.0.var;
      same = ap (λ (k : Literal). k.atom) (sym first.2);
      occurs = record { number = n; clause = clause_by clause i; there = there; mentioned = mentions-held clause first.0 held };
    }

module _ (scope : Scope) (begin : List Literal) (input : Input) (given : IsGiven scope begin input) where
  abbrev Start : SatLit → Type 0
  Start = IsStart scope begin input given

  abbrev pub IsFromThere : Tree → Type 0
  IsFromThere t = IsFrom input Start t

  abbrev AreFrom : Standing → Type 0
  AreFrom (start n l) = Unit {0}
  AreFrom (line t) = IsEach IsFromThere t

  abbrev StartsRight : Standing → Type 0
  StartsRight (start n l) = Start l
  StartsRight (line t) = Unit {0}

  starts_right : (c : List SatLit) (s : Standing) → IsRightThere scope begin input given c s → StartsRight s
  starts_right c (start n l) h = h.1
  starts_right c (line t) h = tt

  joined_from : (p : Place) (v : Var) (s t : Standing) → OccursInInput input v → StartsRight s → StartsRight t → AreFrom s → AreFrom t → AreFrom (joined_standing p v s t)
  joined_from p v (start m l) (start n k) occurs given also first second = go (nat_lt m n)
    where
      go : (b : Bool) → AreUnits input Start (if b then l ∷ k ∷ [] else k ∷ l ∷ []) (AtTwo Close 0 1) ⊎ IsNegated input (if b then l ∷ k ∷ [] else k ∷ l ∷ [])
      go true = inl (record { first = l; second = k; is_rule = refl; are = refl; first_start = given; second_start = also })
      go false = inl (record { first = k; second = l; is_rule = refl; are = refl; first_start = also; second_start = given })
  joined_from p v (start m l) (line t) occurs given also first second = second
  joined_from p v (line t) (start n k) occurs given also first second = first
  joined_from p v (line t) (line u) occurs given also first second = (occurs, second, first)

  stepped_from : (p : Place) (v : Var) (a b : List SatLit) (s t : Standing) → OccursInInput input v → StartsRight s → StartsRight t → AreFrom s → AreFrom t → AreFrom (standing_after_step p v a s b t)
  stepped_from p v a b s t occurs given also first second = go (holds a (positive v) && holds b (negative v))
    where
      go : (x : Bool) → AreFrom (if x then joined_standing p v s t else joined_standing p v t s)
      go true = joined_from p v s t occurs given also first second
      go false = joined_from p v t s occurs also given second first

  variable_of : (v : Var) (a : List SatLit) (p : Place) (s : Standing) → Stands input p a s → (holds a (positive v) ≡ true) ⊎ (holds a (negative v) ≡ true) → OccursInInput input v
  variable_of v a p s h (inl e) = variables_occur input p a s h (positive v) e
  variable_of v a p s h (inr e) = variables_occur input p a s h (negative v) e

  are_from : (p : Place) (c : List SatLit) (s : Standing) → Stands input p c s → AreFrom s
  are_from p c s (of_start n l e) = tt
  are_from p c s (of_instance n d i e) =
      leaf_by input Start (map negated d) (rule_at_places i.rule (map (place_in (map negated d)) i.principals))
      (λ l is. cut_occurs (with_rows scope input.rows) input.rows input n d i l e (given.clauses n (clause_by d i) e) (placed_cut i.rule (map (place_in (map negated d)) i.principals) l is))
      (record { number = n; clause = d; instance = i; there = e; are = refl })
  are_from p c s (of_first n entry d t e h) = are_from (premise_place entry.chain.first) d t h
  are_from p c s (of_next n k entry step a b d x y e f h j r) =
      stepped_from (at_step n (suc k)) step.var a b x y (variable_of step.var a (at_step n k) x h (steps step.var a b d r).sign)
      (starts_right a x (stands_right scope begin input given (at_step n k) a x h)) (starts_right b y (stands_right scope begin input given (premise_place step.premise) b y j))
      (are_from (at_step n k) a x h) (are_from (premise_place step.premise) b y j)
  are_from p c s (of_result n entry d t e h) = are_from (at_step n (length entry.chain.steps)) d t h

  pub lines_from_search : (p : Place) (c : List SatLit) (t : Tree) → Stands input p c (line t) → IsEach IsFromThere t
  lines_from_search p c t h = are_from p c (line t) h

  leaf_from : (trees : List Tree) (p : Place) (ls : List SatLit) (rule : PlainRule) (children : List Child) → IsLeafBy input rule Start ls → IsFromSearch begin input (line_of input.atoms trees (leaf p ls rule children))
  leaf_from trees p ls (Cut l) children h = h
  leaf_from trees p ls rule children (inl h) =
      inl (record { first = literal_at input.atoms h.first; second = literal_at input.atoms h.second; rule = h.is_rule; branch = ap (literals_of input.atoms) h.are; first_in = h.first_start; second_in = h.second_start })
  leaf_from trees p ls rule children (inr h) = inr (record { number = h.number; clause = h.clause; instance = h.instance; there = h.there; branch = ap (literals_of input.atoms) h.are })

  -- what is known of a tree's line, as a line of the refutation
  pub from_search : (trees : List Tree) (t : Tree) → IsFromThere t → IsFromSearch begin input (line_of input.atoms trees t)
  from_search trees (leaf p ls rule children) h = leaf_from trees p ls rule children h
  from_search trees (cut p v t u) h = record { variable = v; same = refl; occurs = h }
