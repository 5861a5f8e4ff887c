-- Every line that stands for a clause is right, and its branch is backed by the clause.
use Rattle.std.proofs.Common.{◌≡◌, ◌&&◌, nat_lt, if◌then◌else◌, ℕ, Bool, true, false, List, [], ◌∷◌, ◌++◌, map, Some, None, Contains, refl, sym, ap, ◌∙◌, subst, inl, inr}
use Rattle.std.proofs.lemmas.Bool.{and_parts, or_cases, or_left, or_right}
use Rattle.std.proofs.lemmas.List.Elements.{Contains-append_left, Contains-append_right}
use Rattle.stt_core.specs.Lambda.{Lambda}
use Rattle.stt_core.specs.Typing.{Scope}
use Rattle.tableau_calculus.specs.Literals.{Literal, opposite}
use Rattle.tableau_calculus.specs.Witnesses.{Row, with_rows}
use Rattle.tableau_calculus.specs.Rules.{PlainRule, IsInstance, close_rule}
use Rattle.tableau_calculus.specs.Accepted.{IsTypedUse, AreChildren}
use Rattle.tableau_calculus.specs.declared.rule_use.RuleUse.TheVariants.{AtTwo}
use Rattle.tableau_calculus.specs.declared.rule_use.TwoPlaces.TheVariants.{Close}
use Rattle.tableau_calculus.specs.declared.refutation.Child.{Child}
use Rattle.tableau_calculus.specs.declared.refutation.Child.TheVariants.{Closed}
use Rattle.tableau_calculus.specs.declared.refutation.Line.{Line}
use Rattle.tableau_calculus.proofs.ListLaws.{contains-first, contains-later}
use Rattle.sat_base.specs.declared.literal.Var.{Var}
use Rattle.sat_base.specs.declared.literal.SatLit.{SatLit}
use Rattle.sat_base.specs.Literal.{positive, negative, negated, same_literal, holds}
use Rattle.sat_base.proofs.LiteralLaws.{same_literal-true, negated-negated, holds-append}
use Rattle.sat_log.specs.Resolution.{each_once, resolvent, resolved}
use Rattle.sat_log.proofs.ResolutionLaws.{holds-without_repeats}
use Rattle.search_spec.specs.Numbered.{literal_at}
use Rattle.rebuild_spec.specs.Input.{Instance, start_unit, clause_by, Input, literals_of}
use Rattle.rebuild_spec.specs.Given.{IsClauseOf, IsGiven}
use Rattle.rebuild_spec.specs.Trees.{Place, Tree, leaf, cut, branch}
use Rattle.rebuild_spec.specs.Stands.{Standing, start, line, rule_at_places, place_in, instance_line, joined_standing, standing_after_step, Stands, of_start, of_instance, of_first, of_next, of_result}
use Rattle.rebuild_spec.proofs.BackedLaws.{Backed, cut_backed, unit_first, unit_second, only_literal}
use Rattle.rebuild_spec.proofs.LiteralLaws.{contains_literal, held_in, held-negated, negated-held}
use Rattle.rebuild_spec.proofs.PickedLaws.{Picks, clause_picked}
use Rattle.rebuild_spec.proofs.PlacedLaws.{fits_typed, instance_placed}

module _ (scope : Scope) (rows : List Row) (atoms : List Lambda) where
  -- a line that rests on no other is right
  pub record IsRightLeaf (ls : List SatLit) (rule : PlainRule) (children : List Child) : Type 0 where
    pub typed : IsTypedUse scope rule
    pub alternatives : List (List Literal)
    pub instance : IsInstance scope rows (literals_of atoms ls) rule alternatives
    pub closed : (earlier : List Line) → AreChildren earlier (literals_of atoms ls) alternatives children

  -- all lines of the tree that rest on no other are right
  abbrev pub HasRightLeaves : Tree → Type 0
  HasRightLeaves (leaf p ls rule children) = IsRightLeaf ls rule children
  HasRightLeaves (cut p v t u) = HasRightLeaves t × HasRightLeaves u

  -- each alternative closes with a branch that holds the negations of what was picked
  all_closed : (earlier : List Line) (ls picked : List SatLit) (alternatives : List (List SatLit)) → Picks picked alternatives → ((m : SatLit) → Contains picked m → holds ls (negated m) ≡ true) → AreChildren earlier (literals_of atoms ls) (map (literals_of atoms) alternatives) (map (λ _. Closed) alternatives)
  all_closed earlier ls [] [] picks denied = tt
  all_closed earlier ls [] (a ∷ as') picks denied = absurd picks
  all_closed earlier ls (l ∷ picked) [] picks denied = absurd picks
  all_closed earlier ls (l ∷ picked) (a ∷ as') picks denied = (
    record {
      literal = literal_at atoms l;
      holds = Contains-append_left (literals_of atoms a) (literals_of atoms ls) (literal_at atoms l) (contains_literal atoms a l (held_in a l picks.0));
      holds_opposite = Contains-append_right (literals_of atoms a) (literals_of atoms ls) (opposite (literal_at atoms l)) (contains_literal atoms ls (negated l) (denied l (contains-first l picked)));
    },
    all_closed earlier ls picked as' picks.1 (λ m h. denied m (contains-later m l picked h)),
  )

  -- what is in a clause of an instance: the negations of the principals, and what was picked
  principal_denied : (principals picked : List SatLit) (m : SatLit) → holds principals m ≡ true → holds (each_once (map negated principals ++ picked)) (negated m) ≡ true
  principal_denied principals picked m h =
      holds-without_repeats (map negated principals ++ picked) (negated m)
      ∙ holds-append (map negated principals) picked (negated m)
      ∙ or_left (holds (map negated principals) (negated m)) (holds picked (negated m)) (held-negated principals m h)

  pub picked_held : (principals picked : List SatLit) (m : SatLit) → holds picked m ≡ true → holds (each_once (map negated principals ++ picked)) m ≡ true
  picked_held principals picked m h =
      holds-without_repeats (map negated principals ++ picked) m
      ∙ holds-append (map negated principals) picked m
      ∙ or_right (holds (map negated principals) m) (holds picked m) h

  -- what a clause holds, its negations hold negated
  in_negations : (clause : List SatLit) (m : SatLit) → holds clause (negated m) ≡ true → holds (map negated clause) m ≡ true
  in_negations clause m h = subst (λ k. holds (map negated clause) k ≡ true) (negated-negated m) (held-negated clause (negated m) h)

  -- the branch of the line of a clause of an instance holds the principals
  pub principals_held : (c : List SatLit) (i : Instance) → IsClauseOf scope rows atoms c i → (m : SatLit) → holds i.principals m ≡ true → holds (map negated c) m ≡ true
  principals_held c i h m held =
      let by = clause_picked i.principals i.alternatives c h.is_one in
      in_negations c m (subst (λ k. holds k (negated m) ≡ true) (sym by.is) (principal_denied i.principals by.picked m held))

  -- the line of a clause of an instance is right
  pub instance_right : (n : ℕ) (c : List SatLit) (i : Instance) → IsClauseOf scope rows atoms c i → HasRightLeaves (instance_line n c i)
  instance_right n c i h =
      let ls = map negated c in
      let by = clause_picked i.principals i.alternatives c h.is_one in
      let alternatives = map (literals_of atoms) i.alternatives in
      let instance = instance_placed scope rows atoms ls i.principals i.rule alternatives h.fits (principals_held c i h) in
      record {
        typed = fits_typed scope rows (rule_at_places i.rule (map (place_in ls) i.principals)) instance.principals alternatives instance.fits;
        alternatives = alternatives;
        instance = instance;
        closed = λ earlier. all_closed earlier ls by.picked i.alternatives by.picks (λ m held. held-negated c m (subst (λ k. holds k m ≡ true) (sym by.is) (picked_held i.principals by.picked m (held_in by.picked m held))));
      }

  module _ (Start : SatLit → Type 0) where
    -- what stands for a clause is right
    abbrev pub IsRight : List SatLit → Standing → Type 0
    IsRight c (start n l) = (c ≡ l ∷ []) × Start l
    IsRight c (line t) = Backed Start c (branch t) × HasRightLeaves t

    pair_right : (c : List SatLit) (x y : SatLit) → Start x → Start y → literal_at atoms y ≡ opposite (literal_at atoms x) → Backed Start c (x ∷ y ∷ []) × IsRightLeaf (x ∷ y ∷ []) (AtTwo Close 0 1) []
    pair_right c x y first second e = (
      λ m h. elim (or_cases (same_literal m x) (holds (y ∷ []) m) h) [
        | inl here ↦ inl (subst Start (sym (same_literal-true m x here)) first)
        | inr later ↦ inl (subst Start (sym (only_literal y m later)) second)
      ],
      record {
        typed = tt;
        alternatives = [];
        instance = record { principals = literal_at atoms x ∷ opposite (literal_at atoms x) ∷ []; at_places = (refl, (ap Some e, tt)); fits = close_rule 0 1 (literal_at atoms x) };
        closed = λ earlier. tt;
      },
    )

    joined_right : (p : Place) (v : Var) (a b : List SatLit) (s t : Standing) → holds a (positive v) ≡ true → holds b (negative v) ≡ true → IsRight a s → IsRight b t → IsRight (resolvent v a b) (joined_standing p v s t)
    joined_right p v a b (start m l) (start n k) h j given also =
        let first : positive v ≡ l = only_literal l (positive v) (subst (λ c. holds c (positive v) ≡ true) given.0 h) in
        let second : negative v ≡ k = only_literal k (negative v) (subst (λ c. holds c (negative v) ≡ true) also.0 j) in
        go (nat_lt m n) (ap (λ x. opposite (literal_at atoms x)) first) (ap (literal_at atoms) second) (ap (literal_at atoms) first) (ap (λ x. opposite (literal_at atoms x)) second)
      where
        go : (c : Bool) → opposite (literal_at atoms (positive v)) ≡ opposite (literal_at atoms l) → literal_at atoms (negative v) ≡ literal_at atoms k → literal_at atoms (positive v) ≡ literal_at atoms l → opposite (literal_at atoms (negative v)) ≡ opposite (literal_at atoms k)
            → Backed Start (resolvent v a b) (if c then l ∷ k ∷ [] else k ∷ l ∷ []) × IsRightLeaf (if c then l ∷ k ∷ [] else k ∷ l ∷ []) (AtTwo Close 0 1) []
        go true e f g i = pair_right (resolvent v a b) l k given.1 also.1 (sym f ∙ e)
        go false e f g i = pair_right (resolvent v a b) k l also.1 given.1 (sym g ∙ i)
    joined_right p v a b (start m l) (line t) h j given also =
        let first : positive v ≡ l = only_literal l (positive v) (subst (λ c. holds c (positive v) ≡ true) given.0 h) in
        (unit_first Start v a b (branch t) (subst Start (sym first) given.1) also.0, also.1)
    joined_right p v a b (line t) (start n k) h j given also =
        let second : negative v ≡ k = only_literal k (negative v) (subst (λ c. holds c (negative v) ≡ true) also.0 j) in
        (unit_second Start v a b (branch t) (subst Start (sym second) also.1) given.0, given.1)
    joined_right p v a b (line t) (line u) h j given also =
        (cut_backed Start v a b (branch u) (branch t) given.0 also.0, (also.1, given.1))

    pub stepped_right : (p : Place) (v : Var) (a b c : List SatLit) (s t : Standing) → resolved v a b ≡ Some c → IsRight a s → IsRight b t → IsRight c (standing_after_step p v a s b t)
    stepped_right p v a b c s t e given also = go (holds a (positive v) && holds b (negative v)) (holds a (negative v) && holds b (positive v)) refl refl e
      where
        go : (x y : Bool) → (holds a (positive v) && holds b (negative v)) ≡ x → (holds a (negative v) && holds b (positive v)) ≡ y → (if x then Some (resolvent v a b) else (if y then Some (resolvent v b a) else None)) ≡ Some c → IsRight c (if x then joined_standing p v s t else joined_standing p v t s)
        go true y is isnt e =
            let parts = and_parts (holds a (positive v)) (holds b (negative v)) is in
            let same : resolvent v a b ≡ c = cc in
            subst (λ k. IsRight k (joined_standing p v s t)) same (joined_right p v a b s t parts.0 parts.1 given also)
        go false true is isnt e =
            let parts = and_parts (holds a (negative v)) (holds b (positive v)) isnt in
            let same : resolvent v b a ≡ c = cc in
            subst (λ k. IsRight k (joined_standing p v t s)) same (joined_right p v b a t s parts.1 parts.0 also given)
        go false false is isnt e = cc

module _ (scope : Scope) (begin : List Literal) (input : Input) (given : IsGiven scope begin input) where
  abbrev pub IsStart : SatLit → Type 0
  IsStart l = Contains begin (literal_at input.atoms l)

  abbrev pub IsRightThere : List SatLit → Standing → Type 0
  IsRightThere c s = IsRight (with_rows scope input.rows) input.rows input.atoms IsStart c s

  pub stands_right : (p : Place) (c : List SatLit) (s : Standing) → Stands input p c s → IsRightThere c s
  stands_right p c s (of_start n l e) = (refl, given.clauses n (start_unit l) e)
  stands_right p c s (of_instance n d i e) =
      (λ m h. inr (negated-held d m h), instance_right (with_rows scope input.rows) input.rows input.atoms n d i (given.clauses n (clause_by d i) e))
  stands_right p c s (of_first n entry d t e h) = stands_right _ d t h
  stands_right p c s (of_next n k entry step a b d x y e f h j r) =
      stepped_right (with_rows scope input.rows) input.rows input.atoms IsStart _ step.var a b d x y r (stands_right _ a x h) (stands_right _ b y j)
  stands_right p c s (of_result n entry d t e h) = stands_right _ d t h
