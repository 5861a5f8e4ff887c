-- The rules that are read stand at the front of the bytes.
use Rattle.std.proofs.Common.{◌≡◌, ℕ, ◌^◌, ◌<◌, List, [], ◌∷◌, ◌++◌, Some, None, codes, decimal, sym, ap, ap₂, subst, ◌∙◌, append_assoc, arith}
use Rattle.tableau_calculus.specs.declared.rule_use.OnePlace.{OnePlace}
use Rattle.tableau_calculus.specs.declared.rule_use.TwoPlaces.{TwoPlaces}
use Rattle.tableau_calculus.specs.declared.rule_use.OfPredicate.{OfPredicate}
use Rattle.tableau_calculus.specs.declared.rule_use.RuleUse.{RuleUse}
use Rattle.tableau_calculus.specs.declared.rule_use.RuleUse.TheVariants.{AtOne, AtTwo, AllPos, WithPredicate, Cut}
use Rattle.refute_print.specs.Trees.{TermTree, LiteralTree}
use Rattle.refute_print.specs.Text.{term_text, literal_text, one_place_name, one_place_rules, two_places_name, two_places_rules, predicate_name, predicate_rules, rule_text}
use Rattle.refute_print.specs.Limits.{greatest_depth, IsRule}
use Rattle.refute_text.specs.Internal.Reader.{behind_text, number_at}
use Rattle.refute_text.specs.Internal.TermReader.{term_text_at}
use Rattle.refute_text.specs.Internal.LineReader.{literal_text_at, place_text_at, one_place_at, places_at, two_places_at, instance_at, predicate_at, cut_at, named_first, one_place_named, two_places_named, predicate_named, rule_at}
use Rattle.refute_text.proofs.Inversions.{found, found_first, found_second, bind_sound, front_sound, behind_some}
use Rattle.refute_text.proofs.NameReads.{number_reads}
use Rattle.refute_text.proofs.TermReads.{term_reads}
use Rattle.refute_text.proofs.LiteralReads.{literal_reads}

-- the rule's text is at the front of the bytes
pub record RuleStands (bs : List ℕ) (rule : RuleUse ℕ TermTree LiteralTree) (r : List ℕ) : Type 0 where
  pub text : bs ≡ rule_text rule ++ r
  pub is_rule : IsRule rule

rule_stands : (bs : List ℕ) (a b : RuleUse ℕ TermTree LiteralTree) (r s : List ℕ) → bs ≡ rule_text a ++ r → IsRule a → found a r ≡ found b s → RuleStands bs b s
rule_stands bs a b r s text is h = record {
  text = text ∙ ap₂ (λ x y. rule_text x ++ y) (found_first a b r s h) (found_second a b r s h);
  is_rule = subst IsRule (found_first a b r s h) is;
}

place_reads : (bs : List ℕ) (i : ℕ) (r : List ℕ) → place_text_at bs ≡ Some (i, r) → (bs ≡ decimal i ++ (codes ")" ++ r)) × (i < 2 ^ 64)
unfolding place_text_at
place_reads bs i r h =
    bind_sound (number_at (2 ^ 64) bs) _ (i, r) h (λ n at h1.
    bind_sound (behind_text (codes ")") n.1) (λ rest. found n.0 rest) (i, r) h1 (λ rest at1 h2.
    let p = number_reads (2 ^ 64) n.0 bs n.1 (omega arith) at in
    let same = found_first n.0 i rest r h2 in
    (p.0 ∙ ap₂ (λ x y. decimal x ++ y) same (behind_some (codes ")") n.1 rest at1 ∙ ap (λ x. codes ")" ++ x) (found_second n.0 i rest r h2)), subst (λ x. x < 2 ^ 64) same p.1)))

one_place_reads : (name : OnePlace) (bs : List ℕ) (rule : RuleUse ℕ TermTree LiteralTree) (r : List ℕ) → one_place_at name bs ≡ Some (rule, r) → RuleStands ((one_place_name name ++ codes "(") ++ bs) rule r
one_place_reads name bs rule r h =
    bind_sound (place_text_at bs) (λ i. found (AtOne name i.0) i.1) (rule, r) h (λ i at k.
    let p = place_reads bs i.0 i.1 at in
    rule_stands ((one_place_name name ++ codes "(") ++ bs) (AtOne name i.0) rule i.1 r
    (ap (λ x. (one_place_name name ++ codes "(") ++ x) p.0 ∙ regroup (one_place_name name) (decimal i.0) i.1) p.1 k)
  where
    regroup : (n d r : List ℕ) → (n ++ codes "(") ++ (d ++ (codes ")" ++ r)) ≡ (n ++ (codes "(" ++ (d ++ codes ")"))) ++ r
    regroup n d r = simp append_assoc

two_places_reads : (name : TwoPlaces) (bs : List ℕ) (rule : RuleUse ℕ TermTree LiteralTree) (r : List ℕ) → two_places_at name bs ≡ Some (rule, r) → RuleStands ((two_places_name name ++ codes "(") ++ bs) rule r
two_places_reads name bs rule r h =
    bind_sound (places_at bs) (λ p. found (AtTwo name p.0.0 p.0.1) p.1) (rule, r) h (λ p at k.
    bind_sound (number_at (2 ^ 64) bs) _ p at (λ i at1 k1.
    bind_sound (behind_text (codes ",") i.1) _ p k1 (λ rest at2 k2.
    bind_sound (place_text_at rest) (λ j. found (i.0, j.0) j.1) p k2 (λ j at3 k3.
    let m = number_reads (2 ^ 64) i.0 bs i.1 (omega arith) at1 in
    let n = place_reads rest j.0 j.1 at3 in
    rule_stands ((two_places_name name ++ codes "(") ++ bs) (AtTwo name i.0 j.0) rule j.1 r
    (ap (λ x. (two_places_name name ++ codes "(") ++ x) (m.0 ∙ ap (λ x. decimal i.0 ++ x) (behind_some (codes ",") i.1 rest at2 ∙ ap (λ x. codes "," ++ x) n.0)) ∙ regroup (two_places_name name) (decimal i.0) (decimal j.0) j.1)
    (m.1, n.1) (ap₂ (λ x y. found (AtTwo name x.0 x.1) y) (found_first (i.0, j.0) p.0 j.1 p.1 k3) (found_second (i.0, j.0) p.0 j.1 p.1 k3) ∙ k)))))
  where
    regroup : (n i j r : List ℕ) → (n ++ codes "(") ++ (i ++ (codes "," ++ (j ++ (codes ")" ++ r)))) ≡ (n ++ (codes "(" ++ (i ++ (codes "," ++ (j ++ codes ")"))))) ++ r
    regroup n i j r = simp append_assoc

instance_reads : (bs : List ℕ) (rule : RuleUse ℕ TermTree LiteralTree) (r : List ℕ) → instance_at bs ≡ Some (rule, r) → RuleStands (codes "All+(" ++ bs) rule r
instance_reads bs rule r h =
    bind_sound (number_at (2 ^ 64) bs) _ (rule, r) h (λ i at h1.
    bind_sound (behind_text (codes ";") i.1) _ (rule, r) h1 (λ rest at1 h2.
    bind_sound (term_text_at greatest_depth rest) _ (rule, r) h2 (λ u at2 h3.
    bind_sound (behind_text (codes ")") u.1) (λ end. found (AllPos i.0 u.0) end) (rule, r) h3 (λ end at3 h4.
    let m = number_reads (2 ^ 64) i.0 bs i.1 (omega arith) at in
    let t = term_reads greatest_depth rest u.0 u.1 at2 in
    rule_stands (codes "All+(" ++ bs) (AllPos i.0 u.0) rule end r
    (ap (λ x. codes "All+(" ++ x) (m.0 ∙ ap (λ x. decimal i.0 ++ x) (behind_some (codes ";") i.1 rest at1 ∙ ap (λ x. codes ";" ++ x) (t.text ∙ ap (λ x. term_text u.0 ++ x) (behind_some (codes ")") u.1 end at3)))) ∙ regroup (decimal i.0) (term_text u.0) end)
    (m.1, record { is_term = t.is_term; within = t.within }) h4))))
  where
    regroup : (i u r : List ℕ) → codes "All+(" ++ (i ++ (codes ";" ++ (u ++ (codes ")" ++ r)))) ≡ (codes "All+(" ++ (i ++ (codes ";" ++ (u ++ codes ")")))) ++ r
    regroup i u r = simp append_assoc

predicate_reads : (name : OfPredicate) (bs : List ℕ) (rule : RuleUse ℕ TermTree LiteralTree) (r : List ℕ) → predicate_at name bs ≡ Some (rule, r) → RuleStands ((predicate_name name ++ codes "(") ++ bs) rule r
predicate_reads name bs rule r h =
    bind_sound (term_text_at greatest_depth bs) _ (rule, r) h (λ f at h1.
    bind_sound (behind_text (codes ")") f.1) (λ end. found (WithPredicate name f.0) end) (rule, r) h1 (λ end at1 h2.
    let t = term_reads greatest_depth bs f.0 f.1 at in
    rule_stands ((predicate_name name ++ codes "(") ++ bs) (WithPredicate name f.0) rule end r
    (ap (λ x. (predicate_name name ++ codes "(") ++ x) (t.text ∙ ap (λ x. term_text f.0 ++ x) (behind_some (codes ")") f.1 end at1)) ∙ regroup (predicate_name name) (term_text f.0) end)
    (record { is_term = t.is_term; within = t.within }) h2))
  where
    regroup : (n f r : List ℕ) → (n ++ codes "(") ++ (f ++ (codes ")" ++ r)) ≡ (n ++ (codes "(" ++ (f ++ codes ")"))) ++ r
    regroup n f r = simp append_assoc

cut_reads : (bs : List ℕ) (rule : RuleUse ℕ TermTree LiteralTree) (r : List ℕ) → cut_at bs ≡ Some (rule, r) → RuleStands (codes "Cut(" ++ bs) rule r
cut_reads bs rule r h =
    bind_sound (literal_text_at bs) _ (rule, r) h (λ l at h1.
    bind_sound (behind_text (codes ")") l.1) (λ end. found (Cut l.0) end) (rule, r) h1 (λ end at1 h2.
    let t = literal_reads bs l.0 l.1 at in
    rule_stands (codes "Cut(" ++ bs) (Cut l.0) rule end r
    (ap (λ x. codes "Cut(" ++ x) (t.text ∙ ap (λ x. literal_text l.0 ++ x) (behind_some (codes ")") l.1 end at1)) ∙ regroup (literal_text l.0) end)
    t.is_literal h2))
  where
    regroup : (l r : List ℕ) → codes "Cut(" ++ (l ++ (codes ")" ++ r)) ≡ (codes "Cut(" ++ (l ++ codes ")")) ++ r
    regroup l r = simp append_assoc

-- a name of the list stands at the front
named_reads : {K : Type 0} (name : K → List ℕ) (ks : List K) (bs : List ℕ) (k : K) (r : List ℕ) → named_first name ks bs ≡ Some (k, r) → bs ≡ (name k ++ codes "(") ++ r
named_reads name [] bs k r h = cc
named_reads name (j ∷ ks) bs k r h =
    front_sound (behind_text (name j ++ codes "(") bs) (λ rest. found j rest) (named_first name ks bs) (k, r) h
    (λ rest at e. behind_some (name j ++ codes "(") bs rest at ∙ ap₂ (λ x y. (name x ++ codes "(") ++ y) (found_first j k rest r e) (found_second j k rest r e))
    (λ e. named_reads name ks bs k r e)

one_place_stands : (bs : List ℕ) (k : OnePlace) (r : List ℕ) → one_place_named bs ≡ Some (k, r) → bs ≡ (one_place_name k ++ codes "(") ++ r
unfolding one_place_named
one_place_stands bs k r h = named_reads one_place_name one_place_rules bs k r h

two_places_stand : (bs : List ℕ) (k : TwoPlaces) (r : List ℕ) → two_places_named bs ≡ Some (k, r) → bs ≡ (two_places_name k ++ codes "(") ++ r
unfolding two_places_named
two_places_stand bs k r h = named_reads two_places_name two_places_rules bs k r h

predicate_stands : (bs : List ℕ) (k : OfPredicate) (r : List ℕ) → predicate_named bs ≡ Some (k, r) → bs ≡ (predicate_name k ++ codes "(") ++ r
unfolding predicate_named
predicate_stands bs k r h = named_reads predicate_name predicate_rules bs k r h

pub rule_reads : (bs : List ℕ) (rule : RuleUse ℕ TermTree LiteralTree) (r : List ℕ) → rule_at bs ≡ Some (rule, r) → RuleStands bs rule r
unfolding rule_at
rule_reads bs rule r h =
    let behind = λ (front rest : List ℕ) (is : bs ≡ front ++ rest) (stands : RuleStands (front ++ rest) rule r). subst (λ x. RuleStands x rule r) (sym is) stands in
    front_sound (one_place_named bs) _ _ (rule, r) h
    (λ k at e. behind (one_place_name k.0 ++ codes "(") k.1 (one_place_stands bs k.0 k.1 at) (one_place_reads k.0 k.1 rule r e))
    (λ h1. front_sound (two_places_named bs) _ _ (rule, r) h1
    (λ k at e. behind (two_places_name k.0 ++ codes "(") k.1 (two_places_stand bs k.0 k.1 at) (two_places_reads k.0 k.1 rule r e))
    (λ h2. front_sound (predicate_named bs) _ _ (rule, r) h2
    (λ k at e. behind (predicate_name k.0 ++ codes "(") k.1 (predicate_stands bs k.0 k.1 at) (predicate_reads k.0 k.1 rule r e))
    (λ h3. front_sound (behind_text (codes "All+(") bs) instance_at _ (rule, r) h3
    (λ rest at e. behind (codes "All+(") rest (behind_some (codes "All+(") bs rest at) (instance_reads rest rule r e))
    (λ h4. front_sound (behind_text (codes "Cut(") bs) cut_at None (rule, r) h4
    (λ rest at e. behind (codes "Cut(") rest (behind_some (codes "Cut(") bs rest at) (cut_reads rest rule r e)) (λ e. cc)))))
