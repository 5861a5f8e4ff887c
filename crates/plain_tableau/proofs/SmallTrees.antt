-- The terms of a tree's refutation are small where those of the clauses are.
use Rattle.std.proofs.Common.{◌≡◌, ◌+◌, not, cond, ℕ, suc, Bool, true, false, get_or, List, [], ◌∷◌, ◌++◌, map, Some, option_map, unwrap_or, slice_get, Contains, refl, sym, ap, ◌∙◌, subst, arith}
use Rattle.std.specs.List.{All, AllByRecursion}
use Rattle.std.proofs.lemmas.Option.{slice_get-map}
use Rattle.stt_core.specs.SimpleType.{SimpleType, base, arrow}
use Rattle.stt_core.specs.Lambda.{Lambda, imp, eq}
use Rattle.stt_core.specs.Typing.{Scope}
use Rattle.tableau_calculus.specs.Literals.{Literal}
use Rattle.tableau_calculus.specs.Witnesses.{Row}
use Rattle.tableau_calculus.specs.Kinds.{added}
use Rattle.tableau_calculus.specs.Rules.{PlainRule, differ_each, fun_pos, fun_neg, Alone, Rule, alone_rule, close_rule, all_pos_rule, all_neg_rule, mat_rule, dec_rule, con_rule, cho_rule, des_rule, cut_rule}
use Rattle.tableau_calculus.specs.declared.rule_use.OnePlace.{OnePlace}
use Rattle.tableau_calculus.specs.declared.refutation.Child.{Child}
use Rattle.tableau_calculus.proofs.AloneLaws.{IsOfParts, alone_parts}
use Rattle.tableau_calculus.proofs.ListLaws.{contains_cases, contains-later, contains-first}
use Rattle.sat_base.specs.declared.literal.SatLit.{SatLit}
use Rattle.sat_base.specs.Literal.{negated, same_literal, holds}
use Rattle.sat_base.proofs.LiteralLaws.{same_literal-true}
use Rattle.sat_log.specs.declared.log.LogEntry.{LogEntry}
use Rattle.sat_log.specs.Resolution.{without_literal, each_once}
use Rattle.search_spec.specs.Clauses.{instance_clauses}
use Rattle.tableau_calculus.specs.Each.{Each}
use Rattle.search_spec.specs.Numbered.{numbers, literal_at}
use Rattle.term_bank.specs.Content.{Content}
use Rattle.witness_names.specs.Rows.{rows_of}
use Rattle.tableau_clauses.specs.declared.origin.Origin.{Origin}
use Rattle.tableau_clauses.specs.declared.origin.Origin.TheVariants.{Start, Instance as From}
use Rattle.tableau_clauses.specs.Table.{Step, Table, ComesFromOrigin, EachComes, the_instances, units_in, start_units}
use Rattle.tableau_rules.specs.Uses.{use_of}
use Rattle.refute_print.specs.Sizes.{IsSmallTerm, AreSmallLiterals, IsSmall}
use Rattle.rebuild_spec.specs.Input.{literals_of, Input}
use Rattle.rebuild_spec.specs.Stands.{place_in}
use Rattle.rebuild_spec.proofs.PickedLaws.{Picks, clause_picked}
use Rattle.small_rebuilt.specs.Small.{TakesSmall, IsSmallSource, InputHasSmallTerms, HasSmallParts, AreNumbersInRange}
use Rattle.small_rebuilt.proofs.SmallLaws.{placed_takes, taken_small}
use Rattle.small_rebuilt.proofs.RangeLaws.{in_range_small}
use Rattle.tableau_rebuild.specs.Tables.{no_literal, no_instance, atoms_at, the_instance, sourced, the_input}
use Rattle.tableau_rebuild.specs.Conditions.{IsInstanceOver}
use Rattle.tableau_rebuild.specs.UsedInstances.{IsUsedInstance}
use Rattle.plain_tableau.specs.Trees.{TreeInstance, PlainTree, closed, node, PlainTrees, none, more, nodes_in}
use Rattle.plain_tableau.specs.Expansion.{is_due, Expanded, found, open_at, over, put_under, put_before, Expands, closes, stays_open, is_over, makes, ExpandEach, no_more, open_below, over_below, goes_on, Expansion, at_once, not_at_once, grows}
use Rattle.plain_tableau.specs.Lines.{node_line, tree_children, lines_for_tree, lines_for_trees}
use Rattle.plain_tableau.specs.Small.{HasSmallAtom, AddsSmall, TreeTermsAreSmall}
use Rattle.plain_tableau.specs.Tables.{expanded, used_at, the_used, start_branch, IsStripped, OfTree}
use Rattle.plain_tableau.specs.declared.stripped.Stripped.{Stripped}
use Rattle.plain_tableau.specs.declared.stripped.Stripped.TheVariants.{Tree as Whole, Open, Over}
use Rattle.plain_tableau.proofs.ListLaws.{first_passes}
use Rattle.plain_tableau.proofs.ExpandLaws.{step_there}
use Rattle.plain_tableau.proofs.UsedLaws.{all_at}

-- LISTS

each_joined : {A : Type 0} (P : A → Type 0) (xs ys : List A) → Each P xs → Each P ys → Each P (xs ++ ys)
each_joined P [] ys h k = k
each_joined P (x ∷ xs) ys h k = (h.0, each_joined P xs ys h.1 k)

each_parts : {A : Type 0} (P : A → Type 0) (xs ys : List A) → Each P (xs ++ ys) → Each P xs × Each P ys
each_parts P [] ys h = (tt, h)
each_parts P (x ∷ xs) ys h = let r = each_parts P xs ys h.1 in ((h.0, r.0), r.1)

each_held : {A : Type 0} (P : A → Type 0) (xs : List A) (x : A) → Contains xs x → Each P xs → P x
each_held P [] x c h = absurd (omega (arith, c.1))
each_held P (y ∷ xs) x c h = contains_cases (P x) x y xs c (λ same. subst P same h.0) (λ later. each_held P xs x later h.1)

each_mapped : {A B : Type 0} (P : B → Type 0) (f : A → B) (xs : List A) → Each (λ x. P (f x)) xs → Each P (map f xs)
each_mapped P f [] h = tt
each_mapped P f (x ∷ xs) h = (h.0, each_mapped P f xs h.1)

each_unmapped : {A B : Type 0} (P : B → Type 0) (f : A → B) (xs : List A) → Each P (map f xs) → Each (λ x. P (f x)) xs
each_unmapped P f [] h = tt
each_unmapped P f (x ∷ xs) h = (h.0, each_unmapped P f xs h.1)

all_joined : {A : Type 0} (P : A → Type 0) (xs ys : List A) → AllByRecursion P xs → AllByRecursion P ys → AllByRecursion P (xs ++ ys)
all_joined P [] ys h k = k
all_joined P (x ∷ xs) ys h k = (h.0, all_joined P xs ys h.1 k)

contains_mapped : {A B : Type 0} (f : A → B) (xs : List A) (x : A) → Contains xs x → Contains (map f xs) (f x)
contains_mapped f [] x c = absurd (omega (arith, c.1))
contains_mapped f (y ∷ xs) x c =
    contains_cases (Contains (map f (y ∷ xs)) (f x)) x y xs c (λ same. subst (λ z. Contains (map f (y ∷ xs)) z) (ap f same) (contains-first (f y) (map f xs)))
    (λ later. contains-later (f x) (f y) (map f xs) (contains_mapped f xs x later))

-- literals without repeats
module _ (P : SatLit → Type 0) where
  unfiltered : (l : SatLit) (c : List SatLit) → P l → Each P (without_literal l c) → Each P c
  unfiltered l [] h k = tt
  unfiltered l (m ∷ c) h k = go (same_literal l m) refl (unfiltered l c h) k
    where
      go : (b : Bool) → same_literal l m ≡ b → (Each P (without_literal l c) → Each P c) → Each P (cond (not b) (m ∷ without_literal l c) (without_literal l c)) → Each P (m ∷ c)
      go true e rest d = (subst P (same_literal-true l m e) h, rest d)
      go false e rest d = (d.0, rest d.1)

  once_each : (c : List SatLit) → Each P (each_once c) → Each P c
  once_each [] h = tt
  once_each (l ∷ c) h = (h.0, once_each c (unfiltered l (each_once c) h.0 h.1))

  added_each : (ls ks : List SatLit) → Each P ls → Each P ks → Each P (added numbers ls ks)
  added_each ls [] h g = h
  added_each ls (k ∷ ks) h g = go (holds ls k) (λ next n. added_each next ks n g.1)
    where
      go : (b : Bool) → ((next : List SatLit) → Each P next → Each P (added numbers next ks)) → Each P (added numbers (cond b ls (ls ++ k ∷ [])) ks)
      go true rest = rest ls h
      go false rest = rest (ls ++ k ∷ []) (each_joined P ls (k ∷ []) h (g.0, tt))

-- THE ALTERNATIVES OF A RULE

abbrev HasSmall : Literal → Type 0
HasSmall l = IsSmallTerm l.atom

-- one literal from each alternative
abbrev PicksLiterals : List Literal → List (List Literal) → Type 0
PicksLiterals [] [] = Unit {0}
PicksLiterals [] (a ∷ as') = ⊥
PicksLiterals (l ∷ ls) [] = ⊥
PicksLiterals (l ∷ ls) (a ∷ as') = Contains a l × PicksLiterals ls as'

abbrev AreSingles : List (List Literal) → Type 0
AreSingles [] = Unit {0}
AreSingles (a ∷ as') = ((x : Literal) × (a ≡ x ∷ [])) × AreSingles as'

only_one : (x c : Literal) → Contains (x ∷ []) c → HasSmall c → HasSmall x
only_one x c h s = contains_cases (HasSmall x) c x [] h (λ same. subst HasSmall (sym same) s) (λ later. absurd (omega (arith, later.1)))

-- where each alternative is one literal, all of them are picked
singles_small : (as' : List (List Literal)) → AreSingles as' → (picked : List Literal) → PicksLiterals picked as' → Each HasSmall picked → Each (Each HasSmall) as'
singles_small [] single picked picks h = tt
singles_small (a ∷ as') single [] picks h = absurd picks
singles_small (a ∷ as') single (c ∷ picked) picks h =
    let x = single.0.0 in
    let is = single.0.1 in
    (subst (Each HasSmall) (sym is) (only_one x c (subst (λ b. Contains b c) is picks.0) h.0, tt), singles_small as' single.1 picked picks.1 h.1)

differ_singles : (a : SimpleType) (ss ts : List Lambda) → AreSingles (differ_each a ss ts)
differ_singles (base n) ss ts = tt
differ_singles (arrow a b) [] ts = tt
differ_singles (arrow a b) (s ∷ ss) [] = tt
differ_singles (arrow a b) (s ∷ ss) (t ∷ ts) = ((_, refl), differ_singles b ss ts)

-- the sides of an implication and of an equation
imp_sides : (s t : Lambda) → IsSmallTerm (imp s t) → IsSmallTerm s × IsSmallTerm t
imp_sides s t h = (record { terms = omega (arith, h.terms); types = omega (arith, h.types) }, record { terms = omega (arith, h.terms); types = omega (arith, h.types) })

eq_sides : (a : SimpleType) (s t : Lambda) → IsSmallTerm (eq a s t) → IsSmallTerm s × IsSmallTerm t
eq_sides a s t h = (record { terms = omega (arith, h.terms); types = omega (arith, h.types) }, record { terms = omega (arith, h.terms); types = omega (arith, h.types) })

-- equations between sides of two others
crossed : (a : SimpleType) (s t u v : Lambda) → IsSmallTerm (eq a s t) → IsSmallTerm (eq a u v) → IsSmallTerm (eq a s u) × IsSmallTerm (eq a t u) × IsSmallTerm (eq a s v) × IsSmallTerm (eq a t v)
crossed a s t u v h k = (
  record { terms = omega (arith, h.terms, k.terms); types = omega (arith, h.types, k.types) },
  record { terms = omega (arith, h.terms, k.terms); types = omega (arith, h.types, k.types) },
  record { terms = omega (arith, h.terms, k.terms); types = omega (arith, h.types, k.types) },
  record { terms = omega (arith, h.terms, k.terms); types = omega (arith, h.types, k.types) },
)

small_parts : IsOfParts IsSmallTerm
small_parts = record {
  negations = λ s h. record { terms = omega (arith, h.terms); types = omega (arith, h.types) };
  implications = λ s t h. imp_sides s t h;
  equations = λ a s t h. eq_sides a s t h;
}

alone_small : (kind : OnePlace) (l : Literal) (as' : List (List Literal)) → Alone kind l as' → (picked : List Literal) → PicksLiterals picked as' → HasSmall l → Each HasSmall picked → Each (Each HasSmall) as'
alone_small kind l as' fits picked picks h k =
    alone_parts IsSmallTerm small_parts (λ bs. PicksLiterals picked bs → Each (Each HasSmall) bs) (λ bs each p. each)
    (λ a b s t g. ((λ p. singles_small (fun_pos a b s t) ((_, refl), tt) picked p k), (λ p. singles_small (fun_neg a b s t) ((_, refl), tt) picked p k)))
    kind l as' fits h picks

-- where the principals and a literal from each alternative are small, all literals of the alternatives are
rule_small : (scope : Scope) (rows : List Row) (rule : PlainRule) (ps : List Literal) (as' : List (List Literal)) → Rule scope rows rule ps as' → (picked : List Literal) → PicksLiterals picked as' → Each HasSmall ps → Each HasSmall picked → Each (Each HasSmall) as'
rule_small scope rows rule ps as' (alone_rule i kind l alternatives fits) picked picks h k = alone_small kind l as' fits picked picks h.0 k
rule_small scope rows rule ps as' (close_rule i j l) picked picks h k = tt
rule_small scope rows rule ps as' (all_pos_rule i a f u c) picked picks h k = singles_small as' ((_, refl), tt) picked picks k
rule_small scope rows rule ps as' (all_neg_rule i n a f at) picked picks h k = singles_small as' ((_, refl), tt) picked picks k
rule_small scope rows rule ps as' (mat_rule i j c a s t ss ts d e) picked picks h k = singles_small as' (differ_singles a (s ∷ ss) (t ∷ ts)) picked picks k
rule_small scope rows rule ps as' (dec_rule i n c a s t ss ts d e) picked picks h k = singles_small as' (differ_singles a (s ∷ ss) (t ∷ ts)) picked picks k
rule_small scope rows rule ps as' (con_rule i j n s t u v) picked picks h k =
    let c = crossed (base (suc n)) s t u v h.0 h.1.0 in
    ((c.0, (c.1, tt)), ((c.2, (c.3, tt)), tt))
rule_small scope rows rule ps as' (cho_rule a f c) picked picks h k = singles_small as' ((_, refl), ((_, refl), tt)) picked picks k
rule_small scope rows rule ps as' (des_rule a f c) picked picks h k = singles_small as' ((_, refl), ((_, refl), ((_, refl), tt))) picked picks k
rule_small scope rows rule ps as' (cut_rule l c) picked picks h k = singles_small as' ((_, refl), ((_, refl), tt)) picked picks k

-- AN INSTANCE WITH A CLAUSE

module _ (atoms : List Lambda) where
  abbrev Small : SatLit → Type 0
  Small l = HasSmallAtom atoms l

  picks_mapped : (picked : List SatLit) (as' : List (List SatLit)) → Picks picked as' → PicksLiterals (literals_of atoms picked) (map (literals_of atoms) as')
  picks_mapped [] [] h = tt
  picks_mapped [] (a ∷ as') h = h
  picks_mapped (l ∷ ls) [] h = h
  picks_mapped (l ∷ ls) (a ∷ as') h = (contains_mapped (literal_at atoms) a l h.0, picks_mapped ls as' h.1)

  lists_unmapped : (as' : List (List SatLit)) → Each (Each HasSmall) (map (literals_of atoms) as') → Each (Each Small) as'
  lists_unmapped [] h = tt
  lists_unmapped (a ∷ as') h = (each_unmapped HasSmall (literal_at atoms) a h.0, lists_unmapped as' h.1)

  unnegated : (ls : List SatLit) → Each Small (map negated ls) → Each Small ls
  unnegated [] h = tt
  unnegated (l ∷ ls) h = (h.0, unnegated ls h.1)

  -- the alternatives of an instance one of whose clauses is small
  alternatives_small : (scope : Scope) (rows : List Row) (rule : PlainRule) (principals : List SatLit) (as' : List (List SatLit)) (clause : List SatLit) → Rule scope rows rule (literals_of atoms principals) (map (literals_of atoms) as') → Contains (instance_clauses numbers principals as') clause → Each Small clause → Each (Each Small) as'
  alternatives_small scope rows rule principals as' clause fits held small =
      let is = clause_picked principals as' clause held in
      let whole = once_each Small (map negated principals ++ is.picked) (subst (Each Small) is.is small) in
      let parts = each_parts Small (map negated principals) is.picked whole in
      lists_unmapped as' (rule_small scope rows rule (literals_of atoms principals) (map (literals_of atoms) as') fits (literals_of atoms is.picked) (picks_mapped is.picked as' is.picks) (each_mapped HasSmall (literal_at atoms) principals (unnegated principals parts.0)) (each_mapped HasSmall (literal_at atoms) is.picked parts.1))

  -- TREES

  abbrev mutual
    -- the branches are small, and so is what the rules take
    IsSmallTree : PlainTree SatLit → Type 0
    IsSmallTree closed = Unit {0}
    IsSmallTree (node i b ts) = Each Small b × TakesSmall i.rule × AreSmallTrees ts

    AreSmallTrees : PlainTrees SatLit → Type 0
    AreSmallTrees none = Unit {0}
    AreSmallTrees (more t ts) = IsSmallTree t × AreSmallTrees ts

  abbrev SmallTo : Expanded SatLit (PlainTree SatLit) → Type 0
  SmallTo (found t) = IsSmallTree t
  SmallTo (open_at b) = Unit {0}
  SmallTo over = Unit {0}

  abbrev AreSmallTo : Expanded SatLit (PlainTrees SatLit) → Type 0
  AreSmallTo (found ts) = AreSmallTrees ts
  AreSmallTo (open_at b) = Unit {0}
  AreSmallTo over = Unit {0}

  node_small : (i : TreeInstance SatLit) (b : List SatLit) (r : Expanded SatLit (PlainTrees SatLit)) → Each Small b → TakesSmall i.rule → AreSmallTo r → SmallTo (put_under i b r)
  node_small i b (found ts) h k each = (h, k, each)
  node_small i b (open_at c) h k each = tt
  node_small i b over h k each = tt

  first_small : (t : PlainTree SatLit) (r : Expanded SatLit (PlainTrees SatLit)) → IsSmallTree t → AreSmallTo r → AreSmallTo (put_before t r)
  first_small t (found ts) h each = (h, each)
  first_small t (open_at c) h each = tt
  first_small t over h each = tt

  module _ (used : List (TreeInstance SatLit)) (add : Each (AddsSmall atoms) used) (limit : ℕ) where
    mutual
      expands_small : (made : ℕ) (b : List SatLit) (r : Expanded SatLit (PlainTree SatLit)) → Expands numbers used limit made b r → Each Small b → SmallTo r
      expands_small made b r (closes m c e) h = tt
      expands_small made b r (stays_open m c e n) h = tt
      expands_small made b r (is_over m c i e n l) h = tt
      expands_small made b r (makes m c i q e n l each) h =
          let there = (first_passes (is_due numbers b) used i n).1 in
          let adds = each_held (AddsSmall atoms) used i there add in
          node_small i b q h adds.takes (each_small (suc made) b i.alternatives q each h adds.alternatives)

      each_small : (made : ℕ) (b : List SatLit) (as' : List (List SatLit)) (r : Expanded SatLit (PlainTrees SatLit)) → ExpandEach numbers used limit made b as' r → Each Small b → Each (Each Small) as' → AreSmallTo r
      each_small made b as' r (no_more m c) h k = tt
      each_small made b as' r (open_below m c a bs d e) h k = tt
      each_small made b as' r (over_below m c a bs e) h k = tt
      each_small made b as' r (goes_on m c a bs t q e each) h k =
          first_small t q (expands_small made (added numbers b a) (found t) e (added_each Small b a h k.0)) (each_small (made + nodes_in t) b bs q each h k.1)

    expansion_small : (start : List SatLit) (r : Expanded SatLit (PlainTree SatLit)) → Expansion numbers used limit start r → Each Small start → SmallTo r
    expansion_small start r (at_once l e b) h = (h, tt, tt)
    expansion_small start r (not_at_once l e b) h = tt
    expansion_small start r (grows q e f) h = expands_small 0 start r f h

  literals_small : (ls : List SatLit) → Each Small ls → AreSmallLiterals (literals_of atoms ls)
  literals_small [] h = tt
  literals_small (l ∷ ls) h = (h.0, literals_small ls h.1)

  line_small : (i : TreeInstance SatLit) (b : List SatLit) (children : List Child) → Each Small b → TakesSmall i.rule → HasSmallParts (node_line atoms i b children)
  line_small i b children h k = record { branch = literals_small b h; takes = placed_takes i.rule (map (place_in b) i.principals) k }

  mutual
    lines_small : (n : ℕ) (t : PlainTree SatLit) → IsSmallTree t → AllByRecursion HasSmallParts (lines_for_tree atoms n t)
    lines_small n closed h = tt
    lines_small n (node i b ts) h =
        all_joined HasSmallParts (lines_for_trees atoms n ts) (node_line atoms i b (tree_children n ts) ∷ []) (lines_all_small n ts h.2) (line_small i b (tree_children n ts) h.0 h.1, tt)

    lines_all_small : (n : ℕ) (ts : PlainTrees SatLit) → AreSmallTrees ts → AllByRecursion HasSmallParts (lines_for_trees atoms n ts)
    lines_all_small n none h = tt
    lines_all_small n (more t ts) h =
        all_joined HasSmallParts (lines_for_tree atoms n t) (lines_for_trees atoms (n + nodes_in t) ts) (lines_small n t h.0) (lines_all_small (n + nodes_in t) ts h.1)

pub tree_terms_small : TreeTermsAreSmall
tree_terms_small rows atoms used limit start t refutation rows_small add start_small e is =
    let tree = expansion_small atoms used add limit start (found t) e start_small in
    record {
      rows = subst (AllByRecursion (λ (row : Row). IsSmallTerm row.predicate)) (sym is.needed) (taken_small _ rows rows_small);
      lines = subst (AllByRecursion HasSmallParts) (sym is.lines) (lines_small atoms 0 t tree);
    }

-- TABLES

module _ (b : Content) (atoms witnesses : List ℕ) (t : Table) (log : List LogEntry) (comes : EachComes t) (given : InputHasSmallTerms (the_input b atoms t log witnesses)) where
  abbrev A : List Lambda
  A = atoms_at b.terms atoms

  abbrev input : Input
  input = the_input b atoms t log witnesses

  source_there : (steps : List Step) (n : ℕ) (s : Step) → slice_get steps n ≡ Some s → slice_get (map (λ (x : Step). sourced b.terms atoms t.1 x.0 x.1) steps) n ≡ Some (sourced b.terms atoms t.1 s.0 s.1)
  source_there steps n s e = slice_get-map (λ (x : Step). sourced b.terms atoms t.1 x.0 x.1) steps n ∙ ap (option_map (λ (x : Step). sourced b.terms atoms t.1 x.0 x.1)) e

  unit_small : (clause : List SatLit) (o : Origin) → ComesFromOrigin t.1 clause o → IsSmallSource input (sourced b.terms atoms t.1 clause o) → Each (HasSmallAtom A) (units_in clause o)
  unit_small clause Start from h =
      subst (λ ls. Each (HasSmallAtom A) ls) (sym from.1) (subst (HasSmallAtom A) (ap (λ ls. get_or ls 0 no_literal) from.1) h, tt)
  unit_small clause (From k) from h = tt

  units_small : (steps : List Step) → ((n : ℕ) (s : Step) → slice_get steps n ≡ Some s → ComesFromOrigin t.1 s.0 s.1 × IsSmallSource input (sourced b.terms atoms t.1 s.0 s.1)) → Each (HasSmallAtom A) (start_units steps)
  units_small [] h = tt
  units_small (s ∷ steps) h =
      let here = h 0 s refl in
      each_joined (HasSmallAtom A) (units_in s.0 s.1) (start_units steps) (unit_small s.0 s.1 here.0 here.1) (units_small steps (λ n r e. h (suc n) r e))

  start_small : Each (HasSmallAtom A) (start_branch t)
  start_small =
      added_each (HasSmallAtom A) [] (start_units t.0) tt (units_small t.0 (λ n s e. (comes n s e, given.clauses n (sourced b.terms atoms t.1 s.0 s.1) (source_there t.0 n s e))))

  -- what a used instance adds is small
  used_small : All (IsInstanceOver b atoms (rows_of b.terms witnesses)) (the_instances t) → (k : ℕ) → IsUsedInstance t log k → AddsSmall A (used_at b.terms atoms t k)
  used_small instances k used =
      let s = step_there t.0 used.number (From k) used.origin in
      let from = subst (λ o. ComesFromOrigin t.1 s.0.0 o) s.2 (comes used.number s.0 s.1) in
      let over = all_at (IsInstanceOver b atoms (rows_of b.terms witnesses)) (the_instances t) k from.0 instances from.1 in
      let source = subst (λ o. IsSmallSource input (sourced b.terms atoms t.1 s.0.0 o)) s.2 (given.clauses used.number (sourced b.terms atoms t.1 s.0.0 s.0.1) (source_there t.0 used.number s.0 s.1)) in
      let is : used_at b.terms atoms t k ≡ expanded (the_instance b.terms atoms from.0) = ap (λ o. expanded (unwrap_or (option_map (the_instance b.terms atoms) o) no_instance)) from.1 in
      subst (AddsSmall A) (sym is)
      (record {
        takes = subst (λ (i : TreeInstance SatLit). TakesSmall i.rule) is source.1;
        alternatives = alternatives_small A _ (rows_of b.terms witnesses) (use_of b.terms atoms from.0.by) from.0.principals from.0.alternatives s.0.0 over.fits from.2 source.0;
      })

  all_used_small : All (IsInstanceOver b atoms (rows_of b.terms witnesses)) (the_instances t) → (used : List ℕ) → ((k : ℕ) → Contains used k → IsUsedInstance t log k) → Each (AddsSmall A) (the_used b.terms atoms t used)
  all_used_small instances [] each = tt
  all_used_small instances (k ∷ used) each =
      (used_small instances k (each k (contains-first k used)), all_used_small instances used (λ j c. each j (contains-later j k used c)))

  -- the refutation of a tree is small enough for a text
  pub stripped_small : All (IsInstanceOver b atoms (rows_of b.terms witnesses)) (the_instances t) → (used : List ℕ) (limit : ℕ) (s : Stripped) → ((k : ℕ) → Contains used k → IsUsedInstance t log k) → IsStripped A (rows_of b.terms witnesses) (the_used b.terms atoms t used) limit (start_branch t) s → OfTree AreNumbersInRange s → OfTree IsSmall s
  stripped_small instances used limit (Whole refutation n) each h in_range =
      in_range_small refutation in_range (tree_terms_small (rows_of b.terms witnesses) A (the_used b.terms atoms t used) limit (start_branch t) h.0 refutation given.rows (all_used_small instances used each) start_small h.1 h.3)
  stripped_small instances used limit (Open branch) each h in_range = tt
  stripped_small instances used limit (Over n) each h in_range = tt
