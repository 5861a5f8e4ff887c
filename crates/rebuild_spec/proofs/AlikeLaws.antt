-- A rebuilt refutation fixes the instances that are used.
use Rattle.std.proofs.Common.{◌≡◌, ◌⊎◌, ◌&&◌, not, cond, if◌then◌else◌, ℕ, zero, suc, Bool, true, false, List, [], ◌∷◌, map, filter, length, option_map, Some, slice_get, Contains, refl, sym, ap, ap₂, ◌∙◌, subst, inl, inr, arith}
use Rattle.std.specs.List.{list_any}
use Rattle.std.proofs.lemmas.Bool.{false≢true, or_left, or_right}
use Rattle.std.proofs.lemmas.Option.{slice_get-map}
use Rattle.stt_core.specs.Typing.{Scope}
use Rattle.stt_core.specs.Lambda.{Lambda}
use Rattle.tableau_calculus.specs.Literals.{Literal, opposite}
use Rattle.tableau_calculus.specs.Witnesses.{Row, with_rows}
use Rattle.tableau_calculus.specs.RuleUses.{principals_of}
use Rattle.tableau_calculus.specs.Rules.{PlainRule, Rule, AreAt, close_rule}
use Rattle.tableau_calculus.specs.Each.{Each}
use Rattle.tableau_calculus.specs.Kinds.{same_signed}
use Rattle.tableau_calculus.specs.declared.rule_use.RuleUse.TheVariants.{AtOne, AtTwo, AllPos, WithPredicate, Cut}
use Rattle.tableau_calculus.specs.declared.rule_use.TwoPlaces.TheVariants.{Close, Mat, Con}
use Rattle.tableau_calculus.specs.declared.refutation.Child.{Child}
use Rattle.tableau_calculus.specs.declared.refutation.Child.TheVariants.{Closed, Line as Numbered}
use Rattle.tableau_calculus.specs.declared.refutation.Line.{Line}
use Rattle.tableau_calculus.specs.declared.refutation.Refutation.{Refutation}
use Rattle.tableau_calculus.proofs.AddedLaws.{same_literal-refl as signed-refl}
use Rattle.tableau_calculus.proofs.InstanceLaws.{AreDistinct, one_instance}
use Rattle.tableau_calculus.proofs.ListLaws.{contains-first, contains-later, contains_cases, contains-get}
use Rattle.sat_base.specs.declared.literal.Var.{Var}
use Rattle.sat_base.specs.declared.literal.SatLit.{SatLit}
use Rattle.sat_base.specs.Literal.{positive, negative, negated, holds}
use Rattle.sat_base.proofs.LiteralLaws.{same_literal-true, negated-negated}
use Rattle.search_spec.specs.Clauses.{choices, is_tautology, clause_of, instance_clauses}
use Rattle.search_spec.specs.Numbered.{numbers, literal_at, IsNumber, AreApart}
use Rattle.search_spec.proofs.UnsatLaws.{numbers_stand}
use Rattle.rebuild_spec.specs.Input.{Instance, clause_by, clause_in, Input, literals_of}
use Rattle.rebuild_spec.specs.Given.{IsClauseOf, IsGiven}
use Rattle.rebuild_spec.specs.Trees.{Place, at_clause, at_step, at_result, Tree, leaf, cut}
use Rattle.rebuild_spec.specs.Stands.{Standing, start, line, rule_at_places, place_in, instance_line, joined_standing, standing_after_step, premise_place, Stands, of_start, of_instance, of_first, of_next, of_result}
use Rattle.rebuild_spec.specs.Lines.{walked, line_number_in, line_of, lines_from}
use Rattle.rebuild_spec.specs.Rebuilt.{IsRebuilt}
use Rattle.rebuild_spec.specs.Used.{IsUsed, last_result, first_of, step_of}
use Rattle.rebuild_spec.specs.Alike.{formula_clauses, StandOnce, IsUsedAlike}
use Rattle.rebuild_spec.specs.Laws.{RebuiltFixesInstances}
use Rattle.rebuild_spec.proofs.LiteralLaws.{held_in, contains_held, negated-held}
use Rattle.rebuild_spec.proofs.PlacedLaws.{two_literals, placed_fits, at_found}
use Rattle.rebuild_spec.proofs.SoundLaws.{principals_held}
use Rattle.rebuild_spec.proofs.WalkLaws.{IsEach}
use Rattle.rebuild_spec.proofs.StandsLaws.{IsMade, one_made, lines_made}
use Rattle.rebuild_spec.proofs.LastLaws.{walk_ordered}
use Rattle.rebuild_spec.proofs.ReachedLaws.{IsReachedLine, lines_reached, walked_all}
use Rattle.rebuild_spec.proofs.UsedLaws.{IsUsedAt, used_at}
use Rattle.rebuild_spec.proofs.UsedLines.{IsIn, used_line}
use Rattle.rebuild_spec.proofs.DistinctRows.{rows_distinct}

-- NUMBERS AND FORMULAS

-- literals that stand for one formula are one
pub one_number : (atoms : List Lambda) → AreApart atoms → (l k : SatLit) → IsNumber atoms l → IsNumber atoms k → literal_at atoms l ≡ literal_at atoms k → l ≡ k
one_number atoms apart l k g h e =
    let same : same_signed (literal_at atoms l) (literal_at atoms k) ≡ true = subst (λ x. same_signed (literal_at atoms l) x ≡ true) e (signed-refl (literal_at atoms l)) in
    same_literal-true l k (sym ((numbers_stand atoms apart).sames l k g h) ∙ same)

-- literals are those whose negations' negations they are
opposites_back : (atoms : List Lambda) (c : List SatLit) → map opposite (literals_of atoms (map negated c)) ≡ literals_of atoms c
opposites_back atoms [] = refl
opposites_back atoms (l ∷ c) = ap₂ (λ x xs. x ∷ xs) (ap (literal_at atoms) (negated-negated l)) (opposites_back atoms c)

-- TAUTOLOGIES

filtered : {X : Type 0} (test : X → Bool) (xs : List X) (x : X) → Contains (filter test xs) x → test x ≡ true
filtered test [] x h = absurd (omega (arith, h.1))
filtered test (y ∷ xs) x h = go (test y) refl (λ c. filtered test xs x c) h
  where
    go : (b : Bool) → test y ≡ b → (Contains (filter test xs) x → test x ≡ true) → Contains (cond b (y ∷ filter test xs) (filter test xs)) x → test x ≡ true
    go true e later c = contains_cases (test x ≡ true) x y (filter test xs) c (λ same. subst (λ z. test z ≡ true) same e) later
    go false e later c = later c

some_passes : {X : Type 0} (test : X → Bool) (xs : List X) (x : X) → Contains xs x → test x ≡ true → list_any test xs ≡ true
some_passes test [] x h e = absurd (omega (arith, h.1))
some_passes test (y ∷ xs) x h e =
    contains_cases (list_any test (y ∷ xs) ≡ true) x y xs h (λ same. or_left (test y) _ (subst (λ z. test z ≡ true) (sym same) e)) (λ later. or_right (test y) _ (some_passes test xs x later e))

-- a clause of an instance holds no literal beside its negation
no_tautology : (principals : List SatLit) (alternatives : List (List SatLit)) (c : List SatLit) (l : SatLit) → Contains (instance_clauses numbers principals alternatives) c → holds c l ≡ true → holds c (negated l) ≡ true → ⊥
no_tautology principals alternatives c l there h k =
    let none : not (is_tautology numbers c) ≡ true = filtered (λ d. not (is_tautology numbers d)) (map (clause_of numbers principals) (choices alternatives)) c there in
    let some : is_tautology numbers c ≡ true = some_passes (λ m. holds c (negated m)) c l (contains_held c l h) k in
    false≢true (ap not (sym some) ∙ none)

-- RULES AT PLACES

IsClose : PlainRule → Type 0
IsClose (AtTwo Close i j) = Unit {0}
IsClose rule = ⊥

close_placed : (rule : PlainRule) (is : List ℕ) → IsClose (rule_at_places rule is) → IsClose rule
unfolding IsClose
close_placed (AtOne kind i) [] h = h
close_placed (AtOne kind i) (j ∷ is) h = h
close_placed (AtTwo Close i j) is h = tt
close_placed (AtTwo Mat i j) [] h = h
close_placed (AtTwo Mat i j) (k ∷ []) h = h
close_placed (AtTwo Mat i j) (k ∷ m ∷ is) h = h
close_placed (AtTwo Con i j) [] h = h
close_placed (AtTwo Con i j) (k ∷ []) h = h
close_placed (AtTwo Con i j) (k ∷ m ∷ is) h = h
close_placed (AllPos i u) [] h = h
close_placed (AllPos i u) (j ∷ is) h = h
close_placed (WithPredicate kind f) is h = h
close_placed (Cut l) is h = h

close_fits : (scope : Scope) (rows : List Row) (rule : PlainRule) (ps : List Literal) (as' : List (List Literal)) → Rule scope rows rule ps as' → IsClose rule → (l : Literal) × (ps ≡ l ∷ opposite l ∷ [])
unfolding IsClose
close_fits scope rows rule ps as' (close_rule i j l) h = (l, refl)
close_fits scope rows rule ps as' fits h = absurd h

-- the places from which a rule was led to others don't count
placed_again : (rule : PlainRule) (is : List ℕ) → rule_at_places (rule_at_places rule is) (0 ∷ 1 ∷ []) ≡ rule_at_places rule (0 ∷ 1 ∷ [])
placed_again (AtOne kind i) [] = refl
placed_again (AtOne kind i) (j ∷ is) = refl
placed_again (AtTwo kind i j) [] = refl
placed_again (AtTwo kind i j) (k ∷ []) = refl
placed_again (AtTwo kind i j) (k ∷ m ∷ is) = refl
placed_again (AllPos i u) [] = refl
placed_again (AllPos i u) (j ∷ is) = refl
placed_again (WithPredicate kind f) is = refl
placed_again (Cut l) is = refl

same_at : (branch : List Literal) (is : List ℕ) (ls ks : List Literal) → AreAt branch is ls → AreAt branch is ks → ls ≡ ks
same_at branch [] [] [] h k = refl
same_at branch [] [] (x ∷ ks) h k = absurd k
same_at branch [] (l ∷ ls) ks h k = absurd h
same_at branch (i ∷ is) [] ks h k = absurd h
same_at branch (i ∷ is) (l ∷ ls) [] h k = absurd k
same_at branch (i ∷ is) (l ∷ ls) (x ∷ ks) h k =
    let e : Some l ≡ Some x = sym h.0 ∙ k.0 in
    let p : l ≡ x = cc in
    ap₂ (λ y ys. y ∷ ys) p (same_at branch is ls ks h.1 k.1)

-- these are the principals at the places of the rule, with these alternatives
record IsPlacedAt (scope : Scope) (rows : List Row) (branch : List Literal) (rule : PlainRule) (ls : List Literal) (as' : List (List Literal)) : Type 0 where
  at_places : AreAt branch (principals_of rule) ls
  fits : Rule scope rows rule ls as'

one_placed : (scope : Scope) (rows : List Row) → AreDistinct rows → (branch : List Literal) (rule : PlainRule) (ls ks : List Literal) (as' bs : List (List Literal))
    → IsPlacedAt scope rows branch rule ls as' → IsPlacedAt scope rows branch rule ks bs → (ls ≡ ks) × (as' ≡ bs)
one_placed scope rows distinct branch rule ls ks as' bs h k = (
  same_at branch (principals_of rule) ls ks h.at_places k.at_places,
  one_instance scope rows distinct branch rule as' bs (record { principals = ls; at_places = h.at_places; fits = h.fits }) (record { principals = ks; at_places = k.at_places; fits = k.fits }),
)

module _ (scope : Scope) (rows : List Row) (atoms : List Lambda) (c : List SatLit) (i : Instance) (right : IsClauseOf scope rows atoms c i) where
  abbrev denied : List SatLit
  denied = map negated c

  placed : IsPlacedAt scope rows (literals_of atoms denied) (rule_at_places i.rule (map (place_in denied) i.principals)) (literals_of atoms i.principals) (map (literals_of atoms) i.alternatives)
  placed =
      let found = placed_fits scope rows atoms (place_in denied) i.rule (literals_of atoms i.principals) (map (literals_of atoms) i.alternatives) right.fits i.principals refl in
      record {
        at_places = subst (λ is. AreAt (literals_of atoms denied) is (literals_of atoms i.principals)) (sym found.0) (at_found scope rows atoms denied i.principals (principals_held scope rows atoms c i right));
        fits = found.1;
      }

  -- a clause isn't that of two literals that close each other
  no_close : AreApart atoms → Each (IsNumber atoms) i.principals → IsClose i.rule → ⊥
  no_close apart numbered h =
      let pair = close_fits scope rows i.rule (literals_of atoms i.principals) (map (literals_of atoms) i.alternatives) right.fits h in
      let two = two_literals scope rows atoms (λ k. 0) i.principals pair.0 (opposite pair.0) pair.1 in
      let p = two.0 in
      let q = two.1 in
      let good = subst (Each (IsNumber atoms)) two.2 numbered in
      let both : literals_of atoms (p ∷ q ∷ []) ≡ pair.0 ∷ opposite pair.0 ∷ [] = ap (literals_of atoms) (sym two.2) ∙ pair.1 in
      let first : literal_at atoms p ≡ pair.0 = cc in
      let second : literal_at atoms q ≡ opposite pair.0 = cc in
      let other : q ≡ negated p = one_number atoms apart q (negated p) good.1.0 good.0 (second ∙ ap opposite (sym first)) in
      let p_in : holds i.principals p ≡ true = held_in i.principals p (subst (λ xs. Contains xs p) (sym two.2) (contains-first p (q ∷ []))) in
      let q_in : holds i.principals q ≡ true = held_in i.principals q (subst (λ xs. Contains xs q) (sym two.2) (contains-later q p (q ∷ []) (contains-first q []))) in
      let here = negated-held c p (principals_held scope rows atoms c i right p p_in) in
      let there = negated-held c q (principals_held scope rows atoms c i right q q_in) in
      no_tautology i.principals i.alternatives c (negated p) right.is_one here (subst (λ x. holds c (negated x) ≡ true) other there)

-- LINES

-- the line of a clause, whichever the other lines are
abbrev pub clause_line : List Lambda → List SatLit → Instance → Line
clause_line atoms c i =
    record {
      branch = literals_of atoms (map negated c);
      rule = rule_at_places i.rule (map (place_in (map negated c)) i.principals);
      children = map (λ _. Closed) i.alternatives;
    }

-- a clause that is used has its line
pub line_listed : (scope : Scope) (begin : List Literal) (input : Input) (refutation : Refutation) → IsGiven scope begin input → IsRebuilt input refutation → (n : ℕ) (c : List SatLit) (i : Instance)
    → IsUsed input.log (at_clause n) → slice_get input.clauses n ≡ Some (clause_by c i) → Contains refutation.lines (clause_line input.atoms c i)
line_listed scope begin input refutation given is n c i used there =
    let Is = IsMade scope begin input given in
    let one = one_made scope begin input given in
    let made = lines_made scope begin input given (at_result is.number) [] is.last is.stands in
    let trees = walked [] is.last in
    let Reached = IsReachedLine Is input.atoms trees (walk_ordered Is one is.last made) in
    let whole : IsIn input Reached (at_result is.number) = record { clause = []; standing = line is.last; stands = is.stands; all = lines_reached Is one input.atoms is.last made } in
    let reached = used_line input Reached is.number is.is_last whole n c i used there in
    let t = instance_line n c i in
    let at = slice_get-map (line_of input.atoms trees) trees (line_number_in trees t) ∙ ap (option_map (line_of input.atoms trees)) reached.listed in
    subst (λ k. Contains k (line_of input.atoms trees t)) (sym is.lines) (contains-get (lines_from input.atoms is.last) (line_number_in trees t) (line_of input.atoms trees t) at)

module _ (input : Input) where
  -- the line is that of a clause that is used
  record IsOfUsed (t : Tree) : Type 0 where
    number : ℕ
    clause : List SatLit
    instance : Instance
    there : slice_get input.clauses number ≡ Some (clause_by clause instance)
    used : IsUsed input.log (at_clause number)
    is : t ≡ instance_line number clause instance

  abbrev IsKnown : Tree → Type 0
  IsKnown (leaf p ls rule children) = IsOfUsed (leaf p ls rule children) ⊎ (rule ≡ AtTwo Close 0 1)
  IsKnown (cut p v t u) = Unit {0}

  abbrev AreKnown : Standing → Type 0
  AreKnown (start n l) = Unit {0}
  AreKnown (line t) = IsEach IsKnown t

  joined_known : (p : Place) (v : Var) (s t : Standing) → AreKnown s → AreKnown t → AreKnown (joined_standing p v s t)
  joined_known p v (start m l) (start n k) first second = inr refl
  joined_known p v (start m l) (line t) first second = second
  joined_known p v (line t) (start n k) first second = first
  joined_known p v (line t) (line u) first second = (tt, second, first)

  stepped_known : (p : Place) (v : Var) (a b : List SatLit) (s t : Standing) → AreKnown s → AreKnown t → AreKnown (standing_after_step p v a s b t)
  stepped_known p v a b s t first second = go (holds a (positive v) && holds b (negative v))
    where
      go : (x : Bool) → AreKnown (if x then joined_standing p v s t else joined_standing p v t s)
      go true = joined_known p v s t first second
      go false = joined_known p v t s second first

  are_known : (p : Place) (c : List SatLit) (s : Standing) → Stands input p c s → IsUsedAt input.log p → AreKnown s
  are_known p c s (of_start n l e) used = tt
  are_known p c s (of_instance n d i e) used = inl (record { number = n; clause = d; instance = i; there = e; used = used; is = refl })
  are_known p c s (of_first n entry d t e h) used =
      are_known (premise_place entry.chain.first) d t h (used_at input.log entry.chain.first (first_of n entry e used))
  are_known p c s (of_next n k entry step a b d x y e f h j r) used =
      let premise = used_at input.log step.premise (step_of n entry step e used (contains-get entry.chain.steps k step f)) in
      stepped_known (at_step n (suc k)) step.var a b x y (are_known (at_step n k) a x h used) (are_known (premise_place step.premise) b y j premise)
  are_known p c s (of_result n entry d t e h) used = are_known (at_step n (length entry.chain.steps)) d t h used

  -- each line of a refutation is known
  record IsKnownLine (l : Line) : Type 0 where
    trees : List Tree
    tree : Tree
    known : IsKnown tree
    is : l ≡ line_of input.atoms trees tree

each_mapped : {A B : Type 0} (f : A → B) (P : B → Type 0) (xs : List A) → ((i : ℕ) (x : A) → slice_get xs i ≡ Some x → P (f x)) → (y : B) → Contains (map f xs) y → P y
each_mapped f P [] all y h = absurd (omega (arith, h.1))
each_mapped f P (x ∷ xs) all y h = contains_cases (P y) y (f x) (map f xs) h (λ same. subst P same (all zero x refl)) (λ later. each_mapped f P xs (λ i z at. all (suc i) z at) y later)

lines_known : (input : Input) (refutation : Refutation) → IsRebuilt input refutation → (l : Line) → Contains refutation.lines l → IsKnownLine input l
lines_known input refutation is l there =
    let known = are_known input (at_result is.number) [] (line is.last) is.stands (last_result is.number is.is_last) in
    let all = walked_all (IsKnown input) is.last [] (λ i u h. cc) known in
    let trees = walked [] is.last in
    each_mapped (line_of input.atoms trees) (IsKnownLine input) trees (λ i t h. record { trees = trees; tree = t; known = all i t h; is = refl }) l (subst (λ k. Contains k l) is.lines there)

not_closed : (as' : List (List SatLit)) (m : ℕ) (rest : List Child) → map (λ _. Closed) as' ≡ Numbered m ∷ rest → ⊥
not_closed [] m rest e = cc
not_closed (a ∷ as') m rest e = cc

clause_at : (input : Input) (n : ℕ) (c : List SatLit) (i : Instance) → slice_get input.clauses n ≡ Some (clause_by c i) → slice_get (formula_clauses input) n ≡ Some (literals_of input.atoms c)
clause_at input n c i there =
    slice_get-map (literals_of input.atoms) (map clause_in input.clauses) n
    ∙ ap (option_map (literals_of input.atoms)) (slice_get-map clause_in input.clauses n ∙ ap (option_map clause_in) there)

module _ (scope : Scope) (begin : List Literal) (input other : Input) (given : IsGiven scope begin input) (also : IsGiven scope begin other) (rows : input.rows ≡ other.rows)
    (clauses : formula_clauses input ≡ formula_clauses other) (once : StandOnce (formula_clauses input)) (apart : AreApart input.atoms) where
  module _ (n : ℕ) (c : List SatLit) (i : Instance) (there : slice_get input.clauses n ≡ Some (clause_by c i)) (numbered : Each (IsNumber input.atoms) i.principals) where
    abbrev right : IsClauseOf (with_rows scope input.rows) input.rows input.atoms c i
    right = given.clauses n (clause_by c i) there

    -- two clauses with one line are one, and so are their instances
    same_line : (m : ℕ) (d : List SatLit) (j : Instance) → slice_get other.clauses m ≡ Some (clause_by d j) → IsUsed other.log (at_clause m) → clause_line input.atoms c i ≡ clause_line other.atoms d j → IsUsedAlike input other n i
    same_line m d j at used e =
        let branches : literals_of input.atoms (map negated c) ≡ literals_of other.atoms (map negated d) = ap (λ (l : Line). l.branch) e in
        let rules : rule_at_places i.rule (map (place_in (map negated c)) i.principals) ≡ rule_at_places j.rule (map (place_in (map negated d)) j.principals) = ap (λ (l : Line). l.rule) e in
        let clause_is : literals_of input.atoms c ≡ literals_of other.atoms d = sym (opposites_back input.atoms c) ∙ ap (map opposite) branches ∙ opposites_back other.atoms d in
        let number : m ≡ n = once m n (literals_of input.atoms c) (ap (λ cs. slice_get cs m) clauses ∙ clause_at other m d j at ∙ ap (λ x. Some x) (sym clause_is)) (clause_at input n c i there) in
        let Placed : List Row → List Literal → PlainRule → Type 0 = λ rs branch rule. IsPlacedAt (with_rows scope rs) rs branch rule (literals_of other.atoms j.principals) (map (literals_of other.atoms) j.alternatives) in
        let theirs = placed (with_rows scope other.rows) other.rows other.atoms d j (also.clauses m (clause_by d j) at) in
        let by_rows = subst (λ rs. Placed rs (literals_of other.atoms (map negated d)) (rule_at_places j.rule (map (place_in (map negated d)) j.principals))) (sym rows) theirs in
        let by_branch = subst (λ branch. Placed input.rows branch (rule_at_places j.rule (map (place_in (map negated d)) j.principals))) (sym branches) by_rows in
        let by_rule = subst (Placed input.rows (literals_of input.atoms (map negated c))) (sym rules) by_branch in
        let both = one_placed (with_rows scope input.rows) input.rows (rows_distinct scope input.rows given.table) (literals_of input.atoms (map negated c)) (rule_at_places i.rule (map (place_in (map negated c)) i.principals)) (literals_of input.atoms i.principals) (literals_of other.atoms j.principals)
        (map (literals_of input.atoms) i.alternatives) (map (literals_of other.atoms) j.alternatives) (placed (with_rows scope input.rows) input.rows input.atoms c i right) by_rule in
        record {
          clause = d;
          instance = j;
          there = subst (λ k. slice_get other.clauses k ≡ Some (clause_by d j)) number at;
          used = subst (λ k. IsUsed other.log (at_clause k)) number used;
          rule =
              sym (placed_again i.rule (map (place_in (map negated c)) i.principals))
              ∙ ap (λ r. rule_at_places r (0 ∷ 1 ∷ [])) rules
              ∙ placed_again j.rule (map (place_in (map negated d)) j.principals);
          principals = both.0;
          alternatives = both.1;
        }

    compared : (trees : List Tree) (t : Tree) → IsKnown other t → clause_line input.atoms c i ≡ line_of other.atoms trees t → IsUsedAlike input other n i
    unfolding IsClose
    compared trees (leaf p ls rule children) (inl u) e =
        same_line u.number u.clause u.instance u.there u.used (e ∙ ap (line_of other.atoms trees) u.is)
    compared trees (leaf p ls rule children) (inr close) e =
        let is : rule_at_places i.rule (map (place_in (map negated c)) i.principals) ≡ AtTwo Close 0 1 = ap (λ (l : Line). l.rule) e ∙ close in
        absurd (no_close (with_rows scope input.rows) input.rows input.atoms c i right apart numbered (close_placed i.rule (map (place_in (map negated c)) i.principals) (closes is)))
      where
        closes : {rule : PlainRule} → rule ≡ AtTwo Close 0 1 → IsClose rule
        closes is = subst IsClose (sym is) tt
    compared trees (cut p v t u) known e = absurd (not_closed i.alternatives (line_number_in trees t) (Numbered (line_number_in trees u) ∷ []) (ap (λ (l : Line). l.children) e))

pub fixes_instances : RebuiltFixesInstances
fixes_instances scope begin input other refutation given also rows clauses once apart is back n c i there numbered used =
    let listed = line_listed scope begin input refutation given is n c i used there in
    let l = lines_known other refutation back (clause_line input.atoms c i) listed in
    compared scope begin input other given also rows clauses once apart n c i there numbered l.trees l.tree l.known l.is
