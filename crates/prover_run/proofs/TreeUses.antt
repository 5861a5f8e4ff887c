-- A tree from the log of a run.
use Rattle.std.specs.Prelude.{◌≡◌, ◌↔◌, ◌++◌, if◌then◌else◌, Bool, true, false, ℕ, zero, suc, List, [], ◌∷◌, map, length, Some, option_map, unwrap_or, slice_get, Contains, refl}
use Rattle.std.specs.List.{All}
use Rattle.std.specs.List.Sorted.{IsStrictlyIncreasing}
use Rattle.std.proofs.Common.{sym, ap, subst, ◌∙◌, arith}
use Rattle.std.proofs.lemmas.List.{length-map}
use Rattle.std.proofs.lemmas.List.Elements.{All-cons, All-nil}
use Rattle.std.proofs.lemmas.Option.{slice_get-map}
use Rattle.tableau_calculus.specs.Kinds.{added, formulas}
use Rattle.tableau_calculus.specs.Literals.{Literal}
use Rattle.tableau_calculus.specs.Start.{without_repeats}
use Rattle.tableau_calculus.specs.declared.refutation.Refutation.{Refutation}
use Rattle.tableau_calculus.proofs.ListLaws.{contains_cases, contains-first, contains-later}
use Rattle.sat_base.specs.declared.literal.SatLit.{SatLit}
use Rattle.sat_base.specs.Literal.{IsOver, holds}
use Rattle.sat_log.specs.declared.log.LogEntry.{LogEntry}
use Rattle.tableau_calculus.specs.Each.{Each}
use Rattle.search_spec.specs.Numbered.{numbers, literal_at, IsNumber, AreApart}
use Rattle.search_spec.proofs.NamingLaws.{each-joined, added-mapped}
use Rattle.search_spec.proofs.UnsatLaws.{numbers_stand}
use Rattle.term_bank.specs.Terms.{term_at}
use Rattle.tableau_clauses.specs.declared.origin.Origin.{Origin}
use Rattle.tableau_clauses.specs.declared.origin.Origin.TheVariants.{Start, Instance as From}
use Rattle.tableau_clauses.specs.Table.{Step, Table, the_instances, EachComes, StandInOrder, start_units}
use Rattle.rebuild_spec.specs.Input.{Instance, clause_by, literals_of}
use Rattle.tableau_rebuild.specs.Tables.{no_instance, atoms_at, the_instance, sourced, the_sources, the_input, unit_literals}
use Rattle.tableau_rebuild.specs.UsedInstances.{IsUsedInstance}
use Rattle.plain_tableau.specs.Tables.{expanded, the_used, start_branch, OfTree}
use Rattle.plain_tableau.specs.declared.stripped.Stripped.{Stripped}
use Rattle.plain_tableau.specs.declared.stripped.Stripped.TheVariants.{Tree as Whole, Open, Over}
use Rattle.plain_tableau.proofs.ExpandLaws.{step_there, units_literals, units_over}
use Rattle.term_bank.specs.Content.{Content}
use Rattle.prover_run.specs.Tree.{UsesInstance, AreUsedInstances}
use Rattle.prover_run.proofs.UsedOrder.{from_list, increasing_at, one_number}

pub contains_map : {A B : Type 0} (f : A → B) (xs : List A) (y : B) → Contains (map f xs) y → (x : A) × Contains xs x × (f x ≡ y)
contains_map f [] y h = absurd (omega (arith, h.1))
contains_map f (x ∷ xs) y h =
    contains_cases ((z : _) × Contains (x ∷ xs) z × (f z ≡ y)) y (f x) (map f xs) h (λ same. (x, contains-first x xs, same))
    (λ later. let r = contains_map f xs y later in (r.0, contains-later r.0 x xs r.1, r.2))

pub contains_mapped : {A B : Type 0} (f : A → B) (xs : List A) (x : A) → Contains xs x → Contains (map f xs) (f x)
contains_mapped f [] x c = absurd (omega (arith, c.1))
contains_mapped f (y ∷ xs) x c =
    contains_cases (Contains (map f (y ∷ xs)) (f x)) x y xs c (λ same. subst (λ z. Contains (map f (y ∷ xs)) z) (ap f same) (contains-first (f y) (map f xs)))
    (λ later. contains-later (f x) (f y) (map f xs) (contains_mapped f xs x later))

contains_at : {A : Type 0} (xs : List A) (n : ℕ) (x : A) → slice_get xs n ≡ Some x → Contains xs x
contains_at [] n x h = cc
contains_at (y ∷ ys) zero x h = let same : y ≡ x = cc in subst (Contains (y ∷ ys)) same (contains-first y ys)
contains_at (y ∷ ys) (suc n) x h = contains-later x y ys (contains_at ys n x h)

pub map_twice : {A B C : Type 0} (g : B → C) (f : A → B) (xs : List A) → map g (map f xs) ≡ map (λ x. g (f x)) xs
map_twice g f [] = refl
map_twice g f (x ∷ xs) = ap (λ ys. g (f x) ∷ ys) (map_twice g f xs)

-- what holds of each number in a list holds of its elements
pub all_held : (P : ℕ → Type 0) (ks : List ℕ) → ((k : ℕ) → Contains ks k → P k) → All P ks
all_held P [] h = All-nil P
all_held P (k ∷ ks) h = All-cons P k ks (h k (contains-first k ks)) (all_held P ks (λ j c. h j (contains-later j k ks c)))

pub of_tree : (P Q : Refutation → Type 0) → ((refutation : Refutation) → P refutation → Q refutation) → (s : Stripped) → OfTree P s → OfTree Q s
of_tree P Q f (Whole refutation n) h = f refutation h
of_tree P Q f (Open branch) h = tt
of_tree P Q f (Over n) h = tt

-- what is added of good literals to good ones is good
pub added_each : (P : SatLit → Type 0) (b ls : List SatLit) → Each P b → Each P ls → Each P (added numbers b ls)
added_each P b [] gb gl = gb
added_each P b (l ∷ ls) gb gl = go (holds b l) (λ c gc. added_each P c ls gc gl.1)
  where
    go : (x : Bool) → ((c : List SatLit) → Each P c → Each P (added numbers c ls)) → Each P (added numbers (if x then b else b ++ l ∷ []) ls)
    go true rest = rest b gb
    go false rest = rest (b ++ l ∷ []) (each-joined P b (l ∷ []) gb (gl.0, tt))

module _ (b : Content) (atoms : List ℕ) (t : Table) (witnesses : List ℕ) (log : List LogEntry) where
  abbrev pub instance_at : ℕ → Instance
  instance_at k = unwrap_or (option_map (the_instance b.terms atoms) (slice_get (the_instances t) k)) no_instance

  source_there : (steps : List Step) (n : ℕ) (s : Step) → slice_get steps n ≡ Some s → slice_get (map (λ (x : Step). sourced b.terms atoms t.1 x.0 x.1) steps) n ≡ Some (sourced b.terms atoms t.1 s.0 s.1)
  source_there steps n s e = slice_get-map (λ (x : Step). sourced b.terms atoms t.1 x.0 x.1) steps n ∙ ap (option_map (λ (x : Step). sourced b.terms atoms t.1 x.0 x.1)) e

  uses_at : (k : ℕ) → IsUsedInstance t log k → UsesInstance (the_input b atoms t log witnesses) (instance_at k)
  uses_at k u =
      let s = step_there t.0 u.number (From k) u.origin in
      record {
        number = u.number;
        clause = s.0.0;
        there = subst (λ (o : Origin). slice_get (the_sources b.terms atoms t) u.number ≡ Some (sourced b.terms atoms t.1 s.0.0 o)) s.2 (source_there t.0 u.number s.0 s.1);
        used = u.used;
      }

  -- the number of the instance from which a source's clause comes
  by_origin : (clause c : List SatLit) (o : Origin) (i : Instance) → sourced b.terms atoms t.1 clause o ≡ clause_by c i → (k : ℕ) × (o ≡ From k) × (instance_at k ≡ i)
  by_origin clause c Start i e = cc
  by_origin clause c (From k) i e = let same : instance_at k ≡ i = cc in (k, refl, same)

  step_of_source : (steps : List Step) (n : ℕ) (c : List SatLit) (i : Instance) → slice_get (map (λ (x : Step). sourced b.terms atoms t.1 x.0 x.1) steps) n ≡ Some (clause_by c i) → (k : ℕ) × (slice_get (map (λ (s : Step). s.1) steps) n ≡ Some (From k)) × (instance_at k ≡ i)
  step_of_source [] n c i e = cc
  step_of_source (s ∷ steps) zero c i e =
      let same : sourced b.terms atoms t.1 s.0 s.1 ≡ clause_by c i = cc in
      let r = by_origin s.0 c s.1 i same in
      (r.0, ap (λ (o : Origin). Some o) r.1, r.2)
  step_of_source (s ∷ steps) (suc n) c i e = step_of_source steps n c i e

  -- the instances with the numbers that a log uses, which increase
  pub used_named : EachComes t → StandInOrder t → (used : List ℕ) → IsStrictlyIncreasing used → ((k : ℕ) → Contains used k ↔ IsUsedInstance t log k)
      → AreUsedInstances (the_input b atoms t log witnesses) (map instance_at used)
  used_named comes order used up h = record {
    each = λ i c. let found = contains_map instance_at used i c in subst (UsesInstance (the_input b atoms t log witnesses)) found.2 (uses_at found.0 ((h found.0).0 found.1));
    all = λ i u.
        let r = step_of_source t.0 u.number u.clause i u.there in
        subst (λ x. Contains (map instance_at used) x) r.2 (contains_mapped instance_at used r.0 ((h r.0).1 (record { number = u.number; used = u.used; origin = r.1 })));
    in_order = λ p q i j less at there u v.
        let k = from_list instance_at used p i at in
        let l = from_list instance_at used q j there in
        let r = step_of_source t.0 u.number u.clause i u.there in
        let s = step_of_source t.0 v.number v.clause j v.there in
        let m = (h k.0).0 (contains_at used p k.0 k.1) in
        let n = (h l.0).0 (contains_at used q l.0 l.1) in
        let one = one_number b.terms atoms t comes order u.number m.number r.0 k.0 r.1 m.origin (r.2 ∙ sym k.2) in
        let other = one_number b.terms atoms t comes order v.number n.number s.0 l.0 s.1 n.origin (s.2 ∙ sym l.2) in
        order.sorted u.number v.number r.0 s.0 r.1 s.1 (omega (arith, one, other, increasing_at used up p q k.0 l.0 less k.1 l.1));
  }

  pub expanded_named : (used : List ℕ) → map expanded (map instance_at used) ≡ the_used b.terms atoms t used
  expanded_named used = map_twice expanded instance_at used

  pub each_over : (ls : List SatLit) → IsOver (length atoms) ls → Each (IsNumber (atoms_at b.terms atoms)) ls
  each_over [] h = tt
  each_over (l ∷ ls) h =
      let here = h zero l (omega arith) in
      (omega (arith, here, length-map atoms (term_at b.terms)), each_over ls (λ n d below. h (suc n) d (omega (arith, below))))

  -- the literals with which a tree begins have numbers
  pub begin_numbered : All (λ s. s.1 ≡ Start → IsOver (length atoms) s.0) t.0 → Each (IsNumber (atoms_at b.terms atoms)) (start_branch t)
  begin_numbered over = added_each (IsNumber (atoms_at b.terms atoms)) [] (start_units t.0) tt (each_over (start_units t.0) (units_over atoms t.0 over))

  -- a tree begins with the literals of the start units
  pub begins_named : AreApart (atoms_at b.terms atoms) → All (λ s. s.1 ≡ Start → IsOver (length atoms) s.0) t.0 → (begin : List Literal) → begin ≡ unit_literals (atoms_at b.terms atoms) t.0 → literals_of (atoms_at b.terms atoms) (start_branch t) ≡ without_repeats begin
  begins_named apart over begin is =
      let A = atoms_at b.terms atoms in
      let units = start_units t.0 in
      sym (added-mapped numbers formulas (IsNumber A) (literal_at A) (numbers_stand A apart) [] units tt (each_over units (units_over atoms t.0 over)))
      ∙ ap (λ ls. added formulas [] ls) (units_literals A t.0 ∙ sym is)
