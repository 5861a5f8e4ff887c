-- Literals that are added one after the other, and the literals of start units.
use Rattle.std.specs.Prelude.{if◌then◌else◌}
use Rattle.std.proofs.Common.{◌≡◌, ◌<◌, ◌≤◌, ◌+◌, ◌++◌, ℕ, zero, suc, List, [], ◌∷◌, length, map, take, reverse, get_or, Some, slice_get, refl, sym, ap, ap₂, ◌∙◌, subst, arith}
use Rattle.std.specs.List.{All}
use Rattle.std.proofs.lemmas.List.{append-nil, take_more, reverse-append}
use Rattle.std.proofs.lemmas.List.Elements.{All-append}
use Rattle.stt_core.specs.Lambda.{Lambda}
use Rattle.stt_core.proofs.ListLaws.{map-append}
use Rattle.tableau_calculus.specs.Witnesses.{Row}
use Rattle.sat_base.specs.declared.literal.SatLit.{SatLit}
use Rattle.sat_base.specs.Literal.{IsOver, holds}
use Rattle.tableau_calculus.specs.Kinds.{added}
use Rattle.search_spec.specs.Numbered.{numbers, literal_at}
use Rattle.term_bank.specs.Content.{Content}
use Rattle.literal_map.specs.declared.instance.Instance.{Instance as BankInstance}
use Rattle.tableau_clauses.specs.declared.origin.Origin.{Origin}
use Rattle.tableau_clauses.specs.declared.origin.Origin.TheVariants.{Start, Instance as From}
use Rattle.tableau_clauses.specs.Table.{Step, Table, the_instances, units_in, start_units}
use Rattle.tableau_clauses.proofs.UnitLaws.{units-append}
use Rattle.rebuild_spec.specs.Input.{literals_of}
use Rattle.tableau_rebuild.specs.Tables.{unit_literals, start_literals_in}
use Rattle.tableau_rebuild.specs.Conditions.{IsInstanceOver}
use Rattle.tableau_rebuild.specs.Conditions.{IsGoodUse}
use Rattle.plain_tableau.specs.Tables.{IsUsable}
use Rattle.plain_tableau.specs.Internal.Due.{without_rule, at_number, AreLiteralsOver}

-- literals that are added one after the other
pub added-append : (b ls ks : List SatLit) → added numbers b (ls ++ ks) ≡ added numbers (added numbers b ls) ks
added-append b [] ks = refl
added-append b (l ∷ ls) ks = added-append (if holds b l then b else b ++ l ∷ []) ls ks

pub added_more : (b : List SatLit) (ls : List SatLit) (i : ℕ) (l d : SatLit) (now new : List SatLit) → i < length ls → l ≡ get_or ls i d → now ≡ added numbers b (take i ls) → new ≡ added numbers now (l ∷ []) → new ≡ added numbers b (take (i + 1) ls)
added_more b ls i l d now new h is e f =
    f ∙ ap₂ (λ xs x. added numbers xs (x ∷ [])) e is ∙ sym (added-append b (take i ls) (get_or ls i d ∷ [])) ∙ ap (added numbers b) (sym (take_more ls i d h))

-- the start units of one step more
pub units_more : (t : List Step) (n : ℕ) (s : Step) → slice_get t n ≡ Some s → start_units (take (n + 1) t) ≡ start_units (take n t) ++ units_in s.0 s.1
units_more t n s e =
    ap start_units (taken t n e) ∙ units-append (take n t) (s ∷ []) ∙ ap (λ ls. start_units (take n t) ++ ls) (append-nil (units_in s.0 s.1))
  where
    taken : (xs : List Step) (k : ℕ) → slice_get xs k ≡ Some s → take (k + 1) xs ≡ take k xs ++ s ∷ []
    taken [] k h = cc
    taken (x ∷ xs) zero h = let same : x ≡ s = cc in ap (λ y. y ∷ []) same
    taken (x ∷ xs) (suc k) h =
        let e : suc k + 1 ≡ suc (k + 1) = omega arith in
        ap (λ m. take m (x ∷ xs)) e ∙ ap (λ ys. x ∷ ys) (taken xs k h)

-- a step by its clause and its origin
pub step_at : (t : List Step) (n : ℕ) (c : List SatLit) (o : Origin) → slice_get (map (λ (s : Step). s.0) t) n ≡ Some c → slice_get (map (λ (s : Step). s.1) t) n ≡ Some o → slice_get t n ≡ Some (c, o)
step_at [] n c o e f = cc
step_at (s ∷ t) zero c o e f = let first : s.0 ≡ c = cc in let second : s.1 ≡ o = cc in ap₂ (λ x y. Some (x, y)) first second
step_at (s ∷ t) (suc n) c o e f = step_at t n c o e f

-- the literals of the start units
pub units_literals : (atoms : List Lambda) (t : List Step) → literals_of atoms (start_units t) ≡ unit_literals atoms t
units_literals atoms [] = refl
units_literals atoms (s ∷ t) = map-append (literal_at atoms) (units_in s.0 s.1) (start_units t) ∙ ap₂ (λ xs ys. xs ++ ys) (one s.0 s.1) (units_literals atoms t)
  where
    one : (c : List SatLit) (o : Origin) → literals_of atoms (units_in c o) ≡ start_literals_in atoms c o
    one c Start = refl
    one c (From k) = refl

pub units_over : (atoms : List ℕ) (t : List Step) → All (λ s. s.1 ≡ Start → IsOver (length atoms) s.0) t → IsOver (length atoms) (start_units t)
units_over atoms [] h = λ k d l. absurd (omega (arith, l))
units_over atoms (s ∷ t) h =
    All-append (λ (l : SatLit). l.var.0 < length atoms) (units_in s.0 s.1) (start_units t) (one s.0 s.1 (h 0 s (omega arith))) (units_over atoms t (λ k d l. h (suc k) d (omega (arith, l))))
  where
    one : (c : List SatLit) (o : Origin) → (o ≡ Start → IsOver (length atoms) c) → IsOver (length atoms) (units_in c o)
    one c Start f = f refl
    one c (From k) f = λ m d l. absurd (omega (arith, l))

-- the instances that are used are there, and over the atoms
module _ (b : Content) (atoms : List ℕ) (rows : List Row) (t : Table) (used : List ℕ) (h : All (IsUsable b atoms rows t) used) where
  inside : (xs : List BankInstance) (n : ℕ) (i : BankInstance) → slice_get xs n ≡ Some i → n < length xs
  inside [] n i e = cc
  inside (x ∷ xs) zero i e = omega arith
  inside (x ∷ xs) (suc n) i e = let r = inside xs n i e in omega (arith, r)

  pub used_within : All (λ k. k < length (the_instances t)) used
  used_within k d l = let u = h k d l in inside (the_instances t) (get_or used k d) u.instance u.there

  pub used_over : All (AreLiteralsOver (length atoms) t) used
  used_over k d l =
      let u = h k d l in
      let is : at_number t (get_or used k d) ≡ without_rule (Some u.instance) = ap without_rule u.there in
      record {
        principals = subst (λ x. IsOver (length atoms) x.principals) (sym is) u.over.principals;
        alternatives = subst (λ x. All (IsOver (length atoms)) x.alternatives) (sym is) u.over.alternatives;
      }

-- an instance of the table that may be used, and what is right of it
module _ (b : Content) (atoms : List ℕ) (rows : List Row) (t : Table) where
  pub usable_over : (k : ℕ) (i : BankInstance) → IsUsable b atoms rows t k → slice_get (the_instances t) k ≡ Some i → IsInstanceOver b atoms rows i
  usable_over k i u e = let there = u.there in let same : u.instance ≡ i = cc in subst (IsInstanceOver b atoms rows) same u.over

  pub good_use : (k : ℕ) (i : BankInstance) → IsUsable b atoms rows t k → slice_get (the_instances t) k ≡ Some i → IsGoodUse b atoms i.by
  good_use k i u e = (usable_over k i u e).takes

pub alternative_over : (n : ℕ) (xs : List (List SatLit)) (k : ℕ) (a : List SatLit) → All (IsOver n) xs → slice_get xs k ≡ Some a → IsOver n a
alternative_over n [] k a h e = cc
alternative_over n (x ∷ xs) zero a h e = let same : x ≡ a = cc in subst (IsOver n) same (h 0 x (omega arith))
alternative_over n (x ∷ xs) (suc k) a h e = alternative_over n xs k a (λ m d l. h (suc m) d (omega (arith, l))) e

pub nothing_there : {A : Type 0} (xs : List A) → length xs ≡ 0 → xs ≡ []
nothing_there [] h = refl
nothing_there (x ∷ xs) h = absurd (omega (arith, h))

pub reverse_push : {A : Type 0} (xs new : List A) (x : A) → new ≡ xs ++ x ∷ [] → reverse new ≡ x ∷ reverse xs
reverse_push xs new x e = ap reverse e ∙ reverse-append xs (x ∷ [])

pub step_there : (t : List Step) (n : ℕ) (o : Origin) → slice_get (map (λ (s : Step). s.1) t) n ≡ Some o → (s : Step) × (slice_get t n ≡ Some s) × (s.1 ≡ o)
step_there [] n o e = cc
step_there (s ∷ t) zero o e = let same : s.1 ≡ o = cc in (s, refl, same)
step_there (s ∷ t) (suc n) o e = step_there t n o e
