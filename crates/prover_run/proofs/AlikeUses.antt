-- Inputs from which one refutation is rebuilt use one list of instances, in formulas.
use Rattle.std.proofs.Common.{◌≡◌, ◌<◌, ℕ, zero, suc, List, [], ◌∷◌, map, Some, slice_get, Contains, refl, sym, ap, ap₂, subst, ◌∙◌, arith}
use Rattle.std.proofs.lemmas.Option.{same_Some}
use Rattle.stt_core.specs.Lambda.{Lambda}
use Rattle.tableau_calculus.specs.Each.{Each}
use Rattle.tableau_calculus.specs.Literals.{Literal}
use Rattle.tableau_calculus.proofs.ListLaws.{contains-first, contains-later}
use Rattle.sat_base.specs.declared.literal.SatLit.{SatLit}
use Rattle.search_spec.specs.Numbered.{literal_at, IsNumber, AreApart}
use Rattle.rebuild_spec.specs.Alike.{IsUsedAlike}
use Rattle.rebuild_spec.specs.Input.{Instance, clause_by, Input, literals_of}
use Rattle.rebuild_spec.specs.Trees.{at_clause}
use Rattle.rebuild_spec.specs.Used.{IsUsed}
use Rattle.rebuild_spec.proofs.AlikeLaws.{one_number}
use Rattle.plain_tableau.specs.Carried.{instance_in}
use Rattle.plain_tableau.specs.Tables.{expanded}
use Rattle.plain_tableau.specs.Trees.{TreeInstance}
use Rattle.prover_run.specs.Origin.{IsWellNumbered}
use Rattle.prover_run.specs.Tree.{UsesInstance, AreUsedInstances}
use Rattle.prover_run.proofs.TreeUses.{contains_map, contains_mapped}
use Rattle.prover_run.proofs.UsedOrder.{from_list, AreOrdered, one_list}

-- the instances of the clauses are well numbered
abbrev pub AreWellNumbered : Input → Type 0
AreWellNumbered input = (n : ℕ) (clause : List SatLit) (i : Instance) → slice_get input.clauses n ≡ Some (clause_by clause i) → IsWellNumbered input.atoms i

-- each clause of an instance that the one log uses is used alike by the other one
abbrev pub UseAlike : Input → Input → Type 0
UseAlike input other = (n : ℕ) (clause : List SatLit) (i : Instance) → slice_get input.clauses n ≡ Some (clause_by clause i) → IsUsed input.log (at_clause n) → IsUsedAlike input other n i

module _ (atoms : List Lambda) (apart : AreApart atoms) where
  one_by_one : (ls ks : List SatLit) → Each (IsNumber atoms) ls → Each (IsNumber atoms) ks → literals_of atoms ls ≡ literals_of atoms ks → ls ≡ ks
  one_by_one [] [] g h e = refl
  one_by_one [] (k ∷ ks) g h e = cc
  one_by_one (l ∷ ls) [] g h e = cc
  one_by_one (l ∷ ls) (k ∷ ks) g h e =
      let first : literal_at atoms l ≡ literal_at atoms k = cc in
      let rest : literals_of atoms ls ≡ literals_of atoms ks = cc in
      ap₂ (λ x xs. x ∷ xs) (one_number atoms apart l k g.0 h.0 first) (one_by_one ls ks g.1 h.1 rest)

  all_by_one : (as' bs : List (List SatLit)) → Each (Each (IsNumber atoms)) as' → Each (Each (IsNumber atoms)) bs → map (literals_of atoms) as' ≡ map (literals_of atoms) bs → as' ≡ bs
  all_by_one [] [] g h e = refl
  all_by_one [] (b ∷ bs) g h e = cc
  all_by_one (a ∷ as') [] g h e = cc
  all_by_one (a ∷ as') (b ∷ bs) g h e =
      let first : literals_of atoms a ≡ literals_of atoms b = cc in
      let rest : map (literals_of atoms) as' ≡ map (literals_of atoms) bs = cc in
      ap₂ (λ x xs. x ∷ xs) (one_by_one a b g.0 h.0 first) (all_by_one as' bs g.1 h.1 rest)

  -- well numbered instances that are one in formulas are one
  one_instance_in : (i j : Instance) → IsWellNumbered atoms i → IsWellNumbered atoms j → instance_in atoms (expanded i) ≡ instance_in atoms (expanded j) → i ≡ j
  one_instance_in i j g h e =
      let rule : i.rule ≡ j.rule = ap (λ (x : TreeInstance Literal). x.rule) e in
      let principals = one_by_one i.principals j.principals g.numbered.principals h.numbered.principals (ap (λ (x : TreeInstance Literal). x.principals) e) in
      let alternatives = all_by_one i.alternatives j.alternatives g.numbered.alternatives h.numbered.alternatives (ap (λ (x : TreeInstance Literal). x.alternatives) e) in
      λ k. record { rule = rule k; principals = principals k; alternatives = alternatives k }

abbrev pub in_formulas : Input → Instance → TreeInstance Literal
in_formulas input i = instance_in input.atoms (expanded i)

-- the log uses a clause of what the instance is in formulas
record UsesAs (input : Input) (a : TreeInstance Literal) : Type 0 where
  instance : Instance
  uses : UsesInstance input instance
  is : in_formulas input instance ≡ a

abbrev IsBefore : Input → TreeInstance Literal → TreeInstance Literal → Type 0
IsBefore input a b = (u : UsesAs input a) (v : UsesAs input b) → u.uses.number < v.uses.number

record UsesAt (input : Input) (a : TreeInstance Literal) (n : ℕ) : Type 0 where
  as' : UsesAs input a
  at : as'.uses.number ≡ n

-- what the one log uses, the other one uses by a clause of the same number
used_there : (input other : Input) → AreWellNumbered input → AreWellNumbered other → UseAlike input other → (a : TreeInstance Literal) (u : UsesAs input a) → UsesAt other a u.uses.number
used_there input other well good alike a u =
    let x = u.uses in
    let v = alike x.number x.clause u.instance x.there x.used in
    let here = well x.number x.clause u.instance x.there in
    let there = good x.number v.clause v.instance v.there in
    let rule : v.instance.rule ≡ u.instance.rule = sym there.in_order ∙ sym v.rule ∙ here.in_order in
    let same : in_formulas other v.instance ≡ in_formulas input u.instance = λ k. record { rule = rule k; principals = sym v.principals k; alternatives = sym v.alternatives k } in
    record {
      as' = record { instance = v.instance; uses = record { number = x.number; clause = v.clause; there = v.there; used = v.used }; is = same ∙ u.is };
      at = refl;
    }

module _ (input : Input) (well : AreWellNumbered input) (apart : AreApart input.atoms) (instances : List Instance) (used : AreUsedInstances input instances) where
  abbrev listed : List (TreeInstance Literal)
  listed = map (in_formulas input) instances

  used_as : (a : TreeInstance Literal) → Contains listed a → UsesAs input a
  used_as a h = let found = contains_map (in_formulas input) instances a h in record { instance = found.0; uses = used.each found.0 found.1; is = found.2 }

  listed_as : (a : TreeInstance Literal) → UsesAs input a → Contains listed a
  listed_as a u = subst (Contains listed) u.is (contains_mapped (in_formulas input) instances u.instance (used.all u.instance u.uses))

  -- a use of what an instance is in formulas is a use of the instance
  use_of_it : (a : TreeInstance Literal) (i : Instance) → UsesInstance input i → in_formulas input i ≡ a → (u : UsesAs input a) → (w : UsesInstance input i) × (w.number ≡ u.uses.number)
  use_of_it a i x e u =
      let y = u.uses in
      let same : u.instance ≡ i = one_instance_in input.atoms apart u.instance i (well y.number y.clause u.instance y.there) (well x.number x.clause i x.there) (u.is ∙ sym e) in
      subst (λ j. (w : UsesInstance input j) × (w.number ≡ y.number)) same (y, refl)

  ordered : AreOrdered (IsBefore input) listed
  ordered p q a b less at there u v =
      let k = from_list (in_formulas input) instances p a at in
      let l = from_list (in_formulas input) instances q b there in
      let x = used.each k.0 (held_at instances p k.0 k.1) in
      let y = used.each l.0 (held_at instances q l.0 l.1) in
      let m = use_of_it a k.0 x k.2 u in
      let n = use_of_it b l.0 y l.2 v in
      omega (arith, m.1, n.1, used.in_order p q k.0 l.0 less k.1 l.1 m.0 n.0)
    where
      held_at : (xs : List Instance) (n : ℕ) (x : Instance) → slice_get xs n ≡ Some x → Contains xs x
      held_at [] n x h = cc
      held_at (y ∷ ys) zero x h = subst (Contains (y ∷ ys)) (same_Some y x h) (contains-first y ys)
      held_at (y ∷ ys) (suc n) x h = contains-later x y ys (held_at ys n x h)

-- the lists are one in formulas
pub one_used_in : (input other : Input) → AreWellNumbered input → AreWellNumbered other → AreApart input.atoms → AreApart other.atoms → UseAlike input other → UseAlike other input
    → (instances others : List Instance) → AreUsedInstances input instances → AreUsedInstances other others → map (in_formulas input) instances ≡ map (in_formulas other) others
one_used_in input other well good apart separate alike back instances others a b =
    let xs = map (in_formulas input) instances in
    let ys = map (in_formulas other) others in
    let into : (x : TreeInstance Literal) → Contains xs x → Contains ys x = λ x h. listed_as other good separate others b x (used_there input other well good alike x (used_as input well apart instances a x h)).as' in
    let from : (x : TreeInstance Literal) → Contains ys x → Contains xs x = λ x h. listed_as input well apart instances a x (used_there other input good well back x (used_as other good separate others b x h)).as' in
    let order : AreOrdered (IsBefore input) ys = λ p q x y less at there u v.
    let m = used_there input other well good alike x u in
    let n = used_there input other well good alike y v in
    let before = ordered other good separate others b p q x y less at there m.as' n.as' in
    omega (arith, m.at, n.at, before) in
    one_list (IsBefore input) xs ys
    (λ x h before. let u = used_as input well apart instances a x h in let less = before u u in omega (arith, less))
    (λ x y h k before after. let u = used_as input well apart instances a x h in let v = used_as input well apart instances a y k in let less = before u v in let more = after v u in omega (arith, less, more))
    (ordered input well apart instances a) order into from
