-- The instances that a log uses may be used: none of them is a cut.
use Rattle.std.proofs.Common.{◌≡◌, ◌<◌, ℕ, zero, suc, Bool, true, false, List, [], ◌∷◌, length, map, get_or, Some, option_map, slice_get, Contains, refl, sym, ap, ap₂, ◌∙◌, subst, arith}
use Rattle.std.specs.List.{All}
use Rattle.std.proofs.lemmas.List.{length-map}
use Rattle.std.proofs.lemmas.Option.{slice_get-get_or, slice_get-map, get_or_from_slice_get}
use Rattle.stt_core.specs.Lambda.{Lambda, constant, falsity}
use Rattle.stt_core.specs.SameTerm.{same_term}
use Rattle.stt_core.specs.Typing.{Scope}
use Rattle.stt_core.proofs.SameTerms.{same_term-of}
use Rattle.tableau_calculus.specs.Literals.{Literal, opposite}
use Rattle.tableau_calculus.specs.Witnesses.{Row}
use Rattle.tableau_calculus.specs.CutFree.{is_cut_use}
use Rattle.tableau_calculus.specs.Rules.{PlainRule, Rule, cut_rule}
use Rattle.tableau_calculus.specs.declared.rule_use.RuleUse.TheVariants.{Cut}
use Rattle.sat_base.specs.declared.literal.SatLit.{SatLit}
use Rattle.sat_base.specs.Literal.{IsOver}
use Rattle.sat_log.specs.declared.log.LogEntry.{LogEntry}
use Rattle.search_spec.specs.Clauses.{instance_clauses}
use Rattle.tableau_calculus.specs.Each.{Each}
use Rattle.search_spec.specs.Numbered.{numbers, literal_at, IsNumber, AreApart}
use Rattle.tableau_calculus.specs.Kinds.{formulas}
use Rattle.search_spec.proofs.NamingLaws.{instance_clauses-mapped}
use Rattle.search_spec.proofs.UnsatLaws.{numbers_stand}
use Rattle.term_bank.specs.Content.{Content}
use Rattle.term_bank.specs.Laws.{EqualIdsForEqualTerms}
use Rattle.term_bank.specs.Terms.{term_at}
use Rattle.literal_map.specs.Atoms.{bank_literal, IsAtom}
use Rattle.literal_map.specs.Numbers.{UseByNumbers}
use Rattle.literal_map.specs.declared.instance.Instance.{Instance as BankInstance}
use Rattle.tableau_clauses.specs.declared.origin.Origin.TheVariants.{Instance as From}
use Rattle.tableau_clauses.specs.Table.{Table, ComesFromOrigin, EachComes, the_instances}
use Rattle.tableau_rules.specs.Uses.{use_of}
use Rattle.rebuild_spec.specs.Input.{literals_of}
use Rattle.tableau_rebuild.specs.Tables.{atoms_at}
use Rattle.tableau_rebuild.specs.Conditions.{IsInstanceOver}
use Rattle.tableau_rebuild.specs.UsedInstances.{IsUsedInstance}
use Rattle.plain_tableau.specs.Tables.{IsUsable}
use Rattle.plain_tableau.proofs.ExpandLaws.{step_there}

each_all : {A : Type 0} (P : A → Type 0) (xs : List A) → All P xs → Each P xs
each_all P [] h = tt
each_all P (x ∷ xs) h = (h 0 x (omega arith), each_all P xs (λ k d l. h (suc k) d (omega (arith, l))))

pub all_at : {A : Type 0} (P : A → Type 0) (xs : List A) (k : ℕ) (x : A) → All P xs → slice_get xs k ≡ Some x → P x
all_at P [] k x h e = cc
all_at P (y ∷ xs) zero x h e = let same : y ≡ x = cc in subst P same (h 0 y (omega arith))
all_at P (y ∷ xs) (suc k) x h e = all_at P xs k x (λ m d l. h (suc m) d (omega (arith, l))) e

got_map : {A B : Type 0} (f : A → B) (xs : List A) (n : ℕ) (d : A) (e : B) → n < length xs → get_or (map f xs) n e ≡ f (get_or xs n d)
got_map f xs n d e h = get_or_from_slice_get (map f xs) n (f (get_or xs n d)) e (slice_get-map f xs n ∙ ap (option_map f) (slice_get-get_or xs n d h))

-- a literal and its negation make no clause
no_clause : (l : Literal) → instance_clauses formulas [] ((l ∷ []) ∷ (opposite l ∷ []) ∷ []) ≡ []
no_clause l = by_sign l.positive l.atom
  where
    by_sign : (p : Bool) (t : Lambda) → instance_clauses formulas [] ((record { positive = p; atom = t } ∷ []) ∷ (opposite (record { positive = p; atom = t }) ∷ []) ∷ []) ≡ []
    by_sign true t = let e : same_term t t ≡ true = same_term-of t t refl in rw e
    by_sign false t = let e : same_term t t ≡ true = same_term-of t t refl in rw e

-- the alternatives of a cut
cut_shape : (scope : Scope) (rows : List Row) (l : Literal) (rule : PlainRule) (ps : List Literal) (as' : List (List Literal)) → Rule scope rows rule ps as' → rule ≡ Cut l → (k : Literal) × (ps ≡ []) × (as' ≡ (k ∷ []) ∷ (opposite k ∷ []) ∷ [])
cut_shape scope rows l rule ps as' (cut_rule k h) e = (k, refl, refl)
cut_shape scope rows l rule ps as' fits e = cc

no_lists : {A B : Type 0} (f : A → B) (xs : List A) → map f xs ≡ [] → xs ≡ []
no_lists f [] h = refl
no_lists f (x ∷ xs) h = cc

module _ (b : Content) (atoms : List ℕ) (rows : List Row) (good : All (IsAtom b) atoms) (equal : EqualIdsForEqualTerms b) (differ : (v w id : ℕ) → slice_get atoms v ≡ Some id → slice_get atoms w ≡ Some id → v ≡ w) where
  apart : AreApart (atoms_at b.terms atoms)
  apart i j h k e =
      let h' : i < length atoms = omega (arith, h, length-map atoms (term_at b.terms)) in
      let k' : j < length atoms = omega (arith, k, length-map atoms (term_at b.terms)) in
      let same : get_or atoms i 0 ≡ get_or atoms j 0 =
      (equal (get_or atoms i 0) (get_or atoms j 0) (good i 0 h').within (good j 0 k').within).1 (sym (got_map (term_at b.terms) atoms i 0 (constant falsity) h') ∙ e ∙ got_map (term_at b.terms) atoms j 0 (constant falsity) k') in
      differ i j (get_or atoms i 0) (slice_get-get_or atoms i 0 h') (slice_get-get_or atoms j 0 k' ∙ ap Some (sym same))

  over_numbers : (ls : List SatLit) → IsOver (length atoms) ls → Each (IsNumber (atoms_at b.terms atoms)) ls
  over_numbers ls h = each_all (IsNumber (atoms_at b.terms atoms)) ls (λ k d l. let below = h k d l in omega (arith, below, length-map atoms (term_at b.terms)))

  lists_numbers : (as' : List (List SatLit)) → All (IsOver (length atoms)) as' → Each (Each (IsNumber (atoms_at b.terms atoms))) as'
  lists_numbers as' h = each_all (Each (IsNumber (atoms_at b.terms atoms))) as' (λ k d l. over_numbers (get_or as' k d) (h k d l))

  no_cut_used : (i : BankInstance) → IsInstanceOver b atoms rows i → (c : List SatLit) → Contains (instance_clauses numbers i.principals i.alternatives) c → is_cut_use i.by ≡ false
  no_cut_used i over c held = go i.by refl
    where
      nothing : Contains {X = List SatLit} [] c → ⊥
      nothing h = omega (arith, h.1)

      go : (by : UseByNumbers) → i.by ≡ by → is_cut_use by ≡ false
      go (Cut l) e =
          let A = atoms_at b.terms atoms in
          let shape = cut_shape _ rows (bank_literal b.terms atoms l) (use_of b.terms atoms i.by) (literals_of A i.principals) (map (literals_of A) i.alternatives) over.fits (ap (use_of b.terms atoms) e) in
          let clauses = sym (instance_clauses-mapped numbers formulas (IsNumber A) (literal_at A) (numbers_stand A apart) i.principals i.alternatives (over_numbers i.principals over.principals) (lists_numbers i.alternatives over.alternatives)) in
          let none = no_lists (map (literal_at A)) (instance_clauses numbers i.principals i.alternatives) (clauses ∙ ap₂ (instance_clauses formulas) shape.1 shape.2 ∙ no_clause shape.0) in
          absurd (nothing (subst (λ cs. Contains cs c) none held))
      go by e = refl

  pub used_usable : (t : Table) (log : List LogEntry) → EachComes t → All (IsInstanceOver b atoms rows) (the_instances t) → (k : ℕ) → IsUsedInstance t log k → IsUsable b atoms rows t k
  used_usable t log comes instances k used =
      let s = step_there t.0 used.number (From k) used.origin in
      let from = subst (λ o. ComesFromOrigin t.1 s.0.0 o) s.2 (comes used.number s.0 s.1) in
      let over = all_at (IsInstanceOver b atoms rows) (the_instances t) k from.0 instances from.1 in
      record { instance = from.0; there = from.1; over = over; no_cut = no_cut_used from.0 over s.0.0 from.2 }
