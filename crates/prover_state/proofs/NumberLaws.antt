-- Numbers stand for formulas.
use Rattle.std.specs.Prelude.{◌≡◌, ◌<◌, ℕ, ◌↔◌, List, map, length, get_or, slice_get, Some, refl}
use Rattle.std.specs.List.{All}
use Rattle.std.proofs.Common.{sym, ap, ap₂, subst, ◌∙◌, arith}
use Rattle.std.proofs.lemmas.List.{get_or-map, length-map}
use Rattle.std.proofs.lemmas.Option.{slice_get-get_or}
use Rattle.stt_core.specs.Lambda.{Lambda, constant, falsity}
use Rattle.tableau_calculus.specs.Literals.{Literal}
use Rattle.tableau_calculus.specs.Kinds.{same_signed, formulas}
use Rattle.sat_base.specs.declared.literal.SatLit.{SatLit}
use Rattle.sat_base.specs.Truth.{Unsat}
use Rattle.tableau_calculus.specs.Each.{Each}
use Rattle.search_spec.specs.Numbered as by_atoms
use Rattle.search_spec.specs.Numbered.{numbers, AreApart}
use Rattle.search_spec.specs.Unsatisfiable.{Unsatisfiable}
use Rattle.search_spec.proofs.NamingLaws.{StandFor}
use Rattle.search_spec.proofs.UnsatLaws.{numbers_stand, unsatisfiable_formulas, unsatisfiable_numbers}
use Rattle.term_bank.specs.Content.{Content}
use Rattle.term_bank.specs.Laws.{EqualIdsForEqualTerms}
use Rattle.term_bank.specs.Terms.{term_at}
use Rattle.literal_map.specs.Atoms.{bank_atom, bank_literal, IsAtom}
use Rattle.prover_state.specs.Internal.Names.{IsNumberIn}
use Rattle.prover_state.proofs.EachLaws.{each-weaker, map-same}

module _ (b : Content) (atoms : List ℕ) (good : All (IsAtom b) atoms) where
  abbrev named : List Lambda
  named = map (term_at b.terms) atoms

  pub atom_named : (n : ℕ) → n < length atoms → by_atoms.atom_at named n ≡ bank_atom b.terms atoms n
  atom_named n h = get_or-map (term_at b.terms) atoms n 0 (constant falsity) h

  pub literal_named : (l : SatLit) → IsNumberIn atoms l → by_atoms.literal_at named l ≡ bank_literal b.terms atoms l
  literal_named l h = let L : Lambda → Literal = λ t. record { positive = l.positive; atom = t } in ap L (atom_named l.var.0 h)

  named_number : (l : SatLit) → IsNumberIn atoms l → by_atoms.IsNumber named l
  named_number l h = omega (arith, h, length-map atoms (term_at b.terms))

  module _ (equal : EqualIdsForEqualTerms b) (differ : (v w id : ℕ) → slice_get atoms v ≡ Some id → slice_get atoms w ≡ Some id → v ≡ w) where
    pub apart : AreApart named
    apart i j h k e =
        let h' : i < length atoms = omega (arith, h, length-map atoms (term_at b.terms)) in
        let k' : j < length atoms = omega (arith, k, length-map atoms (term_at b.terms)) in
        let same : get_or atoms i 0 ≡ get_or atoms j 0 = (equal (get_or atoms i 0) (get_or atoms j 0) (good i 0 h').within (good j 0 k').within).1 (sym (atom_named i h') ∙ e ∙ atom_named j k') in
        differ i j (get_or atoms i 0) (slice_get-get_or atoms i 0 h') (slice_get-get_or atoms j 0 k' ∙ ap Some (sym same))

    pub stand : StandFor numbers formulas (IsNumberIn atoms) (bank_literal b.terms atoms)
    stand = record {
      opposite_is_good = λ k g. g;
      opposites = λ k g. refl;
      sames = λ k l g h. ap₂ same_signed (sym (literal_named k g)) (sym (literal_named l h)) ∙ (numbers_stand named apart).sames k l (named_number k g) (named_number l h);
    }

    clauses_named : (cs : List (List SatLit)) → Each (Each (IsNumberIn atoms)) cs → map (map (by_atoms.literal_at named)) cs ≡ map (map (bank_literal b.terms atoms)) cs
    clauses_named cs h = map-same (map (by_atoms.literal_at named)) (map (bank_literal b.terms atoms)) (Each (IsNumberIn atoms)) (λ c g. map-same (by_atoms.literal_at named) (bank_literal b.terms atoms) (IsNumberIn atoms) literal_named c g) cs h

    pub clauses_number : (cs : List (List SatLit)) → Each (Each (IsNumberIn atoms)) cs → Each (Each (by_atoms.IsNumber named)) cs
    clauses_number cs h = each-weaker (Each (IsNumberIn atoms)) (Each (by_atoms.IsNumber named)) (λ c g. each-weaker (IsNumberIn atoms) (by_atoms.IsNumber named) named_number c g) cs h

    -- Clauses of numbers are unsatisfiable exactly where the clauses that they stand for are.
    pub unsatisfiable-numbers : (cs : List (List SatLit)) → Each (Each (IsNumberIn atoms)) cs → Unsat cs ↔ Unsatisfiable (map (map (bank_literal b.terms atoms)) cs)
    unsatisfiable-numbers cs h =
        let U : List (List Literal) → Type 0 = λ x. Unsatisfiable x in (
          (λ u. subst U (clauses_named cs h) (unsatisfiable_formulas named cs (clauses_number cs h) u)),
          (λ u. unsatisfiable_numbers named apart cs (clauses_number cs h) (subst U (sym (clauses_named cs h)) u)),
        )
