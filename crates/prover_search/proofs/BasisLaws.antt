-- Terms, numbers and witnesses at the start.
use Rattle.std.specs.Prelude.{◌≡◌, ◌-◌, ℕ, Bool, true, false, List, [], ◌∷◌, ◌++◌, map, drop, get_or, length, replicate, if◌then◌else◌, refl}
use Rattle.std.specs.List.{All, list_any}
use Rattle.std.proofs.Common.{sym, ap, ap₂, ◌∙◌, subst, arith, append-nil, length-append}
use Rattle.stt_core.proofs.ListLaws.{map-append}
use Rattle.tableau_calculus.specs.Witnesses.{Row}
use Rattle.sat_base.specs.declared.literal.SatLit.{SatLit}
use Rattle.search_spec.specs.Clauses.{same_clause, with_clauses}
use Rattle.search_spec.specs.Numbered.{numbers}
use Rattle.bank_normal.specs.Right.{IsRightNormaliser}
use Rattle.literal_map.specs.Atoms.{IsAtom}
use Rattle.witness_names.specs.Rows.{rows_of, AreRows}
use Rattle.witness_names.proofs.StayLaws.{rows_same, rows_grown}
use Rattle.tableau_clauses.specs.declared.origin.Origin.TheVariants.{Start}
use Rattle.tableau_clauses.specs.Table.{Step, Table, clauses_in, origins_in, the_clauses, the_origins, the_instances}
use Rattle.prover_state.specs.declared.tables.Basis.{Basis}
use Rattle.prover_state.specs.Internal.Growing.{BasisGrows}
use Rattle.prover_state.specs.Internal.Standing.{IsBasis}
use Rattle.prover_state.proofs.EachLaws.{All-from_each}
use Rattle.prover_search.specs.Internal.Starting.{AddsUnit}

-- what is right stays so where terms and atoms come
pub basis-grown : (g h : Basis) → BasisGrows g h → IsBasis g → All (IsAtom h.bank) h.lits → IsRightNormaliser h.normal h.bank → IsBasis h
basis-grown g h w good atoms memo =
    let R : List ℕ → Type 0 = λ ids. AreRows h.bank ids in
    record {
      atoms = atoms;
      rows = subst R (sym w.witnesses) (rows_grown g.bank h.bank w.bank g.witnesses good.rows);
      typed =
          ap (λ ids. map (λ (r : Row). r.type) (rows_of h.bank.terms ids)) w.witnesses
          ∙ ap (map (λ (r : Row). r.type)) (rows_same g.bank h.bank w.bank g.witnesses good.rows)
          ∙ good.typed ∙ sym w.bank.witnesses;
      memo = memo;
    }

-- nothing is there
pub basis-none : (g : Basis) → g.lits ≡ [] → g.witnesses ≡ [] → g.bank.witnesses ≡ [] → IsRightNormaliser g.normal g.bank → IsBasis g
basis-none g lits witnesses types memo =
    let A : List ℕ → Type 0 = λ ids. All (IsAtom g.bank) ids in
    let R : List ℕ → Type 0 = λ ids. AreRows g.bank ids in
    record {
      atoms = subst A (sym lits) (All-from_each (IsAtom g.bank) [] tt);
      rows = subst R (sym witnesses) (record { within = All-from_each _ [] tt; table = tt; further = []; types = sym (append-nil g.bank.witnesses ∙ types) });
      typed = ap (λ ids. map (λ (r : Row). r.type) (rows_of g.bank.terms ids)) witnesses ∙ sym types;
      memo = memo;
    }

-- steps with the same clauses and the same origins are the same
same_steps : (xs ys : List Step) → clauses_in xs ≡ clauses_in ys → origins_in xs ≡ origins_in ys → xs ≡ ys
same_steps [] [] e f = refl
same_steps [] (y ∷ ys) e f = cc
same_steps (x ∷ xs) [] e f = cc
same_steps (x ∷ xs) (y ∷ ys) e f =
    let first : x.0 ≡ y.0 = ap (λ cs. get_or cs 0 x.0) e in
    let origin : x.1 ≡ y.1 = ap (λ os. get_or os 0 x.1) f in
    ap₂ (λ (z : Step) (zs : List Step). z ∷ zs) (λ i. (first i, origin i)) (same_steps xs ys (ap (drop 1) e) (ap (drop 1) f))

pub adds-unit : (lit : SatLit) (old new : Table) → the_clauses new ≡ with_clauses numbers (the_clauses old) ((lit ∷ []) ∷ []) → the_origins new ≡ the_origins old ++ replicate (length (the_clauses new) - length (the_clauses old)) Start → the_instances new ≡ the_instances old → AddsUnit lit old new
adds-unit lit old new clauses origins instances = record { clauses = by_test (list_any (same_clause numbers (lit ∷ [])) (the_clauses old)) clauses; instances = instances }
  where
    by_test : (b : Bool) → the_clauses new ≡ (if b then the_clauses old else the_clauses old ++ (lit ∷ []) ∷ []) → new.0 ≡ (if b then old.0 else old.0 ++ (lit ∷ [], Start) ∷ [])
    by_test true e =
        let none : length (the_clauses new) - length (the_clauses old) ≡ 0 = omega (arith, ap length e) in
        same_steps new.0 old.0 e (origins ∙ ap (λ n. the_origins old ++ replicate n Start) none ∙ append-nil (the_origins old))
    by_test false e =
        let one : length (the_clauses new) - length (the_clauses old) ≡ 1 = omega (arith, ap length e, length-append (the_clauses old) ((lit ∷ []) ∷ [])) in
        let more : List Step = old.0 ++ (lit ∷ [], Start) ∷ [] in
        same_steps new.0 more
        (e ∙ sym (map-append (λ (s : Step). s.0) old.0 ((lit ∷ [], Start) ∷ [])))
        (origins ∙ ap (λ n. the_origins old ++ replicate n Start) one ∙ sym (map-append (λ (s : Step). s.1) old.0 ((lit ∷ [], Start) ∷ [])))
