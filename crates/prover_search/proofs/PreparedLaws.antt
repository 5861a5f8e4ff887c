-- Prepared starts.
use Rattle.std.specs.Prelude.{◌≡◌, ℕ, List, [], map, All}
use Rattle.std.proofs.Common.{sym, ap, subst, ◌∙◌}
use Rattle.stt_core.specs.PlainProblem.{PlainProblem}
use Rattle.tableau_calculus.specs.Witnesses.{Row}
use Rattle.sat_base.specs.declared.literal.SatLit.{SatLit}
use Rattle.term_bank.specs.Content.{Content}
use Rattle.literal_map.specs.Atoms.{IsAtom}
use Rattle.witness_names.specs.Rows.{rows_of, AreRows}
use Rattle.bank_normal.specs.Right.{IsRightNormaliser}
use Rattle.problem_start.specs.Unfolds.{start_literals, AreStartNumbers}
use Rattle.prover_state.specs.declared.tables.Basis.{Basis}
use Rattle.prover_state.specs.Internal.Growing.{BasisGrows}
use Rattle.prover_state.specs.Internal.Standing.{IsBasis}
use Rattle.prover_search.specs.Internal.Starting.{IsPreparedFor}

pub prepared-grown : (p : PlainProblem) (g h : Basis) (lits : List SatLit) → BasisGrows g h → IsBasis h → g.bank.bases ≡ p.declared.bases → g.bank.consts ≡ p.declared.consts → g.witnesses ≡ []
    → AreStartNumbers h.bank h.lits (start_literals p) lits → IsPreparedFor p h lits
prepared-grown p g h lits w good bases consts unwitnessed numbers = record {
  basis = good;
  bases = w.bank.bases ∙ bases;
  consts = w.bank.consts ∙ consts;
  unwitnessed = w.witnesses ∙ unwitnessed;
  numbers = numbers;
}

-- a copy, with what is known of normal forms left behind
pub prepared-copied : (p : PlainProblem) (g h : Basis) (lits copies : List SatLit) → h.bank ≡ g.bank → h.lits ≡ g.lits → h.witnesses ≡ [] → IsRightNormaliser h.normal h.bank → copies ≡ lits
    → IsPreparedFor p g lits → IsPreparedFor p h copies
prepared-copied p g h lits copies bank atoms none memo same prepared =
    let good = prepared.basis in
    let witnesses : h.witnesses ≡ g.witnesses = none ∙ sym prepared.unwitnessed in
    let A : Content → List ℕ → Type 0 = λ b ids. All (IsAtom b) ids in
    let N : Content → List ℕ → List SatLit → Type 0 = λ b ids ls. AreStartNumbers b ids (start_literals p) ls in
    record {
      basis = record {
        atoms = subst (λ b. A b h.lits) (sym bank) (subst (A g.bank) (sym atoms) good.atoms);
        rows = subst (λ b. AreRows b h.witnesses) (sym bank) (subst (AreRows g.bank) (sym witnesses) good.rows);
        typed =
            ap (λ ws. map (λ (r : Row). r.type) (rows_of h.bank.terms ws)) witnesses
            ∙ ap (λ (b : Content). map (λ (r : Row). r.type) (rows_of b.terms g.witnesses)) bank
            ∙ good.typed ∙ sym (ap (λ (b : Content). b.witnesses) bank);
        memo = memo;
      };
      bases = ap (λ (b : Content). b.bases) bank ∙ prepared.bases;
      consts = ap (λ (b : Content). b.consts) bank ∙ prepared.consts;
      unwitnessed = none;
      numbers = subst (λ b. N b h.lits copies) (sym bank) (subst (λ ids. N g.bank ids copies) (sym atoms) (subst (N g.bank g.lits) (sym same) prepared.numbers));
    }
