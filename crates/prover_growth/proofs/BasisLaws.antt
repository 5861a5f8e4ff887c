-- Terms that come into the bank of a basis.
use Rattle.std.specs.Prelude.{◌≡◌, [], ◌++◌, length, map, refl}
use Rattle.std.proofs.Common.{sym, ap, ◌∙◌, append_assoc, append-nil}
use Rattle.tableau_calculus.specs.Witnesses.{Row}
use Rattle.term_bank.specs.Content.{Content, Grows}
use Rattle.term_bank.proofs.GrowLaws.{grows_on}
use Rattle.bank_normal.proofs.RightLaws.{right_grown}
use Rattle.literal_map.proofs.StayLaws.{atoms_stay}
use Rattle.witness_names.specs.Rows.{rows_of}
use Rattle.witness_names.proofs.StayLaws.{rows_same, rows_grown}
use Rattle.command_queue.specs.Queue.{Queue}
use Rattle.prover_state.specs.declared.command.Planned.{Planned}
use Rattle.prover_state.specs.declared.command.Delays.{Delays}
use Rattle.prover_state.specs.declared.tables.Basis.{Basis}
use Rattle.prover_state.specs.declared.tables.Tables.{Tables}
use Rattle.prover_state.specs.Internal.Growing.{BasisGrows}
use Rattle.prover_state.specs.Internal.Standing.{rows_in, setting_by, IsBasis}

module _ (old : Basis) (b : Content) (grows : Grows old.bank b) where
  abbrev grown : Basis
  grown = record old { bank = b }

  pub grows-by-terms : BasisGrows old grown
  grows-by-terms = record { bank = grows; lits = record { further = []; is = sym (append-nil old.lits) }; witnesses = refl }

  pub basis-by-terms : IsBasis old → IsBasis grown
  basis-by-terms good = record {
    atoms = atoms_stay old.bank b grows old.lits good.atoms;
    rows = rows_grown old.bank b grows old.witnesses good.rows;
    typed = ap (map (λ (r : Row). r.type)) (rows_same old.bank b grows old.witnesses good.rows) ∙ good.typed ∙ sym grows.witnesses;
    memo = right_grown old.normal old.bank b grows good.memo;
  }

-- a basis grows on
pub basis-grows-on : (a b c : Basis) → BasisGrows a b → BasisGrows b c → BasisGrows a c
basis-grows-on a b c g h = record {
  bank = grows_on a.bank b.bank c.bank g.bank h.bank;
  lits = record { further = g.lits.further ++ h.lits.further; is = h.lits.is ∙ ap (λ l. l ++ h.lits.further) g.lits.is ∙ append_assoc a.lits g.lits.further h.lits.further };
  witnesses = h.witnesses ∙ g.witnesses;
}

-- what a run is given stays where a basis grows
pub setting-grown : (t u : Tables) (q p : Queue Planned Delays) → BasisGrows t.basis u.basis → p.rule ≡ q.rule → setting_by u p ≡ setting_by t q
setting-grown t u q p g rule = λ i. record { scope = record { bases = length (g.bank.bases i); names = map (λ c. c.type) (g.bank.consts i); witnesses = [] }; mode = (rule i).mode }

-- the rows stay where a basis grows
pub rows-grown : (old new : Basis) → BasisGrows old new → IsBasis old → rows_in new ≡ rows_in old
rows-grown old new g good = ap (rows_of new.bank.terms) g.witnesses ∙ rows_same old.bank new.bank g.bank old.witnesses good.rows
