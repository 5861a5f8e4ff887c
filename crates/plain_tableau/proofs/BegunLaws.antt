-- Writing is begun rightly, over any bank.
use Rattle.std.specs.Prelude.{◌≡◌, ℕ, List, []}
use Rattle.std.specs.List.{AllByRecursion}
use Rattle.std.proofs.Common.{sym, ap, subst, ◌∙◌}
use Rattle.stt_core.specs.Lambda.{Lambda}
use Rattle.term_bank.specs.Content.{Content}
use Rattle.witness_names.specs.Rows.{rows_of}
use Rattle.rebuild_spec.specs.NeededRows.{rows_for_lines}
use Rattle.small_rebuilt.specs.Small.{HasNumbers}
use Rattle.tableau_rebuild.specs.Pools.{IsMadePool}
use Rattle.plain_tableau.specs.declared.writing.Writing.{Writing}
use Rattle.plain_tableau.specs.Internal.Writing.{IsWriting}

pub begun : (w : Writing) → w.lines ≡ [] → w.rows ≡ 0 → ((terms : List Lambda) (atoms : List ℕ) → IsMadePool terms atoms w.pool) → (b : Content) (atoms witnesses : List ℕ) → IsWriting b atoms witnesses w
begun w lines rows made b atoms witnesses = record {
  made = made b.terms atoms;
  in_range = subst (AllByRecursion HasNumbers) (sym lines) tt;
  count = rows ∙ ap (rows_for_lines (rows_of b.terms witnesses)) (sym lines);
}
