-- Rows where the bank grows.
use Rattle.std.proofs.Common.{◌≡◌, ℕ, ◌<◌, List, ◌++◌, map, length, sym, ap, subst, ◌∙◌}
use Rattle.stt_core.specs.Typing.{Scope}
use Rattle.tableau_calculus.specs.Witnesses.{Row, IsTable}
use Rattle.term_bank.specs.Content.{Content, content_scope, Grows}
use Rattle.term_bank.specs.Terms.{term_at}
use Rattle.term_bank.proofs.GrowLaws.{grown_scope, grown_at, grown_all}
use Rattle.term_bank.proofs.ListLaws.{map-same}
use Rattle.witness_names.specs.Rows.{row_of, rows_of, AreRows}

pub rows_same : (old new : Content) → Grows old new → (ids : List ℕ) → AreRows old ids → rows_of new.terms ids ≡ rows_of old.terms ids
rows_same old new g ids r =
    map-same (λ i. i < length old.terms) (λ i. row_of (term_at new.terms i)) (λ i. row_of (term_at old.terms i)) (λ i k. ap row_of (grown_at old new i g k)) ids r.within

pub rows_grown : (old new : Content) → Grows old new → (ids : List ℕ) → AreRows old ids → AreRows new ids
rows_grown old new g ids r =
    let same = rows_same old new g ids r in
    let InScope : Scope → Type 0 = λ s. IsTable s (rows_of old.terms ids) in
    let OfRows : List Row → Type 0 = λ rs. IsTable (content_scope new) rs in
    record {
      within = grown_all old new ids g r.within;
      table = subst OfRows (sym same) (subst InScope (sym (grown_scope old new g)) r.table);
      further = r.further;
      types = ap (map (λ (q : Row). q.type)) same ∙ r.types ∙ ap (λ ws. ws ++ r.further) (sym g.witnesses);
    }
