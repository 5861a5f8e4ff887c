-- The marks of a head with its arguments.
use Rattle.std.proofs.Common.{◌≡◌, ℕ, suc, ◌+◌, max, List, [], ◌∷◌, map, take, slice_get, Some, sym, ap, ap₂, ◌∙◌}
use Rattle.stt_core.specs.Lambda.{Lambda, app, applied}
use Rattle.stt_core.specs.Internal.Missing.{missing_binders}
use Rattle.stt_core.proofs.ListLaws.{take_got, map-append}
use Rattle.stt_core.proofs.CanonicalTypes.{applied-more}
use Rattle.stt_core.specs.Depth.{depth}
use Rattle.term_bank.specs.Internal.Marks.{greater, greatest_witness}
use Rattle.term_bank.specs.Terms.{term_at}
use Rattle.term_bank.specs.Internal.MarksView.{AreMarksOf}
use Rattle.term_bank.specs.declared.marks.Marks.{Marks}

-- one argument more
pub spine_more : (ts : List Lambda) (h : Lambda) (args : List ℕ) (i id : ℕ) → slice_get args i ≡ Some id → applied h (map (term_at ts) (take (i + 1) args)) ≡ app (applied h (map (term_at ts) (take i args))) (term_at ts id)
spine_more ts h args i id g =
    ap (λ l. applied h (map (term_at ts) l)) (take_got args i id g)
    ∙ ap (applied h) (map-append (term_at ts) (take i args) (id ∷ []))
    ∙ applied-more h (map (term_at ts) (take i args)) (term_at ts id)

pub marks_more : (ts : List Lambda) (h : Lambda) (args : List ℕ) (i id : ℕ) (before argument after : Marks) → slice_get args i ≡ Some id → AreMarksOf (applied h (map (term_at ts) (take i args))) before → argument.depth ≡ suc (depth (term_at ts id)) → argument.missing ≡ missing_binders (term_at ts id) → argument.greatest ≡ greatest_witness (term_at ts id) → after.depth ≡ max before.depth argument.depth → after.missing ≡ max before.missing argument.missing → after.greatest ≡ greater before.greatest argument.greatest → AreMarksOf (applied h (map (term_at ts) (take (i + 1) args))) after
marks_more ts h args i id before argument after g m d e w d' e' w' =
    let whole = spine_more ts h args i id g in record {
      depth_is = d' ∙ ap₂ max m.depth_is d ∙ sym (ap depth whole);
      missing_is = e' ∙ ap₂ max m.missing_is e ∙ sym (ap missing_binders whole);
      greatest_is = w' ∙ ap₂ greater m.greatest_is w ∙ sym (ap greatest_witness whole);
    }
