-- The pieces in which a report is written.
use Rattle.std.proofs.Common.{◌≡◌, ℕ, List, [], ◌∷◌, ◌++◌, codes, ap, ◌∙◌, append_assoc}
use Rattle.refute_print.specs.Text.{as_bytes}
use Rattle.refute_print.proofs.LineTexts.{as_bytes-append}
use Rattle.refute_text.specs.Reading.{start_mark, end_mark}
use Rattle.szs_report.specs.Report.{model_report, demo_report, counted_report}

proof_start-parts : (first second last : List ℕ) (tree : List (List ℕ)) → as_bytes (first ∷ second ∷ (tree ++ last ∷ [])) ≡ as_bytes (first ∷ second ∷ []) ++ (as_bytes tree ++ as_bytes (last ∷ []))
proof_start-parts first second last tree =
    as_bytes-append (first ∷ second ∷ []) (tree ++ last ∷ []) ∙ ap (λ x. as_bytes (first ∷ second ∷ []) ++ x) (as_bytes-append tree (last ∷ []))

pub proof-pieces : (status name count : List ℕ) (mode tree : List (List ℕ)) (text : List ℕ) →
    counted_report status name count (mode ++ tree) text ≡ status ++ (name ++ (codes "\n% commands " ++ (count ++ (codes "\n" ++ (as_bytes mode ++ (as_bytes tree ++ (start_mark ++ (name ++ (codes "\n" ++ (text ++ (end_mark ++ (name ++ (codes "\n" ++ [])))))))))))))
proof-pieces status name count mode tree text =
    rw (proof_start-parts (status ++ name) (codes "% commands " ++ count) (start_mark ++ name) (mode ++ tree), as_bytes-append mode tree) (simp append_assoc)

pub model-pieces : (status name size lines : List ℕ) → model_report status name size lines ≡ status ++ (name ++ (codes "\n% SZS output start FiniteModel for " ++ (name ++ (codes "\nsize " ++ (size ++ (codes "\n" ++ (lines ++ (codes "% SZS output end FiniteModel for " ++ (name ++ (codes "\n" ++ []))))))))))
model-pieces status name size lines =
    let end : List ℕ = lines ++ (codes "% SZS output end FiniteModel for " ++ (name ++ codes "\n")) in
    let sized : List ℕ = size ++ codes "\n" in
    let started : List ℕ = name ++ (codes "\nsize " ++ sized) in
    append_assoc (status ++ name) (codes "\n% SZS output start FiniteModel for " ++ started) end
    ∙ append_assoc status name ((codes "\n% SZS output start FiniteModel for " ++ started) ++ end)
    ∙ ap (λ x. status ++ (name ++ (codes "\n% SZS output start FiniteModel for " ++ x)))
    (append_assoc name (codes "\nsize " ++ sized) end ∙ ap (λ x. name ++ (codes "\nsize " ++ x)) (append_assoc size (codes "\n") end))

pub demo-pieces : (status name count : List ℕ) → demo_report status name count ≡ status ++ (name ++ (codes "\n% commands " ++ (count ++ (codes "\n% refutation accepted for " ++ (name ++ (codes "\n" ++ []))))))
demo-pieces status name count = append_assoc status name _
