-- The report of a proof holds the text of its refutation.
use Rattle.std.specs.List.{list_any}
use Rattle.std.proofs.Common.{◌≡◌, ℕ, suc, ◌+◌, Option, Bool, true, false, ◌||◌, List, [], ◌∷◌, ◌++◌, length, map, Some, None, codes, decimal, refl, sym, ap, ap₂, ◌∙◌, append-nil, arith}
use Rattle.stt_core.specs.PlainProblem.{PlainProblem}
use Rattle.delta_defs.specs.Unfolding.{taken_names}
use Rattle.mode_file.specs.declared.Mode.{Mode}
use Rattle.refute_print.specs.Text.{text_lines, as_bytes}
use Rattle.refute_print.specs.Named.{name_numbered, named_refutation}
use Rattle.outside.specs.Lines.{lines_of}
use Rattle.refute_text.specs.Reading.{start_mark, end_mark, is_start, is_one_line, AreLines, read, ReadsText, TextStands}
use Rattle.refute_text.proofs.ReadingLaws.{reading-same}
use Rattle.refute_text.proofs.BackLaws.{reads_back}
use Rattle.cli_words.specs.declared.Cuts.TheVariants.{Allowed}
use Rattle.szs_report.specs.Report.{tree_lines, detail_lines, proof_report, report_of}
use Rattle.szs_report.specs.declared.answer.TreeReport.{TreeReport}
use Rattle.szs_report.specs.declared.answer.TreeReport.TheVariants.{Unasked, Tree, Open, Over}
use Rattle.szs_report.specs.declared.answer.Answer.TheVariants.{Proved}
use Rattle.szs_report.specs.declared.answer.Claim.{Claim}
use Rattle.szs_report.specs.declared.answer.Claim.TheVariants.{Theorem, Unsatisfiable}
use Rattle.request_answers.specs.Names.{names_in}
use Rattle.request_answers.specs.Checked.{IsAcceptedText, HoldsOnly}
use Rattle.request_answers.specs.Solved.{IsProofOf, IsSolved}
use Rattle.request_answers.proofs.OneLine.{one_line-append, decimal_one_line}
use Rattle.request_answers.proofs.SolvedLaws.{proof_accepted}

or_false : (a b : Bool) → a ≡ false → b ≡ false → a || b ≡ false
or_false a b h k = ap₂ (λ x y. x || y) h k

-- what is told of a tree is a line, and doesn't start a text
tree_lines_before : (tree : TreeReport) (last : List ℕ) → is_one_line last ≡ true → AreLines (tree_lines tree ++ last ∷ [])
tree_lines_before Unasked last h = (h, tt)
tree_lines_before (Tree nodes) last h = (one_line-append (codes "% tree ") (decimal nodes) refl (decimal_one_line nodes), (h, tt))
tree_lines_before Open last h = (refl, (h, tt))
tree_lines_before (Over nodes) last h = (one_line-append (codes "% tree over ") (decimal nodes) refl (decimal_one_line nodes), (h, tt))

tree_lines_start : (tree : TreeReport) → list_any is_start (tree_lines tree) ≡ false
tree_lines_start Unasked = refl
tree_lines_start (Tree nodes) = refl
tree_lines_start Open = refl
tree_lines_start (Over nodes) = refl

-- nor does the mode that is told
detail_lines_before : (mode : Option ℕ) (tree : TreeReport) (last : List ℕ) → is_one_line last ≡ true → AreLines (detail_lines mode tree ++ last ∷ [])
detail_lines_before None tree last h = tree_lines_before tree last h
detail_lines_before (Some i) tree last h = (one_line-append (codes "% mode ") (decimal i) refl (decimal_one_line i), tree_lines_before tree last h)

detail_lines_start : (mode : Option ℕ) (tree : TreeReport) → list_any is_start (detail_lines mode tree) ≡ false
detail_lines_start None tree = tree_lines_start tree
detail_lines_start (Some i) tree = tree_lines_start tree

first_line : (k n : ℕ) → 5 + (k + n) ≡ suc (suc k) + 3 + n
first_line k n = omega arith

-- the text of a refutation stands in the report of its proof
stands_in_report : (status name : List ℕ) (total : ℕ) (mode nodes : Option ℕ) (m : Mode) (p : PlainProblem) (n : ℕ) (tree : TreeReport) (text : List ℕ) (proof : IsProofOf nodes m p n tree text) → is_one_line name ≡ true → is_one_line status ≡ true → is_start (status ++ name) ≡ false → TextStands (proof_report status name total mode tree text) (named_refutation (names_in p) (taken_names p) proof.refutation) (5 + (length (detail_lines mode tree) + length (map (name_numbered (names_in p).constants) (taken_names p))))
stands_in_report status name total mode nodes m p n tree text proof clean plain_status other =
    let lines = text_lines (named_refutation (names_in p) (taken_names p) proof.refutation) in
    let before : List (List ℕ) = (status ++ name) ∷ (codes "% commands " ++ decimal total) ∷ detail_lines mode tree in
    let head = as_bytes (before ++ (start_mark ++ name) ∷ []) in
    let last : List ℕ = end_mark ++ name in
    record {
      before = before;
      start = start_mark ++ name;
      last = last;
      rest = [];
      bytes_are =
          ap (λ t. head ++ (t ++ as_bytes (last ∷ []))) proof.is_text
          ∙ ap (λ z. head ++ (as_bytes lines ++ z)) (sym (append-nil (as_bytes (last ∷ []))));
      lines_before = (
        one_line-append status name plain_status clean,
        (one_line-append (codes "% commands ") (decimal total) refl (decimal_one_line total), detail_lines_before mode tree (start_mark ++ name) (one_line-append start_mark name refl clean)),
      );
      last_line = one_line-append end_mark name refl clean;
      none_before = or_false _ _ other (detail_lines_start mode tree);
      starts = refl;
      ends = refl;
      first_is = first_line (length (detail_lines mode tree)) (length (map (name_numbered (names_in p).constants) (taken_names p)));
    }

-- the bytes of a report hold the refutation of its proof alone
holds_only : (status name : List ℕ) (total : ℕ) (mode nodes : Option ℕ) (m : Mode) (p : PlainProblem) (n : ℕ) (tree : TreeReport) (text : List ℕ) (proof : IsProofOf nodes m p n tree text) → is_one_line name ≡ true → is_one_line status ≡ true → is_start (status ++ name) ≡ false → HoldsOnly p (proof_report status name total mode tree text) proof.refutation
holds_only status name total mode nodes m p n tree text proof clean plain_status other =
    let bytes = proof_report status name total mode tree text in
    let whole = named_refutation (names_in p) (taken_names p) proof.refutation in
    let first = 5 + (length (detail_lines mode tree) + length (map (name_numbered (names_in p).constants) (taken_names p))) in
    let reads : ReadsText (lines_of bytes) (read whole first) = reads_back bytes whole first proof.has_text (stands_in_report status name total mode nodes m p n tree text proof clean plain_status other) in
    record { first = first; reads = reads; only = λ reading h. reading-same (lines_of bytes) reading (read whole first) h reads; numbered = proof.numbered }

pub holds_report : (claim : Claim) (name : List ℕ) (total : ℕ) (mode nodes : Option ℕ) (m : Mode) (p : PlainProblem) (n : ℕ) (tree : TreeReport) (text : List ℕ) (proof : IsProofOf nodes m p n tree text) → is_one_line name ≡ true → HoldsOnly p (report_of name (Proved claim total mode tree text)) proof.refutation
holds_report Theorem name total mode nodes m p n tree text proof clean = holds_only (codes "% SZS status Theorem for ") name total mode nodes m p n tree text proof clean refl refl
holds_report Unsatisfiable name total mode nodes m p n tree text proof clean = holds_only (codes "% SZS status Unsatisfiable for ") name total mode nodes m p n tree text proof clean refl refl

-- the report of a run's proof is an accepted text
pub accepted_report : (nodes : Option ℕ) (m : Mode) (p : PlainProblem) (n : ℕ) (tree : TreeReport) (text bytes : List ℕ) (proof : IsProofOf nodes m p n tree text) → HoldsOnly p bytes proof.refutation → IsAcceptedText Allowed p bytes
accepted_report nodes m p n tree text bytes proof h =
    record { refutation = named_refutation (names_in p) (taken_names p) proof.refutation; first = h.first; reads = h.reads; accepted = proof_accepted nodes m p n tree text proof }

pub report_accepted : (nodes : Option ℕ) (m : Mode) (p : PlainProblem) (claim : Claim) (n : ℕ) (mode : Option ℕ) (tree : TreeReport) (text : List ℕ) (name : List ℕ) → is_one_line name ≡ true → IsSolved nodes m p (Proved claim n mode tree text) → IsAcceptedText Allowed p (report_of name (Proved claim n mode tree text))
report_accepted nodes m p claim n mode tree text name clean h = accepted_report nodes m p n tree text (report_of name (Proved claim n mode tree text)) h.2 (holds_report claim name n mode nodes m p n tree text h.2 clean)
