-- Texts are read back.
use Rattle.std.proofs.Common.{◌≡◌, ℕ, List, [], ◌∷◌, ◌++◌, refl, sym, ap, ◌∙◌, append_assoc, append-nil}
use Rattle.refute_print.specs.Trees.{RefutationTree}
use Rattle.refute_print.specs.Text.{text_lines, as_bytes}
use Rattle.outside.specs.Lines.{lines_of}
use Rattle.refute_text.specs.Reading.{HasText, ReadsAs, TextStands}
use Rattle.refute_text.proofs.LineFeeds.{lines_of-as_bytes}
use Rattle.refute_text.proofs.Printable.{text_lines-are_lines}
use Rattle.refute_text.proofs.TextLaws.{text_lines-same}

pub reads_back : (bytes : List ℕ) (r : RefutationTree) (first : ℕ) → HasText r → TextStands bytes r first → ReadsAs (lines_of bytes) r first
reads_back bytes r first h s =
    let end = as_bytes (s.last ∷ []) ++ s.rest in
    let text = as_bytes (text_lines r) ++ end in
    let lines : lines_of bytes ≡ (s.before ++ s.start ∷ []) ++ (text_lines r ++ (s.last ∷ lines_of s.rest)) =
    ap lines_of s.bytes_are ∙ lines_of-as_bytes (s.before ++ s.start ∷ []) text s.lines_before
    ∙ ap (λ x. (s.before ++ s.start ∷ []) ++ x) (lines_of-as_bytes (text_lines r) end (text_lines-are_lines r h) ∙ ap (λ x. text_lines r ++ x) (lines_of-as_bytes (s.last ∷ []) s.rest (s.last_line, tt)))
    in
    record {
      before = s.before;
      behind = text_lines r ++ (s.last ∷ lines_of s.rest);
      starts = record {
        start = s.start;
        are_lines = lines ∙ append_assoc s.before (s.start ∷ []) (text_lines r ++ (s.last ∷ lines_of s.rest));
        none_before = s.none_before;
        starts = s.starts;
      };
      holds = record { last = s.last; after = lines_of s.rest; are_lines = refl; has_text = h; ends = s.ends };
      first_is = s.first_is;
    }

pub as_bytes-same : (r s : RefutationTree) → HasText r → HasText s → as_bytes (text_lines r) ≡ as_bytes (text_lines s) → r ≡ s
as_bytes-same r s h g e = text_lines-same r s h g (sym (own r h) ∙ ap lines_of e ∙ own s g)
  where
    own : (t : RefutationTree) → HasText t → lines_of (as_bytes (text_lines t)) ≡ text_lines t
    own t k = ap lines_of (sym (append-nil (as_bytes (text_lines t)))) ∙ lines_of-as_bytes (text_lines t) [] (text_lines-are_lines t k) ∙ append-nil (text_lines t)
