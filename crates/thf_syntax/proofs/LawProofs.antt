-- The text of a tree that some tokens have is one of it.
use Rattle.std.proofs.Common.{ℕ, Bool, List, [], ◌∷◌, refl, sym, subst, ◌∙◌}
use Rattle.thf_grammar.specs.Reading.{AreTokens}
use Rattle.thf_grammar.specs.Trees.{StatementTree}
use Rattle.thf_grammar.specs.Words.{Word, plain}
use Rattle.std.specs.List.{AllByRecursion}
use Rattle.thf_syntax.specs.Texts.{surface_text}
use Rattle.thf_syntax.specs.Law.{IsSpelled, HasTokens, IsTextOf, AppendsTextOf}
use Rattle.outside.specs.Writing.{Took}
use Rattle.std.specs.Prelude.{IsTrue}
use Rattle.thf_syntax.proofs.Pieces.{words_at, tokens_at}
use Rattle.thf_syntax.proofs.Printed.{file_pieces}
use Rattle.thf_syntax.proofs.PrintedTexts.{bytes_of-file_pieces}
use Rattle.thf_syntax.proofs.Proper.{AreProperStatements}
use Rattle.thf_syntax.proofs.Places.{surface_text-same}
use Rattle.thf_syntax.proofs.Lexed.{reads-pieces}
use Rattle.thf_syntax.proofs.Placed.{lexemes-pieces}
use Rattle.thf_syntax.proofs.Apart.{apart-file}
use Rattle.thf_syntax.proofs.StatementFound.{reads-file}
use Rattle.thf_syntax.proofs.GrammarProper.{AreSpelled, proper-file}

words-spelled : (ws : List Word) → AllByRecursion IsSpelled (plain ws) → AreSpelled ws
words-spelled [] h = tt
words-spelled (w ∷ ws) h = (h.0, words-spelled ws h.1)

-- a proper tree has its text
proper-is_text : (ss : List StatementTree) → AreProperStatements ss → IsTextOf ss (surface_text ss)
proper-is_text ss proper =
    let ps = file_pieces ss in
    let bytes = bytes_of-file_pieces ss in
    let f = reads-file ss proper 0 in
    record {
      tokens = tokens_at 0 ps;
      words = words_at 0 ps;
      other = f.tree;
      read = subst (λ bs. AreTokens bs (tokens_at 0 ps)) bytes (reads-pieces 0 ps (apart-file ss proper));
      placed = sym (lexemes-pieces (surface_text ss) [] 0 ps (sym bytes) refl);
      file = f.read;
      same = sym f.same;
    }

pub printable-is_text : (tree : List StatementTree) → HasTokens tree → IsTextOf tree (surface_text tree)
printable-is_text tree h =
    let text = proper-is_text h.other (proper-file h.file (words-spelled h.words h.spelled)) in
    subst (IsTextOf tree) (sym (surface_text-same tree h.other h.same))
    (record { tokens = text.tokens; words = text.words; other = text.other; read = text.read; placed = text.placed; file = text.file; same = h.same ∙ text.same })

-- what is appended where a tree is written
pub took-appends : {S : Type 0} {tells : S → Bool} {written : S → List ℕ} {faults : S → ℕ} {s t : S} (tree : List StatementTree) → Took tells written faults s t (surface_text tree) → IsTrue (tells s) → HasTokens tree → AppendsTextOf tree (written s) (written t)
took-appends tree h told printable = record { text = surface_text tree; appended = h.appended told; is_text = printable-is_text tree printable }
