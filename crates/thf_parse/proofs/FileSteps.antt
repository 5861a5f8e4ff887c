-- The loop over statements.
use Rattle.std.proofs.Common.{◌≡◌, ℕ, List, [], ◌∷◌, ◌++◌, true, false, sym, ◌∙◌}
use Rattle.thf_grammar.specs.Trees.{StatementTree}
use Rattle.thf_parse.specs.declared.refusal.Refusal.{Refusal}
use Rattle.thf_parse.specs.declared.refusal.Refusal.TheVariants.{Wrong, TooDeep, Memory}
use Rattle.thf_grammar.specs.Words.{Lexeme}
use Rattle.thf_parse.specs.Internal.Outcome.{found, first_terminal}
use Rattle.thf_parse.specs.Internal.Passes.{IsRefusal}
use Rattle.thf_parse.specs.Internal.StatementReader.{statement, is_end, file}
use Rattle.thf_parse.proofs.StatementLocals.{file-ended, file-more, file-wrong, file-deep}

module _ (room : ℕ) (so_far : List StatementTree) (us ts : List Lexeme) (before : file room so_far us ≡ file room [] ts) where
  pub file-refused : (left : List Lexeme) (refusal : Refusal) → is_end (first_terminal us) ≡ false → IsRefusal left refusal (statement room us) → IsRefusal left refusal (file room [] ts)
  file-refused left Wrong e h = sym before ∙ file-wrong room so_far us left e h
  file-refused left TooDeep e h = sym before ∙ file-deep room so_far us left e h
  file-refused left Memory e h = tt

  pub file-done : is_end (first_terminal us) ≡ true → file room [] ts ≡ found so_far us
  file-done e = sym before ∙ file-ended room so_far us e

  pub file-onward : (s : StatementTree) (rest : List Lexeme) → is_end (first_terminal us) ≡ false → statement room us ≡ found s rest → file room (so_far ++ s ∷ []) rest ≡ file room [] ts
  file-onward s rest e h = sym (file-more room so_far s us rest e h) ∙ before
