-- The loop over labels.
use Rattle.std.proofs.Common.{◌≡◌, ◌<◌, List, [], ◌∷◌, ◌++◌, length, true, false, sym, ap, ◌∙◌, arith}
use Rattle.thf_grammar.specs.Trees.{SelectedTree}
use Rattle.thf_parse.specs.declared.refusal.Refusal.{Refusal}
use Rattle.thf_parse.specs.declared.refusal.Refusal.TheVariants.{Wrong, TooDeep, Memory}
use Rattle.thf_grammar.specs.declared.terminal.Mark.TheVariants.{Comma}
use Rattle.thf_grammar.specs.Words.{Lexeme}
use Rattle.thf_parse.specs.Internal.Outcome.{found, ◌>>=◌, first_terminal, lexemes_behind}
use Rattle.thf_grammar.specs.Internal.Marks.{is_mark}
use Rattle.thf_parse.specs.Internal.Passes.{IsRefusal}
use Rattle.thf_parse.specs.Internal.NoteReader.{all_commas}
use Rattle.thf_parse.specs.Internal.StatementReader.{label, more_label, labels}
use Rattle.thf_parse.proofs.Locals.{rest_of, rest-length}
use Rattle.thf_parse.proofs.MarkLaws.{is_mark-is}
use Rattle.thf_parse.proofs.CommaLaws.{all-more, all-last, all-wrong, all-deep, comma-shorter}
use Rattle.thf_parse.proofs.StatementLocals.{local-label, local-more_label}

module _ (so_far : List SelectedTree) (us ts : List Lexeme) (before : all_commas more_label so_far us ≡ all_commas more_label [] ts) where
  pub labels-refused : (left : List Lexeme) (refusal : Refusal) → IsRefusal left refusal (label us) → IsRefusal left refusal (labels ts)
  unfolding labels
  labels-refused left Wrong h = sym before ∙ all-wrong more_label local-more_label so_far us left (ap (λ o. o >>= λ n rest. found (so_far ++ n ∷ []) rest) h)
  labels-refused left TooDeep h = sym before ∙ all-deep more_label local-more_label so_far us left (ap (λ o. o >>= λ n rest. found (so_far ++ n ∷ []) rest) h)
  labels-refused left Memory h = tt

  pub labels-ended : (n : SelectedTree) (rest : List Lexeme) → label us ≡ found n rest → is_mark Comma (first_terminal rest) ≡ false → labels ts ≡ found (so_far ++ n ∷ []) rest
  unfolding labels
  labels-ended n rest h c = sym before ∙ all-last more_label local-more_label so_far (so_far ++ n ∷ []) us rest (ap (λ o. o >>= λ m after. found (so_far ++ m ∷ []) after) h) c

  pub labels-more : (n : SelectedTree) (rest : List Lexeme) → label us ≡ found n rest → is_mark Comma (first_terminal rest) ≡ true → all_commas more_label (so_far ++ n ∷ []) (lexemes_behind rest) ≡ all_commas more_label [] ts
  labels-more n rest h c = sym (all-more more_label local-more_label so_far (so_far ++ n ∷ []) us rest (ap (λ o. o >>= λ m after. found (so_far ++ m ∷ []) after) h) (is_mark-is Comma (first_terminal rest) c)) ∙ before

pub labels-shorter : (us rest : List Lexeme) (n : SelectedTree) → label us ≡ found n rest → is_mark Comma (first_terminal rest) ≡ true → length (lexemes_behind rest) < length us
labels-shorter us rest n h c = omega (arith, rest-length label local-label us, ap (λ o. length (rest_of o)) h, comma-shorter rest c)
