-- The loop over what stands between commas in notes.
use Rattle.std.proofs.Common.{◌≡◌, ℕ, ◌<◌, List, length, true, false, sym, ap, ◌∙◌, arith}
use Rattle.thf_parse.specs.declared.refusal.Refusal.{Refusal}
use Rattle.thf_parse.specs.declared.refusal.Refusal.TheVariants.{Wrong, TooDeep, Memory}
use Rattle.thf_grammar.specs.declared.terminal.Mark.TheVariants.{Comma}
use Rattle.thf_grammar.specs.Words.{Lexeme}
use Rattle.thf_parse.specs.Internal.Outcome.{found, Reader, first_terminal, lexemes_behind}
use Rattle.thf_grammar.specs.Internal.Marks.{is_mark}
use Rattle.thf_parse.specs.Internal.Passes.{IsRefusal}
use Rattle.thf_parse.specs.Internal.NoteReader.{passed, all_commas, general, generals, inner_notes}
use Rattle.thf_parse.proofs.Locals.{IsLocal, rest_of, rest-length}
use Rattle.thf_parse.proofs.MarkLaws.{is_mark-is}
use Rattle.thf_parse.proofs.CommaLaws.{all-more, all-last, all-wrong, all-deep, comma-shorter}
use Rattle.thf_parse.proofs.NoteLaws.{local-general, local-inner_notes}

module _ (room : ℕ) (us ts : List Lexeme) where
  abbrev item : Unit {0} → Reader (Unit {0})
  item x = general (inner_notes room)

  local-item : (x : Unit {0}) → IsLocal (item x)
  local-item x = local-general (inner_notes room) (local-inner_notes room)

  pub generals-refused : (left : List Lexeme) (refusal : Refusal) → all_commas item passed us ≡ all_commas item passed ts → IsRefusal left refusal (general (inner_notes room) us) → IsRefusal left refusal (generals (inner_notes room) ts)
  unfolding generals
  generals-refused left Wrong e h = sym e ∙ all-wrong item local-item passed us left h
  generals-refused left TooDeep e h = sym e ∙ all-deep item local-item passed us left h
  generals-refused left Memory e h = tt

  pub generals-ended : (rest : List Lexeme) → all_commas item passed us ≡ all_commas item passed ts → general (inner_notes room) us ≡ found passed rest → is_mark Comma (first_terminal rest) ≡ false → generals (inner_notes room) ts ≡ found passed rest
  unfolding generals
  generals-ended rest e h c = sym e ∙ all-last item local-item passed passed us rest h c

  pub generals-more : (rest : List Lexeme) → all_commas item passed us ≡ all_commas item passed ts → general (inner_notes room) us ≡ found passed rest → is_mark Comma (first_terminal rest) ≡ true → all_commas item passed (lexemes_behind rest) ≡ all_commas item passed ts
  generals-more rest e h c = sym (all-more item local-item passed passed us rest h (is_mark-is Comma (first_terminal rest) c)) ∙ e

  pub generals-shorter : (rest : List Lexeme) → general (inner_notes room) us ≡ found passed rest → is_mark Comma (first_terminal rest) ≡ true → length (lexemes_behind rest) < length us
  generals-shorter rest h c = omega (arith, rest-length (item passed) (local-item passed) us, ap (λ o. length (rest_of o)) h, comma-shorter rest c)
