-- The tokens of pieces, with their texts and places.
use Rattle.std.proofs.Common.{◌≡◌, ℕ, ◌+◌, ◌-◌, List, [], ◌∷◌, ◌++◌, length, take, drop, sym, ap, ap₂, ◌∙◌, arith, length-append, append_assoc}
use Rattle.std.specs.Prelude.{slice_range}
use Rattle.std.proofs.Math.Seq.{take-append_seam, drop-append_seam}
use Rattle.thf_grammar.specs.declared.token.TokenKind.{TokenKind}
use Rattle.thf_grammar.specs.declared.token.TokenKind.TheVariants as kind
use Rattle.thf_grammar.specs.Words.{Lexeme, lexemes, plain}
use Rattle.thf_syntax.proofs.Pieces.{Piece, token, gap, bytes_of, words_at, tokens_at}

abbrev lexeme_at : TokenKind → ℕ → List ℕ → Lexeme
lexeme_at kind at text = record { kind = kind; text = text; at = at }

slice_range-here : (bytes front text rest : List ℕ) (at : ℕ) → bytes ≡ front ++ (text ++ rest) → length front ≡ at → slice_range bytes at (at + length text) ≡ text
slice_range-here bytes front text rest at whole place =
    let n : at + length text - at ≡ length text = omega arith in
    ap₂ (λ k bs. take k bs) n (ap₂ drop (sym place) whole ∙ drop-append_seam front (text ++ rest)) ∙ take-append_seam text rest

pub lexemes-pieces : (bytes front : List ℕ) (at : ℕ) (ps : List Piece) → bytes ≡ front ++ bytes_of ps → length front ≡ at → lexemes bytes (tokens_at at ps) ≡ plain (words_at at ps)
lexemes-pieces bytes front at [] whole place =
    let none : at - at ≡ 0 = omega arith in
    ap (λ n. lexeme_at kind.End at (take n (drop at bytes)) ∷ []) none
lexemes-pieces bytes front at (token k t d ∷ ps) whole place =
    ap₂ (λ text ls. lexeme_at k at text ∷ ls) (slice_range-here bytes front t (bytes_of ps) at whole place)
    (lexemes-pieces bytes (front ++ t) (at + length t) ps (whole ∙ sym (append_assoc front t (bytes_of ps))) (omega (arith, length-append front t, place)))
lexemes-pieces bytes front at (gap c ∷ ps) whole place =
    lexemes-pieces bytes (front ++ c ∷ []) (at + 1) ps (whole ∙ sym (append_assoc front (c ∷ []) (bytes_of ps))) (omega (arith, length-append front (c ∷ []), place))
