-- The tokens of bytes have texts of their kinds.
use Rattle.std.proofs.Common.{◌≡◌, ℕ, ◌+◌, ◌-◌, List, take, drop, refl, sym, ap, ap₂, subst, ◌∙◌, arith}
use Rattle.std.specs.Prelude.{slice_range}
use Rattle.std.specs.List.{AllByRecursion}
use Rattle.std.proofs.lemmas.List.{drop-drop}
use Rattle.thf_grammar.specs.declared.token.TokenKind.{TokenKind}
use Rattle.thf_grammar.specs.declared.token.TokenKind.TheVariants as kind
use Rattle.thf_grammar.specs.declared.token.Token.{Token}
use Rattle.thf_grammar.specs.Texts.{IsToken}
use Rattle.thf_grammar.specs.Reading.{Reads, gap, token, bad, end}
use Rattle.thf_grammar.specs.Trees.{StatementTree}
use Rattle.thf_grammar.specs.Words.{lexemes}
use Rattle.thf_syntax.specs.Law.{IsTextOfKind, IsSpelled, HasTokens, IsTextOf}

of-kind : (k : TokenKind) (text : List ℕ) → IsToken k text → IsTextOfKind k text
of-kind kind.Lower text h = h
of-kind kind.Upper text h = h
of-kind kind.Quoted text h = h
of-kind kind.Dollar text h = h
of-kind kind.Integer text h = h
of-kind kind.Distinct text h = h
of-kind kind.Symbol text h = h
of-kind kind.End text h = tt
of-kind kind.Bad text h = tt

reads-spelled : (bytes : List ℕ) (at : ℕ) (rest : List ℕ) (tokens : List Token) → drop at bytes ≡ rest → Reads at rest tokens → AllByRecursion IsSpelled (lexemes bytes tokens)
reads-spelled bytes at rest tokens here (gap _ n _ _ longest h) =
    reads-spelled bytes (at + n) (drop n rest) tokens (sym (drop-drop n at bytes) ∙ ap (drop n) here) h
reads-spelled bytes at rest _ here (token k _ n _ later longest h) =
    let long : at + n - at ≡ n = omega arith in
    let text : slice_range bytes at (at + n) ≡ take n rest = ap₂ take long here in (
      of-kind k (slice_range bytes at (at + n)) (subst (IsToken k) (sym text) longest.token),
      reads-spelled bytes (at + n) (drop n rest) later (sym (drop-drop n at bytes) ∙ ap (drop n) here) h,
    )
reads-spelled bytes at _ _ here (bad _ byte rest nothing) = (tt, tt)
reads-spelled bytes at _ _ here (end _) = (tt, tt)

-- a tree that has a text is one that some tokens have
pub is_text-printable : (tree : List StatementTree) (bytes : List ℕ) → IsTextOf tree bytes → HasTokens tree
is_text-printable tree bytes h = record {
  words = h.words;
  other = h.other;
  spelled = subst (AllByRecursion IsSpelled) (sym h.placed) (reads-spelled bytes 0 bytes h.tokens refl h.read);
  file = h.file;
  same = h.same;
}
