use Rattle.std.proofs.Common.{◌≡◌, ◌+◌, ◌++◌, ◌∷◌, [], subst, append_assoc, arith}
use Rattle.std.proofs.lemmas.List.{take_rest, length-drop}
use Rattle.thf_grammar.specs.declared.token.TokenKind.TheVariants.{Bad, End}
use Rattle.thf_grammar.specs.Longest.{IsLongestToken, IsLongestGap}
use Rattle.thf_grammar.specs.Reading.{Reads, token_at}
use Rattle.thf_grammar.proofs.Readings.{reads_gap, reads_token, reads_bad, reads_end}
use Rattle.thf_lex.proofs.lexer.lex.Goals as goal

pub loop-len-preserved-in-Gap : goal.loop-len-preserved-in-Gap
loop-len-preserved-in-Gap c =
    let bytes = c.args.bytes.now in
    let at = c.loop-len.at in
    let longest = subst (λ xs. IsLongestGap xs c.in-Gap.len) (take_rest bytes at) c.in-Gap.ensures.1 in
    record {
      within = omega (arith, longest.within, length-drop at bytes);
      completes = λ later h. c.loop-len.invariant.completes later (reads_gap bytes at c.in-Gap.len later longest h);
    }

pub loop-len-preserved : goal.loop-len-preserved
loop-len-preserved c =
    let bytes = c.args.bytes.now in
    let at = c.loop-len.at in
    let kind = c.in-Word.kind in
    let len = c.in-Word.len in
    let longest = subst (λ xs. IsLongestToken kind xs len) (take_rest bytes at) c.in-Word.ensures.1 in
    record {
      within = omega (arith, longest.within, length-drop at bytes);
      completes = λ later h.
          let pushed : c.push.new.self ≡ c.loop-len.tokens ++ token_at kind at (at + len) ∷ [] = cc (c.in_ok-push-in-Word.ensures.ok, c.token.ensures) in
          rw (pushed, append_assoc) (c.loop-len.invariant.completes (token_at kind at (at + len) ∷ later) (reads_token bytes kind at len later longest h));
    }

pub returns-in-Bad : goal.returns-in-Bad
returns-in-Bad c =
    let bytes = c.args.bytes.now in
    let at = c.loop-len.at in
    let pushed : c.push-in-Bad.new.self ≡ c.loop-len.tokens ++ token_at Bad at (at + 1) ∷ [] = cc (c.in_ok-push-in-Bad.ensures.ok, c.token-in-Bad.ensures) in
    let last = subst (λ xs. Reads at xs (token_at Bad at (at + 1) ∷ [])) (take_rest bytes at) (reads_bad _ at c.in-Bad.ensures.0 c.in-Bad.ensures.1) in
    rw pushed (c.loop-len.invariant.completes _ last)

pub returns-in-End : goal.returns-in-End
returns-in-End c =
    let bytes = c.args.bytes.now in
    let at = c.loop-len.at in
    let pushed : c.push-in-End.new.self ≡ c.loop-len.tokens ++ token_at End at at ∷ [] = cc (c.in_ok-push-in-End.ensures.ok, c.token-in-End.ensures) in
    let last = subst (λ xs. Reads at xs (token_at End at at ∷ [])) (take_rest bytes at) (reads_end _ at c.in-End.ensures) in
    rw pushed (c.loop-len.invariant.completes _ last)
