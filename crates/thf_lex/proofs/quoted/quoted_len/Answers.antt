use Rattle.std.proofs.Common.{◌≡◌, ◌+◌, ◌<◌, false, get_or, length, arith, subst}
use Rattle.thf_grammar.specs.Bytes.{backslash, is_escaped}
use Rattle.thf_grammar.proofs.Quotes.{passed_none, passed_plain, passed_escape, stops_at, stops_at_end, quoted_by_place, quoted_here, quoted_no_later, nothing_quoted}
use Rattle.thf_lex.proofs.quoted.quoted_len.Goals as goal
use Rattle.thf_lex.proofs.quoted.quoted_len.Goals.{else-byte-eq92-via-then-byte-eq92+then-at-bytes+else-is_escaped, else-byte-eq92-via-then-byte-eq92+else-at-bytes, else-byte-eq92-via-else-byte-eq92}

pub loop-at-init : goal.loop-at-init
loop-at-init c = passed_none c.args.quote c.args.bytes.now c.requires.some

pub returns-then-at-eq1-clause-none : goal.returns-then-at-eq1-clause-none
returns-then-at-eq1-clause-none c =
    let bytes = c.args.bytes.now in
    nothing_quoted c.args.quote bytes c.requires.apart (omega arith) (subst (λ k. get_or bytes k 0 ≡ c.args.quote) c.if-at-eq1.true c.if-byte-quote.true)

pub returns-else-at-eq1-clause-quoted : goal.returns-else-at-eq1-clause-quoted
returns-else-at-eq1-clause-quoted c =
    quoted_here c.args.quote c.args.bytes.now c.loop-at.at c.loop-at.invariant c.loop-at-test.true (omega arith) c.requires.opened c.if-byte-quote.true

pub returns-else-at-eq1-clause-longest : goal.returns-else-at-eq1-clause-longest
returns-else-at-eq1-clause-longest c =
    quoted_no_later c.args.quote c.args.bytes.now c.loop-at.at c.requires.apart c.loop-at.invariant c.loop-at-test.true c.if-byte-quote.true

pub loop-at-preserved-then-is_plain : goal.loop-at-preserved-then-is_plain
loop-at-preserved-then-is_plain c =
    passed_plain c.args.quote c.args.bytes.now c.loop-at.at c.loop-at.invariant c.loop-at-test.true cc

pub loop-at-preserved : goal.loop-at-preserved
loop-at-preserved c =
    passed_escape c.args.quote c.args.bytes.now c.loop-at.at c.requires.apart c.loop-at.invariant c.if-at-bytes.true c.if-byte-eq92.true cc

pub returns-else-byte-eq92-clause-none : goal.returns-else-byte-eq92-clause-none
returns-else-byte-eq92-clause-none c =
    let bytes = c.args.bytes.now in
    let at = c.loop-at.at in
    let bare : get_or bytes at 0 ≡ backslash → at + 1 < length bytes → is_escaped c.args.quote (get_or bytes (at + 1) 0) ≡ false =
    elim c.else-byte-eq92.branch [
      | else-byte-eq92-via-then-byte-eq92+then-at-bytes+else-is_escaped w ↦ λ first there. cc
      | else-byte-eq92-via-then-byte-eq92+else-at-bytes w ↦ λ first there. absurd (omega arith)
      | else-byte-eq92-via-else-byte-eq92 w ↦ λ first there. absurd (omega arith)
    ] in
    quoted_by_place c.args.quote bytes at c.loop-at.invariant (stops_at c.args.quote bytes at c.loop-at-test.true c.if-byte-quote.false (cc) bare)

pub returns-clause-none : goal.returns-clause-none
returns-clause-none c =
    quoted_by_place c.args.quote c.args.bytes.now c.loop-at.at c.loop-at.invariant (stops_at_end c.args.quote c.args.bytes.now c.loop-at.at c.loop-at-test.false)
