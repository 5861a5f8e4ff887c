use Rattle.std.proofs.Common.{sym, ap, subst, ◌∙◌, length, option_map, codes, arith, length-append}
use Rattle.refute_text.specs.Internal.TermReader.{arguments_at, term_text_at}
use Rattle.refute_text.proofs.Inversions.{behind_some}
use Rattle.refute_text.proofs.Repeats.{ItemsLeft, items_start, items_more, items_refused, items_end}
use Rattle.refute_text.proofs.TermReads.{term_shorter}
use Rattle.refute_text.proofs.read_term.+read_term.Goals as goal

pub arguments-loop-more-init : goal.arguments-loop-more-init
arguments-loop-more-init t c =
    subst (λ us. ItemsLeft (codes " ") (term_text_at c.args.depth) us c.args.bytes.now (arguments_at (term_text_at c.args.depth) (length c.args.bytes.now) c.args.bytes.now)) (sym c.new-terms.ensures)
    (items_start (codes " ") (term_text_at c.args.depth) c.args.bytes.now)

pub arguments-returns-in-Err : goal.arguments-returns-in-Err
arguments-returns-in-Err t c =
    items_refused (codes " ") (term_text_at c.args.depth) c.loop-more.terms c.loop-more.rest.now c.in-Some.more.now (arguments_at (term_text_at c.args.depth) (length c.args.bytes.now) c.args.bytes.now) c.in-Err.refusal (omega arith) c.loop-more.invariant
    (sym c.behind.ensures ∙ ap (option_map (λ rest. rest.now)) c.in-Some.is) c.in-Err.ensures

pub arguments-loop-more-smaller : goal.arguments-loop-more-smaller
arguments-loop-more-smaller t c =
    let shorter = term_shorter c.args.depth c.in-Some.more.now c.in-Ok.read.term c.in-Ok.read.rest.now c.in-Ok.ensures in
    let whole = ap length (behind_some (codes " ") c.loop-more.rest.now c.in-Some.more.now (sym c.behind.ensures ∙ ap (option_map (λ rest. rest.now)) c.in-Some.is)) ∙ length-append (codes " ") c.in-Some.more.now in
    omega (arith, shorter, whole)

pub arguments-loop-more-preserved : goal.arguments-loop-more-preserved
arguments-loop-more-preserved t c =
    subst (λ us. ItemsLeft (codes " ") (term_text_at c.args.depth) us c.in-Ok.read.rest.now (arguments_at (term_text_at c.args.depth) (length c.args.bytes.now) c.args.bytes.now)) (sym c.in_ok-push-in-Ok.ensures.ok)
    (items_more (codes " ") (term_text_at c.args.depth) c.loop-more.terms c.loop-more.rest.now c.in-Some.more.now c.in-Ok.read.term c.in-Ok.read.rest.now (arguments_at (term_text_at c.args.depth) (length c.args.bytes.now) c.args.bytes.now) (omega arith) c.loop-more.invariant
    (sym c.behind.ensures ∙ ap (option_map (λ rest. rest.now)) c.in-Some.is) c.in-Ok.ensures (term_shorter c.args.depth c.in-Some.more.now c.in-Ok.read.term c.in-Ok.read.rest.now c.in-Ok.ensures))

pub arguments-returns : goal.arguments-returns
arguments-returns t c =
    items_end (codes " ") (term_text_at c.args.depth) c.loop-more.terms c.loop-more.rest.now (arguments_at (term_text_at c.args.depth) (length c.args.bytes.now) c.args.bytes.now) c.loop-more.invariant
    (sym c.behind.ensures ∙ ap (option_map (λ rest. rest.now)) c.in_default.is)
