use Rattle.std.proofs.Common.{sym, ap, subst, refl, ◌∙◌, length, option_map, codes, arith, length-append}
use Rattle.refute_text.specs.Internal.Reader.{repeated_at, with_items}
use Rattle.refute_text.specs.Internal.LineReader.{literal_text_at}
use Rattle.refute_text.proofs.Inversions.{behind_some}
use Rattle.refute_text.proofs.Repeats.{ItemsLeft, items_more, items_refused, items_end}
use Rattle.refute_text.proofs.LiteralReads.{literal_shorter}
use Rattle.refute_text.proofs.read_line.more_literals.Goals as goal

pub loop-more-init : goal.loop-more-init
loop-more-init c = (length c.args.bytes.now, omega arith, refl)

pub returns-in-Err : goal.returns-in-Err
returns-in-Err c =
    items_refused (codes ",") literal_text_at c.loop-more.literals c.loop-more.rest.now c.in-Some.more.now (with_items c.args.first (repeated_at (codes ",") literal_text_at (length c.args.bytes.now) c.args.bytes.now)) c.in-Err.refusal (omega arith) c.loop-more.invariant
    (sym c.behind.ensures ∙ ap (option_map (λ rest. rest.now)) c.in-Some.is) c.in-Err.ensures.refused

pub loop-more-smaller : goal.loop-more-smaller
loop-more-smaller c =
    let read = c.in-Ok.ensures.read in
    let shorter = literal_shorter c.in-Some.more.now read.0 c.in-Ok.after.now read.1 in
    let whole = ap length (behind_some (codes ",") c.loop-more.rest.now c.in-Some.more.now (sym c.behind.ensures ∙ ap (option_map (λ rest. rest.now)) c.in-Some.is)) ∙ length-append (codes ",") c.in-Some.more.now in
    omega (arith, shorter, whole)

pub loop-more-preserved : goal.loop-more-preserved
loop-more-preserved c =
    let read = c.in-Ok.ensures.read in
    subst (λ us. ItemsLeft (codes ",") literal_text_at us c.in-Ok.after.now (with_items c.args.first (repeated_at (codes ",") literal_text_at (length c.args.bytes.now) c.args.bytes.now))) (sym read.2)
    (items_more (codes ",") literal_text_at c.loop-more.literals c.loop-more.rest.now c.in-Some.more.now read.0 c.in-Ok.after.now (with_items c.args.first (repeated_at (codes ",") literal_text_at (length c.args.bytes.now) c.args.bytes.now)) (omega arith) c.loop-more.invariant
    (sym c.behind.ensures ∙ ap (option_map (λ rest. rest.now)) c.in-Some.is) read.1 (literal_shorter c.in-Some.more.now read.0 c.in-Ok.after.now read.1))

pub returns : goal.returns
returns c =
    items_end (codes ",") literal_text_at c.loop-more.literals c.loop-more.rest.now (with_items c.args.first (repeated_at (codes ",") literal_text_at (length c.args.bytes.now) c.args.bytes.now)) c.loop-more.invariant
    (sym c.behind.ensures ∙ ap (option_map (λ rest. rest.now)) c.in_default.is)
