use Rattle.std.proofs.Common.{sym, ap, subst, refl, ◌∙◌, length, option_map, codes, arith, length-append}
use Rattle.refute_text.specs.Internal.Reader.{repeated_at, with_items}
use Rattle.refute_text.specs.Internal.LineReader.{child_at}
use Rattle.refute_text.proofs.Inversions.{behind_some}
use Rattle.refute_text.proofs.Repeats.{ItemsLeft, items_more, items_refused, items_end}
use Rattle.refute_text.proofs.LiteralReads.{child_shorter}
use Rattle.refute_text.proofs.read_line.more_children.Goals as goal

pub loop-more-init : goal.loop-more-init
loop-more-init c = (length c.args.bytes.now, omega arith, refl)

pub returns-in-Err : goal.returns-in-Err
returns-in-Err c =
    items_refused (codes ",") child_at c.loop-more.children c.loop-more.rest.now c.in-Some.more.now (with_items c.args.first (repeated_at (codes ",") child_at (length c.args.bytes.now) c.args.bytes.now)) c.in-Err.refusal (omega arith) c.loop-more.invariant
    (sym c.behind.ensures ∙ ap (option_map (λ rest. rest.now)) c.in-Some.is) c.in-Err.ensures

pub loop-more-smaller : goal.loop-more-smaller
loop-more-smaller c =
    let shorter = child_shorter c.in-Some.more.now c.in-Ok.read.child c.in-Ok.read.rest.now c.in-Ok.ensures in
    let whole = ap length (behind_some (codes ",") c.loop-more.rest.now c.in-Some.more.now (sym c.behind.ensures ∙ ap (option_map (λ rest. rest.now)) c.in-Some.is)) ∙ length-append (codes ",") c.in-Some.more.now in
    omega (arith, shorter, whole)

pub loop-more-preserved : goal.loop-more-preserved
loop-more-preserved c =
    subst (λ us. ItemsLeft (codes ",") child_at us c.in-Ok.read.rest.now (with_items c.args.first (repeated_at (codes ",") child_at (length c.args.bytes.now) c.args.bytes.now))) (sym c.in_ok-push-in-Ok.ensures.ok)
    (items_more (codes ",") child_at c.loop-more.children c.loop-more.rest.now c.in-Some.more.now c.in-Ok.read.child c.in-Ok.read.rest.now (with_items c.args.first (repeated_at (codes ",") child_at (length c.args.bytes.now) c.args.bytes.now)) (omega arith) c.loop-more.invariant
    (sym c.behind.ensures ∙ ap (option_map (λ rest. rest.now)) c.in-Some.is) c.in-Ok.ensures (child_shorter c.in-Some.more.now c.in-Ok.read.child c.in-Ok.read.rest.now c.in-Ok.ensures))

pub returns : goal.returns
returns c =
    items_end (codes ",") child_at c.loop-more.children c.loop-more.rest.now (with_items c.args.first (repeated_at (codes ",") child_at (length c.args.bytes.now) c.args.bytes.now)) c.loop-more.invariant
    (sym c.behind.ensures ∙ ap (option_map (λ rest. rest.now)) c.in_default.is)
