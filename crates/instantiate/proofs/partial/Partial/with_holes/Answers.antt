use Rattle.std.proofs.Common.{ap, ap₂, sym, ◌∙◌, ◌++◌}
use Rattle.stt_core.specs.View.{the_type, the_head}
use Rattle.search_spec.specs.Partial.{head as the_leaf}
use Rattle.instantiate.specs.PartialView.{applications}
use Rattle.instantiate.specs.Internal.Blanks.{blanks}
use Rattle.instantiate.proofs.FillLaws.{with_holes-blanks}
use Rattle.instantiate.proofs.partial.Partial.with_holes.Goals as goal

pub returns : goal.returns
returns c =
    ap₂ (λ h qs. applications (the_leaf h) qs) c.in_ok-try_clone.ensures (c.in_ok-push_blanks.ensures ∙ ap (λ ps. ps ++ blanks (the_type c.args.ty.now)) c.new-args.ensures)
    ∙ sym (with_holes-blanks (the_type c.args.ty.now) (the_leaf (the_head c.args.head.now)))
