use Rattle.std.proofs.Common.{sym, ap, ◌∙◌}
use Rattle.stt_core.specs.View.{the_type}
use Rattle.prover_search.specs.Internal.Working.{equation_shape}
use Rattle.prover_search.proofs.ShapedLaws.{base-shape}
use Rattle.prover_search.proofs.shape.equation_shape.Goals as goal

pub returns-else-n-eq0 : goal.returns-else-n-eq0
returns-else-n-eq0 c = base-shape c.in-Base.n c.if-n-eq0.false ∙ sym (ap (λ a. equation_shape (the_type a)) c.in-Base.is)
