use Rattle.std.proofs.Common.{length, nat_eq, ap, sym, ◌∙◌}
use Rattle.stt_core.specs.SimpleType.{SimpleType}
use Rattle.stt_core.specs.View.{the_type}
use Rattle.prover_state.specs.Internal.Holes.{after_head}
use Rattle.prover_growth.proofs.TakingLaws.{last-base, last-arrow}
use Rattle.prover_growth.proofs.taking.is_last.Goals as goal

pub returns-in-Base : goal.returns-in-Base
returns-in-Base c = λ holes at there.
    c.is_single.ensures holes at ∙ last-base c.in-Base.field-0 holes there
    ∙ ap (λ (a : SimpleType). nat_eq (length (after_head a holes)) 0) (sym (ap the_type c.in-Base.is))

pub returns-in-Arrow : goal.returns-in-Arrow
returns-in-Arrow c = λ holes at there.
    last-arrow (the_type c.in-Arrow.field-0.value) (the_type c.in-Arrow.field-1.value) holes there
    ∙ ap (λ (a : SimpleType). nat_eq (length (after_head a holes)) 0) (sym (ap the_type c.in-Arrow.is))
