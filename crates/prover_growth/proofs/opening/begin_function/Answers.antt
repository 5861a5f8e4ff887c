use Rattle.std.proofs.Common.{ap, sym, ◌∙◌}
use Rattle.stt_core.specs.SimpleType.{SimpleType}
use Rattle.stt_core.specs.View.{the_type}
use Rattle.search_spec.specs.Partial.{blank_partial}
use Rattle.search_spec.specs.Terms.{with_opening}
use Rattle.prover_state.specs.Internal.Standing.{setting_by, the_state}
use Rattle.prover_growth.proofs.OpeningLaws.{function-begins}
use Rattle.prover_growth.proofs.opening.begin_function.Goals as goal

pub returns-clause-state : goal.returns-clause-state
returns-clause-state g c =
    let t = c.args.core.now.tables in
    let q = c.args.core.now.plan in
    let s = the_state t q in
    c.in_ok-open_stem.ensures.state
    ∙ ap (λ (x : SimpleType). with_opening (setting_by t q) (record { type = x; partial = blank_partial x }) s) (ap the_type c.in_ok-blank.ensures.ok ∙ c.in_ok-try_clone.ensures)
    ∙ function-begins (setting_by t q) s (the_type c.args.ty.now) c.requires.function.0 c.requires.function.1.0 c.requires.function.1.1

pub open_stem-requires-clause-typed : goal.open_stem-requires-clause-typed
open_stem-requires-clause-typed g c = sym (ap the_type c.in_ok-blank.ensures.ok ∙ c.in_ok-try_clone.ensures)
