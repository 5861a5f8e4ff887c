use Rattle.std.proofs.Common.{sym, ap, ◌∙◌}
use Rattle.stt_core.specs.SimpleType.{arrow}
use Rattle.stt_core.specs.View.{the_type}
use Rattle.stt_core.proofs.TypeLaws.{same_type-true}
use Rattle.test_bank.proofs.checked.takes.Goals as goal

pub returns-in-Arrow : goal.returns-in-Arrow
returns-in-Arrow c = λ h.
    let same = same_type-true (the_type c.deref.result.now) (the_type c.args.argument.now) (sym c.same.ensures ∙ h) in
    let wanted = sym (ap the_type c.deref.ensures) ∙ same in
    (the_type c.in-Arrow.field-1.value, ap the_type c.in-Arrow.is ∙ ap (λ a. arrow a (the_type c.in-Arrow.field-1.value)) wanted)
