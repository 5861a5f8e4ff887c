use Rattle.std.proofs.Common.{ap, sym, ◌∙◌}
use Rattle.stt_core.specs.SimpleType.{formula}
use Rattle.stt_core.specs.View.{the_type}
use Rattle.stt_core.proofs.TypeLaws.{same_type-true, differ_type}
use Rattle.tableau_rules.proofs.ChoiceLaws.{open_none, function_none, predicate_is, base_none}
use Rattle.tableau_rules.proofs.choice.predicate_type.Goals as goal

pub returns-then-not-is_closed : goal.returns-then-not-is_closed
returns-then-not-is_closed c = open_none c.args.bank.now c.args.f c.is_closed.result c.is_closed.ensures c.if-not-is_closed.true

pub returns-then-same : goal.returns-then-same
returns-then-same c =
    predicate_is c.args.bank.now c.args.f (the_type c.in_ok-argument.field-0) c.in_ok-argument.ensures (the_type c.in-Arrow.argument.value) (the_type c.in-Arrow.outcome.value) (the_type c.in_ok-try_clone-in-Arrow.field-0) c.requires (ap the_type c.in-Arrow.is)
    (ap the_type (sym c.deref.ensures) ∙ same_type-true (the_type c.deref.result.now) formula (sym c.same.ensures ∙ c.if-same.true))
    (c.in_ok-try_clone-in-Arrow.ensures ∙ ap the_type c.deref-then-same.ensures)

pub returns-in-Arrow : goal.returns-in-Arrow
returns-in-Arrow c =
    function_none c.args.bank.now c.args.f (the_type c.in_ok-argument.field-0) c.in_ok-argument.ensures (the_type c.in-Arrow.argument.value) (the_type c.in-Arrow.outcome.value) (ap the_type c.in-Arrow.is)
    (λ e. differ_type (the_type c.deref.result.now) formula (sym c.same.ensures ∙ c.if-same.false) (ap the_type c.deref.ensures ∙ e))

pub returns : goal.returns
returns c = base_none c.args.bank.now c.args.f (the_type c.in_ok-argument.field-0) c.in_ok-argument.ensures c.in-Base.field-0 (ap the_type c.in-Base.is)
