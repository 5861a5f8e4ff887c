use Rattle.std.proofs.Common.{sym, ap, ◌∙◌}
use Rattle.refute_print.specs.Limits.{is_negated_text}
use Rattle.refute_print.specs.TreeView.{the_text_head, the_text_node}
use Rattle.refute_text.proofs.Negations.{negated-applied}
use Rattle.refute_text.proofs.read_rule.is_negated.Goals as goal

pub returns-in-App : goal.returns-in-App
returns-in-App c =
    c.is_negation.ensures ∙ sym (negated-applied (the_text_head c.in-App.head) c.in-App.field-1) ∙ sym (ap (λ n. is_negated_text (the_text_node n)) c.in-App.is) ∙ ap is_negated_text c.term.view_is

pub returns-in-Lam : goal.returns-in-Lam
returns-in-Lam c = sym (ap (λ n. is_negated_text (the_text_node n)) c.in-Lam.is) ∙ ap is_negated_text c.term.view_is
