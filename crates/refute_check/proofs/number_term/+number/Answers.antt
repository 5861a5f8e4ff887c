use Rattle.std.proofs.Common.{ap, sym, ◌∙◌, arith}
use Rattle.stt_core.proofs.ListLaws.{map_more}
use Rattle.stt_core.specs.Lambda.{lambdas}
use Rattle.stt_core.specs.View.{the_type as plain_type, the_head as plain_head}
use Rattle.refute_print.specs.View.{the_text_type}
use Rattle.refute_print.specs.TreeView.{the_text_head, the_text_node}
use Rattle.refute_check.specs.Numbered.{numbered_term}
use Rattle.refute_check.proofs.TermLaws.{node_count-at, under_more, under_applied}
use Rattle.refute_check.proofs.number_term.+number.Goals as goal

pub number_terms-number_under-requires : goal.number_terms-number_under-requires
number_terms-number_under-requires t c =
    let smaller = node_count-at c.args.terms.now c.loop-i.i c.at.result.now c.at.ensures in
    (omega (arith, c.decreases, smaller), tt)

pub number_terms-loop-i-preserved : goal.number_terms-loop-i-preserved
number_terms-loop-i-preserved t c =
    map_more (numbered_term c.args.numbering.now) c.args.terms.now c.loop-i.i c.at.result.now c.loop-i.nfs c.push.new.self c.in_ok-nf.nf c.at.ensures c.loop-i.invariant (c.in_ok-nf.ensures ∙ ap (λ bs. lambdas bs (numbered_term c.args.numbering.now c.at.result.now)) c.new.ensures) c.in_ok-push.ensures.ok

pub number_under-returns-in_ok-number_under-in-Lam : goal.number_under-returns-in_ok-number_under-in-Lam
number_under-returns-in_ok-number_under-in-Lam t c =
    let whole = ap the_text_node (sym c.in-Lam.is) ∙ c.term.view_is in
    under_more c.args.numbering.now c.args.binders c.push.new.self (plain_type c.in_ok-ty-in-Lam.ty) (the_text_type c.in-Lam.ty) c.in-Lam.body.value c.args.term.now c.in_ok-number_under-in-Lam.field-0 (c.in_ok-number_under-in-Lam.ensures ∙ ap (λ s. lambdas c.push.new.self (numbered_term c.args.numbering.now s)) c.deref.ensures) c.in_ok-push-in-Lam.ensures.ok c.in_ok-ty-in-Lam.ensures whole

pub number_under-returns-in_ok-args-in-App : goal.number_under-returns-in_ok-args-in-App
number_under-returns-in_ok-args-in-App t c =
    let whole = ap the_text_node (sym c.in-App.is) ∙ c.term.view_is in
    under_applied c.args.numbering.now c.args.binders (plain_head c.in_ok-head-in-App.head) c.in_ok-args-in-App.args (the_text_head c.in-App.head) c.in-App.args c.args.term.now c.in_ok-head-in-App.ensures c.in_ok-args-in-App.ensures whole
