use Rattle.std.proofs.Common.{sym, ap, ◌∙◌, [], ◌∷◌, ◌++◌}
use Rattle.stt_core.specs.Lambda.{lambdas}
use Rattle.stt_core.specs.View.{the_type}
use Rattle.stt_core.proofs.ListLaws.{map_more}
use Rattle.term_bank.specs.Terms.{term_at, shape_term}
use Rattle.term_bank.specs.NodeView.{the_shape}
use Rattle.term_bank.proofs.TreeLaws.{lambdas_more}
use Rattle.refute_share.proofs.pool.TermPool.+share.Goals as goal

pub share_under-loop-i-preserved : goal.share_under-loop-i-preserved
share_under-loop-i-preserved t c = record {
  terms = map_more (term_at c.args.bank.now.terms) c.in-App.args c.loop-i.i c.at.result c.loop-i.terms c.push-in-loop-i.new.self c.in_ok-term-in-App.term.value c.at.ensures c.loop-i.invariant.terms c.in_ok-term-in-App.ensures.term c.in_ok-push-in-App.ensures.ok;
  known = c.in_ok-term-in-App.ensures.known;
}

pub share_under-returns-in_ok-share_under-in-Lam-clause-term : goal.share_under-returns-in_ok-share_under-in-Lam-clause-term
share_under-returns-in_ok-share_under-in-Lam-clause-term t c =
    let ts = c.args.bank.now.terms in
    let e = c.node.ensures.term ∙ ap (λ n. shape_term ts (the_shape n)) c.in-Lam.is in
    c.in_ok-share_under-in-Lam.ensures.term
    ∙ ap (λ bs. lambdas bs (term_at ts c.in-Lam.body)) (c.in_ok-push-in-Lam.ensures.ok ∙ ap (λ a. c.args.binders ++ a ∷ []) c.in_ok-try_clone-in-Lam.ensures)
    ∙ lambdas_more c.args.binders (the_type c.in-Lam.ty) (term_at ts c.in-Lam.body)
    ∙ ap (lambdas c.args.binders) (sym e)
