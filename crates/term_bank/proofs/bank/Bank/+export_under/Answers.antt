use Rattle.std.proofs.Common.{sym, ap, ◌∙◌, [], ◌∷◌, ◌++◌}
use Rattle.stt_core.specs.Lambda.{lambdas}
use Rattle.stt_core.specs.View.{the_type}
use Rattle.stt_core.proofs.ListLaws.{map_more}
use Rattle.term_bank.specs.Terms.{term_at, shape_term}
use Rattle.term_bank.specs.NodeView.{the_shape}
use Rattle.term_bank.proofs.TreeLaws.{lambdas_more}
use Rattle.term_bank.proofs.bank.Bank.+export_under.Goals as goal

pub loop-i-preserved : goal.loop-i-preserved
loop-i-preserved t c =
    map_more (term_at c.args.self.now.terms) c.in-App.args c.loop-i.i c.at.result c.loop-i.trees c.push-in-loop-i.new.self c.in_ok-tree-in-App.tree c.at.ensures c.loop-i.invariant
    (c.in_ok-tree-in-App.ensures ∙ ap (λ bs. lambdas bs (term_at c.args.self.now.terms c.at.result)) c.new.ensures) c.in_ok-push-in-App.ensures.ok

pub returns-in_ok-export_under-in-Lam : goal.returns-in_ok-export_under-in-Lam
returns-in_ok-export_under-in-Lam t c =
    let ts = c.args.self.now.terms in
    let e = c.node.ensures.term ∙ ap (λ n. shape_term ts (the_shape n)) c.in-Lam.is in
    c.in_ok-export_under-in-Lam.ensures
    ∙ ap (λ bs. lambdas bs (term_at ts c.in-Lam.body)) (c.in_ok-push-in-Lam.ensures.ok ∙ ap (λ a. c.args.binders ++ a ∷ []) c.in_ok-try_clone-in-Lam.ensures)
    ∙ lambdas_more c.args.binders (the_type c.in-Lam.ty) (term_at ts c.in-Lam.body)
    ∙ ap (lambdas c.args.binders) (sym e)
