use Rattle.std.proofs.Common.{map, subst, sym, ap, ◌∙◌}
use Rattle.stt_core.specs.View.{the_head, the_type}
use Rattle.stt_core.specs.ContextView.{the_context}
use Rattle.stt_core.specs.Canonical.{IsCanonical}
use Rattle.stt_core.proofs.HeadLaws.{atom_head}
use Rattle.term_bank.specs.Content.{content_scope}
use Rattle.term_bank.specs.Terms.{term_at, shape_term}
use Rattle.term_bank.specs.NodeView.{the_shape}
use Rattle.term_bank.proofs.TypeLaws.{head_typed, spine_typed}
use Rattle.term_bank.proofs.bank.Bank.+type_under.Goals as goal

pub spine_type-requires : goal.spine_type-requires
spine_type-requires t c =
    let ts = c.args.self.now.terms in
    let e = c.node.ensures.term ∙ ap (λ n. shape_term ts (the_shape n)) c.in-App.is in
    let k = subst (IsCanonical (content_scope c.args.self.now) (the_context c.args.ctx.now) c.requires.typed.type) e c.requires.typed.canonical in
    head_typed (content_scope c.args.self.now) (the_context c.args.ctx.now) c.requires.typed.type (the_head c.in-App.head) (map (term_at ts) c.in-App.args) (atom_head c.in-App.head) k

pub returns-in_ok-spine_type-in-App : goal.returns-in_ok-spine_type-in-App
returns-in_ok-spine_type-in-App t c =
    let ts = c.args.self.now.terms in
    let scope = content_scope c.args.self.now in
    let ctx = the_context c.args.ctx.now in
    let e = c.node.ensures.term ∙ ap (λ n. shape_term ts (the_shape n)) c.in-App.is in
    let k = subst (IsCanonical scope ctx c.requires.typed.type) e c.requires.typed.canonical in
    subst (IsCanonical scope ctx (the_type c.in_ok-spine_type-in-App.field-0)) (sym e)
    (spine_typed scope ctx c.requires.typed.type (the_type c.in_ok-spine_type-in-App.field-0) (the_head c.in-App.head) (map (term_at ts) c.in-App.args) (atom_head c.in-App.head) k c.in_ok-spine_type-in-App.ensures)
