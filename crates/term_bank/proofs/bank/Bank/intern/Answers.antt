use Rattle.std.proofs.Common.{[], ◌∷◌, ◌++◌, sym, ◌∙◌, ap, refl, subst, slice_get}
use Rattle.term_bank.specs.Content.{content_scope}
use Rattle.term_bank.specs.Terms.{shape_term, IsTypedTerm}
use Rattle.term_bank.specs.NodeView.{the_shape}
use Rattle.term_bank.specs.Internal.MarksView.{IsMarked}
use Rattle.term_bank.specs.Internal.Inside.{the_content}
use Rattle.term_bank.specs.Internal.Sound.{entry_terms}
use Rattle.term_bank.proofs.AddLaws.{found_in, entries_after, added}
use Rattle.term_bank.proofs.GrowLaws.{grows_itself}
use Rattle.term_bank.proofs.bank.Bank.intern.Goals as goal

pub returns-in_ok-number_of-in-Some-clause-term : goal.returns-in_ok-number_of-in-Some-clause-term
returns-in_ok-number_of-in-Some-clause-term c =
    let es = c.self.inside.nodes.entries in
    let n = c.args.node in
    ap (slice_get c.args.self.now.terms) c.in_ok-number_of-in-Some.ensures
    ∙ found_in (content_scope (the_content c.self.inside)) es c.self.invariant.nodes n c.in-Some.place (the_shape n) c.args.self.now.terms c.in-Some.ensures.index refl (ap (λ b. b.terms) c.self.view_is)

pub returns-in_ok-number_of-in-Some-clause-grows : goal.returns-in_ok-number_of-in-Some-clause-grows
returns-in_ok-number_of-in-Some-clause-grows c = grows_itself c.args.self.now

pub invariant_of-self-in-None : goal.invariant_of-self-in-None
invariant_of-self-in-None c =
    let scope = content_scope (the_content c.self.inside) in
    let es = c.self.inside.nodes.entries in
    let n = c.args.node in
    let f = c.in_ok-marks-in-None.marks in
    let ts = c.args.self.now.terms in
    let t = shape_term ts (the_shape n) in
    let marked : IsMarked scope t f = record { marks = c.in_ok-marks-in-None.ensures; typed = subst (λ x. IsTypedTerm x t) (ap content_scope (sym c.self.view_is)) c.requires.typed } in
    let w = added scope es c.insert.new.self.entries n f (the_shape n) ts t c.self.invariant.nodes refl (ap (λ b. b.terms) c.self.view_is) refl c.requires.below marked (entries_after c.self.inside.nodes n f c.in-None.ensures.found c.insert.new.self.entries c.in_ok-insert-in-None.ensures.entries) in
    record { declared = c.self.invariant.declared; few_witnesses = c.self.invariant.few_witnesses; nodes = w.sound }

pub returns-in_ok-insert-in-None-clause-term : goal.returns-in_ok-insert-in-None-clause-term
returns-in_ok-insert-in-None-clause-term c =
    let scope = content_scope (the_content c.self.inside) in
    let es = c.self.inside.nodes.entries in
    let n = c.args.node in
    let f = c.in_ok-marks-in-None.marks in
    let ts = c.args.self.now.terms in
    let t = shape_term ts (the_shape n) in
    let marked : IsMarked scope t f = record { marks = c.in_ok-marks-in-None.ensures; typed = subst (λ x. IsTypedTerm x t) (ap content_scope (sym c.self.view_is)) c.requires.typed } in
    let w = added scope es c.insert.new.self.entries n f (the_shape n) ts t c.self.invariant.nodes refl (ap (λ b. b.terms) c.self.view_is) refl c.requires.below marked (entries_after c.self.inside.nodes n f c.in-None.ensures.found c.insert.new.self.entries c.in_ok-insert-in-None.ensures.entries) in
    ap (slice_get (entry_terms c.insert.new.self.entries)) (c.in_ok-id-in-None.ensures ∙ c.len.ensures.len) ∙ w.place

pub returns-in_ok-insert-in-None-clause-grows : goal.returns-in_ok-insert-in-None-clause-grows
returns-in_ok-insert-in-None-clause-grows c =
    let scope = content_scope (the_content c.self.inside) in
    let es = c.self.inside.nodes.entries in
    let n = c.args.node in
    let f = c.in_ok-marks-in-None.marks in
    let ts = c.args.self.now.terms in
    let t = shape_term ts (the_shape n) in
    let marked : IsMarked scope t f = record { marks = c.in_ok-marks-in-None.ensures; typed = subst (λ x. IsTypedTerm x t) (ap content_scope (sym c.self.view_is)) c.requires.typed } in
    let w = added scope es c.insert.new.self.entries n f (the_shape n) ts t c.self.invariant.nodes refl (ap (λ b. b.terms) c.self.view_is) refl c.requires.below marked (entries_after c.self.inside.nodes n f c.in-None.ensures.found c.insert.new.self.entries c.in_ok-insert-in-None.ensures.entries) in
    record {
      bases = ap (λ b. b.bases) c.self.view_is;
      consts = ap (λ b. b.consts) c.self.view_is;
      witnesses = ap (λ b. b.witnesses) c.self.view_is;
      further = t ∷ [];
      terms = w.terms ∙ ap (λ b. b.terms ++ t ∷ []) c.self.view_is;
    }
