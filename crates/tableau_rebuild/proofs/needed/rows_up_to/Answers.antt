use Rattle.std.proofs.Common.{◌≡◌, ◌<◌, ◌+◌, suc, if◌then◌else◌, Bool, map, sym, ap, subst, ◌∙◌, arith}
use Rattle.std.specs.List.{position_or_len}
use Rattle.std.proofs.lemmas.List.{length-map}
use Rattle.std.proofs.lemmas.List.Elements.{All-contains}
use Rattle.stt_core.specs.Lambda.{applied}
use Rattle.stt_core.specs.SameTerm.{same_term}
use Rattle.stt_core.specs.View.{the_head}
use Rattle.tableau_calculus.specs.Witnesses.{Row}
use Rattle.tableau_calculus.proofs.ListLaws.{contains-get}
use Rattle.term_bank.specs.NodeView.{the_shape}
use Rattle.term_bank.specs.Terms.{term_at, shape_term, IsBelow}
use Rattle.witness_names.specs.Rows.{rows_of}
use Rattle.rebuild_spec.specs.NeededRows.{rows_up_to}
use Rattle.tableau_rebuild.proofs.NeededLaws.{rows_up_to-one, rows_up_to-other, head_alone, one_argument, first_there}
use Rattle.tableau_rebuild.proofs.needed.rows_up_to.Goals as goal

pub returns-then-len-ne1 : goal.returns-then-len-ne1
returns-then-len-ne1 c =
    let b = c.args.bank.now in
    let rows = rows_of b.terms c.args.witnesses.now in
    let us = map (term_at b.terms) c.in-App.args in
    let count = c.len.ensures in
    let other = c.if-len-ne1.true in
    let term : term_at b.terms c.args.id ≡ applied (the_head c.in-App.head) us = c.node.ensures.term ∙ ap (λ n. shape_term b.terms (the_shape n)) c.in-App.is in
    let all = length-map c.in-App.args (term_at b.terms) in
    sym (ap (rows_up_to rows) term ∙ rows_up_to-other rows (the_head c.in-App.head) us (head_alone rows c.in-App.head) (λ one. omega (arith, one, all, count, other)))

pub row_of-requires-clause-within : goal.row_of-requires-clause-within
row_of-requires-clause-within c =
    let b = c.args.bank.now in
    let below = subst (λ n. IsBelow c.args.id (the_shape n)) c.in-App.is c.node.ensures.below in
    let low = All-contains (λ i. i < c.args.id) c.in-App.args c.at.result below (contains-get c.in-App.args 0 c.at.result c.at.ensures) in
    let inside = c.requires.within in
    omega (arith, low, inside)

pub overflow_add-result : goal.overflow_add-result
overflow_add-result c = let small = c.row_of.ensures.small in omega (arith, small)

pub returns-then-is_quantifier : goal.returns-then-is_quantifier
returns-then-is_quantifier c =
    let b = c.args.bank.now in
    let rows = rows_of b.terms c.args.witnesses.now in
    let h = the_head c.in-App.head in
    let u = term_at b.terms c.at.result in
    let count = c.len.ensures in
    let one = c.if-len-ne1.false in
    let term = c.node.ensures.term ∙ ap (λ n. shape_term b.terms (the_shape n)) c.in-App.is ∙ ap (applied h) (one_argument b.terms c.in-App.args c.at.result (omega (arith, count, one)) c.at.ensures) in
    let place = c.row_of.ensures.place in
    let more : c.row_of.result + 1 ≡ suc (position_or_len (λ (r : Row). same_term u r.predicate) rows) = omega (arith, place) in
    more ∙ sym (ap (rows_up_to rows) term ∙ rows_up_to-one rows h u ∙ ap (λ (x : Bool). if x then suc (position_or_len (λ (r : Row). same_term u r.predicate) rows) else 0) (sym c.is_quantifier.ensures ∙ c.if-is_quantifier.true))

pub returns-else-is_quantifier : goal.returns-else-is_quantifier
returns-else-is_quantifier c =
    let b = c.args.bank.now in
    let rows = rows_of b.terms c.args.witnesses.now in
    let h = the_head c.in-App.head in
    let count = c.len.ensures in
    let one = c.if-len-ne1.false in
    let first = first_there c.in-App.args (omega (arith, count, one)) in
    let u = term_at b.terms first.0 in
    let term = c.node.ensures.term ∙ ap (λ n. shape_term b.terms (the_shape n)) c.in-App.is ∙ ap (applied h) (one_argument b.terms c.in-App.args first.0 (omega (arith, count, one)) first.1) in
    sym (ap (rows_up_to rows) term ∙ rows_up_to-one rows h u ∙ ap (λ (x : Bool). if x then suc (position_or_len (λ (r : Row). same_term u r.predicate) rows) else 0) (sym c.is_quantifier.ensures ∙ c.if-is_quantifier.false))
