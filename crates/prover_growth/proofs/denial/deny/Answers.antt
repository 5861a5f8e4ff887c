use Rattle.std.proofs.Common.{List, map, length, sym, ap, ◌∙◌}
use Rattle.tableau_calculus.specs.Witnesses.{Row}
use Rattle.search_spec.specs.Heads.{places_to}
use Rattle.prover_state.specs.Internal.Standing.{rows_in, the_state}
use Rattle.prover_growth.proofs.DenialLaws.{denied_row, rows-length}
use Rattle.prover_growth.proofs.TakerLaws.{takers-listed}
use Rattle.prover_growth.proofs.WidenLaws.{state-widens, right-widens}
use Rattle.prover_growth.proofs.denial.deny.Goals as goal

pub returns-clause-state : goal.returns-clause-state
returns-clause-state g c = λ a f denies.
    let t = c.args.core.now.tables in
    let q = c.args.core.now.plan in
    let new = c.make_denial.new.basis in
    state-widens t q new c.in_ok-instance.ensures.widens c.requires.ready.right c.list_taker.new.takers
    ∙ ap (λ (rows : List Row). record (the_state t q) { rows = rows }) (c.in_ok-instance.ensures.rows a f denies)

pub returns-clause-right : goal.returns-clause-right
returns-clause-right g c =
    let t = c.args.core.now.tables in
    let q = c.args.core.now.plan in
    let new = c.make_denial.new.basis in
    let a = c.requires.denies.0 in
    let f = c.requires.denies.1.0 in
    let denies = c.requires.denies.1.1 in
    let rows = c.in_ok-instance.ensures.rows a f denies in
    right-widens t q new c.in_ok-instance.ensures.widens c.requires.ready.right c.list_taker.new.takers c.in_ok-instance.ensures.good
    (λ n.
    takers-listed t.takers c.list_taker.new.takers (rows_in t.basis) c.requires.ready.right.takers (denied_row a f) c.args.output c.len-before.result c.len-now.result (c.requires.output a f denies)
    (c.len-before.ensures ∙ sym (rows-length t.basis))
    (c.len-now.ensures ∙ sym (rows-length new) ∙ ap length rows)
    c.in_ok-list_taker.ensures n
    ∙ ap (λ (rs : List Row). places_to n 0 (map (λ (x : Row). x.type) rs)) (sym rows))
