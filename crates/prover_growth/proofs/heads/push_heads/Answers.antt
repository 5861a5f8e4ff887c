use Rattle.std.proofs.Common.{◌≡◌, [], List, map, length, sym, ap, ◌∙◌, arith}
use Rattle.std.proofs.lemmas.List.{length-map}
use Rattle.stt_core.specs.Lambda.{Lambda}
use Rattle.witness_names.specs.Rows.{row_of}
use Rattle.term_bank.specs.Terms.{term_at}
use Rattle.search_spec.specs.Heads.{heads_for}
use Rattle.head_offers.specs.Offering.{the_offers}
use Rattle.search_spec.specs.Partial.{first_hole}
use Rattle.search_spec.specs.State.{Command as Meant, grow, with_commands}
use Rattle.prover_state.specs.Internal.Heads.{the_hole_head}
use Rattle.prover_state.specs.Internal.Names.{sketch_at}
use Rattle.prover_state.specs.Internal.Standing.{rows_in, scope_by, sketches_in, the_state}
use Rattle.prover_state.proofs.TermLaws.{pushed-nothing}
use Rattle.prover_growth.proofs.HeadCounts.{heads-all, heads-loop, heads-begin, heads-count, no-heads}
use Rattle.prover_growth.proofs.heads.push_heads.Goals as goal

pub returns-then-count-eq0-clause-state : goal.returns-then-count-eq0-clause-state
returns-then-count-eq0-clause-state g c =
    let t = c.args.core.now.tables in
    let q = c.args.core.now.plan in
    let x = sketch_at (sketches_in t) c.args.p in
    let mode = q.rule.mode in
    let s = the_state t q in
    let none : heads_for (the_offers t.offers) (scope_by t.basis) (first_hole [] x.partial) ≡ [] = no-heads (heads_for (the_offers t.offers) (scope_by t.basis) (first_hole [] x.partial)) (omega (arith, c.in_ok-count.ensures, c.if-count-eq0.true)) in
    sym (pushed-nothing mode s) ∙ ap (λ (hs : List Lambda). with_commands mode (map (grow x) hs) s) (sym none)

pub fitting_head-requires-clause-few : goal.fitting_head-requires-clause-few
fitting_head-requires-clause-few g c =
    let t = c.args.core.now.tables in
    let n = length-map t.basis.witnesses (λ id. row_of (term_at t.basis.bank.terms id)) in
    omega (arith, n, c.len-known.ensures)

pub fitting_head-requires-clause-within : goal.fitting_head-requires-clause-within
fitting_head-requires-clause-within g c =
    let t = c.args.core.now.tables in
    let q = c.args.core.now.plan in
    let n = length-map t.basis.witnesses (λ id. row_of (term_at t.basis.bank.terms id)) in
    let all : c.len-known.result ≡ length (rows_in t.basis) = omega (arith, n, c.len-known.ensures) in
    let e = ap length (heads-all t q c.requires.right c.args.p c.len-known.result all) in
    omega (arith, e, c.in_ok-count.ensures, c.if-count-eq0.false)

pub push_whole-requires-clause-begins : goal.push_whole-requires-clause-begins
push_whole-requires-clause-begins g c =
    heads-begin c.args.core.now.tables c.args.core.now.plan c.requires.right c.args.p c.len-known.result c.number_of.result (the_hole_head c.in_ok-head.head) c.number_of.ensures.head c.in_ok-head.ensures

pub push_whole-requires-clause-count : goal.push_whole-requires-clause-count
push_whole-requires-clause-count g c =
    let t = c.args.core.now.tables in
    let n = length-map t.basis.witnesses (λ id. row_of (term_at t.basis.bank.terms id)) in
    let all : c.len-known.result ≡ length (rows_in t.basis) = omega (arith, n, c.len-known.ensures) in
    heads-count t c.args.core.now.plan c.requires.right c.args.p c.len-known.result c.number_of.result c.in_ok-count.count all c.in_ok-count.ensures

pub push_whole-requires-clause-witnesses : goal.push_whole-requires-clause-witnesses
push_whole-requires-clause-witnesses g c =
    let t = c.args.core.now.tables in
    let n = length-map t.basis.witnesses (λ id. row_of (term_at t.basis.bank.terms id)) in
    omega (arith, n, c.len-known.ensures)

pub returns-clause-state : goal.returns-clause-state
returns-clause-state g c =
    let t = c.args.core.now.tables in
    let q = c.args.core.now.plan in
    let n = length-map t.basis.witnesses (λ id. row_of (term_at t.basis.bank.terms id)) in
    let all : c.len-known.result ≡ length (rows_in t.basis) = omega (arith, n, c.len-known.ensures) in
    c.in_ok-push_whole.ensures.state
    ∙ ap (λ (cs : List Meant). with_commands q.rule.mode cs (the_state t q)) (heads-loop t q c.requires.right c.args.p c.len-known.result c.number_of.result all)
