use Rattle.std.proofs.Common.{◌≡◌, ℕ, List, [], map, length, drop, slice_get, arith, sym, ap, ◌∙◌}
use Rattle.stt_core.proofs.ListLaws.{drop_got}
use Rattle.tableau_calculus.specs.Literals.{Literal}
use Rattle.sat_base.specs.declared.literal.SatLit.{SatLit}
use Rattle.literal_map.specs.Atoms.{bank_literal}
use Rattle.instantiate.specs.Listing.{ids_of}
use Rattle.search_spec.specs.State.{Command as Meant, with_commands}
use Rattle.prover_state.specs.declared.command.Command.TheVariants.{Inst}
use Rattle.prover_state.specs.Internal.Names.{command_at, IsPlace}
use Rattle.prover_state.specs.Internal.Pending.{range_of, over_terms}
use Rattle.prover_state.specs.Internal.Standing.{naming_in, sources, the_state}
use Rattle.prover_state.proofs.EachLaws.{each-at}
use Rattle.prover_state.proofs.PlaceLaws.{places-of}
use Rattle.prover_state.proofs.TermLaws.{pushed-nothing}
use Rattle.prover_state.proofs.LoopLists.{terms-loop, no-items, begins-mapped, length-mapped}
use Rattle.prover_state.proofs.tables.Core.push_instances.Goals as goal

pub returns-then-count-eq0-clause-state : goal.returns-then-count-eq0-clause-state
returns-then-count-eq0-clause-state g c =
    let t = c.args.self.now.tables in
    let q = c.args.self.now.plan in
    let r = c.requires.right in
    let l = c.args.lit in
    let d : SatLit → Literal = bank_literal t.basis.bank.terms t.basis.lits in
    let ids = ids_of (range_of (d l).atom) t.terms in
    let mode = q.rule.mode in
    let s = the_state t q in
    let none : ids ≡ [] = sym c.listed_under-ids.ensures ∙ no-items c.listed_under-ids.result.now (omega (arith, c.if-count-eq0.true)) in
    sym (pushed-nothing mode s) ∙ ap (λ (cs : List Meant). with_commands mode cs s) (sym (terms-loop t q r l 0 ∙ ap (map (λ i. command_at (naming_in t) (Inst l i))) none))

pub push_whole-requires-clause-numbers : goal.push_whole-requires-clause-numbers
push_whole-requires-clause-numbers g c =
    let t = c.args.self.now.tables in
    let q = c.args.self.now.plan in
    let r = c.requires.right in
    let l = c.args.lit in
    let d : SatLit → Literal = bank_literal t.basis.bank.terms t.basis.lits in
    let ids = ids_of (range_of (d l).atom) t.terms in
    let at = ap (λ (xs : List ℕ). slice_get xs 0) (sym c.listed_under-ids.ensures) ∙ c.id_of.ensures in
    (c.requires.number, each-at (IsPlace t.basis.bank.terms) ids 0 c.id_of.result (places-of t.basis.bank.terms (range_of (d l).atom) t.terms r.terms) at)

pub push_whole-requires-clause-begins : goal.push_whole-requires-clause-begins
push_whole-requires-clause-begins g c =
    let t = c.args.self.now.tables in
    let q = c.args.self.now.plan in
    let r = c.requires.right in
    let l = c.args.lit in
    let d : SatLit → Literal = bank_literal t.basis.bank.terms t.basis.lits in
    let ids = ids_of (range_of (d l).atom) t.terms in
    let at = ap (λ (xs : List ℕ). slice_get xs 0) (sym c.listed_under-ids.ensures) ∙ c.id_of.ensures in
    begins-mapped (over_terms (sources t) (command_at (naming_in t) (Inst l c.id_of.result))) (λ i. command_at (naming_in t) (Inst l i)) ids (terms-loop t q r l c.id_of.result) c.id_of.result (drop 1 ids) (drop_got ids 0 c.id_of.result at)

pub push_whole-requires-clause-count : goal.push_whole-requires-clause-count
push_whole-requires-clause-count g c =
    let t = c.args.self.now.tables in
    let q = c.args.self.now.plan in
    let r = c.requires.right in
    let l = c.args.lit in
    let d : SatLit → Literal = bank_literal t.basis.bank.terms t.basis.lits in
    let ids = ids_of (range_of (d l).atom) t.terms in
    ap length c.listed_under-ids.ensures ∙ sym (length-mapped (over_terms (sources t) (command_at (naming_in t) (Inst l c.id_of.result))) (λ i. command_at (naming_in t) (Inst l i)) ids (terms-loop t q r l c.id_of.result))
