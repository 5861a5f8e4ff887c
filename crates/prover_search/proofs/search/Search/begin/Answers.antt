use Rattle.std.proofs.Common.{◌≡◌, List, map, filter, sym, ap, ap₂, subst, ◌∙◌}
use Rattle.tableau_calculus.specs.Literals.{Literal}
use Rattle.tableau_calculus.specs.Start.{without_repeats, start}
use Rattle.sat_base.specs.declared.literal.SatLit.{SatLit}
use Rattle.mode_file.specs.declared.Mode.{Mode}
use Rattle.mode_file.specs.Given.{IsInRange}
use Rattle.search_spec.specs.Heads.{HeadOffers}
use Rattle.search_spec.specs.Offers.{offered_heads}
use Rattle.search_spec.specs.Shallow.{is_shallow_literal}
use Rattle.search_spec.specs.State.{State}
use Rattle.search_spec.specs.After.{nothing_yet}
use Rattle.head_offers.specs.Offering.{the_offers}
use Rattle.delta_defs.specs.Unfolding.{unfolded_problem}
use Rattle.delta_defs.proofs.KeptModels.{keeps_types}
use Rattle.type_bound.proofs.StartLaws.{start-keeps}
use Rattle.type_bound.proofs.UnfoldLaws.{unfolding-keeps}
use Rattle.literal_map.specs.Atoms.{bank_literal}
use Rattle.prover_state.specs.declared.command.Delays.{Delays}
use Rattle.prover_state.specs.declared.tables.Basis.{Basis}
use Rattle.prover_state.specs.Internal.Standing.{without_witnesses}
use Rattle.prover_search.specs.Internal.Starting.{IsStarting}
use Rattle.prover_search.proofs.SearchLaws.{scope-declared, start-declared, names-modest}
use Rattle.prover_search.proofs.StartingLaws.{running-start}
use Rattle.prover_search.proofs.search.Search.begin.Goals as goal

pub start_all-requires-clause-state : goal.start_all-requires-clause-state
start_all-requires-clause-state g c =
    let made = c.in_ok-core.ensures in
    made.state ∙ ap (λ (o : HeadOffers). record nothing_yet { offers = o }) (sym (ap (λ (s : State). s.offers) made.state))

pub returns-in-Ok-start_all-clause-under_way : goal.returns-in-Ok-start_all-clause-under_way
returns-in-Ok-start_all-clause-under_way g c =
    let p = unfolded_problem c.args.problem.now in
    let typed = keeps_types c.args.problem.now c.requires.typed in
    let modest = unfolding-keeps 1024 c.args.problem.now c.requires.modest in
    let core = c.in_ok-core.core in
    let new = c.start_all.new.core in
    let made = c.in_ok-core.ensures in
    let prepared = c.requires.prepared in
    let bases = ap (λ (b : Basis). b.bank.bases) made.basis ∙ prepared.bases in
    let consts = ap (λ (b : Basis). b.bank.consts) made.basis ∙ prepared.consts in
    let begins : without_repeats (map (bank_literal core.tables.basis.bank.terms core.tables.basis.lits) c.as_slice-2.result.now) ≡ start p =
    ap (λ (b : Basis). without_repeats (map (bank_literal b.bank.terms b.lits) c.as_slice-2.result.now)) made.basis
    ∙ ap (λ (ls : List SatLit). without_repeats (map (bank_literal c.args.prepared.basis.bank.terms c.args.prepared.basis.lits) ls)) c.as_slice-2.ensures.value
    ∙ ap without_repeats prepared.numbers.literals in
    let offered : the_offers core.tables.offers ≡ offered_heads core.plan.rule.mode (without_witnesses core.tables.basis.bank) (filter is_shallow_literal (start p)) =
    ap (λ (s : State). s.offers) made.state
    ∙ c.in-Ok.ensures
    ∙ ap (λ ls. offered_heads c.args.mode.now (without_witnesses c.args.prepared.basis.bank) (filter is_shallow_literal (without_repeats (map (bank_literal c.args.prepared.basis.bank.terms c.args.prepared.basis.lits) ls)))) c.as_slice.ensures.value
    ∙ ap (λ ls. offered_heads c.args.mode.now (without_witnesses c.args.prepared.basis.bank) (filter is_shallow_literal (without_repeats ls))) prepared.numbers.literals
    ∙ ap₂ (λ (m : Mode) (b : Basis). offered_heads m (without_witnesses b.bank) (filter is_shallow_literal (start p))) (sym made.mode) (sym made.basis) in
    let S : List Literal → Type 0 = λ ls. IsStarting core.tables core.plan new.tables new.plan ls in
    record {
      mode = ap (λ (d : Delays). d.mode) c.in-Ok-start_all.ensures.rule ∙ made.mode;
      running =
          running-start core.tables core.plan new.tables new.plan (start p) (subst S begins c.in-Ok-start_all.ensures)
          (scope-declared p typed core.tables.basis.bank bases consts)
          (start-declared p typed core.tables.basis.bank bases consts)
          (names-modest p typed core.tables.basis.bank bases consts modest)
          (start-keeps 1024 p modest)
          (ap (λ (b : Basis). b.witnesses) made.basis ∙ prepared.unwitnessed)
          (subst IsInRange (sym made.mode) c.requires.range)
          offered;
    }
