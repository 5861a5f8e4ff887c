use Rattle.std.proofs.Common.{◌≡◌, List, length, get_or, slice_get, Some, refl, sym, ap, ◌∙◌, arith}
use Rattle.stt_core.specs.View.{the_type}
use Rattle.tableau_calculus.specs.Witnesses.{Row}
use Rattle.term_bank.specs.Terms.{term_at}
use Rattle.witness_names.specs.Rows.{row_of}
use Rattle.search_spec.specs.Offers.{witness_terms}
use Rattle.search_spec.specs.Terms.{with_terms}
use Rattle.prover_state.specs.declared.command.Delays.{Delays}
use Rattle.prover_state.specs.declared.tables.Tables.{Tables}
use Rattle.prover_state.specs.Internal.Standing.{rows_in, the_state}
use Rattle.prover_state.proofs.HoleLaws.{there-is}
use Rattle.prover_growth.proofs.BasisLaws.{basis-grows-on, rows-grown}
use Rattle.prover_growth.proofs.DenialLaws.{rows-length}
use Rattle.prover_growth.proofs.OffersLaws.{offers-not, offers-so, row-there-is, early-more, early-all, early-none, early-some}
use Rattle.prover_growth.proofs.OpeningLaws.{same-grows}
use Rattle.prover_growth.proofs.offers.offer_early.Goals as goal

pub returns-then-mode-eq0-clause-state : goal.returns-then-mode-eq0-clause-state
returns-then-mode-eq0-clause-state g c =
    let core = c.args.core.now in
    let mode = core.plan.rule.mode in
    early-none mode (the_type c.args.ty.now) (the_state core.tables core.plan) (offers-not mode (sym (ap (λ m. m.terms) c.mode.ensures) ∙ c.if-mode-eq0.true))

pub returns-then-mode-eq0-clause-basis : goal.returns-then-mode-eq0-clause-basis
returns-then-mode-eq0-clause-basis g c = same-grows c.args.core.now.tables.basis c.args.core.now.tables.basis refl

pub loop-w-init : goal.loop-w-init
loop-w-init g c = record {
  right = c.requires.right;
  basis = same-grows c.args.core.now.tables.basis c.args.core.now.tables.basis refl;
  tables = refl;
  rule = refl;
  lasts = refl;
  state = refl;
}

pub offer_where-requires-clause-number : goal.offer_where-requires-clause-number
offer_where-requires-clause-number g c =
    let same = ap length c.loop-w.invariant.basis.witnesses in
    omega (arith, same, c.loop-w-test.true, c.len-w-end.ensures)

pub loop-w-preserved : goal.loop-w-preserved
loop-w-preserved g c =
    let first = c.args.core.now in
    let core = c.loop-w.core in
    let next = c.offer_where.new.core in
    let inv = c.loop-w.invariant in
    let told = c.in_ok-offer_where.ensures in
    let a = the_type c.args.ty.now in
    let mode = first.plan.rule.mode in
    let w = c.loop-w.w in
    let h = first.tables.basis in
    let rows = rows_in h in
    let id = get_or h.witnesses w 0 in
    let r : Row = row_of (term_at h.bank.terms id) in
    let at : slice_get rows w ≡ Some r = row-there-is h w id (there-is h.witnesses w 0 (omega (arith, c.loop-w-test.true, c.len-w-end.ensures))) in
    let rows_stay : rows_in core.tables.basis ≡ rows = rows-grown h core.tables.basis inv.basis c.requires.right.basis in
    let goal_state = with_terms mode a (witness_terms a 0 rows) (the_state first.tables first.plan) in
    record {
      right = told.stays.right;
      basis = basis-grows-on h core.tables.basis next.tables.basis inv.basis told.basis;
      tables = told.tables ∙ ap (λ (t : Tables). record t { basis = next.tables.basis; terms = next.tables.terms }) inv.tables;
      rule = told.stays.rule ∙ inv.rule;
      lasts = told.lasts ∙ inv.lasts;
      state =
          early-more mode a rows w goal_state r at (the_state core.tables core.plan) (the_state next.tables next.plan) core.plan.rule.mode (ap (λ (d : Delays). d.mode) inv.rule)
          (told.state r (ap (λ (rs : List Row). slice_get rs w) rows_stay ∙ at)) inv.state;
    }

pub returns-clause-state : goal.returns-clause-state
returns-clause-state g c =
    let first = c.args.core.now in
    let core = c.loop-w.core in
    let mode = first.plan.rule.mode in
    let a = the_type c.args.ty.now in
    let rows = rows_in first.tables.basis in
    let s = the_state first.tables first.plan in
    let size = rows-length first.tables.basis in
    early-all mode a rows c.loop-w.w (with_terms mode a (witness_terms a 0 rows) s) (omega (arith, size, c.loop-w-test.false, c.len-w-end.ensures)) (the_state core.tables core.plan) c.loop-w.invariant.state
    ∙ early-some mode a s (offers-so mode (λ e. c.if-mode-eq0.false (ap (λ m. m.terms) c.mode.ensures ∙ e)))
