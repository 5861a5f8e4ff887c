use Rattle.std.proofs.Common.{◌≡◌, false, List, length, slice_get, sym, ap, ◌∙◌}
use Rattle.stt_core.specs.Lambda.{every}
use Rattle.stt_core.proofs.ListLaws.{slice_get-end}
use Rattle.tableau_calculus.specs.Literals.{Literal}
use Rattle.tableau_calculus.specs.Witnesses.{Row}
use Rattle.literal_map.specs.Atoms.{bank_literal}
use Rattle.prover_growth.specs.Internal.Denials.{with_row}
use Rattle.prover_growth.proofs.DenialLaws.{rows-length, row-new}
use Rattle.prover_growth.proofs.WitnessedLaws.{came, came-not}
use Rattle.prover_state.specs.declared.tables.Core.{Core}
use Rattle.prover_state.specs.declared.tables.Tables.{Tables}
use Rattle.prover_state.specs.Internal.Advancing.{StaysRight}
use Rattle.prover_state.specs.Internal.Growing.{BasisWidens}
use Rattle.prover_state.specs.Internal.Standing.{rows_in}
use Rattle.prover_state.specs.Internal.Steps.{IsMadeInstance, StepsGrow}
use Rattle.prover_search.specs.Internal.Developing.{Advances}
use Rattle.prover_search.specs.declared.shape.Shape.TheVariants.{Quantified}
use Rattle.prover_search.proofs.AdvanceLaws.{advances-grown, advances-then}
use Rattle.prover_search.proofs.MadeStays.{number-wider, literal-wider}
use Rattle.prover_search.proofs.ShapedLaws.{shaped-as}
use Rattle.prover_search.proofs.WorkLaws.{literal-is, widens-wider, develops-widened, denied-known, denied-new}
use Rattle.prover_search.proofs.quantifier.work_on_denial.Goals as goal

-- what a witness adds
witnessed : {W : Type 0} (a b : Core W) → StaysRight a b → BasisWidens a.tables.basis b.tables.basis → StepsGrow (IsMadeInstance b.tables.basis) a.tables.steps b.tables.steps → b.tables.done ≡ a.tables.done → Advances a b
witnessed a b stays widens steps done = record { right = stays.right; develops = develops-widened a.tables b.tables widens steps done; witnesses = widens.few; rule = stays.rule }

pub add_witness-requires-clause-denies : goal.add_witness-requires-clause-denies
add_witness-requires-clause-denies g c =
    let basis = c.args.core.now.tables.basis in
    let lit = c.args.lit in
    let l : Literal = bank_literal basis.bank.terms basis.lits lit in
    let k = shaped-as l.atom Quantified c.requires.shape in
    (k.0, (k.1, literal-is l false (every k.0 k.1) c.requires.negative k.2))

pub returns-then-len-known-clause-state : goal.returns-then-len-known-clause-state
returns-then-len-known-clause-state g c =
    let core = c.args.core.now in
    let t = core.tables in
    let one = c.add_witness.new.core in
    let lit = c.args.lit in
    let l : Literal = bank_literal t.basis.bank.terms t.basis.lits lit in
    let k = shaped-as l.atom Quantified c.requires.shape in
    let e = literal-is l false (every k.0 k.1) c.requires.negative k.2 in
    let r : Row = record { type = k.0; predicate = k.1 } in
    let size : length (with_row (rows_in t.basis) r) ≡ length one.tables.basis.witnesses = ap length (sym (c.in_ok-add_witness.ensures.rows k.0 k.1 e)) ∙ rows-length one.tables.basis in
    denied-known t one.tables one.tables one.tables core.plan one.plan one.plan one.plan lit k.0 k.1 e (c.in_ok-add_witness.ensures.state k.0 k.1 e)
    (came-not (rows_in t.basis) r (size ∙ sym c.len.ensures ∙ c.if-len-known.true ∙ c.len-known.ensures ∙ sym (rows-length t.basis)))

pub offer_new-requires-clause-number : goal.offer_new-requires-clause-number
offer_new-requires-clause-number g c =
    let t = c.args.core.now.tables in
    let u = c.add_witness.new.core.tables in
    number-wider t.basis u.basis c.requires.ready.right.basis (widens-wider t.basis u.basis c.in_ok-add_witness.ensures.basis) c.args.lit c.requires.number

pub offer_new-requires-clause-denies : goal.offer_new-requires-clause-denies
offer_new-requires-clause-denies g c =
    let t = c.args.core.now.tables in
    let u = c.add_witness.new.core.tables in
    let lit = c.args.lit in
    let l : Literal = bank_literal t.basis.bank.terms t.basis.lits lit in
    let k = shaped-as l.atom Quantified c.requires.shape in
    let e = literal-is l false (every k.0 k.1) c.requires.negative k.2 in
    let r : Row = record { type = k.0; predicate = k.1 } in
    let rows : rows_in u.basis ≡ with_row (rows_in t.basis) r = c.in_ok-add_witness.ensures.rows k.0 k.1 e in
    let size : length (with_row (rows_in t.basis) r) ≡ length u.basis.witnesses = ap length (sym rows) ∙ rows-length u.basis in
    let new = came (rows_in t.basis) r (λ f. c.if-len-known.false (c.len.ensures ∙ sym size ∙ f ∙ rows-length t.basis ∙ sym c.len-known.ensures)) in
    let place : c.len-known.result ≡ length (rows_in t.basis) = c.len-known.ensures ∙ sym (rows-length t.basis) in (
      k.0,
      (
        k.1,
        (
          literal-wider t.basis u.basis c.requires.ready.right.basis (widens-wider t.basis u.basis c.in_ok-add_witness.ensures.basis) lit c.requires.number ∙ e,
          ap (slice_get (rows_in u.basis)) place ∙ ap (λ (rs : List Row). slice_get rs (length (rows_in t.basis))) (rows ∙ row-new (rows_in t.basis) r new) ∙ slice_get-end (rows_in t.basis) r,
        ),
      ),
    )

pub returns-clause-state : goal.returns-clause-state
returns-clause-state g c =
    let core = c.args.core.now in
    let t = core.tables in
    let one = c.add_witness.new.core in
    let two = c.offer_new.new.core in
    let lit = c.args.lit in
    let l : Literal = bank_literal t.basis.bank.terms t.basis.lits lit in
    let k = shaped-as l.atom Quantified c.requires.shape in
    let e = literal-is l false (every k.0 k.1) c.requires.negative k.2 in
    let r : Row = record { type = k.0; predicate = k.1 } in
    let size : length (with_row (rows_in t.basis) r) ≡ length one.tables.basis.witnesses = ap length (sym (c.in_ok-add_witness.ensures.rows k.0 k.1 e)) ∙ rows-length one.tables.basis in
    let new = came (rows_in t.basis) r (λ f. c.if-len-known.false (c.len.ensures ∙ sym size ∙ f ∙ rows-length t.basis ∙ sym c.len-known.ensures)) in
    let later = literal-wider t.basis one.tables.basis c.requires.ready.right.basis (widens-wider t.basis one.tables.basis c.in_ok-add_witness.ensures.basis) lit c.requires.number ∙ e in
    denied-new t one.tables two.tables two.tables core.plan one.plan two.plan two.plan lit k.0 k.1 e c.in_ok-add_witness.ensures.stays.rule c.len-known.result (c.len-known.ensures ∙ sym (rows-length t.basis))
    (c.in_ok-add_witness.ensures.state k.0 k.1 e) new (c.in_ok-offer_new.ensures.state k.0 k.1 later)

pub returns-then-len-known-clause-advances : goal.returns-then-len-known-clause-advances
returns-then-len-known-clause-advances g c =
    witnessed c.args.core.now c.add_witness.new.core c.in_ok-add_witness.ensures.stays c.in_ok-add_witness.ensures.basis c.in_ok-add_witness.ensures.steps (ap (λ (x : Tables). x.done) c.in_ok-add_witness.ensures.tables)

pub returns-clause-advances : goal.returns-clause-advances
returns-clause-advances g c =
    let made = c.in_ok-offer_new.ensures.tables in
    advances-then c.args.core.now c.add_witness.new.core c.offer_new.new.core
    (witnessed c.args.core.now c.add_witness.new.core c.in_ok-add_witness.ensures.stays c.in_ok-add_witness.ensures.basis c.in_ok-add_witness.ensures.steps (ap (λ (x : Tables). x.done) c.in_ok-add_witness.ensures.tables))
    (advances-grown c.add_witness.new.core c.offer_new.new.core c.in_ok-offer_new.ensures.stays c.in_ok-offer_new.ensures.basis (ap (λ (x : Tables). x.steps) made) (ap (λ (x : Tables). x.done) made))
