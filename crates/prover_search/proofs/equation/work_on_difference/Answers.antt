use Rattle.std.proofs.Common.{◌≡◌, ◌<◌, ◌-◌, ◌^◌, suc, false, length, sym, ap, subst}
use Rattle.stt_core.specs.SimpleType.{base}
use Rattle.stt_core.specs.Lambda.{eq}
use Rattle.tableau_calculus.specs.Literals.{Literal, minus}
use Rattle.term_bank.specs.Terms.{term_at}
use Rattle.literal_map.specs.Atoms.{bank_literal}
use Rattle.prover_state.specs.declared.tables.Basis.{Basis}
use Rattle.prover_state.specs.declared.tables.Tables.{Tables}
use Rattle.prover_state.specs.Internal.Names.{IsNumberIn, IsPlace}
use Rattle.prover_search.proofs.AdvanceLaws.{advances-still, alone-then}
use Rattle.prover_search.proofs.MadeStays.{number-wider}
use Rattle.prover_search.proofs.ShapedLaws.{base-equation, base-equated, base-sides}
use Rattle.prover_search.proofs.WorkLaws.{literal-is, difference-is, difference-equation}
use Rattle.prover_search.proofs.equation.work_on_difference.Goals as goal

pub sides_of-sides-requires-clause-equation : goal.sides_of-sides-requires-clause-equation
sides_of-sides-requires-clause-equation g c = let basis = c.args.core.now.tables.basis in base-equated (bank_literal basis.bank.terms basis.lits c.args.lit).atom c.args.n c.requires.shape

pub decompose-requires-clause-number : goal.decompose-requires-clause-number
decompose-requires-clause-number g c =
    let core = c.args.core.now in
    let t = core.tables in
    let one = c.add_terms.new.core in
    let basis : one.tables.basis ≡ t.basis = ap (λ (x : Tables). x.basis) c.in_ok-add_terms.ensures.tables in
    let P : Basis → Type 0 = λ x. IsNumberIn x.lits c.args.lit in
    subst P (sym basis) c.requires.number

pub decompose-requires-clause-ready : goal.decompose-requires-clause-ready
decompose-requires-clause-ready g c =
    let core = c.args.core.now in
    let t = core.tables in
    let one = c.add_terms.new.core in
    let basis : one.tables.basis ≡ t.basis = ap (λ (x : Tables). x.basis) c.in_ok-add_terms.ensures.tables in
    let P : Basis → Type 0 = λ x. length x.witnesses < 2 ^ 32 - 1 in
    record { right = c.in_ok-add_terms.ensures.stays.right; few = subst P (sym basis) c.requires.ready.few }

pub decompose-requires-clause-left_place : goal.decompose-requires-clause-left_place
decompose-requires-clause-left_place g c =
    let core = c.args.core.now in
    let t = core.tables in
    let one = c.add_terms.new.core in
    let basis : one.tables.basis ≡ t.basis = ap (λ (x : Tables). x.basis) c.in_ok-add_terms.ensures.tables in
    let P : Basis → Type 0 = λ x. IsPlace x.bank.terms c.sides_of-sides.result.left in
    subst P (sym basis) c.sides_of-sides.ensures.left

pub decompose-requires-clause-right_place : goal.decompose-requires-clause-right_place
decompose-requires-clause-right_place g c =
    let core = c.args.core.now in
    let t = core.tables in
    let one = c.add_terms.new.core in
    let basis : one.tables.basis ≡ t.basis = ap (λ (x : Tables). x.basis) c.in_ok-add_terms.ensures.tables in
    let P : Basis → Type 0 = λ x. IsPlace x.bank.terms c.sides_of-sides.result.right in
    subst P (sym basis) c.sides_of-sides.ensures.right

pub decompose-requires-clause-denies : goal.decompose-requires-clause-denies
decompose-requires-clause-denies g c =
    let core = c.args.core.now in
    let t = core.tables in
    let one = c.add_terms.new.core in
    let basis : one.tables.basis ≡ t.basis = ap (λ (x : Tables). x.basis) c.in_ok-add_terms.ensures.tables in
    let l : Literal = bank_literal t.basis.bank.terms t.basis.lits c.args.lit in
    let i = c.sides_of-sides.result.left in
    let j = c.sides_of-sides.result.right in
    let k = base-sides l.atom c.args.n (term_at t.basis.bank.terms i) (term_at t.basis.bank.terms j) c.requires.shape c.sides_of-sides.ensures.equation in
    let D : Basis → Type 0 = λ x. bank_literal x.bank.terms x.lits c.args.lit ≡ minus (eq (base (suc k.0)) (term_at x.bank.terms i) (term_at x.bank.terms j)) in
    (k.0, subst D (sym basis) (literal-is l false (eq (base (suc k.0)) (term_at t.basis.bank.terms i) (term_at t.basis.bank.terms j)) c.requires.negative k.2))

pub push_confrontations-requires-clause-number : goal.push_confrontations-requires-clause-number
push_confrontations-requires-clause-number g c =
    let core = c.args.core.now in
    let t = core.tables in
    let one = c.add_terms.new.core in
    let two = c.decompose.new.core in
    let basis : one.tables.basis ≡ t.basis = ap (λ (x : Tables). x.basis) c.in_ok-add_terms.ensures.tables in
    let P : Basis → Type 0 = λ x. IsNumberIn x.lits c.args.lit in
    number-wider one.tables.basis two.tables.basis c.in_ok-add_terms.ensures.stays.right.basis c.in_ok-decompose.ensures.advances.develops.basis c.args.lit (subst P (sym basis) c.requires.number)

pub push_confrontations-requires-clause-equation : goal.push_confrontations-requires-clause-equation
push_confrontations-requires-clause-equation g c =
    let core = c.args.core.now in
    let t = core.tables in
    let one = c.add_terms.new.core in
    let two = c.decompose.new.core in
    let basis : one.tables.basis ≡ t.basis = ap (λ (x : Tables). x.basis) c.in_ok-add_terms.ensures.tables in
    difference-equation t.basis one.tables.basis two.tables.basis c.args.lit c.requires.ready.right.basis c.requires.number basis c.in_ok-decompose.ensures.advances.develops.basis (base-equation (bank_literal t.basis.bank.terms t.basis.lits c.args.lit).atom c.args.n c.requires.shape)

pub returns-clause-state : goal.returns-clause-state
returns-clause-state g c =
    let core = c.args.core.now in
    let t = core.tables in
    let one = c.add_terms.new.core in
    let two = c.decompose.new.core in
    let basis : one.tables.basis ≡ t.basis = ap (λ (x : Tables). x.basis) c.in_ok-add_terms.ensures.tables in
    let three = c.push_confrontations.new.self in
    let l : Literal = bank_literal t.basis.bank.terms t.basis.lits c.args.lit in
    let i = c.sides_of-sides.result.left in
    let j = c.sides_of-sides.result.right in
    let x = term_at t.basis.bank.terms i in
    let y = term_at t.basis.bank.terms j in
    let k = base-sides l.atom c.args.n x y c.requires.shape c.sides_of-sides.ensures.equation in
    difference-is t one.tables two.tables three.tables core.plan one.plan two.plan three.plan c.args.lit
    c.requires.ready.right.basis c.requires.number basis c.in_ok-decompose.ensures.advances.develops.basis c.in_ok-add_terms.ensures.stays.rule c.in_ok-decompose.ensures.advances.rule
    c.args.n k.0 i j k.1 (literal-is l false (eq (base (suc k.0)) x y) c.requires.negative k.2) c.requires.differs
    c.in_ok-add_terms.ensures.state c.in_ok-decompose.ensures.state c.in_ok-push_confrontations.ensures.state

pub returns-clause-advances : goal.returns-clause-advances
returns-clause-advances g c =
    let core = c.args.core.now in
    let one = c.add_terms.new.core in
    let two = c.decompose.new.core in
    let three = c.push_confrontations.new.self in
    let made = c.in_ok-add_terms.ensures.tables in
    let last = c.push_confrontations.ensures.tables in
    alone-then core one three
    (advances-still core one c.in_ok-add_terms.ensures.stays (ap (λ (x : Tables). x.basis) made) (ap (λ (x : Tables). x.steps) made) (ap (λ (x : Tables). x.done) made))
    (alone-then one two three c.in_ok-decompose.ensures.advances
    (advances-still two three c.in_ok-push_confrontations.ensures.stays (ap (λ (x : Tables). x.basis) last) (ap (λ (x : Tables). x.steps) last) (ap (λ (x : Tables). x.done) last)))
