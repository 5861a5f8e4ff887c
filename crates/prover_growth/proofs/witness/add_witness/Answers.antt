use Rattle.std.proofs.Common.{◌≡◌, ◌∷◌, [], map, filter, length, refl, sym, ap, subst, ◌∙◌}
use Rattle.stt_core.specs.Lambda.{witness, constant, every}
use Rattle.tableau_calculus.specs.Literals.{Literal, minus}
use Rattle.sat_base.specs.declared.literal.SatLit.{SatLit}
use Rattle.literal_map.specs.Atoms.{bank_literal}
use Rattle.tableau_calculus.specs.Each.{Each}
use Rattle.search_spec.specs.State.{Sketch, grow, with_commands}
use Rattle.search_spec.specs.Witness.{has_hole_of}
use Rattle.command_queue.specs.Queue.{Queue}
use Rattle.tableau_clauses.specs.Table.{Table}
use Rattle.prover_state.specs.declared.command.Planned.{Planned}
use Rattle.prover_state.specs.declared.command.Delays.{Delays}
use Rattle.prover_state.specs.declared.tables.Basis.{Basis}
use Rattle.prover_state.specs.declared.tables.Tables.{Tables}
use Rattle.prover_state.specs.Internal.Growing.{BasisWidens}
use Rattle.prover_state.specs.Internal.Names.{IsNumberIn}
use Rattle.prover_state.specs.Internal.Standing.{rows_in, setting_by, sketches_in, the_state}
use Rattle.prover_state.specs.Internal.Steps.{IsMadeInstance, StepsGrow}
use Rattle.prover_state.proofs.StepLaws.{steps-weaker}
use Rattle.prover_growth.specs.Internal.Denials.{with_row}
use Rattle.prover_growth.proofs.DenialLaws.{denied_row, denies-on, rows-length}
use Rattle.prover_growth.proofs.WidenLaws.{more-numbers}
use Rattle.prover_growth.proofs.WitnessedLaws.{with_denial, denial-added, witnessed-before, witnessed-now, came, came-not}
use Rattle.prover_growth.proofs.witness.add_witness.Goals as goal

pub add_instance-requires-clause-principals : goal.add_instance-requires-clause-principals
add_instance-requires-clause-principals g c =
    let old = c.args.core.now.tables.basis in
    let new = c.deny.new.core.tables.basis in
    subst (Each (IsNumberIn new.lits)) (sym c.in_ok-instance.ensures.principals)
    (more-numbers old new c.in_ok-instance.ensures.widens (c.args.lit ∷ []) (c.requires.number, tt))

pub add_instance-requires-clause-alternatives : goal.add_instance-requires-clause-alternatives
add_instance-requires-clause-alternatives g c = c.in_ok-instance.ensures.made.numbers

pub returns-then-len-before-clause-state : goal.returns-then-len-before-clause-state
returns-then-len-before-clause-state g c = λ a f denies.
    let t = c.args.core.now.tables in
    let q = c.args.core.now.plan in
    let s = the_state t q in
    let r = denied_row a f in
    let t1 = c.deny.new.core.tables in
    let q1 = c.deny.new.core.plan in
    let t2 = c.add_instance.new.self.tables in
    let q2 = c.add_instance.new.self.plan in
    let told = c.in_ok-instance.ensures in
    let i = c.in_ok-instance.instance in
    let d : SatLit → Literal = bank_literal t1.basis.bank.terms t1.basis.lits in
    let on : d c.args.lit ≡ minus (every a f) = denies-on t.basis t1.basis told.widens c.requires.ready.right.basis c.args.lit c.requires.number a f denies in
    let added : the_state t2 q2 ≡ with_denial (setting_by t q) a f s (record s { rows = with_row s.rows r }) =
    denial-added (setting_by t q) a f s (the_state t2 q2) (the_state t1 q1) q1.rule.mode (map d i.principals) (map (map d) i.alternatives) (with_row s.rows r) c.in_ok-add_instance.ensures.state
    (ap (λ (p : Queue Planned Delays). p.rule.mode) told.plan) (ap (map d) told.principals ∙ ap (λ (l : Literal). l ∷ []) on) (told.alternatives a f denies) (told.state a f denies) in
    let basis : t2.basis ≡ t1.basis = ap (λ (x : Tables). x.basis) c.in_ok-add_instance.ensures.tables in
    let size : length (with_row (rows_in t.basis) r) ≡ length t2.basis.witnesses = ap length (sym (told.rows a f denies)) ∙ rows-length t1.basis ∙ ap (λ (h : Basis). length h.witnesses) (sym basis) in
    added ∙ witnessed-before (setting_by t q) a f s (came-not (rows_in t.basis) r (size ∙ sym c.len.ensures ∙ c.if-len-before.true ∙ c.len-before.ensures ∙ sym (rows-length t.basis)))

pub returns-clause-state : goal.returns-clause-state
returns-clause-state g c = λ a f denies.
    let t = c.args.core.now.tables in
    let q = c.args.core.now.plan in
    let s = the_state t q in
    let r = denied_row a f in
    let t1 = c.deny.new.core.tables in
    let q1 = c.deny.new.core.plan in
    let t2 = c.add_instance.new.self.tables in
    let q2 = c.add_instance.new.self.plan in
    let told = c.in_ok-instance.ensures in
    let i = c.in_ok-instance.instance in
    let d : SatLit → Literal = bank_literal t1.basis.bank.terms t1.basis.lits in
    let on : d c.args.lit ≡ minus (every a f) = denies-on t.basis t1.basis told.widens c.requires.ready.right.basis c.args.lit c.requires.number a f denies in
    let added : the_state t2 q2 ≡ with_denial (setting_by t q) a f s (record s { rows = with_row s.rows r }) =
    denial-added (setting_by t q) a f s (the_state t2 q2) (the_state t1 q1) q1.rule.mode (map d i.principals) (map (map d) i.alternatives) (with_row s.rows r) c.in_ok-add_instance.ensures.state
    (ap (λ (p : Queue Planned Delays). p.rule.mode) told.plan) (ap (map d) told.principals ∙ ap (λ (l : Literal). l ∷ []) on) (told.alternatives a f denies) (told.state a f denies) in
    let basis : t2.basis ≡ t1.basis = ap (λ (x : Tables). x.basis) c.in_ok-add_instance.ensures.tables in
    let size : length (with_row (rows_in t.basis) r) ≡ length t2.basis.witnesses = ap length (sym (told.rows a f denies)) ∙ rows-length t1.basis ∙ ap (λ (h : Basis). length h.witnesses) (sym basis) in
    let rule : q2.rule ≡ q.rule = c.in_ok-add_instance.ensures.stays.rule ∙ ap (λ (p : Queue Planned Delays). p.rule) told.plan in
    let more : length (with_row (rows_in t.basis) r) ≡ length (rows_in t.basis) → ⊥ = λ e. c.if-len-before.false (c.len.ensures ∙ sym size ∙ e ∙ rows-length t.basis ∙ sym c.len-before.ensures) in
    c.in_ok-grow_with.ensures.state
    ∙ ap (λ (x : Delays). with_commands x.mode (map (λ (p : Sketch). grow p (constant (witness c.len-before.result))) (filter (has_hole_of c.denied_target-output.result) (sketches_in t2))) (the_state t2 q2)) rule
    ∙ witnessed-now (setting_by t q) a f s (came (rows_in t.basis) r more) (the_state t2 q2) added c.denied_target-output.result c.len-before.result (c.denied_target-output.ensures a f denies) (c.len-before.ensures ∙ sym (rows-length t.basis)) (sketches_in t2) refl

pub returns-then-len-before-clause-basis : goal.returns-then-len-before-clause-basis
returns-then-len-before-clause-basis g c =
    subst (BasisWidens c.args.core.now.tables.basis) (sym (ap (λ (x : Tables). x.basis) c.in_ok-add_instance.ensures.tables)) c.in_ok-instance.ensures.widens

pub returns-clause-basis : goal.returns-clause-basis
returns-clause-basis g c =
    subst (BasisWidens c.args.core.now.tables.basis) (sym (ap (λ (x : Tables). x.basis) c.grow_with.ensures.tables ∙ ap (λ (x : Tables). x.basis) c.in_ok-add_instance.ensures.tables)) c.in_ok-instance.ensures.widens

pub returns-then-len-before-clause-steps : goal.returns-then-len-before-clause-steps
returns-then-len-before-clause-steps g c =
    let t = c.args.core.now.tables in
    let t1 = c.deny.new.core.tables in
    let t2 = c.add_instance.new.self.tables in
    let told = c.in_ok-instance.ensures in
    let i = c.in_ok-instance.instance in
    let made = steps-weaker (λ j. j ≡ i) (IsMadeInstance t1.basis) (λ j e. subst (IsMadeInstance t1.basis) (sym e) told.made) t1.steps t2.steps c.in_ok-add_instance.ensures.steps in
    let from : t1.steps ≡ t.steps = ap (λ (x : Tables). x.steps) told.tables in
    let S : Table → Type 0 = λ x. StepsGrow (IsMadeInstance t1.basis) x t2.steps in
    subst (λ (h : Basis). StepsGrow (IsMadeInstance h) t.steps t2.steps) (sym (ap (λ (x : Tables). x.basis) c.in_ok-add_instance.ensures.tables)) (subst S from made)

pub returns-clause-steps : goal.returns-clause-steps
returns-clause-steps g c =
    let t = c.args.core.now.tables in
    let t1 = c.deny.new.core.tables in
    let t2 = c.add_instance.new.self.tables in
    let told = c.in_ok-instance.ensures in
    let i = c.in_ok-instance.instance in
    let made = steps-weaker (λ j. j ≡ i) (IsMadeInstance t1.basis) (λ j e. subst (IsMadeInstance t1.basis) (sym e) told.made) t1.steps t2.steps c.in_ok-add_instance.ensures.steps in
    let from : t1.steps ≡ t.steps = ap (λ (x : Tables). x.steps) told.tables in
    let S : Table → Type 0 = λ x. StepsGrow (IsMadeInstance t1.basis) x t2.steps in
    subst (λ (x : Tables). StepsGrow (IsMadeInstance x.basis) t.steps x.steps) (sym c.grow_with.ensures.tables)
    (subst (λ (h : Basis). StepsGrow (IsMadeInstance h) t.steps t2.steps) (sym (ap (λ (x : Tables). x.basis) c.in_ok-add_instance.ensures.tables)) (subst S from made))

pub returns-then-len-before-clause-rows : goal.returns-then-len-before-clause-rows
returns-then-len-before-clause-rows g c = λ a f denies.
    ap (λ (x : Tables). rows_in x.basis) c.in_ok-add_instance.ensures.tables ∙ c.in_ok-instance.ensures.rows a f denies

pub returns-clause-rows : goal.returns-clause-rows
returns-clause-rows g c = λ a f denies.
    ap (λ (x : Tables). rows_in x.basis) c.grow_with.ensures.tables ∙ ap (λ (x : Tables). rows_in x.basis) c.in_ok-add_instance.ensures.tables ∙ c.in_ok-instance.ensures.rows a f denies
