use Rattle.std.proofs.Common.{◌≡◌, [], ◌∷◌, ◌++◌, if◌then◌else◌, sym, ap, subst, ◌∙◌}
use Rattle.mating_rules.specs.Noted.{IsRightIndex}
use Rattle.prover_state.specs.declared.tables.Tables.{Tables}
use Rattle.prover_state.specs.Internal.Standing.{can_pair, the_state, IsRightState}
use Rattle.prover_state.proofs.NotingLaws.{universal-places, noted-chain, state-noted, right-noted}
use Rattle.prover_state.proofs.tables.Core.note_literal.Goals as goal

pub list_universal-requires-clause-places : goal.list_universal-requires-clause-places
list_universal-requires-clause-places g c = universal-places c.args.self.now.tables c.args.self.now.plan c.requires.right c.args.lit c.requires.number

pub returns-clause-state : goal.returns-clause-state
returns-clause-state g c =
    let t = c.args.self.now.tables in
    let q = c.args.self.now.plan in
    let t1 = c.list_universal.new.self in
    let t2 = c.index_literal.new.self in
    let e1 = c.list_universal.ensures.tables in
    let e2 = c.index_literal.ensures.tables in
    let noted = c.in_ok-push.ensures.items ∙ ap (λ (u : Tables). u.noted.items ++ c.args.lit ∷ []) (e2 ∙ ap (λ (u : Tables). record u { index = t2.index }) e1) in
    ap (λ u. the_state u q) (noted-chain t q c.requires.right c.args.lit c.requires.number c.push.new.self noted t2.index t1.universals t1 t2 e1 e2)
    ∙ state-noted t q c.requires.right c.args.lit c.requires.number c.push.new.self noted t2.index t1.universals

pub returns-clause-right : goal.returns-clause-right
returns-clause-right g c =
    let t = c.args.self.now.tables in
    let q = c.args.self.now.plan in
    let t1 = c.list_universal.new.self in
    let t2 = c.index_literal.new.self in
    let e1 = c.list_universal.ensures.tables in
    let e2 = c.index_literal.ensures.tables in
    let noted = c.in_ok-push.ensures.items ∙ ap (λ (u : Tables). u.noted.items ++ c.args.lit ∷ []) (e2 ∙ ap (λ (u : Tables). record u { index = t2.index }) e1) in
    let Pairs : Tables → Type 0 = λ u. t2.index.noted ≡ (if can_pair u.basis.bank.terms u.basis.lits c.args.lit then u.index.noted ++ c.args.lit ∷ [] else u.index.noted) in
    let Good : Tables → Type 0 = λ u. IsRightIndex u.basis.bank.terms u.basis.lits t2.index in
    let R : Tables → Type 0 = λ u. IsRightState u q in
    subst R (sym (noted-chain t q c.requires.right c.args.lit c.requires.number c.push.new.self noted t2.index t1.universals t1 t2 e1 e2))
    (right-noted t q c.requires.right c.args.lit c.requires.number c.push.new.self noted t2.index t1.universals
    (subst Pairs e1 c.in_ok-index_literal.ensures.noted) (subst Good e1 c.in_ok-index_literal.ensures.index) c.in_ok-list_universal.ensures.listed)
