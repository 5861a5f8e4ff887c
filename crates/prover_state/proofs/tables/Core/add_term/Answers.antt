use Rattle.std.proofs.Common.{◌≡◌, ◌<◌, ℕ, Bool, true, false, not, nat_eq, List, [], ◌∷◌, map, length, get_or, slice_get, drop, refl, sym, ap, subst, ◌∙◌, arith}
use Rattle.std.specs.List.{list_any}
use Rattle.stt_core.specs.View.{the_type}
use Rattle.sat_base.specs.declared.literal.SatLit.{SatLit}
use Rattle.search_spec.specs.State.{Command as Meant, inst, with_commands}
use Rattle.term_bank.specs.Terms.{term_at}
use Rattle.literal_map.specs.Atoms.{bank_literal}
use Rattle.instantiate.specs.Listing.{ids_of}
use Rattle.prover_state.specs.declared.command.Command.TheVariants.{Inst}
use Rattle.prover_state.specs.declared.command.Over.TheVariants.{Universals}
use Rattle.prover_state.specs.Internal.Names.{command_at}
use Rattle.prover_state.specs.Internal.Pending.{loop_over, BeginsWith}
use Rattle.prover_state.specs.Internal.Standing.{without_witnesses, naming_in, sources, the_state}
use Rattle.prover_state.proofs.EachLaws.{each-at}
use Rattle.prover_state.proofs.TermLaws.{was-there, right-term, is-new, noted_at, noted-is, at-first, universals-within, universals-are, universals-loop, universals-begin, universals-length, first-number, pushed-nothing, head-is, no-head}
use Rattle.prover_state.proofs.tables.Core.add_term.Goals as goal

was_there : (b : Bool) → not b ≡ false → b ≡ true
was_there true e = refl
was_there false e = cc

was_new : (b : Bool) → not b ≡ true → b ≡ false
was_new true e = cc
was_new false e = refl

pub returns-then-not-branch-clause-state : goal.returns-then-not-branch-clause-state
returns-then-not-branch-clause-state g c =
    let self = c.args.self.now in
    let a = the_type c.args.ty.now in
    was-there self.tables self.plan c.requires.right a c.args.id c.requires.place c.equal_ids_for_equal_terms.ensures self.plan.rule.mode c.add_term.new.self c.in_ok-add_term.ensures.ok
    (was_there (list_any (nat_eq c.args.id) (ids_of a self.tables.terms)) (sym c.in_ok-add_term.ensures.fresh ∙ c.if-not-branch.true))

pub returns-then-not-branch-clause-stays : goal.returns-then-not-branch-clause-stays
returns-then-not-branch-clause-stays g c =
    let self = c.args.self.now in
    record {
      right = right-term self.tables self.plan c.requires.right (the_type c.args.ty.now) c.args.id c.requires.place c.equal_ids_for_equal_terms.ensures c.add_term.new.self c.in_ok-add_term.ensures.ok;
      rule = refl;
    }

pub returns-then-count-eq0-clause-stays : goal.returns-then-count-eq0-clause-stays
returns-then-count-eq0-clause-stays g c =
    let self = c.args.self.now in
    record {
      right = right-term self.tables self.plan c.requires.right (the_type c.args.ty.now) c.args.id c.requires.place c.equal_ids_for_equal_terms.ensures c.add_term.new.self c.in_ok-add_term.ensures.ok;
      rule = refl;
    }

pub returns-then-count-eq0-clause-state : goal.returns-then-count-eq0-clause-state
returns-then-count-eq0-clause-state g c =
    let self = c.args.self.now in
    let a = the_type c.args.ty.now in
    let u = term_at self.tables.basis.bank.terms c.args.id in
    let after = the_state (record self.tables { terms = c.add_term.new.self }) self.plan in
    let mode = self.plan.rule.mode in
    let none : ids_of a self.tables.universals ≡ [] = sym c.terms_of-universals.ensures ∙ no-head c.terms_of-universals.result.now (omega (arith, c.if-count-eq0.true)) in
    sym (pushed-nothing mode after)
    ∙ ap (λ (vs : List ℕ). with_commands mode (map (λ l. inst l u) (map (bank_literal self.tables.basis.bank.terms self.tables.basis.lits) (map (noted_at self.tables self.plan c.requires.right a) vs))) after) (sym none)
    ∙ ap (λ ls. with_commands mode (map (λ l. inst l u) ls) after) (sym (universals-are self.tables self.plan c.requires.right a))
    ∙ is-new self.tables self.plan c.requires.right a c.args.id c.requires.place c.equal_ids_for_equal_terms.ensures mode c.add_term.new.self c.in_ok-add_term.ensures.ok
    (was_new (list_any (nat_eq c.args.id) (ids_of a self.tables.terms)) (sym c.in_ok-add_term.ensures.fresh ∙ c.if-not-branch.false))

pub push_whole-requires-clause-right : goal.push_whole-requires-clause-right
push_whole-requires-clause-right g c =
    let self = c.args.self.now in
    right-term self.tables self.plan c.requires.right (the_type c.args.ty.now) c.args.id c.requires.place c.equal_ids_for_equal_terms.ensures c.add_term.new.self c.in_ok-add_term.ensures.ok

pub push_whole-requires-clause-numbers : goal.push_whole-requires-clause-numbers
push_whole-requires-clause-numbers g c =
    let self = c.args.self.now in
    let a = the_type c.args.ty.now in
    let vs = c.terms_of-universals.result.now in
    let ids : ids_of a self.tables.universals ≡ get_or vs 0 0 ∷ drop 1 vs = sym c.terms_of-universals.ensures ∙ head-is vs (omega (arith, c.if-count-eq0.false)) in
    let N : SatLit → Type 0 = λ l. l.var.0 < length self.tables.basis.lits in
    (subst N (sym (noted-is self.tables self.plan c.requires.right a (get_or vs 0 0) c.literal_of.result (ap (λ ls. slice_get ls (get_or vs 0 0)) (sym c.as_slice.ensures.value) ∙ at-first c.as_slice.result.now c.literal_of.result vs c.id_of-place.result c.id_of-place.ensures c.literal_of.ensures))) (first-number self.tables self.plan c.requires.right a (get_or vs 0 0) (drop 1 vs) ids), c.requires.place)

pub push_whole-requires-clause-begins : goal.push_whole-requires-clause-begins
push_whole-requires-clause-begins g c =
    let self = c.args.self.now in
    let t = record self.tables { terms = c.add_term.new.self } in
    let a = the_type c.args.ty.now in
    let vs = c.terms_of-universals.result.now in
    let ids : ids_of a self.tables.universals ≡ get_or vs 0 0 ∷ drop 1 vs = sym c.terms_of-universals.ensures ∙ head-is vs (omega (arith, c.if-count-eq0.false)) in
    let B : SatLit → Type 0 = λ l. let d = command_at (naming_in t) (Inst l c.args.id) in BeginsWith d (loop_over (without_witnesses t.basis.bank) (sources t) Universals d) in
    subst B (sym (noted-is self.tables self.plan c.requires.right a (get_or vs 0 0) c.literal_of.result (ap (λ ls. slice_get ls (get_or vs 0 0)) (sym c.as_slice.ensures.value) ∙ at-first c.as_slice.result.now c.literal_of.result vs c.id_of-place.result c.id_of-place.ensures c.literal_of.ensures)))
    (_, universals-loop self.tables self.plan c.requires.right a (get_or vs 0 0) (drop 1 vs) ids c.args.id ∙ universals-begin self.tables self.plan c.requires.right a (get_or vs 0 0) (drop 1 vs) ids c.args.id)

pub push_whole-requires-clause-count : goal.push_whole-requires-clause-count
push_whole-requires-clause-count g c =
    let self = c.args.self.now in
    let t = record self.tables { terms = c.add_term.new.self } in
    let a = the_type c.args.ty.now in
    let u = term_at self.tables.basis.bank.terms c.args.id in
    let vs = c.terms_of-universals.result.now in
    let ids : ids_of a self.tables.universals ≡ get_or vs 0 0 ∷ drop 1 vs = sym c.terms_of-universals.ensures ∙ head-is vs (omega (arith, c.if-count-eq0.false)) in
    let C : SatLit → Type 0 = λ l. length vs ≡ length (loop_over (without_witnesses t.basis.bank) (sources t) Universals (command_at (naming_in t) (Inst l c.args.id))) in
    subst C (sym (noted-is self.tables self.plan c.requires.right a (get_or vs 0 0) c.literal_of.result (ap (λ ls. slice_get ls (get_or vs 0 0)) (sym c.as_slice.ensures.value) ∙ at-first c.as_slice.result.now c.literal_of.result vs c.id_of-place.result c.id_of-place.ensures c.literal_of.ensures)))
    (ap length c.terms_of-universals.ensures ∙ sym (universals-length self.tables self.plan c.requires.right a u)
    ∙ ap length (sym (universals-loop self.tables self.plan c.requires.right a (get_or vs 0 0) (drop 1 vs) ids c.args.id)))

pub returns-clause-state : goal.returns-clause-state
returns-clause-state g c =
    let self = c.args.self.now in
    let t = record self.tables { terms = c.add_term.new.self } in
    let after = the_state t self.plan in
    let mode = self.plan.rule.mode in
    let a = the_type c.args.ty.now in
    let vs = c.terms_of-universals.result.now in
    let ids : ids_of a self.tables.universals ≡ get_or vs 0 0 ∷ drop 1 vs = sym c.terms_of-universals.ensures ∙ head-is vs (omega (arith, c.if-count-eq0.false)) in
    c.in_ok-push_whole.ensures.state
    ∙ ap (λ (l : SatLit). with_commands mode (loop_over (without_witnesses t.basis.bank) (sources t) Universals (command_at (naming_in t) (Inst l c.args.id))) after) (noted-is self.tables self.plan c.requires.right a (get_or vs 0 0) c.literal_of.result (ap (λ ls. slice_get ls (get_or vs 0 0)) (sym c.as_slice.ensures.value) ∙ at-first c.as_slice.result.now c.literal_of.result vs c.id_of-place.result c.id_of-place.ensures c.literal_of.ensures))
    ∙ ap (λ (cs : List Meant). with_commands mode cs after) (universals-loop self.tables self.plan c.requires.right a (get_or vs 0 0) (drop 1 vs) ids c.args.id)
    ∙ is-new self.tables self.plan c.requires.right a c.args.id c.requires.place c.equal_ids_for_equal_terms.ensures mode c.add_term.new.self c.in_ok-add_term.ensures.ok
    (was_new (list_any (nat_eq c.args.id) (ids_of a self.tables.terms)) (sym c.in_ok-add_term.ensures.fresh ∙ c.if-not-branch.false))

pub literal_of-requires : goal.literal_of-requires
literal_of-requires g c =
    let self = c.args.self.now in
    let a = the_type c.args.ty.now in
    subst (λ (ls : List SatLit). c.id_of-place.result < length ls) (sym c.as_slice.ensures.value)
    (each-at (λ i. i < length self.tables.noted.items) (ids_of a self.tables.universals) 0 c.id_of-place.result (universals-within self.tables self.plan c.requires.right a) (ap (λ (xs : List ℕ). slice_get xs 0) (sym c.terms_of-universals.ensures) ∙ c.id_of-place.ensures))
