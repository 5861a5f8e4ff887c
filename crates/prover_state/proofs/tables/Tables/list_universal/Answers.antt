use Rattle.std.proofs.Common.{◌≡◌, Bool, true, false, not, [], ◌∷◌, ◌++◌, length, vec_len, arith, Some, None, if◌then◌else◌, refl, sym, ap, ◌∙◌}
use Rattle.std.proofs.lemmas.Option.{get_or_from_slice_get}
use Rattle.stt_core.specs.View.{the_type}
use Rattle.term_bank.specs.Terms.{term_at}
use Rattle.instantiate.specs.Listing.{ids_of, with_listed}
use Rattle.prover_state.specs.Internal.Shapes.{quantified_type}
use Rattle.prover_state.proofs.NotingLaws.{listed-last, universal-by}
use Rattle.prover_state.proofs.tables.Tables.list_universal.Goals as goal

positive : (b : Bool) → not b ≡ false → b ≡ true
positive true e = refl
positive false e = cc

pub returns-in_ok-add_term-in-Some-clause-listed : goal.returns-in_ok-add_term-in-Some-clause-listed
returns-in_ok-add_term-in-Some-clause-listed c = λ a.
    let t = c.args.self.now in
    let b = the_type c.in-Some.ty.now in
    let last = length t.noted.items in
    let atom = get_or_from_slice_get t.basis.lits c.args.lit.var.0 c.formula_of-atom.result 0 c.formula_of-atom.ensures in
    listed-last a b last t.universals c.add_term.new.self (c.in_ok-add_term-in-Some.ensures.ok ∙ ap (λ i. with_listed b i t.universals) (c.in_ok-place-in-Some.ensures ∙ c.len.ensures ∙ (let n : vec_len t.noted ≡ last = omega (arith, t.noted.ok.0) in n))) (c.requires.places b)
    ∙ ap (λ (x : Bool). if x then ids_of a t.universals ++ last ∷ [] else ids_of a t.universals)
    (sym (universal-by t a c.args.lit (Some b) (positive c.args.lit.positive c.if-not-lit.false) (c.in-Some.ensures ∙ ap (λ i. quantified_type (term_at t.basis.bank.terms i)) (sym atom))))

pub returns-in-None-clause-listed : goal.returns-in-None-clause-listed
returns-in-None-clause-listed c = λ a.
    let t = c.args.self.now in
    let last = length t.noted.items in
    let atom = get_or_from_slice_get t.basis.lits c.args.lit.var.0 c.formula_of-atom.result 0 c.formula_of-atom.ensures in
    sym
    (ap (λ (x : Bool). if x then ids_of a t.universals ++ last ∷ [] else ids_of a t.universals)
    (universal-by t a c.args.lit None (positive c.args.lit.positive c.if-not-lit.false) (c.in-None.ensures ∙ ap (λ i. quantified_type (term_at t.basis.bank.terms i)) (sym atom))))
