use Rattle.std.proofs.Common.{◌≡◌, ◌≤◌, ◌-◌, true, ℕ, List, [], length, take, slice_get, Some, sym, ap, ap₂, ◌∙◌, arith}
use Rattle.stt_core.specs.Lambda.{bound}
use Rattle.tableau_calculus.specs.Witnesses.{with_rows}
use Rattle.search_spec.specs.Heads.{heads_for}
use Rattle.search_spec.specs.Partial.{first_hole}
use Rattle.prover_state.specs.Internal.Fitting.{variables_for, names_for, chooses_for, later_heads}
use Rattle.prover_state.specs.Internal.Heads.{the_hole_head}
use Rattle.prover_state.specs.Internal.Holes.{holes_in}
use Rattle.prover_state.specs.Internal.Names.{sketch_at}
use Rattle.head_offers.specs.Offering.{the_offers}
use Rattle.prover_state.specs.Internal.Pending.{base_of}
use Rattle.prover_state.specs.Internal.Standing.{without_witnesses, rows_in, sketches_in}
use Rattle.prover_state.proofs.HoleLaws.{leftmost-first, holes-at, base-at}
use Rattle.prover_state.proofs.FittingLaws.{heads-list, variable-at, name-at, later-within, later-longer, later-same, later-at}
use Rattle.prover_state.proofs.tables.Tables.fitting_head.Goals as goal

pub variable-requires-clause-within : goal.variable-requires-clause-within
variable-requires-clause-within c = λ holes at.
    let e = c.count_variables-variables.ensures holes at in
    omega (arith, e, c.if-place-variables.true)

pub returns-then-place-variables : goal.returns-then-place-variables
returns-then-place-variables c =
    let t = c.args.self.now in
    let q = c.requires.right.0 in
    let r = c.requires.right.1 in
    let o = first_hole [] (sketch_at (sketches_in t) c.args.p).partial in
    let scope = with_rows (without_witnesses t.basis.bank) (take c.args.witnesses (rows_in t.basis)) in
    let vs = variables_for o in
    let offers = the_offers t.offers in
    let chooses = chooses_for offers scope o in
    let ns = names_for offers scope (base_of o) in
    let count : c.count_variables-variables.result ≡ length vs = c.count_variables-variables.ensures (holes_in [] (sketch_at (sketches_in t) c.args.p).partial) (holes-at t q r c.args.p c.requires.number) ∙ ap (λ x. length (variables_for x)) (leftmost-first [] (sketch_at (sketches_in t) c.args.p).partial) in
    let are = heads-list offers scope o c.args.place c.requires.within in
    variable-at vs ns (later_heads offers scope (base_of o) chooses) (heads_for offers scope o) are c.args.place c.variable.result
    (ap (λ x. slice_get (variables_for x) c.args.place) (sym (leftmost-first [] (sketch_at (sketches_in t) c.args.p).partial)) ∙ c.variable.ensures (holes_in [] (sketch_at (sketches_in t) c.args.p).partial) (holes-at t q r c.args.p c.requires.number))
    ∙ ap (λ k. Some (bound k)) (sym c.in_ok-small.ensures)

pub returns-then-behind-names : goal.returns-then-behind-names
returns-then-behind-names c =
    let t = c.args.self.now in
    let q = c.requires.right.0 in
    let r = c.requires.right.1 in
    let o = first_hole [] (sketch_at (sketches_in t) c.args.p).partial in
    let scope = with_rows (without_witnesses t.basis.bank) (take c.args.witnesses (rows_in t.basis)) in
    let vs = variables_for o in
    let offers = the_offers t.offers in
    let chooses = chooses_for offers scope o in
    let ns = names_for offers scope (base_of o) in
    let count : c.count_variables-variables.result ≡ length vs = c.count_variables-variables.ensures (holes_in [] (sketch_at (sketches_in t) c.args.p).partial) (holes-at t q r c.args.p c.requires.number) ∙ ap (λ x. length (variables_for x)) (leftmost-first [] (sketch_at (sketches_in t) c.args.p).partial) in
    let are = heads-list offers scope o c.args.place c.requires.within in
    let same = base-at t q r c.args.p c.requires.number c.base-base.result c.base-base.ensures in
    let names : c.terms_of-names.result.now ≡ ns = c.terms_of-names.ensures ∙ r.offered.names c.base-base.result ∙ ap (names_for offers scope) same in
    let passed : length vs ≤ c.args.place = omega (arith, c.if-place-variables.false, count) in
    let named = ap length names in
    name-at vs ns (later_heads offers scope (base_of o) chooses) (heads_for offers scope o) are c.args.place c.id_of.result passed
    (ap₂ (λ (xs : List ℕ) n. slice_get xs (c.args.place - n)) (sym names) (sym count) ∙ c.id_of.ensures)

pub later_head-requires-clause-within : goal.later_head-requires-clause-within
later_head-requires-clause-within c =
    let t = c.args.self.now in
    let q = c.requires.right.0 in
    let r = c.requires.right.1 in
    let o = first_hole [] (sketch_at (sketches_in t) c.args.p).partial in
    let scope = with_rows (without_witnesses t.basis.bank) (take c.args.witnesses (rows_in t.basis)) in
    let vs = variables_for o in
    let offers = the_offers t.offers in
    let chooses = chooses_for offers scope o in
    let ns = names_for offers scope (base_of o) in
    let count : c.count_variables-variables.result ≡ length vs = c.count_variables-variables.ensures (holes_in [] (sketch_at (sketches_in t) c.args.p).partial) (holes-at t q r c.args.p c.requires.number) ∙ ap (λ x. length (variables_for x)) (leftmost-first [] (sketch_at (sketches_in t) c.args.p).partial) in
    let are = heads-list offers scope o c.args.place c.requires.within in
    let same = base-at t q r c.args.p c.requires.number c.base-base.result c.base-base.ensures in
    let names : c.terms_of-names.result.now ≡ ns = c.terms_of-names.ensures ∙ r.offered.names c.base-base.result ∙ ap (names_for offers scope) same in
    let passed : length vs ≤ c.args.place = omega (arith, c.if-place-variables.false, count) in
    let named = ap length names in
    let within = later-within vs ns (later_heads offers scope (base_of o) chooses) (heads_for offers scope o) are c.args.place c.requires.within passed (omega (arith, c.if-behind-names.false, count, named)) in
    let longer = later-longer offers scope (base_of o) chooses in
    let size = ap (λ b. length (later_heads offers scope b true)) same in
    omega (arith, within, count, named, longer, size)

pub returns : goal.returns
returns c =
    let t = c.args.self.now in
    let q = c.requires.right.0 in
    let r = c.requires.right.1 in
    let o = first_hole [] (sketch_at (sketches_in t) c.args.p).partial in
    let scope = with_rows (without_witnesses t.basis.bank) (take c.args.witnesses (rows_in t.basis)) in
    let vs = variables_for o in
    let offers = the_offers t.offers in
    let chooses = chooses_for offers scope o in
    let ns = names_for offers scope (base_of o) in
    let count : c.count_variables-variables.result ≡ length vs = c.count_variables-variables.ensures (holes_in [] (sketch_at (sketches_in t) c.args.p).partial) (holes-at t q r c.args.p c.requires.number) ∙ ap (λ x. length (variables_for x)) (leftmost-first [] (sketch_at (sketches_in t) c.args.p).partial) in
    let are = heads-list offers scope o c.args.place c.requires.within in
    let same = base-at t q r c.args.p c.requires.number c.base-base.result c.base-base.ensures in
    let names : c.terms_of-names.result.now ≡ ns = c.terms_of-names.ensures ∙ r.offered.names c.base-base.result ∙ ap (names_for offers scope) same in
    let passed : length vs ≤ c.args.place = omega (arith, c.if-place-variables.false, count) in
    let named = ap length names in
    let place = c.args.place - length vs - length ns in
    let behind : length ns ≤ c.args.place - length vs = omega (arith, c.if-behind-names.false, count, named) in
    let within = later-within vs ns (later_heads offers scope (base_of o) chooses) (heads_for offers scope o) are c.args.place c.requires.within passed behind in
    let at = ap (λ b. slice_get (later_heads offers scope b true) (c.args.place - c.count_variables-variables.result - length c.terms_of-names.result.now)) (sym same) ∙ c.later_head.ensures in
    later-at vs ns (later_heads offers scope (base_of o) chooses) (heads_for offers scope o) are c.args.place (the_hole_head c.later_head.result) passed behind
    (later-same offers scope (base_of o) chooses place within ∙ ap₂ (λ m n. slice_get (later_heads offers scope (base_of o) true) (c.args.place - m - n)) (sym count) (sym named) ∙ at)
