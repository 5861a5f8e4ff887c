use Rattle.std.proofs.Common.{◌≡◌, ◌<◌, ◌-◌, ltb, rules, ℕ, List, length, map, slice_get, sym, ap, subst, ◌∙◌, arith}
use Rattle.std.specs.List.Sorted.{IsNonDecreasingBy}
use Rattle.std.proofs.lemmas.List.Sorted.{IsPartitionedBy-ltb, IsPartitionPoint-from_clause}
use Rattle.stt_core.specs.SimpleType.{base}
use Rattle.tableau_calculus.specs.Witnesses.{Row}
use Rattle.prover_state.specs.Internal.Fitting.{logical_for, SplitsAt}
use Rattle.prover_state.specs.Internal.Heads.{the_hole_head}
use Rattle.prover_state.specs.Internal.Standing.{rows_in}
use Rattle.prover_state.proofs.AscendingLaws.{places-ascend, splits-from}
use Rattle.prover_state.proofs.FittingLaws.{witness-there, logical-below, logical-there}
use Rattle.prover_state.proofs.tables.Tables.later_head.Goals as goal

pub returns-then-place-count : goal.returns-then-place-count
returns-then-place-count c =
    let t = c.args.self.now in
    let takers = c.terms_of-takers.result.now in
    let k = c.partition_point-count.result in
    let ascend = subst (IsNonDecreasingBy (λ i. i)) (sym (c.terms_of-takers.ensures ∙ c.requires.right.1.takers c.args.base)) (places-ascend c.args.base 0 (map (λ (x : Row). x.type) (rows_in t.basis))) in
    let below = IsPartitionPoint-from_clause (λ y. ltb y c.args.witnesses) takers k c.partition_point-count.ensures.partitioned (IsPartitionedBy-ltb (λ i. i) takers c.args.witnesses ascend) (λ a r f' k. search rules) in
    let splits = splits-from c.args.witnesses takers k c.partition_point-count.ensures.bound below in
    let S : List ℕ → Type 0 = λ xs. SplitsAt c.args.witnesses xs k in
    witness-there t c.requires.right.0 c.requires.right.1 c.args.base c.args.witnesses c.requires.few k (subst S c.terms_of-takers.ensures splits) c.args.place c.id_of.result c.if-place-count.true
    (ap (λ (xs : List ℕ). slice_get xs c.args.place) (sym c.terms_of-takers.ensures) ∙ c.id_of.ensures)

pub logical_head-requires : goal.logical_head-requires
logical_head-requires c =
    let t = c.args.self.now in
    let takers = c.terms_of-takers.result.now in
    let k = c.partition_point-count.result in
    let ascend = subst (IsNonDecreasingBy (λ i. i)) (sym (c.terms_of-takers.ensures ∙ c.requires.right.1.takers c.args.base)) (places-ascend c.args.base 0 (map (λ (x : Row). x.type) (rows_in t.basis))) in
    let below = IsPartitionPoint-from_clause (λ y. ltb y c.args.witnesses) takers k c.partition_point-count.ensures.partitioned (IsPartitionedBy-ltb (λ i. i) takers c.args.witnesses ascend) (λ a r f' k. search rules) in
    let splits = splits-from c.args.witnesses takers k c.partition_point-count.ensures.bound below in
    let S : List ℕ → Type 0 = λ xs. SplitsAt c.args.witnesses xs k in
    subst (λ (bs : List ℕ). c.args.place - k < length (logical_for (map base bs) c.args.base)) (sym c.as_slice.ensures.value)
    (logical-below t c.requires.right.0 c.requires.right.1 c.args.base c.args.witnesses c.requires.few k (subst S c.terms_of-takers.ensures splits) c.args.place (omega (arith, c.if-place-count.false)) c.requires.within)

pub returns : goal.returns
returns c =
    let t = c.args.self.now in
    let takers = c.terms_of-takers.result.now in
    let k = c.partition_point-count.result in
    let ascend = subst (IsNonDecreasingBy (λ i. i)) (sym (c.terms_of-takers.ensures ∙ c.requires.right.1.takers c.args.base)) (places-ascend c.args.base 0 (map (λ (x : Row). x.type) (rows_in t.basis))) in
    let below = IsPartitionPoint-from_clause (λ y. ltb y c.args.witnesses) takers k c.partition_point-count.ensures.partitioned (IsPartitionedBy-ltb (λ i. i) takers c.args.witnesses ascend) (λ a r f' k. search rules) in
    let splits = splits-from c.args.witnesses takers k c.partition_point-count.ensures.bound below in
    let S : List ℕ → Type 0 = λ xs. SplitsAt c.args.witnesses xs k in
    logical-there t c.requires.right.0 c.requires.right.1 c.args.base c.args.witnesses c.requires.few k (subst S c.terms_of-takers.ensures splits) c.args.place (the_hole_head c.logical_head.result) (omega (arith, c.if-place-count.false))
    (ap (λ (bs : List ℕ). slice_get (logical_for (map base bs) c.args.base) (c.args.place - k)) (sym c.as_slice.ensures.value) ∙ c.logical_head.ensures)
