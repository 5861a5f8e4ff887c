use Rattle.std.proofs.Common.{length, sym, subst}
use Rattle.std.proofs.lemmas.List.Filters.{dedup_is}
use Rattle.std.proofs.lemmas.List.Kept.{Contains-dedup_nat, Contains-from_dedup}
use Rattle.std.proofs.lemmas.List.Sorted.{Contains-permutation, IsPermutation-sym}
use Rattle.std.proofs.lemmas.Map.Keys.{IsStrictlyIncreasing-dedup}
use Rattle.tableau_rebuild.specs.Internal.Flags.{HasFlaggedOrigin}
use Rattle.tableau_rebuild.proofs.FlagLaws.{origin_used, used_origin}
use Rattle.tableau_rebuild.proofs.reached.used.Goals as goal

pub returns-clause-increasing : goal.returns-clause-increasing
returns-clause-increasing c =
    let is = dedup_is _ _ _ c.dedup.ensures.filtered in
    rw is (IsStrictlyIncreasing-dedup _ c.in_ok-sort.ensures.sorted)

pub returns-clause-used : goal.returns-clause-used
returns-clause-used c = λ k.
    let t = c.args.steps.now in
    let log = c.args.log.now in
    let reached = c.in_ok-reached.reached in
    let flags = c.in_ok-reached.ensures in
    let is = dedup_is _ _ _ c.dedup.ensures.filtered in
    let moved = c.sort.ensures.permutation in
    let clauses = c.deref.ensures.value in
    let found = c.in_ok-numbers.ensures k in (
      λ h.
          let there = Contains-permutation _ _ k (IsPermutation-sym _ _ moved) (Contains-from_dedup _ _ k (rw is at h)) in
          origin_used t log reached flags (length c.deref.result.now) k (subst (λ xs. HasFlaggedOrigin t xs (length c.deref.result.now) k) clauses (found.0 there)),
      λ h.
          let there = subst (λ xs. HasFlaggedOrigin t xs (length xs) k) (sym clauses) (used_origin t log reached flags k h) in
          rw is (Contains-dedup_nat _ k (Contains-permutation _ _ k moved (found.1 there))),
    )
