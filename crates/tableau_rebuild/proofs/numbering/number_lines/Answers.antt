use Rattle.std.proofs.Common.{◌≡◌, ◌+◌, suc, [], ◌∷◌, length, slice_index_or, slice_set, ap, subst, ◌∙◌, length-append, arith}
use Rattle.std.proofs.lemmas.List.{length-set}
use Rattle.std.proofs.lemmas.Option.{slice_get-get_or, slice_get_within}
use Rattle.tableau_rebuild.proofs.NumberLaws.{AreFirst, none_first, first_more, listed_once}
use Rattle.tableau_rebuild.proofs.numbering.number_lines.Goals as goal

pub loop-draft-init : goal.loop-draft-init
loop-draft-init c = ap length c.new-numbers.ensures.items

pub loop-draft-preserved : goal.loop-draft-preserved
loop-draft-preserved c =
    let count = c.loop-draft.invariant in
    ap length c.in_ok-push.ensures.items ∙ length-append c.loop-draft.numbers.items (0 ∷ []) ∙ ap (λ n. n + 1) count

pub loop-k-init : goal.loop-k-init
loop-k-init c =
    let count = c.loop-draft.invariant in
    let below = c.loop-draft-test.false in
    let above = c.loop-draft.auto._draft-index-end in
    record { count = omega (arith, count, below, above); first = none_first c.args.order.now c.loop-draft.numbers.items }

pub index_mut-requires : goal.index_mut-requires
index_mut-requires c =
    let k = c.loop-k.k in
    let within = c.loop-k-test.true in
    let inside = c.requires.inside k (slice_index_or c.args.order.now k 0) (slice_get-get_or c.args.order.now k 0 (omega (arith, within))) in
    let ok = c.loop-k.numbers.ok in
    let count = c.loop-k.invariant.count in
    omega (arith, inside, count, ok)

pub loop-k-preserved : goal.loop-k-preserved
loop-k-preserved c =
    let order = c.args.order.now in
    let numbers = c.loop-k.numbers.items in
    let k = c.loop-k.k in
    let i = slice_index_or order k 0 in
    let within = c.loop-k-test.true in
    let at = slice_get-get_or order k 0 (omega (arith, within)) in
    let inside = c.requires.inside k i at in
    let count = c.loop-k.invariant.count in
    let next : suc k ≡ k + 1 = omega arith in
    record {
      count = length-set numbers i k ∙ count;
      first =
          subst (AreFirst order (slice_set numbers i k)) next
          (first_more order numbers k i at (omega (arith, inside, count)) (listed_once c.args.drafts.now c.requires.right c.args.last c.requires.last order c.requires.walked) c.loop-k.invariant.first);
    }

pub returns-clause-count : goal.returns-clause-count
returns-clause-count c = c.loop-k.invariant.count

pub returns-clause-numbers : goal.returns-clause-numbers
returns-clause-numbers c = λ k i h.
    let within = slice_get_within c.args.order.now k i h in
    let below = c.loop-k-test.false in
    c.loop-k.invariant.first k i (omega (arith, within, below)) h
