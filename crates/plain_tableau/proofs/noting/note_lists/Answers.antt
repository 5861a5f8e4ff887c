use Rattle.std.proofs.Common.{◌≡◌, ◌<◌, ◌≤◌, ◌+◌, ◌||◌, ℕ, length, take, slice_index_or, sym, subst, ap, ◌∙◌, arith}
use Rattle.std.specs.List.{list_any}
use Rattle.std.proofs.lemmas.List.{take_all}
use Rattle.sat_base.specs.Literal.{mentions_variable}
use Rattle.plain_tableau.specs.Internal.Due.{IsNotedMore}
use Rattle.plain_tableau.proofs.NotedLaws.{noted_for, noted_again, some_mention_more}
use Rattle.plain_tableau.proofs.noting.note_lists.Goals as goal

pub note_literals-requires : goal.note_literals-requires
note_literals-requires c = λ k d h.
    let lists = c.args.lists.now in
    let same : c.as_slice.result.now ≡ slice_index_or lists c.loop-i.i c.index-lists-i.result = c.as_slice.ensures ∙ c.index-lists-i.is in
    let each = c.requires c.loop-i.i c.index-lists-i.result c.loop-i-test.true in
    subst (λ n. (slice_index_or c.as_slice.result.now k d).var.0 < n) (sym c.loop-i.invariant.count) (subst (λ xs. (slice_index_or xs k d).var.0 < length c.args.noted.now.items) (sym same) (each k d (subst (λ xs. k < length xs) same h)))

pub loop-i-preserved : goal.loop-i-preserved
loop-i-preserved c =
    let lists = c.args.lists.now in
    let i = c.loop-i.i in
    let a = c.as_slice.result.now in
    noted_for (λ v. list_any (λ k. mentions_variable k v) (take i lists) || mentions_variable a v) (λ v. list_any (λ k. mentions_variable k v) (take (i + 1) lists)) c.args.place c.args.noted.now.items _ (some_mention_more lists i a c.index-lists-i.result c.loop-i-test.true (c.as_slice.ensures ∙ c.index-lists-i.is))
    (noted_again (λ v. list_any (λ k. mentions_variable k v) (take i lists)) (mentions_variable a) c.args.place c.args.noted.now.items c.loop-i.noted.items _ c.loop-i.invariant c.in_ok-note_literals.ensures)

pub returns : goal.returns
returns c =
    let lists = c.args.lists.now in
    let all : take c.loop-i.i lists ≡ lists = take_all c.loop-i.i lists c.loop-i-test.false in
    subst (λ ls. IsNotedMore (λ v. list_any (λ a. mentions_variable a v) ls) c.args.place c.args.noted.now.items c.loop-i.noted.items) all c.loop-i.invariant
