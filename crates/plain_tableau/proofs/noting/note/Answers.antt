use Rattle.std.proofs.Common.{◌≡◌, ◌||◌, List, Some, sym, subst}
use Rattle.std.specs.List.{list_any}
use Rattle.sat_base.specs.declared.literal.SatLit.{SatLit}
use Rattle.sat_base.specs.Literal.{mentions_variable}
use Rattle.plain_tableau.specs.Internal.Due.{IsNotedMore}
use Rattle.plain_tableau.proofs.NotedLaws.{noted_again}
use Rattle.plain_tableau.proofs.noting.note.Goals as goal

pub returns : goal.returns
returns c =
    let old = c.args.noted.now.items in
    let mid = c.note_literals.new.noted.items in
    let new = c.note_lists.new.noted.items in
    let place = c.args.place in
    let first = subst (λ (ls : List SatLit). IsNotedMore (mentions_variable ls) place old mid) c.as_slice.ensures c.in_ok-note_literals.ensures in
    let second = subst (λ (ls : List (List SatLit)). IsNotedMore (λ v. list_any (λ a. mentions_variable a v) ls) place mid new) c.as_slice-2.ensures c.in_ok-note_lists.ensures in
    noted_again (mentions_variable c.args.instance.now.principals) (λ v. list_any (λ a. mentions_variable a v) c.args.instance.now.alternatives) place old mid new first second
