use Rattle.std.proofs.Common.{◌≡◌, ℕ, List, set, get_or, ap, ap₂, ◌∙◌}
use Rattle.std.proofs.lemmas.List.{set-get_or, set-set}
use Rattle.sat_laws.specs.Internal.Packing.{packed}
use Rattle.sat_propagate.specs.declared.watch_lists.Watch.{Watch}
use Rattle.sat_propagate.proofs.watch_lists.WatchLists.take.Goals as goal

pub returns-clause-entries : goal.returns-clause-entries
returns-clause-entries c =
    let lists : List (List Watch) = c.self.inside.lists.items in
    let at : ℕ = packed c.args.literal in
    let list : List Watch = c.index_mut-list.result.now in
    let taken : c.replace.result.items ≡ get_or lists at list =
    ap (λ v. v.items) c.replace.ensures.value ∙ c.list.view_is ∙ c.index_mut-list.ensures.value ∙ ap (λ (n : ℕ). get_or lists n list) c.number.ensures in
    ap₂ (λ (n : ℕ) (some : List Watch). set (set lists n c.replace.new.dest.items) at some) c.number.ensures taken
    ∙ set-set lists at c.replace.new.dest.items (get_or lists at list)
    ∙ set-get_or lists at list
    ∙ c.self.view_is
