-- For those who hold an agenda: what holds of all its entries, as entries join and leave.
use Rattle.std.proofs.Common.{ℕ, List, [], ◌∷◌, ◌++◌, sym, subst}
use Rattle.std.specs.List.{All, AllByRecursion}
use Rattle.std.proofs.lemmas.List.Elements.{All-from_recursion, recursion_from_All}
use Rattle.command_queue.specs.declared.entry.Entry.{Entry}
use Rattle.command_queue.specs.Queue.{Queue, AddsEntry, AddsEntryAt, TakesEntry}

module _ {C : Type 0} where
  joined : (P : Entry C → Type 0) (e : Entry C) (before behind : List (Entry C)) → AllByRecursion P (before ++ behind) → P e → AllByRecursion P (before ++ e ∷ behind)
  joined P e [] behind h k = (k, h)
  joined P e (x ∷ xs) behind h k = (h.0, joined P e xs behind h.1 k)

  parted : (P : Entry C → Type 0) (e : Entry C) (before behind : List (Entry C)) → AllByRecursion P (before ++ e ∷ behind) → AllByRecursion P (before ++ behind)
  parted P e [] behind h = h.1
  parted P e (x ∷ xs) behind h = (h.0, parted P e xs behind h.1)

  last : (P : Entry C → Type 0) (e : Entry C) (xs : List (Entry C)) → AllByRecursion P xs → P e → AllByRecursion P (xs ++ e ∷ [])
  last P e [] h k = (k, tt)
  last P e (x ∷ xs) h k = (h.0, last P e xs h.1 k)

module _ {C R : Type 0} (P : Entry C → Type 0) (old new : Queue C R) (h : All P old.entries) where
  pub All-added : {numbers due : ℕ} {command : C} → AddsEntry old new numbers due command → P (record { due = due; number = old.pushes; command = command }) → All P new.entries
  All-added a here = subst (All P) (sym a.entries) (All-from_recursion P _ (last P _ old.entries (recursion_from_All P old.entries h) here))

  pub All-added_at : {entry : Entry C} → AddsEntryAt old new entry → P entry → All P new.entries
  All-added_at {entry = e} a here =
      subst (All P) (sym a.stands) (All-from_recursion P _ (joined P e a.before a.behind (subst (AllByRecursion P) a.stood (recursion_from_All P old.entries h)) here))

  pub All-taken : {first : Entry C} → TakesEntry old new first → All P new.entries
  All-taken {first = e} t =
      subst (All P) (sym t.leaves) (All-from_recursion P _ (parted P e t.before t.behind (subst (AllByRecursion P) t.stands (recursion_from_All P old.entries h))))
