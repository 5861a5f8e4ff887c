-- What contracts see of an agenda: a queue by due numbers, in which entries of one due number leave in the order in which they came.
use Rattle.std.specs.Prelude.{◌≡◌, ◌≢◌, ℕ, ◌+◌, ◌≤◌, ◌<◌, Bool, ◌==◌, ◌&&◌, ◌||◌, nat_lt, IsTrue, List, [], ◌∷◌, ◌++◌}
use Rattle.std.specs.List.{All, AllPairs}
use Rattle.command_queue.specs.declared.entry.Entry.{Entry}

-- whether the first entry has the smaller due number, or the same and the smaller number
abbrev pub comes_before : {C : Type 0} → Entry C → Entry C → Bool
comes_before a b = nat_lt a.due b.due || ((a.due == b.due) && nat_lt a.number b.number)

abbrev pub IsBefore : {C : Type 0} → Entry C → Entry C → Type 0
IsBefore a b = IsTrue (comes_before a b)

-- the rule; the entries in the order of their numbers, which is that of pushing; how many numbers were taken so far, one for each push; and
-- for how many entries there is room
pub record Queue (C R : Type 0) : Type 0 where
  pub rule : R
  pub entries : List (Entry C)
  pub pushes : ℕ
  pub spare : ℕ

-- the numbers ascend, and each was taken
pub record AreNumbered {C : Type 0} (entries : List (Entry C)) (pushes : ℕ) : Type 0 where
  pub ascending : AllPairs (λ a b. a.number < b.number) entries
  pub taken : All (λ e. e.number < pushes) entries

-- one entry joins at the end, with this due number and the next number, and so many numbers are taken
pub record AddsEntry {C R : Type 0} (old new : Queue C R) (numbers due : ℕ) (command : C) : Type 0 where
  pub entries : new.entries ≡ old.entries ++ (record { due = due; number = old.pushes; command = command }) ∷ []
  pub pushes : new.pushes ≡ old.pushes + numbers
  pub spare : old.spare ≤ new.spare + 1
  pub rule : new.rule ≡ old.rule

-- one entry joins at the place of its number
pub record AddsEntryAt {C R : Type 0} (old new : Queue C R) (entry : Entry C) : Type 0 where
  pub before : List (Entry C)
  pub behind : List (Entry C)
  pub stood : old.entries ≡ before ++ behind
  pub stands : new.entries ≡ before ++ entry ∷ behind
  pub below : All (λ e. e.number < entry.number) before
  pub above : All (λ e. entry.number < e.number) behind
  pub pushes : new.pushes ≡ old.pushes
  pub spare : old.spare ≤ new.spare + 1
  pub rule : new.rule ≡ old.rule

-- the entry that comes before all others leaves, alone
pub record TakesEntry {C R : Type 0} (old new : Queue C R) (first : Entry C) : Type 0 where
  pub before : List (Entry C)
  pub behind : List (Entry C)
  pub stands : old.entries ≡ before ++ first ∷ behind
  pub leaves : new.entries ≡ before ++ behind
  pub least : All (IsBefore first) new.entries
  pub others : All (λ e. e.number ≢ first.number) new.entries
  pub taken : first.number < old.pushes
  pub pushes : new.pushes ≡ old.pushes
  pub spare : new.spare ≡ old.spare + 1
  pub rule : new.rule ≡ old.rule

-- the same of the entry's command alone
pub record TakesFirst {C R : Type 0} (old new : Queue C R) (command : C) : Type 0 where
  pub first : Entry C
  pub takes : TakesEntry old new first
  pub command_is : first.command ≡ command

-- nothing but the room grows
pub record GainsRoom {C R : Type 0} (old new : Queue C R) : Type 0 where
  pub entries : new.entries ≡ old.entries
  pub pushes : new.pushes ≡ old.pushes
  pub spare : old.spare ≤ new.spare
  pub rule : new.rule ≡ old.rule
