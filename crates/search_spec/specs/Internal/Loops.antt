-- Queues in which commands that were pushed one after the other, and are due at one moment, stand as one entry.
use Rattle.std.specs.Prelude.{ℕ, suc, ◌==◌, ◌≡◌, ◌<◌, ◌+◌, ◌⊎◌, length, List, [], ◌∷◌, if◌then◌else◌}
use Rattle.std.specs.List.{flat_map}
use Rattle.search_spec.specs.Queue.{new_entries}
use Rattle.command_queue.specs.declared.entry.Entry.{Entry}

-- commands that are left of such pushes: the moment at which they are due, the number of the first, the first, and the later ones
pub record Loop (C : Type 0) : Type 0 where
  pub due : ℕ
  pub number : ℕ
  pub first : C
  pub later : List C

-- the commands of a loop, each by itself
abbrev pub entries : {C : Type 0} → Loop C → List (Entry C)
entries l = new_entries (λ c. l.due) l.number (l.first ∷ l.later)

-- the first command of a loop
abbrev pub first_entry : {C : Type 0} → Loop C → Entry C
first_entry l = record { due = l.due; number = l.number; command = l.first }

-- the queue that loops stand for
abbrev pub queue_of : {C : Type 0} → List (Loop C) → List (Entry C)
queue_of loops = flat_map entries loops

-- a loop without its first command, where others are left
abbrev pub loop_left : {C : Type 0} → ℕ → ℕ → List C → List (Loop C)
loop_left due number [] = []
loop_left due number (c ∷ cs) = record { due = due; number = suc number; first = c; later = cs } ∷ []

-- the loops without the first command of the one of this number
abbrev pub loops_after : {C : Type 0} → ℕ → List (Loop C) → List (Loop C)
loops_after number loops = flat_map (λ l. if l.number == number then loop_left l.due l.number l.later else l ∷ []) loops

-- the number is that of the loop's first command, or of none of them
abbrev pub IsFirstOrNone : {C : Type 0} → ℕ → Loop C → Type 0
IsFirstOrNone n l = (l.number ≡ n) ⊎ ((n < l.number) ⊎ (l.number + length l.later < n))
