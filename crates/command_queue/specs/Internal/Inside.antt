-- The inside of an agenda, of which no contract of a public call speaks: what its fields keep, and the list that they stand for.
use Rattle.std.specs.Prelude.{◌≡◌, ℕ, ◌<◌, ◌==◌, false, List, [], ◌∷◌, nat_lt, Option, Some, None, if◌then◌else◌}
use Rattle.std.specs.List.{All, IsDistinct}
use Rattle.std.specs.BinaryHeap.{IsUpperBound, lt_by_cmp}
use Rattle.std.specs.Ordering.{on, flip_args, then_cmp, nat_cmp}
use Rattle.std.specs.declared.cmp.Ordering.{Ordering}
use Rattle.command_queue.specs.declared.entry.Entry.{Entry}

-- the entries with this one in front of the first that has a greater number
abbrev pub placed_entry : {C : Type 0} → Entry C → List (Entry C) → List (Entry C)
placed_entry e [] = e ∷ []
placed_entry e (x ∷ xs) = if nat_lt e.number x.number then e ∷ x ∷ xs else x ∷ placed_entry e xs

-- the entries by their numbers
abbrev pub entries_in_order : {C : Type 0} → List (Entry C) → List (Entry C)
entries_in_order [] = []
entries_in_order (x ∷ xs) = placed_entry x (entries_in_order xs)

-- a heap has its greatest entry on top, so the one that leaves first is greater
abbrev pub heap_order : {C : Type 0} → Entry C → Entry C → Ordering
heap_order = then_cmp (flip_args (on (λ e. e.due) nat_cmp)) (flip_args (on (λ e. e.number) nat_cmp))

-- entries in no order, and for how many more there is room
pub record Held (C : Type 0) : Type 0 where
  pub items : List (Entry C)
  pub spare : ℕ

-- the entry in front, where there is one
abbrev pub in_front : {C : Type 0} → Option (Entry C) → List (Entry C)
in_front None = []
in_front (Some e) = e ∷ []

-- there is an entry in front, and it leaves before those of a heap
abbrev pub LeavesFirst : {C : Type 0} → Option (Entry C) → List (Entry C) → Type 0
LeavesFirst None xs = ⊥
LeavesFirst (Some e) xs = IsUpperBound heap_order e xs

-- where there is an entry in front, the top of a heap leaves before it
abbrev pub LeavesLater : {C : Type 0} → Option (Entry C) → List (Entry C) → Type 0
LeavesLater None xs = Unit {0}
LeavesLater (Some e) [] = ⊥
LeavesLater (Some e) (x ∷ xs) = lt_by_cmp heap_order x e ≡ false

-- no two entries have one number
abbrev pub HasOwnNumbers : {C : Type 0} → List (Entry C) → Type 0
HasOwnNumbers entries = IsDistinct (λ a b. a.number == b.number) entries

-- of the entries each has a number of its own below the number of pushes
pub record HoldsPushed {C : Type 0} (entries : List (Entry C)) (pushes : ℕ) : Type 0 where
  pub numbered : All (λ e. e.number < pushes) entries
  pub distinct : HasOwnNumbers entries
