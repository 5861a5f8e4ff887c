-- Lists of lists that stand in one piece, and instances over such lists.
use Rattle.std.specs.Prelude.{ℕ, ◌+◌, ◌≤◌, suc, List, [], map, length, take, drop, get_or}
use Rattle.std.specs.List.{All}
use Rattle.sat_base.specs.declared.literal.SatLit.{SatLit}
use Rattle.literal_map.specs.declared.instance.Instance.{Instance}
use Rattle.tableau_clauses.specs.declared.instances.PackedInstance.{PackedInstance}
use Rattle.tableau_clauses.specs.declared.lists.Span.{Span}

-- so many items of a list from a place on
abbrev pub piece_of : {X : Type 0} → List X → ℕ → ℕ → List X
piece_of xs start len = take len (drop start xs)

-- the list that stands there
abbrev pub spanned : List SatLit → Span → List SatLit
spanned literals span = piece_of literals span.start span.len

abbrev pub all_spanned : List SatLit → List Span → List (List SatLit)
all_spanned literals spans = map (spanned literals) spans

-- each of them is within the whole
abbrev pub AreSpans : List SatLit → List Span → Type 0
AreSpans literals spans = All (λ span. span.start + span.len ≤ length literals) spans

-- an instance with its principals and, behind these, its alternatives
abbrev pub with_alternatives : PackedInstance → List (List SatLit) → Instance
with_alternatives i lists = record {
  by = i.by;
  principals = get_or lists 0 [];
  alternatives = drop 1 lists;
}

-- the instance whose lists stand there
abbrev pub unpacked_instance : List (List SatLit) → PackedInstance → Instance
unpacked_instance lists i = with_alternatives i (piece_of lists i.start i.len)

abbrev pub all_unpacked : List (List SatLit) → List PackedInstance → List Instance
all_unpacked lists instances = map (unpacked_instance lists) instances

-- the lists of each are there, those of its principals among them
abbrev pub HaveLists : List (List SatLit) → List PackedInstance → Type 0
HaveLists lists instances = All (λ i. (i.start + i.len ≤ length lists) × (suc 0 ≤ i.len)) instances
