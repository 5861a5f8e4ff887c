-- A reader calls those with less room, or those that stand below it here.
use Rattle.std.proofs.Common.{◌≡◌, ◌+◌, ◌*◌, length}
use Rattle.thf_parse.specs.Internal.NoteReader.{passed, all_commas, general, inner_notes}
use Rattle.thf_parse.proofs.notes.+notes.Given as goal

abbrev pub decreases-called : goal.decreases-called
decreases-called l = 8 * l.room

abbrev pub decreases-list : goal.decreases-list
decreases-list l = 8 * l.room

abbrev pub decreases-paired : goal.decreases-paired
decreases-paired l = 8 * l.room

abbrev pub decreases-general_data : goal.decreases-general_data
decreases-general_data l = 8 * l.room + 1

abbrev pub decreases-general : goal.decreases-general
decreases-general l = 8 * l.room + 2

abbrev pub decreases-generals : goal.decreases-generals
decreases-generals l = 8 * l.room + 3

-- what is left is read as all is
abbrev pub invariant-generals-items : goal.invariant-generals-items
invariant-generals-items l = all_commas (λ _. general (inner_notes l.room)) passed l.cursor ≡ all_commas (λ _. general (inner_notes l.room)) passed l.fn.cursor

abbrev pub decreases-generals-items : goal.decreases-generals-items
decreases-generals-items l = length l.cursor

abbrev pub decreases-listed : goal.decreases-listed
decreases-listed l = 8 * l.room + 4
