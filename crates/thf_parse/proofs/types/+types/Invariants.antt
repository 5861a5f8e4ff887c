-- A reader calls those with less room, or those that stand below it here.
use Rattle.std.proofs.Common.{◌+◌, ◌*◌}
use Rattle.thf_parse.proofs.types.+types.Given as goal

abbrev pub decreases-type_tree : goal.decreases-type_tree
decreases-type_tree l = 3 * l.room + 2

abbrev pub decreases-simple_type : goal.decreases-simple_type
decreases-simple_type l = 3 * l.room + 1

abbrev pub decreases-group_type : goal.decreases-group_type
decreases-group_type l = 3 * l.room

abbrev pub decreases-right_type : goal.decreases-right_type
decreases-right_type l = 3 * l.room
