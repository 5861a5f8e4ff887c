-- A reader calls those with less room, or those that stand below it here.
use Rattle.std.proofs.Common.{◌+◌, ◌*◌}
use Rattle.thf_parse.proofs.typing.+typing.Given as goal

abbrev pub decreases-typing : goal.decreases-typing
decreases-typing l = 2 * l.room + 1

abbrev pub decreases-group_typing : goal.decreases-group_typing
decreases-group_typing l = 2 * l.room
