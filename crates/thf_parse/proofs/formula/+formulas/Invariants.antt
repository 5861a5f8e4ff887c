-- A reader calls those with less room, or those that stand below it here.
use Rattle.std.proofs.Common.{◌+◌, ◌*◌}
use Rattle.thf_parse.proofs.formula.+formulas.Given as goal

abbrev pub decreases-unit::negation : goal.decreases-unit::negation
decreases-unit::negation l = 16 * l.room

abbrev pub decreases-group::group : goal.decreases-group::group
decreases-group::group l = 16 * l.room

abbrev pub decreases-unit::primary : goal.decreases-unit::primary
decreases-unit::primary l = 16 * l.room + 1

abbrev pub decreases-binder::bind : goal.decreases-binder::bind
decreases-binder::bind l = 16 * l.room + 3

abbrev pub decreases-binder::next_variable : goal.decreases-binder::next_variable
decreases-binder::next_variable l = 16 * l.room

abbrev pub decreases-binder::variables : goal.decreases-binder::variables
decreases-binder::variables l = 16 * l.room + 10

abbrev pub decreases-binder::body : goal.decreases-binder::body
decreases-binder::body l = 16 * l.room + 8

abbrev pub decreases-unit::unitary : goal.decreases-unit::unitary
decreases-unit::unitary l = 16 * l.room + 4

abbrev pub decreases-unit::operand : goal.decreases-unit::operand
decreases-unit::operand l = 16 * l.room + 5

abbrev pub decreases-unit::right_side : goal.decreases-unit::right_side
decreases-unit::right_side l = 16 * l.room + 5

abbrev pub decreases-unit::unit : goal.decreases-unit::unit
decreases-unit::unit l = 16 * l.room + 6

abbrev pub decreases-binary::links : goal.decreases-binary::links
decreases-binary::links l = 16 * l.room + 1

abbrev pub decreases-application::arguments : goal.decreases-application::arguments
decreases-application::arguments l = 16 * l.room + 1

abbrev pub decreases-application::quantified : goal.decreases-application::quantified
decreases-application::quantified l = 16 * l.room

abbrev pub decreases-binary::second : goal.decreases-binary::second
decreases-binary::second l = 16 * l.room + 7

abbrev pub decreases-binary::tail : goal.decreases-binary::tail
decreases-binary::tail l = 16 * l.room + 8

abbrev pub decreases-applied : goal.decreases-applied
decreases-applied l = 16 * l.room + 9

abbrev pub decreases-behind_primary : goal.decreases-behind_primary
decreases-behind_primary l = 16 * l.room + 10

abbrev pub decreases-formula : goal.decreases-formula
decreases-formula l = 16 * l.room + 11

abbrev pub decreases-group::negated : goal.decreases-group::negated
decreases-group::negated l = 16 * l.room + 10

abbrev pub decreases-group::grouped : goal.decreases-group::grouped
decreases-group::grouped l = 16 * l.room + 12

abbrev pub decreases-binary::next_link : goal.decreases-binary::next_link
decreases-binary::next_link l = 16 * l.room

abbrev pub decreases-application::next_argument : goal.decreases-application::next_argument
decreases-application::next_argument l = 16 * l.room

abbrev pub decreases-group::negated_operand : goal.decreases-group::negated_operand
decreases-group::negated_operand l = 16 * l.room + 9

abbrev pub decreases-binder::behind_variable : goal.decreases-binder::behind_variable
decreases-binder::behind_variable l = 16 * l.room + 9
