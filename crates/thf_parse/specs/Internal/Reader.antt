-- How the reader goes, token by token. A reader has the readers of one level deeper, where there is room for one.
use Rattle.std.specs.Prelude.{ℕ, zero, suc, Option, Some, None}
use Rattle.thf_grammar.specs.Trees.{TypeTree, form, indiv, named, arrow}
use Rattle.thf_grammar.specs.declared.terminal.Mark.TheVariants.{Open, Close, Arrow}
use Rattle.thf_grammar.specs.declared.terminal.Terminal.{Terminal}
use Rattle.thf_grammar.specs.declared.terminal.Terminal.TheVariants as terminal
use Rattle.thf_parse.specs.Internal.Outcome.{found, wrong, Reader, ◌>>=◌, first_terminal, place_of_first, first_name, lexemes_behind, expect, enter}

abbrev pub group_type : Option (Reader TypeTree) → Reader TypeTree
group_type inside ts = enter inside ts (λ type. type (lexemes_behind ts) >>= λ t rest. expect Close rest >>= λ _ after. found t after)

abbrev pub named_type_reader : Reader TypeTree
named_type_reader ts = found (named (place_of_first ts) (first_name ts)) (lexemes_behind ts)

abbrev pub simple_type_by : Option (Reader TypeTree) → Terminal → Reader TypeTree
simple_type_by inside terminal.Indiv ts = found (indiv (place_of_first ts)) (lexemes_behind ts)
simple_type_by inside terminal.Form ts = found (form (place_of_first ts)) (lexemes_behind ts)
simple_type_by inside terminal.Lower ts = named_type_reader ts
simple_type_by inside terminal.Quoted ts = named_type_reader ts
simple_type_by inside (terminal.Mark Open) ts = group_type inside ts
simple_type_by inside _ ts = wrong ts

unfoldable pub simple_type : Option (Reader TypeTree) → Reader TypeTree
simple_type inside ts = simple_type_by inside (first_terminal ts) ts

abbrev pub right_type : Option (Reader TypeTree) → TypeTree → Reader TypeTree
right_type inside t ts = enter inside ts (λ type. type (lexemes_behind ts) >>= λ u rest. found (arrow (place_of_first ts) t u) rest)

abbrev pub arrow_by : Option (Reader TypeTree) → TypeTree → Terminal → Reader TypeTree
arrow_by inside t (terminal.Mark Arrow) ts = right_type inside t ts
arrow_by inside t _ ts = found t ts

unfoldable pub type_with : Option (Reader TypeTree) → Reader TypeTree
type_with inside ts = simple_type inside ts >>= λ t rest. arrow_by inside t (first_terminal rest) rest

-- the reader of types with room for one level less
unfoldable pub inner_type : ℕ → Option (Reader TypeTree)
inner_type zero = None
inner_type (suc room) = Some (type_with (inner_type room))
