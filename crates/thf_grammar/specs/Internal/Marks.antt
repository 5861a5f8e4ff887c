-- Whether two marks are the same, and whether a terminal is a mark.
use Rattle.std.specs.Prelude.{Bool, true, false}
use Rattle.thf_grammar.specs.declared.terminal.Mark.{Mark}
use Rattle.thf_grammar.specs.declared.terminal.Mark.TheVariants as mark
use Rattle.thf_grammar.specs.declared.terminal.Terminal.{Terminal}
use Rattle.thf_grammar.specs.declared.terminal.Terminal.TheVariants as terminal

abbrev pub same_mark : Mark → Mark → Bool
same_mark mark.Open mark.Open = true
same_mark mark.Close mark.Close = true
same_mark mark.OpenList mark.OpenList = true
same_mark mark.CloseList mark.CloseList = true
same_mark mark.Comma mark.Comma = true
same_mark mark.Stop mark.Stop = true
same_mark mark.Colon mark.Colon = true
same_mark mark.Arrow mark.Arrow = true
same_mark mark.At mark.At = true
same_mark _ _ = false

abbrev pub is_mark : Mark → Terminal → Bool
is_mark mark (terminal.Mark other) = same_mark mark other
is_mark mark _ = false
