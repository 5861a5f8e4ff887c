-- What was answered for a text, as a reading.
use Rattle.std.specs.Prelude.{Result, Ok, Err, Option, Some, None}
use Rattle.refute_print.specs.TextView.{the_text}
use Rattle.refute_print.specs.declared.line.RefutationText.{RefutationText}
use Rattle.refute_text.specs.Reading.{TextReading, read, bad_line, no_start, no_end}
use Rattle.refute_text.specs.declared.refusal.TextRefused.{TextRefused}
use Rattle.refute_text.specs.declared.refusal.TextRefused.TheVariants.{BadLine, NoStart, NoEnd, Memory}

-- none where memory ran out
abbrev pub reading_of : Result RefutationText TextRefused → Option TextReading
reading_of (Ok t) = Some (read (the_text t) t.first)
reading_of (Err (BadLine line)) = Some (bad_line line)
reading_of (Err (NoStart line)) = Some (no_start line)
reading_of (Err (NoEnd line)) = Some (no_end line)
reading_of (Err Memory) = None
