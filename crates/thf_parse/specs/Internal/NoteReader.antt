-- How the reader goes through notes, and through what stands between commas.
use Rattle.std.specs.Prelude.{ℕ, zero, suc, length, Option, Some, None}
use Rattle.thf_grammar.specs.declared.terminal.Mark.TheVariants.{Open, Close, OpenList, CloseList, Comma, Colon}
use Rattle.thf_grammar.specs.declared.terminal.Terminal.{Terminal}
use Rattle.thf_grammar.specs.declared.terminal.Terminal.TheVariants as terminal
use Rattle.thf_parse.specs.Internal.Outcome.{found, wrong, Reader, ◌>>=◌, first_terminal, lexemes_behind, expect, enter}

-- what follows something that may stand before a comma
abbrev pub comma_by : {S : Type 0} → (S → Reader S) → S → Terminal → Reader S
comma_by again s (terminal.Mark Comma) ts = again s (lexemes_behind ts)
comma_by again s _ ts = found s ts

-- things between commas, n at most; each is read with what was found before it
unfoldable pub commas : {S : Type 0} → (S → Reader S) → ℕ → S → Reader S
commas item zero s ts = wrong ts
commas item (suc n) s ts = item s ts >>= λ x rest. comma_by (commas item n) x (first_terminal rest) rest

-- things between commas
abbrev pub all_commas : {S : Type 0} → (S → Reader S) → S → Reader S
all_commas item s ts = commas item (suc (length ts)) s ts

abbrev pub passed : Unit {0}
passed = tt

-- the readers of one level, which find nothing that is kept
pub record NoteReaders : Type 0 where
  pub general : Reader (Unit {0})
  pub generals : Reader (Unit {0})

abbrev pub called_by : Option NoteReaders → Terminal → Reader (Unit {0})
called_by inside (terminal.Mark Open) ts = enter inside ts (λ r. r.generals (lexemes_behind ts) >>= λ _ rest. expect Close rest)
called_by inside _ ts = found passed ts

unfoldable pub called : Option NoteReaders → Reader (Unit {0})
called inside ts = called_by inside (first_terminal ts) ts

abbrev pub data_by : Option NoteReaders → Terminal → Reader (Unit {0})
data_by inside terminal.Lower ts = called inside (lexemes_behind ts)
data_by inside terminal.Quoted ts = called inside (lexemes_behind ts)
data_by inside terminal.Upper ts = found passed (lexemes_behind ts)
data_by inside terminal.Integer ts = found passed (lexemes_behind ts)
data_by inside terminal.Distinct ts = found passed (lexemes_behind ts)
data_by inside _ ts = wrong ts

unfoldable pub data_at : Option NoteReaders → Reader (Unit {0})
data_at inside ts = data_by inside (first_terminal ts) ts

abbrev pub listed_by : Reader (Unit {0}) → Terminal → Reader (Unit {0})
listed_by generals (terminal.Mark CloseList) ts = found passed (lexemes_behind ts)
listed_by generals _ ts = generals ts >>= λ _ rest. expect CloseList rest

-- what stands behind a `[`, up to its `]`
abbrev pub list_reader : Reader (Unit {0}) → Reader (Unit {0})
list_reader generals ts = listed_by generals (first_terminal ts) ts

abbrev pub list_at : Option NoteReaders → Reader (Unit {0})
list_at inside ts = enter inside ts (λ r. list_reader r.generals (lexemes_behind ts))

abbrev pub paired_by : Option NoteReaders → Terminal → Reader (Unit {0})
paired_by inside (terminal.Mark Colon) ts = enter inside ts (λ r. r.general (lexemes_behind ts))
paired_by inside _ ts = found passed ts

unfoldable pub paired : Option NoteReaders → Reader (Unit {0})
paired inside ts = paired_by inside (first_terminal ts) ts

abbrev pub general_by : Option NoteReaders → Terminal → Reader (Unit {0})
general_by inside (terminal.Mark OpenList) ts = list_at inside ts
general_by inside _ ts = data_at inside ts >>= λ _ rest. paired inside rest

unfoldable pub general : Option NoteReaders → Reader (Unit {0})
general inside ts = general_by inside (first_terminal ts) ts

unfoldable pub generals : Option NoteReaders → Reader (Unit {0})
generals inside ts = all_commas (λ _. general inside) passed ts

-- the readers with room for one level less
unfoldable pub inner_notes : ℕ → Option NoteReaders
inner_notes zero = None
inner_notes (suc room) = Some (record { general = general (inner_notes room); generals = generals (inner_notes room) })

abbrev pub second_note : Option NoteReaders → Terminal → Reader (Unit {0})
second_note inside (terminal.Mark Comma) ts = general inside (lexemes_behind ts)
second_note inside _ ts = found passed ts

abbrev pub notes_by : Option NoteReaders → Terminal → Reader (Unit {0})
notes_by inside (terminal.Mark Comma) ts = general inside (lexemes_behind ts) >>= λ _ rest. second_note inside (first_terminal rest) rest
notes_by inside _ ts = found passed ts

unfoldable pub notes : Option NoteReaders → Reader (Unit {0})
notes inside ts = notes_by inside (first_terminal ts) ts
