-- What the line of a slice has, and that it has no more than that.
use Rattle.std.proofs.Common.{◌≡◌, ℕ, not, true, false, List, ◌++◌, sym, ap, subst, ◌∙◌}
use Rattle.std.proofs.lemmas.Slice.Eq.{bytes_eq-Decides}
use Rattle.outside.specs.Fronts.{behind_front}
use Rattle.mode_file.specs.declared.number.NumberRefused.TheVariants.{Missing}
use Rattle.mode_file.specs.Lines.{is_blank}
use Rattle.mode_file.specs.Grammar.{says_nothing, first_word, Assigns, HasNoNumber}
use Rattle.mode_file.proofs.NumeralLaws.{front-after}
use Rattle.mode_file.proofs.AssignLaws.{one_assigned}
use Rattle.mode_schedule.specs.Grammar.{slice_word, is_slice_line, HasSlice}

pub word_is : (line : List ℕ) → is_slice_line line ≡ true → first_word line ≡ slice_word
word_is line h = (bytes_eq-Decides (first_word line) slice_word).0 h

-- the line begins with its first word
line_is : (line : List ℕ) → is_slice_line line ≡ true → line ≡ slice_word ++ behind_front (λ c. not (is_blank c)) line
line_is line h = sym (front-after (λ c. not (is_blank c)) line) ∙ ap (λ (w : List ℕ). w ++ behind_front (λ c. not (is_blank c)) line) (word_is line h)

-- it says something
pub slice_says : (line : List ℕ) → is_slice_line line ≡ true → says_nothing line ≡ false
slice_says line h = ap says_nothing (line_is line h)

-- the number that a line assigns to its first word is its slice, where that is the word
pub slice_read : (line : List ℕ) (n : ℕ) → is_slice_line line ≡ true → Assigns line (first_word line) n → HasSlice line n
slice_read line n h s = subst (λ (w : List ℕ). Assigns line w n) (word_is line h) s

pub no_slice : (line : List ℕ) → is_slice_line line ≡ true → HasNoNumber line Missing → (n : ℕ) → HasSlice line n → ⊥
no_slice line h none n s = none n (subst (λ (w : List ℕ). Assigns line w n) (sym (word_is line h)) s)

pub slice_is : (line : List ℕ) (n : ℕ) → HasSlice line n → is_slice_line line ≡ true
slice_is line n s = ap is_slice_line s.line_is

pub one_slice : (line : List ℕ) (m n : ℕ) → HasSlice line m → HasSlice line n → m ≡ n
one_slice line m n s t = one_assigned line slice_word m n (word_is line (slice_is line m s)) s t
