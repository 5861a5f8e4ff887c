-- What a reader answers.
use Rattle.std.specs.Prelude.{◌≡◌, ℕ, List, [], ◌∷◌, ◌++◌, Option, Some, None, Result, Ok, Err}
use Rattle.refute_text.specs.declared.refusal.Refusal.{Refusal}
use Rattle.refute_text.specs.declared.refusal.Refusal.TheVariants.{Form, Memory}

-- nothing was to be read, or memory ran out first
abbrev pub IsReaderRefusal : {X : Type 0} → Refusal → Option X → Type 0
IsReaderRefusal Form read = read ≡ None
IsReaderRefusal Memory read = Unit {0}

-- what was answered is what was to be read, or a refusal
abbrev pub AnswersReader : {R X : Type 0} → (R → X) → Result R Refusal → Option X → Type 0
AnswersReader view (Ok r) read = read ≡ Some (view r)
AnswersReader view (Err e) read = IsReaderRefusal e read

-- what was read was appended to the list, and this follows it
abbrev pub AppendsRead : {X : Type 0} → List X → List X → Option (X × List ℕ) → List ℕ → Type 0
AppendsRead {X = X} old new read rest = (x : X) × (read ≡ Some (x, rest)) × (new ≡ old ++ x ∷ [])
