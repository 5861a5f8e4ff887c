-- What a call that gathers answers.
use Rattle.std.specs.Prelude.{◌≡◌, ℕ, ◌+◌, ◌-◌, ◌⊎◌, IsTrue, List, [], ◌∷◌, length, Option, Some, Result, Ok, Err}
use Rattle.outside.specs.Seen.{Seen}
use Rattle.thf_include.specs.declared.gathered.Placed.{Placed}
use Rattle.thf_include.specs.declared.refused.GatherRefused.{GatherRefused}
use Rattle.thf_include.specs.declared.refused.GatherRefused.TheVariants.{Fault, TooLong, Syntax, Cycle, NoSuchName, TooMany, Memory}
use Rattle.thf_include.specs.View.{the_statements}
use Rattle.thf_include.specs.Gathering.{Stop, done, stopped, wants, too_long, no_tree, cycle, too_many, no_name, IsGathering}

-- the texts are the contents of the first names, one for each
abbrev pub AreContents : (List ℕ → Option (List ℕ)) → List (List ℕ) → List (List ℕ) → Type 0
AreContents contents names [] = Unit {0}
AreContents contents [] (text ∷ texts) = ⊥
AreContents contents (name ∷ names) (text ∷ texts) = (contents name ≡ Some text) × AreContents contents names texts

-- A refusal tells a stop of which Q holds, where the files of these names were opened. A fault is that of the file that is wanted. Memory
-- may run out anywhere: either E holds, or the last file that was opened is wanted.
abbrev pub StopsAs : (Stop → Type 0) → Type 0 → List (List ℕ) → GatherRefused → Type 0
StopsAs Q E names (Fault file) = Q (wants file) × (length names ≡ file + 1)
StopsAs Q E names (TooLong file) = Q (too_long file)
StopsAs Q E names (Syntax file at) = Q (no_tree file at)
StopsAs Q E names (Cycle file at) = Q (cycle file at)
StopsAs Q E names (NoSuchName file at) = Q (no_name file at)
StopsAs Q E names (TooMany file at) = Q (too_many file at)
StopsAs Q E names Memory = E ⊎ Q (wants (length names - 1))

-- the answer is how the gathering over these texts ends
abbrev pub IsGatherAnswer : List (List ℕ) → List ℕ → List (List ℕ) → Result (List Placed) GatherRefused → Type 0
IsGatherAnswer texts name names (Ok gathered) =
    IsGathering texts name names (done (the_statements gathered)) × (length texts ≡ length names)
IsGatherAnswer texts name names (Err refused) = StopsAs (λ why. IsGathering texts name names (stopped why)) (names ≡ []) names refused

-- the answer is how the gathering ends over some texts, which are the contents of its files where these are told
pub record Gathers (seen : Seen) (name : List ℕ) (names : List (List ℕ)) (answer : Result (List Placed) GatherRefused) : Type 0 where
  pub texts : List (List ℕ)
  pub told : IsTrue seen.tells → AreContents seen.contents names texts
  pub answered : IsGatherAnswer texts name names answer

-- P holds of the number of a file with a fault
abbrev pub OfFault : (ℕ → Type 0) → GatherRefused → Type 0
OfFault P (Fault file) = P file
OfFault P _ = Unit {0}

-- the refusal is no fault
abbrev pub IsNoFault : GatherRefused → Type 0
IsNoFault refused = OfFault (λ file. ⊥) refused
