-- What numbers and atoms keep.
use Rattle.std.specs.Prelude.{◌≡◌, ℕ, ◌<◌, List, length, All}
use Rattle.sat_base.specs.declared.literal.SatLit.{SatLit}
use Rattle.term_bank.specs.Content.{Content, Grows}
use Rattle.literal_map.specs.Atoms.{bank_literal, IsAtom, Begins}

-- where the bank grows, atoms stay atoms
abbrev pub AtomsStay : Type 0
AtomsStay = (old new : Content) → Grows old new → (atoms : List ℕ) → All (IsAtom old) atoms → All (IsAtom new) atoms

-- where the bank and the table grow, each number keeps its literal
abbrev pub LiteralsStay : Type 0
LiteralsStay =
    (old new : Content) → Grows old new → (atoms further : List ℕ) → All (IsAtom old) atoms → Begins atoms further
    → (l : SatLit) → l.var.0 < length atoms → bank_literal new.terms further l ≡ bank_literal old.terms atoms l
