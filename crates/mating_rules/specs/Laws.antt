-- What an index keeps, and what partners are over formulas.
use Rattle.std.specs.Prelude.{◌≡◌, ℕ, List, map, All}
use Rattle.stt_core.specs.Lambda.{Lambda}
use Rattle.sat_base.specs.declared.literal.SatLit.{SatLit}
use Rattle.search_spec.specs.Partners.{partners}
use Rattle.term_bank.specs.Content.{Content, Grows}
use Rattle.literal_map.specs.Atoms.{bank_literal, bank_atom, IsAtom, Begins}
use Rattle.mating_rules.specs.Noted.{Notes, IsRightIndex, are_partners, partners_of}

-- an index that is right stays so where the bank and the table grow
abbrev pub RightStays : Type 0
RightStays =
    (old new : Content) → Grows old new → (atoms further : List ℕ) → All (IsAtom old) atoms → Begins atoms further
    → (i : Notes) → IsRightIndex old.terms atoms i → IsRightIndex new.terms further i

-- the partners by numbers are the partners of the literal among those that were noted
abbrev pub PartnersOfLiterals : Type 0
PartnersOfLiterals =
    (terms : List Lambda) (atoms : List ℕ) (l : SatLit) (noted : List SatLit)
    → map (bank_literal terms atoms) (partners_of terms atoms l noted)
    ≡ partners (are_partners (bank_atom terms atoms l.var.0)) (bank_literal terms atoms l) (map (bank_literal terms atoms) noted)
