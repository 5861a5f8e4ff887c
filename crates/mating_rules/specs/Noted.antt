-- Literals that were noted, and which of them are the partners of another one.
use Rattle.std.specs.Prelude.{◌≡◌, ◌<◌, ◌&&◌, not, ℕ, suc, Bool, true, false, List, [], ◌∷◌, length, filter, All, if◌then◌else◌}
use Rattle.stt_core.specs.SimpleType.{base}
use Rattle.stt_core.specs.Lambda.{Constant, equality, Lambda, constant, app}
use Rattle.stt_core.specs.SameTerm.{same_term}
use Rattle.tableau_calculus.specs.Kinds.{same_sign}
use Rattle.sat_base.specs.declared.literal.SatLit.{SatLit}
use Rattle.search_spec.specs.Spine.{head_of, is_compared, is_application, is_spine, same_head}
use Rattle.search_spec.specs.Partners.{equates_on}
use Rattle.literal_map.specs.Atoms.{bank_atom}

-- whether the second formula is an equation on the same base type as the first, which isn't that of formulas
abbrev pub equates_alike : Lambda → Lambda → Bool
equates_alike (app (app (constant (equality (base (suc n)))) s) t) = equates_on (base (suc n))
equates_alike s = λ t. false

-- whether literals of opposite signs are partners whose atoms these are: both have one compared head, with arguments, or both are
-- equations on one base type other than that of formulas
abbrev pub are_partners : Lambda → Lambda → Bool
are_partners s t = if is_spine s then same_head s t else equates_alike s t

-- the partners of a literal among those that were noted, in order: they have the other sign
abbrev pub partners_of : List Lambda → List ℕ → SatLit → List SatLit → List SatLit
partners_of terms atoms l noted =
    filter (λ m. not (same_sign l.positive m.positive) && are_partners (bank_atom terms atoms l.var.0) (bank_atom terms atoms m.var.0))
    noted

-- the positive and the negative ones of some literals, in order
pub record Signed : Type 0 where
  pub positive : List SatLit
  pub negative : List SatLit

abbrev pub of_sign : Bool → Signed → List SatLit
of_sign sign s = if sign then s.positive else s.negative

-- the literals that were noted, in order, and by heads those that may have partners
pub record Notes : Type 0 where
  pub noted : List SatLit
  pub heads : List (Lambda × Signed)

-- the literals of a sign that are kept under a head
abbrev pub kept_under : Lambda → Bool → List (Lambda × Signed) → List SatLit
kept_under h sign [] = []
kept_under h sign (g ∷ gs) = if same_term h g.0 then of_sign sign g.1 else kept_under h sign gs

-- whether formulas with this head and with arguments may have partners
abbrev pub pairs : Constant → Bool
pairs (equality (base (suc n))) = true
pairs c = is_compared c

-- whether the formula is to be kept under the head
abbrev pub has_pairing_head : Lambda → Lambda → Bool
has_pairing_head (constant c) t = pairs c && (is_application t && same_term (constant c) (head_of t))
has_pairing_head h t = false

-- the index is right over a bank and a table: each noted literal has a number, and it is kept under the head that its atom has
pub record IsRightIndex (terms : List Lambda) (atoms : List ℕ) (i : Notes) : Type 0 where
  pub numbers : All (λ l. l.var.0 < length atoms) i.noted
  pub kept :
      (h : Lambda) (sign : Bool)
      → kept_under h sign i.heads ≡ filter (λ l. same_sign sign l.positive && has_pairing_head h (bank_atom terms atoms l.var.0)) i.noted
