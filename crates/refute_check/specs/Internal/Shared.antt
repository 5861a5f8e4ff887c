-- The terms of a check, and what their numbers stand for.
use Rattle.std.specs.Prelude.{◌≡◌, ◌<◌, ℕ, List, [], map, length, Option, Some, None, All}
use Rattle.sat_base.specs.declared.literal.SatLit.{SatLit}
use Rattle.stt_core.specs.SimpleType.{SimpleType, predicate}
use Rattle.stt_core.specs.Lambda.{Lambda}
use Rattle.stt_core.specs.Typing.{Scope}
use Rattle.stt_core.specs.Canonical.{IsCanonical}
use Rattle.tableau_calculus.specs.Literals.{Literal, IsLiteral, IsBranch}
use Rattle.tableau_calculus.specs.Witnesses.{Row, with_rows}
use Rattle.term_bank.specs.Content.{content_scope, HasTerm, Grows}
use Rattle.term_bank.specs.Terms.{term_at}
use Rattle.bank_normal.specs.Right.{IsRightNormaliser}
use Rattle.literal_map.specs.Atoms.{bank_literal, IsAtom, Begins}
use Rattle.witness_names.specs.Rows.{rows_of, AreRows}
use Rattle.tableau_calculus.specs.Each.{Each}
use Rattle.refute_check.specs.declared.shared.Shared.{Shared}

-- what is declared, the witnesses among it
abbrev pub shared_scope : Shared → Scope
shared_scope s = content_scope s.bank

-- what is declared beside them
abbrev pub declared_in : Shared → Scope
declared_in s = with_rows (shared_scope s) []

-- the atoms, in the order of their numbers
abbrev pub shared_atoms : Shared → List Lambda
shared_atoms s = map (term_at s.bank.terms) s.lits

-- the witness table
abbrev pub the_rows : Shared → List Row
the_rows s = rows_of s.bank.terms s.witnesses

-- What is known of terms is right, numbers are those of atoms, and each witness has its type.
pub record IsGoodShared (s : Shared) : Type 0 where
  pub normal : IsRightNormaliser s.normal s.bank
  pub atoms : All (IsAtom s.bank) s.lits
  pub rows : AreRows s.bank s.witnesses
  pub declared : map (λ r. r.type) (the_rows s) ≡ s.bank.witnesses
  pub types : s.types ≡ s.bank.witnesses

-- further terms and further numbers of atoms
pub record ExtendsShared (old new : Shared) : Type 0 where
  pub bank : Grows old.bank new.bank
  pub lits : Begins old.lits new.lits
  pub witnesses : new.witnesses ≡ old.witnesses

-- the numbered literal is one of the table
abbrev pub IsSharedNumber : Shared → SatLit → Type 0
IsSharedNumber s n = n.var.0 < length s.lits

-- the literal that a numbered one is
abbrev pub literal_in : Shared → SatLit → Literal
literal_in s n = bank_literal s.bank.terms s.lits n

-- the numbered literals are these
pub record AreNumbersOf (s : Shared) (ls : List Literal) (ns : List SatLit) : Type 0 where
  pub numbers : Each (IsSharedNumber s) ns
  pub literals : map (literal_in s) ns ≡ ls

-- the number of a literal over what is declared, or that it is none
abbrev pub NumbersLiteral : Shared → Literal → Option SatLit → Type 0
NumbersLiteral s l (Some n) = IsLiteral (shared_scope s) l × IsSharedNumber s n × (literal_in s n ≡ l)
NumbersLiteral s l None = IsLiteral (shared_scope s) l → ⊥

-- the numbers of a branch over what is declared, or that it is none
abbrev pub NumbersBranch : Shared → List Literal → Option (List SatLit) → Type 0
NumbersBranch s ls (Some ns) = IsBranch (shared_scope s) ls × AreNumbersOf s ls ns
NumbersBranch s ls None = IsBranch (shared_scope s) ls → ⊥

-- the place of a closed canonical term, or that it is none
abbrev pub HasPlace : Shared → Lambda → Option ℕ → Type 0
HasPlace s t (Some id) = ((a : SimpleType) × IsCanonical (shared_scope s) [] a t) × HasTerm s.bank id t
HasPlace s t None = (a : SimpleType) → IsCanonical (shared_scope s) [] a t → ⊥

-- the same of a predicate
abbrev pub HasPredicate : Shared → Lambda → Option ℕ → Type 0
HasPredicate s t (Some id) = ((a : SimpleType) × IsCanonical (shared_scope s) [] (predicate a) t) × HasTerm s.bank id t
HasPredicate s t None = (a : SimpleType) → IsCanonical (shared_scope s) [] (predicate a) t → ⊥
