-- One witness more is declared.
use Rattle.std.proofs.Common.{◌≡◌, ℕ, List, [], ◌∷◌, ◌++◌, Some, true}
use Rattle.stt_core.specs.SimpleType.{SimpleType, base, arrow, is_declared}
use Rattle.stt_core.specs.Lambda.{Constant, name, witness, falsity, negation, implication, all, equality, choice, description, Lambda, bound, constant, lam, app}
use Rattle.stt_core.specs.Typing.{Scope, IsScope, AreDeclared, constant_type}
use Rattle.stt_core.specs.Canonical.{IsFrom, IsCanonical, IsNeutral}
use Rattle.term_bank.specs.Terms.{term_at}
use Rattle.term_bank.specs.Internal.MarksView.{IsMarked}
use Rattle.term_bank.specs.Internal.Sound.{ShapeEntry, entry_terms, AreSound}
use Rattle.term_bank.specs.declared.marks.Marks.{Marks}
use Rattle.stt_core.proofs.ListLaws.{slice_get-append}

from_each : (c a : SimpleType) (P Q : SimpleType → Type 0) → ((b : SimpleType) → P b → Q b) → IsFrom c a P → IsFrom c a Q
from_each c (base n) P Q f h = h
from_each c (arrow a b) P Q f h = (h.0, f b h.1)

pub declared-end : (bases : ℕ) (types : List SimpleType) (a : SimpleType) → AreDeclared bases types → is_declared bases a ≡ true → AreDeclared bases (types ++ a ∷ [])
declared-end bases [] a h d = (d, tt)
declared-end bases (b ∷ types) a h d = (h.0, declared-end bases types a h.1 d)

module _ (bases : ℕ) (names wits : List SimpleType) (more : SimpleType) where
  abbrev before : Scope
  before = record { bases = bases; names = names; witnesses = wits }

  abbrev after : Scope
  after = record { bases = bases; names = names; witnesses = wits ++ more ∷ [] }

  constant_after : (c : Constant) (a : SimpleType) → constant_type before c ≡ Some a → constant_type after c ≡ Some a
  constant_after (name k) a h = h
  constant_after (witness k) a h = slice_get-append wits (more ∷ []) k a h
  constant_after falsity a h = h
  constant_after negation a h = h
  constant_after implication a h = h
  constant_after (all b) a h = h
  constant_after (equality b) a h = h
  constant_after (choice b) a h = h
  constant_after (description b) a h = h

  mutual
    pub canonical_after : (ctx : List SimpleType) (a : SimpleType) (t : Lambda) → IsCanonical before ctx a t → IsCanonical after ctx a t
    canonical_after ctx a (bound k) h = h
    canonical_after ctx a (constant c) h = (h.0, constant_after c a h.1)
    canonical_after ctx a (lam c s) h = (h.0, from_each c a _ _ (λ b k. canonical_after (c ∷ ctx) b s k) h.1)
    canonical_after ctx a (app s u) h = (h.0, (h.1.0, neutral_after ctx (arrow h.1.0 a) s h.1.1, canonical_after ctx h.1.0 u h.1.2))

    neutral_after : (ctx : List SimpleType) (a : SimpleType) (t : Lambda) → IsNeutral before ctx a t → IsNeutral after ctx a t
    neutral_after ctx a (bound k) h = h
    neutral_after ctx a (constant c) h = constant_after c a h
    neutral_after ctx a (lam c s) h = h
    neutral_after ctx a (app s u) h = (h.0, neutral_after ctx (arrow h.0 a) s h.1, canonical_after ctx h.0 u h.2)

  marked_after : (t : Lambda) (m : Marks) → IsMarked before t m → IsMarked after t m
  marked_after t m h = record {
    marks = h.marks;
    typed = record { ctx = h.typed.ctx; type = h.typed.type; canonical = canonical_after h.typed.ctx h.typed.type t h.typed.canonical };
  }

  pub sound_more : (es : List ShapeEntry) → AreSound before es → AreSound after es
  sound_more es h = record { below = h.below; marked = λ k e g. marked_after (term_at (entry_terms es) k) e.1 (h.marked k e g) }

  pub scope_more : IsScope before → is_declared bases more ≡ true → IsScope after
  scope_more h d = record { names_declared = h.names_declared; witnesses_declared = declared-end bases wits more h.witnesses_declared d }
