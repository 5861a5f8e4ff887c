-- Types for witnesses, and the witness of a predicate.
use Rattle.std.specs.Prelude.{◌≡◌, ℕ, ◌<◌, List, map, length, Option, Some, None, ◌⊎◌}
use Rattle.stt_core.specs.SimpleType.{SimpleType}
use Rattle.stt_core.specs.Lambda.{every}
use Rattle.tableau_calculus.specs.Literals.{Literal, minus}
use Rattle.tableau_calculus.specs.Witnesses.{Row}
use Rattle.tableau_calculus.specs.Rules.{PlainRule, IsInstance}
use Rattle.term_bank.specs.Content.{Content, content_scope}
use Rattle.term_bank.specs.Terms.{term_at}
use Rattle.witness_names.specs.Rows.{rows_of, AreRows, with_predicate}
use Rattle.tableau_rules.specs.Changes.{Widens}
use Rattle.tableau_rules.specs.Internal.Drafted.{principal_at, alternatives_at, AreDraftedWithin}
use Rattle.tableau_rules.specs.declared.draft.Principal.{Principal}
use Rattle.tableau_rules.specs.declared.draft.Signed.{Signed}

-- the bank has types for further witnesses of the table, and the terms that it had
pub record Declares (old new : Content) (ids : List ℕ) : Type 0 where
  pub widens : Widens old new
  pub terms : new.terms ≡ old.terms
  pub rows : AreRows new ids

-- the bank has the types of all witnesses of the table
abbrev pub AreDeclaredIn : Content → List ℕ → Type 0
AreDeclaredIn b ids = map (λ r. r.type) (rows_of b.terms ids) ≡ b.witnesses

-- the principal says that a predicate doesn't hold everywhere, and the witnesses are those before with one for it
pub record IsWitnessed (b : Content) (p : Principal) (old new : List ℕ) : Type 0 where
  pub type : SimpleType
  pub predicate : ℕ
  pub within : predicate < length b.terms
  pub denies : principal_at b p ≡ minus (every type (term_at b.terms predicate))
  pub added : new ≡ with_predicate old predicate

-- the drafts are the alternatives of the rule's instance over these rows, or it has none over any rows
abbrev pub DraftedOver : Content → List Row → List Principal → PlainRule → Option (List (List Signed)) → Type 0
DraftedOver b rows ps rule (Some ds) =
    AreDraftedWithin b ds × IsInstance (content_scope b) rows (map (principal_at b) ps) rule (alternatives_at b ds)
DraftedOver b rows ps rule None =
    (others : List Row) (as' : List (List Literal)) → IsInstance (content_scope b) others (map (principal_at b) ps) rule as' → ⊥

-- the witnesses where the rule has an instance, and where it has none
abbrev pub WitnessedWhere : Content → Principal → List ℕ → List ℕ → Option (List (List Signed)) → Type 0
WitnessedWhere b p old new (Some ds) = IsWitnessed b p old new
WitnessedWhere b p old new None = new ≡ old

-- the witnesses where memory ran out
abbrev pub MayBeWitnessed : Content → Principal → List ℕ → List ℕ → Type 0
MayBeWitnessed b p old new = (new ≡ old) ⊎ IsWitnessed b p old new
