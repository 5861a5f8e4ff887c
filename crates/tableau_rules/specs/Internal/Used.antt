-- Drafts of what a rule takes, by numbers.
use Rattle.std.specs.Prelude.{◌≡◌, ℕ, List, Option, Some, None}
use Rattle.sat_base.specs.declared.literal.SatLit.{SatLit}
use Rattle.tableau_calculus.specs.Literals.{Literal}
use Rattle.tableau_calculus.specs.Witnesses.{Row}
use Rattle.tableau_calculus.specs.declared.rule_use.OnePlace.TheVariants.{AllNeg}
use Rattle.tableau_calculus.specs.declared.rule_use.RuleUse.TheVariants.{AtOne}
use Rattle.term_bank.specs.Content.{Content}
use Rattle.literal_map.specs.Numbers.{UseByNumbers}
use Rattle.tableau_rules.specs.Uses.{IsInstanceBy}
use Rattle.tableau_rules.specs.Changes.{denial_of, AreWitnessesBy}
use Rattle.tableau_rules.specs.Internal.Drafted.{alternatives_at, AreDraftedWithin}
use Rattle.tableau_rules.specs.declared.draft.Signed.{Signed}

-- the drafts are the alternatives of the rule's instance over these rows, or it has none over any rows
abbrev pub DraftedBy : Content → List ℕ → List Row → UseByNumbers → Option (List (List Signed)) → Type 0
DraftedBy b atoms rows by (Some ds) = AreDraftedWithin b ds × IsInstanceBy b atoms rows by (alternatives_at b ds)
DraftedBy b atoms rows by None = (others : List Row) (as' : List (List Literal)) → IsInstanceBy b atoms others by as' → ⊥

-- the witnesses where the rule has an instance, and where it has none
abbrev pub WitnessesWhere : Content → List ℕ → UseByNumbers → List ℕ → List ℕ → Option (List (List Signed)) → Type 0
WitnessesWhere b atoms by old new (Some ds) = AreWitnessesBy b atoms by old new
WitnessesWhere b atoms by old new None = new ≡ old

-- the rule is the one that makes a witness for this literal, or makes none
abbrev pub IsDenialOf : UseByNumbers → Option SatLit → Type 0
IsDenialOf by (Some l) = by ≡ AtOne AllNeg l
IsDenialOf by None = denial_of by ≡ None
