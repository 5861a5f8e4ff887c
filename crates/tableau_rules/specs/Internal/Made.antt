-- The alternatives of an instance that has no numbers for them yet.
use Rattle.std.specs.Prelude.{◌≡◌, ℕ, List, map}
use Rattle.tableau_calculus.specs.Witnesses.{Row}
use Rattle.term_bank.specs.Content.{Content}
use Rattle.literal_map.specs.Numbers.{UseByNumbers}
use Rattle.tableau_rules.specs.Uses.{IsInstanceBy}
use Rattle.tableau_rules.specs.Internal.Drafted.{alternatives_at, AreDraftedWithin}
use Rattle.tableau_rules.specs.declared.draft.Signed.{Signed}

-- the drafts are the alternatives of the rule's instance over some rows, whose witnesses are those that are declared
pub record AreDraftsOf (b : Content) (atoms : List ℕ) (by : UseByNumbers) (ds : List (List Signed)) : Type 0 where
  pub rows : List Row
  pub types : b.witnesses ≡ map (λ r. r.type) rows
  pub within : AreDraftedWithin b ds
  pub instance : IsInstanceBy b atoms rows by (alternatives_at b ds)
