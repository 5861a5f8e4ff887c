-- What a look at a clause finds, one of whose watched literals became false.
use Rattle.std.specs.Prelude.{◌≡◌, ◌≢◌, IsTrue, false, List, Option, Some}
use Rattle.sat_base.specs.declared.literal.SatLit.{SatLit}
use Rattle.sat_base.specs.Literal.{negated, holds}
use Rattle.sat_propagate.specs.Internal.Propagator.{IsPair, Watches}
use Rattle.sat_propagate.specs.Internal.ClauseTable.{Watched}
use Rattle.sat_propagate.specs.declared.propagator.Finding.{Finding}
use Rattle.sat_propagate.specs.declared.propagator.Finding.TheVariants.{Stale, Satisfied, Other, Unit as OnlyOpen, False as AllFalse}

-- all literals of a clause other than these two are false
abbrev pub AreOthersFalse : List SatLit → List SatLit → SatLit → SatLit → Type 0
AreOthersFalse literals clause a b = (l : SatLit) → IsTrue (holds clause l) → l ≢ a → l ≢ b → IsTrue (holds literals (negated l))

pub record FindsTrue (literals : List SatLit) (found : Option Watched) (falsified l : SatLit) : Type 0 where
  pub watched : Watched
  pub there : found ≡ Some watched
  pub named : Watches watched l
  pub true_now : IsTrue (holds literals l)

pub record FindsOther (literals : List SatLit) (found : Option Watched) (falsified l : SatLit) : Type 0 where
  pub watched : Watched
  pub there : found ≡ Some watched
  pub other : SatLit
  pub distinct : watched.first ≢ watched.second
  pub paired : IsPair watched falsified other
  pub member : IsTrue (holds watched.clause l)
  pub new : l ≢ falsified
  pub apart : l ≢ other
  pub undenied : holds literals (negated l) ≡ false

pub record FindsUnit (literals : List SatLit) (found : Option Watched) (falsified l : SatLit) : Type 0 where
  pub watched : Watched
  pub there : found ≡ Some watched
  pub named : Watches watched l
  pub untrue : holds literals l ≡ false
  pub undenied : holds literals (negated l) ≡ false
  pub rest : AreOthersFalse literals watched.clause falsified l

pub record FindsFalse (literals : List SatLit) (found : Option Watched) (falsified : SatLit) : Type 0 where
  pub watched : Watched
  pub there : found ≡ Some watched
  pub other : SatLit
  pub denied : IsTrue (holds literals (negated other))
  pub rest : AreOthersFalse literals watched.clause falsified other

abbrev pub Finds : List SatLit → Option Watched → SatLit → Finding → Type 0
Finds literals found falsified Stale =
    (watched : Watched) → found ≡ Some watched → watched.first ≢ watched.second → (watched.first ≢ falsified) × (watched.second ≢ falsified)
Finds literals found falsified (Satisfied l) = FindsTrue literals found falsified l
Finds literals found falsified (Other l) = FindsOther literals found falsified l
Finds literals found falsified (OnlyOpen l) = FindsUnit literals found falsified l
Finds literals found falsified AllFalse = FindsFalse literals found falsified
