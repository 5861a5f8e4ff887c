-- Problems as they are stated, with the names of what they declare.
use Rattle.std.specs.Prelude.{Bool, List, Option}
use Rattle.stt_core.specs.Lambda.{Lambda}
use Rattle.stt_core.specs.Declarations.{Declarations}

-- A problem: what is declared; the formulas that are assumed, in order, with a mark for each of them that tells whether it is stated as a
-- definition; and the conjecture, where there is one. It asks whether each model of the assumed formulas is one of the conjecture, or,
-- without a conjecture, whether they have no model.
pub record PlainProblem : Type 0 where
  pub declared : Declarations
  pub assumed : List Lambda
  pub marked : List Bool
  pub conjecture : Option Lambda
