-- Statements are read one after the other.
use Rattle.std.proofs.Common.{Result, ap}
use Rattle.type_check.specs.Outcome.{◌>>=◌}
use Rattle.type_check.specs.Checks.{IsIll}
use Rattle.type_check.specs.Statements.{IllInFile}
use Rattle.type_check.specs.declared.refusal.Ill.{Ill}
use Rattle.type_check.specs.declared.refusal.Ill.TheVariants.{At, Memory}

-- what a reading refuses is refused
pub ill-then : {A B : Type 0} (e : Ill) (r : Result A IllInFile) (f : A → Result B IllInFile) → IsIll e r → IsIll e (r >>= f)
ill-then (At file at why) r f h = ap (λ r. r >>= f) h
ill-then Memory r f h = tt
