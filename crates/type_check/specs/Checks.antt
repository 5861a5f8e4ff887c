-- What a check answers, against what is defined.
use Rattle.std.specs.Prelude.{◌≡◌, Result, Err}
use Rattle.type_check.specs.Statements.{IllInFile}
use Rattle.type_check.specs.declared.refusal.Ill.{Ill}
use Rattle.type_check.specs.declared.refusal.Ill.TheVariants.{At, Memory}

-- The refusal is the type error that is defined, or that memory ran out, which may happen anywhere.
abbrev pub IsIll : {B : Type 0} → Ill → Result B IllInFile → Type 0
IsIll (At file at why) defined = defined ≡ Err (record { file = file; at = at; why = why })
IsIll Memory defined = Unit {0}
