-- What the code answers, against what is defined.
use Rattle.std.specs.Prelude.{◌≡◌, Result, Ok, Err}
use Rattle.stt_core.specs.PlainProblem.{PlainProblem}
use Rattle.type_check.specs.Outcome.{IllPlace}
use Rattle.type_check.specs.declared.refusal.Refusal.{Refusal}
use Rattle.type_check.specs.declared.refusal.Refusal.TheVariants.{At, Memory}

-- The refusal is the one that is defined, or that memory ran out, which may happen anywhere.
abbrev pub RefusesAt : {B : Type 0} → Refusal → Result B IllPlace → Type 0
RefusesAt (At at why) defined = defined ≡ Err (record { at = at; why = why })
RefusesAt Memory defined = Unit {0}

-- The answer is what is defined, as the plain value that the view makes of it.
abbrev pub AnswersCheck : {A B : Type 0} → (A → B) → Result A Refusal → Result B IllPlace → Type 0
AnswersCheck view (Ok a) defined = defined ≡ Ok (view a)
AnswersCheck view (Err e) defined = RefusesAt e defined

-- What was read is now the problem that is defined, where one is.
abbrev pub ReadsOn : PlainProblem → Result (Unit {0}) Refusal → Result PlainProblem IllPlace → Type 0
ReadsOn new (Ok x) defined = defined ≡ Ok new
ReadsOn new (Err e) defined = RefusesAt e defined
