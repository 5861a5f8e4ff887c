-- What the comparison of a conjecture's two sides is answered with.
use Rattle.stt_core.specs.PlainProblem.{PlainProblem}
use Rattle.conv_laws.specs.Sides.{AreSidesOf}
use Rattle.conv_laws.specs.declared.sides.Sides.TheVariants as compared
use Rattle.szs_report.specs.declared.answer.Answer.{Answer}
use Rattle.szs_report.specs.declared.answer.Answer.TheVariants.{Same, Different, NoEquation, Memory}

-- whether the sides are convertible; memory may run out
abbrev pub AnswersSides : PlainProblem → Answer → Type 0
AnswersSides p Memory = Unit {0}
AnswersSides p Same = AreSidesOf p compared.Same
AnswersSides p Different = AreSidesOf p compared.Different
AnswersSides p NoEquation = AreSidesOf p compared.NoEquation
AnswersSides p answer = ⊥
