-- Lines that are right.
use Rattle.stt_core.specs.Typing.{Scope}
use Rattle.tableau_calculus.specs.Accepted.{AreRightLines}
use Rattle.tableau_calculus.specs.declared.refutation.Refutation.{Refutation}

-- all lines of the refutation are right
abbrev pub AreRightIn : Scope → Refutation → Type 0
AreRightIn scope r = AreRightLines scope r.witnesses r.lines
