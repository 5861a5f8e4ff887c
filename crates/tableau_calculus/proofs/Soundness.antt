-- No model meets a start for which a refutation is accepted.
use Rattle.std.proofs.Common.{List, [], refl}
use Rattle.stt_core.specs.Typing.{Scope}
use Rattle.stt_core.specs.Meaning.{Model, IsModel}
use Rattle.tableau_calculus.specs.Literals.{Literal}
use Rattle.tableau_calculus.specs.Meets.{MeetsBranch}
use Rattle.tableau_calculus.specs.Witnesses.{with_rows, NoneNamesWitness}
use Rattle.tableau_calculus.specs.Accepted.{IsAccepted}
use Rattle.tableau_calculus.specs.Closed.{Closes, tableau_of}
use Rattle.tableau_calculus.specs.declared.refutation.Refutation.{Refutation}
use Rattle.tableau_calculus.proofs.ClosedLaws.{last_refutes, meets-within}
use Rattle.tableau_calculus.proofs.AcceptedLaws.{accepted_closes}
use Rattle.tableau_calculus.specs.Along.{witness_list, extended}
use Rattle.tableau_calculus.proofs.WitnessLaws.{met-rows}
use Rattle.tableau_calculus.proofs.AlongLaws.{extended_is_model, extended_along}

module _ (scope : Scope) (start : List Literal) (refutation : Refutation) (accepted : IsAccepted scope start refutation) where
  -- the tableau of an accepted refutation closes the start
  pub accepted_closes_start : Closes scope refutation.witnesses (tableau_of refutation) start
  accepted_closes_start = accepted_closes scope start refutation accepted start accepted.last.within

  -- no model meets a start that names no witness and for which a refutation is accepted
  pub accepted_refutes : NoneNamesWitness start → (m : Model) → IsModel scope m → MeetsBranch scope m start → ⊥
  accepted_refutes unnamed m good met =
      let rows = refutation.witnesses in
      let last = accepted.last in
      last_refutes (with_rows scope rows) rows refl (extended scope m rows) (extended_is_model scope rows m good) (extended_along scope rows accepted.table m)
      last.front last.last refutation.lines [] last.are tt accepted.lines
      (meets-within (with_rows scope rows) (extended scope m rows) last.last.branch start last.within (met-rows scope rows m (witness_list (with_rows scope rows) m [] rows) start unnamed met))
