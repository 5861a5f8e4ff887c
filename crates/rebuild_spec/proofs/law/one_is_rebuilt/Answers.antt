use Rattle.rebuild_spec.proofs.ExistsLaws.{HasStanding, result_stands, empty_line}
use Rattle.std.proofs.Common.{◌≡◌, ◌+◌, ℕ, List, map, take, length, [], Some, slice_get, refl, sym, ap, ap₂, subst, ◌∙◌, arith}
use Rattle.tableau_calculus.specs.Witnesses.{Row}
use Rattle.tableau_calculus.specs.declared.refutation.Line.{Line}
use Rattle.tableau_calculus.specs.declared.refutation.Refutation.{Refutation}
use Rattle.sat_log.specs.declared.log.LogEntry.{LogEntry}
use Rattle.sat_log.specs.Chains.{IsLogOver}
use Rattle.rebuild_spec.specs.Input.{Input, clause_in}
use Rattle.rebuild_spec.specs.Trees.{at_result}
use Rattle.rebuild_spec.specs.Stands.{line, Stands}
use Rattle.rebuild_spec.specs.Lines.{lines_from}
use Rattle.rebuild_spec.specs.NeededRows.{rows_for_lines}
use Rattle.rebuild_spec.specs.Rebuilt.{IsRebuilt}
use Rattle.rebuild_spec.proofs.StandsLaws.{one_stands}
use Rattle.rebuild_spec.proofs.law.one_is_rebuilt.Goals as goal

one_rebuilt : (input : Input) (r q : Refutation) → IsRebuilt input r → IsRebuilt input q → r ≡ q
one_rebuilt input r q h k =
    let number : h.number ≡ k.number = omega (arith, h.is_last, k.is_last) in
    let both = one_stands input (at_result h.number) [] [] (line h.last) (line k.last) h.stands (subst (λ n. Stands input (at_result n) [] (line k.last)) (sym number) k.stands) in
    let standing : line h.last ≡ line k.last = both.1 in
    let trees : h.last ≡ k.last = cc in
    let lines : r.lines ≡ q.lines = h.lines ∙ ap (lines_from input.atoms) trees ∙ sym k.lines in
    let rows : r.witnesses ≡ q.witnesses = h.rows ∙ ap (λ ls. take (rows_for_lines input.rows ls) input.rows) lines ∙ sym k.rows in
    ap₂ (λ (ws : List Row) (ls : List Line). let x : Refutation = record { witnesses = ws; lines = ls } in x) rows lines

some_rebuilt : (input : Input) (n : ℕ) (entry : LogEntry) → IsLogOver (map clause_in input.clauses) input.log → length input.log ≡ n + 1 → slice_get input.log n ≡ Some entry → entry.result ≡ [] → (refutation : Refutation) × IsRebuilt input refutation
some_rebuilt input n entry right count at empty =
    let there = subst (HasStanding input (at_result n)) empty (result_stands input right n entry at) in
    let last = empty_line input (at_result n) there in
    let lines = lines_from input.atoms last.tree in
    (record { witnesses = take (rows_for_lines input.rows lines) input.rows; lines = lines }, record { number = n; is_last = count; last = last.tree; stands = last.stands; lines = refl; rows = refl })

pub returns-clause-some : goal.returns-clause-some
returns-clause-some c = λ input n entry right count at empty. some_rebuilt input n entry right count at empty

pub returns-clause-one : goal.returns-clause-one
returns-clause-one c = λ input r q h k. one_rebuilt input r q h k
