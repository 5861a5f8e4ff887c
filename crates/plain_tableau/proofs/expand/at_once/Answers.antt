use Rattle.std.proofs.Common.{◌≡◌, ◌<◌, ◌++◌, List, [], ◌∷◌, refl, ap, ap₂, ◌∙◌, arith}
use Rattle.sat_base.specs.declared.literal.SatLit.{SatLit}
use Rattle.tableau_calculus.specs.declared.refutation.Line.{Line}
use Rattle.search_spec.specs.Numbered.{numbers}
use Rattle.tableau_rebuild.specs.Tables.{atoms_at}
use Rattle.plain_tableau.specs.Trees.{node, none}
use Rattle.plain_tableau.specs.Expansion.{closing, at_once, not_at_once}
use Rattle.plain_tableau.specs.Lines.{node_line}
use Rattle.plain_tableau.proofs.BegunLaws.{begun}
use Rattle.plain_tableau.proofs.expand.at_once.Goals as goal

pub returns-then-nodes-eq0-clause-exactly : goal.returns-then-nodes-eq0-clause-exactly
returns-then-nodes-eq0-clause-exactly c = (not_at_once c.args.lit c.requires.clash c.if-nodes-eq0.true, refl)

pub returns-clause-exactly : goal.returns-clause-exactly
returns-clause-exactly c =
    let keys = c.args.path.literals.keys in
    let l = c.args.lit in
    let A = atoms_at c.args.bank.now.terms c.args.atoms.now in
    let lines = c.in_ok-refutation.ensures.lines ∙ c.in_ok-write_closing.ensures.lines ∙ ap₂ (λ (ls : List Line) (ks : List SatLit). ls ++ node_line A (closing numbers l) ks [] ∷ []) c.new-writing.ensures.lines c.as_slice.ensures in
    (node (closing numbers l) keys none, at_once l c.requires.clash (omega (arith, c.if-nodes-eq0.false)), refl, record { lines = lines; needed = c.in_ok-refutation.ensures.rows })

pub write_closing-requires-clause-writing : goal.write_closing-requires-clause-writing
write_closing-requires-clause-writing c = begun c.new-writing.result c.new-writing.ensures.lines c.new-writing.ensures.rows c.new-writing.ensures.made c.args.bank.now c.args.atoms.now c.args.witnesses.now
