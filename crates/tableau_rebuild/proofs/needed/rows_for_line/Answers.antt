use Rattle.std.proofs.Common.{◌≡◌, max, sym, ap, ap₂, subst, ◌∙◌}
use Rattle.literal_map.specs.declared.instance.Instance.{Instance as BankInstance}
use Rattle.tableau_calculus.specs.declared.refutation.Line.{Line}
use Rattle.witness_names.specs.Rows.{rows_of}
use Rattle.rebuild_spec.specs.NeededRows.{rows_for_all, rows_for_rule}
use Rattle.tableau_rebuild.specs.Tables.{atoms_at, the_instance}
use Rattle.tableau_rebuild.specs.Internal.LineParts.{instance_by, IsLineBy}
use Rattle.tableau_rebuild.specs.Internal.Needed.{HasParts}
use Rattle.tableau_rebuild.proofs.CopiedLaws.{copied_instance}
use Rattle.tableau_rebuild.proofs.needed.rows_for_line.Goals as goal

pub returns-in_ok-instance-in-Instance : goal.returns-in_ok-instance-in-Instance
returns-in_ok-instance-in-Instance c = λ numbers line is.
    let b = c.args.bank.now in
    let atoms = c.args.atoms.now in
    let t = c.args.steps.now in
    let branch = c.args.branch.now in
    let rows = rows_of b.terms c.args.witnesses.now in
    let copy = c.in_ok-instance-in-Instance.instance in
    let parts = subst (HasParts b atoms t) c.in-Clause.is c.requires.parts in
    let same : copy ≡ parts.0 = copied_instance b atoms t c.in-Clause.n parts.0 c.in-Instance.k copy parts.1 c.in-Instance.ensures c.in_ok-instance-in-Instance.ensures in
    let made : line ≡ instance_by (atoms_at b.terms atoms) branch (the_instance b.terms atoms copy) =
    subst (λ d. IsLineBy b atoms t numbers branch d line) c.in-Clause.is is parts.0 parts.1
    ∙ ap (λ (x : BankInstance). instance_by (atoms_at b.terms atoms) branch (the_instance b.terms atoms x)) (sym same) in
    c.max.ensures
    ∙ ap₂ max c.rows_for_branch-rows.ensures c.rows_for_instance-by_rule.ensures
    ∙ ap (λ (l : Line). max (rows_for_all l.branch) (rows_for_rule rows l.branch l.rule)) (sym made)
