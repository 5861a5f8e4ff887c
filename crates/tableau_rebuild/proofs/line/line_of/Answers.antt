use Rattle.std.proofs.Common.{◌≡◌, sym, ap, subst, ◌∙◌}
use Rattle.literal_map.specs.declared.instance.Instance.{Instance as BankInstance}
use Rattle.tableau_rebuild.specs.Conditions.{IsGoodUse}
use Rattle.tableau_rebuild.specs.Tables.{atoms_at, the_instance}
use Rattle.tableau_rebuild.specs.Internal.LineParts.{instance_by, IsMakeable, IsLineBy}
use Rattle.tableau_rebuild.proofs.CopiedLaws.{copied_instance, comes_from_no_start}
use Rattle.tableau_rebuild.proofs.line.line_of.Goals as goal

pub instance_line-requires-clause-good : goal.instance_line-requires-clause-good
instance_line-requires-clause-good c =
    let b = c.args.bank.now in
    let atoms = c.args.atoms.now in
    let t = c.args.steps.now in
    let copy = c.in_ok-instance-in-Instance.instance in
    let made = subst (IsMakeable b atoms t c.args.numbers.now) c.in-Clause.is c.requires.makeable in
    let same : copy ≡ made.0 = copied_instance b atoms t c.in-Clause.n made.0 c.in-Instance.k copy made.1 c.in-Instance.ensures c.in_ok-instance-in-Instance.ensures in
    subst (λ (x : BankInstance). IsGoodUse b atoms x.by) (sym same) made.1.good

pub unreachable-requires : goal.unreachable-requires
unreachable-requires c =
    let b = c.args.bank.now in
    let atoms = c.args.atoms.now in
    let t = c.args.steps.now in
    let made = subst (IsMakeable b atoms t c.args.numbers.now) c.in-Clause.is c.requires.makeable in
    comes_from_no_start b atoms t c.in-Clause.n made.0 made.1 c.in-Start.ensures

pub returns-in_ok-instance_line-in-Instance-clause-line : goal.returns-in_ok-instance_line-in-Instance-clause-line
returns-in_ok-instance_line-in-Instance-clause-line c =
    let b = c.args.bank.now in
    let atoms = c.args.atoms.now in
    let t = c.args.steps.now in
    let branch = c.args.branch.now in
    let copy = c.in_ok-instance-in-Instance.instance in
    let line = c.in_ok-instance_line-in-Instance.field-0 in
    subst (λ d. IsLineBy b atoms t c.args.numbers.now branch d line) (sym c.in-Clause.is)
    (λ i from.
    c.in_ok-instance_line-in-Instance.ensures.line
    ∙ ap (λ (x : BankInstance). instance_by (atoms_at b.terms atoms) branch (the_instance b.terms atoms x))
    (copied_instance b atoms t c.in-Clause.n i c.in-Instance.k copy from c.in-Instance.ensures c.in_ok-instance-in-Instance.ensures))
