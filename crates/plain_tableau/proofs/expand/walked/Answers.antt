use Rattle.std.proofs.Common.{◌≡◌, List, [], ◌∷◌, refl, ap, subst, ◌∙◌}
use Rattle.sat_base.specs.declared.literal.SatLit.{SatLit}
use Rattle.search_spec.specs.Numbered.{numbers}
use Rattle.tableau_rebuild.specs.Tables.{atoms_at}
use Rattle.rebuild_spec.specs.Input.{literals_of}
use Rattle.plain_tableau.specs.Expansion.{found, open_at, over, Expands, grows}
use Rattle.plain_tableau.specs.Tables.{the_used}
use Rattle.plain_tableau.specs.Internal.Walking.{IsWalkDone, ComesTo}
use Rattle.plain_tableau.proofs.expand.walked.Goals as goal

pub returns-in_ok-refutation-in-Whole-clause-exactly : goal.returns-in_ok-refutation-in-Whole-clause-exactly
returns-in_ok-refutation-in-Whole-clause-exactly c =
    let b = c.args.bank.now in
    let atoms = c.args.atoms.now in
    let U = the_used b.terms atoms c.args.steps.now c.args.used.now in
    let A = atoms_at b.terms atoms in
    let done = subst (ComesTo U c.args.nodes c.args.start.now A c.grow.new.self.path.literals.keys c.grow.new.self.writing.lines) c.in-Whole.is c.in_ok-made.ensures.comes in
    (done.tree, grows (found done.tree) c.requires.open done.expands, done.count, record { lines = c.in_ok-refutation-in-Whole.ensures.lines ∙ done.are_lines; needed = c.in_ok-refutation-in-Whole.ensures.rows })

pub returns-in_ok-branch-in-Open-clause-exactly : goal.returns-in_ok-branch-in-Open-clause-exactly
returns-in_ok-branch-in-Open-clause-exactly c =
    let b = c.args.bank.now in
    let atoms = c.args.atoms.now in
    let U = the_used b.terms atoms c.args.steps.now c.args.used.now in
    let A = atoms_at b.terms atoms in
    let branch = c.grow.new.self.path.literals.keys in
    let comes = subst (ComesTo U c.args.nodes c.args.start.now A branch c.grow.new.self.writing.lines) c.in-Open.is c.in_ok-made.ensures.comes in
    (branch, grows (open_at branch) c.requires.open comes, c.in_ok-branch-in-Open.ensures)

pub returns-in-Over-clause-exactly : goal.returns-in-Over-clause-exactly
returns-in-Over-clause-exactly c =
    let b = c.args.bank.now in
    let atoms = c.args.atoms.now in
    let U = the_used b.terms atoms c.args.steps.now c.args.used.now in
    let A = atoms_at b.terms atoms in
    let comes = subst (ComesTo U c.args.nodes c.args.start.now A c.grow.new.self.path.literals.keys c.grow.new.self.writing.lines) c.in-Over.is c.in_ok-made.ensures.comes in
    (grows over c.requires.open comes, refl)
