use Rattle.std.proofs.Common.{◌+◌, length, [], ◌∷◌, ◌++◌, ◌≡◌, refl, sym, ap, ◌∙◌, subst, arith}
use Rattle.tableau_calculus.specs.Accepted.{Within, AreRightAfter, AreRightLines, EndsWithin}
use Rattle.tableau_calculus.specs.Witnesses.{with_rows, IsTable}
use Rattle.tableau_calculus.proofs.Soundness.{accepted_closes_start}
use Rattle.tableau_calculus.proofs.ListLaws.{within-itself}
use Rattle.rebuild_spec.specs.Input.{literals_of}
use Rattle.rebuild_spec.specs.Trimmed.{IsEachReached}
use Rattle.rebuild_spec.specs.NeededRows.{rows_for_lines}
use Rattle.rebuild_spec.proofs.TrimLaws.{lines_kept, table_kept}
use Rattle.plain_tableau.specs.Trees.{nodes_in}
use Rattle.plain_tableau.specs.Expansion.{found}
use Rattle.plain_tableau.specs.Lines.{tree_children, node_line, lines_for_tree, lines_for_trees}
use Rattle.plain_tableau.specs.Laws.{TreeIsAccepted, TreeHasNoCut}
use Rattle.tableau_calculus.specs.CutFree.{HasNoCut}
use Rattle.plain_tableau.proofs.GrownLaws.{tree_within, expansion_whole}
use Rattle.plain_tableau.proofs.LineLaws.{count, lines_right}
use Rattle.plain_tableau.proofs.CutLaws.{no_cut}
use Rattle.plain_tableau.proofs.ReachedLaws.{each_reached}
use Rattle.plain_tableau.proofs.law.tree_is_accepted.Goals as goal

accepted : TreeIsAccepted
accepted = λ scope rows atoms used limit start t refutation given expansion is.
    let wide = with_rows scope rows in
    let whole = expansion_whole wide rows atoms used given.instances limit start (found t) expansion t refl in
    let n = rows_for_lines rows refutation.lines in
    let right = subst (AreRightAfter wide rows []) (sym is.lines) (lines_right wide rows atoms given.formulas [] 0 refl t start whole.grown) in
    let kept = lines_kept scope rows n given.table [] refutation.lines (omega arith) right in
    record {
      table = subst (IsTable scope) (sym is.needed) (table_kept scope rows n given.table);
      lines = subst (λ rs. AreRightLines scope rs refutation.lines) (sym is.needed) kept;
      last = record {
        front = lines_for_trees atoms 0 whole.children;
        last = node_line atoms whole.instance start (tree_children 0 whole.children);
        are = is.lines ∙ ap (lines_for_tree atoms 0) whole.is;
        within = within-itself (literals_of atoms start);
      };
    }

pub returns-clause-accepted : goal.returns-clause-accepted
returns-clause-accepted c = accepted

pub returns-clause-closed : goal.returns-clause-closed
returns-clause-closed c = λ scope rows atoms used limit start t refutation given expansion is.
    accepted_closes_start scope (literals_of atoms start) refutation (accepted scope rows atoms used limit start t refutation given expansion is)

pub returns-clause-no_cut : goal.returns-clause-no_cut
returns-clause-no_cut c = λ scope rows atoms used limit start t refutation given expansion is.
    let wide = with_rows scope rows in
    let whole = expansion_whole wide rows atoms used given.instances limit start (found t) expansion t refl in
    subst HasNoCut (sym is.lines) (no_cut wide rows atoms 0 t start whole.grown)

pub returns-clause-within : goal.returns-clause-within
returns-clause-within c = λ rows atoms used limit start t refutation expansion is.
    let within = tree_within limit used start (found t) expansion in
    (ap length is.lines ∙ count atoms 0 t, omega (arith, within))

pub returns-clause-reached : goal.returns-clause-reached
returns-clause-reached c = λ atoms rows t refutation is. subst IsEachReached (sym is.lines) (each_reached atoms t)
