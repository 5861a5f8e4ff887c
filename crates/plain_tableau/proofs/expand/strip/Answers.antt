use Rattle.std.proofs.Common.{◌≡◌, ◌≤◌, ℕ, List, sym, subst, ◌∙◌}
use Rattle.std.proofs.lemmas.Result.{IfOk-weaker}
use Rattle.stt_core.specs.Lambda.{Lambda}
use Rattle.stt_core.specs.Typing.{Scope}
use Rattle.tableau_calculus.specs.Literals.{Literal}
use Rattle.tableau_calculus.specs.Witnesses.{Row}
use Rattle.tableau_calculus.specs.Accepted.{Within, IsAccepted}
use Rattle.tableau_calculus.specs.Closed.{Closes, tableau_of}
use Rattle.tableau_calculus.proofs.Soundness.{accepted_closes_start}
use Rattle.sat_base.specs.declared.literal.SatLit.{SatLit}
use Rattle.term_bank.specs.Content.{content_scope}
use Rattle.witness_names.specs.Rows.{rows_of}
use Rattle.tableau_clauses.specs.Table.{Table}
use Rattle.rebuild_spec.specs.Input.{literals_of}
use Rattle.rebuild_spec.specs.Trimmed.{IsEachReached}
use Rattle.tableau_rebuild.specs.Tables.{atoms_at, unit_literals}
use Rattle.plain_tableau.specs.Trees.{TreeInstance}
use Rattle.plain_tableau.specs.Given.{AreInstancesGiven}
use Rattle.plain_tableau.specs.Laws.{TreeIsAccepted, TreeHasNoCut, TreeIsReached, TreeIsWithin}
use Rattle.tableau_calculus.specs.CutFree.{HasNoCut}
use Rattle.plain_tableau.specs.Tables.{the_used, start_branch, IsStripped, OfTree, IsWithinLimit}
use Rattle.plain_tableau.specs.declared.stripped.Stripped.{Stripped}
use Rattle.plain_tableau.specs.declared.stripped.Stripped.TheVariants.{Tree as Whole, Open, Over}
use Rattle.plain_tableau.proofs.TableLaws.{tables_given, start_within, accepted_wider}
use Rattle.plain_tableau.proofs.expand.strip.Goals as goal

module _ (scope : Scope) (rows : List Row) (atoms : List Lambda) (used : List (TreeInstance SatLit)) (limit : ℕ) (start : List SatLit) (wider : List Literal) where
  all_accepted : TreeIsAccepted → AreInstancesGiven scope rows atoms used → Within (literals_of atoms start) wider → (s : Stripped) → IsStripped atoms rows used limit start s → OfTree (IsAccepted scope wider) s
  all_accepted law given within (Whole refutation n) h = accepted_wider scope (literals_of atoms start) wider refutation within (law scope rows atoms used limit start h.0 refutation given h.1 h.3)
  all_accepted law given within (Open branch) h = tt
  all_accepted law given within (Over n) h = tt

  all_closed : (s : Stripped) → OfTree (IsAccepted scope wider) s → OfTree (λ refutation. Closes scope refutation.witnesses (tableau_of refutation) wider) s
  all_closed (Whole refutation n) h = accepted_closes_start scope wider refutation h
  all_closed (Open branch) h = tt
  all_closed (Over n) h = tt

  none_cut : TreeHasNoCut → AreInstancesGiven scope rows atoms used → (s : Stripped) → IsStripped atoms rows used limit start s → OfTree (λ refutation. HasNoCut refutation.lines) s
  none_cut law given (Whole refutation n) h = law scope rows atoms used limit start h.0 refutation given h.1 h.3
  none_cut law given (Open branch) h = tt
  none_cut law given (Over n) h = tt

  all_reached : TreeIsReached → (s : Stripped) → IsStripped atoms rows used limit start s → OfTree (λ refutation. IsEachReached refutation.lines) s
  all_reached law (Whole refutation n) h = law atoms rows h.0 refutation h.3
  all_reached law (Open branch) h = tt
  all_reached law (Over n) h = tt

  all_within : TreeIsWithin → (s : Stripped) → IsStripped atoms rows used limit start s → IsWithinLimit limit s
  all_within law (Whole refutation n) h =
      let lines = law rows atoms used limit start h.0 refutation h.1 h.3 in
      (lines.0 ∙ sym h.2, subst (λ m. m ≤ limit) (sym h.2) lines.1)
  all_within law (Open branch) h = tt
  all_within law (Over n) h = tt

-- over the list itself, and from the start
stripped : (A : List Lambda) (rows : List Row) (terms : List Lambda) (atoms : List ℕ) (t : Table) (us used : List ℕ) (limit : ℕ) (keys start : List SatLit) (s : Stripped) → us ≡ used → keys ≡ start → IsStripped A rows (the_used terms atoms t us) limit keys s → IsStripped A rows (the_used terms atoms t used) limit start s
stripped A rows terms atoms t us used limit keys start s e f h =
    subst (λ ks. IsStripped A rows (the_used terms atoms t used) limit ks s) f (subst (λ vs. IsStripped A rows (the_used terms atoms t vs) limit keys s) e h)

pub returns-clause-exactly : goal.returns-clause-exactly
returns-clause-exactly c =
    let b = c.args.bank.now in
    let atoms = c.args.lits.now in
    let t = c.args.steps.now in
    let A = atoms_at b.terms atoms in
    let rows = rows_of b.terms c.args.witnesses.now in
    IfOk-weaker c.from_path.result _ _
    (λ s h. stripped A rows b.terms atoms t c.as_slice-used.result.now c.args.used.now c.args.nodes c.in_ok-path.path.literals.keys (start_branch t) s c.as_slice-used.ensures c.in_ok-path.ensures.start h)
    c.from_path.ensures.exactly

pub returns-clause-accepted : goal.returns-clause-accepted
returns-clause-accepted c =
    let b = c.args.bank.now in
    let atoms = c.args.lits.now in
    let t = c.args.steps.now in
    let A = atoms_at b.terms atoms in
    let rows = rows_of b.terms c.args.witnesses.now in
    let U = the_used b.terms atoms t c.args.used.now in
    let given = tables_given b atoms c.args.witnesses.now t c.requires.rows c.requires.atoms c.args.used.now c.requires.used in
    IfOk-weaker c.from_path.result _ _
    (λ s h. all_accepted (content_scope b) rows A U c.args.nodes (start_branch t) (unit_literals A t.0) c.tree_is_accepted.ensures.accepted given (start_within A t) s h)
    (returns-clause-exactly c)

pub returns-clause-closed : goal.returns-clause-closed
returns-clause-closed c =
    let b = c.args.bank.now in
    let atoms = c.args.lits.now in
    let t = c.args.steps.now in
    let A = atoms_at b.terms atoms in
    IfOk-weaker c.from_path.result _ _
    (λ s h. all_closed (content_scope b) (rows_of b.terms c.args.witnesses.now) A (the_used b.terms atoms t c.args.used.now) c.args.nodes (start_branch t) (unit_literals A t.0) s h)
    (returns-clause-accepted c)

pub returns-clause-no_cut : goal.returns-clause-no_cut
returns-clause-no_cut c =
    let b = c.args.bank.now in
    let atoms = c.args.lits.now in
    let t = c.args.steps.now in
    let A = atoms_at b.terms atoms in
    let given = tables_given b atoms c.args.witnesses.now t c.requires.rows c.requires.atoms c.args.used.now c.requires.used in
    IfOk-weaker c.from_path.result _ _
    (λ s h. none_cut (content_scope b) (rows_of b.terms c.args.witnesses.now) A (the_used b.terms atoms t c.args.used.now) c.args.nodes (start_branch t) (unit_literals A t.0) c.tree_is_accepted.ensures.no_cut given s h)
    (returns-clause-exactly c)

pub returns-clause-within : goal.returns-clause-within
returns-clause-within c =
    let b = c.args.bank.now in
    let atoms = c.args.lits.now in
    let t = c.args.steps.now in
    let A = atoms_at b.terms atoms in
    IfOk-weaker c.from_path.result _ _
    (λ s h. all_within (content_scope b) (rows_of b.terms c.args.witnesses.now) A (the_used b.terms atoms t c.args.used.now) c.args.nodes (start_branch t) (unit_literals A t.0) c.tree_is_accepted.ensures.within s h)
    (returns-clause-exactly c)

pub returns-clause-reached : goal.returns-clause-reached
returns-clause-reached c =
    let b = c.args.bank.now in
    let atoms = c.args.lits.now in
    let t = c.args.steps.now in
    let A = atoms_at b.terms atoms in
    IfOk-weaker c.from_path.result _ _
    (λ s h. all_reached (content_scope b) (rows_of b.terms c.args.witnesses.now) A (the_used b.terms atoms t c.args.used.now) c.args.nodes (start_branch t) (unit_literals A t.0) c.tree_is_accepted.ensures.reached s h)
    (returns-clause-exactly c)
