use Rattle.std.specs.Prelude.{reverse}
use Rattle.std.proofs.Common.{◌≡◌, [], None, sym, subst, ◌∙◌}
use Rattle.std.proofs.lemmas.Result.{IfOk-weaker}
use Rattle.sat_base.specs.Literal.{negated, holds}
use Rattle.search_spec.specs.Numbered.{numbers}
use Rattle.tableau_rebuild.specs.Tables.{atoms_at}
use Rattle.witness_names.specs.Rows.{rows_of}
use Rattle.plain_tableau.specs.Expansion.{first_clash}
use Rattle.plain_tableau.specs.Tables.{the_used, IsStripped}
use Rattle.plain_tableau.specs.Internal.Walking.{IsAhead}
use Rattle.plain_tableau.proofs.ListLaws.{none_passes}
use Rattle.plain_tableau.proofs.MachineLaws.{begins}
use Rattle.plain_tableau.proofs.expand.grown.Goals as goal

pub walked-requires-clause-writing : goal.walked-requires-clause-writing
walked-requires-clause-writing c = c.new-walk.ensures.writing c.args.bank.now c.args.atoms.now c.args.witnesses.now

pub walked-requires-clause-ahead : goal.walked-requires-clause-ahead
walked-requires-clause-ahead c =
    let b = c.args.bank.now in
    let atoms = c.args.atoms.now in
    let U = the_used b.terms atoms c.args.steps.now c.args.used.now in
    let A = atoms_at b.terms atoms in
    let keys = c.args.path.literals.keys in
    let made = c.new-walk.ensures in
    let same : c.deref.result.now ≡ keys = c.deref.ensures.value ∙ c.in_ok-start.ensures.items_if_clones_equal (λ x y e. e) ∙ c.as_slice.ensures in
    let first = begins U c.args.nodes keys A (none_passes (λ m. holds keys (negated m)) keys c.requires.open) in
    subst (λ s. IsAhead U c.args.nodes s A 0 (reverse c.new-walk.result.frames.items) c.new-walk.result.path.literals.keys c.new-walk.result.writing.lines) (sym same)
    (subst (λ fs. IsAhead U c.args.nodes keys A 0 (reverse fs) c.new-walk.result.path.literals.keys c.new-walk.result.writing.lines) (sym made.none)
    (subst (λ p. IsAhead U c.args.nodes keys A 0 [] p.literals.keys c.new-walk.result.writing.lines) (sym made.path) (subst (λ ls. IsAhead U c.args.nodes keys A 0 [] keys ls) (sym made.lines) first)))

pub walked-requires-clause-open : goal.walked-requires-clause-open
walked-requires-clause-open c =
    let same : c.deref.result.now ≡ c.args.path.literals.keys = c.deref.ensures.value ∙ c.in_ok-start.ensures.items_if_clones_equal (λ x y e. e) ∙ c.as_slice.ensures in
    subst (λ ks. first_clash numbers ks ≡ None) (sym same) c.requires.open

pub returns-clause-exactly : goal.returns-clause-exactly
returns-clause-exactly c =
    let b = c.args.bank.now in
    let atoms = c.args.atoms.now in
    let U = the_used b.terms atoms c.args.steps.now c.args.used.now in
    let A = atoms_at b.terms atoms in
    let rows = rows_of b.terms c.args.witnesses.now in
    let same : c.deref.result.now ≡ c.args.path.literals.keys = c.deref.ensures.value ∙ c.in_ok-start.ensures.items_if_clones_equal (λ x y e. e) ∙ c.as_slice.ensures in
    IfOk-weaker c.walked.result _ _ (λ s h. subst (λ ks. IsStripped A rows U c.args.nodes ks s) same h) c.walked.ensures.exactly
