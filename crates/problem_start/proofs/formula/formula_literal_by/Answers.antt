use Rattle.std.proofs.Common.{[], ap, sym, ◌∙◌, append-nil}
use Rattle.stt_core.specs.Lambda.{Lambda}
use Rattle.tableau_calculus.specs.Literals.{Literal}
use Rattle.term_bank.specs.Terms.{term_at}
use Rattle.literal_map.proofs.SignLaws.{unsigned_literal}
use Rattle.problem_start.proofs.formula.formula_literal_by.Goals as goal

pub lit_of-requires-clause-atoms : goal.lit_of-requires-clause-atoms
lit_of-requires-clause-atoms c = c.literals_stay.ensures.atoms c.args.bank.now c.formula_atom_by.new.bank c.formula_atom_by.ensures.grows c.args.lits.now c.requires.atoms

pub returns-in_err-signed-clause-atoms : goal.returns-in_err-signed-clause-atoms
returns-in_err-signed-clause-atoms c = c.literals_stay.ensures.atoms c.args.bank.now c.formula_atom_by.new.bank c.formula_atom_by.ensures.grows c.args.lits.now c.requires.atoms

pub returns-in_err-signed-clause-begins : goal.returns-in_err-signed-clause-begins
returns-in_err-signed-clause-begins c = record { further = []; is = sym (append-nil c.args.lits.now) }

pub returns-clause-literal : goal.returns-clause-literal
returns-clause-literal c =
    let signed = c.in_ok-signed.signed in
    let t = term_at c.formula_atom_by.new.bank.terms signed.atom in
    let atom = ap (λ (l : Literal). l.atom) (c.in_ok-lit.ensures.literal ∙ sym (unsigned_literal t c.in_ok-signed.ensures.atom.unsigned)) in
    ap (λ (u : Lambda). record { positive = signed.positive; atom = u }) atom ∙ c.in_ok-signed.ensures.literal
