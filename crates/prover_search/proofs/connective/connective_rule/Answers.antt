use Rattle.std.proofs.Common.{true, false, sym, ap₂, ◌∙◌, true≢false}
use Rattle.search_spec.specs.Processing.{connective_rule}
use Rattle.prover_search.proofs.ConnectiveLaws.{named, without_connective}
use Rattle.prover_search.proofs.connective.connective_rule.Goals as goal

pub returns-then-lit : goal.returns-then-lit
returns-then-lit c = sym (ap₂ (λ t b. named (connective_rule t b)) (sym c.atom_of-atom.ensures.atom ∙ c.is_falsity.ensures.0 c.if-is_falsity.true) c.if-lit.true)

pub returns-then-is_falsity : goal.returns-then-is_falsity
returns-then-is_falsity c = sym (ap₂ (λ t b. named (connective_rule t b)) (sym c.atom_of-atom.ensures.atom ∙ c.is_falsity.ensures.0 c.if-is_falsity.true) c.if-lit.false)

pub returns-then-lit-2 : goal.returns-then-lit-2
returns-then-lit-2 c = sym (ap₂ (λ t b. named (connective_rule t b)) (sym c.atom_of-atom.ensures.atom ∙ c.in-Some.ensures.0) c.if-lit-2.true)

pub returns-else-lit-2 : goal.returns-else-lit-2
returns-else-lit-2 c = sym (ap₂ (λ t b. named (connective_rule t b)) (sym c.atom_of-atom.ensures.atom ∙ c.in-Some.ensures.0) c.if-lit-2.false)

pub returns-in-None : goal.returns-in-None
returns-in-None c =
    without_connective c.args.lit.positive _ (λ e. true≢false (sym (c.is_falsity.ensures.1 (c.atom_of-atom.ensures.atom ∙ e)) ∙ c.if-is_falsity.false)) (λ s u e. c.in-None.ensures s u (c.atom_of-atom.ensures.atom ∙ e))
