use Rattle.std.proofs.Common.{ap, ◌∙◌, position, nat_eq}
use Rattle.literal_map.proofs.TableLaws.{found_at}
use Rattle.term_bank.specs.Terms.{term_at}
use Rattle.literal_map.proofs.table.LitTable.find.Goals as goal

pub returns-in-Some-clause-literal : goal.returns-in-Some-clause-literal
returns-in-Some-clause-literal c =
    let f = c.atom_of-formula.result in
    ap (λ a. record { positive = f.positive; atom = term_at c.args.bank.now.terms a }) (found_at c.args.self.now f.atom c.in-Some.number (c.in-Some.ensures.index ∙ ap (position (nat_eq f.atom)) c.self.view_is)) ∙ c.atom_of-formula.ensures.literal
