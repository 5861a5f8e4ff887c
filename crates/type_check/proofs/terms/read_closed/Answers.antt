use Rattle.std.proofs.Common.{[], subst}
use Rattle.thf_grammar.specs.View.{the_formula}
use Rattle.type_check.specs.Internal.Answers.{AnswersCheck}
use Rattle.type_check.specs.Internal.TypedView.{the_typed}
use Rattle.type_check.specs.Terms.{read_term}
use Rattle.type_check.proofs.ScopeLaws.{empty_placed}
use Rattle.type_check.proofs.terms.read_closed.Goals as goal

pub returns : goal.returns
returns c = subst (AnswersCheck the_typed c.read_term.result) (empty_placed (read_term c.args.declared.now [] (the_formula c.args.tree.now))) c.read_term.ensures
