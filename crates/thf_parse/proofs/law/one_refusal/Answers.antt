use Rattle.thf_grammar.specs.Words.{lexemes}
use Rattle.thf_parse.proofs.LexemeLaws.{tokens-ended}
use Rattle.thf_parse.proofs.ParseLaws.{answered}
use Rattle.thf_parse.proofs.RefusalLaws.{not-wrong, not-deep, wrong-or-deep, one-wrong, one-deep}
use Rattle.thf_parse.proofs.law.one_refusal.Goals as goal

pub returns-clause-some : goal.returns-clause-some
returns-clause-some c = λ limit bytes tokens read. answered limit (lexemes bytes tokens) (tokens-ended bytes tokens read)

pub returns-clause-tree_not_wrong : goal.returns-clause-tree_not_wrong
returns-clause-tree_not_wrong c = not-wrong

pub returns-clause-tree_not_deep : goal.returns-clause-tree_not_deep
returns-clause-tree_not_deep c = not-deep

pub returns-clause-wrong_not_deep : goal.returns-clause-wrong_not_deep
returns-clause-wrong_not_deep c = wrong-or-deep

pub returns-clause-one_wrong : goal.returns-clause-one_wrong
returns-clause-one_wrong c = one-wrong

pub returns-clause-one_deep : goal.returns-clause-one_deep
returns-clause-one_deep c = one-deep
