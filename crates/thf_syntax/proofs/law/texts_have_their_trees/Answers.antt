use Rattle.thf_syntax.proofs.LawProofs.{printable-is_text}
use Rattle.thf_syntax.proofs.law.texts_have_their_trees.Goals as goal

pub returns : goal.returns
returns c = printable-is_text
