use Rattle.std.proofs.Common.{ap₂, List}
use Rattle.stt_core.specs.SimpleType.{SimpleType}
use Rattle.stt_core.specs.declared.signature.Signature.{Signature}
use Rattle.term_bank.specs.Content.{Content}
use Rattle.term_bank.specs.Internal.Sound.{terms_after, ShapeEntry, entry_terms}
use Rattle.term_bank.proofs.bank.Bank.new.Goals as goal

abbrev content_of : Signature → List SimpleType → List ShapeEntry → Content
content_of sig ws es = record { bases = sig.bases; consts = sig.consts; witnesses = ws; terms = entry_terms es }

pub returns : goal.returns
unfolding terms_after
returns c =
    ap₂ (content_of c.args.sig) c.new.ensures c.new-2.ensures.empty
