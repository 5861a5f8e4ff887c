-- A bank's fields as what it holds.
use Rattle.std.specs.Prelude.{◌^◌, ◌<◌, length}
use Rattle.stt_core.specs.Typing.{IsScope}
use Rattle.term_bank.specs.Content.{Content, content_scope}
use Rattle.term_bank.specs.Internal.Sound.{entry_terms, AreSound}
use Rattle.term_bank.specs.declared.bank.Bank.TheInside.{Inside}

abbrev pub the_content : Inside → Content
the_content a = record { bases = a.sig.bases; consts = a.sig.consts; witnesses = a.wits; terms = entry_terms a.nodes.entries }

-- All types that are declared are over the declared base types, there are fewer than 2^32 witnesses, and the nodes are sound.
pub record IsSoundBank (a : Inside) : Type 0 where
  pub declared : IsScope (content_scope (the_content a))
  pub few_witnesses : length a.wits < 2 ^ 32
  pub nodes : AreSound (content_scope (the_content a)) a.nodes.entries
