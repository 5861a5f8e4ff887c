use Rattle.std.proofs.Common.{sym, ◌∙◌}
use Rattle.std.proofs.lemmas.Bool.{false≢true}
use Rattle.thf_lex.specs.Internal.Symbols.{BeginsWithSymbol}
use Rattle.thf_lex.proofs.Symbols.{within_three, within_two, within_one, within_none}
use Rattle.thf_lex.proofs.symbol.symbol_len.Goals as goal

pub returns-then-begins_with_triple-clause-longest : goal.returns-then-begins_with_triple-clause-longest
returns-then-begins_with_triple-clause-longest c = within_three c.args.bytes.now

pub returns-then-begins_with_pair-clause-longest : goal.returns-then-begins_with_pair-clause-longest
returns-then-begins_with_pair-clause-longest c =
    let bytes = c.args.bytes.now in
    let no_triple : BeginsWithSymbol 3 bytes → ⊥ = λ h. false≢true (sym c.if-begins_with_triple.false ∙ c.begins_with_triple.ensures.1 h) in
    λ m. within_two bytes m no_triple

pub returns-then-begins_with_single-clause-longest : goal.returns-then-begins_with_single-clause-longest
returns-then-begins_with_single-clause-longest c =
    let bytes = c.args.bytes.now in
    let no_triple : BeginsWithSymbol 3 bytes → ⊥ = λ h. false≢true (sym c.if-begins_with_triple.false ∙ c.begins_with_triple.ensures.1 h) in
    let no_pair : BeginsWithSymbol 2 bytes → ⊥ = λ h. false≢true (sym c.if-begins_with_pair.false ∙ c.begins_with_pair.ensures.1 h) in
    λ m. within_one bytes m no_triple no_pair

pub returns-else-begins_with_single-clause-longest : goal.returns-else-begins_with_single-clause-longest
returns-else-begins_with_single-clause-longest c =
    let bytes = c.args.bytes.now in
    let no_triple : BeginsWithSymbol 3 bytes → ⊥ = λ h. false≢true (sym c.if-begins_with_triple.false ∙ c.begins_with_triple.ensures.1 h) in
    let no_pair : BeginsWithSymbol 2 bytes → ⊥ = λ h. false≢true (sym c.if-begins_with_pair.false ∙ c.begins_with_pair.ensures.1 h) in
    let no_single : BeginsWithSymbol 1 bytes → ⊥ = λ h. false≢true (sym c.if-begins_with_single.false ∙ c.begins_with_single.ensures.1 h) in
    λ m. within_none bytes m no_triple no_pair no_single
