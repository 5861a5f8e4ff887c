use Rattle.std.proofs.Common.{sym, ap, ◌∙◌, ◌∷◌}
use Rattle.std.proofs.lemmas.List.{take_rest}
use Rattle.outside.specs.Lines.{lines_of}
use Rattle.refute_text.proofs.LineFeeds.{first_line, drop-none}
use Rattle.refute_text.proofs.lines.next_line.Goals as goal

pub returns-in-empty-clause-line : goal.returns-in-empty-clause-line
returns-in-empty-clause-line c =
    let cut = c.until_feed-cut.result in
    first_line c.args.bytes.now cut.line.now cut.rest.now (sym c.is_empty.ensures ∙ c.if-is_empty.false) c.until_feed-cut.ensures.line c.until_feed-cut.ensures.rest
    ∙ ap (λ x. cut.line.now ∷ lines_of x) (drop-none cut.rest.now c.in-empty.len_below)

pub returns-in-len1-up-clause-line : goal.returns-in-len1-up-clause-line
returns-in-len1-up-clause-line c =
    let cut = c.until_feed-cut.result in
    first_line c.args.bytes.now cut.line.now cut.rest.now (sym c.is_empty.ensures ∙ c.if-is_empty.false) c.until_feed-cut.ensures.line c.until_feed-cut.ensures.rest
    ∙ ap (λ x. cut.line.now ∷ lines_of x) (sym (take_rest cut.rest.now 1))
