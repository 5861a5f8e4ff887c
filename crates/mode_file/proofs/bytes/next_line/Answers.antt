use Rattle.std.proofs.Common.{ℕ, ◌<◌, List, length, sym, ap, subst, ◌∙◌, ◌∷◌, arith}
use Rattle.std.proofs.lemmas.List.{take_rest}
use Rattle.outside.specs.Lines.{lines_of}
use Rattle.mode_file.specs.Lines.{IsCutBefore}
use Rattle.mode_file.proofs.LineFeeds.{first_line, drop-none, cut_behind}
use Rattle.mode_file.proofs.bytes.next_line.Goals as goal

pub returns-in-empty-clause-line : goal.returns-in-empty-clause-line
returns-in-empty-clause-line c =
    let cut = c.split_front-split.result in
    first_line c.args.bytes.now cut.front.now cut.rest.now (sym c.is_empty.ensures ∙ c.if-is_empty.false) c.split_front-split.ensures.front c.split_front-split.ensures.rest
    ∙ ap (λ x. cut.front.now ∷ lines_of x) (drop-none cut.rest.now c.in-empty.len_below)

pub returns-in-len1-up-clause-line : goal.returns-in-len1-up-clause-line
returns-in-len1-up-clause-line c =
    let cut = c.split_front-split.result in
    first_line c.args.bytes.now cut.front.now cut.rest.now (sym c.is_empty.ensures ∙ c.if-is_empty.false) c.split_front-split.ensures.front c.split_front-split.ensures.rest
    ∙ ap (λ x. cut.front.now ∷ lines_of x) (sym (take_rest cut.rest.now 1))

pub returns-in-len1-up-clause-cut : goal.returns-in-len1-up-clause-cut
returns-in-len1-up-clause-cut c =
    let cut = c.split_front-split.result in
    let some : 0 < length cut.rest.now = omega (arith, c.in-len1-up.len_at_least) in
    subst (λ (xs : List ℕ). IsCutBefore c.args.bytes.now xs) (sym (take_rest cut.rest.now 1)) (cut_behind c.args.bytes.now cut.rest.now c.split_front-split.ensures.rest some)
