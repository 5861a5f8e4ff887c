use Rattle.std.proofs.Common.{◌<◌, ◌-◌, ◌≡◌, ◌∙◌, length, map, sym, arith}
use Rattle.std.proofs.lemmas.List.{length-map}
use Rattle.tableau_calculus.proofs.ListLaws.{untrue}
use Rattle.tableau_calculus.proofs.FailureLaws.{element, last_refused, none_refused, ends_within}
use Rattle.refute_print.specs.TextView.{the_line, the_text}
use Rattle.refute_check.specs.Numbered.{numbered_row, numbered_line, numbered_refutation}
use Rattle.refute_check.proofs.check.check_last.Goals as goal

pub returns-then-count-eq0-clause-refused : goal.returns-then-count-eq0-clause-refused
returns-then-count-eq0-clause-refused c = λ terms ls are r scope table right.
    let names = c.args.numbering.now in
    let text = c.args.text.now in
    none_refused scope ls (numbered_refutation names (the_text text)) c.len-rows.result (c.len-rows.ensures ∙ sym (length-map text.witnesses (numbered_row names))) table right
    (omega (arith, c.len-count.ensures, c.if-count-eq0.true, length-map text.lines the_line, length-map (map the_line text.lines) (numbered_line names)))

pub returns-then-is_within-clause-last : goal.returns-then-is_within-clause-last
returns-then-is_within-clause-last c = λ terms ls are r.
    let names = c.args.numbering.now in
    let text = c.args.text.now in
    let lines = map (numbered_line names) (map the_line text.lines) in
    let some : 0 < c.len-count.result = omega (arith, c.if-count-eq0.false) in
    let all : c.len-count.result ≡ length lines = c.len-count.ensures ∙ sym (length-map (map the_line text.lines) (numbered_line names) ∙ length-map text.lines the_line) in
    let last = element lines (c.len-count.result - 1) (omega (arith, some, all)) in
    ends_within ls lines c.len-count.result last.0 all some last.1
    ((c.is_within.ensures terms lines last.0 ls are last.1 r).0 c.if-is_within.true)

pub returns-else-is_within-clause-refused : goal.returns-else-is_within-clause-refused
returns-else-is_within-clause-refused c = λ terms ls are r scope table right.
    let names = c.args.numbering.now in
    let text = c.args.text.now in
    let lines = map (numbered_line names) (map the_line text.lines) in
    let some : 0 < c.len-count.result = omega (arith, c.if-count-eq0.false) in
    let all : c.len-count.result ≡ length lines = c.len-count.ensures ∙ sym (length-map (map the_line text.lines) (numbered_line names) ∙ length-map text.lines the_line) in
    let last = element lines (c.len-count.result - 1) (omega (arith, some, all)) in
    last_refused scope ls (numbered_refutation names (the_text text)) c.len-rows.result (c.len-rows.ensures ∙ sym (length-map text.witnesses (numbered_row names))) table right c.len-count.result last.0 all some last.1
    (λ w. untrue ((c.is_within.ensures terms lines last.0 ls are last.1 r).1 w) c.if-is_within.false)
