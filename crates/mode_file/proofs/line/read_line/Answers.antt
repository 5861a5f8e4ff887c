use Rattle.std.proofs.Common.{◌≡◌, ◌∙◌, ◌<◌, ◌≤◌, Some, sym, ap, subst, arith}
use Rattle.mode_file.specs.declared.number.NumberRefused.{NumberRefused}
use Rattle.mode_file.specs.Keys.{greatest, key_of}
use Rattle.mode_file.specs.Grammar.{first_word, HasNoNumber}
use Rattle.mode_file.proofs.ReadLaws.{has_none, bad_number, sets_read, out_of_range, far_out_of_range}
use Rattle.mode_file.proofs.line.read_line.Goals as goal

pub returns-in-Err-Missing : goal.returns-in-Err-Missing
returns-in-Err-Missing c =
    let named : key_of (first_word c.args.line.now) ≡ Some c.in-Some.key = ap key_of (sym c.first_word.ensures) ∙ sym c.in-Some.ensures in
    let N : NumberRefused → Type 0 = λ r. HasNoNumber c.args.line.now r in
    bad_number _ _ named _ (sym c.if-has.ensures) (subst N c.in-Err-Missing.field-0-is c.in-Err-Missing.ensures.refused)

pub returns-in-Err-TooGreat : goal.returns-in-Err-TooGreat
returns-in-Err-TooGreat c =
    let named : key_of (first_word c.args.line.now) ≡ Some c.in-Some.key = ap key_of (sym c.first_word.ensures) ∙ sym c.in-Some.ensures in
    let N : NumberRefused → Type 0 = λ r. HasNoNumber c.args.line.now r in
    far_out_of_range _ _ named _ (sym c.if-has.ensures) (subst N c.in-Err-TooGreat.field-0-is c.in-Err-TooGreat.ensures.refused)

pub returns-then-number-greatest : goal.returns-then-number-greatest
returns-then-number-greatest c =
    let named : key_of (first_word c.args.line.now) ≡ Some c.in-Some.key = ap key_of (sym c.first_word.ensures) ∙ sym c.in-Some.ensures in
    let above : greatest c.in-Some.key < c.in-Ok.number = omega (arith, c.greatest.ensures, c.if-number-greatest.true) in
    out_of_range _ _ named _ (sym c.if-has.ensures) _ c.in-Ok.ensures.number above

pub returns : goal.returns
returns c =
    let named : key_of (first_word c.args.line.now) ≡ Some c.in-Some.key = ap key_of (sym c.first_word.ensures) ∙ sym c.in-Some.ensures in
    let within : c.in-Ok.number ≤ greatest c.in-Some.key = omega (arith, c.greatest.ensures, c.if-number-greatest.false) in
    (sets_read _ _ named _ c.in-Ok.ensures.number, has_none _ (sym c.if-has.ensures), within)
