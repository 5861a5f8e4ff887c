use Rattle.std.proofs.Common.{◌≡◌, [], ◌∷◌, ◌++◌, List, length, refl, ap, ap₂, ◌∙◌, arith, Result, Ok, Err}
use Rattle.std.specs.Result.{OnErr}
use Rattle.sat_base.specs.declared.literal.SatLit.{SatLit}
use Rattle.tableau_clauses.specs.Internal.Spans.{all_spanned, AreSpans}
use Rattle.tableau_clauses.specs.declared.lists.Span.{Span}
use Rattle.tableau_clauses.proofs.SpanLaws.{all_spanned-append, all_spanned-push}
use Rattle.tableau_clauses.proofs.lists.PackedLists.push.Goals as goal

-- the lists are as they were where literals are appended that none of them has
unspanned : (now : List (List SatLit)) (literals after : List SatLit) (spans left : List Span) → all_spanned literals spans ≡ now → AreSpans literals spans → left ≡ spans
    → (rest : List SatLit) → after ≡ literals ++ rest → all_spanned after left ≡ now
unspanned now literals after spans left viewed within same rest longer =
    ap₂ (λ (some : List SatLit) (list : List Span). all_spanned some list) longer same
    ∙ all_spanned-append literals rest spans within
    ∙ viewed

on_err : {T E P : Type 0} (r : Result T E) → P → OnErr r P
on_err (Ok x) p = tt
on_err (Err e) p = p

pub returns-in_err-append-clause-err : goal.returns-in_err-append-clause-err
returns-in_err-append-clause-err c =
    let more = c.append.ensures.longer in
    let same = unspanned c.args.self.now c.self.inside.literals.items c.append.new.literals.items c.self.inside.spans.items c.self.inside.spans.items c.self.view_is c.self.invariant refl more.0 more.1 in
    on_err c.from_residual-in_err-append.result same

pub returns-in_err-push-clause-err : goal.returns-in_err-push-clause-err
returns-in_err-push-clause-err c =
    let more = c.append.ensures.longer in
    let same = unspanned c.args.self.now c.self.inside.literals.items c.append.new.literals.items c.self.inside.spans.items c.push.new.self.items c.self.view_is c.self.invariant
    c.in_err-push.ensures.items more.0 more.1 in
    on_err c.from_residual-in_err-push.result same

pub returns-clause-ok : goal.returns-clause-ok
returns-clause-ok c =
    let literals = c.self.inside.literals.items in
    let spans = c.self.inside.spans.items in
    let span : Span = record { start = c.in_ok-start.start; len = c.in_ok-len.len } in
    let start : span.start ≡ length literals = omega (arith, c.len.ensures, c.in_ok-start.ensures) in
    let len : span.len ≡ length c.args.list.now = omega (arith, c.in_ok-len.ensures) in
    ap₂ all_spanned c.in_ok-append.ensures.ok c.in_ok-push.ensures.items
    ∙ all_spanned-push literals c.args.list.now spans span c.self.invariant start len
    ∙ ap (λ (t : List (List SatLit)). t ++ c.args.list.now ∷ []) c.self.view_is
