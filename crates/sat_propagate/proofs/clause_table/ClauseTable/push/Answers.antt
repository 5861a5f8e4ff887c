use Rattle.std.proofs.Common.{◌≡◌, ◌++◌, [], ◌∷◌, List, length, refl, sym, subst, ap, ap₂, ◌∙◌, arith, Result, Ok, Err}
use Rattle.std.specs.Result.{OnErr}
use Rattle.sat_base.specs.declared.literal.SatLit.{SatLit}
use Rattle.sat_propagate.specs.Internal.ClauseTable.{Watched, Clauses, all_headed, AreHeads, IsClauseTable}
use Rattle.sat_propagate.specs.declared.clause_table.Head.{Head}
use Rattle.sat_propagate.proofs.ClauseTableLaws.{all_headed-append, all_headed-push, table-push}
use Rattle.sat_propagate.proofs.clause_table.ClauseTable.push.Goals as goal

-- a table is as it was where literals are appended that no head has
unheaded : (now : Clauses) (literals after : List SatLit) (heads left : List Head) → record { items = all_headed literals heads } ≡ now → AreHeads literals heads → left ≡ heads
    → (rest : List SatLit) → after ≡ literals ++ rest → record { items = all_headed after left } ≡ now
unheaded now literals after heads left viewed within same rest longer =
    ap₂ (λ (some : List SatLit) (list : List Head). let t : Clauses = record { items = all_headed some list } in t) longer same
    ∙ ap (λ (all : List Watched). let t : Clauses = record { items = all } in t) (all_headed-append literals rest heads within)
    ∙ viewed

on_err : {T E P : Type 0} (r : Result T E) → P → OnErr r P
on_err (Ok x) p = tt
on_err (Err e) p = p

pub invariant_of-self-2 : goal.invariant_of-self-2
invariant_of-self-2 c =
    let literals = c.self.inside.literals.items in
    let heads = c.self.inside.heads.items in
    let head : Head = record { first = c.args.first; second = c.args.second; start = c.in_ok-start.start; len = c.in_ok-len.len; near = c.in_ok-near.near } in
    let start : head.start ≡ length literals = omega (arith, c.len.ensures, c.in_ok-start.ensures) in
    let len : head.len ≡ length c.args.clause.now = omega (arith, c.in_ok-len.ensures) in
    subst (λ (list : List SatLit). IsClauseTable list c.push.new.self.items) (sym c.in_ok-append.ensures.ok)
    (subst (λ (list : List Head). IsClauseTable (literals ++ c.args.clause.now) list) (sym c.in_ok-push.ensures.items)
    (table-push literals c.args.clause.now heads head c.self.invariant start len c.in_ok-near.ensures))

pub returns-in_err-append-clause-err : goal.returns-in_err-append-clause-err
returns-in_err-append-clause-err c =
    let more = c.append.ensures.longer in
    let same = unheaded c.args.self.now c.self.inside.literals.items c.append.new.literals.items c.self.inside.heads.items c.self.inside.heads.items c.self.view_is c.self.invariant.within refl more.0 more.1 in
    on_err c.from_residual-in_err-append.result same

pub returns-in_err-push-clause-err : goal.returns-in_err-push-clause-err
returns-in_err-push-clause-err c =
    let more = c.append.ensures.longer in
    let same = unheaded c.args.self.now c.self.inside.literals.items c.append.new.literals.items c.self.inside.heads.items c.push.new.self.items c.self.view_is c.self.invariant.within
    c.in_err-push.ensures.items more.0 more.1 in
    on_err c.from_residual-in_err-push.result same

pub returns-clause-ok : goal.returns-clause-ok
returns-clause-ok c =
    let literals = c.self.inside.literals.items in
    let heads = c.self.inside.heads.items in
    let head : Head = record { first = c.args.first; second = c.args.second; start = c.in_ok-start.start; len = c.in_ok-len.len; near = c.in_ok-near.near } in
    let start : head.start ≡ length literals = omega (arith, c.len.ensures, c.in_ok-start.ensures) in
    let len : head.len ≡ length c.args.clause.now = omega (arith, c.in_ok-len.ensures) in
    ap₂ all_headed c.in_ok-append.ensures.ok c.in_ok-push.ensures.items
    ∙ all_headed-push literals c.args.clause.now heads head c.self.invariant.within start len
    ∙ ap (λ (t : Clauses). t.items ++ record { clause = c.args.clause.now; first = c.args.first; second = c.args.second } ∷ []) c.self.view_is
