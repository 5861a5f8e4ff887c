use Rattle.std.proofs.Common.{◌≡◌, ◌++◌, ◌∷◌, [], List, length, refl, ap, ap₂, ◌∙◌, ◌-◌, arith, length-append, Result, Ok, Err}
use Rattle.std.specs.Result.{OnErr}
use Rattle.sat_base.specs.declared.literal.SatLit.{SatLit}
use Rattle.literal_map.specs.declared.instance.Instance.{Instance}
use Rattle.tableau_clauses.specs.Internal.Spans.{all_unpacked, HaveLists}
use Rattle.tableau_clauses.specs.declared.instances.PackedInstance.{PackedInstance}
use Rattle.tableau_clauses.proofs.SpanLaws.{all_unpacked-append, all_unpacked-push}
use Rattle.tableau_clauses.proofs.instances.Instances.push.Goals as goal

-- the instances are as they were where lists are appended that none of them has
unlisted : (now : List Instance) (lists after : List (List SatLit)) (instances left : List PackedInstance) → all_unpacked lists instances ≡ now → HaveLists lists instances → left ≡ instances
    → (rest : List (List SatLit)) → after ≡ lists ++ rest → all_unpacked after left ≡ now
unlisted now lists after instances left viewed have same rest longer =
    ap₂ (λ (some : List (List SatLit)) (list : List PackedInstance). all_unpacked some list) longer same
    ∙ all_unpacked-append lists rest instances have
    ∙ viewed

on_err : {T E P : Type 0} (r : Result T E) → P → OnErr r P
on_err (Ok x) p = tt
on_err (Err e) p = p

pub returns-in_err-append_lists-clause-err : goal.returns-in_err-append_lists-clause-err
returns-in_err-append_lists-clause-err c =
    let more = c.append_lists.ensures.longer in
    on_err c.from_residual-in_err-append_lists.result (unlisted c.args.self.now c.self.inside.lists c.append_lists.new.lists c.self.inside.instances.items c.self.inside.instances.items c.self.view_is c.self.invariant refl more.0 more.1)

pub returns-in_err-len-clause-err : goal.returns-in_err-len-clause-err
returns-in_err-len-clause-err c =
    let more = c.append_lists.ensures.longer in
    on_err c.from_residual-in_err-len.result (unlisted c.args.self.now c.self.inside.lists c.append_lists.new.lists c.self.inside.instances.items c.self.inside.instances.items c.self.view_is c.self.invariant refl more.0 more.1)

pub returns-in_err-push-clause-err : goal.returns-in_err-push-clause-err
returns-in_err-push-clause-err c =
    let more = c.append_lists.ensures.longer in
    on_err c.from_residual-in_err-push.result (unlisted c.args.self.now c.self.inside.lists c.append_lists.new.lists c.self.inside.instances.items c.push.new.self.items c.self.view_is c.self.invariant
    c.in_err-push.ensures.items more.0 more.1)

pub returns-clause-ok : goal.returns-clause-ok
returns-clause-ok c =
    let lists = c.self.inside.lists in
    let instances = c.self.inside.instances.items in
    let instance = c.args.instance.now in
    let own : List (List SatLit) = instance.principals ∷ instance.alternatives in
    let packed : PackedInstance = record { by = c.in_ok-by.by; start = c.in_ok-start.start; len = c.in_ok-len.field-0 - c.in_ok-start.start } in
    let start : packed.start ≡ length lists = omega (arith, c.len.ensures, c.in_ok-start.ensures) in
    let len : packed.len ≡ length own = omega (arith, c.len.ensures, c.in_ok-start.ensures, c.len-2.ensures, c.in_ok-len.ensures, ap (λ (l : List (List SatLit)). length l) c.in_ok-append_lists.ensures.ok, length-append lists own) in
    ap₂ all_unpacked c.in_ok-append_lists.ensures.ok c.in_ok-push.ensures.items
    ∙ all_unpacked-push lists own instances packed c.self.invariant start len
    ∙ ap₂ (λ (t : List Instance) (i : Instance). t ++ i ∷ []) c.self.view_is
    (ap (λ by. let i : Instance = record { by = by; principals = instance.principals; alternatives = instance.alternatives } in i) c.in_ok-by.ensures)
