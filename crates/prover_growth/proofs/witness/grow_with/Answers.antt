use Rattle.std.proofs.Common.{◌≡◌, ◌<◌, ℕ, List, [], map, length, drop, get_or, slice_get, Some, arith, sym, ap, ◌∙◌}
use Rattle.stt_core.proofs.ListLaws.{drop_got}
use Rattle.stt_core.specs.SimpleType.{base}
use Rattle.stt_core.specs.Lambda.{witness, constant}
use Rattle.instantiate.specs.Listing.{ids_of}
use Rattle.search_spec.specs.State.{Sketch, Command as Meant, grow, with_commands}
use Rattle.prover_state.specs.declared.command.Command.TheVariants.{Grow}
use Rattle.prover_state.specs.Internal.Names.{sketch_at, command_at}
use Rattle.prover_state.specs.Internal.Pending.{over_parked}
use Rattle.prover_state.specs.Internal.Standing.{naming_in, sketches_in, sources, the_state}
use Rattle.prover_state.proofs.EachLaws.{each-at}
use Rattle.prover_state.proofs.HoleLaws.{parked-below, there-is}
use Rattle.prover_state.proofs.LoopLists.{no-items, begins-mapped, length-mapped}
use Rattle.prover_state.proofs.TermLaws.{pushed-nothing}
use Rattle.prover_growth.proofs.ParkedLaws.{passing-are, parked-commands, parked-are}
use Rattle.prover_growth.proofs.witness.grow_with.Goals as goal

pub returns-then-count-eq0-clause-state : goal.returns-then-count-eq0-clause-state
returns-then-count-eq0-clause-state g c =
    let t = c.args.core.now.tables in
    let q = c.args.core.now.plan in
    let mode = q.rule.mode in
    let s = the_state t q in
    let none : ids_of (base c.args.output) t.holes ≡ [] = sym c.under-parked.ensures ∙ no-items c.under-parked.result.now (omega (arith, c.if-count-eq0.true)) in
    sym (pushed-nothing mode s)
    ∙ ap (λ (ps : List Sketch). with_commands mode (map (λ (p : Sketch). grow p (constant (witness c.args.w))) ps) s) (sym (passing-are t q c.requires.right c.args.output ∙ ap (map (sketch_at (sketches_in t))) none))

pub push_whole-requires-clause-numbers : goal.push_whole-requires-clause-numbers
push_whole-requires-clause-numbers g c =
    let t = c.args.core.now.tables in
    let q = c.args.core.now.plan in
    let vs = c.under-parked.result.now in
    let at : slice_get vs 0 ≡ Some (get_or vs 0 0) = there-is vs 0 0 (omega (arith, c.if-count-eq0.false)) in (
      each-at (λ i. i < length (sketches_in t)) (ids_of (base c.args.output) t.holes) 0 (get_or vs 0 0) (parked-below t q c.requires.right c.args.output) (ap (λ (xs : List ℕ). slice_get xs 0) (sym c.under-parked.ensures) ∙ at),
      c.number_of.ensures.number,
    )

pub push_whole-requires-clause-begins : goal.push_whole-requires-clause-begins
push_whole-requires-clause-begins g c =
    let t = c.args.core.now.tables in
    let q = c.args.core.now.plan in
    let vs = c.under-parked.result.now in
    let i = get_or vs 0 0 in
    let h = c.number_of.result in
    let ids = ids_of (base c.args.output) t.holes in
    let at = ap (λ (xs : List ℕ). slice_get xs 0) (sym c.under-parked.ensures) ∙ there-is vs 0 0 (omega (arith, c.if-count-eq0.false)) in
    begins-mapped (over_parked (sources t) (command_at (naming_in t) (Grow i h))) (λ j. command_at (naming_in t) (Grow j h)) ids
    (parked-are t q c.requires.right c.args.output h (constant (witness c.args.w)) c.number_of.ensures.head i at) i (drop 1 ids) (drop_got ids 0 i at)

pub push_whole-requires-clause-count : goal.push_whole-requires-clause-count
push_whole-requires-clause-count g c =
    let t = c.args.core.now.tables in
    let q = c.args.core.now.plan in
    let vs = c.under-parked.result.now in
    let i = get_or vs 0 0 in
    let h = c.number_of.result in
    let ids = ids_of (base c.args.output) t.holes in
    let at = ap (λ (xs : List ℕ). slice_get xs 0) (sym c.under-parked.ensures) ∙ there-is vs 0 0 (omega (arith, c.if-count-eq0.false)) in
    ap length c.under-parked.ensures
    ∙ sym (length-mapped (over_parked (sources t) (command_at (naming_in t) (Grow i h))) (λ j. command_at (naming_in t) (Grow j h)) ids
    (parked-are t q c.requires.right c.args.output h (constant (witness c.args.w)) c.number_of.ensures.head i at))

pub returns-clause-state : goal.returns-clause-state
returns-clause-state g c =
    let t = c.args.core.now.tables in
    let q = c.args.core.now.plan in
    let vs = c.under-parked.result.now in
    let i = get_or vs 0 0 in
    let h = c.number_of.result in
    let w = constant (witness c.args.w) in
    let at = ap (λ (xs : List ℕ). slice_get xs 0) (sym c.under-parked.ensures) ∙ there-is vs 0 0 (omega (arith, c.if-count-eq0.false)) in
    c.in_ok-push_whole.ensures.state
    ∙ ap (λ (cs : List Meant). with_commands q.rule.mode cs (the_state t q))
    (parked-are t q c.requires.right c.args.output h w c.number_of.ensures.head i at ∙ sym (parked-commands t q c.requires.right c.args.output h w c.number_of.ensures.head))
