use Rattle.std.proofs.Common.{◌≡◌, List, map, sym, ap, ◌∙◌}
use Rattle.std.specs.List.{list_all}
use Rattle.sat_base.specs.declared.literal.SatLit.{SatLit}
use Rattle.search_spec.specs.Shallow.{is_shallow_literal}
use Rattle.literal_map.specs.Atoms.{bank_literal}
use Rattle.prover_state.proofs.ShallowLaws.{passes, fails}
use Rattle.prover_state.proofs.clauses.all_shallow.Goals as goal

pub loop-i-preserved : goal.loop-i-preserved
loop-i-preserved c =
    let d = bank_literal c.args.bank.now.terms c.args.lits.now in
    let test : c.are_shallow.result ≡ list_all is_shallow_literal (map d c.at.result.now) = c.are_shallow.ensures ∙ ap (λ (ls : List SatLit). list_all is_shallow_literal (map d ls)) c.as_slice.ensures in
    passes (list_all is_shallow_literal) (map d) c.args.lists.now c.loop-i.i c.at.result.now c.at.ensures _ c.loop-i.invariant (sym test ∙ c.if-not-are_shallow.false)

pub returns-then-not-are_shallow : goal.returns-then-not-are_shallow
returns-then-not-are_shallow c =
    let d = bank_literal c.args.bank.now.terms c.args.lits.now in
    let test : c.are_shallow.result ≡ list_all is_shallow_literal (map d c.at.result.now) = c.are_shallow.ensures ∙ ap (λ (ls : List SatLit). list_all is_shallow_literal (map d ls)) c.as_slice.ensures in
    fails (list_all is_shallow_literal) (map d) c.args.lists.now c.loop-i.i c.at.result.now c.at.ensures _ c.loop-i.invariant (sym test ∙ c.if-not-are_shallow.true)
