use Rattle.std.proofs.Common.{◌≡◌, sym, ap, ◌∙◌, arith}
use Rattle.std.proofs.lemmas.Bool.{le-leb, lt-leb}
use Rattle.std.proofs.lemmas.Option.{get_or_from_slice_get}
use Rattle.stt_core.specs.Depth.{depth}
use Rattle.search_spec.specs.Shallow.{is_shallow_literal}
use Rattle.term_bank.specs.Terms.{term_at}
use Rattle.literal_map.specs.Atoms.{bank_atom, bank_literal}
use Rattle.prover_state.proofs.ShallowLaws.{passes, fails}
use Rattle.prover_state.proofs.clauses.are_shallow.Goals as goal

pub loop-i-preserved : goal.loop-i-preserved
loop-i-preserved c =
    let terms = c.args.bank.now.terms in
    let l = c.literal_of.result in
    let deep : depth (bank_atom terms c.args.lits.now l.var.0) ≡ c.depth.result =
    ap (λ id. depth (term_at terms id)) (get_or_from_slice_get c.args.lits.now l.var.0 c.formula_of.result 0 c.formula_of.ensures) ∙ sym c.depth.ensures in
    passes is_shallow_literal (bank_literal terms c.args.lits.now) c.args.literals.now c.loop-i.i l c.literal_of.ensures _ c.loop-i.invariant
    (le-leb (depth (bank_atom terms c.args.lits.now l.var.0)) 4096 (omega (arith, deep, c.if-depth-gt-DEPTH.false)))

pub returns-then-depth-gt-DEPTH : goal.returns-then-depth-gt-DEPTH
returns-then-depth-gt-DEPTH c =
    let terms = c.args.bank.now.terms in
    let l = c.literal_of.result in
    let deep : depth (bank_atom terms c.args.lits.now l.var.0) ≡ c.depth.result =
    ap (λ id. depth (term_at terms id)) (get_or_from_slice_get c.args.lits.now l.var.0 c.formula_of.result 0 c.formula_of.ensures) ∙ sym c.depth.ensures in
    fails is_shallow_literal (bank_literal terms c.args.lits.now) c.args.literals.now c.loop-i.i l c.literal_of.ensures _ c.loop-i.invariant
    (lt-leb (depth (bank_atom terms c.args.lits.now l.var.0)) 4096 (omega (arith, deep, c.if-depth-gt-DEPTH.true)))
