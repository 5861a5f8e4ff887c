use Rattle.std.proofs.Common.{◌≡◌, ◌<◌, [], ℕ, arith, List, length, take, slice_index_or, sym, ap, subst, ◌∙◌, refl}
use Rattle.sat_base.specs.declared.literal.SatLit.{SatLit}
use Rattle.sat_base.specs.Literal.{IsOver}
use Rattle.witness_names.specs.Rows.{rows_of}
use Rattle.tableau_rebuild.specs.Tables.{no_literal}
use Rattle.tableau_clauses.specs.Table.{start_units}
use Rattle.plain_tableau.specs.Internal.Due.{IsPath, AreLiteralsOver}
use Rattle.plain_tableau.proofs.ExpandLaws.{used_within, used_over, units_over, added_more}
use Rattle.plain_tableau.proofs.expand.start_path.Goals as goal

pub new-requires-clause-within : goal.new-requires-clause-within
new-requires-clause-within c = used_within c.args.bank.now c.args.atoms.now (rows_of c.args.bank.now.terms c.args.witnesses.now) c.args.steps.now c.args.used.now c.requires.used

pub new-requires-clause-over : goal.new-requires-clause-over
new-requires-clause-over c = λ k d l. subst (λ n. AreLiteralsOver n c.args.steps.now (slice_index_or c.args.used.now k d)) (sym c.len.ensures) (used_over c.args.bank.now c.args.atoms.now (rows_of c.args.bank.now.terms c.args.witnesses.now) c.args.steps.now c.args.used.now c.requires.used k d l)

pub push-requires-clause-within : goal.push-requires-clause-within
push-requires-clause-within c = used_within c.args.bank.now c.args.atoms.now (rows_of c.args.bank.now.terms c.args.witnesses.now) c.args.steps.now c.args.used.now c.requires.used

small_at : (n i : ℕ) (units ls : List SatLit) (x : SatLit) → IsOver n ls → units ≡ ls → i < length units → x ≡ slice_index_or units i x → x.var.0 < n
small_at n i units ls x over same h is =
    let small = over i x (subst (λ (xs : List SatLit). i < length xs) same h) in
    subst (λ (y : SatLit). y.var.0 < n) (sym (is ∙ ap (λ (xs : List SatLit). slice_index_or xs i x) same)) small

pub push-requires-clause-over : goal.push-requires-clause-over
push-requires-clause-over c =
    let over = units_over c.args.atoms.now c.args.steps.now.0 c.requires.units in
    let inside : c.loop-i.i < length c.in_ok-units.units.items = omega (arith, c.loop-i-test.true, c.len-i-end.ensures, c.in_ok-units.units.ok.0) in
    subst (λ n. c.index.result.now.var.0 < n) (sym c.len-in-loop-i.ensures) (small_at (length c.args.atoms.now) c.loop-i.i c.in_ok-units.units.items (start_units c.args.steps.now.0) c.index.result.now over c.in_ok-units.ensures inside c.index.ensures)

pub loop-i-preserved : goal.loop-i-preserved
loop-i-preserved c =
    let inside : c.loop-i.i < length c.in_ok-units.units.items = omega (arith, c.loop-i-test.true, c.len-i-end.ensures, c.in_ok-units.units.ok.0) in
    record {
      path = subst (λ n. IsPath n c.args.steps.now c.args.used.now c.push.new.self) c.len-in-loop-i.ensures c.in_ok-push.ensures.path;
      keys = added_more [] c.in_ok-units.units.items c.loop-i.i c.index.result.now c.index.result.now c.loop-i.path.literals.keys c.push.new.self.literals.keys inside c.index.ensures c.loop-i.invariant.keys c.in_ok-push.ensures.keys;
    }
