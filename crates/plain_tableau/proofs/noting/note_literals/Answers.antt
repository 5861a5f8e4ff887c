use Rattle.std.proofs.Common.{◌≡◌, ◌<◌, ◌||◌, ◌+◌, ℕ, length, take, slice_index_or, sym, subst, arith}
use Rattle.sat_base.specs.declared.literal.SatLit.{SatLit}
use Rattle.sat_base.specs.Literal.{mentions_variable, same_var}
use Rattle.tableau_rebuild.specs.Tables.{no_literal}
use Rattle.plain_tableau.proofs.NotedLaws.{noted_more, noted_for, mentions_more}
use Rattle.plain_tableau.proofs.noting.note_literals.Goals as goal

pub loop-i-preserved : goal.loop-i-preserved
loop-i-preserved c =
    let lits = c.args.lits.now in
    let i = c.loop-i.i in
    let l = slice_index_or lits i no_literal in
    let mid = c.loop-i.noted.items in
    let inside : l.var.0 < length mid = subst (λ n. l.var.0 < n) (sym c.loop-i.invariant.count) (c.requires i no_literal c.loop-i-test.true) in
    noted_for (λ v. mentions_variable (take i lits) v || same_var v l.var) (mentions_variable (take (i + 1) lits)) c.args.place c.args.noted.now.items _ (mentions_more lits i no_literal c.loop-i-test.true)
    (noted_more mid l.var c.args.place c.index_mut.result.now c.push.new.self inside c.index_mut.ensures.value c.in_ok-push.ensures (mentions_variable (take i lits)) c.args.noted.now.items c.loop-i.invariant)
