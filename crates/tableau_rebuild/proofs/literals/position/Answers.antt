use Rattle.std.proofs.Common.{◌≡◌, true, length, slice_index_or, sym, subst, arith}
use Rattle.std.proofs.lemmas.List.Sums.{position_or_len_is}
use Rattle.sat_base.specs.Literal.{same_literal}
use Rattle.sat_base.proofs.LiteralLaws.{same_literal-refl, same_literal-true}
use Rattle.tableau_rebuild.specs.Tables.{no_literal}
use Rattle.tableau_rebuild.proofs.literals.position.Goals as goal

pub returns-then-eq : goal.returns-then-eq
returns-then-eq c =
    let inside = c.loop-i-test.true in
    let here = slice_index_or c.args.branch.now c.loop-i.i no_literal in
    let same : here ≡ c.args.literal = same_literal-true here c.args.literal (sym c.if-eq.ensures) in
    sym (position_or_len_is (same_literal c.args.literal) c.args.branch.now c.loop-i.i no_literal (omega (arith, inside)) (λ k l. c.loop-i.invariant k no_literal l) (λ l. subst (λ m. same_literal c.args.literal m ≡ true) (sym same) (same_literal-refl c.args.literal)))

pub returns : goal.returns
returns c =
    let n = length c.args.branch.now in
    let below = c.loop-i-test.false in
    sym (position_or_len_is (same_literal c.args.literal) c.args.branch.now n c.args.literal (omega arith) (λ k l. c.loop-i.invariant k c.args.literal (omega (arith, l, below))) (λ l. absurd (omega (arith, l))))
