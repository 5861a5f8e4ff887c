use Rattle.std.proofs.Common.{◌≡◌, ◌/◌, ◌%◌, ◌<◌, ℕ, Some, inl, inr, length, refl, sym, ap, subst, ◌∙◌, arith}
use Rattle.std.specs.List.{slice_get}
use Rattle.std.proofs.Math.Nat.{mod-lt}
use Rattle.std.proofs.lemmas.Bool.{cases_lt}
use Rattle.std.proofs.lemmas.Option.{slice_get_within, slice_get-get_or}
use Rattle.std.proofs.lemmas.Result.{on_ok_weaker}
use Rattle.sat_propagate.specs.Internal.Recent.{HasBits}
use Rattle.sat_propagate.proofs.RecentLaws.{appends_more, appends_contains, bits_beside}
use Rattle.sat_propagate.proofs.recent.Recent.find_covered.Goals as goal
use Rattle.sat_propagate.proofs.recent.Recent.find_covered.Goals.{then-has+in_ok-find_in_block, else-has}

pub loop-at-preserved : goal.loop-at-preserved
loop-at-preserved c =
    elim c.if-has.branch [
      | then-has+in_ok-find_in_block w ↦ rw w.found-is (
        appends_more c.args.self.now.blocks.items c.args.self.now.clauses.items c.bits_of-bits.result c.args.found.now.items c.loop-at.found.items w.find_in_block.new.found.items
            c.loop-at.invariant.0 w.find_in_block.ensures.found,
        λ n h within.
            elim (cases_lt (h.place / 8) c.loop-at.at) [
              | inl less ↦
                  appends_contains c.args.self.now.blocks.items c.args.self.now.clauses.items c.bits_of-bits.result n c.loop-at.found.items w.find_in_block.new.found.items
                  w.find_in_block.ensures.found (c.loop-at.invariant.1 n h less)
              | inr least ↦ w.in_ok-find_in_block.ensures.all n h (omega (arith, within, least))
            ],
      )
      | else-has w ↦ rw w.found-is (
        c.loop-at.invariant.0,
        λ n h within.
            elim (cases_lt (h.place / 8) c.loop-at.at) [
              | inl less ↦ c.loop-at.invariant.1 n h less
              | inr least ↦
                  let row : h.place / 8 ≡ c.loop-at.at = omega (arith, within, least) in
                  let beside : slice_get c.args.self.now.blocks.items c.loop-at.at ≡ Some c.index.result.now =
                  slice_get-get_or c.args.self.now.blocks.items c.loop-at.at c.index.result.now (omega (arith, c.loop-at-test.true, c.len-at-end.ensures)) ∙ ap Some (sym c.index.ensures) in
                  absurd (c.has.ensures w.if-has.false (h.place % 8) (mod-lt h.place (omega arith))
                  (bits_beside c.args.self.now.blocks.items c.args.self.now.clauses.items c.bits_of-bits.result n c.loop-at.at (h.place % 8) c.index.result.now h beside row refl))
            ],
      )
    ]

pub returns-clause-all : goal.returns-clause-all
returns-clause-all c =
    on_ok_weaker c.keep.result
    (λ kept n h.
    let has : HasBits c.args.self.now.blocks.items c.args.self.now.clauses.items c.bits_of-bits.result n =
    subst (λ (bits : ℕ). HasBits c.args.self.now.blocks.items c.args.self.now.clauses.items bits n) (sym c.bits_of-bits.ensures) h in
    let within : has.place / 8 < length c.args.self.now.blocks.items = slice_get_within c.args.self.now.blocks.items (has.place / 8) has.block has.beside in
    c.loop-at.invariant.1 n has (omega (arith, within, c.loop-at-test.false, c.len-at-end.ensures)))
    c.keep.ensures.kept
