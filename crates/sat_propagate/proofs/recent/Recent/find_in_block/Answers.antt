use Rattle.std.proofs.Common.{◌≡◌, ◌+◌, ◌*◌, ◌%◌, ◌<◌, ◌∷◌, [], ℕ, List, length, sym, subst, arith}
use Rattle.std.specs.List.{Contains}
use Rattle.std.proofs.lemmas.List.Elements.{Contains-append_left, Contains-push}
use Rattle.std.proofs.lemmas.Option.{slice_get_within}
use Rattle.sat_propagate.proofs.RecentLaws.{slice_get-read, appends_one, found_below-next, bits_beside, clause_beside}
use Rattle.sat_propagate.proofs.recent.Recent.find_in_block.Goals as goal
use Rattle.sat_propagate.proofs.recent.Recent.find_in_block.Goals.{in-Some-get+in_ok-push, in_default-get}

pub returns-clause-all : goal.returns-clause-all
returns-clause-all c = λ n h row.
    let within : h.place % 8 < c.loop-i.i = omega arith in
    c.loop-i.invariant.1 n h row within

pub loop-i-preserved-then-bits-block-ne0 : goal.loop-i-preserved-then-bits-block-ne0
loop-i-preserved-then-bits-block-ne0 c =
    let beside = slice_get-read c.deref.result.now c.args.self.now.blocks.items c.args.at c.in-Some.block.now c.deref.ensures.value c.in-Some.ensures.lookup.3 in (
      c.loop-i.invariant.0,
      found_below-next c.args.self.now.blocks.items c.args.self.now.clauses.items c.args.bits c.args.at c.loop-i.i c.loop-i.found.items c.loop-i.found.items c.loop-i.invariant.1
          (λ n h. h)
          (λ n h row column. absurd (c.if-bits-block-ne0.true (bits_beside c.args.self.now.blocks.items c.args.self.now.clauses.items c.args.bits n c.args.at c.loop-i.i c.in-Some.block.now h beside row column))),
    )

pub loop-i-preserved : goal.loop-i-preserved
loop-i-preserved c =
    let start : c.in-Some-checked_mul.start ≡ c.args.at * 8 = omega arith in
    let place = c.in-Some-checked_mul.start + c.loop-i.i in
    let beside = slice_get-read c.deref.result.now c.args.self.now.blocks.items c.args.at c.in-Some.block.now c.deref.ensures.value c.in-Some.ensures.lookup.3 in
    elim c.match-get-2.branch [
      | in-Some-get+in_ok-push w ↦
          let there = slice_get-read c.as_slice-clauses.result.now c.args.self.now.clauses.items place w.in-Some-get.clause.now c.as_slice-clauses.ensures.value
          w.in-Some-get.ensures.lookup.3 in
          rw w.found-is (
            appends_one c.args.self.now.blocks.items c.args.self.now.clauses.items c.args.bits c.args.at c.loop-i.i c.in-Some-checked_mul.start w.in-Some-get.clause.now
                c.in-Some.block.now c.args.found.now.items c.loop-i.found.items w.push.new.self.items beside there start (omega arith) c.if-bits-block-ne0.false
                w.in_ok-push.ensures.items c.loop-i.invariant.0,
            found_below-next c.args.self.now.blocks.items c.args.self.now.clauses.items c.args.bits c.args.at c.loop-i.i c.loop-i.found.items w.push.new.self.items
                c.loop-i.invariant.1
                (λ n h. subst (λ (xs : List ℕ). Contains xs n) (sym w.in_ok-push.ensures.items) (Contains-append_left c.loop-i.found.items (w.in-Some-get.clause.now ∷ []) n h))
                (λ n h row column.
                let at_place : h.place ≡ place = omega (arith, row, column, start) in
                let same = clause_beside c.args.self.now.blocks.items c.args.self.now.clauses.items c.args.bits n w.in-Some-get.clause.now place h there at_place in
                subst (λ (m : ℕ). Contains w.push.new.self.items m) (sym same)
                (subst (λ (xs : List ℕ). Contains xs w.in-Some-get.clause.now) (sym w.in_ok-push.ensures.items) (Contains-push c.loop-i.found.items w.in-Some-get.clause.now))),
          )
      | in_default-get w ↦ rw w.found-is (
        c.loop-i.invariant.0,
        found_below-next c.args.self.now.blocks.items c.args.self.now.clauses.items c.args.bits c.args.at c.loop-i.i c.loop-i.found.items c.loop-i.found.items
            c.loop-i.invariant.1
            (λ n h. h)
            (λ n h row column.
            let at_place : h.place ≡ place = omega (arith, row, column, start) in
            let within : h.place < length c.args.self.now.clauses.items = slice_get_within c.args.self.now.clauses.items h.place n h.clause in
            absurd (omega (arith, at_place, within, w.in_default-get.ensures.lookup, c.as_slice-clauses.ensures.len))),
      )
    ]
