use Rattle.std.proofs.Common.{◌≡◌, ◌≤◌, ◌<◌, ◌^◌, ℕ, zero, suc, List, [], ◌∷◌, map, length, take, slice_index_or, sym, ap, subst, ◌∙◌, arith}
use Rattle.std.proofs.lemmas.List.{length-map}
use Rattle.std.proofs.lemmas.Option.{slice_get-get_or}
use Rattle.stt_core.proofs.ListLaws.{map_more}
use Rattle.sat_base.specs.Literal.{IsOver}
use Rattle.std.specs.List.{AllByRecursion}
use Rattle.refute_print.proofs.AllLaws.{all-last}
use Rattle.rebuild_spec.specs.Lines.{line_of}
use Rattle.rebuild_spec.specs.Trees.{branch}
use Rattle.small_rebuilt.specs.Small.{HasNumbers}
use Rattle.tableau_rebuild.specs.declared.draft.Draft.TheVariants.{Clause}
use Rattle.tableau_rebuild.specs.Tables.{atoms_at}
use Rattle.tableau_rebuild.specs.Internal.LineParts.{IsLineBy}
use Rattle.tableau_rebuild.specs.Internal.Written.{the_tree}
use Rattle.witness_names.specs.Rows.{rows_of}
use Rattle.tableau_rebuild.proofs.WriteLaws.{branch_made, line_made, ready}
use Rattle.tableau_rebuild.proofs.NeededLaws.{lines_more}
use Rattle.tableau_rebuild.proofs.LastLaws.{has_parts}
use Rattle.tableau_rebuild.proofs.lines.Writing.write.Goals as goal

length_front : {A : Type 0} (k : ℕ) (xs : List A) → k ≤ length xs → length (take k xs) ≡ k
length_front zero xs l = omega arith
length_front (suc k) [] l = absurd (omega (arith, l))
length_front (suc k) (x ∷ xs) l = let rest = length_front k xs (omega (arith, l)) in omega (arith, rest)

take_most : {A : Type 0} (k : ℕ) (xs : List A) → length (take k xs) ≤ k
take_most zero xs = omega arith
take_most (suc k) [] = omega arith
take_most (suc k) (x ∷ xs) = let rest = take_most k xs in omega (arith, rest)

pub returns-clause-count : goal.returns-clause-count
returns-clause-count c =
    let order = c.args.order.now in
    let k = c.loop-k.k in
    let A = atoms_at c.args.bank.now.terms c.args.atoms.now in
    let tree = the_tree c.args.bank.now.terms c.args.atoms.now c.args.steps.now c.args.drafts.now in
    let count = ap length c.loop-k.invariant.lines ∙ length-map (take k order) (λ i. line_of A (map tree order) (tree i)) in
    let most = take_most k order in
    let below : k < 2 ^ 64 = omega arith in
    omega (arith, count, most, below)

pub branch_of-requires-clause-ready : goal.branch_of-requires-clause-ready
branch_of-requires-clause-ready c =
    let order = c.args.order.now in
    let ds = c.args.drafts.now in
    let k = c.loop-k.k in
    let within = c.loop-k-test.true in
    let i = slice_index_or order k 0 in
    let listed = slice_get-get_or order k 0 (omega (arith, within)) in
    let drafted = slice_get-get_or ds i (Clause 0) (c.requires.inside k i listed) in
    let T = λ (j : ℕ). branch (the_tree c.args.bank.now.terms c.args.atoms.now c.args.steps.now ds j) in
    let count = ap length (c.deref.ensures.value ∙ c.loop-k.invariant.branches) ∙ length-map (take k order) T ∙ length_front k order (omega (arith, within)) in
    ready c.args.bank.now c.args.atoms.now c.args.steps.now ds c.requires.right c.args.last c.requires.last order c.requires.walked c.requires.inside c.args.numbers.now c.requires.numbers k i (slice_index_or ds i (Clause 0)) (length c.deref.result.now) count listed drafted (c.requires.makeable k i (slice_index_or ds i (Clause 0)) listed drafted)

pub line_of-requires-clause-makeable : goal.line_of-requires-clause-makeable
line_of-requires-clause-makeable c =
    let order = c.args.order.now in
    let ds = c.args.drafts.now in
    let k = c.loop-k.k in
    let within = c.loop-k-test.true in
    let i = slice_index_or order k 0 in
    let listed = slice_get-get_or order k 0 (omega (arith, within)) in
    let drafted = slice_get-get_or ds i (Clause 0) (c.requires.inside k i listed) in
    c.requires.makeable k i (slice_index_or ds i (Clause 0)) listed drafted

pub rows_for_line-requires-clause-parts : goal.rows_for_line-requires-clause-parts
rows_for_line-requires-clause-parts c =
    let order = c.args.order.now in
    let ds = c.args.drafts.now in
    let k = c.loop-k.k in
    let within = c.loop-k-test.true in
    let i = slice_index_or order k 0 in
    let d = slice_index_or ds i (Clause 0) in
    let listed = slice_get-get_or order k 0 (omega (arith, within)) in
    let drafted = slice_get-get_or ds i (Clause 0) (c.requires.inside k i listed) in
    has_parts c.args.bank.now c.args.atoms.now c.args.steps.now c.args.numbers.now d (c.requires.makeable k i d listed drafted)

pub line_of-requires-clause-numbered : goal.line_of-requires-clause-numbered
line_of-requires-clause-numbered c =
    let order = c.args.order.now in
    let ds = c.args.drafts.now in
    let k = c.loop-k.k in
    let within = c.loop-k-test.true in
    let i = slice_index_or order k 0 in
    let d = slice_index_or ds i (Clause 0) in
    let listed = slice_get-get_or order k 0 (omega (arith, within)) in
    let drafted = slice_get-get_or ds i (Clause 0) (c.requires.inside k i listed) in
    let made = branch_made c.args.bank.now c.args.atoms.now c.args.steps.now ds c.requires.right c.args.last c.requires.last order c.requires.walked c.requires.inside c.args.numbers.now c.requires.numbers k i d c.deref.result.now listed drafted (c.requires.makeable k i d listed drafted) (c.deref.ensures.value ∙ c.loop-k.invariant.branches) in
    subst (IsOver (length c.args.atoms.now)) (sym (c.as_slice.ensures ∙ c.in_ok-branch.ensures.branch ∙ made)) (c.requires.numbered k i listed)

pub rows_for_line-requires-clause-numbered : goal.rows_for_line-requires-clause-numbered
rows_for_line-requires-clause-numbered c =
    let order = c.args.order.now in
    let ds = c.args.drafts.now in
    let k = c.loop-k.k in
    let within = c.loop-k-test.true in
    let i = slice_index_or order k 0 in
    let d = slice_index_or ds i (Clause 0) in
    let listed = slice_get-get_or order k 0 (omega (arith, within)) in
    let drafted = slice_get-get_or ds i (Clause 0) (c.requires.inside k i listed) in
    let made = branch_made c.args.bank.now c.args.atoms.now c.args.steps.now ds c.requires.right c.args.last c.requires.last order c.requires.walked c.requires.inside c.args.numbers.now c.requires.numbers k i d c.deref.result.now listed drafted (c.requires.makeable k i d listed drafted) (c.deref.ensures.value ∙ c.loop-k.invariant.branches) in
    subst (IsOver (length c.args.atoms.now)) (sym (c.as_slice-in-loop-k.ensures ∙ c.in_ok-branch.ensures.branch ∙ made)) (c.requires.numbered k i listed)

pub loop-k-preserved : goal.loop-k-preserved
loop-k-preserved c =
    let b = c.args.bank.now in
    let atoms = c.args.atoms.now in
    let t = c.args.steps.now in
    let numbers = c.args.numbers.now in
    let order = c.args.order.now in
    let ds = c.args.drafts.now in
    let k = c.loop-k.k in
    let within = c.loop-k-test.true in
    let i = slice_index_or order k 0 in
    let d = slice_index_or ds i (Clause 0) in
    let listed = slice_get-get_or order k 0 (omega (arith, within)) in
    let drafted = slice_get-get_or ds i (Clause 0) (c.requires.inside k i listed) in
    let can = c.requires.makeable k i d listed drafted in
    let made = branch_made b atoms t ds c.requires.right c.args.last c.requires.last order c.requires.walked c.requires.inside numbers c.requires.numbers k i d c.deref.result.now listed drafted can (c.deref.ensures.value ∙ c.loop-k.invariant.branches) in
    let is = c.in_ok-branch.ensures.branch ∙ made in
    let line = subst (λ ls. IsLineBy b atoms t numbers ls d c.in_ok-line.line) (c.as_slice.ensures ∙ is) c.in_ok-line.ensures.line in
    let right = line_made b atoms t ds c.requires.right c.args.last c.requires.last order c.requires.walked c.requires.inside numbers c.requires.numbers k i d c.in_ok-line.line listed drafted can line in
    record {
      branches = map_more (λ j. branch (the_tree b.terms atoms t ds j)) order k i c.loop-k.self.branches.items c.push-in-loop-k.new.self.items c.in_ok-packed.packed listed c.loop-k.invariant.branches (c.in_ok-packed.ensures ∙ c.as_slice-in-loop-k-2.ensures ∙ is) c.in_ok-push-2.ensures.items;
      lines = map_more (λ j. line_of (atoms_at b.terms atoms) (map (the_tree b.terms atoms t ds) order) (the_tree b.terms atoms t ds j)) order k i c.loop-k.self.written.lines c.push.new.self c.in_ok-line.line listed c.loop-k.invariant.lines right c.in_ok-push.ensures.ok;
      rows = lines_more (rows_of b.terms c.args.witnesses.now) c.loop-k.self.written.lines c.push.new.self c.in_ok-line.line c.loop-k.self.written.rows c.in_ok-rows.rows c.max-self.result c.in_ok-push.ensures.ok c.loop-k.invariant.rows (c.in_ok-rows.ensures numbers c.in_ok-line.line (subst (λ ls. IsLineBy b atoms t numbers ls d c.in_ok-line.line) (c.as_slice.ensures ∙ sym c.as_slice-in-loop-k.ensures) c.in_ok-line.ensures.line)) c.max-self.ensures;
      empty = c.in_ok-branch.ensures.empty;
      made = c.in_ok-line.ensures.made;
      in_range = subst (AllByRecursion HasNumbers) (sym c.in_ok-push.ensures.ok) (all-last HasNumbers c.loop-k.self.written.lines c.in_ok-line.line c.loop-k.invariant.in_range c.line_in_range.ensures);
    }
