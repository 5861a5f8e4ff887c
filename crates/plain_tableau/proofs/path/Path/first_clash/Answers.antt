use Rattle.std.proofs.Common.{◌≡◌, ◌<◌, ◌≤◌, ℕ, true, false, List, Some, None, length, get_or, slice_get, sym, ap, subst, ◌∙◌, arith}
use Rattle.std.specs.List.{position_or_len}
use Rattle.std.proofs.lemmas.List.Sums.{position_or_len_is}
use Rattle.std.proofs.lemmas.Option.{slice_get-get_or, slice_get_past}
use Rattle.sat_base.specs.declared.literal.SatLit.{SatLit}
use Rattle.sat_base.specs.Literal.{negated, holds}
use Rattle.search_spec.specs.Numbered.{numbers}
use Rattle.tableau_rebuild.specs.Tables.{no_literal}
use Rattle.plain_tableau.specs.Expansion.{first_clash}
use Rattle.plain_tableau.proofs.path.Path.first_clash.Goals as goal

clash_at : (keys : List SatLit) (i : ℕ) → i < length keys → ((k : ℕ) → k < i → holds keys (negated (get_or keys k no_literal)) ≡ false) → holds keys (negated (get_or keys i no_literal)) ≡ true → Some (get_or keys i no_literal) ≡ first_clash numbers keys
clash_at keys i inside before here =
    let at : position_or_len (λ l. holds keys (negated l)) keys ≡ i = position_or_len_is (λ l. holds keys (negated l)) keys i no_literal (omega (arith, inside)) before (λ h. here) in
    sym (slice_get-get_or keys i no_literal inside) ∙ ap (slice_get keys) (sym at)

no_clash : (keys : List SatLit) (i : ℕ) → length keys ≤ i → ((k : ℕ) → k < i → holds keys (negated (get_or keys k no_literal)) ≡ false) → None ≡ first_clash numbers keys
no_clash keys i past before =
    let at : position_or_len (λ l. holds keys (negated l)) keys ≡ length keys = position_or_len_is (λ l. holds keys (negated l)) keys (length keys) no_literal (omega arith) (λ k h. before k (omega (arith, h, past))) (λ h. absurd (omega (arith, h))) in
    sym (slice_get_past keys (length keys) (omega arith)) ∙ ap (slice_get keys) (sym at)

pub returns-then-contains : goal.returns-then-contains
returns-then-contains c =
    let keys = c.args.self.now.literals.keys in
    let same = c.as_slice-literals.ensures.keys in
    let i = c.loop-i.i in
    let clashes : holds keys (negated (get_or c.as_slice-literals.result.now i no_literal)) ≡ true = subst (λ m. holds keys m ≡ true) c.negated.ensures (sym c.if-contains.ensures) in
    subst (λ (ls : List SatLit). Some (get_or ls i no_literal) ≡ first_clash numbers keys) (sym same)
    (clash_at keys i (subst (λ (ls : List SatLit). i < length ls) same c.loop-i-test.true) (λ k h. subst (λ (ls : List SatLit). holds keys (negated (get_or ls k no_literal)) ≡ false) same (c.loop-i.invariant k no_literal h)) (subst (λ (ls : List SatLit). holds keys (negated (get_or ls i no_literal)) ≡ true) same clashes))

pub returns : goal.returns
returns c =
    let keys = c.args.self.now.literals.keys in
    let same = c.as_slice-literals.ensures.keys in
    no_clash keys c.loop-i.i (subst (λ (ls : List SatLit). length ls ≤ c.loop-i.i) same c.loop-i-test.false) (λ k h. subst (λ (ls : List SatLit). holds keys (negated (get_or ls k no_literal)) ≡ false) same (c.loop-i.invariant k no_literal h))
