use Rattle.std.proofs.Common.{◌≡◌, ◌+◌, ◌-◌, ◌++◌, ℕ, zero, List, [], ◌∷◌, suc, length, take, replicate, Option, None, slice_index_or, ap₂, refl, sym, ap, subst, ◌∙◌, length-append, arith}
use Rattle.tableau_rebuild.specs.Internal.Arenas.{IsDrawn, IsEarlierDraft, AreResults}
use Rattle.tableau_rebuild.proofs.ArenaLaws.{none_drawn, none_before, results_more}
use Rattle.tableau_rebuild.proofs.arena.draw.Goals as goal

no_front : (k : ℕ) → take k [] ++ replicate (k - 0) None ≡ replicate {A = Option ℕ} k None
no_front zero = refl
no_front (suc k) = let e : suc k - 0 ≡ suc k = omega arith in ap (λ m. replicate m None) e

all_none : (k n : ℕ) → slice_index_or {A = Option ℕ} (replicate k None) n None ≡ None
all_none zero n = refl
all_none (suc k) zero = refl
all_none (suc k) (suc n) = all_none k n

count : (k : ℕ) → length (replicate {A = Option ℕ} k None) ≡ k
count zero = refl
count (suc k) = let rest = count k in omega (arith, rest)

pub loop-n-init : goal.loop-n-init
loop-n-init c =
    let t = c.args.steps.now in
    let log = c.args.log.now in
    let k = c.len.result in
    let is : c.resize.new.self.items ≡ replicate k None =
    c.in_ok-resize.ensures.items
    ∙ ap₂ (λ (xs : List (Option ℕ)) m. take k xs ++ replicate (k - m) None) c.new-of_clause.ensures.items c.new-of_clause.ensures.len ∙ no_front k in
    record {
      done = record {
        drawn = subst (λ ds. IsDrawn ds c.resize.new.self.items) (sym c.new.ensures.items) (subst (IsDrawn []) (sym is) (none_drawn (replicate k None) (all_none k)));
        before = subst (λ ds. IsEarlierDraft ds 0 0) (sym c.new.ensures.items) (none_before 0 0);
        clauses = ap length is ∙ count k ∙ c.len.ensures;
        count = ap length c.new-2.ensures.items;
        results = subst (AreResults t log c.new.result.items) (sym c.new-2.ensures.items) (λ m s entry h at. cc);
      };
      empty = c.new-resolver.ensures;
    }

pub chain-requires-clause-drawn : goal.chain-requires-clause-drawn
chain-requires-clause-drawn c = c.loop-n.invariant.done.drawn

pub chain-requires-clause-clauses : goal.chain-requires-clause-clauses
chain-requires-clause-clauses c = c.loop-n.invariant.done.clauses

pub chain-requires-clause-results : goal.chain-requires-clause-results
chain-requires-clause-results c = c.loop-n.invariant.done.results

pub chain-requires-clause-next : goal.chain-requires-clause-next
chain-requires-clause-next c = c.loop-n.invariant.done.count

pub chain-requires-clause-before : goal.chain-requires-clause-before
chain-requires-clause-before c = c.loop-n.invariant.done.before

pub chain-requires-clause-empty : goal.chain-requires-clause-empty
chain-requires-clause-empty c = c.loop-n.invariant.empty

pub loop-n-preserved : goal.loop-n-preserved
loop-n-preserved c =
    let t = c.args.steps.now in
    let log = c.args.log.now in
    let n = c.loop-n.n in
    let old = c.loop-n.arena in
    let new = c.chain.new.self in
    let made = c.in_ok-standing.ensures in
    let next : suc n ≡ n + 1 = omega arith in
    let known = c.loop-n.invariant.done in
    record {
      done = record {
        drawn = made.drawn;
        before = subst (λ k. IsEarlierDraft new.drafts.items k 0) next made.before;
        clauses = made.clauses ∙ known.clauses;
        count = ap length (c.in_ok-push.ensures.items ∙ ap (λ xs. xs ++ c.in_ok-standing.standing ∷ []) made.results) ∙ length-append old.of_result.items (c.in_ok-standing.standing ∷ []) ∙ ap (λ k. k + 1) known.count;
        results = results_more t log old.drafts.items new.drafts.items old.of_result.items c.push.new.self.items n c.in_ok-standing.standing made.extends known.results known.count (c.in_ok-push.ensures.items ∙ ap (λ xs. xs ++ c.in_ok-standing.standing ∷ []) made.results) made.stands;
      };
      empty = made.empty;
    }

pub returns-clause-drawn : goal.returns-clause-drawn
returns-clause-drawn c = c.loop-n.invariant.done.drawn

pub returns-clause-all : goal.returns-clause-all
returns-clause-all c =
    let count = c.loop-n.invariant.done.count in
    let below = c.loop-n-test.false in
    let above = c.loop-n.auto.n-end in
    let all = c.len-n-end.ensures in
    omega (arith, count, below, above, all)

pub returns-clause-results : goal.returns-clause-results
returns-clause-results c = c.loop-n.invariant.done.results
