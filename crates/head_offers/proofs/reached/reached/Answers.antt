use Rattle.std.proofs.Common.{◌≡◌, ◌<◌, ◌+◌, ◌-◌, ◌∷◌, ◌++◌, ◌||◌, ℕ, suc, Bool, true, false, refl, Vec, Global, List, [], length, map, sym, ap, ap₂, subst, ◌∙◌, arith}
use Rattle.std.specs.List.{All, list_any}
use Rattle.std.proofs.lemmas.List.{length-replicate}
use Rattle.stt_core.specs.Lambda.{Constant, Lambda}
use Rattle.term_bank.specs.NodeView.{the_shape}
use Rattle.term_bank.specs.Terms.{term_at, IsBelow}
use Rattle.search_spec.specs.Offers.{has_constant}
use Rattle.head_offers.specs.Offering.{occurs_among}
use Rattle.head_offers.specs.Internal.Marks.{with_marks, parts_of, any_below, reaches}
use Rattle.head_offers.specs.Internal.Passing.{head_passes, any_passes}
use Rattle.head_offers.proofs.MarkLaws.{each-of-All, All-last, other-default, length-marks, reach-start, reach-found, reach-left}
use Rattle.head_offers.proofs.PassLaws.{has-parts, node-atom, parts-below}
use Rattle.head_offers.proofs.reached.reached.Goals.{then-index+in_ok-id+in_ok-push, else-index}
use Rattle.head_offers.proofs.reached.reached.Goals as goal

pub loop-step-init : goal.loop-step-init
loop-step-init c =
    let ts = c.args.bank.now.terms in
    let start = c.args.start.now in
    let count = c.len-count.result in
    let is = c.mark_all.ensures ∙ ap (with_marks start) (c.in_ok-marks.ensures.items_if_clones_equal (λ y e. e)) in
    let within : All (λ id. id < count) start = λ k d h. omega (arith, c.requires.within k d h, c.len-count.ensures) in
    record {
      count = c.len-count.ensures;
      marks = ap length c.mark_all.ensures ∙ length-marks start c.in_ok-marks.marks.items ∙ ap length (c.in_ok-marks.ensures.items_if_clones_equal (λ y e. e)) ∙ length-replicate count false;
      within = λ k d h. absurd (omega (arith, h, ap length c.new-found.ensures.items));
      heads = λ test.
          ap (λ (xs : List ℕ). any_passes ts test xs || any_below (reaches ts test c.mark_all.new.marks.items) (count - 0)) c.new-found.ensures.items
          ∙ ap (any_below (reaches ts test c.mark_all.new.marks.items)) (let n : count - 0 ≡ count = omega arith in n)
          ∙ reach-start ts test start count c.mark_all.new.marks.items is (each-of-All (λ id. id < count) 0 start within);
    }

pub loop-step-preserved : goal.loop-step-preserved
loop-step-preserved c =
    let ts = c.args.bank.now.terms in
    let total = c.len-count.result in
    let step = c.loop-step.step in
    let j = total - 1 - step in
    let now = c.loop-step.marks.items in
    let found = c.loop-step.found.items in
    let inv = c.loop-step.invariant in
    let before : total - step ≡ suc j = omega (arith, c.loop-step-test.true) in
    let after : total - (step + 1) ≡ j = omega (arith, c.loop-step-test.true) in
    let place : j < length now = omega (arith, c.loop-step-test.true, inv.marks) in
    let value = other-default now j _ false place ∙ sym c.index.ensures in
    let Done : Vec Bool Global → Vec ℕ Global → Type 0 = λ ms fs. record {
      count : total ≡ length ts;
      marks : length ms.items ≡ total;
      within : All (λ id. id < length ts) fs.items;
      heads : (test : Constant → Bool) → (any_passes ts test fs.items || any_below (reaches ts test ms.items) (total - (step + 1))) ≡ occurs_among (map (term_at ts) c.args.start.now) test;
    } in
    let earlier : (test : Constant → Bool) → (any_passes ts test found || any_below (reaches ts test now) (suc j)) ≡ occurs_among (map (term_at ts) c.args.start.now) test =
    λ test. ap (λ n. any_passes ts test found || any_below (reaches ts test now) n) (sym before) ∙ inv.heads test in
    elim c.if-index.branch [
      | then-index+in_ok-id+in_ok-push w ↦
          let shape = the_shape w.node.result.now in
          let parts = parts_of shape in
          let id_is : w.in_ok-id.id ≡ j = w.in_ok-id.ensures in
          let below = parts-below j shape (subst (λ k. IsBelow k shape) id_is w.node.ensures.below) in
          let more = w.in_ok-push.ensures.items ∙ ap (λ k. found ++ k ∷ []) id_is in
          let is = ap (term_at ts) (sym id_is) ∙ w.node.ensures.term in
          subst (λ (ms : Vec Bool Global). Done ms c.if-index.found) (sym w.marks-is)
          (subst (λ (fs : Vec ℕ Global). Done w.mark_parts.new.marks fs) (sym w.found-is) (record {
            count = inv.count;
            marks = ap length w.mark_parts.ensures ∙ length-marks parts now ∙ inv.marks;
            within = subst (All (λ id. id < length ts)) (sym more) (All-last (λ id. id < length ts) found j inv.within (omega (arith, place, inv.marks, inv.count)));
            heads = λ test.
                ap₂ (λ (fs : List ℕ) (ms : List Bool). any_passes ts test fs || any_below (reaches ts test ms) (total - (step + 1))) more w.mark_parts.ensures
                ∙ ap (λ n. any_passes ts test (found ++ j ∷ []) || any_below (reaches ts test (with_marks parts now)) n) after
                ∙ reach-found ts test now found parts j (value ∙ w.if-index.true)
                (ap (has_constant test) is ∙ has-parts test ts shape (node-atom w.node.result.now) ∙ ap (λ t. head_passes test t || list_any (λ i. has_constant test (term_at ts i)) parts) (sym is))
                below (omega (arith, place))
                ∙ earlier test;
          }))
      | else-index w ↦
          subst (λ (ms : Vec Bool Global). Done ms c.if-index.found) (sym w.marks-is)
          (subst (λ (fs : Vec ℕ Global). Done c.loop-step.marks fs) (sym w.found-is) (record {
            count = inv.count;
            marks = inv.marks;
            within = inv.within;
            heads = λ test.
                ap (λ n. any_passes ts test found || any_below (reaches ts test now) n) after
                ∙ reach-left ts test now found j (value ∙ w.if-index.false)
                ∙ earlier test;
          }))
    ]

pub returns-clause-heads : goal.returns-clause-heads
returns-clause-heads c = λ test.
    let ts = c.args.bank.now.terms in
    let end = c.loop-step.step in
    let done : c.len-count.result - end ≡ 0 = omega (arith, c.loop-step-test.false) in
    sym (ap (λ n. any_passes ts test c.loop-step.found.items || any_below (reaches ts test c.loop-step.marks.items) n) done ∙ none (any_passes ts test c.loop-step.found.items)) ∙ c.loop-step.invariant.heads test
  where
    none : (b : Bool) → (b || false) ≡ b
    none true = refl
    none false = refl
