use Rattle.std.proofs.Common.{Vec, Global, ◌≡◌, ◌<◌, ◌+◌, ◌-◌, ◌∷◌, ◌++◌, [], ℕ, Bool, List, map, sym, ap, ◌∙◌, arith}
use Rattle.std.specs.Prelude.{filter}
use Rattle.stt_core.specs.SimpleType.{SimpleType, base}
use Rattle.search_spec.specs.Heads.{bases_from, is_offered, is_offered_base}
use Rattle.head_offers.specs.Offering.{the_offers}
use Rattle.prover_state.proofs.OfferingLaws.{base-offered, base-unoffered}
use Rattle.prover_state.proofs.offers.offered_bases.Goals.{then-is_offered+in_ok-push, else-is_offered}
use Rattle.prover_state.proofs.offers.offered_bases.Goals as goal

pub loop-i-preserved : goal.loop-i-preserved
loop-i-preserved c =
    let offers = the_offers c.args.offers.now in
    let i = c.loop-i.i in
    let m = c.args.declared + 1 in
    let now = c.loop-i.numbers.items in
    let within : i < m = omega (arith, c.loop-i-test.true, c.in_ok-last.ensures) in
    let number = c.in_ok-number.ensures in
    let told = c.is_offered.ensures ∙ ap (λ (fs : List Bool). is_offered fs c.in_ok-number.number) c.as_slice.ensures.value in
    elim c.if-is_offered.branch [
      | then-is_offered+in_ok-push w ↦
          ap (λ (xs : List ℕ). map base xs ++ filter (is_offered_base offers) (bases_from (i + 1 + 1) (m - (i + 1)))) (ap (λ (v : Vec ℕ Global). v.items) w.numbers-is)
          ∙ base-offered (is_offered_base offers) i m within now w.push.new.self.items c.in_ok-number.number number (sym told ∙ w.if-is_offered.true) w.in_ok-push.ensures.items
          ∙ c.loop-i.invariant
      | else-is_offered w ↦
          ap (λ (xs : List ℕ). map base xs ++ filter (is_offered_base offers) (bases_from (i + 1 + 1) (m - (i + 1)))) (ap (λ (v : Vec ℕ Global). v.items) w.numbers-is)
          ∙ base-unoffered (is_offered_base offers) i m within now c.in_ok-number.number number (sym told ∙ w.if-is_offered.false)
          ∙ c.loop-i.invariant
    ]
