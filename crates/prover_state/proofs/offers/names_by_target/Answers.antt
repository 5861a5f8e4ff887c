use Rattle.std.proofs.Common.{◌≡◌, ◌<◌, ◌+◌, ◌++◌, ℕ, List, map, drop, refl, sym, subst, ◌∙◌, arith}
use Rattle.std.specs.Prelude.{filter}
use Rattle.stt_core.specs.SimpleType.{base, target}
use Rattle.stt_core.specs.TypedName.{TypedName}
use Rattle.stt_core.specs.View.{the_type}
use Rattle.instantiate.specs.Listing.{Listing, ids_of}
use Rattle.tableau_calculus.specs.Each.{Each}
use Rattle.search_spec.specs.Heads.{is_offered, places_to}
use Rattle.prover_state.proofs.EachLaws.{each-weaker}
use Rattle.prover_state.proofs.EmptyLaws.{got-typed, below-more, offered-more}
use Rattle.prover_state.proofs.OfferingLaws.{unoffered-step}
use Rattle.prover_state.proofs.offers.names_by_target.Goals.{then-is_offered+in_ok-list_name-in-Some, else-is_offered}
use Rattle.prover_state.proofs.offers.names_by_target.Goals as goal

pub loop-i-preserved : goal.loop-i-preserved
loop-i-preserved c =
    let types = map (λ (x : TypedName). x.type) c.args.consts.now in
    let offered = is_offered c.args.flags.now in
    let i = c.loop-i.i in
    let a = the_type c.in-Some.ty.now in
    let at = got-typed c.args.consts.now i a c.in-Some.ensures in
    let inv = c.loop-i.invariant in
    let Done : List Listing → Type 0 = λ names. record {
      below : (n : ℕ) → Each (λ k. k < i + 1) (ids_of (base n) names);
      all : (n : ℕ) → ids_of (base n) names ++ filter offered (places_to n (i + 1) (drop (i + 1) types)) ≡ filter offered (places_to n 0 types);
    } in
    elim c.if-is_offered.branch [
      | then-is_offered+in_ok-list_name-in-Some w ↦
          let new = w.list_name.new.names in
          let added = w.in_ok-list_name-in-Some.ensures in
          subst Done (sym w.names-is) (record {
            below = below-more types i a at (target a) refl c.loop-i.names new added inv.below;
            all = λ n. offered-more types i a at (target a) refl c.loop-i.names new added inv.below offered (sym c.is_offered.ensures ∙ w.if-is_offered.true) n ∙ inv.all n;
          })
      | else-is_offered w ↦
          subst Done (sym w.names-is) (record {
            below = λ n. each-weaker (λ k. k < i) (λ k. k < i + 1) (λ k h. omega (arith, h)) (ids_of (base n) c.loop-i.names) (inv.below n);
            all = λ n. unoffered-step offered n i types a at (ids_of (base n) c.loop-i.names) (sym c.is_offered.ensures ∙ w.if-is_offered.false) ∙ inv.all n;
          })
    ]
