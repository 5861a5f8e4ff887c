use Rattle.std.proofs.Common.{Vec, Global, ℕ, List, [], ◌∷◌, ◌++◌, map, sym, ap, ◌∙◌}
use Rattle.stt_core.specs.SimpleType.{base}
use Rattle.instantiate.specs.Listing.{Listing, ids_of}
use Rattle.prover_state.proofs.ByBaseLaws.{ids-listings, listed-push}
use Rattle.prover_state.proofs.by_base.ByBase.push.Goals as goal

pub returns : goal.returns
returns c = λ m.
    let f : Vec ℕ Global → List ℕ = λ v. v.items in
    let stood = sym (ids-listings m (map f c.reach.new.lists.items)) ∙ ap (λ (all : List Listing). ids_of (base m) all) (c.in_ok-reach.ensures.same ∙ c.self.view_is) in
    ids-listings m _
    ∙ listed-push f c.reach.new.lists.items c.args.n m c.args.k c.index_mut.result.now c.push.new.self (ids_of (base m) c.args.self.now) c.in_ok-reach.ensures.there c.index_mut.ensures.value (c.in_ok-push.ensures.items ∙ ap (λ n. c.index_mut.result.now.items ++ n ∷ []) c.in_ok-number.ensures) stood
