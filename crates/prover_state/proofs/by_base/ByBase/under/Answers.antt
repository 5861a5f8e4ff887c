use Rattle.std.proofs.Common.{◌≡◌, ◌<◌, ◌≤◌, List, Vec, Global, ℕ, length, get_or, sym, ap, subst, ◌∙◌}
use Rattle.stt_core.specs.SimpleType.{base}
use Rattle.instantiate.specs.Listing.{ids_of}
use Rattle.prover_state.proofs.ByBaseLaws.{ids-listings, listed-there, listed-nowhere}
use Rattle.prover_state.proofs.by_base.ByBase.under.Goals as goal

pub returns-in-Some : goal.returns-in-Some
returns-in-Some c =
    let v = c.in-Some.list.now in
    let P : List (Vec ℕ Global) → Type 0 = λ vs. (c.args.n < length vs) × (v ≡ get_or vs c.args.n v) in
    let there = subst P c.deref.ensures.value (c.in-Some.ensures.lookup.3.0, c.in-Some.ensures.lookup.1) in
    c.as_slice.ensures.value ∙ listed-there (λ (u : Vec ℕ Global). u.items) c.self.inside.lists.items c.args.n v there.0 there.1
    ∙ sym (ids-listings c.args.n _) ∙ ap (ids_of (base c.args.n)) c.self.view_is

pub returns-in-None : goal.returns-in-None
returns-in-None c =
    let P : List (Vec ℕ Global) → Type 0 = λ vs. length vs ≤ c.args.n in
    listed-nowhere (λ (u : Vec ℕ Global). u.items) c.self.inside.lists.items c.args.n (subst P c.deref.ensures.value c.in-None.ensures.lookup.3)
    ∙ sym (ids-listings c.args.n _) ∙ ap (ids_of (base c.args.n)) c.self.view_is
