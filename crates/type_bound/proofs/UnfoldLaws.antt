-- Unfolding keeps types within a limit.
use Rattle.std.proofs.Common.{ℕ, Bool, true, false, List, [], ◌∷◌, Option, Some, None, option_map, if◌then◌else◌}
use Rattle.std.specs.Prelude.{option_to_list, option_and_then}
use Rattle.stt_core.specs.Lambda.{Constant, name, equality, Lambda, bound, constant, lam, app}
use Rattle.delta_defs.specs.Definitions.{Definition, meant, unfolded}
use Rattle.delta_defs.specs.Unfolding.{stated, in_terms_of, may_follow, if_it_may_follow, taken_from, with_next, taken_after, unless_taken, left_after, definitions_of, left_formulas}
use Rattle.tableau_calculus.specs.Each.{Each}
use Rattle.search_spec.proofs.NamingLaws.{each-joined, pick_good}
use Rattle.search_spec.proofs.TypedPushes.{each_mapped}
use Rattle.type_bound.specs.Modest.{IsModest, IsModestIfAny, UnfoldingKeepsTypes}

module _ (limit : ℕ) where
  abbrev Def : Definition → Type 0
  Def d = IsModest limit d.term

  meant-modest : (ds : List Definition) (c : Constant) → Each Def ds → IsModest limit (constant c) → IsModest limit (meant ds c)
  meant-modest [] c h k = k
  meant-modest (d ∷ ds) c h k = pick_good (IsModest limit) _ d.term (meant ds c) h.0 (meant-modest ds c h.1 k)

  unfolded-modest : (ds : List Definition) (t : Lambda) → Each Def ds → IsModest limit t → IsModest limit (unfolded ds t)
  unfolded-modest ds (bound k) h g = tt
  unfolded-modest ds (constant c) h g = meant-modest ds c h g
  unfolded-modest ds (lam a s) h g = (g.0, unfolded-modest ds s h g.1)
  unfolded-modest ds (app s u) h g = (unfolded-modest ds s h g.0, unfolded-modest ds u h g.1)

  abbrev IsDef : Option Definition → Type 0
  IsDef None = Unit {0}
  IsDef (Some d) = Def d

  stated-modest : (t : Lambda) → IsModest limit t → IsDef (stated t)
  stated-modest (app (app (constant (equality a)) (constant (name k))) t) h = h.1
  stated-modest t h = tt

  if_it : (ds : List Definition) (d : Definition) (b : Bool) → Def d → IsDef (if b then Some d else None)
  if_it ds d true h = h
  if_it ds d false h = tt

  of_stated : (ds : List Definition) (o : Option Definition) → Each Def ds → IsDef o → IsDef (option_and_then (λ d. if_it_may_follow ds (in_terms_of ds d)) o)
  of_stated ds None are h = tt
  of_stated ds (Some d) are h = if_it ds (in_terms_of ds d) (may_follow ds (in_terms_of ds d)) (unfolded-modest ds d.term are h)

  taken_from-modest : (ds : List Definition) (mark : Bool) (t : Lambda) → Each Def ds → IsModest limit t → IsDef (taken_from ds mark t)
  taken_from-modest ds false t are h = tt
  taken_from-modest ds true t are h = of_stated ds (stated t) are (stated-modest t h)

  listed : (o : Option Definition) → IsDef o → Each Def (option_to_list o)
  listed None h = tt
  listed (Some d) h = (h, tt)

  next-modest : (ds : List Definition) (mark : Bool) (t : Lambda) → Each Def ds → IsModest limit t → Each Def (with_next ds mark t)
  next-modest ds mark t are h = each-joined Def ds (option_to_list (taken_from ds mark t)) are (listed (taken_from ds mark t) (taken_from-modest ds mark t are h))

  taken-modest : (ds : List Definition) (marks : List Bool) (ts : List Lambda) → Each Def ds → Each (IsModest limit) ts → Each Def (taken_after ds marks ts)
  taken-modest ds [] ts are h = are
  taken-modest ds (mark ∷ marks) [] are h = are
  taken-modest ds (mark ∷ marks) (t ∷ ts) are h = taken-modest (with_next ds mark t) marks ts (next-modest ds mark t are h.0) h.1

  unless : (o : Option Definition) (t : Lambda) (ts : List Lambda) → IsModest limit t → Each (IsModest limit) ts → Each (IsModest limit) (unless_taken o t ts)
  unless None t ts h k = (h, k)
  unless (Some d) t ts h k = k

  left-modest : (ds : List Definition) (marks : List Bool) (ts : List Lambda) → Each (IsModest limit) ts → Each (IsModest limit) (left_after ds marks ts)
  left-modest ds [] ts h = h
  left-modest ds (mark ∷ marks) [] h = tt
  left-modest ds (mark ∷ marks) (t ∷ ts) h = unless (taken_from ds mark t) t (left_after (with_next ds mark t) marks ts) h.0 (left-modest (with_next ds mark t) marks ts h.1)

  conjecture-modest : (ds : List Definition) (o : Option Lambda) → Each Def ds → IsModestIfAny limit o → IsModestIfAny limit (option_map (unfolded ds) o)
  conjecture-modest ds None are h = tt
  conjecture-modest ds (Some t) are h = unfolded-modest ds t are h

pub unfolding-keeps : UnfoldingKeepsTypes
unfolding-keeps limit p h =
    let ds = definitions_of p in
    let are = taken-modest limit [] p.marked p.assumed tt h.assumed in
    record {
      some = h.some;
      names = h.names;
      assumed = each_mapped (IsModest limit) (IsModest limit) (unfolded ds) (λ t k. unfolded-modest limit ds t are k) (left_formulas p) (left-modest limit [] p.marked p.assumed h.assumed);
      conjecture = conjecture-modest limit ds p.conjecture are h.conjecture;
    }
