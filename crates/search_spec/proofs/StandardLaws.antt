-- At their standard numbers the keys of this project's own change nothing.
use Rattle.std.specs.Prelude.{◌≡◌, ◌<◌, ◌+◌, ◌++◌, ◌==◌, ◌&&◌, ◌||◌, not, nat_eq, slice_index_or, ℕ, zero, suc, Bool, true, false, List, [], ◌∷◌, map, filter, length, refl, if◌then◌else◌}
use Rattle.std.specs.List.{list_any}
use Rattle.std.proofs.Common.{ap, ap₂, ◌∙◌, arith}
use Rattle.stt_core.specs.SimpleType.{SimpleType, base, arrow, target, same_type}
use Rattle.stt_core.specs.Lambda.{name, witness, falsity, negation, implication, all, equality, Lambda, bound, constant}
use Rattle.stt_core.specs.Typing.{Scope}
use Rattle.normal_forms.specs.Normal.{eta}
use Rattle.tableau_calculus.specs.Literals.{Literal}
use Rattle.tableau_calculus.specs.Witnesses.{Row, with_rows}
use Rattle.mode_file.specs.declared.Mode.{Mode}
use Rattle.search_spec.specs.Defaults.{default_delay}
use Rattle.search_spec.specs.Heads.{HeadOffers, is_offered, is_offered_base, places_to, bases_from, logical_heads, fitting_heads}
use Rattle.search_spec.specs.Partial.{Hole}
use Rattle.search_spec.specs.State.{State, kind_delay, brings_default, moment_by}
use Rattle.search_spec.specs.Offers.{is_ranged_over, is_prepared, witness_terms, takes_witness, has_in_start, is_name, is_over, is_selection, answers_from, offered_heads}
use Rattle.search_spec.specs.Standard.{IsPlainMode, SearchesPlainly, all_logical_heads, all_heads}

-- of flags that are all set, each is
all_set : (k n j : ℕ) → j < n → slice_index_or (answers_from (λ i. true) k n) j false ≡ true
all_set k zero j h = absurd (omega (arith, h))
all_set k (suc n) zero h = refl
all_set k (suc n) (suc j) h = all_set (suc k) n j (omega (arith, h))

module _ (flags : List Bool) where
  -- all places of a list are kept, where a flag is set for each
  all_places : (b k : ℕ) (types : List SimpleType) → ((j : ℕ) → j < k + length types → is_offered flags j ≡ true)
      → filter (is_offered flags) (places_to b k types) ≡ places_to b k types
  all_places b k [] h = refl
  all_places b k (a ∷ types) h =
      go (nat_eq (target a) b) (h k (omega arith)) (all_places b (suc k) types (λ j l. h j (omega (arith, l))))
    where
      go : (t : Bool) → is_offered flags k ≡ true → filter (is_offered flags) (places_to b (suc k) types) ≡ places_to b (suc k) types
          → filter (is_offered flags) (if t then k ∷ places_to b (suc k) types else places_to b (suc k) types) ≡ (if t then k ∷ places_to b (suc k) types else places_to b (suc k) types)
      go true e rest = kept (is_offered flags k) e
        where
          kept : (t : Bool) → t ≡ true → (if t then k ∷ filter (is_offered flags) (places_to b (suc k) types) else filter (is_offered flags) (places_to b (suc k) types)) ≡ k ∷ places_to b (suc k) types
          kept true f = ap (λ ks. k ∷ ks) rest
          kept false f = cc
      go false e rest = rest

  -- so many base types from a number on are kept, where a flag is set for each
  all_bases : (offers : HeadOffers) → offers.bases ≡ flags → (k n : ℕ) → ((j : ℕ) → j < k + n → is_offered flags j ≡ true) → filter (is_offered_base offers) (bases_from k n) ≡ bases_from k n
  all_bases offers is k zero h = refl
  all_bases offers is k (suc n) h =
      kept (is_offered_base offers (base k)) (ap (λ fs. is_offered fs k) is ∙ h k (omega arith)) (all_bases offers is (suc k) n (λ j l. h j (omega (arith, l))))
    where
      kept : (t : Bool) → t ≡ true → filter (is_offered_base offers) (bases_from (suc k) n) ≡ bases_from (suc k) n
          → (if t then base k ∷ filter (is_offered_base offers) (bases_from (suc k) n) else filter (is_offered_base offers) (bases_from (suc k) n)) ≡ base k ∷ bases_from (suc k) n
      kept true f rest = ap (λ bs. base k ∷ bs) rest
      kept false f rest = cc

-- all heads are offered, over what is declared
abbrev all_offers : Scope → HeadOffers
all_offers scope = record {
  names = answers_from (λ k. true) 0 (length scope.names);
  bases = answers_from (λ k. true) 0 (scope.bases + 2);
  choices = true;
}

all_offered : (mode : Mode) → mode.names ≡ 0 → (scope : Scope) (start : List Literal) → offered_heads mode scope start ≡ all_offers scope
all_offered mode e scope start =
    ap (λ (unseen : Bool). record {
      names = answers_from (λ k. unseen || has_in_start (is_name k) start) 0 (length scope.names);
      bases = answers_from (λ n. unseen || has_in_start (is_over scope.names n) start) 0 (scope.bases + 2);
      choices = unseen || has_in_start is_selection start;
    }) (ap (λ n. n == 0) e)

all_logical : (scope : Scope) (rows : List Row) (b : ℕ) → logical_heads (all_offers scope) (with_rows scope rows) b true ≡ all_logical_heads (with_rows scope rows) b
all_logical scope rows zero =
    ap (λ (bs : List SimpleType). constant falsity ∷ constant negation ∷ constant implication ∷ constant (equality (base 0)) ∷ []
    ++ map (λ c. constant (equality c)) bs ++ map (λ c. constant (all c)) bs)
    (all_bases (answers_from (λ k. true) 0 (scope.bases + 2)) (all_offers scope) refl 1 (scope.bases + 1) (λ j l. all_set 0 (scope.bases + 2) j (omega (arith, l))))
all_logical scope rows (suc n) = refl

all_fit : (scope : Scope) (rows : List Row) (h : Hole) → fitting_heads (all_offers scope) (with_rows scope rows) h ≡ all_heads (with_rows scope rows) h
all_fit scope rows h =
    ap₂ (λ (ns : List ℕ) (ls : List Lambda). (map bound (places_to h.base 0 h.context) ++ map (λ k. constant (name k)) ns ++ map (λ k. constant (witness k)) (places_to h.base 0 (map (λ r. r.type) rows))) ++ ls)
    (all_places (answers_from (λ k. true) 0 (length scope.names)) h.base 0 scope.names (λ j l. all_set 0 (length scope.names) j (omega (arith, l))))
    (all_logical scope rows h.base)

pub searches-plainly : (mode : Mode) → IsPlainMode mode → SearchesPlainly mode
searches-plainly mode p = record {
  moments = λ count due. ap (λ clock. moment_by clock count due) p.clock;
  delays = λ c. ap (λ n. kind_delay mode c + n) (no_delay (brings_default c)) ∙ (let e : kind_delay mode c + 0 ≡ kind_delay mode c = omega arith in e);
  prepared = λ n s. ap (λ k. if not (k == 0) then is_ranged_over (base n) s else list_any (λ u. same_type (base n) u.type) s.terms) p.terms;
  early = λ a s. ap (λ k. if not (k == 0) then witness_terms a 0 s.rows else []) p.terms;
  witnesses = λ a w s. ap (λ (b : Bool). if b then eta a w ∷ [] else []) (none_taken a s);
  sides = λ s t. ap (λ k. if not (k == 0) then s ∷ t ∷ [] else []) p.terms;
  heads = λ scope start rows h. ap (λ (offers : HeadOffers). fitting_heads offers (with_rows scope rows) h) (all_offered mode p.names scope start) ∙ all_fit scope rows h;
}
  where
    no_delay : (b : Bool) → default_delay mode b ≡ 0
    no_delay true = p.defaults
    no_delay false = refl

    none_taken : (a : SimpleType) (s : State) → takes_witness mode a s ≡ false
    none_taken (base n) s = ap (λ k. not (k == 0)) p.terms
    none_taken (arrow a b) s = ap (λ k. not (k == 0) && is_prepared mode (arrow a b) s) p.terms
