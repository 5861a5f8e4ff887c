-- The table of uses with one more: the number n, for variable i, whose ends are e.
use Rattle.std.proofs.Common.{◌≡◌, ◌≢◌, inl, inr, ◌<◌, ◌≤◌, ℕ, List, [], ◌∷◌, ◌++◌, Some, length, length-append, get_or, refl, sym, ap, ◌∙◌, subst, arith}
use Rattle.std.specs.Prelude.{slice_set, slice_index_or}
use Rattle.std.specs.List.{slice_get}
use Rattle.std.proofs.lemmas.List.{get_or-set_same, get_or-set_other, length-set}
use Rattle.std.proofs.lemmas.Option.{slice_get-get_or, slice_get_within, same_Some}
use Rattle.sat_log.proofs.ChainLaws.{slice_get-seam}
use Rattle.sat_propagate.proofs.ListLaws.{get-set_other}
use Rattle.sat_core.specs.declared.uses.Use.{Use}
use Rattle.sat_core.specs.declared.uses.Ends.{Ends}
use Rattle.sat_core.specs.Internal.Uses.{no_use, no_ends, IsListed, here, Leads, stays, followed, IsChain, AreLinked}
use Rattle.sat_core.proofs.UsesLaws.{same_or_other, none_listed, listed_then, leads_then, listed_more, chain_more, get_followed, get_unfollowed, listed_followed, leads_followed, one, linked_set, onward_more}

-- the use that is pushed, and the uses with it
abbrev pub entered : ℕ → Use
entered n = record { clause = n; next = no_use }

abbrev pub pushed : List Use → ℕ → List Use
pushed uses n = uses ++ entered n ∷ []

-- what is known of the table where a use is pushed at a place
pub record IsRoom (uses : List Use) (ends : List Ends) (i p : ℕ) (e : Ends) : Type 0 where
  pub linked : AreLinked uses ends
  pub at_i : slice_get ends i ≡ Some e
  pub is : p ≡ length uses
  pub below : p < no_use

pub room_of : (uses : List Use) (ends : List Ends) (i p : ℕ) (e : Ends) → AreLinked uses ends → i < length ends → e ≡ slice_index_or ends i e → p ≡ length uses → p < no_use → IsRoom uses ends i p e
room_of uses ends i p e linked inside is_e is below = record {
  linked = linked;
  at_i = slice_get-get_or ends i e inside ∙ ap Some (sym is_e);
  is = is;
  below = below;
}

end_is : (uses : List Use) (ends : List Ends) (i p : ℕ) (e : Ends) → IsRoom uses ends i p e → get_or ends i no_ends ≡ e
end_is uses ends i p e room = same_Some _ _ (sym (slice_get-get_or ends i no_ends (slice_get_within ends i e room.at_i)) ∙ room.at_i)

seam : (uses : List Use) (n p : ℕ) → p ≡ length uses → slice_get (pushed uses n) p ≡ Some (entered n)
seam uses n p is = ap (slice_get (pushed uses n)) is ∙ slice_get-seam uses (entered n)

few_pushed : (uses : List Use) (n p : ℕ) → p ≡ length uses → p < no_use → length (pushed uses n) ≤ no_use
few_pushed uses n p is below = let longer = length-append uses (entered n ∷ []) in omega (arith, longer, is, below)

-- 1. The first use of a variable

pub first_there : (uses : List Use) (ends : List Ends) (i n p : ℕ) (e : Ends) → IsRoom uses ends i p e → IsListed (pushed uses n) (get_or (slice_set ends i (record { first = p; last = p })) i no_ends).first n
first_there uses ends i n p e room =
    subst (λ (f : Ends). IsListed (pushed uses n) f.first n) (sym (get_or-set_same ends i (record { first = p; last = p }) no_ends (slice_get_within ends i e room.at_i)))
    (here p n (entered n) (seam uses n p room.is) refl)

pub first_kept : (uses : List Use) (ends : List Ends) (i n p : ℕ) (e : Ends) → IsRoom uses ends i p e → e.last ≡ no_use → (v k : ℕ) → IsListed uses (get_or ends v no_ends).first k
    → IsListed (pushed uses n) (get_or (slice_set ends i (record { first = p; last = p })) v no_ends).first k
first_kept uses ends i n p e room none v k h =
    elim (same_or_other v i) [
      | inl same ↦
          let at_v : get_or ends v no_ends ≡ e = ap (λ (j : ℕ). get_or ends j no_ends) same ∙ end_is uses ends i p e room in
          let nowhere : (get_or ends v no_ends).first ≡ no_use = ap (λ (f : Ends). f.first) at_v ∙ (room.linked.chains i e room.at_i).none none in
          absurd (none_listed uses k room.linked.few (subst (λ (place : ℕ). IsListed uses place k) nowhere h))
      | inr other ↦
          subst (λ (f : Ends). IsListed (pushed uses n) f.first k) (sym (get_or-set_other ends i v (record { first = p; last = p }) no_ends other))
          (listed_more uses (entered n) (get_or ends v no_ends).first k h)
    ]

pub first_linked : (uses : List Use) (ends : List Ends) (i n p : ℕ) (e : Ends) → IsRoom uses ends i p e → AreLinked (pushed uses n) (slice_set ends i (record { first = p; last = p }))
first_linked uses ends i n p e room =
    linked_set uses (pushed uses n) ends i (record { first = p; last = p }) (slice_get_within ends i e room.at_i) room.linked (few_pushed uses n p room.is room.below)
    (onward_more uses n (subst (λ (m : ℕ). m < no_use) room.is room.below) room.linked.onward)
    (record {
      none = λ no. let below = room.below in absurd (omega (arith, no, below));
      leads = λ _. stays p p refl;
      last = λ _. (entered n, seam uses n p room.is, refl);
    })
    (let is = room.is in omega (arith, is)) (λ w f other at. chain_more uses (entered n) f (room.linked.chains w f at))

-- 2. A further use of a variable

-- the last use of the variable, in the longer list
last_more : (uses : List Use) (ends : List Ends) (i n p : ℕ) (e : Ends) → IsRoom uses ends i p e → e.last ≢ no_use → (entry : Use) × (slice_get (pushed uses n) e.last ≡ Some entry) × (entry.next ≡ no_use)
last_more uses ends i n p e room some = (chain_more uses (entered n) e (room.linked.chains i e room.at_i)).last some

pub last_below : (uses : List Use) (ends : List Ends) (i p : ℕ) (e : Ends) → IsRoom uses ends i p e → e.last ≢ no_use → e.last < p
last_below uses ends i p e room some =
    let l = (room.linked.chains i e room.at_i).last some in
    let within = slice_get_within uses e.last l.0 l.1 in
    let is = room.is in omega (arith, within, is)

seam_followed : (uses : List Use) (ends : List Ends) (i n p : ℕ) (e : Ends) → IsRoom uses ends i p e → e.last ≢ no_use → slice_get (followed (pushed uses n) e.last p) p ≡ Some (entered n)
seam_followed uses ends i n p e room some =
    let below = last_below uses ends i p e room some in
    get_unfollowed (pushed uses n) e.last p p (entered n) (λ same. absurd (omega (arith, same, below))) (seam uses n p room.is)

leads_pushed : (uses : List Use) (ends : List Ends) (i n p : ℕ) (e : Ends) → IsRoom uses ends i p e → e.last ≢ no_use → Leads (followed (pushed uses n) e.last p) e.first p
leads_pushed uses ends i n p e room some =
    let l = last_more uses ends i n p e room some in
    let chain = chain_more uses (entered n) e (room.linked.chains i e room.at_i) in
    leads_then (followed (pushed uses n) e.last p) e.first e.last (record { clause = l.0.clause; next = p })
    (leads_followed (pushed uses n) e.last p e.first e.last l.0 (few_pushed uses n p room.is room.below) l.1 l.2 some (chain.leads some)) (get_followed (pushed uses n) e.last p l.0 l.1)

pub further_there : (uses : List Use) (ends : List Ends) (i n p : ℕ) (e : Ends) → IsRoom uses ends i p e → e.last ≢ no_use
    → IsListed (followed (pushed uses n) e.last p) (get_or (slice_set ends i (record { first = e.first; last = p })) i no_ends).first n
further_there uses ends i n p e room some =
    subst (λ (f : Ends). IsListed (followed (pushed uses n) e.last p) f.first n) (sym (get_or-set_same ends i (record { first = e.first; last = p }) no_ends (slice_get_within ends i e room.at_i)))
    (listed_then (followed (pushed uses n) e.last p) e.first p n (leads_pushed uses ends i n p e room some) (here p n (entered n) (seam_followed uses ends i n p e room some) refl))

pub further_kept : (uses : List Use) (ends : List Ends) (i n p : ℕ) (e : Ends) → IsRoom uses ends i p e → e.last ≢ no_use → (v k : ℕ) → IsListed uses (get_or ends v no_ends).first k
    → IsListed (followed (pushed uses n) e.last p) (get_or (slice_set ends i (record { first = e.first; last = p })) v no_ends).first k
further_kept uses ends i n p e room some v k h =
    let l = last_more uses ends i n p e room some in
    let kept = listed_followed (pushed uses n) e.last p (get_or ends v no_ends).first k l.0 (few_pushed uses n p room.is room.below) l.1 l.2 (listed_more uses (entered n) (get_or ends v no_ends).first k h) in
    subst (λ (place : ℕ). IsListed (followed (pushed uses n) e.last p) place k) (sym same_first) kept
  where
    same_first : (get_or (slice_set ends i (record { first = e.first; last = p })) v no_ends).first ≡ (get_or ends v no_ends).first
    same_first = elim (same_or_other v i) [
      | inl same ↦
          ap (λ (j : ℕ). (get_or (slice_set ends i (record { first = e.first; last = p })) j no_ends).first) same
          ∙ ap (λ (f : Ends). f.first) (get_or-set_same ends i (record { first = e.first; last = p }) no_ends (slice_get_within ends i e room.at_i))
          ∙ ap (λ (f : Ends). f.first) (sym (end_is uses ends i p e room)) ∙ ap (λ (j : ℕ). (get_or ends j no_ends).first) (sym same)
      | inr other ↦ ap (λ (f : Ends). f.first) (get_or-set_other ends i v (record { first = e.first; last = p }) no_ends other)
    ]

-- another variable's chain stays
other_chain : (uses : List Use) (ends : List Ends) (i n p : ℕ) (e : Ends) → IsRoom uses ends i p e → e.last ≢ no_use → (w : ℕ) (f : Ends) → w ≢ i → slice_get ends w ≡ Some f
    → IsChain (followed (pushed uses n) e.last p) f
other_chain uses ends i n p e room some w f other at =
    let l = last_more uses ends i n p e room some in
    let chain = chain_more uses (entered n) f (room.linked.chains w f at) in
    record {
      none = chain.none;
      leads = λ has. leads_followed (pushed uses n) e.last p f.first f.last l.0 (few_pushed uses n p room.is room.below) l.1 l.2 has (chain.leads has);
      last = λ has. let end = chain.last has in (end.0, get_unfollowed (pushed uses n) e.last p f.last end.0 (λ same. other (room.linked.apart w i f e at room.at_i same has)) end.1, end.2);
    }

onward_followed : (uses : List Use) (ends : List Ends) (i n p : ℕ) (e : Ends) → IsRoom uses ends i p e → e.last ≢ no_use
    → (place : ℕ) (entry : Use) → slice_get (followed (pushed uses n) e.last p) place ≡ Some entry → place < entry.next
onward_followed uses ends i n p e room some place entry at =
    let l = last_more uses ends i n p e room some in
    elim (same_or_other place e.last) [
      | inl same ↦
          let is : record { clause = l.0.clause; next = p } ≡ entry = one (followed (pushed uses n) e.last p) e.last place (record { clause = l.0.clause; next = p }) entry (sym same) (get_followed (pushed uses n) e.last p l.0 l.1) at in
          let below = last_below uses ends i p e room some in
          subst (λ (u : Use). place < u.next) is (omega (arith, same, below))
      | inr other ↦
          onward_more uses n (subst (λ (m : ℕ). m < no_use) room.is room.below) room.linked.onward place entry (sym (get-set_other (pushed uses n) e.last place _ other) ∙ at)
    ]

pub further_linked : (uses : List Use) (ends : List Ends) (i n p : ℕ) (e : Ends) → IsRoom uses ends i p e → e.last ≢ no_use
    → AreLinked (followed (pushed uses n) e.last p) (slice_set ends i (record { first = e.first; last = p }))
further_linked uses ends i n p e room some =
    let few = few_pushed uses n p room.is room.below in
    let same = length-set (pushed uses n) e.last (record { clause = (slice_index_or (pushed uses n) e.last (record { clause = 0; next = no_use })).clause; next = p }) in
    let below = room.below in
    let is = room.is in
    linked_set uses (followed (pushed uses n) e.last p) ends i (record { first = e.first; last = p }) (slice_get_within ends i e room.at_i) room.linked (omega (arith, few, same))
    (onward_followed uses ends i n p e room some)
    (record {
      none = λ no. absurd (omega (arith, no, below));
      leads = λ _. leads_pushed uses ends i n p e room some;
      last = λ _. (entered n, seam_followed uses ends i n p e room some, refl);
    })
    (omega (arith, is)) (other_chain uses ends i n p e room some)
