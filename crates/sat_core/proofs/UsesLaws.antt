-- Facts about the table of uses.
use Rattle.std.proofs.Common.{◌≡◌, ◌≢◌, ◌⊎◌, inl, inr, ◌<◌, ◌≤◌, ℕ, zero, suc, List, [], ◌∷◌, ◌++◌, Some, length, get_or, refl, sym, ap, ◌∙◌, subst, arith}
use Rattle.std.specs.Prelude.{slice_set}
use Rattle.std.specs.List.{slice_get}
use Rattle.std.proofs.lemmas.Bool.{cases_order}
use Rattle.std.proofs.lemmas.Option.{slice_get-get_or, slice_get_within, same_Some}
use Rattle.sat_base.specs.declared.literal.Var.{Var}
use Rattle.sat_log.proofs.ChainLaws.{slice_get-append, slice_get-before, slice_get-seam}
use Rattle.sat_propagate.proofs.ListLaws.{get-past_seam, get-set_same, get-set_other}
use Rattle.sat_core.specs.declared.uses.Use.{Use}
use Rattle.sat_core.specs.declared.uses.Ends.{Ends}
use Rattle.sat_core.specs.Internal.Uses.{no_use, no_ends, UseTable, IsListed, here, later, Leads, stays, goes, IsUse, followed, IsChain, AreLinked}

pub same_or_other : (n m : ℕ) → (n ≡ m) ⊎ (n ≢ m)
same_or_other n m = elim (cases_order n m) [
  | inl same ↦ inl same
  | inr other ↦ inr (λ e. elim other [ inl less ↦ absurd (omega (arith, less, e)) | inr more ↦ absurd (omega (arith, more, e)) ])
]

-- 1. The place of no use

pub none_listed : (uses : List Use) (k : ℕ) → length uses ≤ no_use → IsListed uses no_use k → ⊥
none_listed uses k few (here _ _ entry at same) = let inside = slice_get_within uses no_use entry at in absurd (omega (arith, few, inside))
none_listed uses k few (later _ _ entry at rest) = let inside = slice_get_within uses no_use entry at in absurd (omega (arith, few, inside))

none_leads : (uses : List Use) (end : ℕ) → length uses ≤ no_use → Leads uses no_use end → no_use ≡ end
none_leads uses end few (stays _ _ same) = same
none_leads uses end few (goes _ _ entry at rest) = let inside = slice_get_within uses no_use entry at in absurd (omega (arith, few, inside))

-- 2. Chains

-- what is listed from a place on is listed from a place that leads to it
pub listed_then : (uses : List Use) (place end k : ℕ) → Leads uses place end → IsListed uses end k → IsListed uses place k
listed_then uses place end k (stays _ _ same) h = subst (λ (n : ℕ). IsListed uses n k) (sym same) h
listed_then uses place end k (goes _ _ entry at rest) h = later place k entry at (listed_then uses entry.next end k rest h)

-- a place leads on behind the end
pub leads_then : (uses : List Use) (place end : ℕ) (entry : Use) → Leads uses place end → slice_get uses end ≡ Some entry → Leads uses place entry.next
leads_then uses place end entry (stays _ _ same) at = goes place entry.next entry (ap (slice_get uses) same ∙ at) (stays entry.next entry.next refl)
leads_then uses place end entry (goes _ _ other there rest) at = goes place entry.next other there (leads_then uses other.next end entry rest at)

-- 3. One use more

pub listed_more : (uses : List Use) (more : Use) (place k : ℕ) → IsListed uses place k → IsListed (uses ++ more ∷ []) place k
listed_more uses more place k (here _ _ entry at same) = here place k entry (slice_get-append uses (more ∷ []) place entry at) same
listed_more uses more place k (later _ _ entry at rest) = later place k entry (slice_get-append uses (more ∷ []) place entry at) (listed_more uses more entry.next k rest)

pub leads_more : (uses : List Use) (more : Use) (place end : ℕ) → Leads uses place end → Leads (uses ++ more ∷ []) place end
leads_more uses more place end (stays _ _ same) = stays place end same
leads_more uses more place end (goes _ _ entry at rest) = goes place end entry (slice_get-append uses (more ∷ []) place entry at) (leads_more uses more entry.next end rest)

pub chain_more : (uses : List Use) (more : Use) (ends : Ends) → IsChain uses ends → IsChain (uses ++ more ∷ []) ends
chain_more uses more ends chain = record {
  none = chain.none;
  leads = λ some. leads_more uses more ends.first ends.last (chain.leads some);
  last = λ some. let l = chain.last some in (l.0, slice_get-append uses (more ∷ []) ends.last l.0 l.1, l.2);
}

-- 4. A use that another one follows

pub get_followed : (uses : List Use) (last next : ℕ) (entry : Use) → slice_get uses last ≡ Some entry → slice_get (followed uses last next) last ≡ Some (record { clause = entry.clause; next = next })
get_followed uses last next entry at =
    let d : Use = record { clause = 0; next = no_use } in
    let inside : last < length uses = slice_get_within uses last entry at in
    let same : get_or uses last d ≡ entry = same_Some _ _ (sym (slice_get-get_or uses last d inside) ∙ at) in
    get-set_same uses last (record { clause = (get_or uses last d).clause; next = next }) inside ∙ ap (λ (u : Use). Some (record { clause = u.clause; next = next })) same

pub get_unfollowed : (uses : List Use) (last next place : ℕ) (entry : Use) → place ≢ last → slice_get uses place ≡ Some entry → slice_get (followed uses last next) place ≡ Some entry
get_unfollowed uses last next place entry apart at = get-set_other uses last place _ apart ∙ at

pub one : (uses : List Use) (i j : ℕ) (a b : Use) → i ≡ j → slice_get uses i ≡ Some a → slice_get uses j ≡ Some b → a ≡ b
one uses i j a b same at there = same_Some a b (sym at ∙ ap (slice_get uses) same ∙ there)

pub listed_followed : (uses : List Use) (last next place k : ℕ) (entry : Use) → length uses ≤ no_use → slice_get uses last ≡ Some entry → entry.next ≡ no_use
    → IsListed uses place k → IsListed (followed uses last next) place k
listed_followed uses last next place k entry few end none (here _ _ other at same) =
    elim (same_or_other place last) [
      | inl is ↦
          subst (λ (n : ℕ). IsListed (followed uses last next) n k) (sym is)
          (here last k (record { clause = entry.clause; next = next }) (get_followed uses last next entry end) (same ∙ ap (λ (u : Use). u.clause) (one uses place last other entry is at end)))
      | inr apart ↦ here place k other (get_unfollowed uses last next place other apart at) same
    ]
listed_followed uses last next place k entry few end none (later _ _ other at rest) =
    elim (same_or_other place last) [
      | inl is ↦ absurd (none_listed uses k few (subst (λ (n : ℕ). IsListed uses n k) (ap (λ (u : Use). u.next) (one uses place last other entry is at end) ∙ none) rest))
      | inr apart ↦ later place k other (get_unfollowed uses last next place other apart at) (listed_followed uses last next other.next k entry few end none rest)
    ]

pub leads_followed : (uses : List Use) (last next place end : ℕ) (entry : Use) → length uses ≤ no_use → slice_get uses last ≡ Some entry → entry.next ≡ no_use → end ≢ no_use
    → Leads uses place end → Leads (followed uses last next) place end
leads_followed uses last next place end entry few there none some (stays _ _ same) = stays place end same
leads_followed uses last next place end entry few there none some (goes _ _ other at rest) =
    elim (same_or_other place last) [
      | inl is ↦ absurd (some (sym (none_leads uses end few (subst (λ (n : ℕ). Leads uses n end) (ap (λ (u : Use). u.next) (one uses place last other entry is at there) ∙ none) rest))))
      | inr apart ↦ goes place end other (get_unfollowed uses last next place other apart at) (leads_followed uses last next other.next end entry few there none some rest)
    ]

-- 5. The table

-- the ends of one variable change
pub linked_set : (uses after : List Use) (ends : List Ends) (i : ℕ) (new : Ends) → i < length ends → AreLinked uses ends → length after ≤ no_use
    → ((place : ℕ) (entry : Use) → slice_get after place ≡ Some entry → place < entry.next) → IsChain after new → length uses ≤ new.last
    → ((w : ℕ) (f : Ends) → w ≢ i → slice_get ends w ≡ Some f → IsChain after f) → AreLinked after (slice_set ends i new)
linked_set uses after ends i new inside linked few onward chain past others = record {
  few = few;
  onward = onward;
  chains = λ w f at. elim (same_or_other w i) [
    | inl is ↦ subst (IsChain after) (mine w f is at) chain
    | inr other ↦ others w f other (theirs w f other at)
  ];
  apart = λ v w e f at_v at_w same some. elim (same_or_other v i) [
    | inl is_v ↦ elim (same_or_other w i) [
      | inl is_w ↦ is_v ∙ sym is_w
      | inr other_w ↦ let less = early w f other_w at_w (λ none. some (same ∙ none)) in let end = ap (λ (x : Ends). x.last) (mine v e is_v at_v) in absurd (omega (arith, less, end, same, past))
    ]
    | inr other_v ↦ elim (same_or_other w i) [
      | inl is_w ↦ let less = early v e other_v at_v some in let end = ap (λ (x : Ends). x.last) (mine w f is_w at_w) in absurd (omega (arith, less, end, same, past))
      | inr other_w ↦ linked.apart v w e f (theirs v e other_v at_v) (theirs w f other_w at_w) same some
    ]
  ];
}
  where
    mine : (w : ℕ) (f : Ends) → w ≡ i → slice_get (slice_set ends i new) w ≡ Some f → new ≡ f
    mine w f is at = same_Some new f (sym (get-set_same ends i new inside) ∙ ap (slice_get (slice_set ends i new)) (sym is) ∙ at)

    theirs : (w : ℕ) (f : Ends) → w ≢ i → slice_get (slice_set ends i new) w ≡ Some f → slice_get ends w ≡ Some f
    theirs w f other at = sym (get-set_other ends i w new other) ∙ at

    early : (w : ℕ) (f : Ends) → w ≢ i → slice_get (slice_set ends i new) w ≡ Some f → f.last ≢ no_use → f.last < length uses
    early w f other at some = let l = (linked.chains w f (theirs w f other at)).last some in slice_get_within uses f.last l.0 l.1

-- where each use is behind the one before, with one more
pub onward_more : (uses : List Use) (n : ℕ) → length uses < no_use → ((place : ℕ) (entry : Use) → slice_get uses place ≡ Some entry → place < entry.next)
    → (place : ℕ) (entry : Use) → slice_get (uses ++ record { clause = n; next = no_use } ∷ []) place ≡ Some entry → place < entry.next
onward_more uses n below onward place entry at =
    let new : Use = record { clause = n; next = no_use } in
    elim (cases_order place (length uses)) [
      | inl end ↦
          let same : new ≡ entry = same_Some new entry (sym (slice_get-seam uses new) ∙ ap (slice_get (uses ++ new ∷ [])) (sym end) ∙ at) in
          subst (λ (u : Use). place < u.next) same (omega (arith, end, below))
      | inr other ↦ elim other [
        | inl less ↦ onward place entry (sym (slice_get-before uses (new ∷ []) place less) ∙ at)
        | inr more ↦ absurd (get-past_seam uses new place entry more at)
      ]
    ]

-- one variable more, which has no use
pub linked_longer : (uses : List Use) (ends : List Ends) → AreLinked uses ends → AreLinked uses (ends ++ no_ends ∷ [])
linked_longer uses ends linked = record {
  few = linked.few;
  onward = linked.onward;
  chains = λ v e at. elim (cases v e at) [
    | inl old ↦ linked.chains v e old
    | inr new ↦ subst (IsChain uses) new (record { none = λ _. refl; leads = λ some. absurd (some refl); last = λ some. absurd (some refl) })
  ];
  apart = λ v w e f at_v at_w same some.
      elim (cases v e at_v) [
        | inr new ↦ absurd (some (ap (λ (x : Ends). x.last) (sym new)))
        | inl old_v ↦ elim (cases w f at_w) [
          | inr new ↦ absurd (some (same ∙ ap (λ (x : Ends). x.last) (sym new)))
          | inl old_w ↦ linked.apart v w e f old_v old_w same some
        ]
      ];
}
  where
    cases : (v : ℕ) (e : Ends) → slice_get (ends ++ no_ends ∷ []) v ≡ Some e → (slice_get ends v ≡ Some e) ⊎ (no_ends ≡ e)
    cases v e at = elim (cases_order v (length ends)) [
      | inl end ↦ inr (same_Some no_ends e (sym (slice_get-seam ends no_ends) ∙ ap (slice_get (ends ++ no_ends ∷ [])) (sym end) ∙ at))
      | inr other ↦ elim other [
        | inl less ↦ inl (sym (slice_get-before ends (no_ends ∷ []) v less) ∙ at)
        | inr more ↦ absurd (get-past_seam ends no_ends v e more at)
      ]
    ]

pub use_longer : (table : UseTable) (v : Var) (k : ℕ) → IsUse table v k → IsUse (record table { ends = table.ends ++ no_ends ∷ [] }) v k
use_longer table v k h = subst (λ (e : Ends). IsListed table.uses e.first k) (sym (go table.ends v.0)) h
  where
    go : (xs : List Ends) (i : ℕ) → get_or (xs ++ no_ends ∷ []) i no_ends ≡ get_or xs i no_ends
    go [] zero = refl
    go [] (suc i) = refl
    go (x ∷ xs) zero = refl
    go (x ∷ xs) (suc i) = go xs i
