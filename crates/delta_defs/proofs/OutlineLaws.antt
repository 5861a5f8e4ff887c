-- What of definitions can be told without their terms.
use Rattle.std.proofs.Common.{◌≡◌, ℕ, suc, ◌+◌, List, [], ◌∷◌, Bool, true, false, ◌||◌, ◌&&◌, not, nat_eq, nat_le, ◌++◌, Some, None, unwrap_or, option_and_then, ◌≤◌, refl, ap, ap₂, ◌∙◌, sym, eq-eqb, if◌then◌else◌, subst, option_to_list, Option}
use Rattle.std.proofs.lemmas.Bool.{and_parts, leb-true}
use Rattle.std.proofs.lemmas.List.{append-nil, map-append}
use Rattle.std.specs.List.{list_any}
use Rattle.std.specs.Ordering.{nat_cmp}
use Rattle.std.specs.BTreeMap.{BTreeMap, get}
use Rattle.std.specs.BTreeSet.{contains}
use Rattle.stt_core.specs.Lambda.{Constant, name, witness, falsity, negation, implication, all, equality, choice, description, Lambda, bound, constant, lam, app, node_count}
use Rattle.stt_core.specs.SameTerm.{same_constant}
use Rattle.stt_core.proofs.SameTerms.{same_term-true}
use Rattle.delta_defs.specs.Definitions.{Definition, meant, unfolded, mentions}
use Rattle.delta_defs.specs.Unfolding.{involves, in_terms_of, may_follow, node_limit, stated, if_it_may_follow, taken_from, with_next}
use Rattle.delta_defs.specs.Internal.Finding.{first_or}
use Rattle.delta_defs.specs.Outline.{first_nodes, nodes_of, nodes_in, HasNodes, IsOutline, may_follow_outline, IsNamedOutline}
use Rattle.delta_defs.specs.declared.outline.Outline.{Outline}
use Rattle.delta_defs.proofs.ListSearches.{any-push}

meant-other : (ds : List Definition) (c : Constant) → ((p : ℕ) → same_constant (name p) c ≡ false) → meant ds c ≡ constant c
meant-other [] c o = refl
meant-other (d ∷ ds) c o = rw (o d.place) (meant-other ds c o)

-- HOW MANY NODES

module _ (nodes : BTreeMap ℕ ℕ) (ds : List Definition) (h : HasNodes nodes ds) where
  nodes-name : (k : ℕ) → node_count (meant ds (name k)) ≡ unwrap_or (get nat_cmp nodes k) 1
  nodes-name k = go ds ∙ ap (λ o. unwrap_or o 1) (sym (h k))
    where
      go : (es : List Definition) → node_count (meant es (name k)) ≡ unwrap_or (first_nodes es k) 1
      go [] = refl
      go (d ∷ es) = pick (nat_eq d.place k) (go es)
        where
          pick : (b : Bool) → node_count (meant es (name k)) ≡ unwrap_or (first_nodes es k) 1 → node_count (if b then d.term else meant es (name k)) ≡ unwrap_or (if b then Some (node_count d.term) else first_nodes es k) 1
          pick true rest = refl
          pick false rest = rest

  nodes-constant : (c : Constant) → node_count (meant ds c) ≡ nodes_of nodes c
  nodes-constant (name k) = nodes-name k
  nodes-constant (witness k) = ap node_count (meant-other ds (witness k) (λ p. refl))
  nodes-constant falsity = ap node_count (meant-other ds falsity (λ p. refl))
  nodes-constant negation = ap node_count (meant-other ds negation (λ p. refl))
  nodes-constant implication = ap node_count (meant-other ds implication (λ p. refl))
  nodes-constant (all a) = ap node_count (meant-other ds (all a) (λ p. refl))
  nodes-constant (equality a) = ap node_count (meant-other ds (equality a) (λ p. refl))
  nodes-constant (choice a) = ap node_count (meant-other ds (choice a) (λ p. refl))
  nodes-constant (description a) = ap node_count (meant-other ds (description a) (λ p. refl))

  pub nodes-unfolded : (t : Lambda) → node_count (unfolded ds t) ≡ nodes_in nodes t
  nodes-unfolded (bound k) = refl
  nodes-unfolded (constant c) = nodes-constant c
  nodes-unfolded (lam a s) = ap suc (nodes-unfolded s)
  nodes-unfolded (app s u) = ap₂ (λ m n. suc (m + n)) (nodes-unfolded s) (nodes-unfolded u)

-- WHICH NAMES

same_constant-is : (c d : Constant) → same_constant c d ≡ true → c ≡ d
same_constant-is c d h = let e : constant c ≡ constant d = same_term-true (constant c) (constant d) h in cc

same_place : (j k : ℕ) → name j ≡ name k → nat_eq j k ≡ true
same_place j k e = let i : j ≡ k = cc in eq-eqb j k i

or_true : (a : Bool) → (a || true) ≡ true
or_true true = refl
or_true false = refl

both : (a b c d z : Bool) → (a || z) ≡ (c || z) → (b || z) ≡ (d || z) → ((a || b) || z) ≡ ((c || d) || z)
both true b true d z h k = refl
both true b false d true h k = sym (or_true d)
both true b false d false h k = cc
both false b true d true h k = or_true b
both false b true d false h k = cc
both false b false d z h k = k

-- a definition is put in front
in_front : (m x y z : Bool) → (m || z) ≡ (y || z) → (m || (x || z)) ≡ (y || (x || z))
in_front m true y z h = or_true m ∙ sym (or_true y)
in_front m false y z h = h

same_name : (j k : ℕ) (c : Constant) → same_constant (name j) c ≡ true → same_constant (name k) c ≡ true → nat_eq j k ≡ true
same_name j k c f g = same_place j k (same_constant-is (name j) c f ∙ sym (same_constant-is (name k) c g))

names-meant : (ds : List Definition) (k : ℕ) (c : Constant) → (mentions (name k) (meant ds c) || list_any (involves k) ds) ≡ (mentions (name k) (constant c) || list_any (involves k) ds)
names-meant [] k c = refl
names-meant (d ∷ ds) k c = go (same_constant (name d.place) c) refl (in_front (mentions (name k) (meant ds c)) (involves k d) (mentions (name k) (constant c)) (list_any (involves k) ds) (names-meant ds k c))
  where
    here : (m p s z : Bool) → (s ≡ true → p ≡ true) → (m || ((p || m) || z)) ≡ (s || ((p || m) || z))
    here true true s z i = sym (or_true s)
    here true false true z i = refl
    here true false false z i = refl
    here false true s z i = sym (or_true s)
    here false false true z i = let e : false ≡ true = i refl in cc
    here false false false z i = refl

    go : (b : Bool) → same_constant (name d.place) c ≡ b → (mentions (name k) (meant ds c) || (involves k d || list_any (involves k) ds)) ≡ (mentions (name k) (constant c) || (involves k d || list_any (involves k) ds)) → (mentions (name k) (if b then d.term else meant ds c) || (involves k d || list_any (involves k) ds)) ≡ (mentions (name k) (constant c) || (involves k d || list_any (involves k) ds))
    go true e rest = here (mentions (name k) d.term) (nat_eq d.place k) (same_constant (name k) c) (list_any (involves k) ds) (same_name d.place k c e)
    go false e rest = rest

pub names-unfolded : (ds : List Definition) (k : ℕ) (t : Lambda) → (mentions (name k) (unfolded ds t) || list_any (involves k) ds) ≡ (mentions (name k) t || list_any (involves k) ds)
names-unfolded ds k (bound j) = refl
names-unfolded ds k (constant c) = names-meant ds k c
names-unfolded ds k (lam a s) = names-unfolded ds k s
names-unfolded ds k (app s u) = both (mentions (name k) (unfolded ds s)) (mentions (name k) (unfolded ds u)) (mentions (name k) s) (mentions (name k) u) (list_any (involves k) ds) (names-unfolded ds k s) (names-unfolded ds k u)

-- WHETHER A DEFINITION MAY FOLLOW

-- whether the definition with the earlier ones unfolded may follow these, told from the term as it was read
pub follows : (o : Outline) (ds : List Definition) (d : Definition) → IsOutline o ds → may_follow ds (in_terms_of ds d) ≡ may_follow_outline o d.place d.term
follows o ds d h =
    ap₂ (λ n b. nat_le n node_limit && b) (nodes-unfolded o.nodes ds h.nodes_are d.term)
    (go (list_any (involves d.place) ds) (mentions (name d.place) (unfolded ds d.term)) (mentions (name d.place) d.term) (names-unfolded ds d.place d.term)
    ∙ ap (λ z. not z && not (mentions (name d.place) d.term)) (sym (h.involved_are d.place)))
  where
    go : (z m s : Bool) → (m || z) ≡ (s || z) → (not z && not m) ≡ (not z && not s)
    go true m s h = refl
    go false true true h = refl
    go false true false h = cc
    go false false true h = cc
    go false false false h = refl

-- the names that are involved once the definition follows: those of the term as it was read are added
involved-next : (ds : List Definition) (k : ℕ) (d : Definition) → (involves k (in_terms_of ds d) || list_any (involves k) ds) ≡ (involves k d || list_any (involves k) ds)
involved-next ds k d = go (nat_eq d.place k) (mentions (name k) (unfolded ds d.term)) (mentions (name k) d.term) (list_any (involves k) ds) (names-unfolded ds k d.term)
  where
    go : (p m s z : Bool) → (m || z) ≡ (s || z) → ((p || m) || z) ≡ ((p || s) || z)
    go true m s z h = refl
    go false m s z h = h

first_nodes-push : (ds : List Definition) (d : Definition) (k : ℕ) → first_nodes (ds ++ d ∷ []) k ≡ first_or (first_nodes ds k) d.place (node_count d.term) k
first_nodes-push [] d k = refl
first_nodes-push (e ∷ ds) d k = go (nat_eq e.place k) (first_nodes-push ds d k)
  where
    go : (b : Bool) → first_nodes (ds ++ d ∷ []) k ≡ first_or (first_nodes ds k) d.place (node_count d.term) k → (if b then Some (node_count e.term) else first_nodes (ds ++ d ∷ []) k) ≡ first_or (if b then Some (node_count e.term) else first_nodes ds k) d.place (node_count d.term) k
    go true h = refl
    go false h = h

-- the outline with one definition more
pub outline_more : (o more : Outline) (ds : List Definition) (d : Definition) (n : ℕ) → IsOutline o ds → n ≡ nodes_in o.nodes d.term → ((k : ℕ) → get nat_cmp more.nodes k ≡ first_or (get nat_cmp o.nodes k) d.place n k) → ((k : ℕ) → contains nat_cmp more.involved k ≡ (mentions (name k) d.term || (nat_eq d.place k || contains nat_cmp o.involved k))) → IsOutline more (ds ++ in_terms_of ds d ∷ [])
outline_more o more ds d n h e next names = record {
  nodes_are = λ k.
      next k
      ∙ ap₂ (λ i m. first_or i d.place m k) (h.nodes_are k) (e ∙ sym (nodes-unfolded o.nodes ds h.nodes_are d.term))
      ∙ sym (first_nodes-push ds (in_terms_of ds d) k);
  involved_are = λ k.
      names k
      ∙ ap (λ b. mentions (name k) d.term || (nat_eq d.place k || b)) (h.involved_are k)
      ∙ swap (mentions (name k) d.term) (nat_eq d.place k) (list_any (involves k) ds)
      ∙ sym (involved-next ds k d)
      ∙ sym (any-push (involves k) ds (in_terms_of ds d));
}
  where
    swap : (a b c : Bool) → (a || (b || c)) ≡ ((b || a) || c)
    swap true true c = refl
    swap true false c = refl
    swap false true c = refl
    swap false false c = refl

-- what may follow isn't too large
pub may_small : (o : Outline) (ds : List Definition) (d : Definition) → IsOutline o ds → may_follow ds (in_terms_of ds d) ≡ true → nodes_in o.nodes d.term ≤ node_limit
may_small o ds d h k = leb-true (nodes_in o.nodes d.term) node_limit (ap (λ n. nat_le n node_limit) (sym (nodes-unfolded o.nodes ds h.nodes_are d.term)) ∙ (and_parts (nat_le (node_count (unfolded ds d.term)) node_limit) _ k).0)

-- THE NEXT FORMULA

module _ (o : Outline) (names : List ℕ) (ds : List Definition) (mark : Bool) (t : Lambda) (w : IsNamedOutline o names ds) where
  pub walk_on : (more : Outline) (names' : List ℕ) (d : Definition) → taken_from ds mark t ≡ Some (in_terms_of ds d) → IsOutline more (ds ++ in_terms_of ds d ∷ []) → names' ≡ names ++ d.place ∷ [] → IsNamedOutline more names' (with_next ds mark t)
  walk_on more names' d e h n =
      subst (IsNamedOutline more names') (ap (λ x. ds ++ option_to_list x) (sym e))
      (record { outline = h; names_are = n ∙ ap (λ l. l ++ d.place ∷ []) w.names_are ∙ sym (map-append (λ (x : Definition). x.place) ds (in_terms_of ds d ∷ [])) })

  pub walk_past : taken_from ds mark t ≡ None → IsNamedOutline o names (with_next ds mark t)
  walk_past e = subst (IsNamedOutline o names) (sym (append-nil ds) ∙ ap (λ x. ds ++ option_to_list x) (sym e)) w

-- what is taken may follow
may_pick : (ds : List Definition) (s x : Definition) (b : Bool) → may_follow ds s ≡ b → (if b then Some s else None) ≡ Some x → may_follow ds x ≡ true
may_pick ds s x true k f = let i : s ≡ x = cc in subst (λ y. may_follow ds y ≡ true) i k
may_pick ds s x false k f = cc

may_from : (ds : List Definition) (o : Option Definition) (x : Definition) → option_and_then (λ s. if_it_may_follow ds (in_terms_of ds s)) o ≡ Some x → may_follow ds x ≡ true
may_from ds None x f = cc
may_from ds (Some s) x f = may_pick ds (in_terms_of ds s) x (may_follow ds (in_terms_of ds s)) refl f

pub taken_may : (ds : List Definition) (mark : Bool) (t : Lambda) (x : Definition) → taken_from ds mark t ≡ Some x → may_follow ds x ≡ true
taken_may ds false t x f = cc
taken_may ds true t x f = may_from ds (stated t) x f
