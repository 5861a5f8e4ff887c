-- What keeps a state modest: pushes, literals, instances, terms, partial terms.
use Rattle.std.proofs.Common.{◌≡◌, ◌≤◌, ◌+◌, ◌&&◌, ℕ, zero, suc, Bool, true, false, List, [], ◌∷◌, ◌++◌, map, filter, Option, Some, None, refl, subst, if◌then◌else◌, arith}
use Rattle.std.specs.Prelude.{◌||◌, unwrap_or, option_map, option_and_then}
use Rattle.std.specs.List.{list_any, list_all, flat_map}
use Rattle.std.proofs.lemmas.Bool.{and_parts}
use Rattle.stt_core.specs.SimpleType.{SimpleType, base, arrow, formula, same_type}
use Rattle.stt_core.specs.Lambda.{name, witness, falsity, negation, implication, all, equality, choice, description, Lambda, bound, constant, lam, app, IsLeaf}
use Rattle.stt_core.specs.Typing.{Scope, type_of}
use Rattle.stt_core.specs.SameTerm.{same_term}
use Rattle.search_spec.specs.Closed.{is_closed}
use Rattle.stt_core.proofs.SameTerms.{same_term-true}
use Rattle.normal_forms.specs.Normal.{eta}
use Rattle.tableau_calculus.specs.Literals.{Literal}
use Rattle.tableau_calculus.specs.Kinds.{has, formulas}
use Rattle.tableau_calculus.specs.Witnesses.{Row}
use Rattle.tableau_calculus.specs.Each.{Each}
use Rattle.search_spec.specs.Shallow.{is_shallow_literal}
use Rattle.search_spec.specs.Clauses.{instance_clauses, with_clauses}
use Rattle.search_spec.specs.Queue.{new_entries}
use Rattle.search_spec.specs.State.{State, Setting, Typed, Sketch, Command, process, mate, confront, inst, choose, describe, grow, due, with_commands, scope_in}
use Rattle.search_spec.specs.Spine.{head_of, has_compared_head, same_head}
use Rattle.tableau_calculus.specs.Rules.{Alternatives}
use Rattle.search_spec.specs.Instances.{with_literal, with_literals, with_instance}
use Rattle.search_spec.specs.Heads.{HeadOffers, places_to, bases_from, is_offered, is_offered_base, offered_bases, given_heads, is_none_given, logical_heads, heads_for}
use Rattle.search_spec.specs.Partial.{Partial, hole, head, function, application, Hole, or_else, first_hole, in_first, with_filling, whole_term, blank_partial, with_holes}
use Rattle.search_spec.specs.Terms.{terms_of, ranges_over, universals, with_term, with_terms, first_terms, with_opening}
use Rattle.search_spec.specs.Offers.{offers_terms, is_prepared, witness_terms, early_terms}
use Rattle.search_spec.specs.Preparing.{with_beginning, with_preparation}
use Rattle.search_spec.specs.Partners.{partners, positive_first, matings, confrontations}
use Rattle.search_spec.specs.Selections.{Selection, by_choice, by_description, selection_by, selections_in, with_selection, with_selections}
use Rattle.search_spec.specs.Commands.{with_growth, filling_at, growth_by}
use Rattle.search_spec.proofs.NamingLaws.{StandFor, each-joined, pick_good, instance_clauses_good, with_clauses_good}
use Rattle.search_spec.proofs.TypedPushes.{each_filtered, each_mapped}
use Rattle.type_bound.specs.Types.{IsShallowType}
use Rattle.refute_print.specs.Sizes.{nesting}
use Rattle.type_bound.specs.Modest.{IsModest, IsModestLiteral, IsModestPartial, IsModestRow, IsModestCommand, IsModestState, IsModestSetting}
use Rattle.type_bound.proofs.ModestTerms.{leaf_shallow, eta_keeps}

each_waiting : (P : Command → Type 0) (d : Command → ℕ) (n : ℕ) (cs : List Command) → Each P cs → Each (λ q. P q.command) (new_entries d n cs)
each_waiting P d n [] h = tt
each_waiting P d n (c ∷ cs) h = (h.0, each_waiting P d (suc n) cs h.1)

all_mapped : {X Y : Type 0} (Q : Y → Type 0) (f : X → Y) → ((x : X) → Q (f x)) → (xs : List X) → Each Q (map f xs)
all_mapped Q f g [] = tt
all_mapped Q f g (x ∷ xs) = (g x, all_mapped Q f g xs)

module _ (limit : ℕ) (setting : Setting) where
  abbrev pub Good : State → Type 0
  Good s = IsModestState limit s

  abbrev Lit : Literal → Type 0
  Lit l = IsModestLiteral limit l

  pub pushed-modest : (cs : List Command) (s : State) → Each (IsModestCommand limit) cs → Good s → Good (with_commands setting.mode cs s)
  pushed-modest cs s h g = record {
    clauses = g.clauses;
    noted = g.noted;
    terms = g.terms;
    rows = g.rows;
    parked = g.parked;
    queue = each-joined _ s.queue (new_entries (due setting.mode s.moment) s.pushes cs) g.queue (each_waiting (IsModestCommand limit) (due setting.mode s.moment) s.pushes cs h);
  }

  with_literal-modest : (l : Literal) (s : State) → Lit l → Good s → Good (with_literal setting.mode l s)
  with_literal-modest l s h g =
      pick_good Good (has formulas s.seen l) s (with_commands setting.mode (process l ∷ []) (record s { seen = s.seen ++ l ∷ [] })) g
      (pushed-modest (process l ∷ []) (record s { seen = s.seen ++ l ∷ [] }) (h, tt)
      (record { clauses = g.clauses; noted = g.noted; terms = g.terms; rows = g.rows; parked = g.parked; queue = g.queue }))

  with_literals-modest : (ls : List Literal) (s : State) → Each Lit ls → Good s → Good (with_literals setting.mode ls s)
  with_literals-modest [] s h g = g
  with_literals-modest (l ∷ ls) s h g = with_literals-modest ls (with_literal setting.mode l s) h.1 (with_literal-modest l s h.0 g)

  flattened : (as' : Alternatives) → Each (Each Lit) as' → Each Lit (flat_map (λ (a : List Literal). a) as')
  flattened [] h = tt
  flattened (a ∷ as') h = each-joined Lit a (flat_map (λ (b : List Literal). b) as') h.0 (flattened as' h.1)

  stand : StandFor formulas formulas Lit (λ l. l)
  stand = record { opposite_is_good = λ k g. g; opposites = λ k g. refl; sames = λ k l g h. refl }

  pub with_instance-modest : (ps : List Literal) (as' : Alternatives) (s : State) → Each Lit ps → Each (Each Lit) as' → Good s → Good (with_instance setting.mode ps as' s)
  with_instance-modest ps as' s k h g =
      let cs = with_clauses formulas s.clauses (instance_clauses formulas ps as') in
      let added = record s { clauses = cs } in
      pick_good Good (list_all (list_all is_shallow_literal) as') (with_literals setting.mode (flat_map (λ (a : List Literal). a) as') added) s
      (with_literals-modest (flat_map (λ (a : List Literal). a) as') added (flattened as' h)
      (record {
        clauses = with_clauses_good formulas Lit s.clauses (instance_clauses formulas ps as') g.clauses (instance_clauses_good formulas formulas Lit (λ l. l) stand ps as' k h);
        noted = g.noted;
        terms = g.terms;
        rows = g.rows;
        parked = g.parked;
        queue = g.queue;
      })) g

  instances-modest : (a : SimpleType) (u : Lambda) (s : State) → IsModest limit u → Good s → Each (IsModestCommand limit) (map (λ l. inst l u) (universals a s))
  instances-modest a u s h g =
      each_mapped Lit (IsModestCommand limit) (λ l. inst l u) (λ l k. (k, h)) (universals a s)
      (each_filtered Lit Lit (λ l. l.positive && ranges_over a l.atom) (λ l k e. k) s.noted g.noted)

  pub with_term-modest : (a : SimpleType) (u : Lambda) (s : State) → IsModest limit u → Good s → Good (with_term setting.mode a u s)
  with_term-modest a u s h g =
      let more : List Typed = s.terms ++ record { type = a; term = u } ∷ [] in
      pick_good Good (list_any (same_term u) (terms_of a s)) s (with_commands setting.mode (map (λ l. inst l u) (universals a s)) (record s { terms = more })) g
      (pushed-modest (map (λ l. inst l u) (universals a s)) (record s { terms = more }) (instances-modest a u s h g)
      (record { clauses = g.clauses; noted = g.noted; terms = each-joined _ s.terms (record { type = a; term = u } ∷ []) g.terms (h, tt); rows = g.rows; parked = g.parked; queue = g.queue }))

  pub with_terms-modest : (a : SimpleType) (us : List Lambda) (s : State) → Each (IsModest limit) us → Good s → Good (with_terms setting.mode a us s)
  with_terms-modest a [] s h g = g
  with_terms-modest a (u ∷ us) s h g = with_terms-modest a us (with_term setting.mode a u s) h.1 (with_term-modest a u s h.0 g)

  pub terms_of-modest : (a : SimpleType) (s : State) → Good s → Each (IsModest limit) (terms_of a s)
  terms_of-modest a s g =
      each_mapped (λ (u : Typed). IsModest limit u.term) (IsModest limit) (λ u. u.term) (λ u k. k) (filter (λ u. same_type a u.type) s.terms)
      (each_filtered (λ (u : Typed). IsModest limit u.term) (λ u. IsModest limit u.term) (λ u. same_type a u.type) (λ u k e. k) s.terms g.terms)

  module _ (good : IsModestSetting limit setting) where
    first_terms-modest : (a : SimpleType) → Each (IsModest limit) (first_terms a)
    first_terms-modest (base zero) = (tt, ((tt, tt), tt))
    first_terms-modest (base (suc n)) = ((good.some, (omega arith, tt)), tt)
    first_terms-modest (arrow a b) = tt

    -- HEADS

    abbrev IsHead : Lambda → Type 0
    IsHead h = IsLeaf h × IsModest limit h

    bases_shallow : (k n : ℕ) → Each (λ c. nesting c ≤ limit) (bases_from k n)
    bases_shallow k zero = tt
    bases_shallow k (suc n) = (omega arith, bases_shallow (suc k) n)

    offered_shallow : (offers : HeadOffers) (scope : Scope) → Each (λ c. nesting c ≤ limit) (offered_bases offers scope)
    offered_shallow offers scope =
        each_filtered (λ c. nesting c ≤ limit) (λ c. nesting c ≤ limit) (is_offered_base offers) (λ c h e. h) (bases_from 1 (scope.bases + 1)) (bases_shallow 1 (scope.bases + 1))

    logical-modest : (offers : HeadOffers) (scope : Scope) (n : ℕ) (chooses : Bool) → Each IsHead (logical_heads offers scope n chooses)
    logical-modest offers scope zero chooses =
        let bases = offered_bases offers scope in
        let equality_shallow : nesting (base 0) ≤ limit = omega arith in (
          (tt, tt),
          (
            (tt, tt),
            (
              (tt, tt),
              (
                (tt, equality_shallow),
                each-joined IsHead (map (λ c. constant (equality c)) bases) (map (λ c. constant (all c)) bases)
                    (each_mapped (λ c. nesting c ≤ limit) IsHead (λ c. constant (equality c)) (λ c h. (tt, h)) bases (offered_shallow offers scope))
                    (each_mapped (λ c. nesting c ≤ limit) IsHead (λ c. constant (all c)) (λ c h. (tt, h)) bases (offered_shallow offers scope)),
              ),
            ),
          ),
        )
    logical-modest offers scope (suc n) true = ((tt, good.some), tt)
    logical-modest offers scope (suc n) false = tt

    given-modest : (offers : HeadOffers) (scope : Scope) (h : Hole) → Each IsHead (given_heads offers scope h)
    given-modest offers scope h =
        let vars = map bound (places_to h.base 0 h.context) in
        let offered = filter (is_offered offers.names) (places_to h.base 0 scope.names) in
        let names = map (λ k. constant (name k)) offered in
        let witnesses = map (λ k. constant (witness k)) (places_to h.base 0 scope.witnesses) in
        each-joined IsHead (vars ++ names) witnesses
        (each-joined IsHead vars names (all_mapped IsHead bound (λ k. (tt, tt)) (places_to h.base 0 h.context)) (all_mapped IsHead (λ k. constant (name k)) (λ k. (tt, tt)) offered))
        (all_mapped IsHead (λ k. constant (witness k)) (λ k. (tt, tt)) (places_to h.base 0 scope.witnesses))

    heads-modest : (offers : HeadOffers) (scope : Scope) (o : Option Hole) → Each IsHead (heads_for offers scope o)
    heads-modest offers scope None = tt
    heads-modest offers scope (Some h) =
        let given = given_heads offers scope h in
        let chooses = offers.choices || is_none_given given in
        each-joined IsHead given (logical_heads offers scope h.base chooses) (given-modest offers scope h) (logical-modest offers scope h.base chooses)

    -- PARTIAL TERMS

    blank-modest : (a : SimpleType) → nesting a ≤ suc (suc limit) → IsModestPartial limit (blank_partial a)
    blank-modest (base n) h = tt
    blank-modest (arrow a b) h =
        let first : nesting a ≤ suc limit = omega (arith, h) in
        let second : nesting b ≤ suc (suc limit) = omega (arith, h) in
        (first, blank-modest b second)

    with_holes-modest : (a : SimpleType) (p : Partial) → nesting a ≤ suc (suc limit) → IsModestPartial limit p → IsModestPartial limit (with_holes a p)
    with_holes-modest (base n) p h k = k
    with_holes-modest (arrow a b) p h k =
        let first : nesting a ≤ suc (suc limit) = omega (arith, h) in
        let second : nesting b ≤ suc (suc limit) = omega (arith, h) in
        with_holes-modest b (application p (blank_partial a)) second (k, blank-modest a first)

    abbrev IsModestHole : Option Hole → Type 0
    IsModestHole None = Unit {0}
    IsModestHole (Some h) = Each (λ a. nesting a ≤ suc limit) h.context

    or_modest : (o r : Option Hole) → IsModestHole o → IsModestHole r → IsModestHole (or_else o r)
    or_modest None r h k = k
    or_modest (Some x) r h k = h

    hole-modest : (ctx : List SimpleType) (p : Partial) → Each (λ a. nesting a ≤ suc limit) ctx → IsModestPartial limit p → IsModestHole (first_hole ctx p)
    hole-modest ctx (hole n) are h = are
    hole-modest ctx (head t) are h = tt
    hole-modest ctx (function a p) are h = hole-modest (a ∷ ctx) p (h.0, are) h.1
    hole-modest ctx (application p q) are h = or_modest (first_hole ctx p) (first_hole ctx q) (hole-modest ctx p are h.0) (hole-modest ctx q are h.1)

    abbrev IsModestFilled : Option Partial → Type 0
    IsModestFilled None = Unit {0}
    IsModestFilled (Some p) = IsModestPartial limit p

    under_modest : (a : SimpleType) (o : Option Partial) → nesting a ≤ suc limit → IsModestFilled o → IsModestFilled (option_map (function a) o)
    under_modest a None h k = tt
    under_modest a (Some p) h k = (h, k)

    in_first-modest : (o : Option Partial) (p : Partial) (r : Option Partial) (q : Partial) → IsModestFilled o → IsModestPartial limit p → IsModestFilled r → IsModestPartial limit q → IsModestFilled (in_first o p r q)
    in_first-modest (Some p') p r q ho hp hr hq = (ho, hq)
    in_first-modest None p (Some q') q ho hp hr hq = (hp, hr)
    in_first-modest None p None q ho hp hr hq = tt

    filled-modest : (r p : Partial) → IsModestPartial limit r → IsModestPartial limit p → IsModestFilled (with_filling r p)
    filled-modest r (hole n) k h = k
    filled-modest r (head t) k h = tt
    filled-modest r (function a p) k h = under_modest a (with_filling r p) h.0 (filled-modest r p k h.1)
    filled-modest r (application p q) k h = in_first-modest (with_filling r p) p (with_filling r q) q (filled-modest r p k h.0) h.0 (filled-modest r q k h.1) h.1

    abbrev IsModestWhole : Option Lambda → Type 0
    IsModestWhole None = Unit {0}
    IsModestWhole (Some t) = IsModest limit t

    lam_modest : (a : SimpleType) (o : Option Lambda) → nesting a ≤ suc limit → IsModestWhole o → IsModestWhole (option_map (lam a) o)
    lam_modest a None h k = tt
    lam_modest a (Some t) h k = (h, k)

    app_modest : (o r : Option Lambda) → IsModestWhole o → IsModestWhole r → IsModestWhole (option_and_then (λ s. option_map (app s) r) o)
    app_modest None r h k = tt
    app_modest (Some s) None h k = tt
    app_modest (Some s) (Some u) h k = (h, k)

    whole-modest : (p : Partial) → IsModestPartial limit p → IsModestWhole (whole_term p)
    whole-modest (hole n) h = tt
    whole-modest (head t) h = h
    whole-modest (function a p) h = lam_modest a (whole_term p) h.0 (whole-modest p h.1)
    whole-modest (application p q) h = app_modest (whole_term p) (whole_term q) (whole-modest p h.0) (whole-modest q h.1)

    pub opened-modest : (p : Sketch) (s : State) → IsModestPartial limit p.partial → Good s → Good (with_opening setting p s)
    opened-modest p s h g =
        let heads = heads_for s.offers (scope_in setting s) (first_hole [] p.partial) in
        pushed-modest (map (grow p) heads) (record s { parked = s.parked ++ p ∷ [] })
        (each_mapped IsHead (IsModestCommand limit) (grow p) (λ t k. (h, k)) heads (heads-modest s.offers (scope_in setting s) (first_hole [] p.partial)))
        (record { clauses = g.clauses; noted = g.noted; terms = g.terms; rows = g.rows; parked = each-joined _ s.parked (p ∷ []) g.parked (h, tt); queue = g.queue })

    begun-modest : (a : SimpleType) (s : State) → nesting a ≤ limit → Good s → Good (with_beginning setting a s)
    begun-modest (base n) s h g = with_terms-modest (base n) (first_terms (base n)) s (first_terms-modest (base n)) g
    begun-modest (arrow a b) s h g =
        let wide : nesting (arrow a b) ≤ suc (suc limit) = omega (arith, h) in
        opened-modest (record { type = arrow a b; partial = blank_partial (arrow a b) }) s (blank-modest (arrow a b) wide) g

    pub witness-modest : (a : SimpleType) (k : ℕ) → nesting a ≤ limit → IsModest limit (eta a (constant (witness k)))
    witness-modest a k h = eta_keeps limit a (constant (witness k)) (omega (arith, h)) tt

    witness_terms-modest : (a : SimpleType) (k : ℕ) (rows : List Row) → nesting a ≤ limit → Each (IsModest limit) (witness_terms a k rows)
    witness_terms-modest a k [] h = tt
    witness_terms-modest a k (r ∷ rows) h =
        pick_good (Each (IsModest limit)) (same_type a r.type) (eta a (constant (witness k)) ∷ witness_terms a (suc k) rows) (witness_terms a (suc k) rows)
        (witness-modest a k h, witness_terms-modest a (suc k) rows h) (witness_terms-modest a (suc k) rows h)

    pub prepared-modest : (a : SimpleType) (s : State) → nesting a ≤ limit → Good s → Good (with_preparation setting a s)
    prepared-modest a s h g =
        let us = early_terms setting.mode a s in
        let more = with_terms setting.mode a us s in
        pick_good Good (is_prepared setting.mode a s) s (with_beginning setting a more) g
        (begun-modest a more h
        (with_terms-modest a us s (pick_good (Each (IsModest limit)) (offers_terms setting.mode) (witness_terms a 0 s.rows) [] (witness_terms-modest a 0 s.rows h) tt) g))

    row_types : (rows : List Row) → Each (IsModestRow limit) rows → Each (λ a. nesting a ≤ limit) (map (λ (r : Row). r.type) rows)
    row_types [] h = tt
    row_types (r ∷ rows) h = (h.0.0, row_types rows h.1)

    pub witnesses-modest : (s : State) → Good s → Each (λ a. nesting a ≤ limit) (scope_in setting s).witnesses
    witnesses-modest s g = row_types s.rows g.rows

    or_formula : (o : Option SimpleType) → IsShallowType (suc (suc limit)) o → nesting (unwrap_or o formula) ≤ suc (suc limit)
    or_formula None h = omega arith
    or_formula (Some a) h = h

    filled_at-modest : (s : State) (t : Lambda) (p : Partial) (o : Option Hole) → Good s → IsLeaf t → IsModest limit t → IsModestPartial limit p → IsModestHole o → IsModestFilled (filling_at (scope_in setting s) t p o)
    filled_at-modest s t p None g leaf h k are = tt
    filled_at-modest s t p (Some at) g leaf h k are =
        let type_is = leaf_shallow limit (scope_in setting s) good.names (witnesses-modest s g) at.context t are leaf h in
        filled-modest (with_holes (unwrap_or (type_of (scope_in setting s) at.context t) formula) (head t)) p
        (with_holes-modest (unwrap_or (type_of (scope_in setting s) at.context t) formula) (head t) (or_formula (type_of (scope_in setting s) at.context t) type_is) h) k

    or_same : (o : Option Partial) (p : Partial) → IsModestFilled o → IsModestPartial limit p → IsModestPartial limit (unwrap_or o p)
    or_same None p h k = k
    or_same (Some q) p h k = h

    grown_by-modest : (s : State) (t : Lambda) (p : Sketch) → Good s → IsLeaf t → IsModest limit t → IsModestPartial limit p.partial → IsModestPartial limit (growth_by (scope_in setting s) t p).partial
    grown_by-modest s t p g leaf h k =
        or_same (filling_at (scope_in setting s) t p.partial (first_hole [] p.partial)) p.partial
        (filled_at-modest s t p.partial (first_hole [] p.partial) g leaf h k (hole-modest [] p.partial tt k)) k

    grown-modest : (q : Sketch) (o : Option Lambda) (s : State) → IsModestPartial limit q.partial → IsModestWhole o → Good s → Good (with_growth setting q o s)
    grown-modest q (Some u) s k h g = with_term-modest q.type u s h g
    grown-modest q None s k h g = opened-modest q s k g

    pub grow-modest : (p : Sketch) (t : Lambda) (s : State) → IsModestPartial limit p.partial → IsLeaf t → IsModest limit t → Good s
        → Good (with_growth setting (growth_by (scope_in setting s) t p) (whole_term (growth_by (scope_in setting s) t p).partial) s)
    grow-modest p t s k leaf h g =
        let q = growth_by (scope_in setting s) t p in
        let m = grown_by-modest s t p g leaf h k in
        grown-modest q (whole_term q.partial) s m (whole-modest q.partial m) g

  -- PARTNERS

  abbrev IsCompared : Literal → Type 0
  IsCompared l = has_compared_head (head_of l.atom) ≡ true

  pub matings-modest : (l : Literal) (noted : List Literal) → IsCompared l → Lit l → Each Lit noted → Each (IsModestCommand limit) (matings l noted)
  matings-modest l noted c h k =
      each_mapped (λ m. IsCompared m × Lit m) (IsModestCommand limit) (positive_first mate l)
      (λ m both. pick_good (IsModestCommand limit) l.positive (mate l m) (mate m l) (c, (h, both.1)) (both.0, (both.1, h)))
      (partners (same_head l.atom) l noted)
      (each_filtered Lit (λ m. IsCompared m × Lit m) _
      (λ m n e. (subst (λ (t : Lambda). has_compared_head t ≡ true) (same_term-true (head_of l.atom) (head_of m.atom) (and_parts _ _ e).1) c, n)) noted k)

  pub confrontations-modest : (a : SimpleType) (l : Literal) (noted : List Literal) → Lit l → Each Lit noted → Each (IsModestCommand limit) (confrontations a l noted)
  confrontations-modest a l noted h k =
      each_mapped Lit (IsModestCommand limit) (positive_first confront l)
      (λ m n. pick_good (IsModestCommand limit) l.positive (confront l m) (confront m l) (h, n) (n, h)) _
      (each_filtered Lit Lit _ (λ m n e. n) noted k)

  -- SELECTIONS

  abbrev IsModestSelection : Selection → Type 0
  IsModestSelection (by_choice a f) = (suc (nesting a) ≤ limit) × IsModest limit f
  IsModestSelection (by_description a f) = (suc (nesting a) ≤ limit) × IsModest limit f

  one_or_none : (p : Selection) (b : Bool) → IsModestSelection p → Each IsModestSelection (if b then p ∷ [] else [])
  one_or_none p true h = (h, tt)
  one_or_none p false h = tt

  selection-modest : (s f : Lambda) → IsModest limit s → IsModest limit f → Each IsModestSelection (selection_by s f)
  selection-modest (constant (choice a)) f h k = one_or_none (by_choice a f) (is_closed f) (h, k)
  selection-modest (constant (description a)) f h k = one_or_none (by_description a f) (is_closed f) (h, k)
  selection-modest (constant (name j)) f h k = tt
  selection-modest (constant (witness j)) f h k = tt
  selection-modest (constant falsity) f h k = tt
  selection-modest (constant negation) f h k = tt
  selection-modest (constant implication) f h k = tt
  selection-modest (constant (all a)) f h k = tt
  selection-modest (constant (equality a)) f h k = tt
  selection-modest (bound j) f h k = tt
  selection-modest (lam a s) f h k = tt
  selection-modest (app s u) f h k = tt

  pub selections-modest : (t : Lambda) → IsModest limit t → Each IsModestSelection (selections_in t)
  selections-modest (bound k) h = tt
  selections-modest (constant c) h = tt
  selections-modest (lam a s) h = selections-modest s h.1
  selections-modest (app s u) h =
      each-joined IsModestSelection (selection_by s u ++ selections_in s) (selections_in u)
      (each-joined IsModestSelection (selection_by s u) (selections_in s) (selection-modest s u h.0 h.1) (selections-modest s h.0)) (selections-modest u h.1)

  with_selection-modest : (p : Selection) (s : State) → IsModestSelection p → Good s → Good (with_selection setting.mode p s)
  with_selection-modest (by_choice a f) s h g =
      let more = s.chosen ++ f ∷ [] in
      pick_good Good (list_any (same_term f) s.chosen) s (with_commands setting.mode (choose a f ∷ []) (record s { chosen = more })) g
      (pushed-modest (choose a f ∷ []) (record s { chosen = more }) (h, tt)
      (record { clauses = g.clauses; noted = g.noted; terms = g.terms; rows = g.rows; parked = g.parked; queue = g.queue }))
  with_selection-modest (by_description a f) s h g =
      let more = s.described ++ f ∷ [] in
      pick_good Good (list_any (same_term f) s.described) s (with_commands setting.mode (describe a f ∷ []) (record s { described = more })) g
      (pushed-modest (describe a f ∷ []) (record s { described = more }) (h, tt)
      (record { clauses = g.clauses; noted = g.noted; terms = g.terms; rows = g.rows; parked = g.parked; queue = g.queue }))

  pub with_selections-modest : (ps : List Selection) (s : State) → Each IsModestSelection ps → Good s → Good (with_selections setting.mode ps s)
  with_selections-modest [] s h g = g
  with_selections-modest (p ∷ ps) s h g = with_selections-modest ps (with_selection setting.mode p s) h.1 (with_selection-modest p s h.0 g)
