-- What keeps a state typed: pushes, literals, instances, terms.
use Rattle.std.specs.Prelude.{◌≡◌, ◌&&◌, ℕ, zero, suc, Bool, true, false, List, [], ◌∷◌, ◌++◌, map, filter, Some, None, refl, if◌then◌else◌}
use Rattle.std.specs.List.{list_any, list_all, flat_map}
use Rattle.std.proofs.Common.{sym, ap, ◌∙◌}
use Rattle.std.proofs.lemmas.Bool.{and_parts}
use Rattle.stt_core.specs.SimpleType.{SimpleType, base, arrow, formula, predicate, is_declared}
use Rattle.stt_core.specs.Lambda.{name, witness, falsity, negation, implication, all, equality, choice, description, Lambda, bound, constant, lam, app, every}
use Rattle.stt_core.specs.Typing.{Scope}
use Rattle.stt_core.specs.Canonical.{IsCanonical}
use Rattle.stt_core.specs.SameTerm.{same_term}
use Rattle.stt_core.proofs.TypeLaws.{same_type-true}
use Rattle.tableau_calculus.specs.Literals.{Literal, plus, IsLiteral, IsBranch}
use Rattle.tableau_calculus.specs.Kinds.{has, formulas}
use Rattle.tableau_calculus.specs.Witnesses.{Row, with_rows}
use Rattle.search_spec.specs.Shallow.{is_shallow_literal}
use Rattle.search_spec.specs.Clauses.{instance_clauses, with_clauses}
use Rattle.search_spec.specs.Unsatisfiable.{Clause}
use Rattle.search_spec.specs.Queue.{new_entries}
use Rattle.search_spec.specs.State.{State, Setting, Typed, Command, process, inst, due, with_commands}
use Rattle.tableau_calculus.specs.Rules.{Alternatives}
use Rattle.search_spec.specs.Instances.{with_literal, with_literals, with_instance}
use Rattle.search_spec.specs.Terms.{terms_of, ranges_over, universals, with_term, with_terms, first_terms}
use Rattle.search_spec.specs.TypedState.{IsTypedCommand, IsTypedStateWith}
use Rattle.tableau_calculus.specs.Each.{Each}
use Rattle.search_spec.proofs.NamingLaws.{each-joined, pick_good}

-- what holds of each command holds of each waiting one
each_waiting : (P : Command → Type 0) (d : Command → ℕ) (n : ℕ) (cs : List Command) → Each P cs → Each (λ q. P q.command) (new_entries d n cs)
each_waiting P d n [] h = tt
each_waiting P d n (c ∷ cs) h = (h.0, each_waiting P d (suc n) cs h.1)

-- what holds of each element that passes a test
pub each_filtered : {X : Type 0} (P Q : X → Type 0) (test : X → Bool) → ((x : X) → P x → test x ≡ true → Q x) → (xs : List X) → Each P xs → Each Q (filter test xs)
each_filtered P Q test f [] h = tt
each_filtered {X} P Q test f (x ∷ xs) h = by_test (test x) refl (each_filtered P Q test f xs h.1)
  where
    by_test : (b : Bool) → test x ≡ b → Each Q (filter test xs) → Each Q (if b then x ∷ filter test xs else filter test xs)
    by_test true e rest = (f x h.0 e, rest)
    by_test false e rest = rest

pub each_mapped : {X Y : Type 0} (P : X → Type 0) (Q : Y → Type 0) (f : X → Y) → ((x : X) → P x → Q (f x)) → (xs : List X) → Each P xs → Each Q (map f xs)
each_mapped P Q f g [] h = tt
each_mapped P Q f g (x ∷ xs) h = (g x h.0, each_mapped P Q f g xs h.1)

-- a literal that passes the test says of a predicate on the type that it holds everywhere
pub record IsOver (a : SimpleType) (l : Literal) : Type 0 where
  pub predicate : Lambda
  pub is : l ≡ plus (every a predicate)

over_atom : (a : SimpleType) (t : Lambda) → ranges_over a t ≡ true → (f : Lambda) × (t ≡ every a f)
over_atom a (bound k) e = cc
over_atom a (constant c) e = cc
over_atom a (lam b s) e = cc
over_atom a (app (bound k) u) e = cc
over_atom a (app (lam b s) u) e = cc
over_atom a (app (app s v) u) e = cc
over_atom a (app (constant (name k)) u) e = cc
over_atom a (app (constant (witness k)) u) e = cc
over_atom a (app (constant falsity) u) e = cc
over_atom a (app (constant negation) u) e = cc
over_atom a (app (constant implication) u) e = cc
over_atom a (app (constant (equality b)) u) e = cc
over_atom a (app (constant (choice b)) u) e = cc
over_atom a (app (constant (description b)) u) e = cc
over_atom a (app (constant (all b)) f) e = (f, ap (λ c. every c f) (sym (same_type-true a b e)))

pub is_over : (a : SimpleType) (l : Literal) → (l.positive && ranges_over a l.atom) ≡ true → IsOver a l
is_over a l e =
    let p = and_parts _ _ e in
    let o = over_atom a l.atom p.1 in
    record { predicate = o.0; is = ap (λ b. record { positive = b; atom = l.atom }) p.0 ∙ ap plus o.1 }

module _ (setting : Setting) (rows : List Row) where
  abbrev over : Scope
  over = with_rows setting.scope rows

  abbrev Good : State → Type 0
  Good s = IsTypedStateWith setting rows s

  pub pushed-typed : (cs : List Command) (s : State) → Each (IsTypedCommand over) cs → Good s → Good (with_commands setting.mode cs s)
  pushed-typed cs s h g = record {
    are_rows = g.are_rows;
    noted = g.noted;
    terms = g.terms;
    parked = g.parked;
    queue = each-joined _ s.queue (new_entries (due setting.mode s.moment) s.pushes cs) g.queue (each_waiting (IsTypedCommand over) (due setting.mode s.moment) s.pushes cs h);
  }

  pub seen-typed : (ls : List Literal) (s : State) → Good s → Good (record s { seen = ls })
  seen-typed ls s g = record { are_rows = g.are_rows; noted = g.noted; terms = g.terms; parked = g.parked; queue = g.queue }

  pub clauses-typed : (cs : List Clause) (s : State) → Good s → Good (record s { clauses = cs })
  clauses-typed cs s g = record { are_rows = g.are_rows; noted = g.noted; terms = g.terms; parked = g.parked; queue = g.queue }

  pub with_literal-typed : (l : Literal) (s : State) → IsLiteral over l → Good s → Good (with_literal setting.mode l s)
  with_literal-typed l s h g =
      pick_good Good (has formulas s.seen l) s (with_commands setting.mode (process l ∷ []) (record s { seen = s.seen ++ l ∷ [] })) g
      (pushed-typed (process l ∷ []) (record s { seen = s.seen ++ l ∷ [] }) (h, tt) (seen-typed (s.seen ++ l ∷ []) s g))

  pub with_literals-typed : (ls : List Literal) (s : State) → IsBranch over ls → Good s → Good (with_literals setting.mode ls s)
  with_literals-typed [] s h g = g
  with_literals-typed (l ∷ ls) s h g = with_literals-typed ls (with_literal setting.mode l s) h.1 (with_literal-typed l s h.0 g)

  branch-joined : (ls ks : List Literal) → IsBranch over ls → IsBranch over ks → IsBranch over (ls ++ ks)
  branch-joined [] ks g h = h
  branch-joined (l ∷ ls) ks g h = (g.0, branch-joined ls ks g.1 h)

  branches : (as' : Alternatives) → Each (IsBranch over) as' → IsBranch over (flat_map (λ (a : List Literal). a) as')
  branches [] h = tt
  branches (a ∷ as') h = branch-joined a (flat_map (λ (b : List Literal). b) as') h.0 (branches as' h.1)

  pub with_instance-typed : (ps : List Literal) (as' : Alternatives) (s : State) → Each (IsBranch over) as' → Good s → Good (with_instance setting.mode ps as' s)
  with_instance-typed ps as' s h g =
      let added = record s { clauses = with_clauses formulas s.clauses (instance_clauses formulas ps as') } in
      pick_good Good (list_all (list_all is_shallow_literal) as') (with_literals setting.mode (flat_map (λ (a : List Literal). a) as') added) s
      (with_literals-typed (flat_map (λ (a : List Literal). a) as') added (branches as' h) (clauses-typed (with_clauses formulas s.clauses (instance_clauses formulas ps as')) s g)) g

  each_noted : (ls : List Literal) → IsBranch over ls → Each (IsLiteral over) ls
  each_noted [] h = tt
  each_noted (l ∷ ls) h = (h.0, each_noted ls h.1)

  pub noted-each : (s : State) → Good s → Each (IsLiteral over) s.noted
  noted-each s g = each_noted s.noted g.noted

  instances-typed : (a : SimpleType) (u : Lambda) (s : State) → IsCanonical over [] a u → Good s → Each (IsTypedCommand over) (map (λ l. inst l u) (universals a s))
  instances-typed a u s h g =
      each_mapped (λ l. IsLiteral over l × IsOver a l) (IsTypedCommand over) (λ l. inst l u)
      (λ l k. record { literal = k.0; type = a; predicate = k.1.predicate; is_universal = k.1.is; argument = h })
      (universals a s)
      (each_filtered (IsLiteral over) (λ l. IsLiteral over l × IsOver a l) (λ l. l.positive && ranges_over a l.atom) (λ l k e. (k, is_over a l e)) s.noted (noted-each s g))

  pub with_term-typed : (a : SimpleType) (u : Lambda) (s : State) → IsCanonical over [] a u → Good s → Good (with_term setting.mode a u s)
  with_term-typed a u s h g =
      let more : List Typed = s.terms ++ record { type = a; term = u } ∷ [] in
      pick_good Good (list_any (same_term u) (terms_of a s)) s (with_commands setting.mode (map (λ l. inst l u) (universals a s)) (record s { terms = more })) g
      (pushed-typed (map (λ l. inst l u) (universals a s)) (record s { terms = more }) (instances-typed a u s h g)
      (record { are_rows = g.are_rows; noted = g.noted; terms = each-joined _ s.terms (record { type = a; term = u } ∷ []) g.terms (h, tt); parked = g.parked; queue = g.queue }))

  pub with_terms-typed : (a : SimpleType) (us : List Lambda) (s : State) → Each (IsCanonical over [] a) us → Good s → Good (with_terms setting.mode a us s)
  with_terms-typed a [] s h g = g
  with_terms-typed a (u ∷ us) s h g = with_terms-typed a us (with_term setting.mode a u s) h.1 (with_term-typed a u s h.0 g)

  pub first_terms-typed : (n : ℕ) → is_declared setting.scope.bases (base n) ≡ true → Each (IsCanonical over [] (base n)) (first_terms (base n))
  first_terms-typed zero d = ((tt, refl), ((tt, (formula, refl, (tt, refl))), tt))
  first_terms-typed (suc n) d = ((tt, (predicate (base (suc n)), ap (λ b. if b then Some (arrow (predicate (base (suc n))) (base (suc n))) else None) d, (d, (refl, (tt, refl))))), tt)
