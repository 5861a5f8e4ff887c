use Rattle.std.proofs.Common.{◌≡◌, ◌<◌, ◌≤◌, ◌+◌, ◌⊎◌, inl, inr, [], refl, ℕ, Bool, true, List, Some, None, length, get_or, slice_get, slice_index_or, Contains, sym, ap, subst, ◌∙◌, arith}
use Rattle.std.proofs.lemmas.Bool.{cases_lt}
use Rattle.std.proofs.lemmas.Option.{get_or_from_slice_get, slice_get_past}
use Rattle.std.specs.List.{All}
use Rattle.sat_base.specs.declared.literal.Var.{Var}
use Rattle.sat_base.specs.declared.literal.SatLit.{SatLit}
use Rattle.sat_base.specs.Literal.{IsOver}
use Rattle.literal_map.specs.declared.instance.Instance.{Instance as BankInstance}
use Rattle.tableau_clauses.specs.Table.{Table, the_instances}
use Rattle.plain_tableau.specs.Internal.Due.{without_rule, at_number, is_due_at, is_due_place, names_variable, AreLiteralsOver, IsNotedMore}
use Rattle.plain_tableau.proofs.NotedLaws.{due_more, below_more}
use Rattle.plain_tableau.proofs.path.note_all.Goals as goal

-- the instance at a place is over the variables
over_at : (n : ℕ) (t : Table) (used : List ℕ) (u : ℕ) (i : BankInstance) → All (AreLiteralsOver n t) used → u < length used → slice_get (the_instances t) (get_or used u 0) ≡ Some i → IsOver n i.principals × All (IsOver n) i.alternatives
over_at n t used u i over h e =
    let here = over u 0 h in
    let is : at_number t (get_or used u 0) ≡ without_rule (Some i) = ap without_rule e in
    (subst (λ x. IsOver n x.principals) is here.principals, subst (λ x. All (IsOver n) x.alternatives) is here.alternatives)

pub note-requires-clause-principals : goal.note-requires-clause-principals
note-requires-clause-principals c =
    let h = over_at (length c.args.noted.now.items) c.args.steps.now c.args.used.now c.loop-u.u c.in_ok-instance.instance c.requires.over c.loop-u-test.true c.in_ok-instance.ensures in
    subst (λ n. IsOver n c.in_ok-instance.instance.principals) (sym c.loop-u.invariant.count) h.0

pub note-requires-clause-alternatives : goal.note-requires-clause-alternatives
note-requires-clause-alternatives c =
    let h = over_at (length c.args.noted.now.items) c.args.steps.now c.args.used.now c.loop-u.u c.in_ok-instance.instance c.requires.over c.loop-u-test.true c.in_ok-instance.ensures in
    subst (λ n. All (IsOver n) c.in_ok-instance.instance.alternatives) (sym c.loop-u.invariant.count) h.1

-- the places that are listed, with one more
listed_more : (t : Table) (used : List ℕ) (n : ℕ) (i : BankInstance) (old new : List (List ℕ)) → n < length used → slice_get (the_instances t) (get_or used n 0) ≡ Some i → IsNotedMore (names_variable (without_rule (Some i))) n old new
    → ((u k : ℕ) (v : Var) → u < n → slice_get used u ≡ Some k → names_variable (at_number t k) v ≡ true → Contains (get_or old v.0 []) u)
    → (u k : ℕ) (v : Var) → u < n + 1 → slice_get used u ≡ Some k → names_variable (at_number t k) v ≡ true → Contains (get_or new v.0 []) u
listed_more t used n i old new inside is noted h u k v below e named = go (cases_lt u n)
  where
    go : (u < n) ⊎ (n ≤ u) → Contains (get_or new v.0 []) u
    go (inl l) = noted.kept v.0 u (h u k v l e named)
    go (inr l) =
        let same : u ≡ n = omega (arith, l, below) in
        let here : get_or used n 0 ≡ k = get_or_from_slice_get used n k 0 (ap (slice_get used) (sym same) ∙ e) in
        let at : at_number t k ≡ without_rule (Some i) = ap (λ m. without_rule (slice_get (the_instances t) m)) (sym here) ∙ ap without_rule is in
        subst (λ m. Contains (get_or new v.0 []) m) (sym same) (noted.listed v (subst (λ x. names_variable x v ≡ true) at named))

pub loop-u-preserved : goal.loop-u-preserved
loop-u-preserved c =
    let t = c.args.steps.now in
    let used = c.args.used.now in
    let u = c.loop-u.u in
    let noted = c.in_ok-note.ensures in
    let i = c.loop-u.invariant in
    let x = c.in_ok-is_due.is_due in
    record {
      count = noted.count ∙ i.count;
      noted = listed_more t used u c.in_ok-instance.instance c.loop-u.noted.items c.note.new.noted.items c.loop-u-test.true c.in_ok-instance.ensures noted i.noted;
      places = λ n p h. elim (noted.only n p h) [ inl old ↦ omega (arith, i.places n p old) | inr new ↦ omega (arith, new) ];
      due = due_more t used c.args.branch.now.keys u x c.loop-u.due c.set.new.self c.in_ok-is_due.ensures c.in_ok-set.ensures u refl i.due;
      inside = below_more t used c.args.branch.now.keys u x c.loop-u.due c.set.new.self c.in_ok-is_due.ensures c.in_ok-set.ensures u refl i.inside;
    }

in_range : (used : List ℕ) (u k : ℕ) → slice_get used u ≡ Some k → u < length used
in_range used u k e = go (cases_lt u (length used))
  where
    go : (u < length used) ⊎ (length used ≤ u) → u < length used
    go (inl l) = l
    go (inr l) = let none : slice_get used u ≡ None = slice_get_past used u l in cc

pub returns-clause-noted : goal.returns-clause-noted
returns-clause-noted c = λ u k v e named. let h = in_range c.args.used.now u k e in c.loop-u.invariant.noted u k v (omega (arith, h, c.loop-u-test.false)) e named

pub returns-clause-places : goal.returns-clause-places
returns-clause-places c = λ n u h. let below = c.loop-u.invariant.places n u h in omega (arith, below, c.loop-u.auto.u-end)

pub returns-clause-due : goal.returns-clause-due
returns-clause-due c = λ u k e. let h = in_range c.args.used.now u k e in c.loop-u.invariant.due u k (omega (arith, h, c.loop-u-test.false)) e
