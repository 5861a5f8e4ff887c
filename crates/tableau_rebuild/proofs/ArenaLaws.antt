-- Lines that are made one after the other, and what stands for clauses with more lines.
use Rattle.std.proofs.Common.{◌≡◌, ◌<◌, ◌≤◌, ◌+◌, ◌⊎◌, nat_eq, ℕ, zero, suc, Bool, true, false, List, [], ◌∷◌, ◌++◌, map, length, get_or, set, slice_set, Option, Some, None, option_map, unwrap_or, slice_get, slice_index_or, refl, sym, ap, ap₂, ◌∙◌, subst, append_assoc, append-nil, length-append, inl, inr, arith}
use Rattle.std.proofs.lemmas.Bool.{eqb-true, eq-eqb, false≢true}
use Rattle.std.proofs.lemmas.List.{get_or-set_same, get_or-set_other}
use Rattle.std.proofs.lemmas.Option.{slice_get_within, slice_get-map}
use Rattle.stt_core.specs.Lambda.{Lambda}
use Rattle.sat_base.specs.declared.literal.Var.{Var}
use Rattle.sat_base.specs.declared.literal.SatLit.{SatLit}
use Rattle.sat_log.specs.declared.log.LogEntry.{LogEntry}
use Rattle.term_bank.specs.Content.{Content}
use Rattle.tableau_clauses.specs.declared.origin.Origin.{Origin}
use Rattle.tableau_clauses.specs.declared.origin.Origin.TheVariants.{Start as FromStart, Instance as From}
use Rattle.tableau_clauses.specs.Table.{Step, Table, EachComes}
use Rattle.rebuild_spec.specs.Input.{Sourced, start_unit, clause_by}
use Rattle.rebuild_spec.specs.Trees.{Place, at_clause, at_result, Tree, leaf, made_at, same_line}
use Rattle.rebuild_spec.specs.Stands.{start, line, instance_line, Stands, of_start, of_instance}
use Rattle.rebuild_spec.proofs.WalkLaws.{get-append, get-push, get-middle}
use Rattle.rebuild_spec.proofs.StandsLaws.{same_place-true}
use Rattle.tableau_rebuild.specs.Tables.{no_rule, no_instance, the_instance, sourced, the_sources, the_input}
use Rattle.tableau_rebuild.specs.declared.draft.At.{At}
use Rattle.tableau_rebuild.specs.declared.draft.Draft.{Draft}
use Rattle.tableau_rebuild.specs.declared.draft.Draft.TheVariants.{Clause, Close, Cut}
use Rattle.tableau_rebuild.specs.declared.arena.Standing.{Standing}
use Rattle.tableau_rebuild.specs.declared.arena.Standing.TheVariants.{Start, Line}
use Rattle.tableau_rebuild.specs.Internal.Drafts.{place_after_step, tree_at, tree_of, trees_after, trees, AreDrafts}
use Rattle.tableau_rebuild.specs.Internal.Arenas.{clause_line, fleshed, unit_of_start, the_standing, IsStandingWithin, draft_place, IsDrawn, IsEarlierDraft, ExtendsDrafts, StandsFor, AreResults}
use Rattle.tableau_rebuild.proofs.DraftLaws.{at_front, grown, there, clause_tree, close_tree, cut_tree}

-- MORE LINES

module _ (drafts : List Draft) (of_clause : List (Option ℕ)) (drawn : IsDrawn drafts of_clause) where
  -- a clause whose line isn't known yet
  pub drawn_clause : (n : ℕ) → n < length of_clause → slice_index_or of_clause n None ≡ None → IsDrawn (drafts ++ Clause n ∷ []) (slice_set of_clause n (Some (length drafts)))
  drawn_clause n inside unknown = record {
    below = λ i at v a b h. get-push ((a < i) × (b < i)) drafts (Clause n) (Cut at v a b) i h (λ k. drawn.below i at v a b k) (λ e same. cc);
    apart = λ i j d e h k same.
        get-push (i ≡ j) drafts (Clause n) d i h
        (λ old. get-push (i ≡ j) drafts (Clause n) e j k (λ older. drawn.apart i j d e old older same) (λ l is. absurd (new_place i d old (same ∙ ap draft_place (sym is)))))
        (λ l is. get-push (i ≡ j) drafts (Clause n) e j k (λ old. absurd (new_place j e old (sym same ∙ ap draft_place (sym is)))) (λ m also. l ∙ sym m));
    known = known;
    all_known = λ i m h. get-push (slice_index_or (slice_set of_clause n (Some (length drafts))) m None ≡ Some i) drafts (Clause n) (Clause m) i h (λ old. kept i m old) (λ l is. new i m l is);
  }
    where
      is_clause : (d : Draft) → draft_place d ≡ at_clause n → d ≡ Clause n
      is_clause (Clause m) e = let same : m ≡ n = cc in ap Clause same
      is_clause (Close at l m) e = cc
      is_clause (Cut at v a b) e = cc

      new_place : (i : ℕ) (d : Draft) → slice_get drafts i ≡ Some d → draft_place d ≡ at_clause n → ⊥
      new_place i d h e =
          let there : slice_index_or of_clause n None ≡ Some i = drawn.all_known i n (h ∙ ap Some (is_clause d e)) in
          cc

      known : (m i : ℕ) → slice_index_or (slice_set of_clause n (Some (length drafts))) m None ≡ Some i → slice_get (drafts ++ Clause n ∷ []) i ≡ Some (Clause m)
      known m i h = go (nat_eq m n) refl
        where
          go : (b : Bool) → nat_eq m n ≡ b → slice_get (drafts ++ Clause n ∷ []) i ≡ Some (Clause m)
          go true e =
              let same : m ≡ n = eqb-true m n e in
              let is : Some (length drafts) ≡ Some i = sym (get_or-set_same of_clause n (Some (length drafts)) None inside) ∙ ap (λ k. get_or (set of_clause n (Some (length drafts))) k None) (sym same) ∙ h in
              let number : length drafts ≡ i = cc in
              ap (slice_get (drafts ++ Clause n ∷ [])) (sym number) ∙ get-middle drafts [] (Clause n) ∙ ap (λ k. Some (Clause k)) (sym same)
          go false e =
              get-append drafts (Clause n ∷ []) i (Clause m) (drawn.known m i (sym (get_or-set_other of_clause n m (Some (length drafts)) None (λ same. false≢true (sym e ∙ eq-eqb m n same))) ∙ h))

      kept : (i m : ℕ) → slice_get drafts i ≡ Some (Clause m) → slice_index_or (slice_set of_clause n (Some (length drafts))) m None ≡ Some i
      kept i m old =
          let was : slice_index_or of_clause m None ≡ Some i = drawn.all_known i m old in
          get_or-set_other of_clause n m (Some (length drafts)) None (λ same. differ same was) ∙ was
        where
          differ : m ≡ n → slice_index_or of_clause m None ≡ Some i → ⊥
          differ same was = let e : None ≡ Some i = sym unknown ∙ ap (λ k. slice_index_or of_clause k None) (sym same) ∙ was in cc

      new : (i m : ℕ) → i ≡ length drafts → Clause n ≡ Clause m → slice_index_or (slice_set of_clause n (Some (length drafts))) m None ≡ Some i
      new i m l is =
          let same : n ≡ m = cc in
          ap (λ k. get_or (set of_clause n (Some (length drafts))) k None) (sym same) ∙ get_or-set_same of_clause n (Some (length drafts)) None inside ∙ ap Some (sym l)

  -- the line of a step that comes after those that have lines
  pub drawn_step : (d : Draft) (at : At) → draft_place d ≡ place_after_step at → IsEarlierDraft drafts at.result at.step → ((p : At) (v : Var) (a b : ℕ) → d ≡ Cut p v a b → (a < length drafts) × (b < length drafts)) → IsDrawn (drafts ++ d ∷ []) of_clause
  drawn_step d at place before children = record {
    below = λ i p v a b h. get-push ((a < i) × (b < i)) drafts d (Cut p v a b) i h (λ k. drawn.below i p v a b k) (λ e same. subst (λ n. (a < n) × (b < n)) (sym e) (children p v a b same));
    apart = λ i j x y h k same.
        get-push (i ≡ j) drafts d x i h
        (λ old. get-push (i ≡ j) drafts d y j k (λ older. drawn.apart i j x y old older same) (λ l is. absurd (new_place i x old (same ∙ ap draft_place (sym is) ∙ place))))
        (λ l is. get-push (i ≡ j) drafts d y j k (λ old. absurd (new_place j y old (sym same ∙ ap draft_place (sym is) ∙ place))) (λ m also. l ∙ sym m));
    known = λ m i h. get-append drafts (d ∷ []) i (Clause m) (drawn.known m i h);
    all_known = λ i m h. get-push (slice_index_or of_clause m None ≡ Some i) drafts d (Clause m) i h (λ old. drawn.all_known i m old) (λ l is. absurd (no_clause m (sym (ap draft_place is) ∙ place)));
  }
    where
      no_clause : (m : ℕ) → at_clause m ≡ place_after_step at → ⊥
      no_clause m e = cc

      new_place : (i : ℕ) (x : Draft) → slice_get drafts i ≡ Some x → draft_place x ≡ place_after_step at → ⊥
      new_place i x h e = elim (before i x at h e) [
        | inl l ↦ omega (arith, l)
        | inr l ↦ omega (arith, l.1)
      ]

pub before_clause : (drafts : List Draft) (n m k : ℕ) → IsEarlierDraft drafts m k → IsEarlierDraft (drafts ++ Clause n ∷ []) m k
before_clause drafts n m k before i d at h e =
    get-push ((at.result < m) ⊎ ((at.result ≡ m) × (at.step < k))) drafts (Clause n) d i h (λ old. before i d at old e) (λ l is. absurd (no_step (ap draft_place is ∙ e)))
  where
    no_step : at_clause n ≡ place_after_step at → ⊥
    no_step e = cc

later_before : (n k j : ℕ) (at : At) → k ≤ j → (at.result < n) ⊎ ((at.result ≡ n) × (at.step < k)) → (at.result < n) ⊎ ((at.result ≡ n) × (at.step < j))
later_before n k j at l (inl h) = inl h
later_before n k j at l (inr h) = inr (h.0, omega (arith, l, h.1))

pub before_next : (drafts : List Draft) (n k : ℕ) → IsEarlierDraft drafts n k → IsEarlierDraft drafts (suc n) 0
before_next drafts n k before i d at h e = inl (go (before i d at h e))
  where
    go : (at.result < n) ⊎ ((at.result ≡ n) × (at.step < k)) → at.result < suc n
    go (inl l) = omega (arith, l)
    go (inr l) = omega (arith, l.0)

pub before_step : (drafts : List Draft) (d : Draft) (at : At) → draft_place d ≡ place_after_step at → IsEarlierDraft drafts at.result at.step → IsEarlierDraft (drafts ++ d ∷ []) at.result (suc at.step)
before_step drafts d at place before i x p h e =
    get-push ((p.result < at.result) ⊎ ((p.result ≡ at.result) × (p.step < suc at.step))) drafts d x i h (λ old. later_before at.result at.step (suc at.step) p (omega arith) (before i x p old e))
    (λ l is. same_step (sym place ∙ ap draft_place is ∙ e))
  where
    same_step : place_after_step at ≡ place_after_step p → (p.result < at.result) ⊎ ((p.result ≡ at.result) × (p.step < suc at.step))
    same_step e =
        let one : at.result ≡ p.result = cc in
        let two : suc at.step ≡ suc p.step = cc in
        inr (sym one, omega (arith, two))

-- TREES OF MORE LINES

trees-append : (earlier : List Tree) (ds more : List Draft) → trees_after earlier (ds ++ more) ≡ trees_after (trees_after earlier ds) more
trees-append earlier [] more = refl
trees-append earlier (d ∷ ds) more = trees-append (earlier ++ tree_of earlier d ∷ []) ds more

length-trees : (earlier : List Tree) (ds : List Draft) → length (trees_after earlier ds) ≡ length earlier + length ds
length-trees earlier [] = omega arith
length-trees earlier (d ∷ ds) =
    let rest = length-trees (earlier ++ tree_of earlier d ∷ []) ds in
    let longer = length-append earlier (tree_of earlier d ∷ []) in
    omega (arith, rest, longer)

pub tree_later : (ds new : List Draft) → ExtendsDrafts ds new → (i : ℕ) → i < length ds → tree_at (trees new) i ≡ tree_at (trees ds) i
tree_later ds new e i l =
    let more = grown (trees ds) e.more in
    let count = length-trees [] ds in
    ap (λ k. tree_at (trees k) i) e.is ∙ ap (λ k. tree_at k i) (trees-append [] ds e.more ∙ more.1) ∙ at_front (trees ds) more.0 i (omega (arith, l, count))

pub extends-same : (ds : List Draft) → ExtendsDrafts ds ds
extends-same ds = record { more = []; is = sym (append-nil ds) }

pub extends-more : (a b c : List Draft) → ExtendsDrafts a b → ExtendsDrafts b c → ExtendsDrafts a c
extends-more a b c h k = record { more = h.more ++ k.more; is = k.is ∙ ap (λ x. x ++ k.more) h.is ∙ append_assoc a h.more k.more }

extends_length : (a b : List Draft) → ExtendsDrafts a b → length a ≤ length b
extends_length a b h = let e = ap length h.is in let f = length-append a h.more in omega (arith, e, f)

pub within_later : (t : Table) (ds new : List Draft) (s : Standing) → ExtendsDrafts ds new → IsStandingWithin t ds s → IsStandingWithin t new s
within_later t ds new (Start n) e h = h
within_later t ds new (Line i) e h = let l = extends_length ds new e in omega (arith, h, l)

pub standing_later : (sources : List Sourced) (t : Table) (ds new : List Draft) (s : Standing) → ExtendsDrafts ds new → IsStandingWithin t ds s → the_standing sources new s ≡ the_standing sources ds s
standing_later sources t ds new (Start n) e h = refl
standing_later sources t ds new (Line i) e h = ap (λ x. line (fleshed sources x)) (tree_later ds new e i h)

pub stands_later : (t : Table) (log : List LogEntry) (ds new : List Draft) (p : Place) (c : List SatLit) (s : Standing) → ExtendsDrafts ds new → StandsFor t log ds p c s → StandsFor t log new p c s
stands_later t log ds new p c s e h = record {
  within = within_later t ds new s e h.within;
  stands = λ b atoms witnesses. subst (Stands (the_input b atoms t log witnesses) p c) (sym (standing_later (the_sources b.terms atoms t) t ds new s e h.within)) (h.stands b atoms witnesses);
}

pub results_later : (t : Table) (log : List LogEntry) (ds new : List Draft) (of_result : List Standing) → ExtendsDrafts ds new → AreResults t log ds of_result → AreResults t log new of_result
results_later t log ds new of_result e h m s entry at is = stands_later t log ds new (at_result m) entry.result s e (h m s entry at is)

-- PREMISES

both : {A B : Type 0} (xs : List (A × B)) (n : ℕ) (a : A) (b : B) → slice_get (map (λ x. x.0) xs) n ≡ Some a → slice_get (map (λ x. x.1) xs) n ≡ Some b → slice_get xs n ≡ Some (a, b)
both [] n a b h k = cc
both (x ∷ xs) zero a b h k =
    let first : x.0 ≡ a = cc in
    let second : x.1 ≡ b = cc in
    ap Some (ap₂ (λ y z. (y, z)) first second)
both (x ∷ xs) (suc n) a b h k = both xs n a b h k

module _ (t : Table) (log : List LogEntry) (ds : List Draft) where
  source : (terms : List Lambda) (atoms : List ℕ) (n : ℕ) (c : List SatLit) (o : Origin) → slice_get t.0 n ≡ Some (c, o) → slice_get (the_sources terms atoms t) n ≡ Some (sourced terms atoms t.1 c o)
  source terms atoms n c o h =
      slice_get-map (λ (s : Step). sourced terms atoms t.1 s.0 s.1) t.0 n ∙ ap (option_map (λ (s : Step). sourced terms atoms t.1 s.0 s.1)) h

  pub clause_stands : (n i k : ℕ) (c : List SatLit) → slice_get ds i ≡ Some (Clause n) → slice_get t.0 n ≡ Some (c, From k) → StandsFor t log ds (at_clause n) c (Line i)
  clause_stands n i k c drafted h = record { within = slice_get_within ds i (Clause n) drafted; stands = stands }
    where
      stands : (b : Content) (atoms witnesses : List ℕ) → Stands (the_input b atoms t log witnesses) (at_clause n) c (line (fleshed (the_sources b.terms atoms t) (tree_at (trees ds) i)))
      stands b atoms witnesses =
          let sources = the_sources b.terms atoms t in
          let instance = unwrap_or (option_map (the_instance b.terms atoms) (slice_get t.1 k)) no_instance in
          let at : slice_get sources n ≡ Some (clause_by c instance) = source b.terms atoms n c (From k) h in
          let tree : fleshed sources (tree_at (trees ds) i) ≡ instance_line n c instance = ap (fleshed sources) (clause_tree ds i n drafted) ∙ ap (λ o. clause_line n o (leaf (at_clause n) [] no_rule [])) at in
          subst (λ x. Stands (the_input b atoms t log witnesses) (at_clause n) c (line x)) (sym tree) (of_instance n c instance at)

  pub start_stands : (n : ℕ) (l : SatLit) → slice_get t.0 n ≡ Some (l ∷ [], FromStart) → StandsFor t log ds (at_clause n) (l ∷ []) (Start n)
  start_stands n l h = record { within = (l, h); stands = stands }
    where
      stands : (b : Content) (atoms witnesses : List ℕ) → Stands (the_input b atoms t log witnesses) (at_clause n) (l ∷ []) (start n (unit_of_start (slice_get (the_sources b.terms atoms t) n)))
      stands b atoms witnesses =
          let at : slice_get (the_sources b.terms atoms t) n ≡ Some (start_unit l) = source b.terms atoms n (l ∷ []) FromStart h in
          subst (λ k. Stands (the_input b atoms t log witnesses) (at_clause n) (l ∷ []) (start n k)) (sym (ap unit_of_start at)) (of_start n l at)

  -- the premise is a clause of the start, or one of an instance
  pub start_premise : EachComes t → (n : ℕ) (c : List SatLit) → slice_get (map (λ (s : Step). s.1) t.0) n ≡ Some FromStart → slice_get (map (λ (s : Step). s.0) t.0) n ≡ Some c → StandsFor t log ds (at_clause n) c (Start n)
  start_premise comes n c origin clause =
      let at = both t.0 n c FromStart clause origin in
      let unit = comes n (c, FromStart) at in
      subst (λ k. StandsFor t log ds (at_clause n) k (Start n)) (sym unit.1) (start_stands n unit.0 (at ∙ ap (λ k. Some (k, FromStart)) unit.1))

  pub instance_premise : (n i k : ℕ) (c : List SatLit) → slice_get ds i ≡ Some (Clause n) → slice_get (map (λ (s : Step). s.1) t.0) n ≡ Some (From k) → slice_get (map (λ (s : Step). s.0) t.0) n ≡ Some c → StandsFor t log ds (at_clause n) c (Line i)
  instance_premise n i k c drafted origin clause = clause_stands n i k c drafted (both t.0 n c (From k) clause origin)

  pub unit_literal : (terms : List Lambda) (atoms : List ℕ) (n : ℕ) (l : SatLit) → slice_get t.0 n ≡ Some (l ∷ [], FromStart) → l ≡ unit_of_start (slice_get (the_sources terms atoms t) n)
  unit_literal terms atoms n l h = sym (ap unit_of_start (source terms atoms n (l ∷ []) FromStart h))

-- NO LINES AND ALL LINES

pub none_drawn : (of_clause : List (Option ℕ)) → ((n : ℕ) → slice_index_or of_clause n None ≡ None) → IsDrawn [] of_clause
none_drawn of_clause none = record { below = λ i at v a b h. cc; apart = λ i j d e h k same. cc; known = λ n i h. absurd (unknown n i h); all_known = λ i n h. cc }
  where
    unknown : (n i : ℕ) → slice_index_or of_clause n None ≡ Some i → ⊥
    unknown n i h = let e : None ≡ Some i = sym (none n) ∙ h in cc

pub none_before : (n k : ℕ) → IsEarlierDraft [] n k
none_before n k i d at h e = cc

pub results_more : (t : Table) (log : List LogEntry) (old ds : List Draft) (standings new : List Standing) (n : ℕ) (s : Standing) → ExtendsDrafts old ds → AreResults t log old standings → length standings ≡ n → new ≡ standings ++ s ∷ [] → ((entry : LogEntry) → slice_get log n ≡ Some entry → StandsFor t log ds (at_result n) entry.result s) → AreResults t log ds new
results_more t log old ds standings new n s extends known count e last m r entry h at =
    get-push (StandsFor t log ds (at_result m) entry.result r) standings s r m (ap (λ k. slice_get k m) (sym e) ∙ h) (λ there. stands_later t log old ds (at_result m) entry.result r extends (known m r entry there at))
    (λ is same. subst (StandsFor t log ds (at_result m) entry.result) same (subst (λ k. StandsFor t log ds (at_result k) entry.result s) (sym (is ∙ count)) (last entry (ap (slice_get log) (sym (is ∙ count)) ∙ at))))

-- no two lines are made at one place
pub are_drafts : (ds : List Draft) (of_clause : List (Option ℕ)) → IsDrawn ds of_clause → AreDrafts ds
are_drafts ds of_clause drawn = record { below = drawn.below; apart = apart }
  where
    place : (i : ℕ) (d : Draft) → slice_get ds i ≡ Some d → made_at (tree_at (trees ds) i) ≡ draft_place d
    place i (Clause n) h = ap made_at (clause_tree ds i n h)
    place i (Close at l m) h = ap made_at (close_tree ds i at l m h)
    place i (Cut at v a b) h = let below = drawn.below i at v a b h in ap made_at (cut_tree ds i at v a b h below.0 below.1)

    apart : (i j : ℕ) → i < length ds → j < length ds → same_line (tree_at (trees ds) i) (tree_at (trees ds) j) ≡ true → i ≡ j
    apart i j l m same =
        let d = there ds i l in
        let e = there ds j m in
        drawn.apart i j d.0 e.0 d.1 e.1 (sym (place i d.0 d.1) ∙ same_place-true (made_at (tree_at (trees ds) i)) (made_at (tree_at (trees ds) j)) same ∙ place j e.0 e.1)
