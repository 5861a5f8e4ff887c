-- The lines of steps.
use Rattle.std.proofs.Common.{◌≡◌, ◌<◌, ◌≤◌, nat_lt, if◌then◌else◌, ℕ, suc, Bool, true, false, List, [], ◌∷◌, ◌++◌, length, Option, Some, slice_get, refl, sym, ap, ap₂, ◌∙◌, subst, arith}
use Rattle.std.proofs.lemmas.Bool.{lt-ltb, ltb-true}
use Rattle.stt_core.specs.Lambda.{Lambda}
use Rattle.tableau_calculus.specs.declared.rule_use.RuleUse.TheVariants.{AtTwo}
use Rattle.tableau_calculus.specs.declared.rule_use.TwoPlaces.TheVariants.{Close as CloseRule}
use Rattle.sat_base.specs.declared.literal.Var.{Var}
use Rattle.sat_base.specs.declared.literal.SatLit.{SatLit}
use Rattle.tableau_clauses.specs.Table.{Table}
use Rattle.rebuild_spec.specs.Trees.{leaf, cut}
use Rattle.rebuild_spec.specs.Stands.{line, joined_standing}
use Rattle.rebuild_spec.proofs.WalkLaws.{get-middle}
use Rattle.tableau_rebuild.specs.Tables.{the_sources}
use Rattle.tableau_rebuild.specs.declared.draft.At.{At}
use Rattle.tableau_rebuild.specs.declared.draft.Draft.{Draft}
use Rattle.tableau_rebuild.specs.declared.draft.Draft.TheVariants.{Close, Cut}
use Rattle.tableau_rebuild.specs.declared.arena.Standing.{Standing}
use Rattle.tableau_rebuild.specs.declared.arena.Standing.TheVariants.{Start, Line}
use Rattle.tableau_rebuild.specs.Internal.Drafts.{place_after_step, tree_at, trees}
use Rattle.tableau_rebuild.specs.Internal.Arenas.{fleshed, unit_of_start, the_standing, draft_place, IsDrawn, IsEarlierDraft, ExtendsDrafts, IsJoined}
use Rattle.tableau_rebuild.proofs.DraftLaws.{close_tree, cut_tree}
use Rattle.tableau_rebuild.proofs.ArenaLaws.{drawn_step, before_step, tree_later}

pushed : (ds new : List Draft) (d : Draft) → new ≡ ds ++ d ∷ [] → slice_get new (length ds) ≡ Some d
pushed ds new d e = ap (λ k. slice_get k (length ds)) e ∙ get-middle ds [] d

longer : (ds new : List Draft) (d : Draft) → new ≡ ds ++ d ∷ [] → length ds < length new
longer ds new d e = subst (λ k. length ds < length k) (sym e) (more ds d)
  where
    more : (ds : List Draft) (d : Draft) → length ds < length (ds ++ d ∷ [])
    more [] d = omega arith
    more (x ∷ ds) d = let rest = more ds d in omega (arith, rest)

-- the literals of the lower and of the higher one of two start units
abbrev pub AreUnitsOf : Table → SatLit → SatLit → ℕ → ℕ → Type 0
AreUnitsOf t l k m n = (terms : List Lambda) (atoms : List ℕ) → (l ≡ unit_of_start (slice_get (the_sources terms atoms t) m)) × (k ≡ unit_of_start (slice_get (the_sources terms atoms t) n))

module _ (t : Table) (ds new : List Draft) (at : At) where
  close_line : (l k : SatLit) → new ≡ ds ++ Close at l k ∷ [] → (terms : List Lambda) (atoms : List ℕ) → the_standing (the_sources terms atoms t) new (Line (length ds)) ≡ line (leaf (place_after_step at) (l ∷ k ∷ []) (AtTwo CloseRule 0 1) [])
  close_line l k e terms atoms = ap (λ x. line (fleshed (the_sources terms atoms t) x)) (close_tree new (length ds) at l k (pushed ds new (Close at l k) e))

  pub closed_in_order : (v : Var) (m n : ℕ) (l k : SatLit) (r s u : Standing) → s ≡ Start m → u ≡ Start n → m < n → new ≡ ds ++ Close at l k ∷ [] → r ≡ Line (length ds) → AreUnitsOf t l k m n → IsJoined t ds new (place_after_step at) v s u r
  closed_in_order v m n l k r s u first second below e last units =
      subst (λ x. IsJoined t ds new (place_after_step at) v x u r) (sym first)
      (subst (λ x. IsJoined t ds new (place_after_step at) v (Start m) x r) (sym second)
      (subst (IsJoined t ds new (place_after_step at) v (Start m) (Start n)) (sym last)
      (record { within = longer ds new (Close at l k) e; is = λ terms atoms. close_line l k e terms atoms ∙ ordered terms atoms })))
    where
      ordered : (terms : List Lambda) (atoms : List ℕ) → line (leaf (place_after_step at) (l ∷ k ∷ []) (AtTwo CloseRule 0 1) []) ≡ joined_standing (place_after_step at) v (the_standing (the_sources terms atoms t) ds (Start m)) (the_standing (the_sources terms atoms t) ds (Start n))
      ordered terms atoms =
          let lm = unit_of_start (slice_get (the_sources terms atoms t) m) in
          let ln = unit_of_start (slice_get (the_sources terms atoms t) n) in
          let both = units terms atoms in
          ap₂ (λ x y. line (leaf (place_after_step at) (x ∷ y ∷ []) (AtTwo CloseRule 0 1) [])) both.0 both.1
          ∙ ap (λ (b : Bool). line (leaf (place_after_step at) (if b then lm ∷ ln ∷ [] else ln ∷ lm ∷ []) (AtTwo CloseRule 0 1) [])) (sym (lt-ltb m n below))

  pub closed_turned : (v : Var) (m n : ℕ) (l k : SatLit) (r s u : Standing) → s ≡ Start m → u ≡ Start n → n ≤ m → new ≡ ds ++ Close at l k ∷ [] → r ≡ Line (length ds) → AreUnitsOf t l k n m → IsJoined t ds new (place_after_step at) v s u r
  closed_turned v m n l k r s u first second above e last units =
      subst (λ x. IsJoined t ds new (place_after_step at) v x u r) (sym first)
      (subst (λ x. IsJoined t ds new (place_after_step at) v (Start m) x r) (sym second)
      (subst (IsJoined t ds new (place_after_step at) v (Start m) (Start n)) (sym last)
      (record { within = longer ds new (Close at l k) e; is = λ terms atoms. close_line l k e terms atoms ∙ ordered terms atoms })))
    where
      not_below : (b : Bool) → nat_lt m n ≡ b → nat_lt m n ≡ false
      not_below false e = e
      not_below true e = let below = ltb-true m n e in absurd (omega (arith, below, above))

      ordered : (terms : List Lambda) (atoms : List ℕ) → line (leaf (place_after_step at) (l ∷ k ∷ []) (AtTwo CloseRule 0 1) []) ≡ joined_standing (place_after_step at) v (the_standing (the_sources terms atoms t) ds (Start m)) (the_standing (the_sources terms atoms t) ds (Start n))
      ordered terms atoms =
          let lm = unit_of_start (slice_get (the_sources terms atoms t) m) in
          let ln = unit_of_start (slice_get (the_sources terms atoms t) n) in
          let both = units terms atoms in
          ap₂ (λ x y. line (leaf (place_after_step at) (x ∷ y ∷ []) (AtTwo CloseRule 0 1) [])) both.0 both.1
          ∙ ap (λ (b : Bool). line (leaf (place_after_step at) (if b then lm ∷ ln ∷ [] else ln ∷ lm ∷ []) (AtTwo CloseRule 0 1) [])) (sym (not_below (nat_lt m n) refl))

  pub cut_joined : (v : Var) (off on : ℕ) (r s u : Standing) → s ≡ Line off → u ≡ Line on → off < length ds → on < length ds → new ≡ ds ++ Cut at v on off ∷ [] → r ≡ Line (length ds) → IsJoined t ds new (place_after_step at) v s u r
  cut_joined v off on r s u first second below above e last =
      subst (λ x. IsJoined t ds new (place_after_step at) v x u r) (sym first)
      (subst (λ x. IsJoined t ds new (place_after_step at) v (Line off) x r) (sym second)
      (subst (IsJoined t ds new (place_after_step at) v (Line off) (Line on)) (sym last)
      (record { within = longer ds new (Cut at v on off) e; is = λ terms atoms. ap (λ x. line (fleshed (the_sources terms atoms t) x)) tree })))
    where
      extends : ExtendsDrafts ds new
      extends = record { more = Cut at v on off ∷ []; is = e }

      tree : tree_at (trees new) (length ds) ≡ cut (place_after_step at) v (tree_at (trees ds) on) (tree_at (trees ds) off)
      tree =
          cut_tree new (length ds) at v on off (pushed ds new (Cut at v on off) e) above below
          ∙ ap₂ (λ x y. cut (place_after_step at) v x y) (tree_later ds new extends on above) (tree_later ds new extends off below)

  -- a line more is made at a step
  pub step_drawn : (of_clause old_clause : List (Option ℕ)) (d : Draft) → IsDrawn ds old_clause → of_clause ≡ old_clause → new ≡ ds ++ d ∷ [] → draft_place d ≡ place_after_step at → IsEarlierDraft ds at.result at.step → ((p : At) (v : Var) (a b : ℕ) → d ≡ Cut p v a b → (a < length ds) × (b < length ds)) → IsDrawn new of_clause
  step_drawn of_clause old_clause d drawn same e place before children =
      subst (IsDrawn new) (sym same) (subst (λ k. IsDrawn k old_clause) (sym e) (drawn_step ds old_clause drawn d at place before children))

  pub step_before : (d : Draft) → new ≡ ds ++ d ∷ [] → draft_place d ≡ place_after_step at → IsEarlierDraft ds at.result at.step → IsEarlierDraft new at.result (suc at.step)
  step_before d e place before = subst (λ k. IsEarlierDraft k at.result (suc at.step)) (sym e) (before_step ds d at place before)

  pub close_children : (l k : SatLit) (p : At) (v : Var) (a b : ℕ) → Close at l k ≡ Cut p v a b → (a < length ds) × (b < length ds)
  close_children l k p v a b e = cc

  pub cut_children : (w : Var) (on off : ℕ) → on < length ds → off < length ds → (p : At) (v : Var) (a b : ℕ) → Cut at w on off ≡ Cut p v a b → (a < length ds) × (b < length ds)
  cut_children w on off above below p v a b e =
      let first : on ≡ a = cc in
      let second : off ≡ b = cc in
      (subst (λ k. k < length ds) first above, subst (λ k. k < length ds) second below)
