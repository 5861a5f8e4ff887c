-- The steps of a walk.
use Rattle.std.proofs.Common.{◌≡◌, ◌<◌, ◌+◌, ◌||◌, if◌then◌else◌, ℕ, zero, suc, nat_eq, Bool, true, false, List, [], ◌∷◌, ◌++◌, map, length, reverse, get_or, set, Some, slice_get, slice_index_or, slice_set, refl, sym, ap, ◌∙◌, subst, arith}
use Rattle.std.specs.List.{list_any}
use Rattle.std.proofs.lemmas.Bool.{false≢true, or_left, or_right, eqb-true, eq-eqb}
use Rattle.std.proofs.lemmas.List.{get_or-set_same, get_or-set_other, length-set, length-map, reverse-append}
use Rattle.std.proofs.lemmas.List.Folds.{list_any-append}
use Rattle.std.proofs.lemmas.List.Elements.{All-nil, All-cons, All-head, All-tail}
use Rattle.stt_core.proofs.ListLaws.{map-append}
use Rattle.rebuild_spec.specs.Trees.{Place, Tree, leaf, cut, made_at, same_line}
use Rattle.rebuild_spec.specs.Lines.{with_line, walked}
use Rattle.rebuild_spec.proofs.WalkLaws.{same_place-refl, get-push}
use Rattle.rebuild_spec.proofs.LastLaws.{walk_ordered}
use Rattle.rebuild_spec.proofs.SkipLaws.{Task as Step, visit, list, run as run_steps, run_passes}
use Rattle.sat_base.specs.declared.literal.Var.{Var}
use Rattle.sat_base.specs.declared.literal.SatLit.{SatLit}
use Rattle.tableau_calculus.specs.Rules.{PlainRule}
use Rattle.tableau_calculus.specs.declared.refutation.Child.{Child}
use Rattle.tableau_rebuild.specs.declared.draft.At.{At}
use Rattle.tableau_rebuild.specs.declared.draft.Draft.{Draft}
use Rattle.tableau_rebuild.specs.declared.draft.Draft.TheVariants.{Clause, Close, Cut}
use Rattle.tableau_rebuild.specs.declared.walk.Task.{Task}
use Rattle.tableau_rebuild.specs.declared.walk.Task.TheVariants.{Visit, Enter}
use Rattle.tableau_rebuild.specs.Internal.Drafts.{tree_at, trees, AreDrafts}
use Rattle.tableau_rebuild.specs.Internal.Walks.{task_number, tree_size, weight, run, IsWalkUnderWay}
use Rattle.tableau_rebuild.proofs.DraftLaws.{clause_tree, close_tree, cut_tree, IsDrafted, one_drafted, each_drafted}

pub any_default : {A : Type 0} (xs : List A) (i : ℕ) (d e : A) → i < length xs → get_or xs i d ≡ get_or xs i e
any_default [] i d e l = absurd (omega (arith, l))
any_default (x ∷ xs) zero d e l = refl
any_default (x ∷ xs) (suc i) d e l = any_default xs i d e (omega (arith, l))

step_of : List Tree → Task → Step
step_of ts (Visit i) = visit (tree_at ts i)
step_of ts (Enter i) = list (tree_at ts i)

run_is : (ts done : List Tree) (tasks : List Task) → run ts done tasks ≡ run_steps done (map (step_of ts) tasks)
unfolding step_of
run_is ts done [] = refl
run_is ts done (Visit i ∷ tasks) = run_is ts (walked done (tree_at ts i)) tasks
run_is ts done (Enter i ∷ tasks) = run_is ts (with_line done (tree_at ts i)) tasks

module _ (drafts : List Draft) (right : AreDrafts drafts) (last : ℕ) where
  abbrev ts : List Tree
  ts = trees drafts

  -- a line that is there already
  pub enter_there : (listed : List Bool) (order : List ℕ) (tasks : List Task) (i : ℕ) → IsWalkUnderWay drafts last listed order (Enter i ∷ tasks) → slice_index_or listed i false ≡ true → IsWalkUnderWay drafts last listed order tasks
  enter_there listed order tasks i way is =
      let inside = All-head (λ t. task_number t < length drafts) (Enter i) tasks way.in_range in
      let done = map (tree_at ts) order in
      let there : list_any (same_line (tree_at ts i)) done ≡ true = sym (way.marks i inside) ∙ is in
      let same : with_line done (tree_at ts i) ≡ done = ap (λ (b : Bool). if b then done else done ++ tree_at ts i ∷ []) there in
      record { flags = way.flags; marks = way.marks; in_range = All-tail (λ t. task_number t < length drafts) (Enter i) tasks way.in_range; inside = way.inside; lines = ap (λ k. run ts k tasks) (sym same) ∙ way.lines }

  new_mark : (order : List ℕ) (listed : List Bool) (i j : ℕ) → i < length drafts → j < length drafts → length listed ≡ length drafts → slice_index_or listed j false ≡ list_any (same_line (tree_at ts j)) (map (tree_at ts) order) → slice_index_or (slice_set listed i true) j false ≡ list_any (same_line (tree_at ts j)) (map (tree_at ts) (order ++ i ∷ []))
  new_mark order listed i j li lj count before = go (nat_eq j i) refl
    where
      pushed : list_any (same_line (tree_at ts j)) (map (tree_at ts) (order ++ i ∷ [])) ≡ (list_any (same_line (tree_at ts j)) (map (tree_at ts) order) || (same_line (tree_at ts j) (tree_at ts i) || false))
      pushed = ap (list_any (same_line (tree_at ts j))) (map-append (tree_at ts) order (i ∷ [])) ∙ list_any-append (same_line (tree_at ts j)) (map (tree_at ts) order) (tree_at ts i ∷ [])

      other : same_line (tree_at ts j) (tree_at ts i) ≡ false → (list_any (same_line (tree_at ts j)) (map (tree_at ts) order) || (same_line (tree_at ts j) (tree_at ts i) || false)) ≡ list_any (same_line (tree_at ts j)) (map (tree_at ts) order)
      other e = ap (λ b. list_any (same_line (tree_at ts j)) (map (tree_at ts) order) || (b || false)) e ∙ or_false (list_any (same_line (tree_at ts j)) (map (tree_at ts) order))
        where
          or_false : (b : Bool) → (b || false) ≡ b
          or_false true = refl
          or_false false = refl

      differ : (b : Bool) → same_line (tree_at ts j) (tree_at ts i) ≡ b → nat_eq j i ≡ false → same_line (tree_at ts j) (tree_at ts i) ≡ false
      differ false e f = e
      differ true e f = absurd (false≢true (sym f ∙ eq-eqb j i (right.apart j i lj li e)))

      go : (b : Bool) → nat_eq j i ≡ b → slice_index_or (slice_set listed i true) j false ≡ list_any (same_line (tree_at ts j)) (map (tree_at ts) (order ++ i ∷ []))
      go true e =
          let same : j ≡ i = eqb-true j i e in
          let inside : i < length listed = omega (arith, li, count) in
          ap (λ k. get_or (set listed i true) k false) same ∙ get_or-set_same listed i true false inside
          ∙ sym (pushed ∙ or_right (list_any (same_line (tree_at ts j)) (map (tree_at ts) order)) _ (or_left _ false (ap (λ k. same_line (tree_at ts j) (tree_at ts k)) (sym same) ∙ same_place-refl (made_at (tree_at ts j)))))
      go false e =
          get_or-set_other listed i j true false (λ same. false≢true (sym e ∙ eq-eqb j i same)) ∙ before ∙ sym (pushed ∙ other (differ (same_line (tree_at ts j) (tree_at ts i)) refl e))

  -- a line that is new
  pub enter_new : (listed : List Bool) (order : List ℕ) (tasks : List Task) (i : ℕ) → IsWalkUnderWay drafts last listed order (Enter i ∷ tasks) → slice_index_or listed i false ≡ false → IsWalkUnderWay drafts last (slice_set listed i true) (order ++ i ∷ []) tasks
  enter_new listed order tasks i way is =
      let inside = All-head (λ t. task_number t < length drafts) (Enter i) tasks way.in_range in
      let done = map (tree_at ts) order in
      let there : list_any (same_line (tree_at ts i)) done ≡ false = sym (way.marks i inside) ∙ is in
      let same : with_line done (tree_at ts i) ≡ done ++ tree_at ts i ∷ [] = ap (λ (b : Bool). if b then done else done ++ tree_at ts i ∷ []) there in
      record {
        flags = length-set listed i true ∙ way.flags;
        marks = λ j l. new_mark order listed i j inside l way.flags (way.marks j l);
        in_range = All-tail (λ t. task_number t < length drafts) (Enter i) tasks way.in_range;
        inside = λ k j h. get-push (j < length drafts) order i j k h (λ old. way.inside k j old) (λ e same. subst (λ n. n < length drafts) same inside);
        lines = ap (λ k. run ts k tasks) (map-append (tree_at ts) order (i ∷ []) ∙ sym same) ∙ way.lines;
      }

  size_some : (t : Tree) → 0 < tree_size t
  size_some (leaf p ls rule children) = omega arith
  size_some (cut p v t u) = omega arith

  -- what a visit leaves to do: less than before
  pub record Leaves (listed : List Bool) (order : List ℕ) (i : ℕ) (tasks new : List Task) : Type 0 where
    pub way : IsWalkUnderWay drafts last listed order new
    pub less : weight ts new < weight ts (Visit i ∷ tasks)

  pub visit_there : (listed : List Bool) (order : List ℕ) (tasks : List Task) (i : ℕ) → last < length drafts → IsWalkUnderWay drafts last listed order (Visit i ∷ tasks) → slice_index_or listed i false ≡ true → Leaves listed order i tasks tasks
  visit_there listed order tasks i below way is =
      let inside = All-head (λ t. task_number t < length drafts) (Visit i) tasks way.in_range in
      let done = map (tree_at ts) order in
      let t = tree_at ts i in
      let there : list_any (same_line t) done ≡ true = sym (way.marks i inside) ∙ is in
      let whole = walked [] (tree_at ts last) in
      let Is = IsDrafted drafts in
      let one = one_drafted drafts right in
      let ordered = walk_ordered Is one (tree_at ts last) (each_drafted drafts right last below) in
      let lines = run_passes Is one done whole t (map (step_of ts) tasks) ordered (each_drafted drafts right i inside) (sym (run_is ts (walked done t) tasks) ∙ way.lines) there in
      let some = size_some t in
      record {
        way = record { flags = way.flags; marks = way.marks; in_range = All-tail (λ t. task_number t < length drafts) (Visit i) tasks way.in_range; inside = way.inside; lines = run_is ts done tasks ∙ lines };
        less = omega (arith, some);
      }

  visit_alone : (listed : List Bool) (order : List ℕ) (tasks : List Task) (i : ℕ) (p : Place) (ls : List SatLit) (rule : PlainRule) (children : List Child) → IsWalkUnderWay drafts last listed order (Visit i ∷ tasks) → tree_at ts i ≡ leaf p ls rule children → Leaves listed order i tasks (Enter i ∷ tasks)
  visit_alone listed order tasks i p ls rule children way tree =
      let inside = All-head (λ t. task_number t < length drafts) (Visit i) tasks way.in_range in
      let rest = All-tail (λ t. task_number t < length drafts) (Visit i) tasks way.in_range in
      let done = map (tree_at ts) order in
      let same = subst (λ t. with_line done t ≡ walked done t) (sym tree) refl in
      let some = size_some (tree_at ts i) in
      record {
        way = record { flags = way.flags; marks = way.marks; in_range = All-cons (λ t. task_number t < length drafts) (Enter i) tasks inside rest; inside = way.inside; lines = ap (λ k. run ts k tasks) same ∙ way.lines };
        less = omega (arith, some);
      }

  pub visit_clause : (listed : List Bool) (order : List ℕ) (tasks : List Task) (i n : ℕ) → IsWalkUnderWay drafts last listed order (Visit i ∷ tasks) → slice_get drafts i ≡ Some (Clause n) → Leaves listed order i tasks (Enter i ∷ tasks)
  visit_clause listed order tasks i n way at = visit_alone listed order tasks i _ _ _ _ way (clause_tree drafts i n at)

  pub visit_close : (listed : List Bool) (order : List ℕ) (tasks : List Task) (i : ℕ) (p : At) (l m : SatLit) → IsWalkUnderWay drafts last listed order (Visit i ∷ tasks) → slice_get drafts i ≡ Some (Close p l m) → Leaves listed order i tasks (Enter i ∷ tasks)
  visit_close listed order tasks i p l m way at = visit_alone listed order tasks i _ _ _ _ way (close_tree drafts i p l m at)

  pub visit_cut : (listed : List Bool) (order : List ℕ) (tasks : List Task) (i : ℕ) (p : At) (v : Var) (a b : ℕ) → IsWalkUnderWay drafts last listed order (Visit i ∷ tasks) → slice_get drafts i ≡ Some (Cut p v a b) → Leaves listed order i tasks (Visit a ∷ Visit b ∷ Enter i ∷ tasks)
  visit_cut listed order tasks i p v a b way at =
      let P : Task → Type 0 = λ t. task_number t < length drafts in
      let inside = All-head P (Visit i) tasks way.in_range in
      let rest = All-tail P (Visit i) tasks way.in_range in
      let below = right.below i p v a b at in
      let done = map (tree_at ts) order in
      let tree = cut_tree drafts i p v a b at below.0 below.1 in
      let same = subst (λ t. with_line (walked (walked done (tree_at ts a)) (tree_at ts b)) t ≡ walked done t) (sym tree) refl in
      let sizes : tree_size (tree_at ts i) ≡ suc (tree_size (tree_at ts a) + tree_size (tree_at ts b)) = ap tree_size tree in
      record {
        way = record {
          flags = way.flags;
          marks = way.marks;
          in_range = All-cons P (Visit a) (Visit b ∷ Enter i ∷ tasks) (omega (arith, inside, below.0)) (All-cons P (Visit b) (Enter i ∷ tasks) (omega (arith, inside, below.1)) (All-cons P (Enter i) tasks inside rest));
          inside = way.inside;
          lines = ap (λ k. run ts k tasks) same ∙ way.lines;
        };
        less = omega (arith, sizes);
      }

pub reverse_push : (xs new : List Task) (x : Task) → new ≡ xs ++ x ∷ [] → reverse new ≡ x ∷ reverse xs
reverse_push xs new x e = ap reverse e ∙ reverse-append xs (x ∷ [])

-- a walk that begins: no line is listed, and the last one is to be walked from
pub walk_begins : (drafts : List Draft) (last : ℕ) (flags : List Bool) (order : List ℕ) (none tasks : List Task) → last < length drafts → flags ≡ map (λ _. false) drafts → order ≡ [] → none ≡ [] → tasks ≡ none ++ Visit last ∷ [] → IsWalkUnderWay drafts last flags order (reverse tasks)
walk_begins drafts last flags order none tasks below e f g h =
    let one : tasks ≡ Visit last ∷ [] = h ∙ ap (λ k. k ++ Visit last ∷ []) g in
    let P : Task → Type 0 = λ t. task_number t < length drafts in
    let begun : IsWalkUnderWay drafts last (map (λ _. false) drafts) [] (Visit last ∷ []) = record { flags = length-map drafts (λ _. false); marks = λ i l. no_mark drafts i; in_range = All-cons P (Visit last) [] below (All-nil P); inside = λ k i h. cc; lines = refl } in
    subst (λ k. IsWalkUnderWay drafts last k order (reverse tasks)) (sym e)
    (subst (λ k. IsWalkUnderWay drafts last (map (λ _. false) drafts) k (reverse tasks)) (sym f)
    (subst (λ k. IsWalkUnderWay drafts last (map (λ _. false) drafts) [] (reverse k)) (sym one) begun))
  where
    no_mark : (ds : List Draft) (i : ℕ) → slice_index_or (map (λ _. false) ds) i false ≡ false
    no_mark [] i = refl
    no_mark (d ∷ ds) zero = refl
    no_mark (d ∷ ds) (suc i) = no_mark ds i
