-- One tree belongs to a refutation.
use Rattle.std.proofs.Common.{◌≡◌, ℕ, List, [], ◌∷◌, map, take, filter, Option, Some, None, Contains, refl, sym, ap, subst, ◌∙◌}
use Rattle.std.proofs.lemmas.Option.{same_Some}
use Rattle.stt_core.specs.Lambda.{Lambda}
use Rattle.stt_core.specs.Typing.{Scope}
use Rattle.stt_core.specs.Declarations.{scope_of}
use Rattle.stt_core.specs.PlainProblem.{PlainProblem}
use Rattle.tableau_calculus.specs.Each.{Each}
use Rattle.tableau_calculus.specs.Kinds.{formulas}
use Rattle.tableau_calculus.specs.Literals.{Literal}
use Rattle.tableau_calculus.proofs.ListLaws.{contains-first, contains-later}
use Rattle.tableau_calculus.specs.Start.{start}
use Rattle.tableau_calculus.specs.Witnesses.{Row}
use Rattle.tableau_calculus.specs.declared.refutation.Line.{Line}
use Rattle.tableau_calculus.specs.declared.refutation.Refutation.{Refutation}
use Rattle.sat_base.specs.declared.literal.SatLit.{SatLit}
use Rattle.search_spec.specs.Numbered.{numbers, IsNumber, AreApart}
use Rattle.search_spec.specs.Shallow.{is_shallow_literal}
use Rattle.search_spec.specs.State.{State}
use Rattle.search_spec.specs.Unsatisfiable.{Clause}
use Rattle.rebuild_spec.specs.Alike.{formula_clauses, StandOnce}
use Rattle.rebuild_spec.specs.Input.{Instance, Input, literals_of}
use Rattle.rebuild_spec.specs.NeededRows.{rows_for_lines}
use Rattle.rebuild_spec.proofs.AlikeLaws.{fixes_instances}
use Rattle.plain_tableau.specs.Carried.{instance_in, tree_in, result_in, IsNumberedInstance}
use Rattle.plain_tableau.specs.Expansion.{Expanded, found, open_at, over, Expansion}
use Rattle.plain_tableau.specs.Lines.{lines_for_tree}
use Rattle.plain_tableau.specs.Tables.{expanded, IsStripped}
use Rattle.plain_tableau.specs.Trees.{TreeInstance, PlainTree, nodes_in}
use Rattle.plain_tableau.specs.declared.stripped.Stripped.{Stripped}
use Rattle.plain_tableau.specs.declared.stripped.Stripped.TheVariants.{Tree as Whole, Open, Over}
use Rattle.plain_tableau.proofs.CarriedLaws.{numbers_expand}
use Rattle.plain_tableau.proofs.OneLaws.{one_expansion}
use Rattle.prover_run.specs.Ended.{setting_for}
use Rattle.prover_run.specs.Laws.{OneTreeOfRefutation}
use Rattle.prover_run.specs.Learning.{HasLearned}
use Rattle.prover_run.specs.Origin.{AreRefutedShortly}
use Rattle.prover_run.specs.Tree.{UsesInstance, IsTreeFor, IsTreeAsked}
use Rattle.prover_run.proofs.AlikeUses.{AreWellNumbered, UseAlike, one_used_in}
use Rattle.prover_run.proofs.OnceLaws.{state_stands_once}
use Rattle.prover_run.proofs.TreeLines.{lines_in, size_in, lines_same, found_numbered}
use Rattle.prover_run.proofs.TreeUses.{map_twice}

-- WHAT COMES OF EXPANSIONS

abbrev result_found : PlainTree Literal → Expanded Literal (PlainTree Literal)
result_found t = found t

found_one : (t u : PlainTree Literal) → result_found t ≡ result_found u → t ≡ u
found_one t u e = cc

module _ (atoms others : List Lambda) (rows : List Row) (apart : AreApart atoms) (separate : AreApart others) (used uses : List (TreeInstance SatLit)) (limit : ℕ) (branch begin : List SatLit)
    (gu : Each (IsNumberedInstance atoms) used) (hu : Each (IsNumberedInstance others) uses) (gb : Each (IsNumber atoms) branch) (hb : Each (IsNumber others) begin)
    (alike : map (instance_in atoms) used ≡ map (instance_in others) uses) (starts : literals_of atoms branch ≡ literals_of others begin) where
  one_result : (r q : Expanded SatLit (PlainTree SatLit)) → Expansion numbers used limit branch r → Expansion numbers uses limit begin q → result_in atoms r ≡ result_in others q
  one_result r q e f =
      let E : List (TreeInstance Literal) → List Literal → Type 0 = λ is ls. Expansion formulas is limit ls (result_in others q) in
      let here = numbers_expand atoms apart used limit branch r gu gb e in
      let there = numbers_expand others separate uses limit begin q hu hb f in
      let moved = subst (λ is. E is (literals_of atoms branch)) (sym alike) (subst (E (map (instance_in others) uses)) (sym starts) there) in
      one_expansion formulas (map (instance_in atoms) used) limit (literals_of atoms branch) (result_in atoms r) (result_in others q) here moved

  one_lines : (t u : PlainTree SatLit) → Expansion numbers used limit branch (found t) → Expansion numbers uses limit begin (found u) → tree_in atoms t ≡ tree_in others u → lines_for_tree atoms 0 t ≡ lines_for_tree others 0 u
  one_lines t u e f same =
      sym (lines_same atoms apart 0 t (found_numbered atoms apart used gu limit branch t gb e))
      ∙ ap (lines_in 0) same
      ∙ lines_same others separate 0 u (found_numbered others separate uses hu limit begin u hb f)

  one_answer : (s r : Stripped) → IsStripped atoms rows used limit branch s → IsStripped others rows uses limit begin r → s ≡ r
  one_answer (Whole refutation n) (Whole other m) h k =
      let same = found_one (tree_in atoms h.0) (tree_in others k.0) (one_result (found h.0) (found k.0) h.1 k.1) in
      let lines : refutation.lines ≡ other.lines = h.3.lines ∙ one_lines h.0 k.0 h.1 k.1 same ∙ sym k.3.lines in
      let witnesses : refutation.witnesses ≡ other.witnesses = h.3.needed ∙ ap (λ (ls : List Line). take (rows_for_lines rows ls) rows) lines ∙ sym k.3.needed in
      let count : n ≡ m = h.2 ∙ sym (size_in atoms apart h.0) ∙ ap (λ (t : PlainTree Literal). nodes_in t) same ∙ size_in others separate k.0 ∙ sym k.2 in
      λ i. Whole (record { witnesses = witnesses i; lines = lines i }) (count i)
  one_answer (Whole refutation n) (Open other) h k = let e = one_result (found h.0) (open_at k.0) h.1 k.1 in cc
  one_answer (Whole refutation n) (Over m) h k = let e = one_result (found h.0) over h.1 k.0 in cc
  one_answer (Open one) (Whole refutation m) h k = let e = one_result (open_at h.0) (found k.0) h.1 k.1 in cc
  one_answer (Open one) (Open other) h k =
      let e = one_result (open_at h.0) (open_at k.0) h.1 k.1 in
      let same : literals_of atoms h.0 ≡ literals_of others k.0 = cc in
      ap (λ (b : List Literal). Open b) (h.2 ∙ same ∙ sym k.2)
  one_answer (Open one) (Over m) h k = let e = one_result (open_at h.0) over h.1 k.0 in cc
  one_answer (Over n) (Whole refutation m) h k = let e = one_result over (found k.0) h.0 k.1 in cc
  one_answer (Over n) (Open other) h k = let e = one_result over (open_at k.0) h.0 k.1 in cc
  one_answer (Over n) (Over m) h k = ap (λ (x : ℕ). Over x) (h.1 ∙ sym k.1)

-- THE TREES OF TWO INPUTS

numbered_all : (input : Input) → AreWellNumbered input → (instances : List Instance) → ((i : Instance) → Contains instances i → UsesInstance input i) → Each (IsNumberedInstance input.atoms) (map expanded instances)
numbered_all input well [] uses = tt
numbered_all input well (i ∷ instances) uses =
    let u = uses i (contains-first i instances) in
    let here = well u.number u.clause i u.there in
    (here.numbered, numbered_all input well instances (λ j h. uses j (contains-later j i instances h)))

used_alike : (scope : Scope) (ls : List Literal) (rows : List Row) (clauses : List Clause) (learning others : HasLearned clauses) (refutation : Refutation) → StandOnce clauses
    → (one : AreRefutedShortly scope ls rows clauses learning refutation) (other : AreRefutedShortly scope ls rows clauses others refutation) → UseAlike one.input other.input
used_alike scope ls rows clauses learning others refutation once one other n clause i there used =
    let here : formula_clauses one.input ≡ clauses = ap (map (literals_of one.input.atoms)) one.numbered ∙ ap (λ atoms. map (literals_of atoms) learning.numbered) one.atoms ∙ learning.stand in
    let also : formula_clauses other.input ≡ clauses = ap (map (literals_of other.input.atoms)) other.numbered ∙ ap (λ atoms. map (literals_of atoms) others.numbered) other.atoms ∙ others.stand in
    let well = one.instances n clause i there in
    fixes_instances scope ls one.input other.input refutation one.given other.given (one.rows ∙ sym other.rows) (here ∙ sym also) (subst StandOnce (sym here) once)
    (subst AreApart (sym one.atoms) learning.apart) one.rebuilt other.rebuilt n clause i there well.numbered.principals used

one_for : (scope : Scope) (ls begin : List Literal) (rows : List Row) (clauses : List Clause) (learning others : HasLearned clauses) (refutation : Refutation) → StandOnce clauses
    → (one : AreRefutedShortly scope ls rows clauses learning refutation) (other : AreRefutedShortly scope ls rows clauses others refutation) (limit : ℕ) (s r : Stripped)
    → IsTreeFor scope ls begin one.input limit s → IsTreeFor scope ls begin other.input limit r → s ≡ r
one_for scope ls begin rows clauses learning others refutation once one other limit s r t u =
    let I = one.input in
    let J = other.input in
    let apart = subst AreApart (sym one.atoms) learning.apart in
    let separate = subst AreApart (sym other.atoms) others.apart in
    let listed = one_used_in I J one.instances other.instances apart separate (used_alike scope ls rows clauses learning others refutation once one other)
    (used_alike scope ls rows clauses others learning refutation once other one) t.instances u.instances t.used u.used in
    let alike : map (instance_in I.atoms) (map expanded t.instances) ≡ map (instance_in J.atoms) (map expanded u.instances) =
    map_twice (instance_in I.atoms) expanded t.instances ∙ listed ∙ sym (map_twice (instance_in J.atoms) expanded u.instances) in
    let comes = subst (λ rs. IsStripped I.atoms rs (map expanded t.instances) limit t.branch s) one.rows t.comes in
    let also = subst (λ rs. IsStripped J.atoms rs (map expanded u.instances) limit u.branch r) other.rows u.comes in
    one_answer I.atoms J.atoms rows apart separate (map expanded t.instances) (map expanded u.instances) limit t.branch u.branch (numbered_all I one.instances t.instances t.used.each)
    (numbered_all J other.instances u.instances u.used.each) t.numbered u.numbered alike (t.begins ∙ sym u.begins) s r comes also

one_asked : (scope : Scope) (ls begin : List Literal) (rows : List Row) (clauses : List Clause) (learning others : HasLearned clauses) (refutation : Refutation) → StandOnce clauses
    → (one : AreRefutedShortly scope ls rows clauses learning refutation) (other : AreRefutedShortly scope ls rows clauses others refutation) (nodes : Option ℕ) (s r : Option Stripped)
    → IsTreeAsked scope ls begin one.input nodes s → IsTreeAsked scope ls begin other.input nodes r → s ≡ r
one_asked scope ls begin rows clauses learning others refutation once one other None None None t u = refl
one_asked scope ls begin rows clauses learning others refutation once one other None None (Some r) t u = absurd u
one_asked scope ls begin rows clauses learning others refutation once one other None (Some s) r t u = absurd t
one_asked scope ls begin rows clauses learning others refutation once one other (Some n) None r t u = absurd t
one_asked scope ls begin rows clauses learning others refutation once one other (Some n) (Some s) None t u = absurd u
one_asked scope ls begin rows clauses learning others refutation once one other (Some n) (Some s) (Some r) t u = ap (λ x. Some x) (one_for scope ls begin rows clauses learning others refutation once one other n s r t u)

-- the state of another run that is refuted after as many commands is the same
record IsAlsoRefuted (p : PlainProblem) (state : State) (nodes : Option ℕ) (refutation : Refutation) (tree : Option Stripped) : Type 0 where
  learning : HasLearned state.clauses
  shortly : AreRefutedShortly (scope_of p.declared) (start p) state.rows state.clauses learning refutation
  asked : IsTreeAsked (scope_of p.declared) (start p) (filter is_shallow_literal (start p)) shortly.input nodes tree

pub one_tree : OneTreeOfRefutation
one_tree p m nodes n refutation tree other (one, asked) (two, also) =
    let same : two.proved.state ≡ one.proved.state = same_Some two.proved.state one.proved.state (sym two.proved.comes_to ∙ one.proved.comes_to) in
    let A : State → Type 0 = λ s. IsAlsoRefuted p s nodes refutation other in
    let there : A two.proved.state = record { learning = two.within.learning; shortly = two.shortly; asked = also } in
    let here = subst A same there in
    let once = state_stands_once (setting_for p m) p n one.proved.state one.proved.comes_to in
    one_asked (scope_of p.declared) (start p) (filter is_shallow_literal (start p)) one.proved.state.rows one.proved.state.clauses one.within.learning here.learning refutation once one.shortly here.shortly nodes tree other asked here.asked
