use Rattle.rebuild_spec.proofs.AlikeLaws.{clause_line, line_listed}
use Rattle.rebuild_spec.proofs.UsedLaws.{lines_few}
use Rattle.rebuild_spec.specs.Used.{AreFew}
use Rattle.rebuild_spec.proofs.LastLaws.{walk_ordered}
use Rattle.std.proofs.Common.{◌≡◌, ℕ, suc, zero, List, [], ◌∷◌, map, Some, slice_get, Contains, refl, sym, subst, arith}
use Rattle.rebuild_spec.specs.Trees.{at_result}
use Rattle.tableau_calculus.proofs.ListLaws.{contains_cases}
use Rattle.rebuild_spec.specs.Lines.{walked, line_of}
use Rattle.rebuild_spec.specs.Trimmed.{IsEachReached, IsFromSearch}
use Rattle.rebuild_spec.proofs.StandsLaws.{IsMade, one_made, lines_made}
use Rattle.rebuild_spec.proofs.ReachedLaws.{all_reached, walked_all}
use Rattle.rebuild_spec.proofs.FromLaws.{IsFromThere, lines_from_search, from_search}
use Rattle.rebuild_spec.proofs.law.rebuilt_is_trimmed.Goals as goal

each_mapped : {A B : Type 0} (f : A → B) (P : B → Type 0) (xs : List A) → ((i : ℕ) (x : A) → slice_get xs i ≡ Some x → P (f x)) → (y : B) → Contains (map f xs) y → P y
each_mapped f P [] all y h = absurd (omega (arith, h.1))
each_mapped f P (x ∷ xs) all y h = contains_cases (P y) y (f x) (map f xs) h (λ same. subst P same (all zero x refl)) (λ later. each_mapped f P xs (λ i z at. all (suc i) z at) y later)

pub returns-clause-reached : goal.returns-clause-reached
returns-clause-reached c = λ scope start input refutation given is.
    subst IsEachReached (sym is.lines)
    (all_reached (IsMade scope start input given) (one_made scope start input given) input.atoms is.last (lines_made scope start input given (at_result is.number) [] is.last is.stands))

pub returns-clause-from_search : goal.returns-clause-from_search
returns-clause-from_search c = λ scope start input refutation given is l there.
    let all = walked_all (IsFromThere scope start input given) is.last [] (λ i u h. cc) (lines_from_search scope start input given (at_result is.number) [] is.last is.stands) in
    let trees = walked [] is.last in
    each_mapped (line_of input.atoms trees) (IsFromSearch start input) trees (λ i t h. from_search scope start input given trees t (all i t h)) l (subst (λ k. Contains k l) is.lines there)

pub returns-clause-few : goal.returns-clause-few
returns-clause-few c = λ scope start input refutation given is.
    let Is = IsMade scope start input given in
    let made = lines_made scope start input given (at_result is.number) [] is.last is.stands in
    subst (AreFew input.log) (sym is.lines) (lines_few input is.number is.last is.is_last is.stands Is (walk_ordered Is (one_made scope start input given) is.last made))

pub returns-clause-used : goal.returns-clause-used
returns-clause-used c = λ scope start input refutation given is n clause i used there.
    record { line = clause_line input.atoms clause i; there = line_listed scope start input refutation given is n clause i used there; branch = refl }
