-- Walks over lines with branches and without.
use Rattle.std.proofs.Common.{◌≡◌, ◌+◌, ◌||◌, not, cond, if◌then◌else◌, ℕ, Bool, true, false, List, [], ◌∷◌, ◌++◌, map, Option, Some, None, slice_get, refl, sym, ap, ap₂, ◌∙◌}
use Rattle.std.specs.List.{list_any}
use Rattle.stt_core.proofs.ListLaws.{map-append}
use Rattle.tableau_calculus.specs.Rules.{PlainRule}
use Rattle.tableau_calculus.specs.declared.refutation.Child.{Child}
use Rattle.sat_base.specs.declared.literal.SatLit.{SatLit}
use Rattle.rebuild_spec.specs.Input.{Sourced, start_unit, clause_by}
use Rattle.rebuild_spec.specs.Trees.{at_clause, at_step, at_result, same_place, Tree, leaf, cut, made_at, same_line}
use Rattle.rebuild_spec.specs.Lines.{with_line, walked, line_number_in}
use Rattle.tableau_rebuild.specs.Internal.Arenas.{clause_line, fleshed}

module _ (sources : List Sourced) where
  flesh : Tree → Tree
  flesh t = fleshed sources t

  clause_place : (n : ℕ) (o : Option Sourced) (ls : List SatLit) (rule : PlainRule) (children : List Child) → made_at (clause_line n o (leaf (at_clause n) ls rule children)) ≡ at_clause n
  clause_place n (Some (clause_by c i)) ls rule children = refl
  clause_place n (Some (start_unit l)) ls rule children = refl
  clause_place n None ls rule children = refl

  -- a line keeps its place
  pub made_at-fleshed : (t : Tree) → made_at (fleshed sources t) ≡ made_at t
  made_at-fleshed (leaf (at_clause n) ls rule children) = clause_place n (slice_get sources n) ls rule children
  made_at-fleshed (leaf (at_step n k) ls rule children) = refl
  made_at-fleshed (leaf (at_result n) ls rule children) = refl
  made_at-fleshed (cut p v t u) = refl

  pub same_line-fleshed : (t u : Tree) → same_line (fleshed sources t) (fleshed sources u) ≡ same_line t u
  same_line-fleshed t u = ap₂ same_place (made_at-fleshed t) (made_at-fleshed u)

  any-fleshed : (t : Tree) (done : List Tree) → list_any (same_line (fleshed sources t)) (map (fleshed sources) done) ≡ list_any (same_line t) done
  any-fleshed t [] = refl
  any-fleshed t (u ∷ done) = ap₂ (λ a b. a || b) (same_line-fleshed t u) (any-fleshed t done)

  with_line-fleshed : (done : List Tree) (t : Tree) → map (fleshed sources) (with_line done t) ≡ with_line (map (fleshed sources) done) (fleshed sources t)
  with_line-fleshed done t = go (list_any (same_line t) done) ∙ ap (λ (b : Bool). if b then map (fleshed sources) done else map (fleshed sources) done ++ fleshed sources t ∷ []) (sym (any-fleshed t done))
    where
      go : (b : Bool) → map (fleshed sources) (if b then done else done ++ t ∷ []) ≡ (if b then map (fleshed sources) done else map (fleshed sources) done ++ fleshed sources t ∷ [])
      go true = refl
      go false = map-append (fleshed sources) done (t ∷ [])

  alone : (done : List Tree) (n : ℕ) (o : Option Sourced) (ls : List SatLit) (rule : PlainRule) (children : List Child) → with_line done (clause_line n o (leaf (at_clause n) ls rule children)) ≡ walked done (clause_line n o (leaf (at_clause n) ls rule children))
  alone done n (Some (clause_by c i)) ls rule children = refl
  alone done n (Some (start_unit l)) ls rule children = refl
  alone done n None ls rule children = refl

  -- a walk lists the same lines with branches and without
  pub walked-fleshed : (t : Tree) (done : List Tree) → map (fleshed sources) (walked done t) ≡ walked (map (fleshed sources) done) (fleshed sources t)
  walked-fleshed (leaf (at_clause n) ls rule children) done =
      with_line-fleshed done (leaf (at_clause n) ls rule children) ∙ alone (map (fleshed sources) done) n (slice_get sources n) ls rule children
  walked-fleshed (leaf (at_step n k) ls rule children) done = with_line-fleshed done (leaf (at_step n k) ls rule children)
  walked-fleshed (leaf (at_result n) ls rule children) done = with_line-fleshed done (leaf (at_result n) ls rule children)
  walked-fleshed (cut p v t u) done =
      with_line-fleshed (walked (walked done t) u) (cut p v t u)
      ∙ ap (λ k. with_line k (cut p v (fleshed sources t) (fleshed sources u))) (walked-fleshed u (walked done t) ∙ ap (λ k. walked k (fleshed sources u)) (walked-fleshed t done))

  pub number_in-fleshed : (lines : List Tree) (t : Tree) → line_number_in (map (fleshed sources) lines) (fleshed sources t) ≡ line_number_in lines t
  number_in-fleshed [] t = refl
  number_in-fleshed (u ∷ lines) t = ap₂ (λ b n. cond (not b) (1 + n) 0) (same_line-fleshed t u) (number_in-fleshed lines t)
