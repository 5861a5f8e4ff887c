-- The branch of a clause's line in the words of the rules.
use Rattle.std.proofs.Common.{◌≡◌, Bool, true, false, List, [], ◌∷◌, ◌++◌, map, refl, sym, ap, ap₂, ◌∙◌, subst}
use Rattle.stt_core.proofs.ListLaws.{map-append}
use Rattle.sat_base.specs.declared.literal.SatLit.{SatLit}
use Rattle.sat_base.specs.Literal.{negated, same_literal}
use Rattle.sat_base.proofs.LiteralLaws.{same_literal-refl, same_literal-true, negated-negated}
use Rattle.sat_log.specs.Resolution.{without_literal, each_once}
use Rattle.search_spec.specs.Clauses.{clause_of}
use Rattle.tableau_calculus.specs.Kinds.{added}
use Rattle.search_spec.specs.Numbered.{numbers}
use Rattle.rebuild_spec.proofs.PickedLaws.{added-without_repeats, clause_of-without_repeats}
use Rattle.rebuild_spec.proofs.BackedLaws.{other_negated}

same_negated : (l m : SatLit) → same_literal (negated l) (negated m) ≡ same_literal l m
same_negated l m = go (same_literal l m) refl
  where
    go : (b : Bool) → same_literal l m ≡ b → same_literal (negated l) (negated m) ≡ same_literal l m
    go true e = subst (λ k. same_literal (negated l) (negated k) ≡ true) (same_literal-true l m e) (same_literal-refl (negated l)) ∙ sym e
    go false e = other_negated l m e ∙ sym e

negated-without : (l : SatLit) (ls : List SatLit) → map negated (without_literal l ls) ≡ without_literal (negated l) (map negated ls)
negated-without l [] = refl
negated-without l (m ∷ ls) = go (same_literal l m) refl (negated-without l ls)
  where
    go : (b : Bool) → same_literal l m ≡ b → map negated (without_literal l ls) ≡ without_literal (negated l) (map negated ls) → map negated (without_literal l (m ∷ ls)) ≡ without_literal (negated l) (map negated (m ∷ ls))
    go true e rest = let f : same_literal (negated l) (negated m) ≡ true = same_negated l m ∙ e in simp (e, f) rest
    go false e rest = let f : same_literal (negated l) (negated m) ≡ false = same_negated l m ∙ e in simp (e, f) (ap (λ k. negated m ∷ k) rest)

pub negated-without_repeats : (ls : List SatLit) → map negated (each_once ls) ≡ each_once (map negated ls)
negated-without_repeats [] = refl
negated-without_repeats (l ∷ ls) = ap (λ k. negated l ∷ k) (negated-without l (each_once ls) ∙ ap (without_literal (negated l)) (negated-without_repeats ls))

back : (ls : List SatLit) → map negated (map negated ls) ≡ ls
back [] = refl
back (l ∷ ls) = ap₂ (λ k ks. k ∷ ks) (negated-negated l) (back ls)

-- the negations of a clause's literals are the principals and then the negations of what was picked, without repeats
pub branch_as_picked : (principals picked : List SatLit) → map negated (clause_of numbers principals picked) ≡ added numbers [] (principals ++ map negated picked)
branch_as_picked principals picked =
    ap (map negated) (clause_of-without_repeats principals picked)
    ∙ negated-without_repeats (map negated principals ++ picked)
    ∙ ap each_once (map-append negated (map negated principals) picked ∙ ap (λ k. k ++ map negated picked) (back principals))
    ∙ sym (added-without_repeats (principals ++ map negated picked) [] refl)
