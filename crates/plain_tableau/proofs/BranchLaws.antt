-- What branches hold that further literals are added to.
use Rattle.std.specs.Prelude.{if◌then◌else◌}
use Rattle.std.proofs.Common.{◌≡◌, ◌||◌, ◌&&◌, Bool, true, false, List, [], ◌∷◌, ◌++◌, Contains, refl, sym, ap, ◌∙◌, subst, inl, inr}
use Rattle.std.proofs.lemmas.Bool.{false≢true, or_cases, and_parts}
use Rattle.stt_core.specs.Lambda.{Lambda}
use Rattle.tableau_calculus.specs.Accepted.{Within, IsClosedBranch}
use Rattle.tableau_calculus.proofs.ListLaws.{within-each}
use Rattle.std.proofs.lemmas.List.Elements.{Contains-append_left, Contains-append_right}
use Rattle.sat_base.specs.declared.literal.SatLit.{SatLit}
use Rattle.sat_base.specs.Literal.{negated, same_literal, holds}
use Rattle.sat_base.proofs.LiteralLaws.{same_literal-true, holds-append}
use Rattle.tableau_calculus.specs.Kinds.{has, added}
use Rattle.search_spec.specs.Numbered.{numbers, literal_at}
use Rattle.rebuild_spec.specs.Input.{literals_of}
use Rattle.rebuild_spec.proofs.LiteralLaws.{contains_literal, each_literal, held_in}
use Rattle.plain_tableau.specs.Expansion.{is_closed_branch, has_all}
use Rattle.plain_tableau.proofs.ListLaws.{one_passes}

regrouped : (a b c : Bool) → ((a || (b || false)) || c) ≡ (a || (b || c))
regrouped true b c = refl
regrouped false true c = refl
regrouped false false c = refl

there_already : (a b c : Bool) → (b ≡ true → a ≡ true) → (a || c) ≡ (a || (b || c))
there_already true b c h = refl
there_already false true c h = absurd (false≢true (h refl))
there_already false false c h = refl

-- what a branch holds with further literals
pub added_holds : (b ls : List SatLit) (m : SatLit) → holds (added numbers b ls) m ≡ (holds b m || holds ls m)
added_holds b [] m = nothing (holds b m)
  where
    nothing : (x : Bool) → x ≡ (x || false)
    nothing true = refl
    nothing false = refl
added_holds b (k ∷ ls) m = go (holds b k) refl (λ c. added_holds c ls m)
  where
    go : (t : Bool) → holds b k ≡ t → ((c : List SatLit) → holds (added numbers c ls) m ≡ (holds c m || holds ls m)) → holds (added numbers b (k ∷ ls)) m ≡ (holds b m || (same_literal m k || holds ls m))
    go true e rest =
        subst (λ t. holds (added numbers (if t then b else b ++ k ∷ []) ls) m ≡ (holds b m || (same_literal m k || holds ls m))) (sym e)
        (rest b ∙ there_already (holds b m) (same_literal m k) (holds ls m) (λ same. subst (λ x. holds b x ≡ true) (sym (same_literal-true m k same)) e))
    go false e rest =
        subst (λ t. holds (added numbers (if t then b else b ++ k ∷ []) ls) m ≡ (holds b m || (same_literal m k || holds ls m))) (sym e)
        (rest (b ++ k ∷ []) ∙ ap (λ x. x || holds ls m) (holds-append b (k ∷ []) m) ∙ regrouped (holds b m) (same_literal m k) (holds ls m))

module _ (atoms : List Lambda) where
  -- a literal that the branch holds with an alternative stands for one of these
  pub added_contained : (b a : List SatLit) (m : SatLit) → holds (added numbers b a) m ≡ true → Contains (literals_of atoms a ++ literals_of atoms b) (literal_at atoms m)
  added_contained b a m h =
      elim (or_cases (holds b m) (holds a m) (sym (added_holds b a m) ∙ h)) [
        | inl old ↦ Contains-append_right (literals_of atoms a) (literals_of atoms b) (literal_at atoms m) (contains_literal atoms b m old)
        | inr new ↦ Contains-append_left (literals_of atoms a) (literals_of atoms b) (literal_at atoms m) (contains_literal atoms a m new)
      ]

  pub added_within : (b a : List SatLit) → Within (literals_of atoms (added numbers b a)) (literals_of atoms a ++ literals_of atoms b)
  added_within b a = within-each _ _ (each_literal atoms (Contains (literals_of atoms a ++ literals_of atoms b)) (added numbers b a) (added_contained b a))

  -- where the branch is closed with an alternative, the literals that these stand for are
  pub added_closes : (b a : List SatLit) → is_closed_branch numbers (added numbers b a) ≡ true → IsClosedBranch (literals_of atoms a ++ literals_of atoms b)
  added_closes b a h =
      let c = added numbers b a in
      let found = one_passes (λ l. has numbers c (negated l)) c h in
      record {
        literal = literal_at atoms found.0;
        holds = added_contained b a found.0 (held_in c found.0 found.1);
        holds_opposite = added_contained b a (negated found.0) found.2;
      }

-- each literal of a list that the branch holds
pub each_held : (b ls : List SatLit) → has_all numbers b ls ≡ true → (m : SatLit) → holds ls m ≡ true → holds b m ≡ true
each_held b [] h m held = absurd (false≢true held)
each_held b (l ∷ ls) h m held =
    let parts = and_parts (holds b l) (has_all numbers b ls) h in
    elim (or_cases (same_literal m l) (holds ls m) held) [
      | inl same ↦ subst (λ x. holds b x ≡ true) (sym (same_literal-true m l same)) parts.0
      | inr later ↦ each_held b ls parts.1 m later
    ]
