use Rattle.std.proofs.Common.{◌≡◌, ◌++◌, ℕ, [], ◌∷◌, List, Option, Some, None, slice_get, slice_index_or, slice_set, refl, sym, ap, subst, ◌∙◌}
use Rattle.rebuild_spec.proofs.WalkLaws.{get-middle}
use Rattle.tableau_rebuild.specs.declared.draft.Draft.TheVariants.{Clause as ClauseDraft}
use Rattle.tableau_rebuild.specs.Internal.Arenas.{IsDrawn, IsEarlierDraft}
use Rattle.tableau_rebuild.proofs.ArenaLaws.{drawn_clause, before_clause}
use Rattle.tableau_rebuild.proofs.arena.Arena.line_of.Goals as goal

unknown : (xs : List (Option ℕ)) (n : ℕ) (r : Option ℕ) → r ≡ slice_index_or xs n r → ((i : ℕ) → r ≡ Some i → ⊥) → slice_index_or xs n None ≡ None
unknown xs n (Some i) e none = absurd (none i refl)
unknown xs n None e none = sym e

pub returns-clause-drawn : goal.returns-clause-drawn
returns-clause-drawn c =
    let old = c.args.self.now.drafts.items in
    let n = c.args.n in
    let of_clause = c.args.self.now.of_clause.items in
    let made = c.in_ok-number.ensures in
    subst (λ ds. IsDrawn ds (slice_set c.push.new.self.of_clause.items n (Some c.in_ok-number.number))) (sym made.drafts)
    (subst (λ xs. IsDrawn (old ++ ClauseDraft n ∷ []) (slice_set xs n (Some c.in_ok-number.number))) (sym made.of_clause)
    (subst (λ m. IsDrawn (old ++ ClauseDraft n ∷ []) (slice_set of_clause n (Some m))) (sym made.last)
    (drawn_clause old of_clause c.requires.drawn n c.requires.within (unknown of_clause n c.index.result.now c.index.ensures c.in_default.not-Some))))

pub returns-clause-before : goal.returns-clause-before
returns-clause-before c = λ m k before. subst (λ ds. IsEarlierDraft ds m k) (sym c.in_ok-number.ensures.drafts) (before_clause c.args.self.now.drafts.items c.args.n m k before)

pub returns-clause-line : goal.returns-clause-line
returns-clause-line c =
    let old = c.args.self.now.drafts.items in
    let made = c.in_ok-number.ensures in
    (c.in_ok-number.number, refl, ap (λ ds. slice_get ds c.in_ok-number.number) made.drafts ∙ ap (slice_get (old ++ ClauseDraft c.args.n ∷ [])) made.last ∙ get-middle old [] (ClauseDraft c.args.n))
