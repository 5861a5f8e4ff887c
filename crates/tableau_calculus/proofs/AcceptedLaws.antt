-- The tableau of an accepted refutation closes each branch that its last line's branch is within.
use Rattle.std.proofs.Common.{◌≡◌, ℕ, zero, suc, List, [], ◌∷◌, ◌++◌, Some, slice_get, unwrap_or, refl, sym, ap, subst}
use Rattle.stt_core.specs.Typing.{Scope}
use Rattle.tableau_calculus.specs.Literals.{Literal}
use Rattle.tableau_calculus.specs.Witnesses.{Row, with_rows}
use Rattle.tableau_calculus.specs.RuleUses.{principals_of}
use Rattle.tableau_calculus.specs.Rules.{Rule, AreAt}
use Rattle.tableau_calculus.specs.Accepted.{Within, AreChildren, IsRightLine, AreRightAfter, IsAccepted}
use Rattle.tableau_calculus.specs.Closed.{Tableau, leaf, ClosesIn, Closes, CloseAll, literals_at, tableaux_of, tableau_of_line, tableau_after, tableau_of}
use Rattle.tableau_calculus.specs.declared.refutation.Child.{Child}
use Rattle.tableau_calculus.specs.declared.refutation.Child.TheVariants.{Closed, Line as Numbered}
use Rattle.tableau_calculus.specs.declared.refutation.Line.{Line}
use Rattle.tableau_calculus.specs.declared.refutation.Refutation.{Refutation}
use Rattle.tableau_calculus.proofs.ListLaws.{contains-get, within-trans, within-appends, closed-within}

-- literals that stand at the places are those that the places pick
pub literals_at-are : (branch : List Literal) (is : List ℕ) (ls : List Literal) → AreAt branch is ls → literals_at branch is ≡ ls
literals_at-are branch [] [] h = refl
literals_at-are branch [] (l ∷ ls) h = absurd h
literals_at-are branch (i ∷ is) [] h = absurd h
literals_at-are branch (i ∷ is) (l ∷ ls) h = rw h.0 (ap (λ k. l ∷ k) (literals_at-are branch is ls h.1))

pub within-at : (branch : List Literal) (is : List ℕ) (ls : List Literal) → AreAt branch is ls → Within ls branch
within-at branch is [] h = tt
within-at branch [] (l ∷ ls) h = absurd h
within-at branch (i ∷ is) (l ∷ ls) h = (contains-get branch i l h.0, within-at branch is ls h.1)

module _ (scope : Scope) (rows : List Row) where
  -- the tableau closes each branch that the line's branch is within
  pub record Covers (line : Line) (tableau : Tableau) : Type 0 where
    pub closes : (branch : List Literal) → Within line.branch branch → ClosesIn scope rows tableau branch

  -- each line has its tableau
  abbrev pub CoverAll : List Line → List Tableau → Type 0
  CoverAll [] [] = Unit {0}
  CoverAll [] (t ∷ ts) = ⊥
  CoverAll (line ∷ lines) [] = ⊥
  CoverAll (line ∷ lines) (t ∷ ts) = Covers line t × CoverAll lines ts

  cover_at : (lines : List Line) (tableaux : List Tableau) (j : ℕ) (line : Line) → CoverAll lines tableaux → slice_get lines j ≡ Some line → Covers line (unwrap_or (slice_get tableaux j) leaf)
  cover_at [] tableaux j line h e = cc
  cover_at (l ∷ lines) [] j line h e = absurd h
  cover_at (l ∷ lines) (t ∷ ts) zero line h e = let same : l ≡ line = cc in subst (λ k. Covers k t) same h.0
  cover_at (l ∷ lines) (t ∷ ts) (suc j) line h e = cover_at lines ts j line h.1 e

  cover-append : (lines : List Line) (tableaux : List Tableau) (line : Line) (tableau : Tableau) → CoverAll lines tableaux → Covers line tableau → CoverAll (lines ++ line ∷ []) (tableaux ++ tableau ∷ [])
  cover-append [] [] line tableau h k = (k, tt)
  cover-append [] (t ∷ ts) line tableau h k = absurd h
  cover-append (l ∷ lines) [] line tableau h k = absurd h
  cover-append (l ∷ lines) (t ∷ ts) line tableau h k = (h.0, cover-append lines ts line tableau h.1 k)

  children_close : (earlier : List Line) (tableaux : List Tableau) → CoverAll earlier tableaux → (ls branch : List Literal) → Within ls branch → (alternatives : List (List Literal)) (children : List Child) → AreChildren earlier ls alternatives children → CloseAll scope rows (tableaux_of tableaux children) alternatives branch
  children_close earlier tableaux cover ls branch w [] [] h = tt
  children_close earlier tableaux cover ls branch w [] (c ∷ cs) h = absurd h
  children_close earlier tableaux cover ls branch w (a ∷ as') [] h = absurd h
  children_close earlier tableaux cover ls branch w (a ∷ as') (Closed ∷ cs) h =
      (closed-within (a ++ ls) (a ++ branch) h.0 (within-appends a ls branch w), children_close earlier tableaux cover ls branch w as' cs h.1)
  children_close earlier tableaux cover ls branch w (a ∷ as') (Numbered j ∷ cs) h =
      let covers = cover_at earlier tableaux j h.0.0 cover h.0.1 in
      (covers.closes (a ++ branch) (within-trans h.0.0.branch (a ++ ls) (a ++ branch) h.0.2 (within-appends a ls branch w)), children_close earlier tableaux cover ls branch w as' cs h.1)

  line_covers : (earlier : List Line) (tableaux : List Tableau) → CoverAll earlier tableaux → (line : Line) → IsRightLine scope rows earlier line → Covers line (tableau_of_line tableaux line)
  line_covers earlier tableaux cover line right = record {
    closes = λ branch w. (
      right.alternatives,
      subst (λ ps. Rule scope rows line.rule ps right.alternatives) (sym (literals_at-are line.branch (principals_of line.rule) right.instance.principals right.instance.at_places)) right.instance.fits,
      subst (λ ps. Within ps branch) (sym (literals_at-are line.branch (principals_of line.rule) right.instance.principals right.instance.at_places)) (within-trans right.instance.principals line.branch branch (within-at line.branch (principals_of line.rule) right.instance.principals right.instance.at_places) w),
      children_close earlier tableaux cover line.branch branch w right.alternatives line.children right.children,
    );
  }

  last_covers : (front : List Line) (last : Line) (lines earlier : List Line) (before : Tableau) (tableaux : List Tableau) → lines ≡ front ++ last ∷ [] → CoverAll earlier tableaux → AreRightAfter scope rows earlier lines → Covers last (tableau_after before tableaux lines)
  last_covers [] last [] earlier before tableaux e cover right = cc
  last_covers (f ∷ front) last [] earlier before tableaux e cover right = cc
  last_covers [] last (line ∷ k ∷ lines) earlier before tableaux e cover right = cc
  last_covers [] last (line ∷ []) earlier before tableaux e cover right =
      let same : line ≡ last = cc in
      subst (λ l. Covers l (tableau_of_line tableaux line)) same (line_covers earlier tableaux cover line right.0)
  last_covers (f ∷ front) last (line ∷ lines) earlier before tableaux e cover right =
      let tableau = tableau_of_line tableaux line in
      let rest : lines ≡ front ++ last ∷ [] = cc in
      last_covers front last lines (earlier ++ line ∷ []) tableau (tableaux ++ tableau ∷ []) rest (cover-append earlier tableaux line tableau cover (line_covers earlier tableaux cover line right.0)) right.1

-- where a refutation is accepted, its tableau closes each branch that the last line's branch is within
pub accepted_closes : (scope : Scope) (start : List Literal) (refutation : Refutation) (accepted : IsAccepted scope start refutation) (branch : List Literal) → Within accepted.last.last.branch branch → Closes scope refutation.witnesses (tableau_of refutation) branch
accepted_closes scope start refutation accepted branch w =
    let rows = refutation.witnesses in
    let covers = last_covers (with_rows scope rows) rows accepted.last.front accepted.last.last refutation.lines [] leaf [] accepted.last.are tt accepted.lines in
    covers.closes branch w
