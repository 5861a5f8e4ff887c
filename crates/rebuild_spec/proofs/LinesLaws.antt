-- The lines that are rebuilt are right with the whole witness table, and the last one's branch is within the start.
use Rattle.std.proofs.Common.{List, [], ◌∷◌, map, Contains, sym, ap, ◌∙◌, subst, inl, inr}
use Rattle.std.proofs.lemmas.Bool.{false≢true}
use Rattle.stt_core.specs.Typing.{Scope}
use Rattle.stt_core.proofs.ListLaws.{map-append}
use Rattle.tableau_calculus.specs.Literals.{Literal}
use Rattle.tableau_calculus.specs.Witnesses.{with_rows}
use Rattle.tableau_calculus.specs.Accepted.{Within, AreRightLines, EndsWithin}
use Rattle.tableau_calculus.proofs.ListLaws.{within-each}
use Rattle.rebuild_spec.specs.Input.{Input, literals_of}
use Rattle.rebuild_spec.specs.Given.{IsGiven}
use Rattle.rebuild_spec.specs.Trees.{Place, Tree, branch}
use Rattle.rebuild_spec.specs.Stands.{line, Stands}
use Rattle.rebuild_spec.specs.Lines.{walked, line_of, lines_from}
use Rattle.rebuild_spec.proofs.LiteralLaws.{each_literal}
use Rattle.rebuild_spec.proofs.SoundLaws.{stands_right}
use Rattle.rebuild_spec.proofs.FlatLaws.{branch_of-line, all_right}
use Rattle.rebuild_spec.proofs.StandsLaws.{IsMade, one_made, lines_made}
use Rattle.rebuild_spec.proofs.LastLaws.{walk_ordered, walk_ends}

module _ (scope : Scope) (begin : List Literal) (input : Input) (given : IsGiven scope begin input) (p : Place) (t : Tree) (stands : Stands input p [] (line t)) where
  pub rebuilt_right : AreRightLines scope input.rows (lines_from input.atoms t)
  rebuilt_right =
      let is = lines_made scope begin input given p [] t stands in
      all_right (with_rows scope input.rows) input.rows input.atoms given.atoms (IsMade scope begin input given) (λ u h. h.alone) (walked [] t) (walk_ordered (IsMade scope begin input given) (one_made scope begin input given) t is)

  last_within : Within (literals_of input.atoms (branch t)) begin
  last_within =
      let right = stands_right scope begin input given p [] (line t) stands in
      within-each (literals_of input.atoms (branch t)) begin
      (each_literal input.atoms (Contains begin) (branch t) (λ m h. elim (right.0 m h) [ inl s ↦ s | inr k ↦ absurd (false≢true k) ]))

  pub rebuilt_ends : EndsWithin begin (lines_from input.atoms t)
  rebuilt_ends =
      let is = lines_made scope begin input given p [] t stands in
      let ends = walk_ends (IsMade scope begin input given) (one_made scope begin input given) t is in
      let lines = walked [] t in
      record {
        front = map (line_of input.atoms lines) ends.front;
        last = line_of input.atoms lines t;
        are = ap (map (line_of input.atoms lines)) ends.are ∙ map-append (line_of input.atoms lines) ends.front (t ∷ []);
        within = subst (λ k. Within k begin) (sym (branch_of-line (with_rows scope input.rows) input.rows input.atoms given.atoms lines t)) last_within;
      }
