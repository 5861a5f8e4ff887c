-- What holds of the nodes of a bank, and of their marks.
use Rattle.std.specs.Prelude.{◌≡◌, ℕ, List, [], ◌∷◌, ◌++◌, map, slice_get, Some}
use Rattle.stt_core.specs.Lambda.{Lambda}
use Rattle.stt_core.specs.Typing.{Scope}
use Rattle.term_bank.specs.Shape.{Shape}
use Rattle.term_bank.specs.Terms.{term_at, shape_term, IsBelow}
use Rattle.term_bank.specs.NodeView.{the_shape}
use Rattle.term_bank.specs.Internal.MarksView.{IsMarked}
use Rattle.term_bank.specs.declared.node.Node.{Node}
use Rattle.term_bank.specs.declared.marks.Marks.{Marks}

-- terms with those of further nodes, each of which may stand on those before it
unfoldable pub terms_after : List Lambda → List Shape → List Lambda
terms_after terms [] = terms
terms_after terms (s ∷ shapes) = terms_after (terms ++ shape_term terms s ∷ []) shapes

-- a node with its marks
abbrev pub ShapeEntry : Type 0
ShapeEntry = Node × Marks

-- the terms of the entries, in their order
abbrev pub entry_terms : List ShapeEntry → List Lambda
entry_terms entries = terms_after [] (map (λ e. the_shape e.0) entries)

-- Each node stands on earlier ones, and its marks are right.
pub record AreSound (scope : Scope) (entries : List ShapeEntry) : Type 0 where
  pub below : (k : ℕ) (e : ShapeEntry) → slice_get entries k ≡ Some e → IsBelow k (the_shape e.0)
  pub marked : (k : ℕ) (e : ShapeEntry) → slice_get entries k ≡ Some e → IsMarked scope (term_at (entry_terms entries) k) e.1
