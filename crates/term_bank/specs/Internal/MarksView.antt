-- What is kept beside a node, as plain values.
use Rattle.std.specs.Prelude.{◌≡◌, List}
use Rattle.stt_core.specs.SimpleType.{SimpleType}
use Rattle.stt_core.specs.Lambda.{Lambda}
use Rattle.stt_core.specs.Typing.{Scope}
use Rattle.stt_core.specs.Canonical.{IsCanonical}
use Rattle.stt_core.specs.Internal.Missing.{missing_binders}
use Rattle.stt_core.specs.Depth.{depth}
use Rattle.term_bank.specs.Internal.Marks.{greatest_witness}
use Rattle.term_bank.specs.Terms.{IsTypedTerm}
use Rattle.term_bank.specs.declared.marks.Marks.{Marks}

-- a term that is canonical in this context
pub record HasTypeIn (scope : Scope) (ctx : List SimpleType) (t : Lambda) : Type 0 where
  pub type : SimpleType
  pub canonical : IsCanonical scope ctx type t

-- the marks are those of the term
pub record AreMarksOf (t : Lambda) (m : Marks) : Type 0 where
  pub depth_is : m.depth ≡ depth t
  pub missing_is : m.missing ≡ missing_binders t
  pub greatest_is : m.greatest ≡ greatest_witness t

-- The marks are those of the term, which is canonical in some context.
pub record IsMarked (scope : Scope) (t : Lambda) (m : Marks) : Type 0 where
  pub marks : AreMarksOf t m
  pub typed : IsTypedTerm scope t
