-- What a partial term grows to.
use Rattle.std.specs.Prelude.{◌≡◌, ℕ, nat_eq, Bool, false, [], Option, Some, None}
use Rattle.stt_core.specs.SimpleType.{SimpleType, target}
use Rattle.stt_core.specs.Lambda.{Lambda}
use Rattle.stt_core.specs.Typing.{Scope, type_of}
use Rattle.search_spec.specs.Partial.{Partial, Hole, first_hole, whole_term}
use Rattle.search_spec.specs.Commands.{filling_at}
use Rattle.search_spec.specs.TypedState.{IsTypedSketch}
use Rattle.term_bank.specs.Content.{Content, HasTerm}
use Rattle.instantiate.specs.declared.growing.Grown.{Grown}
use Rattle.instantiate.specs.declared.growing.Grown.TheVariants.{Term, More}

-- the partial term has a type, over what is declared
pub record IsTypedPartialTerm (scope : Scope) (p : Partial) : Type 0 where
  pub type : SimpleType
  pub sketch : IsTypedSketch scope (record { type = type; partial = p })

-- the partial term has a hole, and the head has a type at the first one
pub record TakesHead (scope : Scope) (p : Partial) (h : Lambda) : Type 0 where
  pub hole : Hole
  pub is_first : first_hole [] p ≡ Some hole
  pub type : SimpleType
  pub has_type : type_of scope hole.context h ≡ Some type

abbrev pub gives : ℕ → Option SimpleType → Bool
gives n None = false
gives n (Some a) = nat_eq (target a) n

-- whether the head's target type is that of the hole
abbrev pub fits : Scope → Lambda → Option Hole → Bool
fits scope h None = false
fits scope h (Some at) = gives at.base (type_of scope at.context h)

-- the partial term with the head in its first hole, and with holes for the head's arguments, has no hole left, and it is the term at this
-- place of the bank
pub record IsTerm (scope : Scope) (h : Lambda) (p : Partial) (b : Content) (id : ℕ) : Type 0 where
  pub filled : Partial
  pub is_filled : filling_at scope h p (first_hole [] p) ≡ Some filled
  pub term : Lambda
  pub is_whole : whole_term filled ≡ Some term
  pub stands : HasTerm b id term

-- this is the partial term with the head in its first hole, and it still has holes
pub record IsPartOf (scope : Scope) (h : Lambda) (p q : Partial) : Type 0 where
  pub is_filled : filling_at scope h p (first_hole [] p) ≡ Some q
  pub has_hole : whole_term q ≡ None

abbrev pub IsGrown : Scope → Lambda → Partial → Content → Grown → Type 0
IsGrown scope h p b (Term id) = IsTerm scope h p b id
IsGrown scope h p b (More q) = IsPartOf scope h p q
