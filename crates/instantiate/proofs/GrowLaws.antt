-- What a partial term grows to is typed.
use Rattle.std.specs.Prelude.{◌≡◌, ℕ, nat_eq, Bool, true, false, List, [], Option, Some, None, unwrap_or, refl, if◌then◌else◌}
use Rattle.std.proofs.Common.{ap, sym, ◌∙◌, subst}
use Rattle.std.proofs.lemmas.Option.{same_Some}
use Rattle.std.proofs.lemmas.Bool.{eqb-true}
use Rattle.stt_core.specs.SimpleType.{SimpleType, base, formula, is_declared, target}
use Rattle.stt_core.specs.Lambda.{Lambda, bound, constant, lam, app, IsLeaf}
use Rattle.stt_core.specs.Typing.{Scope, IsScope, AreDeclared, type_of}
use Rattle.stt_core.specs.Canonical.{IsNeutral}
use Rattle.stt_core.specs.View.{the_head}
use Rattle.stt_core.specs.declared.nf.Head.{Head}
use Rattle.stt_core.specs.declared.nf.Head.TheVariants.{Bound, Name, Wit, False, Not, Imp, All, Eq, Choice, Desc}
use Rattle.stt_core.proofs.TypeLaws.{get_declared, constant_declared}
use Rattle.term_bank.specs.Content.{Content, HasTerm}
use Rattle.term_bank.specs.Terms.{IsTypedTerm}
use Rattle.search_spec.specs.Partial.{Partial, head, Hole, first_hole, with_filling, with_holes}
use Rattle.search_spec.specs.TypedPartial.{IsPartial}
use Rattle.search_spec.specs.Commands.{filling_at}
use Rattle.search_spec.specs.TypedState.{IsTypedSketch}
use Rattle.search_spec.proofs.PartialLaws.{Fills, with_holes_typed, fills, whole_canonical}
use Rattle.search_spec.proofs.TypedHeads.{DeclaredAt, declared_at}
use Rattle.instantiate.specs.Growing.{IsTypedPartialTerm, TakesHead, IsTerm, IsPartOf}
use Rattle.instantiate.specs.Internal.Holes.{base_in}
use Rattle.instantiate.specs.Internal.Blanks.{term_of}
use Rattle.instantiate.specs.Internal.Fitting.{to_base, fitting, HasGrown}
use Rattle.instantiate.proofs.WholeLaws.{whole-none, whole-hole}

pub head_leaf : (h : Head) → IsLeaf (the_head h)
head_leaf (Bound k) = tt
head_leaf (Name k) = tt
head_leaf (Wit k) = tt
head_leaf False = tt
head_leaf Not = tt
head_leaf Imp = tt
head_leaf (All a) = tt
head_leaf (Eq a) = tt
head_leaf (Choice a) = tt
head_leaf (Desc a) = tt

-- the type of a head whose target is the hole's
record Fits (a b : SimpleType) (n : ℕ) : Type 0 where
  pub same : b ≡ a
  pub gives : target a ≡ n

fits_base : (n : ℕ) (a b : SimpleType) → Some a ≡ to_base n (Some b) → Fits a b n
fits_base n a b e = go (nat_eq (target b) n) refl e
  where
    go : (x : Bool) → nat_eq (target b) n ≡ x → Some a ≡ (if x then Some b else None) → Fits a b n
    go true f g = let same : b ≡ a = sym (same_Some a b g) in record { same = same; gives = ap target (sym same) ∙ eqb-true (target b) n f }
    go false f g = cc

module _ (scope : Scope) (good : IsScope scope) where
  leaf_neutral : (ctx : List SimpleType) (a : SimpleType) (h : Lambda) → IsLeaf h → type_of scope ctx h ≡ Some a → IsNeutral scope ctx a h
  leaf_neutral ctx a (bound k) l e = e
  leaf_neutral ctx a (constant c) l e = e
  leaf_neutral ctx a (lam b s) l e = absurd l
  leaf_neutral ctx a (app s u) l e = absurd l

  leaf_declared : (ctx : List SimpleType) (a : SimpleType) (h : Lambda) → AreDeclared scope.bases ctx → IsLeaf h → type_of scope ctx h ≡ Some a → is_declared scope.bases a ≡ true
  leaf_declared ctx a (bound k) d l e = get_declared scope.bases ctx k a d e
  leaf_declared ctx a (constant c) d l e = constant_declared scope good c a e
  leaf_declared ctx a (lam b s) d l e = absurd l
  leaf_declared ctx a (app s u) d l e = absurd l

  -- a head with holes for its arguments fits a hole of its target type
  holes_typed : (at : Hole) (a : SimpleType) (h : Lambda) → AreDeclared scope.bases at.context → IsLeaf h → type_of scope at.context h ≡ Some a → target a ≡ at.base → IsPartial scope at.context (base at.base) (with_holes a (head h))
  holes_typed at a h d leaf type gives =
      let OfBase : ℕ → Type 0 = λ n. IsPartial scope at.context (base n) (with_holes a (head h)) in
      subst OfBase gives (with_holes_typed scope at.context a (head h) (leaf_declared at.context a h d leaf type) (leaf, leaf_neutral at.context a h leaf type))

  filled_is : (p : Partial) (h : Lambda) (at : Hole) (a : SimpleType) (q : Partial) → first_hole [] p ≡ Some at → type_of scope at.context h ≡ Some a → with_filling (with_holes a (head h)) p ≡ Some q → filling_at scope h p (first_hole [] p) ≡ Some q
  filled_is p h at a q first type f = ap (filling_at scope h p) first ∙ ap (λ o. with_filling (with_holes (unwrap_or o formula) (head h)) p) type ∙ f

  at_hole : (p : Partial) (h : Lambda) (b : SimpleType) → IsTypedSketch scope (record { type = b; partial = p }) → IsLeaf h → (at : Hole) → first_hole [] p ≡ Some at → (a : SimpleType) → type_of scope at.context h ≡ Some a → target a ≡ at.base → (q : Partial) → q ≡ unwrap_or (with_filling (with_holes a (head h)) p) p → HasGrown scope h p q b
  at_hole p h b sketch leaf at first a type gives q copy =
      let d : DeclaredAt scope good at = declared_at scope good [] b p at tt sketch.declared sketch.typed first in
      go (fills scope (with_holes a (head h)) at (holes_typed at a h d.context leaf type gives) [] b p sketch.typed first)
    where
      go : Fills scope (IsPartial scope [] b) (with_holes a (head h)) p → HasGrown scope h p q b
      go f =
          let same : q ≡ f.0 = copy ∙ ap (λ (o : Option Partial). unwrap_or o p) f.1 in
          let Typed : Partial → Type 0 = λ s. IsPartial scope [] b s in
          record { is_filled = filled_is p h at a q first type (f.1 ∙ ap Some (sym same)); typed = subst Typed (sym same) f.2 }

  pub has_grown : (p : Partial) (h : Lambda) (typed : IsTypedPartialTerm scope p) (takes : TakesHead scope p h) → IsLeaf h → (a : SimpleType) (q : Partial) → Some a ≡ fitting scope h (first_hole [] p) → q ≡ unwrap_or (with_filling (with_holes a (head h)) p) p → HasGrown scope h p q typed.type
  has_grown p h typed takes leaf a q fit copy =
      let f : Fits a takes.type takes.hole.base = fits_base takes.hole.base a takes.type (fit ∙ ap (fitting scope h) takes.is_first ∙ ap (to_base takes.hole.base) takes.has_type) in
      at_hole p h typed.type typed.sketch leaf takes.hole takes.is_first a (takes.has_type ∙ ap Some f.same) f.gives q copy

  -- where holes are left
  pub part_of : (p : Partial) (h : Lambda) (q : Partial) (a : SimpleType) (n : ℕ) → HasGrown scope h p q a → Some n ≡ base_in q → IsPartOf scope h p q
  part_of p h q a n g e = record { is_filled = g.is_filled; has_hole = whole-hole q n e }

  -- where none is
  pub whole_typed : (p : Partial) (h : Lambda) (q : Partial) (a : SimpleType) → HasGrown scope h p q a → base_in q ≡ None → IsTypedTerm scope (term_of q)
  whole_typed p h q a g e = record { ctx = []; type = a; canonical = whole_canonical scope [] a q (term_of q) g.typed (whole-none q e) }

  pub is_term : (p : Partial) (h : Lambda) (q : Partial) (a : SimpleType) (b : Content) (id : ℕ) → HasGrown scope h p q a → base_in q ≡ None → HasTerm b id (term_of q) → IsTerm scope h p b id
  is_term p h q a b id g e has = record { filled = q; is_filled = g.is_filled; term = term_of q; is_whole = whole-none q e; stands = has }
