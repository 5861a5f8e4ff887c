-- What is typed stays typed where more is declared.
use Rattle.std.proofs.Common.{◌≡◌, ℕ, ◌≤◌, ◌+◌, true, List, [], ◌∷◌, Option, Some, None, slice_get, option_map, sym, ap, ap₂, ◌∙◌, if◌then◌else◌, arith}
use Rattle.std.proofs.lemmas.Bool.{and_parts, and_from, lt-ltb}
use borrow.Author.Tests.{ltb-true}
use Rattle.stt_core.specs.SimpleType.{SimpleType, base, arrow, formula, predicate, is_declared}
use Rattle.stt_core.specs.Lambda.{Constant, name, witness, falsity, negation, implication, all, equality, choice, description, Lambda, bound, constant, lam, app}
use Rattle.stt_core.specs.Typing.{Scope, AreDeclared, where_declared, constant_type, applied_type, type_of}
use Rattle.stt_core.proofs.TypeLaws.{given, applies, abstracts, applied}
use Rattle.stt_core.specs.TypedProblem.{AreFormulas, IsFormulaIfThere}

-- the second declares all that the first declares
pub record Extends (old new : Scope) : Type 0 where
  pub bases : old.bases ≤ new.bases
  pub names : (k : ℕ) (a : SimpleType) → slice_get old.names k ≡ Some a → slice_get new.names k ≡ Some a
  pub witnesses : (k : ℕ) (a : SimpleType) → slice_get old.witnesses k ≡ Some a → slice_get new.witnesses k ≡ Some a

pub is_declared-more : (m n : ℕ) → m ≤ n → (a : SimpleType) → is_declared m a ≡ true → is_declared n a ≡ true
is_declared-more m n l (base k) h = lt-ltb k (n + 2) (omega (arith, ltb-true k (m + 2) h))
is_declared-more m n l (arrow a b) h = let p = and_parts _ _ h in and_from _ _ (is_declared-more m n l a p.0) (is_declared-more m n l b p.1)

pub AreDeclared-more : (m n : ℕ) → m ≤ n → (types : List SimpleType) → AreDeclared m types → AreDeclared n types
AreDeclared-more m n l [] h = tt
AreDeclared-more m n l (a ∷ types) h = (is_declared-more m n l a h.0, AreDeclared-more m n l types h.1)

module _ (old new : Scope) (more : Extends old new) where
  where_declared-more : (a b c : SimpleType) → where_declared old a b ≡ Some c → where_declared new a b ≡ Some c
  where_declared-more a b c h =
      let g = given old a b c h in
      ap (λ t. if t then Some b else None) (is_declared-more old.bases new.bases more.bases a g.declared) ∙ ap Some g.is

  constant_type-more : (c : Constant) (a : SimpleType) → constant_type old c ≡ Some a → constant_type new c ≡ Some a
  constant_type-more (name k) a h = more.names k a h
  constant_type-more (witness k) a h = more.witnesses k a h
  constant_type-more falsity a h = h
  constant_type-more negation a h = h
  constant_type-more implication a h = h
  constant_type-more (all b) a h = where_declared-more b (arrow (predicate b) formula) a h
  constant_type-more (equality b) a h = where_declared-more b (arrow b (predicate b)) a h
  constant_type-more (choice b) a h = where_declared-more b (arrow (predicate b) b) a h
  constant_type-more (description b) a h = where_declared-more b (arrow (predicate b) b) a h

  pub type_of-more : (ctx : List SimpleType) (t : Lambda) (a : SimpleType) → type_of old ctx t ≡ Some a → type_of new ctx t ≡ Some a
  type_of-more ctx (bound k) a h = h
  type_of-more ctx (constant c) a h = constant_type-more c a h
  type_of-more ctx (lam b s) a h =
      let from = abstracts old.bases b (type_of old (b ∷ ctx) s) a h in
      let body = type_of-more (b ∷ ctx) s from.result from.body_type in
      ap₂ (λ t o. if t then option_map (arrow b) o else None) (is_declared-more old.bases new.bases more.bases b from.declared) body ∙ ap Some (sym from.is)
  type_of-more ctx (app s u) a h =
      let from = applies (type_of old ctx s) (type_of old ctx u) a h in
      ap₂ applied_type (type_of-more ctx s (arrow from.argument a) from.function_type) (type_of-more ctx u from.argument from.argument_type) ∙ applied from.argument a

  pub AreFormulas-more : (ts : List Lambda) → AreFormulas old ts → AreFormulas new ts
  AreFormulas-more [] h = tt
  AreFormulas-more (t ∷ ts) h = (type_of-more [] t formula h.0, AreFormulas-more ts h.1)

  pub IsFormulaIfThere-more : (t : Option Lambda) → IsFormulaIfThere old t → IsFormulaIfThere new t
  IsFormulaIfThere-more None h = tt
  IsFormulaIfThere-more (Some t) h = type_of-more [] t formula h
