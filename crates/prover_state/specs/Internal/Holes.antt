-- The holes of a partial term.
use Rattle.std.specs.Prelude.{ℕ, List, [], ◌∷◌, ◌++◌, Option, Some, None, refl}
use Rattle.std.specs.Coded.{Coded, code_by, coded×, coded_ℕ, coded_list}
use Rattle.stt_core.specs.SimpleType.{SimpleType, base, arrow, target}
use Rattle.stt_core.specs.Internal.TypeCode.{type_code}
use Rattle.search_spec.specs.Partial.{Hole, Partial, hole, head, function, application}

-- the holes, from left to right. `context` has the types of the variables in scope, innermost first.
abbrev pub holes_in : List SimpleType → Partial → List Hole
holes_in context (hole n) = record { base = n; context = context } ∷ []
holes_in context (head h) = []
holes_in context (function a p) = holes_in (a ∷ context) p
holes_in context (application p q) = holes_in context p ++ holes_in context q

-- the first of some holes
abbrev pub leftmost : List Hole → Option Hole
leftmost [] = None
leftmost (h ∷ hs) = Some h

-- the types of a type's binders, before those that are in scope
abbrev pub binders_onto : List SimpleType → SimpleType → List SimpleType
binders_onto context (base n) = context
binders_onto context (arrow a b) = binders_onto (a ∷ context) b

-- one hole under the binders of a type
abbrev pub blank_hole : List SimpleType → SimpleType → Hole
blank_hole context a = record { base = target a; context = binders_onto context a }

-- one hole, under its binders, for each argument of a function of the type
abbrev pub argument_holes : List SimpleType → SimpleType → List Hole
argument_holes context (base n) = []
argument_holes context (arrow a b) = blank_hole context a ∷ argument_holes context b

-- the holes after the first one is filled with a head of the type
abbrev pub after_head : SimpleType → List Hole → List Hole
after_head a [] = []
after_head a (h ∷ hs) = argument_holes h.context a ++ hs

abbrev pub hole_code : Coded Hole
hole_code =
    code_by (ℕ × List SimpleType) (coded× coded_ℕ (coded_list type_code)) (λ h. (h.base, h.context))
    (λ p. record { base = p.0; context = p.1 }) (λ _. refl)
