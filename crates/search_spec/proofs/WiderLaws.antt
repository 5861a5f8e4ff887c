-- What is typed stays typed when a witness is added.
use Rattle.std.specs.Prelude.{◌≡◌, List, [], ◌∷◌, ◌++◌, map, Some, slice_get, refl}
use Rattle.std.proofs.Common.{ap, ◌∙◌}
use Rattle.stt_core.specs.SimpleType.{SimpleType, arrow, formula}
use Rattle.stt_core.specs.Lambda.{Constant, name, witness, falsity, negation, implication, all, equality, choice, description, Lambda, bound, constant, lam, app}
use Rattle.stt_core.specs.Typing.{Scope, constant_type}
use Rattle.stt_core.specs.Canonical.{IsCanonical, IsNeutral}
use Rattle.stt_core.proofs.ListLaws.{map-append, slice_get-append}
use Rattle.tableau_calculus.specs.Literals.{Literal, IsLiteral, IsBranch}
use Rattle.tableau_calculus.specs.Witnesses.{Row, with_rows}
use Rattle.tableau_calculus.specs.Each.{Each}
use Rattle.search_spec.specs.Partial.{Partial, hole, head, function, application}
use Rattle.search_spec.specs.TypedPartial.{IsPartial, IsPartialSpine}
use Rattle.command_queue.specs.declared.entry.Entry.{Entry}
use Rattle.search_spec.specs.State.{State, Setting, Sketch, Typed, Command, process, mate, confront, inst, choose, describe, grow}
use Rattle.search_spec.specs.TypedState.{IsTypedSketch, IsTypedCommand, IsTypedStateWith}
use Rattle.search_spec.proofs.PartialLaws.{from_map}

each_weaker : {X : Type 0} (P Q : X → Type 0) → ((x : X) → P x → Q x) → (xs : List X) → Each P xs → Each Q xs
each_weaker P Q f [] h = tt
each_weaker P Q f (x ∷ xs) h = (f x h.0, each_weaker P Q f xs h.1)

module _ (scope : Scope) (more : List Row) (rows : List Row) where
  abbrev old : Scope
  old = with_rows scope rows

  abbrev new : Scope
  new = with_rows scope (rows ++ more)

  constant_wider : (c : Constant) (a : SimpleType) → constant_type old c ≡ Some a → constant_type new c ≡ Some a
  constant_wider (name k) a h = h
  constant_wider (witness k) a h = ap (λ ws. slice_get ws k) (map-append (λ (r : Row). r.type) rows more) ∙ slice_get-append (map (λ r. r.type) rows) (map (λ r. r.type) more) k a h
  constant_wider falsity a h = h
  constant_wider negation a h = h
  constant_wider implication a h = h
  constant_wider (all b) a h = h
  constant_wider (equality b) a h = h
  constant_wider (choice b) a h = h
  constant_wider (description b) a h = h

  mutual
    pub canonical_wider : (ctx : List SimpleType) (a : SimpleType) (t : Lambda) → IsCanonical old ctx a t → IsCanonical new ctx a t
    canonical_wider ctx a (bound k) h = h
    canonical_wider ctx a (constant c) h = (h.0, constant_wider c a h.1)
    canonical_wider ctx a (lam c s) h = (h.0, from_map c a _ _ (λ b k. canonical_wider (c ∷ ctx) b s k) h.1)
    canonical_wider ctx a (app s u) h = (h.0, (h.1.0, neutral_wider ctx (arrow h.1.0 a) s h.1.1, canonical_wider ctx h.1.0 u h.1.2))

    pub neutral_wider : (ctx : List SimpleType) (a : SimpleType) (t : Lambda) → IsNeutral old ctx a t → IsNeutral new ctx a t
    neutral_wider ctx a (bound k) h = h
    neutral_wider ctx a (constant c) h = constant_wider c a h
    neutral_wider ctx a (lam c s) h = h
    neutral_wider ctx a (app s u) h = (h.0, neutral_wider ctx (arrow h.0 a) s h.1, canonical_wider ctx h.0 u h.2)

  mutual
    partial_wider : (ctx : List SimpleType) (a : SimpleType) (p : Partial) → IsPartial old ctx a p → IsPartial new ctx a p
    partial_wider ctx a (hole n) h = h
    partial_wider ctx a (head t) h = (h.0, h.1, neutral_wider ctx a t h.2)
    partial_wider ctx a (function c p) h = (h.0, from_map c a _ _ (λ b k. partial_wider (c ∷ ctx) b p k) h.1)
    partial_wider ctx a (application p q) h = (h.0, (h.1.0, spine_wider ctx (arrow h.1.0 a) p h.1.1, partial_wider ctx h.1.0 q h.1.2))

    spine_wider : (ctx : List SimpleType) (a : SimpleType) (p : Partial) → IsPartialSpine old ctx a p → IsPartialSpine new ctx a p
    spine_wider ctx a (hole n) h = h
    spine_wider ctx a (head t) h = (h.0, neutral_wider ctx a t h.1)
    spine_wider ctx a (function c p) h = h
    spine_wider ctx a (application p q) h = (h.0, spine_wider ctx (arrow h.0 a) p h.1, partial_wider ctx h.0 q h.2)

  pub literal_wider : (l : Literal) → IsLiteral old l → IsLiteral new l
  literal_wider l h = record { formula = canonical_wider [] formula l.atom h.formula; unsigned = h.unsigned }

  pub branch_wider : (ls : List Literal) → IsBranch old ls → IsBranch new ls
  branch_wider [] h = tt
  branch_wider (l ∷ ls) h = (literal_wider l h.0, branch_wider ls h.1)

  sketch_wider : (p : Sketch) → IsTypedSketch old p → IsTypedSketch new p
  sketch_wider p h = record { declared = h.declared; typed = partial_wider [] p.type p.partial h.typed }

  command_wider : (c : Command) → IsTypedCommand old c → IsTypedCommand new c
  command_wider (process l) h = literal_wider l h
  command_wider (mate l m) h = record { positive = literal_wider l h.positive; negative = literal_wider m h.negative; head = h.head; compared = h.compared; s = h.s; ss = h.ss; t = h.t; ts = h.ts; is_positive = h.is_positive; is_negative = h.is_negative }
  command_wider (confront l m) h = record { positive = literal_wider l h.positive; negative = literal_wider m h.negative; n = h.n; s = h.s; t = h.t; u = h.u; v = h.v; is_positive = h.is_positive; is_negative = h.is_negative }
  command_wider (inst l u) h = record { literal = literal_wider l h.literal; type = h.type; predicate = h.predicate; is_universal = h.is_universal; argument = canonical_wider [] h.type u h.argument }
  command_wider (choose a f) h = canonical_wider [] _ f h
  command_wider (describe a f) h = canonical_wider [] _ f h
  command_wider (grow p t) h =
      let f = h.fits in
      record { sketch = sketch_wider p h.sketch; hole = h.hole; is_first = h.is_first; fits = record { leaf = f.leaf; type = f.type; has_type = neutral_wider h.hole.context f.type t f.has_type; declared = f.declared; gives = f.gives } }

module _ (setting : Setting) (rows more : List Row) where
  pub state_wider : (s : State) → IsTypedStateWith setting rows s → IsTypedStateWith setting (rows ++ more) (record s { rows = rows ++ more })
  state_wider s g = record {
    are_rows = refl;
    noted = branch_wider setting.scope more rows s.noted g.noted;
    terms = each_weaker _ _ (λ (u : Typed) h. canonical_wider setting.scope more rows [] u.type u.term h) s.terms g.terms;
    parked = each_weaker _ _ (λ (p : Sketch) h. sketch_wider setting.scope more rows p h) s.parked g.parked;
    queue = each_weaker _ _ (λ (q : Entry Command) h. command_wider setting.scope more rows q.command h) s.queue g.queue;
  }
