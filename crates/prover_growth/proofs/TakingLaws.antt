-- Heads at the first holes of parked partial terms, and what comes of them.
use Rattle.std.specs.Prelude.{◌≡◌, ◌<◌, nat_eq, ℕ, suc, Bool, true, false, List, [], ◌∷◌, ◌++◌, length, slice_get, Option, Some, None, is_some, IsSome, option_map, option_and_then, refl}
use Rattle.std.proofs.Common.{sym, ap, subst, ◌∙◌, arith}
use Rattle.std.proofs.lemmas.Bool.{ne_eqb, eqb-true}
use Rattle.std.proofs.lemmas.Option.{same_Some}
use Rattle.stt_core.specs.SimpleType.{SimpleType, base, arrow}
use Rattle.stt_core.specs.Lambda.{Lambda}
use Rattle.stt_core.specs.Typing.{Scope, type_of}
use Rattle.command_queue.specs.Queue.{Queue}
use Rattle.term_bank.specs.Content.{Content, content_scope, HasTerm}
use Rattle.search_spec.specs.Partial.{Hole, Partial, first_hole, whole_term}
use Rattle.search_spec.specs.State.{State, Setting, Sketch, grow, scope_in}
use Rattle.search_spec.specs.Terms.{with_term, with_opening}
use Rattle.search_spec.specs.Commands.{with_growth, filling_at, growth_by, with_command}
use Rattle.search_spec.specs.TypedState.{GrowsSketch}
use Rattle.instantiate.specs.Growing.{IsTypedPartialTerm, TakesHead, IsTerm, IsPartOf, IsGrown, fits}
use Rattle.instantiate.specs.declared.growing.Grown.{Grown}
use Rattle.instantiate.specs.declared.growing.Grown.TheVariants.{Term, More}
use Rattle.instantiate.specs.Internal.Blanks.{term_of}
use Rattle.instantiate.proofs.SearchLaws.{sketch_typed, sketch_takes, sketch_fits, grown_by-filled}
use Rattle.instantiate.proofs.WholeLaws.{whole-none, whole-hole}
use Rattle.prover_state.specs.declared.command.Planned.{Planned}
use Rattle.prover_state.specs.declared.command.Delays.{Delays}
use Rattle.prover_state.specs.declared.tables.Tables.{Tables}
use Rattle.prover_state.specs.Internal.Holes.{holes_in, leftmost, argument_holes, after_head}
use Rattle.prover_state.specs.Internal.Names.{sketch_at}
use Rattle.prover_state.specs.Internal.Standing.{scope_by, sketches_in, IsRightState}
use Rattle.prover_state.proofs.HoleLaws.{leftmost-first, holes-at}
use Rattle.prover_state.proofs.FilledHoles.{leftmost-taken, type-taken, grown-holes}
use Rattle.prover_growth.proofs.ParkingLaws.{scope-is}

-- WHETHER HOLES ARE LEFT

pub last-base : (n : ℕ) (hs : List Hole) → 0 < length hs → nat_eq (length hs) 1 ≡ nat_eq (length (after_head (base n) hs)) 0
last-base n [] h = absurd (omega (arith, h))
last-base n (x ∷ []) h = refl
last-base n (x ∷ (y ∷ hs)) h = ne_eqb (suc (suc (length hs))) 1 (λ e. omega (arith, e)) ∙ sym (ne_eqb (suc (length hs)) 0 (λ e. omega (arith, e)))

pub last-arrow : (a b : SimpleType) (hs : List Hole) → 0 < length hs → false ≡ nat_eq (length (after_head (arrow a b) hs)) 0
last-arrow a b [] h = absurd (omega (arith, h))
last-arrow a b (x ∷ hs) h = sym (ne_eqb (suc (length (argument_holes x.context b ++ hs))) 0 (λ e. omega (arith, e)))

none_left : (hs : List Hole) → nat_eq (length hs) 0 ≡ true → leftmost hs ≡ None
none_left [] e = refl
none_left (h ∷ hs) e = absurd (omega (arith, eqb-true (suc (length hs)) 0 e))

some_left : (hs : List Hole) → nat_eq (length hs) 0 ≡ false → (h : Hole) × (leftmost hs ≡ Some h)
some_left [] e = cc
some_left (h ∷ hs) e = (h, refl)

some_there : (hs : List Hole) (h : Hole) → leftmost hs ≡ Some h → 0 < length hs
some_there [] h e = cc
some_there (x ∷ hs) h e = omega arith

module _ (t : Tables) (q : Queue Planned Delays) (r : IsRightState t q) (p : ℕ) (number : p < length (sketches_in t)) (u : Lambda) (takes : TakesHead (scope_by t.basis) (sketch_at (sketches_in t) p).partial u) where
  abbrev x : Sketch
  x = sketch_at (sketches_in t) p

  -- the partial term with the head in its first hole
  abbrev pub further : Sketch
  further = growth_by (scope_by t.basis) u x

  pub taken-type : (o : Option SimpleType) → ((holes : List Hole) → slice_get t.open_holes p ≡ Some holes → o ≡ option_and_then (λ (h : Hole). type_of (content_scope t.basis.bank) h.context u) (leftmost holes)) → o ≡ Some takes.type
  taken-type o told =
      told (holes_in [] x.partial) (holes-at t q r p number)
      ∙ ap (λ (scope : Scope). option_and_then (λ (h : Hole). type_of scope h.context u) (leftmost (holes_in [] x.partial))) (sym (scope-is t.basis r.basis))
      ∙ type-taken (scope_by t.basis) u x takes

  pub typed-there : (holes : List Hole) → slice_get t.open_holes p ≡ Some holes → IsSome (option_and_then (λ (h : Hole). type_of (content_scope t.basis.bank) h.context u) (leftmost holes))
  typed-there holes at =
      let same : holes_in [] x.partial ≡ holes = same_Some (holes_in [] x.partial) holes (sym (holes-at t q r p number) ∙ at) in
      let is =
      ap (λ (hs : List Hole). option_and_then (λ (h : Hole). type_of (content_scope t.basis.bank) h.context u) (leftmost hs)) (sym same)
      ∙ ap (λ (scope : Scope). option_and_then (λ (h : Hole). type_of scope h.context u) (leftmost (holes_in [] x.partial))) (sym (scope-is t.basis r.basis))
      ∙ type-taken (scope_by t.basis) u x takes in
      ap is_some is

  pub holes-after : (a : SimpleType) → a ≡ takes.type → holes_in [] further.partial ≡ after_head a (holes_in [] x.partial)
  holes-after a e = grown-holes (scope_by t.basis) u x takes ∙ ap (λ b. after_head b (holes_in [] x.partial)) (sym e)

  pub last-is : (a : SimpleType) → a ≡ takes.type → (b : Bool) → ((holes : List Hole) → slice_get t.open_holes p ≡ Some holes → 0 < length holes → b ≡ nat_eq (length (after_head a holes)) 0) → b ≡ nat_eq (length (holes_in [] further.partial)) 0
  last-is a e b told =
      told (holes_in [] x.partial) (holes-at t q r p number) (some_there (holes_in [] x.partial) takes.hole (leftmost-taken (scope_by t.basis) u x takes))
      ∙ ap (λ hs. nat_eq (length hs) 0) (sym (holes-after a e))

  pub no-hole-left : nat_eq (length (holes_in [] further.partial)) 0 ≡ true → first_hole [] further.partial ≡ None
  no-hole-left e = sym (leftmost-first [] further.partial) ∙ none_left (holes_in [] further.partial) e

  pub hole-left : nat_eq (length (holes_in [] further.partial)) 0 ≡ false → whole_term further.partial ≡ None
  hole-left e =
      let k = some_left (holes_in [] further.partial) e in
      whole-hole further.partial k.0.base (ap (option_map (λ (h : Hole). h.base)) (sym k.1 ∙ leftmost-first [] further.partial))

-- a partial term without holes has its term
pub whole-term : (s : Partial) → first_hole [] s ≡ None → whole_term s ≡ Some (term_of s)
whole-term s e = whole-none s (ap (option_map (λ (h : Hole). h.base)) e)

-- TERMS

module _ (t : Tables) (q : Queue Planned Delays) (r : IsRightState t q) (x : Sketch) (u : Lambda) (grows : GrowsSketch (scope_by t.basis) x u) (last : first_hole [] (growth_by (scope_by t.basis) u x).partial ≡ None) (s : Partial) (is : s ≡ x.partial) where
  abbrev scope : Scope
  scope = content_scope t.basis.bank

  abbrev after : Partial
  after = (growth_by (scope_by t.basis) u x).partial

  pub typed-here : IsTypedPartialTerm scope s
  typed-here =
      let Over : Scope → Type 0 = λ k. IsTypedPartialTerm k s in
      subst Over (scope-is t.basis r.basis) (subst (IsTypedPartialTerm (scope_by t.basis)) (sym is) (sketch_typed (scope_by t.basis) x u grows))

  pub takes-here : TakesHead scope s u
  takes-here =
      let Over : Scope → Type 0 = λ k. TakesHead k s u in
      let Of : Partial → Type 0 = λ y. TakesHead (scope_by t.basis) y u in
      subst Over (scope-is t.basis r.basis) (subst Of (sym is) (sketch_takes (scope_by t.basis) x u grows))

  pub answer-there : false ≡ fits scope u (first_hole [] s) → ⊥
  answer-there e =
      let there : fits scope u (first_hole [] s) ≡ true =
      ap (λ (k : Scope). fits k u (first_hole [] s)) (sym (scope-is t.basis r.basis))
      ∙ ap (λ (y : Partial). fits (scope_by t.basis) u (first_hole [] y)) is
      ∙ sketch_fits (scope_by t.basis) x u grows in
      cc

  filled_here : (y : Partial) → filling_at scope u s (first_hole [] s) ≡ Some y → after ≡ y
  filled_here y e =
      let F : Scope → Type 0 = λ k. filling_at k u s (first_hole [] s) ≡ Some y in
      let G : Partial → Type 0 = λ z. filling_at (scope_by t.basis) u z (first_hole [] z) ≡ Some y in
      grown_by-filled (scope_by t.basis) x u y (subst G is (subst F (sym (scope-is t.basis r.basis)) e))

  pub term-here : (b : Content) (id : ℕ) → IsTerm scope u s b id → HasTerm b id (term_of after)
  term-here b id k =
      let same : term_of after ≡ k.term = same_Some (term_of after) k.term (sym (whole-term after last) ∙ ap whole_term (filled_here k.filled k.is_filled) ∙ k.is_whole) in
      subst (HasTerm b id) (sym same) k.stands

  no_part : (y : Partial) → IsPartOf scope u s y → ⊥
  no_part y k =
      let none : whole_term after ≡ None = ap whole_term (filled_here y k.is_filled) ∙ k.has_hole in
      let some = whole-term after last in
      cc

  pub is-term : (b : Content) (g : Grown) → IsGrown scope u s b g → (id : ℕ) × (g ≡ Term id)
  is-term b (Term id) k = (id, refl)
  is-term b (More y) k = absurd (no_part y k)

-- WHAT A COMMAND TO GROW DOES

module _ (setting : Setting) (s : State) (p : Sketch) (h : Lambda) where
  abbrev outcome : Sketch
  outcome = growth_by (scope_in setting s) h p

  pub carried-last : (u : Lambda) → whole_term outcome.partial ≡ Some u → with_term setting.mode p.type u s ≡ with_command setting (grow p h) s
  carried-last u e = sym (ap (λ o. with_growth setting outcome o s) e)

  pub carried-open : whole_term outcome.partial ≡ None → with_opening setting outcome s ≡ with_command setting (grow p h) s
  carried-open e = sym (ap (λ o. with_growth setting outcome o s) e)
