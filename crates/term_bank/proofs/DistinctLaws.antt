-- No term stands at two places.
use Rattle.std.proofs.Common.{◌≡◌, ℕ, zero, suc, ◌<◌, ◌≤◌, List, [], ◌∷◌, map, length, slice_get, Some, Bool, true, false, refl, sym, ap, ap₂, ◌∙◌, arith, true≢false}
use Rattle.std.specs.Prelude.{All}
use Rattle.std.specs.List.{IsDistinct, AllByRecursion}
use Rattle.std.proofs.lemmas.Option.{same_Some}
use Rattle.std.proofs.lemmas.List.Elements.{All-head, All-tail}
use Rattle.stt_core.specs.Typing.{Scope}
use Rattle.stt_core.specs.Lambda.{Lambda, lam, applied}
use Rattle.stt_core.proofs.SpineLaws.{IsAtom, parts, binders-spine, binders_of}
use Rattle.stt_core.proofs.HeadLaws.{atom_head}
use Rattle.term_bank.specs.Shape.{Shape, abstraction, spine}
use Rattle.term_bank.specs.Internal.ShapeLaws.{shape_decides}
use Rattle.term_bank.specs.Terms.{term_at, shape_term, IsBelow}
use Rattle.term_bank.specs.NodeView.{the_shape}
use Rattle.term_bank.specs.Internal.Sound.{ShapeEntry, entry_terms, AreSound}
use Rattle.term_bank.specs.declared.node.Node.{Node}
use Rattle.term_bank.specs.declared.node.Node.TheVariants.{Lam, App}
use Rattle.term_bank.proofs.SoundLaws.{entry_shape, node_is}
use Rattle.term_bank.proofs.AddLaws.{is_node}

-- NODES WITH THE SAME TERM

abbrev pub HasAtom : Shape → Type 0
HasAtom (abstraction a i) = Unit {0}
HasAtom (spine h is) = IsAtom h

node_atom : (n : Node) → HasAtom (the_shape n)
node_atom (Lam a i) = tt
node_atom (App h is) = atom_head h

-- below n, no term stands at two places
abbrev DifferBelow : List Lambda → ℕ → Type 0
DifferBelow ts n = (i j : ℕ) → i < n → j < n → term_at ts i ≡ term_at ts j → i ≡ j

head_same : {A : Type 0} (x y : A) (xs ys : List A) → x ∷ xs ≡ y ∷ ys → x ≡ y
head_same x y xs ys e = cc

places_same : (ts : List Lambda) (n : ℕ) → DifferBelow ts n → (is js : List ℕ) → All (λ i. i < n) is → All (λ i. i < n) js → map (term_at ts) is ≡ map (term_at ts) js → is ≡ js
places_same ts n d [] [] a b e = refl
places_same ts n d [] (j ∷ js) a b e = cc
places_same ts n d (i ∷ is) [] a b e = cc
places_same ts n d (i ∷ is) (j ∷ js) a b e =
    let first : term_at ts i ≡ term_at ts j = cc in
    let rest : map (term_at ts) is ≡ map (term_at ts) js = cc in
    ap₂ (λ x xs. x ∷ xs) (d i j (All-head (λ x. x < n) i is a) (All-head (λ x. x < n) j js b) first)
    (places_same ts n d is js (All-tail (λ x. x < n) i is a) (All-tail (λ x. x < n) j js b) rest)

no_function : (a : _) (s h : Lambda) (us : List Lambda) → IsAtom h → lam a s ≡ applied h us → ⊥
no_function a s h us o e =
    let p : a ∷ binders_of s ≡ [] = ap binders_of e ∙ binders-spine [] h us o in cc

shapes_same : (ts : List Lambda) (n : ℕ) → DifferBelow ts n → (s r : Shape) → HasAtom s → HasAtom r → IsBelow n s → IsBelow n r → shape_term ts s ≡ shape_term ts r → s ≡ r
shapes_same ts n d (abstraction a i) (abstraction b j) o p l m e =
    let q : a ≡ b = cc in
    let w : term_at ts i ≡ term_at ts j = cc in
    ap₂ abstraction q (d i j l m w)
shapes_same ts n d (spine h is) (spine k js) o p l m e =
    let q = parts [] [] h k (map (term_at ts) is) (map (term_at ts) js) o p e in
    ap₂ spine q.head (places_same ts n d is js l m q.arguments)
shapes_same ts n d (abstraction a i) (spine k js) o p l m e = absurd (no_function a (term_at ts i) k (map (term_at ts) js) p e)
shapes_same ts n d (spine h is) (abstraction b j) o p l m e = absurd (no_function b (term_at ts j) h (map (term_at ts) is) o (sym e))

-- KEYS THAT DIFFER

none_later : (eq : Node → Node → Bool) (x y : Node) (es : List ShapeEntry) (i : ℕ) (e : ShapeEntry) → AllByRecursion (λ y. eq x y ≡ false) (map (λ e. e.0) es) → slice_get es i ≡ Some e → eq x e.0 ≡ true → ⊥
none_later eq x y [] i e all g h = cc
none_later eq x y (d ∷ es) zero e all g h =
    let s : d ≡ e = same_Some d e g in
    true≢false (sym h ∙ ap (λ z. eq x z.0) (sym s) ∙ all.0)
none_later eq x y (d ∷ es) (suc i) e all g h = none_later eq x y es i e all.1 g h

pub one_place : (es : List ShapeEntry) → IsDistinct is_node (map (λ e. e.0) es) → (i j : ℕ) (e f : ShapeEntry) → slice_get es i ≡ Some e → slice_get es j ≡ Some f → entry_shape e ≡ entry_shape f → i ≡ j
unfolding IsDistinct
one_place [] d i j e f g h s = cc
one_place (x ∷ es) d zero zero e f g h s = refl
one_place (x ∷ es) d zero (suc j) e f g h s =
    let q : x ≡ e = same_Some x e g in
    absurd (none_later is_node x.0 x.0 es j f d.0 h ((shape_decides (entry_shape x) (entry_shape f)).1 (ap entry_shape q ∙ s)))
one_place (x ∷ es) d (suc i) zero e f g h s =
    let q : x ≡ f = same_Some x f h in
    absurd (none_later is_node x.0 x.0 es i e d.0 g ((shape_decides (entry_shape x) (entry_shape e)).1 (ap entry_shape q ∙ sym s)))
one_place (x ∷ es) d (suc i) (suc j) e f g h s = ap suc (one_place es d.1 i j e f g h s)

module _ (scope : Scope) (es : List ShapeEntry) (sound : AreSound scope es) (distinct : IsDistinct is_node (map (λ e. e.0) es)) where
  entry_at : (k : ℕ) → k < length es → (e : ShapeEntry) × (slice_get es k ≡ Some e)
  entry_at k h = go es k h
    where
      go : (xs : List ShapeEntry) (k : ℕ) → k < length xs → (e : ShapeEntry) × (slice_get xs k ≡ Some e)
      go [] k h = absurd (omega arith)
      go (x ∷ xs) zero h = (x, refl)
      go (x ∷ xs) (suc k) h = go xs k (omega arith)

  below_more : (n : ℕ) (s : Shape) (k : ℕ) → k ≤ n → IsBelow k s → IsBelow n s
  below_more n (abstraction a i) k l h = omega arith
  below_more n (spine h is) k l b = λ i d m. omega (arith, b i d m)

  differ_below : (n : ℕ) → n ≤ length es → DifferBelow (entry_terms es) n
  differ_below zero l i j a b e = absurd (omega arith)
  differ_below (suc n) l i j a b e =
      let x = entry_at i (omega arith) in
      let y = entry_at j (omega arith) in
      let same : shape_term (entry_terms es) (entry_shape x.0) ≡ shape_term (entry_terms es) (entry_shape y.0) =
      sym (node_is scope es sound (entry_terms es) i x.0 refl x.1) ∙ e ∙ node_is scope es sound (entry_terms es) j y.0 refl y.1 in
      let shapes = shapes_same (entry_terms es) n (differ_below n (omega arith)) (entry_shape x.0) (entry_shape y.0) (node_atom x.0.0) (node_atom y.0.0)
      (below_more n (entry_shape x.0) i (omega arith) (sound.below i x.0 x.1)) (below_more n (entry_shape y.0) j (omega arith) (sound.below j y.0 y.1)) same in
      one_place es distinct i j x.0 y.0 x.1 y.1 shapes

  pub one_term : (ts : List Lambda) (i j : ℕ) → entry_terms es ≡ ts → i < length es → j < length es → term_at ts i ≡ term_at ts j → i ≡ j
  one_term ts i j same a b e =
      differ_below (length es) (omega arith) i j a b (ap (λ l. term_at l i) same ∙ e ∙ ap (λ l. term_at l j) (sym same))
