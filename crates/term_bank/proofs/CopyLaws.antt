-- Copies of a bank's entries.
use Rattle.std.proofs.Common.{◌≡◌, ℕ, zero, suc, ◌+◌, ◌^◌, ◌<◌, List, [], ◌∷◌, ◌++◌, map, length, take, get_or, slice_get, Option, Some, None, option_map, position, refl, sym, ap, ap₂, subst, ◌∙◌, arith}
use Rattle.std.specs.List.{IsDistinct}
use Rattle.std.proofs.lemmas.Option.{same_Some, slice_get-map, slice_get_within}
use Rattle.std.proofs.lemmas.List.{length-map}
use Rattle.std.proofs.lemmas.List.Quantifiers.{position-Some}
use Rattle.stt_core.specs.Typing.{Scope, IsScope}
use Rattle.stt_core.proofs.ListLaws.{map-append}
use Rattle.term_bank.specs.Shape.{Shape}
use Rattle.term_bank.specs.Content.{content_scope}
use Rattle.term_bank.specs.Internal.Copied.{shown}
use Rattle.term_bank.specs.Internal.Inside.{the_content, IsSoundBank}
use Rattle.term_bank.specs.declared.bank.Bank.TheInside.{Inside}
use Rattle.term_bank.specs.Internal.MarksView.{IsMarked}
use Rattle.term_bank.specs.Internal.Sound.{terms_after, ShapeEntry, entry_terms, AreSound}
use Rattle.term_bank.specs.Terms.{term_at, IsBelow}
use Rattle.term_bank.specs.NodeView.{the_shape}
use Rattle.term_bank.specs.Internal.ShapeLaws.{shape_decides}
use Rattle.term_bank.specs.declared.node.Node.{Node}
use Rattle.term_bank.specs.declared.marks.Marks.{Marks}
use Rattle.term_bank.proofs.AddLaws.{is_node}
use Rattle.term_bank.proofs.DistinctLaws.{one_place}

shapes_shown : (es : List ShapeEntry) → map (λ (p : Shape × Marks). p.0) (map shown es) ≡ map (λ (e : ShapeEntry). the_shape e.0) es
shapes_shown [] = refl
shapes_shown (e ∷ es) = ap (λ ss. the_shape e.0 ∷ ss) (shapes_shown es)

-- the terms are those of what is shown
pub entry_terms-shown : (es fs : List ShapeEntry) → map shown fs ≡ map shown es → entry_terms fs ≡ entry_terms es
entry_terms-shown es fs h = ap (terms_after []) (sym (shapes_shown fs) ∙ ap (map (λ (p : Shape × Marks). p.0)) h ∙ shapes_shown es)

from_map : {A B : Type 0} (f : A → B) (o : Option A) (y : B) → option_map f o ≡ Some y → (x : A) × (o ≡ Some x) × (f x ≡ y)
from_map f None y h = cc
from_map f (Some x) y h = (x, refl, same_Some (f x) y h)

-- where an entry stands there is one that shows the same
pub entry_shown : (es fs : List ShapeEntry) → map shown fs ≡ map shown es → (k : ℕ) (f : ShapeEntry) → slice_get fs k ≡ Some f → (e : ShapeEntry) × (slice_get es k ≡ Some e) × (shown e ≡ shown f)
entry_shown es fs h k f at =
    from_map shown (slice_get es k) (shown f)
    (sym (slice_get-map shown es k) ∙ ap (λ ps. slice_get ps k) (sym h) ∙ slice_get-map shown fs k ∙ ap (option_map shown) at)

pub sound_shown : (scope : Scope) (es fs : List ShapeEntry) → map shown fs ≡ map shown es → AreSound scope es → AreSound scope fs
sound_shown scope es fs h sound = record {
  below = λ k f at. let e = entry_shown es fs h k f at in subst (λ s. IsBelow k s) (ap (λ (p : Shape × Marks). p.0) e.2) (sound.below k e.0 e.1);
  marked = λ k f at.
      let e = entry_shown es fs h k f at in
      subst (λ ts. IsMarked scope (term_at ts k) f.1) (sym (entry_terms-shown es fs h))
      (subst (λ m. IsMarked scope (term_at (entry_terms es) k) m) (ap (λ (p : Shape × Marks). p.1) e.2) (sound.marked k e.0 e.1));
}

-- COPYING ENTRY BY ENTRY

from_taken : {A : Type 0} (xs : List A) (n k : ℕ) (x : A) → slice_get (take n xs) k ≡ Some x → (k < n) × (slice_get xs k ≡ Some x)
from_taken [] zero k x h = cc
from_taken [] (suc n) k x h = cc
from_taken (y ∷ ys) zero k x h = cc
from_taken (y ∷ ys) (suc n) zero x h = (omega arith, h)
from_taken (y ∷ ys) (suc n) (suc k) x h = let r = from_taken ys n k x h in (omega (arith, r.0), r.1)

pub take_next : {A : Type 0} (xs : List A) (n : ℕ) (x : A) → slice_get xs n ≡ Some x → take n xs ++ x ∷ [] ≡ take (suc n) xs
take_next [] n x h = cc
take_next (y ∷ ys) zero x h = ap (λ z. z ∷ []) (sym (same_Some y x h))
take_next (y ∷ ys) (suc n) x h = ap (λ zs. y ∷ zs) (take_next ys n x h)

entry_key : (es : List ShapeEntry) (k : ℕ) (d : Node) → k < length es → (e : ShapeEntry) × (slice_get es k ≡ Some e) × (get_or (map (λ x. x.0) es) k d ≡ e.0)
entry_key [] k d h = absurd (omega arith)
entry_key (e ∷ es) zero d h = (e, refl, refl)
entry_key (e ∷ es) (suc k) d h = entry_key es k d (omega arith)

-- a node of which only the earlier ones were copied has no copy
pub not_copied : (es fs : List ShapeEntry) (n : ℕ) (e : ShapeEntry) (node : Node) (k : ℕ) → IsDistinct is_node (map (λ e. e.0) es) → map shown fs ≡ take n (map shown es)
    → slice_get es n ≡ Some e → the_shape node ≡ the_shape e.0 → Some k ≡ position (is_node node) (map (λ e. e.0) fs) → ⊥
not_copied es fs n e node k distinct copied at shape found =
    let p = position-Some (is_node node) (map (λ e. e.0) fs) k node (sym found) in
    let f = entry_key fs k node (omega (arith, p.0, length-map fs (λ e. e.0))) in
    let same : the_shape node ≡ the_shape f.0.0 = (shape_decides (the_shape node) (the_shape f.0.0)).0 (ap (is_node node) (sym f.2) ∙ p.1) in
    let early = from_taken (map shown es) n k (shown f.0) (ap (λ ps. slice_get ps k) (sym copied) ∙ slice_get-map shown fs k ∙ ap (option_map shown) f.1) in
    let there = from_map shown (slice_get es k) (shown f.0) (sym (slice_get-map shown es k) ∙ early.1) in
    let place : k ≡ n = one_place es distinct k n there.0 e there.1 at (ap (λ (p : Shape × Marks). p.0) there.2 ∙ sym same ∙ shape) in
    omega (arith, place, early.0)

pub copied-next : (es fs gs : List ShapeEntry) (n : ℕ) (e : ShapeEntry) (node : Node) → map shown fs ≡ take n (map shown es) → slice_get es n ≡ Some e → the_shape node ≡ the_shape e.0
    → gs ≡ fs ++ (node, e.1) ∷ [] → map shown gs ≡ take (n + 1) (map shown es)
copied-next es fs gs n e node copied at shape is =
    let next : suc n ≡ n + 1 = omega arith in
    ap (map shown) is ∙ map-append shown fs ((node, e.1) ∷ [])
    ∙ ap₂ (λ (ps : List (Shape × Marks)) (s : Shape). ps ++ (s, e.1) ∷ []) copied shape
    ∙ take_next (map shown es) n (shown e) (slice_get-map shown es n ∙ ap (option_map shown) at)
    ∙ ap (λ m. take m (map shown es)) next

-- BANKS WITH THE SAME ENTRIES

pub same_content : (a b : Inside) → b.sig.bases ≡ a.sig.bases → b.sig.consts ≡ a.sig.consts → b.wits ≡ a.wits → map shown b.nodes.entries ≡ map shown a.nodes.entries → the_content b ≡ the_content a
same_content a b bases consts wits nodes =
    let terms = entry_terms-shown a.nodes.entries b.nodes.entries nodes in
    λ j. record { bases = bases j; consts = consts j; witnesses = wits j; terms = terms j }

pub sound_copy : (a b : Inside) → b.sig.bases ≡ a.sig.bases → b.sig.consts ≡ a.sig.consts → b.wits ≡ a.wits → map shown b.nodes.entries ≡ map shown a.nodes.entries → IsSoundBank a → IsSoundBank b
sound_copy a b bases consts wits nodes sound =
    let same = same_content a b bases consts wits nodes in
    record {
      declared = subst (λ x. IsScope (content_scope x)) (sym same) sound.declared;
      few_witnesses = subst (λ ts. length ts < 2 ^ 32) (sym wits) sound.few_witnesses;
      nodes = subst (λ x. AreSound (content_scope x) b.nodes.entries) (sym same) (sound_shown (content_scope (the_content a)) a.nodes.entries b.nodes.entries nodes sound.nodes);
    }
