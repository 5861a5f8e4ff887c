-- A node that is there, and one that is added.
use Rattle.std.proofs.Common.{◌≡◌, ℕ, zero, suc, ◌<◌, List, [], ◌∷◌, ◌++◌, map, length, get_or, slice_get, Option, Some, None, Bool, false, is_some, position, refl, sym, ap, ap₂, subst, ◌∙◌, arith, true≢false}
use Rattle.std.proofs.lemmas.Option.{slice_get_within}
use Rattle.std.proofs.lemmas.List.{length-map}
use Rattle.std.proofs.lemmas.List.Quantifiers.{position-Some}
use Rattle.indexmap.specs.IndexMap.{IndexMap, get, insert_entry}
use Rattle.indexmap.proofs.CallerLemmas.{insert_entry-new}
use Rattle.stt_core.specs.Typing.{Scope}
use Rattle.stt_core.specs.Lambda.{Lambda, bound}
use Rattle.term_bank.specs.Shape.{Shape, same_shape}
use Rattle.term_bank.specs.Internal.ShapeLaws.{shape_decides}
use Rattle.term_bank.specs.Internal.Sound.{terms_after, ShapeEntry, entry_terms, AreSound}
use Rattle.term_bank.specs.Terms.{term_at, shape_term, IsBelow}
use Rattle.term_bank.specs.NodeView.{the_shape}
use Rattle.term_bank.specs.Internal.MarksView.{IsMarked}
use Rattle.term_bank.specs.declared.node.Node.{Node}
use Rattle.term_bank.specs.declared.marks.Marks.{Marks}
use Rattle.stt_core.proofs.ListLaws.{slice_get-end, map-append}
use Rattle.term_bank.proofs.ListLaws.{get_or-end, get_or-front, end_cases}
use Rattle.term_bank.proofs.TermLaws.{terms_after-end}
use Rattle.term_bank.proofs.SoundLaws.{entry_shape, terms_of-length, entry_term}

-- A NODE THAT IS THERE

-- whether a node is the same as a given one
abbrev pub is_node : Node → Node → Bool
is_node n m = same_shape (the_shape n) (the_shape m)

key_entry : (es : List ShapeEntry) (k : ℕ) (d : Node) → k < length es → (e : ShapeEntry) × (slice_get es k ≡ Some e) × (get_or (map (λ x. x.0) es) k d ≡ e.0)
key_entry [] k d h = absurd (omega arith)
key_entry (e ∷ es) zero d h = (e, refl, refl)
key_entry (e ∷ es) (suc k) d h = key_entry es k d (omega arith)

pub found_term : (scope : Scope) (es : List ShapeEntry) → AreSound scope es → (n : Node) (id : ℕ) → Some id ≡ position (is_node n) (map (λ e. e.0) es) → slice_get (entry_terms es) id ≡ Some (shape_term (entry_terms es) (the_shape n))
found_term scope es sound n id h =
    let p = position-Some (is_node n) (map (λ e. e.0) es) id n (sym h) in
    let k = key_entry es id n (omega (arith, p.0, length-map es (λ e. e.0))) in
    let same : the_shape n ≡ the_shape k.0.0 = (shape_decides (the_shape n) (the_shape k.0.0)).0 (ap (is_node n) (sym k.2) ∙ p.1) in
    entry_term scope es sound id k.0 k.1 ∙ ap (λ s. Some (shape_term (entry_terms es) s)) (sym same)

pub found_in : (scope : Scope) (es : List ShapeEntry) → AreSound scope es → (n : Node) (id : ℕ) (s : Shape) (ts : List Lambda) → Some id ≡ position (is_node n) (map (λ e. e.0) es) → the_shape n ≡ s → entry_terms es ≡ ts → slice_get ts id ≡ Some (shape_term ts s)
found_in scope es sound n id s ts h shape terms =
    ap (λ l. slice_get l id) (sym terms) ∙ found_term scope es sound n id h ∙ ap Some (ap₂ shape_term terms shape)

-- A NODE THAT IS ADDED

none_of : {A : Type 0} (o : Option A) → false ≡ is_some o → o ≡ None
none_of None h = refl
none_of (Some x) h = absurd (true≢false (sym h))

pub entries_after : {S : Type 0} (m : IndexMap Node Marks S) (n : Node) (f : Marks) → false ≡ is_some (get is_node m n) → (es : List ShapeEntry) → es ≡ insert_entry is_node m.entries n f → es ≡ m.entries ++ (n, f) ∷ []
entries_after m n f h es e = e ∙ insert_entry-new is_node m n f (none_of (get is_node m n) h)

pub terms_of-end : (es : List ShapeEntry) (e : ShapeEntry) → entry_terms (es ++ e ∷ []) ≡ entry_terms es ++ shape_term (entry_terms es) (entry_shape e) ∷ []
terms_of-end es e = ap (terms_after []) (map-append entry_shape es (e ∷ [])) ∙ terms_after-end [] (map entry_shape es) (entry_shape e)

module _ (scope : Scope) (es : List ShapeEntry) (sound : AreSound scope es) (e : ShapeEntry) where
  -- what is asked of the node that is added
  pub record CanAdd : Type 0 where
    pub below : IsBelow (length (entry_terms es)) (entry_shape e)
    pub marked : IsMarked scope (shape_term (entry_terms es) (entry_shape e)) e.1

  module _ (can : CanAdd) where
    after : List ShapeEntry
    after = es ++ e ∷ []

    front_term : (k : ℕ) → k < length es → term_at (entry_terms (es ++ e ∷ [])) k ≡ term_at (entry_terms es) k
    front_term k h =
        ap (λ l. get_or l k (bound 0)) (terms_of-end es e)
        ∙ get_or-front (entry_terms es) (shape_term (entry_terms es) (entry_shape e) ∷ []) k (bound 0) (omega (arith, terms_of-length es))

    end_term : term_at (entry_terms (es ++ e ∷ [])) (length es) ≡ shape_term (entry_terms es) (entry_shape e)
    end_term =
        ap (λ l. get_or l (length es) (bound 0)) (terms_of-end es e)
        ∙ ap (λ k. get_or (entry_terms es ++ shape_term (entry_terms es) (entry_shape e) ∷ []) k (bound 0)) (sym (terms_of-length es))
        ∙ get_or-end (entry_terms es) (shape_term (entry_terms es) (entry_shape e)) (bound 0)

    pub sound_after : AreSound scope (es ++ e ∷ [])
    sound_after = record {
      below = λ k x h. end_cases (IsBelow k (the_shape x.0)) es e x k h
          (λ early. sound.below k x early)
          (λ last same. subst (λ y. IsBelow k (entry_shape y)) same (subst (λ j. IsBelow j (entry_shape e)) (terms_of-length es ∙ sym last) can.below));
      marked = λ k x h. end_cases (IsMarked scope (term_at (entry_terms (es ++ e ∷ [])) k) x.1) es e x k h
          (λ early. subst (λ t. IsMarked scope t x.1) (sym (front_term k (slice_get_within es k x early))) (sound.marked k x early))
          (λ last same.
          let here : IsMarked scope (term_at (entry_terms (es ++ e ∷ [])) (length es)) e.1 = subst (λ t. IsMarked scope t e.1) (sym end_term) can.marked in
          subst (λ y. IsMarked scope (term_at (entry_terms (es ++ e ∷ [])) k) y.1) same (subst (λ j. IsMarked scope (term_at (entry_terms (es ++ e ∷ [])) j) e.1) (sym last) here));
    }

-- what a bank's entries are after one more
pub record Added (scope : Scope) (es after : List ShapeEntry) (t : Lambda) : Type 0 where
  pub sound : AreSound scope after
  pub terms : entry_terms after ≡ entry_terms es ++ t ∷ []
  pub place : slice_get (entry_terms after) (length es) ≡ Some t

-- `ts` are the terms that are there, `t` is that of the new node `n`, and `s` is that node's shape
pub added : (scope : Scope) (es after : List ShapeEntry) (n : Node) (f : Marks) (s : Shape) (ts : List Lambda) (t : Lambda) → AreSound scope es → the_shape n ≡ s → entry_terms es ≡ ts → shape_term ts s ≡ t → IsBelow (length ts) s → IsMarked scope t f → after ≡ es ++ (n, f) ∷ [] → Added scope es after t
added scope es after n f s ts t sound shape terms term below marked is =
    let whole : shape_term (entry_terms es) (the_shape n) ≡ t = ap₂ shape_term terms shape ∙ term in
    let can : CanAdd scope es sound (n, f) = record {
      below = subst (λ x. IsBelow (length (entry_terms es)) x) (sym shape) (subst (λ l. IsBelow (length l) s) (sym terms) below);
      marked = subst (λ x. IsMarked scope x f) (sym whole) marked;
    } in
    let more : entry_terms after ≡ entry_terms es ++ t ∷ [] = ap entry_terms is ∙ terms_of-end es (n, f) ∙ ap (λ x. entry_terms es ++ x ∷ []) whole in
    record {
      sound = subst (AreSound scope) (sym is) (sound_after scope es sound (n, f) can);
      terms = more;
      place = ap₂ slice_get more (sym (terms_of-length es)) ∙ slice_get-end (entry_terms es) t;
    }
