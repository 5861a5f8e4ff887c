-- What noting a literal answers, and that the index stays right.
use Rattle.std.specs.Prelude.{◌≡◌, ◌<◌, ◌&&◌, ◌++◌, ℕ, Bool, true, false, not, List, [], ◌∷◌, length, filter, cond, All, Option, Some, None, slice_get, refl, if◌then◌else◌}
use Rattle.std.proofs.Common.{sym, ap, ap₂, ◌∙◌, subst}
use Rattle.std.proofs.lemmas.Option.{get_or_from_slice_get}
use Rattle.std.proofs.lemmas.List.Elements.{All-weaker, All-push, filter-append}
use Rattle.stt_core.specs.SimpleType.{formula}
use Rattle.stt_core.specs.Lambda.{Lambda}
use Rattle.stt_core.specs.Canonical.{IsCanonical}
use Rattle.stt_core.specs.SameTerm.{same_term}
use Rattle.stt_core.proofs.HeadLaws.{atom_head}
use Rattle.stt_core.proofs.SpineLaws.{IsAtom as IsLeaf}
use Rattle.tableau_calculus.specs.Kinds.{same_sign}
use Rattle.sat_base.specs.declared.literal.SatLit.{SatLit}
use Rattle.term_bank.specs.Content.{Content, content_scope}
use Rattle.term_bank.specs.Shape.{spine}
use Rattle.term_bank.specs.Terms.{term_at, shape_term}
use Rattle.term_bank.specs.NodeView.{the_shape}
use Rattle.term_bank.specs.declared.node.Node.{Node}
use Rattle.term_bank.specs.declared.node.Node.TheVariants.{Lam, App}
use Rattle.literal_map.specs.Atoms.{bank_atom, IsAtom}
use Rattle.mating_rules.specs.Noted.{Signed, Notes, kept_under, has_pairing_head, are_partners, partners_of, IsRightIndex}
use Rattle.mating_rules.specs.Internal.Pairing.{pairing_head, kept_where, KeepsWhere}
use Rattle.mating_rules.proofs.FilterLaws.{filter-agree, filter-none}
use Rattle.mating_rules.proofs.PairLaws.{head-kept, partners-head, IsHeadOf, head_of-shape}

leaves : (n : Node) (h : Lambda) (is : List ℕ) → the_shape n ≡ spine h is → IsLeaf h
leaves (App g js) h is e = let P : Lambda → Type 0 = λ u. IsLeaf u in subst P (head_same e) (atom_head g)
  where
    head_same : {g' h' : Lambda} {js' is' : List ℕ} → spine g' js' ≡ spine h' is' → g' ≡ h'
    head_same e = cc
leaves (Lam a i) h is e = cc

-- the head that is found at the node of an atom is its head for partners
found_head : (b : Content) (t : Lambda) (n : Node) → IsCanonical (content_scope b) [] formula t → t ≡ shape_term b.terms (the_shape n) → IsHeadOf t (pairing_head (the_shape n))
found_head b t n f e =
    let P : Lambda → Type 0 = λ u. IsCanonical (content_scope b) [] formula u in
    let Q : Lambda → Type 0 = λ u. IsHeadOf u (pairing_head (the_shape n)) in
    subst Q (sym e) (head_of-shape (content_scope b) b.terms (the_shape n) (leaves n) (subst P e f))

-- the same at the number of an atom in its table
pub found_at : (b : Content) (atoms : List ℕ) (v id : ℕ) (n : Node) → v < length atoms → All (IsAtom b) atoms → slice_get atoms v ≡ Some id → term_at b.terms id ≡ shape_term b.terms (the_shape n) → IsHeadOf (bank_atom b.terms atoms v) (pairing_head (the_shape n))
found_at b atoms v id n number all at e =
    found_head b (bank_atom b.terms atoms v) n (all v 0 number).is_formula (ap (term_at b.terms) (get_or_from_slice_get atoms v id 0 at) ∙ e)

turned_sign : (p q : Bool) → not (same_sign p q) ≡ same_sign (not p) q
turned_sign true q = refl
turned_sign false true = refl
turned_sign false false = refl

module _ (b : Content) (atoms : List ℕ) (all : All (IsAtom b) atoms) (i : Notes) (right : IsRightIndex b.terms atoms i) (l : SatLit) (number : l.var.0 < length atoms) where
  abbrev t : Lambda
  t = bank_atom b.terms atoms l.var.0

  abbrev Formula : Lambda → Type 0
  Formula u = IsCanonical (content_scope b) [] formula u

  formulas : All (λ (m : SatLit). Formula (bank_atom b.terms atoms m.var.0)) i.noted
  formulas = All-weaker (λ (m : SatLit). m.var.0 < length atoms) (λ m. Formula (bank_atom b.terms atoms m.var.0)) (λ m k. (all m.var.0 0 k).is_formula) i.noted right.numbers

  own : Formula t
  own = (all l.var.0 0 number).is_formula

  -- the literals of the other sign under the atom's head are the partners
  pub kept-partners : (o : Option Lambda) → IsHeadOf t o → kept_where o (not l.positive) i.heads ≡ partners_of b.terms atoms l i.noted
  kept-partners None none =
      sym (filter-none (λ m. not (same_sign l.positive m.positive) && are_partners t (bank_atom b.terms atoms m.var.0)) i.noted
      (λ m. ap (λ b. not (same_sign l.positive m.positive) && b) (none.partners (bank_atom b.terms atoms m.var.0)) ∙ no_one (not (same_sign l.positive m.positive))))
    where
      no_one : (x : Bool) → (x && false) ≡ false
      no_one true = refl
      no_one false = refl
  kept-partners (Some h) u =
      right.kept h (not l.positive)
      ∙ filter-agree (λ m. same_sign (not l.positive) m.positive && has_pairing_head h (bank_atom b.terms atoms m.var.0)) (λ m. not (same_sign l.positive m.positive) && are_partners t (bank_atom b.terms atoms m.var.0)) i.noted
      (All-weaker (λ (m : SatLit). Formula (bank_atom b.terms atoms m.var.0)) (λ m. (same_sign (not l.positive) m.positive && has_pairing_head h (bank_atom b.terms atoms m.var.0)) ≡ (not (same_sign l.positive m.positive) && are_partners t (bank_atom b.terms atoms m.var.0)))
      (λ m f. ap₂ (λ x y. x && y) (sym (turned_sign l.positive m.positive)) (ap (λ k. has_pairing_head k (bank_atom b.terms atoms m.var.0)) u.is ∙ sym (partners-head (content_scope b) t u.head own u.at u.applies u.pairing (bank_atom b.terms atoms m.var.0) f))) i.noted formulas)

  abbrev test : Lambda → Bool → SatLit → Bool
  test k sign m = same_sign sign m.positive && has_pairing_head k (bank_atom b.terms atoms m.var.0)

  one_more : (k : Lambda) (sign : Bool) → filter (test k sign) (i.noted ++ l ∷ []) ≡ (if test k sign l then kept_under k sign i.heads ++ l ∷ [] else kept_under k sign i.heads)
  one_more k sign =
      filter-append (test k sign) i.noted (l ∷ []) ∙ ap (λ xs. xs ++ filter (test k sign) (l ∷ [])) (sym (right.kept k sign)) ∙ go (test k sign l)
    where
      nil_end : (xs : List SatLit) → xs ++ [] ≡ xs
      nil_end [] = refl
      nil_end (x ∷ xs) = ap (λ ys. x ∷ ys) (nil_end xs)

      go : (x : Bool) → kept_under k sign i.heads ++ cond x (l ∷ []) [] ≡ (if x then kept_under k sign i.heads ++ l ∷ [] else kept_under k sign i.heads)
      go true = refl
      go false = nil_end (kept_under k sign i.heads)

  either_way : (x y : Bool) → (x && y) ≡ (y && x)
  either_way true true = refl
  either_way true false = refl
  either_way false true = refl
  either_way false false = refl

  -- the literal has come under the atom's head, and the index is right
  kept_on : (o : Option Lambda) → IsHeadOf t o → (heads : List (Lambda × Signed)) → KeepsWhere o l i.heads heads → (k : Lambda) (sign : Bool) → kept_under k sign heads ≡ (if test k sign l then kept_under k sign i.heads ++ l ∷ [] else kept_under k sign i.heads)
  kept_on None none heads same k sign =
      ap (kept_under k sign) same
      ∙ sym (ap (λ (x : Bool). if x then kept_under k sign i.heads ++ l ∷ [] else kept_under k sign i.heads) (ap (λ y. same_sign sign l.positive && y) (none.kept k) ∙ either_way (same_sign sign l.positive) false))
  kept_on (Some h) u heads keeps k sign =
      keeps k sign
      ∙ ap (λ (x : Bool). if x then kept_under k sign i.heads ++ l ∷ [] else kept_under k sign i.heads)
      (either_way (same_term k h) (same_sign sign l.positive) ∙ ap (λ y. same_sign sign l.positive && y) (ap (same_term k) u.is ∙ sym (head-kept (content_scope b) t u.head own u.at u.applies u.pairing k)))

  pub noted_right : (o : Option Lambda) → IsHeadOf t o → (new : Notes) → new.noted ≡ i.noted ++ l ∷ [] → KeepsWhere o l i.heads new.heads → IsRightIndex b.terms atoms new
  noted_right o u new longer keeps = record {
    numbers = let P : List SatLit → Type 0 = λ ls. All (λ (m : SatLit). m.var.0 < length atoms) ls in subst P (sym longer) (All-push (λ (m : SatLit). m.var.0 < length atoms) i.noted l right.numbers number);
    kept = λ k sign. kept_on o u new.heads keeps k sign ∙ sym (one_more k sign) ∙ ap (filter (test k sign)) (sym longer);
  }
