-- The literals and children that are read stand at the front of the bytes.
use Rattle.std.proofs.Common.{◌≡◌, ℕ, ◌^◌, ◌≤◌, Bool, true, false, List, ◌++◌, Some, None, length, codes, refl, sym, ap, ap₂, subst, ◌∙◌, append_assoc, arith, length-append, if◌then◌else◌}
use Rattle.tableau_calculus.specs.declared.refutation.Child.{Child}
use Rattle.tableau_calculus.specs.declared.refutation.Child.TheVariants.{Closed, Line as Numbered}
use Rattle.refute_print.specs.Trees.{TermTree, LiteralTree}
use Rattle.refute_print.specs.Text.{term_text, sign_text, literal_text, child_text}
use Rattle.refute_print.specs.Limits.{is_negated_text, greatest_depth, IsLiteralText, IsChild}
use Rattle.refute_text.specs.Internal.Reader.{behind_text, number_at}
use Rattle.refute_text.specs.Internal.TermReader.{term_text_at}
use Rattle.refute_text.specs.Internal.LineReader.{read_literal, unsigned_at, signed_text_at, literal_text_at, child_at}
use Rattle.refute_text.proofs.Inversions.{found, found_first, found_second, bind_sound, front_sound, behind_some}
use Rattle.refute_text.proofs.NameReads.{number_reads}
use Rattle.refute_text.proofs.TermReads.{TermStands, term_reads}

-- the literal's text is at the front of the bytes
pub record LiteralStands (bs : List ℕ) (l : LiteralTree) (r : List ℕ) : Type 0 where
  pub text : bs ≡ literal_text l ++ r
  pub is_literal : IsLiteralText l

unsigned_reads : (positive : Bool) (bs : List ℕ) (t : TermTree) (rest : List ℕ) (l : LiteralTree) (r : List ℕ) → TermStands greatest_depth bs t rest → unsigned_at positive t rest ≡ Some (l, r) → LiteralStands (sign_text positive ++ bs) l r
unsigned_reads positive bs t rest l r s h = go (is_negated_text t) refl h
  where
    go : (b : Bool) → is_negated_text t ≡ b → (if b then None else found (read_literal positive t) rest) ≡ Some (l, r) → LiteralStands (sign_text positive ++ bs) l r
    go true e k = cc
    go false e k =
        let same : read_literal positive t ≡ l = found_first (read_literal positive t) l rest r k in
        record {
          text = ap (λ x. sign_text positive ++ x) s.text ∙ sym (append_assoc (sign_text positive) (term_text t) rest) ∙ ap₂ (λ x y. literal_text x ++ y) same (found_second (read_literal positive t) l rest r k);
          is_literal = subst IsLiteralText same (record { atom = record { is_term = s.is_term; within = s.within }; unsigned = e });
        }

signed_reads : (positive : Bool) (bs : List ℕ) (l : LiteralTree) (r : List ℕ) → signed_text_at positive bs ≡ Some (l, r) → LiteralStands (sign_text positive ++ bs) l r
signed_reads positive bs l r h =
    bind_sound (term_text_at greatest_depth bs) (λ t. unsigned_at positive t.0 t.1) (l, r) h (λ t at k.
    unsigned_reads positive bs t.0 t.1 l r (term_reads greatest_depth bs t.0 t.1 at) k)

pub literal_reads : (bs : List ℕ) (l : LiteralTree) (r : List ℕ) → literal_text_at bs ≡ Some (l, r) → LiteralStands bs l r
unfolding literal_text_at
literal_reads bs l r h =
    front_sound (behind_text (codes "+") bs) (signed_text_at true) _ (l, r) h
    (λ rest at k. subst (λ x. LiteralStands x l r) (sym (behind_some (codes "+") bs rest at)) (signed_reads true rest l r k))
    (λ h1. front_sound (behind_text (codes "-") bs) (signed_text_at false) None (l, r) h1
    (λ rest at k. subst (λ x. LiteralStands x l r) (sym (behind_some (codes "-") bs rest at)) (signed_reads false rest l r k))
    (λ k. cc))

pub literal_shorter : (bs : List ℕ) (l : LiteralTree) (r : List ℕ) → literal_text_at bs ≡ Some (l, r) → length r ≤ length bs
literal_shorter bs l r h =
    let whole = ap length (literal_reads bs l r h).text ∙ length-append (literal_text l) r in
    omega (arith, whole)

-- the child's text is at the front of the bytes
pub record ChildStands (bs : List ℕ) (c : Child) (r : List ℕ) : Type 0 where
  pub text : bs ≡ child_text c ++ r
  pub is_child : IsChild c

child_stands : (bs : List ℕ) (c d : Child) (r s : List ℕ) → bs ≡ child_text c ++ r → IsChild c → found c r ≡ found d s → ChildStands bs d s
child_stands bs c d r s text is h = record {
  text = text ∙ ap₂ (λ x y. child_text x ++ y) (found_first c d r s h) (found_second c d r s h);
  is_child = subst IsChild (found_first c d r s h) is;
}

pub child_reads : (bs : List ℕ) (c : Child) (r : List ℕ) → child_at bs ≡ Some (c, r) → ChildStands bs c r
unfolding child_at
child_reads bs c r h =
    front_sound (behind_text (codes "x") bs) (λ rest. found Closed rest) _ (c, r) h
    (λ rest at k. child_stands bs Closed c rest r (behind_some (codes "x") bs rest at) tt k)
    (λ h1. bind_sound (number_at (2 ^ 64) bs) (λ k. found (Numbered k.0) k.1) (c, r) h1 (λ n at k.
    let p = number_reads (2 ^ 64) n.0 bs n.1 (omega arith) at in
    child_stands bs (Numbered n.0) c n.1 r p.0 p.1 k))

pub child_shorter : (bs : List ℕ) (c : Child) (r : List ℕ) → child_at bs ≡ Some (c, r) → length r ≤ length bs
child_shorter bs c r h =
    let whole = ap length (child_reads bs c r h).text ∙ length-append (child_text c) r in
    omega (arith, whole)
