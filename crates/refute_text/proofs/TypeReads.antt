-- The types that are read stand at the front of the bytes.
use Rattle.std.proofs.Common.{◌≡◌, ℕ, zero, suc, ◌≤◌, List, ◌++◌, Option, Some, codes, sym, ap, ap₂, subst, ◌∙◌, append_assoc, arith}
use Rattle.refute_print.specs.Trees.{TextTypeTree, formula, individual, named, arrow}
use Rattle.refute_print.specs.Text.{text_of_type}
use Rattle.refute_print.specs.Limits.{IsPrintableType, type_tree_depth}
use Rattle.refute_text.specs.Internal.Reader.{behind_text, name_at, named_at, arrow_at, no_type, type_from, type_at}
use Rattle.refute_text.proofs.Inversions.{found, found_first, found_second, bind_sound, front_sound, behind_some}
use Rattle.refute_text.proofs.NameReads.{name_reads}

-- the type's text is at the front of the bytes
pub record TypeStands (depth : ℕ) (bs : List ℕ) (a : TextTypeTree) (r : List ℕ) : Type 0 where
  pub text : bs ≡ text_of_type a ++ r
  pub is_type : IsPrintableType a
  pub within : type_tree_depth a ≤ depth

stands_at : (depth : ℕ) (bs : List ℕ) (a b : TextTypeTree) (r s : List ℕ) → bs ≡ text_of_type a ++ r → IsPrintableType a → type_tree_depth a ≤ depth → found a r ≡ found b s → TypeStands depth bs b s
stands_at depth bs a b r s text is within h =
    let same : a ≡ b = found_first a b r s h in
    let rest : r ≡ s = found_second a b r s h in
    record {
      text = text ∙ ap₂ (λ x y. text_of_type x ++ y) same rest;
      is_type = subst IsPrintableType same is;
      within = subst (λ x. type_tree_depth x ≤ depth) same within;
    }

named_reads : (depth : ℕ) (bs : List ℕ) (a : TextTypeTree) (r : List ℕ) → named_at bs ≡ Some (a, r) → TypeStands depth bs a r
named_reads depth bs a r h =
    bind_sound (name_at bs) (λ name. found (named name.0) name.1) (a, r) h
    (λ name at k. let p = name_reads bs name.0 name.1 at in stands_at depth bs (named name.0) a name.1 r p.0 p.1 (omega arith) k)

arrow_reads : (depth : ℕ) (inside : List ℕ → Option (TextTypeTree × List ℕ)) (bs : List ℕ) (a : TextTypeTree) (r : List ℕ) → ((cs : List ℕ) (b : TextTypeTree) (s : List ℕ) → inside cs ≡ Some (b, s) → TypeStands depth cs b s) → arrow_at inside bs ≡ Some (a, r) → TypeStands (suc depth) (codes "(" ++ bs) a r
arrow_reads depth inside bs a r reads h =
    bind_sound (inside bs) _ (a, r) h (λ from at h1.
    bind_sound (behind_text (codes ">") from.1) _ (a, r) h1 (λ rest at1 h2.
    bind_sound (inside rest) _ (a, r) h2 (λ to at2 h3.
    bind_sound (behind_text (codes ")") to.1) _ (a, r) h3 (λ end at3 h4.
    let p = reads bs from.0 from.1 at in
    let q = reads rest to.0 to.1 at2 in
    stands_at (suc depth) (codes "(" ++ bs) (arrow from.0 to.0) a end r
    (ap (λ x. codes "(" ++ x) (p.text ∙ ap (λ x. text_of_type from.0 ++ x) (behind_some (codes ">") from.1 rest at1 ∙ ap (λ x. codes ">" ++ x) (q.text ∙ ap (λ x. text_of_type to.0 ++ x) (behind_some (codes ")") to.1 end at3))))
    ∙ regroup (text_of_type from.0) (text_of_type to.0) end)
    (p.is_type, q.is_type) (let m = p.within in let n = q.within in omega (arith, m, n)) h4))))
  where
    regroup : (a b r : List ℕ) → codes "(" ++ (a ++ (codes ">" ++ (b ++ (codes ")" ++ r)))) ≡ (codes "(" ++ (a ++ (codes ">" ++ (b ++ codes ")")))) ++ r
    regroup a b r = simp append_assoc

from_reads : (depth : ℕ) (grouped : List ℕ → Option (TextTypeTree × List ℕ)) (bs : List ℕ) (a : TextTypeTree) (r : List ℕ) → ((cs : List ℕ) → grouped cs ≡ Some (a, r) → TypeStands depth (codes "(" ++ cs) a r) → type_from grouped bs ≡ Some (a, r) → TypeStands depth bs a r
from_reads depth grouped bs a r reads h =
    front_sound (behind_text (codes "$o") bs) (λ rest. found formula rest) _ (a, r) h
    (λ rest at k. stands_at depth bs formula a rest r (behind_some (codes "$o") bs rest at) tt (omega arith) k)
    (λ h1. front_sound (behind_text (codes "$i") bs) (λ rest. found individual rest) _ (a, r) h1
    (λ rest at k. stands_at depth bs individual a rest r (behind_some (codes "$i") bs rest at) tt (omega arith) k)
    (λ h2. front_sound (behind_text (codes "(") bs) grouped (named_at bs) (a, r) h2
    (λ rest at k. subst (λ x. TypeStands depth x a r) (sym (behind_some (codes "(") bs rest at)) (reads rest k))
    (λ k. named_reads depth bs a r k)))

pub type_reads : (depth : ℕ) (bs : List ℕ) (a : TextTypeTree) (r : List ℕ) → type_at depth bs ≡ Some (a, r) → TypeStands depth bs a r
unfolding type_at
type_reads zero bs a r h = from_reads zero no_type bs a r (λ cs k. cc) h
type_reads (suc depth) bs a r h = from_reads (suc depth) (arrow_at (type_at depth)) bs a r (λ cs k. arrow_reads depth (type_at depth) cs a r (λ ds b s j. type_reads depth ds b s j) k) h
