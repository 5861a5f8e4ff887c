-- The terms that are read stand at the front of the bytes.
use Rattle.std.proofs.Common.{◌≡◌, ℕ, zero, suc, ◌^◌, ◌<◌, ◌≤◌, List, [], ◌∷◌, ◌++◌, Option, Some, None, length, codes, decimal, refl, sym, ap, ap₂, subst, ◌∙◌, append_assoc, arith, length-append}
use Rattle.refute_print.specs.Trees.{TextTypeTree, ConstantTree, name, witness, falsity, negation, implication, all, equality, choice, description, TermTree, bound, constant, lam, applied_tree}
use Rattle.refute_print.specs.Text.{text_of_type, constant_text, term_text}
use Rattle.refute_print.specs.Limits.{IsPrintableType, type_tree_depth, IsConstant, constant_depth, IsTerm, term_depth}
use Rattle.refute_text.specs.Internal.Reader.{behind_text, number_at, name_at, type_at, with_item, repeated_at}
use Rattle.refute_text.specs.Internal.TermReader.{TermAt, counted_at, named_head_at, opened_type_at, bracketed_type_at, bracketed_at, dollar_head_at, head_text_at, arguments_at, applied_to, application_at, lambda_at, no_term, term_text_at}
use Rattle.refute_text.proofs.Inversions.{found, found_first, found_second, bind_sound, front_sound, behind_some}
use Rattle.refute_text.proofs.NameReads.{name_reads, number_reads}
use Rattle.refute_text.proofs.TypeReads.{TypeStands, type_reads}
use Rattle.refute_text.proofs.TreeTexts.{IsHead, arguments_text, AreTerms, term_text-applied, applied-is_term}

-- the term's text is at the front of the bytes
pub record TermStands (depth : ℕ) (bs : List ℕ) (t : TermTree) (r : List ℕ) : Type 0 where
  pub text : bs ≡ term_text t ++ r
  pub is_term : IsTerm t
  pub within : term_depth t ≤ depth

term_stands : (depth : ℕ) (bs : List ℕ) (t u : TermTree) (r s : List ℕ) → bs ≡ term_text t ++ r → IsTerm t → term_depth t ≤ depth → found t r ≡ found u s → TermStands depth bs u s
term_stands depth bs t u r s text is within h =
    let same : t ≡ u = found_first t u r s h in
    let rest : r ≡ s = found_second t u r s h in
    record {
      text = text ∙ ap₂ (λ x y. term_text x ++ y) same rest;
      is_term = subst IsTerm same is;
      within = subst (λ x. term_depth x ≤ depth) same within;
    }

-- the same of a head
pub record HeadStands (depth : ℕ) (bs : List ℕ) (t : TermTree) (r : List ℕ) : Type 0 where
  pub head : IsHead t
  pub text : bs ≡ term_text t ++ r
  pub is_term : IsTerm t
  pub within : term_depth t ≤ depth

head_stands : (depth : ℕ) (bs : List ℕ) (t u : TermTree) (r s : List ℕ) → IsHead t → bs ≡ term_text t ++ r → IsTerm t → term_depth t ≤ depth → found t r ≡ found u s → HeadStands depth bs u s
head_stands depth bs t u r s head text is within h =
    let same : t ≡ u = found_first t u r s h in
    let stands = term_stands depth bs t u r s text is within h in
    record { head = subst IsHead same head; text = stands.text; is_term = stands.is_term; within = stands.within }

counted_reads : (depth : ℕ) (make : ℕ → TermTree) (mark bs : List ℕ) (t : TermTree) (r : List ℕ) → ((k : ℕ) → IsHead (make k) × ((term_text (make k) ≡ mark ++ decimal k) × ((k < 2 ^ 32 → IsTerm (make k)) × (term_depth (make k) ≡ 0)))) → counted_at make bs ≡ Some (t, r) → HeadStands depth (mark ++ bs) t r
counted_reads depth make mark bs t r made h =
    bind_sound (number_at (2 ^ 32) bs) (λ k. found (make k.0) k.1) (t, r) h (λ k at e.
    let p = number_reads (2 ^ 32) k.0 bs k.1 (omega arith) at in
    let m = made k.0 in
    head_stands depth (mark ++ bs) (make k.0) t k.1 r m.0
    (ap (λ x. mark ++ x) p.0 ∙ sym (append_assoc mark (decimal k.0) k.1) ∙ ap (λ x. x ++ k.1) (sym m.1.0))
    (m.1.1.0 p.1) (let z = m.1.1.1 in omega (arith, z)) e)

named_head_reads : (depth : ℕ) (bs : List ℕ) (t : TermTree) (r : List ℕ) → named_head_at bs ≡ Some (t, r) → HeadStands depth bs t r
named_head_reads depth bs t r h =
    bind_sound (name_at bs) (λ w. found (constant (name w.0)) w.1) (t, r) h (λ w at e.
    let p = name_reads bs w.0 w.1 at in
    head_stands depth bs (constant (name w.0)) t w.1 r tt p.0 p.1 (omega arith) e)

opened_reads : (depth : ℕ) (bs : List ℕ) (a : TextTypeTree) (r : List ℕ) → opened_type_at depth bs ≡ Some (a, r) → TypeStands (depth) bs a r × (suc (type_tree_depth a) ≤ depth)
opened_reads zero bs a r h = cc
opened_reads (suc depth) bs a r h =
    let s = type_reads depth bs a r h in
    let w = s.within in
    (record { text = s.text; is_type = s.is_type; within = omega (arith, w) }, omega (arith, w))

bracketed_reads : (depth : ℕ) (make : TextTypeTree → ConstantTree) (mark bs : List ℕ) (t : TermTree) (r : List ℕ) → ((a : TextTypeTree) → (constant_text (make a) ≡ mark ++ (text_of_type a ++ codes "]")) × ((IsPrintableType a → IsConstant (make a)) × (constant_depth (make a) ≡ suc (type_tree_depth a)))) → bracketed_at make depth bs ≡ Some (t, r) → HeadStands depth (mark ++ bs) t r
bracketed_reads depth make mark bs t r made h =
    bind_sound (bracketed_type_at depth bs) (λ a. found (constant (make a.0)) a.1) (t, r) h (λ b at0 e0.
    bind_sound (opened_type_at depth bs) _ b at0 (λ a at e1.
    bind_sound (behind_text (codes "]") a.1) (λ rest. found a.0 rest) b e1 (λ rest at1 e2.
    let p = opened_reads depth bs a.0 a.1 at in
    let m = made a.0 in
    let w = p.1 in
    let z = m.1.1 in
    head_stands depth (mark ++ bs) (constant (make a.0)) t rest r tt
    (ap (λ x. mark ++ x) (p.0.text ∙ ap (λ x. text_of_type a.0 ++ x) (behind_some (codes "]") a.1 rest at1)) ∙ regroup mark (text_of_type a.0) rest ∙ ap (λ x. x ++ rest) (sym m.0))
    (m.1.0 p.0.is_type) (omega (arith, w, z))
    (ap₂ (λ x y. found (constant (make x)) y) (found_first a.0 b.0 rest b.1 e2) (found_second a.0 b.0 rest b.1 e2) ∙ e0))))
  where
    regroup : (m a r : List ℕ) → m ++ (a ++ (codes "]" ++ r)) ≡ (m ++ (a ++ codes "]")) ++ r
    regroup m a r = simp append_assoc

word_reads : (depth : ℕ) (c : ConstantTree) (mark bs : List ℕ) (t : TermTree) (r : List ℕ) → constant_text c ≡ mark → IsConstant c → constant_depth c ≡ 0 → found (constant c) bs ≡ Some (t, r) → HeadStands depth (mark ++ bs) t r
word_reads depth c mark bs t r text is zero_depth h =
    head_stands depth (mark ++ bs) (constant c) t bs r tt (ap (λ x. x ++ bs) (sym text)) is (omega (arith, zero_depth)) h

dollar_reads : (depth : ℕ) (bs : List ℕ) (t : TermTree) (r : List ℕ) → dollar_head_at depth bs ≡ Some (t, r) → HeadStands depth (codes "$" ++ bs) t r
unfolding dollar_head_at
dollar_reads depth bs t r h =
    let P = λ (x : List ℕ). HeadStands depth (codes "$" ++ x) t r in
    front_sound (behind_text (codes "f") bs) _ _ (t, r) h
    (λ rest at k. subst P (sym (behind_some (codes "f") bs rest at)) (word_reads depth falsity (codes "$f") rest t r refl tt refl k))
    (λ h1. front_sound (behind_text (codes "not") bs) _ _ (t, r) h1
    (λ rest at k. subst P (sym (behind_some (codes "not") bs rest at)) (word_reads depth negation (codes "$not") rest t r refl tt refl k))
    (λ h2. front_sound (behind_text (codes "imp") bs) _ _ (t, r) h2
    (λ rest at k. subst P (sym (behind_some (codes "imp") bs rest at)) (word_reads depth implication (codes "$imp") rest t r refl tt refl k))
    (λ h3. front_sound (behind_text (codes "w") bs) _ _ (t, r) h3
    (λ rest at k. subst P (sym (behind_some (codes "w") bs rest at)) (counted_reads depth (λ i. constant (witness i)) (codes "$w") rest t r (λ i. (tt, (refl, (λ l. l, refl)))) k))
    (λ h4. front_sound (behind_text (codes "all[") bs) _ _ (t, r) h4
    (λ rest at k. subst P (sym (behind_some (codes "all[") bs rest at)) (bracketed_reads depth all (codes "$all[") rest t r (λ a. (refl, (λ i. i, refl))) k))
    (λ h5. front_sound (behind_text (codes "eq[") bs) _ _ (t, r) h5
    (λ rest at k. subst P (sym (behind_some (codes "eq[") bs rest at)) (bracketed_reads depth equality (codes "$eq[") rest t r (λ a. (refl, (λ i. i, refl))) k))
    (λ h6. front_sound (behind_text (codes "eps[") bs) _ _ (t, r) h6
    (λ rest at k. subst P (sym (behind_some (codes "eps[") bs rest at)) (bracketed_reads depth choice (codes "$eps[") rest t r (λ a. (refl, (λ i. i, refl))) k))
    (λ h7. front_sound (behind_text (codes "the[") bs) _ _ (t, r) h7
    (λ rest at k. subst P (sym (behind_some (codes "the[") bs rest at)) (bracketed_reads depth description (codes "$the[") rest t r (λ a. (refl, (λ i. i, refl))) k))
    (λ h8. cc))))))))

pub head_reads : (depth : ℕ) (bs : List ℕ) (t : TermTree) (r : List ℕ) → head_text_at depth bs ≡ Some (t, r) → HeadStands depth bs t r
unfolding head_text_at
head_reads depth bs t r h =
    front_sound (behind_text (codes "$") bs) (dollar_head_at depth) _ (t, r) h
    (λ rest at k. subst (λ x. HeadStands depth x t r) (sym (behind_some (codes "$") bs rest at)) (dollar_reads depth rest t r k))
    (λ h1. front_sound (behind_text (codes "#") bs) (counted_at bound) (named_head_at bs) (t, r) h1
    (λ rest at k. subst (λ x. HeadStands depth x t r) (sym (behind_some (codes "#") bs rest at)) (counted_reads depth bound (codes "#") rest t r (λ i. (tt, (refl, (λ l. l, refl)))) k))
    (λ k. named_head_reads depth bs t r k))

-- the arguments' texts are at the front of the bytes
pub record ArgumentsStand (depth : ℕ) (bs : List ℕ) (us : List TermTree) (r : List ℕ) : Type 0 where
  pub text : bs ≡ arguments_text us ++ r
  pub are_terms : AreTerms depth us

none_stand : (depth : ℕ) (bs : List ℕ) (us : List TermTree) (r : List ℕ) → found [] bs ≡ found us r → ArgumentsStand depth bs us r
none_stand depth bs us r h = record {
  text = found_second [] us bs r h ∙ ap (λ x. arguments_text x ++ r) (found_first [] us bs r h);
  are_terms = subst (AreTerms depth) (found_first [] us bs r h) tt;
}

pub with_sound : {P X : Type 0} (x : X) (o : Option (List X × List ℕ)) (xs : List X) (r : List ℕ) → with_item x o ≡ Some (xs, r) → ((ys : List X) → o ≡ Some (ys, r) → x ∷ ys ≡ xs → P) → P
with_sound x None xs r h k = cc
with_sound x (Some (ys, s)) xs r h k =
    k ys (ap (found ys) (found_second (x ∷ ys) xs s r h)) (found_first (x ∷ ys) xs s r h)

pub arguments_read : (depth : ℕ) (term : List ℕ → TermAt) → ((bs : List ℕ) (t : TermTree) (r : List ℕ) → term bs ≡ Some (t, r) → TermStands depth bs t r) → (n : ℕ) (bs : List ℕ) (us : List TermTree) (r : List ℕ) → arguments_at term n bs ≡ Some (us, r) → ArgumentsStand depth bs us r
unfolding repeated_at
arguments_read depth term reads zero bs us r h = none_stand depth bs us r h
arguments_read depth term reads (suc n) bs us r h =
    let more = λ (cs : List ℕ) (vs : List TermTree) (s : List ℕ) (k : arguments_at term n cs ≡ Some (vs, s)). arguments_read depth term reads n cs vs s k in
    front_sound (behind_text (codes " ") bs) _ _ (us, r) h
    (λ rest at k. bind_sound (term rest) _ (us, r) k (λ u at1 e.
    with_sound u.0 (arguments_at term n u.1) us r e (λ vs at2 same.
    let p = reads rest u.0 u.1 at1 in
    let q = more u.1 vs r at2 in
    record {
      text =
          behind_some (codes " ") bs rest at ∙ ap (λ x. codes " " ++ x) (p.text ∙ ap (λ x. term_text u.0 ++ x) q.text)
          ∙ ap (λ x. codes " " ++ x) (sym (append_assoc (term_text u.0) (arguments_text vs) r)) ∙ ap (λ x. arguments_text x ++ r) same;
      are_terms = subst (AreTerms depth) same (p.is_term, (p.within, q.are_terms));
    })))
    (λ k. none_stand depth bs us r k)

applied_reads : (depth : ℕ) (bs : List ℕ) (h : TermTree) (hr : List ℕ) (us : List TermTree) (ur rest : List ℕ) (t : TermTree) (r : List ℕ) → HeadStands depth bs h hr → ArgumentsStand depth hr us ur → ur ≡ codes ")" ++ rest → applied_to h us rest ≡ Some (t, r) → TermStands (suc depth) (codes "(" ++ bs) t r
applied_reads depth bs h hr [] ur rest t r hs as' e k = cc
applied_reads depth bs h hr (u ∷ us) ur rest t r hs as' e k =
    let is = applied-is_term depth h u us hs.head hs.is_term hs.within as'.are_terms in
    term_stands (suc depth) (codes "(" ++ bs) (applied_tree h (u ∷ us)) t rest r
    (ap (λ x. codes "(" ++ x) (hs.text ∙ ap (λ x. term_text h ++ x) (as'.text ∙ ap (λ x. arguments_text (u ∷ us) ++ x) e)) ∙ regroup (term_text h) (arguments_text (u ∷ us)) rest ∙ ap (λ x. x ++ rest) (sym (term_text-applied h u us hs.head)))
    is.0 is.1 k
  where
    regroup : (h us r : List ℕ) → codes "(" ++ (h ++ (us ++ (codes ")" ++ r))) ≡ (codes "(" ++ (h ++ (us ++ codes ")"))) ++ r
    regroup h us r = simp append_assoc

application_reads : (depth : ℕ) (term : List ℕ → TermAt) (bs : List ℕ) (t : TermTree) (r : List ℕ) → ((cs : List ℕ) (u : TermTree) (s : List ℕ) → term cs ≡ Some (u, s) → TermStands depth cs u s) → application_at depth term bs ≡ Some (t, r) → TermStands (suc depth) (codes "(" ++ bs) t r
application_reads depth term bs t r reads k =
    bind_sound (head_text_at depth bs) _ (t, r) k (λ h at k1.
    bind_sound (arguments_at term (length h.1) h.1) _ (t, r) k1 (λ us at1 k2.
    bind_sound (behind_text (codes ")") us.1) _ (t, r) k2 (λ rest at2 k3.
    applied_reads depth bs h.0 h.1 us.0 us.1 rest t r (head_reads depth bs h.0 h.1 at) (arguments_read depth term reads (length h.1) h.1 us.0 us.1 at1) (behind_some (codes ")") us.1 rest at2) k3)))

lambda_reads : (depth : ℕ) (term : List ℕ → TermAt) (bs : List ℕ) (t : TermTree) (r : List ℕ) → ((cs : List ℕ) (u : TermTree) (s : List ℕ) → term cs ≡ Some (u, s) → TermStands depth cs u s) → lambda_at depth term bs ≡ Some (t, r) → TermStands (suc depth) (codes "^" ++ bs) t r
lambda_reads depth term bs t r reads k =
    bind_sound (type_at depth bs) _ (t, r) k (λ a at k1.
    bind_sound (behind_text (codes ".") a.1) _ (t, r) k1 (λ rest at1 k2.
    bind_sound (term rest) (λ s. found (lam a.0 s.0) s.1) (t, r) k2 (λ s at2 k3.
    let p = type_reads depth bs a.0 a.1 at in
    let q = reads rest s.0 s.1 at2 in
    term_stands (suc depth) (codes "^" ++ bs) (lam a.0 s.0) t s.1 r
    (ap (λ x. codes "^" ++ x) (p.text ∙ ap (λ x. text_of_type a.0 ++ x) (behind_some (codes ".") a.1 rest at1 ∙ ap (λ x. codes "." ++ x) q.text)) ∙ regroup (text_of_type a.0) (term_text s.0) s.1)
    (p.is_type, q.is_term) (let m = p.within in let n = q.within in omega (arith, m, n)) k3)))
  where
    regroup : (a s r : List ℕ) → codes "^" ++ (a ++ (codes "." ++ (s ++ r))) ≡ (codes "^" ++ (a ++ (codes "." ++ s))) ++ r
    regroup a s r = simp append_assoc

leaf_reads : (depth : ℕ) (bs : List ℕ) (t : TermTree) (r : List ℕ) → head_text_at depth bs ≡ Some (t, r) → TermStands depth bs t r
leaf_reads depth bs t r h = let s = head_reads depth bs t r h in record { text = s.text; is_term = s.is_term; within = s.within }

pub term_reads : (depth : ℕ) (bs : List ℕ) (t : TermTree) (r : List ℕ) → term_text_at depth bs ≡ Some (t, r) → TermStands depth bs t r
unfolding term_text_at
term_reads zero bs t r h =
    front_sound (behind_text (codes "^") bs) no_term _ (t, r) h (λ rest at k. cc)
    (λ h1. front_sound (behind_text (codes "(") bs) no_term _ (t, r) h1 (λ rest at k. cc) (λ k. leaf_reads zero bs t r k))
term_reads (suc depth) bs t r h =
    let inside = λ (cs : List ℕ) (u : TermTree) (s : List ℕ) (k : term_text_at depth cs ≡ Some (u, s)). term_reads depth cs u s k in
    front_sound (behind_text (codes "^") bs) (lambda_at depth (term_text_at depth)) _ (t, r) h
    (λ rest at k. subst (λ x. TermStands (suc depth) x t r) (sym (behind_some (codes "^") bs rest at)) (lambda_reads depth (term_text_at depth) rest t r inside k))
    (λ h1. front_sound (behind_text (codes "(") bs) (application_at depth (term_text_at depth)) _ (t, r) h1
    (λ rest at k. subst (λ x. TermStands (suc depth) x t r) (sym (behind_some (codes "(") bs rest at)) (application_reads depth (term_text_at depth) rest t r inside k))
    (λ k. leaf_reads (suc depth) bs t r k))

pub term_shorter : (depth : ℕ) (bs : List ℕ) (t : TermTree) (r : List ℕ) → term_text_at depth bs ≡ Some (t, r) → length r ≤ length bs
term_shorter depth bs t r h =
    let whole = ap length (term_reads depth bs t r h).text ∙ length-append (term_text t) r in
    omega (arith, whole)
