-- The rows and lines that are read are their texts.
use Rattle.std.proofs.Common.{◌≡◌, ℕ, zero, suc, ◌^◌, ◌<◌, ◌≤◌, ◌==◌, Bool, true, false, List, [], ◌∷◌, ◌++◌, Option, Some, None, length, map, codes, decimal, refl, sym, ap, ap₂, subst, ◌∙◌, append_assoc, append-nil, arith, if◌then◌else◌}
use Rattle.std.specs.List.{AllByRecursion}
use Rattle.std.proofs.lemmas.Bool.{eqb-true}
use Rattle.tableau_calculus.specs.declared.rule_use.RuleUse.{RuleUse}
use Rattle.refute_print.specs.Trees.{TermTree, LiteralTree, LineTree}
use Rattle.refute_print.specs.Text.{term_text, literal_text, child_text, after_commas, comma_separated, branch_text, children_text, rule_text, row_text, line_text}
use Rattle.refute_print.specs.Limits.{greatest_depth, IsWithinLimits, IsLiteralText, IsRule, IsChild, IsLine}
use Rattle.refute_text.specs.Internal.Reader.{behind_text, number_at, with_items, repeated_at}
use Rattle.refute_text.specs.Internal.TermReader.{term_text_at}
use Rattle.refute_text.specs.Internal.LineReader.{literal_text_at, child_at, some_items_at, items_at, rule_at, where_number, end_at, row_at, branch_at, children_at, behind_rule_at, with_lists, lists_at, line_at}
use Rattle.refute_text.proofs.Inversions.{found, found_first, found_second, bind_sound, front_sound, behind_some}
use Rattle.refute_text.proofs.NameReads.{number_reads}
use Rattle.refute_text.proofs.TermReads.{with_sound, term_reads}
use Rattle.refute_text.proofs.LiteralReads.{literal_reads, child_reads}
use Rattle.refute_text.proofs.RuleReads.{rule_reads}

-- a reader of items that have the text and the property
abbrev ReadsItems : {X : Type 0} → (List ℕ → Option (X × List ℕ)) → (X → List ℕ) → (X → Type 0) → Type 0
ReadsItems {X = X} item text P = (bs : List ℕ) (x : X) (r : List ℕ) → item bs ≡ Some (x, r) → (bs ≡ text x ++ r) × P x

-- items behind commas
record MoreStand {X : Type 0} (text : X → List ℕ) (P : X → Type 0) (bs : List ℕ) (xs : List X) (r : List ℕ) : Type 0 where
  text_is : bs ≡ after_commas (map text xs) ++ r
  all : AllByRecursion P xs

none_more : {X : Type 0} (text : X → List ℕ) (P : X → Type 0) (bs : List ℕ) (xs : List X) (r : List ℕ) → found [] bs ≡ found xs r → MoreStand text P bs xs r
none_more text P bs xs r h = record {
  text_is = found_second [] xs bs r h ∙ ap (λ x. after_commas (map text x) ++ r) (found_first [] xs bs r h);
  all = subst (AllByRecursion P) (found_first [] xs bs r h) tt;
}

more_read : {X : Type 0} (item : List ℕ → Option (X × List ℕ)) (text : X → List ℕ) (P : X → Type 0) → ReadsItems item text P → (n : ℕ) (bs : List ℕ) (xs : List X) (r : List ℕ) → repeated_at (codes ",") item n bs ≡ Some (xs, r) → MoreStand text P bs xs r
unfolding repeated_at
more_read item text P reads zero bs xs r h = none_more text P bs xs r h
more_read {X = X} item text P reads (suc n) bs xs r h =
    let more = λ (cs : List ℕ) (ys : List X) (s : List ℕ) (k : repeated_at (codes ",") item n cs ≡ Some (ys, s)). more_read item text P reads n cs ys s k in
    front_sound (behind_text (codes ",") bs) _ _ (xs, r) h
    (λ rest at k. bind_sound (item rest) _ (xs, r) k (λ x at1 e.
    with_sound x.0 (repeated_at (codes ",") item n x.1) xs r e (λ ys at2 same.
    let p = reads rest x.0 x.1 at1 in
    let q = more x.1 ys r at2 in
    record {
      text_is =
          behind_some (codes ",") bs rest at ∙ ap (λ t. codes "," ++ t) (p.0 ∙ ap (λ t. text x.0 ++ t) q.text_is ∙ sym (append_assoc (text x.0) (after_commas (map text ys)) r))
          ∙ ap (λ zs. after_commas (map text zs) ++ r) same;
      all = subst (AllByRecursion P) same (p.1, q.all);
    })))
    (λ k. none_more text P bs xs r k)

-- items with commas between them, and the bracket behind them
record ItemsStand {X : Type 0} (text : X → List ℕ) (P : X → Type 0) (bs : List ℕ) (xs : List X) (r : List ℕ) : Type 0 where
  text_is : bs ≡ comma_separated (map text xs) ++ (codes "]" ++ r)
  all : AllByRecursion P xs

items_stand : {X : Type 0} (text : X → List ℕ) (P : X → Type 0) (bs : List ℕ) (xs ys : List X) (r s : List ℕ) → bs ≡ comma_separated (map text xs) ++ (codes "]" ++ r) → AllByRecursion P xs → found xs r ≡ found ys s → ItemsStand text P bs ys s
items_stand text P bs xs ys r s e all h = record {
  text_is = e ∙ ap₂ (λ x y. comma_separated (map text x) ++ (codes "]" ++ y)) (found_first xs ys r s h) (found_second xs ys r s h);
  all = subst (AllByRecursion P) (found_first xs ys r s h) all;
}

-- one item before the others
first_sound : {X P : Type 0} (x : X) (o : Option (List X × List ℕ)) (p : List X × List ℕ) → with_items (x ∷ []) o ≡ Some p → ((xs : List X) (r : List ℕ) → o ≡ Some (xs, r) → found (x ∷ xs) r ≡ Some p → P) → P
first_sound x None p h k = cc
first_sound x (Some (xs, r)) p h k = k xs r refl h

items_read : {X : Type 0} (item : List ℕ → Option (X × List ℕ)) (text : X → List ℕ) (P : X → Type 0) → ReadsItems item text P → (bs : List ℕ) (xs : List X) (r : List ℕ) → items_at item bs ≡ Some (xs, r) → ItemsStand text P bs xs r
items_read item text P reads bs xs r h =
    front_sound (behind_text (codes "]") bs) (λ rest. found [] rest) (some_items_at item bs) (xs, r) h
    (λ rest at k. items_stand text P bs [] xs rest r (behind_some (codes "]") bs rest at) tt k)
    (λ h1. bind_sound (item bs) _ (xs, r) h1 (λ x at h2.
    bind_sound (with_items (x.0 ∷ []) (repeated_at (codes ",") item (length x.1) x.1)) _ (xs, r) h2 (λ ys at1 h3.
    bind_sound (behind_text (codes "]") ys.1) (λ rest. found ys.0 rest) (xs, r) h3 (λ rest at2 h4.
    first_sound x.0 (repeated_at (codes ",") item (length x.1) x.1) ys at1 (λ zs s at3 same.
    let p = reads bs x.0 x.1 at in
    let q = more_read item text P reads (length x.1) x.1 zs s at3 in
    let closed = ap (λ t. after_commas (map text zs) ++ t) (found_second (x.0 ∷ zs) ys.0 s ys.1 same ∙ behind_some (codes "]") ys.1 rest at2) in
    items_stand text P bs (x.0 ∷ zs) xs rest r
    (p.0 ∙ ap (λ t. text x.0 ++ t) (q.text_is ∙ closed) ∙ sym (append_assoc (text x.0) (after_commas (map text zs)) (codes "]" ++ rest)))
    (p.1, q.all) (ap (λ y. found y rest) (found_first (x.0 ∷ zs) ys.0 s ys.1 same) ∙ h4))))))

literals_read : ReadsItems literal_text_at literal_text IsLiteralText
literals_read bs l r h = let s = literal_reads bs l r h in (s.text, s.is_literal)

children_read : ReadsItems child_at child_text IsChild
children_read bs c r h = let s = child_reads bs c r h in (s.text, s.is_child)

-- a number that is the wanted one
number_is : (k limit : ℕ) (bs rest : List ℕ) → limit ≤ 2 ^ 64 → where_number k (number_at limit bs) ≡ Some rest → (bs ≡ decimal k ++ rest) × (k < limit)
number_is k limit bs rest small h = go (number_at limit bs) refl h
  where
    at_number : (n : ℕ) (r : List ℕ) (b : Bool) → (n == k) ≡ b → number_at limit bs ≡ Some (n, r) → (if b then Some r else None) ≡ Some rest → (bs ≡ decimal k ++ rest) × (k < limit)
    at_number n r true e at j =
        let p = number_reads limit n bs r small at in
        let same : n ≡ k = eqb-true n k e in
        let left : r ≡ rest = cc in
        (p.0 ∙ ap₂ (λ x y. decimal x ++ y) same left, subst (λ x. x < limit) same p.1)
    at_number n r false e at j = cc

    go : (o : Option (ℕ × List ℕ)) → number_at limit bs ≡ o → where_number k o ≡ Some rest → (bs ≡ decimal k ++ rest) × (k < limit)
    go None e j = cc
    go (Some (n, r)) e j = at_number n r (n == k) refl e j

pub ended : {P : Type 0} (bs : List ℕ) (end : List ℕ) → end_at bs ≡ Some end → (bs ≡ [] → P) → P
ended [] end h k = k refl
ended (c ∷ cs) end h k = cc

-- the row's text
pub record IsRowText (k : ℕ) (line : List ℕ) (t : TermTree) : Type 0 where
  pub text : line ≡ row_text k t
  pub number : k < 2 ^ 32
  pub within : IsWithinLimits t

pub row_reads : (k : ℕ) (line : List ℕ) (t : TermTree) → row_at k line ≡ Some t → IsRowText k line t
unfolding row_at
row_reads k line t h =
    bind_sound (behind_text (codes "w") line) _ t h (λ rest at h1.
    bind_sound (where_number k (number_at (2 ^ 32) rest)) _ t h1 (λ rest1 at1 h2.
    bind_sound (behind_text (codes " ") rest1) _ t h2 (λ rest2 at2 h3.
    bind_sound (term_text_at greatest_depth rest2) _ t h3 (λ u at3 h4.
    bind_sound (end_at u.1) (λ end. Some u.0) t h4 (λ end at4 h5.
    ended u.1 end at4 (λ none.
    let n = number_is k (2 ^ 32) rest rest1 (omega arith) at1 in
    let s = term_reads greatest_depth rest2 u.0 u.1 at3 in
    let same : u.0 ≡ t = cc in
    record {
      text =
          behind_some (codes "w") line rest at
          ∙ ap (λ x. codes "w" ++ x) (n.0 ∙ ap (λ x. decimal k ++ x) (behind_some (codes " ") rest1 rest2 at2 ∙ ap (λ x. codes " " ++ x) (s.text ∙ ap (λ x. term_text u.0 ++ x) none ∙ append-nil (term_text u.0) ∙ ap term_text same)));
      number = n.1;
      within = subst IsWithinLimits same (record { is_term = s.is_term; within = s.within });
    }))))))

-- the line's text
pub record IsLineText (k : ℕ) (line : List ℕ) (l : LineTree) : Type 0 where
  pub text : line ≡ line_text k l
  pub number : k < 2 ^ 64
  pub is_line : IsLine l

-- what stands behind a rule
record ListsStand (bs : List ℕ) (rule : RuleUse ℕ TermTree LiteralTree) (l : LineTree) : Type 0 where
  text : bs ≡ codes " [" ++ (branch_text l.branch ++ (codes "] [" ++ (children_text l.children ++ codes "]")))
  rule_is : l.rule ≡ rule
  branch : AllByRecursion IsLiteralText l.branch
  children : AllByRecursion IsChild l.children

line_is : (a b : LineTree) → Some a ≡ Some b → a ≡ b
line_is a b e = cc

lists_read : (rule : RuleUse ℕ TermTree LiteralTree) (bs : List ℕ) (l : LineTree) → lists_at rule bs ≡ Some l → ListsStand bs rule l
unfolding lists_at behind_rule_at
lists_read rule bs l h =
    bind_sound (behind_rule_at bs) (λ lists. Some (with_lists rule lists)) l h (λ lists at0 h2.
    bind_sound (branch_at bs) _ lists at0 (λ branch at h1.
    bind_sound (behind_text (codes " [") bs) (λ rest. items_at literal_text_at rest) branch at (λ rest at1 at2.
    bind_sound (children_at branch.1) (λ children. Some (branch.0, children)) lists h1 (λ children at3 h6.
    bind_sound (behind_text (codes " [") branch.1) _ children at3 (λ rest1 at4 h3.
    bind_sound (items_at child_at rest1) _ children h3 (λ read at5 h4.
    bind_sound (end_at read.1) (λ end. Some read.0) children h4 (λ end at6 h5.
    ended read.1 end at6 (λ none.
    let p = items_read literal_text_at literal_text IsLiteralText literals_read rest branch.0 branch.1 at2 in
    let q = items_read child_at child_text IsChild children_read rest1 read.0 read.1 at5 in
    let same : read.0 ≡ children = cc in
    let both : (branch.0, children) ≡ lists = cc in
    subst (ListsStand bs rule) (line_is (with_lists rule (branch.0, children)) l (ap (λ x. Some (with_lists rule x)) both ∙ h2)) (record {
      text =
          behind_some (codes " [") bs rest at1
          ∙ ap (λ x. codes " [" ++ x) (p.text_is ∙ ap (λ x. branch_text branch.0 ++ (codes "]" ++ x)) (behind_some (codes " [") branch.1 rest1 at4 ∙ ap (λ x. codes " [" ++ x) (q.text_is ∙ ap₂ (λ x y. children_text x ++ (codes "]" ++ y)) same none)));
      rule_is = refl;
      branch = p.all;
      children = subst (AllByRecursion IsChild) same q.all;
    })))))))))

pub line_reads : (k : ℕ) (line : List ℕ) (l : LineTree) → line_at k line ≡ Some l → IsLineText k line l
unfolding line_at
line_reads k line l h =
    bind_sound (where_number k (number_at (2 ^ 64) line)) _ l h (λ rest at h1.
    bind_sound (behind_text (codes ": ") rest) _ l h1 (λ rest1 at1 h2.
    bind_sound (rule_at rest1) (λ rule. lists_at rule.0 rule.1) l h2 (λ rule at2 h3.
    let n = number_is k (2 ^ 64) line rest (omega arith) at in
    let r = rule_reads rest1 rule.0 rule.1 at2 in
    let s = lists_read rule.0 rule.1 l h3 in
    record {
      text = n.0 ∙ ap (λ x. decimal k ++ x) (behind_some (codes ": ") rest rest1 at1 ∙ ap (λ x. codes ": " ++ x) (r.text ∙ ap₂ (λ x y. rule_text x ++ y) (sym s.rule_is) s.text));
      number = n.1;
      is_line = record { branch = s.branch; rule = subst IsRule (sym s.rule_is) r.is_rule; children = s.children };
    })))
