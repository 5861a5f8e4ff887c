-- Literals that are found by their texts.
use Rattle.std.proofs.Common.{◌≡◌, ℕ, zero, suc, Bool, true, false, not, List, [], ◌∷◌, ◌++◌, Option, Some, None, option_map, map, get_or, slice_get, position, take, length, length-append, arith, ◌-◌, refl, sym, ap, ap₂, ◌∙◌, ◌==◌, ⊎_elim, if◌then◌else◌}
use Rattle.std.specs.Prelude.{IfSome}
use Rattle.std.specs.Cmp.Lexicographic.{bytes_decides}
use Rattle.std.specs.Str.{bytes_eq}
use Rattle.std.proofs.Math.Seq.{take-append_seam}
use Rattle.indexmap.specs.IndexSet.{insert_key}
use Rattle.std.specs.Borrow.{Bor}
use Rattle.std.specs.List.{AllByRecursion, list_any}
use Rattle.std.proofs.lemmas.Bool.{eqb-true, or_cases}
use Rattle.std.proofs.lemmas.Option.{same_Some, slice_get-map, slice_get-get_or}
use Rattle.std.proofs.lemmas.List.{map-append}
use Rattle.std.proofs.lemmas.List.Quantifiers.{position-Some}
use Rattle.refute_print.specs.Trees.{LiteralTree}
use Rattle.thf_grammar.specs.Bytes.{is_word_byte}
use Rattle.refute_print.specs.Limits.{IsLiteralText}
use Rattle.refute_print.specs.Text.{literal_text}
use Rattle.refute_text.specs.Internal.Known.{ends_literal, AreTexts}
use Rattle.refute_text.specs.Internal.LineReader.{literal_text_at}
use Rattle.refute_text.proofs.NameBack.{stops}
use Rattle.refute_text.proofs.LiteralBack.{literal_at-text}

-- a literal that has this text
pub record IsTextAt (literals : List LiteralTree) (place : ℕ) (text : List ℕ) : Type 0 where
  pub literal : LiteralTree
  pub there : slice_get literals place ≡ Some literal
  pub text_is : literal_text literal ≡ text
  pub is_literal : IsLiteralText literal

text_at : (ls : List LiteralTree) (i : ℕ) (t : List ℕ) → AllByRecursion IsLiteralText ls → slice_get (map literal_text ls) i ≡ Some t → IsTextAt ls i t
text_at [] i t all h = cc
text_at (l ∷ ls) zero t all h = record { literal = l; there = refl; text_is = same_Some (literal_text l) t h; is_literal = all.0 }
text_at (l ∷ ls) (suc i) t all h =
    let f = text_at ls i t all.1 h in
    record { literal = f.literal; there = f.there; text_is = f.text_is; is_literal = f.is_literal }

pub found : (ls : List LiteralTree) (ts : List (Bor (List ℕ))) (i : ℕ) (t : Bor (List ℕ)) → AreTexts ls ts → slice_get ts i ≡ Some t → IsTextAt ls i t.now
found ls ts i t are h =
    text_at ls i t.now are.0 (ap (λ xs. slice_get xs i) are.1 ∙ slice_get-map (λ (x : Bor (List ℕ)). x.now) ts i ∙ ap (option_map (λ (x : Bor (List ℕ)). x.now)) h)

-- no two literals have the same text
one_text : (l m : LiteralTree) → IsLiteralText l → IsLiteralText m → literal_text l ≡ literal_text m → l ≡ m
one_text l m h g e =
    let same : Some (l, []) ≡ Some (m, []) = sym (literal_at-text l [] h refl) ∙ ap (λ t. literal_text_at (t ++ [])) e ∙ literal_at-text m [] g refl in
    ap (λ (p : LiteralTree × List ℕ). p.0) (same_Some (l, []) (m, []) same)

pub found_literal : (ls : List LiteralTree) (ts : List (Bor (List ℕ))) (i : ℕ) (t : Bor (List ℕ)) (l : LiteralTree) → AreTexts ls ts → slice_get ts i ≡ Some t → t.now ≡ literal_text l → IsLiteralText l → slice_get ls i ≡ Some l
found_literal ls ts i t l are h e is =
    let f = found ls ts i t are h in
    f.there ∙ ap Some (one_text f.literal l f.is_literal is (f.text_is ∙ e))

all-more : (ls : List LiteralTree) (l : LiteralTree) → AllByRecursion IsLiteralText ls → IsLiteralText l → AllByRecursion IsLiteralText (ls ++ l ∷ [])
all-more [] l h g = (g, tt)
all-more (k ∷ ls) l h g = (h.0, all-more ls l h.1 g)

-- one literal more with its text
pub texts-more : (ls : List LiteralTree) (ts : List (Bor (List ℕ))) (l : LiteralTree) (t : Bor (List ℕ)) → AreTexts ls ts → t.now ≡ literal_text l → IsLiteralText l → AreTexts (ls ++ l ∷ []) (ts ++ t ∷ [])
texts-more ls ts l t are e is = (
  all-more ls l are.0 is,
  map-append literal_text ls (l ∷ []) ∙ ap₂ (λ xs x. xs ++ x ∷ []) are.1 (sym e) ∙ sym (map-append (λ (x : Bor (List ℕ)). x.now) ts (t ∷ [])),
)

abbrev pub same_text : Bor (List ℕ) → Bor (List ℕ) → Bool
same_text a b = bytes_eq a.now b.now

-- what is found is the place of a literal that has the text
abbrev pub IsFoundAt : List LiteralTree → List ℕ → Option ℕ → Type 0
IsFoundAt ls text o = IfSome o (λ place. (l : LiteralTree) × (slice_get ls place ≡ Some l) × (literal_text l ≡ text) × IsLiteralText l)

pub found_place : (ls : List LiteralTree) (ts : List (Bor (List ℕ))) (text : Bor (List ℕ)) (o : Option ℕ) → AreTexts ls ts → o ≡ position (same_text text) ts → IsFoundAt ls text.now o
found_place ls ts text None are h = tt
found_place ls ts text (Some i) are h =
    let p = position-Some (same_text text) ts i text (sym h) in
    let t = get_or ts i text in
    let f = found ls ts i t are (slice_get-get_or ts i text p.0) in
    (f.literal, f.there, f.text_is ∙ sym ((bytes_decides text.now t.now).0 p.1), f.is_literal)

-- a text that comes as a new one, or is there
pub text_added : (ts : List (Bor (List ℕ))) (t : Bor (List ℕ)) (b : Bool) → b ≡ not (list_any (same_text t) ts) → b ≡ true → insert_key same_text ts t ≡ ts ++ t ∷ []
text_added ts t b h e = go (list_any (same_text t) ts) (sym h ∙ e)
  where
    go : (a : Bool) → not a ≡ true → (if a then ts else ts ++ t ∷ []) ≡ ts ++ t ∷ []
    go true k = cc
    go false k = refl

pub text_kept : (ts : List (Bor (List ℕ))) (t : Bor (List ℕ)) (b : Bool) → b ≡ not (list_any (same_text t) ts) → b ≡ false → insert_key same_text ts t ≡ ts
text_kept ts t b h e = go (list_any (same_text t) ts) (sym h ∙ e)
  where
    go : (a : Bool) → not a ≡ false → (if a then ts else ts ++ t ∷ []) ≡ ts
    go true k = refl
    go false k = cc

-- the place of a text that is stored
pub stored_literal : (ls : List LiteralTree) (ts : List (Bor (List ℕ))) (text : Bor (List ℕ)) (l : LiteralTree) (i : ℕ) → AreTexts ls ts → text.now ≡ literal_text l → IsLiteralText l → ((k : Bor (List ℕ)) × (slice_get ts i ≡ Some k) × (same_text text k ≡ true)) → slice_get ls i ≡ Some l
stored_literal ls ts text l i are e is s =
    found_literal ls ts i s.0 l are s.1 (sym ((bytes_decides text.now s.0.now).0 s.2) ∙ e) is

ends_stops : (rest : List ℕ) → ends_literal rest ≡ true → stops rest ≡ true
ends_stops [] h = refl
ends_stops (c ∷ cs) h =
    ⊎_elim (λ e. ap (λ x. not (is_word_byte x)) (eqb-true c 44 e)) (λ e. ap (λ x. not (is_word_byte x)) (eqb-true c 93 e)) (or_cases (c == 44) (c == 93) h)

-- what is read where a literal's text stands before its end
pub known_reads : (l : LiteralTree) (front rest bytes : List ℕ) → literal_text l ≡ front → IsLiteralText l → front ++ rest ≡ bytes → ends_literal rest ≡ true → literal_text_at bytes ≡ Some (l, rest)
known_reads l front rest bytes e is whole ends =
    ap literal_text_at (sym whole ∙ ap (λ t. t ++ rest) (sym e)) ∙ literal_at-text l rest is (ends_stops rest ends)

-- the prefix before what follows
pub front_of : (front rest bytes : List ℕ) → bytes ≡ front ++ rest → take (length bytes - length rest) bytes ≡ front
front_of front rest bytes e =
    let whole = ap length e ∙ length-append front rest in
    let n : length bytes - length rest ≡ length front = omega (arith, whole) in
    ap₂ (λ k bs. take k bs) n e ∙ take-append_seam front rest
