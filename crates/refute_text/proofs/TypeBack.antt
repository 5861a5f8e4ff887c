-- The texts of types are read back.
use Rattle.std.proofs.Common.{◌≡◌, ℕ, zero, suc, ◌≤◌, true, List, [], ◌∷◌, ◌++◌, Option, Some, codes, refl, ap, ◌∙◌, append_assoc, arith}
use Rattle.thf_names.specs.Names.{name_text}
use Rattle.refute_print.specs.Letters.{is_printable_name}
use Rattle.refute_print.specs.Trees.{TextTypeTree, formula, individual, named, arrow}
use Rattle.refute_print.specs.Text.{text_of_type}
use Rattle.refute_print.specs.Limits.{IsPrintableType, type_tree_depth}
use Rattle.refute_text.specs.Internal.Reader.{behind_text, name_at, named_at, arrow_at, no_type, type_from, type_at}
use Rattle.refute_text.proofs.Inversions.{found}
use Rattle.refute_text.proofs.Answers.{bind_gives, front_skips}
use Rattle.refute_text.proofs.NameBack.{stops, behind-name, name_at-text}

named_back : (grouped : List ℕ → Option (TextTypeTree × List ℕ)) (w rest : List ℕ) → is_printable_name w ≡ true → stops rest ≡ true → type_from grouped (name_text w ++ rest) ≡ found (named w) rest
named_back grouped w rest h stop =
    let bytes = name_text w ++ rest in
    front_skips (behind_text (codes "$o") bytes) _ _ (named w, rest) (behind-name 36 (111 ∷ []) w rest refl refl h)
    (front_skips (behind_text (codes "$i") bytes) _ _ (named w, rest) (behind-name 36 (105 ∷ []) w rest refl refl h)
    (front_skips (behind_text (codes "(") bytes) grouped (named_at bytes) (named w, rest) (behind-name 40 [] w rest refl refl h)
    (bind_gives (name_at bytes) (λ name. found (named name.0) name.1) (w, rest) (named w, rest) (name_at-text w rest h stop) refl)))

-- a reader that reads a type's text
abbrev ReadsBack : (List ℕ → Option (TextTypeTree × List ℕ)) → TextTypeTree → Type 0
ReadsBack inside a = (rest : List ℕ) → stops rest ≡ true → inside (text_of_type a ++ rest) ≡ found a rest

arrow_back : (inside : List ℕ → Option (TextTypeTree × List ℕ)) (a b : TextTypeTree) (rest : List ℕ) → ReadsBack inside a → ReadsBack inside b → arrow_at inside ((text_of_type a ++ (codes ">" ++ (text_of_type b ++ codes ")"))) ++ rest) ≡ found (arrow a b) rest
arrow_back inside a b rest from to =
    let behind_from = codes ">" ++ (text_of_type b ++ (codes ")" ++ rest)) in
    ap (arrow_at inside) (regroup (text_of_type a) (text_of_type b) rest)
    ∙ bind_gives (inside (text_of_type a ++ behind_from)) _ (a, behind_from) (arrow a b, rest) (from behind_from refl)
    (bind_gives (inside (text_of_type b ++ (codes ")" ++ rest))) _ (b, codes ")" ++ rest) (arrow a b, rest) (to (codes ")" ++ rest) refl) refl)
  where
    regroup : (a b r : List ℕ) → (a ++ (codes ">" ++ (b ++ codes ")"))) ++ r ≡ a ++ (codes ">" ++ (b ++ (codes ")" ++ r)))
    regroup a b r = simp append_assoc

pub type_at-text : (depth : ℕ) (a : TextTypeTree) (rest : List ℕ) → IsPrintableType a → type_tree_depth a ≤ depth → stops rest ≡ true → type_at depth (text_of_type a ++ rest) ≡ Some (a, rest)
unfolding type_at
type_at-text zero formula rest is within stop = refl
type_at-text zero individual rest is within stop = refl
type_at-text zero (named w) rest is within stop = named_back no_type w rest is stop
type_at-text zero (arrow a b) rest is within stop = absurd (omega (arith, within))
type_at-text (suc depth) formula rest is within stop = refl
type_at-text (suc depth) individual rest is within stop = refl
type_at-text (suc depth) (named w) rest is within stop = named_back (arrow_at (type_at depth)) w rest is stop
type_at-text (suc depth) (arrow a b) rest is within stop =
    arrow_back (type_at depth) a b rest (λ r s. type_at-text depth a r is.0 (omega (arith, within)) s) (λ r s. type_at-text depth b r is.1 (omega (arith, within)) s)
