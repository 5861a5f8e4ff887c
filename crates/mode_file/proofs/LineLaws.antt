-- What a line sets, and that it sets no more than that.
use Rattle.std.proofs.Common.{◌≡◌, ℕ, ◌<◌, ◌^◌, Bool, true, false, List, [], ◌∷◌, ◌++◌, replicate, Some, refl, sym, ap, ◌∙◌, cond, lit<}
use Rattle.std.specs.Str.{bytes_eq}
use Rattle.std.specs.List.{find}
use Rattle.std.proofs.lemmas.Slice.Eq.{bytes_eq-Decides}
use Rattle.mode_file.specs.declared.keys.Key.{Key}
use Rattle.mode_file.specs.declared.keys.Key.TheVariants.{Process, Mate, Confront, Inst, Choose, Grow, Clock, Terms, Defaults, Names, Commands, Conflicts}
use Rattle.mode_file.specs.Keys.{keys, key_name, greatest, key_of}
use Rattle.mode_file.specs.Internal.Fronts.{is_in}
use Rattle.outside.specs.Fronts.{behind_front}
use Rattle.mode_file.specs.declared.bytes.ByteClass.TheVariants.{InWord}
use Rattle.mode_file.specs.Grammar.{says_nothing, first_word, Sets}
use Rattle.outside.specs.Decimal.{number_from}
use Rattle.mode_file.specs.Internal.Reader.{digits_in}
use Rattle.mode_file.proofs.NumeralLaws.{number_found}

-- a key's name at the front of a line
pub record Begins (key : Key) (rest : List ℕ) : Type 0 where
  pub word : first_word (key_name key ++ (32 ∷ rest)) ≡ key_name key
  pub behind : behind_front (is_in InWord) (key_name key ++ (32 ∷ rest)) ≡ 32 ∷ rest
  pub says : says_nothing (key_name key ++ (32 ∷ rest)) ≡ false
  pub named : key_of (key_name key) ≡ Some key

pub begins : (key : Key) (rest : List ℕ) → Begins key rest
unfolding key_of
begins Process rest = record { word = refl; behind = refl; says = refl; named = refl }
begins Mate rest = record { word = refl; behind = refl; says = refl; named = refl }
begins Confront rest = record { word = refl; behind = refl; says = refl; named = refl }
begins Inst rest = record { word = refl; behind = refl; says = refl; named = refl }
begins Choose rest = record { word = refl; behind = refl; says = refl; named = refl }
begins Grow rest = record { word = refl; behind = refl; says = refl; named = refl }
begins Clock rest = record { word = refl; behind = refl; says = refl; named = refl }
begins Terms rest = record { word = refl; behind = refl; says = refl; named = refl }
begins Defaults rest = record { word = refl; behind = refl; says = refl; named = refl }
begins Names rest = record { word = refl; behind = refl; says = refl; named = refl }
begins Commands rest = record { word = refl; behind = refl; says = refl; named = refl }
begins Conflicts rest = record { word = refl; behind = refl; says = refl; named = refl }

found : (word : List ℕ) (ks : List Key) (key : Key) → find (λ k. bytes_eq (key_name k) word) ks ≡ Some key → word ≡ key_name key
found word [] key h = absurd (cc)
found word (k ∷ ks) key h = go (bytes_eq (key_name k) word) refl h (found word ks key)
  where
    go : (b : Bool) → bytes_eq (key_name k) word ≡ b → cond b (Some k) (find (λ l. bytes_eq (key_name l) word) ks) ≡ Some key → (find (λ l. bytes_eq (key_name l) word) ks ≡ Some key → word ≡ key_name key) → word ≡ key_name key
    go true e h rest = let same : k ≡ key = cc in sym ((bytes_eq-Decides (key_name k) word).0 e) ∙ ap key_name same
    go false e h rest = rest h

pub name_is : (word : List ℕ) (key : Key) → key_of word ≡ Some key → word ≡ key_name key
unfolding key_of
name_is word key h = found word keys key h

pub greatest_fits : (key : Key) → greatest key < 2 ^ 64
greatest_fits Process = lit< tt
greatest_fits Mate = lit< tt
greatest_fits Confront = lit< tt
greatest_fits Inst = lit< tt
greatest_fits Choose = lit< tt
greatest_fits Grow = lit< tt
greatest_fits Clock = lit< tt
greatest_fits Terms = lit< tt
greatest_fits Defaults = lit< tt
greatest_fits Names = lit< tt
greatest_fits Commands = lit< tt
greatest_fits Conflicts = lit< tt

module _ (line : List ℕ) (key : Key) (n : ℕ) (s : Sets line key n) where
  rest : List ℕ
  rest = replicate s.gap 32 ++ (s.digits ++ (replicate s.spaces 32 ++ s.ending))

  pub Sets-says : says_nothing line ≡ false
  unfolding rest
  Sets-says = ap says_nothing s.line_is ∙ (begins key rest).says

  pub Sets-key : key_of (first_word line) ≡ Some key
  unfolding rest
  Sets-key = ap (λ (l : List ℕ). key_of (first_word l)) s.line_is ∙ ap key_of (begins key rest).word ∙ (begins key rest).named

  pub Sets-digits : digits_in (behind_front (is_in InWord) line) ≡ Some s.digits
  unfolding rest
  Sets-digits =
      ap (λ (l : List ℕ). digits_in (behind_front (is_in InWord) l)) s.line_is
      ∙ ap digits_in (begins key rest).behind
      ∙ number_found (32 ∷ rest) s.digits (record { gap = s.gap; spaces = s.spaces; ending = s.ending; bytes_are = refl; decimal = s.decimal; ends = s.ends })

pub one_key : (line : List ℕ) (k l : Key) (m n : ℕ) → Sets line k m → Sets line l n → k ≡ l
one_key line k l m n s t =
    let first = Sets-key line k m s in
    let second = Sets-key line l n t in
    cc

pub one_number : (line : List ℕ) (k l : Key) (m n : ℕ) → Sets line k m → Sets line l n → m ≡ n
one_number line k l m n s t =
    let first = Sets-digits line k m s in
    let second = Sets-digits line l n t in
    let same : s.digits ≡ t.digits = cc in
    sym s.number_is ∙ ap (number_from 0) same ∙ t.number_is
