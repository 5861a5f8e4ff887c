-- The names and numbers that are read stand at the front of the bytes.
use Rattle.std.proofs.Common.{◌≡◌, ℕ, ◌^◌, ◌<◌, ◌≤◌, ◌&&◌, ◌||◌, ◌==◌, not, nat_lt, Bool, true, false, List, [], ◌∷◌, ◌++◌, Option, Some, None, length, get_or, decimal, codes, refl, sym, ap, ap₂, subst, ◌∙◌, append_assoc, arith, if◌then◌else◌}
use Rattle.std.specs.List.{list_all, flat_map}
use Rattle.std.proofs.lemmas.Bool.{and_parts, eqb-true}
use Rattle.std.proofs.lemmas.Bool.Decides.{nat_tests}
use Rattle.std.proofs.lemmas.Fmt.{decimal-digits_value}
use Rattle.thf_grammar.specs.Bytes.{is_word_byte}
use Rattle.thf_grammar.specs.Printable.{is_printable}
use Rattle.thf_names.specs.Names.{is_lower_word, escaped, quoted, name_text}
use Rattle.refute_print.specs.Letters.{is_printable_name}
use Rattle.refute_text.specs.Internal.Reader.{behind_text, has_no_leading_zero, number_below, number_at, with_first, characters_at, escaped_at, needs_quotes, where_quoted, plain_at, name_at}
use Rattle.outside.specs.Fronts.{front, behind_front}
use Rattle.outside.specs.Decimal.{is_digit, number_from}
use Rattle.refute_text.proofs.Numbers.{own}
use Rattle.refute_text.proofs.Readers.{list_all-front}
use Rattle.refute_text.proofs.LowerWords.{lower_word-bytes}
use Rattle.refute_text.proofs.Inversions.{found, found_first, found_second, front_sound, behind_some, front-after}

decimal-shape : (ds : List ℕ) → has_no_leading_zero ds ≡ true → (0 < length ds) × (get_or ds 0 0 ≡ 48 → length ds ≡ 1)
decimal-shape [] h = cc
decimal-shape (c ∷ []) h = (omega arith, λ e. refl)
decimal-shape (c ∷ d ∷ ds) h = (omega arith, λ e. go (c == 48) refl h e)
  where
    go : (b : Bool) → (c == 48) ≡ b → not b ≡ true → c ≡ 48 → length (c ∷ d ∷ ds) ≡ 1
    go true q k e = cc
    go false q k e = absurd (grind (arith, nat_tests))

number_of_reads : (limit n : ℕ) (ds rest r : List ℕ) → limit ≤ 2 ^ 64 → list_all is_digit ds ≡ true → number_below limit ds rest ≡ Some (n, r) → (ds ++ rest ≡ decimal n ++ r) × (n < limit)
number_of_reads limit n ds rest r small digits h = go (has_no_leading_zero ds) (nat_lt (number_from 0 ds) limit) refl refl h
  where
    go : (p q : Bool) → has_no_leading_zero ds ≡ p → nat_lt (number_from 0 ds) limit ≡ q → (if p && q then found (number_from 0 ds) rest else None) ≡ Some (n, r) → (ds ++ rest ≡ decimal n ++ r) × (n < limit)
    go true true e f k =
        let below : number_from 0 ds < limit = grind (arith, nat_tests) in
        let shape = decimal-shape ds e in
        let value : number_from 0 ds ≡ n = found_first (number_from 0 ds) n rest r k in
        let same_rest : rest ≡ r = found_second (number_from 0 ds) n rest r k in
        let same : decimal (number_from 0 ds) ≡ ds = decimal-digits_value own ds digits shape.0 shape.1 (omega (arith, below, small)) in
        (ap₂ (λ x y. x ++ y) (sym same ∙ ap decimal value) same_rest, subst (λ x. x < limit) value below)
    go true false e f k = cc
    go false q e f k = cc

pub number_reads : (limit n : ℕ) (bs r : List ℕ) → limit ≤ 2 ^ 64 → number_at limit bs ≡ Some (n, r) → (bs ≡ decimal n ++ r) × (n < limit)
unfolding number_at
number_reads limit n bs r small h =
    let p = number_of_reads limit n (front is_digit bs) (behind_front is_digit bs) r small (list_all-front is_digit bs) h in
    (sym (front-after is_digit bs) ∙ p.0, p.1)

-- a character of a name in quotes, and more of them
more_characters : (c : ℕ) (before cs r v w : List ℕ) → is_printable c ≡ true → escaped c ≡ before → found (c ∷ v) r ≡ found w r → cs ≡ flat_map escaped v ++ (39 ∷ r) → list_all is_printable v ≡ true → (before ++ cs ≡ flat_map escaped w ++ (39 ∷ r)) × (list_all is_printable w ≡ true)
more_characters c before cs r v w p e q h k =
    let same : c ∷ v ≡ w = found_first (c ∷ v) w r r q in (
      ap₂ (λ x y. x ++ y) (sym e) h ∙ sym (append_assoc (escaped c) (flat_map escaped v) (39 ∷ r)) ∙ ap (λ x. flat_map escaped x ++ (39 ∷ r)) same,
      ap (list_all is_printable) (sym same) ∙ ap₂ (λ x y. x && y) p k,
    )

escaped-quote : (c : ℕ) → (c == 39) || (c == 92) ≡ true → (escaped c ≡ 92 ∷ c ∷ []) × (is_printable c ≡ true)
escaped-quote c h = (ap (λ b. if b then 92 ∷ c ∷ [] else c ∷ []) h, go (c == 39) (c == 92) refl refl h)
  where
    go : (p q : Bool) → (c == 39) ≡ p → (c == 92) ≡ q → p || q ≡ true → is_printable c ≡ true
    go true q e f k = ap is_printable (eqb-true c 39 e)
    go false true e f k = ap is_printable (eqb-true c 92 f)
    go false false e f k = cc

escaped-other : (c : ℕ) → (c == 39) ≡ false → (c == 92) ≡ false → escaped c ≡ c ∷ []
escaped-other c e f = ap₂ (λ p q. if p || q then 92 ∷ c ∷ [] else c ∷ []) e f

first_sound : {P : Type 0} (c : ℕ) (o : Option (List ℕ × List ℕ)) (w r : List ℕ) → with_first c o ≡ Some (w, r) → ((v : List ℕ) → o ≡ Some (v, r) → c ∷ v ≡ w → P) → P
first_sound c None w r h k = cc
first_sound c (Some (v, s)) w r h k =
    let rest : s ≡ r = found_second (c ∷ v) w s r h in
    let same : c ∷ v ≡ w = found_first (c ∷ v) w s r h in
    k v (ap (found v) rest) same

-- what characters up to the closing quote are
abbrev Characters : List ℕ → List ℕ → List ℕ → Type 0
Characters cs w r = (cs ≡ flat_map escaped w ++ (39 ∷ r)) × (list_all is_printable w ≡ true)

character_cases : (c : ℕ) (cs w r : List ℕ) (q b p : Bool) → (c == 39) ≡ q → (c == 92) ≡ b → is_printable c ≡ p → ((v : List ℕ) → characters_at cs ≡ Some (v, r) → Characters cs v r) → (escaped_at cs ≡ Some (w, r) → Characters (92 ∷ cs) w r) → (if q then found [] cs else (if b then escaped_at cs else (if p then with_first c (characters_at cs) else None))) ≡ Some (w, r) → Characters (c ∷ cs) w r
character_cases c cs w r true b p e f g more behind_backslash h =
    let none : [] ≡ w = found_first [] w cs r h in
    let rest : cs ≡ r = found_second [] w cs r h in
    (ap₂ (λ x y. x ∷ y) (eqb-true c 39 e) rest ∙ ap (λ x. flat_map escaped x ++ (39 ∷ r)) none, ap (list_all is_printable) (sym none))
character_cases c cs w r false true p e f g more behind_backslash h =
    let k = behind_backslash h in (ap (λ x. x ∷ cs) (eqb-true c 92 f) ∙ k.0, k.1)
character_cases c cs w r false false true e f g more behind_backslash h =
    first_sound c (characters_at cs) w r h (λ v k same. let m = more v k in more_characters c (c ∷ []) cs r v w g (escaped-other c e f) (ap (λ x. found x r) same) m.0 m.1)
character_cases c cs w r false false false e f g more behind_backslash h = cc

escaped_cases : (c : ℕ) (cs w r : List ℕ) (q : Bool) → (c == 39) || (c == 92) ≡ q → ((v : List ℕ) → characters_at cs ≡ Some (v, r) → Characters cs v r) → (if q then with_first c (characters_at cs) else None) ≡ Some (w, r) → Characters (92 ∷ c ∷ cs) w r
escaped_cases c cs w r true e more h =
    let q = escaped-quote c e in
    first_sound c (characters_at cs) w r h (λ v k same. let m = more v k in more_characters c (92 ∷ c ∷ []) cs r v w q.1 q.0 (ap (λ x. found x r) same) m.0 m.1)
escaped_cases c cs w r false e more h = cc

mutual
  pub characters_read : (cs w r : List ℕ) → characters_at cs ≡ Some (w, r) → Characters cs w r
  characters_read [] w r h = cc
  characters_read (c ∷ cs) w r h =
      character_cases c cs w r (c == 39) (c == 92) (is_printable c) refl refl refl (λ v. characters_read cs v r) (escaped_read cs w r) h

  escaped_read : (cs w r : List ℕ) → escaped_at cs ≡ Some (w, r) → Characters (92 ∷ cs) w r
  escaped_read [] w r h = cc
  escaped_read (c ∷ cs) w r h = escaped_cases c cs w r ((c == 39) || (c == 92)) refl (λ v. characters_read cs v r) h

word_byte-printable : (c : ℕ) → is_word_byte c ≡ true → is_printable c ≡ true
word_byte-printable c h = go (is_printable c) refl
  where
    go : (b : Bool) → is_printable c ≡ b → is_printable c ≡ true
    go true e = e
    go false e = absurd (grind (arith, nat_tests, h, e))

word-printable : (w : List ℕ) → list_all is_word_byte w ≡ true → list_all is_printable w ≡ true
word-printable [] h = refl
word-printable (c ∷ cs) h =
    let p = and_parts (is_word_byte c) (list_all is_word_byte cs) h in
    ap₂ (λ x y. x && y) (word_byte-printable c p.0) (word-printable cs p.1)

lower_word-is_name : (w : List ℕ) → is_lower_word w ≡ true → is_printable_name w ≡ true
lower_word-is_name [] h = cc
lower_word-is_name (c ∷ cs) h = word-printable (c ∷ cs) (lower_word-bytes (c ∷ cs) h)

plain_reads : (bs w r : List ℕ) → plain_at bs ≡ Some (w, r) → (bs ≡ name_text w ++ r) × (is_printable_name w ≡ true)
plain_reads bs w r h = go (is_lower_word (front is_word_byte bs)) refl h
  where
    go : (b : Bool) → is_lower_word (front is_word_byte bs) ≡ b → (if b then found (front is_word_byte bs) (behind_front is_word_byte bs) else None) ≡ Some (w, r) → (bs ≡ name_text w ++ r) × (is_printable_name w ≡ true)
    go true e k =
        let name : front is_word_byte bs ≡ w = found_first (front is_word_byte bs) w (behind_front is_word_byte bs) r k in
        let rest : behind_front is_word_byte bs ≡ r = found_second (front is_word_byte bs) w (behind_front is_word_byte bs) r k in
        let plain : is_lower_word w ≡ true = ap is_lower_word (sym name) ∙ e in
        (sym (front-after is_word_byte bs) ∙ ap₂ (λ x y. x ++ y) name rest ∙ ap (λ x. x ++ r) (sym (ap (λ b. if b then w else quoted w) plain)), lower_word-is_name w plain)
    go false e k = cc

quoted_sound : {P : Type 0} (o : Option (List ℕ × List ℕ)) (w r : List ℕ) → where_quoted o ≡ Some (w, r) → (o ≡ Some (w, r) → needs_quotes w ≡ true → P) → P
quoted_sound None w r h k = cc
quoted_sound {P = P} (Some s) w r h k = go (needs_quotes s.0) refl h
  where
    go : (b : Bool) → needs_quotes s.0 ≡ b → (if b then Some s else None) ≡ Some (w, r) → P
    go true e j = let first : s.0 ≡ w = cc in k j (ap needs_quotes (sym first) ∙ e)
    go false e j = cc

quotes_needed : (w : List ℕ) → needs_quotes w ≡ true → list_all is_printable w ≡ true → (name_text w ≡ quoted w) × (is_printable_name w ≡ true)
quotes_needed [] h k = cc
quotes_needed (c ∷ cs) h k = (go (is_lower_word (c ∷ cs)) refl h, k)
  where
    go : (b : Bool) → is_lower_word (c ∷ cs) ≡ b → not b ≡ true → name_text (c ∷ cs) ≡ quoted (c ∷ cs)
    go true e j = cc
    go false e j = ap (λ b. if b then c ∷ cs else quoted (c ∷ cs)) e

pub name_reads : (bs w r : List ℕ) → name_at bs ≡ Some (w, r) → (bs ≡ name_text w ++ r) × (is_printable_name w ≡ true)
unfolding name_at
name_reads bs w r h =
    front_sound (behind_text (codes "'") bs) (λ rest. where_quoted (characters_at rest)) (plain_at bs) (w, r) h
    (λ rest at k. quoted_sound (characters_at rest) w r k (λ found needs.
    let p = characters_read rest w r found in
    let q = quotes_needed w needs p.1 in
    (behind_some (codes "'") bs rest at ∙ ap (λ x. codes "'" ++ x) (p.0 ∙ sym (append_assoc (flat_map escaped w) (codes "'") r)) ∙ ap (λ x. x ++ r) (sym q.0), q.1)))
    (λ k. plain_reads bs w r k)
