-- Texts between quotes, read from left to right.
use Rattle.std.proofs.Common.{◌≡◌, ◌≢◌, ◌↔◌, ℕ, zero, suc, ◌+◌, ◌-◌, ◌<◌, ◌≤◌, true, false, ◌⊎◌, inl, inr, List, [], ◌∷◌, ◌++◌, length, get_or, take, drop, refl, sym, ap, ◌∙◌, subst, arith, add-zero, min}
use Rattle.std.proofs.lemmas.Bool.{false≢true}
use Rattle.std.proofs.lemmas.Bool.Decides.{nat_tests}
use Rattle.std.proofs.lemmas.List.{length-take, length-append, get_or-take, take-take, take_at, get_or_at, take_more, drop_more, take_min, get_or-drop, length-drop}
use Rattle.thf_grammar.specs.declared.token.TokenKind.{TokenKind}
use Rattle.thf_grammar.specs.declared.token.TokenKind.TheVariants.{Lower, Upper, Quoted, Dollar, Integer, Distinct, Symbol, End, Bad}
use Rattle.thf_grammar.specs.Internal.Kind.{kind_of, IsQuoteOf}
use Rattle.thf_grammar.specs.Bytes.{backslash, is_plain, is_escaped}
use Rattle.thf_grammar.specs.Texts.{AreCharacters, none, plain, escape, IsQuotedBy, IsToken}

-- the closing quote stands behind n bytes of characters
pub record Closes (quote : ℕ) (bytes : List ℕ) (n : ℕ) : Type 0 where
  pub characters : AreCharacters quote (take n bytes)
  pub within : n < length bytes
  pub closed : get_or bytes n 0 ≡ quote

-- a backslash, what it escapes, and characters
record IsEscape (quote c : ℕ) (cs : List ℕ) : Type 0 where
  next : ℕ
  later : List ℕ
  first : c ≡ backslash
  rest : cs ≡ next ∷ later
  escapes : is_escaped quote next ≡ true
  characters : AreCharacters quote later

-- the first character, plain or escaped
first_character : (quote c : ℕ) (cs : List ℕ) → AreCharacters quote (c ∷ cs) → ((is_plain quote c ≡ true) × AreCharacters quote cs) ⊎ IsEscape quote c cs
first_character quote _ _ (plain c cs h later) = inl (h, later)
first_character quote _ _ (escape b c cs first h later) = inr (record { next = c; later = cs; first = first; rest = refl; escapes = h; characters = later })

plain_apart : (quote c : ℕ) → is_plain quote c ≡ true → (c ≢ quote) × (c ≢ backslash)
plain_apart quote c h = (λ e. grind (arith, nat_tests), λ e. grind (arith, nat_tests))

-- a quote begins no characters
quote_ends : (quote : ℕ) (cs : List ℕ) → quote ≢ backslash → AreCharacters quote (quote ∷ cs) → ⊥
quote_ends quote cs apart h = elim (first_character quote quote cs h) [ inl p ↦ (plain_apart quote quote p.0).0 refl | inr e ↦ apart e.first ]

plain_rest : (quote c : ℕ) (cs : List ℕ) → is_plain quote c ≡ true → AreCharacters quote (c ∷ cs) → AreCharacters quote cs
plain_rest quote c cs h all = elim (first_character quote c cs all) [ inl p ↦ p.1 | inr e ↦ absurd ((plain_apart quote c h).1 e.first) ]

pub closes_here : (quote : ℕ) (cs : List ℕ) → Closes quote (quote ∷ cs) 0
closes_here quote cs = record { characters = none; within = omega arith; closed = refl }

pub closes_only_here : (quote : ℕ) (cs : List ℕ) (n : ℕ) → quote ≢ backslash → Closes quote (quote ∷ cs) n → n ≡ 0
closes_only_here quote cs zero apart h = refl
closes_only_here quote cs (suc n) apart h = absurd (quote_ends quote (take n cs) apart h.characters)

pub closes_plain : (quote c : ℕ) (cs : List ℕ) (n : ℕ) → is_plain quote c ≡ true → Closes quote cs n → Closes quote (c ∷ cs) (suc n)
closes_plain quote c cs n h later = record { characters = plain c (take n cs) h later.characters; within = omega (arith, later.within); closed = later.closed }

pub closes_behind_plain : (quote c : ℕ) (cs : List ℕ) (n : ℕ) → is_plain quote c ≡ true → Closes quote (c ∷ cs) n → (k : ℕ) × (suc k ≡ n) × Closes quote cs k
closes_behind_plain quote c cs zero h all = absurd ((plain_apart quote c h).0 all.closed)
closes_behind_plain quote c cs (suc n) h all = (n, refl, record { characters = plain_rest quote c (take n cs) h all.characters; within = omega (arith, all.within); closed = all.closed })

pub closes_escape : (quote c : ℕ) (cs : List ℕ) (n : ℕ) → is_escaped quote c ≡ true → Closes quote cs n → Closes quote (backslash ∷ c ∷ cs) (suc (suc n))
closes_escape quote c cs n h later = record { characters = escape backslash c (take n cs) refl h later.characters; within = omega (arith, later.within); closed = later.closed }

escape_rest : (quote c : ℕ) (cs : List ℕ) → AreCharacters quote (backslash ∷ c ∷ cs) → AreCharacters quote cs
escape_rest quote c cs all = elim (first_character quote backslash (c ∷ cs) all) [
  | inl p ↦ absurd ((plain_apart quote backslash p.0).1 refl)
  | inr e ↦ let same : cs ≡ e.later = cc (e.rest) in subst (AreCharacters quote) (sym same) e.characters
]

pub closes_behind_escape : (quote c : ℕ) (cs : List ℕ) (n : ℕ) → quote ≢ backslash → Closes quote (backslash ∷ c ∷ cs) n → (k : ℕ) × (suc (suc k) ≡ n) × Closes quote cs k
closes_behind_escape quote c cs zero apart all = absurd (apart (sym all.closed))
closes_behind_escape quote c cs (suc zero) apart all = absurd (lone_backslash quote all.characters)
  where
    lone_backslash : (quote : ℕ) → AreCharacters quote (backslash ∷ []) → ⊥
    lone_backslash quote h = elim (first_character quote backslash [] h) [
      | inl p ↦ (plain_apart quote backslash p.0).1 refl
      | inr e ↦ cc (e.rest)
    ]
closes_behind_escape quote c cs (suc (suc n)) apart all = (
  n,
  refl,
  record {
    characters = escape_rest quote c (take n cs) all.characters;
    within = omega (arith, all.within);
    closed = all.closed;
  },
)

-- a byte that neither closes, nor stands for itself, nor escapes the next
pub closes_nowhere : (quote c : ℕ) (cs : List ℕ) (n : ℕ) → c ≢ quote → is_plain quote c ≡ false
    → (c ≡ backslash → 0 < length cs → is_escaped quote (get_or cs 0 0) ≡ false) → Closes quote (c ∷ cs) n → ⊥
closes_nowhere quote c cs zero other odd bare all = other all.closed
closes_nowhere quote c cs (suc n) other odd bare all = elim (first_character quote c (take n cs) all.characters) [
  | inl p ↦ false≢true (sym odd ∙ p.0)
  | inr e ↦
      let there : 0 < length (take n cs) = rw e.rest (omega arith) in
      let some : 0 < n = omega (arith, length-take n cs) in
      let next : get_or cs 0 0 ≡ e.next = sym (get_or-take n cs 0 0 some) ∙ ap (λ xs. get_or xs 0 0) e.rest in
      false≢true (sym (bare e.first (omega (arith, length-take n cs))) ∙ ap (is_escaped quote) next ∙ e.escapes)
]

-- From a place on the closing quote is where it is from the start on.
pub record Passed (quote : ℕ) (bytes : List ℕ) (at : ℕ) : Type 0 where
  pub begun : 1 ≤ at
  pub within : at ≤ length bytes
  pub back : (n : ℕ) → Closes quote (drop at bytes) n → Closes quote (drop 1 bytes) (n + (at - 1))
  pub forth : (n : ℕ) → Closes quote (drop 1 bytes) n → (k : ℕ) × (k + (at - 1) ≡ n) × Closes quote (drop at bytes) k

pub passed_none : (quote : ℕ) (bytes : List ℕ) → 0 < length bytes → Passed quote bytes 1
passed_none quote bytes some = record {
  begun = omega arith;
  within = omega arith;
  back = λ n h. subst (Closes quote (drop 1 bytes)) (omega arith) h;
  forth = λ n h. (n, omega arith, h);
}

pub passed_plain : (quote : ℕ) (bytes : List ℕ) (at : ℕ) → Passed quote bytes at → at < length bytes → is_plain quote (get_or bytes at 0) ≡ true → Passed quote bytes (at + 1)
passed_plain quote bytes at h there here =
    let front = drop_more bytes at 0 there in
    record {
      begun = omega arith;
      within = omega arith;
      back = λ n later.
          subst (Closes quote (drop 1 bytes)) (omega (arith, h.begun))
          (h.back (suc n) (subst (λ xs. Closes quote xs (suc n)) (sym front) (closes_plain quote (get_or bytes at 0) (drop (at + 1) bytes) n here later)));
      forth = λ n all.
          let before = h.forth n all in
          let behind = closes_behind_plain quote (get_or bytes at 0) (drop (at + 1) bytes) before.0 here (subst (λ xs. Closes quote xs before.0) front before.2) in
          (behind.0, omega (arith, before.1, behind.1, h.begun), behind.2);
    }

pub passed_escape : (quote : ℕ) (bytes : List ℕ) (at : ℕ) → quote ≢ backslash → Passed quote bytes at → at + 1 < length bytes → get_or bytes at 0 ≡ backslash → is_escaped quote (get_or bytes (at + 1) 0) ≡ true → Passed quote bytes (at + 2)
passed_escape quote bytes at apart h there first here =
    let next = get_or bytes (at + 1) 0 in
    let two : at + 1 + 1 ≡ at + 2 = omega arith in
    let behind_next : drop (at + 1) bytes ≡ next ∷ drop (at + 2) bytes = drop_more bytes (at + 1) 0 there ∙ ap (λ k. next ∷ drop k bytes) two in
    let front : drop at bytes ≡ backslash ∷ next ∷ drop (at + 2) bytes =
    drop_more bytes at 0 (omega arith) ∙ ap (λ c. c ∷ drop (at + 1) bytes) first ∙ ap (λ xs. backslash ∷ xs) behind_next in
    record {
      begun = omega arith;
      within = omega arith;
      back = λ n later.
          subst (Closes quote (drop 1 bytes)) (omega (arith, h.begun))
          (h.back (suc (suc n)) (subst (λ xs. Closes quote xs (suc (suc n))) (sym front) (closes_escape quote next (drop (at + 2) bytes) n here later)));
      forth = λ n all.
          let before = h.forth n all in
          let behind = closes_behind_escape quote next (drop (at + 2) bytes) before.0 apart (subst (λ xs. Closes quote xs before.0) front before.2) in
          (behind.0, omega (arith, before.1, behind.1, h.begun), behind.2);
    }

-- what is quoted is where the quote closes
pub quoted_from_closes : (quote : ℕ) (bytes : List ℕ) (n : ℕ) → 0 < length bytes → get_or bytes 0 0 ≡ quote → 0 < n → Closes quote (drop 1 bytes) n → IsQuotedBy quote (take (n + 2) bytes)
quoted_from_closes quote [] n some opened long h = absurd (omega arith)
quoted_from_closes quote (c ∷ cs) n some opened long h = record {
  inside = take n cs;
  some = omega (arith, length-take n cs, h.within);
  characters = h.characters;
  whole =
      let two : n + 2 ≡ suc (n + 1) = omega arith in
      ap (λ k. take k (c ∷ cs)) two ∙ ap (λ xs. c ∷ xs) (take_more cs n 0 h.within ∙ ap (λ b. take n cs ++ b ∷ []) h.closed) ∙ ap (λ b. b ∷ take n cs ++ quote ∷ []) opened;
}

closes_in : (quote : ℕ) (cs inside : List ℕ) (m : ℕ) → m ≤ length cs → 0 < length inside → AreCharacters quote inside → take m cs ≡ inside ++ quote ∷ []
    → (n : ℕ) × (0 < n) × (suc m ≡ n + 2) × Closes quote cs n
closes_in quote cs inside m short some characters whole =
    let n = length inside in
    let long : m ≡ n + 1 = omega (arith, length-take m cs, ap length whole, length-append inside (quote ∷ [])) in
    let below : n ≤ m = omega arith in
    let front : take n cs ≡ inside = sym (take-take n m cs below) ∙ ap (take n) whole ∙ take_at inside (quote ∷ []) n refl in
    let less : n < m = omega arith in (
      n,
      some,
      omega arith,
      record {
        characters = subst (AreCharacters quote) (sym front) characters;
        within = omega arith;
        closed = sym (get_or-take m cs n 0 less) ∙ ap (λ xs. get_or xs n 0) whole ∙ get_or_at inside quote [] 0 n refl;
      },
    )

pub closes_from_quoted : (quote : ℕ) (bytes : List ℕ) (m : ℕ) → m ≤ length bytes → IsQuotedBy quote (take m bytes) → (n : ℕ) × (0 < n) × (m ≡ n + 2) × Closes quote (drop 1 bytes) n
closes_from_quoted quote [] zero short h = absurd (cc (h.whole))
closes_from_quoted quote [] (suc m) short h = absurd (cc (h.whole))
closes_from_quoted quote (c ∷ cs) zero short h = absurd (cc (h.whole))
closes_from_quoted quote (c ∷ cs) (suc m) short h =
    let whole : take m cs ≡ h.inside ++ quote ∷ [] = cc (h.whole) in
    closes_in quote cs h.inside m (omega arith) h.some h.characters whole

closes_at : (quote : ℕ) (bytes : List ℕ) (at : ℕ) → at < length bytes → get_or bytes at 0 ≡ quote → Closes quote (drop at bytes) 0
closes_at quote bytes at there closed =
    subst (λ xs. Closes quote xs 0) (sym (drop_more bytes at 0 there ∙ ap (λ b. b ∷ drop (at + 1) bytes) closed)) (closes_here quote (drop (at + 1) bytes))

closes_only_at : (quote : ℕ) (bytes : List ℕ) (at n : ℕ) → quote ≢ backslash → at < length bytes → get_or bytes at 0 ≡ quote → Closes quote (drop at bytes) n → n ≡ 0
closes_only_at quote bytes at n apart there closed h =
    closes_only_here quote (drop (at + 1) bytes) n apart (subst (λ xs. Closes quote xs n) (drop_more bytes at 0 there ∙ ap (λ b. b ∷ drop (at + 1) bytes) closed) h)

-- nothing closes at a byte that stops the reading
pub stops_at : (quote : ℕ) (bytes : List ℕ) (at : ℕ) → at < length bytes → get_or bytes at 0 ≢ quote → is_plain quote (get_or bytes at 0) ≡ false
    → (get_or bytes at 0 ≡ backslash → at + 1 < length bytes → is_escaped quote (get_or bytes (at + 1) 0) ≡ false) → (n : ℕ) → Closes quote (drop at bytes) n → ⊥
stops_at quote bytes at there other odd bare n h =
    closes_nowhere quote (get_or bytes at 0) (drop (at + 1) bytes) n other odd
    (λ first some. ap (is_escaped quote) (get_or-drop (at + 1) bytes 0 0 ∙ ap (λ k. get_or bytes k 0) (add-zero (at + 1))) ∙ bare first (omega (arith, length-drop (at + 1) bytes)))
    (subst (λ xs. Closes quote xs n) (drop_more bytes at 0 there) h)

pub stops_at_end : (quote : ℕ) (bytes : List ℕ) (at : ℕ) → length bytes ≤ at → (n : ℕ) → Closes quote (drop at bytes) n → ⊥
stops_at_end quote bytes at past n h = omega (arith, h.within, length-drop at bytes)

-- where the quote closes nowhere behind a character, nothing is quoted
pub no_quoted : (quote : ℕ) (bytes : List ℕ) → ((n : ℕ) → 0 < n → Closes quote (drop 1 bytes) n → ⊥) → (m : ℕ) → IsQuotedBy quote (take m bytes) → ⊥
no_quoted quote bytes nowhere m h =
    let short : min m (length bytes) ≤ length bytes = omega arith in
    let found = closes_from_quoted quote bytes (min m (length bytes)) short (subst (IsQuotedBy quote) (sym (take_min m bytes)) h) in
    nowhere found.0 found.1 found.3

-- the place reached decides what is quoted from the start on
pub quoted_by_place : (quote : ℕ) (bytes : List ℕ) (at : ℕ) → Passed quote bytes at → ((n : ℕ) → Closes quote (drop at bytes) n → ⊥) → (m : ℕ) → IsQuotedBy quote (take m bytes) → ⊥
quoted_by_place quote bytes at h nowhere =
    no_quoted quote bytes (λ n _ all. let here = h.forth n all in nowhere here.0 here.2)

-- A quote at a place that was reached closes the text.
pub quoted_here : (quote : ℕ) (bytes : List ℕ) (at : ℕ) → Passed quote bytes at → at < length bytes → 1 < at → get_or bytes 0 0 ≡ quote → get_or bytes at 0 ≡ quote → IsQuotedBy quote (take (at + 1) bytes)
quoted_here quote bytes at h there later opened closed =
    let closes = h.back 0 (closes_at quote bytes at there closed) in
    let long : 0 + (at - 1) + 2 ≡ at + 1 = omega arith in
    subst (λ k. IsQuotedBy quote (take k bytes)) long (quoted_from_closes quote bytes (0 + (at - 1)) (omega arith) opened (omega arith) closes)

pub quoted_no_later : (quote : ℕ) (bytes : List ℕ) (at : ℕ) → quote ≢ backslash → Passed quote bytes at → at < length bytes → get_or bytes at 0 ≡ quote
    → (m : ℕ) → m ≤ length bytes → IsQuotedBy quote (take m bytes) → m ≤ at + 1
quoted_no_later quote bytes at apart h there closed m short quoted =
    let found = closes_from_quoted quote bytes m short quoted in
    let here = h.forth found.0 found.3 in
    let zero_there = closes_only_at quote bytes at here.0 apart there closed here.2 in
    omega (arith, found.2, here.1, zero_there, h.begun)

-- a closing quote straight behind the opening one encloses nothing
pub nothing_quoted : (quote : ℕ) (bytes : List ℕ) → quote ≢ backslash → 1 < length bytes → get_or bytes 1 0 ≡ quote → (m : ℕ) → IsQuotedBy quote (take m bytes) → ⊥
nothing_quoted quote bytes apart there closed =
    no_quoted quote bytes (λ n some all. omega (arith, closes_only_at quote bytes 1 n apart there closed all))

-- the tokens of a kind with this quote are what is quoted by it
pub quoted_token : (kind : TokenKind) (quote : ℕ) (text : List ℕ) → IsQuoteOf kind quote → IsQuotedBy quote text ↔ IsToken kind text
quoted_token Quoted quote text mark = (subst (λ q. IsQuotedBy q text) mark, subst (λ q. IsQuotedBy q text) (sym mark))
quoted_token Distinct quote text mark = (subst (λ q. IsQuotedBy q text) mark, subst (λ q. IsQuotedBy q text) (sym mark))
quoted_token Lower quote text mark = absurd mark
quoted_token Upper quote text mark = absurd mark
quoted_token Dollar quote text mark = absurd mark
quoted_token Integer quote text mark = absurd mark
quoted_token Symbol quote text mark = absurd mark
quoted_token End quote text mark = absurd mark
quoted_token Bad quote text mark = absurd mark

-- a byte that is the quote of a kind begins its tokens
pub quote_kind : (kind : TokenKind) (quote : ℕ) → IsQuoteOf kind quote → (kind_of quote ≡ kind) × (kind ≢ Bad) × (quote ≢ backslash)
quote_kind Quoted quote mark = (ap kind_of mark, λ e. cc, λ e. omega arith)
quote_kind Distinct quote mark = (ap kind_of mark, λ e. cc, λ e. omega arith)
quote_kind Lower quote mark = absurd mark
quote_kind Upper quote mark = absurd mark
quote_kind Dollar quote mark = absurd mark
quote_kind Integer quote mark = absurd mark
quote_kind Symbol quote mark = absurd mark
quote_kind End quote mark = absurd mark
quote_kind Bad quote mark = absurd mark
