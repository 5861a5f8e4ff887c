-- Readers that decide by the tokens up to and including the first one that they leave, and pass no token that stands nowhere in a
-- statement.
use Rattle.std.proofs.Common.{◌≡◌, ℕ, suc, ◌+◌, ◌<◌, ◌≤◌, List, [], ◌∷◌, ◌++◌, length, Bool, true, false, Option, Some, None, refl, sym, ap, ◌∙◌, append_assoc, length-append, arith}
use Rattle.std.proofs.lemmas.List.{append_cancel_right}
use Rattle.thf_grammar.specs.declared.terminal.Terminal.{Terminal}
use Rattle.thf_grammar.specs.declared.terminal.Terminal.TheVariants as terminal
use Rattle.thf_grammar.specs.Words.{Lexeme, terminal_of}
use Rattle.thf_parse.specs.Internal.Outcome.{Outcome, found, wrong, deep, Reader, ◌>>=◌, first_terminal, place_of_first, first_name, lexemes_behind, enter}

-- the tokens from which the outcome goes on
abbrev pub rest_of : {A : Type 0} → Outcome A → List Lexeme
rest_of (found x rest) = rest
rest_of (wrong rest) = rest
rest_of (deep rest) = rest

abbrev pub with_rest : {A : Type 0} → Outcome A → List Lexeme → Outcome A
with_rest (found x rest) other = found x other
with_rest (wrong rest) other = wrong other
with_rest (deep rest) other = deep other

-- a terminal that may stand in a statement
abbrev pub is_proper : Terminal → Bool
is_proper terminal.End = false
is_proper terminal.Other = false
is_proper _ = true

pub data ArePassed : List Lexeme → Type 0 where
  none : ArePassed []
  more : (t : Lexeme) (ts : List Lexeme) → is_proper (terminal_of t) ≡ true → ArePassed ts → ArePassed (t ∷ ts)

passed-append : (ts us : List Lexeme) → ArePassed ts → ArePassed us → ArePassed (ts ++ us)
passed-append [] us h k = k
passed-append (_ ∷ _) us (more t ts p h) k = more t (ts ++ us) p (passed-append ts us h k)

-- the first token that the reader leaves decides, and what stands behind it makes no difference
pub record Decided {A : Type 0} (r : Reader A) (ts : List Lexeme) : Type 0 where
  pub front : List Lexeme
  pub whole : ts ≡ front ++ rest_of (r ts)
  pub passed : ArePassed front
  pub same : (t : Lexeme) (back other : List Lexeme) → rest_of (r ts) ≡ t ∷ back → r (front ++ t ∷ other) ≡ with_rest (r ts) (t ∷ other)

abbrev pub IsLocal : {A : Type 0} → Reader A → Type 0
IsLocal r = (ts : List Lexeme) → Decided r ts

-- of tokens that begin with this terminal
abbrev pub IsLocalAt : {A : Type 0} → Terminal → Reader A → Type 0
IsLocalAt x r = (ts : List Lexeme) → first_terminal ts ≡ x → Decided r ts

module _ {A : Type 0} where
  pub local-found : (x : A) → IsLocal (λ ts. found x ts)
  local-found x ts = record { front = []; whole = refl; passed = none; same = λ t back other e. refl }

  pub local-wrong : IsLocal {A = A} (λ ts. wrong ts)
  local-wrong ts = record { front = []; whole = refl; passed = none; same = λ t back other e. refl }

  pub local-deep : IsLocal {A = A} (λ ts. deep ts)
  local-deep ts = record { front = []; whole = refl; passed = none; same = λ t back other e. refl }

  pub at : (x : Terminal) (r : Reader A) → IsLocal r → IsLocalAt x r
  at x r l ts e = l ts

  pub local-behind : (x : Terminal) (r : Reader A) → is_proper x ≡ true → IsLocal r → IsLocalAt x (λ ts. r (lexemes_behind ts))
  unfolding lexemes_behind first_terminal
  local-behind x r p l [] e = let q : is_proper terminal.Other ≡ true = ap is_proper e ∙ p in cc
  local-behind x r p l (s ∷ ts) e =
      let d = l ts in
      record { front = s ∷ d.front; whole = ap (λ us. s ∷ us) d.whole; passed = more s d.front (ap is_proper e ∙ p) d.passed; same = d.same }

-- a reader that looks at something of the first token
module _ {A B : Type 0} (h : List Lexeme → B) (g : B → Reader A) (same : (t : Lexeme) (ts us : List Lexeme) → h (t ∷ ts) ≡ h (t ∷ us)) where
  first : (front ts : List Lexeme) (t : Lexeme) (back other : List Lexeme) → ts ≡ front ++ t ∷ back → h (front ++ t ∷ other) ≡ h ts
  first [] ts t back other q = same t other back ∙ ap h (sym q)
  first (x ∷ xs) ts t back other q = same x (xs ++ t ∷ other) (xs ++ t ∷ back) ∙ ap h (sym q)

  pub decided-head : (ts : List Lexeme) → Decided (g (h ts)) ts → Decided (λ us. g (h us) us) ts
  decided-head ts d = record {
    front = d.front;
    whole = d.whole;
    passed = d.passed;
    same = λ t back other e. ap (λ x. g x (d.front ++ t ∷ other)) (first d.front ts t back other (d.whole ∙ ap (λ us. d.front ++ us) e)) ∙ d.same t back other e;
  }

-- one reader after another
decided-bind : {A B : Type 0} (r : Reader A) (f : A → Reader B) (ts : List Lexeme) (o : Outcome A) → r ts ≡ o → Decided r ts → ((x : A) (rest : List Lexeme) → Decided (f x) rest) → Decided (λ us. r us >>= f) ts
decided-bind r f ts (wrong rest) e d m = record {
  front = d.front;
  whole = d.whole ∙ ap (λ o. d.front ++ rest_of o) e ∙ ap (λ o. d.front ++ rest_of (o >>= f)) (sym e);
  passed = d.passed;
  same = λ t back other q.
      ap (λ o. o >>= f) (d.same t back other (ap rest_of e ∙ ap (λ o. rest_of (o >>= f)) (sym e) ∙ q) ∙ ap (λ o. with_rest o (t ∷ other)) e)
      ∙ sym (ap (λ o. with_rest (o >>= f) (t ∷ other)) e);
}
decided-bind r f ts (deep rest) e d m = record {
  front = d.front;
  whole = d.whole ∙ ap (λ o. d.front ++ rest_of o) e ∙ ap (λ o. d.front ++ rest_of (o >>= f)) (sym e);
  passed = d.passed;
  same = λ t back other q.
      ap (λ o. o >>= f) (d.same t back other (ap rest_of e ∙ ap (λ o. rest_of (o >>= f)) (sym e) ∙ q) ∙ ap (λ o. with_rest o (t ∷ other)) e)
      ∙ sym (ap (λ o. with_rest (o >>= f) (t ∷ other)) e);
}
decided-bind {A} {B} r f ts (found x rest) e d m = record {
  front = d.front ++ (m x rest).front;
  whole =
      d.whole ∙ ap (λ o. d.front ++ rest_of o) e
      ∙ ap (λ us. d.front ++ us) (m x rest).whole
      ∙ sym (append_assoc d.front (m x rest).front (rest_of (f x rest)))
      ∙ ap (λ o. (d.front ++ (m x rest).front) ++ rest_of (o >>= f)) (sym e);
  passed = passed-append d.front (m x rest).front d.passed (m x rest).passed;
  same = λ t back other q.
      let p : rest_of (f x rest) ≡ t ∷ back = ap (λ o. rest_of (o >>= f)) (sym e) ∙ q in
      ap (λ us. r us >>= f) (append_assoc d.front (m x rest).front (t ∷ other))
      ∙ step (m x rest).front t back other ((m x rest).whole ∙ ap (λ us. (m x rest).front ++ us) p)
      ∙ (m x rest).same t back other p
      ∙ ap (λ o. with_rest (o >>= f) (t ∷ other)) (sym e);
}
  where
    step : (ys : List Lexeme) (t : Lexeme) (back other : List Lexeme) → rest ≡ ys ++ t ∷ back → (r (d.front ++ (ys ++ t ∷ other)) >>= f) ≡ f x (ys ++ t ∷ other)
    step [] t back other p = ap (λ o. o >>= f) (d.same t back other (ap rest_of e ∙ p) ∙ ap (λ o. with_rest o (t ∷ other)) e)
    step (y ∷ ys) t back other p = ap (λ o. o >>= f) (d.same y (ys ++ t ∷ back) (ys ++ t ∷ other) (ap rest_of e ∙ p) ∙ ap (λ o. with_rest o (y ∷ ys ++ t ∷ other)) e)

pub local-bind : {A B : Type 0} (r : Reader A) (f : A → Reader B) → IsLocal r → ((x : A) → IsLocal (f x)) → IsLocal (λ ts. r ts >>= f)
local-bind r f l m ts = decided-bind r f ts (r ts) refl (l ts) (λ x rest. m x rest)

pub bind-at : {A B : Type 0} (x : Terminal) (r : Reader A) (f : A → Reader B) → IsLocalAt x r → ((y : A) → IsLocal (f y)) → IsLocalAt x (λ ts. r ts >>= f)
bind-at x r f l m ts e = decided-bind r f ts (r ts) refl (l ts e) (λ y rest. m y rest)

pub local-terminal : {A : Type 0} (g : Terminal → Reader A) → ((x : Terminal) → IsLocalAt x (g x)) → IsLocal (λ ts. g (first_terminal ts) ts)
unfolding first_terminal
local-terminal g l ts = decided-head first_terminal g (λ t ts us. refl) ts (l (first_terminal ts) ts refl)

pub place-at : {A : Type 0} (y : Terminal) (g : ℕ → Reader A) → ((x : ℕ) → IsLocalAt y (g x)) → IsLocalAt y (λ ts. g (place_of_first ts) ts)
unfolding place_of_first
place-at y g l ts e = decided-head place_of_first g (λ t ts us. refl) ts (l (place_of_first ts) ts e)

pub name-at : {A : Type 0} (y : Terminal) (g : List ℕ → Reader A) → ((x : List ℕ) → IsLocalAt y (g x)) → IsLocalAt y (λ ts. g (first_name ts) ts)
unfolding first_name
name-at y g l ts e = decided-head first_name g (λ t ts us. refl) ts (l (first_name ts) ts e)

abbrev pub AreLocal : {R : Type 0} → (R → Type 0) → Option R → Type 0
AreLocal L None = Unit {0}
AreLocal L (Some r) = L r

pub enter-at : {A R : Type 0} (x : Terminal) (L : R → Type 0) (inside : Option R) (f : R → Reader A) → AreLocal L inside → ((r : R) → L r → IsLocalAt x (f r)) → IsLocalAt x (λ ts. enter inside ts (λ r. f r ts))
enter-at x L None f h l = at x (λ ts. deep ts) local-deep
enter-at x L (Some r) f h l = l r h

-- the tokens that are left are no more
pub rest-length : {A : Type 0} (r : Reader A) → IsLocal r → (ts : List Lexeme) → length (rest_of (r ts)) ≤ length ts
rest-length r l ts = let d = l ts in omega (arith, ap length d.whole, length-append d.front (rest_of (r ts)))

-- a reader that counts down, from more than there are tokens
pub local-counted : {A : Type 0} (r : ℕ → Reader A) → ((n : ℕ) → IsLocal (r n)) → ((n m : ℕ) (ts : List Lexeme) → length ts < n → length ts < m → r n ts ≡ r m ts) → IsLocal (λ ts. r (suc (length ts)) ts)
local-counted r l enough ts = record {
  front = d.front;
  whole = d.whole;
  passed = d.passed;
  same = λ t back other e.
      let us = d.front ++ t ∷ other in
      let n = suc (length ts + length us) in
      let more = l n ts in
      let as_before : r n ts ≡ r (suc (length ts)) ts = enough n (suc (length ts)) ts (omega arith) (omega arith) in
      let rests : rest_of (r n ts) ≡ rest_of (r (suc (length ts)) ts) = ap rest_of as_before in
      let fronts : more.front ≡ d.front = append_cancel_right more.front d.front (rest_of (r (suc (length ts)) ts)) (ap (λ k. more.front ++ k) (sym rests) ∙ sym more.whole ∙ d.whole) in
      enough (suc (length us)) n us (omega arith) (omega arith)
      ∙ ap (λ f. r n (f ++ t ∷ other)) (sym fronts)
      ∙ more.same t back other (rests ∙ e)
      ∙ ap (λ o. with_rest o (t ∷ other)) as_before;
}
  where
    d : Decided (r (suc (length ts))) ts
    d = l (suc (length ts)) ts
