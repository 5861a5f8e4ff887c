-- Marks are read as the grammar says.
use Rattle.std.proofs.Common.{◌≡◌, ℕ, ◌≤◌, List, [], ◌∷◌, ◌++◌, Bool, true, false, if◌then◌else◌, refl, sym, ap, subst, ◌∙◌, arith}
use Rattle.thf_grammar.specs.declared.terminal.Mark.{Mark}
use Rattle.thf_grammar.specs.declared.terminal.Mark.TheVariants as mark
use Rattle.thf_grammar.specs.declared.terminal.Terminal.{Terminal}
use Rattle.thf_grammar.specs.declared.terminal.Terminal.TheVariants as terminal
use Rattle.thf_grammar.specs.Internal.Marks.{same_mark, is_mark}
use Rattle.thf_grammar.specs.Words.{Lexeme, Word, plain, terminal_of, Is}
use Rattle.thf_parse.specs.Internal.Outcome.{Outcome, found, wrong, Reader, ◌>>=◌, first_terminal, lexemes_behind, expect, expect_by}
use Rattle.thf_parse.proofs.Locals.{IsLocal, IsLocalAt, is_proper, at, local-found, local-wrong, local-behind, local-bind, local-terminal}
use Rattle.thf_parse.proofs.Finds.{word, Ending, ending-then, Finds, stopped-here, finds-bind, finds-token, Nothing, nothing-ends, finds-nothing}
use Rattle.thf_parse.proofs.Endings.{mark_word, mark-is}
use Rattle.thf_parse.proofs.Goes.{Goes, goes-bind, goes-token, goes-found}

abbrev unit : Unit {0}
unit = tt

pub same_mark-is : (m n : Mark) → same_mark m n ≡ true → n ≡ m
same_mark-is mark.Open mark.Open h = refl
same_mark-is mark.Close mark.Close h = refl
same_mark-is mark.OpenList mark.OpenList h = refl
same_mark-is mark.CloseList mark.CloseList h = refl
same_mark-is mark.Comma mark.Comma h = refl
same_mark-is mark.Stop mark.Stop h = refl
same_mark-is mark.Colon mark.Colon h = refl
same_mark-is mark.Arrow mark.Arrow h = refl
same_mark-is mark.At mark.At h = refl
same_mark-is _ _ h = cc

pub same_mark-self : (m : Mark) → same_mark m m ≡ true
same_mark-self mark.Open = refl
same_mark-self mark.Close = refl
same_mark-self mark.OpenList = refl
same_mark-self mark.CloseList = refl
same_mark-self mark.Comma = refl
same_mark-self mark.Stop = refl
same_mark-self mark.Colon = refl
same_mark-self mark.Arrow = refl
same_mark-self mark.At = refl

pub is_mark-is : (m : Mark) (x : Terminal) → is_mark m x ≡ true → x ≡ terminal.Mark m
is_mark-is m (terminal.Mark n) h = ap (λ k. terminal.Mark k) (same_mark-is m n h)
is_mark-is m _ h = cc

local-expect_by : (m : Mark) (x : Terminal) (b : Bool) → is_mark m x ≡ b → IsLocalAt {A = Unit {0}} x (λ ts. if b then found unit (lexemes_behind ts) else wrong ts)
local-expect_by m x true e = local-behind x (λ ts. found unit ts) (ap is_proper (is_mark-is m x e)) (local-found unit)
local-expect_by m x false e = at x (λ ts. wrong ts) local-wrong

pub local-expect : (m : Mark) → IsLocal {A = Unit {0}} (λ ts. expect m ts)
unfolding expect
local-expect m = local-terminal (λ x ts. expect_by m x ts) (λ x. local-expect_by m x (is_mark m x) refl)

pub local-past : {A : Type 0} (m : Mark) (f : Reader A) → IsLocal f → IsLocal (λ ts. expect m ts >>= λ _ after. f after)
local-past m f l = local-bind (expect m) (λ _ after. f after) (local-expect m) (λ _. l)

-- something before a mark
pub local-closed : {A : Type 0} (m : Mark) (r : Reader A) → IsLocal r → IsLocal (λ ts. r ts >>= λ x mid. expect m mid >>= λ _ after. found x after)
local-closed m r l = local-bind r (λ x mid. expect m mid >>= λ _ after. found x after) l (λ x. local-past m (λ after. found x after) (local-found x))

-- a mark, and then the words with which something ends
pub past-ends : {A : Type 0} (K M : A → List Word → List Word → Type 0) (m : Mark) (depth : ℕ) → Ending K → ((x : A) (w : Word) (ws rest : List Word) → Is (terminal.Mark m) depth w → K x ws rest → M x (w ∷ ws) rest) → Ending M
past-ends K M m depth e join = record {
  value = e.value;
  words = mark_word m depth ∷ e.words;
  read = λ after. join e.value (mark_word m depth) (e.words ++ after) after (mark-is m depth) (e.read after);
}

-- a mark, and then something, which ends with some words
pub finds-past : {A : Type 0} (K M : A → List Word → List Word → Type 0) (m : Mark) (depth : ℕ) (ts : List Lexeme) (f : Reader A) → Ending K → ((mid : List Lexeme) → Finds K mid (f mid)) → ((x : A) (w : Word) (ws rest : List Word) → Is (terminal.Mark m) depth w → K x ws rest → M x (w ∷ ws) rest) → Finds M ts (expect m ts >>= λ _ after. f after)
unfolding expect first_terminal lexemes_behind
finds-past {A} K M m depth ts f close h join = cases ts
  where
    ending : Ending M
    ending = past-ends K M m depth close join

    cases : (us : List Lexeme) → Finds M us (expect_by m (first_terminal us) us >>= λ _ after. f after)
    cases [] = go (is_mark m terminal.Other) refl
      where
        go : (b : Bool) → is_mark m terminal.Other ≡ b → Finds M [] ((if b then found unit [] else wrong []) >>= λ _ after. f after)
        go true e = cc
        go false e = stopped-here M [] ending
    cases (t ∷ us) = go (is_mark m (terminal_of t)) refl
      where
        go : (b : Bool) → is_mark m (terminal_of t) ≡ b → Finds M (t ∷ us) ((if b then found unit us else wrong (t ∷ us)) >>= λ _ after. f after)
        go true e = finds-token K M t depth us (f us) (h us) (λ x ws rest k. join x (word t depth) ws rest (record { terminal = is_mark-is m (terminal_of t) e; deep = refl }) k)
        go false e = stopped-here M (t ∷ us) ending

-- a mark, and nothing behind it
pub record Expected (m : Mark) (depth : ℕ) (x : Unit {0}) (ws rest : List Word) : Type 0 where
  pub token : Word
  pub whole : ws ≡ token ∷ rest
  pub is : Is (terminal.Mark m) depth token

pub expected-ends : (m : Mark) (depth : ℕ) → Ending (Expected m depth)
expected-ends m depth = record { value = unit; words = mark_word m depth ∷ []; read = λ after. record { token = mark_word m depth; whole = refl; is = mark-is m depth } }

pub finds-expect : (m : Mark) (depth : ℕ) (ts : List Lexeme) → Finds (Expected m depth) ts (expect m ts)
unfolding expect first_terminal lexemes_behind
finds-expect m depth [] = go (is_mark m terminal.Other) refl
  where
    go : (b : Bool) → is_mark m terminal.Other ≡ b → Finds (Expected m depth) [] (if b then found unit [] else wrong [])
    go true e = cc
    go false e = stopped-here (Expected m depth) [] (expected-ends m depth)
finds-expect m depth (t ∷ ts) = go (is_mark m (terminal_of t)) refl
  where
    go : (b : Bool) → is_mark m (terminal_of t) ≡ b → Finds (Expected m depth) (t ∷ ts) (if b then found unit ts else wrong (t ∷ ts))
    go true e = finds-token (Nothing unit) (Expected m depth) t depth ts (found unit ts) (finds-nothing unit ts) (λ x ws rest k. record { token = word t depth; whole = ap (λ us. word t depth ∷ us) k.1; is = record { terminal = is_mark-is m (terminal_of t) e; deep = refl } })
    go false e = stopped-here (Expected m depth) (t ∷ ts) (expected-ends m depth)

-- something before a mark
pub record Closed {A : Type 0} (N : A → List Word → List Word → Type 0) (m : Mark) (depth : ℕ) (x : A) (ws rest : List Word) : Type 0 where
  pub closing : Word
  pub read : N x ws (closing ∷ rest)
  pub closes : Is (terminal.Mark m) depth closing

abbrev Closes : {A : Type 0} → Mark → ℕ → A → A → List Word → List Word → Type 0
Closes m depth x y ws rest = (w : Word) × (ws ≡ w ∷ rest) × Is (terminal.Mark m) depth w × (y ≡ x)

closes-end : {A : Type 0} (m : Mark) (depth : ℕ) (x : A) → Ending (Closes m depth x)
closes-end m depth x = past-ends (Nothing x) (Closes m depth x) m depth (nothing-ends x) (λ y w ws rest is k. (w, ap (λ us. w ∷ us) k.1, is, k.0))

closed-of : {A : Type 0} (N : A → List Word → List Word → Type 0) (m : Mark) (depth : ℕ) (x y : A) (ws mid rest : List Word) → N x ws mid → Closes m depth x y mid rest → Closed N m depth y ws rest
closed-of N m depth x y ws mid rest p q = record {
  closing = q.0;
  read = subst (λ z. N z ws (q.0 ∷ rest)) (sym q.3) (subst (λ us. N x ws us) q.1 p);
  closes = q.2;
}

-- something that ends, and its mark
pub closed-ends : {A : Type 0} (N : A → List Word → List Word → Type 0) (m : Mark) (depth : ℕ) → Ending N → Ending (Closed N m depth)
closed-ends N m depth e = ending-then N (Closes m depth) (Closed N m depth) (closed-of N m depth) e (closes-end m depth)

pub finds-closed : {A : Type 0} (N : A → List Word → List Word → Type 0) (m : Mark) (depth : ℕ) (ts : List Lexeme) (o : Outcome A) → Finds N ts o → Finds (Closed N m depth) ts (o >>= λ x mid. expect m mid >>= λ _ after. found x after)
finds-closed {A} N m depth ts o h =
    finds-bind N (Closes m depth) (Closed N m depth) ts o _ h
    (closes-end m depth)
    (λ x mid. finds-past (Nothing x) (Closes m depth x) m depth mid (λ after. found x after) (nothing-ends x) (λ after. finds-nothing x after) (λ y w ws rest is k. (w, ap (λ us. w ∷ us) k.1, is, k.0)))
    (closed-of N m depth)

pub goes-expect : (limit : ℕ) (m : Mark) (depth : ℕ) (w : Word) (rest : List Word) → depth ≤ limit → Is (terminal.Mark m) depth w → Goes limit (w ∷ rest) rest unit (expect m (plain (w ∷ rest)))
unfolding expect first_terminal lexemes_behind
goes-expect limit m depth w rest d is =
    subst (λ o. Goes limit (w ∷ rest) rest unit o) (sym e)
    (goes-token limit w rest rest unit (found unit (plain rest)) (let q = is.deep in omega arith) (goes-found limit rest unit))
  where
    e : expect_by m (terminal_of w.lexeme) (plain (w ∷ rest)) ≡ found unit (plain rest)
    e = ap (λ x. expect_by m x (plain (w ∷ rest))) is.terminal ∙ ap (λ b. if b then found unit (plain rest) else wrong (plain (w ∷ rest))) (same_mark-self m)

pub goes-past : {A : Type 0} (limit : ℕ) (m : Mark) (depth : ℕ) (w : Word) (ws rest : List Word) (x : A) (f : Reader A) → depth ≤ limit → Is (terminal.Mark m) depth w → Goes limit ws rest x (f (plain ws)) → Goes limit (w ∷ ws) rest x (expect m (plain (w ∷ ws)) >>= λ _ after. f after)
goes-past limit m depth w ws rest x f d is h = goes-bind limit (w ∷ ws) ws rest unit x (expect m (plain (w ∷ ws))) (λ _ after. f after) (goes-expect limit m depth w ws d is) h

pub goes-closed : {A : Type 0} (limit : ℕ) (m : Mark) (depth : ℕ) (ws : List Word) (w : Word) (rest : List Word) (x : A) (o : Outcome A) → depth ≤ limit → Is (terminal.Mark m) depth w → Goes limit ws (w ∷ rest) x o → Goes limit ws rest x (o >>= λ y mid. expect m mid >>= λ _ after. found y after)
goes-closed limit m depth ws w rest x o d is h = goes-bind limit ws (w ∷ rest) rest x x o (λ y mid. expect m mid >>= λ _ after. found y after) h (goes-past limit m depth w rest rest x (λ after. found x after) d is (goes-found limit rest x))
