-- What stands between commas.
use Rattle.std.proofs.Common.{◌≡◌, ℕ, zero, suc, ◌<◌, ◌≤◌, List, [], ◌∷◌, length, Bool, true, false, inl, inr, refl, sym, ap, subst, ◌∙◌, arith}
use Rattle.thf_grammar.specs.declared.terminal.Mark.TheVariants.{Comma}
use Rattle.thf_grammar.specs.declared.terminal.Terminal.{Terminal}
use Rattle.thf_grammar.specs.declared.terminal.Terminal.TheVariants as terminal
use Rattle.thf_grammar.specs.Words.{Lexeme, Word, plain, terminal_of, Is}
use Rattle.thf_parse.specs.Internal.Outcome.{Outcome, found, wrong, deep, Reader, ◌>>=◌, first_terminal, lexemes_behind}
use Rattle.thf_grammar.specs.Internal.Marks.{is_mark}
use Rattle.thf_parse.specs.Internal.NoteReader.{comma_by, commas, all_commas}
use Rattle.thf_parse.proofs.Locals.{IsLocal, IsLocalAt, rest_of, at, local-found, local-wrong, local-behind, local-bind, local-terminal, rest-length, local-counted}
use Rattle.thf_parse.proofs.Finds.{word, Ending, Finds, stopped-here, ending-as, finds-bind, finds-token, finds-none}
use Rattle.thf_parse.proofs.Goes.{Goes, sinks-bind, goes-bind, goes-token, goes-found}

-- a comma is a token
pub comma-shorter : (rest : List Lexeme) → is_mark Comma (first_terminal rest) ≡ true → length (lexemes_behind rest) < length rest
unfolding first_terminal lexemes_behind
comma-shorter [] c = cc
comma-shorter (t ∷ more) c = omega arith

module _ {S : Type 0} (item : S → Reader S) (l : (s : S) → IsLocal (item s)) where
  comma_by-at : (again : S → Reader S) → ((s : S) → IsLocal (again s)) → (s : S) (x : Terminal) → IsLocalAt x (comma_by again s x)
  comma_by-at again k s (terminal.Mark Comma) = local-behind (terminal.Mark Comma) (again s) refl (k s)
  comma_by-at again k s _ = at _ (λ ts. found s ts) (local-found s)

  local-commas : (n : ℕ) (s : S) → IsLocal (commas item n s)
  unfolding commas
  local-commas zero s = local-wrong
  local-commas (suc n) s = local-bind (item s) (λ x rest. comma_by (commas item n) x (first_terminal rest) rest) (l s) (λ x. local-terminal (comma_by (commas item n) x) (comma_by-at (commas item n) (local-commas n) x))

  -- more room for things makes no difference
  pub commas-more : (n m : ℕ) (s : S) (ts : List Lexeme) → length ts < n → length ts < m → commas item n s ts ≡ commas item m s ts
  unfolding commas first_terminal lexemes_behind
  commas-more zero m s ts h k = absurd (omega arith)
  commas-more (suc n) zero s ts h k = absurd (omega arith)
  commas-more (suc n) (suc m) s ts h k = go (λ x us p q. commas-more n m x us p q) (item s ts) (rest-length (item s) (l s) ts)
    where
      more : ((x : S) (us : List Lexeme) → length us < n → length us < m → commas item n x us ≡ commas item m x us) → (x : S) (t : Lexeme) (us : List Lexeme) (y : Terminal) → length (t ∷ us) ≤ length ts → comma_by (commas item n) x y (t ∷ us) ≡ comma_by (commas item m) x y (t ∷ us)
      more again x t us (terminal.Mark Comma) q = again x us (omega arith) (omega arith)
      more again x t us _ q = refl

      after : ((x : S) (us : List Lexeme) → length us < n → length us < m → commas item n x us ≡ commas item m x us) → (x : S) (rest : List Lexeme) → length rest ≤ length ts → comma_by (commas item n) x (first_terminal rest) rest ≡ comma_by (commas item m) x (first_terminal rest) rest
      after again x [] q = refl
      after again x (t ∷ us) q = more again x t us (terminal_of t) q

      go : ((x : S) (us : List Lexeme) → length us < n → length us < m → commas item n x us ≡ commas item m x us) → (o : Outcome S) → length (rest_of o) ≤ length ts → (o >>= λ x rest. comma_by (commas item n) x (first_terminal rest) rest) ≡ (o >>= λ x rest. comma_by (commas item m) x (first_terminal rest) rest)
      go again (wrong rest) q = refl
      go again (deep rest) q = refl
      go again (found x rest) q = after again x rest q

  pub local-all : (s : S) → IsLocal (all_commas item s)
  local-all s = local-counted (λ n. commas item n s) (λ n. local-commas n s) (λ n m ts h k. commas-more n m s ts h k)

  -- a step of the loop over what stands between commas
  pub all-more : (s x : S) (ts rest : List Lexeme) → item s ts ≡ found x rest → first_terminal rest ≡ terminal.Mark Comma → all_commas item s ts ≡ all_commas item x (lexemes_behind rest)
  unfolding commas first_terminal lexemes_behind
  all-more s x ts [] e c = cc
  all-more s x ts (t ∷ us) e c =
      let q : length (t ∷ us) ≤ length ts = omega (arith, rest-length (item s) (l s) ts, ap (λ o. length (rest_of o)) e) in
      ap (λ o. o >>= λ y rest. comma_by (commas item (length ts)) y (first_terminal rest) rest) e
      ∙ ap (λ y. comma_by (commas item (length ts)) x y (t ∷ us)) c
      ∙ commas-more (length ts) (suc (length us)) x us (omega arith) (omega arith)

  no_comma : (again : S → Reader S) (x : S) (y : Terminal) (rest : List Lexeme) → is_mark Comma y ≡ false → comma_by again x y rest ≡ found x rest
  no_comma again x (terminal.Mark Comma) rest e = cc
  no_comma again x _ rest e = refl

  pub all-last : (s x : S) (ts rest : List Lexeme) → item s ts ≡ found x rest → is_mark Comma (first_terminal rest) ≡ false → all_commas item s ts ≡ found x rest
  unfolding commas
  all-last s x ts rest e c =
      ap (λ o. o >>= λ y us. comma_by (commas item (length ts)) y (first_terminal us) us) e ∙ no_comma (commas item (length ts)) x (first_terminal rest) rest c

  pub all-wrong : (s : S) (ts rest : List Lexeme) → item s ts ≡ wrong rest → all_commas item s ts ≡ wrong rest
  unfolding commas
  all-wrong s ts rest e = ap (λ o. o >>= λ y us. comma_by (commas item (length ts)) y (first_terminal us) us) e

  pub all-deep : (s : S) (ts rest : List Lexeme) → item s ts ≡ deep rest → all_commas item s ts ≡ deep rest
  unfolding commas
  all-deep s ts rest e = ap (λ o. o >>= λ y us. comma_by (commas item (length ts)) y (first_terminal us) us) e

-- things between commas, each found with what was found before it
pub data Separated {S : Type 0} (N : S → S → List Word → List Word → Type 0) (d : ℕ) : S → S → List Word → List Word → Type 0 where
  last : (s x : S) (ws rest : List Word) → N s x ws rest → Separated N d s x ws rest
  more : (s x y : S) (ws mid rest : List Word) (w : Word) → N s x ws (w ∷ mid) → Is (terminal.Mark Comma) d w → Separated N d x y mid rest → Separated N d s y ws rest

module _ {S : Type 0} (item : S → Reader S) (N : S → S → List Word → List Word → Type 0) (d : ℕ) where
  abbrev FollowIs : S → S → S → List Word → List Word → Type 0
  FollowIs s x y ws rest = (front : List Word) → N s x front ws → Separated N d s y front rest

  pub separated-ends : (s : S) → Ending (N s) → Ending (λ y ws rest. Separated N d s y ws rest)
  separated-ends s e = ending-as (N s) (λ y ws rest. Separated N d s y ws rest) e (λ y ws rest p. last s y ws rest p)

  pub finds-commas : ((s : S) → Ending (N s)) → ((s : S) (ts : List Lexeme) → Finds (N s) ts (item s ts)) → (n : ℕ) (s : S) (ts : List Lexeme) → Finds (λ y ws rest. Separated N d s y ws rest) ts (commas item n s ts)
  unfolding commas first_terminal lexemes_behind
  finds-commas close h zero s ts = stopped-here (λ y ws rest. Separated N d s y ws rest) ts (separated-ends s (close s))
  finds-commas close h (suc n) s ts =
      finds-bind (N s) (FollowIs s) (λ y ws rest. Separated N d s y ws rest) ts (item s ts) _ (h s ts)
      (λ x. record { value = x; words = []; read = λ after front p. last s x front after p })
      (λ x mid. follow (finds-commas close h n) x mid) (λ x y ws mid rest p q. q ws p)
    where
      none : (x : S) (us : List Lexeme) → Finds (FollowIs s x) us (found x us)
      none x us = finds-none (FollowIs s x) us x (λ after front p. last s x front after p)

      go : ((x : S) (us : List Lexeme) → Finds (λ y ws rest. Separated N d x y ws rest) us (commas item n x us)) → (x : S) (t : Lexeme) (us : List Lexeme) (y : Terminal) → terminal_of t ≡ y → Finds (FollowIs s x) (t ∷ us) (comma_by (commas item n) x y (t ∷ us))
      go again x t us (terminal.Mark Comma) e =
          finds-token (λ y ws rest. Separated N d x y ws rest) (FollowIs s x) t d us (commas item n x us) (again x us)
          (λ y ws rest p front q. more s x y front ws rest (word t d) q (record { terminal = e; deep = refl }) p)
      go again x t us _ e = none x (t ∷ us)

      follow : ((x : S) (us : List Lexeme) → Finds (λ y ws rest. Separated N d x y ws rest) us (commas item n x us)) → (x : S) (us : List Lexeme) → Finds (FollowIs s x) us (comma_by (commas item n) x (first_terminal us) us)
      follow again x [] = none x []
      follow again x (t ∷ us) = go again x t us (terminal_of t) refl

-- what may follow an item that stands before a comma or the end of the items
module _ {S : Type 0} (item : S → Reader S) (l : (s : S) → IsLocal (item s)) (N : S → S → List Word → List Word → Type 0) (limit d : ℕ) (within : d ≤ limit) (may_follow : Terminal → Bool) (comma_may : may_follow (terminal.Mark Comma) ≡ true) where
  abbrev Follows : List Word → Type 0
  Follows rest = may_follow (first_terminal (plain rest)) ≡ true

  pub goes-commas : ((s x : S) (ws rest : List Word) → N s x ws rest → Follows rest → Goes limit ws rest x (item s (plain ws))) → (n : ℕ) (s y : S) (ws rest : List Word) → Separated N d s y ws rest → length (plain ws) < n → Follows rest → is_mark Comma (first_terminal (plain rest)) ≡ false → Goes limit ws rest y (commas item n s (plain ws))
  unfolding commas first_terminal lexemes_behind
  goes-commas h zero s y ws rest p k f c = absurd (omega arith)
  goes-commas h (suc n) s y ws rest (last _ _ _ _ p) k f c =
      goes-bind limit ws rest rest y y (item s (plain ws)) _ (h s y ws rest p f)
      (subst (λ o. Goes limit rest rest y o) (sym (no_comma item l (commas item n) y (first_terminal (plain rest)) (plain rest) c)) (goes-found limit rest y))
  goes-commas h (suc n) s y ws rest (more _ x _ _ mid _ w p m q) k f c = go (λ e. goes-commas h n x y mid rest q e f c) (h s x ws (w ∷ mid) p (ap may_follow m.terminal ∙ comma_may))
    where
      go : (length (plain mid) < n → Goes limit mid rest y (commas item n x (plain mid))) → Goes limit ws (w ∷ mid) x (item s (plain ws)) → Goes limit ws rest y (item s (plain ws) >>= λ z us. comma_by (commas item n) z (first_terminal us) us)
      go again (inr s') = inr (sinks-bind limit ws (item s (plain ws)) _ s')
      go again (inl a) =
          goes-bind limit ws (w ∷ mid) rest x y (item s (plain ws)) _ (inl a)
          (subst (λ z. Goes limit (w ∷ mid) rest y (comma_by (commas item n) x z (plain (w ∷ mid)))) (sym m.terminal)
          (goes-token limit w mid rest y (commas item n x (plain mid)) (let z = m.deep in omega arith)
          (again (omega (arith, rest-length (item s) (l s) (plain ws), ap (λ o. length (rest_of o)) a.is)))))
