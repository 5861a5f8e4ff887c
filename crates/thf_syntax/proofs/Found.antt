-- Trees that the pieces begin with, places aside.
use Rattle.std.proofs.Common.{◌≡◌, ℕ, Bool, true, false, List, refl, ◌∙◌}
use Rattle.thf_grammar.specs.declared.token.TokenKind.{TokenKind}
use Rattle.thf_grammar.specs.declared.token.TokenKind.TheVariants as kind
use Rattle.thf_grammar.specs.declared.connective.Conn.{Conn}
use Rattle.thf_grammar.specs.declared.connective.Conn.TheVariants.{Not, And, Or, Imp, If, Iff, Xor, Nor, Nand}
use Rattle.thf_grammar.specs.declared.connective.Binder.{Binder}
use Rattle.thf_grammar.specs.declared.connective.Binder.TheVariants.{All, Exists, Lam, Choice, Desc}
use Rattle.thf_grammar.specs.declared.terminal.Terminal.{Terminal}
use Rattle.thf_grammar.specs.declared.terminal.Terminal.TheVariants as terminal
use Rattle.thf_grammar.specs.Terminals.{of_kind}
use Rattle.thf_grammar.specs.Words.{Word, terminal_of, name_of, name_in, Is, IsName, lower, quoted, name}
use Rattle.thf_names.specs.Names as spec
use Rattle.thf_syntax.specs.Texts.{conn_text, binder_text, truth_text, equality_text, quantifier_text}
use Rattle.thf_syntax.proofs.Pieces.{Piece, word_at, words_at}
use Rattle.thf_syntax.proofs.Printed.{name_kind}
use Rattle.thf_syntax.proofs.Spelling.{kind_by, text_by, name_in-name}

-- the pieces begin with a tree that is the given one, places aside
pub record Found {T : Type 0} (bare : T → T) (R : List Word → T → List Word → Type 0) (at : ℕ) (ps : List Piece) (t : T) (rest : List Piece) : Type 0 where
  pub end : ℕ
  pub tree : T
  pub read : R (words_at at ps) tree (words_at end rest)
  pub same : bare tree ≡ bare t

-- the pieces of a tree begin with it, before any others and with any number of things open
abbrev pub Reads : {T : Type 0} → (T → T) → (ℕ → List Word → T → List Word → Type 0) → (ℕ → List Piece → List Piece) → T → Type 0
Reads bare R pieces t = (d at : ℕ) (rest : List Piece) → Found bare (R d) at (pieces d rest) t rest

pub found-as : {T : Type 0} {bare : T → T} {R Q : List Word → T → List Word → Type 0} {at : ℕ} {ps : List Piece} {t : T} {rest : List Piece} → ((ws : List Word) (u : T) (vs : List Word) → R ws u vs → Q ws u vs) → Found bare R at ps t rest → Found bare Q at ps t rest
found-as f h = record { end = h.end; tree = h.tree; read = f _ _ _ h.read; same = h.same }

pub is-word : (x : Terminal) (k : TokenKind) (text : List ℕ) (at d : ℕ) → of_kind k text ≡ x → Is x d (word_at k text at d)
unfolding terminal_of
is-word x k text at d e = record { terminal = e; deep = refl }

pub name-word : (k : TokenKind) (text : List ℕ) (at d : ℕ) → name (word_at k text at d) ≡ name_in k text
unfolding name_of
name-word k text at d = refl

pub is_name-word : (n : List ℕ) (at d : ℕ) → IsName d (word_at (name_kind n) (spec.name_text n) at d)
is_name-word n at d = by_word (spec.is_lower_word n)
  where
    by_word : (b : Bool) → IsName d (word_at (kind_by b) (text_by b n) at d)
    by_word true = lower (is-word terminal.Lower kind.Lower n at d refl)
    by_word false = quoted (is-word terminal.Quoted kind.Quoted (spec.quoted n) at d refl)

pub name-name_word : (n : List ℕ) (at d : ℕ) → name (word_at (name_kind n) (spec.name_text n) at d) ≡ n
name-name_word n at d = name-word (name_kind n) (spec.name_text n) at d ∙ name_in-name n

pub symbol-conn : (c : Conn) → of_kind kind.Symbol (conn_text c) ≡ terminal.Conn c
symbol-conn Not = refl
symbol-conn And = refl
symbol-conn Or = refl
symbol-conn Imp = refl
symbol-conn If = refl
symbol-conn Iff = refl
symbol-conn Xor = refl
symbol-conn Nor = refl
symbol-conn Nand = refl

pub symbol-binder : (b : Binder) → of_kind kind.Symbol (binder_text b) ≡ terminal.Binder b
symbol-binder All = refl
symbol-binder Exists = refl
symbol-binder Lam = refl
symbol-binder Choice = refl
symbol-binder Desc = refl

pub symbol-equality : (b : Bool) → of_kind kind.Symbol (equality_text b) ≡ terminal.Equality b
symbol-equality true = refl
symbol-equality false = refl

pub symbol-quantifier : (b : Bool) → of_kind kind.Symbol (quantifier_text b) ≡ terminal.Quant b
symbol-quantifier true = refl
symbol-quantifier false = refl

pub dollar-truth : (b : Bool) → of_kind kind.Dollar (truth_text b) ≡ terminal.Truth b
dollar-truth true = refl
dollar-truth false = refl
