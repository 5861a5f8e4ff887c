-- How the reader of terms goes.
use Rattle.std.specs.Prelude.{ℕ, zero, suc, ◌^◌, length, List, [], ◌∷◌, codes, Option, Some, None}
use Rattle.refute_print.specs.Trees.{TextTypeTree, ConstantTree, name, witness, falsity, negation, implication, all, equality, choice, description, TermTree, bound, constant, lam, applied_tree}
use Rattle.refute_text.specs.Internal.Reader.{◌>>=◌, behind_text, by_front, number_at, name_at, type_at, repeated_at}

-- a term and what follows it
abbrev pub TermAt : Type 0
TermAt = Option (TermTree × List ℕ)

abbrev pub counted_at : (ℕ → TermTree) → List ℕ → TermAt
counted_at make bytes = do
  k ← number_at (2 ^ 32) bytes
  Some (make k.0, k.1)

abbrev pub named_head_at : List ℕ → TermAt
named_head_at bytes = do
  w ← name_at bytes
  Some (constant (name w.0), w.1)

-- a type in brackets, where one more may be open
abbrev pub opened_type_at : ℕ → List ℕ → Option (TextTypeTree × List ℕ)
opened_type_at zero bytes = None
opened_type_at (suc depth) bytes = type_at depth bytes

abbrev pub bracketed_type_at : ℕ → List ℕ → Option (TextTypeTree × List ℕ)
bracketed_type_at depth bytes = do
  a ← opened_type_at depth bytes
  rest ← behind_text (codes "]") a.1
  Some (a.0, rest)

abbrev pub bracketed_at : (TextTypeTree → ConstantTree) → ℕ → List ℕ → TermAt
bracketed_at make depth bytes = do
  a ← bracketed_type_at depth bytes
  Some (constant (make a.0), a.1)

-- a head behind its `$`
unfoldable pub dollar_head_at : ℕ → List ℕ → TermAt
dollar_head_at depth bytes =
    by_front (behind_text (codes "f") bytes) (λ rest. Some (constant falsity, rest))
    (by_front (behind_text (codes "not") bytes) (λ rest. Some (constant negation, rest))
    (by_front (behind_text (codes "imp") bytes) (λ rest. Some (constant implication, rest))
    (by_front (behind_text (codes "w") bytes) (counted_at (λ k. constant (witness k)))
    (by_front (behind_text (codes "all[") bytes) (bracketed_at all depth)
    (by_front (behind_text (codes "eq[") bytes) (bracketed_at equality depth)
    (by_front (behind_text (codes "eps[") bytes) (bracketed_at choice depth)
    (by_front (behind_text (codes "the[") bytes) (bracketed_at description depth) None)))))))

unfoldable pub head_text_at : ℕ → List ℕ → TermAt
head_text_at depth bytes =
    by_front (behind_text (codes "$") bytes) (dollar_head_at depth)
    (by_front (behind_text (codes "#") bytes) (counted_at bound) (named_head_at bytes))

-- arguments, each behind a space, at most so many
abbrev pub arguments_at : (List ℕ → TermAt) → ℕ → List ℕ → Option (List TermTree × List ℕ)
arguments_at term n bytes = repeated_at (codes " ") term n bytes

-- a head with some arguments
abbrev pub applied_to : TermTree → List TermTree → List ℕ → TermAt
applied_to h [] rest = None
applied_to h (u ∷ us) rest = Some (applied_tree h (u ∷ us), rest)

abbrev pub application_at : ℕ → (List ℕ → TermAt) → List ℕ → TermAt
application_at depth term bytes = do
  h ← head_text_at depth bytes
  us ← arguments_at term (length h.1) h.1
  rest ← behind_text (codes ")") us.1
  applied_to h.0 us.0 rest

abbrev pub lambda_at : ℕ → (List ℕ → TermAt) → List ℕ → TermAt
lambda_at depth term bytes = do
  a ← type_at depth bytes
  rest ← behind_text (codes ".") a.1
  s ← term rest
  Some (lam a.0 s.0, s.1)

abbrev pub no_term : List ℕ → TermAt
no_term bytes = None

-- a term in which at most so many parentheses, brackets and functions are open at once
unfoldable pub term_text_at : ℕ → List ℕ → TermAt
term_text_at zero bytes =
    by_front (behind_text (codes "^") bytes) no_term (by_front (behind_text (codes "(") bytes) no_term (head_text_at zero bytes))
term_text_at (suc depth) bytes =
    by_front (behind_text (codes "^") bytes) (lambda_at depth (term_text_at depth))
    (by_front (behind_text (codes "(") bytes) (application_at depth (term_text_at depth)) (head_text_at (suc depth) bytes))
