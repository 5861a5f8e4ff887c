-- The longest symbol at the front of bytes.
use Rattle.std.proofs.Common.{◌≢◌, ℕ, ◌≤◌, List, length, take, min, subst, sym, arith}
use Rattle.std.proofs.lemmas.List.{length-take, take_min}
use Rattle.std.specs.Prelude.{IsTrue}
use Rattle.thf_grammar.specs.Texts.{is_symbol}
use Rattle.thf_lex.specs.Internal.Symbols.{BeginsWithSymbol}
use Rattle.thf_grammar.proofs.Firsts.{symbol_len_fits}

other_length : (bytes : List ℕ) (n m : ℕ) → (BeginsWithSymbol n bytes → ⊥) → m ≤ length bytes → IsTrue (is_symbol (take m bytes)) → m ≢ n
other_length bytes n m none short h same = none (subst (λ k. BeginsWithSymbol k bytes) same (short, h))

pub within_three : (bytes : List ℕ) (m : ℕ) → m ≤ length bytes → IsTrue (is_symbol (take m bytes)) → m ≤ 3
within_three bytes m short h = omega (arith, (symbol_len_fits (take m bytes) h).1, length-take m bytes)

pub within_two : (bytes : List ℕ) (m : ℕ) → (BeginsWithSymbol 3 bytes → ⊥) → m ≤ length bytes → IsTrue (is_symbol (take m bytes)) → m ≤ 2
within_two bytes m no_three short h =
    let other : m ≢ 3 = other_length bytes 3 m no_three short h in
    omega (arith, within_three bytes m short h)

pub within_one : (bytes : List ℕ) (m : ℕ) → (BeginsWithSymbol 3 bytes → ⊥) → (BeginsWithSymbol 2 bytes → ⊥) → m ≤ length bytes → IsTrue (is_symbol (take m bytes)) → m ≤ 1
within_one bytes m no_three no_two short h =
    let other : m ≢ 2 = other_length bytes 2 m no_two short h in
    omega (arith, within_two bytes m no_three short h)

pub within_none : (bytes : List ℕ) (m : ℕ) → (BeginsWithSymbol 3 bytes → ⊥) → (BeginsWithSymbol 2 bytes → ⊥) → (BeginsWithSymbol 1 bytes → ⊥) → m ≤ length bytes → IsTrue (is_symbol (take m bytes)) → m ≤ 0
within_none bytes m no_three no_two no_one short h =
    let other : m ≢ 1 = other_length bytes 1 m no_one short h in
    omega (arith, within_one bytes m no_three no_two short h)

-- where the longest symbol is empty, there is none
pub no_symbol : (bytes : List ℕ) → ((m : ℕ) → m ≤ length bytes → IsTrue (is_symbol (take m bytes)) → m ≤ 0) → (m : ℕ) → IsTrue (is_symbol (take m bytes)) → ⊥
no_symbol bytes within m h =
    let short : min m (length bytes) ≤ length bytes = omega arith in
    let none : min m (length bytes) ≤ 0 = within (min m (length bytes)) short (subst (λ xs. IsTrue (is_symbol xs)) (sym (take_min m bytes)) h) in
    omega (arith, (symbol_len_fits (take m bytes) h).0, length-take m bytes)
