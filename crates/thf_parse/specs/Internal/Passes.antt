-- What the code answers where it reads no tree, beside what is to be read.
use Rattle.std.specs.Prelude.{◌≡◌, List, Result, Ok, Err}
use Rattle.thf_parse.specs.declared.refusal.Refusal.{Refusal}
use Rattle.thf_parse.specs.declared.refusal.Refusal.TheVariants.{Wrong, TooDeep, Memory}
use Rattle.thf_grammar.specs.Words.{Lexeme}
use Rattle.thf_parse.specs.Internal.Outcome.{Outcome, found, wrong, deep}

-- the first of the tokens that are left is wrong or too deep, or memory ran out first
abbrev pub IsRefusal : {A : Type 0} → List Lexeme → Refusal → Outcome A → Type 0
IsRefusal left Wrong o = o ≡ wrong left
IsRefusal left TooDeep o = o ≡ deep left
IsRefusal left Memory o = Unit {0}

-- the tokens that are left stand behind what was read
abbrev pub Passes : List Lexeme → Result (Unit {0}) Refusal → Outcome (Unit {0}) → Type 0
Passes left (Ok x) o = o ≡ found tt left
Passes left (Err e) o = IsRefusal left e o
