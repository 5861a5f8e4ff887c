-- What the numbers of the search stand for.
use Rattle.std.specs.Prelude.{ℕ, ◌<◌, List, length, get_or}
use Rattle.stt_core.specs.Lambda.{Lambda}
use Rattle.sat_base.specs.declared.literal.SatLit.{SatLit}
use Rattle.search_spec.specs.Partial.{hole}
use Rattle.search_spec.specs.State.{Typed, Sketch, Command as Meant, process, mate, confront, inst, grow, choose, describe}
use Rattle.term_bank.specs.Terms.{term_at}
use Rattle.literal_map.specs.Atoms.{bank_literal}
use Rattle.witness_names.specs.Rows.{binder_of}
use Rattle.instantiate.specs.Listing.{Listing}
use Rattle.prover_state.specs.Internal.HeadNumbers.{head_numbered, IsHeadNumber}
use Rattle.prover_state.specs.declared.command.Command.{Command}
use Rattle.prover_state.specs.declared.command.Command.TheVariants.{Process, Mate, Confront, Inst, Grow, Choose, Describe}
use Rattle.stt_core.specs.SimpleType.{formula}

-- the terms, the places of the atoms among them, and the partial terms
pub record Naming : Type 0 where
  pub terms : List Lambda
  pub atoms : List ℕ
  pub sketches : List Sketch

abbrev pub sketch_at : List Sketch → ℕ → Sketch
sketch_at sketches p = get_or sketches p (record { type = formula; partial = hole 0 })

-- the command that a command by numbers stands for
abbrev pub command_at : Naming → Command → Meant
command_at names (Process l) = process (bank_literal names.terms names.atoms l)
command_at names (Mate l m) = mate (bank_literal names.terms names.atoms l) (bank_literal names.terms names.atoms m)
command_at names (Confront l m) = confront (bank_literal names.terms names.atoms l) (bank_literal names.terms names.atoms m)
command_at names (Inst l u) = inst (bank_literal names.terms names.atoms l) (term_at names.terms u)
command_at names (Grow p h) = grow (sketch_at names.sketches p) (head_numbered h)
command_at names (Choose f) = choose (binder_of (term_at names.terms f)) (term_at names.terms f)
command_at names (Describe f) = describe (binder_of (term_at names.terms f)) (term_at names.terms f)

-- a term of a type
abbrev pub typed_at : List Lambda → Listing → Typed
typed_at terms u = record { type = u.0; term = term_at terms u.1 }

-- the literal's atom has a number
abbrev pub IsNumberIn : List ℕ → SatLit → Type 0
IsNumberIn atoms l = l.var.0 < length atoms

abbrev pub IsPlace : List Lambda → ℕ → Type 0
IsPlace terms id = id < length terms

-- the numbers of the command are those of atoms, terms, partial terms and heads
abbrev pub IsNumberedCommand : Naming → Command → Type 0
IsNumberedCommand names (Process l) = IsNumberIn names.atoms l
IsNumberedCommand names (Mate l m) = IsNumberIn names.atoms l × IsNumberIn names.atoms m
IsNumberedCommand names (Confront l m) = IsNumberIn names.atoms l × IsNumberIn names.atoms m
IsNumberedCommand names (Inst l u) = IsNumberIn names.atoms l × IsPlace names.terms u
IsNumberedCommand names (Grow p h) = (p < length names.sketches) × IsHeadNumber h
IsNumberedCommand names (Choose f) = IsPlace names.terms f
IsNumberedCommand names (Describe f) = IsPlace names.terms f
