-- Numbers keep what they stand for.
use Rattle.std.specs.Prelude.{◌≡◌, ◌<◌, ℕ, List, length, get_or}
use Rattle.std.proofs.Common.{ap, ap₂, ◌∙◌, arith, length-append}
use Rattle.stt_core.specs.SimpleType.{formula}
use Rattle.stt_core.specs.Lambda.{Lambda, bound}
use Rattle.tableau_calculus.specs.Literals.{Literal}
use Rattle.sat_base.specs.declared.literal.SatLit.{SatLit}
use Rattle.search_spec.specs.Partial.{hole}
use Rattle.search_spec.specs.State.{Typed, process, mate, confront, inst, grow, choose, describe}
use Rattle.term_bank.specs.Terms.{term_at}
use Rattle.term_bank.proofs.ListLaws.{get_or-front}
use Rattle.literal_map.specs.Atoms.{bank_literal}
use Rattle.witness_names.specs.Rows.{binder_of}
use Rattle.instantiate.specs.Listing.{Listing}
use Rattle.prover_state.specs.declared.command.Command.{Command}
use Rattle.prover_state.specs.declared.command.Command.TheVariants.{Process, Mate, Confront, Inst, Grow, Choose, Describe}
use Rattle.prover_state.specs.Internal.HeadNumbers.{head_numbered}
use Rattle.prover_state.specs.Internal.Names.{Naming, sketch_at, command_at, typed_at, IsNumberIn, IsPlace, IsNumberedCommand}
use Rattle.prover_state.specs.Internal.Growing.{Longer, Continues}

longer_length : {X : Type 0} (xs ys : List X) → Longer xs ys → (n : ℕ) → n < length xs → n < length ys
longer_length xs ys l n h = omega (arith, h, ap length l.1, length-append xs l.0)

front_stays : {X : Type 0} (xs ys : List X) → Longer xs ys → (n : ℕ) (x : X) → n < length xs → get_or ys n x ≡ get_or xs n x
front_stays xs ys l n x h = ap (λ zs. get_or zs n x) l.1 ∙ get_or-front xs l.0 n x h

pub place-stays : (terms terms' : List Lambda) → Longer terms terms' → (id : ℕ) → IsPlace terms id → IsPlace terms' id
place-stays terms terms' l id h = longer_length terms terms' l id h

pub term-stays : (terms terms' : List Lambda) → Longer terms terms' → (id : ℕ) → IsPlace terms id → term_at terms' id ≡ term_at terms id
term-stays terms terms' l id h = front_stays terms terms' l id (bound 0) h

module _ (names names' : Naming) (c : Continues names names') where
  pub number-stays : (l : SatLit) → IsNumberIn names.atoms l → IsNumberIn names'.atoms l
  number-stays l h = longer_length names.atoms names'.atoms c.atoms l.var.0 h

  pub literal-stays : (l : SatLit) → IsNumberIn names.atoms l → bank_literal names'.terms names'.atoms l ≡ bank_literal names.terms names.atoms l
  literal-stays l h =
      let L : Lambda → Literal = λ t. record { positive = l.positive; atom = t } in
      ap L (ap (term_at names'.terms) (front_stays names.atoms names'.atoms c.atoms l.var.0 0 h)
      ∙ term-stays names.terms names'.terms c.terms (get_or names.atoms l.var.0 0) (c.within l.var.0 0 h))

  pub typed-stays : (u : Listing) → IsPlace names.terms u.1 → typed_at names'.terms u ≡ typed_at names.terms u
  typed-stays u h = let T : Lambda → Typed = λ t. record { type = u.0; term = t } in ap T (term-stays names.terms names'.terms c.terms u.1 h)

  sketch_stays : (p : ℕ) → p < length names.sketches → sketch_at names'.sketches p ≡ sketch_at names.sketches p
  sketch_stays p h = front_stays names.sketches names'.sketches c.sketches p (record { type = formula; partial = hole 0 }) h

  pub command-stays : (d : Command) → IsNumberedCommand names d → command_at names' d ≡ command_at names d
  command-stays (Process l) h = ap process (literal-stays l h)
  command-stays (Mate l m) h = ap₂ mate (literal-stays l h.0) (literal-stays m h.1)
  command-stays (Confront l m) h = ap₂ confront (literal-stays l h.0) (literal-stays m h.1)
  command-stays (Inst l u) h = ap₂ inst (literal-stays l h.0) (term-stays names.terms names'.terms c.terms u h.1)
  command-stays (Grow p k) h = ap (λ q. grow q (head_numbered k)) (sketch_stays p h.0)
  command-stays (Choose f) h = ap (λ t. choose (binder_of t) t) (term-stays names.terms names'.terms c.terms f h)
  command-stays (Describe f) h = ap (λ t. describe (binder_of t) t) (term-stays names.terms names'.terms c.terms f h)

  pub numbers-stay : (d : Command) → IsNumberedCommand names d → IsNumberedCommand names' d
  numbers-stay (Process l) h = number-stays l h
  numbers-stay (Mate l m) h = (number-stays l h.0, number-stays m h.1)
  numbers-stay (Confront l m) h = (number-stays l h.0, number-stays m h.1)
  numbers-stay (Inst l u) h = (number-stays l h.0, place-stays names.terms names'.terms c.terms u h.1)
  numbers-stay (Grow p k) h = (longer_length names.sketches names'.sketches c.sketches p h.0, h.1)
  numbers-stay (Choose f) h = place-stays names.terms names'.terms c.terms f h
  numbers-stay (Describe f) h = place-stays names.terms names'.terms c.terms f h
