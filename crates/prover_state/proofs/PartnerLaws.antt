-- The partners of a literal, by numbers.
use Rattle.std.specs.Prelude.{◌≡◌, ◌&&◌, ◌||◌, not, ℕ, zero, suc, Bool, true, false, List, [], ◌∷◌, map, filter, refl, if◌then◌else◌}
use Rattle.std.proofs.Common.{sym, ap, ap₂, ◌∙◌}
use Rattle.std.proofs.lemmas.Bool.{and_parts}
use Rattle.stt_core.specs.SimpleType.{base, arrow}
use Rattle.stt_core.specs.Lambda.{name, witness, falsity, negation, implication, all, equality, choice, description, Lambda, bound, constant, lam, app, eq}
use Rattle.stt_core.proofs.SameTerms.{same_term-true}
use Rattle.tableau_calculus.specs.Literals.{Literal}
use Rattle.tableau_calculus.specs.Kinds.{same_sign}
use Rattle.sat_base.specs.declared.literal.SatLit.{SatLit}
use Rattle.command_queue.specs.Queue.{Queue}
use Rattle.tableau_calculus.specs.Each.{Each}
use Rattle.search_spec.specs.Partners.{partners, equates_on, has_equal_sides, positive_first, matings, confrontations}
use Rattle.search_spec.specs.Spine.{head_of, has_compared_head, is_application, is_spine, same_head}
use Rattle.search_spec.specs.State.{Command as Meant, mate, confront}
use Rattle.literal_map.specs.Atoms.{bank_literal}
use Rattle.mating_rules.specs.Noted.{are_partners, equates_alike, partners_of}
use Rattle.mating_rules.proofs.StayLaws.{literals-partners}
use Rattle.prover_state.specs.declared.command.Planned.{Planned}
use Rattle.prover_state.specs.declared.command.Delays.{Delays}
use Rattle.prover_state.specs.declared.tables.Tables.{Tables}
use Rattle.prover_state.specs.Internal.Names.{IsNumberIn}
use Rattle.prover_state.specs.Internal.Pending.{equation_type, is_base_equation}
use Rattle.prover_state.specs.Internal.Standing.{can_pair, IsRightState}
use Rattle.prover_state.proofs.EachLaws.{each-from_All, each-weaker}
use Rattle.prover_state.proofs.PlaceLaws.{map-mapped, each-passes}

-- the literals that don't pass a first test fail the second one
kept-filter : {X Y : Type 0} (c : X → Bool) (p q : Y → Bool) (d : X → Y) → ((x : X) → (if c x then p (d x) else false) ≡ q (d x)) → (xs : List X) → filter p (map d (filter c xs)) ≡ filter q (map d xs)
kept-filter c p q d e [] = refl
kept-filter {X} {Y} c p q d e (x ∷ xs) = go (c x) (e x) (kept-filter c p q d e xs)
  where
    go : (b : Bool) → (if b then p (d x) else false) ≡ q (d x) → filter p (map d (filter c xs)) ≡ filter q (map d xs)
        → filter p (map d (if b then x ∷ filter c xs else filter c xs)) ≡ (if q (d x) then d x ∷ filter q (map d xs) else filter q (map d xs))
    go true h rest = ap₂ (λ (b : Bool) (ys : List Y). if b then d x ∷ ys else ys) h rest
    go false h rest = rest ∙ ap (λ (b : Bool). if b then d x ∷ filter q (map d xs) else filter q (map d xs)) h

-- an equation has no compared head
sides_head : (u : Lambda) → has_equal_sides u ≡ true → has_compared_head (head_of u) ≡ false
sides_head (bound k) e = cc
sides_head (constant c) e = cc
sides_head (lam a s) e = cc
sides_head (app (bound k) t) e = cc
sides_head (app (constant c) t) e = cc
sides_head (app (lam a s) t) e = cc
sides_head (app (app (bound k) s) t) e = cc
sides_head (app (app (lam a u) s) t) e = cc
sides_head (app (app (app u v) s) t) e = cc
sides_head (app (app (constant (name k)) s) t) e = cc
sides_head (app (app (constant (witness k)) s) t) e = cc
sides_head (app (app (constant falsity) s) t) e = cc
sides_head (app (app (constant negation) s) t) e = cc
sides_head (app (app (constant implication) s) t) e = cc
sides_head (app (app (constant (all a)) s) t) e = cc
sides_head (app (app (constant (equality a)) s) t) e = refl
sides_head (app (app (constant (choice a)) s) t) e = cc
sides_head (app (app (constant (description a)) s) t) e = cc

other_head : (s u : Lambda) → is_spine s ≡ true → has_equal_sides u ≡ true → same_head s u ≡ false
other_head s u spine sides = by_test (same_head s u) refl
  where
    compared : has_compared_head (head_of s) ≡ true
    compared = (and_parts (is_application s) (has_compared_head (head_of s)) spine).1

    by_test : (b : Bool) → same_head s u ≡ b → b ≡ false
    by_test false e = refl
    by_test true e = sym compared ∙ ap has_compared_head (same_term-true (head_of s) (head_of u) e) ∙ sides_head u sides

-- an equation on a base type
base_equation : (u : Lambda) → is_base_equation u ≡ true → (n : ℕ) × ((s : Lambda) × ((t : Lambda) × (u ≡ eq (base (suc n)) s t)))
base_equation (bound k) e = cc
base_equation (constant c) e = cc
base_equation (lam a s) e = cc
base_equation (app (bound k) t) e = cc
base_equation (app (constant c) t) e = cc
base_equation (app (lam a s) t) e = cc
base_equation (app (app (bound k) s) t) e = cc
base_equation (app (app (lam a u) s) t) e = cc
base_equation (app (app (app u v) s) t) e = cc
base_equation (app (app (constant (name k)) s) t) e = cc
base_equation (app (app (constant (witness k)) s) t) e = cc
base_equation (app (app (constant falsity) s) t) e = cc
base_equation (app (app (constant negation) s) t) e = cc
base_equation (app (app (constant implication) s) t) e = cc
base_equation (app (app (constant (all a)) s) t) e = cc
base_equation (app (app (constant (choice a)) s) t) e = cc
base_equation (app (app (constant (description a)) s) t) e = cc
base_equation (app (app (constant (equality (arrow a b))) s) t) e = cc
base_equation (app (app (constant (equality (base zero))) s) t) e = cc
base_equation (app (app (constant (equality (base (suc n)))) s) t) e = (n, (s, (t, refl)))

unpaired : (b p e h : Bool) → (b || not e) ≡ false → (e ≡ true → h ≡ false) → false ≡ (p && h)
unpaired true p e h k f = cc
unpaired false p false h k f = cc
unpaired false true true h k f = sym (f refl)
unpaired false false true h k f = refl

opposed : (p x q e : Bool) → (if x || not e then not (same_sign p x) && q else false) ≡ (not (same_sign p x) && (q && (not p || not e)))
opposed true true q e = refl
opposed true false true true = refl
opposed true false true false = refl
opposed true false false true = refl
opposed true false false false = refl
opposed false true true e = refl
opposed false true false e = refl
opposed false false q true = refl
opposed false false q false = refl

module _ (t : Tables) (q : Queue Planned Delays) (r : IsRightState t q) (l : SatLit) where
  abbrev d : SatLit → Literal
  d = bank_literal t.basis.bank.terms t.basis.lits

  abbrev found : List SatLit
  found = partners_of t.basis.bank.terms t.basis.lits l t.index.noted

  -- the partners are noted literals
  pub partner-numbers : Each (IsNumberIn t.basis.lits) found
  partner-numbers =
      let test : SatLit → Bool = λ m. not (same_sign l.positive m.positive) && are_partners (d l).atom (d m).atom in
      each-weaker (λ m. IsNumberIn t.basis.lits m × (test m ≡ true)) (IsNumberIn t.basis.lits) (λ m h. h.0) found
      (each-passes (IsNumberIn t.basis.lits) test t.index.noted (each-from_All (IsNumberIn t.basis.lits) t.index.noted r.index.numbers))

  abbrev opposite : (Lambda → Bool) → Literal → Bool
  opposite test m = not (same_sign l.positive m.positive) && test m.atom

  -- the partners with which the literal is mated
  mates-are : is_spine (d l).atom ≡ true → partners (same_head (d l).atom) (d l) (map d t.noted.items) ≡ map d found
  mates-are spine =
      sym (kept-filter (can_pair t.basis.bank.terms t.basis.lits) (opposite (same_head (d l).atom)) (opposite (same_head (d l).atom)) d
      (λ m. by_test m (can_pair t.basis.bank.terms t.basis.lits m) refl) t.noted.items)
      ∙ ap (λ ms. filter (opposite (same_head (d l).atom)) (map d ms)) (sym r.paired)
      ∙ sym (ap (λ (b : Bool). partners (λ u. if b then same_head (d l).atom u else equates_alike (d l).atom u) (d l) (map d t.index.noted)) spine)
      ∙ sym (literals-partners t.basis.bank.terms t.basis.lits l t.index.noted)
    where
      by_test : (m : SatLit) (b : Bool) → can_pair t.basis.bank.terms t.basis.lits m ≡ b → (if b then opposite (same_head (d l).atom) (d m) else false) ≡ opposite (same_head (d l).atom) (d m)
      by_test m true e = refl
      by_test m false e =
          unpaired m.positive (not (same_sign l.positive m.positive)) (has_equal_sides (d m).atom) (same_head (d l).atom (d m).atom) e (other_head (d l).atom (d m).atom spine)

  -- the partners with which it is confronted
  confronted-are : is_base_equation (d l).atom ≡ true → partners (λ u. equates_on (equation_type (d l).atom) u && (not l.positive || not (has_equal_sides u))) (d l) (map d t.noted.items) ≡ map d found
  confronted-are equates =
      sym (kept-filter (can_pair t.basis.bank.terms t.basis.lits) (opposite (equates_on (equation_type (d l).atom))) (opposite (λ u. equates_on (equation_type (d l).atom) u && (not l.positive || not (has_equal_sides u)))) d
      (λ m. opposed l.positive m.positive (equates_on (equation_type (d l).atom) (d m).atom) (has_equal_sides (d m).atom)) t.noted.items)
      ∙ ap (λ ms. filter (opposite (equates_on (equation_type (d l).atom))) (map d ms)) (sym r.paired)
      ∙ alike (base_equation (d l).atom equates)
      ∙ sym (literals-partners t.basis.bank.terms t.basis.lits l t.index.noted)
    where
      alike : (n : ℕ) × ((s : Lambda) × ((u : Lambda) × ((d l).atom ≡ eq (base (suc n)) s u))) → filter (opposite (equates_on (equation_type (d l).atom))) (map d t.index.noted) ≡ partners (are_partners (d l).atom) (d l) (map d t.index.noted)
      alike x =
          ap (λ v. filter (opposite (equates_on (equation_type v))) (map d t.index.noted)) x.1.1.1
          ∙ sym (ap (λ v. partners (are_partners v) (d l) (map d t.index.noted)) x.1.1.1)

  -- the commands for the partners, where the literal comes first ..
  pub first-of-pairs : (command : Literal → Literal → Meant) (ms : List Literal) → ms ≡ map d found → l.positive ≡ true → map (positive_first command (d l)) ms ≡ map (λ m. command (d l) (d m)) found
  first-of-pairs command ms are e =
      ap (map (positive_first command (d l))) are
      ∙ map-mapped (positive_first command (d l)) d found
      ∙ ap (λ (b : Bool). map (λ m. if b then command (d l) (d m) else command (d m) (d l)) found) e

  -- .. and where it comes second
  pub second-of-pairs : (command : Literal → Literal → Meant) (ms : List Literal) → ms ≡ map d found → l.positive ≡ false → map (positive_first command (d l)) ms ≡ map (λ m. command (d m) (d l)) found
  second-of-pairs command ms are e =
      ap (map (positive_first command (d l))) are
      ∙ map-mapped (positive_first command (d l)) d found
      ∙ ap (λ (b : Bool). map (λ m. if b then command (d l) (d m) else command (d m) (d l)) found) e

  not_positive : (b : Bool) → not b ≡ true → b ≡ false
  not_positive true e = cc
  not_positive false e = refl

  -- THE LOOPS OVER PARTNERS

  pub none-mated : is_spine (d l).atom ≡ true → found ≡ [] → matings (d l) (map d t.noted.items) ≡ []
  none-mated e none = ap (map (positive_first mate (d l))) (mates-are e ∙ ap (map d) none)

  pub none-confronted : is_base_equation (d l).atom ≡ true → found ≡ [] → confrontations (equation_type (d l).atom) (d l) (map d t.noted.items) ≡ []
  none-confronted e none = ap (map (positive_first confront (d l))) (confronted-are e ∙ ap (map d) none)

  pub positive-mated : (l.positive && is_spine (d l).atom) ≡ true → matings (d l) (map d t.noted.items) ≡ map (λ m. mate (d l) (d m)) found
  positive-mated e = let p = and_parts _ _ e in first-of-pairs mate _ (mates-are p.1) p.0

  pub negative-mated : (not l.positive && is_spine (d l).atom) ≡ true → matings (d l) (map d t.noted.items) ≡ map (λ m. mate (d m) (d l)) found
  negative-mated e = let p = and_parts _ _ e in second-of-pairs mate _ (mates-are p.1) (not_positive l.positive p.0)

  pub positive-confronted : (l.positive && is_base_equation (d l).atom) ≡ true → confrontations (equation_type (d l).atom) (d l) (map d t.noted.items) ≡ map (λ m. confront (d l) (d m)) found
  positive-confronted e = let p = and_parts _ _ e in first-of-pairs confront _ (confronted-are p.1) p.0

  pub negative-confronted : (not l.positive && is_base_equation (d l).atom) ≡ true → confrontations (equation_type (d l).atom) (d l) (map d t.noted.items) ≡ map (λ m. confront (d m) (d l)) found
  negative-confronted e = let p = and_parts _ _ e in second-of-pairs confront _ (confronted-are p.1) (not_positive l.positive p.0)
