-- Loops that are pushed piece by piece.
use Rattle.std.specs.Prelude.{◌≡◌, ◌≤◌, ◌<◌, ◌+◌, ◌++◌, ℕ, zero, suc, List, [], ◌∷◌, drop, length, slice_get, Some, refl}
use Rattle.std.proofs.Common.{sym, ap, ap₂, subst, ◌∙◌, arith, append_assoc}
use Rattle.mode_file.specs.declared.Mode.{Mode}
use Rattle.command_queue.specs.declared.entry.Entry.{Entry}
use Rattle.tableau_calculus.specs.Each.{Each}
use Rattle.search_spec.specs.Queue.{new_entries}
use Rattle.search_spec.specs.State.{State, Command as Meant, due, with_commands}
use Rattle.prover_state.specs.declared.command.Command.{Command}
use Rattle.prover_state.specs.declared.command.Over.{Over}
use Rattle.prover_state.specs.declared.piece.Piece.{Piece}
use Rattle.prover_state.specs.declared.tables.Tables.{Tables}
use Rattle.prover_state.specs.Internal.Names.{command_at, IsNumberedCommand}
use Rattle.prover_state.specs.Internal.Pending.{between, BeginsWith, IsSigned}
use Rattle.prover_state.specs.Internal.Pieces.{extra_delay, numbered_loop, even_until, IsPiece, IsLoop}
use Rattle.prover_state.specs.Internal.Standing.{without_witnesses, naming_in, sources}
use Rattle.prover_state.proofs.EachLaws.{each-weaker, each-last}
use Rattle.prover_state.proofs.EvenLaws.{even-first, some-even}
use Rattle.prover_state.proofs.SameLoops.{same-loop}
use Rattle.prover_state.proofs.TermLaws.{pushed-nothing}
use Rattle.prover_state.proofs.WholeLaws.{between-more, between-none, between-then, between-last}

-- COMMANDS ONE AFTER THE OTHER

entries_joined : {C : Type 0} (d : C → ℕ) (n : ℕ) (xs ys : List C) → new_entries d n (xs ++ ys) ≡ new_entries d n xs ++ new_entries d (n + length xs) ys
entries_joined d n [] ys = ap (λ k. new_entries d k ys) (let e : n ≡ n + 0 = omega arith in e)
entries_joined {C} d n (x ∷ xs) ys =
    ap (λ (qs : List (Entry C)). record { due = d x; number = n; command = x } ∷ qs)
    (entries_joined d (suc n) xs ys ∙ ap (λ k. new_entries d (suc n) xs ++ new_entries d k ys) (let e : suc n + length xs ≡ n + length (x ∷ xs) = omega arith in e))

length_joined : {X : Type 0} (n : ℕ) (xs ys : List X) → n + length (xs ++ ys) ≡ n + length xs + length ys
length_joined n [] ys = omega arith
length_joined n (x ∷ xs) ys = let e = length_joined n xs ys in omega (arith, e)

pushed_joined : (mode : Mode) (xs ys : List Meant) (s : State) → with_commands mode (xs ++ ys) s ≡ with_commands mode ys (with_commands mode xs s)
pushed_joined mode xs ys s =
    ap₂ (λ qs n. record s { queue = qs; pushes = n })
    (ap (λ qs. s.queue ++ qs) (entries_joined (due mode s.moment) s.pushes xs ys) ∙ sym (append_assoc s.queue (new_entries (due mode s.moment) s.pushes xs) (new_entries (due mode s.moment) (s.pushes + length xs) ys)))
    (length_joined s.pushes xs ys)

-- what is left of a loop, where a part of it is pushed
pub part-pushed : (mode : Mode) (cs : List Meant) (from next : ℕ) → from ≤ next → (s : State) → with_commands mode (drop next cs) (with_commands mode (between from next cs) s) ≡ with_commands mode (drop from cs) s
part-pushed mode cs from next h s = sym (pushed_joined mode (between from next cs) (drop next cs) s) ∙ ap (λ xs. with_commands mode xs s) (between-then from next cs h)

-- PIECES

module _ (mode : Mode) (t : Tables) (over : Over) (c : Command) where
  abbrev loop : List Meant
  loop = numbered_loop t over c

  abbrev named : Command → Meant
  named d = command_at (naming_in t) d

  abbrev LikeExtra : ℕ → Meant → Type 0
  LikeExtra n d = extra_delay mode d ≡ n

  module _ (l : IsLoop t over c) (piece : Piece) (end : ℕ) (p : IsPiece mode t over c piece end) where
    same : (numbered_loop t over piece.first ≡ loop) × IsSigned over (named piece.first)
    same = same-loop (without_witnesses t.basis.bank) (sources t) over piece.from (named c) (named piece.first) l.signed p.leads

    pub own-list : numbered_loop t over piece.first ≡ loop
    own-list = same.0

    pub own-loop : IsLoop t over piece.first
    own-loop = record { witnesses = l.witnesses; signed = same.1 }

    pub own-piece : IsPiece mode t over piece.first piece end
    own-piece = record {
      some = p.some;
      within = subst (λ (cs : List Meant). end ≤ length cs) (sym same.0) p.within;
      numbers = p.numbers;
      leads = subst (λ (cs : List Meant). slice_get cs piece.from ≡ Some (named piece.first)) (sym same.0) p.leads;
      even = subst (λ (cs : List Meant). Each (LikeExtra piece.extra) (between piece.from end cs)) (sym same.0) p.even;
    }

  pub first-piece : (begins : BeginsWith (named c) loop) (count : ℕ) → count ≡ length loop → IsNumberedCommand (naming_in t) c → (extra : ℕ) → extra ≡ extra_delay mode (named c)
      → (end : ℕ) → end ≡ even_until mode.defaults over count → (piece : Piece) → piece ≡ record { first = c; from = 0; extra = extra } → IsPiece mode t over c piece end
  first-piece begins count n numbers extra e end is piece piece_is =
      let some = some-even mode (without_witnesses t.basis.bank) (sources t) over (named c) begins.0 begins.1 count n in
      subst (λ (x : Piece). IsPiece mode t over c x end) (sym piece_is)
      (record {
        some = omega (arith, is, some.0);
        within = omega (arith, is, some.1, n);
        numbers = numbers;
        leads = ap (λ (cs : List Meant). slice_get cs 0) begins.1;
        even =
            subst (λ k. Each (LikeExtra extra) (between 0 k loop)) (sym is)
            (each-weaker (λ d. extra_delay mode d ≡ extra_delay mode (named c)) (LikeExtra extra) (λ d h. h ∙ sym e) (between 0 (even_until mode.defaults over count) loop)
            (even-first mode (without_witnesses t.basis.bank) (sources t) over (named c) begins.0 begins.1 count n));
      })

  module _ (place : ℕ) (within : place < length loop) (d : Command) (at : slice_get loop place ≡ Some (named d)) (wait : ℕ) (waits : wait ≡ extra_delay mode (named d)) where
    -- the command at its end joins a piece
    pub more-piece : (piece : Piece) → IsPiece mode t over c piece place → wait ≡ piece.extra → IsPiece mode t over c piece (place + 1)
    more-piece piece p e = record {
      some = let h = p.some in omega (arith, h);
      within = omega (arith, within);
      numbers = p.numbers;
      leads = p.leads;
      even =
          subst (λ k. Each (LikeExtra piece.extra) (between piece.from k loop)) (let k : suc place ≡ place + 1 = omega arith in k)
          (subst (λ (cs : List Meant). Each (LikeExtra piece.extra) cs) (sym (between-last piece.from place loop (named d) (let h = p.some in omega (arith, h)) at))
          (each-last (LikeExtra piece.extra) (between piece.from place loop) (named d) p.even (sym waits ∙ e)));
    }

    -- the command at its end begins another one
    pub next-piece : IsNumberedCommand (naming_in t) d → (piece : Piece) → piece ≡ record { first = d; from = place; extra = wait } → IsPiece mode t over c piece (place + 1)
    next-piece numbers piece is =
        subst (λ (x : Piece). IsPiece mode t over c x (place + 1)) (sym is)
        (record {
          some = omega arith;
          within = omega (arith, within);
          numbers = numbers;
          leads = at;
          even =
              subst (λ (cs : List Meant). Each (LikeExtra wait) cs)
              (sym (between-more place (place + 1) loop (named d) (omega arith) at ∙ ap (λ cs. named d ∷ cs) (between-none (suc place) (place + 1) loop (omega arith))))
              (sym waits, tt);
        })

module _ (mode : Mode) (t : Tables) (over : Over) (c : Command) (l : IsLoop t over c) (piece : Piece) (end : ℕ) (p : IsPiece mode t over c piece end) (m : Mode) (modes : m ≡ mode) (u : Tables) (tables : u ≡ t) where
  -- the same over tables and by a mode that are the same
  pub fits-there : IsLoop u over piece.first
  fits-there = subst (λ (x : Tables). IsLoop x over piece.first) (sym tables) (own-loop mode t over c l piece end p)

  pub piece-there : IsPiece m u over piece.first piece end
  piece-there = subst (λ (x : Tables). IsPiece m x over piece.first piece end) (sym tables) (subst (λ (n : Mode). IsPiece n t over piece.first piece end) (sym modes) (own-piece mode t over c l piece end p))

  list_there : numbered_loop u over piece.first ≡ numbered_loop t over c
  list_there = ap (λ (x : Tables). numbered_loop x over piece.first) tables ∙ own-list mode t over c l piece end p

  -- with the piece pushed, what is left of the loop brings the state to where it is to come
  pub piece-pushed : (s s' aim : State) → s' ≡ with_commands m (between piece.from end (numbered_loop u over piece.first)) s
      → with_commands mode (drop piece.from (numbered_loop t over c)) s ≡ aim → with_commands mode (drop end (numbered_loop t over c)) s' ≡ aim
  piece-pushed s s' aim is before =
      let here : s' ≡ with_commands mode (between piece.from end (numbered_loop t over c)) s = is ∙ ap₂ (λ n (cs : List Meant). with_commands n (between piece.from end cs) s) modes list_there in
      ap (with_commands mode (drop end (numbered_loop t over c))) here
      ∙ part-pushed mode (numbered_loop t over c) piece.from end (let h = p.some in omega (arith, h)) s
      ∙ before

-- at the end of the loop nothing is left
pub whole-pushed : (mode : Mode) (cs : List Meant) (count : ℕ) → length cs ≤ count → (s aim : State) → with_commands mode (drop count cs) s ≡ aim → s ≡ aim
whole-pushed mode cs count h s aim e = sym (pushed-nothing mode s) ∙ ap (λ (xs : List Meant). with_commands mode xs s) (sym (dropped count cs h)) ∙ e
  where
    dropped : (n : ℕ) (xs : List Meant) → length xs ≤ n → drop n xs ≡ []
    dropped zero [] k = refl
    dropped (suc n) [] k = refl
    dropped zero (x ∷ xs) k = absurd (omega (arith, k))
    dropped (suc n) (x ∷ xs) k = dropped n xs (omega (arith, k))
