-- Unit propagation over numbered clauses, and over those that they stand for.
use Rattle.std.specs.Prelude.{◌≡◌, ◌≢◌, ◌++◌, ◌⊎◌, Bool, true, false, IsTrue, List, [], ◌∷◌, map, Contains, refl}
use Rattle.std.specs.List.{Any}
use Rattle.std.proofs.Common.{sym, ap, subst, ◌∙◌, inl, inr, arith, append_assoc, append-nil}
use Rattle.std.proofs.lemmas.Bool.{false≢true, cases_Bool, or_cases, or_left, or_right}
use Rattle.std.proofs.lemmas.List.Elements.{All-contains, Contains-append_cases}
use Rattle.stt_core.specs.Lambda.{Lambda}
use Rattle.tableau_calculus.specs.Literals.{Literal, opposite}
use Rattle.tableau_calculus.proofs.ListLaws.{contains-first, contains-later, contains_cases}
use Rattle.sat_base.specs.declared.literal.SatLit.{SatLit}
use Rattle.sat_base.specs.Literal.{negated, same_literal, holds}
use Rattle.sat_base.proofs.LiteralLaws.{same_literal-refl, same_literal-true, holds-append, All-from_held}
use Rattle.sat_log.specs.Propagation.{IsUnitClause, IsFalseIn, Propagates, IsPropagation, ReachesFalse as NumbersReachFalse}
use Rattle.sat_laws.proofs.TrailLaws.{Propagates-push}
use Rattle.tableau_calculus.specs.Each.{Each}
use Rattle.search_spec.specs.Numbered.{literal_at, IsNumber, AreApart}
use Rattle.search_spec.specs.Unsatisfiable.{Clause}
use Rattle.rebuild_spec.specs.Input.{literals_of}
use Rattle.rebuild_spec.proofs.LiteralLaws.{contains_literal, each_literal, held_in, contains_held}
use Rattle.prover_run.specs.Learning.{IsPropagated, by_unit, PropagatesToFalse}
use Rattle.prover_run.proofs.ContainsLaws.{contains-mapped, contains-unmapped, each-contains, some-in}

-- MORE CLAUSES

module _ (clauses others : List Clause) (within : (c : Clause) → Contains clauses c → Contains others c) where
  IsPropagated-included : (l : Literal) → IsPropagated clauses l → IsPropagated others l
  IsPropagated-included l (by_unit clause m there held reached) = by_unit clause m (within clause there) held (λ k in_clause differs. IsPropagated-included (opposite k) (reached k in_clause differs))

  pub PropagatesToFalse-included : PropagatesToFalse clauses → PropagatesToFalse others
  PropagatesToFalse-included h = record { clause = h.clause; there = within h.clause h.there; denied = λ l held. IsPropagated-included (opposite l) (h.denied l held) }

-- FROM NUMBERS TO FORMULAS

module _ (atoms : List Lambda) (clauses : List (List SatLit)) where
  abbrev cs : List Clause
  cs = map (literals_of atoms) clauses

  abbrev AllReached : List SatLit → Type 0
  AllReached ls = (m : SatLit) → Contains ls m → IsPropagated cs (literal_at atoms m)

  unit_reached : (earlier : List SatLit) (l : SatLit) → AllReached earlier → Any (λ clause. IsUnitClause earlier clause l) clauses → IsPropagated cs (literal_at atoms l)
  unit_reached earlier l all h =
      let u = some-in (λ clause. IsUnitClause earlier clause l) clauses h in
      by_unit (literals_of atoms u.0) (literal_at atoms l) (contains-mapped (literals_of atoms) clauses u.0 u.1) (contains_literal atoms u.0 l u.2.member) (others u.0 u.2)
    where
      others : (clause : List SatLit) → IsUnitClause earlier clause l → (m : Literal) → Contains (literals_of atoms clause) m → m ≢ literal_at atoms l → IsPropagated cs (opposite m)
      others clause u =
          each_literal atoms (λ m. m ≢ literal_at atoms l → IsPropagated cs (opposite m)) clause
          (λ m held differs. all (negated m) (contains_held earlier (negated m) (u.others m held (λ e. differs (ap (literal_at atoms) e)))))

  reached_more : (earlier : List SatLit) (l : SatLit) → AllReached earlier → IsPropagated cs (literal_at atoms l) → AllReached (earlier ++ l ∷ [])
  reached_more earlier l all r m h =
      elim (Contains-append_cases earlier (l ∷ []) m h) [
        | inl before ↦ all m before
        | inr last ↦ contains_cases (IsPropagated cs (literal_at atoms m)) m l [] last (λ same. subst (λ k. IsPropagated cs (literal_at atoms k)) same r) (λ none. absurd (omega (arith, none.1)))
      ]

  propagated : (earlier later : List SatLit) → AllReached earlier → Propagates clauses earlier later → AllReached (earlier ++ later)
  propagated earlier [] all h = subst AllReached (sym (append-nil earlier)) all
  propagated earlier (l ∷ later) all h = subst AllReached (append_assoc earlier (l ∷ []) later) (propagated (earlier ++ l ∷ []) later (reached_more earlier l all (unit_reached earlier l all h.0)) h.1)

  -- where propagation over numbered clauses reaches a false clause, so does propagation over those that they stand for
  pub reaches-false : NumbersReachFalse clauses [] → PropagatesToFalse cs
  reaches-false h =
      let all : AllReached h.literals = subst AllReached (sym h.propagation.begins) (propagated [] h.propagation.later (λ m none. absurd (omega (arith, none.1))) h.propagation.propagated) in
      let f = some-in (IsFalseIn h.literals) clauses h.falsified in
      record {
        clause = literals_of atoms f.0;
        there = contains-mapped (literals_of atoms) clauses f.0 f.1;
        denied = each_literal atoms (λ m. IsPropagated cs (opposite m)) f.0 (λ m held. all (negated m) (contains_held h.literals (negated m) (All-contains (λ l. IsTrue (holds h.literals (negated l))) f.0 m f.2 (contains_held f.0 m held))));
      }

-- FROM FORMULAS TO NUMBERS

module _ (atoms : List Lambda) (apart : AreApart atoms) (clauses : List (List SatLit)) (numbers : Each (Each (IsNumber atoms)) clauses) (given : List SatLit) where
  abbrev formulas : List Clause
  formulas = map (literals_of atoms) clauses

  -- literals with numbers are one where they stand for one
  same_number : (k l : SatLit) → IsNumber atoms k → IsNumber atoms l → literal_at atoms k ≡ literal_at atoms l → k ≡ l
  same_number k l h j e =
      let number = apart k.var.0 l.var.0 h j (ap (λ (m : Literal). m.atom) e) in
      let sign = ap (λ (m : Literal). m.positive) e in
      λ i. record { var = record { 0 = number i }; positive = sign i }

  -- a propagation list that goes on from another one, with a property
  record Reaching (ls : List SatLit) (P : List SatLit → Type 0) : Type 0 where
    literals : List SatLit
    grown : (m : SatLit) → holds ls m ≡ true → holds literals m ≡ true
    propagation : IsPropagation clauses given literals
    is : P literals

  -- the list goes on so, or a false clause is reached
  abbrev Comes : List SatLit → (List SatLit → Type 0) → Type 0
  Comes ls P = Reaching ls P ⊎ NumbersReachFalse clauses given

  abbrev Denies : (SatLit → Bool) → List SatLit → List SatLit → Type 0
  Denies skips ms ls = (m : SatLit) → holds ms m ≡ true → skips m ≡ false → holds ls (negated m) ≡ true

  -- the negation of a literal can be reached from every propagation list
  abbrev CanDeny : SatLit → Type 0
  CanDeny m = (ls : List SatLit) → IsPropagation clauses given ls → Comes ls (λ r. holds r (negated m) ≡ true)

  deny_first : (skips : SatLit → Bool) (m : SatLit) (ms ls : List SatLit) → Denies skips ms ls → (skips m ≡ false → holds ls (negated m) ≡ true) → Denies skips (m ∷ ms) ls
  deny_first skips m ms ls rest first k h kept =
      elim (or_cases (same_literal k m) (holds ms k) h) [
        | inl e ↦ (let same = same_literal-true k m e in subst (λ j. holds ls (negated j) ≡ true) (sym same) (first (subst (λ j. skips j ≡ false) same kept)))
        | inr later ↦ rest k later kept
      ]

  deny_all : (skips : SatLit → Bool) (ms : List SatLit) → ((m : SatLit) → Contains ms m → skips m ≡ false → CanDeny m) → (ls : List SatLit) → IsPropagation clauses given ls → Comes ls (Denies skips ms)
  deny_all skips [] each ls p = inl (record { literals = ls; grown = λ m h. h; propagation = p; is = λ m h kept. absurd (false≢true h) })
  deny_all skips (m ∷ ms) each ls p = after (deny_all skips ms (λ k there. each k (contains-later k m ms there)) ls p)
    where
      first : Reaching ls (Denies skips ms) → (b : Bool) → skips m ≡ b → Comes ls (Denies skips (m ∷ ms))
      first r true skip = inl (record { literals = r.literals; grown = r.grown; propagation = r.propagation; is = deny_first skips m ms r.literals r.is (λ kept. absurd (false≢true (sym kept ∙ skip))) })
      first r false kept =
          elim (each m (contains-first m ms) kept r.literals r.propagation) [
            | inl s ↦ inl (record {
              literals = s.literals;
              grown = λ k h. s.grown k (r.grown k h);
              propagation = s.propagation;
              is = deny_first skips m ms s.literals (λ k h j. s.grown (negated k) (r.is k h j)) (λ _. s.is);
            })
            | inr f ↦ inr f
          ]

      after : Comes ls (Denies skips ms) → Comes ls (Denies skips (m ∷ ms))
      after (inl r) = first r (skips m) refl
      after (inr f) = inr f

  -- a clause all of whose literals are denied is false
  false_there : (c : List SatLit) → Contains clauses c → (ls : List SatLit) → IsPropagation clauses given ls → ((m : SatLit) → holds c m ≡ true → holds ls (negated m) ≡ true) → NumbersReachFalse clauses given
  false_there c there ls p all = record { literals = ls; propagation = p; falsified = (there.0, c, there.1, there.2, All-from_held (λ m. IsTrue (holds ls (negated m))) c all) }

  -- one literal more
  one_more : (c : List SatLit) → Contains clauses c → (k : SatLit) → holds c k ≡ true → (ls : List SatLit) → IsPropagation clauses given ls → Denies (λ m. same_literal m k) c ls → Comes ls (λ r. holds r k ≡ true)
  one_more c there k held ls p denied = by_cases (holds ls (negated k)) refl
    where
      by_cases : (b : Bool) → holds ls (negated k) ≡ b → Comes ls (λ r. holds r k ≡ true)
      by_cases true is =
          inr (false_there c there ls p (λ m h.
          elim (cases_Bool (same_literal m k)) [
            | inl e ↦ subst (λ j. holds ls (negated j) ≡ true) (sym (same_literal-true m k e)) is
            | inr differs ↦ denied m h differs
          ]))
      by_cases false isnt =
          let unit : IsUnitClause ls c k = record {
            member = held;
            still_open = isnt;
            others = λ m h differs.
                elim (cases_Bool (same_literal m k)) [
                  | inl e ↦ absurd (differs (same_literal-true m k e))
                  | inr other ↦ denied m h other
                ];
          } in
          let some : Any (λ clause. IsUnitClause (given ++ p.later) clause k) clauses = (there.0, c, there.1, there.2, subst (λ (before : List SatLit). IsUnitClause before c k) p.begins unit) in
          inl (record {
            literals = ls ++ k ∷ [];
            grown = λ m h. holds-append ls (k ∷ []) m ∙ or_left (holds ls m) (holds (k ∷ []) m) h;
            propagation = record {
              later = p.later ++ k ∷ [];
              begins = ap (λ before. before ++ k ∷ []) p.begins ∙ append_assoc given p.later (k ∷ []);
              propagated = Propagates-push clauses given p.later k p.propagated some;
            };
            is = holds-append ls (k ∷ []) k ∙ or_right (holds ls k) (holds (k ∷ []) k) (or_left (same_literal k k) false (same_literal-refl k));
          })

  number_in : (c : List SatLit) → Contains clauses c → (m : SatLit) → Contains c m → IsNumber atoms m
  number_in c there m h = each-contains (IsNumber atoms) c m (each-contains (Each (IsNumber atoms)) clauses c numbers there) h

  -- a literal that is propagated is reached, or a false clause is
  reach : (l : Literal) → IsPropagated formulas l → (k : SatLit) → IsNumber atoms k → literal_at atoms k ≡ l → (ls : List SatLit) → IsPropagation clauses given ls → Comes ls (λ r. holds r k ≡ true)
  reach l (by_unit clause x there held others) k number is ls p =
      let c = contains-unmapped (literals_of atoms) clauses clause there in
      let m = contains-unmapped (literal_at atoms) c.0 x (subst (λ ms. Contains ms x) (sym c.2) held) in
      let same : m.0 ≡ k = same_number m.0 k (number_in c.0 c.1 m.0 m.1) number (m.2 ∙ sym is) in
      let held_k = subst (λ j. holds c.0 j ≡ true) same (held_in c.0 m.0 m.1) in
      let can : (n : SatLit) → Contains c.0 n → same_literal n k ≡ false → CanDeny n =
      λ n here differs.
      reach (opposite (literal_at atoms n)) (others (literal_at atoms n) (subst (λ ms. Contains ms (literal_at atoms n)) c.2 (contains-mapped (literal_at atoms) c.0 n here))
      (λ e. false≢true (sym differs ∙ subst (λ j. same_literal n j ≡ true) (same_number n k (number_in c.0 c.1 n here) number (e ∙ sym is)) (same_literal-refl n))))
      (negated n) (number_in c.0 c.1 n here) refl in
      elim (deny_all (λ n. same_literal n k) c.0 can ls p) [
        | inl r ↦ (elim (one_more c.0 c.1 k held_k r.literals r.propagation r.is) [
          | inl s ↦ inl (record { literals = s.literals; grown = λ n h. s.grown n (r.grown n h); propagation = s.propagation; is = s.is })
          | inr f ↦ inr f
        ])
        | inr f ↦ inr f
      ]

  -- where propagation over clauses reaches a false one, so does propagation over the numbered clauses that stand for them
  pub reaches-numbered : PropagatesToFalse formulas → NumbersReachFalse clauses given
  reaches-numbered h =
      let c = contains-unmapped (literals_of atoms) clauses h.clause h.there in
      let can : (n : SatLit) → Contains c.0 n → false ≡ false → CanDeny n =
      λ n here _.
      reach (opposite (literal_at atoms n)) (h.denied (literal_at atoms n) (subst (λ ms. Contains ms (literal_at atoms n)) c.2 (contains-mapped (literal_at atoms) c.0 n here))) (negated n) (number_in c.0 c.1 n here) refl in
      elim (deny_all (λ n. false) c.0 can given (record { later = []; begins = sym (append-nil given); propagated = tt })) [
        | inl r ↦ false_there c.0 c.1 r.literals r.propagation (λ m held. r.is m held refl)
        | inr f ↦ f
      ]
