-- What closes a branch with an alternative, by numbers.
use Rattle.std.proofs.Common.{◌≡◌, ℕ, zero, suc, Bool, true, false, not, ◌||◌, List, [], ◌∷◌, ◌++◌, Some, None, slice_get, IsTrue, ◌↔◌, Contains, refl, sym, subst, ⊎_elim}
use Rattle.std.proofs.lemmas.Bool.{or_left, or_right}
use Rattle.std.proofs.lemmas.List.Elements.{Contains-append_left, Contains-append_right, Contains-append_cases}
use Rattle.stt_core.specs.Lambda.{Lambda}
use Rattle.tableau_calculus.specs.Literals.{Literal, opposite}
use Rattle.tableau_calculus.specs.Accepted.{Within, IsClosedBranch}
use Rattle.tableau_calculus.specs.declared.refutation.Line.{Line}
use Rattle.tableau_calculus.proofs.ListLaws.{contains-within, within-each}
use Rattle.refute_check.specs.Internal.Numbers.{number_in}
use Rattle.refute_check.specs.Internal.Branches.{branch_has, line_has, IsLiteralOf, RepresentsBy, Represents, AreNumberedBranch, AreBranches}
use Rattle.refute_check.specs.declared.branch.Branch.{Branch}
use Rattle.refute_check.specs.declared.branch.LineBranch.{LineBranch}
use Rattle.refute_check.proofs.BranchLaws.{same_number}
use Rattle.refute_check.proofs.SetLaws.{or_split}

-- the branch of the line at a place, by numbers
pub record LineAt (terms : List Lambda) (lines : List Line) (j : ℕ) (b : LineBranch) : Type 0 where
  pub line : Line
  pub at : slice_get lines j ≡ Some line
  pub numbered : AreNumberedBranch terms line.branch
  pub represents : RepresentsBy terms line.branch (line_has b)

pub line_at : (terms : List Lambda) (lines : List Line) (bs : List LineBranch) (j : ℕ) (b : LineBranch) → AreBranches terms lines bs → slice_get bs j ≡ Some b → LineAt terms lines j b
line_at terms lines [] j b h e = cc
line_at terms [] (c ∷ bs) j b h e = absurd h
line_at terms (line ∷ lines) (c ∷ bs) zero b h e =
    let same : c ≡ b = cc in record { line = line; at = refl; numbered = h.0; represents = subst (λ x. RepresentsBy terms line.branch (line_has x)) same h.1 }
line_at terms (line ∷ lines) (c ∷ bs) (suc j) b h e =
    let l = line_at terms lines bs j b h.2 e in record { line = l.line; at = l.at; numbered = l.numbered; represents = l.represents }

pub no_line_at : (terms : List Lambda) (lines : List Line) (bs : List LineBranch) (j : ℕ) (line : Line) → AreBranches terms lines bs → slice_get bs j ≡ None → slice_get lines j ≡ Some line → ⊥
no_line_at terms [] bs j line h e g = cc
no_line_at terms (l ∷ lines) [] j line h e g = absurd h
no_line_at terms (l ∷ lines) (c ∷ bs) zero line h e g = cc
no_line_at terms (l ∷ lines) (c ∷ bs) (suc j) line h e g = no_line_at terms lines bs j line h.2 e g

module _ (terms : List Lambda) where
  -- a literal whose atom has this number is the one
  literal_is : (ls : List Literal) (sign : Bool) (k : ℕ) (t : Lambda) → IsLiteralOf terms ls sign k → number_in terms t ≡ Some k → Contains ls (record { positive = sign; atom = t })
  literal_is ls sign k t h g = subst (λ u. Contains ls (record { positive = sign; atom = u })) (same_number terms h.atom t k h.numbered g) h.among

  module _ (alternative branch : List Literal) (known own : Branch) (a : Represents terms alternative known) (o : Represents terms branch own) where
    in_either : (sign : Bool) (k : ℕ) (t : Lambda) → number_in terms t ≡ Some k → Contains (alternative ++ branch) (record { positive = sign; atom = t }) → IsTrue (branch_has known sign k || branch_has own sign k)
    in_either sign k t n c = ⊎_elim
        (λ h. or_left (branch_has known sign k) (branch_has own sign k) (a.whole sign k (record { atom = t; numbered = n; among = h })))
        (λ h. or_right (branch_has known sign k) (branch_has own sign k) (o.whole sign k (record { atom = t; numbered = n; among = h })))
        (Contains-append_cases alternative branch (record { positive = sign; atom = t }) c)

    either_in : (sign : Bool) (k : ℕ) (t : Lambda) → number_in terms t ≡ Some k → IsTrue (branch_has known sign k || branch_has own sign k) → Contains (alternative ++ branch) (record { positive = sign; atom = t })
    either_in sign k t n h = or_split (branch_has known sign k) (branch_has own sign k) h
        (λ e. Contains-append_left alternative branch (record { positive = sign; atom = t }) (literal_is alternative sign k t (a.sound sign k e) n))
        (λ e. Contains-append_right alternative branch (record { positive = sign; atom = t }) (literal_is branch sign k t (o.sound sign k e) n))

    pub within-numbers : (ls : List Literal) (has : Bool → ℕ → Bool) → RepresentsBy terms ls has → Within ls (alternative ++ branch) → (sign : Bool) (k : ℕ) → IsTrue (has sign k) → IsTrue (branch_has known sign k || branch_has own sign k)
    within-numbers ls has r w sign k e =
        let l = r.sound sign k e in
        in_either sign k l.atom l.numbered (contains-within (record { positive = sign; atom = l.atom }) ls (alternative ++ branch) l.among w)

    pub numbers-within : (ls : List Literal) (has : Bool → ℕ → Bool) → AreNumberedBranch terms ls → RepresentsBy terms ls has → ((sign : Bool) (k : ℕ) → IsTrue (has sign k) → IsTrue (branch_has known sign k || branch_has own sign k)) → Within ls (alternative ++ branch)
    numbers-within ls has n r h = within-each ls (alternative ++ branch) (λ l c.
        let k = n l c in
        either_in l.positive k.0 l.atom k.1 (h l.positive k.0 (r.whole l.positive k.0 (record { atom = l.atom; numbered = k.1; among = c }))))

    -- a literal of the alternative whose negation is in the branch
    pub clash-closed : (sign : Bool) (k : ℕ) → IsTrue (branch_has known sign k) → IsTrue (branch_has own (not sign) k) → IsClosedBranch (alternative ++ branch)
    clash-closed sign k e g =
        let l = a.sound sign k e in
        record {
          literal = record { positive = sign; atom = l.atom };
          holds = Contains-append_left alternative branch (record { positive = sign; atom = l.atom }) l.among;
          holds_opposite = Contains-append_right alternative branch (record { positive = not sign; atom = l.atom }) (literal_is branch (not sign) k l.atom (o.sound (not sign) k g) l.numbered);
        }

  -- a literal of the branch whose negation is in it
  pub itself-closed : (branch : List Literal) (own : Branch) → Represents terms branch own → (sign : Bool) (k : ℕ) → IsTrue (branch_has own sign k) → IsTrue (branch_has own (not sign) k) → IsClosedBranch branch
  itself-closed branch own o sign k e g =
      let l = o.sound sign k e in
      record {
        literal = record { positive = sign; atom = l.atom };
        holds = l.among;
        holds_opposite = literal_is branch (not sign) k l.atom (o.sound (not sign) k g) l.numbered;
      }

  -- whether a branch is closed, by numbers
  pub clashes_closed : (branch : List Literal) (own : Branch) (answer : Bool) → AreNumberedBranch terms branch → Represents terms branch own → (IsTrue answer ↔ ((k : ℕ) × (sign : Bool) × IsTrue (branch_has own sign k) × IsTrue (branch_has own (not sign) k))) → IsTrue answer ↔ IsClosedBranch branch
  clashes_closed branch own answer n o h = (
    λ e. let c = h.0 e in itself-closed branch own o c.1 c.0 c.2 c.3,
    λ c.
        let k = n c.literal c.holds in
        h.1 (k.0, c.literal.positive, o.whole c.literal.positive k.0 (record { atom = c.literal.atom; numbered = k.1; among = c.holds }), o.whole (not c.literal.positive) k.0 (record { atom = c.literal.atom; numbered = k.1; among = c.holds_opposite })),
  )

  not_not : (b : Bool) → not (not b) ≡ b
  not_not true = refl
  not_not false = refl

  module _ {P : Type 0} (alternative branch : List Literal) (known own : Branch) (n : AreNumberedBranch terms branch) (a : Represents terms alternative known) (o : Represents terms branch own) where
    -- where a branch with an alternative is closed
    pub closed-cases : IsClosedBranch (alternative ++ branch)
        → ((sign : Bool) (k : ℕ) → IsTrue (branch_has own sign k) → IsTrue (branch_has own (not sign) k) → P)
        → ((sign : Bool) (k : ℕ) → IsTrue (branch_has known sign k) → IsTrue (branch_has own (not sign) k) → P)
        → (IsClosedBranch alternative → P) → P
    closed-cases c own_closed clash alone =
        let l = c.literal in
        ⊎_elim
        (λ h. ⊎_elim
        (λ g. alone (record { literal = l; holds = h; holds_opposite = g }))
        (λ g. let k = n (opposite l) g in
        clash l.positive k.0 (a.whole l.positive k.0 (record { atom = l.atom; numbered = k.1; among = h })) (o.whole (not l.positive) k.0 (record { atom = l.atom; numbered = k.1; among = g })))
        (Contains-append_cases alternative branch (opposite l) c.holds_opposite))
        (λ h. ⊎_elim
        (λ g. let k = n l h in
        clash (not l.positive) k.0 (a.whole (not l.positive) k.0 (record { atom = l.atom; numbered = k.1; among = g }))
        (subst (λ s. IsTrue (branch_has own s k.0)) (sym (not_not l.positive)) (o.whole l.positive k.0 (record { atom = l.atom; numbered = k.1; among = h }))))
        (λ g. let k = n l h in
        own_closed l.positive k.0 (o.whole l.positive k.0 (record { atom = l.atom; numbered = k.1; among = h })) (o.whole (not l.positive) k.0 (record { atom = l.atom; numbered = k.1; among = g })))
        (Contains-append_cases alternative branch (opposite l) c.holds_opposite))
        (Contains-append_cases alternative branch l c.holds)
