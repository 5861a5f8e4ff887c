-- Branches as sets of numbers.
use Rattle.std.proofs.Common.{◌≡◌, ℕ, suc, Bool, true, false, ◌||◌, ◌&&◌, ◌==◌, List, [], ◌∷◌, ◌++◌, Option, Some, None, option_map, Contains, refl, sym, ap, subst, ◌∙◌, append_assoc, append-nil, ⊎_elim, if◌then◌else◌, arith}
use Rattle.std.proofs.lemmas.Bool.{and_from, and_parts, or_left, or_right, eqb-true, eq-eqb}
use Rattle.std.proofs.lemmas.List.Elements.{Contains-push, Contains-append_left, Contains-push_cases}
use Rattle.stt_core.specs.Lambda.{Lambda}
use Rattle.stt_core.specs.SameTerm.{same_term}
use Rattle.tableau_calculus.specs.Literals.{Literal}
use Rattle.tableau_calculus.specs.Kinds.{same_sign}
use Rattle.tableau_calculus.specs.declared.refutation.Line.{Line}
use Rattle.tableau_calculus.proofs.ListLaws.{untrue}
use Rattle.tableau_calculus.proofs.AddedLaws.{same_sign-true}
use Rattle.refute_check.specs.Internal.Numbers.{number_in}
use Rattle.refute_check.specs.Internal.Branches.{branch_has, line_has, IsLiteralOf, RepresentsBy, Represents, AreNumberedBranch, Grow, AreBranches}
use Rattle.refute_check.specs.declared.branch.Branch.{Branch}
use Rattle.refute_check.specs.declared.branch.LineBranch.{LineBranch}
use Rattle.refute_check.proofs.NumberLaws.{number_in-at}
use Rattle.refute_check.proofs.SetLaws.{or_split}

-- two terms with the same number are the same
pub same_number : (terms : List Lambda) (t u : Lambda) (k : ℕ) → number_in terms t ≡ Some k → number_in terms u ≡ Some k → t ≡ u
same_number terms t u k h g = let e : Some t ≡ Some u = sym (number_in-at terms t k h) ∙ number_in-at terms u k g in cc

-- numbers stay
pub number_in-grown : (ts us : List Lambda) (t : Lambda) (k : ℕ) → number_in ts t ≡ Some k → number_in (ts ++ us) t ≡ Some k
number_in-grown [] us t k h = cc
number_in-grown (u ∷ ts) us t k h = go (λ j. number_in-grown ts us t j) (same_term u t) (number_in ts t) refl h
  where
    go : ((j : ℕ) → number_in ts t ≡ Some j → number_in (ts ++ us) t ≡ Some j) → (b : Bool) (o : Option ℕ) → number_in ts t ≡ o → (if b then Some 0 else option_map (λ n. suc n) o) ≡ Some k → (if b then Some 0 else option_map (λ n. suc n) (number_in (ts ++ us) t)) ≡ Some k
    go more true o e g = g
    go more false None e g = cc
    go more false (Some j) e g = ap (option_map (λ n. suc n)) (more j e) ∙ g

pub grow-itself : (a : List Lambda) → Grow a a
grow-itself a = ([], sym (append-nil a))

pub grow-more : (a b c : List Lambda) → Grow a b → Grow b c → Grow a c
grow-more a b c h g = (h.0 ++ g.0, g.1 ∙ ap (λ l. l ++ g.0) h.1 ∙ append_assoc a h.0 g.0)

module _ (terms : List Lambda) where
  pub represents-none : (b : Branch) → ((sign : Bool) (k : ℕ) → branch_has b sign k ≡ false) → Represents terms [] b
  represents-none b h = record {
    sound = λ sign k e. absurd (untrue e (h sign k));
    whole = λ sign k l. absurd (omega (arith, l.among.1));
  }

  literal_in-more : (ls : List Literal) (l : Literal) (sign : Bool) (k : ℕ) → IsLiteralOf terms ls sign k → IsLiteralOf terms (ls ++ l ∷ []) sign k
  literal_in-more ls l sign k h = record { atom = h.atom; numbered = h.numbered; among = Contains-append_left ls (l ∷ []) (record { positive = sign; atom = h.atom }) h.among }

  sign-itself : (a : Bool) → same_sign a a ≡ true
  sign-itself true = refl
  sign-itself false = refl

  -- one literal more, whose atom has a number
  pub represents-more : (ls : List Literal) (b new : Branch) (l : Literal) (n : ℕ) → Represents terms ls b → number_in terms l.atom ≡ Some n → ((sign : Bool) (k : ℕ) → branch_has new sign k ≡ (branch_has b sign k || (same_sign l.positive sign && n == k))) → Represents terms (ls ++ l ∷ []) new
  represents-more ls b new l n h g e = record {
    sound = λ sign k i. or_split (branch_has b sign k) (same_sign l.positive sign && n == k) (sym (e sign k) ∙ i)
        (λ j. literal_in-more ls l sign k (h.sound sign k j))
        (λ j.
        let parts = and_parts (same_sign l.positive sign) (n == k) j in
        let same : l ≡ record { positive = sign; atom = l.atom } = ap (λ s. record { positive = s; atom = l.atom }) (same_sign-true l.positive sign parts.0) in
        record { atom = l.atom; numbered = g ∙ ap Some (eqb-true n k parts.1); among = subst (Contains (ls ++ l ∷ [])) same (Contains-push ls l) });
    whole = λ sign k i. e sign k ∙ ⊎_elim
        (λ c. or_left (branch_has b sign k) (same_sign l.positive sign && n == k) (h.whole sign k (record { atom = i.atom; numbered = i.numbered; among = c })))
        (λ same.
        let sides : l.positive ≡ sign = ap (λ x. x.positive) same in
        let atoms : l.atom ≡ i.atom = ap (λ x. x.atom) same in
        let numbers : Some n ≡ Some k = sym g ∙ ap (number_in terms) atoms ∙ i.numbered in
        let equal : n ≡ k = cc in
        or_right (branch_has b sign k) (same_sign l.positive sign && n == k) (and_from (same_sign l.positive sign) (n == k) (ap (same_sign l.positive) (sym sides) ∙ sign-itself l.positive) (eq-eqb n k equal)))
        (Contains-push_cases ls l (record { positive = sign; atom = i.atom }) i.among);
  }

-- the same literals in another form
pub represents-same : {terms : List Lambda} {ls : List Literal} (has other : Bool → ℕ → Bool) → ((sign : Bool) (k : ℕ) → other sign k ≡ has sign k) → RepresentsBy terms ls has → RepresentsBy terms ls other
represents-same has other e h = record { sound = λ sign k i. h.sound sign k (sym (e sign k) ∙ i); whole = λ sign k l. e sign k ∙ h.whole sign k l }

-- more terms
pub numbered-grown : (ts us : List Lambda) (ls : List Literal) → AreNumberedBranch ts ls → AreNumberedBranch (ts ++ us) ls
numbered-grown ts us ls h l c = let n = h l c in (n.0, number_in-grown ts us l.atom n.0 n.1)

pub represents-grown : (ts us : List Lambda) (ls : List Literal) (has : Bool → ℕ → Bool) → AreNumberedBranch ts ls → RepresentsBy ts ls has → RepresentsBy (ts ++ us) ls has
represents-grown ts us ls has n h = record {
  sound = λ sign k e. let l = h.sound sign k e in record { atom = l.atom; numbered = number_in-grown ts us l.atom k l.numbered; among = l.among };
  whole = λ sign k l.
      let m = n (record { positive = sign; atom = l.atom }) l.among in
      let numbers : Some m.0 ≡ Some k = sym (number_in-grown ts us l.atom m.0 m.1) ∙ l.numbered in
      let equal : m.0 ≡ k = cc in
      h.whole sign k (record { atom = l.atom; numbered = m.1 ∙ ap Some equal; among = l.among });
}

pub branches-grown : (ts us : List Lambda) (lines : List Line) (bs : List LineBranch) → AreBranches ts lines bs → AreBranches (ts ++ us) lines bs
branches-grown ts us [] [] h = tt
branches-grown ts us [] (b ∷ bs) h = absurd h
branches-grown ts us (line ∷ lines) [] h = absurd h
branches-grown ts us (line ∷ lines) (b ∷ bs) h =
    (numbered-grown ts us line.branch h.0, represents-grown ts us line.branch (line_has b) h.0 h.1, branches-grown ts us lines bs h.2)

pub branches-append : (ts : List Lambda) (lines : List Line) (bs : List LineBranch) (line : Line) (b : LineBranch) → AreBranches ts lines bs → AreNumberedBranch ts line.branch → RepresentsBy ts line.branch (line_has b) → AreBranches ts (lines ++ line ∷ []) (bs ++ b ∷ [])
branches-append ts [] [] line b h n r = (n, r, tt)
branches-append ts [] (c ∷ bs) line b h n r = absurd h
branches-append ts (l ∷ lines) [] line b h n r = absurd h
branches-append ts (l ∷ lines) (c ∷ bs) line b h n r = (h.0, h.1, branches-append ts lines bs line b h.2 n r)

pub branches-grow : (ts us : List Lambda) (lines : List Line) (bs : List LineBranch) → Grow ts us → AreBranches ts lines bs → AreBranches us lines bs
branches-grow ts us lines bs g h = subst (λ vs. AreBranches vs lines bs) (sym g.1) (branches-grown ts g.0 lines bs h)

pub represents-grow : (ts us : List Lambda) (ls : List Literal) (b : Branch) → Grow ts us → AreNumberedBranch ts ls → Represents ts ls b → Represents us ls b
represents-grow ts us ls b g n h = subst (λ vs. Represents vs ls b) (sym g.1) (represents-grown ts g.0 ls (branch_has b) n h)
