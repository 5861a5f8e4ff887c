-- The start as a set of literals.
use Rattle.std.proofs.Common.{◌≡◌, ◌<◌, ℕ, ◌+◌, ◌||◌, ◌&&◌, ◌==◌, Bool, List, [], ◌∷◌, Some, length, take, slice_get, Contains, ap, sym, subst, ◌∙◌, ⊎_elim, inr, arith}
use Rattle.std.specs.Prelude.{All, map}
use Rattle.std.proofs.lemmas.List.Elements.{All-head, All-tail}
use Rattle.stt_core.specs.Lambda.{Lambda}
use Rattle.sat_base.specs.declared.literal.SatLit.{SatLit}
use Rattle.stt_core.proofs.ListLaws.{take_got, map-append}
use Rattle.tableau_calculus.specs.Literals.{Literal}
use Rattle.tableau_calculus.specs.Kinds.{same_sign}
use Rattle.tableau_calculus.specs.Start.{without_repeats}
use Rattle.tableau_calculus.proofs.AddedLaws.{contains_cases-added, contains-added}
use Rattle.term_bank.specs.Terms.{term_at}
use Rattle.literal_map.specs.Atoms.{bank_atom}
use Rattle.problem_start.specs.Unfolds.{AreStartNumbers}
use Rattle.tableau_calculus.specs.Each.{Each}
use Rattle.refute_check.specs.Internal.Numbers.{number_in}
use Rattle.refute_check.specs.Internal.Branches.{branch_has, Represents, AreNumberedBranch}
use Rattle.refute_check.specs.declared.branch.Branch.{Branch}
use Rattle.refute_check.specs.declared.shared.Shared.{Shared}
use Rattle.refute_check.specs.Internal.Shared.{shared_atoms, IsSharedNumber, literal_in, AreNumbersOf}
use Rattle.refute_check.proofs.BranchLaws.{represents-more}
use Rattle.refute_check.proofs.SharedLaws.{each_at}

-- what represents a list represents each list with the same literals
represents-same : (terms : List Lambda) (ls ks : List Literal) (b : Branch) → ((l : Literal) → Contains ls l → Contains ks l) → ((l : Literal) → Contains ks l → Contains ls l) → Represents terms ls b → Represents terms ks b
represents-same terms ls ks b to back h = record {
  sound = λ sign k e. let l = h.sound sign k e in record { atom = l.atom; numbered = l.numbered; among = to (record { positive = sign; atom = l.atom }) l.among };
  whole = λ sign k l. h.whole sign k (record { atom = l.atom; numbered = l.numbered; among = back (record { positive = sign; atom = l.atom }) l.among });
}

once_there : (ls : List Literal) (l : Literal) → Contains (without_repeats ls) l → Contains ls l
once_there ls l c = ⊎_elim (λ none. absurd (omega (arith, none.1))) (λ d. d) (contains_cases-added [] ls l c)

-- what represents the literals represents them without repeats, and then each has a number
pub start_in : (s : Shared) (ls : List Literal) (b : Branch) (ns : List SatLit) → AreNumbersOf s ls ns → Represents (shared_atoms s) (map (literal_in s) ns) b → AreNumberedBranch (shared_atoms s) (map (literal_in s) ns)
    → Represents (shared_atoms s) (without_repeats ls) b × AreNumberedBranch (shared_atoms s) (without_repeats ls)
start_in s ls b ns h r n =
    let terms = shared_atoms s in
    let whole = subst (λ ks. Represents terms ks b) h.literals r in
    let numbered = subst (AreNumberedBranch terms) h.literals n in (
      represents-same terms ls (without_repeats ls) b (λ l c. contains-added [] ls l (inr c)) (once_there ls) whole,
      λ l c. numbered l (once_there ls l c),
    )

each_of : {X : Type 0} (P : X → Type 0) (xs : List X) → All P xs → Each P xs
each_of P [] h = tt
each_of P (x ∷ xs) h = (All-head P x xs h, each_of P xs (All-tail P x xs h))

-- the numbers of a start's literals
pub are_numbers : (s : Shared) (ls : List Literal) (ns : List SatLit) → AreStartNumbers s.bank s.lits ls ns → AreNumbersOf s ls ns
are_numbers s ls ns h = record { numbers = each_of (IsSharedNumber s) ns h.numbers; literals = h.literals }

-- one number more is put into the set
pub represents-next : (s : Shared) (list : List SatLit) (i : ℕ) (n : SatLit) (set new : Branch) → Each (IsSharedNumber s) list → slice_get list i ≡ Some n → Represents (shared_atoms s) (map (literal_in s) (take i list)) set → ((v : ℕ) → v < length s.lits → number_in (map (term_at s.bank.terms) s.lits) (bank_atom s.bank.terms s.lits v) ≡ Some v)
    → ((sign : Bool) (k : ℕ) → branch_has new sign k ≡ (branch_has set sign k || (same_sign n.positive sign && n.var.0 == k))) → Represents (shared_atoms s) (map (literal_in s) (take (i + 1) list)) new
represents-next s list i n set new are at h numbered added =
    subst (λ ls. Represents (shared_atoms s) ls new)
    (sym (ap (map (literal_in s)) (take_got list i n at) ∙ map-append (literal_in s) (take i list) (n ∷ [])))
    (represents-more (shared_atoms s) (map (literal_in s) (take i list)) set new (literal_in s n) n.var.0 h (numbered n.var.0 (each_at (IsSharedNumber s) list i n are at)) added)
