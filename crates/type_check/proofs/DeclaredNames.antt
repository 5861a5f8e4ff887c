-- The names that a problem declares.
use Rattle.std.proofs.Common.{◌≡◌, ◌≢◌, ℕ, Bool, true, false, List, [], ◌∷◌, ◌++◌, map, append_assoc, append-nil, None, Ok, All, AllPairs, position, refl, sym, ap, subst, ◌∙◌, arith}
use Rattle.std.proofs.lemmas.Grind.{common_steps}
use Rattle.std.proofs.lemmas.Result.{IfOk-at_ok}
use Rattle.std.proofs.lemmas.List.Elements.{All-nil, All-cons, All-head, All-tail, All-append, All-map, All-push}
use Rattle.std.proofs.lemmas.List.Kept.{AllPairs-cons}
use Rattle.std.specs.Str.{bytes_eq}
use Rattle.std.specs.Cmp.Lexicographic.{nat_list_eq_equiv}
use Rattle.stt_core.specs.Lambda.{Lambda}
use Rattle.stt_core.specs.TypedName.{TypedName}
use Rattle.stt_core.specs.Signature.{symbol_named}
use Rattle.stt_core.proofs.ListLaws.{map-append}
use Rattle.stt_core.specs.Declarations.{Declarations}
use Rattle.stt_core.specs.PlainProblem.{PlainProblem}
use Rattle.thf_include.specs.View.{PlacedTree}
use Rattle.type_check.specs.Types.{read_type}
use Rattle.type_check.specs.Statements.{read_formula, with_const, with_formula, problem_of}
use Rattle.stt_core.specs.TypedProblem.{declared_names, NamesDiffer}
use Rattle.type_check.specs.Internal.ProblemNames.{IsDeclaredWith, AllDeclared, AllNames}
use Rattle.type_check.proofs.OutcomeLaws.{if_ok-always}
use Rattle.type_check.proofs.ProblemLaws.{with_formula-cases, Keeps, problem_of-keeps}
use Rattle.type_check.proofs.Symbols.{fresh}

-- no two are the same, by recursion
abbrev AreDifferent : List (List ℕ) → Type 0
AreDifferent [] = Unit {0}
AreDifferent (x ∷ xs) = All (λ y. x ≢ y) xs × AreDifferent xs

All-insert : {A : Type 0} (P : A → Type 0) (xs ys : List A) (x : A) → All P (xs ++ ys) → P x → All P (xs ++ x ∷ ys)
All-insert P [] ys x h k = All-cons P x ys k h
All-insert P (y ∷ xs) ys x h k = All-cons P y (xs ++ x ∷ ys) (All-head P y (xs ++ ys) h) (All-insert P xs ys x (All-tail P y (xs ++ ys) h) k)

AreDifferent-insert : (xs ys : List (List ℕ)) (x : List ℕ) → All (λ y. x ≢ y) (xs ++ ys) → AreDifferent (xs ++ ys) → AreDifferent (xs ++ x ∷ ys)
AreDifferent-insert [] ys x new d = (new, d)
AreDifferent-insert (y ∷ xs) ys x new d =
    let other : x ≢ y = All-head (λ z. x ≢ z) y (xs ++ ys) new in
    (All-insert (λ z. y ≢ z) xs ys x d.0 (λ e. other (sym e)), AreDifferent-insert xs ys x (All-tail (λ z. x ≢ z) y (xs ++ ys) new) d.1)

AllPairs-from_different : (xs : List (List ℕ)) → AreDifferent xs → AllPairs (λ x y. x ≢ y) xs
AllPairs-from_different [] d = λ i j e l k. absurd (omega (arith, k))
AllPairs-from_different (x ∷ xs) d = AllPairs-cons (λ a b. a ≢ b) x xs d.0 (AllPairs-from_different xs d.1)

-- what passes nowhere fails at the first element, and at the others
position-none_first : {A : Type 0} (p : A → Bool) (x : A) (xs : List A) → position p (x ∷ xs) ≡ None → p x ≡ false
position-none_first p x xs h = grind (arith, common_steps)

position-none_rest : {A : Type 0} (p : A → Bool) (x : A) (xs : List A) → position p (x ∷ xs) ≡ None → position p xs ≡ None
position-none_rest p x xs h = grind (arith, common_steps)

bytes_eq-false : (bs cs : List ℕ) → bytes_eq bs cs ≡ false → cs ≢ bs
bytes_eq-false bs cs h e =
    let same : bytes_eq bs cs ≡ true = ap (bytes_eq bs) e ∙ nat_list_eq_equiv.refl bs in
    cc

-- a name that no element has
All-unnamed : {A : Type 0} (name_of : A → List ℕ) (xs : List A) (name : List ℕ) → position (λ x. bytes_eq (name_of x) name) xs ≡ None → All (λ y. name ≢ name_of y) xs
All-unnamed name_of [] name h = All-nil (λ y. name ≢ name_of y)
All-unnamed name_of (x ∷ xs) name h =
    All-cons (λ y. name ≢ name_of y) x xs (bytes_eq-false (name_of x) name (position-none_first (λ y. bytes_eq (name_of y) name) x xs h))
    (All-unnamed name_of xs name (position-none_rest (λ y. bytes_eq (name_of y) name) x xs h))

All-symbol_named : (d : Declarations) (name : List ℕ) → symbol_named d.bases d.consts name ≡ None → All (λ y. name ≢ y) (declared_names d)
All-symbol_named d name h =
    let none = fresh (position (λ b. bytes_eq b name) d.bases) (position (λ c. bytes_eq c.name name) d.consts) h in
    All-append (λ y. name ≢ y) d.bases (map (λ c. c.name) d.consts) (All-unnamed (λ b. b) d.bases name none.0)
    (All-map (λ y. name ≢ y) (λ c. c.name) d.consts (All-unnamed (λ c. c.name) d.consts name none.1))

-- one more base type or constant with a new name
AreDifferent-base : (d : Declarations) (name : List ℕ) → symbol_named d.bases d.consts name ≡ None → AreDifferent (declared_names d) → AreDifferent ((d.bases ++ name ∷ []) ++ map (λ c. c.name) d.consts)
AreDifferent-base d name new h =
    let consts = map (λ (c : TypedName). c.name) d.consts in
    subst AreDifferent (sym (append_assoc d.bases (name ∷ []) consts)) (AreDifferent-insert d.bases consts name (All-symbol_named d name new) h)

AreDifferent-const : (d : Declarations) (c : TypedName) → symbol_named d.bases d.consts c.name ≡ None → AreDifferent (declared_names d) → AreDifferent (d.bases ++ map (λ e. e.name) (d.consts ++ c ∷ []))
AreDifferent-const d c new h =
    let name_in : TypedName → List ℕ = λ e. e.name in
    let names = declared_names d in
    let all : d.bases ++ map name_in (d.consts ++ c ∷ []) ≡ names ++ c.name ∷ [] =
    ap (λ l. d.bases ++ l) (map-append name_in d.consts (c ∷ [])) ∙ sym (append_assoc d.bases (map name_in d.consts) (c.name ∷ [])) in
    subst AreDifferent (sym all)
    (AreDifferent-insert names [] c.name (subst (All (λ y. c.name ≢ y)) (sym (append-nil names)) (All-symbol_named d c.name new)) (subst AreDifferent (sym (append-nil names)) h))

with_formula-declared : (role : List ℕ) (t : Lambda) (p : PlainProblem) → p.declared ≡ (with_formula role t p).declared
with_formula-declared role t p = with_formula-cases (λ q. p.declared ≡ q.declared) role t p refl refl

keeps_different : Keeps (λ body. Unit {0}) (λ p. AreDifferent (declared_names p.declared))
keeps_different = record {
  at_nothing = tt;
  at_base = λ p at name h kind new. AreDifferent-base p.declared name new h;
  at_const = λ p at name ty h kind new. if_ok-always (λ a. AreDifferent (declared_names (with_const name a p).declared)) (read_type p.declared ty) (λ a. AreDifferent-const p.declared (record { name = name; type = a }) new h);
  at_formula = λ p role tree h kind. if_ok-always (λ t. AreDifferent (declared_names (with_formula role t p).declared)) (read_formula p.declared tree) (λ t. subst (λ d. AreDifferent (declared_names d)) (with_formula-declared role t p) h);
}

pub problem_of-names_differ : (ss : List PlacedTree) (p : PlainProblem) → problem_of ss ≡ Ok p → NamesDiffer p.declared
problem_of-names_differ ss p h =
    AllPairs-from_different (declared_names p.declared)
    (IfOk-at_ok (λ q. AreDifferent (declared_names q.declared)) h (problem_of-keeps (λ body. Unit {0}) (λ q. AreDifferent (declared_names q.declared)) keeps_different ss (λ k d l. tt)))

keeps_names : (P : List ℕ → Type 0) → Keeps (IsDeclaredWith P) (λ p. AllNames P p.declared)
keeps_names P = record {
  at_nothing = record { bases = All-nil P; consts = All-nil (λ c. P c.name) };
  at_base = λ p at name h here new. record { bases = All-push P p.declared.bases name h.bases here; consts = h.consts };
  at_const = λ p at name ty h here new. if_ok-always (λ a. AllNames P (with_const name a p).declared) (read_type p.declared ty)
      (λ a. record { bases = h.bases; consts = All-push (λ c. P c.name) p.declared.consts (record { name = name; type = a }) h.consts here });
  at_formula = λ p role tree h here. if_ok-always (λ t. AllNames P (with_formula role t p).declared) (read_formula p.declared tree) (λ t. subst (AllNames P) (with_formula-declared role t p) h);
}

-- a property of the names that the statements declare is one of the names of the problem
pub problem_of-declares : (P : List ℕ → Type 0) (ss : List PlacedTree) (p : PlainProblem) → problem_of ss ≡ Ok p → AllDeclared P ss → AllNames P p.declared
problem_of-declares P ss p h all = IfOk-at_ok (λ q. AllNames P q.declared) h (problem_of-keeps (IsDeclaredWith P) (λ q. AllNames P q.declared) (keeps_names P) ss all)
