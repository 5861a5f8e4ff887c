-- What a selection keeps, and what it misses.
use Rattle.std.proofs.Common.{◌≡◌, ℕ, suc, ◌+◌, ◌<◌, List, [], ◌∷◌, ◌++◌, length, map, take, drop, get_or, Bool, true, false, not, cond, ◌||◌, Some, None, refl, sym, ap, ap₂, ◌∙◌, drop-cons}
use Rattle.std.specs.Prelude.{filter, find}
use Rattle.std.specs.Borrow.{Bor}
use Rattle.std.specs.BTreeSet.{BTreeSet}
use Rattle.std.specs.List.{list_any}
use Rattle.std.specs.Option.{option_or}
use Rattle.std.specs.Str.{bytes_eq}
use Rattle.std.proofs.lemmas.List.{map-append, take_more, take-append-drop}
use Rattle.std.proofs.lemmas.List.Folds.{find-append}
use Rattle.thf_grammar.specs.View.{the_selected}
use Rattle.thf_grammar.specs.declared.statement.Selected.{Selected}
use Rattle.thf_include.specs.declared.gathered.Placed.{Placed}
use Rattle.thf_include.specs.View.{PlacedTree, the_placed, the_statements}
use Rattle.thf_include.specs.Gathering.{is_selected, is_missing}
use Rattle.thf_include.specs.Internal.Selection.{has_name}
use Rattle.thf_include.proofs.NameSets.{bytes_eq-comm}

list_any-map : {A B : Type 0} (f : A → B) (p : B → Bool) (xs : List A) → list_any p (map f xs) ≡ list_any (λ x. p (f x)) xs
list_any-map f p [] = refl
list_any-map f p (x ∷ xs) = ap (λ b. p (f x) || b) (list_any-map f p xs)

list_any-same : {A : Type 0} (p q : A → Bool) (xs : List A) → ((x : A) → p x ≡ q x) → list_any p xs ≡ list_any q xs
list_any-same p q [] h = refl
list_any-same p q (x ∷ xs) h = ap₂ (λ a b. a || b) (h x) (list_any-same p q xs h)

-- the set has the names of the statements
pub missing-is : (names : BTreeSet (Bor (List ℕ))) (included : List Placed) → ((name : List ℕ) → has_name names name ≡ list_any (λ p. bytes_eq name p.statement.name) included) → (s : Selected) (text : List ℕ) → text ≡ s.name → is_missing (the_statements included) (the_selected s) ≡ not (has_name names text)
missing-is names included h s text e =
    ap not (list_any-map the_placed (λ p. bytes_eq s.name p.statement.name) included ∙ sym (h s.name) ∙ ap (has_name names) (sym e))

-- the set has the selected names
pub selected-is : (names : BTreeSet (Bor (List ℕ))) (only : List Selected) → ((name : List ℕ) → has_name names name ≡ list_any (λ s. bytes_eq name s.name) only) → (p : Placed) (text : List ℕ) → text ≡ p.statement.name → is_selected (map the_selected only) (the_placed p) ≡ has_name names text
selected-is names only h p text e =
    list_any-map the_selected (λ s. bytes_eq s.name p.statement.name) only
    ∙ list_any-same (λ s. bytes_eq s.name p.statement.name) (λ s. bytes_eq p.statement.name s.name) only (λ s. bytes_eq-comm s.name p.statement.name)
    ∙ sym (h p.statement.name) ∙ ap (has_name names) (sym e)

-- a filter of statements
pub filter-statements : (test : PlacedTree → Bool) (other : Placed → Bool) → ((p : Placed) → test (the_placed p) ≡ other p) → (ps : List Placed) → the_statements (filter other ps) ≡ filter test (the_statements ps)
filter-statements test other h [] = refl
filter-statements test other h (p ∷ ps) =
    either (other p) ∙ ap₂ (λ b qs. cond b (the_placed p ∷ qs) qs) (sym (h p)) (filter-statements test other h ps)
  where
    either : (b : Bool) → the_statements (cond b (p ∷ filter other ps) (filter other ps)) ≡ cond b (the_placed p ∷ the_statements (filter other ps)) (the_statements (filter other ps))
    either true = refl
    either false = refl

-- the first element that passes the test, where none of the first i does
module _ {A B : Type 0} (f : A → B) (test : B → Bool) (xs : List A) (i : ℕ) (d : A) (short : i < length xs) (none : find test (map f (take i xs)) ≡ None) where
  abbrev x : B
  x = f (get_or xs i d)

  front : (back : List A) → find test (map f (take i xs ++ get_or xs i d ∷ back)) ≡ cond (test x) (Some x) (find test (map f back))
  front back =
      ap (find test) (map-append f (take i xs) (get_or xs i d ∷ back))
      ∙ find-append test (map f (take i xs)) (x ∷ map f back)
      ∙ ap (λ o. option_or o (find test (x ∷ map f back))) none

  pub find-more : test x ≡ false → find test (map f (take (i + 1) xs)) ≡ None
  find-more e = ap (λ ys. find test (map f ys)) (take_more xs i d short) ∙ front [] ∙ ap (λ b. cond b (Some x) None) e

  pub find-here : test x ≡ true → find test (map f xs) ≡ Some x
  find-here e =
      ap (λ ys. find test (map f ys)) (sym (take-append-drop i xs) ∙ ap (λ ys. take i xs ++ ys) (drop-cons xs i d short))
      ∙ front (drop (suc i) xs)
      ∙ ap (λ b. cond b (Some x) (find test (map f (drop (suc i) xs)))) e
