-- What is asked for has names of files, and numbers of generated problems.
use Rattle.std.proofs.Common.{◌≡◌, ◌<◌, ◌≤◌, ◌+◌, ◌-◌, ◌*◌, ◌==◌, ℕ, nat_le, not, ◌&&◌, Bool, true, false, List, [], ◌∷◌, ◌++◌, Option, Some, None, option_map, refl, subst, if◌then◌else◌, arith}
use Rattle.std.specs.List.{list_all}
use Rattle.std.specs.Option.{option_to_list}
use Rattle.std.proofs.lemmas.Bool.{and_parts}
use Rattle.std.proofs.lemmas.Bool.Decides.{nat_tests}
use Rattle.cli_words.specs.Names.{is_file_name, is_positive_decimal, number_to}
use Rattle.outside.specs.Decimal.{is_digit, number_from}
use Rattle.cli_words.specs.declared.options.OptionName.TheVariants.{Mode, Check, Demo, Models, Schedule, Tree, Strict}
use Rattle.cli_words.specs.declared.Cuts.TheVariants.{Allowed, Forbidden}
use Rattle.cli_words.specs.Line.{is_taken}
use Rattle.cli_words.specs.Requests.{WordEntry, value, flag, problem, Request, prove, by_schedule, refutation, generated, models, sides, naming, models_asked, tree_asked, asked, entries_in, asked_by}

-- a bound on a tree's nodes, where there is one, is from 1 to 10,000
abbrev pub IsTreeBound : Option ℕ → Type 0
IsTreeBound None = Unit {0}
IsTreeBound (Some nodes) = (0 < nodes) × (nodes ≤ 10000)

-- the problem's name is the name of a file, or its number is from 1 to 1000; a bound on models is from 1 to 8
abbrev pub IsNamed : Request → Type 0
IsNamed (prove p mode nodes) = (is_file_name p ≡ true) × IsTreeBound nodes
IsNamed (by_schedule file p) = is_file_name p ≡ true
IsNamed (refutation cuts text p) = is_file_name p ≡ true
IsNamed (models upto p) = (is_file_name p ≡ true) × (0 < upto) × (upto ≤ 8)
IsNamed (sides p) = is_file_name p ≡ true
IsNamed (generated n) = (0 < n) × (n ≤ 1000)

-- a request is that of its names, each of which is the name of a file
naming-parts : (names : List (List ℕ)) (r s : Request) → naming names r ≡ Some s → (list_all is_file_name names ≡ true) × (r ≡ s)
naming-parts names r s h = go (list_all is_file_name names) refl h
  where
    go : (b : Bool) → list_all is_file_name names ≡ b → (if b then Some r else None) ≡ Some s → (list_all is_file_name names ≡ true) × (r ≡ s)
    go false e k = cc
    go true e k = (e, cc)

first_named : (p : List ℕ) (mode : Option (List ℕ)) (r : Request) → naming (p ∷ []) (prove p mode None) ≡ Some r → IsNamed r
first_named p mode r h = let q = naming-parts (p ∷ []) (prove p mode None) r h in subst IsNamed q.1 ((and_parts (is_file_name p) true q.0).0, tt)

sides_named : (p : List ℕ) (r : Request) → naming (p ∷ []) (sides p) ≡ Some r → IsNamed r
sides_named p r h = let q = naming-parts (p ∷ []) (sides p) r h in subst IsNamed q.1 (and_parts (is_file_name p) true q.0).0

second_named : (first p : List ℕ) (s r : Request) → (is_file_name p ≡ true → IsNamed s) → naming (first ∷ p ∷ []) s ≡ Some r → IsNamed r
second_named first p s r named h =
    let q = naming-parts (first ∷ p ∷ []) s r h in
    subst IsNamed q.1 (named (and_parts (is_file_name p) true (and_parts (is_file_name first) (list_all is_file_name (p ∷ [])) q.0).1).0)

number_from-least : (n : ℕ) (cs : List ℕ) → n ≤ number_from n cs
number_from-least n [] = omega arith
number_from-least n (c ∷ cs) = let more = number_from-least (10 * n + (c - 48)) cs in omega (arith, more)

-- a decimal number without a leading 0 is above 0
decimal_above : (text : List ℕ) → is_positive_decimal text ≡ true → 0 < number_from 0 text
decimal_above [] h = cc
decimal_above (c ∷ cs) h =
    let parts = and_parts (not (c == 48)) (list_all is_digit (c ∷ cs)) h in
    let digit = (and_parts (nat_le 48 c) (nat_le c 57) (and_parts (is_digit c) (list_all is_digit cs) parts.1).0).0 in
    let first = not_zero c parts.0 digit in
    let more = number_from-least (10 * 0 + (c - 48)) cs in
    omega (arith, first, more)
  where
    not_zero : (c : ℕ) → not (c == 48) ≡ true → nat_le 48 c ≡ true → 48 < c
    not_zero c h k = grind (arith, nat_tests, h, k)

-- a number that is read is in its range
number_within : (greatest : ℕ) (text : List ℕ) (n : ℕ) → number_to greatest text ≡ Some n → (0 < n) × (n ≤ greatest)
number_within greatest text n h = go (is_positive_decimal text && nat_le (number_from 0 text) greatest) refl h
  where
    go : (b : Bool) → is_positive_decimal text && nat_le (number_from 0 text) greatest ≡ b → (if b then Some (number_from 0 text) else None) ≡ Some n → (0 < n) × (n ≤ greatest)
    go false e k = cc
    go true e k =
        let parts = and_parts (is_positive_decimal text) (nat_le (number_from 0 text) greatest) e in
        let same : number_from 0 text ≡ n = cc in
        subst (λ m. (0 < m) × (m ≤ greatest)) same (decimal_above text parts.0, grind (arith, nat_tests, parts.1))

generated_named : (text : List ℕ) (r : Request) → option_map generated (number_to 1000 text) ≡ Some r → IsNamed r
generated_named text r h = go (number_to 1000 text) refl h
  where
    go : (o : Option ℕ) → number_to 1000 text ≡ o → option_map generated o ≡ Some r → IsNamed r
    go None e k = cc
    go (Some n) e k = let same : generated n ≡ r = cc in subst IsNamed same (number_within 1000 text n e)

models_named : (text p : List ℕ) (r : Request) → models_asked (number_to 8 text) p ≡ Some r → IsNamed r
models_named text p r h = go (number_to 8 text) refl h
  where
    go : (o : Option ℕ) → number_to 8 text ≡ o → models_asked o p ≡ Some r → IsNamed r
    go None e k = cc
    go (Some n) e k =
        let q = naming-parts (p ∷ []) (models n p) r k in
        let w = number_within 8 text n e in
        subst IsNamed q.1 ((and_parts (is_file_name p) true q.0).0, w.0, w.1)

-- the last of some names of files
last_named : (mode : Option (List ℕ)) (p : List ℕ) → list_all is_file_name (option_to_list mode ++ p ∷ []) ≡ true → is_file_name p ≡ true
last_named None p h = (and_parts (is_file_name p) true h).0
last_named (Some m) p h = (and_parts (is_file_name p) true (and_parts (is_file_name m) (list_all is_file_name (p ∷ [])) h).1).0

tree_named : (text : List ℕ) (mode : Option (List ℕ)) (p : List ℕ) (r : Request) → tree_asked (number_to 10000 text) mode p ≡ Some r → IsNamed r
tree_named text mode p r h = go (number_to 10000 text) refl h
  where
    go : (o : Option ℕ) → number_to 10000 text ≡ o → tree_asked o mode p ≡ Some r → IsNamed r
    go None e k = cc
    go (Some n) e k =
        let q = naming-parts (option_to_list mode ++ p ∷ []) (prove p mode (Some n)) r k in
        subst IsNamed q.1 (last_named mode p q.0, number_within 10000 text n e)

asked_named : (es : List WordEntry) (r : Request) → asked es ≡ Some r → IsNamed r
asked_named [] r h = cc
asked_named (problem p ∷ []) r h = first_named p None r h
asked_named (problem p ∷ e ∷ es) r h = cc
asked_named (flag ∷ []) r h = cc
asked_named (flag ∷ problem p ∷ []) r h = sides_named p r h
asked_named (flag ∷ problem p ∷ e ∷ es) r h = cc
asked_named (flag ∷ flag ∷ es) r h = cc
asked_named (flag ∷ value o v ∷ es) r h = cc
asked_named (value Mode m ∷ []) r h = cc
asked_named (value Mode m ∷ problem p ∷ []) r h = second_named m p (prove p (Some m) None) r (λ x. (x, tt)) h
asked_named (value Mode m ∷ problem p ∷ e ∷ es) r h = cc
asked_named (value Mode m ∷ value Tree n ∷ problem p ∷ []) r h = tree_named n (Some m) p r h
asked_named (value Mode m ∷ value Tree n ∷ []) r h = cc
asked_named (value Mode m ∷ value Tree n ∷ problem p ∷ e ∷ es) r h = cc
asked_named (value Mode m ∷ value Tree n ∷ flag ∷ es) r h = cc
asked_named (value Mode m ∷ value Tree n ∷ value o v ∷ es) r h = cc
asked_named (value Mode m ∷ value Mode v ∷ es) r h = cc
asked_named (value Mode m ∷ value Check v ∷ es) r h = cc
asked_named (value Mode m ∷ value Demo v ∷ es) r h = cc
asked_named (value Mode m ∷ value Models v ∷ es) r h = cc
asked_named (value Mode m ∷ value Schedule v ∷ es) r h = cc
asked_named (value Mode m ∷ value Strict v ∷ es) r h = cc
asked_named (value Mode m ∷ flag ∷ es) r h = cc
asked_named (value Check t ∷ []) r h = cc
asked_named (value Check t ∷ problem p ∷ []) r h = second_named t p (refutation Allowed t p) r (λ x. x) h
asked_named (value Check t ∷ problem p ∷ e ∷ es) r h = cc
asked_named (value Check t ∷ value o v ∷ es) r h = cc
asked_named (value Check t ∷ flag ∷ es) r h = cc
asked_named (value Schedule s ∷ []) r h = cc
asked_named (value Schedule s ∷ problem p ∷ []) r h = second_named s p (by_schedule s p) r (λ x. x) h
asked_named (value Schedule s ∷ problem p ∷ e ∷ es) r h = cc
asked_named (value Schedule s ∷ value o v ∷ es) r h = cc
asked_named (value Schedule s ∷ flag ∷ es) r h = cc
asked_named (value Strict t ∷ []) r h = cc
asked_named (value Strict t ∷ problem p ∷ []) r h = second_named t p (refutation Forbidden t p) r (λ x. x) h
asked_named (value Strict t ∷ problem p ∷ e ∷ es) r h = cc
asked_named (value Strict t ∷ value o v ∷ es) r h = cc
asked_named (value Strict t ∷ flag ∷ es) r h = cc
asked_named (value Tree n ∷ []) r h = cc
asked_named (value Tree n ∷ problem p ∷ []) r h = tree_named n None p r h
asked_named (value Tree n ∷ problem p ∷ e ∷ es) r h = cc
asked_named (value Tree n ∷ value o v ∷ es) r h = cc
asked_named (value Tree n ∷ flag ∷ es) r h = cc
asked_named (value Models n ∷ []) r h = cc
asked_named (value Models n ∷ problem p ∷ []) r h = models_named n p r h
asked_named (value Models n ∷ problem p ∷ e ∷ es) r h = cc
asked_named (value Models n ∷ value o v ∷ es) r h = cc
asked_named (value Models n ∷ flag ∷ es) r h = cc
asked_named (value Demo n ∷ []) r h = generated_named n r h
asked_named (value Demo n ∷ e ∷ es) r h = cc

-- what words ask for has names of files
pub asked_by-named : (words : List (List ℕ)) (r : Request) → asked_by words ≡ Some r → IsNamed r
asked_by-named words r h = go (is_taken words) h
  where
    go : (b : Bool) → (if b then asked (entries_in words) else None) ≡ Some r → IsNamed r
    go false k = cc
    go true k = asked_named (entries_in words) r k
