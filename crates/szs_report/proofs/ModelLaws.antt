-- The text of a model is written line by line.
use Rattle.std.proofs.Common.{◌≡◌, ◌+◌, ◌-◌, ◌<◌, ◌≤◌, ℕ, zero, suc, List, [], ◌∷◌, ◌++◌, length, map, take, slice_get, Option, Some, option_map, unwrap_or, refl, sym, ap, ap₂, ◌∙◌, append_assoc, arith}
use Rattle.std.proofs.lemmas.List.{length-map}
use Rattle.std.proofs.lemmas.Option.{slice_get_within}
use Rattle.thf_names.specs.Names.{name_text}
use Rattle.stt_core.specs.TypedName.{TypedName}
use Rattle.stt_core.specs.SimpleType.{SimpleType}
use Rattle.stt_core.specs.Lambda.{name}
use Rattle.finite_models.specs.Symbols.{Symbol, declared_symbols}
use Rattle.finite_models.proofs.LookLaws.{symbol_declared, symbol_behind}
use Rattle.refute_print.specs.Named.{Names, names_of, name_numbered, named_constant}
use Rattle.refute_print.specs.Text.{constant_text, as_bytes}
use Rattle.szs_report.specs.ModelText.{value_line, value_lines}

name_got : (cs : List TypedName) (i : ℕ) (n : List ℕ) → option_map (λ c. c.name) (slice_get cs i) ≡ Some n → slice_get (map (λ c. c.name) cs) i ≡ Some n
name_got [] i n h = cc
name_got (c ∷ cs) zero n h = h
name_got (c ∷ cs) (suc i) n h = name_got cs i n h

type_there : (cs : List TypedName) (i : ℕ) (n : List ℕ) → option_map (λ c. c.name) (slice_get cs i) ≡ Some n → (a : SimpleType) × (slice_get (map (λ c. c.type) cs) i ≡ Some a)
type_there [] i n h = cc
type_there (c ∷ cs) zero n h = (c.type, refl)
type_there (c ∷ cs) (suc i) n h = type_there cs i n h

-- a declared symbol is written as its name
pub declared_put : (bases : List (List ℕ)) (cs : List TypedName) (ys : List Symbol) (i : ℕ) (n old new : List ℕ) → option_map (λ c. c.name) (slice_get cs i) ≡ Some n → new ≡ old ++ name_text n
    → (x : Symbol) → slice_get (declared_symbols 0 (map (λ c. c.type) cs) ++ ys) i ≡ Some x → new ≡ old ++ constant_text (named_constant (names_of bases cs) x.constant)
declared_put bases cs ys i n old new h e x g =
    let t = type_there cs i n h in
    let is = symbol_declared 0 (map (λ c. c.type) cs) ys i x t.0 g t.1 in
    let place : 0 + i ≡ i = omega arith in
    let named : name_numbered (map (λ c. c.name) cs) (0 + i) ≡ n = ap (name_numbered (map (λ c. c.name) cs)) place ∙ ap (λ (o : Option (List ℕ)). unwrap_or o []) (name_got cs i n h) in
    let written : name_text n ≡ constant_text (named_constant (names_of bases cs) (name (0 + i))) = ap name_text (sym named) in
    e ∙ ap (λ (w : List ℕ). old ++ w) (written ∙ ap (λ (z : Symbol). constant_text (named_constant (names_of bases cs) z.constant)) (sym is))

-- and one behind these as the choice or description that it is
pub chooser_put : (bases : List (List ℕ)) (cs : List TypedName) (ys : List Symbol) (i m : ℕ) (y : Symbol) (old new : List ℕ) → m ≡ length cs → m ≤ i → slice_get ys (i - m) ≡ Some y → new ≡ old ++ constant_text (named_constant (names_of bases cs) y.constant)
    → (x : Symbol) → slice_get (declared_symbols 0 (map (λ c. c.type) cs) ++ ys) i ≡ Some x → new ≡ old ++ constant_text (named_constant (names_of bases cs) x.constant)
chooser_put bases cs ys i m y old new l f h e x g =
    let n : m ≡ length (map (λ c. c.type) cs) = l ∙ sym (length-map cs (λ c. c.type)) in
    let behind = symbol_behind 0 (map (λ c. c.type) cs) ys i (omega (arith, n, f)) in
    let both : Some y ≡ Some x = sym h ∙ ap (λ k. slice_get ys (i - k)) n ∙ sym behind ∙ g in
    let is : y ≡ x = cc in
    e ∙ ap (λ (z : Symbol). old ++ constant_text (named_constant (names_of bases cs) z.constant)) is

-- one line more
pub lines_more : (names : Names) (xs : List Symbol) (vs : List ℕ) (i : ℕ) (x : Symbol) (v : ℕ) → slice_get xs i ≡ Some x → slice_get vs i ≡ Some v → as_bytes (value_lines names (take (suc i) xs) vs) ≡ as_bytes (value_lines names (take i xs) vs) ++ as_bytes (value_line names x v ∷ [])
lines_more names [] vs i x v g h = cc
lines_more names (y ∷ xs) [] i x v g h = cc
lines_more names (y ∷ xs) (u ∷ vs) zero x v g h =
    let e : y ≡ x = cc in
    let f : u ≡ v = cc in
    ap₂ (λ z n. as_bytes (value_line names z n ∷ [])) e f
lines_more names (y ∷ xs) (u ∷ vs) (suc i) x v g h =
    ap (λ t. value_line names y u ++ (10 ∷ t)) (lines_more names xs vs i x v g h)
    ∙ sym (append_assoc (value_line names y u) (10 ∷ as_bytes (value_lines names (take i xs) vs)) (as_bytes (value_line names x v ∷ [])))

there : (xs : List Symbol) (i : ℕ) → i < length xs → (x : Symbol) × (slice_get xs i ≡ Some x)
there [] i l = absurd (omega arith)
there (x ∷ xs) zero l = (x, refl)
there (x ∷ xs) (suc i) l = there xs i (omega arith)

pub next_line : (names : Names) (xs : List Symbol) (vs : List ℕ) (i v : ℕ) (old new : List ℕ) → length vs ≡ length xs → slice_get vs i ≡ Some v → old ≡ as_bytes (value_lines names (take i xs) vs)
    → ((x : Symbol) → slice_get xs i ≡ Some x → new ≡ old ++ as_bytes (value_line names x v ∷ [])) → new ≡ as_bytes (value_lines names (take (i + 1) xs) vs)
next_line names xs vs i v old new l g e step =
    let within = slice_get_within vs i v g in
    let x = there xs i (omega (arith, l, within)) in
    let one : suc i ≡ i + 1 = omega arith in
    step x.0 x.1
    ∙ ap (λ t. t ++ as_bytes (value_line names x.0 v ∷ [])) e
    ∙ sym (lines_more names xs vs i x.0 v x.1 g)
    ∙ ap (λ k. as_bytes (value_lines names (take k xs) vs)) one
