-- The rule for a predicate that doesn't hold everywhere.
use Rattle.std.specs.Prelude.{◌≡◌, ℕ, Bool, true, false, List, [], ◌∷◌, ◌++◌, map, filter, length, refl, if◌then◌else◌}
use Rattle.std.specs.List.{list_any}
use Rattle.std.proofs.Common.{sym, ap, ◌∙◌, arith, length-append}
use Rattle.stt_core.specs.SimpleType.{SimpleType, target}
use Rattle.stt_core.specs.Lambda.{witness, Lambda, constant, every}
use Rattle.tableau_calculus.specs.Literals.{Literal, minus}
use Rattle.tableau_calculus.specs.Witnesses.{Row}
use Rattle.tableau_calculus.specs.Rules.{Alternatives, all_neg}
use Rattle.search_spec.specs.Instances.{with_instance}
use Rattle.mode_file.specs.declared.Mode.{Mode}
use Rattle.search_spec.specs.State.{State, Setting, Sketch, grow, with_commands}
use Rattle.search_spec.specs.Witness.{same_row, witness_of, has_hole_of, with_new_witness, with_witness}
use Rattle.search_spec.proofs.RowLaws.{no_row}
use Rattle.prover_growth.specs.Internal.Denials.{with_row}
use Rattle.prover_growth.proofs.DenialLaws.{denied_row, row-there, row-new}

module _ (setting : Setting) (a : SimpleType) (f : Lambda) (s : State) where
  abbrev r : Row
  r = denied_row a f

  abbrev w : Lambda
  w = witness_of s.rows r

  -- the state with the instance of the rule
  abbrev pub with_denial : State → State
  with_denial x = with_instance setting.mode (minus (every a f) ∷ []) (all_neg a f w) x

  -- the state with an instance that is the one of the rule
  pub denial-added : (x y : State) (mode : Mode) (ps : List Literal) (as' : Alternatives) (rows : List Row) → x ≡ with_instance mode ps as' y → mode ≡ setting.mode → ps ≡ minus (every a f) ∷ [] → as' ≡ all_neg a f w → y ≡ record s { rows = rows } → x ≡ with_denial (record s { rows = rows })
  denial-added x y mode ps as' rows is m p q e =
      is
      ∙ ap (λ (n : Mode). with_instance n ps as' y) m
      ∙ ap (λ (ls : List Literal). with_instance setting.mode ls as' y) p
      ∙ ap (λ (bs : Alternatives). with_instance setting.mode (minus (every a f) ∷ []) bs y) q
      ∙ ap with_denial e

  by_test : (b : Bool) → list_any (same_row r) s.rows ≡ b → with_witness setting a f s ≡ (if b then with_denial s else with_new_witness setting a w (with_denial (record s { rows = s.rows ++ r ∷ [] })))
  by_test b e = ap (λ (x : Bool). if x then with_denial s else with_new_witness setting a w (with_denial (record s { rows = s.rows ++ r ∷ [] }))) e

  pub witnessed-before : list_any (same_row r) s.rows ≡ true → with_denial (record s { rows = with_row s.rows r }) ≡ with_witness setting a f s
  witnessed-before e = ap (λ (rows : List Row). with_denial (record s { rows = rows })) (row-there s.rows r e) ∙ sym (by_test true e)

  pub witnessed-now : list_any (same_row r) s.rows ≡ false → (x : State) → x ≡ with_denial (record s { rows = with_row s.rows r }) → (n k : ℕ) → n ≡ target a → k ≡ length s.rows → (parked : List Sketch) → parked ≡ x.parked
      → with_commands setting.mode (map (λ (p : Sketch). grow p (constant (witness k))) (filter (has_hole_of n) parked)) x ≡ with_witness setting a f s
  witnessed-now e x is n k to place parked are =
      ap (λ m. with_commands setting.mode (map (λ (p : Sketch). grow p (constant (witness k))) (filter (has_hole_of m) parked)) x) to
      ∙ ap (λ j. with_commands setting.mode (map (λ (p : Sketch). grow p (constant (witness j))) (filter (has_hole_of (target a)) parked)) x) (place ∙ sym (no_row s.rows r e))
      ∙ ap (λ ps. with_commands setting.mode (map (λ (p : Sketch). grow p w) (filter (has_hole_of (target a)) ps)) x) are
      ∙ ap (with_new_witness setting a w) (is ∙ ap (λ (rows : List Row). with_denial (record s { rows = rows })) (row-new s.rows r e))
      ∙ sym (by_test false e)

-- whether a row comes, by the lengths
pub came-not : (rows : List Row) (r : Row) → length (with_row rows r) ≡ length rows → list_any (same_row r) rows ≡ true
came-not rows r h = go (list_any (same_row r) rows) h
  where
    go : (b : Bool) → length (if b then rows else rows ++ r ∷ []) ≡ length rows → b ≡ true
    go true k = refl
    go false k = let n = length-append rows (r ∷ []) in absurd (omega (arith, k, n))

pub came : (rows : List Row) (r : Row) → (length (with_row rows r) ≡ length rows → ⊥) → list_any (same_row r) rows ≡ false
came rows r h = go (list_any (same_row r) rows) refl
  where
    go : (b : Bool) → list_any (same_row r) rows ≡ b → list_any (same_row r) rows ≡ false
    go true e = absurd (h (ap length (row-there rows r e)))
    go false e = e
