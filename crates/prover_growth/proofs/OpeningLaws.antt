-- Types that are prepared.
use Rattle.std.specs.Prelude.{◌≡◌, ◌||◌, ◌+◌, ℕ, Bool, true, false, List, [], drop, slice_get, Some, refl, if◌then◌else◌}
use Rattle.std.specs.List.{list_any}
use Rattle.std.proofs.Common.{sym, ap, subst, ◌∙◌, append-nil}
use Rattle.stt_core.specs.SimpleType.{SimpleType, arrow}
use Rattle.stt_core.proofs.ListLaws.{drop_got}
use Rattle.search_spec.specs.Partial.{blank_partial}
use Rattle.search_spec.specs.State.{State, Setting}
use Rattle.search_spec.specs.Terms.{with_terms, with_opening}
use Rattle.search_spec.specs.Offers.{is_prepared, early_terms}
use Rattle.search_spec.specs.Preparing.{with_beginning, with_preparation}
use Rattle.prover_state.specs.declared.tables.Basis.{Basis}
use Rattle.prover_state.specs.Internal.Growing.{BasisGrows}

-- a test of the elements from a place on
module _ {X : Type 0} (test : X → Bool) (xs : List X) (i : ℕ) (x : X) (at : slice_get xs i ≡ Some x) (all : Bool) (inv : list_any test (drop i xs) ≡ all) where
  from_here : (test x || list_any test (drop (i + 1) xs)) ≡ all
  from_here = sym (ap (list_any test) (drop_got xs i x at)) ∙ inv

  pub any-passed : test x ≡ false → list_any test (drop (i + 1) xs) ≡ all
  any-passed e = sym (ap (λ (b : Bool). b || list_any test (drop (i + 1) xs)) e) ∙ from_here

  pub any-found : test x ≡ true → true ≡ all
  any-found e = sym (ap (λ (b : Bool). b || list_any test (drop (i + 1) xs)) e) ∙ from_here

-- a function type begins by opening one hole under its binders
pub function-begins : (setting : Setting) (s : State) (c a b : SimpleType) → c ≡ arrow a b → with_opening setting (record { type = c; partial = blank_partial c }) s ≡ with_beginning setting c s
function-begins setting s c a b is =
    let P : SimpleType → Type 0 = λ x. with_opening setting (record { type = x; partial = blank_partial x }) s ≡ with_beginning setting x s in
    subst P (sym is) refl

-- a type is prepared unless it was before
module _ (setting : Setting) (a : SimpleType) (s : State) where
  abbrev begun : State
  begun = with_beginning setting a (with_terms setting.mode a (early_terms setting.mode a s) s)

  pub prepared-before : is_prepared setting.mode a s ≡ true → s ≡ with_preparation setting a s
  prepared-before e = sym (ap (λ (b : Bool). if b then s else begun) e)

  pub prepared-now : is_prepared setting.mode a s ≡ false → begun ≡ with_preparation setting a s
  prepared-now e = sym (ap (λ (b : Bool). if b then s else begun) e)

-- a basis that stays
pub same-grows : (old new : Basis) → new ≡ old → BasisGrows old new
same-grows old new e =
    let G : Basis → Type 0 = λ g. BasisGrows old g in
    subst G (sym e)
    (record {
      bank = record { bases = refl; consts = refl; witnesses = refl; further = []; terms = sym (append-nil old.bank.terms) };
      lits = record { further = []; is = sym (append-nil old.lits) };
      witnesses = refl;
    })
