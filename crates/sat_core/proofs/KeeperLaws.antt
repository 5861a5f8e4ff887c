-- Facts about values that are changed, and about the table of uses.
use Rattle.std.proofs.Common.{◌≡◌, ◌≢◌, inl, inr, ◌<◌, ◌≤◌, ℕ, zero, suc, ◌||◌, not, Bool, true, false, List, [], ◌∷◌, ◌++◌, Option, Some, None, IsTrue, length, length-append, get_or, refl, sym, ap, ap₂, ◌∙◌, subst, arith}
use Rattle.std.specs.Prelude.{if◌then◌else◌, IfSome, IfNone, slice_set, slice_index_or}
use Rattle.std.specs.List.{slice_get}
use Rattle.std.proofs.lemmas.Bool.{false≢true, cases_Bool, cases_order, or_left, or_right, false_from_ne_true}
use Rattle.std.proofs.lemmas.List.{get_or-set_same, get_or-set_other, set-set, set-get_or}
use Rattle.std.proofs.lemmas.Option.{slice_get-get_or}
use Rattle.sat_base.specs.declared.literal.Var.{Var}
use Rattle.sat_base.specs.declared.literal.SatLit.{SatLit}
use Rattle.sat_base.specs.Literal.{same_var, holds, mentions_variable}
use Rattle.sat_base.specs.Truth.{AllTrue, assigned, literal_value, clause_value}
use Rattle.sat_base.proofs.LiteralLaws.{same_var-refl}
use Rattle.sat_base.proofs.TruthLaws.{clause_value-held}
use Rattle.sat_laws.proofs.AnalysisLaws.{mentioned_by}
use Rattle.sat_core.specs.Internal.Learner.{AreOver}
use Rattle.sat_core.specs.Internal.Uses.{UseTable, no_ends, IsUse}
use Rattle.sat_core.proofs.UsesLaws.{use_longer}
use Rattle.sat_core.specs.Internal.Keeper.{AreUsed, AreTrue, AreTrueBut, IsKeeper}
use Rattle.sat_core.proofs.AnalysisSteps.{over_more}

-- Options.

pub if_none : (r : Option ℕ) (P : Type 0) → P → IfNone r P
if_none None P p = p
if_none (Some x) P p = tt

pub if_both : (r : Option ℕ) (P Q R : ℕ → Type 0) → ((x : ℕ) → P x → Q x → R x) → IfSome r P → IfSome r Q → IfSome r R
if_both None P Q R f p q = tt
if_both (Some x) P Q R f p q = f x p q

-- Values after one is changed.

pub set_back : (values : List Bool) (i : ℕ) (b : Bool) → slice_set (slice_set values i b) i (slice_index_or values i false) ≡ values
set_back values i b = set-set values i b (slice_index_or values i false) ∙ set-get_or values i false

-- a literal is true whose variable has its sign as value
turned_literal : (values : List Bool) (l : SatLit) → l.var.0 < length values → literal_value (assigned (slice_set values l.var.0 l.positive)) l ≡ true
turned_literal values l inside = go l.positive (assigned (slice_set values l.var.0 l.positive) l.var) (get_or-set_same values l.var.0 l.positive false inside)
  where
    go : (sign x : Bool) → x ≡ sign → (if sign then x else not x) ≡ true
    go true x e = e
    go false x e = ap not e

-- a clause keeps its value in which the variable does not stand
unturned : (values : List Bool) (v : Var) (b : Bool) (clause : List SatLit) → mentions_variable clause v ≡ false → clause_value (assigned (slice_set values v.0 b)) clause ≡ clause_value (assigned values) clause
unturned values v b [] h = refl
unturned values v b (l ∷ clause) h =
    let first : same_var v l.var ≡ false = false_from_ne_true (same_var v l.var) (λ t. false≢true (sym h ∙ or_left _ _ t)) in
    let rest : mentions_variable clause v ≡ false = false_from_ne_true (mentions_variable clause v) (λ t. false≢true (sym h ∙ or_right (same_var v l.var) _ t)) in
    let apart : l.var.0 ≢ v.0 = λ e. false≢true (sym first ∙ subst (λ (n : ℕ). same_var v (record { 0 = n }) ≡ true) (sym e) (same_var-refl v)) in
    let value : assigned (slice_set values v.0 b) l.var ≡ assigned values l.var = get_or-set_other values v.0 l.var.0 b false apart in
    ap₂ (λ (x y : Bool). x || y) (ap (λ (x : Bool). if l.positive then x else not x) value) (unturned values v b clause rest)

-- where a literal of a clause is made true, the first clauses are true other than those that hold its variable and are found false
pub turned_true : (values : List Bool) (uses : UseTable) (clauses : List (List SatLit)) (l : SatLit) (n bound next : ℕ) → l.var.0 < length values → AreUsed uses bound clauses
    → ((clause : List SatLit) → slice_get clauses n ≡ Some clause → IsTrue (holds clause l)) → AreTrueBut values n bound clauses
    → ((k : ℕ) (clause : List SatLit) → IsUse uses l.var k → k < bound → k ≢ next → k ≢ n → slice_get clauses k ≡ Some clause → IsTrue (clause_value (assigned (slice_set values l.var.0 l.positive)) clause))
    → AreTrueBut (slice_set values l.var.0 l.positive) next bound clauses
turned_true values uses clauses l n bound next inside used member but others k clause below apart at =
    elim (cases_order k n) [
      | inl same ↦ clause_value-held (assigned (slice_set values l.var.0 l.positive)) clause l (member clause (ap (slice_get clauses) (sym same) ∙ at)) (turned_literal values l inside)
      | inr other ↦ unlike (elim other [ inl less ↦ (λ e. absurd (omega arith)) | inr more ↦ (λ e. absurd (omega arith)) ])
    ]
  where
    unlike : k ≢ n → IsTrue (clause_value (assigned (slice_set values l.var.0 l.positive)) clause)
    unlike apart_n =
        elim (cases_Bool (mentions_variable clause l.var)) [
          | inl there ↦
              let m = mentioned_by clause l.var there in
              others k clause (subst (λ (w : Var). IsUse uses w k) m.2 (used k clause below at m.0 m.1)) below apart apart_n at
          | inr absent ↦ unturned values l.var l.positive clause absent ∙ but k clause below apart_n at
        ]

-- The keeper.

pub all_true : (values : List Bool) (clauses : List (List SatLit)) (kept : ℕ) → length clauses ≤ kept → AreTrue values kept clauses → AllTrue (assigned values) clauses
all_true values clauses kept whole are = λ k d inside. are k (get_or clauses k d) (omega arith) (slice_get-get_or clauses k d inside)

assigned-push : (values : List Bool) (v : Var) → assigned (values ++ false ∷ []) v ≡ assigned values v
assigned-push values v = go values v.0
  where
    go : (xs : List Bool) (i : ℕ) → get_or (xs ++ false ∷ []) i false ≡ get_or xs i false
    go [] zero = refl
    go [] (suc i) = refl
    go (x ∷ xs) zero = refl
    go (x ∷ xs) (suc i) = go xs i

clause_value-same : (f g : Var → Bool) (clause : List SatLit) → ((v : Var) → f v ≡ g v) → clause_value f clause ≡ clause_value g clause
clause_value-same f g [] same = refl
clause_value-same f g (l ∷ clause) same = ap₂ (λ (x y : Bool). x || y) (ap (λ (x : Bool). if l.positive then x else not x) (same l.var)) (clause_value-same f g clause same)

-- the table has room for one variable more
pub keeper_ahead : (values same : List Bool) (table more : UseTable) (listed kept : ℕ) (clauses : List (List SatLit)) → same ≡ values → more ≡ record table { ends = table.ends ++ no_ends ∷ [] }
    → IsKeeper values table listed kept clauses → IsKeeper same more listed kept clauses
keeper_ahead values same table more listed kept clauses e longer s = record {
  listed_within = s.listed_within;
  kept_within = s.kept_within;
  used = λ k clause below at l h. subst (λ (some : UseTable). IsUse some l.var k) (sym longer) (use_longer table l.var k (s.used k clause below at l h));
  kept_true = λ k clause below at. subst (λ (list : List Bool). IsTrue (clause_value (assigned list) clause)) (sym e) (s.kept_true k clause below at);
  uses_made = omega (arith, s.uses_made, ap (λ (list : List Bool). length list) e, ap (λ (some : UseTable). length some.ends) longer, length-append table.ends (no_ends ∷ []));
}

-- one variable more, which is false
pub keeper_longer : (values : List Bool) (table : UseTable) (listed kept : ℕ) (clauses : List (List SatLit)) → IsKeeper values table listed kept clauses
    → IsKeeper (values ++ false ∷ []) (record table { ends = table.ends ++ no_ends ∷ [] }) listed kept clauses
keeper_longer values table listed kept clauses s = record {
  listed_within = s.listed_within;
  kept_within = s.kept_within;
  used = λ k clause below at l h. use_longer table l.var k (s.used k clause below at l h);
  kept_true = λ k clause below at. clause_value-same (assigned (values ++ false ∷ [])) (assigned values) clause (assigned-push values) ∙ s.kept_true k clause below at;
  uses_made = let enough = s.uses_made in omega (arith, length-append values (false ∷ []), length-append table.ends (no_ends ∷ []));
}

-- more variables than the clauses speak of
pub over_longer : (n m : ℕ) (clauses : List (List SatLit)) → n ≤ m → AreOver n clauses → AreOver m clauses
over_longer n m clauses more over = λ k clause at. over_more n m clause more (over k clause at)
