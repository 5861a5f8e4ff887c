-- Clauses that are added come from where they are said to come from.
use Rattle.std.proofs.Common.{◌≡◌, ℕ, zero, suc, List, [], ◌∷◌, ◌++◌, length, Some, slice_get, Contains, Bool, true, false, if◌then◌else◌, refl, sym, ap, subst, ◌∙◌, arith}
use Rattle.std.specs.List.{list_any}
use Rattle.stt_core.proofs.ListLaws.{slice_get-append}
use Rattle.tableau_calculus.proofs.ListLaws.{contains-first, contains-later, contains_cases}
use Rattle.sat_base.specs.declared.literal.SatLit.{SatLit}
use Rattle.literal_map.specs.declared.instance.Instance.{Instance}
use Rattle.search_spec.specs.Clauses.{same_clause, instance_clauses}
use Rattle.search_spec.specs.Numbered.{numbers}
use Rattle.tableau_clauses.specs.declared.origin.Origin.{Origin}
use Rattle.tableau_clauses.specs.declared.origin.Origin.TheVariants.{Start, Instance as From}
use Rattle.tableau_clauses.specs.Table.{Step, clauses_in, Table, ComesFromOrigin, EachComes}
use Rattle.tableau_clauses.specs.Internal.Stepping.{with_steps}

pub none_come : EachComes ([], [])
none_come n s h = cc

pub get-push : {A : Type 0} (P : Type 0) (xs : List A) (x y : A) (i : ℕ) → slice_get (xs ++ x ∷ []) i ≡ Some y → (slice_get xs i ≡ Some y → P) → (x ≡ y → P) → P
get-push P [] x y zero h old new = new cc
get-push P [] x y (suc i) h old new = cc
get-push P (z ∷ xs) x y zero h old new = old h
get-push P (z ∷ xs) x y (suc i) h old new = get-push P xs x y i h old new

-- what holds of the steps and of each further clause holds of the steps with those
each_with : (P : Step → Type 0) (o : Origin) (es : List Step) (cs : List (List SatLit)) → ((n : ℕ) (s : Step) → slice_get es n ≡ Some s → P s) → ((c : List SatLit) → Contains cs c → P (c, o)) → (n : ℕ) (s : Step) → slice_get (with_steps o es cs) n ≡ Some s → P s
each_with P o es [] old new n s h = old n s h
each_with P o es (c ∷ cs) old new n s h =
    each_with P o (if list_any (same_clause numbers c) (clauses_in es) then es else es ++ (c, o) ∷ []) cs (go (list_any (same_clause numbers c) (clauses_in es))) (λ d k. new d (contains-later d c cs k)) n s h
  where
    go : (b : Bool) (m : ℕ) (t : Step) → slice_get (if b then es else es ++ (c, o) ∷ []) m ≡ Some t → P t
    go true m t k = old m t k
    go false m t k = get-push (P t) es (c, o) t m k (λ j. old m t j) (λ e. subst P e (new c (contains-first c cs)))

kept : (instances : List Instance) (i : Instance) (c : List SatLit) (o : Origin) → ComesFromOrigin instances c o → ComesFromOrigin (instances ++ i ∷ []) c o
kept instances i c Start h = h
kept instances i c (From k) h = (h.0, slice_get-append instances (i ∷ []) k h.0 h.1, h.2)

get-last : {A : Type 0} (xs : List A) (x : A) → slice_get (xs ++ x ∷ []) (length xs) ≡ Some x
get-last [] x = refl
get-last (y ∷ xs) x = let e : length (y ∷ xs) ≡ suc (length xs) = omega arith in ap (slice_get (y ∷ (xs ++ x ∷ []))) e ∙ get-last xs x

pub start_comes : (old new : Table) (l : SatLit) → EachComes old → new.0 ≡ with_steps Start old.0 ((l ∷ []) ∷ []) → new.1 ≡ old.1 → EachComes new
start_comes old new l each steps same n s h =
    subst (λ is. ComesFromOrigin is s.0 s.1) (sym same)
    (each_with (λ t. ComesFromOrigin old.1 t.0 t.1) Start old.0 ((l ∷ []) ∷ []) each only n s (ap (λ es. slice_get es n) (sym steps) ∙ h))
  where
    only : (c : List SatLit) → Contains ((l ∷ []) ∷ []) c → ComesFromOrigin old.1 c Start
    only c k = contains_cases (ComesFromOrigin old.1 c Start) c (l ∷ []) [] k (λ e. (l, sym e)) (λ later. absurd (omega (arith, later.1)))

pub instance_comes : (old new : Table) (i : Instance) (cs : List (List SatLit)) → EachComes old → cs ≡ instance_clauses numbers i.principals i.alternatives → new.0 ≡ with_steps (From (length old.1)) old.0 cs → new.1 ≡ old.1 ++ i ∷ [] → EachComes new
instance_comes old new i cs each are steps grown n s h =
    subst (λ is. ComesFromOrigin is s.0 s.1) (sym grown)
    (each_with (λ t. ComesFromOrigin (old.1 ++ i ∷ []) t.0 t.1) (From (length old.1)) old.0 cs (λ m t k. kept old.1 i t.0 t.1 (each m t k)) (λ c k. (i, get-last old.1 i, subst (λ xs. Contains xs c) are k)) n s (ap (λ es. slice_get es n) (sym steps) ∙ h))
