-- The clauses of a table.
use Rattle.std.proofs.Common.{◌≡◌, ◌<◌, true, false, ltb, get_or, ◌≤◌, ◌+◌, ℕ, zero, suc, List, [], ◌∷◌, ◌++◌, Some, length, take, drop, refl, sym, ap, ap₂, ◌∙◌, subst, arith, length-append, length-drop}
use Rattle.std.specs.List.{slice_get}
use Rattle.std.specs.Option.{option_map}
use Rattle.std.proofs.lemmas.List.{take-append-le, drop-append-le, take_all, map-append, length-map}
use Rattle.std.proofs.Math.Seq.{drop-append_seam}
use Rattle.std.proofs.lemmas.List.Elements.{All-weaker, All-head, All-tail, All-cons, All-push}
use Rattle.std.proofs.lemmas.Option.{slice_get-map, slice_get-get_or, slice_get_within, same_Some}
use Rattle.std.proofs.lemmas.Bool.{ltb-true}
use Rattle.std.proofs.lemmas.Bool.Decides.{nat_tests}
use Rattle.sat_base.specs.declared.literal.SatLit.{SatLit}
use Rattle.sat_propagate.specs.Internal.ClauseTable.{Watched, Clauses, with_head, all_headed, AreHeads, AreNear, IsClauseTable}
use Rattle.sat_propagate.specs.declared.clause_table.Head.{Head}

pub all_headed-get : (literals : List SatLit) (heads : List Head) (n : ℕ) (head : Head) → slice_get heads n ≡ Some head → slice_get (all_headed literals heads) n ≡ Some (with_head literals head)
all_headed-get literals heads n head at = slice_get-map (with_head literals) heads n ∙ ap (option_map (with_head literals)) at

-- a head's literals are within a list
abbrev IsInside : List SatLit → Head → Type 0
IsInside literals head = head.start + head.len ≤ length literals

-- a clause is as it was where literals are appended
headed-append : (literals more : List SatLit) (head : Head) → head.start + head.len ≤ length literals → with_head (literals ++ more) head ≡ with_head literals head
headed-append literals more head within =
    ap (λ (clause : List SatLit). let w : Watched = record { clause = clause; first = head.first; second = head.second } in w)
    (ap (take head.len) (drop-append-le head.start literals more (omega (arith, within)))
    ∙ take-append-le head.len (drop head.start literals) more (omega (arith, within, length-drop head.start literals)))

pub all_headed-append : (literals more : List SatLit) (heads : List Head) → AreHeads literals heads → all_headed (literals ++ more) heads ≡ all_headed literals heads
all_headed-append literals more [] within = refl
all_headed-append literals more (head ∷ heads) within =
    ap₂ (λ (w : Watched) (all : List Watched). w ∷ all) (headed-append literals more head (All-head (IsInside literals) head heads within))
    (all_headed-append literals more heads (All-tail (IsInside literals) head heads within))

-- a table where one more clause's literals are appended, and its head
pub all_headed-push : (literals clause : List SatLit) (heads : List Head) (head : Head) → AreHeads literals heads → head.start ≡ length literals → head.len ≡ length clause
    → all_headed (literals ++ clause) (heads ++ head ∷ []) ≡ all_headed literals heads ++ record { clause = clause; first = head.first; second = head.second } ∷ []
all_headed-push literals clause heads head within start len =
    map-append (with_head (literals ++ clause)) heads (head ∷ [])
    ∙ ap₂ (λ (all : List Watched) (w : Watched). all ++ w ∷ []) (all_headed-append literals clause heads within) last
  where
    last : with_head (literals ++ clause) head ≡ record { clause = clause; first = head.first; second = head.second }
    last =
        ap (λ (some : List SatLit). let w : Watched = record { clause = some; first = head.first; second = head.second } in w)
        (ap₂ (λ (n s : ℕ). take n (drop s (literals ++ clause))) len start
        ∙ ap (take (length clause)) (drop-append_seam literals clause)
        ∙ take_all (length clause) clause (omega arith))

pub heads-append : (literals more : List SatLit) (heads : List Head) → AreHeads literals heads → AreHeads (literals ++ more) heads
heads-append literals more heads within =
    All-weaker (IsInside literals) (IsInside (literals ++ more)) (λ head h. omega (arith, h, length-append literals more)) heads within

pub heads-push : (literals : List SatLit) (heads : List Head) (head : Head) → AreHeads literals heads → head.start + head.len ≤ length literals → AreHeads literals (heads ++ head ∷ [])
heads-push literals heads head within inside = All-push (IsInside literals) heads head within inside

-- a clause that is appended, after what all heads' clauses are among
appended-clause : (literals clause : List SatLit) (start len : ℕ) → start ≡ length literals → len ≡ length clause → take len (drop start (literals ++ clause)) ≡ clause
appended-clause literals clause start len starts lasts =
    ap₂ (λ (n s : ℕ). take n (drop s (literals ++ clause))) lasts starts
    ∙ ap (take (length clause)) (drop-append_seam literals clause)
    ∙ take_all (length clause) clause (omega arith)

near-append : (literals more : List SatLit) (heads : List Head) → AreHeads literals heads → AreNear literals heads → AreNear (literals ++ more) heads
near-append literals more [] within near = λ k d h. absurd (omega arith)
near-append literals more (head ∷ heads) within near =
    All-cons (λ (h : Head). take h.len h.near ≡ take 6 (take h.len (drop h.start (literals ++ more)))) head heads
    (All-head (λ (h : Head). take h.len h.near ≡ take 6 (take h.len (drop h.start literals))) head heads near
    ∙ ap (λ (w : Watched). take 6 w.clause) (sym (headed-append literals more head (All-head (IsInside literals) head heads within))))
    (near-append literals more heads (All-tail (IsInside literals) head heads within) (All-tail (λ (h : Head). take h.len h.near ≡ take 6 (take h.len (drop h.start literals))) head heads near))

-- a table stays right where literals are appended, and where they are a clause with a head of its own
pub table-append : (literals more : List SatLit) (heads : List Head) → IsClauseTable literals heads → IsClauseTable (literals ++ more) heads
table-append literals more heads right = record {
  within = heads-append literals more heads right.within;
  near = near-append literals more heads right.within right.near;
}

pub table-push : (literals clause : List SatLit) (heads : List Head) (head : Head) → IsClauseTable literals heads → head.start ≡ length literals → head.len ≡ length clause
    → take (length clause) head.near ≡ take 6 clause → IsClauseTable (literals ++ clause) (heads ++ head ∷ [])
table-push literals clause heads head right start len near = record {
  within = heads-push (literals ++ clause) heads head (heads-append literals clause heads right.within) (omega (arith, start, len, length-append literals clause));
  near = All-push (λ (h : Head). take h.len h.near ≡ take 6 (take h.len (drop h.start (literals ++ clause)))) heads head (near-append literals clause heads right.within right.near)
      (ap (λ (n : ℕ). take n head.near) len ∙ near ∙ ap (take 6) (sym (appended-clause literals clause head.start head.len start len)));
}

-- a head that was found gives the clause
pub headed-found : (now : Clauses) (literals : List SatLit) (heads some : List Head) (n : ℕ) (head : Head) → record { items = all_headed literals heads } ≡ now → some ≡ heads
    → true ≡ ltb n (length some) → head ≡ get_or some n head → slice_get now.items n ≡ Some (with_head literals head)
headed-found now literals heads some n head viewed same inside is =
    ap (λ (t : Clauses). slice_get t.items n) (sym viewed)
    ∙ all_headed-get literals heads n head
    (ap (λ (list : List Head). slice_get list n) (sym same) ∙ slice_get-get_or some n head (ltb-true n (length some) (sym inside)) ∙ ap (λ (h : Head). Some h) (sym is))

take-bound : {X : Type 0} (n : ℕ) (xs : List X) → length (take n xs) ≤ n
take-bound zero xs = omega arith
take-bound (suc n) [] = omega arith
take-bound (suc n) (x ∷ xs) = let rest = take-bound n xs in omega arith

-- a clause of few literals stands whole with its head
pub short-near : (literals : List SatLit) (heads : List Head) (n : ℕ) (head : Head) → AreNear literals heads → n < length heads → head ≡ get_or heads n head → head.len ≤ 6
    → take head.len head.near ≡ (with_head literals head).clause
short-near literals heads n head near inside is short =
    subst (λ (h : Head). take h.len h.near ≡ take 6 (take h.len (drop h.start literals))) (sym is) (near n head inside)
    ∙ take_all 6 (take head.len (drop head.start literals)) (omega (arith, short, take-bound head.len (drop head.start literals)))

-- the clause of a head that stands in the table
pub headed-there : (now : Clauses) (literals : List SatLit) (heads : List Head) (n : ℕ) (head : Head) (old : Watched) → record { items = all_headed literals heads } ≡ now
    → head ≡ get_or heads n head → slice_get now.items n ≡ Some old → with_head literals head ≡ old
headed-there now literals heads n head old viewed is at =
    same_Some _ _ (sym (all_headed-get literals heads n head (slice_get-get_or heads n head within ∙ ap (λ (h : Head). Some h) (sym is))) ∙ viewed_at)
  where
    viewed_at : slice_get (all_headed literals heads) n ≡ Some old
    viewed_at = ap (λ (t : Clauses). slice_get t.items n) viewed ∙ at

    within : n < length heads
    within = omega (arith, slice_get_within (all_headed literals heads) n old viewed_at, length-map heads (with_head literals))

pub same_watched : (clause : List SatLit) (a b first second : SatLit) → a ≡ first → b ≡ second
    → record { clause = clause; first = a; second = b } ≡ (let w : Watched = record { clause = clause; first = first; second = second } in w)
same_watched clause a b first second is_first is_second = ap₂ (λ (l m : SatLit). let w : Watched = record { clause = clause; first = l; second = m } in w) is_first is_second

not_below : (n m : ℕ) → false ≡ ltb n m → n < m → ⊥
not_below n m test below = grind (arith, nat_tests)

-- where there is no head, there is no clause
pub headed-none : (now : Clauses) (literals : List SatLit) (heads some : List Head) (n : ℕ) (watched : Watched) → record { items = all_headed literals heads } ≡ now → some ≡ heads
    → false ≡ ltb n (length some) → slice_get now.items n ≡ Some watched → ⊥
headed-none now literals heads some n watched viewed same test at =
    let there : slice_get (all_headed literals heads) n ≡ Some watched = ap (λ (t : Clauses). slice_get t.items n) viewed ∙ at in
    let within : n < length heads = omega (arith, slice_get_within (all_headed literals heads) n watched there, length-map heads (with_head literals)) in
    not_below n (length some) test (subst (λ (list : List Head). n < length list) (sym same) within)
