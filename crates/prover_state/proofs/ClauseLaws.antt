-- Clauses behind those that were there.
use Rattle.std.specs.Prelude.{◌≡◌, ◌≤◌, ◌<◌, ℕ, Bool, true, false, List, [], ◌∷◌, ◌++◌, take, length, if◌then◌else◌}
use Rattle.std.specs.List.{All, list_any}
use Rattle.std.proofs.Common.{sym, ap, ◌∙◌, arith, append-nil, append_assoc}
use Rattle.std.proofs.Math.Seq.{take-append_seam}
use Rattle.sat_base.specs.declared.literal.SatLit.{SatLit}
use Rattle.tableau_calculus.specs.Each.{Each}
use Rattle.search_spec.specs.Clauses.{same_clause, with_clauses}
use Rattle.tableau_calculus.specs.Kinds.{Kind}
use Rattle.prover_state.specs.Internal.Growing.{Longer}
use Rattle.prover_state.proofs.EachLaws.{each-weaker, All-from_each}

pub with_clauses-longer : {L : Type 0} (kind : Kind L) (cs es : List (List L)) → Longer cs (with_clauses kind cs es)
with_clauses-longer kind cs [] = ([], sym (append-nil cs))
with_clauses-longer {L} kind cs (e ∷ es) = go (list_any (same_clause kind e) cs) (λ ds. with_clauses-longer kind ds es)
  where
    go : (b : Bool) → ((ds : List (List L)) → Longer ds (with_clauses kind ds es)) → Longer cs (with_clauses kind (if b then cs else cs ++ e ∷ []) es)
    go true rest = rest cs
    go false rest = let l = rest (cs ++ e ∷ []) in ((e ∷ []) ++ l.0, l.1 ∙ append_assoc cs (e ∷ []) l.0)

pub first_clauses : {L : Type 0} (kind : Kind L) (cs es all : List (List L)) (n : ℕ) → n ≡ length cs → all ≡ with_clauses kind cs es → cs ≡ take n all
first_clauses kind cs es all n h e =
    let l = with_clauses-longer kind cs es in
    sym (take-append_seam cs l.0) ∙ ap (take (length cs)) (sym l.1 ∙ sym e) ∙ ap (λ k. take k all) (sym h)

-- variables that are few enough
pub made-all : (atoms n : ℕ) (c : List SatLit) → Each (λ l. l.var.0 < atoms) c → atoms ≤ n → All (λ l. l.var.0 < n) c
made-all atoms n c h k = All-from_each (λ l. l.var.0 < n) c (each-weaker (λ l. l.var.0 < atoms) (λ l. l.var.0 < n) (λ l p. omega (arith, p, k)) c h)
