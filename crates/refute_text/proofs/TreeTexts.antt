-- The text of a term that is given by its head and arguments.
use Rattle.std.proofs.Common.{◌≡◌, ℕ, suc, ◌≤◌, List, [], ◌∷◌, ◌++◌, codes, refl, sym, ap, ◌∙◌, append_assoc, append-nil, arith}
use Rattle.std.specs.List.{flat_map}
use Rattle.refute_print.specs.Trees.{TermTree, bound, constant, lam, app, applied_tree}
use Rattle.refute_print.specs.Text.{term_text, spine_text}
use Rattle.refute_print.specs.Limits.{IsTerm, IsSpine, term_depth, spine_depth}

abbrev pub IsHead : TermTree → Type 0
IsHead (bound k) = Unit {0}
IsHead (constant c) = Unit {0}
IsHead (lam a s) = ⊥
IsHead (app s u) = ⊥

abbrev pub arguments_text : List TermTree → List ℕ
arguments_text us = flat_map (λ u. codes " " ++ term_text u) us

-- terms in each of which at most so many things are open
abbrev pub AreTerms : ℕ → List TermTree → Type 0
AreTerms depth [] = Unit {0}
AreTerms depth (u ∷ us) = IsTerm u × ((term_depth u ≤ depth) × AreTerms depth us)

spine_text-applied : (t : TermTree) (us : List TermTree) → spine_text (applied_tree t us) ≡ spine_text t ++ arguments_text us
spine_text-applied t [] = sym (append-nil (spine_text t))
spine_text-applied t (u ∷ us) = spine_text-applied (app t u) us ∙ append_assoc (spine_text t) (codes " " ++ term_text u) (arguments_text us)

term_text-app : (t u : TermTree) (us : List TermTree) → term_text (applied_tree (app t u) us) ≡ codes "(" ++ (spine_text (applied_tree (app t u) us) ++ codes ")")
term_text-app t u [] = ap (λ x. codes "(" ++ x) (sym (append_assoc (spine_text t) (codes " " ++ term_text u) (codes ")")))
term_text-app t u (v ∷ us) = term_text-app (app t u) v us

spine_text-head : (h : TermTree) → IsHead h → spine_text h ≡ term_text h
spine_text-head (bound k) l = refl
spine_text-head (constant c) l = refl
spine_text-head (lam a s) l = absurd l
spine_text-head (app s u) l = absurd l

pub term_text-applied : (h u : TermTree) (us : List TermTree) → IsHead h → term_text (applied_tree h (u ∷ us)) ≡ codes "(" ++ (term_text h ++ (arguments_text (u ∷ us) ++ codes ")"))
term_text-applied h u us l =
    term_text-app h u us
    ∙ ap (λ x. codes "(" ++ (x ++ codes ")")) (spine_text-applied h (u ∷ us))
    ∙ ap (λ x. codes "(" ++ x) (append_assoc (spine_text h) (arguments_text (u ∷ us)) (codes ")"))
    ∙ ap (λ x. codes "(" ++ (x ++ (arguments_text (u ∷ us) ++ codes ")"))) (spine_text-head h l)

head-spine : (h : TermTree) → IsHead h → IsTerm h → IsSpine h × (spine_depth h ≡ term_depth h)
head-spine (bound k) l t = (t, refl)
head-spine (constant c) l t = (t, refl)
head-spine (lam a s) l t = absurd l
head-spine (app s u) l t = absurd l

app-applied : (depth : ℕ) (t u : TermTree) (us : List TermTree) → IsSpine (app t u) → spine_depth (app t u) ≤ depth → AreTerms depth us → IsTerm (applied_tree (app t u) us) × (term_depth (applied_tree (app t u) us) ≤ suc depth)
app-applied depth t u [] s d h = (s, omega (arith, d))
app-applied depth t u (v ∷ us) s d h = app-applied depth (app t u) v us (s, h.0) (let m = h.1.0 in omega (arith, d, m)) h.1.1

pub applied-is_term : (depth : ℕ) (h u : TermTree) (us : List TermTree) → IsHead h → IsTerm h → term_depth h ≤ depth → AreTerms depth (u ∷ us) → IsTerm (applied_tree h (u ∷ us)) × (term_depth (applied_tree h (u ∷ us)) ≤ suc depth)
applied-is_term depth h u us l t d k =
    let s = head-spine h l t in
    app-applied depth h u us (s.0, k.0) (let m = k.1.0 in let e = s.1 in omega (arith, d, m, e)) k.1.1
