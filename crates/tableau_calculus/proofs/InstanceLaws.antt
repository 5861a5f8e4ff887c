-- A rule has at most one instance at its places.
use Rattle.std.proofs.Common.{◌≡◌, ℕ, suc, List, [], ◌∷◌, Some, slice_get, refl, sym, ap, ap₂, subst, ◌∙◌}
use Rattle.stt_core.specs.SimpleType.{SimpleType, base, arrow, formula, predicate}
use Rattle.stt_core.specs.Lambda.{Constant, witness, falsity, Lambda, constant, imp, eq, every, applied}
use Rattle.stt_core.specs.Typing.{Scope, constant_type}
use Rattle.stt_core.specs.Canonical.{IsCanonical}
use Rattle.stt_core.proofs.CanonicalTypes.{canonical_type-at}
use Rattle.stt_core.proofs.SpineLaws.{parts}
use Rattle.normal_forms.specs.Normal.{eta, apply}
use Rattle.tableau_calculus.specs.Literals.{Literal, plus, minus, as_literal, opposite, IsLiteral}
use Rattle.tableau_calculus.specs.Witnesses.{Row}
use Rattle.tableau_calculus.specs.Rules.{Alone, false_alone, refl_alone, imp_pos_alone, imp_neg_alone, bool_pos_alone, bool_neg_alone, fun_pos_alone, fun_neg_alone, imp_pos, imp_neg, bool_pos, bool_neg, fun_pos, fun_neg, Rule, alone_rule, close_rule, all_pos_rule, all_neg_rule, mat_rule, dec_rule, con_rule, IsDecomposed, differ_each, cho_rule, des_rule, cut_rule, agreement, nowhere, chosen, at_most_once, described, PlainRule, AreAt, IsInstance}
use Rattle.tableau_calculus.specs.RuleUses.{principals_of}
use Rattle.tableau_calculus.specs.declared.rule_use.RuleUse.TheVariants.{AtOne, AtTwo, AllPos, WithPredicate, Cut}
use Rattle.tableau_calculus.specs.declared.rule_use.OnePlace.{OnePlace}
use Rattle.tableau_calculus.specs.declared.rule_use.OnePlace.TheVariants.{False, Refl, ImpPos, ImpNeg, BoolPos, BoolNeg, FunPos, FunNeg, AllNeg, Dec}
use Rattle.tableau_calculus.specs.declared.rule_use.TwoPlaces.TheVariants.{Close, Mat, Con}
use Rattle.tableau_calculus.specs.declared.rule_use.OfPredicate.TheVariants.{Cho, Des}
use Rattle.tableau_calculus.proofs.AloneLaws.{AloneBy, alone_by, one_alone}

-- the alternatives of a confrontation
abbrev confronted : ℕ → Lambda → Lambda → Lambda → Lambda → List (List Literal)
confronted n s t u v =
    (minus (eq (base (suc n)) s u) ∷ minus (eq (base (suc n)) t u) ∷ []) ∷ (minus (eq (base (suc n)) s v) ∷ minus (eq (base (suc n)) t v) ∷ []) ∷ []

-- predicates of different rows differ
abbrev pub AreDistinct : List Row → Type 0
AreDistinct rows = (j k : ℕ) (q r : Row) → slice_get rows j ≡ Some q → slice_get rows k ≡ Some r → q.predicate ≡ r.predicate → j ≡ k

-- what the table says of a rule, by the rule
abbrev pub Fits : Scope → List Row → PlainRule → List Literal → List (List Literal) → Type 0
Fits scope rows (AtTwo Close i j) ps as' = (l : Literal) × (ps ≡ l ∷ opposite l ∷ []) × (as' ≡ [])
Fits scope rows (Cut l) ps as' = (ps ≡ []) × (as' ≡ (l ∷ []) ∷ (opposite l ∷ []) ∷ [])
Fits scope rows (AtTwo Con i j) ps as' =
    (n : ℕ) × (s : Lambda) × (t : Lambda) × (u : Lambda) × (v : Lambda) × (ps ≡ plus (eq (base (suc n)) s t) ∷ minus (eq (base (suc n)) u v) ∷ []) × (as' ≡ confronted n s t u v)
Fits scope rows (AllPos i u) ps as' =
    (a : SimpleType) × (f : Lambda) × IsCanonical scope [] a u × (ps ≡ plus (every a f) ∷ []) × (as' ≡ (as_literal (apply f u) ∷ []) ∷ [])
Fits scope rows (AtOne AllNeg i) ps as' =
    (k : ℕ) × (a : SimpleType) × (f : Lambda) × (slice_get rows k ≡ Some (record { type = a; predicate = f })) × (ps ≡ minus (every a f) ∷ []) × (as' ≡ (opposite (as_literal (apply f (eta a (constant (witness k))))) ∷ []) ∷ [])
Fits scope rows (AtTwo Mat i j) ps as' =
    (c : Constant) × (a : SimpleType) × (s : Lambda) × (t : Lambda) × (ss : List Lambda) × (ts : List Lambda) × IsDecomposed c × (constant_type scope c ≡ Some a) × (ps ≡ plus (applied (constant c) (s ∷ ss)) ∷ minus (applied (constant c) (t ∷ ts)) ∷ []) × (as' ≡ differ_each a (s ∷ ss) (t ∷ ts))
Fits scope rows (AtOne Dec i) ps as' =
    (n : ℕ) × (c : Constant) × (a : SimpleType) × (s : Lambda) × (t : Lambda) × (ss : List Lambda) × (ts : List Lambda) × IsDecomposed c × (constant_type scope c ≡ Some a) × (ps ≡ minus (eq (base (suc n)) (applied (constant c) (s ∷ ss)) (applied (constant c) (t ∷ ts))) ∷ []) × (as' ≡ differ_each a (s ∷ ss) (t ∷ ts))
Fits scope rows (WithPredicate Cho f) ps as' =
    (a : SimpleType) × IsCanonical scope [] (predicate a) f × (ps ≡ []) × (as' ≡ (as_literal (nowhere a f) ∷ []) ∷ (as_literal (apply f (chosen a f)) ∷ []) ∷ [])
Fits scope rows (WithPredicate Des f) ps as' =
    (a : SimpleType) × IsCanonical scope [] (predicate a) f × (ps ≡ []) × (as' ≡ (as_literal (nowhere a f) ∷ []) ∷ (opposite (as_literal (at_most_once a f)) ∷ []) ∷ (as_literal (apply f (described a f)) ∷ []) ∷ [])
Fits scope rows (AtOne kind i) ps as' = (l : Literal) × (ps ≡ l ∷ []) × AloneBy kind l as'

alone_fits : (scope : Scope) (rows : List Row) (i : ℕ) (kind : OnePlace) (l : Literal) (as' : List (List Literal)) → AloneBy kind l as' → Fits scope rows (AtOne kind i) (l ∷ []) as'
alone_fits scope rows i AllNeg l as' h = absurd h
alone_fits scope rows i Dec l as' h = absurd h
alone_fits scope rows i kind l as' h = (l, refl, h)

pub fits : (scope : Scope) (rows : List Row) (rule : PlainRule) (ps : List Literal) (as' : List (List Literal)) → Rule scope rows rule ps as' → Fits scope rows rule ps as'
fits scope rows _ _ _ (alone_rule i kind l as' h) = alone_fits scope rows i kind l as' (alone_by kind l as' h)
fits scope rows _ _ _ (close_rule i j l) = (l, refl, refl)
fits scope rows _ _ _ (all_pos_rule i a f u c) = (a, f, c, refl, refl)
fits scope rows _ _ _ (all_neg_rule i k a f g) = (k, a, f, g, refl, refl)
fits scope rows _ _ _ (cho_rule a f c) = (a, c, refl, refl)
fits scope rows _ _ _ (des_rule a f c) = (a, c, refl, refl)
fits scope rows _ _ _ (mat_rule i j c a s t ss ts d e) = (c, a, s, t, ss, ts, d, e, refl, refl)
fits scope rows _ _ _ (dec_rule i n c a s t ss ts d e) = (n, c, a, s, t, ss, ts, d, e, refl, refl)
fits scope rows _ _ _ (con_rule i j n s t u v) = (n, s, t, u, v, refl, refl)
fits scope rows _ _ _ (cut_rule l h) = (refl, refl)

-- one head with its arguments has one type and one list of arguments
same_differences : (scope : Scope) (c d : Constant) (a b : SimpleType) (ss us ts vs : List Lambda) → constant_type scope c ≡ Some a → constant_type scope d ≡ Some b → applied (constant c) ss ≡ applied (constant d) us → applied (constant c) ts ≡ applied (constant d) vs → differ_each a ss ts ≡ differ_each b us vs
same_differences scope c d a b ss us ts vs e f p q =
    let left = parts [] [] (constant c) (constant d) ss us tt tt p in
    let right = parts [] [] (constant c) (constant d) ts vs tt tt q in
    let head = left.head in
    let same : c ≡ d = cc in
    let types : Some a ≡ Some b = sym e ∙ ap (constant_type scope) same ∙ f in
    let type : a ≡ b = cc in
    ap (λ x. differ_each x ss ts) type ∙ ap₂ (differ_each b) left.arguments right.arguments

same_alternatives : (scope : Scope) (rows : List Row) → AreDistinct rows → (rule : PlainRule) (ps : List Literal) (as' bs : List (List Literal)) → Fits scope rows rule ps as' → Fits scope rows rule ps bs → as' ≡ bs
same_alternatives scope rows distinct (AtTwo Close i j) ps as' bs h k = h.2 ∙ sym k.2
same_alternatives scope rows distinct (Cut l) ps as' bs h k = h.1 ∙ sym k.1
same_alternatives scope rows distinct (AtTwo Con i j) ps as' bs h k =
    let e : plus (eq (base (suc h.0)) h.1 h.2) ∷ minus (eq (base (suc h.0)) h.3 h.4) ∷ [] ≡ plus (eq (base (suc k.0)) k.1 k.2) ∷ minus (eq (base (suc k.0)) k.3 k.4) ∷ [] = sym h.5 ∙ k.5 in
    let l : plus (eq (base (suc h.0)) h.1 h.2) ≡ plus (eq (base (suc k.0)) k.1 k.2) = cc in
    let o : minus (eq (base (suc h.0)) h.3 h.4) ≡ minus (eq (base (suc k.0)) k.3 k.4) = cc in
    let a : eq (base (suc h.0)) h.1 h.2 ≡ eq (base (suc k.0)) k.1 k.2 = ap (λ x. x.atom) l in
    let b : eq (base (suc h.0)) h.3 h.4 ≡ eq (base (suc k.0)) k.3 k.4 = ap (λ x. x.atom) o in
    let n : h.0 ≡ k.0 = cc in
    let s : h.1 ≡ k.1 = cc in
    let t : h.2 ≡ k.2 = cc in
    let u : h.3 ≡ k.3 = cc in
    let v : h.4 ≡ k.4 = cc in
    h.6 ∙ ap (λ x. confronted x h.1 h.2 h.3 h.4) n ∙ ap₂ (λ x y. confronted k.0 x y h.3 h.4) s t ∙ ap₂ (λ x y. confronted k.0 k.1 k.2 x y) u v ∙ sym k.6
same_alternatives scope rows distinct (AllPos i u) ps as' bs h k =
    let e : plus (every h.0 h.1) ∷ [] ≡ plus (every k.0 k.1) ∷ [] = sym h.3 ∙ k.3 in
    let l : plus (every h.0 h.1) ≡ plus (every k.0 k.1) = cc in
    let x : every h.0 h.1 ≡ every k.0 k.1 = ap (λ y. y.atom) l in
    let f : h.1 ≡ k.1 = cc in
    h.4 ∙ ap (λ x. (as_literal (apply x u) ∷ []) ∷ []) f ∙ sym k.4
same_alternatives scope rows distinct (AtOne AllNeg i) ps as' bs h k =
    let e : minus (every h.1 h.2) ∷ [] ≡ minus (every k.1 k.2) ∷ [] = sym h.4 ∙ k.4 in
    let l : minus (every h.1 h.2) ≡ minus (every k.1 k.2) = cc in
    let x : every h.1 h.2 ≡ every k.1 k.2 = ap (λ y. y.atom) l in
    let a : h.1 ≡ k.1 = cc in
    let f : h.2 ≡ k.2 = cc in
    let w = distinct h.0 k.0 (record { type = h.1; predicate = h.2 }) (record { type = k.1; predicate = k.2 }) h.3 k.3 f in
    h.5 ∙ ap₂ (λ x y. (opposite (as_literal (apply y (eta x (constant (witness h.0))))) ∷ []) ∷ []) a f ∙ ap (λ x. (opposite (as_literal (apply k.2 (eta k.1 (constant (witness x))))) ∷ []) ∷ []) w ∙ sym k.5
same_alternatives scope rows distinct (AtTwo Mat i j) ps as' bs h k =
    let e : plus (applied (constant h.0) (h.2 ∷ h.4)) ∷ minus (applied (constant h.0) (h.3 ∷ h.5)) ∷ [] ≡ plus (applied (constant k.0) (k.2 ∷ k.4)) ∷ minus (applied (constant k.0) (k.3 ∷ k.5)) ∷ [] = sym h.8 ∙ k.8 in
    let l : plus (applied (constant h.0) (h.2 ∷ h.4)) ≡ plus (applied (constant k.0) (k.2 ∷ k.4)) = cc in
    let o : minus (applied (constant h.0) (h.3 ∷ h.5)) ≡ minus (applied (constant k.0) (k.3 ∷ k.5)) = cc in
    h.9 ∙ same_differences scope h.0 k.0 h.1 k.1 (h.2 ∷ h.4) (k.2 ∷ k.4) (h.3 ∷ h.5) (k.3 ∷ k.5) h.7 k.7 (ap (λ x. x.atom) l) (ap (λ x. x.atom) o) ∙ sym k.9
same_alternatives scope rows distinct (AtOne Dec i) ps as' bs h k =
    let e : minus (eq (base (suc h.0)) (applied (constant h.1) (h.3 ∷ h.5)) (applied (constant h.1) (h.4 ∷ h.6))) ∷ [] ≡ minus (eq (base (suc k.0)) (applied (constant k.1) (k.3 ∷ k.5)) (applied (constant k.1) (k.4 ∷ k.6))) ∷ [] = sym h.9 ∙ k.9 in
    let l : minus (eq (base (suc h.0)) (applied (constant h.1) (h.3 ∷ h.5)) (applied (constant h.1) (h.4 ∷ h.6))) ≡ minus (eq (base (suc k.0)) (applied (constant k.1) (k.3 ∷ k.5)) (applied (constant k.1) (k.4 ∷ k.6))) = cc in
    let x : eq (base (suc h.0)) (applied (constant h.1) (h.3 ∷ h.5)) (applied (constant h.1) (h.4 ∷ h.6)) ≡ eq (base (suc k.0)) (applied (constant k.1) (k.3 ∷ k.5)) (applied (constant k.1) (k.4 ∷ k.6)) = ap (λ y. y.atom) l in
    let p : applied (constant h.1) (h.3 ∷ h.5) ≡ applied (constant k.1) (k.3 ∷ k.5) = cc in
    let q : applied (constant h.1) (h.4 ∷ h.6) ≡ applied (constant k.1) (k.4 ∷ k.6) = cc in
    h.10 ∙ same_differences scope h.1 k.1 h.2 k.2 (h.3 ∷ h.5) (k.3 ∷ k.5) (h.4 ∷ h.6) (k.4 ∷ k.6) h.8 k.8 p q ∙ sym k.10
same_alternatives scope rows distinct (WithPredicate Cho f) ps as' bs h k =
    let e : Some (predicate h.0) ≡ Some (predicate k.0) = sym (canonical_type-at scope [] (predicate h.0) f h.1) ∙ canonical_type-at scope [] (predicate k.0) f k.1 in
    let a : h.0 ≡ k.0 = cc in
    h.3 ∙ ap (λ x. (as_literal (nowhere x f) ∷ []) ∷ (as_literal (apply f (chosen x f)) ∷ []) ∷ []) a ∙ sym k.3
same_alternatives scope rows distinct (WithPredicate Des f) ps as' bs h k =
    let e : Some (predicate h.0) ≡ Some (predicate k.0) = sym (canonical_type-at scope [] (predicate h.0) f h.1) ∙ canonical_type-at scope [] (predicate k.0) f k.1 in
    let a : h.0 ≡ k.0 = cc in
    h.3 ∙ ap (λ x. (as_literal (nowhere x f) ∷ []) ∷ (opposite (as_literal (at_most_once x f)) ∷ []) ∷ (as_literal (apply f (described x f)) ∷ []) ∷ []) a ∙ sym k.3
same_alternatives scope rows distinct (AtOne kind i) ps as' bs h k =
    let e : h.0 ∷ [] ≡ k.0 ∷ [] = sym h.1 ∙ k.1 in
    let l : h.0 ≡ k.0 = cc in
    one_alone kind k.0 as' bs (subst (λ x. AloneBy kind x as') l h.2) k.2

same_at : (branch : List Literal) (is : List ℕ) (ls ks : List Literal) → AreAt branch is ls → AreAt branch is ks → ls ≡ ks
same_at branch [] [] [] h k = refl
same_at branch [] [] (k' ∷ ks) h k = absurd k
same_at branch [] (l ∷ ls) ks h k = absurd h
same_at branch (i ∷ is) [] ks h k = absurd h
same_at branch (i ∷ is) (l ∷ ls) [] h k = absurd k
same_at branch (i ∷ is) (l ∷ ls) (k' ∷ ks) h k =
    let e : Some l ≡ Some k' = sym h.0 ∙ k.0 in
    let p : l ≡ k' = cc in
    ap₂ (λ x xs. x ∷ xs) p (same_at branch is ls ks h.1 k.1)

-- two instances of a rule in a branch have the same alternatives
pub one_instance : (scope : Scope) (rows : List Row) → AreDistinct rows → (branch : List Literal) (rule : PlainRule) (as' bs : List (List Literal)) → IsInstance scope rows branch rule as' → IsInstance scope rows branch rule bs → as' ≡ bs
one_instance scope rows distinct branch rule as' bs h k =
    same_alternatives scope rows distinct rule k.principals as' bs
    (subst (λ ps. Fits scope rows rule ps as') (same_at branch (principals_of rule) h.principals k.principals h.at_places k.at_places) (fits scope rows rule h.principals as' h.fits))
    (fits scope rows rule k.principals bs k.fits)

module _ (scope : Scope) (rows : List Row) (branch : List Literal) where
  -- an instance of a rule that looks at its principal alone
  pub alone_is : (i : ℕ) (kind : OnePlace) (l : Literal) (as' bs : List (List Literal)) → Alone kind l bs → slice_get branch i ≡ Some l → as' ≡ bs → IsInstance scope rows branch (AtOne kind i) as'
  alone_is i kind l as' bs fits h e =
      subst (IsInstance scope rows branch (AtOne kind i)) (sym e) (record { principals = l ∷ []; at_places = (h, tt); fits = alone_rule i kind l bs fits })

  pub false_is : (i : ℕ) (as' : List (List Literal)) → slice_get branch i ≡ Some (plus (constant falsity)) → as' ≡ [] → IsInstance scope rows branch (AtOne False i) as'
  false_is i as' h e = alone_is i False (plus (constant falsity)) as' [] false_alone h e

  pub close_is : (i j : ℕ) (l k : Literal) (as' : List (List Literal)) → slice_get branch i ≡ Some l → slice_get branch j ≡ Some k → k ≡ opposite l → as' ≡ [] → IsInstance scope rows branch (AtTwo Close i j) as'
  close_is i j l k as' h g o e =
      subst (IsInstance scope rows branch (AtTwo Close i j)) (sym e) (record { principals = l ∷ opposite l ∷ []; at_places = (h, (g ∙ ap Some o, tt)); fits = close_rule i j l })

  pub imp_pos_is : (i : ℕ) (s t : Lambda) (a b : Literal) (as' : List (List Literal)) → slice_get branch i ≡ Some (plus (imp s t)) → a ≡ opposite (as_literal s) → b ≡ as_literal t → as' ≡ (a ∷ []) ∷ (b ∷ []) ∷ [] → IsInstance scope rows branch (AtOne ImpPos i) as'
  imp_pos_is i s t a b as' h p q e =
      alone_is i ImpPos (plus (imp s t)) as' (imp_pos s t) (imp_pos_alone s t) h (e ∙ ap₂ (λ x y. (x ∷ []) ∷ (y ∷ []) ∷ []) p q)

  pub imp_neg_is : (i : ℕ) (s t : Lambda) (a b : Literal) (as' : List (List Literal)) → slice_get branch i ≡ Some (minus (imp s t)) → a ≡ as_literal s → b ≡ opposite (as_literal t) → as' ≡ (a ∷ b ∷ []) ∷ [] → IsInstance scope rows branch (AtOne ImpNeg i) as'
  imp_neg_is i s t a b as' h p q e =
      alone_is i ImpNeg (minus (imp s t)) as' (imp_neg s t) (imp_neg_alone s t) h (e ∙ ap₂ (λ x y. (x ∷ y ∷ []) ∷ []) p q)

  pub refl_is : (i : ℕ) (a : SimpleType) (s t : Lambda) (as' : List (List Literal)) → slice_get branch i ≡ Some (minus (eq a s t)) → s ≡ t → as' ≡ [] → IsInstance scope rows branch (AtOne Refl i) as'
  refl_is i a s t as' h same e =
      alone_is i Refl (minus (eq a s s)) as' [] (refl_alone a s) (h ∙ ap (λ x. Some (minus (eq a s x))) (sym same)) e

  pub bool_pos_is : (i : ℕ) (a : SimpleType) (s t : Lambda) (as' : List (List Literal)) → slice_get branch i ≡ Some (plus (eq a s t)) → a ≡ formula → as' ≡ (as_literal s ∷ as_literal t ∷ []) ∷ (opposite (as_literal s) ∷ opposite (as_literal t) ∷ []) ∷ [] → IsInstance scope rows branch (AtOne BoolPos i) as'
  bool_pos_is i a s t as' h is e =
      alone_is i BoolPos (plus (eq formula s t)) as' (bool_pos s t) (bool_pos_alone s t) (h ∙ ap (λ x. Some (plus (eq x s t))) is) e

  pub bool_neg_is : (i : ℕ) (a : SimpleType) (s t : Lambda) (as' : List (List Literal)) → slice_get branch i ≡ Some (minus (eq a s t)) → a ≡ formula → as' ≡ (as_literal s ∷ opposite (as_literal t) ∷ []) ∷ (opposite (as_literal s) ∷ as_literal t ∷ []) ∷ [] → IsInstance scope rows branch (AtOne BoolNeg i) as'
  bool_neg_is i a s t as' h is e =
      alone_is i BoolNeg (minus (eq formula s t)) as' (bool_neg s t) (bool_neg_alone s t) (h ∙ ap (λ x. Some (minus (eq x s t))) is) e

  pub fun_pos_is : (i : ℕ) (c a b : SimpleType) (s t whole : Lambda) (l : Literal) (as' : List (List Literal)) → slice_get branch i ≡ Some (plus (eq c s t)) → c ≡ arrow a b → whole ≡ agreement a b s t → l ≡ as_literal whole → as' ≡ (l ∷ []) ∷ [] → IsInstance scope rows branch (AtOne FunPos i) as'
  fun_pos_is i c a b s t whole l as' h is p q e =
      alone_is i FunPos (plus (eq (arrow a b) s t)) as' (fun_pos a b s t) (fun_pos_alone a b s t) (h ∙ ap (λ x. Some (plus (eq x s t))) is)
      (e ∙ ap (λ x. (x ∷ []) ∷ []) (q ∙ ap as_literal p))

  pub fun_neg_is : (i : ℕ) (c a b : SimpleType) (s t whole : Lambda) (l k : Literal) (as' : List (List Literal)) → slice_get branch i ≡ Some (minus (eq c s t)) → c ≡ arrow a b → whole ≡ agreement a b s t → l ≡ as_literal whole → k ≡ opposite l → as' ≡ (k ∷ []) ∷ [] → IsInstance scope rows branch (AtOne FunNeg i) as'
  fun_neg_is i c a b s t whole l k as' h is p q o e =
      alone_is i FunNeg (minus (eq (arrow a b) s t)) as' (fun_neg a b s t) (fun_neg_alone a b s t) (h ∙ ap (λ x. Some (minus (eq x s t))) is)
      (e ∙ ap (λ x. (x ∷ []) ∷ []) (o ∙ ap opposite (q ∙ ap as_literal p)))

  pub all_pos_is : (i : ℕ) (a : SimpleType) (f u whole : Lambda) (l : Literal) (as' : List (List Literal)) → slice_get branch i ≡ Some (plus (every a f)) → IsCanonical scope [] a u → whole ≡ apply f u → l ≡ as_literal whole → as' ≡ (l ∷ []) ∷ [] → IsInstance scope rows branch (AllPos i u) as'
  all_pos_is i a f u whole l as' h c p q e =
      subst (IsInstance scope rows branch (AllPos i u)) (sym (e ∙ ap (λ x. (x ∷ []) ∷ []) (q ∙ ap as_literal p))) (record { principals = plus (every a f) ∷ []; at_places = (h, tt); fits = all_pos_rule i a f u c })

  pub all_neg_is : (i k : ℕ) (a : SimpleType) (f w whole : Lambda) (l m : Literal) (as' : List (List Literal)) → slice_get branch i ≡ Some (minus (every a f)) → slice_get rows k ≡ Some (record { type = a; predicate = f }) → w ≡ eta a (constant (witness k)) → whole ≡ apply f w → l ≡ as_literal whole → m ≡ opposite l → as' ≡ (m ∷ []) ∷ [] → IsInstance scope rows branch (AtOne AllNeg i) as'
  all_neg_is i k a f w whole l m as' h g is p q o e =
      subst (IsInstance scope rows branch (AtOne AllNeg i)) (sym (e ∙ ap (λ x. (x ∷ []) ∷ []) (o ∙ ap opposite (q ∙ ap as_literal (p ∙ ap (apply f) is))))) (record { principals = minus (every a f) ∷ []; at_places = (h, tt); fits = all_neg_rule i k a f g })

  pub cho_is : (a : SimpleType) (f : Lambda) (as' : List (List Literal)) → IsCanonical scope [] (predicate a) f → as' ≡ (as_literal (nowhere a f) ∷ []) ∷ (as_literal (apply f (chosen a f)) ∷ []) ∷ [] → IsInstance scope rows branch (WithPredicate Cho f) as'
  cho_is a f as' c e =
      subst (IsInstance scope rows branch (WithPredicate Cho f)) (sym e) (record { principals = []; at_places = tt; fits = cho_rule a f c })

  pub des_is : (a : SimpleType) (f : Lambda) (as' : List (List Literal)) → IsCanonical scope [] (predicate a) f → as' ≡ (as_literal (nowhere a f) ∷ []) ∷ (opposite (as_literal (at_most_once a f)) ∷ []) ∷ (as_literal (apply f (described a f)) ∷ []) ∷ [] → IsInstance scope rows branch (WithPredicate Des f) as'
  des_is a f as' c e =
      subst (IsInstance scope rows branch (WithPredicate Des f)) (sym e) (record { principals = []; at_places = tt; fits = des_rule a f c })

  pub con_is : (i j n : ℕ) (a b : SimpleType) → a ≡ base (suc n) → a ≡ b → (s t u v : Lambda) (first second : Literal × Literal) (as' : List (List Literal)) → slice_get branch i ≡ Some (plus (eq a s t)) → slice_get branch j ≡ Some (minus (eq b u v)) → (first.0 ≡ minus (eq a s u)) × (first.1 ≡ minus (eq a t u)) → (second.0 ≡ minus (eq a s v)) × (second.1 ≡ minus (eq a t v)) → as' ≡ (first.0 ∷ first.1 ∷ []) ∷ (second.0 ∷ second.1 ∷ []) ∷ [] → IsInstance scope rows branch (AtTwo Con i j) as'
  con_is i j n a b is same s t u v first second as' h k p q e =
      let all : as' ≡ confronted n s t u v =
      e
      ∙ ap₂ (λ x y. (x ∷ y ∷ []) ∷ (second.0 ∷ second.1 ∷ []) ∷ []) p.0 p.1
      ∙ ap₂ (λ x y. (minus (eq a s u) ∷ minus (eq a t u) ∷ []) ∷ (x ∷ y ∷ []) ∷ []) q.0 q.1
      ∙ ap (λ x. (minus (eq x s u) ∷ minus (eq x t u) ∷ []) ∷ (minus (eq x s v) ∷ minus (eq x t v) ∷ []) ∷ []) is in
      subst (IsInstance scope rows branch (AtTwo Con i j)) (sym all) (record {
        principals = plus (eq (base (suc n)) s t) ∷ minus (eq (base (suc n)) u v) ∷ [];
        at_places = (h ∙ ap (λ x. Some (plus (eq x s t))) is, (k ∙ ap (λ x. Some (minus (eq x u v))) (sym same ∙ is), tt));
        fits = con_rule i j n s t u v;
      })

  pub cut_is : (l a b : Literal) (as' : List (List Literal)) → IsLiteral scope l → a ≡ l → b ≡ opposite l → as' ≡ (a ∷ []) ∷ (b ∷ []) ∷ [] → IsInstance scope rows branch (Cut l) as'
  cut_is l a b as' h p q e =
      subst (IsInstance scope rows branch (Cut l)) (sym (e ∙ ap₂ (λ x y. (x ∷ []) ∷ (y ∷ []) ∷ []) p q)) (record { principals = []; at_places = tt; fits = cut_rule l h })
