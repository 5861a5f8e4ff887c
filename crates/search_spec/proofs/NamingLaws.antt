-- Clauses over literals that stand for others: the clauses of an instance are those of what its literals stand for.
use Rattle.std.specs.Prelude.{◌≡◌, Bool, true, false, not, List, [], ◌∷◌, ◌++◌, map, filter, refl, ◌||◌, if◌then◌else◌}
use Rattle.std.specs.List.{list_any, flat_map}
use Rattle.std.proofs.Common.{sym, ap, ◌∙◌}
use Rattle.stt_core.proofs.ListLaws.{map-append}
use Rattle.tableau_calculus.specs.Each.{Each}
use Rattle.search_spec.specs.Clauses.{choices, is_tautology, clause_of, instance_clauses, same_clause, with_clauses}
use Rattle.tableau_calculus.specs.Kinds.{Kind, has, added}

-- Good literals of one kind stand for literals of another: the negations stand for the negations, and two are the same where they stand
-- for the same.
pub record StandFor {K L : Type 0} (kind : Kind K) (other : Kind L) (Good : K → Type 0) (d : K → L) : Type 0 where
  pub opposite_is_good : (k : K) → Good k → Good (kind.opposite k)
  pub opposites : (k : K) → Good k → other.opposite (d k) ≡ d (kind.opposite k)
  pub sames : (k l : K) → Good k → Good l → other.same (d k) (d l) ≡ kind.same k l

pub each-joined : {X : Type 0} (Good : X → Type 0) (xs ys : List X) → Each Good xs → Each Good ys → Each Good (xs ++ ys)
each-joined Good [] ys g h = h
each-joined Good (x ∷ xs) ys g h = (g.0, each-joined Good xs ys g.1 h)

-- one of two
abbrev pub pick : {X : Type 0} → Bool → X → X → X
pick b x y = if b then x else y

pub pick_good : {X : Type 0} (Good : X → Type 0) (b : Bool) (x y : X) → Good x → Good y → Good (pick b x y)
pick_good Good true x y g h = g
pick_good Good false x y g h = h

mapped_pick : {X Y : Type 0} (f : X → Y) (b : Bool) (x y : X) → f (pick b x y) ≡ pick b (f x) (f y)
mapped_pick f true x y = refl
mapped_pick f false x y = refl

-- equal tests have equal disjunctions
pub either : {a b a' b' : Bool} → a ≡ a' → b ≡ b' → (a || b) ≡ (a' || b')
either {a = a} {b' = b'} e f = ap (λ y. a || y) f ∙ ap (λ x. x || b') e

chosen_same : {a b a' b' : Bool} → a ≡ a' → b ≡ b' → (if a then b else false) ≡ (if a' then b' else false)
chosen_same {a = a} {b' = b'} e f = ap (λ y. if a then y else false) f ∙ ap (λ x. if x then b' else false) e

pub has-mapped : {K L : Type 0} (kind : Kind K) (other : Kind L) (Good : K → Type 0) (d : K → L) → StandFor kind other Good d → (ks : List K) (k : K) → Each Good ks → Good k → has other (map d ks) (d k) ≡ has kind ks k
has-mapped kind other Good d s [] k gs g = refl
has-mapped kind other Good d s (l ∷ ks) k gs g = either (s.sames k l g gs.0) (has-mapped kind other Good d s ks k gs.1 g)

added_good : {K : Type 0} (kind : Kind K) (Good : K → Type 0) (ks ls : List K) → Each Good ks → Each Good ls → Each Good (added kind ks ls)
added_good kind Good ks [] g h = g
added_good kind Good ks (l ∷ ls) g h =
    added_good kind Good (pick (has kind ks l) ks (ks ++ l ∷ [])) ls (pick_good (Each Good) (has kind ks l) ks (ks ++ l ∷ []) g (each-joined Good ks (l ∷ []) g (h.0, tt))) h.1

pub added-mapped : {K L : Type 0} (kind : Kind K) (other : Kind L) (Good : K → Type 0) (d : K → L) → StandFor kind other Good d → (ks ls : List K) → Each Good ks → Each Good ls → added other (map d ks) (map d ls) ≡ map d (added kind ks ls)
added-mapped kind other Good d s ks [] g h = refl
added-mapped {K} {L} kind other Good d s ks (l ∷ ls) g h =
    ap (λ zs. added other zs (map d ls)) (one ∙ sym (mapped_pick (map d) (has kind ks l) ks (ks ++ l ∷ [])))
    ∙ added-mapped kind other Good d s (pick (has kind ks l) ks (ks ++ l ∷ [])) ls (pick_good (Each Good) (has kind ks l) ks (ks ++ l ∷ []) g (each-joined Good ks (l ∷ []) g (h.0, tt))) h.1
  where
    one : pick (has other (map d ks) (d l)) (map d ks) (map d ks ++ d l ∷ []) ≡ pick (has kind ks l) (map d ks) (map d (ks ++ l ∷ []))
    one = ap (λ b. pick b (map d ks) (map d ks ++ d l ∷ [])) (has-mapped kind other Good d s ks l g h.0) ∙ ap (λ zs. pick (has kind ks l) (map d ks) zs) (sym (map-append d ks (l ∷ [])))

opposites_good : {K L : Type 0} (kind : Kind K) (other : Kind L) (Good : K → Type 0) (d : K → L) → StandFor kind other Good d → (ks : List K) → Each Good ks → Each Good (map kind.opposite ks)
opposites_good kind other Good d s [] g = tt
opposites_good kind other Good d s (k ∷ ks) g = (s.opposite_is_good k g.0, opposites_good kind other Good d s ks g.1)

opposites-mapped : {K L : Type 0} (kind : Kind K) (other : Kind L) (Good : K → Type 0) (d : K → L) → StandFor kind other Good d → (ks : List K) → Each Good ks → map other.opposite (map d ks) ≡ map d (map kind.opposite ks)
opposites-mapped kind other Good d s [] g = refl
opposites-mapped kind other Good d s (k ∷ ks) g = ap (λ l. l ∷ map other.opposite (map d ks)) (s.opposites k g.0) ∙ ap (λ ls. d (kind.opposite k) ∷ ls) (opposites-mapped kind other Good d s ks g.1)

pub clause_of-mapped : {K L : Type 0} (kind : Kind K) (other : Kind L) (Good : K → Type 0) (d : K → L) → StandFor kind other Good d → (ps cs : List K) → Each Good ps → Each Good cs → clause_of other (map d ps) (map d cs) ≡ map d (clause_of kind ps cs)
clause_of-mapped kind other Good d s ps cs g h =
    ap (λ ls. added other [] ls) (ap (λ ls. ls ++ map d cs) (opposites-mapped kind other Good d s ps g) ∙ sym (map-append d (map kind.opposite ps) cs))
    ∙ added-mapped kind other Good d s [] (map kind.opposite ps ++ cs) tt (each-joined Good (map kind.opposite ps) cs (opposites_good kind other Good d s ps g) h)

clause_good : {K L : Type 0} (kind : Kind K) (other : Kind L) (Good : K → Type 0) (d : K → L) → StandFor kind other Good d → (ps cs : List K) → Each Good ps → Each Good cs → Each Good (clause_of kind ps cs)
clause_good kind other Good d s ps cs g h = added_good kind Good [] (map kind.opposite ps ++ cs) tt (each-joined Good (map kind.opposite ps) cs (opposites_good kind other Good d s ps g) h)

-- whether one of the first literals has its negation in the clause
tautology-mapped : {K L : Type 0} (kind : Kind K) (other : Kind L) (Good : K → Type 0) (d : K → L) → StandFor kind other Good d → (clause ks : List K) → Each Good clause → Each Good ks → list_any (λ l. has other (map d clause) (other.opposite l)) (map d ks) ≡ list_any (λ l. has kind clause (kind.opposite l)) ks
tautology-mapped kind other Good d s clause [] g h = refl
tautology-mapped kind other Good d s clause (k ∷ ks) g h =
    either (ap (λ l. has other (map d clause) l) (s.opposites k h.0) ∙ has-mapped kind other Good d s clause (kind.opposite k) g (s.opposite_is_good k h.0)) (tautology-mapped kind other Good d s clause ks g h.1)

prefixed-mapped : {K L : Type 0} (d : K → L) (k : K) (cs : List (List K)) → map (λ ls. d k ∷ ls) (map (map d) cs) ≡ map (map d) (map (λ ls. k ∷ ls) cs)
prefixed-mapped d k [] = refl
prefixed-mapped d k (c ∷ cs) = ap (λ zs. (d k ∷ map d c) ∷ zs) (prefixed-mapped d k cs)

-- the choices from one alternative and others, where those from the others are known
with_first-mapped : {K L : Type 0} (d : K → L) (a : List K) (cs : List (List K)) → flat_map (λ l. map (λ ls. l ∷ ls) (map (map d) cs)) (map d a) ≡ map (map d) (flat_map (λ l. map (λ ls. l ∷ ls) cs) a)
with_first-mapped d [] cs = refl
with_first-mapped d (k ∷ a) cs =
    ap (λ zs. zs ++ flat_map (λ l. map (λ ls. l ∷ ls) (map (map d) cs)) (map d a)) (prefixed-mapped d k cs)
    ∙ ap (λ zs. map (map d) (map (λ ls. k ∷ ls) cs) ++ zs) (with_first-mapped d a cs)
    ∙ sym (map-append (map d) (map (λ ls. k ∷ ls) cs) (flat_map (λ l. map (λ ls. l ∷ ls) cs) a))

pub choices-mapped : {K L : Type 0} (d : K → L) (as' : List (List K)) → choices (map (map d) as') ≡ map (map d) (choices as')
choices-mapped d [] = refl
choices-mapped d (a ∷ as') = ap (λ cs. flat_map (λ l. map (λ ls. l ∷ ls) cs) (map d a)) (choices-mapped d as') ∙ with_first-mapped d a (choices as')

prefixed_good : {K : Type 0} (Good : K → Type 0) (k : K) (cs : List (List K)) → Good k → Each (Each Good) cs → Each (Each Good) (map (λ ls. k ∷ ls) cs)
prefixed_good Good k [] g h = tt
prefixed_good Good k (c ∷ cs) g h = ((g, h.0), prefixed_good Good k cs g h.1)

with_first_good : {K : Type 0} (Good : K → Type 0) (a : List K) (cs : List (List K)) → Each Good a → Each (Each Good) cs → Each (Each Good) (flat_map (λ l. map (λ ls. l ∷ ls) cs) a)
with_first_good Good [] cs g h = tt
with_first_good Good (k ∷ a) cs g h =
    each-joined (Each Good) (map (λ ls. k ∷ ls) cs) (flat_map (λ l. map (λ ls. l ∷ ls) cs) a) (prefixed_good Good k cs g.0 h) (with_first_good Good a cs g.1 h)

choices_good : {K : Type 0} (Good : K → Type 0) (as' : List (List K)) → Each (Each Good) as' → Each (Each Good) (choices as')
choices_good Good [] h = (tt, tt)
choices_good Good (a ∷ as') h = with_first_good Good a (choices as') h.0 (choices_good Good as' h.1)

-- the clauses from some choices
clauses-mapped : {K L : Type 0} (kind : Kind K) (other : Kind L) (Good : K → Type 0) (d : K → L) → StandFor kind other Good d → (ps : List K) (cs : List (List K)) → Each Good ps → Each (Each Good) cs → filter (λ c. not (is_tautology other c)) (map (clause_of other (map d ps)) (map (map d) cs)) ≡ map (map d) (filter (λ c. not (is_tautology kind c)) (map (clause_of kind ps) cs))
clauses-mapped kind other Good d s ps [] g h = refl
clauses-mapped kind other Good d s ps (c ∷ cs) g h =
    ap (λ x. filter (λ c. not (is_tautology other c)) (x ∷ map (clause_of other (map d ps)) (map (map d) cs))) (clause_of-mapped kind other Good d s ps c g h.0)
    ∙ ap (λ b. pick (not b) (map d (clause_of kind ps c) ∷ filter (λ c. not (is_tautology other c)) (map (clause_of other (map d ps)) (map (map d) cs))) (filter (λ c. not (is_tautology other c)) (map (clause_of other (map d ps)) (map (map d) cs)))) (tautology-mapped kind other Good d s (clause_of kind ps c) (clause_of kind ps c) (clause_good kind other Good d s ps c g h.0) (clause_good kind other Good d s ps c g h.0))
    ∙ ap (λ zs. pick (not (is_tautology kind (clause_of kind ps c))) (map d (clause_of kind ps c) ∷ zs) zs) (clauses-mapped kind other Good d s ps cs g h.1)
    ∙ sym (mapped_pick (map (map d)) (not (is_tautology kind (clause_of kind ps c))) (clause_of kind ps c ∷ filter (λ c. not (is_tautology kind c)) (map (clause_of kind ps) cs)) (filter (λ c. not (is_tautology kind c)) (map (clause_of kind ps) cs)))

-- The clauses of an instance stand for the clauses of what it stands for.
pub instance_clauses-mapped : {K L : Type 0} (kind : Kind K) (other : Kind L) (Good : K → Type 0) (d : K → L) → StandFor kind other Good d → (ps : List K) (as' : List (List K)) → Each Good ps → Each (Each Good) as' → instance_clauses other (map d ps) (map (map d) as') ≡ map (map d) (instance_clauses kind ps as')
instance_clauses-mapped kind other Good d s ps as' g h =
    ap (λ cs. filter (λ c. not (is_tautology other c)) (map (clause_of other (map d ps)) cs)) (choices-mapped d as')
    ∙ clauses-mapped kind other Good d s ps (choices as') g (choices_good Good as' h)

same_clause-mapped : {K L : Type 0} (kind : Kind K) (other : Kind L) (Good : K → Type 0) (d : K → L) → StandFor kind other Good d → (c e : List K) → Each Good c → Each Good e → same_clause other (map d c) (map d e) ≡ same_clause kind c e
same_clause-mapped kind other Good d s [] [] g h = refl
same_clause-mapped kind other Good d s [] (k ∷ ks) g h = refl
same_clause-mapped kind other Good d s (l ∷ ls) [] g h = refl
same_clause-mapped kind other Good d s (l ∷ ls) (k ∷ ks) g h = chosen_same (s.sames l k g.0 h.0) (same_clause-mapped kind other Good d s ls ks g.1 h.1)

is_there-mapped : {K L : Type 0} (kind : Kind K) (other : Kind L) (Good : K → Type 0) (d : K → L) → StandFor kind other Good d → (c : List K) (cs : List (List K)) → Each Good c → Each (Each Good) cs → list_any (same_clause other (map d c)) (map (map d) cs) ≡ list_any (same_clause kind c) cs
is_there-mapped kind other Good d s c [] g h = refl
is_there-mapped kind other Good d s c (e ∷ cs) g h = either (same_clause-mapped kind other Good d s c e g h.0) (is_there-mapped kind other Good d s c cs g h.1)

-- Clauses with further ones that aren't there yet stand for the same of what they stand for.
pub with_clauses-mapped : {K L : Type 0} (kind : Kind K) (other : Kind L) (Good : K → Type 0) (d : K → L) → StandFor kind other Good d → (cs es : List (List K)) → Each (Each Good) cs → Each (Each Good) es → with_clauses other (map (map d) cs) (map (map d) es) ≡ map (map d) (with_clauses kind cs es)
with_clauses-mapped kind other Good d s cs [] g h = refl
with_clauses-mapped kind other Good d s cs (e ∷ es) g h =
    ap (λ zs. with_clauses other zs (map (map d) es)) (one ∙ sym (mapped_pick (map (map d)) (list_any (same_clause kind e) cs) cs (cs ++ e ∷ [])))
    ∙ with_clauses-mapped kind other Good d s (pick (list_any (same_clause kind e) cs) cs (cs ++ e ∷ [])) es (pick_good (Each (Each Good)) (list_any (same_clause kind e) cs) cs (cs ++ e ∷ []) g (each-joined (Each Good) cs (e ∷ []) g (h.0, tt))) h.1
  where
    one : pick (list_any (same_clause other (map d e)) (map (map d) cs)) (map (map d) cs) (map (map d) cs ++ map d e ∷ []) ≡ pick (list_any (same_clause kind e) cs) (map (map d) cs) (map (map d) (cs ++ e ∷ []))
    one = ap (λ b. pick b (map (map d) cs) (map (map d) cs ++ map d e ∷ [])) (is_there-mapped kind other Good d s e cs h.0 g) ∙ ap (λ zs. pick (list_any (same_clause kind e) cs) (map (map d) cs) zs) (sym (map-append (map d) cs (e ∷ [])))

filtered_good : {X : Type 0} (Good : X → Type 0) (test : X → Bool) (xs : List X) → Each Good xs → Each Good (filter test xs)
filtered_good Good test [] h = tt
filtered_good {X} Good test (x ∷ xs) h = pick_good (Each Good) (test x) (x ∷ filter test xs) (filter test xs) (h.0, filtered_good Good test xs h.1) (filtered_good Good test xs h.1)

each_clause : {K L : Type 0} (kind : Kind K) (other : Kind L) (Good : K → Type 0) (d : K → L) → StandFor kind other Good d → (ps : List K) (cs : List (List K)) → Each Good ps → Each (Each Good) cs → Each (Each Good) (map (clause_of kind ps) cs)
each_clause kind other Good d s ps [] g h = tt
each_clause kind other Good d s ps (c ∷ cs) g h = (clause_good kind other Good d s ps c g h.0, each_clause kind other Good d s ps cs g h.1)

-- the clauses of an instance are of good literals
pub instance_clauses_good : {K L : Type 0} (kind : Kind K) (other : Kind L) (Good : K → Type 0) (d : K → L) → StandFor kind other Good d → (ps : List K) (as' : List (List K)) → Each Good ps → Each (Each Good) as' → Each (Each Good) (instance_clauses kind ps as')
instance_clauses_good kind other Good d s ps as' g h =
    filtered_good (Each Good) (λ c. not (is_tautology kind c)) (map (clause_of kind ps) (choices as')) (each_clause kind other Good d s ps (choices as') g (choices_good Good as' h))

pub with_clauses_good : {K : Type 0} (kind : Kind K) (Good : K → Type 0) (cs es : List (List K)) → Each (Each Good) cs → Each (Each Good) es → Each (Each Good) (with_clauses kind cs es)
with_clauses_good kind Good cs [] g h = g
with_clauses_good kind Good cs (e ∷ es) g h =
    with_clauses_good kind Good (pick (list_any (same_clause kind e) cs) cs (cs ++ e ∷ [])) es
    (pick_good (Each (Each Good)) (list_any (same_clause kind e) cs) cs (cs ++ e ∷ []) g (each-joined (Each Good) cs (e ∷ []) g (h.0, tt))) h.1
