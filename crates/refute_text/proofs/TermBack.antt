-- The texts of terms are read back.
use Rattle.std.proofs.Common.{◌≡◌, ℕ, zero, suc, ◌^◌, ◌<◌, ◌≤◌, true, List, [], ◌∷◌, ◌++◌, Some, length, codes, decimal, refl, sym, ap, subst, ◌∙◌, append_assoc, arith}
use Rattle.refute_print.specs.Trees.{TextTypeTree, ConstantTree, name, witness, falsity, negation, implication, all, equality, choice, description, TermTree, bound, constant, lam, app, applied_tree}
use Rattle.refute_print.specs.Text.{text_of_type, term_text}
use Rattle.refute_print.specs.Limits.{IsPrintableType, type_tree_depth, IsTerm, IsSpine, term_depth, spine_depth}
use Rattle.refute_text.specs.Internal.Reader.{behind_text, by_front, number_at, name_at, type_at}
use Rattle.refute_text.specs.Internal.TermReader.{TermAt, counted_at, named_head_at, bracketed_type_at, bracketed_at, dollar_head_at, head_text_at, arguments_at, application_at, lambda_at, no_term, term_text_at}
use Rattle.refute_text.proofs.Inversions.{found}
use Rattle.refute_text.proofs.Answers.{bind_gives, front_skips}
use Rattle.refute_text.proofs.NameBack.{stops, behind-name, number_at-decimal, name_at-text}
use Rattle.refute_text.proofs.TypeBack.{type_at-text}
use Rattle.refute_text.proofs.TreeTexts.{IsHead, arguments_text, AreTerms, term_text-applied}
use Rattle.refute_text.proofs.RepeatsBack.{AreReadBack, length-marked, repeated_at-texts}

counted_back : (make : ℕ → TermTree) (k : ℕ) (rest : List ℕ) → k < 2 ^ 32 → stops rest ≡ true → counted_at make (decimal k ++ rest) ≡ found (make k) rest
counted_back make k rest small stop =
    bind_gives (number_at (2 ^ 32) (decimal k ++ rest)) (λ n. found (make n.0) n.1) (k, rest) (make k, rest) (number_at-decimal (2 ^ 32) k rest small (omega arith) stop) refl

bracketed_type_back : (depth : ℕ) (a : TextTypeTree) (rest : List ℕ) → IsPrintableType a → suc (type_tree_depth a) ≤ depth → bracketed_type_at depth ((text_of_type a ++ codes "]") ++ rest) ≡ found a rest
bracketed_type_back zero a rest is within = absurd (omega (arith, within))
bracketed_type_back (suc depth) a rest is within =
    ap (bracketed_type_at (suc depth)) (append_assoc (text_of_type a) (codes "]") rest)
    ∙ bind_gives (type_at depth (text_of_type a ++ (codes "]" ++ rest))) _ (a, codes "]" ++ rest) (a, rest) (type_at-text depth a (codes "]" ++ rest) is (omega (arith, within)) refl) refl

bracketed_back : (make : TextTypeTree → ConstantTree) (depth : ℕ) (a : TextTypeTree) (rest : List ℕ) → IsPrintableType a → suc (type_tree_depth a) ≤ depth → bracketed_at make depth ((text_of_type a ++ codes "]") ++ rest) ≡ found (constant (make a)) rest
bracketed_back make depth a rest is within =
    bind_gives (bracketed_type_at depth ((text_of_type a ++ codes "]") ++ rest)) (λ b. found (constant (make b.0)) b.1) (a, rest) (constant (make a), rest) (bracketed_type_back depth a rest is within) refl

named_head_back : (depth : ℕ) (w rest : List ℕ) → IsTerm (constant (name w)) → stops rest ≡ true → head_text_at depth (term_text (constant (name w)) ++ rest) ≡ found (constant (name w)) rest
unfolding head_text_at
named_head_back depth w rest is stop =
    let bytes = term_text (constant (name w)) ++ rest in
    front_skips (behind_text (codes "$") bytes) (dollar_head_at depth) _ (constant (name w), rest) (behind-name 36 [] w rest refl refl is)
    (front_skips (behind_text (codes "#") bytes) (counted_at bound) (named_head_at bytes) (constant (name w), rest) (behind-name 35 [] w rest refl refl is)
    (bind_gives (name_at bytes) (λ v. found (constant (name v.0)) v.1) (w, rest) (constant (name w), rest) (name_at-text w rest is stop) refl))

head_at-text : (depth : ℕ) (h : TermTree) (rest : List ℕ) → IsHead h → IsTerm h → term_depth h ≤ depth → stops rest ≡ true → head_text_at depth (term_text h ++ rest) ≡ found h rest
unfolding head_text_at dollar_head_at
head_at-text depth (bound k) rest head is within stop = counted_back bound k rest is stop
head_at-text depth (constant (name w)) rest head is within stop = named_head_back depth w rest is stop
head_at-text depth (constant (witness k)) rest head is within stop = counted_back (λ i. constant (witness i)) k rest is stop
head_at-text depth (constant falsity) rest head is within stop = refl
head_at-text depth (constant negation) rest head is within stop = refl
head_at-text depth (constant implication) rest head is within stop = refl
head_at-text depth (constant (all a)) rest head is within stop = bracketed_back all depth a rest is within
head_at-text depth (constant (equality a)) rest head is within stop = bracketed_back equality depth a rest is within
head_at-text depth (constant (choice a)) rest head is within stop = bracketed_back choice depth a rest is within
head_at-text depth (constant (description a)) rest head is within stop = bracketed_back description depth a rest is within
head_at-text depth (lam a s) rest head is within stop = absurd head
head_at-text depth (app s u) rest head is within stop = absurd head

-- a term that is given by its head and arguments
record Parts (depth : ℕ) (t : TermTree) : Type 0 where
  head : TermTree
  arguments : List TermTree
  is_head : IsHead head
  is_term : IsTerm head
  within : term_depth head ≤ depth
  are_terms : AreTerms depth arguments
  whole : t ≡ applied_tree head arguments

applied-push : (h u : TermTree) (us : List TermTree) → app (applied_tree h us) u ≡ applied_tree h (us ++ u ∷ [])
applied-push h u [] = refl
applied-push h u (v ∷ us) = applied-push (app h v) u us

AreTerms-push : (depth : ℕ) (us : List TermTree) (u : TermTree) → AreTerms depth us → IsTerm u → term_depth u ≤ depth → AreTerms depth (us ++ u ∷ [])
AreTerms-push depth [] u h is within = (is, (within, tt))
AreTerms-push depth (v ∷ us) u h is within = (h.0, (h.1.0, AreTerms-push depth us u h.1.1 is within))

spine_parts : (depth : ℕ) (t : TermTree) → IsSpine t → spine_depth t ≤ depth → Parts depth t
spine_parts depth (bound k) is within = record { head = bound k; arguments = []; is_head = tt; is_term = is; within = within; are_terms = tt; whole = refl }
spine_parts depth (constant c) is within = record { head = constant c; arguments = []; is_head = tt; is_term = is; within = within; are_terms = tt; whole = refl }
spine_parts depth (lam a s) is within = absurd is
spine_parts depth (app s u) is within =
    let p = spine_parts depth s is.0 (omega (arith, within)) in
    record {
      head = p.head;
      arguments = p.arguments ++ u ∷ [];
      is_head = p.is_head;
      is_term = p.is_term;
      within = p.within;
      are_terms = AreTerms-push depth p.arguments u p.are_terms is.1 (omega (arith, within));
      whole = ap (λ x. app x u) p.whole ∙ applied-push p.head u p.arguments;
    }

-- a reader that reads the texts of terms in which at most so many things are open
abbrev ReadsTerms : ℕ → (List ℕ → TermAt) → Type 0
ReadsTerms depth term = (t : TermTree) (rest : List ℕ) → IsTerm t → term_depth t ≤ depth → stops rest ≡ true → term (term_text t ++ rest) ≡ found t rest

arguments_back : (depth : ℕ) (term : List ℕ → TermAt) (us : List TermTree) → ReadsTerms depth term → AreTerms depth us → AreReadBack term term_text us
arguments_back depth term [] reads h = tt
arguments_back depth term (u ∷ us) reads h = (λ rest stop. reads u rest h.0 h.1.0 stop, arguments_back depth term us reads h.1.1)

applied_back : (depth : ℕ) (term : List ℕ → TermAt) (h u : TermTree) (us : List TermTree) (rest : List ℕ) → ReadsTerms depth term → IsHead h → IsTerm h → term_depth h ≤ depth → AreTerms depth (u ∷ us) → application_at depth term (term_text h ++ (arguments_text (u ∷ us) ++ (codes ")" ++ rest))) ≡ found (applied_tree h (u ∷ us)) rest
applied_back depth term h u us rest reads head is within terms =
    let t = applied_tree h (u ∷ us) in
    let end = codes ")" ++ rest in
    let args = arguments_text (u ∷ us) ++ end in
    bind_gives (head_text_at depth (term_text h ++ args)) _ (h, args) (t, rest) (head_at-text depth h args head is within refl)
    (bind_gives (arguments_at term (length args) args) _ (u ∷ us, end) (t, rest)
    (repeated_at-texts 32 [] term term_text (length args) (u ∷ us) end refl (arguments_back depth term (u ∷ us) reads terms) (length-marked 32 [] term_text (u ∷ us) end) refl refl) refl)

-- a term where one thing more may be open
abbrev term_from : ℕ → (List ℕ → TermAt) → List ℕ → TermAt
term_from depth term bytes =
    by_front (behind_text (codes "^") bytes) (lambda_at depth term) (by_front (behind_text (codes "(") bytes) (application_at depth term) (head_text_at (suc depth) bytes))

grouped_back : (depth : ℕ) (term : List ℕ → TermAt) (h u : TermTree) (us : List TermTree) (rest : List ℕ) → ReadsTerms depth term → IsHead h → IsTerm h → term_depth h ≤ depth → AreTerms depth (u ∷ us) → term_from depth term (term_text (applied_tree h (u ∷ us)) ++ rest) ≡ found (applied_tree h (u ∷ us)) rest
grouped_back depth term h u us rest reads head is within terms =
    ap (λ x. term_from depth term (x ++ rest)) (term_text-applied h u us head)
    ∙ ap (application_at depth term) (regroup (term_text h) (arguments_text (u ∷ us)) rest) ∙ applied_back depth term h u us rest reads head is within terms
  where
    regroup : (h us r : List ℕ) → (h ++ (us ++ codes ")")) ++ r ≡ h ++ (us ++ (codes ")" ++ r))
    regroup h us r = simp append_assoc

parts_back : (depth : ℕ) (term : List ℕ → TermAt) (t : TermTree) (rest : List ℕ) → ReadsTerms depth term → (p : Parts depth t) → (IsHead t → ⊥) → term_from depth term (term_text t ++ rest) ≡ found t rest
parts_back depth term t rest reads p no_head = go p.arguments p.are_terms p.whole
  where
    go : (us : List TermTree) → AreTerms depth us → t ≡ applied_tree p.head us → term_from depth term (term_text t ++ rest) ≡ found t rest
    go [] terms whole = absurd (no_head (subst IsHead (sym whole) p.is_head))
    go (u ∷ us) terms whole =
        subst (λ x. term_from depth term (term_text x ++ rest) ≡ found x rest) (sym whole) (grouped_back depth term p.head u us rest reads p.is_head p.is_term p.within terms)

lambda_back : (depth : ℕ) (term : List ℕ → TermAt) (a : TextTypeTree) (s : TermTree) (rest : List ℕ) → ReadsTerms depth term → IsPrintableType a → type_tree_depth a ≤ depth → IsTerm s → term_depth s ≤ depth → stops rest ≡ true → lambda_at depth term ((text_of_type a ++ (codes "." ++ term_text s)) ++ rest) ≡ found (lam a s) rest
lambda_back depth term a s rest reads is_type type_within is_term within stop =
    let body = codes "." ++ (term_text s ++ rest) in
    ap (lambda_at depth term) (regroup (text_of_type a) (term_text s) rest)
    ∙ bind_gives (type_at depth (text_of_type a ++ body)) _ (a, body) (lam a s, rest) (type_at-text depth a body is_type type_within refl)
    (bind_gives (term (term_text s ++ rest)) (λ t. found (lam a t.0) t.1) (s, rest) (lam a s, rest) (reads s rest is_term within stop) refl)
  where
    regroup : (a s r : List ℕ) → (a ++ (codes "." ++ s)) ++ r ≡ a ++ (codes "." ++ (s ++ r))
    regroup a s r = simp append_assoc

leaf_back : (f g : List ℕ → TermAt) (other : TermAt) (h : TermTree) (rest : List ℕ) → IsHead h → IsTerm h → other ≡ found h rest → by_front (behind_text (codes "^") (term_text h ++ rest)) f (by_front (behind_text (codes "(") (term_text h ++ rest)) g other) ≡ found h rest
leaf_back f g other (bound k) rest head is e = e
leaf_back f g other (constant (name w)) rest head is e =
    let bytes = term_text (constant (name w)) ++ rest in
    front_skips (behind_text (codes "^") bytes) f _ (constant (name w), rest) (behind-name 94 [] w rest refl refl is)
    (front_skips (behind_text (codes "(") bytes) g other (constant (name w), rest) (behind-name 40 [] w rest refl refl is) e)
leaf_back f g other (constant (witness k)) rest head is e = e
leaf_back f g other (constant falsity) rest head is e = e
leaf_back f g other (constant negation) rest head is e = e
leaf_back f g other (constant implication) rest head is e = e
leaf_back f g other (constant (all a)) rest head is e = e
leaf_back f g other (constant (equality a)) rest head is e = e
leaf_back f g other (constant (choice a)) rest head is e = e
leaf_back f g other (constant (description a)) rest head is e = e
leaf_back f g other (lam a s) rest head is e = absurd head
leaf_back f g other (app s u) rest head is e = absurd head

pub term_at-text : (depth : ℕ) (t : TermTree) (rest : List ℕ) → IsTerm t → term_depth t ≤ depth → stops rest ≡ true → term_text_at depth (term_text t ++ rest) ≡ Some (t, rest)
unfolding term_text_at
term_at-text zero (bound k) rest is within stop = leaf_back no_term no_term _ (bound k) rest tt is (head_at-text zero (bound k) rest tt is within stop)
term_at-text zero (constant c) rest is within stop = leaf_back no_term no_term _ (constant c) rest tt is (head_at-text zero (constant c) rest tt is within stop)
term_at-text zero (lam a s) rest is within stop = absurd (omega (arith, within))
term_at-text zero (app s u) rest is within stop = absurd (omega (arith, within))
term_at-text (suc depth) (bound k) rest is within stop =
    leaf_back (lambda_at depth (term_text_at depth)) (application_at depth (term_text_at depth)) _ (bound k) rest tt is (head_at-text (suc depth) (bound k) rest tt is within stop)
term_at-text (suc depth) (constant c) rest is within stop =
    leaf_back (lambda_at depth (term_text_at depth)) (application_at depth (term_text_at depth)) _ (constant c) rest tt is (head_at-text (suc depth) (constant c) rest tt is within stop)
term_at-text (suc depth) (lam a s) rest is within stop =
    lambda_back depth (term_text_at depth) a s rest (λ t r i w k. term_at-text depth t r i w k) is.0 (omega (arith, within)) is.1 (omega (arith, within)) stop
term_at-text (suc depth) (app s u) rest is within stop =
    parts_back depth (term_text_at depth) (app s u) rest (λ t r i w k. term_at-text depth t r i w k) (spine_parts depth (app s u) is (omega (arith, within))) (λ h. h)
