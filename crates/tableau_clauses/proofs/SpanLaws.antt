-- Lists of lists that stand in one piece.
use Rattle.std.proofs.Common.{◌≡◌, ◌≤◌, ◌+◌, ℕ, suc, List, [], ◌∷◌, ◌++◌, Some, length, take, drop, get_or, refl, sym, ap, ap₂, ◌∙◌, arith, length-drop}
use Rattle.std.specs.List.{slice_get}
use Rattle.std.proofs.lemmas.List.{take-append-le, drop-append-le, take_all, map-append, get_or-drop, length-take-le}
use Rattle.std.proofs.Math.Seq.{drop-append_seam, take-suc}
use Rattle.std.proofs.lemmas.List.Elements.{All-head, All-tail}
use Rattle.std.proofs.lemmas.Option.{slice_get-get_or, slice_get_within, same_Some}
use Rattle.sat_base.specs.declared.literal.SatLit.{SatLit}
use Rattle.literal_map.specs.declared.instance.Instance.{Instance}
use Rattle.tableau_clauses.specs.declared.instances.PackedInstance.{PackedInstance}
use Rattle.tableau_clauses.specs.declared.lists.Span.{Span}
use Rattle.tableau_clauses.specs.Internal.Spans.{piece_of, spanned, all_spanned, AreSpans, with_alternatives, unpacked_instance, all_unpacked, HaveLists}

-- a piece is as it was where items are appended
piece-append : {X : Type 0} → (xs more : List X) (start len : ℕ) → start + len ≤ length xs → piece_of (xs ++ more) start len ≡ piece_of xs start len
piece-append xs more start len within =
    ap (take len) (drop-append-le start xs more (omega (arith, within)))
    ∙ take-append-le len (drop start xs) more (omega (arith, within, length-drop start xs))

-- what was appended last
piece-last : {X : Type 0} → (xs ys : List X) (start len : ℕ) → start ≡ length xs → len ≡ length ys → piece_of (xs ++ ys) start len ≡ ys
piece-last xs ys start len is_start is_len =
    ap₂ (λ (n s : ℕ). take n (drop s (xs ++ ys))) is_len is_start
    ∙ ap (take (length ys)) (drop-append_seam xs ys)
    ∙ take_all (length ys) ys (omega arith)

abbrev IsInside : List SatLit → Span → Type 0
IsInside literals span = span.start + span.len ≤ length literals

pub all_spanned-append : (literals more : List SatLit) (spans : List Span) → AreSpans literals spans → all_spanned (literals ++ more) spans ≡ all_spanned literals spans
all_spanned-append literals more [] within = refl
all_spanned-append literals more (span ∷ spans) within =
    ap₂ (λ (l : List SatLit) (all : List (List SatLit)). l ∷ all) (piece-append literals more span.start span.len (All-head (IsInside literals) span spans within))
    (all_spanned-append literals more spans (All-tail (IsInside literals) span spans within))

pub all_spanned-push : (literals list : List SatLit) (spans : List Span) (span : Span) → AreSpans literals spans → span.start ≡ length literals → span.len ≡ length list
    → all_spanned (literals ++ list) (spans ++ span ∷ []) ≡ all_spanned literals spans ++ list ∷ []
all_spanned-push literals list spans span within start len =
    map-append (spanned (literals ++ list)) spans (span ∷ [])
    ∙ ap₂ (λ (all : List (List SatLit)) (l : List SatLit). all ++ l ∷ []) (all_spanned-append literals list spans within) (piece-last literals list span.start span.len start len)

abbrev HasLists : List (List SatLit) → PackedInstance → Type 0
HasLists lists i = (i.start + i.len ≤ length lists) × (suc 0 ≤ i.len)

pub all_unpacked-append : (lists more : List (List SatLit)) (instances : List PackedInstance) → HaveLists lists instances → all_unpacked (lists ++ more) instances ≡ all_unpacked lists instances
all_unpacked-append lists more [] have = refl
all_unpacked-append lists more (i ∷ instances) have =
    ap₂ (λ (j : Instance) (all : List Instance). j ∷ all) (ap (with_alternatives i) (piece-append lists more i.start i.len (All-head (HasLists lists) i instances have).0))
    (all_unpacked-append lists more instances (All-tail (HasLists lists) i instances have))

pub all_unpacked-push : (lists own : List (List SatLit)) (instances : List PackedInstance) (i : PackedInstance) → HaveLists lists instances → i.start ≡ length lists → i.len ≡ length own
    → all_unpacked (lists ++ own) (instances ++ i ∷ []) ≡ all_unpacked lists instances ++ with_alternatives i own ∷ []
all_unpacked-push lists own instances i have start len =
    map-append (unpacked_instance (lists ++ own)) instances (i ∷ [])
    ∙ ap₂ (λ (all : List Instance) (j : Instance). all ++ j ∷ []) (all_unpacked-append lists own instances have) (ap (with_alternatives i) (piece-last lists own i.start i.len start len))

-- what a list has at a place
got : {X : Type 0} → (xs : List X) (k : ℕ) (x d : X) → slice_get xs k ≡ Some x → get_or xs k d ≡ x
got xs k x d at = same_Some _ _ (sym (slice_get-get_or xs k d (slice_get_within xs k x at)) ∙ at)

piece-next : {X : Type 0} → (xs : List X) (start i : ℕ) (x : X) → slice_get xs (start + i) ≡ Some x → piece_of xs start (suc i) ≡ piece_of xs start i ++ x ∷ []
piece-next xs start i x at =
    take-suc (drop start xs) i x (omega (arith, length-drop start xs, slice_get_within xs (start + i) x at))
    ∙ ap (λ y. take i (drop start xs) ++ y ∷ []) (get_or-drop start xs i x ∙ got xs (start + i) x x at)

-- what is behind the first one of a piece, where the next one is added
pub rest_next : {X : Type 0} → (xs : List X) (start i : ℕ) (x : X) → 1 ≤ i → slice_get xs (start + i) ≡ Some x → drop 1 (piece_of xs start (suc i)) ≡ drop 1 (piece_of xs start i) ++ x ∷ []
rest_next xs start i x some at =
    ap (drop 1) (piece-next xs start i x at) ∙ drop-append-le 1 (piece_of xs start i) (x ∷ []) (omega (arith, some, long))
  where
    long : length (piece_of xs start i) ≡ i
    long = length-take-le i (drop start xs) (omega (arith, length-drop start xs, slice_get_within xs (start + i) x at))
