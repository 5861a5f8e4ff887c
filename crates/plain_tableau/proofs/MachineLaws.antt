-- What the steps of the code make of a walk under way.
use Rattle.std.specs.Prelude.{if◌then◌else◌}
use Rattle.std.proofs.Common.{◌≡◌, ◌<◌, ◌≤◌, ◌+◌, ◌||◌, ◌++◌, ℕ, zero, suc, Bool, true, false, cond, not, List, [], ◌∷◌, length, take, drop, get_or, Option, Some, None, option_map, unwrap_or, slice_get, refl, sym, ap, ap₂, ◌∙◌, subst, append_assoc, length-append, arith}
use Rattle.std.specs.List.{position_or_len}
use Rattle.std.proofs.lemmas.List.{append-nil, take-append-drop, length-map}
use Rattle.std.proofs.lemmas.Bool.{false≢true, or_left}
use Rattle.std.proofs.lemmas.Option.{slice_get-map, slice_get-get_or, slice_get_past}
use Rattle.std.proofs.Math.Seq.{take-append_seam}
use Rattle.stt_core.specs.Lambda.{Lambda}
use Rattle.tableau_calculus.specs.declared.refutation.Child.TheVariants.{Closed, Line as Numbered}
use Rattle.tableau_calculus.specs.declared.refutation.Line.{Line}
use Rattle.sat_base.specs.declared.literal.SatLit.{SatLit}
use Rattle.sat_base.specs.Literal.{negated, holds}
use Rattle.sat_base.proofs.LiteralLaws.{holds-append}
use Rattle.tableau_calculus.specs.Kinds.{added}
use Rattle.search_spec.specs.Numbered.{numbers}
use Rattle.literal_map.specs.declared.instance.Instance.{Instance as BankInstance}
use Rattle.tableau_clauses.specs.Table.{Table, the_instances}
use Rattle.tableau_rebuild.specs.Tables.{the_instance, no_instance}
use Rattle.rebuild_spec.proofs.LiteralLaws.{contains_held, held_in}
use Rattle.plain_tableau.specs.Trees.{TreeInstance, PlainTree, closed, node, none, more, nodes_in_all}
use Rattle.plain_tableau.specs.Expansion.{is_closed_branch, is_due, next_due, Expanded, found, open_at, over, Expands}
use Rattle.plain_tableau.specs.Lines.{tree_children, node_line, lines_for_trees}
use Rattle.plain_tableau.specs.Tables.{expanded, used_at, the_used}
use Rattle.plain_tableau.specs.declared.walk.Frame.{Frame}
use Rattle.plain_tableau.specs.Internal.Due.{without_rule, is_due_at, clashes}
use Rattle.plain_tableau.specs.Internal.Walking.{count, Below, with_tree, left_of, made_in, written, GoesEach, Goes, AreFrames, IsAhead, IsBack, IsWalkDone, IsFull}
use Rattle.plain_tableau.proofs.ListLaws.{one_passes}
use Rattle.plain_tableau.proofs.DueLaws.{any_of, closed_added}
use Rattle.plain_tableau.proofs.LineLaws.{count_all}
use Rattle.plain_tableau.proofs.WalkingLaws.{size_last, children_last, children_count, lines_last, new_node, close_child, open_child, make_node, ends_open, ends_over, finish_whole, finish_below}

-- lists
drop_at : {A : Type 0} (n : ℕ) (xs : List A) (x : A) → slice_get xs n ≡ Some x → drop n xs ≡ x ∷ drop (suc n) xs
drop_at zero [] x h = cc
drop_at zero (y ∷ xs) x h = let same : y ≡ x = cc in ap (λ z. z ∷ xs) same
drop_at (suc n) [] x h = cc
drop_at (suc n) (y ∷ xs) x h = drop_at n xs x h

drop_past : {A : Type 0} (n : ℕ) (xs : List A) → length xs ≤ n → drop n xs ≡ []
drop_past zero [] h = refl
drop_past zero (y ∷ xs) h = absurd (omega (arith, h))
drop_past (suc n) [] h = refl
drop_past (suc n) (y ∷ xs) h = drop_past n xs (omega (arith, h))

-- a branch with further literals begins with it
added_begins : (b ls : List SatLit) → take (length b) (added numbers b ls) ≡ b
added_begins b ls = let more = behind b ls in ap (take (length b)) more.1 ∙ take-append_seam b more.0
  where
    behind : (b ls : List SatLit) → (more : List SatLit) × (added numbers b ls ≡ b ++ more)
    behind b [] = ([], sym (append-nil b))
    behind b (k ∷ ls) = go (holds b k) (λ c. behind c ls)
      where
        go : (t : Bool) → ((c : List SatLit) → (more : List SatLit) × (added numbers c ls ≡ c ++ more)) → (more : List SatLit) × (added numbers (if t then b else b ++ k ∷ []) ls ≡ b ++ more)
        go true rest = rest b
        go false rest = let r = rest (b ++ k ∷ []) in (k ∷ r.0, r.1 ∙ append_assoc b (k ∷ []) r.0)

-- a prefix of an open branch is open
front_open : (n : ℕ) (b c : List SatLit) → take n b ≡ c → is_closed_branch numbers b ≡ false → is_closed_branch numbers c ≡ false
front_open n b c e h = go (is_closed_branch numbers c) refl
  where
    go : (x : Bool) → is_closed_branch numbers c ≡ x → x ≡ false
    go false f = refl
    go true f =
        let found = one_passes (λ l. holds c (negated l)) c f in
        let all : b ≡ c ++ drop n b = sym (take-append-drop n b) ∙ ap (λ xs. xs ++ drop n b) e in
        let wide = λ (m : SatLit) (held : holds c m ≡ true). ap (λ xs. holds xs m) all ∙ holds-append c (drop n b) m ∙ or_left (holds c m) (holds (drop n b) m) held in
        absurd (false≢true (sym h ∙ any_of (λ l. holds b (negated l)) b found.0 (contains_held b found.0 (wide found.0 (held_in c found.0 found.1))) (wide (negated found.0) found.2)))

-- the instances that are due, with their rules and without
module _ (terms : List Lambda) (atoms : List ℕ) (t : Table) (b : List SatLit) where
  due_same : (o : Option BankInstance) → is_due numbers b (expanded (unwrap_or (option_map (the_instance terms atoms) o) no_instance)) ≡ is_due numbers b (without_rule o)
  due_same (Some i) = refl
  due_same None = refl

  place_same : (used : List ℕ) → position_or_len (is_due numbers b) (the_used terms atoms t used) ≡ position_or_len (is_due_at t b) used
  place_same [] = refl
  place_same (k ∷ used) = ap₂ (λ x n. cond (not x) (1 + n) 0) (due_same (slice_get (the_instances t) k)) (place_same used)

  pub used_there : (used : List ℕ) (place : ℕ) → place < length used → slice_get (the_used terms atoms t used) place ≡ Some (used_at terms atoms t (get_or used place 0))
  used_there used place h = slice_get-map (used_at terms atoms t) used place ∙ ap (option_map (used_at terms atoms t)) (slice_get-get_or used place 0 h)

  pub next_some : (used : List ℕ) (place : ℕ) → place < length used → position_or_len (is_due_at t b) used ≡ place → next_due numbers (the_used terms atoms t used) b ≡ Some (used_at terms atoms t (get_or used place 0))
  next_some used place h e = ap (slice_get (the_used terms atoms t used)) (place_same used ∙ e) ∙ used_there used place h

  pub next_none : (used : List ℕ) → position_or_len (is_due_at t b) used ≡ length used → next_due numbers (the_used terms atoms t used) b ≡ None
  next_none used e =
      let count = length-map used (used_at terms atoms t) in
      ap (slice_get (the_used terms atoms t used)) (place_same used ∙ e) ∙ slice_get_past (the_used terms atoms t used) (length used) (omega (arith, count))

-- the instance at the place of a frame
module _ (terms : List Lambda) (atoms : List ℕ) (t : Table) (used : List ℕ) where
  pub frame_inside : (place : ℕ) (i : TreeInstance SatLit) → slice_get (the_used terms atoms t used) place ≡ Some i → place < length used
  frame_inside place i h = go (slice_get used place) refl
    where
      inside : (xs : List ℕ) (n x : ℕ) → slice_get xs n ≡ Some x → n < length xs
      inside [] n x e = cc
      inside (y ∷ xs) zero x e = omega arith
      inside (y ∷ xs) (suc n) x e = let r = inside xs n x e in omega (arith, r)

      go : (o : Option ℕ) → slice_get used place ≡ o → place < length used
      go (Some k) e = inside used place k e
      go None e = let none : slice_get (the_used terms atoms t used) place ≡ None = slice_get-map (used_at terms atoms t) used place ∙ ap (option_map (used_at terms atoms t)) e in cc

  pub frame_instance : (place : ℕ) (i : TreeInstance SatLit) (kept : BankInstance) → slice_get (the_used terms atoms t used) place ≡ Some i → slice_get (the_instances t) (get_or used place 0) ≡ Some kept → i ≡ expanded (the_instance terms atoms kept)
  frame_instance place i kept h e =
      let there = used_there terms atoms t [] used place (frame_inside place i h) in
      let same : used_at terms atoms t (get_or used place 0) ≡ i = cc in
      sym same ∙ ap (λ o. expanded (unwrap_or (option_map (the_instance terms atoms) o) no_instance)) e

module _ (used : List (TreeInstance SatLit)) (limit : ℕ) (start : List SatLit) (atoms : List Lambda) where
  -- a new node
  pub make_back : (made : ℕ) (fs : List Frame) (b : List SatLit) (lines : List Line) (f : Frame) (i : TreeInstance SatLit) → IsAhead used limit start atoms made fs b lines → f.len ≡ length b → f.children ≡ [] → slice_get used f.place ≡ Some i → next_due numbers used b ≡ Some i → made < limit → IsBack used limit start atoms (made + 1) fs f b lines
  make_back made fs b lines f i h len children there is fewer =
      let counted = h.count in
      record {
        below = h.below;
        top = new_node i b;
        nodes = h.nodes;
        is_frame = record { instance = there; len = len; children = children };
        is_branch = refl;
        is_open = h.is_open;
        are_lines = h.are_lines ∙ sym (append-nil (written atoms h.below));
        count = omega (arith, counted);
        whole = λ r g. h.whole r (make_node used limit h.below b i h.is_open is (subst (λ n. n < limit) h.count fewer) r g);
      }

  -- the next alternative of a node
  left_is : (g : Below) (n : ℕ) (a : List SatLit) → count g.done ≡ n → slice_get g.instance.alternatives n ≡ Some a → left_of g ≡ a ∷ drop (suc n) g.instance.alternatives
  left_is g n a e h = ap (λ m. drop m g.instance.alternatives) e ∙ drop_at n g.instance.alternatives a h

  module _ (made : ℕ) (fs : List Frame) (f : Frame) (b : List SatLit) (lines : List Line) (h : IsBack used limit start atoms made fs f b lines) where
    children_are : (n : ℕ) → length f.children ≡ n → count h.top.done ≡ n
    children_are n e = sym (children_count (length (written atoms h.below)) h.top.done) ∙ ap length (sym h.is_frame.children) ∙ e

    module _ (i : TreeInstance SatLit) (is : slice_get used f.place ≡ Some i) where
      same_instance : i ≡ h.top.instance
      same_instance = let there = h.is_frame.instance in cc

      alternative_there : (n : ℕ) (a : List SatLit) → slice_get i.alternatives n ≡ Some a → slice_get h.top.instance.alternatives n ≡ Some a
      alternative_there n a e = subst (λ x. slice_get x.alternatives n ≡ Some a) same_instance e

      shut : (a : List SatLit) (x : Bool) → clashes b a ≡ x → is_closed_branch numbers (added numbers h.top.branch a) ≡ x
      shut a x e = ap (λ c. is_closed_branch numbers (added numbers c a)) (sym h.is_branch) ∙ closed_added b a h.is_open ∙ e

      pub closed_back : (a : List SatLit) → slice_get i.alternatives (length f.children) ≡ Some a → clashes b a ≡ true → (k : Frame) → k.place ≡ f.place → k.len ≡ f.len → k.children ≡ f.children ++ Closed ∷ [] → IsBack used limit start atoms made fs k b lines
      closed_back a there clash k place len children =
          let n = length (written atoms h.below) in
          let ts = h.top.done in
          let counted = h.count in
          let s = size_last ts closed in
          record {
            below = h.below;
            top = with_tree h.top closed;
            nodes = h.nodes;
            is_frame = record {
              instance = ap (slice_get used) place ∙ h.is_frame.instance;
              len = len ∙ h.is_frame.len;
              children = children ∙ ap (λ cs. cs ++ Closed ∷ []) h.is_frame.children ∙ sym (children_last n ts closed);
            };
            is_branch = h.is_branch;
            is_open = h.is_open;
            are_lines = h.are_lines ∙ ap (λ ls. written atoms h.below ++ ls) (sym (lines_last atoms n ts closed ∙ append-nil (lines_for_trees atoms n ts)));
            count = omega (arith, counted, s);
            whole = λ r g. h.whole r (close_child used limit h.below h.top a (drop (suc (length f.children)) h.top.instance.alternatives) (left_is h.top (length f.children) a (children_are (length f.children) refl) (alternative_there (length f.children) a there)) (shut a true clash) r g);
          }

      pub open_ahead : (a : List SatLit) → slice_get i.alternatives (length f.children) ≡ Some a → clashes b a ≡ false → IsAhead used limit start atoms made (f ∷ fs) (added numbers b a) lines
      open_ahead a there clash = record {
        below = h.top ∷ h.below;
        nodes = (
          h.is_frame,
          subst (λ c. take (length h.top.branch) (added numbers c a) ≡ h.top.branch) (sym h.is_branch) (added_begins h.top.branch a),
          subst (AreFrames used atoms h.below fs) h.is_branch h.nodes,
        );
        is_open = closed_added b a h.is_open ∙ clash;
        are_lines = h.are_lines;
        count = h.count;
        whole = λ r g. h.whole r (open_child used limit h.below h.top a (drop (suc (length f.children)) h.top.instance.alternatives) (left_is h.top (length f.children) a (children_are (length f.children) refl) (alternative_there (length f.children) a there)) r (subst (λ c. Goes used limit (h.top ∷ h.below) (added numbers c a) r) h.is_branch g));
      }

    -- a node all of whose alternatives have their trees
    module _ (full : IsFull used f) where
      none_left : left_of h.top ≡ []
      none_left =
          let enough = full h.top.instance h.is_frame.instance in
          let counted = children_are (length f.children) refl in
          drop_past (count h.top.done) h.top.instance.alternatives (omega (arith, enough, counted))

      tree : PlainTree SatLit
      tree = node h.top.instance h.top.branch h.top.done

      line : Line
      line = node_line atoms h.top.instance h.top.branch (tree_children (length (written atoms h.below)) h.top.done)

      -- the line that is written
      pub line_is : node_line atoms h.top.instance b f.children ≡ node_line atoms h.top.instance h.top.branch (tree_children (length (written atoms h.below)) h.top.done)
      line_is = ap₂ (λ c cs. node_line atoms h.top.instance c cs) h.is_branch h.is_frame.children

  -- the last node is written
  done_at : (made : ℕ) (gs : List Below) (top : Below) (b : List SatLit) (lines new : List Line) → AreFrames used atoms gs [] b → left_of top ≡ [] → lines ≡ written atoms (top ∷ gs) → made ≡ made_in (top ∷ gs) → ((r : Expanded SatLit (PlainTree SatLit)) → GoesEach used limit gs top r → Expands numbers used limit 0 start r)
      → new ≡ lines ++ node_line atoms top.instance top.branch (tree_children (length (written atoms gs)) top.done) ∷ [] → IsWalkDone used limit start atoms made new
  done_at made (g ∷ gs) top b lines new nodes empty are counted whole is_new = absurd nodes
  done_at made [] top b lines new nodes empty are counted whole is_new = record {
    tree = node top.instance top.branch top.done;
    expands = finish_whole used limit start top empty whole;
    are_lines = is_new ∙ ap (λ ls. ls ++ node_line atoms top.instance top.branch (tree_children 0 top.done) ∷ []) are;
    count = omega (arith, counted);
  }

  -- a node is written, and the one before has it as a child
  back_at : (made : ℕ) (gs : List Below) (top : Below) (p : Frame) (ps : List Frame) (b : List SatLit) (lines new : List Line) → AreFrames used atoms gs (p ∷ ps) b → is_closed_branch numbers b ≡ false → left_of top ≡ [] → lines ≡ written atoms (top ∷ gs) → made ≡ made_in (top ∷ gs) → ((r : Expanded SatLit (PlainTree SatLit)) → GoesEach used limit gs top r → Expands numbers used limit 0 start r)
      → new ≡ lines ++ node_line atoms top.instance top.branch (tree_children (length (written atoms gs)) top.done) ∷ []
      → (k : Frame) → k.place ≡ p.place → k.len ≡ p.len → k.children ≡ p.children ++ Numbered (length lines) ∷ [] → (c : List SatLit) → c ≡ take p.len b → IsBack used limit start atoms made ps k c new
  back_at made [] top p ps b lines new nodes is_open empty are counted whole is_new k place len children c is = absurd nodes
  back_at made (g ∷ gs) top p ps b lines new nodes is_open empty are counted whole is_new k place len children c is =
      let before = written atoms gs in
      let n = length before in
      let m = length (written atoms (g ∷ gs)) in
      let t : PlainTree SatLit = node top.instance top.branch top.done in
      let m_is : m ≡ n + nodes_in_all g.done = length-append before (lines_for_trees atoms n g.done) ∙ ap (λ x. n + x) (count_all atoms n g.done) in
      let lines_count : length lines ≡ (n + nodes_in_all g.done) + nodes_in_all top.done = ap length are ∙ length-append (written atoms (g ∷ gs)) (lines_for_trees atoms m top.done) ∙ ap₂ (λ x y. x + y) m_is (count_all atoms m top.done) in
      let branch : c ≡ g.branch = is ∙ ap (λ x. take x b) nodes.0.len ∙ nodes.1 in
      let own = λ (x : ℕ). lines_for_trees atoms x top.done ++ node_line atoms top.instance top.branch (tree_children x top.done) ∷ [] in
      let s = size_last g.done t in
      record {
        below = gs;
        top = with_tree g t;
        nodes = subst (AreFrames used atoms gs ps) (sym branch) nodes.2;
        is_frame = record {
          instance = ap (slice_get used) place ∙ nodes.0.instance;
          len = len ∙ nodes.0.len;
          children = children ∙ ap₂ (λ cs x. cs ++ Numbered x ∷ []) nodes.0.children lines_count ∙ sym (children_last n g.done t);
        };
        is_branch = branch;
        is_open = front_open (length g.branch) b c (nodes.1 ∙ sym branch) is_open;
        are_lines =
            is_new
            ∙ ap (λ ls. ls ++ node_line atoms top.instance top.branch (tree_children m top.done) ∷ []) are
            ∙ append_assoc (written atoms (g ∷ gs)) (lines_for_trees atoms m top.done) (node_line atoms top.instance top.branch (tree_children m top.done) ∷ [])
            ∙ ap (λ x. written atoms (g ∷ gs) ++ own x) m_is
            ∙ append_assoc before (lines_for_trees atoms n g.done) (own (n + nodes_in_all g.done))
            ∙ ap (λ ls. before ++ ls) (sym (lines_last atoms n g.done t));
        count = omega (arith, counted, s);
        whole = finish_below used limit start g gs top empty whole;
      }

  module _ (made : ℕ) (f : Frame) (b : List SatLit) (lines new : List Line) where
    pub finish_done : (h : IsBack used limit start atoms made [] f b lines) → IsFull used f → (i : TreeInstance SatLit) → slice_get used f.place ≡ Some i → new ≡ lines ++ node_line atoms i b f.children ∷ [] → IsWalkDone used limit start atoms made new
    finish_done h full i there is =
        let same : i ≡ h.top.instance = same_instance made [] f b lines h i there in
        done_at made h.below h.top b lines new h.nodes (none_left made [] f b lines h full) h.are_lines h.count h.whole
        (is ∙ ap (λ x. lines ++ node_line atoms x b f.children ∷ []) same ∙ ap (λ l. lines ++ l ∷ []) (line_is made [] f b lines h full))

    pub finish_back : (p : Frame) (ps : List Frame) (h : IsBack used limit start atoms made (p ∷ ps) f b lines) → IsFull used f → (i : TreeInstance SatLit) → slice_get used f.place ≡ Some i → new ≡ lines ++ node_line atoms i b f.children ∷ []
        → (k : Frame) → k.place ≡ p.place → k.len ≡ p.len → k.children ≡ p.children ++ Numbered (length lines) ∷ [] → (c : List SatLit) → c ≡ take p.len b → IsBack used limit start atoms made ps k c new
    finish_back p ps h full i there is k place len children c cut =
        let same : i ≡ h.top.instance = same_instance made (p ∷ ps) f b lines h i there in
        back_at made h.below h.top p ps b lines new h.nodes h.is_open (none_left made (p ∷ ps) f b lines h full) h.are_lines h.count h.whole
        (is ∙ ap (λ x. lines ++ node_line atoms x b f.children ∷ []) same ∙ ap (λ l. lines ++ l ∷ []) (line_is made (p ∷ ps) f b lines h full)) k place len children c cut

  -- the parent's branch begins the node's
  pub parent_len : (made : ℕ) (p : Frame) (ps : List Frame) (f : Frame) (b : List SatLit) (lines : List Line) → IsBack used limit start atoms made (p ∷ ps) f b lines → p.len ≤ length b
  parent_len made p ps f b lines h = go h.below h.nodes
    where
      go : (gs : List Below) → AreFrames used atoms gs (p ∷ ps) b → p.len ≤ length b
      go [] nodes = absurd nodes
      go (g ∷ gs) nodes =
          let len = nodes.0.len in
          let count : length g.branch ≤ length b = subst (λ (xs : List SatLit). length xs ≤ length b) nodes.1 (taken (length g.branch) b) in
          omega (arith, len, count)
        where
          taken : (n : ℕ) (xs : List SatLit) → length (take n xs) ≤ length xs
          taken zero xs = omega arith
          taken (suc n) [] = omega arith
          taken (suc n) (x ∷ xs) = let r = taken n xs in omega (arith, r)

  -- how a walk ends
  pub comes_open : (made : ℕ) (fs : List Frame) (b : List SatLit) (lines : List Line) → IsAhead used limit start atoms made fs b lines → next_due numbers used b ≡ None → Expands numbers used limit 0 start (open_at b)
  comes_open made fs b lines h is = h.whole (open_at b) (ends_open used limit h.below b h.is_open is)

  pub comes_over : (made : ℕ) (fs : List Frame) (b : List SatLit) (lines : List Line) (i : TreeInstance SatLit) → IsAhead used limit start atoms made fs b lines → next_due numbers used b ≡ Some i → limit ≤ made → Expands numbers used limit 0 start over
  comes_over made fs b lines i h is many = h.whole over (ends_over used limit h.below b i h.is_open is (subst (λ n. limit ≤ n) h.count many))

  -- the beginning
  pub begins : is_closed_branch numbers start ≡ false → IsAhead used limit start atoms 0 [] start []
  begins is_open = record { below = []; nodes = tt; is_open = is_open; are_lines = refl; count = refl; whole = λ r g. subst (Expands numbers used limit 0 start) g.2 g.1 }
