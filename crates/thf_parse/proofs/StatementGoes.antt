-- A statement is found, or a token of it is too deep.
use Rattle.std.proofs.Common.{◌≡◌, ℕ, zero, suc, ◌+◌, ◌<◌, ◌≤◌, List, [], ◌∷◌, ◌++◌, length, Bool, true, false, if◌then◌else◌, Option, Some, None, inl, inr, codes, refl, sym, ap, subst, ◌∙◌, append_assoc, zero-add, arith}
use Rattle.std.proofs.lemmas.List.{append-nil}
use Rattle.std.specs.Str.{bytes_eq}
use Rattle.std.proofs.lemmas.Slice.Eq.{bytes_eq-Decides}
use Rattle.thf_grammar.specs.Trees.{TypeTree, BodyTree, base, typing, formula as formula_body, SelectedTree, StatementTree, include as include_tree}
use Rattle.thf_grammar.specs.declared.terminal.Mark.TheVariants.{Open, Close, OpenList, CloseList, Comma, Stop, Colon, Arrow}
use Rattle.thf_grammar.specs.declared.terminal.Terminal.{Terminal}
use Rattle.thf_grammar.specs.declared.terminal.Terminal.TheVariants as terminal
use Rattle.thf_grammar.specs.Words.{Lexeme, Word, plain, name, place, Is, IsName, lower, quoted}
use Rattle.thf_grammar.specs.Types.{IsType, IsSimpleType, simple_type, arrow_type, indiv_type, form_type, named_type, group_type}
use Rattle.thf_grammar.specs.Statements as is
use Rattle.thf_grammar.specs.Statements.{selected as labelled, IsLabel, IsKeyword, IsTyping, IsBody, AreLabels, IsSelection, IsEnd, IsStatement, IsFile}
use Rattle.thf_grammar.specs.Notes as notes_are
use Rattle.thf_grammar.specs.Notes.{AreNotes}
use Rattle.thf_parse.specs.Internal.Outcome.{found, Reader, ◌>>=◌, first_terminal, place_of_first, first_name, first_text, lexemes_behind, expect}
use Rattle.thf_grammar.specs.Internal.Marks.{is_mark}
use Rattle.thf_parse.specs.Internal.Reader.{type_with, inner_type}
use Rattle.thf_parse.specs.Internal.FormulaReader.{formula_reader, inner}
use Rattle.thf_parse.specs.Internal.NoteReader.{passed, general, second_note, notes_by, notes, inner_notes}
use Rattle.thf_parse.specs.Internal.StatementReader.{selected_name_reader, label_by, label, role_by, role, quoted_by, quoted_reader, declared_by, declared, typing_by, typing_with, inner_typing, body_reader, statement_head, head, finish, annotated_of, annotated, more_label, labels, names, selection_reader, selection, include, keyword_in, keyword_by, keyword, statement_by, statement, is_end, statements_by, statements}
use Rattle.thf_parse.proofs.Goes.{Goes, GoIn, sinks-bind, goes-bind, goes-token, goes-found, goes-enter}
use Rattle.thf_parse.proofs.MarkLaws.{goes-expect, goes-past, goes-closed}
use Rattle.thf_parse.proofs.TypeLaws.{GoesTypes, goes-type_with, goes-inner_type}
use Rattle.thf_parse.proofs.FormulaGoes.{ends_formula, Ends, goes-formula, goes-inner}
use Rattle.thf_parse.proofs.CommaLaws.{Separated, last, more, goes-commas}
use Rattle.thf_parse.proofs.NoteLaws.{ends_note, EndsNote, goes-general, goes-inner_notes}
use Rattle.thf_parse.proofs.StatementLocals.{local-more_label, statement-shorter}
use Rattle.thf_parse.proofs.StatementFinds.{LabelsAre}

first_of : List Word → Terminal
first_of ws = first_terminal (plain ws)

end-arrow : (x : Terminal) → ends_formula x ≡ true → is_mark Arrow x ≡ false
end-arrow (terminal.Mark Close) e = refl
end-arrow (terminal.Mark Comma) e = refl
end-arrow _ e = cc

-- a token that a type begins with
abbrev is_type_of_types : Terminal → Bool
is_type_of_types terminal.TypeOfTypes = true
is_type_of_types _ = false

simple-begins : (d : ℕ) (ws rest : List Word) (t : TypeTree) → IsSimpleType d ws t rest → is_type_of_types (first_terminal (plain ws)) ≡ false
unfolding first_terminal
simple-begins d ws rest t (indiv_type _ w _ k) = ap is_type_of_types k.terminal
simple-begins d ws rest t (form_type _ w _ k) = ap is_type_of_types k.terminal
simple-begins d ws rest t (named_type _ w _ (lower k)) = ap is_type_of_types k.terminal
simple-begins d ws rest t (named_type _ w _ (quoted k)) = ap is_type_of_types k.terminal
simple-begins d ws rest t (group_type _ w v _ _ _ k _ _) = ap is_type_of_types k.terminal

type-begins : (d : ℕ) (ws rest : List Word) (t : TypeTree) → IsType d ws t rest → is_type_of_types (first_terminal (plain ws)) ≡ false
type-begins d ws rest t (simple_type _ _ _ _ p) = simple-begins d ws rest t p
type-begins d ws rest t (arrow_type _ _ right _ w u v p _ _) = simple-begins d ws (w ∷ right) u p

module _ (limit : ℕ) where
  goes-named : (d : ℕ) (w : Word) (rest : List Word) → d ≤ limit → w.depth ≡ d → Goes limit (w ∷ rest) rest (labelled w) (selected_name_reader (plain (w ∷ rest)))
  unfolding place_of_first first_name lexemes_behind
  goes-named d w rest within e = goes-token limit w rest rest (labelled w) (found (labelled w) (plain rest)) (omega arith) (goes-found limit rest (labelled w))

  goes-label : (w : Word) (rest : List Word) → IsLabel w → Goes limit (w ∷ rest) rest (labelled w) (label (plain (w ∷ rest)))
  unfolding label first_terminal
  goes-label w rest (is.lower k) = subst (λ x. Goes limit (w ∷ rest) rest (labelled w) (label_by x (plain (w ∷ rest)))) (sym k.terminal) (goes-named 0 w rest (omega arith) k.deep)
  goes-label w rest (is.quoted k) = subst (λ x. Goes limit (w ∷ rest) rest (labelled w) (label_by x (plain (w ∷ rest)))) (sym k.terminal) (goes-named 0 w rest (omega arith) k.deep)
  goes-label w rest (is.integer k) = subst (λ x. Goes limit (w ∷ rest) rest (labelled w) (label_by x (plain (w ∷ rest)))) (sym k.terminal) (goes-named 0 w rest (omega arith) k.deep)

  goes-role : (w : Word) (rest : List Word) → Is terminal.Lower 0 w → Goes limit (w ∷ rest) rest (labelled w) (role (plain (w ∷ rest)))
  unfolding role first_terminal
  goes-role w rest k = subst (λ x. Goes limit (w ∷ rest) rest (labelled w) (role_by x (plain (w ∷ rest)))) (sym k.terminal) (goes-named 0 w rest (omega arith) k.deep)

  goes-quoted : (w : Word) (rest : List Word) → Is terminal.Quoted 0 w → Goes limit (w ∷ rest) rest (labelled w) (quoted_reader (plain (w ∷ rest)))
  unfolding quoted_reader first_terminal
  goes-quoted w rest k = subst (λ x. Goes limit (w ∷ rest) rest (labelled w) (quoted_by x (plain (w ∷ rest)))) (sym k.terminal) (goes-named 0 w rest (omega arith) k.deep)

  abbrev GoesTypings : ℕ → Reader BodyTree → Type 0
  GoesTypings d r = (ws rest : List Word) (b : BodyTree) → IsTyping d ws b rest → Ends rest → Goes limit ws rest b (r (plain ws))

  module _ (d : ℕ) (within : d ≤ limit) (type : Reader TypeTree) (h : GoesTypes limit d type) (inside : Option (Reader BodyTree)) (k : GoIn limit (GoesTypings (suc d)) d inside) where
    declared-type : (n : SelectedTree) (x : Terminal) (ts : List Lexeme) → is_type_of_types x ≡ false → declared_by type n x ts ≡ (type ts >>= λ t rest. found (typing n.at n.name t) rest)
    declared-type n terminal.TypeOfTypes ts e = cc
    declared-type n _ ts e = refl

    -- a typing that begins with its name
    goes-declared : (w v : Word) (ws rest : List Word) (b : BodyTree) → IsName d w → Is (terminal.Mark Colon) d v → Goes limit ws rest b (declared_by type (labelled w) (first_terminal (plain ws)) (plain ws)) → Goes limit (w ∷ v ∷ ws) rest b (typing_with type inside (plain (w ∷ v ∷ ws)))
    unfolding typing_with declared first_terminal place_of_first first_name lexemes_behind
    goes-declared w v ws rest b (lower m) c g =
        subst (λ x. Goes limit (w ∷ v ∷ ws) rest b (typing_by type inside x (plain (w ∷ v ∷ ws)))) (sym m.terminal)
        (goes-token limit w (v ∷ ws) rest b _ (let q = m.deep in omega arith)
        (goes-past limit Colon d v ws rest b (λ mid. declared_by type (labelled w) (first_terminal mid) mid) within c g))
    goes-declared w v ws rest b (quoted m) c g =
        subst (λ x. Goes limit (w ∷ v ∷ ws) rest b (typing_by type inside x (plain (w ∷ v ∷ ws)))) (sym m.terminal)
        (goes-token limit w (v ∷ ws) rest b _ (let q = m.deep in omega arith)
        (goes-past limit Colon d v ws rest b (λ mid. declared_by type (labelled w) (first_terminal mid) mid) within c g))

    goes-typing : GoesTypings d (typing_with type inside)
    unfolding typing_with first_terminal lexemes_behind
    goes-typing _ rest _ (is.base_typing _ w v u _ m c t) end =
        goes-declared w v (u ∷ rest) rest (base (place w) (name w)) m c
        (subst (λ x. Goes limit (u ∷ rest) rest (base (place w) (name w)) (declared_by type (labelled w) x (plain (u ∷ rest)))) (sym t.terminal)
        (goes-token limit u rest rest (base (place w) (name w)) (found (base (place w) (name w)) (plain rest)) (let q = t.deep in omega arith) (goes-found limit rest (base (place w) (name w)))))
    goes-typing _ rest _ (is.constant_typing _ w v ws _ t m c p) end =
        goes-declared w v ws rest (typing (place w) (name w) t) m c
        (subst (λ o. Goes limit ws rest (typing (place w) (name w) t) o) (sym (declared-type (labelled w) (first_terminal (plain ws)) (plain ws) (type-begins d ws rest t p)))
        (goes-bind limit ws rest rest t (typing (place w) (name w) t) (type (plain ws)) _ (h ws rest t p (end-arrow (first_terminal (plain rest)) end)) (goes-found limit rest (typing (place w) (name w) t))))
    goes-typing _ rest b (is.group_typing _ w v ws _ _ m p c) end =
        subst (λ x. Goes limit (w ∷ ws) rest b (typing_by type inside x (plain (w ∷ ws)))) (sym m.terminal)
        (goes-enter limit (GoesTypings (suc d)) d inside w ws rest b _ k m.deep
        (λ r n deeper. goes-closed limit Close (suc d) ws v rest b (r (plain ws)) deeper c (n ws (v ∷ rest) b p (ap ends_formula c.terminal))))

  goes-inner_typing : (d room : ℕ) → d + room ≡ limit → GoIn limit (GoesTypings (suc d)) d (inner_typing room)
  unfolding inner_typing
  goes-inner_typing d zero e = omega arith
  goes-inner_typing d (suc room) e = (omega arith, goes-typing (suc d) (omega arith) (type_with (inner_type room)) (goes-type_with limit (suc d) (omega arith) (inner_type room) (goes-inner_type limit (suc d) room (omega arith))) (inner_typing room) (goes-inner_typing (suc d) room (omega arith)))

  goes-body : (role : List ℕ) (ws rest : List Word) (b : BodyTree) → IsBody role ws b rest → Ends rest → Goes limit ws rest b (body_reader limit role (plain ws))
  unfolding body_reader
  goes-body role ws rest b (is.typing_body _ _ _ e p) end =
      subst (λ v. Goes limit ws rest b (if v then typing_with (type_with (inner_type limit)) (inner_typing limit) (plain ws) else (formula_reader (inner limit) (plain ws) >>= λ t us. found (formula_body t) us))) (sym ((bytes_eq-Decides role (codes "type")).1 e))
      (goes-typing 0 (omega arith) (type_with (inner_type limit)) (goes-type_with limit 0 (omega arith) (inner_type limit) (goes-inner_type limit 0 limit (zero-add limit))) (inner_typing limit) (goes-inner_typing 0 limit (zero-add limit)) ws rest b p end)
  goes-body role ws rest _ (is.formula_body _ _ t n p) end =
      subst (λ v. Goes limit ws rest (formula_body t) (if v then typing_with (type_with (inner_type limit)) (inner_typing limit) (plain ws) else (formula_reader (inner limit) (plain ws) >>= λ u us. found (formula_body u) us))) (sym (differs (bytes_eq role (codes "type")) refl))
      (goes-bind limit ws rest rest t (formula_body t) (formula_reader (inner limit) (plain ws)) _ (goes-formula limit 0 (omega arith) (inner limit) (goes-inner limit 0 limit (zero-add limit)) ws rest t p end) (goes-found limit rest (formula_body t)))
    where
      differs : (v : Bool) → bytes_eq role (codes "type") ≡ v → bytes_eq role (codes "type") ≡ false
      differs true e = absurd (n ((bytes_eq-Decides role (codes "type")).0 e))
      differs false e = e

  -- what stands behind a body
  Closed : List Word → Type 0
  Closed rest = first_terminal (plain rest) ≡ terminal.Mark Close

  goes-one_general : (ws rest : List Word) → notes_are.IsGeneral 0 ws rest → EndsNote rest → Goes limit ws rest passed (general (inner_notes limit) (plain ws))
  goes-one_general ws rest p end = goes-general limit 0 (omega arith) (inner_notes limit) (goes-inner_notes limit 0 limit (zero-add limit)) ws rest p end

  goes-notes : (ws rest : List Word) → AreNotes ws rest → first_terminal (plain rest) ≡ terminal.Mark Close → Goes limit ws rest passed (notes (inner_notes limit) (plain ws))
  unfolding notes first_terminal lexemes_behind
  goes-notes ws rest (notes_are.no_notes _) c = subst (λ x. Goes limit rest rest passed (notes_by (inner_notes limit) x (plain rest))) (sym c) (goes-found limit rest passed)
  goes-notes _ rest (notes_are.one_note w ws _ m p) c =
      subst (λ x. Goes limit (w ∷ ws) rest passed (notes_by (inner_notes limit) x (plain (w ∷ ws)))) (sym m.terminal)
      (goes-token limit w ws rest passed _ (let q = m.deep in omega arith)
      (goes-bind limit ws rest rest passed passed (general (inner_notes limit) (plain ws)) (λ _ us. second_note (inner_notes limit) (first_terminal us) us) (goes-one_general ws rest p (ap ends_note c))
      (subst (λ x. Goes limit rest rest passed (second_note (inner_notes limit) x (plain rest))) (sym c) (goes-found limit rest passed))))
  goes-notes _ rest (notes_are.two_notes w v ws mid _ m p n q) c =
      subst (λ x. Goes limit (w ∷ ws) rest passed (notes_by (inner_notes limit) x (plain (w ∷ ws)))) (sym m.terminal)
      (goes-token limit w ws rest passed _ (let z = m.deep in omega arith)
      (goes-bind limit ws (v ∷ mid) rest passed passed (general (inner_notes limit) (plain ws)) (λ _ us. second_note (inner_notes limit) (first_terminal us) us) (goes-one_general ws (v ∷ mid) p (ap ends_note n.terminal))
      (subst (λ x. Goes limit (v ∷ mid) rest passed (second_note (inner_notes limit) x (plain (v ∷ mid)))) (sym n.terminal)
      (goes-token limit v mid rest passed _ (let z = n.deep in omega arith) (goes-one_general mid rest q (ap ends_note c))))))

  notes-end : (ws rest : List Word) → AreNotes ws rest → first_terminal (plain rest) ≡ terminal.Mark Close → Ends ws
  unfolding first_terminal
  notes-end ws rest (notes_are.no_notes _) c = ap ends_formula c
  notes-end _ rest (notes_are.one_note w ws _ m p) c = ap ends_formula m.terminal
  notes-end _ rest (notes_are.two_notes w v ws mid _ m p n q) c = ap ends_formula m.terminal

  end-begins : (ws rest : List Word) → IsEnd ws rest → first_terminal (plain ws) ≡ terminal.Mark Close
  unfolding first_terminal
  end-begins _ rest (is.ends w v _ k m) = k.terminal

  goes-finish : (ws rest : List Word) → IsEnd ws rest → Goes limit ws rest passed (finish (plain ws))
  unfolding finish
  goes-finish _ rest (is.ends w v _ k m) = goes-past limit Close 0 w (v ∷ rest) rest passed (λ mid. expect Stop mid) (omega arith) k (goes-expect limit Stop 0 v rest (omega arith) m)

  goes-head : (o l c r e : Word) (ws : List Word) → Is (terminal.Mark Open) 0 o → IsLabel l → Is (terminal.Mark Comma) 0 c → Is terminal.Lower 0 r → Is (terminal.Mark Comma) 0 e → Goes limit (o ∷ l ∷ c ∷ r ∷ e ∷ ws) ws (statement_head (name l) (labelled r)) (head (plain (o ∷ l ∷ c ∷ r ∷ e ∷ ws)))
  unfolding head
  goes-head o l c r e ws p q u v w =
      let h = statement_head (name l) (labelled r) in
      goes-past limit Open 0 o (l ∷ c ∷ r ∷ e ∷ ws) ws h _ (omega arith) p
      (goes-bind limit (l ∷ c ∷ r ∷ e ∷ ws) (c ∷ r ∷ e ∷ ws) ws (labelled l) h (label (plain (l ∷ c ∷ r ∷ e ∷ ws))) _ (goes-label l (c ∷ r ∷ e ∷ ws) q)
      (goes-past limit Comma 0 c (r ∷ e ∷ ws) ws h _ (omega arith) u
      (goes-bind limit (r ∷ e ∷ ws) (e ∷ ws) ws (labelled r) h (role (plain (r ∷ e ∷ ws))) _ (goes-role r (e ∷ ws) v)
      (goes-past limit Comma 0 e ws ws h (λ t. found h t) (omega arith) w (goes-found limit ws h)))))

  goes-annotated : (o l c r e : Word) (ws mid behind_notes rest : List Word) (b : BodyTree) → Is (terminal.Mark Open) 0 o → IsLabel l → Is (terminal.Mark Comma) 0 c → Is terminal.Lower 0 r → Is (terminal.Mark Comma) 0 e → IsBody (name r) ws b mid → AreNotes mid behind_notes → IsEnd behind_notes rest → Goes limit (o ∷ l ∷ c ∷ r ∷ e ∷ ws) rest (annotated_of (statement_head (name l) (labelled r)) b) (annotated limit (plain (o ∷ l ∷ c ∷ r ∷ e ∷ ws)))
  unfolding annotated
  goes-annotated o l c r e ws mid after rest b p q u v w body_is notes_is end_is =
      let h = statement_head (name l) (labelled r) in
      let s = annotated_of h b in
      let closing = end-begins after rest end_is in
      goes-bind limit (o ∷ l ∷ c ∷ r ∷ e ∷ ws) ws rest h s (head (plain (o ∷ l ∷ c ∷ r ∷ e ∷ ws))) _ (goes-head o l c r e ws p q u v w)
      (goes-bind limit ws mid rest b s (body_reader limit (name r) (plain ws)) _ (goes-body (name r) ws mid b body_is (notes-end mid after notes_is closing))
      (goes-bind limit mid after rest passed s (notes (inner_notes limit) (plain mid)) _ (goes-notes mid after notes_is closing)
      (goes-bind limit after rest rest passed s (finish (plain after)) (λ _ t. found s t) (goes-finish after rest end_is) (goes-found limit rest s))))

  labels-are : (ns new : List SelectedTree) (ws rest : List Word) → AreLabels ws new rest → Separated LabelsAre 0 ns (ns ++ new) ws rest
  labels-are ns _ _ rest (is.last_label w _ k) = last ns (ns ++ labelled w ∷ []) (w ∷ rest) rest (labelled w, refl, record { token = w; whole = refl; is = k; named = refl })
  labels-are ns _ _ rest (is.more_labels w v ws _ new k c p) =
      subst (λ all. Separated LabelsAre 0 ns all (w ∷ v ∷ ws) rest) (append_assoc ns (labelled w ∷ []) new)
      (more ns (ns ++ labelled w ∷ []) ((ns ++ labelled w ∷ []) ++ new) (w ∷ v ∷ ws) ws rest v (labelled w, refl, record { token = w; whole = refl; is = k; named = refl }) c (labels-are (ns ++ labelled w ∷ []) new ws rest p))

  goes-more_label : (ns ms : List SelectedTree) (ws rest : List Word) → LabelsAre ns ms ws rest → Goes limit ws rest ms (more_label ns (plain ws))
  goes-more_label ns ms ws rest p =
      subst (λ us. Goes limit us rest ms (more_label ns (plain us))) (sym p.2.whole)
      (subst (λ all. Goes limit (p.2.token ∷ rest) rest all (more_label ns (plain (p.2.token ∷ rest)))) (sym (p.1 ∙ ap (λ n. ns ++ n ∷ []) p.2.named))
      (goes-bind limit (p.2.token ∷ rest) rest rest (labelled p.2.token) (ns ++ labelled p.2.token ∷ []) (label (plain (p.2.token ∷ rest))) _ (goes-label p.2.token rest p.2.is) (goes-found limit rest (ns ++ labelled p.2.token ∷ []))))

  goes-labels : (ws rest : List Word) (ns : List SelectedTree) → AreLabels ws ns rest → is_mark Comma (first_terminal (plain rest)) ≡ false → Goes limit ws rest ns (labels (plain ws))
  unfolding labels
  goes-labels ws rest ns p stop = goes-commas more_label local-more_label LabelsAre limit 0 (omega arith) (λ _. true) refl (λ s x us after k f. goes-more_label s x us after k) (suc (length (plain ws))) [] ns ws rest (labels-are [] ns ws rest p) (omega arith) refl stop

  goes-selection : (ws rest : List Word) (only : Option (List SelectedTree)) → IsSelection ws only rest → first_terminal (plain rest) ≡ terminal.Mark Close → Goes limit ws rest only (selection (plain ws))
  unfolding selection names first_terminal lexemes_behind
  goes-selection ws rest only (is.everything _) c = subst (λ x. Goes limit rest rest None (selection_reader x (plain rest))) (sym c) (goes-found limit rest None)
  goes-selection _ rest _ (is.only w v u ws _ ns m o p k) c =
      subst (λ x. Goes limit (w ∷ v ∷ ws) rest (Some ns) (selection_reader x (plain (w ∷ v ∷ ws)))) (sym m.terminal)
      (goes-token limit w (v ∷ ws) rest (Some ns) _ (let q = m.deep in omega arith)
      (goes-past limit OpenList 0 v ws rest (Some ns) _ (omega arith) o
      (goes-bind limit ws (u ∷ rest) rest ns (Some ns) (labels (plain ws)) _ (goes-labels ws (u ∷ rest) ns p (ap (is_mark Comma) k.terminal))
      (goes-past limit CloseList 0 u rest rest (Some ns) (λ t. found (Some ns) t) (omega arith) k (goes-found limit rest (Some ns))))))

  goes-include : (o f : Word) (ws after rest : List Word) (only : Option (List SelectedTree)) → Is (terminal.Mark Open) 0 o → Is terminal.Quoted 0 f → IsSelection ws only after → IsEnd after rest → Goes limit (o ∷ f ∷ ws) rest (include_tree (place f) (name f) only) (include (plain (o ∷ f ∷ ws)))
  unfolding include
  goes-include o f ws after rest only p q u e =
      let s = include_tree (place f) (name f) only in
      goes-past limit Open 0 o (f ∷ ws) rest s _ (omega arith) p
      (goes-bind limit (f ∷ ws) ws rest (labelled f) s (quoted_reader (plain (f ∷ ws))) _ (goes-quoted f ws q)
      (goes-bind limit ws after rest only s (selection (plain ws)) _ (goes-selection ws after only u (end-begins after rest e))
      (goes-bind limit after rest rest passed s (finish (plain after)) (λ _ t. found s t) (goes-finish after rest e) (goes-found limit rest s))))

  keyword-at : (text : List ℕ) (w : Word) (ws : List Word) → IsKeyword text w → keyword (plain (w ∷ ws)) ≡ keyword_in text
  unfolding keyword first_terminal first_text
  keyword-at text w ws k = ap (λ x. keyword_by x w.lexeme.text) k.lower.terminal ∙ ap keyword_in k.spelled

  pub goes-statement : (ws rest : List Word) (s : StatementTree) → IsStatement ws s rest → Goes limit ws rest s (statement limit (plain ws))
  unfolding statement lexemes_behind
  goes-statement _ rest s (is.annotated_statement k o l c r e ws mid after _ b kw p q u v w x y z) =
      subst (λ kind. Goes limit (k ∷ o ∷ l ∷ c ∷ r ∷ e ∷ ws) rest s (statement_by limit kind (plain (k ∷ o ∷ l ∷ c ∷ r ∷ e ∷ ws)))) (sym (keyword-at (codes "thf") k (o ∷ l ∷ c ∷ r ∷ e ∷ ws) kw))
      (goes-token limit k (o ∷ l ∷ c ∷ r ∷ e ∷ ws) rest s _ (let a = kw.lower.deep in omega arith) (goes-annotated o l c r e ws mid after rest b p q u v w x y z))
  goes-statement _ rest s (is.include_statement k o f ws after _ only kw p q u e) =
      subst (λ kind. Goes limit (k ∷ o ∷ f ∷ ws) rest s (statement_by limit kind (plain (k ∷ o ∷ f ∷ ws)))) (sym (keyword-at (codes "include") k (o ∷ f ∷ ws) kw))
      (goes-token limit k (o ∷ f ∷ ws) rest s _ (let a = kw.lower.deep in omega arith) (goes-include o f ws after rest only p q u e))

  statement-begins : (ws rest : List Word) (s : StatementTree) → IsStatement ws s rest → is_end (first_terminal (plain ws)) ≡ false
  unfolding first_terminal
  statement-begins _ rest s (is.annotated_statement k o l c r e ws mid after _ b kw p q u v w x y z) = ap is_end kw.lower.terminal
  statement-begins _ rest s (is.include_statement k o f ws after _ only kw p q u e) = ap is_end kw.lower.terminal

  file-end : (ws : List Word) (ss : List StatementTree) → IsFile ws ss → (e : Word) × Is terminal.End 0 e
  file-end _ _ (is.no_statement w k) = (w, k)
  file-end _ _ (is.more_statements ws rest s ss p f) = file-end rest ss f

  -- the statements are found up to the token at the end
  pub record GoesFile (n : ℕ) (so_far ss : List StatementTree) (ws : List Word) : Type 0 where
    pub end : Word
    pub is : Is terminal.End 0 end
    pub goes : Goes limit ws (end ∷ []) (so_far ++ ss) (statements limit n so_far (plain ws))

  goes-statements : (n : ℕ) (so_far ss : List StatementTree) (ws : List Word) → IsFile ws ss → length (plain ws) < n → GoesFile n so_far ss ws
  unfolding statements first_terminal
  goes-statements zero so_far ss ws f h = absurd (omega arith)
  goes-statements (suc n) so_far _ _ (is.no_statement w k) h = record {
    end = w;
    is = k;
    goes =
        subst (λ x. Goes limit (w ∷ []) (w ∷ []) (so_far ++ []) (statements_by limit (statements limit n) so_far (is_end x) (plain (w ∷ [])))) (sym k.terminal)
        (subst (λ all. Goes limit (w ∷ []) (w ∷ []) all (found so_far (plain (w ∷ [])))) (sym (append-nil so_far)) (goes-found limit (w ∷ []) so_far));
  }
  goes-statements (suc n) so_far _ ws (is.more_statements _ rest s ss p f) h = go (goes-statement ws rest s p) (λ q. goes-statements n (so_far ++ s ∷ []) ss rest f q)
    where
      begun : statements_by limit (statements limit n) so_far (is_end (first_terminal (plain ws))) (plain ws) ≡ (statement limit (plain ws) >>= λ r us. statements limit n (so_far ++ r ∷ []) us)
      begun = ap (λ b. statements_by limit (statements limit n) so_far b (plain ws)) (statement-begins ws rest s p)

      go : Goes limit ws rest s (statement limit (plain ws)) → (length (plain rest) < n → GoesFile n (so_far ++ s ∷ []) ss rest) → GoesFile (suc n) so_far (s ∷ ss) ws
      go (inl a) again =
          let g = again (omega (arith, statement-shorter limit (plain ws) (plain rest) s a.is)) in
          record {
            end = g.end;
            is = g.is;
            goes =
                subst (λ o. Goes limit ws (g.end ∷ []) (so_far ++ s ∷ ss) o) (sym begun)
                (goes-bind limit ws rest (g.end ∷ []) s (so_far ++ s ∷ ss) (statement limit (plain ws)) _ (inl a)
                (subst (λ all. Goes limit rest (g.end ∷ []) all (statements limit n (so_far ++ s ∷ []) (plain rest))) (append_assoc so_far (s ∷ []) ss) g.goes));
          }
      go (inr k) again = record {
        end = (file-end rest ss f).0;
        is = (file-end rest ss f).1;
        goes = subst (λ o. Goes limit ws ((file-end rest ss f).0 ∷ []) (so_far ++ s ∷ ss) o) (sym begun) (inr (sinks-bind limit ws (statement limit (plain ws)) (λ r us. statements limit n (so_far ++ r ∷ []) us) k));
      }

  pub goes-file : (ss : List StatementTree) (ws : List Word) → IsFile ws ss → GoesFile (suc (length (plain ws))) [] ss ws
  goes-file ss ws f = goes-statements (suc (length (plain ws))) [] ss ws f (omega arith)
