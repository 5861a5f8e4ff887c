-- What is found is a statement.
use Rattle.std.proofs.Common.{◌≡◌, ℕ, zero, suc, List, [], ◌∷◌, ◌++◌, length, Bool, true, false, if◌then◌else◌, Option, Some, None, codes, refl, sym, ap, subst, ◌∙◌, append_assoc}
use Rattle.std.proofs.lemmas.List.{append-nil}
use Rattle.std.specs.Str.{bytes_eq}
use Rattle.std.proofs.lemmas.Slice.Eq.{bytes_eq-Decides}
use Rattle.thf_grammar.specs.Trees.{TypeTree, BodyTree, base, typing, formula as formula_body, SelectedTree, StatementTree, include as include_tree}
use Rattle.thf_parse.specs.declared.statement.Keyword.{Keyword}
use Rattle.thf_parse.specs.declared.statement.Keyword.TheVariants.{Thf, Include, Unknown}
use Rattle.thf_grammar.specs.declared.terminal.Mark.TheVariants.{Open, Close, OpenList, CloseList, Comma, Stop, Colon}
use Rattle.thf_grammar.specs.declared.terminal.Terminal.{Terminal}
use Rattle.thf_grammar.specs.declared.terminal.Terminal.TheVariants as terminal
use Rattle.thf_grammar.specs.Words.{Lexeme, Word, terminal_of, name_of, name, Is, IsName, lower, quoted}
use Rattle.thf_grammar.specs.Types.{IsType}
use Rattle.thf_grammar.specs.Statements as is
use Rattle.thf_grammar.specs.Statements.{selected as labelled, IsLabel, IsKeyword, IsTyping, IsBody, AreLabels, IsSelection, IsEnd, IsStatement, IsFile}
use Rattle.thf_grammar.specs.Notes as notes_are
use Rattle.thf_grammar.specs.Notes.{AreNotes}
use Rattle.thf_parse.specs.Internal.Outcome.{Outcome, found, wrong, deep, Reader, ◌>>=◌, first_terminal, place_of_first, first_name, first_text, lexemes_behind, expect}
use Rattle.thf_parse.specs.Internal.Reader.{type_with, inner_type}
use Rattle.thf_parse.specs.Internal.FormulaReader.{formula_reader, inner}
use Rattle.thf_parse.specs.Internal.NoteReader.{passed, general, second_note, notes_by, notes, inner_notes}
use Rattle.thf_parse.specs.Internal.StatementReader.{selected_at, selected_name_reader, label_by, label, role_by, role, quoted_by, quoted_reader, declared_by, declared, typing_by, typing_with, inner_typing, body_reader, Head, statement_head, head, finish, annotated_of, annotated, more_label, labels, names, selection_reader, selection, include, keyword_in, keyword_by, keyword, statement_by, statement, is_end, statements_by, statements, file}
use Rattle.thf_parse.proofs.Finds.{word, Ending, ending-then, ending-map, ending-as, Finds, stopped-here, stopped-behind, finds-bind, finds-token, finds-as, finds-behind, finds-map, finds-one, finds-none, FindIn, finds-enter}
use Rattle.thf_parse.proofs.Endings.{lower_word, lower-is, quoted_word, quoted-is, include_word, include-is}
use Rattle.thf_parse.proofs.MarkLaws.{Closed, closed-ends, finds-closed, past-ends, finds-past, Expected, expected-ends, finds-expect}
use Rattle.thf_parse.proofs.TypeLaws.{TypeIs, type-ends, finds-type_with, finds-inner_type}
use Rattle.thf_parse.proofs.FormulaFinds.{FormulaIs, formula-ends, finds-formula, finds-inner}
use Rattle.thf_parse.proofs.CommaLaws.{Separated, last, more, separated-ends, finds-commas}
use Rattle.thf_parse.proofs.NoteLaws.{GeneralIs, finds-general, finds-inner_notes}
use Rattle.thf_parse.proofs.StatementLocals.{keyword-first}

here : (t : Lexeme) (x : Terminal) (depth : ℕ) → terminal_of t ≡ x → Is x depth (word t depth)
here t x depth e = record { terminal = e; deep = refl }

-- one token that is a name of a kind
pub record OneName (K : Word → Type 0) (n : SelectedTree) (ws rest : List Word) : Type 0 where
  pub token : Word
  pub whole : ws ≡ token ∷ rest
  pub is : K token
  pub named : n ≡ labelled token

finds-named : (K : Word → Type 0) (t : Lexeme) (ts : List Lexeme) (d : ℕ) → K (word t d) → Finds (OneName K) (t ∷ ts) (selected_name_reader (t ∷ ts))
unfolding place_of_first first_name lexemes_behind
finds-named K t ts d k = finds-one (OneName K) t d ts (selected_at t.at (name_of t)) (λ after. record { token = word t d; whole = refl; is = k; named = refl })

name-ends : (K : Word → Type 0) (w : Word) → K w → Ending (OneName K)
name-ends K w k = record { value = labelled w; words = w ∷ []; read = λ after. record { token = w; whole = refl; is = k; named = refl } }

-- one token, and then something
after-name : {A : Type 0} (K : Word → Type 0) (N : SelectedTree → A → List Word → List Word → Type 0) (M : A → List Word → List Word → Type 0) → ((w : Word) (x : A) (ws rest : List Word) → K w → N (labelled w) x ws rest → M x (w ∷ ws) rest) → (n : SelectedTree) (x : A) (ws mid rest : List Word) → OneName K n ws mid → N n x mid rest → M x ws rest
after-name K N M join n x ws mid rest p q = subst (λ us. M x us rest) (sym p.whole) (join p.token x mid rest p.is (subst (λ m. N m x mid rest) p.named q))

finds-after : {A : Type 0} (K : Word → Type 0) (N : SelectedTree → A → List Word → List Word → Type 0) (M : A → List Word → List Word → Type 0) (ts : List Lexeme) (o : Outcome SelectedTree) (f : SelectedTree → Reader A) → Finds (OneName K) ts o → ((n : SelectedTree) → Ending (N n)) → ((n : SelectedTree) (mid : List Lexeme) → Finds (N n) mid (f n mid)) → ((w : Word) (x : A) (ws rest : List Word) → K w → N (labelled w) x ws rest → M x (w ∷ ws) rest) → Finds M ts (o >>= f)
finds-after K N M ts o f h close k join = finds-bind (OneName K) N M ts o f h close k (after-name K N M join)

label-ends : Ending (OneName IsLabel)
label-ends = name-ends IsLabel (lower_word 0) (is.lower (lower-is 0))

role-ends : Ending (OneName (Is terminal.Lower 0))
role-ends = name-ends (Is terminal.Lower 0) (lower_word 0) (lower-is 0)

quoted-ends : Ending (OneName (Is terminal.Quoted 0))
quoted-ends = name-ends (Is terminal.Quoted 0) (quoted_word 0) (quoted-is 0)

finds-label : (ts : List Lexeme) → Finds (OneName IsLabel) ts (label ts)
unfolding label first_terminal
finds-label [] = stopped-here (OneName IsLabel) [] label-ends
finds-label (t ∷ ts) = go (terminal_of t) refl
  where
    go : (x : Terminal) → terminal_of t ≡ x → Finds (OneName IsLabel) (t ∷ ts) (label_by x (t ∷ ts))
    go terminal.Lower e = finds-named IsLabel t ts 0 (is.lower (here t terminal.Lower 0 e))
    go terminal.Quoted e = finds-named IsLabel t ts 0 (is.quoted (here t terminal.Quoted 0 e))
    go terminal.Integer e = finds-named IsLabel t ts 0 (is.integer (here t terminal.Integer 0 e))
    go _ e = stopped-here (OneName IsLabel) (t ∷ ts) label-ends

finds-role : (ts : List Lexeme) → Finds (OneName (Is terminal.Lower 0)) ts (role ts)
unfolding role first_terminal
finds-role [] = stopped-here (OneName (Is terminal.Lower 0)) [] role-ends
finds-role (t ∷ ts) = go (terminal_of t) refl
  where
    go : (x : Terminal) → terminal_of t ≡ x → Finds (OneName (Is terminal.Lower 0)) (t ∷ ts) (role_by x (t ∷ ts))
    go terminal.Lower e = finds-named (Is terminal.Lower 0) t ts 0 (here t terminal.Lower 0 e)
    go _ e = stopped-here (OneName (Is terminal.Lower 0)) (t ∷ ts) role-ends

finds-quoted : (ts : List Lexeme) → Finds (OneName (Is terminal.Quoted 0)) ts (quoted_reader ts)
unfolding quoted_reader first_terminal
finds-quoted [] = stopped-here (OneName (Is terminal.Quoted 0)) [] quoted-ends
finds-quoted (t ∷ ts) = go (terminal_of t) refl
  where
    go : (x : Terminal) → terminal_of t ≡ x → Finds (OneName (Is terminal.Quoted 0)) (t ∷ ts) (quoted_by x (t ∷ ts))
    go terminal.Quoted e = finds-named (Is terminal.Quoted 0) t ts 0 (here t terminal.Quoted 0 e)
    go _ e = stopped-here (OneName (Is terminal.Quoted 0)) (t ∷ ts) quoted-ends

abbrev TypingIs : ℕ → BodyTree → List Word → List Word → Type 0
TypingIs d b ws rest = IsTyping d ws b rest

module _ (d : ℕ) where
  -- a typing behind its name
  abbrev DeclaredIs : SelectedTree → BodyTree → List Word → List Word → Type 0
  DeclaredIs n b ws rest = (w : Word) → IsName d w → n ≡ labelled w → IsTyping d (w ∷ ws) b rest

  -- a typing behind its colon
  abbrev BehindColon : SelectedTree → BodyTree → List Word → List Word → Type 0
  BehindColon n b ws rest = (w v : Word) → IsName d w → n ≡ labelled w → Is (terminal.Mark Colon) d v → IsTyping d (w ∷ v ∷ ws) b rest

  typed : (n : SelectedTree) (t : TypeTree) (ws rest : List Word) → IsType d ws t rest → BehindColon n (typing n.at n.name t) ws rest
  typed n t ws rest p w v k e m = subst (λ (m : SelectedTree). IsTyping d (w ∷ v ∷ ws) (typing m.at m.name t) rest) (sym e) (is.constant_typing d w v ws rest t k m p)

  -- a typing ends behind its colon with `$i`
  colon-ends : (n : SelectedTree) → Ending (BehindColon n)
  colon-ends n = ending-map (TypeIs d) (BehindColon n) (typing n.at n.name) (type-ends d) (typed n)

  behind-colon : (n : SelectedTree) (b : BodyTree) (v : Word) (ws rest : List Word) → Is (terminal.Mark Colon) d v → BehindColon n b ws rest → DeclaredIs n b (v ∷ ws) rest
  behind-colon n b v ws rest m p w k e = p w v k e m

  declared-ends : (n : SelectedTree) → Ending (DeclaredIs n)
  declared-ends n = past-ends (BehindColon n) (DeclaredIs n) Colon d (colon-ends n) (behind-colon n)

  typing-ends : Ending (TypingIs d)
  typing-ends = ending-then (OneName (IsName d)) DeclaredIs (TypingIs d) (after-name (IsName d) DeclaredIs (TypingIs d) (λ w b ws rest q p. p w q refl)) (name-ends (IsName d) (lower_word d) (lower (lower-is d))) declared-ends

module _ (d : ℕ) (type : Reader TypeTree) (h : (ts : List Lexeme) → Finds (TypeIs d) ts (type ts)) where
  finds-declared_by : (n : SelectedTree) (ts : List Lexeme) → Finds (BehindColon d n) ts (declared_by type n (first_terminal ts) ts)
  unfolding first_terminal lexemes_behind
  finds-declared_by n ts = cases ts
    where
      of_type : (us : List Lexeme) → Finds (BehindColon d n) us (type us >>= λ t rest. found (typing n.at n.name t) rest)
      of_type us = finds-map (TypeIs d) (BehindColon d n) (typing n.at n.name) us (type us) (h us) (typed d n)

      go : (t : Lexeme) (us : List Lexeme) (x : Terminal) → terminal_of t ≡ x → Finds (BehindColon d n) (t ∷ us) (declared_by type n x (t ∷ us))
      go t us terminal.TypeOfTypes e = finds-one (BehindColon d n) t d us (base n.at n.name)
          (λ after w v k q m. subst (λ (m : SelectedTree). IsTyping d (w ∷ v ∷ word t d ∷ after) (base m.at m.name) after) (sym q) (is.base_typing d w v (word t d) after k m (here t terminal.TypeOfTypes d e)))
      go t us _ e = of_type (t ∷ us)

      cases : (us : List Lexeme) → Finds (BehindColon d n) us (declared_by type n (first_terminal us) us)
      cases [] = of_type []
      cases (t ∷ us) = go t us (terminal_of t) refl

  finds-declared : (n : SelectedTree) (ts : List Lexeme) → Finds (DeclaredIs d n) ts (declared type n ts)
  unfolding declared
  finds-declared n ts = finds-past (BehindColon d n) (DeclaredIs d n) Colon d ts (λ mid. declared_by type n (first_terminal mid) mid) (colon-ends d n) (λ mid. finds-declared_by n mid) (behind-colon d n)

  finds-typing : (inside : Option (Reader BodyTree)) → FindIn (λ r. (ts : List Lexeme) → Finds (TypingIs (suc d)) ts (r ts)) inside → (ts : List Lexeme) → Finds (TypingIs d) ts (typing_with type inside ts)
  unfolding typing_with first_terminal lexemes_behind
  finds-typing inside k [] = stopped-here (TypingIs d) [] (typing-ends d)
  finds-typing inside k (t ∷ ts) = go (terminal_of t) refl
    where
      group : (s : Lexeme) → terminal_of s ≡ terminal.Mark Open → (b : BodyTree) (ws rest : List Word) → Closed (TypingIs (suc d)) Close (suc d) b ws rest → IsTyping d (word s (suc d) ∷ ws) b rest
      group s e b ws rest p = is.group_typing d (word s (suc d)) p.closing ws rest b (here s (terminal.Mark Open) (suc d) e) p.read p.closes

      of_name : IsName d (word t d) → Finds (TypingIs d) (t ∷ ts) (selected_name_reader (t ∷ ts) >>= λ n rest. declared type n rest)
      of_name m = finds-after (IsName d) (DeclaredIs d) (TypingIs d) (t ∷ ts) (selected_name_reader (t ∷ ts)) (λ n rest. declared type n rest) (finds-named (IsName d) t ts d m) (declared-ends d) finds-declared (λ w b ws rest q p. p w q refl)

      go : (x : Terminal) → terminal_of t ≡ x → Finds (TypingIs d) (t ∷ ts) (typing_by type inside x (t ∷ ts))
      go terminal.Lower e = of_name (lower (here t terminal.Lower d e))
      go terminal.Quoted e = of_name (quoted (here t terminal.Quoted d e))
      go (terminal.Mark Open) e =
          finds-enter (TypingIs d) (λ r. (us : List Lexeme) → Finds (TypingIs (suc d)) us (r us)) inside (t ∷ ts) (t ∷ ts) _ k
          (stopped-behind (TypingIs d) t (suc d) ts (ending-as (Closed (TypingIs (suc d)) Close (suc d)) (λ b ws rest. IsTyping d (word t (suc d) ∷ ws) b rest) (closed-ends (TypingIs (suc d)) Close (suc d) (typing-ends (suc d))) (group t e)))
          (λ r m. finds-token (Closed (TypingIs (suc d)) Close (suc d)) (TypingIs d) t (suc d) ts _ (finds-closed (TypingIs (suc d)) Close (suc d) ts (r ts) (m ts))
          (group t e))
      go _ e = stopped-here (TypingIs d) (t ∷ ts) (typing-ends d)

finds-inner_typing : (d room : ℕ) → FindIn (λ r. (ts : List Lexeme) → Finds (TypingIs (suc d)) ts (r ts)) (inner_typing room)
unfolding inner_typing
finds-inner_typing d zero = tt
finds-inner_typing d (suc room) = finds-typing (suc d) (type_with (inner_type room)) (finds-type_with (suc d) (inner_type room) (finds-inner_type (suc d) room)) (inner_typing room) (finds-inner_typing (suc d) room)

abbrev BodyIs : List ℕ → BodyTree → List Word → List Word → Type 0
BodyIs role b ws rest = IsBody role ws b rest

body-ends : (role : List ℕ) → Ending (BodyIs role)
body-ends role = go (bytes_eq role (codes "type")) refl
  where
    go : (b : Bool) → bytes_eq role (codes "type") ≡ b → Ending (BodyIs role)
    go true e = ending-as (TypingIs 0) (BodyIs role) (typing-ends 0) (λ b ws rest p. is.typing_body ws rest b ((bytes_eq-Decides role (codes "type")).0 e) p)
    go false e = ending-map (FormulaIs 0) (BodyIs role) formula_body (formula-ends 0) (λ t ws rest p. is.formula_body ws rest t (λ q. let z : bytes_eq role (codes "type") ≡ true = (bytes_eq-Decides role (codes "type")).1 q in cc) p)

finds-body : (room : ℕ) (role : List ℕ) (ts : List Lexeme) → Finds (BodyIs role) ts (body_reader room role ts)
unfolding body_reader
finds-body room role ts = go (bytes_eq role (codes "type")) refl
  where
    go : (b : Bool) → bytes_eq role (codes "type") ≡ b → Finds (BodyIs role) ts (if b then typing_with (type_with (inner_type room)) (inner_typing room) ts else (formula_reader (inner room) ts >>= λ t rest. found (formula_body t) rest))
    go true e = finds-as (TypingIs 0) (BodyIs role) ts _ (finds-typing 0 (type_with (inner_type room)) (finds-type_with 0 (inner_type room) (finds-inner_type 0 room)) (inner_typing room) (finds-inner_typing 0 room) ts) (λ b ws rest p. is.typing_body ws rest b ((bytes_eq-Decides role (codes "type")).0 e) p)
    go false e = finds-map (FormulaIs 0) (BodyIs role) formula_body ts (formula_reader (inner room) ts) (finds-formula 0 (inner room) (finds-inner 0 room) ts) (λ t ws rest p. is.formula_body ws rest t (λ q. let z : bytes_eq role (codes "type") ≡ true = (bytes_eq-Decides role (codes "type")).1 q in cc) p)

abbrev NotesAre : Unit {0} → List Word → List Word → Type 0
NotesAre _ ws rest = AreNotes ws rest

notes-end : Ending NotesAre
notes-end = record { value = passed; words = []; read = λ after. notes_are.no_notes after }

-- what follows the first note
abbrev SecondIs : Unit {0} → List Word → List Word → Type 0
SecondIs _ ws rest = (w : Word) (front : List Word) → Is (terminal.Mark Comma) 0 w → notes_are.IsGeneral 0 front ws → AreNotes (w ∷ front) rest

second-ends : Ending SecondIs
second-ends = record { value = passed; words = []; read = λ after w front m p. notes_are.one_note w front after m p }

finds-second : (room : ℕ) (ts : List Lexeme) → Finds SecondIs ts (second_note (inner_notes room) (first_terminal ts) ts)
unfolding first_terminal lexemes_behind
finds-second room ts = cases ts
  where
    none : (us : List Lexeme) → Finds SecondIs us (found passed us)
    none us = finds-none SecondIs us passed (λ after w front m p. notes_are.one_note w front after m p)

    go : (t : Lexeme) (us : List Lexeme) (x : Terminal) → terminal_of t ≡ x → Finds SecondIs (t ∷ us) (second_note (inner_notes room) x (t ∷ us))
    go t us (terminal.Mark Comma) e =
        finds-token (GeneralIs 0) SecondIs t 0 us (general (inner_notes room) us) (finds-general 0 (inner_notes room) (finds-inner_notes 0 room) us)
        (λ x ws rest p w front m q. notes_are.two_notes w (word t 0) front ws rest m q (here t (terminal.Mark Comma) 0 e) p)
    go t us _ e = none (t ∷ us)

    cases : (us : List Lexeme) → Finds SecondIs us (second_note (inner_notes room) (first_terminal us) us)
    cases [] = none []
    cases (t ∷ us) = go t us (terminal_of t) refl

finds-notes : (room : ℕ) (ts : List Lexeme) → Finds NotesAre ts (notes (inner_notes room) ts)
unfolding notes first_terminal lexemes_behind
finds-notes room ts = cases ts
  where
    none : (us : List Lexeme) → Finds NotesAre us (found passed us)
    none us = finds-none NotesAre us passed (λ after. notes_are.no_notes after)

    go : (t : Lexeme) (us : List Lexeme) (x : Terminal) → terminal_of t ≡ x → Finds NotesAre (t ∷ us) (notes_by (inner_notes room) x (t ∷ us))
    go t us (terminal.Mark Comma) e =
        finds-behind NotesAre t 0 us _
        (finds-bind (GeneralIs 0) (λ _. SecondIs) (λ y ws rest. AreNotes (word t 0 ∷ ws) rest) us (general (inner_notes room) us) _ (finds-general 0 (inner_notes room) (finds-inner_notes 0 room) us) (λ _. second-ends) (λ _ mid. finds-second room mid)
        (λ x y ws mid rest p q. q (word t 0) ws (here t (terminal.Mark Comma) 0 e) p))
    go t us _ e = none (t ∷ us)

    cases : (us : List Lexeme) → Finds NotesAre us (notes_by (inner_notes room) (first_terminal us) us)
    cases [] = none []
    cases (t ∷ us) = go t us (terminal_of t) refl

-- the tokens of an annotated formula between its keyword and its body
record HeadIs (h : Head) (ws rest : List Word) : Type 0 where
  o : Word
  l : Word
  c : Word
  r : Word
  e : Word
  whole : ws ≡ o ∷ l ∷ c ∷ r ∷ e ∷ rest
  opens : Is (terminal.Mark Open) 0 o
  label : IsLabel l
  comma : Is (terminal.Mark Comma) 0 c
  role : Is terminal.Lower 0 r
  second_comma : Is (terminal.Mark Comma) 0 e
  is : h ≡ statement_head (name l) (labelled r)

abbrev Head1 : Head → List Word → List Word → Type 0
Head1 h ws rest = (o : Word) → Is (terminal.Mark Open) 0 o → HeadIs h (o ∷ ws) rest

abbrev Head2 : SelectedTree → Head → List Word → List Word → Type 0
Head2 n h ws rest = (o l : Word) → Is (terminal.Mark Open) 0 o → IsLabel l → n ≡ labelled l → HeadIs h (o ∷ l ∷ ws) rest

abbrev Head3 : SelectedTree → Head → List Word → List Word → Type 0
Head3 n h ws rest = (o l c : Word) → Is (terminal.Mark Open) 0 o → IsLabel l → n ≡ labelled l → Is (terminal.Mark Comma) 0 c → HeadIs h (o ∷ l ∷ c ∷ ws) rest

abbrev Head4 : SelectedTree → SelectedTree → Head → List Word → List Word → Type 0
Head4 n m h ws rest = (o l c r : Word) → Is (terminal.Mark Open) 0 o → IsLabel l → n ≡ labelled l → Is (terminal.Mark Comma) 0 c → Is terminal.Lower 0 r → m ≡ labelled r → HeadIs h (o ∷ l ∷ c ∷ r ∷ ws) rest

abbrev Head5 : SelectedTree → SelectedTree → Head → List Word → List Word → Type 0
Head5 n m h ws rest = (o l c r e : Word) → Is (terminal.Mark Open) 0 o → IsLabel l → n ≡ labelled l → Is (terminal.Mark Comma) 0 c → Is terminal.Lower 0 r → m ≡ labelled r → Is (terminal.Mark Comma) 0 e → HeadIs h (o ∷ l ∷ c ∷ r ∷ e ∷ ws) rest

-- each part of a head, before what stands behind it
comma-role : (n m : SelectedTree) (h : Head) (w : Word) (ws rest : List Word) → Is (terminal.Mark Comma) 0 w → Head5 n m h ws rest → Head4 n m h (w ∷ ws) rest
comma-role n m h w ws rest p k o l c r u q e v z m' = k o l c r w u q e v z m' p

role-behind : (n : SelectedTree) (w : Word) (h : Head) (ws rest : List Word) → Is terminal.Lower 0 w → Head4 n (labelled w) h ws rest → Head3 n h (w ∷ ws) rest
role-behind n w h ws rest p k o l c u q e v = k o l c w u q e v p refl

comma-label : (n : SelectedTree) (h : Head) (w : Word) (ws rest : List Word) → Is (terminal.Mark Comma) 0 w → Head3 n h ws rest → Head2 n h (w ∷ ws) rest
comma-label n h w ws rest p k o l u q e = k o l w u q e p

label-behind : (w : Word) (h : Head) (ws rest : List Word) → IsLabel w → Head2 (labelled w) h ws rest → Head1 h (w ∷ ws) rest
label-behind w h ws rest p k o u = k o w u p refl

open-head : (h : Head) (w : Word) (ws rest : List Word) → Is (terminal.Mark Open) 0 w → Head1 h ws rest → HeadIs h (w ∷ ws) rest
open-head h w ws rest p k = k w p

-- a head ends at each of its places
head5-ends : (n m : SelectedTree) → Ending (Head5 n m)
head5-ends n m = record {
  value = statement_head n.name m;
  words = [];
  read = λ after o l c r e p q k u v w z. record { o = o; l = l; c = c; r = r; e = e; whole = refl; opens = p; label = q; comma = u; role = v; second_comma = z; is = ap (λ (a : SelectedTree). statement_head a.name m) k ∙ ap (statement_head (name l)) w };
}

head4-ends : (n m : SelectedTree) → Ending (Head4 n m)
head4-ends n m = past-ends (Head5 n m) (Head4 n m) Comma 0 (head5-ends n m) (comma-role n m)

head3-ends : (n : SelectedTree) → Ending (Head3 n)
head3-ends n = ending-then (OneName (Is terminal.Lower 0)) (Head4 n) (Head3 n) (after-name (Is terminal.Lower 0) (Head4 n) (Head3 n) (role-behind n)) role-ends (head4-ends n)

head2-ends : (n : SelectedTree) → Ending (Head2 n)
head2-ends n = past-ends (Head3 n) (Head2 n) Comma 0 (head3-ends n) (comma-label n)

head1-ends : Ending Head1
head1-ends = ending-then (OneName IsLabel) Head2 Head1 (after-name IsLabel Head2 Head1 label-behind) label-ends head2-ends

finds-head : (ts : List Lexeme) → Finds HeadIs ts (head ts)
unfolding head
finds-head ts =
    finds-past Head1 HeadIs Open 0 ts _ head1-ends
    (λ t1. finds-after IsLabel Head2 Head1 t1 (label t1) _ (finds-label t1) head2-ends
    (λ n t2. finds-past (Head3 n) (Head2 n) Comma 0 t2 _ (head3-ends n)
    (λ t3. finds-after (Is terminal.Lower 0) (Head4 n) (Head3 n) t3 (role t3) _ (finds-role t3) (head4-ends n)
    (λ m t4. finds-past (Head5 n m) (Head4 n m) Comma 0 t4 (λ t5. found (statement_head n.name m) t5) (head5-ends n m)
    (λ t5. finds-none (Head5 n m) t5 (statement_head n.name m)
    (λ after o l c r e p q k u v w z. record { o = o; l = l; c = c; r = r; e = e; whole = refl; opens = p; label = q; comma = u; role = v; second_comma = z; is = ap (λ (a : SelectedTree). statement_head a.name m) k ∙ ap (statement_head (name l)) w }))
    (comma-role n m))
    (role-behind n))
    (comma-label n))
    label-behind)
    open-head

-- the end of a statement
abbrev EndIs : Unit {0} → List Word → List Word → Type 0
EndIs _ ws rest = IsEnd ws rest

close-stop : (x : Unit {0}) (w : Word) (ws rest : List Word) → Is (terminal.Mark Close) 0 w → Expected Stop 0 x ws rest → IsEnd (w ∷ ws) rest
close-stop x w ws rest p k = subst (λ us. IsEnd (w ∷ us) rest) (sym k.whole) (is.ends w k.token rest p k.is)

finish-ends : Ending EndIs
finish-ends = past-ends (Expected Stop 0) EndIs Close 0 (expected-ends Stop 0) close-stop

finds-finish : (ts : List Lexeme) → Finds EndIs ts (finish ts)
unfolding finish
finds-finish ts = finds-past (Expected Stop 0) EndIs Close 0 ts (λ mid. expect Stop mid) (expected-ends Stop 0) (λ mid. finds-expect Stop 0 mid) close-stop

-- an annotated formula behind its keyword
abbrev AnnotatedIs : StatementTree → List Word → List Word → Type 0
AnnotatedIs s ws rest = (k : Word) → IsKeyword (codes "thf") k → IsStatement (k ∷ ws) s rest

record Annotated1 (h : Head) (s : StatementTree) (ws rest : List Word) : Type 0 where
  b : BodyTree
  mid : List Word
  behind : List Word
  is_body : IsBody h.role.name ws b mid
  are_notes : AreNotes mid behind
  is_end : IsEnd behind rest
  whole : s ≡ annotated_of h b

abbrev Annotated2 : Head → BodyTree → StatementTree → List Word → List Word → Type 0
Annotated2 h b s ws rest = (behind : List Word) × (s ≡ annotated_of h b) × AreNotes ws behind × IsEnd behind rest

abbrev Annotated3 : Head → BodyTree → StatementTree → List Word → List Word → Type 0
Annotated3 h b s ws rest = (s ≡ annotated_of h b) × IsEnd ws rest

annotated-joined : (h : Head) (s : StatementTree) (ws mid rest : List Word) → HeadIs h ws mid → Annotated1 h s mid rest → (k : Word) → IsKeyword (codes "thf") k → IsStatement (k ∷ ws) s rest
annotated-joined h s ws mid rest p q k w =
    subst (λ us. IsStatement (k ∷ us) s rest) (sym p.whole)
    (subst (λ x. IsStatement (k ∷ p.o ∷ p.l ∷ p.c ∷ p.r ∷ p.e ∷ mid) x rest) (sym (q.whole ∙ ap (λ (g : Head). annotated_of g q.b) p.is))
    (is.annotated_statement k p.o p.l p.c p.r p.e mid q.mid q.behind rest q.b w p.opens p.label p.comma p.role p.second_comma (subst (λ (g : Head). IsBody g.role.name mid q.b q.mid) p.is q.is_body) q.are_notes q.is_end))

notes-behind : (h : Head) (b : BodyTree) (x : Unit {0}) (s : StatementTree) (ws mid rest : List Word) → AreNotes ws mid → Annotated3 h b s mid rest → Annotated2 h b s ws rest
notes-behind h b x s ws mid rest p q = (mid, q.0, p, q.1)

body-behind : (h : Head) (b : BodyTree) (s : StatementTree) (ws mid rest : List Word) → IsBody h.role.name ws b mid → Annotated2 h b s mid rest → Annotated1 h s ws rest
body-behind h b s ws mid rest p q = record { b = b; mid = mid; behind = q.0; is_body = p; are_notes = q.2; is_end = q.3; whole = q.1 }

-- an annotated formula ends behind its notes, its body and its head
annotated3-ends : (h : Head) (b : BodyTree) → Ending (Annotated3 h b)
annotated3-ends h b = ending-map EndIs (Annotated3 h b) (λ _. annotated_of h b) finish-ends (λ x ws rest p. (refl, p))

annotated2-ends : (h : Head) (b : BodyTree) → Ending (Annotated2 h b)
annotated2-ends h b = ending-then NotesAre (λ _. Annotated3 h b) (Annotated2 h b) (notes-behind h b) notes-end (λ _. annotated3-ends h b)

annotated1-ends : (h : Head) → Ending (Annotated1 h)
annotated1-ends h = ending-then (BodyIs h.role.name) (Annotated2 h) (Annotated1 h) (body-behind h) (body-ends h.role.name) (annotated2-ends h)

finds-annotated : (room : ℕ) (ts : List Lexeme) → Finds AnnotatedIs ts (annotated room ts)
unfolding annotated
finds-annotated room ts =
    finds-bind HeadIs Annotated1 AnnotatedIs ts (head ts) _ (finds-head ts) annotated1-ends
    (λ h t1. finds-bind (BodyIs h.role.name) (Annotated2 h) (Annotated1 h) t1 (body_reader room h.role.name t1) _ (finds-body room h.role.name t1) (annotated2-ends h)
    (λ b t2. finds-bind NotesAre (λ _. Annotated3 h b) (Annotated2 h b) t2 (notes (inner_notes room) t2) _ (finds-notes room t2) (λ _. annotated3-ends h b)
    (λ _ t3. finds-map EndIs (Annotated3 h b) (λ _. annotated_of h b) t3 (finish t3) (finds-finish t3) (λ x ws rest p. (refl, p)))
    (notes-behind h b))
    (body-behind h))
    (λ h s ws mid rest p q k w. annotated-joined h s ws mid rest p q k w)

-- includes

abbrev pub LabelsAre : List SelectedTree → List SelectedTree → List Word → List Word → Type 0
LabelsAre ns ms ws rest = (n : SelectedTree) × (ms ≡ ns ++ n ∷ []) × OneName IsLabel n ws rest

finds-more_label : (ns : List SelectedTree) (ts : List Lexeme) → Finds (LabelsAre ns) ts (more_label ns ts)
finds-more_label ns ts = finds-map (OneName IsLabel) (LabelsAre ns) (λ n. ns ++ n ∷ []) ts (label ts) (finds-label ts) (λ n ws rest p. (n, refl, p))

labels-end : (ns : List SelectedTree) → Ending (LabelsAre ns)
labels-end ns = ending-map (OneName IsLabel) (LabelsAre ns) (λ n. ns ++ n ∷ []) label-ends (λ n ws rest p. (n, refl, p))

record LabelsFound (ns ms : List SelectedTree) (ws rest : List Word) : Type 0 where
  new : List SelectedTree
  whole : ms ≡ ns ++ new
  are : AreLabels ws new rest

one-label : (n : SelectedTree) (ws rest : List Word) → OneName IsLabel n ws rest → AreLabels ws (n ∷ []) rest
one-label n ws rest p = subst (λ us. AreLabels us (n ∷ []) rest) (sym p.whole) (subst (λ m. AreLabels (p.token ∷ rest) (m ∷ []) rest) (sym p.named) (is.last_label p.token rest p.is))

more-labels : (n : SelectedTree) (v : Word) (ws mid rest : List Word) (ns : List SelectedTree) → OneName IsLabel n ws (v ∷ mid) → Is (terminal.Mark Comma) 0 v → AreLabels mid ns rest → AreLabels ws (n ∷ ns) rest
more-labels n v ws mid rest ns p c h = subst (λ us. AreLabels us (n ∷ ns) rest) (sym p.whole) (subst (λ m. AreLabels (p.token ∷ v ∷ mid) (m ∷ ns) rest) (sym p.named) (is.more_labels p.token v mid rest ns p.is c h))

labels-separated : (ns ms : List SelectedTree) (ws rest : List Word) → Separated LabelsAre 0 ns ms ws rest → LabelsFound ns ms ws rest
labels-separated ns ms ws rest (last _ _ _ _ p) = record { new = p.0 ∷ []; whole = p.1; are = one-label p.0 ws rest p.2 }
labels-separated ns ms ws rest (more _ x _ _ mid _ w p c q) =
    let later = labels-separated x ms mid rest q in
    record {
      new = p.0 ∷ later.new;
      whole = later.whole ∙ ap (λ us. us ++ later.new) p.1 ∙ append_assoc ns (p.0 ∷ []) later.new;
      are = more-labels p.0 w ws mid rest later.new p.2 c later.are;
    }

abbrev LabelListIs : List SelectedTree → List Word → List Word → Type 0
LabelListIs ns ws rest = AreLabels ws ns rest

labels-of : (ms : List SelectedTree) (ws rest : List Word) → Separated LabelsAre 0 [] ms ws rest → AreLabels ws ms rest
labels-of ms ws rest p = let f = labels-separated [] ms ws rest p in subst (λ ns. AreLabels ws ns rest) (sym f.whole) f.are

label_list-ends : Ending LabelListIs
label_list-ends = ending-as (λ ms ws rest. Separated LabelsAre 0 [] ms ws rest) LabelListIs (separated-ends more_label LabelsAre 0 [] (labels-end [])) labels-of

finds-labels : (ts : List Lexeme) → Finds LabelListIs ts (labels ts)
unfolding labels
finds-labels ts = finds-as (λ ms ws rest. Separated LabelsAre 0 [] ms ws rest) LabelListIs ts _ (finds-commas more_label LabelsAre 0 labels-end finds-more_label (suc (length ts)) [] ts) labels-of

-- a selection behind its comma
abbrev NamesAre : Option (List SelectedTree) → List Word → List Word → Type 0
NamesAre only ws rest = (w : Word) → Is (terminal.Mark Comma) 0 w → IsSelection (w ∷ ws) only rest

abbrev Names1 : Option (List SelectedTree) → List Word → List Word → Type 0
Names1 only ws rest = (w v : Word) → Is (terminal.Mark Comma) 0 w → Is (terminal.Mark OpenList) 0 v → IsSelection (w ∷ v ∷ ws) only rest

abbrev Names2 : List SelectedTree → Option (List SelectedTree) → List Word → List Word → Type 0
Names2 ns only ws rest = (u : Word) × (ws ≡ u ∷ rest) × Is (terminal.Mark CloseList) 0 u × (only ≡ Some ns)

abbrev Names3 : List SelectedTree → Option (List SelectedTree) → List Word → List Word → Type 0
Names3 ns only ws rest = (only ≡ Some ns) × (ws ≡ rest)

close-names : (ns : List SelectedTree) (only : Option (List SelectedTree)) (w : Word) (ws rest : List Word) → Is (terminal.Mark CloseList) 0 w → Names3 ns only ws rest → Names2 ns only (w ∷ ws) rest
close-names ns only w ws rest p k = (w, ap (λ us. w ∷ us) k.1, p, k.0)

names-of : (ns : List SelectedTree) (only : Option (List SelectedTree)) (ws mid rest : List Word) → AreLabels ws ns mid → Names2 ns only mid rest → Names1 only ws rest
names-of ns only ws mid rest p q w v c o = subst (λ x. IsSelection (w ∷ v ∷ ws) x rest) (sym q.3) (is.only w v q.0 ws rest ns c o (subst (λ us. AreLabels ws ns us) q.1 p) q.2)

-- selected names end with a name and `]`
names3-ends : (ns : List SelectedTree) → Ending (Names3 ns)
names3-ends ns = record { value = Some ns; words = []; read = λ after. (refl, refl) }

names2-ends : (ns : List SelectedTree) → Ending (Names2 ns)
names2-ends ns = past-ends (Names3 ns) (Names2 ns) CloseList 0 (names3-ends ns) (close-names ns)

names1-ends : Ending Names1
names1-ends = ending-then LabelListIs Names2 Names1 names-of label_list-ends names2-ends

finds-names : (ts : List Lexeme) → Finds NamesAre ts (names ts)
unfolding names
finds-names ts =
    finds-past Names1 NamesAre OpenList 0 ts _ names1-ends
    (λ t1. finds-bind LabelListIs Names2 Names1 t1 (labels t1) _ (finds-labels t1) names2-ends
    (λ ns t2. finds-past (Names3 ns) (Names2 ns) CloseList 0 t2 (λ t3. found (Some ns) t3) (names3-ends ns) (λ t3. finds-none (Names3 ns) t3 (Some ns) (λ after. (refl, refl))) (close-names ns))
    names-of)
    (λ only v ws rest p k w c. k w v c p)

abbrev SelectionIs : Option (List SelectedTree) → List Word → List Word → Type 0
SelectionIs only ws rest = IsSelection ws only rest

selection-ends : Ending SelectionIs
selection-ends = record { value = None; words = []; read = λ after. is.everything after }

finds-selection : (ts : List Lexeme) → Finds SelectionIs ts (selection ts)
unfolding selection first_terminal lexemes_behind
finds-selection ts = cases ts
  where
    none : (us : List Lexeme) → Finds SelectionIs us (found None us)
    none us = finds-none SelectionIs us None (λ after. is.everything after)

    go : (t : Lexeme) (us : List Lexeme) (x : Terminal) → terminal_of t ≡ x → Finds SelectionIs (t ∷ us) (selection_reader x (t ∷ us))
    go t us (terminal.Mark Comma) e = finds-token NamesAre SelectionIs t 0 us (names us) (finds-names us) (λ only ws rest p. p (word t 0) (here t (terminal.Mark Comma) 0 e))
    go t us _ e = none (t ∷ us)

    cases : (us : List Lexeme) → Finds SelectionIs us (selection_reader (first_terminal us) us)
    cases [] = none []
    cases (t ∷ us) = go t us (terminal_of t) refl

-- an include behind its keyword
abbrev IncludeIs : StatementTree → List Word → List Word → Type 0
IncludeIs s ws rest = (k : Word) → IsKeyword (codes "include") k → IsStatement (k ∷ ws) s rest

abbrev Include1 : StatementTree → List Word → List Word → Type 0
Include1 s ws rest = (k o : Word) → IsKeyword (codes "include") k → Is (terminal.Mark Open) 0 o → IsStatement (k ∷ o ∷ ws) s rest

abbrev Include2 : SelectedTree → StatementTree → List Word → List Word → Type 0
Include2 f s ws rest = (only : Option (List SelectedTree)) × (s ≡ include_tree f.at f.name only) × ((behind : List Word) × IsSelection ws only behind × IsEnd behind rest)

abbrev Include3 : SelectedTree → Option (List SelectedTree) → StatementTree → List Word → List Word → Type 0
Include3 f only s ws rest = (s ≡ include_tree f.at f.name only) × IsEnd ws rest

selection-behind : (f : SelectedTree) (only : Option (List SelectedTree)) (s : StatementTree) (ws mid rest : List Word) → IsSelection ws only mid → Include3 f only s mid rest → Include2 f s ws rest
selection-behind f only s ws mid rest p q = (only, q.0, (mid, p, q.1))

file-behind : (w : Word) (s : StatementTree) (ws rest : List Word) → Is terminal.Quoted 0 w → Include2 (labelled w) s ws rest → Include1 s (w ∷ ws) rest
file-behind w s ws rest p q k o m n = subst (λ x. IsStatement (k ∷ o ∷ w ∷ ws) x rest) (sym q.1) (is.include_statement k o w ws q.2.0 rest q.0 m n p q.2.1 q.2.2)

open-include : (s : StatementTree) (o : Word) (ws rest : List Word) → Is (terminal.Mark Open) 0 o → Include1 s ws rest → IncludeIs s (o ∷ ws) rest
open-include s o ws rest p q k m = q k o m p

-- an include ends at each of its places
include3-ends : (f : SelectedTree) (only : Option (List SelectedTree)) → Ending (Include3 f only)
include3-ends f only = ending-map EndIs (Include3 f only) (λ _. include_tree f.at f.name only) finish-ends (λ x ws rest p. (refl, p))

include2-ends : (f : SelectedTree) → Ending (Include2 f)
include2-ends f = ending-then SelectionIs (Include3 f) (Include2 f) (selection-behind f) selection-ends (include3-ends f)

include1-ends : Ending Include1
include1-ends = ending-then (OneName (Is terminal.Quoted 0)) Include2 Include1 (after-name (Is terminal.Quoted 0) Include2 Include1 file-behind) quoted-ends include2-ends

include-ends : Ending IncludeIs
include-ends = past-ends Include1 IncludeIs Open 0 include1-ends open-include

finds-include : (ts : List Lexeme) → Finds IncludeIs ts (include ts)
unfolding include
finds-include ts =
    finds-past Include1 IncludeIs Open 0 ts _ include1-ends
    (λ t1. finds-after (Is terminal.Quoted 0) Include2 Include1 t1 (quoted_reader t1) _ (finds-quoted t1) include2-ends
    (λ f t2. finds-bind SelectionIs (Include3 f) (Include2 f) t2 (selection t2) _ (finds-selection t2) (include3-ends f)
    (λ only t3. finds-map EndIs (Include3 f only) (λ _. include_tree f.at f.name only) t3 (finish t3) (finds-finish t3) (λ x ws rest p. (refl, p)))
    (selection-behind f))
    file-behind)
    open-include

-- statements

abbrev pub StatementIs : StatementTree → List Word → List Word → Type 0
StatementIs s ws rest = IsStatement ws s rest

-- an include is a statement
statement-ends : Ending StatementIs
statement-ends = record { value = include-ends.value; words = include_word ∷ include-ends.words; read = λ after. include-ends.read after include_word (record { lower = include-is; spelled = refl }) }

pub finds-statement : (room : ℕ) (ts : List Lexeme) → Finds StatementIs ts (statement room ts)
unfolding statement keyword first_terminal first_text lexemes_behind
finds-statement room [] = stopped-here StatementIs [] statement-ends
finds-statement room (t ∷ ts) = go (keyword (t ∷ ts)) refl
  where
    lower_word : (keyword (t ∷ ts) ≡ Unknown → ⊥) → terminal_of t ≡ terminal.Lower
    lower_word h = keyword-first (t ∷ ts) h

    text_of : (x : Terminal) (k : Keyword) → x ≡ terminal.Lower → keyword_by x t.text ≡ k → keyword_in t.text ≡ k
    text_of x k e h = ap (λ y. keyword_by y t.text) (sym e) ∙ h

    thf : keyword_in t.text ≡ Thf → t.text ≡ codes "thf"
    thf h = first_of (bytes_eq t.text (codes "thf")) refl h
      where
        first_of : (b : Bool) → bytes_eq t.text (codes "thf") ≡ b → (if b then Thf else (if bytes_eq t.text (codes "include") then Include else Unknown)) ≡ Thf → t.text ≡ codes "thf"
        first_of true e k = (bytes_eq-Decides t.text (codes "thf")).0 e
        first_of false e k = second_of (bytes_eq t.text (codes "include")) k
          where
            second_of : (b : Bool) → (if b then Include else Unknown) ≡ Thf → t.text ≡ codes "thf"
            second_of true k = cc
            second_of false k = cc

    included : keyword_in t.text ≡ Include → t.text ≡ codes "include"
    included h = first_of (bytes_eq t.text (codes "thf")) h
      where
        second_of : (b : Bool) → bytes_eq t.text (codes "include") ≡ b → (if b then Include else Unknown) ≡ Include → t.text ≡ codes "include"
        second_of true e k = (bytes_eq-Decides t.text (codes "include")).0 e
        second_of false e k = cc

        first_of : (b : Bool) → (if b then Thf else (if bytes_eq t.text (codes "include") then Include else Unknown)) ≡ Include → t.text ≡ codes "include"
        first_of true k = cc
        first_of false k = second_of (bytes_eq t.text (codes "include")) refl k

    go : (k : Keyword) → keyword (t ∷ ts) ≡ k → Finds StatementIs (t ∷ ts) (statement_by room k (t ∷ ts))
    go Thf e =
        let low : terminal_of t ≡ terminal.Lower = lower_word (λ u. let q : Thf ≡ Unknown = sym e ∙ u in cc) in
        finds-token AnnotatedIs StatementIs t 0 ts (annotated room ts) (finds-annotated room ts)
        (λ s ws rest p. p (word t 0) (record { lower = here t terminal.Lower 0 low; spelled = thf (text_of (terminal_of t) Thf low e) }))
    go Include e =
        let low : terminal_of t ≡ terminal.Lower = lower_word (λ u. let q : Include ≡ Unknown = sym e ∙ u in cc) in
        finds-token IncludeIs StatementIs t 0 ts (include ts) (finds-include ts)
        (λ s ws rest p. p (word t 0) (record { lower = here t terminal.Lower 0 low; spelled = included (text_of (terminal_of t) Include low e) }))
    go Unknown e = stopped-here StatementIs (t ∷ ts) statement-ends

-- the statements up to the end
pub record FileIs (so_far all : List StatementTree) (ws rest : List Word) : Type 0 where
  pub new : List StatementTree
  pub whole : all ≡ so_far ++ new
  pub file : (ss : List StatementTree) → IsFile rest ss → IsFile ws (new ++ ss)

file-ends : (ss : List StatementTree) → Ending (FileIs ss)
file-ends ss = record { value = ss; words = []; read = λ after. record { new = []; whole = sym (append-nil ss); file = λ rs f. f } }

finds-statements : (room n : ℕ) (ss : List StatementTree) (ts : List Lexeme) → Finds (FileIs ss) ts (statements room n ss ts)
unfolding statements
finds-statements room zero ss ts = stopped-here (FileIs ss) ts (file-ends ss)
finds-statements room (suc n) ss ts = go (λ rs us. finds-statements room n rs us) (is_end (first_terminal ts)) refl
  where
    go : ((rs : List StatementTree) (us : List Lexeme) → Finds (FileIs rs) us (statements room n rs us)) → (b : Bool) → is_end (first_terminal ts) ≡ b → Finds (FileIs ss) ts (statements_by room (statements room n) ss b ts)
    go again true e = finds-none (FileIs ss) ts ss (λ after. record { new = []; whole = sym (append-nil ss); file = λ rs f. f })
    go again false e =
        finds-bind StatementIs (λ s. FileIs (ss ++ s ∷ [])) (FileIs ss) ts (statement room ts) _ (finds-statement room ts) (λ s. file-ends (ss ++ s ∷ [])) (λ s mid. again (ss ++ s ∷ []) mid)
        (λ s all ws mid rest p q. record {
          new = s ∷ q.new;
          whole = q.whole ∙ append_assoc ss (s ∷ []) q.new;
          file = λ rs f. is.more_statements ws mid s (q.new ++ rs) p (q.file rs f);
        })

pub finds-file : (room : ℕ) (ss : List StatementTree) (ts : List Lexeme) → Finds (FileIs ss) ts (file room ss ts)
unfolding file
finds-file room ss ts = finds-statements room (suc (length ts)) ss ts

-- behind the statements that are found stands the end
statements-end : (room n : ℕ) (ss tree : List StatementTree) (ts rest : List Lexeme) → statements room n ss ts ≡ found tree rest → is_end (first_terminal rest) ≡ true
unfolding statements
statements-end room zero ss tree ts rest h = cc
statements-end room (suc n) ss tree ts rest h = go (λ so_far us k. statements-end room n so_far tree us rest k) (is_end (first_terminal ts)) refl h
  where
    later : ((so_far : List StatementTree) (us : List Lexeme) → statements room n so_far us ≡ found tree rest → is_end (first_terminal rest) ≡ true) → (o : Outcome StatementTree) → (o >>= λ s us. statements room n (ss ++ s ∷ []) us) ≡ found tree rest → is_end (first_terminal rest) ≡ true
    later again (found s us) k = again (ss ++ s ∷ []) us k
    later again (wrong us) k = cc
    later again (deep us) k = cc

    go : ((so_far : List StatementTree) (us : List Lexeme) → statements room n so_far us ≡ found tree rest → is_end (first_terminal rest) ≡ true) → (b : Bool) → is_end (first_terminal ts) ≡ b → statements_by room (statements room n) ss b ts ≡ found tree rest → is_end (first_terminal rest) ≡ true
    go again true e k = let q : ts ≡ rest = cc in ap (λ us. is_end (first_terminal us)) (sym q) ∙ e
    go again false e k = later again (statement room ts) k

pub file-end : (room : ℕ) (ss tree : List StatementTree) (ts rest : List Lexeme) → file room ss ts ≡ found tree rest → is_end (first_terminal rest) ≡ true
unfolding file
file-end room ss tree ts rest h = statements-end room (suc (length ts)) ss tree ts rest h
