-- Notes are read as the grammar says.
use Rattle.std.proofs.Common.{◌≡◌, ℕ, zero, suc, ◌+◌, ◌≤◌, List, [], ◌∷◌, length, Bool, true, false, Option, refl, sym, ap, subst, ◌∙◌, arith}
use Rattle.thf_grammar.specs.declared.terminal.Mark.{Mark}
use Rattle.thf_grammar.specs.declared.terminal.Mark.TheVariants.{Open, Close, OpenList, CloseList, Comma, Colon}
use Rattle.thf_grammar.specs.declared.terminal.Terminal.{Terminal}
use Rattle.thf_grammar.specs.declared.terminal.Terminal.TheVariants as terminal
use Rattle.thf_grammar.specs.Words.{Lexeme, Word, plain, terminal_of, Is, IsName, lower, quoted}
use Rattle.thf_grammar.specs.Notes as is
use Rattle.thf_grammar.specs.Notes.{IsGeneral, AreGenerals, IsData, AreNotes}
use Rattle.thf_parse.specs.Internal.Outcome.{found, wrong, Reader, ◌>>=◌, first_terminal, lexemes_behind, expect}
use Rattle.thf_grammar.specs.Internal.Marks.{is_mark}
use Rattle.thf_parse.specs.Internal.NoteReader.{passed, NoteReaders, called_by, called, data_by, data_at, listed_by, list_reader, paired_by, paired, general_by, general, generals, inner_notes, second_note, notes_by, notes}
use Rattle.thf_parse.proofs.Locals.{IsLocal, IsLocalAt, AreLocal, at, local-found, local-wrong, local-behind, local-bind, local-terminal, enter-at}
use Rattle.thf_parse.proofs.Finds.{word, Ending, ending-then, Finds, stopped-here, stopped-behind, ending-as, finds-bind, finds-token, finds-as, finds-one, finds-none, FindIn, finds-enter}
use Rattle.thf_parse.proofs.Endings.{mark_word, mark-is, upper_word, upper-is}
use Rattle.thf_parse.proofs.Goes.{Goes, GoIn, goes-bind, goes-token, goes-found, goes-enter}
use Rattle.thf_parse.proofs.MarkLaws.{local-expect, goes-expect, expected-ends, finds-expect, Expected}
use Rattle.thf_parse.proofs.CommaLaws.{local-all, Separated, last, more, finds-commas, goes-commas}

pub record LocalNotes (r : NoteReaders) : Type 0 where
  pub general : IsLocal r.general
  pub generals : IsLocal r.generals

module _ (inside : Option NoteReaders) (l : AreLocal LocalNotes inside) where
  called_by-at : (x : Terminal) → IsLocalAt x (called_by inside x)
  called_by-at (terminal.Mark Open) =
      enter-at (terminal.Mark Open) LocalNotes inside (λ r ts. r.generals (lexemes_behind ts) >>= λ _ rest. expect Close rest) l
      (λ r k. local-behind (terminal.Mark Open) (λ ts. r.generals ts >>= λ _ rest. expect Close rest) refl (local-bind r.generals (λ _ rest. expect Close rest) k.generals (λ _. local-expect Close)))
  called_by-at _ = at _ (λ ts. found passed ts) (local-found passed)

  local-called : IsLocal (called inside)
  unfolding called
  local-called = local-terminal (called_by inside) called_by-at

  data_by-at : (x : Terminal) → IsLocalAt x (data_by inside x)
  data_by-at terminal.Lower = local-behind terminal.Lower (called inside) refl local-called
  data_by-at terminal.Quoted = local-behind terminal.Quoted (called inside) refl local-called
  data_by-at terminal.Upper = local-behind terminal.Upper (λ ts. found passed ts) refl (local-found passed)
  data_by-at terminal.Integer = local-behind terminal.Integer (λ ts. found passed ts) refl (local-found passed)
  data_by-at terminal.Distinct = local-behind terminal.Distinct (λ ts. found passed ts) refl (local-found passed)
  data_by-at _ = at _ (λ ts. wrong ts) local-wrong

  local-data : IsLocal (data_at inside)
  unfolding data_at
  local-data = local-terminal (data_by inside) data_by-at

  local-listed : (generals : Reader (Unit {0})) → IsLocal generals → IsLocal (list_reader generals)
  local-listed generals k = local-terminal (listed_by generals) go
    where
      go : (x : Terminal) → IsLocalAt x (listed_by generals x)
      go (terminal.Mark CloseList) = local-behind (terminal.Mark CloseList) (λ ts. found passed ts) refl (local-found passed)
      go _ = at _ (λ ts. generals ts >>= λ _ rest. expect CloseList rest) (local-bind generals (λ _ rest. expect CloseList rest) k (λ _. local-expect CloseList))

  paired_by-at : (x : Terminal) → IsLocalAt x (paired_by inside x)
  paired_by-at (terminal.Mark Colon) = enter-at (terminal.Mark Colon) LocalNotes inside (λ r ts. r.general (lexemes_behind ts)) l (λ r k. local-behind (terminal.Mark Colon) r.general refl k.general)
  paired_by-at _ = at _ (λ ts. found passed ts) (local-found passed)

  local-paired : IsLocal (paired inside)
  unfolding paired
  local-paired = local-terminal (paired_by inside) paired_by-at

  general_by-at : (x : Terminal) → IsLocalAt x (general_by inside x)
  general_by-at (terminal.Mark OpenList) = enter-at (terminal.Mark OpenList) LocalNotes inside (λ r ts. list_reader r.generals (lexemes_behind ts)) l (λ r k. local-behind (terminal.Mark OpenList) (list_reader r.generals) refl (local-listed r.generals k.generals))
  general_by-at _ = at _ (λ ts. data_at inside ts >>= λ _ rest. paired inside rest) (local-bind (data_at inside) (λ _ rest. paired inside rest) local-data (λ _. local-paired))

  pub local-general : IsLocal (general inside)
  unfolding general
  local-general = local-terminal (general_by inside) general_by-at

  pub local-generals : IsLocal (generals inside)
  unfolding generals
  local-generals = local-all (λ _. general inside) (λ _. local-general) passed

  second-at : (x : Terminal) → IsLocalAt x (second_note inside x)
  second-at (terminal.Mark Comma) = local-behind (terminal.Mark Comma) (general inside) refl local-general
  second-at _ = at _ (λ ts. found passed ts) (local-found passed)

  notes_by-at : (x : Terminal) → IsLocalAt x (notes_by inside x)
  notes_by-at (terminal.Mark Comma) = local-behind (terminal.Mark Comma) (λ ts. general inside ts >>= λ _ rest. second_note inside (first_terminal rest) rest) refl (local-bind (general inside) (λ _ rest. second_note inside (first_terminal rest) rest) local-general (λ _. local-terminal (second_note inside) second-at))
  notes_by-at _ = at _ (λ ts. found passed ts) (local-found passed)

  pub local-notes : IsLocal (notes inside)
  unfolding notes
  local-notes = local-terminal (notes_by inside) notes_by-at

pub local-inner_notes : (room : ℕ) → AreLocal LocalNotes (inner_notes room)
unfolding inner_notes
local-inner_notes zero = tt
local-inner_notes (suc room) = record { general = local-general (inner_notes room) (local-inner_notes room); generals = local-generals (inner_notes room) (local-inner_notes room) }

-- what is found is in the grammar

abbrev pub GeneralIs : ℕ → Unit {0} → List Word → List Word → Type 0
GeneralIs d _ ws rest = IsGeneral d ws rest

abbrev GeneralsAre : ℕ → Unit {0} → List Word → List Word → Type 0
GeneralsAre d _ ws rest = AreGenerals d ws rest

pub record FindNotes (d : ℕ) (r : NoteReaders) : Type 0 where
  pub general : (ts : List Lexeme) → Finds (GeneralIs d) ts (r.general ts)
  pub generals : (ts : List Lexeme) → Finds (GeneralsAre d) ts (r.generals ts)

generals-separated : (d : ℕ) (x y : Unit {0}) (ws rest : List Word) → Separated (λ (_ : Unit {0}). GeneralIs d) d x y ws rest → AreGenerals d ws rest
generals-separated d x y ws rest (last _ _ _ _ p) = is.last_general d ws rest p
generals-separated d x y ws rest (more _ _ _ _ mid _ w p m q) = is.more_generals d ws mid rest w p m (generals-separated d _ _ mid rest q)

-- a variable is data, a general, and a list of them
data-ends : (d : ℕ) → Ending (λ (_ : Unit {0}) ws rest. IsData d ws rest)
data-ends d = record { value = passed; words = upper_word d ∷ []; read = λ after. is.upper_data d (upper_word d) after (upper-is d) }

pub general-ends : (d : ℕ) → Ending (GeneralIs d)
general-ends d = ending-as (λ _ ws rest. IsData d ws rest) (GeneralIs d) (data-ends d) (λ _ ws rest p. is.data_general d ws rest p)

generals-end : (d : ℕ) → Ending (GeneralsAre d)
generals-end d = ending-as (GeneralIs d) (GeneralsAre d) (general-ends d) (λ _ ws rest p. is.last_general d ws rest p)

-- a list of generals and its closing mark
record ListIs (m : Terminal) (d : ℕ) (x : Unit {0}) (ws rest : List Word) : Type 0 where
  closing : Word
  inner : AreGenerals d ws (closing ∷ rest)
  closes : Is m d closing

list-of : (m : Mark) (d : ℕ) (x y : Unit {0}) (ws mid rest : List Word) → AreGenerals d ws mid → Expected m d y mid rest → ListIs (terminal.Mark m) d y ws rest
list-of m d x y ws mid rest p q = record { closing = q.token; inner = subst (λ us. AreGenerals d ws us) q.whole p; closes = q.is }

-- a variable and the closing mark
list-ends : (m : Mark) (d : ℕ) → Ending (ListIs (terminal.Mark m) d)
list-ends m d = ending-then (GeneralsAre d) (λ _. Expected m d) (ListIs (terminal.Mark m) d) (list-of m d) (generals-end d) (λ _. expected-ends m d)

module _ (d : ℕ) (inside : Option NoteReaders) (h : FindIn (FindNotes (suc d)) inside) where
  -- what follows a name
  abbrev CalledIs : Unit {0} → List Word → List Word → Type 0
  CalledIs _ ws rest = (w : Word) → IsName d w → IsData d (w ∷ ws) rest

  finds-list : (generals : Reader (Unit {0})) → ((ts : List Lexeme) → Finds (GeneralsAre (suc d)) ts (generals ts)) → (ts : List Lexeme) → Finds (ListIs (terminal.Mark Close) (suc d)) ts (generals ts >>= λ _ rest. expect Close rest)
  finds-list generals k ts = finds-bind (GeneralsAre (suc d)) (λ _. Expected Close (suc d)) (ListIs (terminal.Mark Close) (suc d)) ts (generals ts) _ (k ts) (λ _. expected-ends Close (suc d)) (λ _ mid. finds-expect Close (suc d) mid) (list-of Close (suc d))

  finds-list_end : (generals : Reader (Unit {0})) → ((ts : List Lexeme) → Finds (GeneralsAre (suc d)) ts (generals ts)) → (ts : List Lexeme) → Finds (ListIs (terminal.Mark CloseList) (suc d)) ts (generals ts >>= λ _ rest. expect CloseList rest)
  finds-list_end generals k ts = finds-bind (GeneralsAre (suc d)) (λ _. Expected CloseList (suc d)) (ListIs (terminal.Mark CloseList) (suc d)) ts (generals ts) _ (k ts) (λ _. expected-ends CloseList (suc d)) (λ _ mid. finds-expect CloseList (suc d) mid) (list-of CloseList (suc d))

  finds-called : (ts : List Lexeme) → Finds CalledIs ts (called inside ts)
  unfolding called first_terminal lexemes_behind
  finds-called ts = cases ts
    where
      none : (us : List Lexeme) → Finds CalledIs us (found passed us)
      none us = finds-none CalledIs us passed (λ after w k. is.name_data d w after k)

      call : (t : Lexeme) → terminal_of t ≡ terminal.Mark Open → (x : Unit {0}) (ws rest : List Word) → ListIs (terminal.Mark Close) (suc d) x ws rest → CalledIs x (word t (suc d) ∷ ws) rest
      call t e x ws rest p w n = is.call_data d w (word t (suc d)) p.closing ws rest n (record { terminal = e; deep = refl }) p.inner p.closes

      go : (t : Lexeme) (us : List Lexeme) (x : Terminal) → terminal_of t ≡ x → Finds CalledIs (t ∷ us) (called_by inside x (t ∷ us))
      go t us (terminal.Mark Open) e =
          finds-enter CalledIs (FindNotes (suc d)) inside (t ∷ us) (t ∷ us) _ h
          (stopped-behind CalledIs t (suc d) us (ending-as (ListIs (terminal.Mark Close) (suc d)) (λ x ws rest. CalledIs x (word t (suc d) ∷ ws) rest) (list-ends Close (suc d)) (call t e)))
          (λ r k. finds-token (ListIs (terminal.Mark Close) (suc d)) CalledIs t (suc d) us _ (finds-list r.generals k.generals us) (call t e))
      go t us _ e = none (t ∷ us)

      cases : (us : List Lexeme) → Finds CalledIs us (called_by inside (first_terminal us) us)
      cases [] = none []
      cases (t ∷ us) = go t us (terminal_of t) refl

  abbrev DataIs : Unit {0} → List Word → List Word → Type 0
  DataIs _ ws rest = IsData d ws rest

  finds-data : (ts : List Lexeme) → Finds DataIs ts (data_at inside ts)
  unfolding data_at first_terminal lexemes_behind
  finds-data [] = stopped-here DataIs [] (data-ends d)
  finds-data (t ∷ ts) = go (terminal_of t) refl
    where
      here : (x : Terminal) → terminal_of t ≡ x → Is x d (word t d)
      here x e = record { terminal = e; deep = refl }

      go : (x : Terminal) → terminal_of t ≡ x → Finds DataIs (t ∷ ts) (data_by inside x (t ∷ ts))
      go terminal.Lower e = finds-token CalledIs DataIs t d ts (called inside ts) (finds-called ts) (λ x ws rest p. p (word t d) (lower (here terminal.Lower e)))
      go terminal.Quoted e = finds-token CalledIs DataIs t d ts (called inside ts) (finds-called ts) (λ x ws rest p. p (word t d) (quoted (here terminal.Quoted e)))
      go terminal.Upper e = finds-one DataIs t d ts passed (λ after. is.upper_data d (word t d) after (here terminal.Upper e))
      go terminal.Integer e = finds-one DataIs t d ts passed (λ after. is.integer_data d (word t d) after (here terminal.Integer e))
      go terminal.Distinct e = finds-one DataIs t d ts passed (λ after. is.distinct_data d (word t d) after (here terminal.Distinct e))
      go _ e = stopped-here DataIs (t ∷ ts) (data-ends d)

  -- what stands behind a `[`
  abbrev ListedIs : Unit {0} → List Word → List Word → Type 0
  ListedIs _ ws rest = (w : Word) → Is (terminal.Mark OpenList) (suc d) w → IsGeneral d (w ∷ ws) rest

  listed-ends : Ending ListedIs
  listed-ends = record { value = passed; words = mark_word CloseList (suc d) ∷ []; read = λ after w o. is.empty_general d w (mark_word CloseList (suc d)) after o (mark-is CloseList (suc d)) }

  finds-listed : (generals : Reader (Unit {0})) → ((ts : List Lexeme) → Finds (GeneralsAre (suc d)) ts (generals ts)) → (ts : List Lexeme) → Finds ListedIs ts (list_reader generals ts)
  unfolding first_terminal lexemes_behind
  finds-listed generals k ts = cases ts
    where
      some : (us : List Lexeme) → Finds ListedIs us (generals us >>= λ _ rest. expect CloseList rest)
      some us = finds-as (ListIs (terminal.Mark CloseList) (suc d)) ListedIs us _ (finds-list_end generals k us) (λ x ws rest p w o. is.list_general d w p.closing ws rest o p.inner p.closes)

      go : (t : Lexeme) (us : List Lexeme) (x : Terminal) → terminal_of t ≡ x → Finds ListedIs (t ∷ us) (listed_by generals x (t ∷ us))
      go t us (terminal.Mark CloseList) e = finds-one ListedIs t (suc d) us passed (λ after w o. is.empty_general d w (word t (suc d)) after o (record { terminal = e; deep = refl }))
      go t us _ e = some (t ∷ us)

      cases : (us : List Lexeme) → Finds ListedIs us (listed_by generals (first_terminal us) us)
      cases [] = some []
      cases (t ∷ us) = go t us (terminal_of t) refl

  -- what follows data
  abbrev PairedIs : Unit {0} → List Word → List Word → Type 0
  PairedIs _ ws rest = (front : List Word) → IsData d front ws → IsGeneral d front rest

  finds-paired : (ts : List Lexeme) → Finds PairedIs ts (paired inside ts)
  unfolding paired first_terminal lexemes_behind
  finds-paired ts = cases ts
    where
      none : (us : List Lexeme) → Finds PairedIs us (found passed us)
      none us = finds-none PairedIs us passed (λ after front p. is.data_general d front after p)

      pair : (t : Lexeme) → terminal_of t ≡ terminal.Mark Colon → (x : Unit {0}) (ws rest : List Word) → IsGeneral (suc d) ws rest → PairedIs x (word t (suc d) ∷ ws) rest
      pair t e x ws rest p front q = is.pair_general d front ws rest (word t (suc d)) q (record { terminal = e; deep = refl }) p

      go : (t : Lexeme) (us : List Lexeme) (x : Terminal) → terminal_of t ≡ x → Finds PairedIs (t ∷ us) (paired_by inside x (t ∷ us))
      go t us (terminal.Mark Colon) e =
          finds-enter PairedIs (FindNotes (suc d)) inside (t ∷ us) (t ∷ us) _ h
          (stopped-behind PairedIs t (suc d) us (ending-as (GeneralIs (suc d)) (λ x ws rest. PairedIs x (word t (suc d) ∷ ws) rest) (general-ends (suc d)) (pair t e)))
          (λ r k. finds-token (GeneralIs (suc d)) PairedIs t (suc d) us (r.general us) (k.general us) (pair t e))
      go t us _ e = none (t ∷ us)

      cases : (us : List Lexeme) → Finds PairedIs us (paired_by inside (first_terminal us) us)
      cases [] = none []
      cases (t ∷ us) = go t us (terminal_of t) refl

  pub finds-general : (ts : List Lexeme) → Finds (GeneralIs d) ts (general inside ts)
  unfolding general first_terminal lexemes_behind
  finds-general ts = cases ts
    where
      plainly : (us : List Lexeme) → Finds (GeneralIs d) us (data_at inside us >>= λ _ rest. paired inside rest)
      plainly us = finds-bind DataIs (λ _. PairedIs) (GeneralIs d) us (data_at inside us) _ (finds-data us) (λ _. record { value = passed; words = []; read = λ after front p. is.data_general d front after p }) (λ _ mid. finds-paired mid) (λ x y ws mid rest p q. q ws p)

      go : (t : Lexeme) (us : List Lexeme) (x : Terminal) → terminal_of t ≡ x → Finds (GeneralIs d) (t ∷ us) (general_by inside x (t ∷ us))
      go t us (terminal.Mark OpenList) e =
          finds-enter (GeneralIs d) (FindNotes (suc d)) inside (t ∷ us) (t ∷ us) _ h
          (stopped-behind (GeneralIs d) t (suc d) us (ending-as ListedIs (λ _ ws rest. IsGeneral d (word t (suc d) ∷ ws) rest) listed-ends (λ x ws rest p. p (word t (suc d)) (record { terminal = e; deep = refl }))))
          (λ r k. finds-token ListedIs (GeneralIs d) t (suc d) us (list_reader r.generals us) (finds-listed r.generals k.generals us) (λ x ws rest p. p (word t (suc d)) (record { terminal = e; deep = refl })))
      go t us _ e = plainly (t ∷ us)

      cases : (us : List Lexeme) → Finds (GeneralIs d) us (general_by inside (first_terminal us) us)
      cases [] = plainly []
      cases (t ∷ us) = go t us (terminal_of t) refl

  pub finds-generals : (ts : List Lexeme) → Finds (GeneralsAre d) ts (generals inside ts)
  unfolding generals
  finds-generals ts = finds-as (λ y ws rest. Separated (λ (_ : Unit {0}). GeneralIs d) d passed y ws rest) (GeneralsAre d) ts _ (finds-commas (λ _. general inside) (λ _. GeneralIs d) d (λ _. general-ends d) (λ _ us. finds-general us) (suc (length ts)) passed ts) (λ y ws rest p. generals-separated d passed y ws rest p)

pub finds-inner_notes : (d room : ℕ) → FindIn (FindNotes (suc d)) (inner_notes room)
unfolding inner_notes
finds-inner_notes d zero = tt
finds-inner_notes d (suc room) = record { general = finds-general (suc d) (inner_notes room) (finds-inner_notes (suc d) room); generals = finds-generals (suc d) (inner_notes room) (finds-inner_notes (suc d) room) }

-- notes are found, or a token of them is too deep

-- what may follow a general
abbrev pub ends_note : Terminal → Bool
ends_note (terminal.Mark Comma) = true
ends_note (terminal.Mark Close) = true
ends_note (terminal.Mark CloseList) = true
ends_note _ = false

abbrev pub EndsNote : List Word → Type 0
EndsNote rest = ends_note (first_terminal (plain rest)) ≡ true

module _ (limit : ℕ) where
  pub record GoNotes (d : ℕ) (r : NoteReaders) : Type 0 where
    pub general : (ws rest : List Word) → IsGeneral d ws rest → EndsNote rest → Goes limit ws rest passed (r.general (plain ws))
    pub generals : (ws rest : List Word) → AreGenerals d ws rest → EndsNote rest → is_mark Comma (first_terminal (plain rest)) ≡ false → Goes limit ws rest passed (r.generals (plain ws))

  module _ (d : ℕ) (within : d ≤ limit) (inside : Option NoteReaders) (h : GoIn limit (GoNotes (suc d)) d inside) where
    uncalled : (x : Terminal) (ts : List Lexeme) → is_mark Open x ≡ false → called_by inside x ts ≡ found passed ts
    uncalled (terminal.Mark Open) ts e = cc
    uncalled _ ts e = refl

    goes-uncalled : (rest : List Word) → is_mark Open (first_terminal (plain rest)) ≡ false → Goes limit rest rest passed (called inside (plain rest))
    unfolding called
    goes-uncalled rest e = subst (λ o. Goes limit rest rest passed o) (sym (uncalled (first_terminal (plain rest)) (plain rest) e)) (goes-found limit rest passed)

    goes-called : (o v : Word) (ins rest : List Word) → Is (terminal.Mark Open) (suc d) o → AreGenerals (suc d) ins (v ∷ rest) → Is (terminal.Mark Close) (suc d) v → Goes limit (o ∷ ins) rest passed (called inside (plain (o ∷ ins)))
    unfolding called first_terminal lexemes_behind
    goes-called o v ins rest k p m =
        subst (λ x. Goes limit (o ∷ ins) rest passed (called_by inside x (plain (o ∷ ins)))) (sym k.terminal)
        (goes-enter limit (GoNotes (suc d)) d inside o ins rest passed _ h k.deep
        (λ r n deeper. goes-bind limit ins (v ∷ rest) rest passed passed (r.generals (plain ins)) (λ _ us. expect Close us) (n.generals ins (v ∷ rest) p (ap ends_note m.terminal) (ap (is_mark Comma) m.terminal)) (goes-expect limit Close (suc d) v rest deeper m)))

    goes-name : (w : Word) (ws rest : List Word) → IsName d w → Goes limit ws rest passed (called inside (plain ws)) → Goes limit (w ∷ ws) rest passed (data_at inside (plain (w ∷ ws)))
    unfolding data_at first_terminal lexemes_behind
    goes-name w ws rest (lower k) g = subst (λ x. Goes limit (w ∷ ws) rest passed (data_by inside x (plain (w ∷ ws)))) (sym k.terminal) (goes-token limit w ws rest passed _ (let q = k.deep in omega arith) g)
    goes-name w ws rest (quoted k) g = subst (λ x. Goes limit (w ∷ ws) rest passed (data_by inside x (plain (w ∷ ws)))) (sym k.terminal) (goes-token limit w ws rest passed _ (let q = k.deep in omega arith) g)

    goes-single : (w : Word) (rest : List Word) (x : Terminal) → Is x d w → data_by inside x (plain (w ∷ rest)) ≡ found passed (plain rest) → Goes limit (w ∷ rest) rest passed (data_at inside (plain (w ∷ rest)))
    unfolding data_at first_terminal
    goes-single w rest x k e =
        subst (λ o. Goes limit (w ∷ rest) rest passed o) (sym (ap (λ y. data_by inside y (plain (w ∷ rest))) k.terminal ∙ e))
        (goes-token limit w rest rest passed (found passed (plain rest)) (let q = k.deep in omega arith) (goes-found limit rest passed))

    -- data is found where no `(` follows it
    goes-data : (ws rest : List Word) → IsData d ws rest → is_mark Open (first_terminal (plain rest)) ≡ false → Goes limit ws rest passed (data_at inside (plain ws))
    unfolding lexemes_behind
    goes-data ws rest (is.name_data _ w _ n) e = goes-name w rest rest n (goes-uncalled rest e)
    goes-data ws rest (is.call_data _ w o v ins _ n k p m) e = goes-name w (o ∷ ins) rest n (goes-called o v ins rest k p m)
    goes-data ws rest (is.upper_data _ w _ k) e = goes-single w rest terminal.Upper k refl
    goes-data ws rest (is.integer_data _ w _ k) e = goes-single w rest terminal.Integer k refl
    goes-data ws rest (is.distinct_data _ w _ k) e = goes-single w rest terminal.Distinct k refl

    begins_data : Terminal → Bool
    begins_data terminal.Lower = true
    begins_data terminal.Quoted = true
    begins_data terminal.Upper = true
    begins_data terminal.Integer = true
    begins_data terminal.Distinct = true
    begins_data _ = false

    data-begins : (ws rest : List Word) → IsData d ws rest → begins_data (first_terminal (plain ws)) ≡ true
    unfolding first_terminal begins_data
    data-begins ws rest (is.name_data _ w _ (lower k)) = ap begins_data k.terminal
    data-begins ws rest (is.name_data _ w _ (quoted k)) = ap begins_data k.terminal
    data-begins ws rest (is.call_data _ w o v ins _ (lower k) _ _ _) = ap begins_data k.terminal
    data-begins ws rest (is.call_data _ w o v ins _ (quoted k) _ _ _) = ap begins_data k.terminal
    data-begins ws rest (is.upper_data _ w _ k) = ap begins_data k.terminal
    data-begins ws rest (is.integer_data _ w _ k) = ap begins_data k.terminal
    data-begins ws rest (is.distinct_data _ w _ k) = ap begins_data k.terminal

    data-general : (x : Terminal) (ts : List Lexeme) → begins_data x ≡ true → general_by inside x ts ≡ (data_at inside ts >>= λ _ rest. paired inside rest)
    unfolding begins_data
    data-general (terminal.Mark OpenList) ts e = cc
    data-general _ ts e = refl

    goes-paired : (ws mid rest : List Word) → IsData d ws mid → is_mark Open (first_terminal (plain mid)) ≡ false → Goes limit mid rest passed (paired inside (plain mid)) → Goes limit ws rest passed (general inside (plain ws))
    unfolding general
    goes-paired ws mid rest p e g =
        subst (λ o. Goes limit ws rest passed o) (sym (data-general (first_terminal (plain ws)) (plain ws) (data-begins ws mid p)))
        (goes-bind limit ws mid rest passed passed (data_at inside (plain ws)) (λ _ us. paired inside us) (goes-data ws mid p e) g)

    end-open : (x : Terminal) → ends_note x ≡ true → is_mark Open x ≡ false
    end-open (terminal.Mark Comma) e = refl
    end-open (terminal.Mark Close) e = refl
    end-open (terminal.Mark CloseList) e = refl
    end-open _ e = cc

    end-paired : (x : Terminal) (ts : List Lexeme) → ends_note x ≡ true → paired_by inside x ts ≡ found passed ts
    end-paired (terminal.Mark Comma) ts e = refl
    end-paired (terminal.Mark Close) ts e = refl
    end-paired (terminal.Mark CloseList) ts e = refl
    end-paired _ ts e = cc

    general-begins : (n : ℕ) (ws rest : List Word) → IsGeneral n ws rest → is_mark CloseList (first_terminal (plain ws)) ≡ false
    unfolding first_terminal
    general-begins n ws rest (is.data_general _ _ _ (is.name_data _ w _ (lower k))) = ap (is_mark CloseList) k.terminal
    general-begins n ws rest (is.data_general _ _ _ (is.name_data _ w _ (quoted k))) = ap (is_mark CloseList) k.terminal
    general-begins n ws rest (is.data_general _ _ _ (is.call_data _ w o v ins _ (lower k) _ _ _)) = ap (is_mark CloseList) k.terminal
    general-begins n ws rest (is.data_general _ _ _ (is.call_data _ w o v ins _ (quoted k) _ _ _)) = ap (is_mark CloseList) k.terminal
    general-begins n ws rest (is.data_general _ _ _ (is.upper_data _ w _ k)) = ap (is_mark CloseList) k.terminal
    general-begins n ws rest (is.data_general _ _ _ (is.integer_data _ w _ k)) = ap (is_mark CloseList) k.terminal
    general-begins n ws rest (is.data_general _ _ _ (is.distinct_data _ w _ k)) = ap (is_mark CloseList) k.terminal
    general-begins n ws rest (is.pair_general _ _ right _ s (is.name_data _ w _ (lower k)) _ _) = ap (is_mark CloseList) k.terminal
    general-begins n ws rest (is.pair_general _ _ right _ s (is.name_data _ w _ (quoted k)) _ _) = ap (is_mark CloseList) k.terminal
    general-begins n ws rest (is.pair_general _ _ right _ s (is.call_data _ w o v ins _ (lower k) _ _ _) _ _) = ap (is_mark CloseList) k.terminal
    general-begins n ws rest (is.pair_general _ _ right _ s (is.call_data _ w o v ins _ (quoted k) _ _ _) _ _) = ap (is_mark CloseList) k.terminal
    general-begins n ws rest (is.pair_general _ _ right _ s (is.upper_data _ w _ k) _ _) = ap (is_mark CloseList) k.terminal
    general-begins n ws rest (is.pair_general _ _ right _ s (is.integer_data _ w _ k) _ _) = ap (is_mark CloseList) k.terminal
    general-begins n ws rest (is.pair_general _ _ right _ s (is.distinct_data _ w _ k) _ _) = ap (is_mark CloseList) k.terminal
    general-begins n ws rest (is.empty_general _ w v _ k m) = ap (is_mark CloseList) k.terminal
    general-begins n ws rest (is.list_general _ w v ins _ k p m) = ap (is_mark CloseList) k.terminal

    generals-begin : (n : ℕ) (ws rest : List Word) → AreGenerals n ws rest → is_mark CloseList (first_terminal (plain ws)) ≡ false
    generals-begin n ws rest (is.last_general _ _ _ p) = general-begins n ws rest p
    generals-begin n ws rest (is.more_generals _ _ right _ w p m q) = general-begins n ws (w ∷ right) p

    unlisted : (generals : Reader (Unit {0})) (x : Terminal) (ts : List Lexeme) → is_mark CloseList x ≡ false → listed_by generals x ts ≡ (generals ts >>= λ _ rest. expect CloseList rest)
    unlisted generals (terminal.Mark CloseList) ts e = cc
    unlisted generals _ ts e = refl

    goes-empty : (w v : Word) (rest : List Word) → Is (terminal.Mark OpenList) (suc d) w → Is (terminal.Mark CloseList) (suc d) v → Goes limit (w ∷ v ∷ rest) rest passed (general inside (plain (w ∷ v ∷ rest)))
    unfolding general first_terminal lexemes_behind
    goes-empty w v rest k m =
        subst (λ x. Goes limit (w ∷ v ∷ rest) rest passed (general_by inside x (plain (w ∷ v ∷ rest)))) (sym k.terminal)
        (goes-enter limit (GoNotes (suc d)) d inside w (v ∷ rest) rest passed _ h k.deep
        (λ r n deeper. subst (λ x. Goes limit (v ∷ rest) rest passed (listed_by r.generals x (plain (v ∷ rest)))) (sym m.terminal)
        (goes-token limit v rest rest passed (found passed (plain rest)) (let q = m.deep in omega arith) (goes-found limit rest passed))))

    goes-list : (w v : Word) (ins rest : List Word) → Is (terminal.Mark OpenList) (suc d) w → AreGenerals (suc d) ins (v ∷ rest) → Is (terminal.Mark CloseList) (suc d) v → Goes limit (w ∷ ins) rest passed (general inside (plain (w ∷ ins)))
    unfolding general first_terminal lexemes_behind
    goes-list w v ins rest k p m =
        subst (λ x. Goes limit (w ∷ ins) rest passed (general_by inside x (plain (w ∷ ins)))) (sym k.terminal)
        (goes-enter limit (GoNotes (suc d)) d inside w ins rest passed _ h k.deep
        (λ r n deeper. subst (λ o. Goes limit ins rest passed o) (sym (unlisted r.generals (first_terminal (plain ins)) (plain ins) (generals-begin (suc d) ins (v ∷ rest) p)))
        (goes-bind limit ins (v ∷ rest) rest passed passed (r.generals (plain ins)) (λ _ us. expect CloseList us) (n.generals ins (v ∷ rest) p (ap ends_note m.terminal) (ap (is_mark Comma) m.terminal)) (goes-expect limit CloseList (suc d) v rest deeper m))))

    pub goes-general : (ws rest : List Word) → IsGeneral d ws rest → EndsNote rest → Goes limit ws rest passed (general inside (plain ws))
    unfolding paired first_terminal lexemes_behind
    goes-general ws rest (is.data_general _ _ _ p) end =
        goes-paired ws rest rest p (end-open (first_terminal (plain rest)) end)
        (subst (λ o. Goes limit rest rest passed o) (sym (end-paired (first_terminal (plain rest)) (plain rest) end)) (goes-found limit rest passed))
    goes-general ws rest (is.pair_general _ _ right _ w p k q) end =
        goes-paired ws (w ∷ right) rest p (ap (is_mark Open) k.terminal)
        (subst (λ x. Goes limit (w ∷ right) rest passed (paired_by inside x (plain (w ∷ right)))) (sym k.terminal)
        (goes-enter limit (GoNotes (suc d)) d inside w right rest passed _ h k.deep (λ r n deeper. n.general right rest q end)))
    goes-general _ rest (is.empty_general _ w v _ k m) end = goes-empty w v rest k m
    goes-general _ rest (is.list_general _ w v ins _ k p m) end = goes-list w v ins rest k p m

    separated : (ws rest : List Word) → AreGenerals d ws rest → Separated (λ (_ : Unit {0}). GeneralIs d) d passed passed ws rest
    separated ws rest (is.last_general _ _ _ p) = last passed passed ws rest p
    separated ws rest (is.more_generals _ _ right _ w p m q) = more passed passed passed ws right rest w p m (separated right rest q)

    pub goes-generals : AreLocal LocalNotes inside → (ws rest : List Word) → AreGenerals d ws rest → EndsNote rest → is_mark Comma (first_terminal (plain rest)) ≡ false → Goes limit ws rest passed (generals inside (plain ws))
    unfolding generals
    goes-generals l ws rest p end stop =
        goes-commas (λ _. general inside) (λ _. local-general inside l) (λ _. GeneralIs d) limit d within ends_note refl (λ s x us after k f. goes-general us after k f) (suc (length (plain ws))) passed passed ws rest (separated ws rest p) (omega arith) end stop

  pub goes-inner_notes : (d room : ℕ) → d + room ≡ limit → GoIn limit (GoNotes (suc d)) d (inner_notes room)
  unfolding inner_notes
  goes-inner_notes d zero e = omega arith
  goes-inner_notes d (suc room) e =
      let deeper = goes-inner_notes (suc d) room (omega arith) in
      (omega arith, record { general = goes-general (suc d) (omega arith) (inner_notes room) deeper; generals = goes-generals (suc d) (omega arith) (inner_notes room) deeper (local-inner_notes room) })
