-- What the command makes of the rows' words: each word's turn is looked at by itself.
use Rattle.std.proofs.Common.{◌≡◌, ◌∙◌, ℕ, ap, false, [], ◌∷◌, ◌++◌, List, refl, Option, Some, None, codes, is_some, option_map, if◌then◌else◌}
use Rattle.std.specs.Prelude.{fold}
use Rattle.clap.proofs.OnLiterals.{clap_on_literals}
use Rattle.clap.specs.Words.{Row, Text, fault_of, first_of}
use Rattle.clap.specs.Kinds.{Kinds, or_else}
use Rattle.clap.specs.Walk.{Walk, Waiting, idle, option, walk_from, walk, walked, nothing_held, settled, finished}
use Rattle.clap.specs.Simple.{Shape, built, entered}
use Rattle.clap.specs.Faults.{turn_fault, walk_fault, entered_fault, settle_fault, defaults_fault, check_fault}
use Rattle.clap.specs.declared.builder.value_parser.Reading.TheVariants.{AsWritten}
use Rattle.clap.specs.declared.parser.matches.ValueSource.TheVariants.{CommandLine}
use Rattle.cli_words.specs.declared.options.OptionName.{OptionName}
use Rattle.cli_words.specs.declared.options.OptionName.TheVariants.{Mode, Check, Demo, Models, Schedule, Tree, Strict}
use Rattle.cli_words.specs.declared.Cuts.TheVariants.{Allowed, Forbidden}
use Rattle.cli_words.specs.Options.{options, option_name, same_name}
use Rattle.cli_words.specs.Line.{line, is_nil, is_taken, value_in}
use Rattle.cli_words.specs.Names.{number_to}
use Rattle.cli_words.specs.Requests.{WordEntry, value, problem, asked, asked_by, given, given_flag, entries_in, naming, models_asked, tree_asked, prove, by_schedule, refutation, generated, sides}
use Rattle.cli_words.specs.Rows.{is_hyphened, AsksAlone, AsksBeside, AsksBesideBoth, AsksFlagged}

abbrev top : Shape
top = (built line).top

-- the command goes from one state to the next at this word, and finds no fault in it
record Turn (w : Walk) (word : Text) (after : Walk) : Type 0 where
  goes : walked top.rules [] w word ≡ after
  faultless : turn_fault top [] w word ≡ []

-- the faults behind the last word
abbrev end_fault : Walk → Kinds
end_fault end =
    or_else (entered_fault (built line) end.stopped)
    (or_else (settle_fault top.rules top.args_override_self end.held)
    (or_else (defaults_fault (settled top.rules end.held).rows top.rules)
    (check_fault top (finished top.rules end.held) (is_some (entered (built line) end.stopped)))))

no_fault : (words : List Text) (end : Walk) → walk top.rules [] nothing_held words ≡ end → walk_fault top [] (walk_from nothing_held) words ≡ [] → end_fault end ≡ [] → fault_of line words ≡ []
no_fault words end e f g =
    ap (λ (w : Walk). or_else (walk_fault top [] (walk_from nothing_held) words) (end_fault w)) e
    ∙ ap (λ (k : Kinds). or_else k (end_fault end)) f
    ∙ g

first_turn : (w after : Walk) (word : Text) (rest : List Text) → Turn w word after → walk_fault top [] after rest ≡ [] → walk_fault top [] w (word ∷ rest) ≡ []
unfolding walk_fault
first_turn w after word rest t f =
    ap (λ (k : Kinds). or_else k (walk_fault top [] (walked top.rules [] w word) rest)) t.faultless
    ∙ ap (λ (v : Walk). walk_fault top [] v rest) t.goes
    ∙ f

no_words : (w : Walk) → walk_fault top [] w [] ≡ []
unfolding walk_fault
no_words w = refl

row : Text → Text → Row
row id v = record { id = id; values = v ∷ []; count = None; source = Some CommandLine; reading = AsWritten }

state : List Row → Option (Text × List Text) → Waiting → ℕ → Walk
state rows pending waiting position = record {
  held = record { rows = rows; pending = pending; skip = 0 };
  waiting = waiting;
  position = position;
  is_trailing = false;
  stopped = None;
}

-- the states between the words
abbrev at_problem : Text → Walk
at_problem p = state [] (Some (codes "problem", p ∷ [])) idle 2

abbrev at_option : OptionName → List Row → ℕ → Walk
at_option o rows position = state rows (Some (option_name o, [])) (option (option_name o)) position

abbrev at_value : OptionName → List Row → ℕ → Text → Walk
at_value o rows position v = state rows (Some (option_name o, v ∷ [])) idle position

abbrev at_both : OptionName → Text → Text → Walk
at_both o v p = state (row (option_name o) v ∷ []) (Some (codes "problem", p ∷ [])) idle 2

-- the turns
problem_turn : (p : Text) → is_hyphened p ≡ false → Turn (walk_from nothing_held) p (at_problem p)
unfolding clap_on_literals state
problem_turn [] h = record { goes = refl; faultless = refl }
problem_turn (c ∷ cs) h = record { goes = simp h; faultless = simp h }

option_turn : (o : OptionName) → Turn (walk_from nothing_held) (codes "--" ++ option_name o) (at_option o [] 1)
unfolding clap_on_literals state
option_turn Mode = record { goes = refl; faultless = refl }
option_turn Check = record { goes = refl; faultless = refl }
option_turn Demo = record { goes = refl; faultless = refl }
option_turn Models = record { goes = refl; faultless = refl }
option_turn Schedule = record { goes = refl; faultless = refl }
option_turn Tree = record { goes = refl; faultless = refl }
option_turn Strict = record { goes = refl; faultless = refl }

option_turn_behind : (o : OptionName) (p : Text) → Turn (at_problem p) (codes "--" ++ option_name o) (at_option o (row (codes "problem") p ∷ []) 2)
unfolding clap_on_literals state row
option_turn_behind Mode p = record { goes = refl; faultless = refl }
option_turn_behind Check p = record { goes = refl; faultless = refl }
option_turn_behind Demo p = record { goes = refl; faultless = refl }
option_turn_behind Models p = record { goes = refl; faultless = refl }
option_turn_behind Schedule p = record { goes = refl; faultless = refl }
option_turn_behind Tree p = record { goes = refl; faultless = refl }
option_turn_behind Strict p = record { goes = refl; faultless = refl }

value_turn : (o : OptionName) (rows : List Row) (position : ℕ) (v : Text) → is_hyphened v ≡ false → Turn (at_option o rows position) v (at_value o rows position v)
unfolding clap_on_literals state
value_turn Mode rows position [] h = record { goes = refl; faultless = refl }
value_turn Mode rows position (c ∷ cs) h = record { goes = simp h; faultless = simp h }
value_turn Check rows position [] h = record { goes = refl; faultless = refl }
value_turn Check rows position (c ∷ cs) h = record { goes = simp h; faultless = simp h }
value_turn Demo rows position [] h = record { goes = refl; faultless = refl }
value_turn Demo rows position (c ∷ cs) h = record { goes = simp h; faultless = simp h }
value_turn Models rows position [] h = record { goes = refl; faultless = refl }
value_turn Models rows position (c ∷ cs) h = record { goes = simp h; faultless = simp h }
value_turn Schedule rows position [] h = record { goes = refl; faultless = refl }
value_turn Schedule rows position (c ∷ cs) h = record { goes = simp h; faultless = simp h }
value_turn Tree rows position [] h = record { goes = refl; faultless = refl }
value_turn Tree rows position (c ∷ cs) h = record { goes = simp h; faultless = simp h }
value_turn Strict rows position [] h = record { goes = refl; faultless = refl }
value_turn Strict rows position (c ∷ cs) h = record { goes = simp h; faultless = simp h }

last_turn : (o : OptionName) (v p : Text) → is_hyphened p ≡ false → Turn (at_value o [] 1 v) p (at_both o v p)
unfolding clap_on_literals state row
last_turn Mode v [] h = record { goes = refl; faultless = refl }
last_turn Mode v (c ∷ cs) h = record { goes = simp h; faultless = simp h }
last_turn Check v [] h = record { goes = refl; faultless = refl }
last_turn Check v (c ∷ cs) h = record { goes = simp h; faultless = simp h }
last_turn Demo v [] h = record { goes = refl; faultless = refl }
last_turn Demo v (c ∷ cs) h = record { goes = simp h; faultless = simp h }
last_turn Models v [] h = record { goes = refl; faultless = refl }
last_turn Models v (c ∷ cs) h = record { goes = simp h; faultless = simp h }
last_turn Schedule v [] h = record { goes = refl; faultless = refl }
last_turn Schedule v (c ∷ cs) h = record { goes = simp h; faultless = simp h }
last_turn Tree v [] h = record { goes = refl; faultless = refl }
last_turn Tree v (c ∷ cs) h = record { goes = simp h; faultless = simp h }
last_turn Strict v [] h = record { goes = refl; faultless = refl }
last_turn Strict v (c ∷ cs) h = record { goes = simp h; faultless = simp h }

attached_turn : (o : OptionName) (v : Text) → Turn (walk_from nothing_held) (codes "--" ++ option_name o ++ codes "=" ++ v) (state (row (option_name o) v ∷ []) None idle 1)
unfolding clap_on_literals state row
attached_turn Mode v = record { goes = refl; faultless = refl }
attached_turn Check v = record { goes = refl; faultless = refl }
attached_turn Demo v = record { goes = refl; faultless = refl }
attached_turn Models v = record { goes = refl; faultless = refl }
attached_turn Schedule v = record { goes = refl; faultless = refl }
attached_turn Tree v = record { goes = refl; faultless = refl }
attached_turn Strict v = record { goes = refl; faultless = refl }

last_turn_attached : (o : OptionName) (v p : Text) → is_hyphened p ≡ false → Turn (state (row (option_name o) v ∷ []) None idle 1) p (at_both o v p)
unfolding clap_on_literals state row
last_turn_attached o v [] h = record { goes = refl; faultless = refl }
last_turn_attached o v (c ∷ cs) h = record { goes = simp h; faultless = simp h }

attached_turn_behind : (o : OptionName) (v p : Text) → Turn (at_problem p) (codes "--" ++ option_name o ++ codes "=" ++ v) (state (row (codes "problem") p ∷ row (option_name o) v ∷ []) None idle 2)
unfolding clap_on_literals state row
attached_turn_behind Mode v p = record { goes = refl; faultless = refl }
attached_turn_behind Check v p = record { goes = refl; faultless = refl }
attached_turn_behind Demo v p = record { goes = refl; faultless = refl }
attached_turn_behind Models v p = record { goes = refl; faultless = refl }
attached_turn_behind Schedule v p = record { goes = refl; faultless = refl }
attached_turn_behind Tree v p = record { goes = refl; faultless = refl }
attached_turn_behind Strict v p = record { goes = refl; faultless = refl }

-- what is asked for, by the last state
abbrev values_of : List Row → List OptionName → List WordEntry
values_of rows [] = []
values_of rows (o ∷ os) = given (value o) (first_of (option_name o) rows) ++ values_of rows os

abbrev entries_of : List Row → List WordEntry
entries_of rows = values_of rows options ++ (given_flag (first_of same_name rows) ++ given problem (first_of (codes "problem") rows))

abbrev start : Walk
start = walk_from nothing_held

-- the words lead from one state to another, without a fault
record Leads (w : Walk) (words : List Text) (end : Walk) : Type 0 where
  goes : fold (walked top.rules []) w words ≡ end
  faultless : walk_fault top [] w words ≡ []

asked_at : (words : List Text) (end : Walk) → Leads start words end → end_fault end ≡ [] → asked_by words ≡ asked (entries_of (finished top.rules end.held))
unfolding is_taken value_in
asked_at words end leads g =
    ap (λ b. if b then asked (entries_in words) else None) (ap is_nil (no_fault words end leads.goes leads.faultless g))
    ∙ ap (λ (w : Walk). asked (entries_of (finished top.rules w.held))) leads.goes

behind_all : (w : Walk) → Leads w [] w
behind_all w = record { goes = refl; faultless = no_words w }

onward : (w v end : Walk) (word : Text) (words : List Text) → Turn w word v → Leads v words end → Leads w (word ∷ words) end
onward w v end word words t leads = record {
  goes = ap (λ (x : Walk). fold (walked top.rules []) x words) t.goes ∙ leads.goes;
  faultless = first_turn w v word words t leads.faultless;
}

one_word : (word : Text) (end : Walk) → Turn start word end → Leads start (word ∷ []) end
one_word word end t = onward _ _ _ _ _ t (behind_all end)

two_words : (word more : Text) (w end : Walk) → Turn start word w → Turn w more end → Leads start (word ∷ more ∷ []) end
two_words word more w end t u = onward _ _ _ _ _ t (onward _ _ _ _ _ u (behind_all end))

three_words : (word more last : Text) (w v end : Walk) → Turn start word w → Turn w more v → Turn v last end → Leads start (word ∷ more ∷ last ∷ []) end
three_words word more last w v end t u s = onward _ _ _ _ _ t (onward _ _ _ _ _ u (onward _ _ _ _ _ s (behind_all end)))

problem_end : (p : Text) → end_fault (at_problem p) ≡ []
unfolding clap_on_literals state
problem_end p = refl

value_end : (o : OptionName) (v : Text) → end_fault (at_value o [] 1 v) ≡ []
unfolding clap_on_literals state
value_end Mode v = refl
value_end Check v = refl
value_end Demo v = refl
value_end Models v = refl
value_end Schedule v = refl
value_end Tree v = refl
value_end Strict v = refl

pub problem_alone : (p : List ℕ) → is_hyphened p ≡ false → asked_by (p ∷ []) ≡ naming (p ∷ []) (prove p None None)
unfolding state
problem_alone p h = asked_at (p ∷ []) (at_problem p) (one_word p (at_problem p) (problem_turn p h)) (problem_end p)

value_end_behind : (o : OptionName) (v p : Text) → end_fault (at_value o (row (codes "problem") p ∷ []) 2 v) ≡ []
unfolding clap_on_literals state row
value_end_behind Mode v p = refl
value_end_behind Check v p = refl
value_end_behind Demo v p = refl
value_end_behind Models v p = refl
value_end_behind Schedule v p = refl
value_end_behind Tree v p = refl
value_end_behind Strict v p = refl

both_end : (o : OptionName) (v p : Text) → end_fault (at_both o v p) ≡ []
unfolding clap_on_literals state row
both_end Mode v p = refl
both_end Check v p = refl
both_end Demo v p = refl
both_end Models v p = refl
both_end Schedule v p = refl
both_end Tree v p = refl
both_end Strict v p = refl

attached_end : (o : OptionName) (v : Text) → end_fault (state (row (option_name o) v ∷ []) None idle 1) ≡ []
unfolding clap_on_literals state row
attached_end Mode v = refl
attached_end Check v = refl
attached_end Demo v = refl
attached_end Models v = refl
attached_end Schedule v = refl
attached_end Tree v = refl
attached_end Strict v = refl

attached_end_behind : (o : OptionName) (v p : Text) → end_fault (state (row (codes "problem") p ∷ row (option_name o) v ∷ []) None idle 2) ≡ []
unfolding clap_on_literals state row
attached_end_behind Mode v p = refl
attached_end_behind Check v p = refl
attached_end_behind Demo v p = refl
attached_end_behind Models v p = refl
attached_end_behind Schedule v p = refl
attached_end_behind Tree v p = refl
attached_end_behind Strict v p = refl

-- the words of an option with PROBLEM, and of an option alone
before_leads : (o : OptionName) (v p : Text) → is_hyphened v ≡ false → is_hyphened p ≡ false → Leads start ((codes "--" ++ option_name o) ∷ v ∷ p ∷ []) (at_both o v p)
before_leads o v p h k = three_words _ _ _ _ _ _ (option_turn o) (value_turn o [] 1 v h) (last_turn o v p k)

behind_leads : (o : OptionName) (v p : Text) → is_hyphened v ≡ false → is_hyphened p ≡ false → Leads start (p ∷ (codes "--" ++ option_name o) ∷ v ∷ []) (at_value o (row (codes "problem") p ∷ []) 2 v)
behind_leads o v p h k = three_words _ _ _ _ _ _ (problem_turn p k) (option_turn_behind o p) (value_turn o (row (codes "problem") p ∷ []) 2 v h)

pub mode_row : (m p : List ℕ) → is_hyphened p ≡ false → AsksBeside (codes "mode") m p (naming (m ∷ p ∷ []) (prove p (Some m) None))
unfolding state row
mode_row m p k = record {
  before = λ h. asked_at _ _ (before_leads Mode m p h k) (both_end Mode m p);
  behind = λ h. asked_at _ _ (behind_leads Mode m p h k) (value_end_behind Mode m p);
  attached_before = asked_at _ _ (two_words _ _ _ _ (attached_turn Mode m) (last_turn_attached Mode m p k)) (both_end Mode m p);
  attached_behind = asked_at _ _ (two_words _ _ _ _ (problem_turn p k) (attached_turn_behind Mode m p)) (attached_end_behind Mode m p);
}

pub check_row : (t p : List ℕ) → is_hyphened p ≡ false → AsksBeside (codes "check") t p (naming (t ∷ p ∷ []) (refutation Allowed t p))
unfolding state row
check_row t p k = record {
  before = λ h. asked_at _ _ (before_leads Check t p h k) (both_end Check t p);
  behind = λ h. asked_at _ _ (behind_leads Check t p h k) (value_end_behind Check t p);
  attached_before = asked_at _ _ (two_words _ _ _ _ (attached_turn Check t) (last_turn_attached Check t p k)) (both_end Check t p);
  attached_behind = asked_at _ _ (two_words _ _ _ _ (problem_turn p k) (attached_turn_behind Check t p)) (attached_end_behind Check t p);
}

pub demo_row : (n : List ℕ) → AsksAlone (codes "demo") n (option_map generated (number_to 1000 n))
unfolding state row
demo_row n = record {
  next = λ h. asked_at _ _ (two_words _ _ _ _ (option_turn Demo) (value_turn Demo [] 1 n h)) (value_end Demo n);
  attached = asked_at _ _ (one_word _ _ (attached_turn Demo n)) (attached_end Demo n);
}

pub models_row : (k p : List ℕ) → is_hyphened p ≡ false → AsksBeside (codes "models") k p (models_asked (number_to 8 k) p)
unfolding state row
models_row k p h = record {
  before = λ j. asked_at _ _ (before_leads Models k p j h) (both_end Models k p);
  behind = λ j. asked_at _ _ (behind_leads Models k p j h) (value_end_behind Models k p);
  attached_before = asked_at _ _ (two_words _ _ _ _ (attached_turn Models k) (last_turn_attached Models k p h)) (both_end Models k p);
  attached_behind = asked_at _ _ (two_words _ _ _ _ (problem_turn p h) (attached_turn_behind Models k p)) (attached_end_behind Models k p);
}

pub tree_row : (n p : List ℕ) → is_hyphened p ≡ false → AsksBeside (codes "tree") n p (tree_asked (number_to 10000 n) None p)
unfolding state row
tree_row n p h = record {
  before = λ j. asked_at _ _ (before_leads Tree n p j h) (both_end Tree n p);
  behind = λ j. asked_at _ _ (behind_leads Tree n p j h) (value_end_behind Tree n p);
  attached_before = asked_at _ _ (two_words _ _ _ _ (attached_turn Tree n) (last_turn_attached Tree n p h)) (both_end Tree n p);
  attached_behind = asked_at _ _ (two_words _ _ _ _ (problem_turn p h) (attached_turn_behind Tree n p)) (attached_end_behind Tree n p);
}

pub schedule_row : (s p : List ℕ) → is_hyphened p ≡ false → AsksBeside (codes "schedule") s p (naming (s ∷ p ∷ []) (by_schedule s p))
unfolding state row
schedule_row s p k = record {
  before = λ h. asked_at _ _ (before_leads Schedule s p h k) (both_end Schedule s p);
  behind = λ h. asked_at _ _ (behind_leads Schedule s p h k) (value_end_behind Schedule s p);
  attached_before = asked_at _ _ (two_words _ _ _ _ (attached_turn Schedule s) (last_turn_attached Schedule s p k)) (both_end Schedule s p);
  attached_behind = asked_at _ _ (two_words _ _ _ _ (problem_turn p k) (attached_turn_behind Schedule s p)) (attached_end_behind Schedule s p);
}

pub strict_row : (t p : List ℕ) → is_hyphened p ≡ false → AsksBeside (codes "strict") t p (naming (t ∷ p ∷ []) (refutation Forbidden t p))
unfolding state row
strict_row t p k = record {
  before = λ h. asked_at _ _ (before_leads Strict t p h k) (both_end Strict t p);
  behind = λ h. asked_at _ _ (behind_leads Strict t p h k) (value_end_behind Strict t p);
  attached_before = asked_at _ _ (two_words _ _ _ _ (attached_turn Strict t) (last_turn_attached Strict t p k)) (both_end Strict t p);
  attached_behind = asked_at _ _ (two_words _ _ _ _ (problem_turn p k) (attached_turn_behind Strict t p)) (attached_end_behind Strict t p);
}

-- TWO OPTIONS

abbrev problem_row : Text → Row
problem_row p = row (codes "problem") p

abbrev mode_value : Text → Row
mode_value m = row (option_name Mode) m

abbrev tree_value : Text → Row
tree_value n = row (option_name Tree) n

tree_behind_mode : (m : Text) → Turn (at_value Mode [] 1 m) (codes "--" ++ option_name Tree) (at_option Tree (mode_value m ∷ []) 1)
unfolding clap_on_literals state row
tree_behind_mode m = record { goes = refl; faultless = refl }

mode_behind_tree : (n : Text) → Turn (at_value Tree [] 1 n) (codes "--" ++ option_name Mode) (at_option Mode (tree_value n ∷ []) 1)
unfolding clap_on_literals state row
mode_behind_tree n = record { goes = refl; faultless = refl }

tree_behind_both : (m p : Text) → Turn (at_both Mode m p) (codes "--" ++ option_name Tree) (at_option Tree (mode_value m ∷ problem_row p ∷ []) 2)
unfolding clap_on_literals state row
tree_behind_both m p = record { goes = refl; faultless = refl }

tree_behind_value : (m p : Text) → Turn (at_value Mode (problem_row p ∷ []) 2 m) (codes "--" ++ option_name Tree) (at_option Tree (problem_row p ∷ mode_value m ∷ []) 2)
unfolding clap_on_literals state row
tree_behind_value m p = record { goes = refl; faultless = refl }

problem_behind_tree : (m n p : Text) → is_hyphened p ≡ false → Turn (at_value Tree (mode_value m ∷ []) 1 n) p (state (mode_value m ∷ tree_value n ∷ []) (Some (codes "problem", p ∷ [])) idle 2)
unfolding clap_on_literals state row
problem_behind_tree m n [] h = record { goes = refl; faultless = refl }
problem_behind_tree m n (c ∷ cs) h = record { goes = simp h; faultless = simp h }

problem_behind_mode : (m n p : Text) → is_hyphened p ≡ false → Turn (at_value Mode (tree_value n ∷ []) 1 m) p (state (tree_value n ∷ mode_value m ∷ []) (Some (codes "problem", p ∷ [])) idle 2)
unfolding clap_on_literals state row
problem_behind_mode m n [] h = record { goes = refl; faultless = refl }
problem_behind_mode m n (c ∷ cs) h = record { goes = simp h; faultless = simp h }

mode_tree_problem : (m n p : Text) → end_fault (state (mode_value m ∷ tree_value n ∷ []) (Some (codes "problem", p ∷ [])) idle 2) ≡ []
unfolding clap_on_literals state row
mode_tree_problem m n p = refl

tree_mode_problem : (m n p : Text) → end_fault (state (tree_value n ∷ mode_value m ∷ []) (Some (codes "problem", p ∷ [])) idle 2) ≡ []
unfolding clap_on_literals state row
tree_mode_problem m n p = refl

problem_mode_tree : (m n p : Text) → end_fault (at_value Tree (problem_row p ∷ mode_value m ∷ []) 2 n) ≡ []
unfolding clap_on_literals state row
problem_mode_tree m n p = refl

mode_problem_tree : (m n p : Text) → end_fault (at_value Tree (mode_value m ∷ problem_row p ∷ []) 2 n) ≡ []
unfolding clap_on_literals state row
mode_problem_tree m n p = refl

pub tree_by_mode_row : (m n p : List ℕ) → is_hyphened p ≡ false → AsksBesideBoth (codes "mode") m (codes "tree") n p (tree_asked (number_to 10000 n) (Some m) p)
unfolding state row
tree_by_mode_row m n p k = record {
  behind = λ h j.
      asked_at _ _
      (onward _ _ _ _ _ (option_turn Mode) (onward _ _ _ _ _ (value_turn Mode [] 1 m h)
      (onward _ _ _ _ _ (tree_behind_mode m) (onward _ _ _ _ _ (value_turn Tree (mode_value m ∷ []) 1 n j) (onward _ _ _ _ _ (problem_behind_tree m n p k) (behind_all _))))))
      (mode_tree_problem m n p);
  behind_turned = λ h j.
      asked_at _ _
      (onward _ _ _ _ _ (option_turn Tree) (onward _ _ _ _ _ (value_turn Tree [] 1 n j)
      (onward _ _ _ _ _ (mode_behind_tree n) (onward _ _ _ _ _ (value_turn Mode (tree_value n ∷ []) 1 m h) (onward _ _ _ _ _ (problem_behind_mode m n p k) (behind_all _))))))
      (tree_mode_problem m n p);
  before = λ h j.
      asked_at _ _
      (onward _ _ _ _ _ (problem_turn p k) (onward _ _ _ _ _ (option_turn_behind Mode p)
      (onward _ _ _ _ _ (value_turn Mode (problem_row p ∷ []) 2 m h) (onward _ _ _ _ _ (tree_behind_value m p) (onward _ _ _ _ _ (value_turn Tree (problem_row p ∷ mode_value m ∷ []) 2 n j) (behind_all _))))))
      (problem_mode_tree m n p);
  between = λ h j.
      asked_at _ _
      (onward _ _ _ _ _ (option_turn Mode) (onward _ _ _ _ _ (value_turn Mode [] 1 m h)
      (onward _ _ _ _ _ (last_turn Mode m p k) (onward _ _ _ _ _ (tree_behind_both m p) (onward _ _ _ _ _ (value_turn Tree (mode_value m ∷ problem_row p ∷ []) 2 n j) (behind_all _))))))
      (mode_problem_tree m n p);
}

-- THE OPTION WITHOUT A VALUE

-- what is held where it was read
abbrev flag_row : Row
flag_row = row same_name (codes "true")

flag_turn : Turn (walk_from nothing_held) (codes "--" ++ same_name) (state (flag_row ∷ []) None idle 1)
unfolding clap_on_literals state row
flag_turn = record { goes = refl; faultless = refl }

flag_turn_behind : (p : Text) → Turn (at_problem p) (codes "--" ++ same_name) (state (row (codes "problem") p ∷ flag_row ∷ []) None idle 2)
unfolding clap_on_literals state row
flag_turn_behind p = record { goes = refl; faultless = refl }

last_turn_flagged : (p : Text) → is_hyphened p ≡ false → Turn (state (flag_row ∷ []) None idle 1) p (state (flag_row ∷ []) (Some (codes "problem", p ∷ [])) idle 2)
unfolding clap_on_literals state row
last_turn_flagged [] h = record { goes = refl; faultless = refl }
last_turn_flagged (c ∷ cs) h = record { goes = simp h; faultless = simp h }

flagged_end : (p : Text) → end_fault (state (flag_row ∷ []) (Some (codes "problem", p ∷ [])) idle 2) ≡ []
unfolding clap_on_literals state row
flagged_end p = refl

flagged_end_behind : (p : Text) → end_fault (state (row (codes "problem") p ∷ flag_row ∷ []) None idle 2) ≡ []
unfolding clap_on_literals state row
flagged_end_behind p = refl

pub same_row : (p : List ℕ) → is_hyphened p ≡ false → AsksFlagged (codes "same") p (naming (p ∷ []) (sides p))
unfolding state row
same_row p k = record {
  before = asked_at _ _ (two_words _ _ _ _ flag_turn (last_turn_flagged p k)) (flagged_end p);
  behind = asked_at _ _ (two_words _ _ _ _ (problem_turn p k) (flag_turn_behind p)) (flagged_end_behind p);
}
