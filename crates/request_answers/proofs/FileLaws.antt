-- What files are answered with is what a request is.
use Rattle.std.proofs.Common.{◌≡◌, ◌<◌, ◌⊎◌, inl, inr, ℕ, IsTrue, List, [], ◌∷◌, length, Option, Some, Result, Ok, Err, refl, sym, ap, subst, ◌∙◌}
use Rattle.outside.specs.Causes.{Rose}
use Rattle.stt_core.specs.PlainProblem.{PlainProblem}
use Rattle.thf_include.specs.Answer.{AreContents}
use Rattle.thf_include.specs.Gathering.{Ending, done, stopped, Stop, wants, too_long, no_tree, cycle, too_many, no_name}
use Rattle.type_check.specs.Statements.{IllInFile, problem_of}
use Rattle.mode_file.specs.declared.Mode.{Mode}
use Rattle.mode_file.specs.Given.{nothing_given, mode_of}
use Rattle.mode_schedule.specs.declared.Block.{Block}
use Rattle.cli_words.specs.Requests.{Request, prove, by_schedule, refutation, generated, models, sides}
use Rattle.problem_gen.specs.Chain.{text}
use Rattle.szs_report.specs.Outcomes.{outcome_of}
use Rattle.szs_report.specs.declared.answer.Answer.{Answer}
use Rattle.szs_report.specs.declared.answer.Answer.TheVariants.{Proved, ModeAt, ScheduleAt, TooLong, ReadFault, Memory}
use Rattle.szs_report.specs.declared.answer.Claim.TheVariants.{Theorem, Unsatisfiable}
use Rattle.szs_report.specs.declared.answer.NamedFile.TheVariants.{Part, Check}
use Rattle.szs_report.specs.declared.answer.NamedFile.TheVariants as named
use Rattle.request_answers.specs.Requested.{problem_name, seen_of, mode_file, schedule_file}
use Rattle.request_answers.specs.Files.{OfFiles}
use Rattle.request_answers.specs.Modes.{IsModeBy}
use Rattle.request_answers.specs.Schedules.{IsScheduleBy}
use Rattle.outside.specs.Limits.{byte_limit}
use Rattle.outside.specs.Seen.{Seen}
use Rattle.request_answers.specs.Solved.{IsDemoed}
use Rattle.request_answers.specs.Answers.{stop_answer, AnswersProblem, AnswersStated, AnswersEnding, AnswersRequest}
use Rattle.request_answers.specs.Causes.{IsFaultIn, IsFaultOf, IsModeFault, IsScheduleFault, IsTextFault, HasCauseOf}
use Rattle.request_answers.specs.Internal.ReadFaults.{IsNoReadFault}
use Rattle.request_answers.specs.Internal.Unread.{IsUnreadSchedule, IsUnstated, IsUnread, IsFilesAnswer}

-- an answer of the file of a mode or of a schedule
abbrev pub IsOfGuide : Answer → Type 0
IsOfGuide (ReadFault (named.Mode file)) = Unit {0}
IsOfGuide (TooLong (named.Mode file)) = Unit {0}
IsOfGuide (ModeAt line why) = Unit {0}
IsOfGuide (ReadFault (named.Schedule file)) = Unit {0}
IsOfGuide (TooLong (named.Schedule file)) = Unit {0}
IsOfGuide (ScheduleAt line why) = Unit {0}
IsOfGuide a = ⊥

stop_not_guide : (names : List (List ℕ)) (s : Stop) → IsOfGuide (stop_answer names s) → ⊥
stop_not_guide names (wants file) h = h
stop_not_guide names (too_long file) h = h
stop_not_guide names (no_tree file at) h = h
stop_not_guide names (cycle file at) h = h
stop_not_guide names (too_many file at) h = h
stop_not_guide names (no_name file at) h = h

problem_not_guide : (seen : Seen) (r : Request) (m : Mode) (bs : List Block) (p : PlainProblem) (a : Answer) → IsOfGuide a → AnswersProblem seen r m bs p a → ⊥
problem_not_guide seen (prove q file nodes) m bs p (ReadFault (named.Mode f)) o h = h
problem_not_guide seen (prove q file nodes) m bs p (TooLong (named.Mode f)) o h = h
problem_not_guide seen (prove q file nodes) m bs p (ModeAt line why) o h = h
problem_not_guide seen (prove q file nodes) m bs p (ReadFault (named.Schedule f)) o h = h
problem_not_guide seen (prove q file nodes) m bs p (TooLong (named.Schedule f)) o h = h
problem_not_guide seen (prove q file nodes) m bs p (ScheduleAt line why) o h = h
problem_not_guide seen (by_schedule file q) m bs p (ReadFault (named.Mode f)) o h = h
problem_not_guide seen (by_schedule file q) m bs p (TooLong (named.Mode f)) o h = h
problem_not_guide seen (by_schedule file q) m bs p (ModeAt line why) o h = h
problem_not_guide seen (by_schedule file q) m bs p (ReadFault (named.Schedule f)) o h = h
problem_not_guide seen (by_schedule file q) m bs p (TooLong (named.Schedule f)) o h = h
problem_not_guide seen (by_schedule file q) m bs p (ScheduleAt line why) o h = h
problem_not_guide seen (refutation cuts t q) m bs p (ReadFault (named.Mode f)) o h = h.holds
problem_not_guide seen (refutation cuts t q) m bs p (TooLong (named.Mode f)) o h = h.holds
problem_not_guide seen (refutation cuts t q) m bs p (ModeAt line why) o h = h.holds
problem_not_guide seen (refutation cuts t q) m bs p (ReadFault (named.Schedule f)) o h = h.holds
problem_not_guide seen (refutation cuts t q) m bs p (TooLong (named.Schedule f)) o h = h.holds
problem_not_guide seen (refutation cuts t q) m bs p (ScheduleAt line why) o h = h.holds
problem_not_guide seen (generated n) m bs p (ReadFault (named.Mode f)) o h = h
problem_not_guide seen (generated n) m bs p (TooLong (named.Mode f)) o h = h
problem_not_guide seen (generated n) m bs p (ModeAt line why) o h = h
problem_not_guide seen (generated n) m bs p (ReadFault (named.Schedule f)) o h = h
problem_not_guide seen (generated n) m bs p (TooLong (named.Schedule f)) o h = h
problem_not_guide seen (generated n) m bs p (ScheduleAt line why) o h = h
problem_not_guide seen (models k q) m bs p (ReadFault (named.Mode f)) o h = h
problem_not_guide seen (models k q) m bs p (TooLong (named.Mode f)) o h = h
problem_not_guide seen (models k q) m bs p (ModeAt line why) o h = h
problem_not_guide seen (models k q) m bs p (ReadFault (named.Schedule f)) o h = h
problem_not_guide seen (models k q) m bs p (TooLong (named.Schedule f)) o h = h
problem_not_guide seen (models k q) m bs p (ScheduleAt line why) o h = h
problem_not_guide seen (sides q) m bs p (ReadFault (named.Mode f)) o h = h
problem_not_guide seen (sides q) m bs p (TooLong (named.Mode f)) o h = h
problem_not_guide seen (sides q) m bs p (ModeAt line why) o h = h
problem_not_guide seen (sides q) m bs p (ReadFault (named.Schedule f)) o h = h
problem_not_guide seen (sides q) m bs p (TooLong (named.Schedule f)) o h = h
problem_not_guide seen (sides q) m bs p (ScheduleAt line why) o h = h
problem_not_guide seen r m bs p a o h = absurd o

ending_not_guide : (seen : Seen) (r : Request) (m : Mode) (bs : List Block) (names : List (List ℕ)) (a : Answer) (e : Ending) → IsOfGuide a → AnswersEnding (AnswersProblem seen r m bs) names a e → ⊥
ending_not_guide seen r m bs names a (stopped s) o h = stop_not_guide names s (subst IsOfGuide h o)
ending_not_guide seen r m bs names a (done ss) o h = go (problem_of ss) h
  where
    go : (q : Result PlainProblem IllInFile) → AnswersStated (AnswersProblem seen r m bs) names a q → ⊥
    go (Ok p) k = problem_not_guide seen r m bs p a o k
    go (Err ill) k = subst IsOfGuide k o

-- files are answered as their request is, by its mode and its blocks
module _ (r : Request) (seen : Seen) (m : Mode) (mode : IsModeBy seen (mode_file r) m) (bs : List Block) (blocks : IsScheduleBy seen (schedule_file r) bs) where
  abbrev AreAnswered : Answer → Type 0
  AreAnswered a = IsFilesAnswer (AnswersProblem seen r m bs) (problem_name r) (seen_of seen r) a

  pub files_request : (a : Answer) → AreAnswered a → AnswersRequest r seen a
  files_request Memory h = tt
  files_request (ReadFault (named.Mode f)) h = absurd (ending_not_guide seen r m bs h.0 (ReadFault (named.Mode f)) h.1.ending tt h.1.holds)
  files_request (TooLong (named.Mode f)) h = absurd (ending_not_guide seen r m bs h.0 (TooLong (named.Mode f)) h.1.ending tt h.1.holds)
  files_request (ModeAt line why) h = absurd (ending_not_guide seen r m bs h.0 (ModeAt line why) h.1.ending tt h.1.holds)
  files_request (ReadFault (named.Schedule f)) h = absurd (ending_not_guide seen r m bs h.0 (ReadFault (named.Schedule f)) h.1.ending tt h.1.holds)
  files_request (TooLong (named.Schedule f)) h = absurd (ending_not_guide seen r m bs h.0 (TooLong (named.Schedule f)) h.1.ending tt h.1.holds)
  files_request (ScheduleAt line why) h = absurd (ending_not_guide seen r m bs h.0 (ScheduleAt line why) h.1.ending tt h.1.holds)
  files_request a h = record { mode = m; is_mode = mode; blocks = bs; are_blocks = blocks; names = h.0; files = h.1 }

-- files aren't answered as the file of a mode or of a schedule is
pub files_not_guide : (r : Request) (seen : Seen) (m : Mode) (bs : List Block) (a : Answer) → IsOfGuide a → IsFilesAnswer (AnswersProblem seen r m bs) (problem_name r) (seen_of seen r) a → ⊥
files_not_guide r seen m bs Memory o h = o
files_not_guide r seen m bs a o h = ending_not_guide seen r m bs h.0 a h.1.ending o h.1.holds

-- a schedule's file that isn't read
pub schedule_request : (file p : List ℕ) (seen : Seen) (a : Answer) → IsUnreadSchedule seen file a → AnswersRequest (by_schedule file p) seen a
schedule_request file p seen Memory h = tt
schedule_request file p seen (ReadFault (named.Schedule own)) h = ap Some (sym h)
schedule_request file p seen (TooLong (named.Schedule own)) h = (ap Some (sym h.0), subst (λ f. IsTrue seen.tells → (bytes : List ℕ) × (seen.contents f ≡ Some bytes) × (byte_limit < length bytes)) (sym h.0) h.1)
schedule_request file p seen (ScheduleAt line why) h = h
schedule_request file p seen a h = absurd h

-- contents that are the same under each name
same_contents : (one other : List ℕ → Option (List ℕ)) → ((f : List ℕ) → one f ≡ other f) → (names texts : List (List ℕ)) → AreContents one names texts → AreContents other names texts
same_contents one other same names [] h = tt
same_contents one other same [] (t ∷ ts) h = h
same_contents one other same (n ∷ names) (t ∷ ts) h = (sym (same n) ∙ h.0, same_contents one other same names ts h.1)

-- a generated problem is answered as its request is
pub demo_request : (n : ℕ) (one : Seen) → IsTrue one.tells → ((f : List ℕ) → one.contents f ≡ Some (text n)) → (a : Answer) → IsFilesAnswer (IsDemoed (mode_of nothing_given)) (problem_name (generated n)) one a → (seen : Seen) → AnswersRequest (generated n) seen a
demo_request n one is same a h seen = files_request (generated n) seen (mode_of nothing_given) refl [] refl a (moved a h)
  where
    moved : (a : Answer) → IsFilesAnswer (IsDemoed (mode_of nothing_given)) (problem_name (generated n)) one a → IsFilesAnswer (AnswersProblem seen (generated n) (mode_of nothing_given) []) (problem_name (generated n)) (seen_of seen (generated n)) a
    moved Memory h = tt
    moved a h = (
      h.0,
      record {
        texts = h.1.texts;
        told_texts = λ _. same_contents one.contents (λ f. Some (text n)) same h.0 h.1.texts (h.1.told_texts is);
        ending = h.1.ending;
        gathers = h.1.gathers;
        holds = h.1.holds;
      },
    )

-- a fault is one from the beginning on, where nothing has changed before
pub fault_before : (name : List ℕ) (seen one : Seen) (before old now : List ℕ → ℕ) (k : ℕ) → one ≡ seen → ((f : List ℕ) → old f ≡ before f) → IsFaultIn name one old now k → IsFaultIn name seen before now k
fault_before name seen one before old now k e same h = record {
  names = h.names;
  file = h.file;
  named = h.named;
  wanted = subst (λ x. OfFiles name x h.names (λ ending. ending ≡ stopped (wants k))) e h.wanted;
  rose = subst (λ n. Rose n (now h.file)) (same h.file) h.rose;
}

-- the cause of an answer's outcome, by what is known of each
pub cause_of : (r : Request) (seen : Seen) (before now : List ℕ → ℕ) (a : Answer)
    → ((k : ℕ) (names : List (List ℕ)) → a ≡ ReadFault (Part k names) → IsFaultOf r seen before now k)
    → ((name : List ℕ) → a ≡ ReadFault (named.Mode name) → IsModeFault r before now)
    → ((name : List ℕ) → a ≡ ReadFault (named.Schedule name) → IsScheduleFault r before now)
    → ((name : List ℕ) → a ≡ ReadFault (Check name) → IsTextFault r seen before now)
    → (IsNoReadFault a → (file : List ℕ) → now file ≡ before file) → HasCauseOf r seen before now (outcome_of a)
cause_of r seen before now (ReadFault (Part k names)) f g i h q = f k names refl
cause_of r seen before now (ReadFault (named.Mode name)) f g i h q = g name refl
cause_of r seen before now (ReadFault (named.Schedule name)) f g i h q = i name refl
cause_of r seen before now (ReadFault (Check name)) f g i h q = h name refl
cause_of r seen before now (Proved Theorem n mode tree text) f g i h q = q tt
cause_of r seen before now (Proved Unsatisfiable n mode tree text) f g i h q = q tt
cause_of r seen before now a f g i h q = q tt

-- the text of a refutation is read only where one is to be checked
part_stop : (names : List (List ℕ)) (name : List ℕ) (s : Stop) → ReadFault (Check name) ≡ stop_answer names s → ⊥
part_stop names name (wants file) e = cc
part_stop names name (too_long file) e = cc
part_stop names name (no_tree file at) e = cc
part_stop names name (cycle file at) e = cc
part_stop names name (too_many file at) e = cc
part_stop names name (no_name file at) e = cc

no_text_read : (r : Request) (seen : Seen) (name : List ℕ) → ((m : Mode) (bs : List Block) (q : PlainProblem) → AnswersProblem seen r m bs q (ReadFault (Check name)) → ⊥) → AnswersRequest r seen (ReadFault (Check name)) → ⊥
no_text_read r seen name none h = go h.files.ending h.files.holds
  where
    stated : (x : Result PlainProblem IllInFile) → AnswersStated (AnswersProblem seen r h.mode h.blocks) h.names (ReadFault (Check name)) x → ⊥
    stated (Ok q) k = none h.mode h.blocks q k
    stated (Err ill) k = cc

    go : (e : Ending) → AnswersEnding (AnswersProblem seen r h.mode h.blocks) h.names (ReadFault (Check name)) e → ⊥
    go (stopped s) k = part_stop h.names name s k
    go (done ss) k = stated (problem_of ss) k

pub no_text_asked : (p : List ℕ) (file : Option (List ℕ)) (nodes : Option ℕ) (seen : Seen) (name : List ℕ) → AnswersRequest (prove p file nodes) seen (ReadFault (Check name)) → ⊥
no_text_asked p file nodes seen name h = no_text_read (prove p file nodes) seen name (λ m bs q k. k) h

pub no_text_scheduled : (file p : List ℕ) (seen : Seen) (name : List ℕ) → AnswersRequest (by_schedule file p) seen (ReadFault (Check name)) → ⊥
no_text_scheduled file p seen name h = no_text_read (by_schedule file p) seen name (λ m bs q k. k) h

pub no_text_modelled : (k : ℕ) (p : List ℕ) (seen : Seen) (name : List ℕ) → AnswersRequest (models k p) seen (ReadFault (Check name)) → ⊥
no_text_modelled k p seen name h = no_text_read (models k p) seen name (λ m bs q k. k) h

pub no_text_compared : (p : List ℕ) (seen : Seen) (name : List ℕ) → AnswersRequest (sides p) seen (ReadFault (Check name)) → ⊥
no_text_compared p seen name h = no_text_read (sides p) seen name (λ m bs q k. k) h

-- the mode's file is the one that is asked for
pub mode_fault : (r : Request) (seen : Seen) (before now : List ℕ → ℕ) (name : List ℕ) → AnswersRequest r seen (ReadFault (named.Mode name)) → Rose (before name) (now name) → IsModeFault r before now
mode_fault r seen before now name h rose = record { file = name; named = h; rose = rose }

-- so is the schedule's file
pub schedule_fault : (r : Request) (seen : Seen) (before now : List ℕ → ℕ) (name : List ℕ) → AnswersRequest r seen (ReadFault (named.Schedule name)) → Rose (before name) (now name) → IsScheduleFault r before now
schedule_fault r seen before now name h rose = record { file = name; named = h; rose = rose }

-- what isn't read without a fault is answered without one
unread_ending : (names : List (List ℕ)) (a : Answer) (e : Ending) → (IsOfGuide a → ⊥) → IsUnstated names a e → IsNoReadFault a ⊎ ((k : ℕ) × (a ≡ ReadFault (Part k names)))
unread_ending names a (done ss) apart h = inl (subst IsNoReadFault (sym h.answered) tt)
unread_ending names a (stopped (wants file)) apart h = inr (file, h)
unread_ending names a (stopped (too_long file)) apart h = inl (subst IsNoReadFault (sym h) tt)
unread_ending names a (stopped (no_tree file at)) apart h = inl (subst IsNoReadFault (sym h) tt)
unread_ending names a (stopped (cycle file at)) apart h = inl (subst IsNoReadFault (sym h) tt)
unread_ending names a (stopped (too_many file at)) apart h = inl (subst IsNoReadFault (sym h) tt)
unread_ending names a (stopped (no_name file at)) apart h = inl (subst IsNoReadFault (sym h) tt)

no_fault_there : (name : List ℕ) (seen : Seen) (names : List (List ℕ)) (a : Answer) → ((k : ℕ) (ns : List (List ℕ)) → a ≡ ReadFault (Part k ns) → ⊥) → OfFiles name seen names (IsUnstated names a) → (IsOfGuide a → ⊥) → IsNoReadFault a
no_fault_there name seen names a f h apart = go (unread_ending names a h.ending apart h.holds)
  where
    go : IsNoReadFault a ⊎ ((k : ℕ) × (a ≡ ReadFault (Part k names))) → IsNoReadFault a
    go (inl q) = q
    go (inr q) = absurd (f q.0 names q.1)

unstated_not_guide : (names : List (List ℕ)) (a : Answer) (e : Ending) → IsUnstated names a e → IsOfGuide a → ⊥
unstated_not_guide names a (done ss) h o = subst IsOfGuide h.answered o
unstated_not_guide names a (stopped s) h o = stop_not_guide names s (subst IsOfGuide h o)

pub unread_no_fault : (name : List ℕ) (seen : Seen) (a : Answer) → ((k : ℕ) (ns : List (List ℕ)) → a ≡ ReadFault (Part k ns) → ⊥) → IsUnread name seen a → IsNoReadFault a
unread_no_fault name seen Memory f h = tt
unread_no_fault name seen a f h = no_fault_there name seen h.0 a f h.1 (unstated_not_guide h.0 a h.1.ending h.1.holds)
