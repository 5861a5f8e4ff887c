-- What is written at the end of a call (Sutcliffe, The SZS ontologies for automated reasoning software, 2008).
use Rattle.std.specs.Prelude.{ℕ, List, [], ◌∷◌, ◌++◌, codes, decimal, slice_get, unwrap_or, Option, Some, None}
use Rattle.tableau_calculus.specs.declared.refutation.Why.{Why}
use Rattle.tableau_calculus.specs.declared.refutation.Why.TheVariants as cause
use Rattle.refute_print.specs.Text.{as_bytes}
use Rattle.type_check.specs.declared.refusal.IllWhy.{IllWhy}
use Rattle.type_check.specs.declared.refusal.IllWhy.TheVariants.{Unknown, Twice, Mismatch, NotFormula, SecondConjecture, RoleUnknown}
use Rattle.refute_text.specs.Reading.{start_mark, end_mark}
use Rattle.szs_report.specs.declared.answer.Answer.{Answer}
use Rattle.szs_report.specs.declared.answer.Answer.TheVariants.{Proved, GaveUp, CommandLimit, ConflictLimit, DemoDone, Accepted, Refused, CounterSatisfiable, Satisfiable, NoneSmall, ModelsTooMany, Same, Different, NoEquation, SyntaxAt, TypeAt, IncludeAt, ModeAt, ScheduleAt, Words, TooLong, ReadFault, Memory, UnreadWords}
use Rattle.szs_report.specs.declared.answer.Claim.{Claim}
use Rattle.szs_report.specs.declared.answer.Claim.TheVariants.{Theorem, Unsatisfiable}
use Rattle.szs_report.specs.declared.answer.NamedFile.{NamedFile}
use Rattle.szs_report.specs.declared.answer.NamedFile.TheVariants.{Part, Mode, Schedule, Check}
use Rattle.szs_report.specs.declared.answer.TreeReport.{TreeReport}
use Rattle.szs_report.specs.declared.answer.TreeReport.TheVariants.{Unasked, Tree, Open, Over}
use Rattle.szs_report.specs.declared.outcome.IncludeWhy.{IncludeWhy}
use Rattle.szs_report.specs.declared.outcome.IncludeWhy.TheVariants.{Cycle, NoSuchName, TooMany}
use Rattle.szs_report.specs.declared.outcome.ModeWhy.{ModeWhy}
use Rattle.szs_report.specs.declared.outcome.ModeWhy.TheVariants as line
use Rattle.szs_report.specs.declared.outcome.ScheduleWhy.{ScheduleWhy}
use Rattle.szs_report.specs.declared.outcome.ScheduleWhy.TheVariants as scheduled

-- the two lines at the head of most reports
abbrev pub headed_report : List ℕ → List ℕ → List ℕ → List ℕ → List ℕ
headed_report status name word what = as_bytes ((status ++ name) ∷ (word ++ what) ∷ [])

-- a report of one line
abbrev pub line_report : List ℕ → List ℕ → List ℕ
line_report word name = as_bytes ((word ++ name) ∷ [])

-- the mode that proved the problem, counted from 1, where several take turns: as a line or as none
abbrev pub mode_lines : Option ℕ → List (List ℕ)
mode_lines None = []
mode_lines (Some mode) = (codes "% mode " ++ decimal mode) ∷ []

-- what came of a tree, as a line or as none
abbrev pub tree_lines : TreeReport → List (List ℕ)
tree_lines Unasked = []
tree_lines (Tree nodes) = (codes "% tree " ++ decimal nodes) ∷ []
tree_lines Open = codes "% tree open" ∷ []
tree_lines (Over nodes) = (codes "% tree over " ++ decimal nodes) ∷ []

-- what is told of a proof beside its commands
abbrev pub detail_lines : Option ℕ → TreeReport → List (List ℕ)
detail_lines mode tree = mode_lines mode ++ tree_lines tree

-- the report of a proof: its head, what is told beside, and the text of the refutation between its marks
abbrev pub counted_report : List ℕ → List ℕ → List ℕ → List (List ℕ) → List ℕ → List ℕ
counted_report status name count details text =
    as_bytes ((status ++ name) ∷ (codes "% commands " ++ count) ∷ (details ++ (start_mark ++ name) ∷ []))
    ++ (text ++ as_bytes ((end_mark ++ name) ∷ []))

abbrev pub proof_report : List ℕ → List ℕ → ℕ → Option ℕ → TreeReport → List ℕ → List ℕ
proof_report status name n mode tree text = counted_report status name (decimal n) (detail_lines mode tree) text

-- the report of a model: its head, its size, and the lines of its values between the marks
abbrev pub model_report : List ℕ → List ℕ → List ℕ → List ℕ → List ℕ
model_report status name size lines =
    as_bytes ((status ++ name) ∷ (codes "% SZS output start FiniteModel for " ++ name) ∷ (codes "size " ++ size) ∷ [])
    ++ (lines ++ as_bytes ((codes "% SZS output end FiniteModel for " ++ name) ∷ []))

-- the head of the report of a proof
abbrev pub claim_status : Claim → List ℕ
claim_status Theorem = codes "% SZS status Theorem for "
claim_status Unsatisfiable = codes "% SZS status Unsatisfiable for "

-- the name of a file, as it was opened
abbrev pub file_name : NamedFile → List ℕ
file_name (Part k names) = unwrap_or (slice_get names k) []
file_name (Mode name) = name
file_name (Schedule name) = name
file_name (Check name) = name

-- a place of a file
abbrev pub place_report : List ℕ → ℕ → List ℕ
place_report file at = file ++ (codes " " ++ decimal at)

abbrev pub ill_word : IllWhy → List ℕ
ill_word Unknown = codes "unknown"
ill_word Twice = codes "twice"
ill_word Mismatch = codes "mismatch"
ill_word NotFormula = codes "notformula"
ill_word SecondConjecture = codes "conjecture"
ill_word RoleUnknown = codes "role"

abbrev pub include_word : IncludeWhy → List ℕ
include_word Cycle = codes "cycle"
include_word NoSuchName = codes "noname"
include_word TooMany = codes "toomany"

abbrev pub mode_word : ModeWhy → List ℕ
mode_word line.UnknownKey = codes "key"
mode_word line.Twice = codes "twice"
mode_word line.BadNumber = codes "number"
mode_word line.OutOfRange = codes "range"

abbrev pub schedule_word : ScheduleWhy → List ℕ
schedule_word scheduled.UnknownKey = codes "key"
schedule_word scheduled.Twice = codes "twice"
schedule_word scheduled.BadNumber = codes "number"
schedule_word scheduled.OutOfRange = codes "range"
schedule_word scheduled.NoSlice = codes "noslice"
schedule_word scheduled.TooManyBlocks = codes "toomany"

-- why a refutation isn't accepted
abbrev pub why_word : Why → List ℕ
why_word cause.Form = codes "form"
why_word cause.Start = codes "start"
why_word cause.End = codes "end"
why_word cause.Typing = codes "type"
why_word cause.Twice = codes "twice"
why_word cause.Cut = codes "cut"
why_word cause.Principal = codes "principal"
why_word cause.Child = codes "child"
why_word cause.Last = codes "last"
why_word cause.Defs = codes "defs"

-- the report of a refutation's text that is refused at a line
abbrev pub refused_report : List ℕ → List ℕ → List ℕ → List ℕ
refused_report name line word =
    as_bytes ((codes "% refutation refused for " ++ (name ++ (codes " line " ++ (line ++ (codes " " ++ word))))) ∷ [])

-- the report of a generated problem whose proof is accepted
abbrev pub demo_report : List ℕ → List ℕ → List ℕ → List ℕ
demo_report status name count =
    as_bytes ((status ++ name) ∷ (codes "% commands " ++ count) ∷ (codes "% refutation accepted for " ++ name) ∷ [])

-- a line of a mode's file or of a schedule's, and why it isn't taken
abbrev pub line_why : List ℕ → List ℕ → List ℕ
line_why line word = line ++ (codes " " ++ word)

-- a place of a file, and why it is refused
abbrev pub refused_in : List ℕ → ℕ → List ℕ → List ℕ
refused_in file at why = place_report file at ++ (codes " " ++ why)

-- the report of an answer, for the problem's name
abbrev pub report_of : List ℕ → Answer → List ℕ
report_of name (Proved claim n mode tree text) = proof_report (claim_status claim) name n mode tree text
report_of name (GaveUp n) = headed_report (codes "% SZS status GaveUp for ") name (codes "% commands ") (decimal n)
report_of name (CommandLimit n) = headed_report (codes "% SZS status ResourceOut for ") name (codes "% command limit ") (decimal n)
report_of name (ConflictLimit c) = headed_report (codes "% SZS status ResourceOut for ") name (codes "% conflict limit ") (decimal c)
report_of name (DemoDone claim n) = demo_report (claim_status claim) name (decimal n)
report_of name Accepted = line_report (codes "% refutation accepted for ") name
report_of name (Refused line why) = refused_report name (decimal line) (why_word why)
report_of name (CounterSatisfiable s lines) = model_report (codes "% SZS status CounterSatisfiable for ") name (decimal s) lines
report_of name (Satisfiable s lines) = model_report (codes "% SZS status Satisfiable for ") name (decimal s) lines
report_of name (NoneSmall k) = headed_report (codes "% SZS status GaveUp for ") name (codes "% no model up to ") (decimal k)
report_of name (ModelsTooMany s) =
    headed_report (codes "% SZS status ResourceOut for ") name (codes "% models too many at size ") (decimal s)
report_of name Same = line_report (codes "% sides convertible for ") name
report_of name Different = line_report (codes "% sides not convertible for ") name
report_of name NoEquation = line_report (codes "% no equation for ") name
report_of name (SyntaxAt file at) =
    headed_report (codes "% SZS status SyntaxError for ") name (codes "% syntax ") (place_report (file_name file) at)
report_of name (TypeAt file at why) =
    headed_report (codes "% SZS status InputError for ") name (codes "% type ") (refused_in (file_name file) at (ill_word why))
report_of name (IncludeAt file at why) =
    headed_report (codes "% SZS status InputError for ") name (codes "% include ") (refused_in (file_name file) at (include_word why))
report_of name (ModeAt line why) =
    headed_report (codes "% SZS status InputError for ") name (codes "% mode ") (line_why (decimal line) (mode_word why))
report_of name (ScheduleAt line why) =
    headed_report (codes "% SZS status InputError for ") name (codes "% schedule ") (line_why (decimal line) (schedule_word why))
report_of name Words =
    codes "% usage: satallax [--mode FILE] [--check FILE] [--demo N] [--models K] [--schedule FILE] [--tree N] [--strict FILE] [--same] PROBLEM\n"
report_of name (TooLong file) = headed_report (codes "% SZS status InputError for ") name (codes "% too long ") (file_name file)
report_of name (ReadFault file) = headed_report (codes "% SZS status InputError for ") name (codes "% read fault ") (file_name file)
report_of name Memory = headed_report (codes "% SZS status ResourceOut for ") name (codes "% memory") []
report_of name UnreadWords = as_bytes (codes "% memory" ∷ [])
