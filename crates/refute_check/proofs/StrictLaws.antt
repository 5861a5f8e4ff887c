-- Strict checks, in which cuts fail.
use Rattle.std.proofs.Common.{◌≡◌, ◌<◌, ◌+◌, ◌++◌, ℕ, Bool, true, false, List, [], ◌∷◌, Option, Some, None, length, take, drop, slice_get, refl, sym, ap₂, subst, ◌∙◌, arith}
use Rattle.std.proofs.lemmas.Bool.{false≢true}
use Rattle.std.proofs.lemmas.List.Elements.{All-append, All-cons, All-nil, All-head, All-tail}
use Rattle.stt_core.specs.Typing.{Scope}
use Rattle.stt_core.specs.Declarations.{scope_of}
use Rattle.stt_core.specs.PlainProblem.{PlainProblem}
use Rattle.stt_core.proofs.ListLaws.{take_got}
use Rattle.tableau_calculus.specs.Literals.{Literal}
use Rattle.tableau_calculus.specs.Witnesses.{Row, with_rows, IsTable}
use Rattle.tableau_calculus.specs.Start.{start}
use Rattle.tableau_calculus.specs.Accepted.{IsRightLine, AreRightAfter, LineFails, IsAccepted, FirstFailure}
use Rattle.tableau_calculus.specs.Accepted as plain
use Rattle.tableau_calculus.specs.CutFree.{is_cut_use, HasNoCut}
use Rattle.tableau_calculus.specs.Internal.Answers.{LineAnswer}
use Rattle.tableau_calculus.specs.declared.refutation.Line.{Line}
use Rattle.tableau_calculus.specs.declared.refutation.Refutation.{Refutation}
use Rattle.tableau_calculus.specs.declared.refutation.Why.{Why}
use Rattle.tableau_calculus.specs.declared.refutation.Why.TheVariants.{Form, Start, End, Typing, Twice, Cut, Principal, Child, Last, Defs}
use Rattle.tableau_calculus.proofs.FailureLaws.{split_at, length-front, line_refused}
use Rattle.tableau_calculus.proofs.FirstFailureLaws.{accepted_no_failure}
use Rattle.delta_defs.specs.Unfolding.{unfolded_problem}
use Rattle.refute_print.specs.Trees.{RefutationTree}
use Rattle.refute_print.specs.Named.{names_of}
use Rattle.refute_check.specs.Numbered.{numbered_refutation}
use Rattle.refute_check.specs.Refusal.{FailsAt}
use Rattle.refute_check.specs.Acceptance.{taken_texts, NamesDefinitions, refuted_problem, DifferFirst}
use Rattle.refute_check.specs.Acceptance as text
use Rattle.refute_check.specs.Strict.{LineFailsStrictly, FirstStrictFailure, at_row, at_line, at_last, no_line, IsStrictlyAcceptedFor, FailsStrictlyAt, TextFailsStrictlyAt, at_definition, behind_definitions}
use Rattle.refute_check.specs.Internal.Strictly.{cut_or, with_cut, IsAcceptedBy, FirstFailureBy, FailsAtBy, IsTextAcceptedBy, TextFailsBy}
use Rattle.refute_check.proofs.AcceptanceLaws.{plain_names, with_names, plain_accepted, unfolded_accepted, definition_fails, fails_not_accepted}

-- LINES

module _ (scope : Scope) (rows : List Row) (earlier : List Line) (line : Line) where
  -- that the line is right and no cut, or why it fails strictly
  abbrev pub StrictAnswer : Option Why → Type 0
  StrictAnswer None = IsRightLine scope rows earlier line × (is_cut_use line.rule ≡ false)
  StrictAnswer (Some why) = LineFailsStrictly scope rows earlier line why

  abbrev pub AnswerBy : Bool → Option Why → Type 0
  AnswerBy false found = LineAnswer scope rows earlier line found
  AnswerBy true found = StrictAnswer found

  -- a line that is no cut fails strictly as ever
  strict_line : (why : Why) → is_cut_use line.rule ≡ false → LineFails scope rows earlier line why → LineFailsStrictly scope rows earlier line why
  strict_line Form e h = (e, h)
  strict_line Start e h = (e, h)
  strict_line End e h = (e, h)
  strict_line Typing e h = h
  strict_line Twice e h = (e, h)
  strict_line Cut e h = absurd h
  strict_line Principal e h = (e, h)
  strict_line Child e h = (e, h)
  strict_line Last e h = (e, h)
  strict_line Defs e h = (e, h)

  -- a cut that fails otherwise than by its types is typed
  cut_line : (why : Why) → is_cut_use line.rule ≡ true → LineFails scope rows earlier line why → LineFailsStrictly scope rows earlier line (cut_or why)
  cut_line Form e h = absurd h
  cut_line Start e h = absurd h
  cut_line End e h = absurd h
  cut_line Typing e h = h
  cut_line Twice e h = absurd h
  cut_line Cut e h = absurd h
  cut_line Principal e h = (h.0, e)
  cut_line Child e h = (h.0, e)
  cut_line Last e h = absurd h
  cut_line Defs e h = absurd h

  pub answer_by : (strict cut : Bool) → is_cut_use line.rule ≡ cut → (found : Option Why) → LineAnswer scope rows earlier line found → AnswerBy strict (with_cut strict cut found)
  answer_by false cut e found h = h
  answer_by true false e None h = (h, e)
  answer_by true false e (Some why) h = strict_line why e h
  answer_by true true e None h = (h.typed, e)
  answer_by true true e (Some why) h = cut_line why e h

  pub right_by : (strict : Bool) → AnswerBy strict None → IsRightLine scope rows earlier line × (strict ≡ true → is_cut_use line.rule ≡ false)
  right_by false h = (h, λ e. absurd (false≢true e))
  right_by true h = (h.0, λ e. h.1)

-- a line that doesn't fail strictly doesn't fail
pub none_found : (strict cut : Bool) (found : Option Why) → with_cut strict cut found ≡ None → found ≡ None
none_found false cut found h = h
none_found true false found h = h
none_found true true None h = refl
none_found true true (Some why) h = cc

-- one line more that is no cut
pub no_cut-more : (strict : Bool) (lines : List Line) (i : ℕ) (line : Line) → slice_get lines i ≡ Some line → (strict ≡ true → HasNoCut (take i lines)) → (strict ≡ true → is_cut_use line.rule ≡ false) → strict ≡ true → HasNoCut (take (i + 1) lines)
no_cut-more strict lines i line at before here e =
    let P : Line → Type 0 = λ l. is_cut_use l.rule ≡ false in
    subst HasNoCut (sym (take_got lines i line at)) (All-append P (take i lines) (line ∷ []) (before e) (All-cons P line [] (here e) (All-nil P)))

pub front_none : (front more : List Line) (line : Line) → HasNoCut (front ++ line ∷ more) → is_cut_use line.rule ≡ false
front_none [] more line h = All-head (λ (k : Line). is_cut_use k.rule ≡ false) line more h
front_none (l ∷ front) more line h = front_none front more line (All-tail (λ (k : Line). is_cut_use k.rule ≡ false) l (front ++ line ∷ more) h)

before_none : (front more : List Line) → HasNoCut (front ++ more) → HasNoCut front
before_none [] more h = All-nil (λ (k : Line). is_cut_use k.rule ≡ false)
before_none (l ∷ front) more h =
    let P : Line → Type 0 = λ k. is_cut_use k.rule ≡ false in
    All-cons P l front (All-head P l (front ++ more) h) (before_none front more (All-tail P l (front ++ more) h))

-- REFUTATIONS

module _ (scope : Scope) (begin : List Literal) (r : Refutation) where
  abbrev wide : Scope
  wide = with_rows scope r.witnesses

  -- rows fail strictly as ever
  pub row_by : (strict : Bool) (place : ℕ) (why : Why) → FirstFailure scope begin r place why → place < length r.witnesses → FirstFailureBy strict scope begin r place why
  row_by false place why f below = f
  row_by true _ _ (plain.at_row front back row w e table fails) below = at_row front back row w e table fails
  row_by true _ _ (plain.at_line front back line w table e right fails) below = absurd (omega (arith, below))
  row_by true _ _ (plain.at_last front line table e right outside) below = absurd (omega (arith, below))
  row_by true _ _ (plain.no_line table e) below = absurd (omega (arith, below))

  strict_refused : (n i : ℕ) (line : Line) (why : Why) → n ≡ length r.witnesses → slice_get r.lines i ≡ Some line → IsTable scope r.witnesses → AreRightAfter wide r.witnesses [] (take i r.lines) → HasNoCut (take i r.lines) → LineFailsStrictly wide r.witnesses (take i r.lines) line why → FirstStrictFailure scope begin r (n + i) why
  strict_refused n i line why count at table h none fails =
      let lines = r.lines in
      subst (λ k. FirstStrictFailure scope begin r k why) (ap₂ (λ x y. x + y) (sym count) (length-front lines i line at))
      (at_line (take i lines) (drop (i + 1) lines) line why table (split_at lines i line at) h none fails)

  -- a line that fails
  pub line_by : (strict : Bool) (n i : ℕ) (line : Line) (why : Why) → n ≡ length r.witnesses → slice_get r.lines i ≡ Some line → IsTable scope r.witnesses → AreRightAfter wide r.witnesses [] (take i r.lines) → (strict ≡ true → HasNoCut (take i r.lines)) → AnswerBy wide r.witnesses (take i r.lines) line strict (Some why) → FirstFailureBy strict scope begin r (n + i) why
  line_by false n i line why count at table h none fails = line_refused scope begin r n i line why count at table h fails
  line_by true n i line why count at table h none fails = strict_refused n i line why count at table h (none refl) fails

  -- without a cut, the first strict failure is the first one
  as_ever : HasNoCut r.lines → (place : ℕ) (why : Why) → FirstFailure scope begin r place why → FirstStrictFailure scope begin r place why
  as_ever none _ _ (plain.at_row front back row w e table fails) = at_row front back row w e table fails
  as_ever none _ _ (plain.at_line front back line w table e right fails) =
      let h = subst HasNoCut e none in
      at_line front back line w table e right (before_none front (line ∷ back) h) (strict_line wide r.witnesses front line w (front_none front back line h) fails)
  as_ever none _ _ (plain.at_last front line table e right outside) = at_last front line table e right none outside
  as_ever none _ _ (plain.no_line table e) = no_line table e

  pub last_by : (strict : Bool) → (strict ≡ true → HasNoCut r.lines) → (place : ℕ) (why : Why) → FirstFailure scope begin r place why → FirstFailureBy strict scope begin r place why
  last_by false none place why f = f
  last_by true none place why f = as_ever (none refl) place why f

  -- a line that fails strictly and is no cut fails
  pub plain_line : (front : List Line) (line : Line) (why : Why) → is_cut_use line.rule ≡ false → LineFailsStrictly wide r.witnesses front line why → LineFails wide r.witnesses front line why
  plain_line front line Form e h = h.1
  plain_line front line Start e h = h.1
  plain_line front line End e h = h.1
  plain_line front line Typing e h = h
  plain_line front line Twice e h = h.1
  plain_line front line Cut e h = absurd (false≢true (sym e ∙ h.1))
  plain_line front line Principal e h = h.1
  plain_line front line Child e h = h.1
  plain_line front line Last e h = h.1
  plain_line front line Defs e h = h.1

  -- what fails strictly isn't accepted without a cut
  pub strict_no_failure : (place : ℕ) (why : Why) → FirstStrictFailure scope begin r place why → HasNoCut r.lines → IsAccepted scope begin r → ⊥
  strict_no_failure _ _ (at_row front back row w e table fails) none h = accepted_no_failure scope begin r (length front) w (plain.at_row front back row w e table fails) h
  strict_no_failure _ _ (at_line front back line w table e right before fails) none h =
      accepted_no_failure scope begin r (length r.witnesses + length front) w (plain.at_line front back line w table e right (plain_line front line w (front_none front back line (subst HasNoCut e none)) fails)) h
  strict_no_failure _ _ (at_last front line table e right before outside) none h = accepted_no_failure scope begin r (length r.witnesses + length front) Last (plain.at_last front line table e right outside) h
  strict_no_failure _ _ (no_line table e) none h = accepted_no_failure scope begin r (length r.witnesses) Last (plain.no_line table e) h

-- TEXTS

module _ (p : PlainProblem) (t : RefutationTree) where
  abbrev the_refutation : Refutation
  the_refutation = numbered_refutation (names_of p.declared.bases p.declared.consts) t

  pub plain_accepted_by : (strict : Bool) → length t.names ≡ 0 → IsAcceptedBy strict (scope_of p.declared) (start p) the_refutation → IsTextAcceptedBy strict p t
  plain_accepted_by false none h = plain_accepted p t none h.accepted
  plain_accepted_by true none h = record { accepted = plain_accepted p t none h.accepted; no_cut = h.no_cut refl }

  pub unfolded_accepted_by : (strict : Bool) → 0 < length t.names → t.names ≡ taken_texts p → IsAcceptedBy strict (scope_of p.declared) (start (unfolded_problem p)) the_refutation → IsTextAcceptedBy strict p t
  unfolded_accepted_by false some e h = unfolded_accepted p t some e h.accepted
  unfolded_accepted_by true some e h = record { accepted = unfolded_accepted p t some e h.accepted; no_cut = h.no_cut refl }

  module _ (first line : ℕ) (why : Why) where
    -- the first failure at a line, for the problem that the text refutes
    fails_by : (strict : Bool) (q : PlainProblem) → (refuted_problem p t.names ≡ q) × NamesDefinitions p t.names → FailsAtBy strict (scope_of p.declared) (start q) the_refutation first line why → TextFailsBy strict p t first line why
    fails_by false q is h = text.behind_definitions line why is.1 (subst (λ x. FailsAt (scope_of p.declared) (start x) the_refutation first line why) (sym is.0) (record { place = h.place; is_first = h.is_first; line_is = h.line_is }))
    fails_by true q is h = behind_definitions line why is.1 (subst (λ x. FailsStrictlyAt (scope_of p.declared) (start x) the_refutation first line why) (sym is.0) (record { place = h.place; is_first = h.is_first; line_is = h.line_is }))

    pub plain_fails_by : (strict : Bool) → length t.names ≡ 0 → FailsAtBy strict (scope_of p.declared) (start p) the_refutation first line why → TextFailsBy strict p t first line why
    plain_fails_by strict none h = fails_by strict p (plain_names p t.names none) h

    pub unfolded_fails_by : (strict : Bool) → 0 < length t.names → t.names ≡ taken_texts p → FailsAtBy strict (scope_of p.declared) (start (unfolded_problem p)) the_refutation first line why → TextFailsBy strict p t first line why
    unfolded_fails_by strict some e h = fails_by strict (unfolded_problem p) (with_names p t.names some e) h

    pub definition_fails_by : (strict : Bool) → 0 < length t.names → (why ≡ Defs) × (place : ℕ) × DifferFirst t.names (taken_texts p) place × (line + length t.names ≡ first + place) → TextFailsBy strict p t first line why
    definition_fails_by false some h = definition_fails p t first line why some h
    definition_fails_by true some h = subst (λ w. TextFailsStrictlyAt p t first line w) (sym h.0) (at_definition h.1 line some h.2 h.3)

  -- what fails strictly isn't strictly accepted
  pub fails_not_strictly : (first line : ℕ) (why : Why) → TextFailsStrictlyAt p t first line why → IsStrictlyAcceptedFor p t → ⊥
  fails_not_strictly first _ _ (at_definition place line some differ is) h = fails_not_accepted p t first line Defs (text.at_definition place line some differ is) h.accepted
  fails_not_strictly first line why (behind_definitions _ _ names fails) h =
      strict_no_failure (scope_of p.declared) (start (refuted_problem p t.names)) the_refutation fails.place why fails.is_first h.no_cut h.accepted.refutation

  pub fails_not_by : (strict : Bool) (first line : ℕ) (why : Why) → TextFailsBy strict p t first line why → IsTextAcceptedBy strict p t → ⊥
  fails_not_by false first line why f h = fails_not_accepted p t first line why f h
  fails_not_by true first line why f h = fails_not_strictly first line why f h
