-- A text fails strictly first at one line, for one cause.
use Rattle.std.proofs.Common.{◌≡◌, ◌⊎◌, inl, inr, ⊎_elim, ◌<◌, ◌+◌, ◌++◌, ℕ, true, List, [], ◌∷◌, length, slice_get, refl, sym, ap, subst, ◌∙◌, length-append, arith}
use Rattle.std.proofs.lemmas.Bool.{false≢true}
use Rattle.stt_core.specs.Typing.{Scope}
use Rattle.stt_core.specs.Declarations.{scope_of}
use Rattle.stt_core.specs.PlainProblem.{PlainProblem}
use Rattle.tableau_calculus.specs.Literals.{Literal}
use Rattle.tableau_calculus.specs.Witnesses.{Row, with_rows, IsTable}
use Rattle.tableau_calculus.specs.Start.{start}
use Rattle.tableau_calculus.specs.Accepted.{IsTypedLine, AreRightAfter, RowFails, LineFails, FirstFailure}
use Rattle.tableau_calculus.specs.Accepted as plain
use Rattle.tableau_calculus.specs.CutFree.{is_cut_use, HasNoCut}
use Rattle.tableau_calculus.specs.declared.refutation.Line.{Line}
use Rattle.tableau_calculus.specs.declared.refutation.Refutation.{Refutation}
use Rattle.tableau_calculus.specs.declared.refutation.Why.{Why}
use Rattle.tableau_calculus.specs.declared.refutation.Why.TheVariants.{Form, Start, End, Typing, Twice, Cut, Principal, Child, Last, Defs}
use Rattle.tableau_calculus.proofs.ListLaws.{within-itself}
use Rattle.tableau_calculus.proofs.FirstFailureLaws.{split_cases, accepted_no_failure, one_first_failure}
use Rattle.refute_print.specs.Trees.{RefutationTree}
use Rattle.refute_print.specs.Named.{names_of}
use Rattle.refute_check.specs.Numbered.{numbered_refutation}
use Rattle.refute_check.specs.Acceptance.{taken_texts, refuted_problem}
use Rattle.refute_check.specs.Strict.{LineFailsStrictly, FirstStrictFailure, at_row, at_line, at_last, no_line, TextFailsStrictlyAt, at_definition, behind_definitions}
use Rattle.refute_check.proofs.AcceptanceLaws.{named}
use Rattle.refute_check.proofs.DefinitionLaws.{differ_once}
use Rattle.refute_check.proofs.StrictLaws.{front_none, plain_line}

module _ (scope : Scope) (begin : List Literal) (r : Refutation) where
  abbrev wide : Scope
  wide = with_rows scope r.witnesses

  -- a row that fails is none of a witness table
  no_row_fails : IsTable scope r.witnesses → (front back : List Row) (row : Row) (why : Why) → r.witnesses ≡ front ++ row ∷ back → IsTable scope front → RowFails scope front row why → ⊥
  no_row_fails table front back row why e before fails =
      let rows : Refutation = record { witnesses = r.witnesses; lines = [] } in
      let one = one_first_failure scope begin rows (length front) (length r.witnesses) why Last (plain.at_row front back row why e before fails) (plain.no_line table refl) in
      omega (arith, one.0, ap length e, length-append front (row ∷ back))

  -- a line that fails is none of right lines
  no_line_fails : IsTable scope r.witnesses → (lines front back : List Line) (line : Line) (why : Why) → lines ≡ front ++ line ∷ back → AreRightAfter wide r.witnesses [] lines → AreRightAfter wide r.witnesses [] front → LineFails wide r.witnesses front line why → ⊥
  no_line_fails table lines front back line why e right before fails =
      let ends = last_of lines (subst (λ (ls : List Line). 0 < length ls) (sym e) (omega (arith, length-append front (line ∷ back)))) in
      let whole : Refutation = record { witnesses = r.witnesses; lines = lines } in
      accepted_no_failure scope ends.1.branch whole (length r.witnesses + length front) why (plain.at_line front back line why table e before fails)
      (record { table = table; lines = right; last = record { front = ends.0; last = ends.1; are = ends.2; within = within-itself ends.1.branch } })
    where
      last_of : (ls : List Line) → 0 < length ls → (front : List Line) × (last : Line) × (ls ≡ front ++ last ∷ [])
      last_of [] h = absurd (omega (arith, h))
      last_of (l ∷ []) h = ([], l, refl)
      last_of (l ∷ k ∷ ls) h = let rest = last_of (k ∷ ls) (omega arith) in (l ∷ rest.0, rest.1, ap (λ x. l ∷ x) rest.2)

  -- the first strict failure is a cut
  record IsCutFailure (place : ℕ) (why : Why) : Type 0 where
    front : List Line
    back : List Line
    line : Line
    table : IsTable scope r.witnesses
    is : r.lines ≡ front ++ line ∷ back
    right : AreRightAfter wide r.witnesses [] front
    none : HasNoCut front
    typed : IsTypedLine wide line
    cut : is_cut_use line.rule ≡ true
    place_is : place ≡ length r.witnesses + length front
    why_is : why ≡ Cut

  -- the first strict failure is a first failure, or a cut
  plain_or_cut : (place : ℕ) (why : Why) → FirstStrictFailure scope begin r place why → FirstFailure scope begin r place why ⊎ IsCutFailure place why
  plain_or_cut _ _ (at_row front back row why e table fails) = inl (plain.at_row front back row why e table fails)
  plain_or_cut _ _ (at_line front back line Cut table e right none h) =
      inr (record { front = front; back = back; line = line; table = table; is = e; right = right; none = none; typed = h.0; cut = h.1; place_is = refl; why_is = refl })
  plain_or_cut _ _ (at_line front back line Typing table e right none h) = inl (plain.at_line front back line Typing table e right h)
  plain_or_cut _ _ (at_line front back line Form table e right none h) = inl (plain.at_line front back line Form table e right h.1)
  plain_or_cut _ _ (at_line front back line Start table e right none h) = inl (plain.at_line front back line Start table e right h.1)
  plain_or_cut _ _ (at_line front back line End table e right none h) = inl (plain.at_line front back line End table e right h.1)
  plain_or_cut _ _ (at_line front back line Twice table e right none h) = inl (plain.at_line front back line Twice table e right h.1)
  plain_or_cut _ _ (at_line front back line Principal table e right none h) = inl (plain.at_line front back line Principal table e right h.1)
  plain_or_cut _ _ (at_line front back line Child table e right none h) = inl (plain.at_line front back line Child table e right h.1)
  plain_or_cut _ _ (at_line front back line Last table e right none h) = inl (plain.at_line front back line Last table e right h.1)
  plain_or_cut _ _ (at_line front back line Defs table e right none h) = inl (plain.at_line front back line Defs table e right h.1)
  plain_or_cut _ _ (at_last front line table e right none outside) = inl (plain.at_last front line table e right outside)
  plain_or_cut _ _ (no_line table e) = inl (plain.no_line table e)

  -- a line that is a cut and is typed fails strictly as a cut alone
  only_cut : (front : List Line) (line : Line) (why : Why) → IsTypedLine wide line → is_cut_use line.rule ≡ true → LineFailsStrictly wide r.witnesses front line why → Cut ≡ why
  only_cut front line Cut typed cut h = refl
  only_cut front line Typing typed cut h = absurd (h typed)
  only_cut front line Form typed cut h = absurd (false≢true (sym h.0 ∙ cut))
  only_cut front line Start typed cut h = absurd (false≢true (sym h.0 ∙ cut))
  only_cut front line End typed cut h = absurd (false≢true (sym h.0 ∙ cut))
  only_cut front line Twice typed cut h = absurd (false≢true (sym h.0 ∙ cut))
  only_cut front line Principal typed cut h = absurd (false≢true (sym h.0 ∙ cut))
  only_cut front line Child typed cut h = absurd (false≢true (sym h.0 ∙ cut))
  only_cut front line Last typed cut h = absurd (false≢true (sym h.0 ∙ cut))
  only_cut front line Defs typed cut h = absurd (false≢true (sym h.0 ∙ cut))

  cut_among : (lines front back : List Line) (line : Line) → lines ≡ front ++ line ∷ back → is_cut_use line.rule ≡ true → HasNoCut lines → ⊥
  cut_among lines front back line e cut none = false≢true (sym (front_none front back line (subst HasNoCut e none)) ∙ cut)

  cut_alone : (place k : ℕ) (why other : Why) → IsCutFailure place why → FirstStrictFailure scope begin r k other → (place ≡ k) × (why ≡ other)
  cut_alone place _ why _ c (at_row front back row w e table fails) = absurd (no_row_fails c.table front back row w e table fails)
  cut_alone place _ why _ c (at_line g d m w table e right none h) =
      split_cases ((place ≡ length r.witnesses + length g) × (why ≡ w)) c.front g c.back d c.line m (sym c.is ∙ e)
      (λ fronts lines. (
        c.place_is ∙ ap (λ (x : List Line). length r.witnesses + length x) fronts,
        c.why_is ∙ only_cut g m w (subst (IsTypedLine wide) lines c.typed) (subst (λ (l : Line). is_cut_use l.rule ≡ true) lines c.cut) h,
      ))
      (λ mid q. absurd (cut_among g c.front mid c.line q c.cut none))
      (λ mid q. absurd (no_line_fails c.table c.front g mid m w q c.right right (plain_line scope begin r g m w (front_none g mid m (subst HasNoCut q c.none)) h)))
  cut_alone place _ why _ c (at_last g m table e right none outside) = absurd (cut_among r.lines c.front c.back c.line c.is c.cut none)
  cut_alone place _ why _ c (no_line table e) = absurd (omega (arith, ap length (sym e ∙ c.is), length-append c.front (c.line ∷ c.back)))

  -- a refutation has one first strict failure at most
  pub one_strict_failure : (n k : ℕ) (why other : Why) → FirstStrictFailure scope begin r n why → FirstStrictFailure scope begin r k other → (n ≡ k) × (why ≡ other)
  one_strict_failure n k why other f g =
      ⊎_elim
      (λ plain_f. ⊎_elim
      (λ plain_g. one_first_failure scope begin r n k why other plain_f plain_g)
      (λ cut_g. let h = cut_alone k n other why cut_g f in (sym h.0, sym h.1))
      (plain_or_cut k other g))
      (λ cut_f. cut_alone n k why other cut_f g)
      (plain_or_cut n why f)

module _ (p : PlainProblem) (t : RefutationTree) where
  -- a text fails strictly first at one line, for one cause
  pub one_strict_text_failure : (first line other : ℕ) (why cause : Why) → TextFailsStrictlyAt p t first line why → TextFailsStrictlyAt p t first other cause → (line ≡ other) × (why ≡ cause)
  one_strict_text_failure first _ _ _ _ (at_definition i line some d is) (at_definition k other _ e are) =
      let same = differ_once t.names (taken_texts p) i k d e in
      (omega (arith, is, are, same), refl)
  one_strict_text_failure first _ _ _ _ (at_definition i line some d is) (behind_definitions other cause names g) =
      absurd (d.other (ap (λ l. slice_get l i) (named p t.names some names)))
  one_strict_text_failure first _ _ _ _ (behind_definitions line why names f) (at_definition k other some e are) =
      absurd (e.other (ap (λ l. slice_get l k) (named p t.names some names)))
  one_strict_text_failure first _ _ _ _ (behind_definitions line why names f) (behind_definitions other cause _ g) =
      let h = one_strict_failure (scope_of p.declared) (start (refuted_problem p t.names)) (numbered_refutation (names_of p.declared.bases p.declared.consts) t) f.place g.place why cause f.is_first g.is_first in
      (f.line_is ∙ ap (λ n. first + n) h.0 ∙ sym g.line_is, h.1)
