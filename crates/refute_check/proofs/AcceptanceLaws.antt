-- Accepted texts.
use Rattle.std.proofs.Common.{◌≡◌, ◌<◌, ℕ, ◌+◌, List, [], ◌∷◌, Result, Ok, Err, IfErr, map, length, slice_get, refl, sym, ap, subst, ◌∙◌, arith}
use Rattle.std.specs.List.{AllByRecursion}
use Rattle.std.proofs.lemmas.List.{length-map}
use Rattle.stt_core.specs.Meaning.{Model, IsModel}
use Rattle.stt_core.specs.Declarations.{scope_of}
use Rattle.stt_core.specs.TypedProblem.{IsTyped}
use Rattle.stt_core.specs.PlainProblem.{PlainProblem}
use Rattle.stt_core.specs.Meets.{MeetsProblem}
use Rattle.tableau_calculus.specs.Start.{start}
use Rattle.tableau_calculus.specs.Accepted.{IsAccepted}
use Rattle.tableau_calculus.specs.declared.refutation.Refutation.{Refutation}
use Rattle.tableau_calculus.specs.declared.refutation.Why.{Why}
use Rattle.tableau_calculus.specs.declared.refutation.Why.TheVariants.{Defs}
use Rattle.tableau_calculus.proofs.Soundness.{accepted_refutes}
use Rattle.tableau_calculus.proofs.StartMeets.{start_unnamed, start_met}
use Rattle.tableau_calculus.proofs.FirstFailureLaws.{accepted_no_failure, one_first_failure}
use Rattle.delta_defs.specs.Definitions.{Definition}
use Rattle.delta_defs.specs.Unfolding.{definitions_of, taken_names, unfolded_problem}
use Rattle.delta_defs.specs.Laws.{AreDeclaredNames}
use Rattle.delta_defs.proofs.KeptModels.{keeps_models, keeps_types}
use Rattle.delta_defs.proofs.UnfoldedOnce.{nothing_unfolded, unfold_twice}
use Rattle.refute_print.specs.Trees.{RefutationTree}
use Rattle.refute_print.specs.Named.{names_of, name_numbered, named_refutation, ArePlaces}
use Rattle.refute_check.specs.Numbered.{numbered_refutation}
use Rattle.refute_check.specs.Refusal.{IfLine, FailsAt}
use Rattle.refute_check.specs.Acceptance.{taken_texts, NamesDefinitions, refuted_problem, IsAcceptedFor, DifferFirst, TextFailsAt, at_definition, behind_definitions}
use Rattle.refute_check.proofs.DefinitionLaws.{differ_once}
use Rattle.refute_check.specs.declared.refusal.CheckRefused.{CheckRefused}
use Rattle.refute_check.specs.declared.refusal.CheckRefused.TheVariants.{Line, Memory}

pub at_its_line : (e : CheckRefused) (P Q : ℕ → Why → Type 0) → ((line : ℕ) (why : Why) → P line why → Q line why) → IfLine e P → IfLine e Q
at_its_line (Line line why) P Q f h = f line why h
at_its_line Memory P Q f h = tt

pub if_line : (r : Result (Unit {0}) CheckRefused) (P Q : ℕ → Why → Type 0) → ((line : ℕ) (why : Why) → P line why → Q line why) → IfErr r (λ e. IfLine e P) → IfErr r (λ e. IfLine e Q)
if_line (Ok u) P Q f h = tt
if_line (Err e) P Q f h = at_its_line e P Q f h

module _ (p : PlainProblem) where
  -- what a text refutes, by its names
  pub plain_names : (names : List (List ℕ)) → length names ≡ 0 → (refuted_problem p names ≡ p) × NamesDefinitions p names
  plain_names [] h = (refl, tt)
  plain_names (w ∷ names) h = absurd (omega (arith, h))

  pub with_names : (names : List (List ℕ)) → 0 < length names → names ≡ taken_texts p → (refuted_problem p names ≡ unfolded_problem p) × NamesDefinitions p names
  with_names [] some e = absurd (omega (arith, some))
  with_names (w ∷ names) some e = (refl, e)

  pub named : (names : List (List ℕ)) → 0 < length names → NamesDefinitions p names → names ≡ taken_texts p
  named [] some h = absurd (omega (arith, some))
  named (w ∷ names) some h = h

  module _ (t : RefutationTree) where
    abbrev the_refutation : Refutation
    the_refutation = numbered_refutation (names_of p.declared.bases p.declared.consts) t

    pub plain_accepted : length t.names ≡ 0 → IsAccepted (scope_of p.declared) (start p) the_refutation → IsAcceptedFor p t
    plain_accepted none h =
        let q = plain_names t.names none in
        record { definitions = q.1; refutation = subst (λ x. IsAccepted (scope_of p.declared) (start x) the_refutation) (sym q.0) h }

    pub unfolded_accepted : 0 < length t.names → t.names ≡ taken_texts p → IsAccepted (scope_of p.declared) (start (unfolded_problem p)) the_refutation → IsAcceptedFor p t
    unfolded_accepted some e h =
        let q = with_names t.names some e in
        record { definitions = q.1; refutation = subst (λ x. IsAccepted (scope_of p.declared) (start x) the_refutation) (sym q.0) h }

    module _ (first line : ℕ) (why : Why) where
      pub plain_fails : length t.names ≡ 0 → FailsAt (scope_of p.declared) (start p) the_refutation first line why → TextFailsAt p t first line why
      plain_fails none h =
          let q = plain_names t.names none in
          behind_definitions line why q.1 (subst (λ x. FailsAt (scope_of p.declared) (start x) the_refutation first line why) (sym q.0) h)

      pub unfolded_fails : 0 < length t.names → t.names ≡ taken_texts p → FailsAt (scope_of p.declared) (start (unfolded_problem p)) the_refutation first line why → TextFailsAt p t first line why
      unfolded_fails some e h =
          let q = with_names t.names some e in
          behind_definitions line why q.1 (subst (λ x. FailsAt (scope_of p.declared) (start x) the_refutation first line why) (sym q.0) h)

      pub definition_fails : 0 < length t.names → (why ≡ Defs) × (place : ℕ) × DifferFirst t.names (taken_texts p) place × (line + length t.names ≡ first + place) → TextFailsAt p t first line why
      definition_fails some h = subst (λ w. TextFailsAt p t first line w) (sym h.0) (at_definition h.1 line some h.2 h.3)

    -- what fails isn't accepted
    pub fails_not_accepted : (first line : ℕ) (why : Why) → TextFailsAt p t first line why → IsAcceptedFor p t → ⊥
    fails_not_accepted first _ _ (at_definition place line some differ is) h = differ.other (ap (λ l. slice_get l place) (named t.names some h.definitions))
    fails_not_accepted first line why (behind_definitions _ _ names fails) h =
        accepted_no_failure (scope_of p.declared) (start (refuted_problem p t.names)) the_refutation fails.place why fails.is_first h.refutation

    -- a text fails first at one line, for one cause
    pub one_text_failure : (first line other : ℕ) (why cause : Why) → TextFailsAt p t first line why → TextFailsAt p t first other cause → (line ≡ other) × (why ≡ cause)
    one_text_failure first _ _ _ _ (at_definition i line some d is) (at_definition k other _ e are) =
        let same = differ_once t.names (taken_texts p) i k d e in
        (omega (arith, is, are, same), refl)
    one_text_failure first _ _ _ _ (at_definition i line some d is) (behind_definitions other cause names g) =
        absurd (d.other (ap (λ l. slice_get l i) (named t.names some names)))
    one_text_failure first _ _ _ _ (behind_definitions line why names f) (at_definition k other some e are) =
        absurd (e.other (ap (λ l. slice_get l k) (named t.names some names)))
    one_text_failure first _ _ _ _ (behind_definitions line why names f) (behind_definitions other cause _ g) =
        let h = one_first_failure (scope_of p.declared) (start (refuted_problem p t.names)) the_refutation f.place g.place why cause f.is_first g.is_first in
        (f.line_is ∙ ap (λ n. first + n) h.0 ∙ sym g.line_is, h.1)

  -- a model of the problem meets what a text refutes, which is typed
  module _ (typed : IsTyped p) (m : Model) (good : IsModel (scope_of p.declared) m) (met : MeetsProblem p m) where
    refuted_meets : (names : List (List ℕ)) → IsTyped (refuted_problem p names) × MeetsProblem (refuted_problem p names) m
    refuted_meets [] = (typed, met)
    refuted_meets (w ∷ names) = (keeps_types p typed, ((keeps_models p typed m good).0 met).1)

    same_scope : (names : List (List ℕ)) → (refuted_problem p names).declared ≡ p.declared
    same_scope [] = refl
    same_scope (w ∷ names) = refl

    pub accepted_refuted : (t : RefutationTree) → IsAcceptedFor p t → ⊥
    accepted_refuted t h =
        let q = refuted_problem p t.names in
        let r = refuted_meets t.names in
        let same = same_scope t.names in
        accepted_refutes (scope_of q.declared) (start q) (the_refutation t) (subst (λ d. IsAccepted (scope_of d) (start q) (the_refutation t)) (sym same) h.refutation) (start_unnamed q r.0) m (subst (λ d. IsModel (scope_of d) m) (sym same) good)
        (start_met q r.0 m (subst (λ d. IsModel (scope_of d) m) (sym same) good) r.1)

  -- the text with the names that are taken
  pub taken_named : NamesDefinitions p (taken_texts p)
  taken_named = go (taken_texts p) refl
    where
      go : (names : List (List ℕ)) → names ≡ taken_texts p → NamesDefinitions p names
      go [] e = tt
      go (w ∷ names) e = e

  none_taken : (ds : List Definition) → definitions_of p ≡ ds → map (name_numbered (names_of p.declared.bases p.declared.consts).constants) (map (λ d. d.place) ds) ≡ [] → definitions_of p ≡ []
  none_taken [] e h = e
  none_taken (d ∷ ds) e h = cc

  pub taken_start : start (refuted_problem p (taken_texts p)) ≡ start (unfolded_problem p)
  taken_start = go (taken_texts p) refl
    where
      go : (names : List (List ℕ)) → taken_texts p ≡ names → start (refuted_problem p names) ≡ start (unfolded_problem p)
      go [] e = sym (ap start (nothing_unfolded p (none_taken (definitions_of p) refl e)))
      go (w ∷ names) e = refl

  -- a refutation of the unfolded problem, with the names that are taken
  pub named_accepted : (r : Refutation) → numbered_refutation (names_of p.declared.bases p.declared.consts) (named_refutation (names_of p.declared.bases p.declared.consts) (taken_names p) r) ≡ r → IsAccepted (scope_of p.declared) (start (unfolded_problem p)) r → IsAcceptedFor p (named_refutation (names_of p.declared.bases p.declared.consts) (taken_names p) r)
  named_accepted r numbered h = record {
    definitions = taken_named;
    refutation = subst (λ ls. IsAccepted (scope_of p.declared) ls (numbered_refutation (names_of p.declared.bases p.declared.consts) (named_refutation (names_of p.declared.bases p.declared.consts) (taken_names p) r))) (sym taken_start) (subst (IsAccepted (scope_of p.declared) (start (unfolded_problem p))) (sym numbered) h);
  }

  -- declared places are those of names
  pub places_named : (ks : List ℕ) → AreDeclaredNames p ks → ArePlaces (names_of p.declared.bases p.declared.consts) ks
  places_named ks h = subst (λ n. AllByRecursion (λ k. k < n) ks) (sym (length-map p.declared.consts (λ c. c.name))) h

  pub start_once : start (unfolded_problem (unfolded_problem p)) ≡ start (unfolded_problem p)
  start_once = ap start (unfold_twice p)
