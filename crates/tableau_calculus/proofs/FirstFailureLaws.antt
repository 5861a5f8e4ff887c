-- A refutation is accepted or has a first failure, not both, and it has one first failure at most.
use Rattle.std.proofs.Common.{◌≡◌, ◌+◌, ℕ, List, [], ◌∷◌, ◌++◌, length, refl, sym, ap, ap₂, subst, subst₂, ◌∙◌, append_assoc, append-nil, length-append, Result, Ok, Err, IfErr, arith}
use Rattle.stt_core.specs.Typing.{Scope}
use Rattle.tableau_calculus.specs.Literals.{Literal}
use Rattle.tableau_calculus.specs.Witnesses.{Row, with_rows, IsTypedRow, IsTwice, IsTableAfter, IsTable}
use Rattle.tableau_calculus.specs.Accepted.{Within, AreChildren, IsRightLine, AreRightAfter, AreRightLines, IsAccepted, RowFails, LineFails, FirstFailure, at_row, at_line, at_last, no_line}
use Rattle.tableau_calculus.specs.declared.refutation.Line.{Line}
use Rattle.tableau_calculus.specs.declared.refutation.Refutation.{Refutation}
use Rattle.tableau_calculus.specs.declared.refutation.Why.{Why}
use Rattle.tableau_calculus.specs.declared.refutation.Why.TheVariants.{Form, Start, End, Typing, Twice, Cut as CutThere, Principal, Child as ChildWrong, Last, Defs}
use Rattle.tableau_calculus.specs.Refused.{IfRefused}
use Rattle.tableau_calculus.specs.declared.refused.PlainRefused.{PlainRefused}
use Rattle.tableau_calculus.specs.declared.refused.PlainRefused.TheVariants.{Refused, Memory}
use Rattle.tableau_calculus.proofs.InstanceLaws.{AreDistinct, one_instance}
use Rattle.tableau_calculus.proofs.AlongLaws.{same_row}

-- two ways to take an element out of a list: the same one, or the one stands before the other
pub split_cases : {A : Type 0} (P : Type 0) (f g b c : List A) (x y : A) → f ++ x ∷ b ≡ g ++ y ∷ c → (f ≡ g → x ≡ y → P) → ((mid : List A) → g ≡ f ++ x ∷ mid → P) → ((mid : List A) → f ≡ g ++ y ∷ mid → P) → P
split_cases P [] [] b c x y e same before behind = let p : x ≡ y = cc in same refl p
split_cases P [] (w ∷ g) b c x y e same before behind = let p : w ≡ x = cc in before g (ap (λ z. z ∷ g) p)
split_cases P (z ∷ f) [] b c x y e same before behind = let p : z ≡ y = cc in behind f (ap (λ w. w ∷ f) p)
split_cases P (z ∷ f) (w ∷ g) b c x y e same before behind =
    let p : z ≡ w = cc in
    let rest : f ++ x ∷ b ≡ g ++ y ∷ c = cc in
    split_cases P f g b c x y rest (λ q r. same (ap₂ (λ u us. u ∷ us) p q) r) (λ mid q. before mid (ap₂ (λ u us. u ∷ us) (sym p) q)) (λ mid q. behind mid (ap₂ (λ u us. u ∷ us) p q))

-- the row is typed, and no earlier one has its predicate
abbrev pub IsRightRow : Scope → List Row → Row → Type 0
IsRightRow scope earlier r = IsTypedRow scope earlier r × (IsTwice earlier r → ⊥)

pub table_at : (scope : Scope) (earlier front back : List Row) (r : Row) → IsTableAfter scope earlier (front ++ r ∷ back) → IsRightRow scope (earlier ++ front) r
table_at scope earlier [] back r h = subst (λ e. IsRightRow scope e r) (sym (append-nil earlier)) (h.0, h.1)
table_at scope earlier (q ∷ front) back r h =
    subst (λ e. IsRightRow scope e r) (append_assoc earlier (q ∷ []) front) (table_at scope (earlier ++ q ∷ []) front back r h.2)

pub lines_at : (scope : Scope) (rows : List Row) (earlier front back : List Line) (line : Line) → AreRightAfter scope rows earlier (front ++ line ∷ back) → IsRightLine scope rows (earlier ++ front) line
lines_at scope rows earlier [] back line h = subst (λ e. IsRightLine scope rows e line) (sym (append-nil earlier)) h.0
lines_at scope rows earlier (l ∷ front) back line h =
    subst (λ e. IsRightLine scope rows e line) (append_assoc earlier (l ∷ []) front) (lines_at scope rows (earlier ++ l ∷ []) front back line h.1)

module _ (scope : Scope) (earlier : List Row) (r : Row) where
  row_fails_not : (why : Why) → RowFails scope earlier r why → IsRightRow scope earlier r → ⊥
  row_fails_not Typing h right = h right.0
  row_fails_not Twice h right = right.1 h.1
  row_fails_not Form h right = h
  row_fails_not Start h right = h
  row_fails_not End h right = h
  row_fails_not CutThere h right = h
  row_fails_not Principal h right = h
  row_fails_not ChildWrong h right = h
  row_fails_not Last h right = h
  row_fails_not Defs h right = h

  -- a row fails for one cause
  one_row_why : (why other : Why) → RowFails scope earlier r why → RowFails scope earlier r other → why ≡ other
  one_row_why Typing Typing h k = refl
  one_row_why Typing Twice h k = absurd (h k.0)
  one_row_why Twice Typing h k = absurd (k h.0)
  one_row_why Twice Twice h k = refl
  one_row_why Typing Form h k = absurd k
  one_row_why Typing Start h k = absurd k
  one_row_why Typing End h k = absurd k
  one_row_why Typing CutThere h k = absurd k
  one_row_why Typing Principal h k = absurd k
  one_row_why Typing ChildWrong h k = absurd k
  one_row_why Typing Last h k = absurd k
  one_row_why Typing Defs h k = absurd k
  one_row_why Twice Form h k = absurd k
  one_row_why Twice Start h k = absurd k
  one_row_why Twice End h k = absurd k
  one_row_why Twice CutThere h k = absurd k
  one_row_why Twice Principal h k = absurd k
  one_row_why Twice ChildWrong h k = absurd k
  one_row_why Twice Last h k = absurd k
  one_row_why Twice Defs h k = absurd k
  one_row_why Form other h k = absurd h
  one_row_why Start other h k = absurd h
  one_row_why End other h k = absurd h
  one_row_why CutThere other h k = absurd h
  one_row_why Principal other h k = absurd h
  one_row_why ChildWrong other h k = absurd h
  one_row_why Last other h k = absurd h
  one_row_why Defs other h k = absurd h

module _ (scope : Scope) (rows : List Row) (distinct : AreDistinct rows) (earlier : List Line) (line : Line) where
  line_fails_not : (why : Why) → LineFails scope rows earlier line why → IsRightLine scope rows earlier line → ⊥
  line_fails_not Typing h right = h right.typed
  line_fails_not Principal h right = h.1 right.alternatives right.instance
  line_fails_not ChildWrong h right =
      let same = one_instance scope rows distinct line.branch line.rule right.alternatives h.1.0 right.instance h.1.1 in
      h.1.2 (subst (λ a. AreChildren earlier line.branch a line.children) same right.children)
  line_fails_not Form h right = h
  line_fails_not Start h right = h
  line_fails_not End h right = h
  line_fails_not Twice h right = h
  line_fails_not CutThere h right = h
  line_fails_not Last h right = h
  line_fails_not Defs h right = h

  -- a line fails for one cause
  one_line_why : (why other : Why) → LineFails scope rows earlier line why → LineFails scope rows earlier line other → why ≡ other
  one_line_why Typing Typing h k = refl
  one_line_why Typing Principal h k = absurd (h k.0)
  one_line_why Typing ChildWrong h k = absurd (h k.0)
  one_line_why Principal Typing h k = absurd (k h.0)
  one_line_why Principal Principal h k = refl
  one_line_why Principal ChildWrong h k = absurd (h.1 k.1.0 k.1.1)
  one_line_why ChildWrong Typing h k = absurd (k h.0)
  one_line_why ChildWrong Principal h k = absurd (k.1 h.1.0 h.1.1)
  one_line_why ChildWrong ChildWrong h k = refl
  one_line_why Typing Form h k = absurd k
  one_line_why Typing Start h k = absurd k
  one_line_why Typing End h k = absurd k
  one_line_why Typing Twice h k = absurd k
  one_line_why Typing CutThere h k = absurd k
  one_line_why Typing Last h k = absurd k
  one_line_why Typing Defs h k = absurd k
  one_line_why Principal Form h k = absurd k
  one_line_why Principal Start h k = absurd k
  one_line_why Principal End h k = absurd k
  one_line_why Principal Twice h k = absurd k
  one_line_why Principal CutThere h k = absurd k
  one_line_why Principal Last h k = absurd k
  one_line_why Principal Defs h k = absurd k
  one_line_why ChildWrong Form h k = absurd k
  one_line_why ChildWrong Start h k = absurd k
  one_line_why ChildWrong End h k = absurd k
  one_line_why ChildWrong Twice h k = absurd k
  one_line_why ChildWrong CutThere h k = absurd k
  one_line_why ChildWrong Last h k = absurd k
  one_line_why ChildWrong Defs h k = absurd k
  one_line_why Form other h k = absurd h
  one_line_why Start other h k = absurd h
  one_line_why End other h k = absurd h
  one_line_why Twice other h k = absurd h
  one_line_why CutThere other h k = absurd h
  one_line_why Last other h k = absurd h
  one_line_why Defs other h k = absurd h

not_empty : {A : Type 0} (front back : List A) (x : A) → front ++ x ∷ back ≡ [] → ⊥
not_empty [] back x e = cc
not_empty (y ∷ front) back x e = cc

module _ (scope : Scope) (start : List Literal) (refutation : Refutation) where
  -- what is accepted has no first failure
  pub accepted_no_failure : (n : ℕ) (why : Why) → FirstFailure scope start refutation n why → IsAccepted scope start refutation → ⊥
  accepted_no_failure _ _ (at_row front back r why is table fails) accepted =
      row_fails_not scope front r why fails (table_at scope [] front back r (subst (IsTable scope) is accepted.table))
  accepted_no_failure _ _ (at_line front back line why table is right fails) accepted =
      let rows = refutation.witnesses in
      line_fails_not (with_rows scope rows) rows (same_row scope [] rows table) front line why fails (lines_at (with_rows scope rows) rows [] front back line (subst (AreRightLines scope rows) is accepted.lines))
  accepted_no_failure _ _ (at_last front line table is right outside) accepted =
      split_cases ⊥ front accepted.last.front [] [] line accepted.last.last (sym is ∙ accepted.last.are)
      (λ e same. outside (subst (λ l. Within l.branch start) (sym same) accepted.last.within))
      (λ mid e. absurd (omega (arith, ap length e, length-append front (line ∷ mid), ap length (sym is ∙ accepted.last.are), length-append front (line ∷ []), length-append accepted.last.front (accepted.last.last ∷ []))))
      (λ mid e. absurd (omega (arith, ap length e, length-append accepted.last.front (accepted.last.last ∷ mid), ap length (sym is ∙ accepted.last.are), length-append front (line ∷ []), length-append accepted.last.front (accepted.last.last ∷ []))))
  accepted_no_failure _ _ (no_line table none) accepted = not_empty accepted.last.front [] accepted.last.last (sym accepted.last.are ∙ none)

  -- a row that fails is none of a witness table
  row_not_table : (front back : List Row) (r : Row) (why : Why) (rows : List Row) → rows ≡ front ++ r ∷ back → RowFails scope front r why → IsTable scope rows → ⊥
  row_not_table front back r why rows is fails table = row_fails_not scope front r why fails (table_at scope [] front back r (subst (IsTable scope) is table))

  line_not_right : IsTable scope refutation.witnesses → (front back : List Line) (line : Line) (why : Why) (lines : List Line) → lines ≡ front ++ line ∷ back → LineFails (with_rows scope refutation.witnesses) refutation.witnesses front line why → AreRightLines scope refutation.witnesses lines → ⊥
  line_not_right table front back line why lines is fails right =
      let rows = refutation.witnesses in
      line_fails_not (with_rows scope rows) rows (same_row scope [] rows table) front line why fails (lines_at (with_rows scope rows) rows [] front back line (subst (AreRightLines scope rows) is right))

  -- a refutation has one first failure at most
  pub one_first_failure : (n k : ℕ) (why other : Why) → FirstFailure scope start refutation n why → FirstFailure scope start refutation k other → (n ≡ k) × (why ≡ other)
  one_first_failure _ _ _ _ (at_row f b r why is table fails) (at_row g c q other are table' fails') =
      split_cases ((length f ≡ length g) × (why ≡ other)) f g b c r q (sym is ∙ are)
      (λ e same. (ap length e, one_row_why scope g q why other (subst₂ (λ x y. RowFails scope x y why) e same fails) fails'))
      (λ mid e. absurd (row_not_table f mid r why g e fails table'))
      (λ mid e. absurd (row_not_table g mid q other f e fails' table))
  one_first_failure _ _ _ _ (at_row f b r why is table fails) (at_line g c l other table' are right fails') = absurd (row_not_table f b r why refutation.witnesses is fails table')
  one_first_failure _ _ _ _ (at_row f b r why is table fails) (at_last g l table' are right outside) = absurd (row_not_table f b r why refutation.witnesses is fails table')
  one_first_failure _ _ _ _ (at_row f b r why is table fails) (no_line table' none) = absurd (row_not_table f b r why refutation.witnesses is fails table')
  one_first_failure _ _ _ _ (at_line f b l why table is right fails) (at_row g c q other are table' fails') = absurd (row_not_table g c q other refutation.witnesses are fails' table)
  one_first_failure _ _ _ _ (at_line f b l why table is right fails) (at_line g c m other table' are right' fails') =
      let rows = refutation.witnesses in
      split_cases ((length rows + length f ≡ length rows + length g) × (why ≡ other)) f g b c l m (sym is ∙ are)
      (λ e same. (ap (λ x. length rows + length x) e, one_line_why (with_rows scope rows) rows (same_row scope [] rows table) g m why other (subst₂ (λ x y. LineFails (with_rows scope rows) rows x y why) e same fails) fails'))
      (λ mid e. absurd (line_not_right table f mid l why g e fails right'))
      (λ mid e. absurd (line_not_right table g mid m other f e fails' right))
  one_first_failure _ _ _ _ (at_line f b l why table is right fails) (at_last g m table' are right' outside) = absurd (line_not_right table f b l why refutation.lines is fails right')
  one_first_failure _ _ _ _ (at_line f b l why table is right fails) (no_line table' none) = absurd (not_empty f b l (sym is ∙ none))
  one_first_failure _ _ _ _ (at_last f l table is right outside) (at_row g c q other are table' fails') = absurd (row_not_table g c q other refutation.witnesses are fails' table)
  one_first_failure _ _ _ _ (at_last f l table is right outside) (at_line g c m other table' are right' fails') = absurd (line_not_right table g c m other refutation.lines are fails' right)
  one_first_failure _ _ _ _ (at_last f l table is right outside) (at_last g m table' are right' outside') =
      (omega (arith, ap length (sym is ∙ are), length-append f (l ∷ []), length-append g (m ∷ [])), refl)
  one_first_failure _ _ _ _ (at_last f l table is right outside) (no_line table' none) = absurd (not_empty f [] l (sym is ∙ none))
  one_first_failure _ _ _ _ (no_line table none) (at_row g c q other are table' fails') = absurd (row_not_table g c q other refutation.witnesses are fails' table)
  one_first_failure _ _ _ _ (no_line table none) (at_line g c m other table' are right' fails') = absurd (not_empty g c m (sym are ∙ none))
  one_first_failure _ _ _ _ (no_line table none) (at_last g m table' are right outside) = absurd (not_empty g [] m (sym are ∙ none))
  one_first_failure _ _ _ _ (no_line table none) (no_line table' none') = (refl, refl)

  -- where a first failure is answered, the refutation isn't accepted
  pub refused_not_accepted : {A : Type 0} (r : Result A PlainRefused) → IfErr r (λ e. IfRefused e (FirstFailure scope start refutation)) → IfErr r (λ e. IfRefused e (λ _ _. IsAccepted scope start refutation → ⊥))
  refused_not_accepted (Ok a) h = tt
  refused_not_accepted (Err (Refused line why)) h = λ accepted. accepted_no_failure line why h accepted
  refused_not_accepted (Err Memory) h = tt
