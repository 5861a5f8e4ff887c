-- Instances from drafts: their formulas are formulas, and numbers stand for them.
use Rattle.std.proofs.Common.{◌≡◌, ◌<◌, ◌++◌, ℕ, true, false, Bool, List, [], ◌∷◌, map, length, get_or, take, refl, sym, ap, ap₂, subst₂, ◌∙◌, if◌then◌else◌}
use Rattle.std.specs.Prelude.{All}
use Rattle.sat_base.specs.declared.literal.SatLit.{SatLit}
use Rattle.stt_core.specs.SimpleType.{formula}
use Rattle.stt_core.specs.Lambda.{Lambda}
use Rattle.stt_core.specs.Typing.{Scope, IsScope}
use Rattle.stt_core.specs.Canonical.{IsCanonical}
use Rattle.tableau_calculus.specs.Literals.{Literal, opposite, as_literal, IsLiteral, IsBranch}
use Rattle.tableau_calculus.specs.RuleUses.{principals_of, EachPart}
use Rattle.tableau_calculus.specs.Rules.{PlainRule, AreAt, IsInstance}
use Rattle.tableau_calculus.specs.Witnesses.{Row}
use Rattle.tableau_calculus.specs.declared.rule_use.RuleUse.TheVariants.{AtOne, AtTwo, AllPos, WithPredicate, Cut}
use Rattle.tableau_calculus.proofs.LiteralLaws.{literal_cases}
use Rattle.tableau_calculus.proofs.ClosedLaws.{literal_in}
use Rattle.tableau_calculus.proofs.ListLaws.{contains-get}
use Rattle.tableau_calculus.proofs.UseLaws.{each_part-more}
use Rattle.term_bank.specs.Content.{Content, content_scope}
use Rattle.term_bank.specs.Terms.{term_at}
use Rattle.term_bank.proofs.ListLaws.{get_or-front}
use Rattle.literal_map.specs.Atoms.{bank_literal, IsAtom, Begins}
use Rattle.literal_map.specs.Numbers.{UseByNumbers}
use Rattle.tableau_calculus.specs.Each.{Each}
use Rattle.search_spec.proofs.TypedAlternatives.{alternatives_typed}
use Rattle.tableau_rules.specs.Uses.{use_of, IsInstanceBy}
use Rattle.tableau_rules.specs.Changes.{Widens}
use Rattle.tableau_rules.specs.Internal.Drafted.{signed_at, alternatives_at, IsDraftedWithin, AreDraftedWithin}
use Rattle.tableau_rules.specs.Internal.Numbered.{AreFormulasIn, AllFormulas, AreNumberedLiterals, AllNumbered}
use Rattle.tableau_rules.specs.Internal.Made.{AreDraftsOf}
use Rattle.tableau_rules.specs.declared.draft.Signed.{Signed}
use Rattle.tableau_rules.proofs.WideLaws.{wide_at, wide_within, wide_instance}

-- FORMULAS

-- a formula whose literal is typed is typed
literal_typed : (scope : Scope) (t : Lambda) → IsLiteral scope (as_literal t) → IsCanonical scope [] formula t
literal_typed scope t h =
    literal_cases (λ t l. IsCanonical scope [] formula l.atom → IsCanonical scope [] formula t) (λ s go k. (tt, (formula, refl, go k))) (λ t n k. k) t h.formula

signed_typed : (b : Content) (s : Signed) → IsLiteral (content_scope b) (signed_at b s) → IsCanonical (content_scope b) [] formula (term_at b.terms s.formula)
signed_typed b s h = literal_typed (content_scope b) (term_at b.terms s.formula) (go s.positive h)
  where
    go : (sign : Bool) → IsLiteral (content_scope b) (if sign then as_literal (term_at b.terms s.formula) else opposite (as_literal (term_at b.terms s.formula))) → IsLiteral (content_scope b) (as_literal (term_at b.terms s.formula))
    go true h = h
    go false h = record { formula = h.formula; unsigned = h.unsigned }

are_formulas : (b : Content) (d : List Signed) → IsDraftedWithin b d → IsBranch (content_scope b) (map (signed_at b) d) → AreFormulasIn b d
are_formulas b [] w h = tt
are_formulas b (s ∷ d) w h = (record { within = w.0; typed = signed_typed b s h.0 }, are_formulas b d w.1 h.1)

all_formulas : (b : Content) (ds : List (List Signed)) → AreDraftedWithin b ds → Each (IsBranch (content_scope b)) (alternatives_at b ds) → AllFormulas b ds
all_formulas b [] w h = tt
all_formulas b (d ∷ ds) w h = (are_formulas b d w.0 h.0, all_formulas b ds w.1 h.1)

at_typed : (scope : Scope) (branch : List Literal) (is : List ℕ) (ls : List Literal) → IsBranch scope branch → AreAt branch is ls → IsBranch scope ls
at_typed scope branch [] [] h k = tt
at_typed scope branch [] (l ∷ ls) h k = absurd k
at_typed scope branch (i ∷ is) [] h k = absurd k
at_typed scope branch (i ∷ is) (l ∷ ls) h k = (literal_in scope l branch (contains-get branch i l k.0) h, at_typed scope branch is ls h k.1)

-- PRINCIPALS

branch_typed : (b : Content) (atoms : List ℕ) → All (IsAtom b) atoms → (ls : List SatLit) → Each (λ (l : SatLit). l.var.0 < length atoms) ls → IsBranch (content_scope b) (map (bank_literal b.terms atoms) ls)
branch_typed b atoms are [] h = tt
branch_typed b atoms are (l ∷ ls) h =
    let a = are l.var.0 0 h.0 in
    (record { formula = a.is_formula; unsigned = a.unsigned }, branch_typed b atoms are ls h.1)

pub formulas_of : (b : Content) (atoms : List ℕ) (by : UseByNumbers) (ds : List (List Signed)) → IsScope (content_scope b) → All (IsAtom b) atoms → Each (λ (l : SatLit). l.var.0 < length atoms) (principals_of by) → AreDraftsOf b atoms by ds → AllFormulas b ds
formulas_of b atoms by ds over are within h =
    let i = h.instance in
    let rule = use_of b.terms atoms by in
    all_formulas b ds h.within
    (alternatives_typed (content_scope b) over h.rows h.types rule i.principals (alternatives_at b ds) i.fits
    (at_typed (content_scope b) (map (bank_literal b.terms atoms) (principals_of by)) (principals_of rule) i.principals (branch_typed b atoms are (principals_of by) within) i.at_places))

-- NUMBERS

numbers_of : (b : Content) (atoms : List ℕ) (d : List Signed) (ls : List SatLit) → AreNumberedLiterals b atoms d ls → Each (λ (l : SatLit). l.var.0 < length atoms) ls
numbers_of b atoms [] [] h = tt
numbers_of b atoms [] (l ∷ ls) h = absurd h
numbers_of b atoms (s ∷ d) [] h = absurd h
numbers_of b atoms (s ∷ d) (l ∷ ls) h = (h.0.number, numbers_of b atoms d ls h.1)

pub all_numbers : (b : Content) (atoms : List ℕ) (ds : List (List Signed)) (lists : List (List SatLit)) → AllNumbered b atoms ds lists → Each (Each (λ (l : SatLit). l.var.0 < length atoms)) lists
all_numbers b atoms [] [] h = tt
all_numbers b atoms [] (l ∷ ls) h = absurd h
all_numbers b atoms (s ∷ d) [] h = absurd h
all_numbers b atoms (s ∷ d) (l ∷ ls) h = (numbers_of b atoms s l h.0, all_numbers b atoms d ls h.1)

literals_of : (b : Content) (atoms : List ℕ) (d : List Signed) (ls : List SatLit) → AreNumberedLiterals b atoms d ls → map (bank_literal b.terms atoms) ls ≡ map (signed_at b) d
literals_of b atoms [] [] h = refl
literals_of b atoms [] (l ∷ ls) h = absurd h
literals_of b atoms (s ∷ d) [] h = absurd h
literals_of b atoms (s ∷ d) (l ∷ ls) h = ap₂ (λ x xs. x ∷ xs) h.0.is (literals_of b atoms d ls h.1)

pub all_literals : (b : Content) (atoms : List ℕ) (ds : List (List Signed)) (lists : List (List SatLit)) → AllNumbered b atoms ds lists → map (map (bank_literal b.terms atoms)) lists ≡ alternatives_at b ds
all_literals b atoms [] [] h = refl
all_literals b atoms [] (l ∷ ls) h = absurd h
all_literals b atoms (s ∷ d) [] h = absurd h
all_literals b atoms (s ∷ d) (l ∷ ls) h = ap₂ (λ x xs. x ∷ xs) (literals_of b atoms s l h.0) (all_literals b atoms d ls h.1)

take_front : {A : Type 0} (xs ys : List A) → take (length xs) (xs ++ ys) ≡ xs
take_front [] ys = refl
take_front (x ∷ xs) ys = ap (λ l. x ∷ l) (take_front xs ys)

-- THE SAME INSTANCE OVER ANOTHER BANK AND MORE ATOMS

module _ (b c : Content) (atoms more : List ℕ) (literals : (l : SatLit) → l.var.0 < length atoms → bank_literal c.terms more l ≡ bank_literal b.terms atoms l) (terms : (id : ℕ) → id < length b.terms → term_at c.terms id ≡ term_at b.terms id) where
  list_same : (ls : List SatLit) → Each (λ (l : SatLit). l.var.0 < length atoms) ls → map (bank_literal c.terms more) ls ≡ map (bank_literal b.terms atoms) ls
  list_same [] h = refl
  list_same (l ∷ ls) h = ap₂ (λ x xs. x ∷ xs) (literals l h.0) (list_same ls h.1)

  pub use_same : (by : UseByNumbers) → EachPart (λ id. id < length b.terms) (λ (l : SatLit). l.var.0 < length atoms) by → use_of c.terms more by ≡ use_of b.terms atoms by
  use_same (AtOne rule l) h = refl
  use_same (AtTwo rule l m) h = refl
  use_same (AllPos l u) h = ap (AllPos 0) (terms u h)
  use_same (WithPredicate rule u) h = ap (WithPredicate rule) (terms u h)
  use_same (Cut l) h = ap Cut (literals l h)

  pub instance_moved : (by : UseByNumbers) → Each (λ (l : SatLit). l.var.0 < length atoms) (principals_of by) → EachPart (λ id. id < length b.terms) (λ (l : SatLit). l.var.0 < length atoms) by → (rows : List Row) (as' : List (List Literal)) → ((branch : List Literal) (rule : PlainRule) → IsInstance (content_scope b) rows branch rule as' → IsInstance (content_scope c) rows branch rule as') → IsInstanceBy b atoms rows by as' → IsInstanceBy c more rows by as'
  instance_moved by within parts rows as' scope h =
      subst₂ (λ ls rule. IsInstance (content_scope c) rows ls rule as') (sym (list_same (principals_of by) within)) (sym (use_same by parts))
      (scope (map (bank_literal b.terms atoms) (principals_of by)) (use_of b.terms atoms by) h)

-- what a rule takes stays within a widened bank
pub parts_wider : (b c : Content) (atoms : List ℕ) (by : UseByNumbers) → Widens b c → EachPart (λ id. id < length b.terms) (λ (l : SatLit). l.var.0 < length atoms) by → EachPart (λ id. id < length c.terms) (λ (l : SatLit). l.var.0 < length atoms) by
parts_wider b c atoms by w = each_part-more (λ id. id < length b.terms) (λ id. id < length c.terms) (λ (l : SatLit). l.var.0 < length atoms) (λ (l : SatLit). l.var.0 < length atoms) (wide_within b c w) (λ l h. h) by

module _ (by : UseByNumbers) (rows : List Row) (as' : List (List Literal)) where
  -- over more atoms
  pub instance_on : (b : Content) (atoms more : List ℕ) → Begins atoms more → Each (λ (l : SatLit). l.var.0 < length atoms) (principals_of by) → EachPart (λ id. id < length b.terms) (λ (l : SatLit). l.var.0 < length atoms) by → IsInstanceBy b atoms rows by as' → IsInstanceBy b more rows by as'
  instance_on b atoms more g within parts =
      instance_moved b b atoms more
      (λ l k. ap (λ x. record { positive = l.positive; atom = term_at b.terms x }) (ap (λ xs. get_or xs l.var.0 0) g.is ∙ get_or-front atoms g.further l.var.0 0 k))
      (λ id k. refl) by within parts rows as' (λ branch rule i. i)

  -- over a widened bank
  pub instance_wider : (b c : Content) (atoms : List ℕ) → Widens b c → All (IsAtom b) atoms → Each (λ (l : SatLit). l.var.0 < length atoms) (principals_of by) → EachPart (λ id. id < length b.terms) (λ (l : SatLit). l.var.0 < length atoms) by → IsInstanceBy b atoms rows by as' → IsInstanceBy c atoms rows by as'
  instance_wider b c atoms w are within parts =
      instance_moved b c atoms atoms (λ l k. ap (λ t. record { positive = l.positive; atom = t }) (wide_at b c w (get_or atoms l.var.0 0) (are l.var.0 0 k).within))
      (wide_at b c w) by within parts rows as' (λ branch rule i. wide_instance b c w rows branch rule as' i)
