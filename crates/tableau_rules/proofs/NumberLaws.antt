-- Drafts that are numbered one formula after the other.
use Rattle.std.proofs.Common.{◌≡◌, ◌+◌, ℕ, zero, suc, List, [], ◌∷◌, ◌++◌, Some, length, take, get_or, slice_get, sym, ap, subst, subst₂, ◌∙◌, arith, length-append, append_assoc, append-nil}
use Rattle.std.specs.Prelude.{All}
use Rattle.std.proofs.lemmas.Option.{same_Some}
use Rattle.stt_core.proofs.ListLaws.{take_got}
use Rattle.sat_base.specs.declared.literal.SatLit.{SatLit}
use Rattle.term_bank.specs.Content.{Content}
use Rattle.term_bank.specs.Terms.{term_at}
use Rattle.term_bank.proofs.ListLaws.{get_or-front}
use Rattle.literal_map.specs.Atoms.{IsAtom, Begins}
use Rattle.tableau_rules.specs.Internal.Numbered.{IsSignedFormula, AreFormulasIn, AllFormulas, IsNumbered, AreNumberedLiterals, AllNumbered}
use Rattle.tableau_rules.specs.declared.draft.Signed.{Signed}

pub formula_at : (b : Content) (draft : List Signed) (i : ℕ) (s : Signed) → AreFormulasIn b draft → slice_get draft i ≡ Some s → IsSignedFormula b s
formula_at b [] i s h e = cc
formula_at b (x ∷ draft) zero s h e = subst (IsSignedFormula b) (same_Some x s e) h.0
formula_at b (x ∷ draft) (suc i) s h e = formula_at b draft i s h.1 e

pub formulas_at : (b : Content) (drafts : List (List Signed)) (i : ℕ) (d : List Signed) → AllFormulas b drafts → slice_get drafts i ≡ Some d → AreFormulasIn b d
formulas_at b [] i d h e = cc
formulas_at b (x ∷ drafts) zero d h e = subst (AreFormulasIn b) (same_Some x d e) h.0
formulas_at b (x ∷ drafts) (suc i) d h e = formulas_at b drafts i d h.1 e

pub begins_itself : (xs : List ℕ) → Begins xs xs
begins_itself xs = record { further = []; is = sym (append-nil xs) }

pub begins_on : (xs ys zs : List ℕ) → Begins xs ys → Begins ys zs → Begins xs zs
begins_on xs ys zs g h = record { further = g.further ++ h.further; is = h.is ∙ ap (λ l. l ++ h.further) g.is ∙ append_assoc xs g.further h.further }

module _ (b : Content) (xs ys : List ℕ) (g : Begins xs ys) where
  pub numbered_on : (s : Signed) (l : SatLit) → IsNumbered b xs s l → IsNumbered b ys s l
  numbered_on s l h = record {
    number = omega (arith, h.number, ap length g.is, length-append xs g.further);
    is = ap (λ a. record { positive = l.positive; atom = term_at b.terms a }) (ap (λ zs. get_or zs l.var.0 0) g.is ∙ get_or-front xs g.further l.var.0 0 h.number) ∙ h.is;
  }

  pub are_numbered_on : (draft : List Signed) (ls : List SatLit) → AreNumberedLiterals b xs draft ls → AreNumberedLiterals b ys draft ls
  are_numbered_on [] [] h = h
  are_numbered_on [] (l ∷ ls) h = h
  are_numbered_on (s ∷ draft) [] h = h
  are_numbered_on (s ∷ draft) (l ∷ ls) h = (numbered_on s l h.0, are_numbered_on draft ls h.1)

  pub all_numbered_on : (drafts : List (List Signed)) (lists : List (List SatLit)) → AllNumbered b xs drafts lists → AllNumbered b ys drafts lists
  all_numbered_on [] [] h = h
  all_numbered_on [] (l ∷ ls) h = h
  all_numbered_on (s ∷ draft) [] h = h
  all_numbered_on (s ∷ draft) (l ∷ ls) h = (are_numbered_on s l h.0, all_numbered_on draft ls h.1)

module _ (b : Content) (atoms : List ℕ) where
  are_end : (draft : List Signed) (ls : List SatLit) (s : Signed) (l : SatLit) → AreNumberedLiterals b atoms draft ls → IsNumbered b atoms s l → AreNumberedLiterals b atoms (draft ++ s ∷ []) (ls ++ l ∷ [])
  are_end [] [] s l h k = (k, tt)
  are_end [] (x ∷ ls) s l h k = absurd h
  are_end (y ∷ draft) [] s l h k = absurd h
  are_end (y ∷ draft) (x ∷ ls) s l h k = (h.0, are_end draft ls s l h.1 k)

  all_end : (drafts : List (List Signed)) (lists : List (List SatLit)) (s : List Signed) (l : List SatLit) → AllNumbered b atoms drafts lists → AreNumberedLiterals b atoms s l → AllNumbered b atoms (drafts ++ s ∷ []) (lists ++ l ∷ [])
  all_end [] [] s l h k = (k, tt)
  all_end [] (x ∷ ls) s l h k = absurd h
  all_end (y ∷ draft) [] s l h k = absurd h
  all_end (y ∷ draft) (x ∷ ls) s l h k = (h.0, all_end draft ls s l h.1 k)

  pub are_more : (before : List ℕ) (draft : List Signed) (i : ℕ) (s : Signed) (ls all : List SatLit) (l : SatLit) → Begins before atoms → AreNumberedLiterals b before (take i draft) ls → slice_get draft i ≡ Some s → IsNumbered b atoms s l → all ≡ ls ++ l ∷ [] → AreNumberedLiterals b atoms (take (i + 1) draft) all
  are_more before draft i s ls all l g h e k m =
      subst₂ (AreNumberedLiterals b atoms) (sym (take_got draft i s e)) (sym m) (are_end (take i draft) ls s l (are_numbered_on b before atoms g (take i draft) ls h) k)

  pub all_more : (before : List ℕ) (drafts : List (List Signed)) (i : ℕ) (s : List Signed) (ls all : List (List SatLit)) (l : List SatLit) → Begins before atoms → AllNumbered b before (take i drafts) ls → slice_get drafts i ≡ Some s → AreNumberedLiterals b atoms s l → all ≡ ls ++ l ∷ [] → AllNumbered b atoms (take (i + 1) drafts) all
  all_more before drafts i s ls all l g h e k m =
      subst₂ (AllNumbered b atoms) (sym (take_got drafts i s e)) (sym m) (all_end (take i drafts) ls s l (all_numbered_on b before atoms g (take i drafts) ls h) k)

-- how far a list is numbered
pub record NumbersTo (b : Content) (old atoms : List ℕ) (draft : List Signed) (i : ℕ) (ls : List SatLit) : Type 0 where
  pub numbered : AreNumberedLiterals b atoms (take i draft) ls
  pub begins : Begins old atoms
  pub atoms_are : All (IsAtom b) atoms

pub record AllNumberTo (b : Content) (old atoms : List ℕ) (drafts : List (List Signed)) (i : ℕ) (lists : List (List SatLit)) : Type 0 where
  pub numbered : AllNumbered b atoms (take i drafts) lists
  pub begins : Begins old atoms
  pub atoms_are : All (IsAtom b) atoms
