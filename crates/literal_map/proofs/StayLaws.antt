-- Atoms and literals where the bank grows.
use Rattle.std.proofs.Common.{◌≡◌, ℕ, ◌<◌, List, length, get_or, sym, ap, subst, ◌∙◌}
use Rattle.std.specs.Prelude.{[], All}
use Rattle.std.proofs.lemmas.List.Elements.{All-weaker}
use Rattle.sat_base.specs.declared.literal.SatLit.{SatLit}
use Rattle.stt_core.specs.SimpleType.{formula}
use Rattle.stt_core.specs.Lambda.{Lambda}
use Rattle.stt_core.specs.Typing.{Scope}
use Rattle.stt_core.specs.Canonical.{IsCanonical}
use Rattle.tableau_calculus.specs.Literals.{Literal, is_negated}
use Rattle.term_bank.specs.Content.{Content, content_scope, Grows}
use Rattle.term_bank.specs.Terms.{term_at}
use Rattle.term_bank.proofs.GrowLaws.{grown_scope, grown_at, grown_within}
use Rattle.term_bank.proofs.ListLaws.{get_or-front}
use Rattle.literal_map.specs.Atoms.{bank_literal, IsAtom, Begins}

atom_stays : (old new : Content) → Grows old new → (id : ℕ) → IsAtom old id → IsAtom new id
atom_stays old new g id a =
    let t : term_at new.terms id ≡ term_at old.terms id = grown_at old new id g a.within in
    let InScope : Scope → Type 0 = λ s. IsCanonical s [] formula (term_at old.terms id) in
    let OfTerm : Lambda → Type 0 = λ u. IsCanonical (content_scope new) [] formula u in
    record {
      within = grown_within old new id g a.within;
      is_formula = subst OfTerm (sym t) (subst InScope (sym (grown_scope old new g)) a.is_formula);
      unsigned = ap is_negated t ∙ a.unsigned;
    }

pub atoms_stay : (old new : Content) → Grows old new → (atoms : List ℕ) → All (IsAtom old) atoms → All (IsAtom new) atoms
atoms_stay old new g atoms h = All-weaker (IsAtom old) (IsAtom new) (λ id a. atom_stays old new g id a) atoms h

pub literals_same : (old new : Content) → Grows old new → (atoms further : List ℕ) → All (IsAtom old) atoms → Begins atoms further → (l : SatLit) → l.var.0 < length atoms → bank_literal new.terms further l ≡ bank_literal old.terms atoms l
literals_same old new g atoms further h b l k =
    let place : get_or further l.var.0 0 ≡ get_or atoms l.var.0 0 = ap (λ xs. get_or xs l.var.0 0) b.is ∙ get_or-front atoms b.further l.var.0 0 k in
    let L : Lambda → Literal = λ t. record { positive = l.positive; atom = t } in
    ap L (ap (term_at new.terms) place ∙ grown_at old new (get_or atoms l.var.0 0) g (h l.var.0 0 k).within)
