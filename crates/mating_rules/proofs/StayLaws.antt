-- An index where the bank and the table grow, and partners over formulas.
use Rattle.std.specs.Prelude.{◌≡◌, ◌<◌, ◌&&◌, ℕ, List, length, map, All, not}
use Rattle.std.proofs.Common.{sym, ap, ◌∙◌, arith, length-append}
use Rattle.std.proofs.lemmas.List.Elements.{All-weaker}
use Rattle.stt_core.specs.Lambda.{Lambda}
use Rattle.tableau_calculus.specs.Literals.{Literal}
use Rattle.tableau_calculus.specs.Kinds.{same_sign}
use Rattle.sat_base.specs.declared.literal.SatLit.{SatLit}
use Rattle.term_bank.specs.Content.{Content, Grows}
use Rattle.search_spec.specs.Partners.{partners}
use Rattle.literal_map.specs.Atoms.{bank_atom, bank_literal, IsAtom, Begins}
use Rattle.literal_map.proofs.StayLaws.{literals_same}
use Rattle.mating_rules.specs.Noted.{Notes, IsRightIndex, are_partners, partners_of, has_pairing_head}
use Rattle.mating_rules.proofs.FilterLaws.{filter-agree, map-filter}

pub right_stays : (old new : Content) → Grows old new → (atoms further : List ℕ) → All (IsAtom old) atoms → Begins atoms further → (i : Notes) → IsRightIndex old.terms atoms i → IsRightIndex new.terms further i
right_stays old new g atoms further h b i r = record {
  numbers = All-weaker (λ (l : SatLit). l.var.0 < length atoms) (λ l. l.var.0 < length further) (λ l k. omega (arith, k, ap length b.is, length-append atoms b.further)) i.noted r.numbers;
  kept = λ k sign.
      r.kept k sign
      ∙ filter-agree (λ l. same_sign sign l.positive && has_pairing_head k (bank_atom old.terms atoms l.var.0)) (λ l. same_sign sign l.positive && has_pairing_head k (bank_atom new.terms further l.var.0)) i.noted
      (All-weaker (λ (l : SatLit). l.var.0 < length atoms) (λ l. (same_sign sign l.positive && has_pairing_head k (bank_atom old.terms atoms l.var.0)) ≡ (same_sign sign l.positive && has_pairing_head k (bank_atom new.terms further l.var.0)))
      (λ l n. ap (λ (m : Literal). same_sign sign l.positive && has_pairing_head k m.atom) (sym (literals_same old new g atoms further h b l n))) i.noted r.numbers);
}

pub literals-partners : (terms : List Lambda) (atoms : List ℕ) (l : SatLit) (noted : List SatLit) → map (bank_literal terms atoms) (partners_of terms atoms l noted) ≡ partners (are_partners (bank_atom terms atoms l.var.0)) (bank_literal terms atoms l) (map (bank_literal terms atoms) noted)
literals-partners terms atoms l noted =
    map-filter (bank_literal terms atoms) (λ m. not (same_sign l.positive m.positive) && are_partners (bank_atom terms atoms l.var.0) m.atom) noted
