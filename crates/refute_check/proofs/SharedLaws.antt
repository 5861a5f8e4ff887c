-- Shared terms, as further ones come.
use Rattle.std.proofs.Common.{◌≡◌, ℕ, zero, suc, ◌<◌, true, false, Option, None, is_some, List, [], ◌∷◌, ◌++◌, Some, map, length, get_or, slice_get, Contains, refl, sym, ap, ap₂, subst, ◌∙◌, append-nil, append_assoc, length-append, arith}
use Rattle.std.specs.Prelude.{All}
use Rattle.std.proofs.lemmas.Option.{slice_get-get_or, get_or_from_slice_get, slice_get_within}
use Rattle.std.proofs.lemmas.List.Elements.{All-weaker}
use Rattle.sat_base.specs.declared.literal.SatLit.{SatLit}
use Rattle.stt_core.specs.SimpleType.{SimpleType}
use Rattle.stt_core.specs.Canonical.{IsCanonical}
use Rattle.stt_core.specs.ScopeView.{the_scope}
use Rattle.stt_core.specs.declared.signature.Signature.{Signature}
use Rattle.stt_core.specs.Lambda.{Lambda}
use Rattle.stt_core.specs.Typing.{Scope}
use Rattle.stt_core.proofs.ListLaws.{mapped_get, map-append}
use Rattle.tableau_calculus.specs.Literals.{Literal, IsLiteral, IsBranch}
use Rattle.tableau_calculus.specs.Witnesses.{Row, with_rows}
use Rattle.tableau_calculus.proofs.FailureLaws.{contains_map}
use Rattle.term_bank.specs.Content.{Content, content_scope, HasTerm, Grows}
use Rattle.term_bank.specs.Terms.{term_at}
use Rattle.term_bank.specs.Laws.{EqualIdsForEqualTerms}
use Rattle.term_bank.proofs.GrowLaws.{grows_itself, grows_on, grown_scope, grown_terms}
use Rattle.bank_normal.specs.Right.{IsRightNormaliser}
use Rattle.literal_map.specs.Atoms.{bank_atom, bank_literal, IsAtom}
use Rattle.bank_normal.proofs.RightLaws.{right_grown}
use Rattle.literal_map.proofs.StayLaws.{atoms_stay, literals_same}
use Rattle.witness_names.specs.Rows.{rows_of, AreRows}
use Rattle.witness_names.proofs.StayLaws.{rows_same, rows_grown}
use Rattle.tableau_calculus.specs.Each.{Each}
use Rattle.refute_check.specs.declared.shared.Shared.{Shared}
use Rattle.refute_check.specs.Internal.Numbers.{number_in}
use Rattle.refute_check.specs.Internal.Branches.{Grow, AreNumberedBranch}
use Rattle.refute_check.specs.Internal.Shared.{shared_scope, declared_in, shared_atoms, the_rows, IsGoodShared, ExtendsShared, IsSharedNumber, literal_in, AreNumbersOf, NumbersLiteral}
use Rattle.refute_check.proofs.NumberLaws.{number_in-only, mapped_at}

-- EACH

pub each_at : {X : Type 0} (P : X → Type 0) (xs : List X) (i : ℕ) (x : X) → Each P xs → slice_get xs i ≡ Some x → P x
each_at P [] i x h e = cc
each_at P (y ∷ xs) zero x h e = let same : y ≡ x = cc in subst P same h.0
each_at P (y ∷ xs) (suc i) x h e = each_at P xs i x h.1 e

pub each_append : {X : Type 0} (P : X → Type 0) (xs : List X) (x : X) → Each P xs → P x → Each P (xs ++ x ∷ [])
each_append P [] x h g = (g, tt)
each_append P (y ∷ xs) x h g = (h.0, each_append P xs x h.1 g)

pub each_weaker : {X : Type 0} (P Q : X → Type 0) → ((x : X) → P x → Q x) → (xs : List X) → Each P xs → Each Q xs
each_weaker P Q f [] h = tt
each_weaker P Q f (x ∷ xs) h = (f x h.0, each_weaker P Q f xs h.1)

pub each_contains : {X : Type 0} (P : X → Type 0) (xs : List X) (x : X) → Each P xs → Contains xs x → P x
each_contains P xs x h c = each_at P xs c.0 x h (slice_get-get_or xs c.0 x c.1 ∙ ap Some c.2)

pub map_each : {X Y : Type 0} (P : X → Type 0) (f g : X → Y) → ((x : X) → P x → f x ≡ g x) → (xs : List X) → Each P xs → map f xs ≡ map g xs
map_each P f g same [] h = refl
map_each P f g same (x ∷ xs) h = ap₂ (λ y ys. y ∷ ys) (same x h.0) (map_each P f g same xs h.1)

-- NUMBERS OF ATOMS

module _ (b : Content) (atoms : List ℕ) (same : EqualIdsForEqualTerms b) (differ : (v w id : ℕ) → slice_get atoms v ≡ Some id → slice_get atoms w ≡ Some id → v ≡ w) (are : All (IsAtom b) atoms) where
  within : (j id : ℕ) → slice_get atoms j ≡ Some id → id < length b.terms
  within j id e = subst (λ x. x < length b.terms) (get_or_from_slice_get atoms j id 0 e) (are j 0 (slice_get_within atoms j id e)).within

  -- an atom's place in the list of atoms is its number
  pub number_of-atom : (v : ℕ) → v < length atoms → number_in (map (term_at b.terms) atoms) (bank_atom b.terms atoms v) ≡ Some v
  number_of-atom v h =
      let id = get_or atoms v 0 in
      let at : slice_get atoms v ≡ Some id = slice_get-get_or atoms v 0 h in
      number_in-only (map (term_at b.terms) atoms) (term_at b.terms id) v (mapped_get (term_at b.terms) atoms v id at)
      (λ j e.
      let x = mapped_at (term_at b.terms) atoms j (term_at b.terms id) e in
      let equal : x.0 ≡ id = (same x.0 id (within j x.0 x.1) (within v id at)).1 x.2 in
      differ j v id (x.1 ∙ ap Some equal) at)

  pub literals_numbered : (ns : List SatLit) → Each (λ (n : SatLit). n.var.0 < length atoms) ns → AreNumberedBranch (map (term_at b.terms) atoms) (map (bank_literal b.terms atoms) ns)
  literals_numbered ns h l c =
      let q = contains_map (bank_literal b.terms atoms) ns l c in
      (q.0.var.0, ap (λ (m : Literal). number_in (map (term_at b.terms) atoms) m.atom) (sym q.2) ∙ number_of-atom q.0.var.0 (each_contains (λ (n : SatLit). n.var.0 < length atoms) ns q.0 h q.1))

-- FURTHER TERMS

pub extends_itself : (s : Shared) → ExtendsShared s s
extends_itself s = record { bank = grows_itself s.bank; lits = record { further = []; is = sym (append-nil s.lits) }; witnesses = refl }

pub extends_on : (a b c : Shared) → ExtendsShared a b → ExtendsShared b c → ExtendsShared a c
extends_on a b c g h = record {
  bank = grows_on a.bank b.bank c.bank g.bank h.bank;
  lits = record { further = g.lits.further ++ h.lits.further; is = h.lits.is ∙ ap (λ l. l ++ h.lits.further) g.lits.is ∙ append_assoc a.lits g.lits.further h.lits.further };
  witnesses = h.witnesses ∙ g.witnesses;
}

module _ (old new : Shared) (e : ExtendsShared old new) where
  pub extends_scope : shared_scope new ≡ shared_scope old
  extends_scope = grown_scope old.bank new.bank e.bank

  pub extends_declared : declared_in new ≡ declared_in old
  extends_declared = ap (λ s. with_rows s []) extends_scope

  pub extends_number : (n : SatLit) → IsSharedNumber old n → IsSharedNumber new n
  extends_number n h = omega (arith, h, ap length e.lits.is, length-append old.lits e.lits.further)

  module _ (good : IsGoodShared old) where
    pub extends_rows : the_rows new ≡ the_rows old
    extends_rows = ap (rows_of new.bank.terms) e.witnesses ∙ rows_same old.bank new.bank e.bank old.witnesses good.rows

    pub extends_atoms : Grow (shared_atoms old) (shared_atoms new)
    extends_atoms = (
      map (term_at new.bank.terms) e.lits.further,
      ap (map (term_at new.bank.terms)) e.lits.is
          ∙ map-append (term_at new.bank.terms) old.lits e.lits.further
          ∙ ap (λ l. l ++ map (term_at new.bank.terms) e.lits.further) (grown_terms old.bank new.bank old.lits e.bank (All-weaker (IsAtom old.bank) (λ id. id < length old.bank.terms) (λ id a. a.within) old.lits good.atoms)),
    )

    pub extends_literal : (n : SatLit) → IsSharedNumber old n → literal_in new n ≡ literal_in old n
    extends_literal n h = literals_same old.bank new.bank e.bank old.lits new.lits good.atoms e.lits n h

    pub extends_numbers : (ls : List Literal) (ns : List SatLit) → AreNumbersOf old ls ns → AreNumbersOf new ls ns
    extends_numbers ls ns h = record {
      numbers = each_weaker (IsSharedNumber old) (IsSharedNumber new) extends_number ns h.numbers;
      literals = map_each (IsSharedNumber old) (literal_in new) (literal_in old) extends_literal ns h.numbers ∙ h.literals;
    }

    pub extends_good : IsRightNormaliser new.normal new.bank → All (IsAtom new.bank) new.lits → new.types ≡ old.types → IsGoodShared new
    extends_good right atoms types = record {
      normal = right;
      atoms = atoms;
      rows = subst (λ ws. AreRows new.bank ws) (sym e.witnesses) (rows_grown old.bank new.bank e.bank old.witnesses good.rows);
      declared = ap (map (λ (r : Row). r.type)) extends_rows ∙ good.declared ∙ sym e.bank.witnesses;
      types = types ∙ good.types ∙ sym e.bank.witnesses;
    }

-- the witnesses of a table have their types
pub scope_rows : (s : Shared) → IsGoodShared s → shared_scope s ≡ with_rows (declared_in s) (the_rows s)
scope_rows s good = λ i. record { bases = length s.bank.bases; names = map (λ c. c.type) s.bank.consts; witnesses = sym good.declared i }

-- one literal more
pub numbers-more : (s : Shared) (ls : List Literal) (ns : List SatLit) (l : Literal) (n : SatLit) → AreNumbersOf s ls ns → IsSharedNumber s n → literal_in s n ≡ l → AreNumbersOf s (ls ++ l ∷ []) (ns ++ n ∷ [])
numbers-more s ls ns l n h k e = record {
  numbers = each_append (IsSharedNumber s) ns n h.numbers k;
  literals = map-append (literal_in s) ns (n ∷ []) ∙ ap₂ (λ xs x. xs ++ x ∷ []) h.literals e;
}

-- THE PARTS OF A CHECK

pub signature_scope : (b : Content) (sig : Signature) (types : List SimpleType) → sig.bases ≡ b.bases → sig.consts ≡ b.consts → types ≡ b.witnesses → the_scope sig types ≡ content_scope b
signature_scope b sig types e f g = λ i. record { bases = length (e i); names = map (λ c. c.type) (f i); witnesses = g i }

-- no terms are right
pub good-none : (s : Shared) → s.lits ≡ [] → s.witnesses ≡ [] → s.bank.witnesses ≡ [] → s.types ≡ [] → IsRightNormaliser s.normal s.bank → IsGoodShared s
good-none s lits witnesses types kept normal = record {
  normal = normal;
  atoms = subst (All (IsAtom s.bank)) (sym lits) (λ k d h. absurd (omega (arith, h)));
  rows = subst (AreRows s.bank) (sym witnesses) (record { within = λ k d h. absurd (omega (arith, h)); table = tt; further = []; types = sym (append-nil s.bank.witnesses ∙ types) });
  declared = ap (λ ids. map (λ (r : Row). r.type) (rows_of s.bank.terms ids)) witnesses ∙ sym types;
  types = kept ∙ sym types;
}

-- terms alone have come
module _ (s : Shared) (b : Content) (g : Grows s.bank b) where
  abbrev pub with_bank : Shared
  with_bank = record { bank = b; normal = s.normal; lits = s.lits; witnesses = s.witnesses; types = s.types }

  pub imported_extends : ExtendsShared s with_bank
  imported_extends = record { bank = g; lits = record { further = []; is = sym (append-nil s.lits) }; witnesses = refl }

  pub imported_good : IsGoodShared s → IsGoodShared with_bank
  imported_good good = extends_good s with_bank imported_extends good (right_grown s.normal s.bank b g good.normal) (atoms_stay s.bank b g s.lits good.atoms) refl

  -- a term that is closed and canonical has its place
  pub has_place : (id : ℕ) (a : SimpleType) (nf t : Lambda) → nf ≡ t → IsCanonical (shared_scope s) [] a nf → HasTerm b id nf → IsCanonical (shared_scope with_bank) [] a t × HasTerm b id t
  has_place id a nf t e h has = (subst (IsCanonical (shared_scope with_bank) [] a) e (subst (λ x. IsCanonical x [] a nf) (sym (grown_scope s.bank b g)) h), subst (HasTerm b id) e has)

pub some_of : {A : Type 0} (o : Option A) → is_some o ≡ true → (x : A) × (o ≡ Some x)
some_of (Some x) h = (x, refl)
some_of None h = cc

pub none_of : {A : Type 0} (o : Option A) → is_some o ≡ false → o ≡ None
none_of (Some x) h = cc
none_of None h = refl

pub branch-append : (scope : Scope) (ls : List Literal) (l : Literal) → IsBranch scope ls → IsLiteral scope l → IsBranch scope (ls ++ l ∷ [])
branch-append scope [] l h g = (g, tt)
branch-append scope (k ∷ ls) l h g = (h.0, branch-append scope ls l h.1 g)

-- one literal more of a branch
pub branch-more : (now new : Shared) → IsGoodShared now → ExtendsShared now new → (ls : List Literal) (ns all : List SatLit) (l : Literal) (n : SatLit) → IsBranch (shared_scope now) ls → AreNumbersOf now ls ns → NumbersLiteral new l (Some n) → all ≡ ns ++ n ∷ []
    → IsBranch (shared_scope new) (ls ++ l ∷ []) × AreNumbersOf new (ls ++ l ∷ []) all
branch-more now new good e ls ns all l n h numbers is added = (
  branch-append (shared_scope new) ls l (subst (λ s. IsBranch s ls) (sym (extends_scope now new e)) h) is.0,
  subst (AreNumbersOf new (ls ++ l ∷ [])) (sym added) (numbers-more new ls ns l n (extends_numbers now new e good ls ns numbers) is.1 is.2),
)
