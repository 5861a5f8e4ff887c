-- Steps behind those that were there.
use Rattle.std.specs.Prelude.{◌≡◌, ◌≢◌, false, ℕ, zero, suc, List, [], ◌∷◌, ◌++◌, map, length, replicate, refl}
use Rattle.std.proofs.Common.{sym, ap, ap₂, ◌∙◌, subst, arith, append-nil, length-append}
use Rattle.sat_base.specs.declared.literal.SatLit.{SatLit}
use Rattle.tableau_calculus.specs.CutFree.{is_cut_use}
use Rattle.tableau_calculus.specs.RuleUses.{principals_of, EachPart}
use Rattle.tableau_calculus.specs.declared.rule_use.RuleUse.TheVariants.{AtOne, AtTwo, AllPos, WithPredicate, Cut}
use Rattle.tableau_calculus.proofs.UseLaws.{each_part-more}
use Rattle.refute_print.specs.Sizes.{IsSmallTerm}
use Rattle.tableau_calculus.specs.Each.{Each}
use Rattle.search_spec.specs.Clauses.{with_clauses}
use Rattle.search_spec.specs.Numbered.{numbers}
use Rattle.literal_map.specs.Atoms.{bank_literal}
use Rattle.literal_map.specs.Numbers.{UseByNumbers}
use Rattle.literal_map.specs.declared.instance.Instance.{Instance}
use Rattle.term_bank.specs.Terms.{term_at}
use Rattle.term_bank.proofs.GrowLaws.{grown_within}
use Rattle.tableau_rules.specs.Uses.{IsInstanceBy}
use Rattle.tableau_clauses.specs.declared.origin.Origin.{Origin}
use Rattle.tableau_clauses.specs.declared.origin.Origin.TheVariants.{Start, Instance as From}
use Rattle.tableau_clauses.specs.Table.{Step, Table, clauses_in, origins_in, the_clauses, the_origins, the_instances}
use Rattle.prover_state.specs.declared.tables.Basis.{Basis}
use Rattle.prover_state.specs.Internal.Growing.{BasisGrows}
use Rattle.prover_state.specs.Internal.Names.{IsNumberIn, IsPlace}
use Rattle.prover_state.specs.Internal.Standing.{rows_in}
use Rattle.prover_state.specs.Internal.Steps.{IsMadeInstance, StepsGrow}
use Rattle.prover_state.proofs.ClauseLaws.{with_clauses-longer}
use Rattle.prover_state.proofs.EachLaws.{each-weaker}
use Rattle.prover_state.proofs.NamesLaws.{term-stays}

-- what stands behind the steps that were there
pub record Behind (xs ys : List Step) (os : List Origin) : Type 0 where
  pub further : List Step
  pub is : ys ≡ xs ++ further
  pub origins : origins_in further ≡ os

-- steps whose clauses and whose origins begin as others' begin as these
steps-front : (xs ys : List Step) (cs : List (List SatLit)) (os : List Origin) → clauses_in ys ≡ clauses_in xs ++ cs → origins_in ys ≡ origins_in xs ++ os → Behind xs ys os
steps-front [] ys cs os h k = record { further = ys; is = refl; origins = k }
steps-front (x ∷ xs) [] cs os h k = cc
steps-front (x ∷ xs) (y ∷ ys) cs os h k =
    let clause : y.0 ≡ x.0 = cc in
    let origin : y.1 ≡ x.1 = cc in
    let clauses : clauses_in ys ≡ clauses_in xs ++ cs = cc in
    let origins : origins_in ys ≡ origins_in xs ++ os = cc in
    let rest = steps-front xs ys cs os clauses origins in
    record { further = rest.further; is = ap₂ (λ z zs. z ∷ zs) (λ i. (clause i, origin i)) rest.is; origins = rest.origins }

-- steps of an instance are no start units
from-instance : (k m : ℕ) (further : List Step) → origins_in further ≡ replicate m (From k) → Each (λ s. s.1 ≢ Start) further
from-instance k m [] h = tt
from-instance k zero (s ∷ further) h = cc
from-instance k (suc m) (s ∷ further) h =
    let origin : s.1 ≡ From k = cc in
    let origins : origins_in further ≡ replicate m (From k) = cc in
    ((λ e. cc), from-instance k m further origins)

pub steps-grow : (old new : Table) (instance : Instance) (es : List (List SatLit)) (m k : ℕ) → the_clauses new ≡ with_clauses numbers (the_clauses old) es → the_origins new ≡ the_origins old ++ replicate m (From k)
    → the_instances new ≡ the_instances old ++ instance ∷ [] → StepsGrow (λ i. i ≡ instance) old new
steps-grow old new instance es m k clauses origins instances =
    let l = with_clauses-longer numbers (the_clauses old) es in
    let b = steps-front old.0 new.0 l.0 (replicate m (From k)) (clauses ∙ l.1) origins in
    record { further = b.further; clauses = b.is; made = from-instance k m b.further b.origins; more = instance ∷ []; instances = instances; good = (refl, tt) }

pub steps-same : (Good : Instance → Type 0) (t : Table) → StepsGrow Good t t
steps-same Good t = record { further = []; clauses = sym (append-nil t.0); made = tt; more = []; instances = sym (append-nil t.1); good = tt }

pub steps-weaker : (P Q : Instance → Type 0) → ((i : Instance) → P i → Q i) → (old new : Table) → StepsGrow P old new → StepsGrow Q old new
steps-weaker P Q f old new s = record { further = s.further; clauses = s.clauses; made = s.made; more = s.more; instances = s.instances; good = each-weaker P Q f s.more s.good }

-- an instance by a use whose parts have numbers and whose term is small
pub is-made : (old new : Basis) → BasisGrows old new → (by : UseByNumbers) (i : Instance) → i.by ≡ by → i.principals ≡ principals_of by
    → Each (IsNumberIn old.lits) (principals_of by) → EachPart (IsPlace old.bank.terms) (IsNumberIn old.lits) by → EachPart (λ u. IsSmallTerm (term_at old.bank.terms u)) (λ l. Unit {0}) by → is_cut_use by ≡ false
    → Each (Each (IsNumberIn new.lits)) i.alternatives
    → IsInstanceBy new.bank new.lits (rows_in new) by (map (map (bank_literal new.bank.terms new.lits)) i.alternatives) → IsMadeInstance new i
is-made old new grows by i e principals named parts small uncut listed fits = record {
  principals = principals ∙ ap principals_of (sym e);
  numbered = subst (λ (b : UseByNumbers). Each (IsNumberIn new.lits) (principals_of b)) (sym e) (each-weaker (IsNumberIn old.lits) (IsNumberIn new.lits) number (principals_of by) named);
  parts = subst (EachPart (IsPlace new.bank.terms) (IsNumberIn new.lits)) (sym e) (each_part-more (IsPlace old.bank.terms) (IsPlace new.bank.terms) (IsNumberIn old.lits) (IsNumberIn new.lits) (λ u h. grown_within old.bank new.bank u grows.bank h) number by parts);
  small = subst (EachPart (λ u. IsSmallTerm (term_at new.bank.terms u)) (λ l. Unit {0})) (sym e) (small_stays by parts small);
  uncut = ap is_cut_use e ∙ uncut;
  numbers = listed;
  fits = subst (λ (b : UseByNumbers). IsInstanceBy new.bank new.lits (rows_in new) b (map (map (bank_literal new.bank.terms new.lits)) i.alternatives)) (sym e) fits;
}
  where
    number : (l : SatLit) → IsNumberIn old.lits l → IsNumberIn new.lits l
    number l k = omega (arith, k, ap length grows.lits.is, length-append old.lits grows.lits.further)

    term_same : (u : ℕ) → IsPlace old.bank.terms u → term_at new.bank.terms u ≡ term_at old.bank.terms u
    term_same u h = term-stays old.bank.terms new.bank.terms (grows.bank.further, grows.bank.terms) u h

    small_stays : (u : UseByNumbers) → EachPart (IsPlace old.bank.terms) (IsNumberIn old.lits) u → EachPart (λ t. IsSmallTerm (term_at old.bank.terms t)) (λ l. Unit {0}) u → EachPart (λ t. IsSmallTerm (term_at new.bank.terms t)) (λ l. Unit {0}) u
    small_stays (AtOne rule l) h k = k
    small_stays (AtTwo rule l m) h k = k
    small_stays (AllPos l t) h k = subst IsSmallTerm (sym (term_same t h)) k
    small_stays (WithPredicate rule t) h k = subst IsSmallTerm (sym (term_same t h)) k
    small_stays (Cut l) h k = k
