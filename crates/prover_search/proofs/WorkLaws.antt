-- What the work on a literal makes of the state.
use Rattle.std.specs.Prelude.{◌≡◌, ◌&&◌, ◌++◌, ℕ, suc, Bool, true, false, [], ◌∷◌, map, length, Option, Some, None, if◌then◌else◌, refl}
use Rattle.std.specs.List.{list_any}
use Rattle.std.proofs.Common.{sym, ap, ap₂, ◌∙◌, subst}
use Rattle.stt_core.specs.SimpleType.{SimpleType, base, arrow}
use Rattle.stt_core.specs.Lambda.{witness, Lambda, constant, eq, every}
use Rattle.stt_core.specs.SameTerm.{same_term}
use Rattle.stt_core.specs.Typing.{type_of}
use Rattle.tableau_calculus.specs.Literals.{Literal, plus, minus}
use Rattle.tableau_calculus.specs.Witnesses.{Row}
use Rattle.sat_base.specs.declared.literal.SatLit.{SatLit}
use Rattle.command_queue.specs.Queue.{Queue}
use Rattle.mode_file.specs.declared.Mode.{Mode}
use Rattle.search_spec.specs.Spine.{head_of, arguments, is_spine, same_head}
use Rattle.search_spec.specs.State.{State, Setting, inst, with_commands, scope_in}
use Rattle.tableau_calculus.specs.Rules.{Alternatives, differ, fun_neg}
use Rattle.search_spec.specs.Instances.{with_instance}
use Rattle.search_spec.specs.Partners.{matings, confrontations}
use Rattle.search_spec.specs.Terms.{terms_of, with_term, with_terms}
use Rattle.search_spec.specs.Offers.{offered_witness, offered_sides}
use Rattle.search_spec.specs.Preparing.{with_preparation}
use Rattle.search_spec.specs.Witness.{same_row, witness_of, with_witness}
use Rattle.search_spec.proofs.RowLaws.{no_row}
use Rattle.search_spec.specs.Selections.{selections_in, with_selections}
use Rattle.search_spec.specs.Processing.{LiteralRule, connective_rule, with_connective, with_rules, with_equation, with_decomposition, with_confrontations, with_matings, with_processing}
use Rattle.term_bank.specs.Terms.{term_at}
use Rattle.literal_map.specs.Atoms.{bank_literal}
use Rattle.prover_state.specs.declared.command.Planned.{Planned}
use Rattle.prover_state.specs.declared.command.Delays.{Delays}
use Rattle.prover_state.specs.declared.tables.Basis.{Basis}
use Rattle.prover_state.specs.declared.tables.Tables.{Tables}
use Rattle.prover_state.specs.Internal.Growing.{BasisGrows, BasisWidens}
use Rattle.prover_state.specs.Internal.Names.{IsNumberIn}
use Rattle.prover_state.specs.Internal.Pending.{equation_type, range_of}
use Rattle.prover_state.specs.Internal.Shapes.{IsBaseEquation}
use Rattle.prover_state.specs.Internal.Standing.{setting_by, the_state, IsBasis}
use Rattle.prover_state.specs.Internal.Steps.{IsMadeInstance, StepsGrow}
use Rattle.prover_search.specs.Internal.Developing.{IsWider, Develops}
use Rattle.prover_search.specs.Internal.Working.{denies_itself}
use Rattle.prover_search.proofs.MadeStays.{literal-wider}
use Rattle.prover_search.proofs.DevelopLaws.{grows-wider, steps-same}
use Rattle.prover_search.proofs.ShapedLaws.{IsConnected}

-- LITERALS

pub literal-is : (l : Literal) (b : Bool) (t : Lambda) → l.positive ≡ b → l.atom ≡ t → l ≡ record { positive = b; atom = t }
literal-is l b t e f = ap₂ (λ c u. record { positive = c; atom = u }) e f

module _ (setting : Setting) (st : State) where
  -- what is done for a literal is an instance with it
  pub worked-alone : (l k : Literal) (as' : Alternatives) → l ≡ k → with_instance setting.mode (k ∷ []) as' st ≡ with_rules setting k.positive k.atom st → with_instance setting.mode (l ∷ []) as' st ≡ with_rules setting l.positive l.atom st
  worked-alone l k as' e h = let P : Literal → Type 0 = λ m. with_instance setting.mode (m ∷ []) as' st ≡ with_rules setting m.positive m.atom st in subst P (sym e) h

  -- what is done for a literal is what is done for an equal one
  pub worked-as : (l k : Literal) (s : State) → l ≡ k → s ≡ with_rules setting k.positive k.atom st → s ≡ with_rules setting l.positive l.atom st
  worked-as l k s e h = let P : Literal → Type 0 = λ m. s ≡ with_rules setting m.positive m.atom st in subst P (sym e) h

  -- an equation whose negation has two different sides
  pub worked-equation : (sign : Bool) (a : SimpleType) (s t : Lambda) → denies_itself (record { positive = sign; atom = eq a s t }) ≡ false → with_equation setting a sign s t st ≡ with_rules setting sign (eq a s t) st
  worked-equation true a s t e = refl
  worked-equation false a s t e = sym (ap (λ (b : Bool). if b then with_instance setting.mode (minus (eq a s t) ∷ []) [] st else with_equation setting a false s t st) e)

  pub worked-itself : (a : SimpleType) (s : Lambda) → same_term s s ≡ true → with_instance setting.mode (minus (eq a s s) ∷ []) [] st ≡ with_rules setting false (eq a s s) st
  worked-itself a s e = sym (ap (λ (b : Bool). if b then with_instance setting.mode (minus (eq a s s) ∷ []) [] st else with_equation setting a false s s st) e)

  -- a negated equation is decomposed where its sides have one compared head
  pub decomposed-not : (a : SimpleType) (s t : Lambda) → (is_spine s && same_head s t) ≡ false → st ≡ with_decomposition setting a s t st
  decomposed-not a s t e = sym (ap (λ (b : Bool). if b then with_instance setting.mode (minus (eq a s t) ∷ []) (differ (type_of (scope_in setting st) [] (head_of s)) (arguments s) (arguments t)) st else st) e)

  pub decomposed-is : (a : SimpleType) (s t : Lambda) → (is_spine s && same_head s t) ≡ true → with_instance setting.mode (minus (eq a s t) ∷ []) (differ (type_of (scope_in setting st) [] (head_of s)) (arguments s) (arguments t)) st ≡ with_decomposition setting a s t st
  decomposed-is a s t e = sym (ap (λ (b : Bool). if b then with_instance setting.mode (minus (eq a s t) ∷ []) (differ (type_of (scope_in setting st) [] (head_of s)) (arguments s) (arguments t)) st else st) e)

  -- a literal is mated where its atom is a compared head with arguments
  pub mated-not : (l : Literal) → is_spine l.atom ≡ false → st ≡ with_matings setting l st
  mated-not l e = sym (ap (λ (b : Bool). if b then with_commands setting.mode (matings l st.noted) st else st) e)

  pub mated-is : (l : Literal) → is_spine l.atom ≡ true → with_commands setting.mode (matings l st.noted) st ≡ with_matings setting l st
  mated-is l e = sym (ap (λ (b : Bool). if b then with_commands setting.mode (matings l st.noted) st else st) e)

  -- for a literal of another shape is done what its connective asks for
  pub worked-other : (l : Literal) → IsConnected l.atom → with_connective l setting (connective_rule l.atom l.positive) st ≡ with_rules setting l.positive l.atom st
  worked-other l h = by_sign l.positive l.atom (h setting st)
    where
      by_sign : (b : Bool) (t : Lambda) → (with_rules setting true t st ≡ with_connective (plus t) setting (connective_rule t true) st) × (with_rules setting false t st ≡ with_connective (minus t) setting (connective_rule t false) st)
          → with_connective (record { positive = b; atom = t }) setting (connective_rule t b) st ≡ with_rules setting b t st
      by_sign true t k = sym k.0
      by_sign false t k = sym k.1

  -- the connective has this rule, or none
  pub worked-by_rule : (l : Literal) → IsConnected l.atom → (rule : LiteralRule l) → connective_rule l.atom l.positive ≡ Some rule → with_instance setting.mode (l ∷ []) rule.alternatives st ≡ with_rules setting l.positive l.atom st
  worked-by_rule l h rule e = sym (ap (λ (o : Option (LiteralRule l)). with_connective l setting o st) e) ∙ worked-other l h

  pub worked-mated : (l : Literal) → IsConnected l.atom → connective_rule l.atom l.positive ≡ None → with_matings setting l st ≡ with_rules setting l.positive l.atom st
  worked-mated l h e = sym (ap (λ (o : Option (LiteralRule l)). with_connective l setting o st) e) ∙ worked-other l h

pub differs-as : (l k : Literal) → l ≡ k → denies_itself l ≡ false → denies_itself k ≡ false
differs-as l k e h = ap denies_itself (sym e) ∙ h

-- TABLES

pub widens-wider : (g h : Basis) → BasisWidens g h → IsWider g h
widens-wider g h k = record { bank = k.bank; lits = k.lits; witnesses = k.witnesses }

-- tables whose basis has grown, with the same steps and number of commands
pub develops-grown : (t u : Tables) → BasisGrows t.basis u.basis → u.steps ≡ t.steps → u.done ≡ t.done → Develops t u
develops-grown t u g s d = record { basis = grows-wider t.basis u.basis g; steps = steps-same (IsMadeInstance u.basis) t.steps u.steps s; done = d }

pub develops-widened : (t u : Tables) → BasisWidens t.basis u.basis → StepsGrow (IsMadeInstance u.basis) t.steps u.steps → u.done ≡ t.done → Develops t u
develops-widened t u g s d = record { basis = widens-wider t.basis u.basis g; steps = s; done = d }

module _ (t u : Tables) (q p : Queue Planned Delays) (rule : p.rule ≡ q.rule) where
  pub mode-same : p.rule.mode ≡ q.rule.mode
  mode-same = ap (λ (d : Delays). d.mode) rule

pub literal-same : (g h : Basis) (lit : SatLit) → h ≡ g → bank_literal h.bank.terms h.lits lit ≡ bank_literal g.bank.terms g.lits lit
literal-same g h lit e = ap (λ (x : Basis). bank_literal x.bank.terms x.lits lit) e

pub number-same : (g h : Basis) (lit : SatLit) → h ≡ g → IsNumberIn g.lits lit → IsNumberIn h.lits lit
number-same g h lit e k = let P : Basis → Type 0 = λ x. IsNumberIn x.lits lit in subst P (sym e) k

-- an equation stays one where terms come
pub difference-equation : (g h k : Basis) (lit : SatLit) → IsBasis g → IsNumberIn g.lits lit → h ≡ g → IsWider h k → IsBaseEquation (bank_literal g.bank.terms g.lits lit).atom → IsBaseEquation (bank_literal k.bank.terms k.lits lit).atom
difference-equation g h k lit good number e w is =
    let W : Basis → Type 0 = λ x. IsWider x k in
    let Q : Lambda → Type 0 = λ t. IsBaseEquation t in
    subst Q (sym (ap (λ (x : Literal). x.atom) (literal-wider g k good (subst W e w) lit number))) is

-- WHAT IS DONE FOR A LITERAL AND WHAT COMES AFTERWARDS

module _ (t t1 t2 t3 : Tables) (q q1 q2 q3 : Queue Planned Delays) (lit : SatLit) where
  abbrev l : Literal
  l = bank_literal t.basis.bank.terms t.basis.lits lit

  abbrev s : State
  s = the_state t q

  abbrev setting : Setting
  setting = setting_by t q

  pub processed-is : IsBasis t.basis → IsNumberIn t.basis.lits lit → Develops t t1 → q1.rule ≡ q.rule → t2.basis ≡ t1.basis → q2 ≡ q1
      → the_state t1 q1 ≡ with_rules setting l.positive l.atom s
      → the_state t2 q2 ≡ record (the_state t1 q1) { noted = (the_state t1 q1).noted ++ bank_literal t1.basis.bank.terms t1.basis.lits lit ∷ [] }
      → the_state t3 q3 ≡ with_selections q2.rule.mode (selections_in (bank_literal t2.basis.bank.terms t2.basis.lits lit).atom) (the_state t2 q2)
      → the_state t3 q3 ≡ with_processing setting l s
  processed-is good number develops rule basis plan working noting selecting =
      let same : bank_literal t1.basis.bank.terms t1.basis.lits lit ≡ l = literal-wider t.basis t1.basis good develops.basis lit number in
      let later : bank_literal t2.basis.bank.terms t2.basis.lits lit ≡ l = literal-same t1.basis t2.basis lit basis ∙ same in
      let mode : q2.rule.mode ≡ q.rule.mode = ap (λ (x : Queue Planned Delays). x.rule.mode) plan ∙ mode-same t t1 q q1 rule in
      selecting
      ∙ ap₂ (λ (m : Mode) (k : Literal). with_selections m (selections_in k.atom) (the_state t2 q2)) mode later
      ∙ ap (with_selections q.rule.mode (selections_in l.atom)) (noting ∙ ap₂ (λ (x : State) (k : Literal). record x { noted = x.noted ++ k ∷ [] }) working same)

  -- the type is prepared, and the instances are pushed
  pub universal-is : IsBasis t.basis → IsNumberIn t.basis.lits lit → IsWider t.basis t1.basis → q1.rule ≡ q.rule → (a : SimpleType) (f : Lambda) → l ≡ plus (every a f)
      → the_state t1 q1 ≡ with_preparation setting a s
      → the_state t2 q2 ≡ (let k = bank_literal t1.basis.bank.terms t1.basis.lits lit in with_commands q1.rule.mode (map (inst k) (terms_of (range_of k.atom) (the_state t1 q1))) (the_state t1 q1))
      → the_state t2 q2 ≡ with_rules setting l.positive l.atom s
  universal-is good number wider rule a f e preparing pushing =
      let same : bank_literal t1.basis.bank.terms t1.basis.lits lit ≡ plus (every a f) = literal-wider t.basis t1.basis good wider lit number ∙ e in
      let ready = the_state t1 q1 in
      worked-as setting s l (plus (every a f)) (the_state t2 q2) e
      (pushing
      ∙ ap₂ (λ (m : Mode) (k : Literal). with_commands m (map (inst k) (terms_of (range_of k.atom) ready)) ready) (mode-same t t1 q q1 rule) same
      ∙ ap (λ (x : State). with_commands q.rule.mode (map (inst (plus (every a f))) (terms_of a x)) x) preparing)

  -- the witness was there before
  pub denied-known : (a : SimpleType) (f : Lambda) → l ≡ minus (every a f) → the_state t1 q1 ≡ with_witness setting a f s → list_any (same_row (record { type = a; predicate = f })) s.rows ≡ true
      → the_state t1 q1 ≡ with_rules setting l.positive l.atom s
  denied-known a f e witnessing known =
      let r : Row = record { type = a; predicate = f } in
      let done = with_witness setting a f s in
      let more = with_terms setting.mode a (offered_witness setting.mode a (witness_of s.rows r) done) done in
      worked-as setting s l (minus (every a f)) (the_state t1 q1) e (witnessing ∙ sym (ap (λ (b : Bool). if b then done else more) known))

  -- the witness is new, and is a term where it is offered
  pub denied-new : (a : SimpleType) (f : Lambda) → l ≡ minus (every a f) → q1.rule ≡ q.rule → (n : ℕ) → n ≡ length s.rows → the_state t1 q1 ≡ with_witness setting a f s
      → list_any (same_row (record { type = a; predicate = f })) s.rows ≡ false
      → the_state t2 q2 ≡ with_terms q1.rule.mode a (offered_witness q1.rule.mode a (constant (witness n)) (the_state t1 q1)) (the_state t1 q1)
      → the_state t2 q2 ≡ with_rules setting l.positive l.atom s
  denied-new a f e rule n place witnessing new offering =
      let r : Row = record { type = a; predicate = f } in
      let mode : Mode = q.rule.mode in
      let w : Lambda = witness_of s.rows r in
      let done = with_witness setting a f s in
      let one = the_state t1 q1 in
      worked-as setting s l (minus (every a f)) (the_state t2 q2) e
      (offering
      ∙ ap (λ (m : Mode). with_terms m a (offered_witness m a (constant (witness n)) one) one) (mode-same t t1 q q1 rule)
      ∙ ap (λ (j : ℕ). with_terms mode a (offered_witness mode a (constant (witness j)) one) one) (place ∙ sym (no_row s.rows r new))
      ∙ ap (λ (x : State). with_terms mode a (offered_witness mode a w x) x) witnessing
      ∙ sym (ap (λ (b : Bool). if b then done else with_terms mode a (offered_witness mode a w done) done) new))

  -- the sides are terms where they are offered, and the instance is made
  pub function-is : q1.rule ≡ q.rule → t1.basis ≡ t.basis → (a b : SimpleType) (x y : Lambda) → l ≡ minus (eq (arrow a b) x y) → denies_itself l ≡ false
      → the_state t1 q1 ≡ with_terms q.rule.mode (arrow a b) (offered_sides q.rule.mode x y) s
      → the_state t2 q2 ≡ with_instance q1.rule.mode (bank_literal t1.basis.bank.terms t1.basis.lits lit ∷ []) (fun_neg a b x y) (the_state t1 q1)
      → the_state t2 q2 ≡ with_rules setting l.positive l.atom s
  function-is rule basis a b x y e differs offering applying =
      let k : Literal = minus (eq (arrow a b) x y) in
      worked-as setting s l k (the_state t2 q2) e
      (applying
      ∙ ap₂ (λ (m : Mode) (j : Literal). with_instance m (j ∷ []) (fun_neg a b x y) (the_state t1 q1)) (mode-same t t1 q q1 rule) (literal-same t.basis t1.basis lit basis ∙ e)
      ∙ ap (with_instance q.rule.mode (k ∷ []) (fun_neg a b x y)) offering
      ∙ worked-equation setting s false (arrow a b) x y (differs-as l k e differs))

  -- the sides are for instances, the negated equation is decomposed, and its confrontations are pushed
  pub difference-is : IsBasis t.basis → IsNumberIn t.basis.lits lit → t1.basis ≡ t.basis → IsWider t1.basis t2.basis → q1.rule ≡ q.rule → q2.rule ≡ q1.rule
      → (n m : ℕ) (i j : ℕ) → n ≡ suc m → l ≡ minus (eq (base (suc m)) (term_at t.basis.bank.terms i) (term_at t.basis.bank.terms j)) → denies_itself l ≡ false
      → the_state t1 q1 ≡ with_term q.rule.mode (base n) (term_at t.basis.bank.terms j) (with_term q.rule.mode (base n) (term_at t.basis.bank.terms i) s)
      → ((k : ℕ) → bank_literal t1.basis.bank.terms t1.basis.lits lit ≡ minus (eq (base (suc k)) (term_at t1.basis.bank.terms i) (term_at t1.basis.bank.terms j))
      → the_state t2 q2 ≡ with_decomposition (setting_by t1 q1) (base (suc k)) (term_at t1.basis.bank.terms i) (term_at t1.basis.bank.terms j) (the_state t1 q1))
      → the_state t3 q3 ≡ (let k = bank_literal t2.basis.bank.terms t2.basis.lits lit in with_commands q2.rule.mode (confrontations (equation_type k.atom) k (the_state t2 q2).noted) (the_state t2 q2))
      → the_state t3 q3 ≡ with_rules setting l.positive l.atom s
  difference-is good number basis wider rule rule2 n m i j is e differs adding decomposing pushing =
      let b : SimpleType = base (suc m) in
      let x : Lambda = term_at t.basis.bank.terms i in
      let y : Lambda = term_at t.basis.bank.terms j in
      let mode : Mode = q.rule.mode in
      let W : Basis → Type 0 = λ g. IsWider g t2.basis in
      let D : Basis → Type 0 = λ g. (k : ℕ) → bank_literal g.bank.terms g.lits lit ≡ minus (eq (base (suc k)) (term_at g.bank.terms i) (term_at g.bank.terms j)) → the_state t2 q2 ≡ with_decomposition (setting_by t1 q1) (base (suc k)) (term_at g.bank.terms i) (term_at g.bank.terms j) (the_state t1 q1) in
      let same : bank_literal t2.basis.bank.terms t2.basis.lits lit ≡ minus (eq b x y) = literal-wider t.basis t2.basis good (subst W basis wider) lit number ∙ e in
      let now : setting_by t1 q1 ≡ setting = ap₂ (λ (g : Basis) (d : Delays). setting_by (record t { basis = g }) (record q { rule = d })) basis rule in
      let added : the_state t1 q1 ≡ with_term mode b y (with_term mode b x s) = adding ∙ ap (λ k. with_term mode (base k) y (with_term mode (base k) x s)) is in
      worked-as setting s l (minus (eq b x y)) (the_state t3 q3) e
      (pushing
      ∙ ap₂ (λ (o : Mode) (k : Literal). with_commands o (confrontations (equation_type k.atom) k (the_state t2 q2).noted) (the_state t2 q2)) (mode-same t t2 q q2 (rule2 ∙ rule)) same
      ∙ ap (with_confrontations setting b (minus (eq b x y))) (subst D basis decomposing m e ∙ ap₂ (λ (o : Setting) (z : State). with_decomposition o b x y z) now added)
      ∙ worked-equation setting s false b x y (differs-as l (minus (eq b x y)) e differs))
