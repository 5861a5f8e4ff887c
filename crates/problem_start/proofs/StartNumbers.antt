-- The literals of a start by numbers, one after the other.
use Rattle.std.proofs.Common.{◌≡◌, ◌<◌, ℕ, ◌+◌, List, [], ◌∷◌, ◌++◌, Option, Some, None, Bool, true, false, map, option_map, length, take, slice_get, refl, ap, ap₂, sym, subst, ◌∙◌, append_assoc, arith, length-append}
use Rattle.std.specs.Prelude.{All}
use Rattle.std.proofs.lemmas.List.{map-append}
use Rattle.std.proofs.lemmas.List.Elements.{All-head, All-tail, All-push, All-weaker}
use Rattle.std.proofs.lemmas.Option.{get_or_from_slice_get}
use Rattle.sat_base.specs.declared.literal.SatLit.{SatLit}
use Rattle.stt_core.specs.Lambda.{Lambda, bound}
use Rattle.stt_core.specs.Typing.{Scope}
use Rattle.stt_core.specs.Declarations.{scope_of}
use Rattle.stt_core.specs.PlainProblem.{PlainProblem}
use Rattle.stt_core.proofs.ListLaws.{take_got}
use Rattle.tableau_calculus.specs.Literals.{Literal, opposite, as_literal}
use Rattle.tableau_calculus.specs.Start.{normal_literal, denied}
use Rattle.term_bank.specs.Content.{Content, content_scope, Grows}
use Rattle.term_bank.specs.Terms.{term_at}
use Rattle.term_bank.proofs.GrowLaws.{grown_scope}
use Rattle.delta_defs.specs.Definitions.{Definition, unfolded}
use Rattle.delta_defs.specs.Laws.{AreTypedDefinitions}
use Rattle.delta_normal.specs.Forms.{normal_definitions}
use Rattle.delta_normal.proofs.FormLaws.{normal_form-unfolded, normal_form-by-none}
use Rattle.bank_normal.specs.Forms.{forms_in, AreForms}
use Rattle.bank_normal.specs.declared.forms.FormId.{FormId}
use Rattle.bank_normal.proofs.FormLaws.{forms_grown}
use Rattle.literal_map.specs.Atoms.{bank_literal, IsAtom, Begins}
use Rattle.literal_map.proofs.StayLaws.{literals_same}
use Rattle.problem_start.specs.Unfolds.{unfolded_if, definitions_if, left_if, start_literals, normal_literal_by, denied_by, AreStartNumbers, formulas_at}

-- TABLES THAT GROW

pub begins_on : (xs ys zs : List ℕ) → Begins xs ys → Begins ys zs → Begins xs zs
begins_on xs ys zs g h = record { further = g.further ++ h.further; is = h.is ∙ ap (λ l. l ++ h.further) g.is ∙ append_assoc xs g.further h.further }

begins_number : (xs ys : List ℕ) → Begins xs ys → (n : SatLit) → n.var.0 < length xs → n.var.0 < length ys
begins_number xs ys g n h = omega (arith, h, ap length g.is, length-append xs g.further)

literals_again : (a b : Content) → Grows a b → (xs ys : List ℕ) → All (IsAtom a) xs → Begins xs ys → (ns : List SatLit) → All (λ (n : SatLit). n.var.0 < length xs) ns → map (bank_literal b.terms ys) ns ≡ map (bank_literal a.terms xs) ns
literals_again a b g xs ys atoms begins [] h = refl
literals_again a b g xs ys atoms begins (n ∷ ns) h =
    ap₂ (λ l ls. l ∷ ls) (literals_same a b g xs ys atoms begins n (All-head (λ (n : SatLit). n.var.0 < length xs) n ns h)) (literals_again a b g xs ys atoms begins ns (All-tail (λ (n : SatLit). n.var.0 < length xs) n ns h))

pub numbers_grown : (a b : Content) → Grows a b → (xs ys : List ℕ) → All (IsAtom a) xs → Begins xs ys → (ls : List Literal) (ns : List SatLit) → AreStartNumbers a xs ls ns → AreStartNumbers b ys ls ns
numbers_grown a b g xs ys atoms begins ls ns h = record {
  numbers = All-weaker (λ (n : SatLit). n.var.0 < length xs) (λ (n : SatLit). n.var.0 < length ys) (begins_number xs ys begins) ns h.numbers;
  literals = literals_again a b g xs ys atoms begins ns h.numbers ∙ h.literals;
}

-- ONE LITERAL MORE

pub numbers_push : (b : Content) (xs : List ℕ) (ls : List Literal) (ns more : List SatLit) (l : Literal) (n : SatLit) → AreStartNumbers b xs ls ns → n.var.0 < length xs → bank_literal b.terms xs n ≡ l → more ≡ ns ++ n ∷ [] → AreStartNumbers b xs (ls ++ l ∷ []) more
numbers_push b xs ls ns more l n h w is e =
    subst (AreStartNumbers b xs (ls ++ l ∷ [])) (sym e) (record {
      numbers = All-push (λ (n : SatLit). n.var.0 < length xs) ns n h.numbers w;
      literals = map-append (bank_literal b.terms xs) ns (n ∷ []) ∙ ap₂ (λ ks k. ks ++ k ∷ []) h.literals is;
    })

-- the literal of one formula more, over what has grown since names were given
pub literal_grown : (a b : Content) → Grows a b → (fs : List FormId) → AreForms a fs → (t : Lambda) → normal_literal_by (content_scope b) (forms_in b.terms fs) t ≡ normal_literal_by (content_scope a) (forms_in a.terms fs) t
literal_grown a b g fs h t = ap₂ (λ s ds. normal_literal_by s ds t) (grown_scope a b g) (forms_grown a b fs g h)

-- the formulas of the places so far, with one place more
pub formulas_more : (ts : List Lambda) (places : List ℕ) (j i : ℕ) (t : Lambda) → slice_get places j ≡ Some i → slice_get ts i ≡ Some t → formulas_at ts (take (j + 1) places) ≡ formulas_at ts (take j places) ++ t ∷ []
formulas_more ts places j i t h k =
    ap (formulas_at ts) (take_got places j i h)
    ∙ map-append (term_at ts) (take j places) (i ∷ [])
    ∙ ap (λ s. formulas_at ts (take j places) ++ s ∷ []) (get_or_from_slice_get ts i t (bound 0) k)

-- THE START

normal_literals : (scope : Scope) (ds : List Definition) → AreTypedDefinitions scope ds → (ts : List Lambda) → map (normal_literal_by scope (normal_definitions scope ds)) ts ≡ map (normal_literal scope) (map (unfolded ds) ts)
normal_literals scope ds h [] = refl
normal_literals scope ds h (t ∷ ts) = ap₂ (λ l ls. l ∷ ls) (ap as_literal (sym (normal_form-unfolded scope [] ds t h))) (normal_literals scope ds h ts)

normal_denied : (scope : Scope) (ds : List Definition) → AreTypedDefinitions scope ds → (o : Option Lambda) → denied_by scope (normal_definitions scope ds) o ≡ denied scope (option_map (unfolded ds) o)
normal_denied scope ds h None = refl
normal_denied scope ds h (Some t) = ap (λ u. opposite (as_literal u) ∷ []) (sym (normal_form-unfolded scope [] ds t h))

plain_literals : (scope : Scope) (ts : List Lambda) → map (normal_literal_by scope []) ts ≡ map (normal_literal scope) ts
plain_literals scope [] = refl
plain_literals scope (t ∷ ts) = ap₂ (λ l ls. l ∷ ls) (ap as_literal (normal_form-by-none scope [] t)) (plain_literals scope ts)

plain_denied : (scope : Scope) (o : Option Lambda) → denied_by scope [] o ≡ denied scope o
plain_denied scope None = refl
plain_denied scope (Some t) = ap (λ u. opposite (as_literal u) ∷ []) (normal_form-by-none scope [] t)

-- the literals by the normal forms of the definitions are those of the start
pub start_is : (b : Bool) (p : PlainProblem) → AreTypedDefinitions (scope_of p.declared) (definitions_if b p) → map (normal_literal_by (scope_of p.declared) (normal_definitions (scope_of p.declared) (definitions_if b p))) (left_if b p) ++ denied_by (scope_of p.declared) (normal_definitions (scope_of p.declared) (definitions_if b p)) p.conjecture ≡ start_literals (unfolded_if b p)
start_is true p h = ap₂ (λ ls ks. ls ++ ks) (normal_literals (scope_of p.declared) (definitions_if true p) h (left_if true p)) (normal_denied (scope_of p.declared) (definitions_if true p) h p.conjecture)
start_is false p h = ap₂ (λ ls ks. ls ++ ks) (plain_literals (scope_of p.declared) p.assumed) (plain_denied (scope_of p.declared) p.conjecture)

-- the same over a bank that grew since names were given
pub whole_start : (b : Bool) (p : PlainProblem) (u m : Content) (fs : List FormId) (ts : List Lambda) (o : Option Lambda) → content_scope u ≡ scope_of p.declared → Grows u m → AreForms u fs → forms_in u.terms fs ≡ normal_definitions (content_scope u) (definitions_if b p) → AreTypedDefinitions (content_scope u) (definitions_if b p) → ts ≡ left_if b p → o ≡ p.conjecture
    → map (normal_literal_by (content_scope u) (forms_in u.terms fs)) ts ++ denied_by (content_scope m) (forms_in m.terms fs) o ≡ start_literals (unfolded_if b p)
whole_start b p u m fs ts o scope g forms definitions typed left conjecture =
    let ds = definitions_if b p in
    let by = definitions ∙ ap (λ s. normal_definitions s ds) scope in
    ap₂ (λ ls ks. ls ++ ks)
    (ap₂ (λ s es. map (normal_literal_by s es) ts) scope by ∙ ap (map (normal_literal_by (scope_of p.declared) (normal_definitions (scope_of p.declared) ds))) left)
    (ap₂ (λ s es. denied_by s es o) (grown_scope u m g ∙ scope) (forms_grown u m fs g forms ∙ by) ∙ ap (denied_by (scope_of p.declared) (normal_definitions (scope_of p.declared) ds)) conjecture)
    ∙ start_is b p (subst (λ s. AreTypedDefinitions s ds) scope typed)
