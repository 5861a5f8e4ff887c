-- Loops that wait stay what they are, where what they go over becomes longer.
use Rattle.std.specs.Prelude.{◌≡◌, ◌≤◌, ◌-◌, ℕ, Bool, List, [], map, filter, take, drop, length, Option, Some, None, refl}
use Rattle.std.proofs.Common.{sym, ap, ap₂, subst, ◌∙◌, arith, append-nil, length-append, length-drop}
use Rattle.std.proofs.lemmas.List.{take-append-le, drop-append-le}
use Rattle.std.proofs.lemmas.List.Elements.{filter-append}
use Rattle.stt_core.specs.SimpleType.{SimpleType, same_type}
use Rattle.stt_core.specs.Typing.{Scope}
use Rattle.stt_core.proofs.ListLaws.{map-append}
use Rattle.tableau_calculus.specs.Literals.{Literal}
use Rattle.tableau_calculus.specs.Witnesses.{Row, with_rows}
use Rattle.command_queue.specs.declared.entry.Entry.{Entry}
use Rattle.tableau_calculus.specs.Each.{Each}
use Rattle.search_spec.specs.Heads.{HeadOffers, heads_for}
use Rattle.search_spec.specs.Partial.{first_hole}
use Rattle.search_spec.specs.Partners.{positive_first, matings, confrontations}
use Rattle.search_spec.specs.Terms.{terms_of, universals}
use Rattle.search_spec.specs.Witness.{has_hole_of}
use Rattle.search_spec.specs.State.{State, Typed, Command as Meant, process, mate, confront, inst, grow, choose, describe}
use Rattle.search_spec.specs.Internal.Loops.{Loop}
use Rattle.prover_state.specs.declared.command.Command.{Command}
use Rattle.prover_state.specs.declared.command.Over.{Over}
use Rattle.prover_state.specs.declared.command.Over.TheVariants.{Terms, Universals, Negatives, Positives, Heads, Parked}
use Rattle.prover_state.specs.declared.command.Planned.{Planned}
use Rattle.prover_state.specs.declared.command.Rest.{Rest}
use Rattle.prover_state.specs.Internal.Growing.{Longer, ExtendsState}
use Rattle.prover_state.specs.Internal.Names.{Naming, command_at, IsNumberedCommand}
use Rattle.prover_state.specs.Internal.Pending.{range_of, equation_type, base_of, over_terms, over_universals, over_negatives, over_positives, over_heads, over_parked, loop_over, between, later_of, HasWitnesses, AreThere, IsEntry, loop_at}
use Rattle.prover_state.proofs.EachLaws.{each-weaker, map-same}

-- what is made of a longer list is longer
abbrev Lengthens : {X Y : Type 0} → (List X → List Y) → Type 0
Lengthens {X} f = (xs ys : List X) → Longer xs ys → Longer (f xs) (f ys)

mapped : {X Y : Type 0} (f : X → Y) → Lengthens (map f)
mapped f xs ys l = (map f l.0, ap (map f) l.1 ∙ map-append f xs l.0)

filtered : {X : Type 0} (test : X → Bool) → Lengthens (filter test)
filtered test xs ys l = (filter test l.0, ap (filter test) l.1 ∙ filter-append test xs l.0)

same : {X : Type 0} (xs ys : List X) → ys ≡ xs → Longer xs ys
same xs ys e = ([], e ∙ sym (append-nil xs))

module _ (scope : Scope) (s s' : State) (ext : ExtendsState s s') where
  terms_longer : (c : Meant) → Longer (over_terms s c) (over_terms s' c)
  terms_longer (inst l u) =
      mapped (inst l) (terms_of (range_of l.atom) s) (terms_of (range_of l.atom) s')
      (mapped (λ (u : Typed). u.term) (filter (λ u. same_type (range_of l.atom) u.type) s.terms) (filter (λ u. same_type (range_of l.atom) u.type) s'.terms)
      (filtered (λ (u : Typed). same_type (range_of l.atom) u.type) s.terms s'.terms ext.terms))
  terms_longer (process l) = same [] [] refl
  terms_longer (mate l m) = same [] [] refl
  terms_longer (confront l m) = same [] [] refl
  terms_longer (grow p h) = same [] [] refl
  terms_longer (choose a f) = same [] [] refl
  terms_longer (describe a f) = same [] [] refl

  universals_longer : (c : Meant) → Longer (over_universals s c) (over_universals s' c)
  universals_longer (inst l u) = mapped (λ k. inst k u) (universals (range_of l.atom) s) (universals (range_of l.atom) s') (filtered _ s.noted s'.noted ext.noted)
  universals_longer (process l) = same [] [] refl
  universals_longer (mate l m) = same [] [] refl
  universals_longer (confront l m) = same [] [] refl
  universals_longer (grow p h) = same [] [] refl
  universals_longer (choose a f) = same [] [] refl
  universals_longer (describe a f) = same [] [] refl

  matings_longer : (l : Literal) → Longer (matings l s.noted) (matings l s'.noted)
  matings_longer l = mapped (positive_first mate l) _ _ (filtered _ s.noted s'.noted ext.noted)

  confrontations_longer : (a : SimpleType) (l : Literal) → Longer (confrontations a l s.noted) (confrontations a l s'.noted)
  confrontations_longer a l = mapped (positive_first confront l) _ _ (filtered _ s.noted s'.noted ext.noted)

  negatives_longer : (c : Meant) → Longer (over_negatives s c) (over_negatives s' c)
  negatives_longer (mate l m) = matings_longer l
  negatives_longer (confront l m) = confrontations_longer (equation_type l.atom) l
  negatives_longer (process l) = same [] [] refl
  negatives_longer (inst l u) = same [] [] refl
  negatives_longer (grow p h) = same [] [] refl
  negatives_longer (choose a f) = same [] [] refl
  negatives_longer (describe a f) = same [] [] refl

  positives_longer : (c : Meant) → Longer (over_positives s c) (over_positives s' c)
  positives_longer (mate l m) = matings_longer m
  positives_longer (confront l m) = confrontations_longer (equation_type m.atom) m
  positives_longer (process l) = same [] [] refl
  positives_longer (inst l u) = same [] [] refl
  positives_longer (grow p h) = same [] [] refl
  positives_longer (choose a f) = same [] [] refl
  positives_longer (describe a f) = same [] [] refl

  heads_longer : (n : ℕ) → n ≤ length s.rows → (c : Meant) → Longer (over_heads scope s n c) (over_heads scope s' n c)
  heads_longer n h (grow p k) =
      same (over_heads scope s n (grow p k)) (over_heads scope s' n (grow p k))
      (ap₂ (λ (offers : HeadOffers) (rows : List Row). map (grow p) (heads_for offers (with_rows scope rows) (first_hole [] p.partial))) ext.offers (ap (take n) ext.rows.1 ∙ take-append-le n s.rows ext.rows.0 h))
  heads_longer n h (process l) = same [] [] refl
  heads_longer n h (mate l m) = same [] [] refl
  heads_longer n h (confront l m) = same [] [] refl
  heads_longer n h (inst l u) = same [] [] refl
  heads_longer n h (choose a f) = same [] [] refl
  heads_longer n h (describe a f) = same [] [] refl

  parked_longer : (c : Meant) → Longer (over_parked s c) (over_parked s' c)
  parked_longer (grow p h) = mapped (λ q. grow q h) _ _ (filtered (has_hole_of (base_of (first_hole [] p.partial))) s.parked s'.parked ext.parked)
  parked_longer (process l) = same [] [] refl
  parked_longer (mate l m) = same [] [] refl
  parked_longer (confront l m) = same [] [] refl
  parked_longer (inst l u) = same [] [] refl
  parked_longer (choose a f) = same [] [] refl
  parked_longer (describe a f) = same [] [] refl

  pub loop-longer : (o : Over) (c : Meant) → HasWitnesses s o → Longer (loop_over scope s o c) (loop_over scope s' o c)
  loop-longer Terms c h = terms_longer c
  loop-longer Universals c h = universals_longer c
  loop-longer Negatives c h = negatives_longer c
  loop-longer Positives c h = positives_longer c
  loop-longer (Heads n) c h = heads_longer n h c
  loop-longer Parked c h = parked_longer c

  witnesses_stay : (o : Over) → HasWitnesses s o → HasWitnesses s' o
  witnesses_stay Terms h = tt
  witnesses_stay Universals h = tt
  witnesses_stay Negatives h = tt
  witnesses_stay Positives h = tt
  witnesses_stay (Heads n) h = omega (arith, h, ap length ext.rows.1, length-append s.rows ext.rows.0)
  witnesses_stay Parked h = tt

  between_stays : {X : Type 0} (next end : ℕ) (xs ys : List X) → Longer xs ys → next ≤ end → end ≤ length xs → between next end ys ≡ between next end xs
  between_stays next end xs ys l h k =
      ap (between next end) l.1
      ∙ ap (take (end - next)) (drop-append-le next xs l.0 (omega (arith, h, k)))
      ∙ take-append-le (end - next) (drop next xs) l.0 (omega (arith, h, k, length-drop next xs))

  later_stays : (c : Meant) (r : Option Rest) → AreThere scope s c r → later_of scope s' c r ≡ later_of scope s c r
  later_stays c None w = refl
  later_stays c (Some r) w = between_stays r.next r.end (loop_over scope s r.over c) (loop_over scope s' r.over c) (loop-longer r.over c w.witnesses) w.ascends w.within

  there_stay : (c : Meant) (r : Option Rest) → AreThere scope s c r → AreThere scope s' c r
  there_stay c None w = tt
  there_stay c (Some r) w =
      let l = loop-longer r.over c w.witnesses in
      record {
        ascends = w.ascends;
        within = omega (arith, w.within, ap length l.1, length-append (loop_over scope s r.over c) l.0);
        witnesses = witnesses_stay r.over w.witnesses;
        signed = w.signed;
      }

  module _ (names names' : Naming) (commands : (c : Command) → IsNumberedCommand names c → command_at names' c ≡ command_at names c) (numbers : (c : Command) → IsNumberedCommand names c → IsNumberedCommand names' c) where
    loop_stays : (e : Entry Planned) → IsEntry scope names s e.command → loop_at scope names' s' e ≡ loop_at scope names s e
    loop_stays e h =
        let L : Meant → List Meant → Loop Meant = λ c cs. record { due = e.due; number = e.number; first = c; later = cs } in
        ap (λ c. L c (later_of scope s' c e.command.rest)) (commands e.command.first h.numbers)
        ∙ ap (L (command_at names e.command.first)) (later_stays (command_at names e.command.first) e.command.rest h.later)

    pub loops-stay : (es : List (Entry Planned)) → Each (λ e. IsEntry scope names s e.command) es → map (loop_at scope names' s') es ≡ map (loop_at scope names s) es
    loops-stay es h = map-same (loop_at scope names' s') (loop_at scope names s) (λ e. IsEntry scope names s e.command) loop_stays es h

    pub entries-stay : (es : List (Entry Planned)) → Each (λ e. IsEntry scope names s e.command) es → Each (λ e. IsEntry scope names' s' e.command) es
    entries-stay es h =
        each-weaker (λ e. IsEntry scope names s e.command) (λ e. IsEntry scope names' s' e.command)
        (λ e k. let W : Meant → Type 0 = λ c. AreThere scope s' c e.command.rest in
        record { numbers = numbers e.command.first k.numbers; later = subst W (sym (commands e.command.first k.numbers)) (there_stay (command_at names e.command.first) e.command.rest k.later) }) es h
