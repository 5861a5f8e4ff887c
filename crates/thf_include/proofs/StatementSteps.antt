-- The steps of statements and of includes.
use Rattle.std.proofs.Common.{◌≡◌, ℕ, ◌+◌, ◌<◌, ◌≤◌, ◌⊎◌, inl, inr, IsTrue, List, [], ◌∷◌, ◌++◌, length, take, Option, Some, None, Result, Ok, Err, refl, sym, ap, subst, ◌∙◌, append_assoc, length-append, arith}
use Rattle.std.specs.Prelude.{Contains}
use Rattle.std.proofs.lemmas.List.{append-nil}
use Rattle.outside.specs.Seen.{Seen}
use Rattle.thf_grammar.specs.Trees.{AnnotatedTree, SelectedTree, StatementTree, annotated, include}
use Rattle.thf_include.specs.Gathering.{file_limit, Stop, Ending, done, stopped, wants, no_name, behind_statements, placed_statement, select, FileEnds, unread, long, refused, followed, StatementEnds, stays, in_cycle, past_limit, stops, selects, StatementsEnd, no_more, ends, goes_on}
use Rattle.thf_include.specs.declared.opened.Opened.{Opened}
use Rattle.thf_include.specs.declared.refused.GatherRefused.{GatherRefused}
use Rattle.thf_include.specs.declared.refused.GatherRefused.TheVariants.{Fault, TooLong, Syntax, Cycle, NoSuchName, TooMany, Memory}
use Rattle.thf_include.specs.View.{PlacedTree}
use Rattle.thf_include.specs.Answer.{AreContents, StopsAs}
use Rattle.thf_include.specs.Internal.Steps.{AreRead, IsStep, FileSteps, StatementSteps, StatementsStep, SelectsAs}
use Rattle.thf_include.proofs.Texts.{take-append}
use Rattle.thf_include.proofs.SameTexts.{statements-same}
use Rattle.thf_include.proofs.Cuts.{file-cut, statements-cut}
use Rattle.thf_include.proofs.Stops.{StopsAs-map, StopsAs-cases, AreContents-append}
use Rattle.thf_include.proofs.FileSteps.{still-step, cut-step}

behind-behind : (front back : List PlacedTree) (e : Ending) → behind_statements front (behind_statements back e) ≡ behind_statements (front ++ back) e
behind-behind front back (done statements) = ap done (sym (append_assoc front back statements))
behind-behind front back (stopped why) = refl

behind-nil : (e : Ending) → behind_statements [] e ≡ e
behind-nil (done statements) = refl
behind-nil (stopped why) = refl

module _ (texts chain : List (List ℕ)) (file : ℕ) where
  -- statements behind others
  statements-append : (next : ℕ) (front : List StatementTree) (opened : List (List ℕ)) (e : Ending) → StatementsEnd texts chain file next front opened e → (ps : List PlacedTree) → e ≡ done ps → (rest : List StatementTree) (others : List (List ℕ)) (ending : Ending) → StatementsEnd texts chain file (next + length opened) rest others ending → StatementsEnd texts chain file next (front ++ rest) (opened ++ others) (behind_statements ps ending)
  statements-append _ _ _ _ (no_more _ _ next) ps e rest others ending h =
      let none : [] ≡ ps = cc in
      let same : next + 0 ≡ next = omega arith in
      subst (λ qs. StatementsEnd texts chain file next rest others (behind_statements qs ending)) none
      (subst (λ end. StatementsEnd texts chain file next rest others end) (sym (behind-nil ending))
      (subst (λ n. StatementsEnd texts chain file n rest others ending) same h))
  statements-append _ _ _ _ (ends _ opened _ next s later why inside) ps e rest others ending h = cc
  statements-append _ _ _ _ (goes_on _ opened more _ next s later front (stopped why) first after) ps e rest others ending h = cc
  statements-append _ _ _ _ (goes_on _ opened more _ next s later front (done back) first after) ps e rest others ending h =
      let whole : front ++ back ≡ ps = cc in
      let places : next + length (opened ++ more) ≡ (next + length opened) + length more = omega (arith, length-append opened more) in
      let tail = statements-append (next + length opened) later more (done back) after back refl rest others ending (subst (λ n. StatementsEnd texts chain file n rest others ending) places h) in
      subst (λ qs. StatementsEnd texts chain file next (s ∷ (later ++ rest)) ((opened ++ more) ++ others) (behind_statements qs ending)) whole
      (subst (λ end. StatementsEnd texts chain file next (s ∷ (later ++ rest)) ((opened ++ more) ++ others) end) (behind-behind front back ending)
      (subst (λ ns. StatementsEnd texts chain file next (s ∷ (later ++ rest)) ns (behind_statements front (behind_statements back ending))) (sym (append_assoc opened more others))
      (goes_on chain opened (more ++ others) file next s (later ++ rest) front (behind_statements back ending) first tail)))

  -- what stops before other statements
  statements-stop : (next : ℕ) (front : List StatementTree) (opened : List (List ℕ)) (e : Ending) → StatementsEnd texts chain file next front opened e → (why : Stop) → e ≡ stopped why → (rest : List StatementTree) → StatementsEnd texts chain file next (front ++ rest) opened (stopped why)
  statements-stop _ _ _ _ (no_more _ _ next) why e rest = cc
  statements-stop _ _ _ _ (ends _ opened _ next s later reason inside) why e rest =
      let same : reason ≡ why = cc in
      subst (λ w. StatementsEnd texts chain file next (s ∷ (later ++ rest)) opened (stopped w)) same (ends chain opened file next s (later ++ rest) reason inside)
  statements-stop _ _ _ _ (goes_on _ opened more _ next s later front (done back) first after) why e rest = cc
  statements-stop _ _ _ _ (goes_on _ opened more _ next s later front (stopped reason) first after) why e rest =
      let same : reason ≡ why = cc in
      subst (λ w. StatementsEnd texts chain file next (s ∷ (later ++ rest)) (opened ++ more) (stopped w)) same
      (goes_on chain opened more file next s (later ++ rest) front (stopped reason) first (statements-stop (next + length opened) later more (stopped reason) after reason refl rest))

  -- one statement alone
  one-done : (next : ℕ) (s : StatementTree) (opened : List (List ℕ)) (ps : List PlacedTree) → StatementEnds texts chain file next s opened (done ps) → StatementsEnd texts chain file next (s ∷ []) opened (done ps)
  one-done next s opened ps h =
      subst (λ ns. StatementsEnd texts chain file next (s ∷ []) ns (done ps)) (append-nil opened)
      (subst (λ qs. StatementsEnd texts chain file next (s ∷ []) (opened ++ []) (done qs)) (append-nil ps)
      (goes_on chain opened [] file next s [] ps (done []) h (no_more chain file (next + length opened))))

-- the step of one more statement, behind those of others
module _ (seen : Seen) (chain : List (List ℕ)) (file : ℕ) (front : List StatementTree) (s : StatementTree) (old mid new : Opened) (before between after : List PlacedTree)
    (so_far : StatementsStep seen chain file front old mid before between (Ok (tt {0}))) where
  module _ (texts : List (List ℕ)) (r : AreRead texts old) where
    abbrev p : IsStep seen (λ all ns ending. StatementsEnd all chain file (length old.names) front ns ending) texts old mid before between (Ok (tt {0}))
    p = so_far texts r

    -- each name has its text
    as-many : length p.more ≡ length p.names
    as-many = omega (arith, r.each, p.ends.read.each, length-append texts p.more, ap length p.opened, length-append old.names p.names)

    next : length mid.names ≡ length old.names + length p.names
    next = ap length p.opened ∙ length-append old.names p.names

    module _ (more names : List (List ℕ)) (opened : new.names ≡ mid.names ++ names) (told : IsTrue seen.tells → AreContents seen.contents names more) where
      whole : (texts ++ p.more) ++ more ≡ texts ++ (p.more ++ more)
      whole = append_assoc texts p.more more

      both-opened : new.names ≡ old.names ++ (p.names ++ names)
      both-opened = opened ∙ ap (λ ns. ns ++ names) p.opened ∙ append_assoc old.names p.names names

      both-told : IsTrue seen.tells → AreContents seen.contents (p.names ++ names) (p.more ++ more)
      both-told t = AreContents-append seen.contents p.names names p.more more as-many (p.told t) (told t)

      first : StatementsEnd ((texts ++ p.more) ++ more) chain file (length old.names) front p.names (done p.ends.statements)
      first =
          statements-same (length (texts ++ p.more)) (texts ++ p.more) ((texts ++ p.more) ++ more) (take-append (length (texts ++ p.more)) (texts ++ p.more) more (omega arith))
          chain file (length old.names) front p.names (done p.ends.statements) (omega (arith, p.ends.read.each, next)) p.ends.ended

      -- this statement behind those in front
      together : (rest : List StatementTree) (ending : Ending) → StatementsEnd ((texts ++ p.more) ++ more) chain file (length mid.names) rest names ending → StatementsEnd (texts ++ (p.more ++ more)) chain file (length old.names) (front ++ rest) (p.names ++ names) (behind_statements p.ends.statements ending)
      together rest ending h =
          subst (λ all. StatementsEnd all chain file (length old.names) (front ++ rest) (p.names ++ names) (behind_statements p.ends.statements ending)) whole
          (statements-append ((texts ++ p.more) ++ more) chain file (length old.names) front p.names (done p.ends.statements) first p.ends.statements refl rest names ending
          (subst (λ n. StatementsEnd ((texts ++ p.more) ++ more) chain file n rest names ending) next h))

    -- memory runs out after the statements in front
    front-cut : {T : Type 0} (rest : List StatementTree) (last : List PlacedTree) → new.names ≡ mid.names → IsStep {T = T} seen (λ all ns ending. StatementsEnd all chain file (length old.names) (front ++ rest) ns ending) texts old new before last (Err Memory)
    front-cut {T} rest last same = go p.names refl
      where
        go : (ns : List (List ℕ)) → p.names ≡ ns → IsStep {T = T} seen (λ all ns ending. StatementsEnd all chain file (length old.names) (front ++ rest) ns ending) texts old new before last (Err Memory)
        go [] e = record { more = []; names = []; opened = same ∙ p.opened ∙ ap (λ ns. old.names ++ ns) e; told = λ _. tt; ends = inl refl }
        go (n ∷ ns) e =
            let some : 0 < length p.names = omega (arith, ap length e) in
            cut-step seen (λ all ns ending. StatementsEnd all chain file (length old.names) (front ++ rest) ns ending) texts p.more p.names old new before last r (same ∙ p.opened) p.told some
            (λ m total. statements-stop (take m (texts ++ p.more)) chain file (length old.names) front p.names (stopped (wants m))
            (statements-cut m (texts ++ p.more) chain file (length old.names) front p.names (done p.ends.statements) total some p.ends.ended) (wants m) refl rest)

    statement-done : {T : Type 0} (u : T) → IsStep seen (λ all ns ending. StatementEnds all chain file (length mid.names) s ns ending) (texts ++ p.more) mid new between after (Ok u) → IsStep seen (λ all ns ending. StatementsEnd all chain file (length old.names) (front ++ s ∷ []) ns ending) texts old new before after (Ok (tt {0}))
    statement-done u q = record {
      more = p.more ++ q.more;
      names = p.names ++ q.names;
      opened = both-opened q.more q.names q.opened q.told;
      told = both-told q.more q.names q.opened q.told;
      ends = record {
        statements = p.ends.statements ++ q.ends.statements;
        ended = together q.more q.names q.opened q.told (s ∷ []) (done q.ends.statements) (one-done ((texts ++ p.more) ++ q.more) chain file (length mid.names) s q.names q.ends.statements q.ends.ended);
        gathered = q.ends.gathered ∙ ap (λ xs. xs ++ q.ends.statements) p.ends.gathered ∙ append_assoc before p.ends.statements q.ends.statements;
        read = subst (λ all. AreRead all new) (whole q.more q.names q.opened q.told) q.ends.read;
      };
    }

    statement-stopped : {T V : Type 0} (e : GatherRefused) (rest : List StatementTree) (last : List PlacedTree) → IsStep {T = T} seen (λ all ns ending. StatementEnds all chain file (length mid.names) s ns ending) (texts ++ p.more) mid new between after (Err e) → IsStep {T = V} seen (λ all ns ending. StatementsEnd all chain file (length old.names) (front ++ s ∷ rest) ns ending) texts old new before last (Err e)
    statement-stopped {T} {V} e rest last q = go (StopsAs-cases Q (q.names ≡ []) new.names e q.ends)
      where
        Q : Stop → Type 0
        Q why = StatementEnds ((texts ++ p.more) ++ q.more) chain file (length mid.names) s q.names (stopped why)

        P : Stop → Type 0
        P why = StatementsEnd (texts ++ (p.more ++ q.more)) chain file (length old.names) (front ++ s ∷ rest) (p.names ++ q.names) (stopped why)

        go : ((q.names ≡ []) × (e ≡ Memory)) ⊎ StopsAs Q ⊥ new.names e → IsStep {T = V} seen (λ all ns ending. StatementsEnd all chain file (length old.names) (front ++ s ∷ rest) ns ending) texts old new before last (Err e)
        go (inl (none, memory)) =
            subst (λ w. IsStep {T = V} seen (λ all ns ending. StatementsEnd all chain file (length old.names) (front ++ s ∷ rest) ns ending) texts old new before last (Err w)) (sym memory)
            (front-cut (s ∷ rest) last (q.opened ∙ ap (λ ns. mid.names ++ ns) none ∙ append-nil mid.names))
        go (inr stop) = record {
          more = p.more ++ q.more;
          names = p.names ++ q.names;
          opened = both-opened q.more q.names q.opened q.told;
          told = both-told q.more q.names q.opened q.told;
          ends = StopsAs-map Q P ⊥ (p.names ++ q.names ≡ []) new.names e (λ why k. together q.more q.names q.opened q.told (s ∷ rest) (stopped why) (ends chain q.names file (length mid.names) s rest why k)) (λ no. absurd no) stop;
        }

  pub next-statement : {T : Type 0} (u : T) → StatementSteps seen chain file s mid new between after (Ok u) → StatementsStep seen chain file (front ++ s ∷ []) old new before after (Ok (tt {0}))
  next-statement u h texts r = let q = so_far texts r in statement-done texts r u (h (texts ++ q.more) q.ends.read)

  pub last-statement : {T V : Type 0} (e : GatherRefused) (rest : List StatementTree) (last : List PlacedTree) → StatementSteps {T = T} seen chain file s mid new between after (Err e) → StatementsStep {T = V} seen chain file (front ++ s ∷ rest) old new before last (Err e)
  last-statement e rest last h texts r = let q = so_far texts r in statement-stopped texts r e rest last (h (texts ++ q.more) q.ends.read)

-- a file is opened
file-some : (texts chain : List (List ℕ)) (file : ℕ) (name : List ℕ) (opened : List (List ℕ)) (e : Ending) → FileEnds texts chain file name opened e → 0 < length opened
file-some texts _ _ _ _ _ (unread chain file name short) = omega arith
file-some texts _ _ _ _ _ (long chain file name there over) = omega arith
file-some texts _ _ _ _ _ (refused chain file at name text get within is) = omega arith
file-some texts _ _ _ _ _ (followed chain opened file name text tree ending get within is inside) = omega arith

-- an include whose file is opened
module _ (seen : Seen) (chain : List (List ℕ)) (file at : ℕ) (name : List ℕ) (old new : Opened) (apart : Contains chain name → ⊥) (room : length old.names < file_limit) where
  pub include-stopped : {T V : Type 0} (only : Option (List SelectedTree)) (before after from to : List PlacedTree) (e : GatherRefused) → FileSteps {T = T} seen chain name old new before after (Err e) → StatementSteps {T = V} seen chain file (include at name only) old new from to (Err e)
  include-stopped {T} only before after from to e h texts r = record {
    more = s.more;
    names = s.names;
    opened = s.opened;
    told = s.told;
    ends = StopsAs-map Q P (s.names ≡ []) (s.names ≡ []) new.names e (λ why k. stops chain s.names file (length old.names) at name only why apart room k) (λ none. none) s.ends;
  }
    where
      s : IsStep {T = T} seen (λ all ns ending. FileEnds all chain (length old.names) name ns ending) texts old new before after (Err e)
      s = h texts r

      Q : Stop → Type 0
      Q why = FileEnds (texts ++ s.more) chain (length old.names) name s.names (stopped why)

      P : Stop → Type 0
      P why = StatementEnds (texts ++ s.more) chain file (length old.names) (include at name only) s.names (stopped why)

  -- without a selection
  pub include-whole : {T : Type 0} (before after : List PlacedTree) (answer : Result T GatherRefused) → FileSteps seen chain name old new before after answer → StatementSteps seen chain file (include at name None) old new before after answer
  include-whole before after (Ok u) h texts r =
      let s = h texts r in
      record {
        more = s.more;
        names = s.names;
        opened = s.opened;
        told = s.told;
        ends = record {
          statements = s.ends.statements;
          ended = selects chain s.names file (length old.names) at name None s.ends.statements apart room s.ends.ended;
          gathered = s.ends.gathered;
          read = s.ends.read;
        };
      }
  include-whole before after (Err e) h texts r = include-stopped None before after before after e h texts r

  -- with a selection among the statements of the file
  module _ {T : Type 0} (u : T) (only : List SelectedTree) (fresh included before after : List PlacedTree) (none : fresh ≡ []) (h : FileSteps seen chain name old new fresh included (Ok u)) where
    module _ (texts : List (List ℕ)) (r : AreRead texts old) where
      step : IsStep seen (λ all ns ending. FileEnds all chain (length old.names) name ns ending) texts old new fresh included (Ok u)
      step = h texts r

      from : step.ends.statements ≡ included
      from = ap (λ xs. xs ++ step.ends.statements) (sym none) ∙ sym step.ends.gathered

      ended-as : (ending : Ending) → select file (Some only) included ≡ ending → StatementEnds (texts ++ step.more) chain file (length old.names) (include at name (Some only)) step.names ending
      ended-as ending e =
          subst (λ end. StatementEnds (texts ++ step.more) chain file (length old.names) (include at name (Some only)) step.names end) (ap (select file (Some only)) from ∙ e)
          (selects chain step.names file (length old.names) at name (Some only) step.ends.statements apart room step.ends.ended)

    pub include-selected : {V : Type 0} (answer : Result V GatherRefused) → SelectsAs (select file (Some only) included) before after answer → StatementSteps seen chain file (include at name (Some only)) old new before after answer
    include-selected (Ok v) k texts r =
        let s = step texts r in
        record {
          more = s.more;
          names = s.names;
          opened = s.opened;
          told = s.told;
          ends = record {
            statements = k.statements;
            ended = ended-as texts r (done k.statements) k.ended;
            gathered = k.gathered;
            read = s.ends.read;
          };
        }
    include-selected (Err (NoSuchName f place)) k texts r =
        let s = step texts r in
        record {
          more = s.more;
          names = s.names;
          opened = s.opened;
          told = s.told;
          ends = ended-as texts r (stopped (no_name f place)) k;
        }
    include-selected (Err Memory) k texts r =
        let s = step texts r in
        cut-step seen (λ all ns ending. StatementEnds all chain file (length old.names) (include at name (Some only)) ns ending) texts s.more s.names old new before after r s.opened s.told
        (file-some (texts ++ s.more) chain (length old.names) name s.names (done s.ends.statements) s.ends.ended)
        (λ m total. stops chain s.names file (length old.names) at name (Some only) (wants m) apart room (file-cut m (texts ++ s.more) chain (length old.names) name s.names (done s.ends.statements) total s.ends.ended))
    include-selected (Err (Fault f)) k texts r = absurd k
    include-selected (Err (TooLong f)) k texts r = absurd k
    include-selected (Err (Syntax f place)) k texts r = absurd k
    include-selected (Err (Cycle f place)) k texts r = absurd k
    include-selected (Err (TooMany f place)) k texts r = absurd k

-- steps that open nothing
module _ (seen : Seen) (chain : List (List ℕ)) (file : ℕ) (opened : Opened) (before : List PlacedTree) where
  pub cycle-step : {T : Type 0} (at : ℕ) (name : List ℕ) (only : Option (List SelectedTree)) → Contains chain name → StatementSteps {T = T} seen chain file (include at name only) opened opened before before (Err (Cycle file at))
  cycle-step at name only is texts r =
      still-step seen (λ all ns ending. StatementEnds all chain file (length opened.names) (include at name only) ns ending) texts opened before before (Err (Cycle file at))
      (in_cycle chain file (length opened.names) at name only is)

  pub full-step : {T : Type 0} (at : ℕ) (name : List ℕ) (only : Option (List SelectedTree)) → (Contains chain name → ⊥) → file_limit ≤ length opened.names → StatementSteps {T = T} seen chain file (include at name only) opened opened before before (Err (TooMany file at))
  full-step at name only new full texts r =
      still-step seen (λ all ns ending. StatementEnds all chain file (length opened.names) (include at name only) ns ending) texts opened before before (Err (TooMany file at))
      (past_limit chain file (length opened.names) at name only new full)

  pub memory-step : {T : Type 0} (s : StatementTree) (after : List PlacedTree) → StatementSteps {T = T} seen chain file s opened opened before after (Err Memory)
  memory-step s after texts r = still-step seen (λ all ns ending. StatementEnds all chain file (length opened.names) s ns ending) texts opened before after (Err Memory) (inl refl)

  pub stays-step : {T : Type 0} (u : T) (a : AnnotatedTree) (after : List PlacedTree) → after ≡ before ++ placed_statement file a ∷ [] → StatementSteps seen chain file (annotated a) opened opened before after (Ok u)
  stays-step u a after e texts r =
      still-step seen (λ all ns ending. StatementEnds all chain file (length opened.names) (annotated a) ns ending) texts opened before after (Ok u)
      (record { statements = placed_statement file a ∷ []; ended = stays chain file (length opened.names) a; gathered = e; read = r })

  pub none-step : StatementsStep seen chain file [] opened opened before before (Ok (tt {0}))
  none-step texts r =
      still-step seen (λ all ns ending. StatementsEnd all chain file (length opened.names) [] ns ending) texts opened before before (Ok (tt {0}))
      (record { statements = []; ended = no_more chain file (length opened.names); gathered = sym (append-nil before); read = r })

-- steps at files that tell the same
module _ {T : Type 0} (seen other : Seen) (same : other ≡ seen) (chain : List (List ℕ)) (file : ℕ) (old new : Opened) (before after : List PlacedTree) (answer : Result T GatherRefused) where
  pub same-statement : (s : StatementTree) → StatementSteps other chain file s old new before after answer → StatementSteps seen chain file s old new before after answer
  same-statement s h = subst (λ t. StatementSteps t chain file s old new before after answer) same h

  pub same-statements : (tree : List StatementTree) → StatementsStep other chain file tree old new before after answer → StatementsStep seen chain file tree old new before after answer
  same-statements tree h = subst (λ t. StatementsStep t chain file tree old new before after answer) same h
