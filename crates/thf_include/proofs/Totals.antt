-- What is gathered in all.
use Rattle.std.proofs.Common.{◌≡◌, ℕ, zero, suc, ◌+◌, ◌<◌, ◌≤◌, List, [], ◌∷◌, ◌++◌, length, Ok, All, refl, sym, ap, subst, ◌∙◌, length-append, arith}
use Rattle.std.proofs.lemmas.List.{length-map}
use Rattle.thf_grammar.specs.View.{the_statement, the_file}
use Rattle.thf_grammar.specs.declared.statement.Statement.{Statement}
use Rattle.thf_include.specs.declared.gathered.Placed.{Placed}
use Rattle.outside.specs.Limits.{byte_limit}
use Rattle.outside.specs.Seen.{Seen}
use Rattle.thf_include.specs.declared.opened.Opened.{Opened}
use Rattle.thf_include.specs.View.{the_placed, the_statements}
use Rattle.thf_include.specs.Gathering.{done}
use Rattle.thf_include.specs.Internal.Names.{IsNamedStatement, AreNamedStatements}
use Rattle.thf_include.specs.Internal.Steps.{AreRead, FileSteps}
use Rattle.thf_include.proofs.Bounds.{AreBelow, AreBounded, file-bounded}

-- one of the statements
pub one-named : (front rest : List Statement) (s : Statement) → AreNamedStatements (the_file (front ++ s ∷ rest)) → IsNamedStatement (the_statement s)
one-named [] rest s h = h.0
one-named (f ∷ fs) rest s h = one-named fs rest s h.1

below-all : (n : ℕ) (ps : List Placed) → AreBelow n (the_statements ps) → All (λ p. p.file < n) ps
below-all n [] h k d short = absurd (omega arith)
below-all n (p ∷ ps) h zero d short = h.0
below-all n (p ∷ ps) h (suc k) d short = below-all n ps h.1 k d (omega arith)

-- nothing is opened before
module _ (old : Opened) (none : old.names ≡ []) (whole : old.left ≡ byte_limit) where
  begun : AreRead [] old
  begun = record { each = sym (ap length none); bytes = omega arith }

  module _ {T : Type 0} (u : T) (seen : Seen) (name : List ℕ) (new : Opened) (fresh gathered : List Placed) (empty : fresh ≡ []) (h : FileSteps seen [] name old new (the_statements fresh) (the_statements gathered) (Ok u)) where
    bounded : AreBounded (h [] begun).more (length old.names) (length old.names + length (h [] begun).names) 0 (the_statements gathered)
    bounded =
        let s = h [] begun in
        let e : the_statements gathered ≡ s.ends.statements = s.ends.gathered ∙ ap (λ ps. the_statements ps ++ s.ends.statements) empty in
        subst (AreBounded s.more (length old.names) (length old.names + length s.names) 0) (sym e)
        (file-bounded s.more [] (length old.names) name s.names (done s.ends.statements) s.ends.ended s.ends.statements refl)

    pub few : length gathered ≤ 16777216
    few = omega (arith, bounded.counted, bounded.within, length-map gathered the_placed)

    pub placed : All (λ (p : Placed). p.file < length new.names) gathered
    placed =
        let s = h [] begun in
        let all : length old.names + length s.names ≡ length new.names = omega (arith, ap length s.opened, length-append old.names s.names) in
        below-all (length new.names) gathered (subst (λ n. AreBelow n (the_statements gathered)) all bounded.below)
