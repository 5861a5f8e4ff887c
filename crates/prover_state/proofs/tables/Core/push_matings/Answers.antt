use Rattle.std.proofs.Common.{◌&&◌, not, Bool, List, map, length, drop, slice_get, arith, sym, ap, ap₂, ◌∙◌}
use Rattle.stt_core.proofs.ListLaws.{drop_got}
use Rattle.tableau_calculus.specs.Literals.{Literal}
use Rattle.sat_base.specs.declared.literal.SatLit.{SatLit}
use Rattle.literal_map.specs.Atoms.{bank_literal}
use Rattle.mating_rules.specs.Noted.{partners_of}
use Rattle.search_spec.specs.Partners.{matings}
use Rattle.search_spec.specs.State.{Command as Meant, mate, with_commands}
use Rattle.prover_state.specs.Internal.Names.{IsNumberIn}
use Rattle.prover_state.specs.Internal.Standing.{the_state}
use Rattle.prover_state.proofs.EachLaws.{each-at}
use Rattle.prover_state.proofs.TermLaws.{pushed-nothing}
use Rattle.prover_state.proofs.PartnerLaws.{partner-numbers, none-mated, positive-mated, negative-mated}
use Rattle.prover_state.proofs.LoopLists.{no-items, begins-mapped, length-mapped}
use Rattle.prover_state.proofs.tables.Core.push_matings.Goals as goal

pub returns-then-count-eq0-clause-state : goal.returns-then-count-eq0-clause-state
returns-then-count-eq0-clause-state g c =
    let t = c.args.self.now.tables in
    let q = c.args.self.now.plan in
    let r = c.requires.right in
    let l = c.args.lit in
    let mode = q.rule.mode in
    let s = the_state t q in
    sym (pushed-nothing mode s)
    ∙ ap (λ (cs : List Meant). with_commands mode cs s) (sym (none-mated t q r l c.requires.spine (sym c.in_ok-partners.ensures ∙ no-items c.in_ok-partners.partners.now (omega (arith, c.if-count-eq0.true)))))

pub push_whole-requires-clause-numbers : goal.push_whole-requires-clause-numbers
push_whole-requires-clause-numbers g c =
    let t = c.args.self.now.tables in
    let q = c.args.self.now.plan in
    let r = c.requires.right in
    let l = c.args.lit in
    let found = partners_of t.basis.bank.terms t.basis.lits l t.index.noted in
    let at = ap (λ (ls : List SatLit). slice_get ls 0) (sym c.in_ok-partners.ensures) ∙ c.literal_of-partner.ensures in
    (c.requires.number, each-at (IsNumberIn t.basis.lits) found 0 c.literal_of-partner.result (partner-numbers t q r l) at)

pub push_whole-requires-clause-begins : goal.push_whole-requires-clause-begins
push_whole-requires-clause-begins g c =
    let t = c.args.self.now.tables in
    let q = c.args.self.now.plan in
    let r = c.requires.right in
    let l = c.args.lit in
    let d : SatLit → Literal = bank_literal t.basis.bank.terms t.basis.lits in
    let found = partners_of t.basis.bank.terms t.basis.lits l t.index.noted in
    let at = ap (λ (ls : List SatLit). slice_get ls 0) (sym c.in_ok-partners.ensures) ∙ c.literal_of-partner.ensures in
    begins-mapped (matings (d l) (map d t.noted.items)) (λ m. mate (d l) (d m)) found (positive-mated t q r l (ap₂ (λ (a b : Bool). a && b) c.if-lit.true c.requires.spine)) c.literal_of-partner.result (drop 1 found) (drop_got found 0 c.literal_of-partner.result at)

pub push_whole-requires-clause-count : goal.push_whole-requires-clause-count
push_whole-requires-clause-count g c =
    let t = c.args.self.now.tables in
    let q = c.args.self.now.plan in
    let r = c.requires.right in
    let l = c.args.lit in
    let d : SatLit → Literal = bank_literal t.basis.bank.terms t.basis.lits in
    let found = partners_of t.basis.bank.terms t.basis.lits l t.index.noted in
    ap length c.in_ok-partners.ensures ∙ sym (length-mapped (matings (d l) (map d t.noted.items)) (λ m. mate (d l) (d m)) found (positive-mated t q r l (ap₂ (λ (a b : Bool). a && b) c.if-lit.true c.requires.spine)))

pub push_whole-requires-2-clause-numbers : goal.push_whole-requires-2-clause-numbers
push_whole-requires-2-clause-numbers g c =
    let t = c.args.self.now.tables in
    let q = c.args.self.now.plan in
    let r = c.requires.right in
    let l = c.args.lit in
    let found = partners_of t.basis.bank.terms t.basis.lits l t.index.noted in
    let at = ap (λ (ls : List SatLit). slice_get ls 0) (sym c.in_ok-partners.ensures) ∙ c.literal_of-partner.ensures in
    (each-at (IsNumberIn t.basis.lits) found 0 c.literal_of-partner.result (partner-numbers t q r l) at, c.requires.number)

pub push_whole-requires-2-clause-begins : goal.push_whole-requires-2-clause-begins
push_whole-requires-2-clause-begins g c =
    let t = c.args.self.now.tables in
    let q = c.args.self.now.plan in
    let r = c.requires.right in
    let l = c.args.lit in
    let d : SatLit → Literal = bank_literal t.basis.bank.terms t.basis.lits in
    let found = partners_of t.basis.bank.terms t.basis.lits l t.index.noted in
    let at = ap (λ (ls : List SatLit). slice_get ls 0) (sym c.in_ok-partners.ensures) ∙ c.literal_of-partner.ensures in
    begins-mapped (matings (d l) (map d t.noted.items)) (λ m. mate (d m) (d l)) found (negative-mated t q r l (ap₂ (λ (a b : Bool). not a && b) c.if-lit.false c.requires.spine)) c.literal_of-partner.result (drop 1 found) (drop_got found 0 c.literal_of-partner.result at)

pub push_whole-requires-2-clause-count : goal.push_whole-requires-2-clause-count
push_whole-requires-2-clause-count g c =
    let t = c.args.self.now.tables in
    let q = c.args.self.now.plan in
    let r = c.requires.right in
    let l = c.args.lit in
    let d : SatLit → Literal = bank_literal t.basis.bank.terms t.basis.lits in
    let found = partners_of t.basis.bank.terms t.basis.lits l t.index.noted in
    ap length c.in_ok-partners.ensures ∙ sym (length-mapped (matings (d l) (map d t.noted.items)) (λ m. mate (d m) (d l)) found (negative-mated t q r l (ap₂ (λ (a b : Bool). not a && b) c.if-lit.false c.requires.spine)))
