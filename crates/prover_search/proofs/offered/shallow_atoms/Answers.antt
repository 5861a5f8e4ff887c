use Rattle.std.proofs.Common.{◌≡◌, ◌<◌, ◌≤◌, ◌+◌, ◌∷◌, ◌++◌, [], ℕ, List, Vec, Global, length, map, take, sym, ap, subst, ◌∙◌, arith}
use Rattle.std.specs.Prelude.{filter}
use Rattle.std.specs.List.{All}
use Rattle.literal_map.specs.Atoms.{bank_literal}
use Rattle.term_bank.specs.Terms.{term_at}
use Rattle.search_spec.specs.Shallow.{is_shallow_literal}
use Rattle.head_offers.proofs.MarkLaws.{All-last}
use Rattle.prover_search.proofs.OfferedLaws.{atom-within, atom-taken, atom-passed}
use Rattle.prover_search.proofs.offered.shallow_atoms.Goals.{then-depth-le-DEPTH+in_ok-push, else-depth-le-DEPTH}
use Rattle.prover_search.proofs.offered.shallow_atoms.Goals as goal

pub depth-requires : goal.depth-requires
depth-requires c =
    let b = c.args.basis.now in
    atom-within b.bank b.lits c.args.start.now c.loop-i.i _ (omega (arith, c.loop-i-test.true)) c.requires.basis.atoms c.requires.numbers c.formula_of-atom.result c.formula_of-atom.ensures

pub loop-i-preserved : goal.loop-i-preserved
loop-i-preserved c =
    let b = c.args.basis.now in
    let ts = b.bank.terms in
    let start = c.args.start.now in
    let i = c.loop-i.i in
    let atom = c.formula_of-atom.result in
    let inv = c.loop-i.invariant in
    let within : i < length start = omega (arith, c.loop-i-test.true) in
    let Done : Vec ℕ Global → Type 0 = λ ids. record {
      within : All (λ id. id < length ts) ids.items;
      atoms : map (term_at ts) ids.items ≡ map (λ x. x.atom) (filter is_shallow_literal (map (bank_literal ts b.lits) (take (i + 1) start)));
    } in
    elim c.if-depth-le-DEPTH.branch [
      | then-depth-le-DEPTH+in_ok-push w ↦
          subst Done (sym w.atoms-is) (record {
            within = subst (All (λ id. id < length ts)) (sym w.in_ok-push.ensures.items)
                (All-last (λ id. id < length ts) c.loop-i.atoms.items atom inv.within
                (atom-within b.bank b.lits start i _ within c.requires.basis.atoms c.requires.numbers atom c.formula_of-atom.ensures));
            atoms = atom-taken ts b.lits start i _ within atom c.depth.result c.formula_of-atom.ensures c.depth.ensures (omega (arith, w.if-depth-le-DEPTH.true)) c.loop-i.atoms.items w.push.new.self.items w.in_ok-push.ensures.items inv.atoms;
          })
      | else-depth-le-DEPTH w ↦
          subst Done (sym w.atoms-is) (record {
            within = inv.within;
            atoms = atom-passed ts b.lits start i _ within atom c.depth.result c.formula_of-atom.ensures c.depth.ensures (omega (arith, w.if-depth-le-DEPTH.false)) c.loop-i.atoms.items inv.atoms;
          })
    ]
