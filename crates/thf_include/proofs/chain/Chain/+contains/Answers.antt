use Rattle.std.proofs.Common.{◌≡◌, true, false, sym, ◌∙◌}
use Rattle.std.proofs.lemmas.Slice.Eq.{bytes_eq-Decides}
use Rattle.thf_include.specs.Internal.Chain.{the_chain}
use Rattle.thf_include.proofs.ChainLaws.{Contains-later}
use Rattle.thf_include.proofs.chain.Chain.+contains.Goals as goal

pub returns-else-eq : goal.returns-else-eq
returns-else-eq t c =
    let other : c.in-File.first.now ≡ c.args.name.now → ⊥ = λ e. let d : true ≡ false = sym ((bytes_eq-Decides c.in-File.first.now c.args.name.now).1 e) ∙ sym c.eq.ensures ∙ c.if-eq.false in cc in
    rw c.in-File.is (Contains-later c.in-File.first.now c.args.name.now (the_chain c.in-File.outer.now) c.contains.result other c.contains.ensures)
