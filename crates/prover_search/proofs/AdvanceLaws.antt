-- Searches that advance.
use Rattle.std.specs.Prelude.{◌≡◌, length}
use Rattle.std.proofs.Common.{refl, ap, ◌∙◌, arith}
use Rattle.prover_state.specs.declared.tables.Core.{Core}
use Rattle.prover_state.specs.Internal.Advancing.{StaysRight}
use Rattle.prover_state.specs.Internal.Growing.{BasisGrows}
use Rattle.prover_state.specs.Internal.Standing.{IsRightState}
use Rattle.prover_state.specs.Internal.Steps.{IsMadeInstance, StepsGrow}
use Rattle.prover_search.specs.Internal.Developing.{Advances, AdvancesAlone}
use Rattle.prover_search.proofs.DevelopLaws.{develops-same, develops-then, grows-wider}
use Rattle.prover_search.proofs.WorkLaws.{develops-grown}

module _ {W : Type 0} where
  -- nothing is done
  pub advances-not : (a : Core W) → IsRightState a.tables a.plan → AdvancesAlone a a
  advances-not a right = record { right = right; develops = develops-same a.tables a.tables refl refl refl; witnesses = refl; rule = refl }

  -- terms, atoms, clauses and instances are the same
  pub advances-still : (a b : Core W) → StaysRight a b → b.tables.basis ≡ a.tables.basis → b.tables.steps ≡ a.tables.steps → b.tables.done ≡ a.tables.done → AdvancesAlone a b
  advances-still a b stays basis steps done = record {
    right = stays.right;
    develops = develops-same a.tables b.tables basis steps done;
    witnesses = ap (λ g. g.witnesses) basis;
    rule = stays.rule;
  }

  -- clauses and instances are the same
  pub advances-grown : (a b : Core W) → StaysRight a b → BasisGrows a.tables.basis b.tables.basis → b.tables.steps ≡ a.tables.steps → b.tables.done ≡ a.tables.done → AdvancesAlone a b
  advances-grown a b stays grows steps done = record {
    right = stays.right;
    develops = develops-grown a.tables b.tables grows steps done;
    witnesses = grows.witnesses;
    rule = stays.rule;
  }

  -- a rule without a witness is used
  pub advances-ruled : (a b : Core W) → StaysRight a b → BasisGrows a.tables.basis b.tables.basis → StepsGrow (IsMadeInstance b.tables.basis) a.tables.steps b.tables.steps → b.tables.done ≡ a.tables.done → AdvancesAlone a b
  advances-ruled a b stays grows steps done = record {
    right = stays.right;
    develops = record { basis = grows-wider a.tables.basis b.tables.basis grows; steps = steps; done = done };
    witnesses = grows.witnesses;
    rule = stays.rule;
  }

  pub alone-advances : (a b : Core W) → AdvancesAlone a b → Advances a b
  alone-advances a b h = record {
    right = h.right;
    develops = h.develops;
    witnesses = let e = ap length h.witnesses in omega (arith, e);
    rule = h.rule;
  }

  pub alone-then : (a b c : Core W) → AdvancesAlone a b → AdvancesAlone b c → AdvancesAlone a c
  alone-then a b c h k = record {
    right = k.right;
    develops = develops-then a.tables b.tables c.tables h.right.basis h.develops k.develops;
    witnesses = k.witnesses ∙ h.witnesses;
    rule = k.rule ∙ h.rule;
  }

  pub advances-then : (a b c : Core W) → Advances a b → AdvancesAlone b c → Advances a c
  advances-then a b c h k = record {
    right = k.right;
    develops = develops-then a.tables b.tables c.tables h.right.basis h.develops k.develops;
    witnesses = let e = ap length k.witnesses in let few = h.witnesses in omega (arith, e, few);
    rule = k.rule ∙ h.rule;
  }
