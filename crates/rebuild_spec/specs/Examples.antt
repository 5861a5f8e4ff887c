-- Worked examples: what searches left behind them, and the refutations that are rebuilt.
use Rattle.std.specs.Prelude.{ℕ, List, [], ◌∷◌}
use Rattle.stt_core.specs.SimpleType.{SimpleType, formula, base, arrow}
use Rattle.stt_core.specs.Lambda.{name, witness, falsity, implication, equality, choice, description, Lambda, bound, constant, lam, app, neg, imp, eq, every}
use Rattle.tableau_calculus.specs.Literals.{plus, minus}
use Rattle.tableau_calculus.specs.declared.rule_use.RuleUse.TheVariants.{AtOne, AtTwo, AllPos, WithPredicate, Cut}
use Rattle.tableau_calculus.specs.declared.rule_use.OnePlace.TheVariants.{False, ImpPos, ImpNeg, BoolNeg, FunNeg, AllNeg}
use Rattle.tableau_calculus.specs.declared.rule_use.TwoPlaces.TheVariants.{Close, Mat}
use Rattle.tableau_calculus.specs.declared.rule_use.OfPredicate.TheVariants.{Cho, Des}
use Rattle.tableau_calculus.specs.declared.refutation.Child.TheVariants as child
use Rattle.tableau_calculus.specs.declared.refutation.Child.TheVariants.{Closed}
use Rattle.tableau_calculus.specs.declared.refutation.Line.{Line}
use Rattle.tableau_calculus.specs.declared.refutation.Refutation.{Refutation}
use Rattle.sat_base.specs.declared.literal.SatLit.{SatLit}
use Rattle.sat_base.specs.Literal.{positive, negative}
use Rattle.sat_log.specs.declared.chain.Premise.{Premise}
use Rattle.sat_log.specs.declared.chain.Premise.TheVariants.{Clause, Result}
use Rattle.sat_log.specs.declared.chain.ChainStep.{ChainStep}
use Rattle.sat_log.specs.declared.log.LogEntry.{LogEntry}
use Rattle.rebuild_spec.specs.Input.{Instance, start_unit, clause_by, Input}
use Rattle.rebuild_spec.specs.Rebuilt.{IsRebuilt}

-- the variable with this number, and its negation
abbrev pub yes : ℕ → SatLit
yes n = positive (record { 0 = n })

abbrev pub no : ℕ → SatLit
no n = negative (record { 0 = n })

-- resolution on the variable with this number
abbrev pub on : ℕ → Premise → ChainStep
on n premise = record { var = record { 0 = n }; premise = premise }

abbrev pub individual_type : SimpleType
individual_type = base 1

abbrev pub example_name : ℕ → Lambda
example_name k = constant (name k)

-- `t.p`: the conjecture $true. One line, by falsity.
abbrev pub true_conjecture_a0 : Lambda
true_conjecture_a0 = constant falsity

abbrev pub true_conjecture_i0 : Instance
true_conjecture_i0 = record { rule = (AtOne False 0); principals = ((yes 0) ∷ []); alternatives = [] }

abbrev pub true_conjecture_e0 : LogEntry
true_conjecture_e0 = record { chain = record { first = (Clause 1); steps = (on 0 (Clause 0) ∷ []) }; result = [] }

abbrev pub true_conjecture_input : Input
true_conjecture_input =
    record {
      atoms = (true_conjecture_a0 ∷ []);
      rows = [];
      clauses = (start_unit (yes 0) ∷ clause_by ((no 0) ∷ []) true_conjecture_i0 ∷ []);
      log = (true_conjecture_e0 ∷ []);
    }

abbrev pub true_conjecture_lines : List Line
true_conjecture_lines = record { branch = (plus true_conjecture_a0 ∷ []); rule = (AtOne False 0); children = [] } ∷ []

abbrev pub true_conjecture_refutation : Refutation
true_conjecture_refutation = record { witnesses = []; lines = true_conjecture_lines }

-- `u.p`: p and ~ p. Two literals of the start close each other.
abbrev pub clash_a0 : Lambda
clash_a0 = example_name 0

abbrev pub clash_e0 : LogEntry
clash_e0 = record { chain = record { first = (Clause 1); steps = (on 0 (Clause 0) ∷ []) }; result = [] }

abbrev pub clash_input : Input
clash_input = record { atoms = (clash_a0 ∷ []); rows = []; clauses = (start_unit (yes 0) ∷ start_unit (no 0) ∷ []); log = (clash_e0 ∷ []) }

abbrev pub clash_lines : List Line
clash_lines = record { branch = (plus clash_a0 ∷ minus clash_a0 ∷ []); rule = (AtTwo Close 0 1); children = [] } ∷ []

abbrev pub clash_refutation : Refutation
clash_refutation = record { witnesses = []; lines = clash_lines }

-- `all.p`: a: $i > $o and c: $i, with ! [X] : a X and the conjecture a c. One line, by the term c.
abbrev pub all_p_a0 : Lambda
all_p_a0 = every individual_type (lam individual_type (app (example_name 0) (bound 0)))

abbrev pub all_p_a1 : Lambda
all_p_a1 = app (example_name 0) (example_name 1)

abbrev pub all_p_a2 : Lambda
all_p_a2 = app (example_name 0) (app (constant (choice individual_type)) (lam individual_type (constant falsity)))

abbrev pub all_p_a3 : Lambda
all_p_a3 =
    app (app (constant (equality individual_type)) (app (constant (choice individual_type)) (lam individual_type (constant falsity))))
    (example_name 1)

abbrev pub all_p_a4 : Lambda
all_p_a4 = every individual_type (lam individual_type (neg (constant falsity)))

abbrev pub all_p_a5 : Lambda
all_p_a5 = constant falsity

abbrev pub all_p_i0 : Instance
all_p_i0 =
    record {
      rule = (AllPos 0 (app (constant (choice individual_type)) (lam individual_type (constant falsity))));
      principals = ((yes 0) ∷ []);
      alternatives = (((yes 2) ∷ []) ∷ []);
    }

abbrev pub all_p_i1 : Instance
all_p_i1 = record { rule = (AtTwo Mat 0 1); principals = ((yes 2) ∷ (no 1) ∷ []); alternatives = (((no 3) ∷ []) ∷ []) }

abbrev pub all_p_i2 : Instance
all_p_i2 =
    record {
      rule = (WithPredicate Cho (lam individual_type (constant falsity)));
      principals = [];
      alternatives = (((yes 4) ∷ []) ∷ ((yes 5) ∷ []) ∷ []);
    }

abbrev pub all_p_i3 : Instance
all_p_i3 = record { rule = (AllPos 0 (example_name 1)); principals = ((yes 0) ∷ []); alternatives = (((yes 1) ∷ []) ∷ []) }

abbrev pub all_p_e0 : LogEntry
all_p_e0 = record { chain = record { first = (Clause 5); steps = (on 1 (Clause 1) ∷ on 0 (Clause 0) ∷ []) }; result = [] }

abbrev pub all_p_input : Input
all_p_input =
    record {
      atoms = (all_p_a0 ∷ all_p_a1 ∷ all_p_a2 ∷ all_p_a3 ∷ all_p_a4 ∷ all_p_a5 ∷ []);
      rows = [];
      clauses =
          (start_unit (yes 0) ∷ start_unit (no 1) ∷ clause_by ((no 0) ∷ (yes 2) ∷ []) all_p_i0
          ∷ clause_by ((no 2) ∷ (yes 1) ∷ (no 3) ∷ []) all_p_i1 ∷ clause_by ((yes 4) ∷ (yes 5) ∷ []) all_p_i2
          ∷ clause_by ((no 0) ∷ (yes 1) ∷ []) all_p_i3 ∷ []);
      log = (all_p_e0 ∷ []);
    }

abbrev pub all_p_lines : List Line
all_p_lines = record { branch = (plus all_p_a0 ∷ minus all_p_a1 ∷ []); rule = (AllPos 0 (example_name 1)); children = (Closed ∷ []) } ∷ []

abbrev pub all_p_refutation : Refutation
all_p_refutation = record { witnesses = []; lines = all_p_lines }

-- p: ($i > $i) > $o and f: $i > $i, with p f and the conjecture p (^ [X] : f X)
abbrev pub eta_equal_a0 : Lambda
eta_equal_a0 = app (example_name 0) (lam individual_type (app (example_name 1) (bound 0)))

abbrev pub eta_equal_e0 : LogEntry
eta_equal_e0 = record { chain = record { first = (Clause 1); steps = (on 0 (Clause 0) ∷ []) }; result = [] }

abbrev pub eta_equal_input : Input
eta_equal_input =
    record { atoms = (eta_equal_a0 ∷ []); rows = []; clauses = (start_unit (yes 0) ∷ start_unit (no 0) ∷ []); log = (eta_equal_e0 ∷ []) }

abbrev pub eta_equal_lines : List Line
eta_equal_lines = record { branch = (plus eta_equal_a0 ∷ minus eta_equal_a0 ∷ []); rule = (AtTwo Close 0 1); children = [] } ∷ []

abbrev pub eta_equal_refutation : Refutation
eta_equal_refutation = record { witnesses = []; lines = eta_equal_lines }

-- f, g: $i > $i, with ! [X] : f X = g X and the conjecture f = g
abbrev pub pointwise_a0 : Lambda
pointwise_a0 =
    every individual_type
    (lam individual_type
    (app (app (constant (equality individual_type)) (app (example_name 0) (bound 0))) (app (example_name 1) (bound 0))))

abbrev pub pointwise_a1 : Lambda
pointwise_a1 =
    app (app (constant (equality (arrow individual_type individual_type))) (lam individual_type (app (example_name 0) (bound 0))))
    (lam individual_type (app (example_name 1) (bound 0)))

abbrev pub pointwise_i0 : Instance
pointwise_i0 = record { rule = (AtOne FunNeg 0); principals = ((no 1) ∷ []); alternatives = (((no 0) ∷ []) ∷ []) }

abbrev pub pointwise_e0 : LogEntry
pointwise_e0 = record { chain = record { first = (Clause 2); steps = (on 1 (Clause 1) ∷ on 0 (Clause 0) ∷ []) }; result = [] }

abbrev pub pointwise_input : Input
pointwise_input =
    record {
      atoms = (pointwise_a0 ∷ pointwise_a1 ∷ []);
      rows = [];
      clauses = (start_unit (yes 0) ∷ start_unit (no 1) ∷ clause_by ((yes 1) ∷ (no 0) ∷ []) pointwise_i0 ∷ []);
      log = (pointwise_e0 ∷ []);
    }

abbrev pub pointwise_lines : List Line
pointwise_lines = record { branch = (minus pointwise_a1 ∷ plus pointwise_a0 ∷ []); rule = (AtOne FunNeg 0); children = (Closed ∷ []) } ∷ []

abbrev pub pointwise_refutation : Refutation
pointwise_refutation = record { witnesses = []; lines = pointwise_lines }

-- p: $i > $o, with ? [X] : p X and the conjecture p (@+ [X] : p X). One line, and no row, though the search made a witness.
abbrev pub chosen_a0 : Lambda
chosen_a0 = every individual_type (lam individual_type (neg (app (example_name 0) (bound 0))))

abbrev pub chosen_a1 : Lambda
chosen_a1 = app (example_name 0) (app (constant (choice individual_type)) (lam individual_type (app (example_name 0) (bound 0))))

abbrev pub chosen_a2 : Lambda
chosen_a2 = app (example_name 0) (constant (witness 0))

abbrev pub chosen_i0 : Instance
chosen_i0 = record { rule = (AtOne AllNeg 0); principals = ((no 0) ∷ []); alternatives = (((yes 2) ∷ []) ∷ []) }

abbrev pub chosen_i1 : Instance
chosen_i1 =
    record {
      rule = (WithPredicate Cho (lam individual_type (app (example_name 0) (bound 0))));
      principals = [];
      alternatives = (((yes 0) ∷ []) ∷ ((yes 1) ∷ []) ∷ []);
    }

abbrev pub chosen_e0 : LogEntry
chosen_e0 = record { chain = record { first = (Clause 3); steps = (on 1 (Clause 1) ∷ on 0 (Clause 0) ∷ []) }; result = [] }

abbrev pub chosen_input : Input
chosen_input =
    record {
      atoms = (chosen_a0 ∷ chosen_a1 ∷ chosen_a2 ∷ []);
      rows = (record { type = individual_type; predicate = (lam individual_type (neg (app (example_name 0) (bound 0)))) } ∷ []);
      clauses =
          (start_unit (no 0) ∷ start_unit (no 1) ∷ clause_by ((yes 0) ∷ (yes 2) ∷ []) chosen_i0
          ∷ clause_by ((yes 0) ∷ (yes 1) ∷ []) chosen_i1 ∷ []);
      log = (chosen_e0 ∷ []);
    }

abbrev pub chosen_lines : List Line
chosen_lines =
    record {
      branch = (minus chosen_a0 ∷ minus chosen_a1 ∷ []);
      rule = (WithPredicate Cho (lam individual_type (app (example_name 0) (bound 0))));
      children = (Closed ∷ Closed ∷ []);
    }
    ∷ []

abbrev pub chosen_refutation : Refutation
chosen_refutation = record { witnesses = []; lines = chosen_lines }

-- 'q': $o, with q and the conjecture 'q'
abbrev pub quoted_a0 : Lambda
quoted_a0 = example_name 0

abbrev pub quoted_e0 : LogEntry
quoted_e0 = record { chain = record { first = (Clause 1); steps = (on 0 (Clause 0) ∷ []) }; result = [] }

abbrev pub quoted_input : Input
quoted_input =
    record { atoms = (quoted_a0 ∷ []); rows = []; clauses = (start_unit (yes 0) ∷ start_unit (no 0) ∷ []); log = (quoted_e0 ∷ []) }

abbrev pub quoted_lines : List Line
quoted_lines = record { branch = (plus quoted_a0 ∷ minus quoted_a0 ∷ []); rule = (AtTwo Close 0 1); children = [] } ∷ []

abbrev pub quoted_refutation : Refutation
quoted_refutation = record { witnesses = []; lines = quoted_lines }

-- The conjecture ! [X: $i] : $true. No literal names the witness, and its row is there all the same.
abbrev pub unnamed_a0 : Lambda
unnamed_a0 = every individual_type (lam individual_type (neg (constant falsity)))

abbrev pub unnamed_a1 : Lambda
unnamed_a1 = constant falsity

abbrev pub unnamed_i0 : Instance
unnamed_i0 = record { rule = (AtOne AllNeg 0); principals = ((no 0) ∷ []); alternatives = (((yes 1) ∷ []) ∷ []) }

abbrev pub unnamed_i1 : Instance
unnamed_i1 = record { rule = (AtOne False 0); principals = ((yes 1) ∷ []); alternatives = [] }

abbrev pub unnamed_e0 : LogEntry
unnamed_e0 = record { chain = record { first = (Clause 1); steps = (on 1 (Clause 2) ∷ on 0 (Clause 0) ∷ []) }; result = [] }

abbrev pub unnamed_input : Input
unnamed_input =
    record {
      atoms = (unnamed_a0 ∷ unnamed_a1 ∷ []);
      rows = (record { type = individual_type; predicate = (lam individual_type (neg (constant falsity))) } ∷ []);
      clauses = (start_unit (no 0) ∷ clause_by ((yes 0) ∷ (yes 1) ∷ []) unnamed_i0 ∷ clause_by ((no 1) ∷ []) unnamed_i1 ∷ []);
      log = (unnamed_e0 ∷ []);
    }

abbrev pub unnamed_lines : List Line
unnamed_lines =
    record { branch = (plus unnamed_a1 ∷ []); rule = (AtOne False 0); children = [] }
    ∷ record { branch = (minus unnamed_a0 ∷ minus unnamed_a1 ∷ []); rule = (AtOne AllNeg 0); children = (Closed ∷ []) }
    ∷ record { branch = (minus unnamed_a0 ∷ []); rule = (Cut (plus unnamed_a1)); children = (child.Line 0 ∷ child.Line 1 ∷ []) } ∷ []

abbrev pub unnamed_refutation : Refutation
unnamed_refutation =
    record {
      witnesses = (record { type = individual_type; predicate = (lam individual_type (neg (constant falsity))) } ∷ []);
      lines = unnamed_lines;
    }

-- `the.p`: p: $i > $o, with ? [X] : p X, that p holds of one value at most, and the conjecture p (@- [X] : p X)
abbrev pub the_p_predicate : Lambda
the_p_predicate = lam individual_type (app (example_name 0) (bound 0))

abbrev pub the_p_a0 : Lambda
the_p_a0 = every individual_type (lam individual_type (neg (app (example_name 0) (bound 0))))

abbrev pub the_p_a1 : Lambda
the_p_a1 =
    every individual_type
    (lam individual_type
    (every individual_type
    (lam individual_type
    (imp (app (example_name 0) (bound 1))
    (imp (app (example_name 0) (bound 0)) (eq individual_type (bound 1) (bound 0)))))))

abbrev pub the_p_a2 : Lambda
the_p_a2 = app (example_name 0) (app (constant (description individual_type)) the_p_predicate)

abbrev pub the_p_i0 : Instance
the_p_i0 =
    record { rule = WithPredicate Des the_p_predicate; principals = []; alternatives = (yes 0 ∷ []) ∷ (no 1 ∷ []) ∷ (yes 2 ∷ []) ∷ [] }

abbrev pub the_p_e0 : LogEntry
the_p_e0 = record { chain = record { first = Clause 3; steps = on 2 (Clause 2) ∷ on 1 (Clause 1) ∷ on 0 (Clause 0) ∷ [] }; result = [] }

abbrev pub the_p_input : Input
the_p_input =
    record {
      atoms = the_p_a0 ∷ the_p_a1 ∷ the_p_a2 ∷ [];
      rows = [];
      clauses = start_unit (no 0) ∷ start_unit (yes 1) ∷ start_unit (no 2) ∷ clause_by (yes 0 ∷ no 1 ∷ yes 2 ∷ []) the_p_i0 ∷ [];
      log = the_p_e0 ∷ [];
    }

abbrev pub the_p_lines : List Line
the_p_lines =
    record {
      branch = minus the_p_a0 ∷ plus the_p_a1 ∷ minus the_p_a2 ∷ [];
      rule = WithPredicate Des the_p_predicate;
      children = Closed ∷ Closed ∷ Closed ∷ [];
    }
    ∷ []

abbrev pub the_p_refutation : Refutation
the_p_refutation = record { witnesses = []; lines = the_p_lines }

-- `k.p`: a | b, a | ~ b, ~ a | b and ~ a | ~ b. Two results, of which the second rests on the first.
abbrev pub k_p_a0 : Lambda
k_p_a0 = app (app (constant implication) (neg (example_name 0))) (example_name 1)

abbrev pub k_p_a1 : Lambda
k_p_a1 = app (app (constant implication) (neg (example_name 0))) (neg (example_name 1))

abbrev pub k_p_a2 : Lambda
k_p_a2 = app (app (constant implication) (neg (neg (example_name 0)))) (example_name 1)

abbrev pub k_p_a3 : Lambda
k_p_a3 = app (app (constant implication) (neg (neg (example_name 0)))) (neg (example_name 1))

abbrev pub k_p_a4 : Lambda
k_p_a4 = example_name 0

abbrev pub k_p_a5 : Lambda
k_p_a5 = example_name 1

abbrev pub k_p_i0 : Instance
k_p_i0 = record { rule = (AtOne ImpPos 0); principals = ((yes 0) ∷ []); alternatives = (((yes 4) ∷ []) ∷ ((yes 5) ∷ []) ∷ []) }

abbrev pub k_p_i1 : Instance
k_p_i1 = record { rule = (AtOne ImpPos 0); principals = ((yes 1) ∷ []); alternatives = (((yes 4) ∷ []) ∷ ((no 5) ∷ []) ∷ []) }

abbrev pub k_p_i2 : Instance
k_p_i2 = record { rule = (AtOne ImpPos 0); principals = ((yes 2) ∷ []); alternatives = (((no 4) ∷ []) ∷ ((yes 5) ∷ []) ∷ []) }

abbrev pub k_p_i3 : Instance
k_p_i3 = record { rule = (AtOne ImpPos 0); principals = ((yes 3) ∷ []); alternatives = (((no 4) ∷ []) ∷ ((no 5) ∷ []) ∷ []) }

abbrev pub k_p_e0 : LogEntry
k_p_e0 =
    record {
      chain = record { first = (Clause 5); steps = (on 5 (Clause 4) ∷ on 1 (Clause 1) ∷ on 0 (Clause 0) ∷ []) };
      result = ((yes 4) ∷ []);
    }

abbrev pub k_p_e1 : LogEntry
k_p_e1 =
    record {
      chain = record { first = (Clause 7); steps = (on 5 (Clause 6) ∷ on 4 (Result 0) ∷ on 3 (Clause 3) ∷ on 2 (Clause 2) ∷ []) };
      result = [];
    }

abbrev pub k_p_input : Input
k_p_input =
    record {
      atoms = (k_p_a0 ∷ k_p_a1 ∷ k_p_a2 ∷ k_p_a3 ∷ k_p_a4 ∷ k_p_a5 ∷ []);
      rows = [];
      clauses =
          (start_unit (yes 0) ∷ start_unit (yes 1) ∷ start_unit (yes 2) ∷ start_unit (yes 3)
          ∷ clause_by ((no 0) ∷ (yes 4) ∷ (yes 5) ∷ []) k_p_i0 ∷ clause_by ((no 1) ∷ (yes 4) ∷ (no 5) ∷ []) k_p_i1
          ∷ clause_by ((no 2) ∷ (no 4) ∷ (yes 5) ∷ []) k_p_i2 ∷ clause_by ((no 3) ∷ (no 4) ∷ (no 5) ∷ []) k_p_i3 ∷ []);
      log = (k_p_e0 ∷ k_p_e1 ∷ []);
    }

abbrev pub k_p_lines : List Line
k_p_lines =
    record { branch = (plus k_p_a3 ∷ plus k_p_a4 ∷ plus k_p_a5 ∷ []); rule = (AtOne ImpPos 0); children = (Closed ∷ Closed ∷ []) }
    ∷ record { branch = (plus k_p_a2 ∷ plus k_p_a4 ∷ minus k_p_a5 ∷ []); rule = (AtOne ImpPos 0); children = (Closed ∷ Closed ∷ []) }
    ∷ record {
      branch = (plus k_p_a3 ∷ plus k_p_a4 ∷ plus k_p_a2 ∷ []);
      rule = (Cut (plus k_p_a5));
      children = (child.Line 0 ∷ child.Line 1 ∷ []);
    }
    ∷ record { branch = (plus k_p_a1 ∷ minus k_p_a4 ∷ plus k_p_a5 ∷ []); rule = (AtOne ImpPos 0); children = (Closed ∷ Closed ∷ []) }
    ∷ record { branch = (plus k_p_a0 ∷ minus k_p_a4 ∷ minus k_p_a5 ∷ []); rule = (AtOne ImpPos 0); children = (Closed ∷ Closed ∷ []) }
    ∷ record {
      branch = (plus k_p_a1 ∷ minus k_p_a4 ∷ plus k_p_a0 ∷ []);
      rule = (Cut (plus k_p_a5));
      children = (child.Line 3 ∷ child.Line 4 ∷ []);
    }
    ∷ record {
      branch = (plus k_p_a3 ∷ plus k_p_a2 ∷ plus k_p_a1 ∷ plus k_p_a0 ∷ []);
      rule = (Cut (plus k_p_a4));
      children = (child.Line 2 ∷ child.Line 5 ∷ []);
    }
    ∷ []

abbrev pub k_p_refutation : Refutation
k_p_refutation = record { witnesses = []; lines = k_p_lines }

-- The laws of negated disjunctions, as an equation of connectives: lines that several results share.
abbrev pub demorgan_a0 : Lambda
demorgan_a0 =
    every formula
    (lam formula
    (every formula
    (lam formula
    (app
    (app (constant (equality formula))
    (neg (neg (app (app (constant implication) (bound 1)) (neg (bound 0))))))
    (app (app (constant implication) (neg (neg (bound 1)))) (neg (bound 0)))))))

abbrev pub demorgan_a1 : Lambda
demorgan_a1 =
    every formula
    (lam formula
    (app
    (app (constant (equality formula))
    (neg (neg (app (app (constant implication) (constant (witness 0))) (neg (bound 0))))))
    (app (app (constant implication) (neg (neg (constant (witness 0))))) (neg (bound 0)))))

abbrev pub demorgan_a2 : Lambda
demorgan_a2 =
    app
    (app (constant (equality formula))
    (neg (neg (app (app (constant implication) (constant (witness 0))) (neg (constant (witness 1)))))))
    (app (app (constant implication) (neg (neg (constant (witness 0))))) (neg (constant (witness 1))))

abbrev pub demorgan_a3 : Lambda
demorgan_a3 = app (app (constant implication) (constant (witness 0))) (neg (constant (witness 1)))

abbrev pub demorgan_a4 : Lambda
demorgan_a4 = app (app (constant implication) (neg (neg (constant (witness 0))))) (neg (constant (witness 1)))

abbrev pub demorgan_a5 : Lambda
demorgan_a5 = constant (witness 0)

abbrev pub demorgan_a6 : Lambda
demorgan_a6 = constant (witness 1)

abbrev pub demorgan_i0 : Instance
demorgan_i0 = record { rule = (AtOne AllNeg 0); principals = ((no 0) ∷ []); alternatives = (((no 1) ∷ []) ∷ []) }

abbrev pub demorgan_i1 : Instance
demorgan_i1 = record { rule = (AtOne AllNeg 0); principals = ((no 1) ∷ []); alternatives = (((no 2) ∷ []) ∷ []) }

abbrev pub demorgan_i2 : Instance
demorgan_i2 =
    record { rule = (AtOne BoolNeg 0); principals = ((no 2) ∷ []); alternatives = (((yes 3) ∷ (no 4) ∷ []) ∷ ((no 3) ∷ (yes 4) ∷ []) ∷ []) }

abbrev pub demorgan_i3 : Instance
demorgan_i3 = record { rule = (AtOne ImpPos 0); principals = ((yes 3) ∷ []); alternatives = (((no 5) ∷ []) ∷ ((no 6) ∷ []) ∷ []) }

abbrev pub demorgan_i4 : Instance
demorgan_i4 = record { rule = (AtOne ImpNeg 0); principals = ((no 4) ∷ []); alternatives = (((yes 5) ∷ (yes 6) ∷ []) ∷ []) }

abbrev pub demorgan_i5 : Instance
demorgan_i5 = record { rule = (AtOne ImpNeg 0); principals = ((no 3) ∷ []); alternatives = (((yes 5) ∷ (yes 6) ∷ []) ∷ []) }

abbrev pub demorgan_i6 : Instance
demorgan_i6 = record { rule = (AtOne ImpPos 0); principals = ((yes 4) ∷ []); alternatives = (((no 5) ∷ []) ∷ ((no 6) ∷ []) ∷ []) }

abbrev pub demorgan_e0 : LogEntry
demorgan_e0 =
    record {
      chain = record {
        first = (Clause 4);
        steps = (on 3 (Clause 8) ∷ on 4 (Clause 6) ∷ on 2 (Clause 2) ∷ on 1 (Clause 1) ∷ on 0 (Clause 0) ∷ []);
      };
      result = ((yes 5) ∷ []);
    }

abbrev pub demorgan_e1 : LogEntry
demorgan_e1 =
    record {
      chain = record {
        first = (Clause 10);
        steps = (on 6 (Clause 9) ∷ on 4 (Clause 3) ∷ on 5 (Result 0) ∷ on 2 (Clause 2) ∷ on 1 (Clause 1) ∷ on 0 (Clause 0) ∷ []);
      };
      result = ((yes 3) ∷ []);
    }

abbrev pub demorgan_e2 : LogEntry
demorgan_e2 =
    record {
      chain = record {
        first = (Clause 7);
        steps =
            (on 6 (Clause 5) ∷ on 4 (Clause 4) ∷ on 3 (Result 1) ∷ on 5 (Result 0) ∷ on 2 (Clause 2) ∷ on 1 (Clause 1) ∷ on 0 (Clause 0)
            ∷ []);
      };
      result = [];
    }

abbrev pub demorgan_input : Input
demorgan_input =
    record {
      atoms = (demorgan_a0 ∷ demorgan_a1 ∷ demorgan_a2 ∷ demorgan_a3 ∷ demorgan_a4 ∷ demorgan_a5 ∷ demorgan_a6 ∷ []);
      rows =
          (record {
            type = formula;
            predicate =
                (lam formula
                (every formula
                (lam formula
                (app
                (app (constant (equality formula))
                (neg (neg (app (app (constant implication) (bound 1)) (neg (bound 0))))))
                (app (app (constant implication) (neg (neg (bound 1)))) (neg (bound 0)))))));
          }
          ∷ record {
            type = formula;
            predicate =
                (lam formula
                (app
                (app (constant (equality formula))
                (neg (neg (app (app (constant implication) (constant (witness 0))) (neg (bound 0))))))
                (app (app (constant implication) (neg (neg (constant (witness 0))))) (neg (bound 0)))));
          }
          ∷ []);
      clauses =
          (start_unit (no 0) ∷ clause_by ((yes 0) ∷ (no 1) ∷ []) demorgan_i0 ∷ clause_by ((yes 1) ∷ (no 2) ∷ []) demorgan_i1
          ∷ clause_by ((yes 2) ∷ (yes 3) ∷ (yes 4) ∷ []) demorgan_i2 ∷ clause_by ((yes 2) ∷ (no 4) ∷ (no 3) ∷ []) demorgan_i2
          ∷ clause_by ((no 3) ∷ (no 5) ∷ (no 6) ∷ []) demorgan_i3 ∷ clause_by ((yes 4) ∷ (yes 5) ∷ []) demorgan_i4
          ∷ clause_by ((yes 4) ∷ (yes 6) ∷ []) demorgan_i4 ∷ clause_by ((yes 3) ∷ (yes 5) ∷ []) demorgan_i5
          ∷ clause_by ((yes 3) ∷ (yes 6) ∷ []) demorgan_i5 ∷ clause_by ((no 4) ∷ (no 5) ∷ (no 6) ∷ []) demorgan_i6 ∷ []);
      log = (demorgan_e0 ∷ demorgan_e1 ∷ demorgan_e2 ∷ []);
    }

abbrev pub demorgan_lines : List Line
demorgan_lines =
    record { branch = (minus demorgan_a0 ∷ plus demorgan_a1 ∷ []); rule = (AtOne AllNeg 0); children = (Closed ∷ []) }
    ∷ record { branch = (minus demorgan_a1 ∷ plus demorgan_a2 ∷ []); rule = (AtOne AllNeg 0); children = (Closed ∷ []) }
    ∷ record {
      branch = (minus demorgan_a2 ∷ plus demorgan_a4 ∷ plus demorgan_a3 ∷ []);
      rule = (AtOne BoolNeg 0);
      children = (Closed ∷ Closed ∷ []);
    }
    ∷ record {
      branch = (plus demorgan_a3 ∷ plus demorgan_a5 ∷ plus demorgan_a6 ∷ []);
      rule = (AtOne ImpPos 0);
      children = (Closed ∷ Closed ∷ []);
    }
    ∷ record { branch = (minus demorgan_a4 ∷ minus demorgan_a6 ∷ []); rule = (AtOne ImpNeg 0); children = (Closed ∷ []) }
    ∷ record {
      branch = (plus demorgan_a3 ∷ plus demorgan_a5 ∷ minus demorgan_a4 ∷ []);
      rule = (Cut (plus demorgan_a6));
      children = (child.Line 3 ∷ child.Line 4 ∷ []);
    }
    ∷ record {
      branch = (minus demorgan_a2 ∷ plus demorgan_a3 ∷ plus demorgan_a5 ∷ []);
      rule = (Cut (plus demorgan_a4));
      children = (child.Line 2 ∷ child.Line 5 ∷ []);
    }
    ∷ record {
      branch = (plus demorgan_a4 ∷ plus demorgan_a5 ∷ plus demorgan_a6 ∷ []);
      rule = (AtOne ImpPos 0);
      children = (Closed ∷ Closed ∷ []);
    }
    ∷ record { branch = (minus demorgan_a3 ∷ minus demorgan_a6 ∷ []); rule = (AtOne ImpNeg 0); children = (Closed ∷ []) }
    ∷ record {
      branch = (plus demorgan_a4 ∷ plus demorgan_a5 ∷ minus demorgan_a3 ∷ []);
      rule = (Cut (plus demorgan_a6));
      children = (child.Line 7 ∷ child.Line 8 ∷ []);
    }
    ∷ record {
      branch = (minus demorgan_a2 ∷ minus demorgan_a3 ∷ minus demorgan_a4 ∷ []);
      rule = (AtOne BoolNeg 0);
      children = (Closed ∷ Closed ∷ []);
    }
    ∷ record {
      branch = (plus demorgan_a5 ∷ minus demorgan_a3 ∷ minus demorgan_a2 ∷ []);
      rule = (Cut (plus demorgan_a4));
      children = (child.Line 9 ∷ child.Line 10 ∷ []);
    }
    ∷ record { branch = (minus demorgan_a3 ∷ minus demorgan_a5 ∷ []); rule = (AtOne ImpNeg 0); children = (Closed ∷ []) }
    ∷ record {
      branch = (minus demorgan_a2 ∷ plus demorgan_a4 ∷ minus demorgan_a5 ∷ []);
      rule = (Cut (plus demorgan_a3));
      children = (child.Line 2 ∷ child.Line 12 ∷ []);
    }
    ∷ record { branch = (minus demorgan_a4 ∷ minus demorgan_a5 ∷ []); rule = (AtOne ImpNeg 0); children = (Closed ∷ []) }
    ∷ record {
      branch = (minus demorgan_a2 ∷ minus demorgan_a5 ∷ []);
      rule = (Cut (plus demorgan_a4));
      children = (child.Line 13 ∷ child.Line 14 ∷ []);
    }
    ∷ record {
      branch = (minus demorgan_a1 ∷ minus demorgan_a5 ∷ []);
      rule = (Cut (plus demorgan_a2));
      children = (child.Line 1 ∷ child.Line 15 ∷ []);
    }
    ∷ record {
      branch = (minus demorgan_a0 ∷ minus demorgan_a5 ∷ []);
      rule = (Cut (plus demorgan_a1));
      children = (child.Line 0 ∷ child.Line 16 ∷ []);
    }
    ∷ record {
      branch = (minus demorgan_a3 ∷ minus demorgan_a2 ∷ minus demorgan_a0 ∷ []);
      rule = (Cut (plus demorgan_a5));
      children = (child.Line 11 ∷ child.Line 17 ∷ []);
    }
    ∷ record {
      branch = (minus demorgan_a1 ∷ minus demorgan_a3 ∷ minus demorgan_a0 ∷ []);
      rule = (Cut (plus demorgan_a2));
      children = (child.Line 1 ∷ child.Line 18 ∷ []);
    }
    ∷ record {
      branch = (minus demorgan_a0 ∷ minus demorgan_a3 ∷ []);
      rule = (Cut (plus demorgan_a1));
      children = (child.Line 0 ∷ child.Line 19 ∷ []);
    }
    ∷ record {
      branch = (minus demorgan_a2 ∷ plus demorgan_a5 ∷ minus demorgan_a0 ∷ []);
      rule = (Cut (plus demorgan_a3));
      children = (child.Line 6 ∷ child.Line 20 ∷ []);
    }
    ∷ record {
      branch = (minus demorgan_a2 ∷ minus demorgan_a0 ∷ []);
      rule = (Cut (plus demorgan_a5));
      children = (child.Line 21 ∷ child.Line 17 ∷ []);
    }
    ∷ record {
      branch = (minus demorgan_a1 ∷ minus demorgan_a0 ∷ []);
      rule = (Cut (plus demorgan_a2));
      children = (child.Line 1 ∷ child.Line 22 ∷ []);
    }
    ∷ record { branch = (minus demorgan_a0 ∷ []); rule = (Cut (plus demorgan_a1)); children = (child.Line 0 ∷ child.Line 23 ∷ []) } ∷ []

abbrev pub demorgan_refutation : Refutation
demorgan_refutation =
    record {
      witnesses =
          (record {
            type = formula;
            predicate =
                (lam formula
                (every formula
                (lam formula
                (app
                (app (constant (equality formula))
                (neg (neg (app (app (constant implication) (bound 1)) (neg (bound 0))))))
                (app (app (constant implication) (neg (neg (bound 1)))) (neg (bound 0)))))));
          }
          ∷ record {
            type = formula;
            predicate =
                (lam formula
                (app
                (app (constant (equality formula))
                (neg (neg (app (app (constant implication) (constant (witness 0))) (neg (bound 0))))))
                (app (app (constant implication) (neg (neg (constant (witness 0))))) (neg (bound 0)))));
          }
          ∷ []);
      lines = demorgan_lines;
    }

-- the worked examples are rebuilt as they are to
abbrev pub ExamplesAreRebuilt : Type 0
ExamplesAreRebuilt =
    IsRebuilt true_conjecture_input true_conjecture_refutation
    × IsRebuilt clash_input clash_refutation
    × IsRebuilt all_p_input all_p_refutation
    × IsRebuilt eta_equal_input eta_equal_refutation
    × IsRebuilt pointwise_input pointwise_refutation
    × IsRebuilt chosen_input chosen_refutation
    × IsRebuilt quoted_input quoted_refutation
    × IsRebuilt unnamed_input unnamed_refutation
    × IsRebuilt the_p_input the_p_refutation
    × IsRebuilt k_p_input k_p_refutation
    × IsRebuilt demorgan_input demorgan_refutation
