-- The worked examples are rebuilt.
use Rattle.std.proofs.Common.{[], ◌∷◌, refl}
use Rattle.stt_core.specs.Lambda.{bound, lam, app}
use Rattle.tableau_calculus.specs.declared.rule_use.RuleUse.TheVariants.{AtOne, AtTwo, AllPos, WithPredicate}
use Rattle.tableau_calculus.specs.declared.rule_use.OnePlace.TheVariants.{False, ImpPos, ImpNeg, BoolNeg, FunNeg, AllNeg}
use Rattle.tableau_calculus.specs.declared.rule_use.TwoPlaces.TheVariants.{Close}
use Rattle.tableau_calculus.specs.declared.rule_use.OfPredicate.TheVariants.{Cho, Des}
use Rattle.tableau_calculus.specs.declared.refutation.Child.TheVariants.{Closed}
use Rattle.sat_log.specs.declared.chain.Premise.TheVariants.{Clause, Result}
use Rattle.rebuild_spec.specs.Trees.{at_clause, at_step, at_result, Tree, leaf, cut}
use Rattle.rebuild_spec.specs.Stands.{start, line, Stands, of_start, of_instance, of_first, of_next, of_result}
use Rattle.rebuild_spec.specs.Rebuilt.{IsRebuilt}
use Rattle.rebuild_spec.specs.Examples.{yes, no, on, individual_type, example_name, all_p_e0, all_p_i3, all_p_input, all_p_refutation, chosen_e0, chosen_i1, chosen_input, chosen_refutation, clash_e0, clash_input, clash_refutation, demorgan_e0, demorgan_e1, demorgan_e2, demorgan_i0, demorgan_i1, demorgan_i2, demorgan_i3, demorgan_i4, demorgan_i5, demorgan_i6, demorgan_input, demorgan_refutation, eta_equal_e0, eta_equal_input, eta_equal_refutation, k_p_e0, k_p_e1, k_p_i0, k_p_i1, k_p_i2, k_p_i3, k_p_input, k_p_refutation, pointwise_e0, pointwise_i0, pointwise_input, pointwise_refutation, quoted_e0, quoted_input, quoted_refutation, the_p_e0, the_p_i0, the_p_input, the_p_predicate, the_p_refutation, true_conjecture_e0, true_conjecture_i0, true_conjecture_input, true_conjecture_refutation, unnamed_e0, unnamed_i0, unnamed_i1, unnamed_input, unnamed_refutation, ExamplesAreRebuilt}

abbrev true_conjecture_t_c1 : Tree
true_conjecture_t_c1 = leaf (at_clause 1) ((yes 0) ∷ []) (AtOne False 0) []

true_conjecture_c_1 : Stands true_conjecture_input (at_clause 1) ((no 0) ∷ []) (line true_conjecture_t_c1)
true_conjecture_c_1 = of_instance 1 ((no 0) ∷ []) true_conjecture_i0 refl

true_conjecture_s_0_0 : Stands true_conjecture_input (at_step 0 0) ((no 0) ∷ []) (line true_conjecture_t_c1)
true_conjecture_s_0_0 = of_first 0 true_conjecture_e0 ((no 0) ∷ []) (line true_conjecture_t_c1) refl true_conjecture_c_1

true_conjecture_c_0 : Stands true_conjecture_input (at_clause 0) ((yes 0) ∷ []) (start 0 (yes 0))
true_conjecture_c_0 = of_start 0 (yes 0) refl

true_conjecture_s_0_1 : Stands true_conjecture_input (at_step 0 1) [] (line true_conjecture_t_c1)
true_conjecture_s_0_1 = of_next 0 0 true_conjecture_e0 (on 0 (Clause 0)) ((no 0) ∷ []) ((yes 0) ∷ []) [] (line true_conjecture_t_c1) (start 0 (yes 0)) refl refl true_conjecture_s_0_0 true_conjecture_c_0 refl

true_conjecture_r_0 : Stands true_conjecture_input (at_result 0) [] (line true_conjecture_t_c1)
true_conjecture_r_0 = of_result 0 true_conjecture_e0 [] (line true_conjecture_t_c1) refl true_conjecture_s_0_1

pub true_conjecture_rebuilt : IsRebuilt true_conjecture_input true_conjecture_refutation
true_conjecture_rebuilt = record { number = 0; is_last = refl; last = true_conjecture_t_c1; stands = true_conjecture_r_0; lines = refl; rows = refl }

clash_c_1 : Stands clash_input (at_clause 1) ((no 0) ∷ []) (start 1 (no 0))
clash_c_1 = of_start 1 (no 0) refl

clash_s_0_0 : Stands clash_input (at_step 0 0) ((no 0) ∷ []) (start 1 (no 0))
clash_s_0_0 = of_first 0 clash_e0 ((no 0) ∷ []) (start 1 (no 0)) refl clash_c_1

clash_c_0 : Stands clash_input (at_clause 0) ((yes 0) ∷ []) (start 0 (yes 0))
clash_c_0 = of_start 0 (yes 0) refl

abbrev clash_t_0_1 : Tree
clash_t_0_1 = leaf (at_step 0 1) ((yes 0) ∷ (no 0) ∷ []) (AtTwo Close 0 1) []

clash_s_0_1 : Stands clash_input (at_step 0 1) [] (line clash_t_0_1)
clash_s_0_1 = of_next 0 0 clash_e0 (on 0 (Clause 0)) ((no 0) ∷ []) ((yes 0) ∷ []) [] (start 1 (no 0)) (start 0 (yes 0)) refl refl clash_s_0_0 clash_c_0 refl

clash_r_0 : Stands clash_input (at_result 0) [] (line clash_t_0_1)
clash_r_0 = of_result 0 clash_e0 [] (line clash_t_0_1) refl clash_s_0_1

pub clash_rebuilt : IsRebuilt clash_input clash_refutation
clash_rebuilt = record { number = 0; is_last = refl; last = clash_t_0_1; stands = clash_r_0; lines = refl; rows = refl }

abbrev all_p_t_c5 : Tree
all_p_t_c5 = leaf (at_clause 5) ((yes 0) ∷ (no 1) ∷ []) (AllPos 0 (example_name 1)) (Closed ∷ [])

all_p_c_5 : Stands all_p_input (at_clause 5) ((no 0) ∷ (yes 1) ∷ []) (line all_p_t_c5)
all_p_c_5 = of_instance 5 ((no 0) ∷ (yes 1) ∷ []) all_p_i3 refl

all_p_s_0_0 : Stands all_p_input (at_step 0 0) ((no 0) ∷ (yes 1) ∷ []) (line all_p_t_c5)
all_p_s_0_0 = of_first 0 all_p_e0 ((no 0) ∷ (yes 1) ∷ []) (line all_p_t_c5) refl all_p_c_5

all_p_c_1 : Stands all_p_input (at_clause 1) ((no 1) ∷ []) (start 1 (no 1))
all_p_c_1 = of_start 1 (no 1) refl

all_p_s_0_1 : Stands all_p_input (at_step 0 1) ((no 0) ∷ []) (line all_p_t_c5)
all_p_s_0_1 = of_next 0 0 all_p_e0 (on 1 (Clause 1)) ((no 0) ∷ (yes 1) ∷ []) ((no 1) ∷ []) ((no 0) ∷ []) (line all_p_t_c5) (start 1 (no 1)) refl refl all_p_s_0_0 all_p_c_1 refl

all_p_c_0 : Stands all_p_input (at_clause 0) ((yes 0) ∷ []) (start 0 (yes 0))
all_p_c_0 = of_start 0 (yes 0) refl

all_p_s_0_2 : Stands all_p_input (at_step 0 2) [] (line all_p_t_c5)
all_p_s_0_2 = of_next 0 1 all_p_e0 (on 0 (Clause 0)) ((no 0) ∷ []) ((yes 0) ∷ []) [] (line all_p_t_c5) (start 0 (yes 0)) refl refl all_p_s_0_1 all_p_c_0 refl

all_p_r_0 : Stands all_p_input (at_result 0) [] (line all_p_t_c5)
all_p_r_0 = of_result 0 all_p_e0 [] (line all_p_t_c5) refl all_p_s_0_2

pub all_p_rebuilt : IsRebuilt all_p_input all_p_refutation
all_p_rebuilt = record { number = 0; is_last = refl; last = all_p_t_c5; stands = all_p_r_0; lines = refl; rows = refl }

eta_equal_c_1 : Stands eta_equal_input (at_clause 1) ((no 0) ∷ []) (start 1 (no 0))
eta_equal_c_1 = of_start 1 (no 0) refl

eta_equal_s_0_0 : Stands eta_equal_input (at_step 0 0) ((no 0) ∷ []) (start 1 (no 0))
eta_equal_s_0_0 = of_first 0 eta_equal_e0 ((no 0) ∷ []) (start 1 (no 0)) refl eta_equal_c_1

eta_equal_c_0 : Stands eta_equal_input (at_clause 0) ((yes 0) ∷ []) (start 0 (yes 0))
eta_equal_c_0 = of_start 0 (yes 0) refl

abbrev eta_equal_t_0_1 : Tree
eta_equal_t_0_1 = leaf (at_step 0 1) ((yes 0) ∷ (no 0) ∷ []) (AtTwo Close 0 1) []

eta_equal_s_0_1 : Stands eta_equal_input (at_step 0 1) [] (line eta_equal_t_0_1)
eta_equal_s_0_1 = of_next 0 0 eta_equal_e0 (on 0 (Clause 0)) ((no 0) ∷ []) ((yes 0) ∷ []) [] (start 1 (no 0)) (start 0 (yes 0)) refl refl eta_equal_s_0_0 eta_equal_c_0 refl

eta_equal_r_0 : Stands eta_equal_input (at_result 0) [] (line eta_equal_t_0_1)
eta_equal_r_0 = of_result 0 eta_equal_e0 [] (line eta_equal_t_0_1) refl eta_equal_s_0_1

pub eta_equal_rebuilt : IsRebuilt eta_equal_input eta_equal_refutation
eta_equal_rebuilt = record { number = 0; is_last = refl; last = eta_equal_t_0_1; stands = eta_equal_r_0; lines = refl; rows = refl }

abbrev pointwise_t_c2 : Tree
pointwise_t_c2 = leaf (at_clause 2) ((no 1) ∷ (yes 0) ∷ []) (AtOne FunNeg 0) (Closed ∷ [])

pointwise_c_2 : Stands pointwise_input (at_clause 2) ((yes 1) ∷ (no 0) ∷ []) (line pointwise_t_c2)
pointwise_c_2 = of_instance 2 ((yes 1) ∷ (no 0) ∷ []) pointwise_i0 refl

pointwise_s_0_0 : Stands pointwise_input (at_step 0 0) ((yes 1) ∷ (no 0) ∷ []) (line pointwise_t_c2)
pointwise_s_0_0 = of_first 0 pointwise_e0 ((yes 1) ∷ (no 0) ∷ []) (line pointwise_t_c2) refl pointwise_c_2

pointwise_c_1 : Stands pointwise_input (at_clause 1) ((no 1) ∷ []) (start 1 (no 1))
pointwise_c_1 = of_start 1 (no 1) refl

pointwise_s_0_1 : Stands pointwise_input (at_step 0 1) ((no 0) ∷ []) (line pointwise_t_c2)
pointwise_s_0_1 = of_next 0 0 pointwise_e0 (on 1 (Clause 1)) ((yes 1) ∷ (no 0) ∷ []) ((no 1) ∷ []) ((no 0) ∷ []) (line pointwise_t_c2) (start 1 (no 1)) refl refl pointwise_s_0_0 pointwise_c_1 refl

pointwise_c_0 : Stands pointwise_input (at_clause 0) ((yes 0) ∷ []) (start 0 (yes 0))
pointwise_c_0 = of_start 0 (yes 0) refl

pointwise_s_0_2 : Stands pointwise_input (at_step 0 2) [] (line pointwise_t_c2)
pointwise_s_0_2 = of_next 0 1 pointwise_e0 (on 0 (Clause 0)) ((no 0) ∷ []) ((yes 0) ∷ []) [] (line pointwise_t_c2) (start 0 (yes 0)) refl refl pointwise_s_0_1 pointwise_c_0 refl

pointwise_r_0 : Stands pointwise_input (at_result 0) [] (line pointwise_t_c2)
pointwise_r_0 = of_result 0 pointwise_e0 [] (line pointwise_t_c2) refl pointwise_s_0_2

pub pointwise_rebuilt : IsRebuilt pointwise_input pointwise_refutation
pointwise_rebuilt = record { number = 0; is_last = refl; last = pointwise_t_c2; stands = pointwise_r_0; lines = refl; rows = refl }

abbrev chosen_t_c3 : Tree
chosen_t_c3 = leaf (at_clause 3) ((no 0) ∷ (no 1) ∷ []) (WithPredicate Cho (lam individual_type (app (example_name 0) (bound 0)))) (Closed ∷ Closed ∷ [])

chosen_c_3 : Stands chosen_input (at_clause 3) ((yes 0) ∷ (yes 1) ∷ []) (line chosen_t_c3)
chosen_c_3 = of_instance 3 ((yes 0) ∷ (yes 1) ∷ []) chosen_i1 refl

chosen_s_0_0 : Stands chosen_input (at_step 0 0) ((yes 0) ∷ (yes 1) ∷ []) (line chosen_t_c3)
chosen_s_0_0 = of_first 0 chosen_e0 ((yes 0) ∷ (yes 1) ∷ []) (line chosen_t_c3) refl chosen_c_3

chosen_c_1 : Stands chosen_input (at_clause 1) ((no 1) ∷ []) (start 1 (no 1))
chosen_c_1 = of_start 1 (no 1) refl

chosen_s_0_1 : Stands chosen_input (at_step 0 1) ((yes 0) ∷ []) (line chosen_t_c3)
chosen_s_0_1 = of_next 0 0 chosen_e0 (on 1 (Clause 1)) ((yes 0) ∷ (yes 1) ∷ []) ((no 1) ∷ []) ((yes 0) ∷ []) (line chosen_t_c3) (start 1 (no 1)) refl refl chosen_s_0_0 chosen_c_1 refl

chosen_c_0 : Stands chosen_input (at_clause 0) ((no 0) ∷ []) (start 0 (no 0))
chosen_c_0 = of_start 0 (no 0) refl

chosen_s_0_2 : Stands chosen_input (at_step 0 2) [] (line chosen_t_c3)
chosen_s_0_2 = of_next 0 1 chosen_e0 (on 0 (Clause 0)) ((yes 0) ∷ []) ((no 0) ∷ []) [] (line chosen_t_c3) (start 0 (no 0)) refl refl chosen_s_0_1 chosen_c_0 refl

chosen_r_0 : Stands chosen_input (at_result 0) [] (line chosen_t_c3)
chosen_r_0 = of_result 0 chosen_e0 [] (line chosen_t_c3) refl chosen_s_0_2

pub chosen_rebuilt : IsRebuilt chosen_input chosen_refutation
chosen_rebuilt = record { number = 0; is_last = refl; last = chosen_t_c3; stands = chosen_r_0; lines = refl; rows = refl }

quoted_c_1 : Stands quoted_input (at_clause 1) ((no 0) ∷ []) (start 1 (no 0))
quoted_c_1 = of_start 1 (no 0) refl

quoted_s_0_0 : Stands quoted_input (at_step 0 0) ((no 0) ∷ []) (start 1 (no 0))
quoted_s_0_0 = of_first 0 quoted_e0 ((no 0) ∷ []) (start 1 (no 0)) refl quoted_c_1

quoted_c_0 : Stands quoted_input (at_clause 0) ((yes 0) ∷ []) (start 0 (yes 0))
quoted_c_0 = of_start 0 (yes 0) refl

abbrev quoted_t_0_1 : Tree
quoted_t_0_1 = leaf (at_step 0 1) ((yes 0) ∷ (no 0) ∷ []) (AtTwo Close 0 1) []

quoted_s_0_1 : Stands quoted_input (at_step 0 1) [] (line quoted_t_0_1)
quoted_s_0_1 = of_next 0 0 quoted_e0 (on 0 (Clause 0)) ((no 0) ∷ []) ((yes 0) ∷ []) [] (start 1 (no 0)) (start 0 (yes 0)) refl refl quoted_s_0_0 quoted_c_0 refl

quoted_r_0 : Stands quoted_input (at_result 0) [] (line quoted_t_0_1)
quoted_r_0 = of_result 0 quoted_e0 [] (line quoted_t_0_1) refl quoted_s_0_1

pub quoted_rebuilt : IsRebuilt quoted_input quoted_refutation
quoted_rebuilt = record { number = 0; is_last = refl; last = quoted_t_0_1; stands = quoted_r_0; lines = refl; rows = refl }

abbrev unnamed_t_c1 : Tree
unnamed_t_c1 = leaf (at_clause 1) ((no 0) ∷ (no 1) ∷ []) (AtOne AllNeg 0) (Closed ∷ [])

unnamed_c_1 : Stands unnamed_input (at_clause 1) ((yes 0) ∷ (yes 1) ∷ []) (line unnamed_t_c1)
unnamed_c_1 = of_instance 1 ((yes 0) ∷ (yes 1) ∷ []) unnamed_i0 refl

unnamed_s_0_0 : Stands unnamed_input (at_step 0 0) ((yes 0) ∷ (yes 1) ∷ []) (line unnamed_t_c1)
unnamed_s_0_0 = of_first 0 unnamed_e0 ((yes 0) ∷ (yes 1) ∷ []) (line unnamed_t_c1) refl unnamed_c_1

abbrev unnamed_t_c2 : Tree
unnamed_t_c2 = leaf (at_clause 2) ((yes 1) ∷ []) (AtOne False 0) []

unnamed_c_2 : Stands unnamed_input (at_clause 2) ((no 1) ∷ []) (line unnamed_t_c2)
unnamed_c_2 = of_instance 2 ((no 1) ∷ []) unnamed_i1 refl

abbrev unnamed_t_0_1 : Tree
unnamed_t_0_1 = cut (at_step 0 1) (record { 0 = 1 }) unnamed_t_c2 unnamed_t_c1

unnamed_s_0_1 : Stands unnamed_input (at_step 0 1) ((yes 0) ∷ []) (line unnamed_t_0_1)
unnamed_s_0_1 = of_next 0 0 unnamed_e0 (on 1 (Clause 2)) ((yes 0) ∷ (yes 1) ∷ []) ((no 1) ∷ []) ((yes 0) ∷ []) (line unnamed_t_c1) (line unnamed_t_c2) refl refl unnamed_s_0_0 unnamed_c_2 refl

unnamed_c_0 : Stands unnamed_input (at_clause 0) ((no 0) ∷ []) (start 0 (no 0))
unnamed_c_0 = of_start 0 (no 0) refl

unnamed_s_0_2 : Stands unnamed_input (at_step 0 2) [] (line unnamed_t_0_1)
unnamed_s_0_2 = of_next 0 1 unnamed_e0 (on 0 (Clause 0)) ((yes 0) ∷ []) ((no 0) ∷ []) [] (line unnamed_t_0_1) (start 0 (no 0)) refl refl unnamed_s_0_1 unnamed_c_0 refl

unnamed_r_0 : Stands unnamed_input (at_result 0) [] (line unnamed_t_0_1)
unnamed_r_0 = of_result 0 unnamed_e0 [] (line unnamed_t_0_1) refl unnamed_s_0_2

pub unnamed_rebuilt : IsRebuilt unnamed_input unnamed_refutation
unnamed_rebuilt = record { number = 0; is_last = refl; last = unnamed_t_0_1; stands = unnamed_r_0; lines = refl; rows = refl }

abbrev k_p_t_c7 : Tree
k_p_t_c7 = leaf (at_clause 7) ((yes 3) ∷ (yes 4) ∷ (yes 5) ∷ []) (AtOne ImpPos 0) (Closed ∷ Closed ∷ [])

k_p_c_7 : Stands k_p_input (at_clause 7) ((no 3) ∷ (no 4) ∷ (no 5) ∷ []) (line k_p_t_c7)
k_p_c_7 = of_instance 7 ((no 3) ∷ (no 4) ∷ (no 5) ∷ []) k_p_i3 refl

k_p_s_1_0 : Stands k_p_input (at_step 1 0) ((no 3) ∷ (no 4) ∷ (no 5) ∷ []) (line k_p_t_c7)
k_p_s_1_0 = of_first 1 k_p_e1 ((no 3) ∷ (no 4) ∷ (no 5) ∷ []) (line k_p_t_c7) refl k_p_c_7

abbrev k_p_t_c6 : Tree
k_p_t_c6 = leaf (at_clause 6) ((yes 2) ∷ (yes 4) ∷ (no 5) ∷ []) (AtOne ImpPos 0) (Closed ∷ Closed ∷ [])

k_p_c_6 : Stands k_p_input (at_clause 6) ((no 2) ∷ (no 4) ∷ (yes 5) ∷ []) (line k_p_t_c6)
k_p_c_6 = of_instance 6 ((no 2) ∷ (no 4) ∷ (yes 5) ∷ []) k_p_i2 refl

abbrev k_p_t_1_1 : Tree
k_p_t_1_1 = cut (at_step 1 1) (record { 0 = 5 }) k_p_t_c7 k_p_t_c6

k_p_s_1_1 : Stands k_p_input (at_step 1 1) ((no 2) ∷ (no 4) ∷ (no 3) ∷ []) (line k_p_t_1_1)
k_p_s_1_1 = of_next 1 0 k_p_e1 (on 5 (Clause 6)) ((no 3) ∷ (no 4) ∷ (no 5) ∷ []) ((no 2) ∷ (no 4) ∷ (yes 5) ∷ []) ((no 2) ∷ (no 4) ∷ (no 3) ∷ []) (line k_p_t_c7) (line k_p_t_c6) refl refl k_p_s_1_0 k_p_c_6 refl

abbrev k_p_t_c5 : Tree
k_p_t_c5 = leaf (at_clause 5) ((yes 1) ∷ (no 4) ∷ (yes 5) ∷ []) (AtOne ImpPos 0) (Closed ∷ Closed ∷ [])

k_p_c_5 : Stands k_p_input (at_clause 5) ((no 1) ∷ (yes 4) ∷ (no 5) ∷ []) (line k_p_t_c5)
k_p_c_5 = of_instance 5 ((no 1) ∷ (yes 4) ∷ (no 5) ∷ []) k_p_i1 refl

k_p_s_0_0 : Stands k_p_input (at_step 0 0) ((no 1) ∷ (yes 4) ∷ (no 5) ∷ []) (line k_p_t_c5)
k_p_s_0_0 = of_first 0 k_p_e0 ((no 1) ∷ (yes 4) ∷ (no 5) ∷ []) (line k_p_t_c5) refl k_p_c_5

abbrev k_p_t_c4 : Tree
k_p_t_c4 = leaf (at_clause 4) ((yes 0) ∷ (no 4) ∷ (no 5) ∷ []) (AtOne ImpPos 0) (Closed ∷ Closed ∷ [])

k_p_c_4 : Stands k_p_input (at_clause 4) ((no 0) ∷ (yes 4) ∷ (yes 5) ∷ []) (line k_p_t_c4)
k_p_c_4 = of_instance 4 ((no 0) ∷ (yes 4) ∷ (yes 5) ∷ []) k_p_i0 refl

abbrev k_p_t_0_1 : Tree
k_p_t_0_1 = cut (at_step 0 1) (record { 0 = 5 }) k_p_t_c5 k_p_t_c4

k_p_s_0_1 : Stands k_p_input (at_step 0 1) ((no 0) ∷ (yes 4) ∷ (no 1) ∷ []) (line k_p_t_0_1)
k_p_s_0_1 = of_next 0 0 k_p_e0 (on 5 (Clause 4)) ((no 1) ∷ (yes 4) ∷ (no 5) ∷ []) ((no 0) ∷ (yes 4) ∷ (yes 5) ∷ []) ((no 0) ∷ (yes 4) ∷ (no 1) ∷ []) (line k_p_t_c5) (line k_p_t_c4) refl refl k_p_s_0_0 k_p_c_4 refl

k_p_c_1 : Stands k_p_input (at_clause 1) ((yes 1) ∷ []) (start 1 (yes 1))
k_p_c_1 = of_start 1 (yes 1) refl

k_p_s_0_2 : Stands k_p_input (at_step 0 2) ((no 0) ∷ (yes 4) ∷ []) (line k_p_t_0_1)
k_p_s_0_2 = of_next 0 1 k_p_e0 (on 1 (Clause 1)) ((no 0) ∷ (yes 4) ∷ (no 1) ∷ []) ((yes 1) ∷ []) ((no 0) ∷ (yes 4) ∷ []) (line k_p_t_0_1) (start 1 (yes 1)) refl refl k_p_s_0_1 k_p_c_1 refl

k_p_c_0 : Stands k_p_input (at_clause 0) ((yes 0) ∷ []) (start 0 (yes 0))
k_p_c_0 = of_start 0 (yes 0) refl

k_p_s_0_3 : Stands k_p_input (at_step 0 3) ((yes 4) ∷ []) (line k_p_t_0_1)
k_p_s_0_3 = of_next 0 2 k_p_e0 (on 0 (Clause 0)) ((no 0) ∷ (yes 4) ∷ []) ((yes 0) ∷ []) ((yes 4) ∷ []) (line k_p_t_0_1) (start 0 (yes 0)) refl refl k_p_s_0_2 k_p_c_0 refl

k_p_r_0 : Stands k_p_input (at_result 0) ((yes 4) ∷ []) (line k_p_t_0_1)
k_p_r_0 = of_result 0 k_p_e0 ((yes 4) ∷ []) (line k_p_t_0_1) refl k_p_s_0_3

abbrev k_p_t_1_2 : Tree
k_p_t_1_2 = cut (at_step 1 2) (record { 0 = 4 }) k_p_t_1_1 k_p_t_0_1

k_p_s_1_2 : Stands k_p_input (at_step 1 2) ((no 2) ∷ (no 3) ∷ []) (line k_p_t_1_2)
k_p_s_1_2 = of_next 1 1 k_p_e1 (on 4 (Result 0)) ((no 2) ∷ (no 4) ∷ (no 3) ∷ []) ((yes 4) ∷ []) ((no 2) ∷ (no 3) ∷ []) (line k_p_t_1_1) (line k_p_t_0_1) refl refl k_p_s_1_1 k_p_r_0 refl

k_p_c_3 : Stands k_p_input (at_clause 3) ((yes 3) ∷ []) (start 3 (yes 3))
k_p_c_3 = of_start 3 (yes 3) refl

k_p_s_1_3 : Stands k_p_input (at_step 1 3) ((no 2) ∷ []) (line k_p_t_1_2)
k_p_s_1_3 = of_next 1 2 k_p_e1 (on 3 (Clause 3)) ((no 2) ∷ (no 3) ∷ []) ((yes 3) ∷ []) ((no 2) ∷ []) (line k_p_t_1_2) (start 3 (yes 3)) refl refl k_p_s_1_2 k_p_c_3 refl

k_p_c_2 : Stands k_p_input (at_clause 2) ((yes 2) ∷ []) (start 2 (yes 2))
k_p_c_2 = of_start 2 (yes 2) refl

k_p_s_1_4 : Stands k_p_input (at_step 1 4) [] (line k_p_t_1_2)
k_p_s_1_4 = of_next 1 3 k_p_e1 (on 2 (Clause 2)) ((no 2) ∷ []) ((yes 2) ∷ []) [] (line k_p_t_1_2) (start 2 (yes 2)) refl refl k_p_s_1_3 k_p_c_2 refl

k_p_r_1 : Stands k_p_input (at_result 1) [] (line k_p_t_1_2)
k_p_r_1 = of_result 1 k_p_e1 [] (line k_p_t_1_2) refl k_p_s_1_4

pub k_p_rebuilt : IsRebuilt k_p_input k_p_refutation
k_p_rebuilt = record { number = 1; is_last = refl; last = k_p_t_1_2; stands = k_p_r_1; lines = refl; rows = refl }

abbrev demorgan_t_c7 : Tree
demorgan_t_c7 = leaf (at_clause 7) ((no 4) ∷ (no 6) ∷ []) (AtOne ImpNeg 0) (Closed ∷ [])

demorgan_c_7 : Stands demorgan_input (at_clause 7) ((yes 4) ∷ (yes 6) ∷ []) (line demorgan_t_c7)
demorgan_c_7 = of_instance 7 ((yes 4) ∷ (yes 6) ∷ []) demorgan_i4 refl

demorgan_s_2_0 : Stands demorgan_input (at_step 2 0) ((yes 4) ∷ (yes 6) ∷ []) (line demorgan_t_c7)
demorgan_s_2_0 = of_first 2 demorgan_e2 ((yes 4) ∷ (yes 6) ∷ []) (line demorgan_t_c7) refl demorgan_c_7

abbrev demorgan_t_c5 : Tree
demorgan_t_c5 = leaf (at_clause 5) ((yes 3) ∷ (yes 5) ∷ (yes 6) ∷ []) (AtOne ImpPos 0) (Closed ∷ Closed ∷ [])

demorgan_c_5 : Stands demorgan_input (at_clause 5) ((no 3) ∷ (no 5) ∷ (no 6) ∷ []) (line demorgan_t_c5)
demorgan_c_5 = of_instance 5 ((no 3) ∷ (no 5) ∷ (no 6) ∷ []) demorgan_i3 refl

abbrev demorgan_t_2_1 : Tree
demorgan_t_2_1 = cut (at_step 2 1) (record { 0 = 6 }) demorgan_t_c5 demorgan_t_c7

demorgan_s_2_1 : Stands demorgan_input (at_step 2 1) ((yes 4) ∷ (no 3) ∷ (no 5) ∷ []) (line demorgan_t_2_1)
demorgan_s_2_1 = of_next 2 0 demorgan_e2 (on 6 (Clause 5)) ((yes 4) ∷ (yes 6) ∷ []) ((no 3) ∷ (no 5) ∷ (no 6) ∷ []) ((yes 4) ∷ (no 3) ∷ (no 5) ∷ []) (line demorgan_t_c7) (line demorgan_t_c5) refl refl demorgan_s_2_0 demorgan_c_5 refl

abbrev demorgan_t_c4 : Tree
demorgan_t_c4 = leaf (at_clause 4) ((no 2) ∷ (yes 4) ∷ (yes 3) ∷ []) (AtOne BoolNeg 0) (Closed ∷ Closed ∷ [])

demorgan_c_4 : Stands demorgan_input (at_clause 4) ((yes 2) ∷ (no 4) ∷ (no 3) ∷ []) (line demorgan_t_c4)
demorgan_c_4 = of_instance 4 ((yes 2) ∷ (no 4) ∷ (no 3) ∷ []) demorgan_i2 refl

abbrev demorgan_t_2_2 : Tree
demorgan_t_2_2 = cut (at_step 2 2) (record { 0 = 4 }) demorgan_t_c4 demorgan_t_2_1

demorgan_s_2_2 : Stands demorgan_input (at_step 2 2) ((no 3) ∷ (no 5) ∷ (yes 2) ∷ []) (line demorgan_t_2_2)
demorgan_s_2_2 = of_next 2 1 demorgan_e2 (on 4 (Clause 4)) ((yes 4) ∷ (no 3) ∷ (no 5) ∷ []) ((yes 2) ∷ (no 4) ∷ (no 3) ∷ []) ((no 3) ∷ (no 5) ∷ (yes 2) ∷ []) (line demorgan_t_2_1) (line demorgan_t_c4) refl refl demorgan_s_2_1 demorgan_c_4 refl

abbrev demorgan_t_c10 : Tree
demorgan_t_c10 = leaf (at_clause 10) ((yes 4) ∷ (yes 5) ∷ (yes 6) ∷ []) (AtOne ImpPos 0) (Closed ∷ Closed ∷ [])

demorgan_c_10 : Stands demorgan_input (at_clause 10) ((no 4) ∷ (no 5) ∷ (no 6) ∷ []) (line demorgan_t_c10)
demorgan_c_10 = of_instance 10 ((no 4) ∷ (no 5) ∷ (no 6) ∷ []) demorgan_i6 refl

demorgan_s_1_0 : Stands demorgan_input (at_step 1 0) ((no 4) ∷ (no 5) ∷ (no 6) ∷ []) (line demorgan_t_c10)
demorgan_s_1_0 = of_first 1 demorgan_e1 ((no 4) ∷ (no 5) ∷ (no 6) ∷ []) (line demorgan_t_c10) refl demorgan_c_10

abbrev demorgan_t_c9 : Tree
demorgan_t_c9 = leaf (at_clause 9) ((no 3) ∷ (no 6) ∷ []) (AtOne ImpNeg 0) (Closed ∷ [])

demorgan_c_9 : Stands demorgan_input (at_clause 9) ((yes 3) ∷ (yes 6) ∷ []) (line demorgan_t_c9)
demorgan_c_9 = of_instance 9 ((yes 3) ∷ (yes 6) ∷ []) demorgan_i5 refl

abbrev demorgan_t_1_1 : Tree
demorgan_t_1_1 = cut (at_step 1 1) (record { 0 = 6 }) demorgan_t_c10 demorgan_t_c9

demorgan_s_1_1 : Stands demorgan_input (at_step 1 1) ((yes 3) ∷ (no 4) ∷ (no 5) ∷ []) (line demorgan_t_1_1)
demorgan_s_1_1 = of_next 1 0 demorgan_e1 (on 6 (Clause 9)) ((no 4) ∷ (no 5) ∷ (no 6) ∷ []) ((yes 3) ∷ (yes 6) ∷ []) ((yes 3) ∷ (no 4) ∷ (no 5) ∷ []) (line demorgan_t_c10) (line demorgan_t_c9) refl refl demorgan_s_1_0 demorgan_c_9 refl

abbrev demorgan_t_c3 : Tree
demorgan_t_c3 = leaf (at_clause 3) ((no 2) ∷ (no 3) ∷ (no 4) ∷ []) (AtOne BoolNeg 0) (Closed ∷ Closed ∷ [])

demorgan_c_3 : Stands demorgan_input (at_clause 3) ((yes 2) ∷ (yes 3) ∷ (yes 4) ∷ []) (line demorgan_t_c3)
demorgan_c_3 = of_instance 3 ((yes 2) ∷ (yes 3) ∷ (yes 4) ∷ []) demorgan_i2 refl

abbrev demorgan_t_1_2 : Tree
demorgan_t_1_2 = cut (at_step 1 2) (record { 0 = 4 }) demorgan_t_1_1 demorgan_t_c3

demorgan_s_1_2 : Stands demorgan_input (at_step 1 2) ((yes 2) ∷ (yes 3) ∷ (no 5) ∷ []) (line demorgan_t_1_2)
demorgan_s_1_2 = of_next 1 1 demorgan_e1 (on 4 (Clause 3)) ((yes 3) ∷ (no 4) ∷ (no 5) ∷ []) ((yes 2) ∷ (yes 3) ∷ (yes 4) ∷ []) ((yes 2) ∷ (yes 3) ∷ (no 5) ∷ []) (line demorgan_t_1_1) (line demorgan_t_c3) refl refl demorgan_s_1_1 demorgan_c_3 refl

demorgan_s_0_0 : Stands demorgan_input (at_step 0 0) ((yes 2) ∷ (no 4) ∷ (no 3) ∷ []) (line demorgan_t_c4)
demorgan_s_0_0 = of_first 0 demorgan_e0 ((yes 2) ∷ (no 4) ∷ (no 3) ∷ []) (line demorgan_t_c4) refl demorgan_c_4

abbrev demorgan_t_c8 : Tree
demorgan_t_c8 = leaf (at_clause 8) ((no 3) ∷ (no 5) ∷ []) (AtOne ImpNeg 0) (Closed ∷ [])

demorgan_c_8 : Stands demorgan_input (at_clause 8) ((yes 3) ∷ (yes 5) ∷ []) (line demorgan_t_c8)
demorgan_c_8 = of_instance 8 ((yes 3) ∷ (yes 5) ∷ []) demorgan_i5 refl

abbrev demorgan_t_0_1 : Tree
demorgan_t_0_1 = cut (at_step 0 1) (record { 0 = 3 }) demorgan_t_c4 demorgan_t_c8

demorgan_s_0_1 : Stands demorgan_input (at_step 0 1) ((yes 5) ∷ (yes 2) ∷ (no 4) ∷ []) (line demorgan_t_0_1)
demorgan_s_0_1 = of_next 0 0 demorgan_e0 (on 3 (Clause 8)) ((yes 2) ∷ (no 4) ∷ (no 3) ∷ []) ((yes 3) ∷ (yes 5) ∷ []) ((yes 5) ∷ (yes 2) ∷ (no 4) ∷ []) (line demorgan_t_c4) (line demorgan_t_c8) refl refl demorgan_s_0_0 demorgan_c_8 refl

abbrev demorgan_t_c6 : Tree
demorgan_t_c6 = leaf (at_clause 6) ((no 4) ∷ (no 5) ∷ []) (AtOne ImpNeg 0) (Closed ∷ [])

demorgan_c_6 : Stands demorgan_input (at_clause 6) ((yes 4) ∷ (yes 5) ∷ []) (line demorgan_t_c6)
demorgan_c_6 = of_instance 6 ((yes 4) ∷ (yes 5) ∷ []) demorgan_i4 refl

abbrev demorgan_t_0_2 : Tree
demorgan_t_0_2 = cut (at_step 0 2) (record { 0 = 4 }) demorgan_t_0_1 demorgan_t_c6

demorgan_s_0_2 : Stands demorgan_input (at_step 0 2) ((yes 5) ∷ (yes 2) ∷ []) (line demorgan_t_0_2)
demorgan_s_0_2 = of_next 0 1 demorgan_e0 (on 4 (Clause 6)) ((yes 5) ∷ (yes 2) ∷ (no 4) ∷ []) ((yes 4) ∷ (yes 5) ∷ []) ((yes 5) ∷ (yes 2) ∷ []) (line demorgan_t_0_1) (line demorgan_t_c6) refl refl demorgan_s_0_1 demorgan_c_6 refl

abbrev demorgan_t_c2 : Tree
demorgan_t_c2 = leaf (at_clause 2) ((no 1) ∷ (yes 2) ∷ []) (AtOne AllNeg 0) (Closed ∷ [])

demorgan_c_2 : Stands demorgan_input (at_clause 2) ((yes 1) ∷ (no 2) ∷ []) (line demorgan_t_c2)
demorgan_c_2 = of_instance 2 ((yes 1) ∷ (no 2) ∷ []) demorgan_i1 refl

abbrev demorgan_t_0_3 : Tree
demorgan_t_0_3 = cut (at_step 0 3) (record { 0 = 2 }) demorgan_t_c2 demorgan_t_0_2

demorgan_s_0_3 : Stands demorgan_input (at_step 0 3) ((yes 5) ∷ (yes 1) ∷ []) (line demorgan_t_0_3)
demorgan_s_0_3 = of_next 0 2 demorgan_e0 (on 2 (Clause 2)) ((yes 5) ∷ (yes 2) ∷ []) ((yes 1) ∷ (no 2) ∷ []) ((yes 5) ∷ (yes 1) ∷ []) (line demorgan_t_0_2) (line demorgan_t_c2) refl refl demorgan_s_0_2 demorgan_c_2 refl

abbrev demorgan_t_c1 : Tree
demorgan_t_c1 = leaf (at_clause 1) ((no 0) ∷ (yes 1) ∷ []) (AtOne AllNeg 0) (Closed ∷ [])

demorgan_c_1 : Stands demorgan_input (at_clause 1) ((yes 0) ∷ (no 1) ∷ []) (line demorgan_t_c1)
demorgan_c_1 = of_instance 1 ((yes 0) ∷ (no 1) ∷ []) demorgan_i0 refl

abbrev demorgan_t_0_4 : Tree
demorgan_t_0_4 = cut (at_step 0 4) (record { 0 = 1 }) demorgan_t_c1 demorgan_t_0_3

demorgan_s_0_4 : Stands demorgan_input (at_step 0 4) ((yes 5) ∷ (yes 0) ∷ []) (line demorgan_t_0_4)
demorgan_s_0_4 = of_next 0 3 demorgan_e0 (on 1 (Clause 1)) ((yes 5) ∷ (yes 1) ∷ []) ((yes 0) ∷ (no 1) ∷ []) ((yes 5) ∷ (yes 0) ∷ []) (line demorgan_t_0_3) (line demorgan_t_c1) refl refl demorgan_s_0_3 demorgan_c_1 refl

demorgan_c_0 : Stands demorgan_input (at_clause 0) ((no 0) ∷ []) (start 0 (no 0))
demorgan_c_0 = of_start 0 (no 0) refl

demorgan_s_0_5 : Stands demorgan_input (at_step 0 5) ((yes 5) ∷ []) (line demorgan_t_0_4)
demorgan_s_0_5 = of_next 0 4 demorgan_e0 (on 0 (Clause 0)) ((yes 5) ∷ (yes 0) ∷ []) ((no 0) ∷ []) ((yes 5) ∷ []) (line demorgan_t_0_4) (start 0 (no 0)) refl refl demorgan_s_0_4 demorgan_c_0 refl

demorgan_r_0 : Stands demorgan_input (at_result 0) ((yes 5) ∷ []) (line demorgan_t_0_4)
demorgan_r_0 = of_result 0 demorgan_e0 ((yes 5) ∷ []) (line demorgan_t_0_4) refl demorgan_s_0_5

abbrev demorgan_t_1_3 : Tree
demorgan_t_1_3 = cut (at_step 1 3) (record { 0 = 5 }) demorgan_t_1_2 demorgan_t_0_4

demorgan_s_1_3 : Stands demorgan_input (at_step 1 3) ((yes 2) ∷ (yes 3) ∷ []) (line demorgan_t_1_3)
demorgan_s_1_3 = of_next 1 2 demorgan_e1 (on 5 (Result 0)) ((yes 2) ∷ (yes 3) ∷ (no 5) ∷ []) ((yes 5) ∷ []) ((yes 2) ∷ (yes 3) ∷ []) (line demorgan_t_1_2) (line demorgan_t_0_4) refl refl demorgan_s_1_2 demorgan_r_0 refl

abbrev demorgan_t_1_4 : Tree
demorgan_t_1_4 = cut (at_step 1 4) (record { 0 = 2 }) demorgan_t_c2 demorgan_t_1_3

demorgan_s_1_4 : Stands demorgan_input (at_step 1 4) ((yes 3) ∷ (yes 1) ∷ []) (line demorgan_t_1_4)
demorgan_s_1_4 = of_next 1 3 demorgan_e1 (on 2 (Clause 2)) ((yes 2) ∷ (yes 3) ∷ []) ((yes 1) ∷ (no 2) ∷ []) ((yes 3) ∷ (yes 1) ∷ []) (line demorgan_t_1_3) (line demorgan_t_c2) refl refl demorgan_s_1_3 demorgan_c_2 refl

abbrev demorgan_t_1_5 : Tree
demorgan_t_1_5 = cut (at_step 1 5) (record { 0 = 1 }) demorgan_t_c1 demorgan_t_1_4

demorgan_s_1_5 : Stands demorgan_input (at_step 1 5) ((yes 3) ∷ (yes 0) ∷ []) (line demorgan_t_1_5)
demorgan_s_1_5 = of_next 1 4 demorgan_e1 (on 1 (Clause 1)) ((yes 3) ∷ (yes 1) ∷ []) ((yes 0) ∷ (no 1) ∷ []) ((yes 3) ∷ (yes 0) ∷ []) (line demorgan_t_1_4) (line demorgan_t_c1) refl refl demorgan_s_1_4 demorgan_c_1 refl

demorgan_s_1_6 : Stands demorgan_input (at_step 1 6) ((yes 3) ∷ []) (line demorgan_t_1_5)
demorgan_s_1_6 = of_next 1 5 demorgan_e1 (on 0 (Clause 0)) ((yes 3) ∷ (yes 0) ∷ []) ((no 0) ∷ []) ((yes 3) ∷ []) (line demorgan_t_1_5) (start 0 (no 0)) refl refl demorgan_s_1_5 demorgan_c_0 refl

demorgan_r_1 : Stands demorgan_input (at_result 1) ((yes 3) ∷ []) (line demorgan_t_1_5)
demorgan_r_1 = of_result 1 demorgan_e1 ((yes 3) ∷ []) (line demorgan_t_1_5) refl demorgan_s_1_6

abbrev demorgan_t_2_3 : Tree
demorgan_t_2_3 = cut (at_step 2 3) (record { 0 = 3 }) demorgan_t_2_2 demorgan_t_1_5

demorgan_s_2_3 : Stands demorgan_input (at_step 2 3) ((no 5) ∷ (yes 2) ∷ []) (line demorgan_t_2_3)
demorgan_s_2_3 = of_next 2 2 demorgan_e2 (on 3 (Result 1)) ((no 3) ∷ (no 5) ∷ (yes 2) ∷ []) ((yes 3) ∷ []) ((no 5) ∷ (yes 2) ∷ []) (line demorgan_t_2_2) (line demorgan_t_1_5) refl refl demorgan_s_2_2 demorgan_r_1 refl

abbrev demorgan_t_2_4 : Tree
demorgan_t_2_4 = cut (at_step 2 4) (record { 0 = 5 }) demorgan_t_2_3 demorgan_t_0_4

demorgan_s_2_4 : Stands demorgan_input (at_step 2 4) ((yes 2) ∷ []) (line demorgan_t_2_4)
demorgan_s_2_4 = of_next 2 3 demorgan_e2 (on 5 (Result 0)) ((no 5) ∷ (yes 2) ∷ []) ((yes 5) ∷ []) ((yes 2) ∷ []) (line demorgan_t_2_3) (line demorgan_t_0_4) refl refl demorgan_s_2_3 demorgan_r_0 refl

abbrev demorgan_t_2_5 : Tree
demorgan_t_2_5 = cut (at_step 2 5) (record { 0 = 2 }) demorgan_t_c2 demorgan_t_2_4

demorgan_s_2_5 : Stands demorgan_input (at_step 2 5) ((yes 1) ∷ []) (line demorgan_t_2_5)
demorgan_s_2_5 = of_next 2 4 demorgan_e2 (on 2 (Clause 2)) ((yes 2) ∷ []) ((yes 1) ∷ (no 2) ∷ []) ((yes 1) ∷ []) (line demorgan_t_2_4) (line demorgan_t_c2) refl refl demorgan_s_2_4 demorgan_c_2 refl

abbrev demorgan_t_2_6 : Tree
demorgan_t_2_6 = cut (at_step 2 6) (record { 0 = 1 }) demorgan_t_c1 demorgan_t_2_5

demorgan_s_2_6 : Stands demorgan_input (at_step 2 6) ((yes 0) ∷ []) (line demorgan_t_2_6)
demorgan_s_2_6 = of_next 2 5 demorgan_e2 (on 1 (Clause 1)) ((yes 1) ∷ []) ((yes 0) ∷ (no 1) ∷ []) ((yes 0) ∷ []) (line demorgan_t_2_5) (line demorgan_t_c1) refl refl demorgan_s_2_5 demorgan_c_1 refl

demorgan_s_2_7 : Stands demorgan_input (at_step 2 7) [] (line demorgan_t_2_6)
demorgan_s_2_7 = of_next 2 6 demorgan_e2 (on 0 (Clause 0)) ((yes 0) ∷ []) ((no 0) ∷ []) [] (line demorgan_t_2_6) (start 0 (no 0)) refl refl demorgan_s_2_6 demorgan_c_0 refl

demorgan_r_2 : Stands demorgan_input (at_result 2) [] (line demorgan_t_2_6)
demorgan_r_2 = of_result 2 demorgan_e2 [] (line demorgan_t_2_6) refl demorgan_s_2_7

pub demorgan_rebuilt : IsRebuilt demorgan_input demorgan_refutation
demorgan_rebuilt = record { number = 2; is_last = refl; last = demorgan_t_2_6; stands = demorgan_r_2; lines = refl; rows = refl }

abbrev the_p_t_c3 : Tree
the_p_t_c3 = leaf (at_clause 3) (no 0 ∷ yes 1 ∷ no 2 ∷ []) (WithPredicate Des the_p_predicate) (Closed ∷ Closed ∷ Closed ∷ [])

the_p_s_0_0 : Stands the_p_input (at_step 0 0) (yes 0 ∷ no 1 ∷ yes 2 ∷ []) (line the_p_t_c3)
the_p_s_0_0 = of_first 0 the_p_e0 (yes 0 ∷ no 1 ∷ yes 2 ∷ []) (line the_p_t_c3) refl (of_instance 3 (yes 0 ∷ no 1 ∷ yes 2 ∷ []) the_p_i0 refl)

the_p_s_0_1 : Stands the_p_input (at_step 0 1) (yes 0 ∷ no 1 ∷ []) (line the_p_t_c3)
the_p_s_0_1 = of_next 0 0 the_p_e0 (on 2 (Clause 2)) (yes 0 ∷ no 1 ∷ yes 2 ∷ []) (no 2 ∷ []) (yes 0 ∷ no 1 ∷ []) (line the_p_t_c3) (start 2 (no 2)) refl refl the_p_s_0_0 (of_start 2 (no 2) refl) refl

the_p_s_0_2 : Stands the_p_input (at_step 0 2) (yes 0 ∷ []) (line the_p_t_c3)
the_p_s_0_2 = of_next 0 1 the_p_e0 (on 1 (Clause 1)) (yes 0 ∷ no 1 ∷ []) (yes 1 ∷ []) (yes 0 ∷ []) (line the_p_t_c3) (start 1 (yes 1)) refl refl the_p_s_0_1 (of_start 1 (yes 1) refl) refl

the_p_s_0_3 : Stands the_p_input (at_step 0 3) [] (line the_p_t_c3)
the_p_s_0_3 = of_next 0 2 the_p_e0 (on 0 (Clause 0)) (yes 0 ∷ []) (no 0 ∷ []) [] (line the_p_t_c3) (start 0 (no 0)) refl refl the_p_s_0_2 (of_start 0 (no 0) refl) refl

pub the_p_rebuilt : IsRebuilt the_p_input the_p_refutation
the_p_rebuilt = record { number = 0; is_last = refl; last = the_p_t_c3; stands = of_result 0 the_p_e0 [] (line the_p_t_c3) refl the_p_s_0_3; lines = refl; rows = refl }

pub all_rebuilt : ExamplesAreRebuilt
all_rebuilt = (true_conjecture_rebuilt, clash_rebuilt, all_p_rebuilt, eta_equal_rebuilt, pointwise_rebuilt, chosen_rebuilt, quoted_rebuilt, unnamed_rebuilt, the_p_rebuilt, k_p_rebuilt, demorgan_rebuilt)
