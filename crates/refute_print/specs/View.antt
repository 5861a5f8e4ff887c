-- The trees of the code as plain trees.
use Rattle.refute_print.specs.Trees.{TextTypeTree, formula, individual, named, arrow}
use Rattle.refute_print.specs.declared.tree.TextTy.{TextTy}
use Rattle.refute_print.specs.declared.tree.TextTy.TheVariants.{Form, Indiv, Named, Arrow'}

abbrev pub the_text_type : TextTy → TextTypeTree
the_text_type Form = formula
the_text_type Indiv = individual
the_text_type (Named w) = named w
the_text_type (Arrow' p a q b) = arrow (the_text_type a) (the_text_type b)
