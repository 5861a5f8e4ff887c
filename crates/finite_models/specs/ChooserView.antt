-- What the code's choices and descriptions stand for.
use Rattle.stt_core.specs.Lambda.{choice, description}
use Rattle.stt_core.specs.View.{the_type}
use Rattle.finite_models.specs.Symbols.{Symbol, choosing_symbol}
use Rattle.finite_models.specs.declared.chooser.Chooser.{Chooser}
use Rattle.finite_models.specs.declared.chooser.Chooser.TheVariants.{Choice, Description}

-- the symbol of a choice or a description
abbrev pub the_chooser : Chooser → Symbol
the_chooser (Choice a) = choosing_symbol (choice (the_type a)) (the_type a)
the_chooser (Description a) = choosing_symbol (description (the_type a)) (the_type a)
