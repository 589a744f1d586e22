use Rattle.parser_values.proofs.types.+type_reference.Given as goal

-- The depth falls.
abbrev pub decreases-type_reference : goal.decreases-type_reference
decreases-type_reference l = l.depth.levels
