-- What the operators on maps give. At arguments of another kind or count the value is false.
use Rattle.std.specs.Prelude.{List, [], ◌∷◌}
use Rattle.kid_value.specs.PlainValue.{PlainValue}
use Rattle.kid_value.specs.Rows.Kinds.{wrong_kind}
use Rattle.kid_value.specs.Rows.Map as row
use Rattle.kid_term.specs.declared.operator.MapOp.{MapOp}
use Rattle.kid_term.specs.declared.operator.MapOp.TheVariants.{Map, Dom, Ran, Get, Put, Drop, Fill, Submap, Fits, Narrow}

abbrev pub map_value : MapOp → List PlainValue → PlainValue
map_value Map [] = row.empty_map
map_value Dom (m ∷ []) = row.dom m
map_value Ran (m ∷ []) = row.ran m
map_value Get (m ∷ x ∷ d ∷ []) = row.get m x d
map_value Put (m ∷ x ∷ y ∷ []) = row.put m x y
map_value Drop (m ∷ x ∷ []) = row.drop m x
map_value Fill (s ∷ x ∷ []) = row.fill s x
map_value Submap (m ∷ n ∷ []) = row.submap m n
map_value Fits (m ∷ n ∷ []) = row.fits m n
map_value Narrow (m ∷ n ∷ []) = row.narrow m n
map_value o vs = wrong_kind
