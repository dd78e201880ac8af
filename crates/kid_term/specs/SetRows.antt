-- What the operators on sets give. At arguments of another kind or count the value is false.
use Rattle.std.specs.Prelude.{List, [], ◌∷◌}
use Rattle.kid_value.specs.PlainValue.{PlainValue}
use Rattle.kid_value.specs.Rows.Kinds.{wrong_kind}
use Rattle.kid_value.specs.Rows.Set as row
use Rattle.kid_term.specs.declared.operator.SetOp.{SetOp}
use Rattle.kid_term.specs.declared.operator.SetOp.TheVariants.{Set, Range, In, Subset, Union, With, Inter, Diff, Without, Card, Sum, Least}

abbrev pub set_value : SetOp → List PlainValue → PlainValue
set_value Set vs = row.set_of_values vs
set_value Range (a ∷ b ∷ []) = row.range a b
set_value In (x ∷ s ∷ []) = row.member x s
set_value Subset (s ∷ t ∷ []) = row.subset s t
set_value Union (s ∷ t ∷ []) = row.union s t
set_value With (x ∷ s ∷ []) = row.with x s
set_value Inter (s ∷ t ∷ []) = row.inter s t
set_value Diff (s ∷ t ∷ []) = row.diff s t
set_value Without (x ∷ s ∷ []) = row.without x s
set_value Card (s ∷ []) = row.card s
set_value Sum (s ∷ []) = row.sum s
set_value Least (s ∷ d ∷ []) = row.least s d
set_value o vs = wrong_kind
