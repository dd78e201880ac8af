-- What the operators on integers give. At arguments of another kind or count the value is false.
use Rattle.std.specs.Prelude.{List, [], ◌∷◌}
use Rattle.kid_value.specs.PlainValue.{PlainValue}
use Rattle.kid_value.specs.Rows.Kinds.{wrong_kind}
use Rattle.kid_value.specs.Rows.Number as row
use Rattle.kid_term.specs.declared.operator.NumberOp.{NumberOp}
use Rattle.kid_term.specs.declared.operator.NumberOp.TheVariants.{Le, Lt, Add, Sub, Neg, Mul, Div, Mod, Min, Max}

abbrev pub number_value : NumberOp → List PlainValue → PlainValue
number_value Le (a ∷ b ∷ []) = row.le a b
number_value Lt (a ∷ b ∷ []) = row.lt a b
number_value Add (a ∷ b ∷ []) = row.add a b
number_value Sub (a ∷ b ∷ []) = row.sub a b
number_value Neg (a ∷ []) = row.neg a
number_value Mul (a ∷ b ∷ []) = row.mul a b
number_value Div (a ∷ b ∷ []) = row.div a b
number_value Mod (a ∷ b ∷ []) = row.modulo a b
number_value Min (a ∷ b ∷ []) = row.min a b
number_value Max (a ∷ b ∷ []) = row.max a b
number_value o vs = wrong_kind
