-- What the operators on truth values give. At arguments of another kind or count the value is false.
use Rattle.std.specs.Prelude.{List, [], ◌∷◌}
use Rattle.kid_value.specs.PlainValue.{PlainValue}
use Rattle.kid_value.specs.Rows.Kinds.{wrong_kind}
use Rattle.kid_value.specs.Rows.Logic as row
use Rattle.kid_term.specs.declared.operator.LogicOp.{LogicOp}
use Rattle.kid_term.specs.declared.operator.LogicOp.TheVariants.{Not, And, Or, Implies, If, Eq}

abbrev pub logic_value : LogicOp → List PlainValue → PlainValue
logic_value Not (p ∷ []) = row.not p
logic_value And (p ∷ q ∷ []) = row.and p q
logic_value Or (p ∷ q ∷ []) = row.or p q
logic_value Implies (p ∷ q ∷ []) = row.implies p q
logic_value If (p ∷ x ∷ y ∷ []) = row.choose p x y
logic_value Eq (x ∷ y ∷ []) = row.eq x y
logic_value o vs = wrong_kind
