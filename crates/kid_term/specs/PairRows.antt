-- What the operators on pairs give. At arguments of another kind or count the value is false.
use Rattle.std.specs.Prelude.{List, [], ◌∷◌}
use Rattle.kid_value.specs.PlainValue.{PlainValue}
use Rattle.kid_value.specs.Rows.Kinds.{wrong_kind}
use Rattle.kid_value.specs.Rows.Pair.{pair, fst, snd}
use Rattle.kid_term.specs.declared.operator.PairOp.{PairOp}
use Rattle.kid_term.specs.declared.operator.PairOp.TheVariants.{Pair, Fst, Snd}

abbrev pub pair_value : PairOp → List PlainValue → PlainValue
pair_value Pair (x ∷ y ∷ []) = pair x y
pair_value Fst (e ∷ []) = fst e
pair_value Snd (e ∷ []) = snd e
pair_value o vs = wrong_kind
