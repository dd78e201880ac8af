-- The operators on pairs.
use Rattle.kid_value.specs.PlainValue.{PlainValue}
use Rattle.kid_value.specs.PlainValue as value
use Rattle.kid_value.specs.Rows.Kinds.{wrong_kind}

abbrev pub pair : PlainValue → PlainValue → PlainValue
pair x y = value.pair x y

abbrev pub fst : PlainValue → PlainValue
fst (value.pair x y) = x
fst v = wrong_kind

abbrev pub snd : PlainValue → PlainValue
snd (value.pair x y) = y
snd v = wrong_kind
