-- The operators on truth values.
use Rattle.std.specs.Prelude.{cond, ◌&&◌, ◌||◌, not as opposite}
use Rattle.kid_value.specs.PlainValue.{PlainValue, bool}
use Rattle.kid_value.specs.Rows.Kinds.{wrong_kind}
use Rattle.kid_value.specs.ValueSet.{value_eq}

abbrev pub not : PlainValue → PlainValue
not (bool p) = bool (opposite p)
not v = wrong_kind

abbrev pub and : PlainValue → PlainValue → PlainValue
and (bool p) (bool q) = bool (p && q)
and v w = wrong_kind

abbrev pub or : PlainValue → PlainValue → PlainValue
or (bool p) (bool q) = bool (p || q)
or v w = wrong_kind

abbrev pub implies : PlainValue → PlainValue → PlainValue
implies (bool p) (bool q) = bool (opposite p || q)
implies v w = wrong_kind

abbrev pub choose : PlainValue → PlainValue → PlainValue → PlainValue
choose (bool p) x y = cond p x y
choose v x y = wrong_kind

abbrev pub eq : PlainValue → PlainValue → PlainValue
eq x y = bool (value_eq x y)
