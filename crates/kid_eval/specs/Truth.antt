-- The truth value that a value is.
use Rattle.std.specs.Prelude.{Bool, Option, Some, None}
use Rattle.kid_value.specs.PlainValue.{PlainValue, bool}

abbrev pub truth_in : PlainValue → Option Bool
truth_in (bool b) = Some b
truth_in v = None
