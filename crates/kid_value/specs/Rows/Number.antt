-- The operators on numbers.
use Rattle.std.specs.Prelude.{ℤ, pos, ◌+ℤ◌, ◌-ℤ◌, ◌*ℤ◌, neg_ℤ, int_le, int_lt, cond}
use Rattle.std.specs.Int.{int_div_euclid, int_rem_euclid, int_min, int_max}
use Rattle.std.specs.Ordering.{int_eq}
use Rattle.kid_value.specs.PlainValue.{PlainValue, int, bool}
use Rattle.kid_value.specs.Rows.Kinds.{wrong_kind}

abbrev pub le : PlainValue → PlainValue → PlainValue
le (int a) (int b) = bool (int_le a b)
le v w = wrong_kind

abbrev pub lt : PlainValue → PlainValue → PlainValue
lt (int a) (int b) = bool (int_lt a b)
lt v w = wrong_kind

abbrev pub add : PlainValue → PlainValue → PlainValue
add (int a) (int b) = int (a +ℤ b)
add v w = wrong_kind

abbrev pub sub : PlainValue → PlainValue → PlainValue
sub (int a) (int b) = int (a -ℤ b)
sub v w = wrong_kind

abbrev pub neg : PlainValue → PlainValue
neg (int a) = int (neg_ℤ a)
neg v = wrong_kind

abbrev pub mul : PlainValue → PlainValue → PlainValue
mul (int a) (int b) = int (a *ℤ b)
mul v w = wrong_kind

-- the quotient that leaves a rest from 0 to less than the size of b, and that rest; both are 0 where b is 0
abbrev pub quotient : ℤ → ℤ → ℤ
quotient a b = cond (int_eq b (pos 0)) (pos 0) (int_div_euclid a b)

abbrev pub remainder : ℤ → ℤ → ℤ
remainder a b = cond (int_eq b (pos 0)) (pos 0) (int_rem_euclid a b)

abbrev pub div : PlainValue → PlainValue → PlainValue
div (int a) (int b) = int (quotient a b)
div v w = wrong_kind

abbrev pub modulo : PlainValue → PlainValue → PlainValue
modulo (int a) (int b) = int (remainder a b)
modulo v w = wrong_kind

abbrev pub min : PlainValue → PlainValue → PlainValue
min (int a) (int b) = int (int_min a b)
min v w = wrong_kind

abbrev pub max : PlainValue → PlainValue → PlainValue
max (int a) (int b) = int (int_max a b)
max v w = wrong_kind
