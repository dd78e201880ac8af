-- When both components of an interval have allowed sorts, and when their sum has one.
use Rattle.std.proofs.Common.{◌≡◌, ℤ, pos, negsuc, true, arith}
use Rattle.std.specs.Prelude.{◌&&◌, int_lt}
use Rattle.std.proofs.lemmas.Int.{ints as int_rules}
use Rattle.kid_value.specs.PlainSort.{ints}
use Rattle.kid_value.specs.SortLimits.{is_allowed}
use Rattle.kid_search.specs.RangeAnswer.{has_ends, has_middle}

pub ends : (lo hi : ℤ) → is_allowed (ints lo hi) ≡ true → (int_lt (negsuc 4611686018427387903) lo && int_lt hi (pos 4611686018427387904)) ≡ has_ends lo hi
ends lo hi a = grind (arith, int_rules)

pub middle : (lo hi : ℤ) → has_ends lo hi ≡ true → (int_lt (negsuc 2305843009213693951) lo && int_lt hi (pos 2305843009213693952)) ≡ has_middle lo hi
middle lo hi a = grind (arith, int_rules)
