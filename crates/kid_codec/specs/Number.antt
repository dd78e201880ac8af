-- Numbers as they are spelled.
use Rattle.std.specs.Prelude.{ℕ, ℤ, ◌&&◌, List, Option, Some, None, if◌then◌else◌}
use Rattle.std.specs.Fmt.{signed_decimal}
use Rattle.std.specs.Str.{bytes_eq}
use Rattle.std.specs.Str.Parse.{signed_digits_value}
use Rattle.kid_value.specs.SortLimits.{in_limits}

-- the number that the digits write, where the word is just its decimal text and it lies within the limits
abbrev pub number_of : List ℕ → Option ℤ
number_of word =
    let n : ℤ = signed_digits_value 10 word in
    if bytes_eq word (signed_decimal n) && in_limits n then Some n else None
