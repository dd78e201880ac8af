-- The values of a list that are among those of another, or that are not.
use Rattle.std.specs.Prelude.{Bool, true, false, not, List, filter}
use Rattle.kid_value.specs.PlainValue.{PlainValue}
use Rattle.kid_value.specs.ValueSet.{is_member}

abbrev pub same : Bool → Bool → Bool
same true b = b
same false b = not b

-- the values of the first list that are among those of the second, or that are not
abbrev pub chosen : Bool → List PlainValue → List PlainValue → List PlainValue
chosen p xs ys = filter (λ x. same p (is_member x ys)) xs
