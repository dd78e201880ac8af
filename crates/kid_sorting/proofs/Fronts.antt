-- Sorts in front of others.
use Rattle.std.proofs.Common.{List, ◌++◌, Result, Ok}
use Rattle.kid_value.specs.PlainSort.{PlainSort}
use Rattle.kid_term.specs.Sorted.{Fault, ◌>>=◌}

-- the sorts so far, and then those
abbrev pub with_front : List PlainSort → Result (List PlainSort) Fault → Result (List PlainSort) Fault
with_front front there = there >>= λ ss. Ok (front ++ ss)
