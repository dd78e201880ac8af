use Rattle.kid_codec.proofs.SortedSpelled.{sorted-spelled}
use Rattle.kid_codec.proofs.law.sorted_values_are_spelled.Goals as goal

pub returns : goal.returns
returns c = λ s v p h. sorted-spelled s v p h
