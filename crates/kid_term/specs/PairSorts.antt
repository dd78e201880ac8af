-- The sorts of the operators on pairs.
use Rattle.std.specs.Prelude.{List}
use Rattle.kid_value.specs.PlainSort.{PlainSort, pairs}
use Rattle.kid_term.specs.Sorted.{Sorted, allowed, with_one, with_two, with_pair}
use Rattle.kid_term.specs.declared.operator.PairOp.{PairOp}
use Rattle.kid_term.specs.declared.operator.PairOp.TheVariants.{Pair, Fst, Snd}

abbrev pub pair_sort : PairOp → List PlainSort → Sorted
pair_sort Pair ss = with_two ss (λ a b. allowed (pairs a b))
pair_sort Fst ss = with_one ss (λ s. with_pair s (λ a b. allowed a))
pair_sort Snd ss = with_one ss (λ s. with_pair s (λ a b. allowed b))
