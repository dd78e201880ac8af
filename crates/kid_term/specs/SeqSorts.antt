-- The sorts of the operators on sequences.
use Rattle.std.specs.Prelude.{suc, pos, List, length, Ok}
use Rattle.kid_value.specs.PlainSort.{PlainSort, bools, ints, sets, seqs}
use Rattle.kid_value.specs.SortOrder.{join}
use Rattle.kid_term.specs.Sorted.{Sorted, allowed, with_one, with_two, with_three, with_ints, with_seq, with_join, join_all}
use Rattle.kid_term.specs.SumSort.{sum_sort}
use Rattle.kid_term.specs.declared.operator.SeqOp.{SeqOp}
use Rattle.kid_term.specs.declared.operator.SeqOp.TheVariants.{Seq, Len, At, Snoc, Rest, Items, Total, Prefix}

abbrev pub seq_sort : SeqOp → List PlainSort → Sorted
seq_sort Seq ss = with_join (join_all ss) (λ a. allowed (seqs a (length ss)))
seq_sort Len ss = with_one ss (λ v. with_seq v (λ a n. allowed (ints (pos 0) (pos n))))
seq_sort At ss = with_three ss (λ v i d. with_seq v (λ a n. with_ints i (λ lo hi. with_join (join a d) allowed)))
seq_sort Snoc ss = with_two ss (λ v x. with_seq v (λ a n. with_join (join a x) (λ e. allowed (seqs e (suc n)))))
seq_sort Rest ss = with_two ss (λ v i. with_seq v (λ a n. with_ints i (λ lo hi. allowed (seqs a n))))
seq_sort Items ss = with_one ss (λ v. with_seq v (λ a n. allowed (sets a)))
seq_sort Total ss = with_one ss (λ v. with_seq v (λ a n. sum_sort n a))
seq_sort Prefix ss = with_two ss (λ v w. with_seq v (λ a n. with_seq w (λ b m. with_join (join a b) (λ _. Ok bools))))
