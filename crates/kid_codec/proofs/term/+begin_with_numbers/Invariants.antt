use Rattle.kid_codec.proofs.term.+begin_with_numbers.Given as goal

abbrev pub decreases-begin_with_numbers : goal.decreases-begin_with_numbers
decreases-begin_with_numbers l = l.count
