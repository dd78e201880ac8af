use Rattle.std.proofs.Common.{rules}
use Rattle.kid_sorting.proofs.KeyLemmas.{two_missing, two_over}
use Rattle.kid_sorting.proofs.word.wor.Goals.{in_default-via-then-sorts-lt2, in_default-via-else-sorts-lt2+else-sorts-lt3}
use Rattle.kid_sorting.proofs.word.wor.Goals as goal

pub returns-in_default : goal.returns-in_default
returns-in_default c = elim c.in_default.branch [
  | in_default-via-then-sorts-lt2 w ↦ two_missing c.args.sorts.now _ (search rules)
  | in_default-via-else-sorts-lt2+else-sorts-lt3 w ↦ two_over c.args.sorts.now _ (search rules)
]
