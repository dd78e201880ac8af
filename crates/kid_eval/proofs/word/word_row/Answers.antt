use Rattle.std.proofs.Common.{rules}
use Rattle.kid_eval.proofs.WordLemmas.{none_given, many_given}
use Rattle.kid_eval.proofs.word.word_row.Goals.{in_default-via-then-values-lt1, in_default-via-else-values-lt1+else-values-lt2+else-values-lt3+else-values-lt4+else-values-lt5}
use Rattle.kid_eval.proofs.word.word_row.Goals as goal

pub returns-in_default : goal.returns-in_default
returns-in_default c = elim c.in_default.branch [
  | in_default-via-then-values-lt1 w ↦ none_given c.args.op c.args.values.now (search rules)
  | in_default-via-else-values-lt1+else-values-lt2+else-values-lt3+else-values-lt4+else-values-lt5 w ↦ many_given c.args.op c.args.values.now (search rules)
]
