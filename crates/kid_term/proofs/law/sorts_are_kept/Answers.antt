use Rattle.kid_term.proofs.SortedValue.{sorted-kept}
use Rattle.kid_term.proofs.law.sorts_are_kept.Goals as goal

pub returns : goal.returns
returns c = sorted-kept
