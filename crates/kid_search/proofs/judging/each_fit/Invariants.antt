use Rattle.std.proofs.Common.{◌≡◌, drop}
use Rattle.kid_search.specs.Judged.{each_fit}
use Rattle.kid_search.proofs.judging.each_fit.Given as goal

abbrev pub invariant-loop-terms : goal.invariant-loop-terms
invariant-loop-terms l = each_fit (drop l.terms-index l.lists) ≡ each_fit l.lists
