use Rattle.std.proofs.Common.{length}
use Rattle.kid_eval_tests.proofs.sorted.+are_sound.Given as goal

abbrev pub decreases-are_sound : goal.decreases-are_sound
decreases-are_sound l = length l.defs.now
