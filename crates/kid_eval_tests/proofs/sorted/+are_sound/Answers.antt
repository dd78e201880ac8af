use Rattle.kid_eval_tests.proofs.GivenLemmas.{sound_last}
use Rattle.kid_eval_tests.proofs.sorted.+are_sound.Goals as goal

pub returns-then-is_sound : goal.returns-then-is_sound
returns-then-is_sound t c = λ p. sound_last c.args.defs.now c.in-Some.earlier.now c.in-Some.last.now c.in-Some.ensures (c.are_sound.ensures p) (c.is_sound.ensures c.if-is_sound.true)
