use Rattle.std.proofs.Common.{◌≡◌, drop, map}
use Rattle.kid_value.specs.NameSet.{is_among}
use Rattle.kid_codec.proofs.name.is_among.Given as goal

abbrev pub invariant-loop-other : goal.invariant-loop-other
invariant-loop-other l = is_among l.word (map (λ w. w.now) (drop l.other-index l.words)) ≡ is_among l.word (map (λ w. w.now) l.words)
