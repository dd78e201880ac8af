use Rattle.std.proofs.Common.{◌≡◌, map, take}
use Rattle.kid_ops.specs.Parts.{key_of}
use Rattle.kid_ops.proofs.map.copied_keys.Given as goal

abbrev pub invariant-loop-e : goal.invariant-loop-e
invariant-loop-e l = l.copies ≡ map key_of (take l.e-index l.entries)
