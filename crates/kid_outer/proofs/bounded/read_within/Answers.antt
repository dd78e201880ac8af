use Rattle.std.proofs.Common.{◌++◌, take, arith}
use Rattle.std.proofs.KnownBytes.{Consumes-trans}
use Rattle.std.proofs.lemmas.Grind.{common_steps}
use Rattle.kid_outer.proofs.bounded.read_within.Goals as goal

pub returns-in_err-extend_from_slice-clause-taken : goal.returns-in_err-extend_from_slice-clause-taken
returns-in_err-extend_from_slice-clause-taken g c =
    let read = c.in_ok-count.ensures in
    let front = c.loop.bytes.items ++ take c.in_ok-count.count c.read_some.new.room in
    (front, grind (arith, common_steps), Consumes-trans _ _ _ _ _ c.loop.invariant.taken read.ok)
