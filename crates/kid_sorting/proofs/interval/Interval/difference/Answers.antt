use Rattle.std.proofs.Common.{rules}
use Rattle.std.specs.Prelude.{◌-ℤ◌, FitsSigned}
use Rattle.std.specs.Int.{w64}
use Rattle.std.proofs.lemmas.Int.{to_z-of_z}
use Rattle.kid_sorting.proofs.Limits.{high_outside}
use Rattle.kid_sorting.proofs.interval.Interval.difference.Goals as goal

pub returns-in_default-checked_sub : goal.returns-in_default-checked_sub
returns-in_default-checked_sub c =
    let a : FitsSigned w64 c.args.self.now.hi = search rules in
    let b : FitsSigned w64 c.args.other.now.lo = search rules in
    high_outside (c.args.self.now.lo -ℤ c.args.other.now.hi) (c.args.self.now.hi -ℤ c.args.other.now.lo) (simp to_z-of_z at c.in_default-checked_sub.ensures)
