use Rattle.std.proofs.Common.{rules}
use Rattle.std.specs.Prelude.{◌*ℤ◌, FitsSigned}
use Rattle.std.specs.Int.{w64}
use Rattle.std.proofs.lemmas.Int.{to_z-of_z}
use Rattle.kid_sorting.proofs.Limits.{first_outside, last_outside}
use Rattle.kid_sorting.proofs.interval.Interval.product.Goals as goal

pub returns-in_default : goal.returns-in_default
returns-in_default c =
    let s = c.args.self.now in
    let o = c.args.other.now in
    let a : FitsSigned w64 c.args.self.now.lo = search rules in
    first_outside (s.lo *ℤ o.lo) (s.lo *ℤ o.hi) (s.hi *ℤ o.lo) (s.hi *ℤ o.hi) (simp to_z-of_z at c.in_default.ensures)

pub returns-in_default-multiplied : goal.returns-in_default-multiplied
returns-in_default-multiplied c =
    let s = c.args.self.now in
    let o = c.args.other.now in
    let b : FitsSigned w64 c.args.self.now.hi = search rules in
    last_outside (s.lo *ℤ o.lo) (s.lo *ℤ o.hi) (s.hi *ℤ o.lo) (s.hi *ℤ o.hi) (simp to_z-of_z at c.in_default-multiplied.ensures)
