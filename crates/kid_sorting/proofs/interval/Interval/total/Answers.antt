use Rattle.std.proofs.Common.{◌≡◌, rules, sym, ◌∙◌}
use Rattle.std.specs.Prelude.{pos, ◌*ℤ◌, FitsSigned}
use Rattle.std.specs.Int.{w64, int_min, int_max}
use Rattle.std.proofs.lemmas.Int.{to_z-of_z}
use Rattle.kid_value.specs.PlainSort.{ints}
use Rattle.kid_term.specs.Sorted.{allowed}
use Rattle.kid_sorting.proofs.Limits.{ends_outside}
use Rattle.kid_sorting.proofs.interval.Interval.total.Goals as goal

pub returns-in-None : goal.returns-in-None
returns-in-None c =
    let lo : FitsSigned w64 c.args.self.now.lo = search rules in
    let hi : FitsSigned w64 c.args.self.now.hi = search rules in
    let f : FitsSigned w64 c.from.result = record { sfits = c.from.type_inv } in
    let l : FitsSigned w64 c.min.result = record { sfits = c.min.type_inv } in
    let h : FitsSigned w64 c.max.result = record { sfits = c.max.type_inv } in
    let unfit : ¬ (FitsSigned w64 (c.from.result *ℤ c.min.result) × FitsSigned w64 (c.from.result *ℤ c.max.result)) = simp to_z-of_z at c.in-None.ensures in
    let least : c.min.result ≡ int_min (pos 0) c.args.self.now.lo = simp to_z-of_z at c.min.ensures.value in
    let most : c.max.result ≡ int_max (pos 0) c.args.self.now.hi = simp to_z-of_z at c.max.ensures.value in
    let count = c.from.ensures in
    sym (λ i. allowed (ints (count i *ℤ least i) (count i *ℤ most i))) ∙ ends_outside (c.from.result *ℤ c.min.result) (c.from.result *ℤ c.max.result) unfit
