use Rattle.std.proofs.Common.{◌≡◌, rules, subst, ◌∙◌}
use Rattle.std.specs.Prelude.{FitsSigned}
use Rattle.std.specs.Int.{w64, int_min, int_max, int_div_euclid}
use Rattle.std.proofs.lemmas.Int.{to_z-of_z}
use Rattle.kid_value.specs.PlainSort.{ints}
use Rattle.kid_term.specs.Sorted.{allowed}
use Rattle.kid_sorting.specs.Answers.{SortGives}
use Rattle.kid_sorting.proofs.Limits.{top, floors_capped}
use Rattle.kid_sorting.proofs.interval.Interval.floors.Goals as goal

pub returns : goal.returns
returns c =
    let a : FitsSigned w64 c.args.self.now.lo = search rules in
    let b : FitsSigned w64 c.args.self.now.hi = search rules in
    let d : FitsSigned w64 c.args.divisor.now.lo = search rules in
    let e : FitsSigned w64 c.args.divisor.now.hi = search rules in
    let p_fits : FitsSigned w64 c.floor.result = record { sfits = c.floor.type_inv } in
    let q_fits : FitsSigned w64 c.floor-2.result = record { sfits = c.floor-2.type_inv } in
    let r_fits : FitsSigned w64 c.floor-3.result = record { sfits = c.floor-3.type_inv } in
    let s_fits : FitsSigned w64 c.floor-4.result = record { sfits = c.floor-4.type_inv } in
    let low_fits : FitsSigned w64 c.min.result = record { sfits = c.min.type_inv } in
    let high_fits : FitsSigned w64 c.max.result = record { sfits = c.max.type_inv } in
    let p : c.floor.result ≡ int_min (int_div_euclid c.args.self.now.lo c.args.divisor.now.lo) top = simp to_z-of_z at c.floor.ensures in
    let q : c.floor-2.result ≡ int_min (int_div_euclid c.args.self.now.lo c.args.divisor.now.hi) top = simp to_z-of_z at c.floor-2.ensures in
    let r : c.floor-3.result ≡ int_min (int_div_euclid c.args.self.now.hi c.args.divisor.now.lo) top = simp to_z-of_z at c.floor-3.ensures in
    let s : c.floor-4.result ≡ int_min (int_div_euclid c.args.self.now.hi c.args.divisor.now.hi) top = simp to_z-of_z at c.floor-4.ensures in
    let low : c.min.result ≡ int_min c.floor.result c.floor-2.result = simp to_z-of_z at c.min.ensures.value in
    let high : c.max.result ≡ int_max c.floor-3.result c.floor-4.result = simp to_z-of_z at c.max.ensures.value in
    let given : SortGives c.between.result (allowed (ints c.min.result c.max.result)) = simp to_z-of_z at c.between.ensures in
    let ends : allowed (ints c.min.result c.max.result) ≡ allowed (ints (int_min c.floor.result c.floor-2.result) (int_max c.floor-3.result c.floor-4.result)) = λ i. allowed (ints (low i) (high i)) in
    subst (SortGives c.between.result)
    (ends ∙ (λ i. allowed (ints (int_min (p i) (q i)) (int_max (r i) (s i))))
    ∙ floors_capped (int_div_euclid c.args.self.now.lo c.args.divisor.now.lo) (int_div_euclid c.args.self.now.lo c.args.divisor.now.hi)
    (int_div_euclid c.args.self.now.hi c.args.divisor.now.lo) (int_div_euclid c.args.self.now.hi c.args.divisor.now.hi))
    given
