use Rattle.std.proofs.Common.{◌≡◌, rules, subst, ◌∙◌}
use Rattle.std.specs.Prelude.{FitsSigned}
use Rattle.std.specs.Int.{w64, int_min, int_max}
use Rattle.std.proofs.lemmas.Int.{to_z-of_z}
use Rattle.kid_value.specs.PlainSort.{ints}
use Rattle.kid_term.specs.Sorted.{allowed}
use Rattle.kid_sorting.specs.Answers.{SortGives}
use Rattle.kid_sorting.proofs.interval.hull.Goals as goal

pub returns : goal.returns
returns c =
    let p : FitsSigned w64 c.args.first.now.lo = search rules in
    let q : FitsSigned w64 c.args.first.now.hi = search rules in
    let r : FitsSigned w64 c.args.second.now.lo = search rules in
    let s : FitsSigned w64 c.args.second.now.hi = search rules in
    let a_fits : FitsSigned w64 c.min.result = record { sfits = c.min.type_inv } in
    let b_fits : FitsSigned w64 c.min-2.result = record { sfits = c.min-2.type_inv } in
    let d_fits : FitsSigned w64 c.max.result = record { sfits = c.max.type_inv } in
    let e_fits : FitsSigned w64 c.max-2.result = record { sfits = c.max-2.type_inv } in
    let low_fits : FitsSigned w64 c.min-3.result = record { sfits = c.min-3.type_inv } in
    let high_fits : FitsSigned w64 c.max-3.result = record { sfits = c.max-3.type_inv } in
    let a : c.min.result ≡ int_min c.args.first.now.lo c.args.first.now.hi = simp to_z-of_z at c.min.ensures.value in
    let b : c.min-2.result ≡ int_min c.args.second.now.lo c.args.second.now.hi = simp to_z-of_z at c.min-2.ensures.value in
    let d : c.max.result ≡ int_max c.args.first.now.lo c.args.first.now.hi = simp to_z-of_z at c.max.ensures.value in
    let e : c.max-2.result ≡ int_max c.args.second.now.lo c.args.second.now.hi = simp to_z-of_z at c.max-2.ensures.value in
    let low : c.min-3.result ≡ int_min c.min.result c.min-2.result = simp to_z-of_z at c.min-3.ensures.value in
    let high : c.max-3.result ≡ int_max c.max.result c.max-2.result = simp to_z-of_z at c.max-3.ensures.value in
    let given : SortGives c.between.result (allowed (ints c.min-3.result c.max-3.result)) = simp to_z-of_z at c.between.ensures in
    let ends : allowed (ints c.min-3.result c.max-3.result) ≡ allowed (ints (int_min c.min.result c.min-2.result) (int_max c.max.result c.max-2.result)) = λ i. allowed (ints (low i) (high i)) in
    subst (SortGives c.between.result) (ends ∙ (λ i. allowed (ints (int_min (a i) (b i)) (int_max (d i) (e i))))) given
