use Rattle.std.proofs.Common.{◌≡◌, ◌∙◌, rules, FitsSigned, to_z, of_z, w64}
use Rattle.std.proofs.lemmas.Int.{to_z-of_z}
use Rattle.kid_value.specs.PlainValue.{int}
use Rattle.kid_value.specs.Rows.Word as rows
use Rattle.kid_eval.proofs.word.wleast.Goals as goal

pub returns-in-Int-Int-Int : goal.returns-in-Int-Int-Int
returns-in-Int-Int-Int c =
    let f : FitsSigned w64 c.wleast.result = search rules in
    let g : FitsSigned w64 c.in-Int-Int-Int.lo = search rules in
    let k : FitsSigned w64 c.in-Int-Int-Int.d = search rules in
    let l : FitsSigned w64 c.in-Int-Int-Int.r = search rules in
    let e : int c.wleast.result ≡ rows.wleast (int c.in-Int-Int-Int.lo) (int c.in-Int-Int-Int.d) (int c.in-Int-Int-Int.r) = simp to_z-of_z at c.wleast.ensures in
    let h : int (to_z w64 (of_z w64 c.wleast.result)) ≡ int c.wleast.result = simp to_z-of_z in
    rw c.in-Int-Int-Int.is-0 (rw c.in-Int-Int-Int.is-1 (rw c.in-Int-Int-Int.is-2 (h ∙ e)))
