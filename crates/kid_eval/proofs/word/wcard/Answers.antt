use Rattle.std.proofs.Common.{◌≡◌, ◌∙◌, rules, FitsSigned, to_z, of_z, w64}
use Rattle.std.proofs.lemmas.Int.{to_z-of_z}
use Rattle.kid_value.specs.PlainValue.{int}
use Rattle.kid_value.specs.Rows.Word as rows
use Rattle.kid_eval.proofs.word.wcard.Goals as goal

pub returns-in-Int : goal.returns-in-Int
returns-in-Int c =
    let f : FitsSigned w64 c.wcard.result = search rules in
    let g : FitsSigned w64 c.in-Int.r = search rules in
    let e : int c.wcard.result ≡ rows.wcard (int c.in-Int.r) = simp to_z-of_z at c.wcard.ensures in
    let h : int (to_z w64 (of_z w64 c.wcard.result)) ≡ int c.wcard.result = simp to_z-of_z in
    rw c.in-Int.is (h ∙ e)
