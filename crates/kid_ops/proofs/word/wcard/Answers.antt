use Rattle.std.proofs.Common.{◌≡◌, ◌≤◌, pos, length, ap, ◌∙◌, arith, w64, FitsSigned}
use Rattle.std.proofs.lemmas.Int.{to_z-of_z, to_z_pos}
use Rattle.kid_value.specs.PlainValue.{int}
use Rattle.kid_value.specs.Rows.Kinds.{natural}
use Rattle.kid_value.specs.Rows.Word.{bits_below}
use Rattle.kid_ops.proofs.word.wcard.Goals as goal

pub returns : goal.returns
returns c =
    let x : FitsSigned w64 c.args.r = c.ranges.r in
    let p : c.natural.result ≡ natural c.args.r = simp to_z-of_z at c.natural.ensures in
    let l : c.count_bits.result ≤ 62 = c.count_bits.ensures.most in
    ap int (to_z_pos w64 c.count_bits.result (omega arith) ∙ ap pos (c.count_bits.ensures.count ∙ (λ i. length (bits_below 62 (p i)))))
