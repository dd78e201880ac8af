use Rattle.std.proofs.Common.{◌≡◌, pos, ap, ◌∙◌, to_z, of_z, w64, FitsSigned, rules}
use Rattle.std.specs.Prelude.{◌&&◌}
use Rattle.std.proofs.lemmas.Int.{to_z-of_z}
use Rattle.kid_value.specs.PlainValue.{int}
use Rattle.kid_value.specs.Rows.Kinds.{natural}
use Rattle.kid_value.specs.Rows.Word.{has_bit, word_of}
use Rattle.kid_ops.proofs.BitLemmas.{word_and}
use Rattle.kid_ops.proofs.word.wand.Goals as goal

pub returns : goal.returns
returns c =
    let x : FitsSigned w64 c.args.r = c.ranges.r in
    let y : FitsSigned w64 c.args.s = c.ranges.s in
    let f : FitsSigned w64 c.lowest_bits.result = search rules in
    let e : to_z w64 (of_z w64 c.lowest_bits.result) ≡ c.lowest_bits.result = simp to_z-of_z in
    let p : c.natural.result ≡ natural c.args.r = simp to_z-of_z at c.natural.ensures in
    let q : c.natural-2.result ≡ natural c.args.s = simp to_z-of_z at c.natural-2.ensures in
    ap int (e ∙ c.lowest_bits.ensures ∙ ap pos (word_and c.natural.result c.natural-2.result 62 ∙ (λ i. word_of (λ k. has_bit (p i) k && has_bit (q i) k) 62)))
