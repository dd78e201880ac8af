use Rattle.std.proofs.Common.{◌≡◌, Some, None, sym, ap, ◌∙◌, to_z, of_z, w64, FitsSigned, rules}
use Rattle.std.proofs.lemmas.Int.{to_z-of_z}
use Rattle.kid_value.specs.PlainValue.{int}
use Rattle.kid_value.specs.Rows.Kinds.{natural}
use Rattle.kid_value.specs.Rows.Word.{bits_below, key_at, lowest_or}
use Rattle.kid_ops.specs.Bits.{first_place}
use Rattle.kid_ops.proofs.BitLemmas.{lowest-some, lowest-none}
use Rattle.kid_ops.proofs.word.wleast.Goals as goal

pub returns-in-None : goal.returns-in-None
returns-in-None c =
    let x : FitsSigned w64 c.args.r = c.ranges.r in
    let y : FitsSigned w64 c.args.d = c.ranges.d in
    let p : c.natural.result ≡ natural c.args.r = simp to_z-of_z at c.natural.ensures in
    let d : to_z w64 (of_z w64 c.args.d) ≡ c.args.d = simp to_z-of_z in
    let e : first_place (bits_below 62 c.natural.result) ≡ None = sym c.lowest_bit.ensures.bit ∙ c.in-None.is in
    ap int (d ∙ sym (lowest-none c.args.lo c.args.d (bits_below 62 c.natural.result) e) ∙ (λ i. lowest_or c.args.lo (bits_below 62 (p i)) c.args.d))

pub returns-in-Some : goal.returns-in-Some
returns-in-Some c =
    let x : FitsSigned w64 c.args.r = c.ranges.r in
    let y : FitsSigned w64 c.args.lo = c.ranges.lo in
    let f : FitsSigned w64 c.number_at.result = search rules in
    let p : c.natural.result ≡ natural c.args.r = simp to_z-of_z at c.natural.ensures in
    let n : to_z w64 (of_z w64 c.number_at.result) ≡ c.number_at.result = simp to_z-of_z in
    let k : int c.number_at.result ≡ key_at c.args.lo c.in-Some.place = simp to_z-of_z at c.number_at.ensures in
    let e : first_place (bits_below 62 c.natural.result) ≡ Some c.in-Some.place = sym c.lowest_bit.ensures.bit ∙ c.in-Some.is in
    ap int n ∙ k ∙ ap int (sym (lowest-some c.args.lo c.args.d (bits_below 62 c.natural.result) c.in-Some.place e) ∙ (λ i. lowest_or c.args.lo (bits_below 62 (p i)) c.args.d))
