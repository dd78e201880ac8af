use Rattle.std.proofs.Common.{◌≡◌, ◌-◌, ◌*◌, ◌%◌, ◌^◌, ◌<◌, ◌≤◌, ℕ, pos, ap, ◌∙◌, arith, bit_and, w64}
use Rattle.std.proofs.lemmas.Int.{to_z_pos}
use Rattle.kid_ops.proofs.BitLemmas.{low_bits, low_bits-below, mask_is, power-le}
use Rattle.kid_ops.proofs.word.lowest_bits.Goals as goal

pub returns : goal.returns
returns c =
    let mask : ℕ = 1 * 2 ^ c.args.size % 18446744073709551616 - 1 in
    let e : mask ≡ 2 ^ c.args.size - 1 = mask_is c.args.size c.requires in
    let l : bit_and c.args.bits mask < 2 ^ c.args.size = low_bits-below c.args.bits c.args.size mask e in
    let p : 2 ^ c.args.size ≤ 4611686018427387904 = power-le c.args.size c.requires in
    to_z_pos w64 (bit_and c.args.bits mask) (omega arith) ∙ ap pos (low_bits c.args.bits c.args.size mask e)
