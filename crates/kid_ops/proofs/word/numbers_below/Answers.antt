use Rattle.std.proofs.Common.{◌≡◌, ℤ, ◌+◌, ◌-◌, ◌<◌, ◌∷◌, [], ◌++◌, true, false, map, sym, ap, ◌∙◌, to_z, of_z, w64, FitsSigned, append_assoc, arith, rules}
use Rattle.std.specs.Prelude.{filter}
use Rattle.std.specs.List.{range_with_len}
use Rattle.std.proofs.lemmas.Int.{to_z-of_z}
use Rattle.kid_value.specs.PlainValue.{int}
use Rattle.kid_value.specs.Rows.Word.{has_bit, key_at}
use Rattle.kid_ops.proofs.BitLemmas.{bits_more, later_bits}
use Rattle.kid_ops.proofs.word.numbers_below.Goals as goal
use Rattle.kid_ops.proofs.word.numbers_below.Goals.{then-has_bit+in_ok-push, else-has_bit}

pub loop-i-preserved : goal.loop-i-preserved
loop-i-preserved c =
    let lo : ℤ = to_z w64 (of_z w64 c.args.lo) in
    let l : c.loop-i.i < c.args.size = omega arith in
    elim c.if-has_bit.branch [
      | then-has_bit+in_ok-push w ↦
          let f : FitsSigned w64 w.number_at.result = search rules in
          let n : to_z w64 (of_z w64 w.number_at.result) ≡ w.number_at.result = simp to_z-of_z in
          let k : int (to_z w64 (of_z w64 w.number_at.result)) ≡ key_at lo c.loop-i.i = ap int n ∙ w.number_at.ensures in
          let e : c.if-has_bit.values ≡ c.loop-i.values ++ key_at lo c.loop-i.i ∷ [] = w.values-is ∙ w.in_ok-push.ensures.ok ∙ ap (λ z. c.loop-i.values ++ z ∷ []) k in
          let p : has_bit c.args.word c.loop-i.i ≡ true = sym c.has_bit.ensures ∙ w.if-has_bit.true in
          ap (λ z. z ++ map (key_at lo) (filter (has_bit c.args.word) (range_with_len (c.loop-i.i + 1) (c.args.size - (c.loop-i.i + 1))))) e
          ∙ append_assoc c.loop-i.values (key_at lo c.loop-i.i ∷ []) _
          ∙ ap (λ z. c.loop-i.values ++ map (key_at lo) z) (sym (bits_more c.args.word c.loop-i.i c.args.size l p))
          ∙ c.loop-i.invariant
      | else-has_bit w ↦
          let p : has_bit c.args.word c.loop-i.i ≡ false = sym c.has_bit.ensures ∙ w.if-has_bit.false in
          ap (λ z. z ++ map (key_at lo) (filter (has_bit c.args.word) (range_with_len (c.loop-i.i + 1) (c.args.size - (c.loop-i.i + 1))))) w.values-is
          ∙ ap (λ z. c.loop-i.values ++ map (key_at lo) z) (sym (later_bits c.args.word c.loop-i.i c.args.size l p))
          ∙ c.loop-i.invariant
    ]
