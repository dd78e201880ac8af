use Rattle.std.proofs.Common.{◌≡◌, ℤ, ◌+◌, ◌-◌, ◌<◌, ◌∷◌, [], ◌++◌, map, sym, ap, ◌∙◌, to_z, of_z, w64, FitsSigned, append_assoc, arith, rules}
use Rattle.std.specs.List.{range_with_len}
use Rattle.std.proofs.lemmas.Int.{to_z-of_z}
use Rattle.kid_value.specs.PlainValue.{int}
use Rattle.kid_value.specs.ValueMap.{lookup}
use Rattle.kid_value.specs.Rows.Word.{row_item, key_at}
use Rattle.kid_ops.proofs.BitLemmas.{range_next}
use Rattle.kid_ops.proofs.word.row_of.Goals as goal

pub loop-i-preserved : goal.loop-i-preserved
loop-i-preserved c =
    let lo : ℤ = to_z w64 (of_z w64 c.args.lo) in
    let l : c.loop-i.i < c.args.size = omega arith in
    let f : FitsSigned w64 c.number_at.result = search rules in
    let n : to_z w64 (of_z w64 c.number_at.result) ≡ c.number_at.result = simp to_z-of_z in
    let k : int (to_z w64 (of_z w64 c.number_at.result)) ≡ key_at lo c.loop-i.i = ap int n ∙ c.number_at.ensures in
    let e : c.push.new.self ≡ c.loop-i.items ++ row_item (lookup (key_at lo c.loop-i.i) c.args.entries.now) ∷ [] =
    c.in_ok-push.ensures.ok ∙ ap (λ z. c.loop-i.items ++ z ∷ []) (c.in_ok-row_item.ensures ∙ ap (λ z. row_item (lookup z c.args.entries.now)) k) in
    ap (λ z. z ++ map (λ i. row_item (lookup (key_at lo i) c.args.entries.now)) (range_with_len (c.loop-i.i + 1) (c.args.size - (c.loop-i.i + 1)))) e
    ∙ append_assoc c.loop-i.items (row_item (lookup (key_at lo c.loop-i.i) c.args.entries.now) ∷ []) _
    ∙ ap (λ z. c.loop-i.items ++ map (λ i. row_item (lookup (key_at lo i) c.args.entries.now)) z) (sym (range_next c.loop-i.i c.args.size l))
    ∙ c.loop-i.invariant
