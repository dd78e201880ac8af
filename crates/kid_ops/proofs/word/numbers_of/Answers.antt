use Rattle.std.proofs.Common.{◌≡◌, pos, map, subst, sym, ap, ◌∙◌, to_z, of_z, w64, FitsSigned}
use Rattle.std.proofs.lemmas.Int.{to_z-of_z}
use Rattle.kid_value.specs.PlainValue.{int}
use Rattle.kid_value.specs.ValueSet.{Ascends}
use Rattle.kid_value.specs.Rows.Word.{bits_below, key_at}
use Rattle.kid_value.proofs.CanonicalLemmas.{ascends-set}
use Rattle.kid_value.proofs.RowCanonical.{IsCanonical-wdec}
use Rattle.kid_ops.proofs.BitLemmas.{bits_within}
use Rattle.kid_ops.proofs.word.numbers_of.Goals as goal

numbers-are : (c : goal.In_ok-values) → c.in_ok-values.values ≡ map (key_at c.args.lo) (bits_below c.args.size c.args.word)
numbers-are c =
    let f : FitsSigned w64 c.args.lo = c.ranges.lo in
    let x : to_z w64 (of_z w64 c.args.lo) ≡ c.args.lo = simp to_z-of_z in
    c.in_ok-values.ensures ∙ (λ i. map (key_at (x i)) (bits_below (c.min.ensures i) c.args.word)) ∙ ap (map (key_at c.args.lo)) (bits_within c.args.word c.args.size c.requires.word)

pub from_ascending-requires : goal.from_ascending-requires
from_ascending-requires c =
    subst Ascends (sym (numbers-are c))
    (ascends-set (map (key_at c.args.lo) (bits_below c.args.size c.args.word)) (IsCanonical-wdec (int c.args.lo) (int (pos c.args.size)) (int (pos c.args.word))))

pub returns : goal.returns
returns c =
    let f : FitsSigned w64 c.args.lo = c.ranges.lo in
    let x : to_z w64 (of_z w64 c.args.lo) ≡ c.args.lo = simp to_z-of_z in
    c.from_ascending.ensures ∙ c.in_ok-values.ensures ∙ (λ i. map (key_at (x i)) (bits_below (c.min.ensures i) c.args.word)) ∙ ap (map (key_at c.args.lo)) (bits_within c.args.word c.args.size c.requires.word)
