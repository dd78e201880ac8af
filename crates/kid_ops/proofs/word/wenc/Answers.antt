use Rattle.std.proofs.Common.{◌≡◌, ◌≤◌, true, pos, subst, sym, ap, ◌∙◌, to_z, of_z, w64, FitsSigned, rules}
use Rattle.std.proofs.lemmas.Int.{to_z-of_z}
use Rattle.kid_value.specs.SortLimits.{in_limits}
use Rattle.kid_value.specs.PlainValue.{int}
use Rattle.kid_value.specs.ValueSet.{is_member}
use Rattle.kid_value.specs.ValueView.{plain}
use Rattle.kid_value.specs.Rows.Kinds.{natural}
use Rattle.kid_value.specs.Rows.Parts.{number_of}
use Rattle.kid_value.specs.Rows.Word.{word_of, key_at, wenc}
use Rattle.kid_value.proofs.RowLemmas.{items_row}
use Rattle.kid_ops.proofs.BitLemmas.{small_word}
use Rattle.kid_ops.proofs.word.wenc.Goals as goal

pub word_for-requires-clause-small : goal.word_for-requires-clause-small
word_for-requires-clause-small c =
    let f : FitsSigned w64 c.args.lo = c.ranges.lo in
    let g : FitsSigned w64 c.args.k = c.ranges.k in
    let x : to_z w64 (of_z w64 c.args.lo) ≡ c.args.lo = simp to_z-of_z in
    let p : c.natural.result ≡ natural c.args.k = simp to_z-of_z at c.natural.ensures in
    let q : in_limits (pos (word_of (λ i. is_member (key_at c.args.lo i) c.in-Set.members) (natural c.args.k))) ≡ true =
    subst (λ z. in_limits (pos (word_of (λ i. is_member (key_at c.args.lo i) z) (natural c.args.k))) ≡ true) (items_row c.in-Set.members)
    (subst (λ z. in_limits (number_of (wenc (int c.args.lo) (int c.args.k) (plain z))) ≡ true) c.in-Set.is c.requires.small) in
    subst (λ z. z ≤ 4611686018427387904) (λ j. word_of (λ i. is_member (key_at (sym x j) i) c.in-Set.members) (sym p j)) (small_word _ q)

pub returns-in-Set : goal.returns-in-Set
returns-in-Set c =
    let f : FitsSigned w64 c.args.lo = c.ranges.lo in
    let g : FitsSigned w64 c.args.k = c.ranges.k in
    let h : FitsSigned w64 c.word_for.result = search rules in
    let x : to_z w64 (of_z w64 c.args.lo) ≡ c.args.lo = simp to_z-of_z in
    let n : to_z w64 (of_z w64 c.word_for.result) ≡ c.word_for.result = simp to_z-of_z in
    let p : c.natural.result ≡ natural c.args.k = simp to_z-of_z at c.natural.ensures in
    ap int (n ∙ c.word_for.ensures ∙ ap pos ((λ j. word_of (λ i. is_member (key_at (x j) i) c.in-Set.members) (p j)) ∙ (λ j. word_of (λ i. is_member (key_at c.args.lo i) (sym (items_row c.in-Set.members) j)) (natural c.args.k))))
    ∙ ap (λ z. wenc (int c.args.lo) (int c.args.k) (plain z)) (sym c.in-Set.is)
