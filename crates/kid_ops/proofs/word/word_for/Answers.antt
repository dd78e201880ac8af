use Rattle.std.proofs.Common.{◌≡◌, ◌≤◌, pos, subst, sym, ap, ◌∙◌, to_z, of_z, w64, FitsSigned, arith}
use Rattle.std.proofs.lemmas.Int.{to_z-of_z, to_z_pos}
use Rattle.kid_value.specs.ValueSet.{is_member}
use Rattle.kid_value.specs.Rows.Word.{word_of, key_at}
use Rattle.kid_ops.proofs.BitLemmas.{word_cut}
use Rattle.kid_ops.proofs.word.word_for.Goals as goal
use Rattle.kid_ops.proofs.word.word_for.Goals.{After-bits_for}

word_is : (c : After-bits_for) → c.bits_for.result ≡ word_of (λ i. is_member (key_at c.args.lo i) c.args.members.now) c.args.size
word_is c =
    let f : FitsSigned w64 c.args.lo = c.ranges.lo in
    let x : to_z w64 (of_z w64 c.args.lo) ≡ c.args.lo = simp to_z-of_z in
    c.bits_for.ensures
    ∙ (λ j. word_of (λ i. is_member (key_at (x j) i) c.args.members.now) (c.min.ensures j))
    ∙ word_cut (λ i. is_member (key_at c.args.lo i) c.args.members.now) c.args.size c.requires.small

pub overflow_cast-result : goal.overflow_cast-result
overflow_cast-result c =
    let l : c.bits_for.result ≤ 4611686018427387904 = subst (λ z. z ≤ 4611686018427387904) (sym (word_is c)) c.requires.small in omega arith

pub returns : goal.returns
returns c =
    let l : c.bits_for.result ≤ 4611686018427387904 = subst (λ z. z ≤ 4611686018427387904) (sym (word_is c)) c.requires.small in
    to_z_pos w64 c.bits_for.result (omega arith) ∙ ap pos (word_is c)
