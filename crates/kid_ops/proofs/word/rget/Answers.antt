use Rattle.std.proofs.Common.{◌≡◌, ◌-ℤ◌, IfOk, subst, sym, ap, ◌∙◌, w64, FitsSigned}
use Rattle.std.proofs.lemmas.Int.{to_z-of_z}
use Rattle.kid_value.specs.PlainValue.{int}
use Rattle.kid_value.specs.Rows.Word.{place_above, rget}
use Rattle.kid_value.specs.ValueView.{plain}
use Rattle.kid_value.proofs.RowLemmas.{items_row}
use Rattle.kid_ops.specs.RowItems.{value_of_row}
use Rattle.kid_ops.proofs.word.rget.Goals as goal

pub returns-in-Seq : goal.returns-in-Seq
returns-in-Seq c =
    let x : FitsSigned w64 c.args.lo = c.ranges.lo in
    let y : FitsSigned w64 c.args.a = c.ranges.a in
    let p : c.place_above.result ≡ place_above (c.args.a -ℤ c.args.lo) = simp to_z-of_z at c.place_above.ensures in
    subst (λ z. IfOk c.copy.result (λ v. plain v ≡ z))
    (c.value_at.ensures
    ∙ (λ i. value_of_row ((c.items.ensures.items ∙ sym (items_row c.in-Seq.items)) i) (p i) (plain c.args.d.now))
    ∙ ap (λ z. rget (int c.args.lo) (plain z) (int c.args.a) (plain c.args.d.now)) (sym c.in-Seq.is))
    c.copy.ensures
