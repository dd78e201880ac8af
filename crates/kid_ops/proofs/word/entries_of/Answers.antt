use Rattle.std.proofs.Common.{◌≡◌, ℤ, ◌+◌, ◌<◌, pos, ◌+ℤ◌, ◌∷◌, [], ◌++◌, Some, None, length, map, drop, subst, sym, ap, ◌∙◌, to_z, of_z, w64, FitsSigned, append_assoc, arith, rules}
use Rattle.std.proofs.lemmas.Int.{to_z-of_z}
use Rattle.kid_value.specs.PlainValue.{int}
use Rattle.kid_value.specs.ValueMap.{keys}
use Rattle.kid_value.specs.ValueSet.{Ascends}
use Rattle.kid_value.specs.ValueView.{plain}
use Rattle.kid_value.specs.Rows.Word.{entry_before, item_value, key_at, row_entries}
use Rattle.kid_value.proofs.RowCanonical.{Ascends-row_entries}
use Rattle.kid_ops.proofs.EntryViews.{pushable}
use Rattle.kid_ops.proofs.RowItems.{row_next}
use Rattle.kid_ops.proofs.word.entries_of.Goals as goal
use Rattle.kid_ops.proofs.word.entries_of.Goals.{in-Some+in_ok-value+in_ok-push, in_default}

pub push-requires : goal.push-requires
push-requires c =
    let lo : ℤ = to_z w64 (of_z w64 c.args.lo) in
    let l : c.loop-i.i < length c.args.items.now = omega arith in
    let f : FitsSigned w64 c.number_at.result = search rules in
    let n : to_z w64 (of_z w64 c.number_at.result) ≡ c.number_at.result = simp to_z-of_z in
    let k : int (to_z w64 (of_z w64 c.number_at.result)) ≡ key_at lo c.loop-i.i = ap int n ∙ c.number_at.ensures in
    let v : item_value (plain c.index-items-i.result) ≡ Some (plain c.in-Some.v.now) = c.in-Some.ensures in
    let s = row_next lo c.args.items.now c.loop-i.i c.index-items-i.result l c.index-items-i.is
    ∙ ap (λ o. entry_before (key_at lo c.loop-i.i) o (row_entries (lo +ℤ pos (c.loop-i.i + 1)) (map plain (drop (c.loop-i.i + 1) c.args.items.now)))) v in
    subst (λ z. Ascends (keys c.loop-i.entries ++ z ∷ [])) (sym k)
    (pushable c.loop-i.entries (key_at lo c.loop-i.i) (plain c.in-Some.v.now) (row_entries (lo +ℤ pos (c.loop-i.i + 1)) (map plain (drop (c.loop-i.i + 1) c.args.items.now)))
    (row_entries lo (map plain c.args.items.now)) (ap (λ z. c.loop-i.entries ++ z) (sym s) ∙ c.loop-i.invariant) (Ascends-row_entries lo (map plain c.args.items.now)))

pub loop-i-preserved : goal.loop-i-preserved
loop-i-preserved c =
    let lo : ℤ = to_z w64 (of_z w64 c.args.lo) in
    let l : c.loop-i.i < length c.args.items.now = omega arith in
    let r = row_next lo c.args.items.now c.loop-i.i c.index-items-i.result l c.index-items-i.is in
    elim c.match-value_held.branch [
      | in-Some+in_ok-value+in_ok-push w ↦
          let f : FitsSigned w64 w.number_at.result = search rules in
          let n : to_z w64 (of_z w64 w.number_at.result) ≡ w.number_at.result = simp to_z-of_z in
          let k : int (to_z w64 (of_z w64 w.number_at.result)) ≡ key_at lo c.loop-i.i = ap int n ∙ w.number_at.ensures in
          let v : item_value (plain c.index-items-i.result) ≡ Some (plain w.in-Some.v.now) = w.in-Some.ensures in
          let s = r ∙ ap (λ o. entry_before (key_at lo c.loop-i.i) o (row_entries (lo +ℤ pos (c.loop-i.i + 1)) (map plain (drop (c.loop-i.i + 1) c.args.items.now)))) v in
          let e : c.match-value_held.entries ≡ c.loop-i.entries ++ (key_at lo c.loop-i.i, plain w.in-Some.v.now) ∷ [] =
          w.entries-is ∙ w.in_ok-push.ensures.ok ∙ (λ i. c.loop-i.entries ++ (k i, w.in_ok-value.ensures i) ∷ []) in
          ap (λ z. z ++ row_entries (lo +ℤ pos (c.loop-i.i + 1)) (map plain (drop (c.loop-i.i + 1) c.args.items.now))) e
          ∙ append_assoc c.loop-i.entries ((key_at lo c.loop-i.i, plain w.in-Some.v.now) ∷ []) _
          ∙ ap (λ z. c.loop-i.entries ++ z) (sym s)
          ∙ c.loop-i.invariant
      | in_default w ↦
          let v : item_value (plain c.index-items-i.result) ≡ None = w.in_default.ensures in
          let s = r ∙ ap (λ o. entry_before (key_at lo c.loop-i.i) o (row_entries (lo +ℤ pos (c.loop-i.i + 1)) (map plain (drop (c.loop-i.i + 1) c.args.items.now)))) v in
          ap (λ z. z ++ row_entries (lo +ℤ pos (c.loop-i.i + 1)) (map plain (drop (c.loop-i.i + 1) c.args.items.now))) w.entries-is
          ∙ ap (λ z. c.loop-i.entries ++ z) (sym s)
          ∙ c.loop-i.invariant
    ]
