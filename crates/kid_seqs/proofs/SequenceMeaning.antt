-- Sequences as values, by their items.
use Rattle.std.proofs.Common.{◌≡◌, ℕ, ◌≤◌, ◌<◌, pos, true, List, [], ◌∷◌, ◌++◌, length, drop, refl, sym, ap, ◌∙◌, subst, arith}
use Rattle.std.specs.Prelude.{◌&&◌, nat_le}
use Rattle.std.specs.List.{list_all}
use Rattle.std.proofs.Math.Seq.{drop-append_seam}
use Rattle.std.proofs.lemmas.Bool.Decides.{nat_tests}
use Rattle.std.proofs.lemmas.List.{length-append}
use Rattle.std.proofs.lemmas.List.Folds.{list_all-append}
use Rattle.kid_value.specs.InSort.{in_sort}
use Rattle.kid_value.specs.PlainSort.{PlainSort, seqs, has_sort}
use Rattle.kid_value.specs.PlainValue.{PlainValue, seq, int, none, row}
use Rattle.kid_value.specs.PlainValue as value
use Rattle.kid_value.specs.Rows.Parts.{truth_of}
use Rattle.kid_value.specs.Rows.Seq.{prefix, is_prefix, items, rest, len, snoc}
use Rattle.kid_value.specs.SequenceOrder.{IsLexicallyBefore}
use Rattle.kid_value.specs.ValueOrder.{value_cmp, seq_cmp, Before}
use Rattle.kid_value.specs.ValueSet.{is_member, Ascends, set_of}
use Rattle.kid_value.proofs.RowCanonical.{IsCanonical-snoc}
use Rattle.kid_value.proofs.RowLemmas.{items_row, row_items}
use Rattle.kid_value.proofs.RowMeaning.{is_member-set_of, is_prefix-append, append-is_prefix}
use Rattle.kid_value.proofs.SequenceOrderLaws.{seq_cmp-items, less-IsLexicallyBefore}
use Rattle.kid_value.proofs.ValueOrderLaws.{value_cmp-equal}
use Rattle.kid_value.proofs.ValueSetLaws.{value_cmp-itself}
use Rattle.kid_value.specs.ValueOrder.{value_cmp}
use Rattle.kid_value.proofs.SortLemmas.{and_parts, and_both}
use Rattle.kid_value.proofs.ValueSetLaws.{Ascends-union}
use Rattle.kid_search.proofs.SetMeaning.{has, IsSet, in_sort-is, in_sort-parts}

-- the items of a sequence
abbrev pub listed : PlainValue → List PlainValue
listed (seq vs) = value.items vs
listed v = []

abbrev pub IsSeq : PlainValue → Type 0
IsSeq (seq vs) = Unit {0}
IsSeq v = ⊥

pub in_sort-seq : (a : PlainSort) (n : ℕ) (v : PlainValue) → in_sort (seqs a n) v ≡ true → IsSeq v
in_sort-seq a n (seq vs) h = tt
in_sort-seq a n v h = cc

within : (m n : ℕ) → nat_le m n ≡ true → m ≤ n
within m n h = grind (arith, nat_tests)

test_within : (m n : ℕ) → m ≤ n → nat_le m n ≡ true
test_within m n h = grind (arith, nat_tests)

pub in_sort-length : (a : PlainSort) (n : ℕ) (v : PlainValue) → in_sort (seqs a n) v ≡ true → length (listed v) ≤ n
in_sort-length a n (seq vs) h =
    let p = in_sort-parts (seqs a n) (seq vs) h in within (length (value.items vs)) n (and_parts (nat_le (length (value.items vs)) n) (list_all (has_sort a) (value.items vs)) p.0).0
in_sort-length a n v h = cc

pub same_sequences : (v z : PlainValue) → IsSeq v → IsSeq z → listed v ≡ listed z → v ≡ z
same_sequences (seq vs) (seq zs) i j e = ap seq (sym (row_items vs) ∙ ap row e ∙ row_items zs)
same_sequences (seq vs) z i j e = absurd j
same_sequences v z i j e = absurd i

pub len-listed : (v : PlainValue) → IsSeq v → len v ≡ int (pos (length (listed v)))
len-listed (seq vs) i = refl
len-listed v i = absurd i

pub snoc-listed : (v x : PlainValue) → IsSeq v → listed (snoc v x) ≡ listed v ++ x ∷ []
snoc-listed (seq vs) x i = items_row (value.items vs ++ x ∷ [])
snoc-listed v x i = absurd i

pub prefix-listed : (v z : PlainValue) → IsSeq v → IsSeq z → truth_of (prefix v z) ≡ true → (us : List PlainValue) × (listed z ≡ listed v ++ us)
prefix-listed (seq vs) (seq zs) i j h = append-is_prefix (value.items vs) (value.items zs) h
prefix-listed (seq vs) z i j h = absurd j
prefix-listed v z i j h = absurd i

pub listed-prefix : (v z : PlainValue) (us : List PlainValue) → IsSeq v → IsSeq z → listed z ≡ listed v ++ us → truth_of (prefix v z) ≡ true
listed-prefix (seq vs) (seq zs) us i j e = ap (is_prefix (value.items vs)) e ∙ is_prefix-append (value.items vs) us
listed-prefix (seq vs) z us i j e = absurd j
listed-prefix v z us i j e = absurd i

pub items-set : (v : PlainValue) → IsSeq v → IsSet (items v)
items-set (seq vs) i = subst Ascends (sym (items_row (set_of (value.items vs)))) (Ascends-union (value.items vs) [] tt)
items-set v i = absurd i

pub rest-seq : (z v : PlainValue) → IsSeq z → IsSeq v → IsSeq (rest z (len v))
rest-seq (seq zs) (seq vs) i j = tt
rest-seq (seq zs) v i j = absurd j
rest-seq z v i j = absurd i

pub has-items : (x v : PlainValue) → IsSeq v → has x (items v) ≡ is_member x (listed v)
has-items x (seq vs) i = ap (is_member x) (items_row (set_of (value.items vs))) ∙ is_member-set_of x (value.items vs)
has-items x v i = absurd i

-- what follows a front
pub has-rest : (x z v : PlainValue) (us : List PlainValue) → IsSeq z → IsSeq v → listed z ≡ listed v ++ us → has x (items (rest z (len v))) ≡ is_member x us
has-rest x (seq zs) (seq vs) us i j e =
    has-items x (rest (seq zs) (len (seq vs))) tt
    ∙ ap (is_member x) (items_row (drop (length (value.items vs)) (value.items zs)) ∙ ap (drop (length (value.items vs))) e ∙ drop-append_seam (value.items vs) us)
has-rest x (seq zs) v us i j e = absurd j
has-rest x z v us i j e = absurd i

pub before-sequences : (v z : PlainValue) → IsSeq v → IsSeq z → IsLexicallyBefore Before (listed v) (listed z) → Before v z
before-sequences (seq vs) (seq zs) i j l = sym (λ k. seq_cmp (row_items vs k) (row_items zs k)) ∙ seq_cmp-items (value.items vs) (value.items zs) ∙ less-IsLexicallyBefore value_cmp value_cmp-equal value_cmp-itself (value.items vs) (value.items zs) l
before-sequences (seq vs) z i j l = absurd j
before-sequences v z i j l = absurd i

pub in_sort-snoc : (a : PlainSort) (n : ℕ) (v x : PlainValue) → in_sort (seqs a n) v ≡ true → in_sort a x ≡ true → length (listed v) < n → in_sort (seqs a n) (snoc v x) ≡ true
in_sort-snoc a n (seq vs) x h k l =
    let p = in_sort-parts (seqs a n) (seq vs) h in let q = in_sort-parts a x k in
    let r = and_parts (nat_le (length (value.items vs)) n) (list_all (has_sort a) (value.items vs)) p.0 in
    in_sort-is (seqs a n) (snoc (seq vs) x)
    (subst (λ us. (nat_le (length us) n && list_all (has_sort a) us) ≡ true) (sym (items_row (value.items vs ++ x ∷ [])))
    (and_both _ _ (test_within _ n (omega (arith, length-append (value.items vs) (x ∷ []))))
    (list_all-append (has_sort a) (value.items vs) (x ∷ []) ∙ and_both _ _ r.1 (and_both _ _ q.0 refl))))
    (IsCanonical-snoc (seq vs) x p.1 q.1)
in_sort-snoc a n v x h k l = cc
