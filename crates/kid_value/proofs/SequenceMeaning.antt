-- Sequences by their items.
use Rattle.std.proofs.Common.{◌≡◌, ◌↔◌, ◌+◌, ◌<◌, zero, suc, ℤ, pos, negsuc, ◌+ℤ◌, ◌≤ℤ◌, true, List, [], ◌∷◌, ◌++◌, ℕ, length, refl, sym, ap, ◌∙◌, arith, append_assoc, append-nil}
use Rattle.std.specs.Prelude.{◌||◌, drop}
use Rattle.std.proofs.Math.Seq.{drop-append_seam}
use Rattle.std.proofs.lemmas.Int.{ints as int_rules}
use Rattle.std.proofs.lemmas.List.{get_or_append_left, get_or_push, length-append}
use Rattle.kid_value.specs.Contents.{IsSequence, has}
use Rattle.kid_value.specs.PlainValue.{PlainValue, int, seq, row, items}
use Rattle.kid_value.specs.Rows.Kinds.{set_from}
use Rattle.kid_value.specs.Rows.Number.{add}
use Rattle.kid_value.specs.Rows.Parts.{number_of, items_of, total}
use Rattle.kid_value.specs.Rows.Seq as rows
use Rattle.kid_value.specs.Rows.Seq.{is_prefix, item_at}
use Rattle.kid_value.specs.Rows.Set as set_rows
use Rattle.kid_value.specs.SequenceLaws.{IsPrefix, SequenceLaws}
use Rattle.kid_value.specs.SequenceOrder.{IsLexicallyBefore}
use Rattle.kid_value.specs.SetLaws.{IsSubset}
use Rattle.kid_value.specs.ValueOrder.{value_cmp, seq_cmp, Before}
use Rattle.kid_value.specs.ValueSet.{is_member, put, set_of}
use Rattle.kid_value.proofs.MemberLemmas.{or_right, is_member-append, member-all_pass, set_of-snoc, total-append, total-not_negative}
use Rattle.kid_value.proofs.RowLemmas.{items_row, row_items}
use Rattle.kid_value.proofs.RowMeaning.{is_member-set_of, is_prefix-append, append-is_prefix}
use Rattle.kid_value.proofs.SequenceOrderLaws.{seq_cmp-items, less-IsLexicallyBefore}
use Rattle.kid_value.proofs.ValueOrderLaws.{value_cmp-equal}
use Rattle.kid_value.proofs.ValueSetLaws.{value_cmp-itself}

same_sequences : (v w : PlainValue) → IsSequence v → IsSequence w → items_of v ≡ items_of w → v ≡ w
same_sequences (seq vs) (seq ws) i j e = ap seq (sym (row_items vs) ∙ ap row e ∙ row_items ws)
same_sequences (seq vs) w i j e = absurd j
same_sequences v w i j e = absurd i

-- ---- one item more

snoc_items : (v x : PlainValue) → IsSequence v → items_of (rows.snoc v x) ≡ items_of v ++ x ∷ []
snoc_items (seq vs) x i = items_row (items vs ++ x ∷ [])
snoc_items v x i = absurd i

next_place : (n : ℕ) → pos n +ℤ pos 1 ≡ pos (suc n)
next_place n = omega (arith, int_rules)

len_more : (v x : PlainValue) → IsSequence v → rows.len (rows.snoc v x) ≡ add (rows.len v) (int (pos 1))
len_more (seq vs) x i =
    let e : length (items (row (items vs ++ x ∷ []))) ≡ length (items vs) + 1 = ap length (items_row (items vs ++ x ∷ [])) ∙ length-append (items vs) (x ∷ []) in
    ap int (ap (λ n. pos n) e ∙ omega (arith, int_rules))
len_more v x i = absurd i

items_more : (v x : PlainValue) → IsSequence v → rows.items (rows.snoc v x) ≡ set_rows.with x (rows.items v)
items_more (seq vs) x i =
    ap (λ z. set_from (set_of z)) (items_row (items vs ++ x ∷ [])) ∙ ap set_from (set_of-snoc (items vs) x) ∙ ap (λ z. set_from (put x z)) (sym (items_row (set_of (items vs))))
items_more v x i = absurd i

total_more : (v x : PlainValue) → IsSequence v → number_of (rows.total (rows.snoc v x)) ≡ number_of (rows.total v) +ℤ number_of x
total_more (seq vs) x i = ap total (items_row (items vs ++ x ∷ [])) ∙ total-append (items vs) (x ∷ []) ∙ omega (arith, int_rules)
total_more v x i = absurd i

at_last : (v x d : PlainValue) → IsSequence v → rows.at (rows.snoc v x) (add (rows.len v) (int (pos 1))) d ≡ x
at_last (seq vs) x d i = (λ k. item_at (items_row (items vs ++ x ∷ []) k) (next_place (length (items vs)) k) d) ∙ get_or_push (items vs) x d (length (items vs)) refl
at_last v x d i = absurd i

-- ---- prefixes

prefix_told : (v w : PlainValue) → IsSequence v → IsSequence w → IsPrefix v w ↔ ((us : List PlainValue) × (items_of w ≡ items_of v ++ us))
prefix_told (seq vs) (seq ws) i j = (λ h. append-is_prefix (items vs) (items ws) h, λ r. ap (is_prefix (items vs)) r.1 ∙ is_prefix-append (items vs) r.0)
prefix_told (seq vs) w i j = absurd j
prefix_told v w i j = absurd i

prefix_itself : (v : PlainValue) → IsSequence v → IsPrefix v v
prefix_itself (seq vs) i = itself (items vs)
  where
    itself : (us : List PlainValue) → is_prefix us us ≡ true
    itself us = ap (is_prefix us) (sym (append-nil us)) ∙ is_prefix-append us []
prefix_itself v i = absurd i

prefix_prefix : (u v w : PlainValue) → IsPrefix u v → IsPrefix v w → IsPrefix u w
prefix_prefix (seq us) (seq vs) (seq ws) h k =
    let r = append-is_prefix (items us) (items vs) h in
    let s = append-is_prefix (items vs) (items ws) k in
    ap (is_prefix (items us)) (s.1 ∙ ap (λ z. z ++ s.0) r.1 ∙ append_assoc (items us) r.0 s.0) ∙ is_prefix-append (items us) (r.0 ++ s.0)
prefix_prefix (seq us) (seq vs) w h k = cc
prefix_prefix (seq us) v w h k = cc
prefix_prefix u v w h k = cc

prefix_more : (v x : PlainValue) → IsSequence v → IsPrefix v (rows.snoc v x)
prefix_more (seq vs) x i = ap (is_prefix (items vs)) (items_row (items vs ++ x ∷ [])) ∙ is_prefix-append (items vs) (x ∷ [])
prefix_more v x i = absurd i

len_within : (v w : PlainValue) → IsPrefix v w → number_of (rows.len v) ≤ℤ number_of (rows.len w)
len_within (seq vs) (seq ws) h =
    let r = append-is_prefix (items vs) (items ws) h in
    let e : length (items ws) ≡ length (items vs) + length r.0 = ap length r.1 ∙ length-append (items vs) r.0 in omega (arith, int_rules)
len_within (seq vs) w h = cc
len_within v w h = cc

items_within : (v w : PlainValue) → IsPrefix v w → IsSubset (rows.items v) (rows.items w)
items_within (seq vs) (seq ws) h =
    let r = append-is_prefix (items vs) (items ws) h in
    member-all_pass (λ x. is_member x (items (row (set_of (items ws))))) (items (row (set_of (items vs))))
    (λ x m. ap (is_member x) (items_row (set_of (items ws))) ∙ is_member-set_of x (items ws) ∙ ap (is_member x) r.1 ∙ is_member-append x (items vs) r.0
    ∙ ap (λ b. b || is_member x r.0) (sym (is_member-set_of x (items vs)) ∙ ap (is_member x) (sym (items_row (set_of (items vs)))) ∙ m))
items_within (seq vs) w h = cc
items_within v w h = cc

total_within : (v w : PlainValue) → IsPrefix v w → ((x : PlainValue) → has x (rows.items w) ≡ true → pos 0 ≤ℤ number_of x) → number_of (rows.total v) ≤ℤ number_of (rows.total w)
total_within (seq vs) (seq ws) h p =
    let r = append-is_prefix (items vs) (items ws) h in
    let e : total (items ws) ≡ total (items vs) +ℤ total r.0 = ap total r.1 ∙ total-append (items vs) r.0 in
    let n = total-not_negative r.0 (λ x m. p x (ap (is_member x) (items_row (set_of (items ws))) ∙ is_member-set_of x (items ws) ∙ ap (is_member x) r.1 ∙ is_member-append x (items vs) r.0 ∙ or_right (is_member x (items vs)) (is_member x r.0) m)) in
    omega (arith, int_rules)
total_within (seq vs) w h p = cc
total_within v w h p = cc

at_within : (v w d : PlainValue) (i : ℤ) → IsPrefix v w → pos 1 ≤ℤ i → i ≤ℤ number_of (rows.len v) → rows.at w (int i) d ≡ rows.at v (int i) d
at_within (seq vs) (seq ws) d (pos zero) h l m = absurd (omega (arith, int_rules))
at_within (seq vs) (seq ws) d (pos (suc n)) h l m =
    let r = append-is_prefix (items vs) (items ws) h in
    let below : n < length (items vs) = omega (arith, int_rules) in
    ap (λ z. item_at z (pos (suc n)) d) r.1 ∙ get_or_append_left (items vs) r.0 d n below
at_within (seq vs) (seq ws) d (negsuc n) h l m = absurd (omega (arith, int_rules))
at_within (seq vs) w d i h l m = cc
at_within v w d i h l m = cc

rest_items : (v w : PlainValue) (us : List PlainValue) → IsSequence v → IsSequence w → items_of w ≡ items_of v ++ us → items_of (rows.rest w (rows.len v)) ≡ us
rest_items (seq vs) (seq ws) us i j e = items_row (drop (length (items vs)) (items ws)) ∙ ap (drop (length (items vs))) e ∙ drop-append_seam (items vs) us
rest_items (seq vs) w us i j e = absurd j
rest_items v w us i j e = absurd i

before_sequence : (v w : PlainValue) → IsSequence v → IsSequence w → IsLexicallyBefore Before (items_of v) (items_of w) → Before v w
before_sequence (seq vs) (seq ws) i j l = sym (λ k. seq_cmp (row_items vs k) (row_items ws k)) ∙ seq_cmp-items (items vs) (items ws) ∙ less-IsLexicallyBefore value_cmp value_cmp-equal value_cmp-itself (items vs) (items ws) l
before_sequence (seq vs) w i j l = absurd j
before_sequence v w i j l = absurd i

pub laws : SequenceLaws
laws =
    record {
      same = same_sequences;
      snoc = snoc_items;
      len_snoc = len_more;
      items_snoc = items_more;
      total_snoc = total_more;
      at_snoc = at_last;
      prefix = prefix_told;
      prefix_itself = prefix_itself;
      prefix_prefix = prefix_prefix;
      prefix_snoc = prefix_more;
      len_prefix = len_within;
      items_prefix = items_within;
      total_prefix = total_within;
      at_prefix = at_within;
      rest = rest_items;
      before = before_sequence;
    }
