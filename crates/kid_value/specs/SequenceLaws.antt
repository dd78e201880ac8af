-- The laws of sequences.
use Rattle.std.specs.Prelude.{◌≡◌, ◌↔◌, ℤ, pos, ◌+ℤ◌, ◌≤ℤ◌, true, List, [], ◌∷◌, ◌++◌}
use Rattle.kid_value.specs.Contents.{IsSequence, has}
use Rattle.kid_value.specs.PlainValue.{PlainValue, int}
use Rattle.kid_value.specs.Rows.Number.{add}
use Rattle.kid_value.specs.Rows.Parts.{truth_of, number_of, items_of}
use Rattle.kid_value.specs.Rows.Seq as rows
use Rattle.kid_value.specs.Rows.Set as set_rows
use Rattle.kid_value.specs.SequenceOrder.{IsLexicallyBefore}
use Rattle.kid_value.specs.SetLaws.{IsSubset}
use Rattle.kid_value.specs.ValueOrder.{Before}

abbrev pub IsPrefix : PlainValue → PlainValue → Type 0
IsPrefix v w = truth_of (rows.prefix v w) ≡ true

pub record SequenceLaws : Type 0 where
  -- two sequences of the same items are one
  pub same : (v w : PlainValue) → IsSequence v → IsSequence w → items_of v ≡ items_of w → v ≡ w
  -- a sequence with one more item
  pub snoc : (v x : PlainValue) → IsSequence v → items_of (rows.snoc v x) ≡ items_of v ++ x ∷ []
  pub len_snoc : (v x : PlainValue) → IsSequence v → rows.len (rows.snoc v x) ≡ add (rows.len v) (int (pos 1))
  pub items_snoc : (v x : PlainValue) → IsSequence v → rows.items (rows.snoc v x) ≡ set_rows.with x (rows.items v)
  pub total_snoc : (v x : PlainValue) → IsSequence v → number_of (rows.total (rows.snoc v x)) ≡ number_of (rows.total v) +ℤ number_of x
  pub at_snoc : (v x d : PlainValue) → IsSequence v → rows.at (rows.snoc v x) (add (rows.len v) (int (pos 1))) d ≡ x
  -- a prefix is followed by some items more
  pub prefix : (v w : PlainValue) → IsSequence v → IsSequence w → IsPrefix v w ↔ ((us : List PlainValue) × (items_of w ≡ items_of v ++ us))
  pub prefix_itself : (v : PlainValue) → IsSequence v → IsPrefix v v
  pub prefix_prefix : (u v w : PlainValue) → IsPrefix u v → IsPrefix v w → IsPrefix u w
  pub prefix_snoc : (v x : PlainValue) → IsSequence v → IsPrefix v (rows.snoc v x)
  -- what a prefix has in common with the whole
  pub len_prefix : (v w : PlainValue) → IsPrefix v w → number_of (rows.len v) ≤ℤ number_of (rows.len w)
  pub items_prefix : (v w : PlainValue) → IsPrefix v w → IsSubset (rows.items v) (rows.items w)
  pub total_prefix : (v w : PlainValue) → IsPrefix v w → ((x : PlainValue) → has x (rows.items w) ≡ true → pos 0 ≤ℤ number_of x) → number_of (rows.total v) ≤ℤ number_of (rows.total w)
  pub at_prefix : (v w d : PlainValue) (i : ℤ) → IsPrefix v w → pos 1 ≤ℤ i → i ≤ℤ number_of (rows.len v) → rows.at w (int i) d ≡ rows.at v (int i) d
  pub rest : (v w : PlainValue) (us : List PlainValue) → IsSequence v → IsSequence w → items_of w ≡ items_of v ++ us → items_of (rows.rest w (rows.len v)) ≡ us
  -- the order is lexicographic
  pub before : (v w : PlainValue) → IsSequence v → IsSequence w → IsLexicallyBefore Before (items_of v) (items_of w) → Before v w
