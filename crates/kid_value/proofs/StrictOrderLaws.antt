-- The comparison of two values tells which is before the other.
use Rattle.std.proofs.Common.{◌≡◌, ◌↔◌, ℕ, ◌<◌, ℤ, ◌<ℤ◌, true, false, List, Ordering, refl, sym, ap, ◌∙◌, ◌⊎◌, inl, inr, arith}
use Rattle.std.specs.declared.cmp.Ordering.TheVariants.{Less, Equal, Greater}
use Rattle.std.specs.Ordering.{ordering_then, ordering_reverse, nat_cmp, int_cmp}
use Rattle.std.proofs.lemmas.Int.{ints as int_rules}
use Rattle.std.proofs.lemmas.Bool.Decides.{nat_tests}
use Rattle.kid_value.specs.Canonical.{IsCanonical}
use Rattle.kid_value.specs.NameSet.{name_cmp}
use Rattle.kid_value.specs.PlainValue.{PlainValue, int, bool, pair, set, seq, map_of, tag, items, entries}
use Rattle.kid_value.specs.ValueOrder.{value_cmp, seq_cmp, set_cmp, map_cmp, kind_rank, Before}
use Rattle.kid_value.specs.SequenceOrder.{IsLexicallyBefore}
use Rattle.kid_value.specs.StrictOrder.{IsBefore}
use Rattle.kid_value.proofs.NameLemmas.{byte_ties, byte_itself}
use Rattle.kid_value.proofs.RowLemmas.{row_items, table_entries}
use Rattle.kid_value.proofs.ValueOrderLaws.{value_cmp-total, value_cmp-equal}
use Rattle.kid_value.proofs.ValueSetLaws.{value_cmp-itself}
use Rattle.kid_value.proofs.SetOrderLaws.{LacksLeast-less, less-LacksLeast}
use Rattle.kid_value.proofs.MapOrderLaws.{IsLowerFirst-less, less-IsLowerFirst}
use Rattle.kid_value.proofs.SequenceOrderLaws.{seq_cmp-items, IsLexicallyBefore-less, less-IsLexicallyBefore}

int_less : (m n : ℤ) → int_cmp m n ≡ Less → m <ℤ n
int_less m n h = grind (arith, int_rules)

less_int : (m n : ℤ) → m <ℤ n → int_cmp m n ≡ Less
less_int m n h = grind (arith, int_rules)

rank_less : (m n : ℕ) → nat_cmp m n ≡ Less → m < n
rank_less m n h = grind (arith, nat_tests)

less_rank : (m n : ℕ) → m < n → nat_cmp m n ≡ Less
less_rank m n h = grind (arith, nat_tests)

pair_before : (a b c d : PlainValue) → Before (pair a b) (pair c d) → Before a c ⊎ ((a ≡ c) × Before b d)
pair_before a b c d p = by_cases (value_cmp a c) refl p
  where
    by_cases : (o : Ordering) → value_cmp a c ≡ o → ordering_then o (value_cmp b d) ≡ Less → Before a c ⊎ ((a ≡ c) × Before b d)
    by_cases Less e q = inl e
    by_cases Equal e q = inr (value_cmp-equal a c e, q)
    by_cases Greater e q = cc

before_pair : (a b c d : PlainValue) → Before a c ⊎ ((a ≡ c) × Before b d) → Before (pair a b) (pair c d)
before_pair a b c d (inl p) = ap (λ o. ordering_then o (value_cmp b d)) p
before_pair a b c d (inr p) = ap (λ o. ordering_then o (value_cmp b d)) (ap (value_cmp a) (sym p.0) ∙ value_cmp-itself a) ∙ p.1

-- a lesser byte, by the comparison and by the numbers
lesser_byte : (m n : List ℕ) → IsLexicallyBefore (λ x y. nat_cmp x y ≡ Less) m n → IsLexicallyBefore (λ x y. x < y) m n
lesser_byte m n (inl p) = inl p
lesser_byte m n (inr l) = inr (record {
  front = l.front;
  lesser = l.lesser;
  greater = l.greater;
  first_rest = l.first_rest;
  second_rest = l.second_rest;
  first = l.first;
  second = l.second;
  before = rank_less l.lesser l.greater l.before;
})

compared_byte : (m n : List ℕ) → IsLexicallyBefore (λ x y. x < y) m n → IsLexicallyBefore (λ x y. nat_cmp x y ≡ Less) m n
compared_byte m n (inl p) = inl p
compared_byte m n (inr l) = inr (record {
  front = l.front;
  lesser = l.lesser;
  greater = l.greater;
  first_rest = l.first_rest;
  second_rest = l.second_rest;
  first = l.first;
  second = l.second;
  before = less_rank l.lesser l.greater l.before;
})

name_less : (m n : List ℕ) → name_cmp m n ≡ Less → IsLexicallyBefore (λ x y. x < y) m n
name_less m n p = lesser_byte m n (IsLexicallyBefore-less nat_cmp byte_ties byte_itself m n p)

less_name : (m n : List ℕ) → IsLexicallyBefore (λ x y. x < y) m n → name_cmp m n ≡ Less
less_name m n l = less-IsLexicallyBefore nat_cmp byte_ties byte_itself m n (compared_byte m n l)

-- a value is before another exactly where the comparison answers less
pub before-is : (v w : PlainValue) → IsCanonical v → IsCanonical w → (value_cmp v w ≡ Less) ↔ IsBefore v w
before-is (int m) (int n) c d = (int_less m n, less_int m n)
before-is (bool false) (bool false) c d = (λ p. cc, λ p. cc)
before-is (bool false) (bool true) c d = (λ p. (refl, refl), λ p. refl)
before-is (bool true) (bool false) c d = (λ p. cc, λ p. cc)
before-is (bool true) (bool true) c d = (λ p. cc, λ p. cc)
before-is (pair a b) (pair e f) c d = (pair_before a b e f, before_pair a b e f)
before-is (set vs) (set ws) c d = (
  λ p. LacksLeast-less (items vs) (items ws) c.0 d.0 ((λ i. set_cmp (row_items vs i) (row_items ws i)) ∙ p),
  λ l. sym (λ i. set_cmp (row_items vs i) (row_items ws i)) ∙ less-LacksLeast (items vs) (items ws) c.0 d.0 l,
)
before-is (seq vs) (seq ws) c d = (
  λ p. IsLexicallyBefore-less value_cmp value_cmp-equal value_cmp-itself (items vs) (items ws) (sym (seq_cmp-items (items vs) (items ws)) ∙ (λ i. seq_cmp (row_items vs i) (row_items ws i)) ∙ p),
  λ l. sym (λ i. seq_cmp (row_items vs i) (row_items ws i)) ∙ seq_cmp-items (items vs) (items ws) ∙ less-IsLexicallyBefore value_cmp value_cmp-equal value_cmp-itself (items vs) (items ws) l,
)
before-is (map_of m) (map_of n) c d = (
  λ p. IsLowerFirst-less (entries m) (entries n) c.0 d.0 ((λ i. map_cmp (table_entries m i) (table_entries n i)) ∙ p),
  λ l. sym (λ i. map_cmp (table_entries m i) (table_entries n i)) ∙ less-IsLowerFirst (entries m) (entries n) c.0 d.0 l,
)
before-is (tag m) (tag n) c d = (name_less m n, less_name m n)
before-is v w c d = (rank_less (kind_rank v) (kind_rank w), less_rank (kind_rank v) (kind_rank w))

pub equal-is : (v w : PlainValue) → (value_cmp v w ≡ Equal) ↔ (v ≡ w)
equal-is v w = (value_cmp-equal v w, λ e. ap (value_cmp v) (sym e) ∙ value_cmp-itself v)

-- the comparison the other way round
pub greater-is : (v w : PlainValue) → IsCanonical v → IsCanonical w → (value_cmp v w ≡ Greater) ↔ IsBefore w v
greater-is v w c d =
    let h = before-is w v d c in (
      λ p. h.0 (value_cmp-total.antisymm w v ∙ ap ordering_reverse p),
      λ b. value_cmp-total.antisymm v w ∙ ap ordering_reverse (h.1 b),
    )
