-- The sorts of the operators on words and rows. The lowest key and the number of keys are written as numbers.
use Rattle.std.specs.Prelude.{ℕ, zero, suc, ◌-◌, ◌^◌, ℤ, pos, ◌+ℤ◌, ◌-ℤ◌, Bool, true, false, ◌&&◌, int_le, nat_le, nat_lt, max, cond, List, Option, Some, None, Ok, Err}
use Rattle.std.specs.Int.{int_min}
use Rattle.kid_value.specs.PlainSort.{PlainSort, never, bools, ints, sets, seqs, maps}
use Rattle.kid_value.specs.SortOrder.{join}
use Rattle.kid_value.specs.Rows.Kinds.{natural}
use Rattle.kid_value.specs.Rows.Word.{word_size}
use Rattle.kid_term.specs.Sorted.{Fault, Kind, Bounds, Sorted, allowed, with_one, with_two, with_three, with_four, with_ints, with_set, with_map, with_join}
use Rattle.kid_term.specs.Written.{Numbers}
use Rattle.kid_term.specs.declared.operator.WordOp.{WordOp}
use Rattle.kid_term.specs.declared.operator.WordOp.TheVariants.{Wenc, Wdec, Wor, Wand, Wnot, Wcard, Win, Wleast, Renc, Rdec, Rget, Rput, Rdrop}

-- as many items a row that is made of a map may have
abbrev pub row_size : ℕ
row_size = 4096

-- what is made of a thing that is there, and the fault where it is not
abbrev pub given : {A : Type 0} → Fault → Option A → (A → Sorted) → Sorted
given fault None k = Err fault
given fault (Some x) k = k x

-- a number that is not below 1 and not above the most
abbrev pub count_in : ℕ → ℤ → Option ℕ
count_in most n = cond (int_le (pos 1) n && int_le n (pos most)) (Some (natural n)) None

-- the upper bound of a sort of words
abbrev pub word_bound : PlainSort → Option ℤ
word_bound (ints a b) = cond (int_le (pos 0) a && int_le b (pos 4611686018427387903)) (Some b) None
word_bound s = None

abbrev pub two_words : List PlainSort → (ℤ → ℤ → Sorted) → Sorted
two_words ss k = with_two ss (λ r s. given Kind (word_bound r) (λ b. given Kind (word_bound s) (k b)))

-- whether keys may have the sort, of which there may be none
abbrev pub are_keys : PlainSort → Bool
are_keys never = true
are_keys (ints lo hi) = true
are_keys a = false

abbrev pub with_keys : PlainSort → Sorted → Sorted
with_keys a r = cond (are_keys a) r (Err Kind)

-- the sort of a row's values, and how many items it may have
abbrev pub row_parts : PlainSort → Option (PlainSort × ℕ)
row_parts (seqs (seqs b m) n) = cond (nat_le m 1 && nat_le 1 n) (Some (b, n)) None
row_parts s = None

-- so many numbers from lo on
abbrev pub keys_from : ℤ → ℕ → PlainSort
keys_from lo n = ints lo ((lo +ℤ pos n) -ℤ pos 1)

-- the words of n bits
abbrev pub words : ℕ → PlainSort
words n = ints (pos 0) (pos (2 ^ n - 1))

-- as many bits as a number of at most so many has
abbrev pub bit_count : ℕ → ℕ → ℕ
bit_count zero n = 0
bit_count (suc k) n = cond (nat_lt n (2 ^ k)) (bit_count k n) (suc k)

-- the rows of n items of a sort
abbrev pub rows : PlainSort → ℕ → PlainSort
rows b n = seqs (seqs b 1) n

abbrev pub word_sort : WordOp → Numbers → List PlainSort → Sorted
word_sort Wenc ns ss = with_three ss (λ l c s. given Kind ns.0 (λ lo. given Kind ns.1 (λ k. with_set s (λ a. with_keys a (given Bounds (count_in word_size k) (λ n. allowed (words n)))))))
word_sort Wdec ns ss = with_three ss (λ l c r. given Kind ns.0 (λ lo. given Kind ns.1 (λ k. given Kind (word_bound r) (λ b. given Bounds (count_in word_size k) (λ n. allowed (sets (keys_from lo n)))))))
word_sort Wor ns ss = two_words ss (λ b d. allowed (words (bit_count word_size (max (natural b) (natural d)))))
word_sort Wand ns ss = two_words ss (λ b d. allowed (ints (pos 0) (int_min b d)))
word_sort Wnot ns ss = two_words ss (λ b d. allowed (ints (pos 0) b))
word_sort Wcard ns ss = with_one ss (λ r. given Kind (word_bound r) (λ b. allowed (ints (pos 0) (pos word_size))))
word_sort Win ns ss = with_three ss (λ l a r. given Kind ns.0 (λ lo. with_ints a (λ c d. given Kind (word_bound r) (λ b. Ok bools))))
word_sort Wleast ns ss = with_three ss (λ l d r. given Kind ns.0 (λ lo. given Kind (word_bound r) (λ b. with_join (join (keys_from lo word_size) d) allowed)))
word_sort Renc ns ss = with_three ss (λ l c m. given Kind ns.0 (λ lo. given Kind ns.1 (λ k. with_map m (λ a b. with_keys a (given Bounds (count_in row_size k) (λ n. allowed (rows b n)))))))
word_sort Rdec ns ss = with_two ss (λ l g. given Kind ns.0 (λ lo. given Kind (row_parts g) (λ p. allowed (maps (keys_from lo p.1) p.0))))
word_sort Rget ns ss = with_four ss (λ l g a d. given Kind ns.0 (λ lo. given Kind (row_parts g) (λ p. with_ints a (λ low high. with_join (join p.0 d) allowed))))
word_sort Rput ns ss = with_four ss (λ l g a x. given Kind ns.0 (λ lo. given Kind (row_parts g) (λ p. with_ints a (λ low high. with_join (join p.0 x) (λ e. allowed (rows e p.1))))))
word_sort Rdrop ns ss = with_three ss (λ l g a. given Kind ns.0 (λ lo. given Kind (row_parts g) (λ p. with_ints a (λ low high. allowed g))))
