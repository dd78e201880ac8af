-- The order of values is total and agrees with equality.
-- A value has a key, a list of numbers, and values are ordered as their keys are. A list's order is total by std.
use Rattle.std.proofs.Common.{◌≡◌, ℕ, ℤ, pos, negsuc, Bool, true, false, List, [], ◌∷◌, Ordering, refl, sym, ap, ◌∙◌, arith, zero, suc, cond}
use Rattle.std.specs.Prelude.{not, int_lt}
use Rattle.std.proofs.Math.IntN.{neg_ℤ}
use Rattle.std.specs.declared.cmp.Ordering.TheVariants.{Less, Equal, Greater}
use Rattle.std.specs.Ordering.{ordering_then, ordering_reverse, nat_cmp, int_cmp, bool_cmp, on}
use Rattle.std.specs.Cmp.{IsTotalOrder}
use Rattle.std.specs.Cmp.Lexicographic.{slice_cmp}
use Rattle.std.proofs.lemmas.Cmp.{on_total, lists_total, int_cmp_total, int_ranked, tied_itself}
use Rattle.std.proofs.lemmas.Bool.Decides.{nat_tests}
use Rattle.kid_value.specs.NameSet.{name_cmp}
use Rattle.kid_value.specs.PlainValue.{PlainValue, int, bool, pair, set, seq, map_of, tag, PlainValues, none, more, PlainEntries, no_entry, entry}
use Rattle.kid_value.specs.ValueOrder.{value_cmp, seq_cmp, set_cmp, map_cmp}
use Rattle.kid_value.proofs.NameLemmas.{name_cmp-equal}

-- a number, or its opposite
abbrev signed : Bool → ℤ → ℤ
signed false n = n
signed true n = neg_ℤ n

-- an outcome, or its opposite
abbrev turned : Bool → Ordering → Ordering
turned false o = o
turned true o = ordering_reverse o

abbrev bit : Bool → ℤ
bit b = cond b (pos 1) (pos 0)

abbrev name_key : List ℕ → Bool → List ℤ → List ℤ
name_key [] s r = signed s (pos 0) ∷ r
name_key (n ∷ ns) s r = signed s (pos 1) ∷ signed s (pos n) ∷ name_key ns s r

abbrev mutual
  key : PlainValue → Bool → List ℤ → List ℤ
  key (int n) s r = signed s (pos 0) ∷ signed s n ∷ r
  key (bool b) s r = signed s (pos 1) ∷ signed s (bit b) ∷ r
  key (pair a b) s r = signed s (pos 2) ∷ key a s (key b s r)
  key (set vs) s r = signed s (pos 3) ∷ set_key vs s r
  key (seq vs) s r = signed s (pos 4) ∷ seq_key vs s r
  key (map_of m) s r = signed s (pos 5) ∷ map_key m s r
  key (tag n) s r = signed s (pos 6) ∷ name_key n s r

  seq_key : PlainValues → Bool → List ℤ → List ℤ
  seq_key none s r = signed s (pos 0) ∷ r
  seq_key (more v vs) s r = signed s (pos 1) ∷ key v s (seq_key vs s r)

  set_key : PlainValues → Bool → List ℤ → List ℤ
  set_key none s r = signed s (pos 0) ∷ r
  set_key (more v vs) s r = signed s (pos 1) ∷ key v (not s) (set_key vs s r)

  map_key : PlainEntries → Bool → List ℤ → List ℤ
  map_key no_entry s r = signed s (pos 0) ∷ r
  map_key (entry k v m) s r = signed s (pos 1) ∷ key k (not s) (key v s (map_key m s r))

abbrev cmp_keys : List ℤ → List ℤ → Ordering
cmp_keys = slice_cmp int_cmp

then-turned : (s : Bool) (x y z : Ordering) → ordering_then (turned s x) (ordering_then (turned s y) z) ≡ ordering_then (turned s (ordering_then x y)) z
then-turned false Less y z = refl
then-turned false Equal y z = refl
then-turned false Greater y z = refl
then-turned true Less y z = refl
then-turned true Equal y z = refl
then-turned true Greater y z = refl

then-turned-set : (s : Bool) (x y z : Ordering) → ordering_then (turned (not s) x) (ordering_then (turned s y) z) ≡ ordering_then (turned s (ordering_then (ordering_reverse x) y)) z
then-turned-set false Less y z = refl
then-turned-set false Equal y z = refl
then-turned-set false Greater y z = refl
then-turned-set true Less y z = refl
then-turned-set true Equal y z = refl
then-turned-set true Greater y z = refl

lt-neg : (m n : ℤ) → int_lt (neg_ℤ m) (neg_ℤ n) ≡ int_lt n m
lt-neg (pos zero) (pos zero) = refl
lt-neg (pos zero) (pos (suc n)) = grind (arith, nat_tests)
lt-neg (pos zero) (negsuc n) = grind (arith, nat_tests)
lt-neg (pos (suc m)) (pos zero) = grind (arith, nat_tests)
lt-neg (pos (suc m)) (pos (suc n)) = grind (arith, nat_tests)
lt-neg (pos (suc m)) (negsuc n) = refl
lt-neg (negsuc m) (pos zero) = grind (arith, nat_tests)
lt-neg (negsuc m) (pos (suc n)) = refl
lt-neg (negsuc m) (negsuc n) = grind (arith, nat_tests)

neg-cmp : (m n : ℤ) → int_cmp (neg_ℤ m) (neg_ℤ n) ≡ int_cmp n m
neg-cmp m n = rw (lt-neg m n, lt-neg n m) refl

signed-cmp : (s : Bool) (m n : ℤ) (z : Ordering) → ordering_then (int_cmp (signed s m) (signed s n)) z ≡ ordering_then (turned s (int_cmp m n)) z
signed-cmp false m n z = refl
signed-cmp true m n z = ap (λ o. ordering_then o z) (neg-cmp m n ∙ int_cmp_total.antisymm n m)

bits-cmp : (s a b : Bool) (z : Ordering) → ordering_then (int_cmp (signed s (bit a)) (signed s (bit b))) z ≡ ordering_then (turned s (bool_cmp a b)) z
bits-cmp false false false z = refl
bits-cmp false false true z = refl
bits-cmp false true false z = refl
bits-cmp false true true z = refl
bits-cmp true false false z = refl
bits-cmp true false true z = refl
bits-cmp true true false z = refl
bits-cmp true true true z = refl

-- the same tag on both sides does not decide
same_tag : (s : Bool) (n : ℕ) (z : Ordering) → ordering_then (int_cmp (signed s (pos n)) (signed s (pos n))) z ≡ z
same_tag s n z = ap (λ o. ordering_then o z) (tied_itself int_cmp_total (signed s (pos n)))

pos-cmp : (m n : ℕ) → int_cmp (pos m) (pos n) ≡ nat_cmp m n
pos-cmp m n = grind (arith, nat_tests)

bytes-cmp : (s : Bool) (m n : ℕ) (z : Ordering) → ordering_then (int_cmp (signed s (pos m)) (signed s (pos n))) z ≡ ordering_then (turned s (nat_cmp m n)) z
bytes-cmp s m n z = signed-cmp s (pos m) (pos n) z ∙ ap (λ o. ordering_then (turned s o) z) (pos-cmp m n)

cmp_keys-name_key : (m n : List ℕ) (s : Bool) (r t : List ℤ) → cmp_keys (name_key m s r) (name_key n s t) ≡ ordering_then (turned s (name_cmp m n)) (cmp_keys r t)
cmp_keys-name_key (x ∷ m) (y ∷ n) s r t = same_tag s 1 _ ∙ bytes-cmp s x y _ ∙ ap (ordering_then (turned s (nat_cmp x y))) (cmp_keys-name_key m n s r t) ∙ then-turned s (nat_cmp x y) (name_cmp m n) _
cmp_keys-name_key [] [] false r t = refl
cmp_keys-name_key [] [] true r t = refl
cmp_keys-name_key [] (y ∷ n) false r t = refl
cmp_keys-name_key [] (y ∷ n) true r t = refl
cmp_keys-name_key (x ∷ m) [] false r t = refl
cmp_keys-name_key (x ∷ m) [] true r t = refl

mutual
  cmp_keys-key : (v w : PlainValue) (s : Bool) (r t : List ℤ) → cmp_keys (key v s r) (key w s t) ≡ ordering_then (turned s (value_cmp v w)) (cmp_keys r t)
  cmp_keys-key (int m) (int n) s r t = same_tag s 0 _ ∙ signed-cmp s m n _
  cmp_keys-key (bool a) (bool b) s r t = same_tag s 1 _ ∙ bits-cmp s a b _
  cmp_keys-key (pair a b) (pair c d) s r t = same_tag s 2 _ ∙ cmp_keys-key a c s (key b s r) (key d s t) ∙ ap (ordering_then (turned s (value_cmp a c))) (cmp_keys-key b d s r t) ∙ then-turned s (value_cmp a c) (value_cmp b d) _
  cmp_keys-key (set vs) (set ws) s r t = same_tag s 3 _ ∙ cmp_keys-set_key vs ws s r t
  cmp_keys-key (seq vs) (seq ws) s r t = same_tag s 4 _ ∙ cmp_keys-seq_key vs ws s r t
  cmp_keys-key (map_of m) (map_of n) s r t = same_tag s 5 _ ∙ cmp_keys-map_key m n s r t
  cmp_keys-key (tag m) (tag n) s r t = same_tag s 6 _ ∙ cmp_keys-name_key m n s r t
  cmp_keys-key v w false r t = refl
  cmp_keys-key v w true r t = refl

  cmp_keys-seq_key : (v w : PlainValues) (s : Bool) (r t : List ℤ) → cmp_keys (seq_key v s r) (seq_key w s t) ≡ ordering_then (turned s (seq_cmp v w)) (cmp_keys r t)
  cmp_keys-seq_key (more v vs) (more w ws) s r t = same_tag s 1 _ ∙ cmp_keys-key v w s (seq_key vs s r) (seq_key ws s t) ∙ ap (ordering_then (turned s (value_cmp v w))) (cmp_keys-seq_key vs ws s r t) ∙ then-turned s (value_cmp v w) (seq_cmp vs ws) _
  cmp_keys-seq_key none none false r t = refl
  cmp_keys-seq_key none none true r t = refl
  cmp_keys-seq_key none (more w ws) false r t = refl
  cmp_keys-seq_key none (more w ws) true r t = refl
  cmp_keys-seq_key (more v vs) none false r t = refl
  cmp_keys-seq_key (more v vs) none true r t = refl

  cmp_keys-set_key : (v w : PlainValues) (s : Bool) (r t : List ℤ) → cmp_keys (set_key v s r) (set_key w s t) ≡ ordering_then (turned s (set_cmp v w)) (cmp_keys r t)
  cmp_keys-set_key (more v vs) (more w ws) s r t = same_tag s 1 _ ∙ cmp_keys-key v w (not s) (set_key vs s r) (set_key ws s t) ∙ ap (ordering_then (turned (not s) (value_cmp v w))) (cmp_keys-set_key vs ws s r t) ∙ then-turned-set s (value_cmp v w) (set_cmp vs ws) _
  cmp_keys-set_key none none false r t = refl
  cmp_keys-set_key none none true r t = refl
  cmp_keys-set_key none (more w ws) false r t = refl
  cmp_keys-set_key none (more w ws) true r t = refl
  cmp_keys-set_key (more v vs) none false r t = refl
  cmp_keys-set_key (more v vs) none true r t = refl

  cmp_keys-map_key : (v w : PlainEntries) (s : Bool) (r t : List ℤ) → cmp_keys (map_key v s r) (map_key w s t) ≡ ordering_then (turned s (map_cmp v w)) (cmp_keys r t)
  cmp_keys-map_key (entry k v m) (entry l w n) s r t =
      same_tag s 1 _ ∙ cmp_keys-key k l (not s) (key v s (map_key m s r)) (key w s (map_key n s t))
      ∙ ap (ordering_then (turned (not s) (value_cmp k l))) (cmp_keys-key v w s (map_key m s r) (map_key n s t) ∙ ap (ordering_then (turned s (value_cmp v w))) (cmp_keys-map_key m n s r t) ∙ then-turned s (value_cmp v w) (map_cmp m n) _)
      ∙ then-turned-set s (value_cmp k l) (ordering_then (value_cmp v w) (map_cmp m n)) _
  cmp_keys-map_key no_entry no_entry false r t = refl
  cmp_keys-map_key no_entry no_entry true r t = refl
  cmp_keys-map_key no_entry (entry l w n) false r t = refl
  cmp_keys-map_key no_entry (entry l w n) true r t = refl
  cmp_keys-map_key (entry k v m) no_entry false r t = refl
  cmp_keys-map_key (entry k v m) no_entry true r t = refl

then-equal : (o : Ordering) → ordering_then o Equal ≡ o
then-equal Less = refl
then-equal Equal = refl
then-equal Greater = refl

abbrev key_cmp : PlainValue → PlainValue → Ordering
key_cmp = on (λ v. key v false []) cmp_keys

key_cmp-value : (v w : PlainValue) → value_cmp v w ≡ key_cmp v w
key_cmp-value v w = sym (cmp_keys-key v w false [] [] ∙ then-equal (value_cmp v w))

-- the order of values is total
pub value_cmp-total : IsTotalOrder value_cmp
value_cmp-total =
    let e = on_total (λ (v : PlainValue). key v false []) (lists_total int_cmp_total) in
    record {
      antisymm = λ x y. key_cmp-value x y ∙ e.antisymm x y ∙ ap ordering_reverse (sym (key_cmp-value y x));
      trans = λ x y z p q. key_cmp-value x z ∙ e.trans x y z (sym (key_cmp-value x y) ∙ p) (sym (key_cmp-value y z) ∙ q);
      congr = λ x y z p. key_cmp-value x z ∙ e.congr x y z (sym (key_cmp-value x y) ∙ p) ∙ sym (key_cmp-value y z);
    }

equal_ints : (m n : ℤ) → int_cmp m n ≡ Equal → m ≡ n
equal_ints m n p = int_ranked m n Equal (sym p)

then-equal-first : (a b : Ordering) → ordering_then a b ≡ Equal → a ≡ Equal
then-equal-first Less b p = p
then-equal-first Equal b p = refl
then-equal-first Greater b p = p

then-equal-second : (a b : Ordering) → ordering_then a b ≡ Equal → b ≡ Equal
then-equal-second Less b p = cc
then-equal-second Equal b p = p
then-equal-second Greater b p = cc

reverse-equal : (a : Ordering) → ordering_reverse a ≡ Equal → a ≡ Equal
reverse-equal Less p = cc
reverse-equal Equal p = refl
reverse-equal Greater p = cc

mutual
  -- values that the order ties are equal
  pub value_cmp-equal : (v w : PlainValue) → value_cmp v w ≡ Equal → v ≡ w
  value_cmp-equal (int m) (int n) p = ap int (equal_ints m n p)
  value_cmp-equal (bool false) (bool false) p = refl
  value_cmp-equal (bool true) (bool true) p = refl
  value_cmp-equal (pair a b) (pair c d) p = let e = value_cmp-equal a c (then-equal-first _ _ p) in let f = value_cmp-equal b d (then-equal-second _ _ p) in λ i. pair (e i) (f i)
  value_cmp-equal (set vs) (set ws) p = ap set (set_cmp-equal vs ws p)
  value_cmp-equal (seq vs) (seq ws) p = ap seq (seq_cmp-equal vs ws p)
  value_cmp-equal (map_of m) (map_of n) p = ap map_of (map_cmp-equal m n p)
  value_cmp-equal (tag m) (tag n) p = ap tag (name_cmp-equal m n p)
  value_cmp-equal v w p = cc

  pub seq_cmp-equal : (v w : PlainValues) → seq_cmp v w ≡ Equal → v ≡ w
  seq_cmp-equal none none p = refl
  seq_cmp-equal (more v vs) (more w ws) p = let e = value_cmp-equal v w (then-equal-first _ _ p) in let f = seq_cmp-equal vs ws (then-equal-second _ _ p) in λ i. more (e i) (f i)
  seq_cmp-equal v w p = cc

  pub set_cmp-equal : (v w : PlainValues) → set_cmp v w ≡ Equal → v ≡ w
  set_cmp-equal none none p = refl
  set_cmp-equal (more v vs) (more w ws) p = let e = value_cmp-equal v w (reverse-equal _ (then-equal-first _ _ p)) in let f = set_cmp-equal vs ws (then-equal-second _ _ p) in λ i. more (e i) (f i)
  set_cmp-equal v w p = cc

  pub map_cmp-equal : (v w : PlainEntries) → map_cmp v w ≡ Equal → v ≡ w
  map_cmp-equal no_entry no_entry p = refl
  map_cmp-equal (entry k v m) (entry l w n) p =
      let e = value_cmp-equal k l (reverse-equal _ (then-equal-first _ _ p)) in
      let q = then-equal-second _ _ p in
      let f = value_cmp-equal v w (then-equal-first _ _ q) in
      let g = map_cmp-equal m n (then-equal-second _ _ q) in
      λ i. entry (e i) (f i) (g i)
  map_cmp-equal v w p = cc
