-- What the rows mean: sets by membership, maps by look-ups, prefixes by what follows, words by their bits.
use Rattle.std.proofs.Common.{◌≡◌, ℕ, ◌+◌, ◌*◌, ◌-◌, ◌^◌, ◌<◌, zero, suc, ℤ, pos, ◌+ℤ◌, Bool, true, false, cond, List, [], ◌∷◌, ◌++◌, Some, None, map, refl, sym, ap, ◌∙◌, arith, inl, inr}
use Rattle.std.specs.Prelude.{not, ◌||◌, ◌&&◌, filter, int_le, int_lt, is_some}
use Rattle.std.specs.Int.{bit_at}
use Rattle.std.specs.Option.{option_map}
use Rattle.std.specs.Ordering.{is_eq, int_cmp}
use Rattle.std.proofs.Math.Nat.{pow-suc}
use Rattle.std.proofs.lemmas.Bool.{cases_lt}
use Rattle.std.proofs.lemmas.Int.{ints as int_rules}
use Rattle.std.proofs.lemmas.Nat.Bits.{bit_at_cat_low, bit_at_cat_high, bit_at_above}
use Rattle.kid_value.specs.PlainValue.{PlainValue, int}
use Rattle.kid_value.specs.Rows.Map.{cut_down}
use Rattle.kid_value.specs.Rows.Seq.{is_prefix}
use Rattle.kid_value.specs.Rows.Set.{numbers}
use Rattle.kid_value.specs.Rows.Word.{word_of}
use Rattle.kid_value.specs.ValueMap.{keys, lookup}
use Rattle.kid_value.specs.ValueSet.{value_eq, is_member, set_of}
use Rattle.kid_value.proofs.ValueSetLaws.{is_member-union, value_eq-true, value_eq-itself}

pub or_false : (b : Bool) → (b || false) ≡ b
or_false true = refl
or_false false = refl

-- the set of a list's values has just these
pub is_member-set_of : (x : PlainValue) (vs : List PlainValue) → is_member x (set_of vs) ≡ is_member x vs
is_member-set_of x vs = is_member-union x vs [] ∙ or_false (is_member x vs)

-- the keys of a map are those at which it has a value
pub is_member-keys : (x : PlainValue) (es : List (PlainValue × PlainValue)) → is_member x (keys es) ≡ is_some (lookup x es)
is_member-keys x [] = refl
is_member-keys x (e ∷ es) = by_cases (value_eq x e.0) (is_member-keys x es)
  where
    by_cases : (b : Bool) → is_member x (keys es) ≡ is_some (lookup x es) → (b || is_member x (keys es)) ≡ is_some (cond b (Some e.1) (lookup x es))
    by_cases true ih = refl
    by_cases false ih = ih

-- a map without a key has no value there, and else its old ones
pub lookup-dropped : (y x : PlainValue) (es : List (PlainValue × PlainValue)) → lookup y (filter (λ e. not (value_eq e.0 x)) es) ≡ cond (value_eq y x) None (lookup y es)
lookup-dropped y x [] = by_cases (value_eq y x)
  where
    by_cases : (b : Bool) → lookup y [] ≡ cond b None (lookup y [])
    by_cases true = refl
    by_cases false = refl
lookup-dropped y x (e ∷ es) = by_cases (value_eq e.0 x) refl (value_eq y e.0) refl (value_eq y x) refl (lookup-dropped y x es)
  where
    by_cases : (b : Bool) → value_eq e.0 x ≡ b → (c : Bool) → value_eq y e.0 ≡ c → (d : Bool) → value_eq y x ≡ d
        → lookup y (filter (λ e. not (value_eq e.0 x)) es) ≡ cond (value_eq y x) None (lookup y es)
        → lookup y (cond (not b) (e ∷ filter (λ e. not (value_eq e.0 x)) es) (filter (λ e. not (value_eq e.0 x)) es)) ≡ cond d None (cond c (Some e.1) (lookup y es))
    by_cases true p c q true r ih = ih ∙ ap (λ z. cond z None (lookup y es)) r
    by_cases true p true q false r ih =
        let s : value_eq y x ≡ true = ap (λ z. value_eq z x) (value_eq-true y e.0 q) ∙ p in cc
    by_cases true p false q false r ih = ih ∙ ap (λ z. cond z None (lookup y es)) r
    by_cases false p true q true r ih =
        let s : value_eq e.0 x ≡ true = ap (λ z. value_eq z x) (sym (value_eq-true y e.0 q)) ∙ r in cc
    by_cases false p true q false r ih = ap (λ z. cond z (Some e.1) (lookup y (filter (λ e. not (value_eq e.0 x)) es))) q
    by_cases false p false q true r ih = ap (λ z. cond z (Some e.1) (lookup y (filter (λ e. not (value_eq e.0 x)) es))) q ∙ ih ∙ ap (λ z. cond z None (lookup y es)) r
    by_cases false p false q false r ih = ap (λ z. cond z (Some e.1) (lookup y (filter (λ e. not (value_eq e.0 x)) es))) q ∙ ih ∙ ap (λ z. cond z None (lookup y es)) r

-- a map that has one value at each member of a set
pub lookup-filled : (y x : PlainValue) (vs : List PlainValue) → lookup y (map (λ v. (v, x)) vs) ≡ cond (is_member y vs) (Some x) None
lookup-filled y x [] = refl
lookup-filled y x (v ∷ vs) = by_cases (value_eq y v) (lookup-filled y x vs)
  where
    by_cases : (b : Bool) → lookup y (map (λ v. (v, x)) vs) ≡ cond (is_member y vs) (Some x) None → cond b (Some x) (lookup y (map (λ v. (v, x)) vs)) ≡ cond (b || is_member y vs) (Some x) None
    by_cases true ih = refl
    by_cases false ih = ih

-- a narrowed map has its old values, cut down by the other's
pub lookup-narrowed : (y : PlainValue) (n es : List (PlainValue × PlainValue)) → lookup y (map (λ e. (e.0, cut_down e.1 (lookup e.0 n))) es) ≡ option_map (λ v. cut_down v (lookup y n)) (lookup y es)
lookup-narrowed y n [] = refl
lookup-narrowed y n (e ∷ es) = by_cases (value_eq y e.0) refl (lookup-narrowed y n es)
  where
    by_cases : (b : Bool) → value_eq y e.0 ≡ b → lookup y (map (λ e. (e.0, cut_down e.1 (lookup e.0 n))) es) ≡ option_map (λ v. cut_down v (lookup y n)) (lookup y es) → cond b (Some (cut_down e.1 (lookup e.0 n))) (lookup y (map (λ e. (e.0, cut_down e.1 (lookup e.0 n))) es)) ≡ option_map (λ v. cut_down v (lookup y n)) (cond b (Some e.1) (lookup y es))
    by_cases true p ih = ap (λ z. Some (cut_down e.1 (lookup z n))) (sym (value_eq-true y e.0 p))
    by_cases false p ih = ih

-- a prefix is followed by something
pub is_prefix-append : (vs ws : List PlainValue) → is_prefix vs (vs ++ ws) ≡ true
is_prefix-append [] ws = refl
is_prefix-append (v ∷ vs) ws = ap (λ b. b && is_prefix vs (vs ++ ws)) (value_eq-itself v) ∙ is_prefix-append vs ws

pub append-is_prefix : (vs ws : List PlainValue) → is_prefix vs ws ≡ true → (us : List PlainValue) × (ws ≡ vs ++ us)
append-is_prefix [] ws p = (ws, refl)
append-is_prefix (v ∷ vs) [] p = cc
append-is_prefix (v ∷ vs) (w ∷ ws) p = by_cases (value_eq v w) refl p (append-is_prefix vs ws)
  where
    by_cases : (b : Bool) → value_eq v w ≡ b → (b && is_prefix vs ws) ≡ true → (is_prefix vs ws ≡ true → (us : List PlainValue) × (ws ≡ vs ++ us)) → (us : List PlainValue) × ((w ∷ ws) ≡ (v ∷ vs) ++ us)
    by_cases true e q ih = let r = ih q in (r.0, λ i. sym (value_eq-true v w e) i ∷ r.1 i)
    by_cases false e q ih = cc

-- the numbers of a range
step : (n a : ℤ) (c : ℕ) → (is_eq (int_cmp n a) || (int_le (a +ℤ pos 1) n && int_lt n ((a +ℤ pos 1) +ℤ pos c))) ≡ (int_le a n && int_lt n (a +ℤ pos (suc c)))
step n a c = grind (arith, int_rules)

nothing : (n a : ℤ) → false ≡ (int_le a n && int_lt n (a +ℤ pos 0))
nothing n a = grind (arith, int_rules)

pub is_member-numbers : (n a : ℤ) (c : ℕ) → is_member (int n) (numbers a c) ≡ (int_le a n && int_lt n (a +ℤ pos c))
is_member-numbers n a zero = nothing n a
is_member-numbers n a (suc c) = ap (λ z. is_eq (int_cmp n a) || z) (is_member-numbers n (a +ℤ pos 1) c) ∙ step n a c

-- a word of n bits
pub word_of-below : (p : ℕ → Bool) (n : ℕ) → word_of p n < 2 ^ n
word_of-below p zero = omega arith
word_of-below p (suc n) = by_cases (p n) (word_of-below p n)
  where
    by_cases : (b : Bool) → word_of p n < 2 ^ n → word_of p n + cond b (2 ^ n) 0 < 2 ^ suc n
    by_cases true h = omega (arith, pow-suc 2 n)
    by_cases false h = omega (arith, pow-suc 2 n)

bit_below : (m n i : ℕ) → i < n → bit_at (m + 2 ^ n) i ≡ bit_at m i
bit_below m n i h = let e : m + 2 ^ n ≡ 1 * 2 ^ n + m = omega arith in ap (λ z. bit_at z i) e ∙ bit_at_cat_low 1 n m i h

bit_there : (m n : ℕ) → m < 2 ^ n → bit_at (m + 2 ^ n) n ≡ 1
bit_there m n h =
    let e : m + 2 ^ n ≡ 1 * 2 ^ n + m = omega arith in
    let f : n - n ≡ 0 = omega arith in
    ap (λ z. bit_at z n) e ∙ bit_at_cat_high 1 n m n h (omega arith) ∙ ap (bit_at 1) f

-- a word has the bits that pass
pub bit_at-word_of : (p : ℕ → Bool) (n i : ℕ) → i < n → bit_at (word_of p n) i ≡ cond (p i) 1 0
bit_at-word_of p zero i h = absurd (omega arith)
bit_at-word_of p (suc n) i h =
    elim (cases_lt i n) [
      | inl l ↦ below (p n) l ∙ bit_at-word_of p n i l
      | inr g ↦ let e : i ≡ n = omega arith in here (p n) i e ∙ ap (λ z. cond (p z) 1 0) (sym e)
    ]
  where
    below : (b : Bool) → i < n → bit_at (word_of p n + cond b (2 ^ n) 0) i ≡ bit_at (word_of p n) i
    below true l = bit_below (word_of p n) n i l
    below false l = let e : word_of p n + 0 ≡ word_of p n = omega arith in ap (λ z. bit_at z i) e

    here : (b : Bool) (i : ℕ) → i ≡ n → bit_at (word_of p n + cond b (2 ^ n) 0) i ≡ cond b 1 0
    here true i e = ap (bit_at (word_of p n + 2 ^ n)) e ∙ bit_there (word_of p n) n (word_of-below p n)
    here false i e =
        let f : word_of p n + 0 ≡ word_of p n = omega arith in
        ap (λ z. bit_at z i) f ∙ bit_at_above (word_of p n) n i (word_of-below p n) (omega arith)
