-- The order of two lists, part by part.
use Rattle.std.proofs.Common.{◌≡◌, ℕ, ◌+◌, ◌<◌, ◌≤◌, List, [], ◌∷◌, Ordering, length, get_or, drop, map, refl, sym, ap, ◌∙◌, subst, max, arith}
use Rattle.std.specs.declared.cmp.Ordering.TheVariants.{Less, Equal, Greater}
use Rattle.std.specs.Ordering.{ordering_then, ordering_reverse}
use Rattle.std.specs.Cmp.Lexicographic.{slice_cmp}
use Rattle.std.proofs.lemmas.List.{drop_more, length-drop}
use Rattle.kid_value.specs.PlainValue.{row, table}
use Rattle.kid_value.specs.ValueOrder.{value_cmp, seq_cmp, set_cmp, map_cmp}
use Rattle.kid_value.specs.ValueView.{plain, plain_entry}
use Rattle.kid_value.specs.ItemOrder.{in_sequences, in_sets, in_maps}
use Rattle.kid_value.specs.declared.value.Value.{Value}
use Rattle.kid_value.specs.declared.entries.Entries.TheDeep.{size-Value}
use denote.Param.Weighed.{most, at_most}

pub seq_cmp_slices : (vs ws : List Value) → seq_cmp (row (map plain vs)) (row (map plain ws)) ≡ slice_cmp in_sequences vs ws
seq_cmp_slices [] [] = refl
seq_cmp_slices [] (w ∷ ws) = refl
seq_cmp_slices (v ∷ vs) [] = refl
seq_cmp_slices (v ∷ vs) (w ∷ ws) = ap (ordering_then (value_cmp (plain v) (plain w))) (seq_cmp_slices vs ws)

pub set_cmp_slices : (vs ws : List Value) → set_cmp (row (map plain vs)) (row (map plain ws)) ≡ slice_cmp in_sets vs ws
set_cmp_slices [] [] = refl
set_cmp_slices [] (w ∷ ws) = refl
set_cmp_slices (v ∷ vs) [] = refl
set_cmp_slices (v ∷ vs) (w ∷ ws) = ap (ordering_then (ordering_reverse (value_cmp (plain v) (plain w)))) (set_cmp_slices vs ws)

then_assoc : (a b c : Ordering) → ordering_then a (ordering_then b c) ≡ ordering_then (ordering_then a b) c
then_assoc Less b c = refl
then_assoc Equal b c = refl
then_assoc Greater b c = refl

pub map_cmp_slices : (vs ws : List (Value × Value)) → map_cmp (table (map plain_entry vs)) (table (map plain_entry ws)) ≡ slice_cmp in_maps vs ws
map_cmp_slices [] [] = refl
map_cmp_slices [] (w ∷ ws) = refl
map_cmp_slices (v ∷ vs) [] = refl
map_cmp_slices (v ∷ vs) (w ∷ ws) =
    then_assoc (ordering_reverse (value_cmp (plain v.0) (plain w.0))) (value_cmp (plain v.1) (plain w.1)) _ ∙ ap (ordering_then (in_maps v w)) (map_cmp_slices vs ws)

-- lists that are alike so far are ordered by what is left
module _ {X : Type 0} (R : X → X → Ordering) where
  pub slice_cmp-drop : (xs ys : List X) (i : ℕ) (x y : X) → i < length xs → i < length ys → x ≡ get_or xs i x → y ≡ get_or ys i y
      → slice_cmp R (drop i xs) (drop i ys) ≡ ordering_then (R x y) (slice_cmp R (drop (i + 1) xs) (drop (i + 1) ys))
  slice_cmp-drop xs ys i x y p q e f =
      let g : drop i xs ≡ x ∷ drop (i + 1) xs = drop_more xs i x p ∙ ap (λ z. z ∷ drop (i + 1) xs) (sym e) in
      let h : drop i ys ≡ y ∷ drop (i + 1) ys = drop_more ys i y q ∙ ap (λ z. z ∷ drop (i + 1) ys) (sym f) in
      rw (g, h) refl

  pub slice_cmp-next : (xs ys : List X) (i : ℕ) (x y : X) → i < length xs → i < length ys → x ≡ get_or xs i x → y ≡ get_or ys i y
      → slice_cmp R xs ys ≡ slice_cmp R (drop i xs) (drop i ys) → R x y ≡ Equal → slice_cmp R xs ys ≡ slice_cmp R (drop (i + 1) xs) (drop (i + 1) ys)
  slice_cmp-next xs ys i x y p q e f g h = g ∙ slice_cmp-drop xs ys i x y p q e f ∙ ap (λ o. ordering_then o (slice_cmp R (drop (i + 1) xs) (drop (i + 1) ys))) h

  pub slice_cmp-found : (xs ys : List X) (i : ℕ) (x y : X) → i < length xs → i < length ys → x ≡ get_or xs i x → y ≡ get_or ys i y
      → slice_cmp R xs ys ≡ slice_cmp R (drop i xs) (drop i ys) → (o : Ordering) → R x y ≡ o → (o ≡ Equal → ⊥) → slice_cmp R xs ys ≡ o
  slice_cmp-found xs ys i x y p q e f g o h n = g ∙ slice_cmp-drop xs ys i x y p q e f ∙ by_cases o h n
    where
      by_cases : (o : Ordering) → R x y ≡ o → (o ≡ Equal → ⊥) → ordering_then (R x y) (slice_cmp R (drop (i + 1) xs) (drop (i + 1) ys)) ≡ o
      by_cases Less h n = rw h refl
      by_cases Equal h n = absurd (n refl)
      by_cases Greater h n = rw h refl

  pub slice_cmp-less : (xs ys : List X) (i : ℕ) → length xs ≤ i → i ≤ length xs → length xs < length ys → slice_cmp R xs ys ≡ slice_cmp R (drop i xs) (drop i ys) → Less ≡ slice_cmp R xs ys
  slice_cmp-less xs ys i p q r g = sym (g ∙ first_ends (drop i xs) (drop i ys) (omega (arith, length-drop {A = X})) (omega (arith, length-drop {A = X})))
    where
      first_ends : (us vs : List X) → length us ≡ 0 → 0 < length vs → slice_cmp R us vs ≡ Less
      first_ends [] [] e l = absurd (omega arith)
      first_ends [] (v ∷ vs) e l = refl
      first_ends (u ∷ us) vs e l = absurd (omega arith)

-- an entry's value is less deep than the list
pub deep-value-lt : (es : List (Value × Value)) (i : ℕ) (e : Value × Value) → i < length es → e ≡ get_or es i e
    → size-Value e.1 ≤ most (λ x. max (size-Value x.0) (max (size-Value x.1) 0)) es
deep-value-lt es i e p q =
    let weight : Value × Value → ℕ = λ x. max (size-Value x.0) (max (size-Value x.1) 0) in
    let h : weight (get_or es i e) ≤ most weight es = at_most weight es i e p in
    let k : weight e ≤ most weight es = subst (λ x. weight x ≤ most weight es) (sym q) h in
    omega arith
