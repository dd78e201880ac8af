-- A number for each of some names, which ascends with the name.
use Rattle.std.proofs.Common.{◌≡◌, ℕ, ◌+◌, ◌<◌, ◌≤◌, true, List, [], ◌∷◌, Ordering, refl, sym, ap, ◌∙◌, arith, length}
use Rattle.std.specs.declared.cmp.Ordering.TheVariants.{Less, Equal, Greater}
use Rattle.std.specs.Str.{bytes_eq}
use Rattle.std.proofs.lemmas.Cmp.{nat_list_cmp_total}
use Rattle.kid_value.specs.NameSet.{name_cmp, is_among}
use Rattle.kid_value.proofs.NameLemmas.{same_bytes, name_cmp-itself, or_parts}

abbrev one_where_less : Ordering → ℕ
one_where_less Less = 1
one_where_less Equal = 0
one_where_less Greater = 0

-- how many of the names are before n
abbrev pub names_before : List ℕ → List (List ℕ) → ℕ
names_before n [] = 0
names_before n (x ∷ ns) = one_where_less (name_cmp x n) + names_before n ns

at_most_one : (o : Ordering) → one_where_less o ≤ 1
at_most_one Less = omega arith
at_most_one Equal = omega arith
at_most_one Greater = omega arith

at_most_all : (n : List ℕ) (ns : List (List ℕ)) → names_before n ns ≤ length ns
at_most_all n [] = omega arith
at_most_all n (x ∷ ns) = omega (arith, at_most_one (name_cmp x n), at_most_all n ns)

-- a name is not before itself
not_counted : (n x : List ℕ) → bytes_eq n x ≡ true → one_where_less (name_cmp x n) ≡ 0
not_counted n x p = ap one_where_less (ap (λ z. name_cmp z n) (sym (same_bytes n x p)) ∙ name_cmp-itself n)

pub names_before-below : (n : List ℕ) (ns : List (List ℕ)) → is_among n ns ≡ true → names_before n ns < length ns
names_before-below n [] p = cc
names_before-below n (x ∷ ns) p =
    or_parts (bytes_eq n x) (is_among n ns) p
    (λ e. omega (arith, not_counted n x e, at_most_all n ns))
    (λ q. omega (arith, at_most_one (name_cmp x n), names_before-below n ns q))

module _ (m n : List ℕ) (before : name_cmp m n ≡ Less) where
  counted-le : (x : List ℕ) → one_where_less (name_cmp x m) ≤ one_where_less (name_cmp x n)
  counted-le x = by (name_cmp x m) refl
    where
      by : (o : Ordering) → name_cmp x m ≡ o → one_where_less o ≤ one_where_less (name_cmp x n)
      by Less e = let q : one_where_less (name_cmp x n) ≡ 1 = ap one_where_less (nat_list_cmp_total.trans x m n e before) in omega (arith, q)
      by Equal e = omega arith
      by Greater e = omega arith

  names_before-le : (ns : List (List ℕ)) → names_before m ns ≤ names_before n ns
  names_before-le [] = omega arith
  names_before-le (x ∷ ns) = omega (arith, counted-le x, names_before-le ns)

  pub names_before-lt : (ns : List (List ℕ)) → is_among m ns ≡ true → names_before m ns < names_before n ns
  names_before-lt [] p = cc
  names_before-lt (x ∷ ns) p =
      or_parts (bytes_eq m x) (is_among m ns) p
      (λ e. let q : one_where_less (name_cmp x n) ≡ 1 = ap one_where_less (ap (λ z. name_cmp z n) (sym (same_bytes m x e)) ∙ before) in
      omega (arith, not_counted m x e, q, names_before-le ns))
      (λ q. omega (arith, counted-le x, names_before-lt ns q))
