-- The least sort above all, from the last sort on.
use Rattle.std.proofs.Common.{◌≡◌, ℕ, ◌<◌, false, List, [], ◌∷◌, ◌++◌, Option, Some, None, refl, ap, ◌∙◌, arith, map}
use Rattle.std.proofs.lemmas.List.{map-append}
use Rattle.std.proofs.lemmas.Bool.Decides.{nat_tests}
use Rattle.kid_value.specs.PlainSort.{PlainSort, never, seqs}
use Rattle.kid_value.specs.SortOrder.{join}
use Rattle.kid_value.specs.SortLimits.{is_allowed}
use Rattle.kid_value.specs.SortView.{plain_sort}
use Rattle.kid_value.specs.declared.sort.Sort.{Sort}
use Rattle.kid_term.specs.Sorted.{Bounds, allowed, join_all}
use Rattle.std.specs.Prelude.{Err}

abbrev pub joined_with : PlainSort → Option PlainSort → Option PlainSort
joined_with a None = None
joined_with a (Some b) = join a b

-- the least sort above the sorts and one more
abbrev pub joined_onto : List PlainSort → Option PlainSort → Option PlainSort
joined_onto [] o = o
joined_onto (a ∷ ss) o = joined_with a (joined_onto ss o)

pub never_first : (ss : List PlainSort) → joined_onto ss (Some never) ≡ join_all ss
never_first [] = refl
never_first (a ∷ ss) = ap (joined_with a) (never_first ss) ∙ by (join_all ss) refl
  where
    by : (o : Option PlainSort) → join_all ss ≡ o → joined_with a (join_all ss) ≡ join_all (a ∷ ss)
    by None e = rw e refl
    by (Some b) e = rw e refl

pub joined_onto_none : (ss : List PlainSort) → joined_onto ss None ≡ None
joined_onto_none [] = refl
joined_onto_none (a ∷ ss) = ap (joined_with a) (joined_onto_none ss)

last_onto : (ss : List PlainSort) (a : PlainSort) (o : Option PlainSort) → joined_onto (ss ++ a ∷ []) o ≡ joined_onto ss (joined_with a o)
last_onto [] a o = refl
last_onto (b ∷ ss) a o = ap (joined_with b) (last_onto ss a o)

-- the last of the sorts is joined first, and where that has no sort above both, there is none above all
pub onto_last : (rest earlier : List Sort) (last : Sort) (b : PlainSort) → rest ≡ earlier ++ last ∷ []
    → joined_onto (map plain_sort rest) (Some b) ≡ joined_onto (map plain_sort earlier) (join (plain_sort last) b)
onto_last rest earlier last b are =
    ap (λ ss. joined_onto (map plain_sort ss) (Some b)) are
    ∙ ap (λ ss. joined_onto ss (Some b)) (map-append plain_sort earlier (last ∷ []))
    ∙ last_onto (map plain_sort earlier) (plain_sort last) (Some b)

-- sequences of more items than are allowed
many_items : (a : PlainSort) (n : ℕ) → 65536 < n → is_allowed (seqs a n) ≡ false
many_items a n p = grind (arith, nat_tests)

pub too_long : (a : PlainSort) (n : ℕ) → 65536 < n → allowed (seqs a n) ≡ Err Bounds
too_long a n p = rw (many_items a n p) refl
