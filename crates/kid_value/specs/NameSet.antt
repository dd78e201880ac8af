-- Finite sets of names as lists that ascend by their bytes.
use Rattle.std.specs.Prelude.{ℕ, Bool, true, ◌&&◌, cond, List, [], ◌∷◌}
use Rattle.std.specs.Cmp.Lexicographic.{slice_cmp}
use Rattle.std.specs.List.{list_any, list_all}
use Rattle.std.specs.Ordering.{nat_cmp, is_lt}
use Rattle.std.specs.declared.cmp.Ordering.{Ordering}
use Rattle.std.specs.declared.cmp.Ordering.TheVariants.{Less, Equal, Greater}
use Rattle.std.specs.Str.{bytes_eq}

-- the order of names goes by their bytes, a proper prefix first
abbrev pub name_cmp : List ℕ → List ℕ → Ordering
name_cmp m n = slice_cmp nat_cmp m n

-- whether a name is among names
abbrev pub is_among : List ℕ → List (List ℕ) → Bool
is_among n ns = list_any (bytes_eq n) ns

-- whether each of the first names is among the second
abbrev pub are_among : List (List ℕ) → List (List ℕ) → Bool
are_among ms ns = list_all (λ m. is_among m ns) ms

-- whether the names ascend strictly
abbrev pub names_ascend : List (List ℕ) → Bool
names_ascend [] = true
names_ascend (m ∷ []) = true
names_ascend (m ∷ n ∷ ns) = is_lt (name_cmp m n) && names_ascend (n ∷ ns)

-- what a comparison with the first name decides
abbrev pub put_name_by : Ordering → List ℕ → List ℕ → List (List ℕ) → List (List ℕ) → List (List ℕ)
put_name_by Less m n ns more = m ∷ n ∷ ns
put_name_by Equal m n ns more = n ∷ ns
put_name_by Greater m n ns more = n ∷ more

-- the names with one more
abbrev pub put_name : List ℕ → List (List ℕ) → List (List ℕ)
put_name m [] = m ∷ []
put_name m (n ∷ ns) = put_name_by (name_cmp m n) m n ns (put_name m ns)

-- the names of both
abbrev pub names_union : List (List ℕ) → List (List ℕ) → List (List ℕ)
names_union ms [] = ms
names_union ms (n ∷ ns) = names_union (put_name n ms) ns

-- the least of a name and of further names
abbrev pub least_from : List ℕ → List (List ℕ) → List ℕ
least_from m [] = m
least_from m (n ∷ ns) = least_from (cond (is_lt (name_cmp n m)) n m) ns

-- the least of the names, which is the first where they ascend
abbrev pub least_name : List (List ℕ) → List ℕ
least_name [] = []
least_name (n ∷ ns) = least_from n ns
