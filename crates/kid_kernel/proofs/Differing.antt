-- Names that differ, with one more.
use Rattle.std.proofs.Common.{◌≡◌, ℕ, Bool, true, false, not, ◌||◌, List, [], ◌∷◌, ◌++◌, refl, ap, ◌∙◌}
use Rattle.std.specs.List.{list_all, flat_map}
use Rattle.kid_value.proofs.SortLemmas.{and_parts, and_both}
use Rattle.kid_value.specs.NameSet.{is_among}
use Rattle.kid_term.specs.Names.{same_name}
use Rattle.kid_term.proofs.EvalLemmas.{same_name-comm, or_none}
use Rattle.kid_kernel.specs.Differ.{words_of, differ, are_apart}
use Rattle.kid_kernel.specs.IsTheory.{has_own_variables}
use Rattle.kid_term.specs.PlainLaw.{PlainLaw}

not_true : (b : Bool) → not b ≡ true → b ≡ false
not_true true p = cc
not_true false p = refl

-- what is not among both is not among each
pub among_parts : (x : List ℕ) (xs ys : List (List ℕ)) → is_among x (xs ++ ys) ≡ false → (is_among x xs ≡ false) × (is_among x ys ≡ false)
among_parts x [] ys p = (refl, p)
among_parts x (y ∷ xs) ys p =
    let q = or_none (same_name x y) (is_among x (xs ++ ys)) p in
    let r = among_parts x xs ys q.1 in
    (ap (λ b. b || is_among x xs) q.0 ∙ r.0, r.1)

pub among_neither : (x : List ℕ) (xs ys : List (List ℕ)) → is_among x xs ≡ false → is_among x ys ≡ false → is_among x (xs ++ ys) ≡ false
among_neither x [] ys p q = q
among_neither x (y ∷ xs) ys p q =
    let r = or_none (same_name x y) (is_among x xs) p in
    ap (λ b. b || is_among x (xs ++ ys)) r.0 ∙ among_neither x xs ys r.1 q

other_of_one : (x y : List ℕ) → is_among x (y ∷ []) ≡ false → same_name x y ≡ false
other_of_one x y p = (or_none (same_name x y) false p).0

one_other : (x y : List ℕ) → same_name y x ≡ false → is_among x (y ∷ []) ≡ false
one_other x y p = ap (λ b. b || false) (same_name-comm x y ∙ p)

-- apart from some names and from one more
pub apart_more : (xs ys : List (List ℕ)) (y : List ℕ) → are_apart xs ys ≡ true → is_among y xs ≡ false → are_apart xs (ys ++ y ∷ []) ≡ true
apart_more [] ys y p q = refl
apart_more (x ∷ xs) ys y p q =
    let a = and_parts (not (is_among x ys)) (are_apart xs ys) p in
    let b = or_none (same_name y x) (is_among y xs) q in
    let new = among_neither x ys (y ∷ []) (not_true (is_among x ys) a.0) (one_other x y b.0) in
    and_both (not (is_among x (ys ++ y ∷ []))) (are_apart xs (ys ++ y ∷ [])) (ap not new) (apart_more xs ys y a.1 b.1)

pub apart_parts : (xs ys : List (List ℕ)) (y : List ℕ) → are_apart xs (ys ++ y ∷ []) ≡ true → (are_apart xs ys ≡ true) × (is_among y xs ≡ false)
apart_parts [] ys y p = (refl, refl)
apart_parts (x ∷ xs) ys y p =
    let a = and_parts (not (is_among x (ys ++ y ∷ []))) (are_apart xs (ys ++ y ∷ [])) p in
    let b = among_parts x ys (y ∷ []) (not_true (is_among x (ys ++ y ∷ [])) a.0) in
    let c = apart_parts xs ys y a.1 in
    let other = same_name-comm y x ∙ other_of_one x y b.1 in
    (and_both (not (is_among x ys)) (are_apart xs ys) (ap not b.0) c.0, ap (λ e. e || is_among y xs) other ∙ c.1)

pub differ_more : (xs : List (List ℕ)) (y : List ℕ) → differ xs ≡ true → is_among y xs ≡ false → differ (xs ++ y ∷ []) ≡ true
differ_more [] y p q = refl
differ_more (x ∷ xs) y p q =
    let a = and_parts (not (is_among x xs)) (differ xs) p in
    let b = or_none (same_name y x) (is_among y xs) q in
    let new = among_neither x xs (y ∷ []) (not_true (is_among x xs) a.0) (one_other x y b.0) in
    and_both (not (is_among x (xs ++ y ∷ []))) (differ (xs ++ y ∷ [])) (ap not new) (differ_more xs y a.1 b.1)

-- ---- the variables of laws

abbrev pub variables_of : List PlainLaw → List (List ℕ)
variables_of laws = flat_map (λ l. words_of l.variables) laws

-- one more name, which no variable of a law has
pub laws_apart : (laws : List PlainLaw) (names : List (List ℕ)) (y : List ℕ) → list_all (has_own_variables names) laws ≡ true → is_among y (variables_of laws) ≡ false
    → list_all (has_own_variables (names ++ y ∷ [])) laws ≡ true
laws_apart [] names y p q = refl
laws_apart (l ∷ laws) names y p q =
    let a = and_parts (has_own_variables names l) (list_all (has_own_variables names) laws) p in
    let own = and_parts (differ (words_of l.variables)) (are_apart (words_of l.variables) names) a.0 in
    let b = among_parts y (words_of l.variables) (variables_of laws) q in
    and_both (has_own_variables (names ++ y ∷ []) l) (list_all (has_own_variables (names ++ y ∷ [])) laws)
    (and_both (differ (words_of l.variables)) (are_apart (words_of l.variables) (names ++ y ∷ [])) own.0 (apart_more (words_of l.variables) names y own.1 b.0))
    (laws_apart laws names y a.1 b.1)
