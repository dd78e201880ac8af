-- What the search of a theory's integers can find is all answers, and what it finds are those that are wanted.
use Rattle.std.proofs.Common.{◌≡◌, ℕ, suc, Bool, true, false, ◌&&◌, ◌||◌, List, [], ◌∷◌, map, Option, Some, None, refl, sym, ap, ◌∙◌, subst, arith}
use Rattle.std.specs.Prelude.{ℤ, pos, ◌+ℤ◌, ◌≤ℤ◌, ◌<ℤ◌, int_le}
use Rattle.std.specs.Int.{int_gap}
use Rattle.std.specs.Ordering.{int_eq, int_cmp}
use Rattle.std.specs.declared.cmp.Ordering.TheVariants.{Less}
use Rattle.std.proofs.lemmas.Int.{ints as int_rules}
use Rattle.std.proofs.lemmas.List.{take-map}
use Rattle.kid_value.specs.PlainValue.{PlainValue, PlainValues, PlainEntries, int, bool, pair, set, seq, map_of, tag}
use Rattle.kid_value.specs.PlainSort.{PlainSort, ints}
use Rattle.kid_value.specs.InSort.{in_sort}
use Rattle.kid_value.specs.ValueSet.{is_member, AllAfter, Ascends}
use Rattle.kid_term.specs.Answer.{relates, AllAnswers, first_of}
use Rattle.kid_term.specs.Eval.{Env}
use Rattle.kid_term.specs.PlainTheory.{PlainTheory}
use Rattle.kid_top.specs.Printed.{AreAnswers}
use Rattle.kid_top.specs.RangeSearch.{Interval, range_leaf, range_kids, range_search, range_visited}
use Rattle.kid_top.specs.Search.{visited}
use Rattle.kid_top.specs.TheoryAt.{theory_calls, relates_at}
use Rattle.kid_top.proofs.Ranges.{Within, range-within, is_in, is_in-below, is_in-above, range-exact}
use Rattle.kid_top.proofs.VisitLists.{leaves, visit_holds, leaves_wanted}

cmp-less : (z y : ℤ) → z <ℤ y → int_cmp z y ≡ Less
cmp-less z y lt = grind (arith, int_rules)

below-all : (z lo hi : ℤ) (zs : List ℤ) → z <ℤ lo → Within lo hi zs → AllAfter (int z) (map int zs)
below-all z lo hi [] lt w = tt
below-all z lo hi (y ∷ ys) lt w =
    (cmp-less z y (omega (arith, int_rules, w.0)), below-all z (y +ℤ pos 1) hi ys (omega (arith, int_rules, w.0)) w.2)

ascending : (lo hi : ℤ) (zs : List ℤ) → Within lo hi zs → Ascends (map int zs)
ascending lo hi [] w = tt
ascending lo hi (z ∷ zs) w = (below-all z (z +ℤ pos 1) hi zs (omega (arith, int_rules)) w.2, ascending (z +ℤ pos 1) hi zs w.2)

-- a value that is no integer is not among integers
no_bool : (b : Bool) (zs : List ℤ) → is_member (bool b) (map int zs) ≡ false
no_bool b [] = refl
no_bool b (z ∷ zs) = no_bool b zs

no_pair : (v w : PlainValue) (zs : List ℤ) → is_member (pair v w) (map int zs) ≡ false
no_pair v w [] = refl
no_pair v w (z ∷ zs) = no_pair v w zs

no_set : (vs : PlainValues) (zs : List ℤ) → is_member (set vs) (map int zs) ≡ false
no_set vs [] = refl
no_set vs (z ∷ zs) = no_set vs zs

no_seq : (vs : PlainValues) (zs : List ℤ) → is_member (seq vs) (map int zs) ≡ false
no_seq vs [] = refl
no_seq vs (z ∷ zs) = no_seq vs zs

no_map : (es : PlainEntries) (zs : List ℤ) → is_member (map_of es) (map int zs) ≡ false
no_map es [] = refl
no_map es (z ∷ zs) = no_map es zs

no_tag : (n : List ℕ) (zs : List ℤ) → is_member (tag n) (map int zs) ≡ false
no_tag n [] = refl
no_tag n (z ∷ zs) = no_tag n zs

member-int : (z : ℤ) (zs : List ℤ) → is_member (int z) (map int zs) ≡ is_in z zs
member-int z [] = refl
member-int z (y ∷ ys) = ap (λ b. int_eq z y || b) (member-int z ys)

le-true : (a b : ℤ) → int_le a b ≡ true → a ≤ℤ b
le-true a b e = grind (arith, int_rules)

le-false : (a b : ℤ) → int_le a b ≡ false → b <ℤ a
le-false a b e = grind (arith, int_rules)

exact-int : (good : ℤ → Bool) (lo hi z : ℤ) (zs : List ℤ) → Within lo hi zs → (lo ≤ℤ z → z ≤ℤ hi → is_in z zs ≡ good z)
    → (a b : Bool) → int_le lo z ≡ a → int_le z hi ≡ b → is_in z zs ≡ ((a && b) && true && good z)
exact-int good lo hi z zs w inside true true e f = inside (le-true lo z e) (le-true z hi f)
exact-int good lo hi z zs w inside true false e f = is_in-above z lo hi zs w (le-false z hi f)
exact-int good lo hi z zs w inside false b e f = is_in-below z lo hi zs w (le-false lo z e)

range-answer : (t : PlainTheory) (x : Env) (lo hi : ℤ) → lo ≤ℤ hi
    → (v : PlainValue) → is_member v (map int (range_search (relates_at t x) (lo, hi))) ≡ (in_sort (ints lo hi) v && relates (theory_calls t) t.spec x v)
range-answer t x lo hi le (bool b) = no_bool b (range_search (relates_at t x) (lo, hi))
range-answer t x lo hi le (pair v w) = no_pair v w (range_search (relates_at t x) (lo, hi))
range-answer t x lo hi le (set vs) = no_set vs (range_search (relates_at t x) (lo, hi))
range-answer t x lo hi le (seq vs) = no_seq vs (range_search (relates_at t x) (lo, hi))
range-answer t x lo hi le (map_of es) = no_map es (range_search (relates_at t x) (lo, hi))
range-answer t x lo hi le (tag n) = no_tag n (range_search (relates_at t x) (lo, hi))
range-answer t x lo hi le (int z) =
    member-int z (range_search (relates_at t x) (lo, hi))
    ∙ exact-int (relates_at t x) lo hi z (range_search (relates_at t x) (lo, hi))
    (range-within (relates_at t x) (suc (int_gap lo hi)) lo hi le)
    (λ low high. range-exact (relates_at t x) (suc (int_gap lo hi)) lo hi z (omega arith) low high)
    (int_le lo z) (int_le z hi) refl refl

-- for a theory whose output is an integer from lo to hi
range-all : (t : PlainTheory) (x : Env) (lo hi : ℤ) → t.spec.sort ≡ ints lo hi → lo ≤ℤ hi → AllAnswers (theory_calls t) t.spec x (map int (range_search (relates_at t x) (lo, hi)))
range-all t x lo hi is le =
    let zs = range_search (relates_at t x) (lo, hi) in
    record {
      ascends = ascending lo hi zs (range-within (relates_at t x) (suc (int_gap lo hi)) lo hi le);
      exact = λ v. subst (λ (s : PlainSort). is_member v (map int zs) ≡ (in_sort s v && relates (theory_calls t) t.spec x v)) (sym is) (range-answer t x lo hi le v);
    }

first-map : {X Y : Type 0} (f : X → Y) (first : Option ℕ) (xs : List X) → first_of first (map f xs) ≡ map f (first_of first xs)
first-map f None xs = refl
first-map f (Some k) xs = take-map f k xs

-- what the descriptors hold that the search visits where so many answers are wanted
abbrev pub range_wanted : (ℤ → Bool) → Option ℕ → Interval → List ℤ
range_wanted good first d = leaves (range_leaf good) (range_visited good first d)

pub range-answers : (t : PlainTheory) (x : Env) (lo hi : ℤ) → t.spec.sort ≡ ints lo hi → lo ≤ℤ hi → AreAnswers t x (map int (range_wanted (relates_at t x) t.spec.first (lo, hi)))
range-answers t x lo hi is le =
    let good : ℤ → Bool = relates_at t x in
    let n : ℕ = suc (int_gap lo hi) in
    record {
      all = map int (range_search good (lo, hi));
      are_all = range-all t x lo hi is le;
      first = sym (
          first-map int t.spec.first (range_search good (lo, hi))
          ∙ ap (λ zs. map int (first_of t.spec.first zs)) (visit_holds (range_leaf good) range_kids n (lo, hi))
          ∙ ap (map int) (leaves_wanted (range_leaf good) t.spec.first (visited range_kids n (lo, hi)))
          );
    }
