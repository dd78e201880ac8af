-- What one call of the emitted program's search procedure does: the leaf where one integer is left, or both halves.
use Rattle.std.proofs.Common.{◌≡◌, ℕ, suc, Bool, true, false, cond, List, [], ◌∷◌, ◌++◌, Ok, refl, ap, ap₂, ◌∙◌, arith, append-nil}
use Rattle.std.specs.Prelude.{ℤ, pos, ◌+ℤ◌, ◌≤ℤ◌, int_le, int_lt, not, ◌&&◌, codes}
use Rattle.std.specs.Ordering.{int_eq}
use Rattle.std.proofs.lemmas.Int.{ints as int_rules}
use Rattle.kid_value.specs.PlainValue.{PlainValue, int}
use Rattle.kid_value.specs.PlainSort.{PlainSort, bools, ints}
use Rattle.kid_value.specs.Least.{least_value}
use Rattle.kid_value.specs.Rows.Parts.{truth_of}
use Rattle.kid_term.specs.Names.{same_name, is_named, latest_first}
use Rattle.kid_term.specs.PlainSpec.{relation_scope}
use Rattle.kid_term.specs.Eval.{Env, value_at, cast_value, eval}
use Rattle.kid_term.specs.Sorting.{sort_of}
use Rattle.kid_term.specs.Substitution.{replaced, captures}
use Rattle.kid_term.proofs.SimultaneousLemmas.{eval-substituted}
use Rattle.kid_term.proofs.SortedValue.{sort_of_ok}
use Rattle.kid_term.specs.PlainTheory.{PlainTheory}
use Rattle.kid_prog.specs.Events.{Event, called, found, procedure}
use Rattle.kid_top.specs.RangeSearch.{middle}
use Rattle.kid_top.specs.Emitted.{emitted, leaf, is_apart, takes_leaf}
use Rattle.kid_top.specs.TheoryAt.{theory_calls, relates_at}
use Rattle.kid_term.proofs.Scopes.{eval-in_scope, names-differ}

-- the theory's program searches its sort
pub record Searchable (t : PlainTheory) (lo hi : ℤ) : Type 0 where
  pub of_sort : t.spec.sort ≡ ints lo hi
  pub ordered : lo ≤ℤ hi
  pub apart : is_apart t ≡ true
  pub takes : takes_leaf t ≡ true
  pub sorted : sort_of t.signature.definitions (relation_scope t.spec) t.spec.relation ≡ Ok bools

-- what the search procedure does from l to h, where calls lie at most n deep
abbrev pub begun : PlainTheory → ℤ → ℤ → Env → ℕ → ℤ → ℤ → List Event
begun t lo hi x n l h = procedure (emitted t lo hi) x n (int l ∷ int h ∷ [])

-- the names that the call sees
abbrev ends : ℤ → ℤ → Env → Env
ends l h x = (codes "low", int l) ∷ (codes "high", int h) ∷ x

not_true : (b : Bool) → not b ≡ true → b ≡ false
not_true true p = cc
not_true false p = refl

neither : (a b : Bool) → (not a && not b) ≡ true → (a ≡ false) × (b ≡ false)
neither true b p = cc
neither false b p = (refl, not_true b p)

-- ---- the leaf and the relation

has_integer : (lo hi l : ℤ) → lo ≤ℤ l → l ≤ℤ hi → (int_le lo l && int_le l hi) ≡ true
has_integer lo hi l low high = grind (arith, int_rules)

-- an integer of the sort is not changed by the cast
cast-keeps : (s : PlainSort) (lo hi l : ℤ) → s ≡ ints lo hi → lo ≤ℤ l → l ≤ℤ hi → cast_value s (int l ∷ []) ≡ int l
cast-keeps s lo hi l is low high =
    ap (λ z. cast_value z (int l ∷ [])) is ∙ ap (λ c. cond c (int l) (least_value (ints lo hi))) (has_integer lo hi l low high)

-- a name of the relation's scope has its value beside the ends
beside_ends : (t : PlainTheory) (x : Env) (l h : ℤ) (v : PlainValue) → is_apart t ≡ true
    → (y : List ℕ) → is_named y (relation_scope t.spec) ≡ true → value_at y ((t.spec.output, v) ∷ ends l h x) ≡ value_at y ((t.spec.output, v) ∷ x)
beside_ends t x l h v apart y inside =
    let parts = neither (is_named (codes "low") (relation_scope t.spec)) (is_named (codes "high") (relation_scope t.spec)) apart in
    ap (λ d. cond (same_name y t.spec.output) v (cond d (int l) (cond (same_name y (codes "high")) (int h) (value_at y x))))
    (names-differ y (codes "low") (relation_scope t.spec) inside parts.0)
    ∙ ap (λ d. cond (same_name y t.spec.output) v (cond d (int h) (value_at y x))) (names-differ y (codes "high") (relation_scope t.spec) inside parts.1)

-- the relation with the leaf in the output's place has its value at the leaf's integer
relation-value : (t : PlainTheory) (lo hi : ℤ) (x : Env) (l h : ℤ) → Searchable t lo hi → lo ≤ℤ l → l ≤ℤ hi
    → eval (theory_calls t) (ends l h x) (replaced t.spec.output (leaf t.spec.sort) t.spec.relation) ≡ eval (theory_calls t) ((t.spec.output, int l) ∷ x) t.spec.relation
relation-value t lo hi x l h can low high =
    eval-substituted (theory_calls t) (ends l h x) t.spec.output (leaf t.spec.sort) t.spec.relation (not_true (captures t.spec.output (leaf t.spec.sort) t.spec.relation) can.takes)
    ∙ ap (λ v. eval (theory_calls t) ((t.spec.output, v) ∷ ends l h x) t.spec.relation) (cast-keeps t.spec.sort lo hi l can.of_sort low high)
    ∙ eval-in_scope (theory_calls t) (latest_first t.signature.definitions) (relation_scope t.spec) t.spec.relation bools ((t.spec.output, int l) ∷ ends l h x) ((t.spec.output, int l) ∷ x) (sort_of_ok t.signature.definitions (relation_scope t.spec) t.spec.relation bools can.sorted).2
    (beside_ends t x l h (int l) can.apart)

-- ---- the call

-- a call, by the tests that it makes: whether one integer is left and it is good, and whether more are left
abbrev pub one_call : Bool → PlainValue → Bool → List Event → List Event → List Event
one_call good v wide lower upper = called ∷ (cond good (found v ∷ []) [] ++ cond wide (lower ++ upper) [])

call-computes : (t : PlainTheory) (lo hi : ℤ) (x : Env) (n : ℕ) (l h : ℤ)
    → begun t lo hi x (suc n) l h
    ≡ called
    ∷ (cond (int_eq l h) (cond (truth_of (eval (theory_calls t) (ends l h x) (replaced t.spec.output (leaf t.spec.sort) t.spec.relation))) (found (cast_value t.spec.sort (int l ∷ [])) ∷ []) [] ++ []) []
    ++ (cond (int_lt l h) ((begun t lo hi x n l (middle l h) ++ []) ++ ((begun t lo hi x n (middle l h +ℤ pos 1) h ++ []) ++ [])) [] ++ []))
call-computes t lo hi x n l h = refl

both-tests : (alone good : Bool) (v : PlainValue) → cond alone (cond good (found v ∷ []) [] ++ []) [] ≡ cond (alone && good) (found v ∷ []) []
both-tests true true v = refl
both-tests true false v = refl
both-tests false good v = refl

both-halves : (wide : Bool) (lower upper : List Event) → cond wide ((lower ++ []) ++ ((upper ++ []) ++ [])) [] ++ [] ≡ cond wide (lower ++ upper) []
both-halves true lower upper =
    append-nil ((lower ++ []) ++ ((upper ++ []) ++ [])) ∙ ap₂ (λ es fs. es ++ fs) (append-nil lower) (append-nil (upper ++ []) ∙ append-nil upper)
both-halves false lower upper = refl

pub call-is : (t : PlainTheory) (lo hi : ℤ) (x : Env) (n : ℕ) (l h : ℤ) → Searchable t lo hi → lo ≤ℤ l → l ≤ℤ hi
    → begun t lo hi x (suc n) l h
    ≡ one_call (int_eq l h && relates_at t x l) (int l) (int_lt l h) (begun t lo hi x n l (middle l h)) (begun t lo hi x n (middle l h +ℤ pos 1) h)
call-is t lo hi x n l h can low high =
    call-computes t lo hi x n l h
    ∙ ap₂ (λ es fs. called ∷ (es ++ fs))
    (ap₂ (λ good v. cond (int_eq l h) (cond good (found v ∷ []) [] ++ []) [])
    (ap truth_of (relation-value t lo hi x l h can low high)) (cast-keeps t.spec.sort lo hi l can.of_sort low high)
    ∙ both-tests (int_eq l h) (relates_at t x l) (int l))
    (both-halves (int_lt l h) (begun t lo hi x n l (middle l h)) (begun t lo hi x n (middle l h +ℤ pos 1) h))
