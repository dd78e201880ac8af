-- Reading and printing trees one after another.
use Rattle.std.proofs.Common.{◌≡◌, ℕ, suc, ◌+◌, ◌≤◌, ◌<◌, List, [], ◌∷◌, length, get_or, drop, Option, Some, None, refl, sym, ap, ◌∙◌, arith, add-one, drop-cons, subst}
use Rattle.std.specs.Prelude.{option_map}
use Rattle.std.proofs.lemmas.List.{drop_all}
use Rattle.kid_sexp.specs.declared.tree.Tree.{Tree}
use Rattle.kid_sexp.specs.Plain.{Plain, Plains, none, more, join, one}
use Rattle.kid_sexp.specs.PlainCode.{join-none}
use Rattle.kid_sexp.specs.TreeSize.{tree_size, forest_size}
use Rattle.kid_sexp.specs.Tree.{plain, plains}
use Rattle.kid_codec.specs.Reading.{◌>>=◌}

pub cons_at : {A : Type 0} (xs : List A) (i : ℕ) (item : A) → i < length xs → item ≡ get_or xs i item → drop i xs ≡ item ∷ drop (i + 1) xs
cons_at {A = A} xs i item within is =
    rw add-one (drop-cons xs i item within ∙ ap (λ (t : A). t ∷ drop (suc i) xs) (sym is))

-- a list is read by reading each tree
pub record ReadsEach {A : Type 0} (f : Plain → Option A) (g : Plains → Option (List A)) : Type 0 where
  pub at_none : g none ≡ Some []
  pub at_more : (t : Plain) (ts : Plains) → g (more t ts) ≡ (f t >>= λ x. option_map (λ xs. x ∷ xs) (g ts))

then_none : {A B : Type 0} (x : A) (k : List A → Option B) (r : Option (List A)) → ((xs : List A) → k (x ∷ xs) ≡ None) → (option_map (λ xs. x ∷ xs) r >>= k) ≡ None
then_none x k None h = refl
then_none x k (Some xs) h = h xs

then_more : {A B : Type 0} (x : A) (k l : List A → Option B) (r : Option (List A)) → ((xs : List A) → k (x ∷ xs) ≡ l xs) → (option_map (λ xs. x ∷ xs) r >>= k) ≡ (r >>= l)
then_more x k l None h = refl
then_more x k l (Some xs) h = h xs

module _ {A B : Type 0} {f : Plain → Option A} {g : Plains → Option (List A)} (each : ReadsEach f g) where
  read_front : (k : List A → Option B) (trees : List Tree) (i : ℕ) (item : Tree) → i < length trees → item ≡ get_or trees i item
      → (g (plains (drop i trees)) >>= k) ≡ ((f (plain item) >>= λ x. option_map (λ xs. x ∷ xs) (g (plains (drop (i + 1) trees)))) >>= k)
  read_front k trees i item within is =
      ap (λ (ts : List Tree). g (plains ts) >>= k) (cons_at trees i item within is)
      ∙ ap (λ (r : Option (List A)). r >>= k) (each.at_more (plain item) (plains (drop (i + 1) trees)))

  -- where the next tree spells something, it is taken in
  pub read-step : (k l : List A → Option B) (trees : List Tree) (i : ℕ) (item : Tree) (x : A) (total : Option B) → i < length trees → item ≡ get_or trees i item
      → f (plain item) ≡ Some x → ((xs : List A) → k (x ∷ xs) ≡ l xs)
      → (g (plains (drop i trees)) >>= k) ≡ total → (g (plains (drop (i + 1) trees)) >>= l) ≡ total
  read-step k l trees i item x total within is reads takes told =
      sym (then_more x k l (g (plains (drop (i + 1) trees))) takes)
      ∙ ap (λ (o : Option A). (o >>= λ y. option_map (λ xs. y ∷ xs) (g (plains (drop (i + 1) trees)))) >>= k) (sym reads)
      ∙ sym (read_front k trees i item within is) ∙ told

  -- where it spells nothing, the whole does not
  pub read-none : (k : List A → Option B) (trees : List Tree) (i : ℕ) (item : Tree) (total : Option B) → i < length trees → item ≡ get_or trees i item
      → f (plain item) ≡ None → (g (plains (drop i trees)) >>= k) ≡ total → total ≡ None
  read-none k trees i item total within is reads told =
      sym told ∙ read_front k trees i item within is
      ∙ ap (λ (o : Option A). (o >>= λ y. option_map (λ xs. y ∷ xs) (g (plains (drop (i + 1) trees)))) >>= k) reads

  -- and where what it spells is not taken
  pub read-refused : (k : List A → Option B) (trees : List Tree) (i : ℕ) (item : Tree) (x : A) (total : Option B) → i < length trees → item ≡ get_or trees i item
      → f (plain item) ≡ Some x → ((xs : List A) → k (x ∷ xs) ≡ None) → (g (plains (drop i trees)) >>= k) ≡ total → total ≡ None
  read-refused k trees i item x total within is reads refuses told =
      sym told ∙ read_front k trees i item within is
      ∙ ap (λ (o : Option A). (o >>= λ y. option_map (λ xs. y ∷ xs) (g (plains (drop (i + 1) trees)))) >>= k) reads
      ∙ then_none x k (g (plains (drop (i + 1) trees))) refuses

  pub read-end : (k : List A → Option B) (trees : List Tree) (i : ℕ) (total : Option B) → length trees ≤ i
      → (g (plains (drop i trees)) >>= k) ≡ total → total ≡ k []
  read-end k trees i total over told =
      sym told ∙ ap (λ (ts : List Tree). g (plains ts) >>= k) (drop_all i trees over) ∙ ap (λ (r : Option (List A)). r >>= k) each.at_none

pub size-step : (trees : List Tree) (i : ℕ) (item : Tree) (n : ℕ) → i < length trees → item ≡ get_or trees i item
    → forest_size (plains (drop i trees)) ≤ n → forest_size (plains (drop (i + 1) trees)) ≤ n
size-step trees i item n within is le =
    let cut : forest_size (plains (item ∷ drop (i + 1) trees)) ≤ n = subst (λ (xs : List Tree). forest_size (plains xs) ≤ n) (cons_at trees i item within is) le in
    omega arith

pub size-item : (trees : List Tree) (i : ℕ) (item : Tree) (n : ℕ) → i < length trees → item ≡ get_or trees i item
    → forest_size (plains (drop i trees)) ≤ n → tree_size (plain item) < n
size-item trees i item n within is le =
    let cut : forest_size (plains (item ∷ drop (i + 1) trees)) ≤ n = subst (λ (xs : List Tree). forest_size (plains xs) ≤ n) (cons_at trees i item within is) le in
    omega arith

-- a list is printed by printing each
pub record PrintsEach {X : Type 0} (f : X → Plain) (g : List X → Plains) : Type 0 where
  pub at_none : g [] ≡ none
  pub at_more : (x : X) (xs : List X) → g (x ∷ xs) ≡ more (f x) (g xs)

pub join-one : (ts : Plains) (t : Plain) (us : Plains) → join (join ts (one t)) us ≡ join ts (more t us)
join-one none t us = refl
join-one (more u ts) t us = ap (more u) (join-one ts t us)

module _ {X : Type 0} {f : X → Plain} {g : List X → Plains} (each : PrintsEach f g) where
  pub print-step : (old new total : Plains) (xs : List X) (i : ℕ) (item : X) (t : Plain) → i < length xs → item ≡ get_or xs i item
      → t ≡ f item → new ≡ join old (one t) → join old (g (drop i xs)) ≡ total → join new (g (drop (i + 1) xs)) ≡ total
  print-step old new total xs i item t within is prints grows told =
      ap (λ (ts : Plains). join ts (g (drop (i + 1) xs))) grows ∙ join-one old t (g (drop (i + 1) xs))
      ∙ ap (λ (u : Plain). join old (more u (g (drop (i + 1) xs)))) prints
      ∙ ap (λ (ts : Plains). join old ts) (sym (each.at_more item (drop (i + 1) xs)))
      ∙ ap (λ (ys : List X). join old (g ys)) (sym (cons_at xs i item within is)) ∙ told

  pub print-end : (old total : Plains) (xs : List X) (i : ℕ) → length xs ≤ i → join old (g (drop i xs)) ≡ total → old ≡ total
  print-end old total xs i over told =
      sym (join-none old) ∙ ap (λ (ts : Plains). join old ts) (sym each.at_none)
      ∙ ap (λ (ys : List X). join old (g ys)) (sym (drop_all i xs over)) ∙ told
