-- Lists that have each thing of a kind once, and how many they have.
use Rattle.std.proofs.Common.{◌≡◌, ℕ, ◌+◌, ◌*◌, List, [], ◌∷◌, ◌++◌, length, map, refl, sym, ap, subst, ◌∙◌, ◌⊎◌, inl, inr, arith}
use Rattle.std.proofs.lemmas.List.{length-append, length-map}
use Rattle.std.proofs.Math.Nat.{zero-mul, suc-mul}

abbrev pub Has : {X : Type 0} → X → List X → Type 0
Has x [] = ⊥
Has x (y ∷ ys) = (x ≡ y) ⊎ Has x ys

abbrev pub Distinct : {X : Type 0} → List X → Type 0
Distinct [] = Unit {0}
Distinct (x ∷ xs) = (Has x xs → ⊥) × Distinct xs

-- a list of all that P says, each once
pub record Listing {X : Type 0} (P : X → Type 0) (n : ℕ) : Type 0 where
  pub items : List X
  pub distinct : Distinct items
  pub sound : (x : X) → Has x items → P x
  pub complete : (x : X) → P x → Has x items
  pub counted : length items ≡ n

module _ {X : Type 0} where
  pub has_left : (x : X) (xs ys : List X) → Has x xs → Has x (xs ++ ys)
  has_left x [] ys h = absurd h
  has_left x (y ∷ xs) ys (inl e) = inl e
  has_left x (y ∷ xs) ys (inr h) = inr (has_left x xs ys h)

  pub has_right : (x : X) (xs ys : List X) → Has x ys → Has x (xs ++ ys)
  has_right x [] ys h = h
  has_right x (y ∷ xs) ys h = inr (has_right x xs ys h)

  pub has_either : (x : X) (xs ys : List X) → Has x (xs ++ ys) → Has x xs ⊎ Has x ys
  has_either x [] ys h = inr h
  has_either x (y ∷ xs) ys (inl e) = inl (inl e)
  has_either x (y ∷ xs) ys (inr h) = elim (has_either x xs ys h) [
    | inl g ↦ inl (inr g)
    | inr g ↦ inr g
  ]

  distinct_both : (xs ys : List X) → Distinct xs → Distinct ys → ((x : X) → Has x xs → Has x ys → ⊥) → Distinct (xs ++ ys)
  distinct_both [] ys d e apart = e
  distinct_both (x ∷ xs) ys d e apart = (
    λ h. elim (has_either x xs ys h) [
      | inl g ↦ d.0 g
      | inr g ↦ apart x (inl refl) g
    ],
    distinct_both xs ys d.1 e (λ z g k. apart z (inr g) k),
  )

  -- nothing, one thing, things of two kinds, and the same kind in other words
  pub no_thing : (P : X → Type 0) → ((x : X) → P x → ⊥) → Listing P 0
  no_thing P none = record { items = []; distinct = tt; sound = λ x h. absurd h; complete = λ x p. none x p; counted = refl }

  pub one_thing : (y : X) → Listing (λ x. x ≡ y) 1
  one_thing y = record { items = y ∷ []; distinct = (λ h. h, tt); sound = one; complete = λ x e. inl e; counted = refl }
    where
      one : (x : X) → Has x (y ∷ []) → x ≡ y
      one x (inl e) = e
      one x (inr h) = absurd h

  pub two_kinds : (P Q : X → Type 0) (m n : ℕ) → ((x : X) → P x → Q x → ⊥) → Listing P m → Listing Q n → Listing (λ x. P x ⊎ Q x) (m + n)
  two_kinds P Q m n apart f g = record {
    items = f.items ++ g.items;
    distinct = distinct_both f.items g.items f.distinct g.distinct (λ x h k. apart x (f.sound x h) (g.sound x k));
    sound = λ x h. elim (has_either x f.items g.items h) [
      | inl k ↦ inl (f.sound x k)
      | inr k ↦ inr (g.sound x k)
    ];
    complete = λ x p. elim p [
      | inl k ↦ has_left x f.items g.items (f.complete x k)
      | inr k ↦ has_right x f.items g.items (g.complete x k)
    ];
    counted = length-append f.items g.items ∙ (λ i. f.counted i + g.counted i);
  }

  pub said_else : (P Q : X → Type 0) (n : ℕ) → ((x : X) → P x → Q x) → ((x : X) → Q x → P x) → Listing P n → Listing Q n
  said_else P Q n to back f = record { items = f.items; distinct = f.distinct; sound = λ x h. to x (f.sound x h); complete = λ x q. f.complete x (back x q); counted = f.counted }

  pub counted_else : (P : X → Type 0) (m n : ℕ) → m ≡ n → Listing P m → Listing P n
  counted_else P m n e f = subst (Listing P) e f

-- the images by a function that keeps things apart
abbrev pub Image : {X Y : Type 0} → (X → Y) → (X → Type 0) → Y → Type 0
Image {X} f P y = (x : X) × P x × (y ≡ f x)

module _ {X Y : Type 0} (f : X → Y) where
  pub has_image : (y : Y) (xs : List X) → Has y (map f xs) → (x : X) × Has x xs × (y ≡ f x)
  has_image y [] h = absurd h
  has_image y (x ∷ xs) (inl e) = (x, inl refl, e)
  has_image y (x ∷ xs) (inr h) = let r = has_image y xs h in (r.0, inr r.1, r.2)

  pub image_has : (x : X) (xs : List X) → Has x xs → Has (f x) (map f xs)
  image_has x [] h = absurd h
  image_has x (z ∷ xs) (inl e) = inl (ap f e)
  image_has x (z ∷ xs) (inr h) = inr (image_has x xs h)

  distinct_images : ((x z : X) → f x ≡ f z → x ≡ z) → (xs : List X) → Distinct xs → Distinct (map f xs)
  distinct_images one [] d = tt
  distinct_images one (x ∷ xs) d = (λ h. let r = has_image (f x) xs h in d.0 (subst (λ z. Has z xs) (sym (one x r.0 r.2)) r.1), distinct_images one xs d.1)

  pub images : (P : X → Type 0) (n : ℕ) → ((x z : X) → f x ≡ f z → x ≡ z) → Listing P n → Listing (Image f P) n
  images P n one l = record {
    items = map f l.items;
    distinct = distinct_images one l.items l.distinct;
    sound = λ y h. let r = has_image y l.items h in (r.0, l.sound r.0 r.1, r.2);
    complete = λ y p. subst (λ z. Has z (map f l.items)) (sym p.2) (image_has p.0 l.items (l.complete p.0 p.1));
    counted = length-map l.items f ∙ l.counted;
  }

-- each of the first things with each of the second
abbrev pub Joint : {X Y Z : Type 0} → (X → Y → Z) → (X → Type 0) → (Y → Type 0) → Z → Type 0
Joint {X} {Y} f P Q z = (x : X) × (y : Y) × P x × Q y × (z ≡ f x y)

module _ {X Y Z : Type 0} (f : X → Y → Z) (first : (x v : X) (y w : Y) → f x y ≡ f v w → x ≡ v) (second : (x v : X) (y w : Y) → f x y ≡ f v w → y ≡ w) where
  joints_from : (Q : Y → Type 0) (n : ℕ) → Listing Q n → (xs : List X) → Distinct xs → Listing (Joint f (λ x. Has x xs) Q) (length xs * n)
  joints_from Q n l [] d = counted_else (Joint f (λ x. Has x []) Q) 0 (0 * n) (sym (zero-mul n)) (no_thing (Joint f (λ x. Has x []) Q) (λ z p. p.2))
  joints_from Q n l (x ∷ xs) d =
      counted_else (Joint f (λ v. Has v (x ∷ xs)) Q) (n + length xs * n) (length (x ∷ xs) * n) (omega (arith, suc-mul (length xs) n))
      (said_else (λ z. Image (f x) Q z ⊎ Joint f (λ v. Has v xs) Q z) (Joint f (λ v. Has v (x ∷ xs)) Q) (n + length xs * n) to back
      (two_kinds (Image (f x) Q) (Joint f (λ v. Has v xs) Q) n (length xs * n) apart (images (f x) Q n (λ y w e. second x x y w e) l) (joints_from Q n l xs d.1)))
    where
      apart : (z : Z) → Image (f x) Q z → Joint f (λ v. Has v xs) Q z → ⊥
      apart z p q = d.0 (subst (λ v. Has v xs) (sym (first x q.0 p.0 q.1 (sym p.2 ∙ q.4))) q.2)

      to : (z : Z) → Image (f x) Q z ⊎ Joint f (λ v. Has v xs) Q z → Joint f (λ v. Has v (x ∷ xs)) Q z
      to z (inl p) = (x, p.0, inl refl, p.1, p.2)
      to z (inr p) = (p.0, p.1, inr p.2, p.3, p.4)

      by_place : (z : Z) (v : X) (y : Y) → Has v (x ∷ xs) → Q y → z ≡ f v y → Image (f x) Q z ⊎ Joint f (λ v. Has v xs) Q z
      by_place z v y (inl e) q r = inl (y, q, r ∙ ap (λ w. f w y) e)
      by_place z v y (inr h) q r = inr (v, y, h, q, r)

      back : (z : Z) → Joint f (λ v. Has v (x ∷ xs)) Q z → Image (f x) Q z ⊎ Joint f (λ v. Has v xs) Q z
      back z p = by_place z p.0 p.1 p.2 p.3 p.4

  pub joints : (P : X → Type 0) (Q : Y → Type 0) (m n : ℕ) → Listing P m → Listing Q n → Listing (Joint f P Q) (m * n)
  joints P Q m n k l = counted_else (Joint f P Q) (length k.items * n) (m * n) (ap (λ z. z * n) k.counted)
      (said_else (Joint f (λ x. Has x k.items) Q) (Joint f P Q) (length k.items * n)
      (λ z p. (p.0, p.1, k.sound p.0 p.2, p.3, p.4)) (λ z p. (p.0, p.1, k.complete p.0 p.2, p.3, p.4)) (joints_from Q n l k.items k.distinct))
