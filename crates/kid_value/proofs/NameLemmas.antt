-- Names, their order, and sets of them.
use Rattle.std.proofs.Common.{◌≡◌, ℕ, Bool, true, false, cond, List, [], ◌∷◌, Ordering, refl, sym, ap, subst, ◌∙◌, inl, inr, arith}
use Rattle.std.specs.Prelude.{◌||◌, ◌&&◌}
use Rattle.std.specs.declared.cmp.Ordering.TheVariants.{Less, Equal, Greater}
use Rattle.std.specs.Ordering.{ordering_reverse, nat_cmp, is_eq, is_lt}
use Rattle.std.specs.Str.{bytes_eq}
use Rattle.std.proofs.lemmas.Cmp.{nat_cmp_total, nat_list_cmp_total, tied_itself}
use Rattle.std.proofs.lemmas.Bool.Decides.{nat_tests}
use Rattle.std.proofs.lemmas.Map.Text.{is_eq-slice_cmp}
use Rattle.std.proofs.lemmas.Slice.Eq.{bytes_eq-Decides}
use Rattle.kid_value.specs.NameSet.{name_cmp, is_among, are_among, names_ascend, put_name, put_name_by, names_union, least_from}
use Rattle.kid_value.proofs.Listings.{Has, Distinct}

pub byte_ties : (m n : ℕ) → nat_cmp m n ≡ Equal → m ≡ n
byte_ties m n p = grind (arith, nat_tests)

pub byte_itself : (n : ℕ) → nat_cmp n n ≡ Equal
byte_itself n = tied_itself nat_cmp_total n

pub same_bytes : (m n : List ℕ) → bytes_eq m n ≡ true → m ≡ n
same_bytes m n = (bytes_eq-Decides m n).0

pub bytes_itself : (n : List ℕ) → bytes_eq n n ≡ true
bytes_itself n = (bytes_eq-Decides n n).1 refl

pub name_cmp-itself : (n : List ℕ) → name_cmp n n ≡ Equal
name_cmp-itself n = tied_itself nat_list_cmp_total n

pub name_cmp-equal : (m n : List ℕ) → name_cmp m n ≡ Equal → m ≡ n
name_cmp-equal m n p = same_bytes m n (sym (is_eq-slice_cmp m n) ∙ ap is_eq p)

and_parts : (b c : Bool) → (b && c) ≡ true → (b ≡ true) × (c ≡ true)
and_parts true c p = (refl, p)
and_parts false c p = cc

pub or_parts : {A : Type 0} (b c : Bool) → (b || c) ≡ true → (b ≡ true → A) → (c ≡ true → A) → A
or_parts true c p f g = f refl
or_parts false c p f g = g p

pub or_first : (b c : Bool) → b ≡ true → (b || c) ≡ true
or_first b c p = ap (λ z. z || c) p

pub or_second : (b c : Bool) → c ≡ true → (b || c) ≡ true
or_second true c p = refl
or_second false c p = p

or_again : (b c : Bool) → (b || c) ≡ (b || (b || c))
or_again true c = refl
or_again false c = refl

or_turned : (a b c : Bool) → (a || (b || c)) ≡ (b || (a || c))
or_turned true true c = refl
or_turned true false c = refl
or_turned false true c = refl
or_turned false false c = refl

or_moved : (a b c : Bool) → ((a || b) || c) ≡ (b || (a || c))
or_moved true true c = refl
or_moved true false c = refl
or_moved false true c = refl
or_moved false false c = refl

-- which names are in a set with one more, and in a union
pub is_among-put : (x m : List ℕ) (ns : List (List ℕ)) → is_among x (put_name m ns) ≡ (bytes_eq x m || is_among x ns)
is_among-put x m [] = refl
is_among-put x m (n ∷ ns) = by_cases (name_cmp m n) refl (is_among-put x m ns)
  where
    by_cases : (o : Ordering) → name_cmp m n ≡ o → is_among x (put_name m ns) ≡ (bytes_eq x m || is_among x ns) → is_among x (put_name_by o m n ns (put_name m ns)) ≡ (bytes_eq x m || is_among x (n ∷ ns))
    by_cases Less e h = refl
    by_cases Equal e h = or_again (bytes_eq x n) (is_among x ns) ∙ ap (λ z. bytes_eq x z || is_among x (n ∷ ns)) (sym (name_cmp-equal m n e))
    by_cases Greater e h = ap (λ z. bytes_eq x n || z) h ∙ or_turned (bytes_eq x n) (bytes_eq x m) (is_among x ns)

pub is_among-union : (x : List ℕ) (ms ns : List (List ℕ)) → is_among x (names_union ms ns) ≡ (is_among x ms || is_among x ns)
is_among-union x ms [] = or_none (is_among x ms)
  where
    or_none : (b : Bool) → b ≡ (b || false)
    or_none true = refl
    or_none false = refl
is_among-union x ms (n ∷ ns) = is_among-union x (put_name n ms) ns ∙ ap (λ z. z || is_among x ns) (is_among-put x n ms) ∙ or_moved (bytes_eq x n) (is_among x ms) (is_among x ns)

-- inclusion, name by name
pub are_among-each : (ms ns : List (List ℕ)) → are_among ms ns ≡ true → (x : List ℕ) → is_among x ms ≡ true → is_among x ns ≡ true
are_among-each [] ns p x h = cc
are_among-each (m ∷ ms) ns p x h =
    by (is_among m ns) refl p (are_among-each ms ns)
  where
    by : (b : Bool) → is_among m ns ≡ b → (b && are_among ms ns) ≡ true → (are_among ms ns ≡ true → (y : List ℕ) → is_among y ms ≡ true → is_among y ns ≡ true) → is_among x ns ≡ true
    by true e q ih = or_parts (bytes_eq x m) (is_among x ms) h (λ s. ap (λ z. is_among z ns) (same_bytes x m s) ∙ e) (ih q x)
    by false e q ih = cc

pub each-are_among : (ms ns : List (List ℕ)) → ((x : List ℕ) → is_among x ms ≡ true → is_among x ns ≡ true) → are_among ms ns ≡ true
each-are_among [] ns f = refl
each-are_among (m ∷ ms) ns f =
    let e : is_among m ns ≡ true = f m (or_first (bytes_eq m m) (is_among m ms) (bytes_itself m)) in
    let g : are_among ms ns ≡ true = each-are_among ms ns (λ x h. f x (or_second (bytes_eq x m) (is_among x ms) h)) in
    ap (λ z. z && are_among ms ns) e ∙ g

pub are_among-itself : (ns : List (List ℕ)) → are_among ns ns ≡ true
are_among-itself ns = each-are_among ns ns (λ x h. h)

pub union-first : (ms ns : List (List ℕ)) → are_among ms (names_union ms ns) ≡ true
union-first ms ns = each-are_among ms (names_union ms ns) (λ x h. is_among-union x ms ns ∙ or_first (is_among x ms) (is_among x ns) h)

pub union-second : (ms ns : List (List ℕ)) → are_among ns (names_union ms ns) ≡ true
union-second ms ns = each-are_among ns (names_union ms ns) (λ x h. is_among-union x ms ns ∙ or_second (is_among x ms) (is_among x ns) h)

pub union-below : (ms ns ts : List (List ℕ)) → are_among ms ts ≡ true → are_among ns ts ≡ true → are_among (names_union ms ns) ts ≡ true
union-below ms ns ts p q =
    each-are_among (names_union ms ns) ts (λ x h. or_parts (is_among x ms) (is_among x ns) (sym (is_among-union x ms ns) ∙ h) (are_among-each ms ts p x) (are_among-each ns ts q x))

-- the least of names is one of them, and none is before it
abbrev NotAfter : List ℕ → List ℕ → Type 0
NotAfter m n = name_cmp m n ≡ Greater → ⊥

not_after-itself : (n : List ℕ) → NotAfter n n
not_after-itself n p = let e : Equal ≡ Greater = sym (name_cmp-itself n) ∙ p in cc

less-not_after : (m n : List ℕ) → name_cmp m n ≡ Less → NotAfter m n
less-not_after m n e p = let f : Less ≡ Greater = sym e ∙ p in cc

not_after-trans : (a b c : List ℕ) → NotAfter a b → NotAfter b c → NotAfter a c
not_after-trans a b c f g p = by (name_cmp b c) refl
  where
    turned : name_cmp c a ≡ Less
    turned = nat_list_cmp_total.antisymm c a ∙ ap ordering_reverse p

    by : (o : Ordering) → name_cmp b c ≡ o → ⊥
    by Less e = f (nat_list_cmp_total.antisymm a b ∙ ap ordering_reverse (nat_list_cmp_total.trans b c a e turned))
    by Equal e = f (ap (name_cmp a) (name_cmp-equal b c e) ∙ p)
    by Greater e = g e

-- the lesser of two names
abbrev lesser : List ℕ → List ℕ → List ℕ
lesser m n = cond (is_lt (name_cmp n m)) n m

lesser-first : (m n : List ℕ) → NotAfter (lesser m n) m
lesser-first m n = by (name_cmp n m) refl
  where
    by : (o : Ordering) → name_cmp n m ≡ o → NotAfter (cond (is_lt o) n m) m
    by Less e = less-not_after n m e
    by Equal e = not_after-itself m
    by Greater e = not_after-itself m

lesser-second : (m n : List ℕ) → NotAfter (lesser m n) n
lesser-second m n = by (name_cmp n m) refl
  where
    by : (o : Ordering) → name_cmp n m ≡ o → NotAfter (cond (is_lt o) n m) n
    by Less e = not_after-itself n
    by Equal e = subst (λ z. NotAfter m z) (sym (name_cmp-equal n m e)) (not_after-itself m)
    by Greater e = less-not_after m n (nat_list_cmp_total.antisymm m n ∙ ap ordering_reverse e)

least_from-first : (m : List ℕ) (ns : List (List ℕ)) → NotAfter (least_from m ns) m
least_from-first m [] = not_after-itself m
least_from-first m (n ∷ ns) = not_after-trans (least_from (lesser m n) ns) (lesser m n) m (least_from-first (lesser m n) ns) (lesser-first m n)

pub least_from-least : (m : List ℕ) (ns : List (List ℕ)) (x : List ℕ) → is_among x (m ∷ ns) ≡ true → NotAfter (least_from m ns) x
least_from-least m [] x h = or_parts (bytes_eq x m) false h (λ s. subst (NotAfter m) (sym (same_bytes x m s)) (not_after-itself m)) (λ s. cc)
least_from-least m (n ∷ ns) x h =
    or_parts (bytes_eq x m) (is_among x (n ∷ ns)) h
    (λ s. subst (NotAfter (least_from m (n ∷ ns))) (sym (same_bytes x m s)) (least_from-first m (n ∷ ns)))
    (λ g. or_parts (bytes_eq x n) (is_among x ns) g
    (λ s. subst (NotAfter (least_from (lesser m n) ns)) (sym (same_bytes x n s)) (not_after-trans (least_from (lesser m n) ns) (lesser m n) n (least_from-first (lesser m n) ns) (lesser-second m n)))
    (λ k. least_from-least (lesser m n) ns x (or_second (bytes_eq x (lesser m n)) (is_among x ns) k)))

among_first : (m : List ℕ) (ns : List (List ℕ)) → is_among m (m ∷ ns) ≡ true
among_first m ns = or_first (bytes_eq m m) (is_among m ns) (bytes_itself m)

pub least_from-among : (m : List ℕ) (ns : List (List ℕ)) → is_among (least_from m ns) (m ∷ ns) ≡ true
least_from-among m [] = among_first m []
least_from-among m (n ∷ ns) = by (is_lt (name_cmp n m)) (least_from-among m ns) (least_from-among n ns)
  where
    by : (b : Bool) → is_among (least_from m ns) (m ∷ ns) ≡ true → is_among (least_from n ns) (n ∷ ns) ≡ true → is_among (least_from (cond b n m) ns) (m ∷ n ∷ ns) ≡ true
    by true f g = or_second (bytes_eq (least_from n ns) m) (is_among (least_from n ns) (n ∷ ns)) g
    by false f g =
        or_parts (bytes_eq (least_from m ns) m) (is_among (least_from m ns) ns) f
        (λ s. or_first (bytes_eq (least_from m ns) m) (is_among (least_from m ns) (n ∷ ns)) s)
        (λ s. or_second (bytes_eq (least_from m ns) m) (is_among (least_from m ns) (n ∷ ns)) (or_second (bytes_eq (least_from m ns) n) (is_among (least_from m ns) ns) s))

-- a name among names, by the test and by what is equal to it
pub has-among : (n : List ℕ) (ns : List (List ℕ)) → Has n ns → is_among n ns ≡ true
has-among n [] h = absurd h
has-among n (m ∷ ns) (inl e) = or_first (bytes_eq n m) (is_among n ns) (subst (λ z. bytes_eq n z ≡ true) e (bytes_itself n))
has-among n (m ∷ ns) (inr h) = or_second (bytes_eq n m) (is_among n ns) (has-among n ns h)

pub among-has : (n : List ℕ) (ns : List (List ℕ)) → is_among n ns ≡ true → Has n ns
among-has n [] p = cc
among-has n (m ∷ ns) p = or_parts {A = Has n (m ∷ ns)} (bytes_eq n m) (is_among n ns) p (λ e. inl (same_bytes n m e)) (λ q. inr (among-has n ns q))

-- names that ascend are distinct
less-test : (o : Ordering) → is_lt o ≡ true → o ≡ Less
less-test Less p = refl
less-test Equal p = cc
less-test Greater p = cc

first-before : (m n : List ℕ) (ns : List (List ℕ)) → names_ascend (m ∷ ns) ≡ true → Has n ns → name_cmp m n ≡ Less
first-before m n [] p h = absurd h
first-before m n (k ∷ ns) p h = by h (first-before k n ns)
  where
    less : name_cmp m k ≡ Less
    less = less-test (name_cmp m k) (and_parts (is_lt (name_cmp m k)) (names_ascend (k ∷ ns)) p).0

    rest : names_ascend (k ∷ ns) ≡ true
    rest = (and_parts (is_lt (name_cmp m k)) (names_ascend (k ∷ ns)) p).1

    by : Has n (k ∷ ns) → (names_ascend (k ∷ ns) ≡ true → Has n ns → name_cmp k n ≡ Less) → name_cmp m n ≡ Less
    by (inl e) later = ap (name_cmp m) e ∙ less
    by (inr g) later = nat_list_cmp_total.trans m k n less (later rest g)

rest-ascends : (m : List ℕ) (ns : List (List ℕ)) → names_ascend (m ∷ ns) ≡ true → names_ascend ns ≡ true
rest-ascends m [] p = refl
rest-ascends m (n ∷ ns) p = (and_parts (is_lt (name_cmp m n)) (names_ascend (n ∷ ns)) p).1

pub distinct_names : (ns : List (List ℕ)) → names_ascend ns ≡ true → Distinct ns
distinct_names [] p = tt
distinct_names (n ∷ ns) p = (λ h. let e : Less ≡ Equal = sym (first-before n n ns p h) ∙ name_cmp-itself n in cc, distinct_names ns (rest-ascends n ns p))

-- a set of names stays one with one more name, and with those of another set
less-lt : (m n : List ℕ) → name_cmp m n ≡ Less → is_lt (name_cmp m n) ≡ true
less-lt m n p = ap is_lt p

greater-less : (m n : List ℕ) → name_cmp m n ≡ Greater → name_cmp n m ≡ Less
greater-less m n p = nat_list_cmp_total.antisymm n m ∙ ap ordering_reverse p

and_both : (b c : Bool) → b ≡ true → c ≡ true → (b && c) ≡ true
and_both b c p q = rw p q

ascends-put_after : (n m : List ℕ) (ns : List (List ℕ)) → name_cmp n m ≡ Less → names_ascend (n ∷ ns) ≡ true → names_ascend (n ∷ put_name m ns) ≡ true
ascends-put_after n m [] l p = and_both (is_lt (name_cmp n m)) true (less-lt n m l) refl
ascends-put_after n m (k ∷ ks) l p =
    let r = and_parts (is_lt (name_cmp n k)) (names_ascend (k ∷ ks)) p in by (name_cmp m k) refl r.0 r.1 (ascends-put_after k m ks)
  where
    by : (o : Ordering) → name_cmp m k ≡ o → is_lt (name_cmp n k) ≡ true → names_ascend (k ∷ ks) ≡ true
        → (name_cmp k m ≡ Less → names_ascend (k ∷ ks) ≡ true → names_ascend (k ∷ put_name m ks) ≡ true) → names_ascend (n ∷ put_name_by o m k ks (put_name m ks)) ≡ true
    by Less e f g later = and_both (is_lt (name_cmp n m)) (names_ascend (m ∷ k ∷ ks)) (less-lt n m l) (and_both (is_lt (name_cmp m k)) (names_ascend (k ∷ ks)) (less-lt m k e) g)
    by Equal e f g later = p
    by Greater e f g later = and_both (is_lt (name_cmp n k)) (names_ascend (k ∷ put_name m ks)) f (later (greater-less m k e) g)

ascends-put : (m : List ℕ) (ns : List (List ℕ)) → names_ascend ns ≡ true → names_ascend (put_name m ns) ≡ true
ascends-put m [] p = refl
ascends-put m (n ∷ ns) p = by (name_cmp m n) refl
  where
    by : (o : Ordering) → name_cmp m n ≡ o → names_ascend (put_name_by o m n ns (put_name m ns)) ≡ true
    by Less e = and_both (is_lt (name_cmp m n)) (names_ascend (n ∷ ns)) (less-lt m n e) p
    by Equal e = p
    by Greater e = ascends-put_after n m ns (greater-less m n e) p

pub ascends-union : (ms ns : List (List ℕ)) → names_ascend ms ≡ true → names_ascend (names_union ms ns) ≡ true
ascends-union ms [] p = p
ascends-union ms (n ∷ ns) p = ascends-union (put_name n ms) ns (ascends-put n ms p)
