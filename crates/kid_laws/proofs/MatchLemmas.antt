-- A pattern stands for a term exactly where it is the term once the terms are put in.
use Rattle.std.proofs.Common.{◌≡◌, ℕ, Bool, true, false, cond, List, [], ◌∷◌, Option, Some, None, refl, sym, ap, ◌∙◌, subst}
use Rattle.std.specs.Prelude.{not, ◌&&◌, ◌||◌, is_some}
use Rattle.std.specs.List.{list_any}
use Rattle.kid_term.specs.PlainTerm.{PlainTerm, var, number, truth, tag, app, bind, PlainTerms, no_term, term}
use Rattle.kid_value.specs.NameSet.{is_among}
use Rattle.kid_term.specs.Names.{same_name}
use Rattle.kid_term.specs.Substitution.{mentions, some_mentions, captures, some_capture}
use Rattle.kid_term.specs.Simultaneous.{Subst, term_at, or_itself, term_for, substituted, all_substituted}
use Rattle.kid_term.proofs.EvalLemmas.{same_name-itself, same_name-true, or_none}
use Rattle.kid_term.proofs.SimultaneousLemmas.{fits}
use Rattle.kid_laws.specs.Found.{mentions_any, found}
use Rattle.kid_laws.specs.Matching.{Extends, Matches, IsMatchOf}
use Rattle.kid_laws.proofs.FoundLemmas.{Step, NameStands, Stands, AllStand, sound, complete}

or_left : (b c : Bool) → b ≡ true → (b || c) ≡ true
or_left b c p = rw p refl

or_right : (b c : Bool) → c ≡ true → (b || c) ≡ true
or_right true c p = refl
or_right false c p = p

neither : (b c : Bool) → b ≡ false → c ≡ false → (b || c) ≡ false
neither b c p q = rw (p, q) refl

not_first : (b c : Bool) → (b && c) ≡ false → c ≡ true → b ≡ false
not_first true c p q = cc
not_first false c p q = refl

not_both : (b c : Bool) → (c ≡ true → b ≡ false) → (b && c) ≡ false
not_both b true h = ap (λ d. d && true) (h refl)
not_both true false h = refl
not_both false false h = refl

either : {A : Type 0} (b c : Bool) → (b || c) ≡ true → (b ≡ true → A) → (c ≡ true → A) → A
either true c e f g = f refl
either false c e f g = g e

-- below binders of the names, each of them stands for itself
abbrev under : List (List ℕ) → Subst → Subst
under [] τ = τ
under (y ∷ bs) τ = (y, var y) ∷ under bs τ

under-bound : (bs : List (List ℕ)) (τ : Subst) (x : List ℕ) → is_among x bs ≡ true → term_for x (under bs τ) ≡ var x
under-bound [] τ x h = cc
under-bound (y ∷ bs) τ x h = by (same_name x y) refl h (under-bound bs τ x)
  where
    by : (c : Bool) → same_name x y ≡ c → (c || is_among x bs) ≡ true → (is_among x bs ≡ true → term_for x (under bs τ) ≡ var x) → or_itself x (cond c (Some (var y)) (term_at x (under bs τ))) ≡ var x
    by true e h k = ap var (sym (same_name-true x y e))
    by false e h k = k h

under-free : (bs : List (List ℕ)) (τ : Subst) (x : List ℕ) → is_among x bs ≡ false → term_for x (under bs τ) ≡ term_for x τ
under-free [] τ x h = refl
under-free (y ∷ bs) τ x h =
    let r = or_none (same_name x y) (is_among x bs) h in
    ap (λ c. or_itself x (cond c (Some (var y)) (term_at x (under bs τ)))) r.0 ∙ under-free bs τ x r.1

module _ (xs : List (List ℕ)) (τ : Subst) where
  -- ---- a pattern that stands for the term is the term

  name-same : (bs : List (List ℕ)) (x : List ℕ) (t : PlainTerm) (c : Bool) → is_among x bs ≡ c → NameStands xs bs τ x t c → term_for x (under bs τ) ≡ t
  name-same bs x t true e k = under-bound bs τ x e ∙ sym k
  name-same bs x t false e k = under-free bs τ x e ∙ sym k.0

  mutual
    stands-same : (p t : PlainTerm) (bs : List (List ℕ)) → Stands xs bs τ p t → substituted (under bs τ) p ≡ t
    stands-same (var x) t bs k = name-same bs x t (is_among x bs) refl k
    stands-same (number n) t bs k = sym k
    stands-same (truth b) t bs k = sym k
    stands-same (tag n) t bs k = sym k
    stands-same (app g ps) (app f ts) bs k = let e = all-same ps ts bs k.1 in λ i. app (k.0 i) (e i)
    stands-same (bind b y p q) (bind c z t u) bs k =
        let e = stands-same p t bs k.2 in let f = stands-same q u (y ∷ bs) k.3 in λ i. bind (k.0 i) (k.1 i) (e i) (f i)
    stands-same p t bs k = absurd k

    all-same : (ps ts : PlainTerms) (bs : List (List ℕ)) → AllStand xs bs τ ps ts → all_substituted (under bs τ) ps ≡ ts
    all-same no_term no_term bs k = refl
    all-same (term p ps) (term t ts) bs k = let e = stands-same p t bs k.0 in let f = all-same ps ts bs k.1 in λ i. term (e i) (f i)
    all-same ps ts bs k = absurd k

  -- and what it puts for a free name mentions no binder's name

  name-clear : (bs : List (List ℕ)) (x z : List ℕ) (t : PlainTerm) (c : Bool) → is_among z bs ≡ false → same_name z x ≡ true → is_among x bs ≡ c → NameStands xs bs τ x t c → mentions_any bs (term_for z τ) ≡ false
  name-clear bs x z t true n m e k = let f = ap (λ y. is_among y bs) (same_name-true z x m) in cc
  name-clear bs x z t false n m e k = ap (λ y. mentions_any bs (term_for y τ)) (same_name-true z x m) ∙ ap (mentions_any bs) (sym k.0) ∙ k.1

  mutual
    stands-clear : (p t : PlainTerm) (bs : List (List ℕ)) → Stands xs bs τ p t → (z : List ℕ) → mentions z p ≡ true → is_among z bs ≡ false → mentions_any bs (term_for z τ) ≡ false
    stands-clear (var x) t bs k z m n = name-clear bs x z t (is_among x bs) n m refl k
    stands-clear (number i) t bs k z m n = cc
    stands-clear (truth b) t bs k z m n = cc
    stands-clear (tag i) t bs k z m n = cc
    stands-clear (app g ps) (app f ts) bs k z m n = all-clear ps ts bs k.1 z m n
    stands-clear (bind b y p q) (bind c w t u) bs k z m n =
        either (mentions z p) (not (same_name z y) && mentions z q) m (λ e. stands-clear p t bs k.2 z e n) (λ e. by (same_name z y) refl e (stands-clear q u (y ∷ bs) k.3 z))
      where
        by : (d : Bool) → same_name z y ≡ d → (not d && mentions z q) ≡ true → (mentions z q ≡ true → (same_name z y || is_among z bs) ≡ false → (mentions y (term_for z τ) || mentions_any bs (term_for z τ)) ≡ false)
            → mentions_any bs (term_for z τ) ≡ false
        by true e f h = cc
        by false e f h = (or_none (mentions y (term_for z τ)) (mentions_any bs (term_for z τ)) (h f (neither (same_name z y) (is_among z bs) e n))).1
    stands-clear p t bs k z m n = absurd k

    all-clear : (ps ts : PlainTerms) (bs : List (List ℕ)) → AllStand xs bs τ ps ts → (z : List ℕ) → some_mentions z ps ≡ true → is_among z bs ≡ false → mentions_any bs (term_for z τ) ≡ false
    all-clear no_term no_term bs k z m n = cc
    all-clear (term p ps) (term t ts) bs k z m n = either (mentions z p) (some_mentions z ps) m (λ e. stands-clear p t bs k.0 z e n) (λ e. all-clear ps ts bs k.1 z e n)
    all-clear ps ts bs k z m n = absurd k

  mutual
    stands-free : (p t : PlainTerm) (bs : List (List ℕ)) → Stands xs bs τ p t → (x : List ℕ) → is_among x bs ≡ false → captures x (term_for x τ) p ≡ false
    stands-free (var y) t bs k x n = refl
    stands-free (number i) t bs k x n = refl
    stands-free (truth b) t bs k x n = refl
    stands-free (tag i) t bs k x n = refl
    stands-free (app g ps) (app f ts) bs k x n = all-free ps ts bs k.1 x n
    stands-free (bind b y p q) (bind c w t u) bs k x n =
        neither (captures x (term_for x τ) p) _ (stands-free p t bs k.2 x n) (by (same_name x y) refl (stands-free q u (y ∷ bs) k.3 x) (stands-clear q u (y ∷ bs) k.3 x))
      where
        by : (d : Bool) → same_name x y ≡ d → ((same_name x y || is_among x bs) ≡ false → captures x (term_for x τ) q ≡ false)
            → (mentions x q ≡ true → (same_name x y || is_among x bs) ≡ false → (mentions y (term_for x τ) || mentions_any bs (term_for x τ)) ≡ false)
            → (not d && ((mentions y (term_for x τ) && mentions x q) || captures x (term_for x τ) q)) ≡ false
        by true e f h = refl
        by false e f h =
            let a = neither (same_name x y) (is_among x bs) e n in
            neither (mentions y (term_for x τ) && mentions x q) (captures x (term_for x τ) q)
            (not_both (mentions y (term_for x τ)) (mentions x q) (λ m. (or_none (mentions y (term_for x τ)) (mentions_any bs (term_for x τ)) (h m a)).0)) (f a)
    stands-free p t bs k x n = absurd k

    all-free : (ps ts : PlainTerms) (bs : List (List ℕ)) → AllStand xs bs τ ps ts → (x : List ℕ) → is_among x bs ≡ false → some_capture x (term_for x τ) ps ≡ false
    all-free no_term no_term bs k x n = refl
    all-free (term p ps) (term t ts) bs k x n = neither (captures x (term_for x τ) p) (some_capture x (term_for x τ) ps) (stands-free p t bs k.0 x n) (all-free ps ts bs k.1 x n)
    all-free ps ts bs k x n = absurd k

  none_captured : (ρ : Subst) (p : PlainTerm) → ((x : List ℕ) → captures x (term_for x τ) p ≡ false) → list_any (λ e. captures e.0 (term_for e.0 τ) p) ρ ≡ false
  none_captured [] p h = refl
  none_captured (e ∷ ρ) p h = neither (captures e.0 (term_for e.0 τ) p) _ (h e.0) (none_captured ρ p h)

  -- each variable in it has a term
  name-given : (bs : List (List ℕ)) (x z : List ℕ) (t : PlainTerm) (c : Bool) → is_among z bs ≡ false → same_name z x ≡ true → is_among x bs ≡ c → is_among z xs ≡ true → NameStands xs bs τ x t c → is_some (term_at z τ) ≡ true
  name-given bs x z t true n m e v k = let f = ap (λ y. is_among y bs) (same_name-true z x m) in cc
  name-given bs x z t false n m e v k = let f = same_name-true z x m in ap (λ y. is_some (term_at y τ)) f ∙ k.2 (ap (λ y. is_among y xs) (sym f) ∙ v)

  mutual
    stands-given : (p t : PlainTerm) (bs : List (List ℕ)) → Stands xs bs τ p t → (z : List ℕ) → mentions z p ≡ true → is_among z bs ≡ false → is_among z xs ≡ true → is_some (term_at z τ) ≡ true
    stands-given (var x) t bs k z m n v = name-given bs x z t (is_among x bs) n m refl v k
    stands-given (number i) t bs k z m n v = cc
    stands-given (truth b) t bs k z m n v = cc
    stands-given (tag i) t bs k z m n v = cc
    stands-given (app g ps) (app f ts) bs k z m n v = all-given ps ts bs k.1 z m n v
    stands-given (bind b y p q) (bind c w t u) bs k z m n v =
        either (mentions z p) (not (same_name z y) && mentions z q) m (λ e. stands-given p t bs k.2 z e n v) (λ e. by (same_name z y) refl e (λ f g. stands-given q u (y ∷ bs) k.3 z f g v))
      where
        by : (d : Bool) → same_name z y ≡ d → (not d && mentions z q) ≡ true → (mentions z q ≡ true → (same_name z y || is_among z bs) ≡ false → is_some (term_at z τ) ≡ true) → is_some (term_at z τ) ≡ true
        by true e f h = cc
        by false e f h = h f (neither (same_name z y) (is_among z bs) e n)
    stands-given p t bs k z m n v = absurd k

    all-given : (ps ts : PlainTerms) (bs : List (List ℕ)) → AllStand xs bs τ ps ts → (z : List ℕ) → some_mentions z ps ≡ true → is_among z bs ≡ false → is_among z xs ≡ true → is_some (term_at z τ) ≡ true
    all-given no_term no_term bs k z m n v = cc
    all-given (term p ps) (term t ts) bs k z m n v = either (mentions z p) (some_mentions z ps) m (λ e. stands-given p t bs k.0 z e n v) (λ e. all-given ps ts bs k.1 z e n v)
    all-given ps ts bs k z m n v = absurd k

  -- ---- and a pattern that is the term stands for it

  abbrev Given : List (List ℕ) → PlainTerm → Type 0
  Given bs p = (z : List ℕ) → mentions z p ≡ true → is_among z bs ≡ false → is_among z xs ≡ true → is_some (term_at z τ) ≡ true

  abbrev Free : List (List ℕ) → PlainTerm → Type 0
  Free bs p = (x : List ℕ) → is_among x bs ≡ false → captures x (term_for x τ) p ≡ false

  abbrev AllClear : List (List ℕ) → PlainTerm → Type 0
  AllClear bs p = (z : List ℕ) → mentions z p ≡ true → is_among z bs ≡ false → mentions_any bs (term_for z τ) ≡ false

  abbrev AllGiven : List (List ℕ) → PlainTerms → Type 0
  AllGiven bs ps = (z : List ℕ) → some_mentions z ps ≡ true → is_among z bs ≡ false → is_among z xs ≡ true → is_some (term_at z τ) ≡ true

  abbrev NoneCaught : List (List ℕ) → PlainTerms → Type 0
  NoneCaught bs ps = (x : List ℕ) → is_among x bs ≡ false → some_capture x (term_for x τ) ps ≡ false

  abbrev ClearIn : List (List ℕ) → PlainTerms → Type 0
  ClearIn bs ps = (z : List ℕ) → some_mentions z ps ≡ true → is_among z bs ≡ false → mentions_any bs (term_for z τ) ≡ false

  same-name : (bs : List (List ℕ)) (x : List ℕ) (c : Bool) → is_among x bs ≡ c → Given bs (var x) → AllClear bs (var x) → NameStands xs bs τ x (term_for x (under bs τ)) c
  same-name bs x true e g k = under-bound bs τ x e
  same-name bs x false e g k = (under-free bs τ x e, ap (mentions_any bs) (under-free bs τ x e) ∙ k x (same_name-itself x) e, g x (same_name-itself x) e)

  mutual
    same-stands : (p : PlainTerm) (bs : List (List ℕ)) → Given bs p → Free bs p → AllClear bs p → Stands xs bs τ p (substituted (under bs τ) p)
    same-stands (var x) bs g f k = same-name bs x (is_among x bs) refl g k
    same-stands (number n) bs g f k = refl
    same-stands (truth b) bs g f k = refl
    same-stands (tag n) bs g f k = refl
    same-stands (app h ps) bs g f k = (refl, same-all ps bs g f k)
    same-stands (bind b y p q) bs g f k = (
      refl,
      refl,
      same-stands p bs (λ z m. g z (or_left (mentions z p) _ m)) (λ x n. (or_none (captures x (term_for x τ) p) _ (f x n)).0) (λ z m. k z (or_left (mentions z p) _ m)),
      same-stands q (y ∷ bs)
          (λ z m n. let r = or_none (same_name z y) (is_among z bs) n in g z (or_right (mentions z p) _ (rw (r.0, m) refl)) r.1)
          (λ x n. (inner x n).1)
          (λ z m n.
          let r = or_none (same_name z y) (is_among z bs) n in
          neither (mentions y (term_for z τ)) (mentions_any bs (term_for z τ)) (not_first (mentions y (term_for z τ)) (mentions z q) (inner z n).0 m) (k z (or_right (mentions z p) _ (rw (r.0, m) refl)) r.1)),
    )
      where
        inner : (x : List ℕ) → (same_name x y || is_among x bs) ≡ false → ((mentions y (term_for x τ) && mentions x q) ≡ false) × (captures x (term_for x τ) q ≡ false)
        inner x n =
            let r = or_none (same_name x y) (is_among x bs) n in
            or_none (mentions y (term_for x τ) && mentions x q) (captures x (term_for x τ) q) (rw r.0 at (or_none (captures x (term_for x τ) p) _ (f x r.1)).1)

    same-all : (ps : PlainTerms) (bs : List (List ℕ)) → AllGiven bs ps → NoneCaught bs ps → ClearIn bs ps → AllStand xs bs τ ps (all_substituted (under bs τ) ps)
    same-all no_term bs g f k = tt
    same-all (term p ps) bs g f k = (
      same-stands p bs (λ z m. g z (or_left (mentions z p) _ m)) (λ x n. (or_none (captures x (term_for x τ) p) _ (f x n)).0) (λ z m. k z (or_left (mentions z p) _ m)),
      same-all ps bs (λ z m. g z (or_right (mentions z p) _ m)) (λ x n. (or_none (captures x (term_for x τ) p) _ (f x n)).1) (λ z m. k z (or_right (mentions z p) _ m)),
    )

pub matches : (xs : List (List ℕ)) (p t : PlainTerm) (σ τ : Subst) → Step xs σ τ → Stands xs [] τ p t → Matches xs p t σ τ
matches xs p t σ τ h k =
    record {
      extends = h.0;
      adds_only = h.1;
      given = λ x m. stands-given xs τ p t [] k x m refl;
      same = stands-same xs τ p t [] k;
      no_capture = none_captured xs τ τ p (λ x. stands-free xs τ p t [] k x refl);
    }

stands : (xs : List (List ℕ)) (p t : PlainTerm) (σ τ : Subst) → Matches xs p t σ τ → Stands xs [] τ p t
stands xs p t σ τ m = subst (Stands xs [] τ p) m.same (same-stands xs τ p [] (λ z e n. m.given z e) (λ x n. fits τ p m.no_capture x) (λ z e n. refl))

pub found-exact : (xs : List (List ℕ)) (p t : PlainTerm) (σ : Subst) (o : Option Subst) → found [] xs p t σ ≡ o → IsMatchOf xs p t σ o
found-exact xs p t σ (Some τ) e =
    let s = sound xs p t [] σ τ e in
    record {
      matches = matches xs p t σ τ s.0 s.1;
      least = λ ρ m.
          let c = complete xs p t [] σ ρ (m.extends, m.adds_only) (stands xs p t σ ρ m) in
          subst (λ ν. Extends ν ρ) (one (sym c.1 ∙ e)) c.2.0;
    }
  where
    one : {a b : Subst} → Some a ≡ Some b → a ≡ b
    one e = cc
found-exact xs p t σ None e = λ ρ m. let c = complete xs p t [] σ ρ (m.extends, m.adds_only) (stands xs p t σ ρ m) in none c.0 (sym e ∙ c.1)
  where
    none : (a : Subst) → None ≡ Some a → ⊥
    none a e = cc
