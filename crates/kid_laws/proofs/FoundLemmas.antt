-- What is found is the least match, and where none is found there is none.
use Rattle.std.proofs.Common.{◌≡◌, ℕ, Bool, true, false, cond, List, [], ◌∷◌, ◌++◌, Option, Some, None, refl, sym, ap, ◌∙◌, subst}
use Rattle.std.specs.Prelude.{is_some}
use Rattle.kid_term.specs.PlainTerm.{PlainHead, PlainTerm, var, number, truth, tag, app, bind, PlainTerms, no_term, term}
use Rattle.kid_term.specs.declared.operator.Binder.{Binder}
use Rattle.kid_value.specs.NameSet.{is_among}
use Rattle.kid_term.specs.Names.{same_name}
use Rattle.kid_term.specs.Simultaneous.{Subst, term_at, or_itself, term_for}
use Rattle.kid_term.proofs.EvalLemmas.{same_name-itself, same_name-true}
use Rattle.kid_laws.specs.Found.{mentions_any, kept, met, and_then, same_head, same_binder, found, all_found}
use Rattle.kid_laws.specs.Matching.{Extends, AddsOnly}
use Rattle.kid_laws.specs.Same.{same_term}
use Rattle.kid_laws.proofs.SameLemmas.{same_term-true, same_term-itself}

no_some : {A : Type 0} {P : Type 0} (a : A) → None ≡ Some a → P
no_some a e = cc

one_some : (a b : Subst) → Some a ≡ Some b → a ≡ b
one_some a b e = cc

kept-some : (b : Bool) (σ τ : Subst) → kept b σ ≡ Some τ → (b ≡ true) × (σ ≡ τ)
kept-some true σ τ e = (refl, one_some σ τ e)
kept-some false σ τ e = no_some τ e

-- ---- more terms for variables

module _ (xs : List (List ℕ)) where
  abbrev pub Step : Subst → Subst → Type 0
  Step σ τ = Extends σ τ × AddsOnly xs σ τ

  still : (σ : Subst) → Step σ σ
  still σ = (λ x t e. e, λ x n. refl)

  onward : (σ τ ρ : Subst) → Step σ τ → Step τ ρ → Step σ ρ
  onward σ τ ρ h k = (λ x t e. k.0 x t (h.0 x t e), λ x n. k.1 x n ∙ h.1 x n)

term_at-front : (σ ρ : Subst) (x : List ℕ) (t : PlainTerm) → term_at x σ ≡ Some t → term_at x (σ ++ ρ) ≡ Some t
term_at-front [] ρ x t e = no_some t e
term_at-front (f ∷ σ) ρ x t e = by (same_name x f.0) e (term_at-front σ ρ x t)
  where
    by : (c : Bool) → cond c (Some f.1) (term_at x σ) ≡ Some t → (term_at x σ ≡ Some t → term_at x (σ ++ ρ) ≡ Some t) → cond c (Some f.1) (term_at x (σ ++ ρ)) ≡ Some t
    by true e h = e
    by false e h = h e

term_at-last : (σ : Subst) (x y : List ℕ) (t : PlainTerm) → term_at x σ ≡ None → term_at x (σ ++ (y, t) ∷ []) ≡ cond (same_name x y) (Some t) None
term_at-last [] x y t e = refl
term_at-last (f ∷ σ) x y t e = by (same_name x f.0) e (term_at-last σ x y t)
  where
    by : (c : Bool) → cond c (Some f.1) (term_at x σ) ≡ None → (term_at x σ ≡ None → term_at x (σ ++ (y, t) ∷ []) ≡ cond (same_name x y) (Some t) None)
        → cond c (Some f.1) (term_at x (σ ++ (y, t) ∷ [])) ≡ cond (same_name x y) (Some t) None
    by true e h = cc
    by false e h = h e

term_at-other : (σ : Subst) (x y : List ℕ) (t : PlainTerm) → same_name x y ≡ false → term_at x (σ ++ (y, t) ∷ []) ≡ term_at x σ
term_at-other [] x y t n = rw n refl
term_at-other (f ∷ σ) x y t n = ap (λ o. cond (same_name x f.0) (Some f.1) o) (term_at-other σ x y t n)

term_for-at : (σ : Subst) (x : List ℕ) (o : Option PlainTerm) → term_at x σ ≡ o → term_for x σ ≡ or_itself x o
term_for-at σ x o e = ap (or_itself x) e

-- a name outside is not one of the names
apart : (xs : List (List ℕ)) (x y : List ℕ) → is_among x xs ≡ false → is_among y xs ≡ true → same_name x y ≡ false
apart xs x y n m = by (same_name x y) refl
  where
    by : (c : Bool) → same_name x y ≡ c → same_name x y ≡ false
    by true e = let f = ap (λ z. is_among z xs) (same_name-true x y e) in cc
    by false e = e

-- ---- when a pattern stands for a term, below binders of the names bs

module _ (xs : List (List ℕ)) where
  abbrev pub NameStands : List (List ℕ) → Subst → List ℕ → PlainTerm → Bool → Type 0
  NameStands bs τ x t true = t ≡ var x
  NameStands bs τ x t false = (t ≡ term_for x τ) × (mentions_any bs t ≡ false) × (is_among x xs ≡ true → is_some (term_at x τ) ≡ true)

  abbrev mutual
    pub Stands : List (List ℕ) → Subst → PlainTerm → PlainTerm → Type 0
    Stands bs τ (var x) t = NameStands bs τ x t (is_among x bs)
    Stands bs τ (number n) t = t ≡ number n
    Stands bs τ (truth b) t = t ≡ truth b
    Stands bs τ (tag n) t = t ≡ tag n
    Stands bs τ (app g ps) (app h ts) = (g ≡ h) × AllStand bs τ ps ts
    Stands bs τ (bind b y p q) (bind c z t u) = (b ≡ c) × (y ≡ z) × Stands bs τ p t × Stands (y ∷ bs) τ q u
    Stands bs τ p t = ⊥

    pub AllStand : List (List ℕ) → Subst → PlainTerms → PlainTerms → Type 0
    AllStand bs τ no_term no_term = Unit {0}
    AllStand bs τ (term p ps) (term t ts) = Stands bs τ p t × AllStand bs τ ps ts
    AllStand bs τ ps ts = ⊥

  -- it does so with more terms for variables
  name-later : (bs : List (List ℕ)) (σ τ : Subst) (x : List ℕ) (t : PlainTerm) (c : Bool) → Step xs σ τ → NameStands bs σ x t c → NameStands bs τ x t c
  name-later bs σ τ x t true h k = k
  name-later bs σ τ x t false h k = by (term_at x σ) refl (is_among x xs) refl
    where
      by : (o : Option PlainTerm) → term_at x σ ≡ o → (v : Bool) → is_among x xs ≡ v → NameStands bs τ x t false
      by (Some u) e v f = (k.0 ∙ term_for-at σ x (Some u) e ∙ sym (term_for-at τ x (Some u) (h.0 x u e)), k.1, λ m. ap is_some (h.0 x u e))
      by None e true f = let g = k.2 f in let q = ap is_some e in cc
      by None e false f = let q = h.1 x f in (k.0 ∙ sym (ap (or_itself x) q), k.1, λ m. cc)

  mutual
    pub later : (p t : PlainTerm) (bs : List (List ℕ)) (σ τ : Subst) → Step xs σ τ → Stands bs σ p t → Stands bs τ p t
    later (var x) t bs σ τ h k = name-later bs σ τ x t (is_among x bs) h k
    later (number n) t bs σ τ h k = k
    later (truth b) t bs σ τ h k = k
    later (tag n) t bs σ τ h k = k
    later (app g ps) (app f ts) bs σ τ h k = (k.0, all-later ps ts bs σ τ h k.1)
    later (bind b y p q) (bind c z t u) bs σ τ h k = (k.0, k.1, later p t bs σ τ h k.2, later q u (y ∷ bs) σ τ h k.3)
    later p t bs σ τ h k = absurd k

    all-later : (ps ts : PlainTerms) (bs : List (List ℕ)) (σ τ : Subst) → Step xs σ τ → AllStand bs σ ps ts → AllStand bs τ ps ts
    all-later no_term no_term bs σ τ h k = tt
    all-later (term p ps) (term t ts) bs σ τ h k = (later p t bs σ τ h k.0, all-later ps ts bs σ τ h k.1)
    all-later ps ts bs σ τ h k = absurd k

  -- ---- what is found stands for the term

  abbrev Sound : List (List ℕ) → Subst → Subst → PlainTerm → PlainTerm → Type 0
  Sound bs σ τ p t = Step xs σ τ × Stands bs τ p t

  met-sound : (bs : List (List ℕ)) (σ τ : Subst) (x : List ℕ) (t : PlainTerm) (o : Option PlainTerm) → term_at x σ ≡ o → (v : Bool) → is_among x xs ≡ v → mentions_any bs t ≡ false
      → met x t σ o v ≡ Some τ → Step xs σ τ × NameStands bs τ x t false
  met-sound bs σ τ x t (Some u) e v f m h =
      let r = kept-some (same_term t u) σ τ h in
      subst (λ ρ. Step xs σ ρ × NameStands bs ρ x t false) r.1 (still xs σ, (same_term-true t u r.0 ∙ sym (term_for-at σ x (Some u) e), m, λ g. ap is_some e))
  met-sound bs σ τ x t None e true f m h =
      let last = term_at-last σ x x t e ∙ ap (λ c. cond c (Some t) None) (same_name-itself x) in
      subst (λ ρ. Step xs σ ρ × NameStands bs ρ x t false) (one_some (σ ++ (x, t) ∷ []) τ h) (
        (λ z u g. term_at-front σ ((x, t) ∷ []) z u g, λ z n. term_at-other σ z x t (apart xs z x n f)),
        (sym (term_for-at (σ ++ (x, t) ∷ []) x (Some t) last), m, λ g. ap is_some last),
      )
  met-sound bs σ τ x t None e false f m h =
      let r = kept-some (same_term t (var x)) σ τ h in
      subst (λ ρ. Step xs σ ρ × NameStands bs ρ x t false) r.1 (still xs σ, (same_term-true t (var x) r.0 ∙ sym (term_for-at σ x None e), m, λ g. cc))

  name-sound : (bs : List (List ℕ)) (σ τ : Subst) (x : List ℕ) (t : PlainTerm) (c d : Bool) → mentions_any bs t ≡ d
      → cond c (kept (same_term t (var x)) σ) (cond d None (met x t σ (term_at x σ) (is_among x xs))) ≡ Some τ → Step xs σ τ × NameStands bs τ x t c
  name-sound bs σ τ x t true d e h = let r = kept-some (same_term t (var x)) σ τ h in subst (λ ρ. Step xs σ ρ × NameStands bs ρ x t true) r.1 (still xs σ, same_term-true t (var x) r.0)
  name-sound bs σ τ x t false true e h = no_some τ h
  name-sound bs σ τ x t false false e h = met-sound bs σ τ x t (term_at x σ) refl (is_among x xs) refl e h

  literal-sound : (σ τ : Subst) (p t : PlainTerm) → kept (same_term t p) σ ≡ Some τ → Step xs σ τ × (t ≡ p)
  literal-sound σ τ p t h = let r = kept-some (same_term t p) σ τ h in subst (λ ρ. Step xs σ ρ × (t ≡ p)) r.1 (still xs σ, same_term-true t p r.0)

  one_head : (g h : PlainHead) → app g no_term ≡ app h no_term → g ≡ h
  one_head g h e = cc

  one_binder : (b c : Binder) (y z : List ℕ) → bind b y (truth true) (truth true) ≡ bind c z (truth true) (truth true) → (b ≡ c) × (y ≡ z)
  one_binder b c y z e = (cc, cc)

  passed : {A : Type 0} (b : Bool) (o : Option A) (a : A) → cond b o None ≡ Some a → (b ≡ true) × (o ≡ Some a)
  passed true o a e = (refl, e)
  passed false o a e = no_some a e

  chained : (o : Option Subst) (f : Subst → Option Subst) (τ : Subst) → and_then o f ≡ Some τ → (ρ : Subst) × (o ≡ Some ρ) × (f ρ ≡ Some τ)
  chained None f τ e = no_some τ e
  chained (Some ρ) f τ e = (ρ, refl, e)

  mutual
    pub sound : (p t : PlainTerm) (bs : List (List ℕ)) (σ τ : Subst) → found bs xs p t σ ≡ Some τ → Sound bs σ τ p t
    sound (var x) t bs σ τ h = name-sound bs σ τ x t (is_among x bs) (mentions_any bs t) refl h
    sound (number n) t bs σ τ h = literal-sound σ τ (number n) t h
    sound (truth b) t bs σ τ h = literal-sound σ τ (truth b) t h
    sound (tag n) t bs σ τ h = literal-sound σ τ (tag n) t h
    sound (app g ps) (app f ts) bs σ τ h =
        let r = passed (same_head g f) (all_found bs xs ps ts σ) τ h in
        let k = all-sound ps ts bs σ τ r.1 in (k.0, (one_head g f (same_term-true (app g no_term) (app f no_term) r.0), k.1))
    sound (bind b y p q) (bind c z t u) bs σ τ h =
        let r = passed (same_binder b y c z) (and_then (found bs xs p t σ) (λ ρ. found (y ∷ bs) xs q u ρ)) τ h in
        let s = chained (found bs xs p t σ) (λ ρ. found (y ∷ bs) xs q u ρ) τ r.1 in
        let k = sound p t bs σ s.0 s.1 in
        let l = sound q u (y ∷ bs) s.0 τ s.2 in
        let e = one_binder b c y z (same_term-true (bind b y (truth true) (truth true)) (bind c z (truth true) (truth true)) r.0) in
        (onward xs σ s.0 τ k.0 l.0, (e.0, e.1, later p t bs s.0 τ l.0 k.1, l.1))
    sound p t bs σ τ h = no_some τ h

    all-sound : (ps ts : PlainTerms) (bs : List (List ℕ)) (σ τ : Subst) → all_found bs xs ps ts σ ≡ Some τ → Step xs σ τ × AllStand bs τ ps ts
    all-sound no_term no_term bs σ τ h = subst (λ ρ. Step xs σ ρ × AllStand bs ρ no_term no_term) (one_some σ τ h) (still xs σ, tt)
    all-sound (term p ps) (term t ts) bs σ τ h =
        let s = chained (found bs xs p t σ) (λ ρ. all_found bs xs ps ts ρ) τ h in
        let k = sound p t bs σ s.0 s.1 in
        let l = all-sound ps ts bs s.0 τ s.2 in (onward xs σ s.0 τ k.0 l.0, (later p t bs s.0 τ l.0 k.1, l.1))
    all-sound ps ts bs σ τ h = no_some τ h

  -- ---- and where some terms do so, the least of them are found

  abbrev Complete : Option Subst → Subst → Type 0
  Complete o ρ = (τ : Subst) × (o ≡ Some τ) × Step xs τ ρ

  kept-true : (b : Bool) (σ ρ : Subst) → b ≡ true → Step xs σ ρ → Complete (kept b σ) ρ
  kept-true b σ ρ e h = (σ, ap (λ c. kept c σ) e, h)

  same-kept : (t u : PlainTerm) (σ ρ : Subst) → t ≡ u → Step xs σ ρ → Complete (kept (same_term t u) σ) ρ
  same-kept t u σ ρ e h = kept-true (same_term t u) σ ρ (subst (λ z. same_term t z ≡ true) e (same_term-itself t)) h

  the_term : (ρ : Subst) (x : List ℕ) (t : PlainTerm) → t ≡ term_for x ρ → is_some (term_at x ρ) ≡ true → term_at x ρ ≡ Some t
  the_term ρ x t e h = by (term_at x ρ) e h
    where
      by : (o : Option PlainTerm) → t ≡ or_itself x o → is_some o ≡ true → o ≡ Some t
      by None e h = cc
      by (Some u) e h = ap (λ z. Some z) (sym e)

  met-complete : (bs : List (List ℕ)) (σ ρ : Subst) (x : List ℕ) (t : PlainTerm) (o : Option PlainTerm) → term_at x σ ≡ o → (v : Bool) → is_among x xs ≡ v
      → Step xs σ ρ → NameStands bs ρ x t false → Complete (met x t σ o v) ρ
  met-complete bs σ ρ x t (Some u) e v f h k = same-kept t u σ ρ (k.0 ∙ term_for-at ρ x (Some u) (h.0 x u e)) h
  met-complete bs σ ρ x t None e true f h k = (σ ++ (x, t) ∷ [], refl, (λ z u g. by z u (same_name z x) refl (term_at z σ) refl g, λ z n. h.1 z n ∙ sym (term_at-other σ z x t (apart xs z x n f))))
    where
      by : (z : List ℕ) (u : PlainTerm) (c : Bool) → same_name z x ≡ c → (o : Option PlainTerm) → term_at z σ ≡ o → term_at z (σ ++ (x, t) ∷ []) ≡ Some u → term_at z ρ ≡ Some u
      by z u true q o r g =
          let s = same_name-true z x q in
          let w : Some t ≡ Some u = sym (term_at-last σ x x t e ∙ ap (λ c. cond c (Some t) None) (same_name-itself x)) ∙ ap (λ y. term_at y (σ ++ (x, t) ∷ [])) (sym s) ∙ g in
          ap (λ y. term_at y ρ) s ∙ the_term ρ x t k.0 (k.2 f) ∙ w
      by z u false q o r g = h.0 z u (sym (term_at-other σ z x t q) ∙ g)
  met-complete bs σ ρ x t None e false f h k = same-kept t (var x) σ ρ (k.0 ∙ term_for-at ρ x None (h.1 x f ∙ e)) h

  name-complete : (bs : List (List ℕ)) (σ ρ : Subst) (x : List ℕ) (t : PlainTerm) (c : Bool) → Step xs σ ρ → NameStands bs ρ x t c
      → Complete (cond c (kept (same_term t (var x)) σ) (cond (mentions_any bs t) None (met x t σ (term_at x σ) (is_among x xs)))) ρ
  name-complete bs σ ρ x t true h k = same-kept t (var x) σ ρ k h
  name-complete bs σ ρ x t false h k = subst (λ d. Complete (cond d None (met x t σ (term_at x σ) (is_among x xs))) ρ) (sym k.1) (met-complete bs σ ρ x t (term_at x σ) refl (is_among x xs) refl h k)

  mutual
    pub complete : (p t : PlainTerm) (bs : List (List ℕ)) (σ ρ : Subst) → Step xs σ ρ → Stands bs ρ p t → Complete (found bs xs p t σ) ρ
    complete (var x) t bs σ ρ h k = name-complete bs σ ρ x t (is_among x bs) h k
    complete (number n) t bs σ ρ h k = same-kept t (number n) σ ρ k h
    complete (truth b) t bs σ ρ h k = same-kept t (truth b) σ ρ k h
    complete (tag n) t bs σ ρ h k = same-kept t (tag n) σ ρ k h
    complete (app g ps) (app f ts) bs σ ρ h k =
        let e : same_head g f ≡ true = subst (λ z. same_head g z ≡ true) k.0 (same_term-itself (app g no_term)) in
        subst (λ d. Complete (cond d (all_found bs xs ps ts σ) None) ρ) (sym e) (all-complete ps ts bs σ ρ h k.1)
    complete (bind b y p q) (bind c z t u) bs σ ρ h k =
        let e : same_binder b y c z ≡ true = subst (λ w. same_term (bind b y (truth true) (truth true)) w ≡ true) (λ i. bind (k.0 i) (k.1 i) (truth true) (truth true)) (same_term-itself (bind b y (truth true) (truth true))) in
        let r = complete p t bs σ ρ h k.2 in
        let s = complete q u (y ∷ bs) r.0 ρ r.2 k.3 in
        subst (λ d. Complete (cond d (and_then (found bs xs p t σ) (λ τ. found (y ∷ bs) xs q u τ)) None) ρ) (sym e)
        (s.0, ap (λ o. and_then o (λ τ. found (y ∷ bs) xs q u τ)) r.1 ∙ s.1, s.2)
    complete p t bs σ ρ h k = absurd k

    all-complete : (ps ts : PlainTerms) (bs : List (List ℕ)) (σ ρ : Subst) → Step xs σ ρ → AllStand bs ρ ps ts → Complete (all_found bs xs ps ts σ) ρ
    all-complete no_term no_term bs σ ρ h k = (σ, refl, h)
    all-complete (term p ps) (term t ts) bs σ ρ h k =
        let r = complete p t bs σ ρ h k.0 in
        let s = all-complete ps ts bs r.0 ρ r.2 k.1 in
        (s.0, ap (λ o. and_then o (λ τ. all_found bs xs ps ts τ)) r.1 ∙ s.1, s.2)
    all-complete ps ts bs σ ρ h k = absurd k
