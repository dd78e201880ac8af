-- The terms by which a side of a law is a term stand for its variables.
use Rattle.std.proofs.Common.{◌≡◌, ℕ, suc, Bool, true, false, cond, List, [], ◌∷◌, Option, Some, None, option_map, refl, sym, ap, ◌∙◌, subst, map, length}
use Rattle.std.specs.Prelude.{◌||◌}
use Rattle.std.proofs.lemmas.List.{length-map}
use Rattle.kid_value.specs.NameSet.{is_among}
use Rattle.kid_term.specs.PlainTerm.{PlainTerm}
use Rattle.kid_term.specs.Names.{same_name}
use Rattle.kid_term.specs.Simultaneous.{Subst, term_at, substituted, captures_any}
use Rattle.kid_term.proofs.EvalLemmas.{same_name-true, or_none}
use Rattle.kid_laws.specs.Found.{found}
use Rattle.kid_laws.specs.Applied.{zipped, with_next, terms_of, terms_found, matched_terms}
use Rattle.kid_laws.proofs.FoundLemmas.{Step, sound, later}
use Rattle.kid_laws.proofs.MatchLemmas.{matches}

-- ---- a term for each name

first_of : (t : PlainTerm) (o : Option (List PlainTerm)) (ts : List PlainTerm) → option_map (λ us. t ∷ us) o ≡ Some ts → (us : List PlainTerm) × (o ≡ Some us) × (t ∷ us ≡ ts)
first_of t None ts e = cc
first_of t (Some us) ts e = (us, refl, cc)

-- what the first term is, and what the others are made of
record First (o : Option PlainTerm) (others : List PlainTerm → Option (List PlainTerm)) (ts : List PlainTerm) : Type 0 where
  first : PlainTerm
  rest : List PlainTerm
  later_terms : List PlainTerm
  is : first ∷ later_terms ≡ ts
  made : others rest ≡ Some later_terms
  known : (t : PlainTerm) → o ≡ Some t → first ≡ t

one_term : (t u : PlainTerm) → Some t ≡ Some u → t ≡ u
one_term t u e = cc

first_next : (o : Option PlainTerm) (args : List PlainTerm) (others : List PlainTerm → Option (List PlainTerm)) (ts : List PlainTerm) → with_next o args others ≡ Some ts → First o others ts
first_next (Some t) args others ts e =
    let r = first_of t (others args) ts e in
    record { first = t; rest = args; later_terms = r.0; is = r.2; made = r.1; known = λ u f. one_term t u f }
first_next None [] others ts e = cc
first_next None (t ∷ args) others ts e =
    let r = first_of t (others args) ts e in
    record { first = t; rest = args; later_terms = r.0; is = r.2; made = r.1; known = λ u f. cc }

as_many : (σ : Subst) (xs : List (List ℕ)) (args ts : List PlainTerm) → terms_of σ xs args ≡ Some ts → length ts ≡ length xs
as_many σ [] [] ts e = let f : [] ≡ ts = cc in ap length (sym f)
as_many σ [] (t ∷ args) ts e = cc
as_many σ (x ∷ xs) args ts e =
    let f = first_next (term_at x σ) args (λ rest. terms_of σ xs rest) ts e in
    ap length (sym f.is) ∙ ap (λ n. suc n) (as_many σ xs f.rest f.later_terms f.made)

-- a name that has a term keeps it
still_at : (σ : Subst) (xs : List (List ℕ)) (args ts : List PlainTerm) (z : List ℕ) (t : PlainTerm) → terms_of σ xs args ≡ Some ts → is_among z xs ≡ true → term_at z σ ≡ Some t → term_at z (zipped xs ts) ≡ Some t
still_at σ [] args ts z t e m h = cc
still_at σ (x ∷ xs) args ts z t e m h =
    let f = first_next (term_at x σ) args (λ rest. terms_of σ xs rest) ts e in
    subst (λ us. term_at z (zipped (x ∷ xs) us) ≡ Some t) f.is (by f.first f.later_terms f.known (same_name z x) refl m (λ n. still_at σ xs f.rest f.later_terms z t f.made n h))
  where
    by : (u : PlainTerm) (us : List PlainTerm) → ((w : PlainTerm) → term_at x σ ≡ Some w → u ≡ w) → (b : Bool) → same_name z x ≡ b → (b || is_among z xs) ≡ true
        → (is_among z xs ≡ true → term_at z (zipped xs us) ≡ Some t) → cond b (Some u) (term_at z (zipped xs us)) ≡ Some t
    by u us known true e m k = ap (λ w. Some w) (known t (ap (λ y. term_at y σ) (sym (same_name-true z x e)) ∙ h))
    by u us known false e m k = k m

-- and no other name gets one
none_at : (xs : List (List ℕ)) (ts : List PlainTerm) (z : List ℕ) → is_among z xs ≡ false → term_at z (zipped xs ts) ≡ None
none_at [] ts z h = refl
none_at (x ∷ xs) [] z h = refl
none_at (x ∷ xs) (t ∷ ts) z h =
    let r = or_none (same_name z x) (is_among z xs) h in
    ap (λ b. cond b (Some t) (term_at z (zipped xs ts))) r.0 ∙ none_at xs ts z r.1

-- ---- a side that is matched

no_terms : (z : List ℕ) (o : Option PlainTerm) (t : PlainTerm) {P : Type 0} → o ≡ None → o ≡ Some t → P
no_terms z o t e f = cc

zipped-step : (xs : List (List ℕ)) (σ : Subst) (args ts : List PlainTerm) → Step xs [] σ → terms_of σ xs args ≡ Some ts → Step xs σ (zipped xs ts)
zipped-step xs σ args ts h e = (
  λ z t f. by z t f (is_among z xs) refl,
  λ z n. none_at xs ts z n ∙ sym (h.1 z n),
)
  where
    by : (z : List ℕ) (t : PlainTerm) → term_at z σ ≡ Some t → (b : Bool) → is_among z xs ≡ b → term_at z (zipped xs ts) ≡ Some t
    by z t f true m = still_at σ xs args ts z t e m f
    by z t f false m = no_terms z (term_at z σ) t (h.1 z m) f

stands-zipped : (xs : List (List ℕ)) (p : PlainTerm) (args : List PlainTerm) (t : PlainTerm) (ts : List PlainTerm) (o : Option Subst) → found [] xs p t [] ≡ o → terms_found o xs args ≡ Some ts
    → (length ts ≡ length xs) × (substituted (zipped xs ts) p ≡ t) × (captures_any (zipped xs ts) p ≡ false)
stands-zipped xs p args t ts None e f = cc
stands-zipped xs p args t ts (Some σ) e f =
    let s = sound xs p t [] [] σ e in
    let h = zipped-step xs σ args ts s.0 f in
    let m = matches xs p t σ (zipped xs ts) h (later xs p t [] σ (zipped xs ts) h s.1) in
    (as_many σ xs args ts f, m.same, m.no_capture)

-- there are as many as variables, and with them the side is the term, and no name is captured
pub matched_terms-stands : (xs : List (List ℕ)) (p : PlainTerm) (args : List PlainTerm) (t : PlainTerm) (ts : List PlainTerm) → matched_terms xs p args t ≡ Some ts
    → (length ts ≡ length xs) × (substituted (zipped xs ts) p ≡ t) × (captures_any (zipped xs ts) p ≡ false)
matched_terms-stands xs p args t ts e = stands-zipped xs p args t ts (found [] xs p t []) refl e

-- for the code: items that the terms are seen of are as many as the names
pub one_each : {A : Type 0} (xs : List (List ℕ)) (p : PlainTerm) (args : List PlainTerm) (t : PlainTerm) (ts : List PlainTerm) (o : Option (List PlainTerm)) → o ≡ matched_terms xs p args t → o ≡ Some ts
    → (f : A → PlainTerm) (us : List A) (ys : List (List ℕ)) → map f us ≡ ts → ys ≡ xs → length us ≡ length ys
one_each xs p args t ts o e g f us ys m h = sym (length-map us f) ∙ ap length m ∙ (matched_terms-stands xs p args t ts (sym e ∙ g)).0 ∙ ap length (sym h)
