-- For the code that finds a match.
use Rattle.std.proofs.Common.{◌≡◌, ℕ, Bool, true, false, List, [], Option, None, Result, Ok, Err, refl, sym, ap, ◌∙◌}
use Rattle.std.specs.Prelude.{IfOk, IsTrue, ◌↔◌, ◌&&◌}
use Rattle.kid_term.specs.PlainTerm.{PlainHead, PlainTerm, var, truth, app, bind, PlainTerms}
use Rattle.kid_term.specs.TermView.{plain_literal}
use Rattle.kid_term.specs.Simultaneous.{Subst}
use Rattle.kid_term.specs.declared.Literal.{Literal}
use Rattle.kid_term.specs.declared.Literal.TheVariants as literal
use Rattle.kid_term.specs.declared.operator.Binder.{Binder}
use Rattle.kid_laws.specs.Found.{kept, same_binder, found}
use Rattle.kid_laws.specs.Same.{same_term}
use Rattle.kid_laws.specs.Matching.{IsMatchOf}
use Rattle.kid_laws.proofs.MatchLemmas.{found-exact}
use Rattle.kid_laws.proofs.SameLemmas.{same_term-decides}

pub name-decides : (b : Bool) (x y : List ℕ) → IsTrue b ↔ (x ≡ y) → b ≡ same_term (var x) (var y)
name-decides b x y h = same_term-decides b (var x) (var y) (λ t. ap var (h.0 t), λ e. h.1 (names e))
  where
    names : var x ≡ var y → x ≡ y
    names e = cc

-- what is no name is not this one
no_name : (t : PlainTerm) (x : List ℕ) → (t ≡ var x → ⊥) → false ≡ same_term t (var x)
no_name t x h = same_term-decides false t (var x) (λ f. absurd (wrong f), λ e. absurd (h e))
  where
    wrong : IsTrue false → ⊥
    wrong f = cc

pub literal-no_name : (l : Literal) (x : List ℕ) → false ≡ same_term (plain_literal l) (var x)
literal-no_name l x = no_name (plain_literal l) x (by l)
  where
    by : (l : Literal) → plain_literal l ≡ var x → ⊥
    by (literal.Int n) e = cc
    by (literal.Bool b) e = cc
    by (literal.Tag n) e = cc

pub app-no_name : (g : PlainHead) (ts : PlainTerms) (x : List ℕ) → false ≡ same_term (app g ts) (var x)
app-no_name g ts x = no_name (app g ts) x (λ e. cc)

pub bind-no_name : (b : Binder) (y : List ℕ) (p q : PlainTerm) (x : List ℕ) → false ≡ same_term (bind b y p q) (var x)
bind-no_name b y p q x = no_name (bind b y p q) x (λ e. cc)

pub binder-decides : (p q : Bool) (b c : Binder) (x y : List ℕ) → IsTrue p ↔ (b ≡ c) → IsTrue q ↔ (x ≡ y) → (p && q) ≡ same_binder b x c y
binder-decides p q b c x y h k =
    same_term-decides (p && q) (bind b x (truth true) (truth true)) (bind c y (truth true) (truth true)) (
      λ t. let r = both p q t in let e = h.0 r.0 in let f = k.0 r.1 in λ i. bind (e i) (f i) (truth true) (truth true),
      λ e. joined p q (h.1 (kinds e)) (k.1 (names e)),
    )
  where
    both : (p q : Bool) → IsTrue (p && q) → IsTrue p × IsTrue q
    both true q t = (refl, t)
    both false q t = cc

    joined : (p q : Bool) → IsTrue p → IsTrue q → IsTrue (p && q)
    joined true q s t = t
    joined false q s t = cc

    kinds : bind b x (truth true) (truth true) ≡ bind c y (truth true) (truth true) → b ≡ c
    kinds e = cc

    names : bind b x (truth true) (truth true) ≡ bind c y (truth true) (truth true) → x ≡ y
    names e = cc

-- a literal is met by itself alone, and by no other pattern but a name
pub literal-found : (bs xs : List (List ℕ)) (l : Literal) (t : PlainTerm) (σ : Subst) → found bs xs (plain_literal l) t σ ≡ kept (same_term t (plain_literal l)) σ
literal-found bs xs (literal.Int n) t σ = refl
literal-found bs xs (literal.Bool b) t σ = refl
literal-found bs xs (literal.Tag n) t σ = refl

pub app-literal : (bs xs : List (List ℕ)) (g : PlainHead) (ps : PlainTerms) (l : Literal) (σ : Subst) → found bs xs (app g ps) (plain_literal l) σ ≡ None
app-literal bs xs g ps (literal.Int n) σ = refl
app-literal bs xs g ps (literal.Bool b) σ = refl
app-literal bs xs g ps (literal.Tag n) σ = refl

pub bind-literal : (bs xs : List (List ℕ)) (b : Binder) (y : List ℕ) (p q : PlainTerm) (l : Literal) (σ : Subst) → found bs xs (bind b y p q) (plain_literal l) σ ≡ None
bind-literal bs xs b y p q (literal.Int n) σ = refl
bind-literal bs xs b y p q (literal.Bool c) σ = refl
bind-literal bs xs b y p q (literal.Tag n) σ = refl

-- what is found from a copy of the terms that stood before is the match
pub found_matches : {E : Type 0} (xs : List (List ℕ)) (p t : PlainTerm) (σ ρ : Subst) (r : Result (Option Subst) E) → ρ ≡ σ → IfOk r (λ o. o ≡ found [] xs p t ρ) → IfOk r (λ o. IsMatchOf xs p t σ o)
found_matches xs p t σ ρ (Ok o) e h = found-exact xs p t σ o (ap (found [] xs p t) (sym e) ∙ sym h)
found_matches xs p t σ ρ (Err x) e h = tt
