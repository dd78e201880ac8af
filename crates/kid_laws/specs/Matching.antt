-- When a pattern is a term, once terms stand for its variables.
use Rattle.std.specs.Prelude.{◌≡◌, ℕ, true, false, List, Option, Some, None, is_some}
use Rattle.kid_term.specs.PlainTerm.{PlainTerm}
use Rattle.kid_value.specs.NameSet.{is_among}
use Rattle.kid_term.specs.Substitution.{mentions}
use Rattle.kid_term.specs.Simultaneous.{Subst, term_at, substituted, captures_any}

-- each name that has a term keeps it
abbrev pub Extends : Subst → Subst → Type 0
Extends σ τ = (x : List ℕ) (t : PlainTerm) → term_at x σ ≡ Some t → term_at x τ ≡ Some t

-- no other names than these have got a term
abbrev pub AddsOnly : List (List ℕ) → Subst → Subst → Type 0
AddsOnly xs σ τ = (x : List ℕ) → is_among x xs ≡ false → term_at x τ ≡ term_at x σ

-- more terms for variables, with which each variable of the pattern has one and the pattern is the term
pub record Matches (xs : List (List ℕ)) (p t : PlainTerm) (σ τ : Subst) : Type 0 where
  pub extends : Extends σ τ
  pub adds_only : AddsOnly xs σ τ
  pub given : (x : List ℕ) → mentions x p ≡ true → is_among x xs ≡ true → is_some (term_at x τ) ≡ true
  pub same : substituted τ p ≡ t
  pub no_capture : captures_any τ p ≡ false

-- the least such terms
pub record IsLeastMatch (xs : List (List ℕ)) (p t : PlainTerm) (σ τ : Subst) : Type 0 where
  pub matches : Matches xs p t σ τ
  pub least : (ρ : Subst) → Matches xs p t σ ρ → Extends τ ρ

-- the least match, or none where there is none
abbrev pub IsMatchOf : List (List ℕ) → PlainTerm → PlainTerm → Subst → Option Subst → Type 0
IsMatchOf xs p t σ (Some τ) = IsLeastMatch xs p t σ τ
IsMatchOf xs p t σ None = (ρ : Subst) → Matches xs p t σ ρ → ⊥
