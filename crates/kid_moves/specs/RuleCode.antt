-- How the logic stores lines and moves.
use Rattle.std.specs.Prelude.{◌≡◌, ◌⊎◌, ℕ, zero, suc, Bool, List, refl}
use Rattle.std.proofs.Common.{inl, inr}
use Rattle.std.specs.Coded.{Coded, code_by, coded_ℕ, coded_bool, coded_list, coded×, coded⊎}
use Rattle.kid_term.specs.PlainTerm.{PlainTerm}
use Rattle.kid_term.specs.TermCode.{coded_name, coded_terms}
use Rattle.kid_moves.specs.PlainRule.{PlainRule, by_equation, by_implication, by_binder, by_law, by_unfolding, by_folding, by_computing, by_fact, by_holding, by_failing, by_uncasting, PlainLine, PlainMove, left_of, right_of, both_of, again, concluded_by, after_lines}

-- ---- rules: those with a number, those with a name, those with neither

abbrev pub Numbered : Type 0
Numbered = (ℕ ⊎ ℕ) ⊎ (ℕ ⊎ ℕ)

abbrev pub RuleParts : Type 0
RuleParts = Numbered ⊎ ((List ℕ ⊎ List ℕ) ⊎ ℕ)

abbrev pub parts_of : PlainRule → RuleParts
parts_of (by_equation n) = inl (inl (inl n))
parts_of (by_implication n) = inl (inl (inr n))
parts_of (by_binder n) = inl (inr (inl n))
parts_of (by_fact n) = inl (inr (inr n))
parts_of (by_law f) = inr (inl (inl f))
parts_of (by_folding f) = inr (inl (inr f))
parts_of by_unfolding = inr (inr 0)
parts_of by_computing = inr (inr 1)
parts_of by_holding = inr (inr 2)
parts_of by_failing = inr (inr 3)
parts_of by_uncasting = inr (inr 4)

abbrev pub rule_from : RuleParts → PlainRule
rule_from (inl (inl (inl n))) = by_equation n
rule_from (inl (inl (inr n))) = by_implication n
rule_from (inl (inr (inl n))) = by_binder n
rule_from (inl (inr (inr n))) = by_fact n
rule_from (inr (inl (inl f))) = by_law f
rule_from (inr (inl (inr f))) = by_folding f
rule_from (inr (inr zero)) = by_unfolding
rule_from (inr (inr (suc zero))) = by_computing
rule_from (inr (inr (suc (suc zero)))) = by_holding
rule_from (inr (inr (suc (suc (suc zero))))) = by_failing
rule_from (inr (inr n)) = by_uncasting

pub rule_from-parts : (r : PlainRule) → rule_from (parts_of r) ≡ r
rule_from-parts (by_equation n) = refl
rule_from-parts (by_implication n) = refl
rule_from-parts (by_binder n) = refl
rule_from-parts (by_fact n) = refl
rule_from-parts (by_law f) = refl
rule_from-parts (by_folding f) = refl
rule_from-parts by_unfolding = refl
rule_from-parts by_computing = refl
rule_from-parts by_holding = refl
rule_from-parts by_failing = refl
rule_from-parts by_uncasting = refl

abbrev pub coded_rule : Coded PlainRule
coded_rule =
    code_by RuleParts (coded⊎ (coded⊎ (coded⊎ coded_ℕ coded_ℕ) (coded⊎ coded_ℕ coded_ℕ)) (coded⊎ (coded⊎ coded_name coded_name) coded_ℕ)) parts_of rule_from rule_from-parts

-- ---- lines

abbrev pub LineParts : Type 0
LineParts = List ℕ × (Bool × (PlainRule × List PlainTerm))

abbrev pub line_parts : PlainLine → LineParts
line_parts l = (l.path, (l.back, (l.rule, l.args)))

abbrev pub line_from : LineParts → PlainLine
line_from p = record { path = p.0; back = p.1.0; rule = p.1.1.0; args = p.1.1.1 }

pub line_from-parts : (l : PlainLine) → line_from (line_parts l) ≡ l
line_from-parts l = refl

abbrev pub coded_lines : Coded (List PlainLine)
coded_lines = coded_list (code_by LineParts (coded× coded_name (coded× coded_bool (coded× coded_rule coded_terms))) line_parts line_from line_from-parts)

-- ---- moves

abbrev pub MoveParts : Type 0
MoveParts = ((ℕ ⊎ ℕ) ⊎ ((ℕ × ℕ) ⊎ ℕ)) ⊎ ((PlainRule × List PlainTerm) ⊎ (ℕ × List PlainLine))

abbrev pub move_parts : PlainMove → MoveParts
move_parts (left_of k) = inl (inl (inl k))
move_parts (right_of k) = inl (inl (inr k))
move_parts (both_of k l) = inl (inr (inl (k, l)))
move_parts (again k) = inl (inr (inr k))
move_parts (concluded_by r ts) = inr (inl (r, ts))
move_parts (after_lines k ls) = inr (inr (k, ls))

abbrev pub move_from : MoveParts → PlainMove
move_from (inl (inl (inl k))) = left_of k
move_from (inl (inl (inr k))) = right_of k
move_from (inl (inr (inl p))) = both_of p.0 p.1
move_from (inl (inr (inr k))) = again k
move_from (inr (inl p)) = concluded_by p.0 p.1
move_from (inr (inr p)) = after_lines p.0 p.1

pub move_from-parts : (m : PlainMove) → move_from (move_parts m) ≡ m
move_from-parts (left_of k) = refl
move_from-parts (right_of k) = refl
move_from-parts (both_of k l) = refl
move_from-parts (again k) = refl
move_from-parts (concluded_by r ts) = refl
move_from-parts (after_lines k ls) = refl

abbrev pub coded_moves : Coded (List PlainMove)
coded_moves =
    coded_list
    (code_by MoveParts (coded⊎ (coded⊎ (coded⊎ coded_ℕ coded_ℕ) (coded⊎ (coded× coded_ℕ coded_ℕ) coded_ℕ)) (coded⊎ (coded× coded_rule coded_terms) (coded× coded_ℕ coded_lines)))
    move_parts move_from move_from-parts)
