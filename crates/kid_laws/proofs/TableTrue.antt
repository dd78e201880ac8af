-- Each law of the table is true, and so are its instances.
use Rattle.std.proofs.Common.{◌≡◌, ℕ, zero, suc, Bool, true, false, List, [], ◌∷◌, ◌++◌, Some, None, Option, refl, ap, ◌∙◌, sym, subst}
use Rattle.std.specs.List.{list_all}
use Rattle.kid_value.proofs.SortLemmas.{and_parts}
use Rattle.kid_term.specs.PlainTerm.{PlainTerm, var, number, truth, tag, app, bind}
use Rattle.kid_term.specs.Eval.{Env, Calls, calls_of}
use Rattle.kid_term.specs.Simultaneous.{substituted}
use Rattle.kid_term.proofs.SortedValue.{sort_of_ok}
use Rattle.kid_laws.specs.Law.{Law}
use Rattle.kid_laws.specs.Laws.{InstancesAreTrue}
use Rattle.kid_laws.specs.Lawful.{is_lawful}
use Rattle.kid_laws.specs.Table.{laws_of, law_at, implications, first_equations, second_equations, third_equations, fourth_equations, first_implications, second_implications}
use Rattle.kid_laws.specs.Truth.{IsTrue, AreTrue}
use Rattle.kid_laws.specs.declared.kind.LawKind.{LawKind}
use Rattle.kid_laws.specs.declared.kind.LawKind.TheVariants.{Equation, Implication}
use Rattle.kid_laws.proofs.LogicTruths.{e1_true, e2_true, e3_true, e4_true, e5_true, e6_true, e7_true, e8_true, e9_true, e10_true, e11_true, e12_true, e13_true, m1_true}
use Rattle.kid_laws.proofs.NumberTruths.{e14_true, e15_true, e16_true, e17_true, e18_true, e19_true, e21_true, e22_true, e23_true, e24_true, e25_true, e26_true, e27_true, m2_true, m3_true, m5_true}
use Rattle.kid_laws.proofs.SetTruths.{e28_true, e29_true, e30_true, e31_true, e32_true, e33_true, e34_true, e35_true, e36_true, e37_true, e38_true, e39_true, e40_true, e41_true, m6_true, m7_true, m8_true, m9_true, m10_true, m11_true, m12_true, m13_true, m14_true}
use Rattle.kid_laws.proofs.SequenceTruths.{e42_true, e43_true, e44_true, e45_true, e46_true, m15_true, m16_true, m17_true, m18_true}
use Rattle.kid_laws.proofs.MapTruths.{e20_true, e47_true, e48_true, m4_true, m19_true, m20_true}
use Rattle.kid_laws.proofs.Lifting.{instance_true}

is_lawful_each : (kind : LawKind) → list_all is_lawful (laws_of kind) ≡ true
unfolding first_equations second_equations third_equations fourth_equations first_implications second_implications
is_lawful_each Equation = refl
is_lawful_each Implication = refl

first_equations_true : (calls : Calls) (base : Env) → AreTrue calls base first_equations
unfolding first_equations
first_equations_true c b = (e1_true c b, (e2_true c b, (e3_true c b, (e4_true c b, (e5_true c b, (e6_true c b, (e7_true c b, (e8_true c b, (e9_true c b, (e10_true c b, (e11_true c b, (e12_true c b, tt))))))))))))

second_equations_true : (calls : Calls) (base : Env) → AreTrue calls base second_equations
unfolding second_equations
second_equations_true c b = (e13_true c b, (e14_true c b, (e15_true c b, (e16_true c b, (e17_true c b, (e18_true c b, (e19_true c b, (e20_true c b, (e21_true c b, (e22_true c b, (e23_true c b, (e24_true c b, tt))))))))))))

third_equations_true : (calls : Calls) (base : Env) → AreTrue calls base third_equations
unfolding third_equations
third_equations_true c b = (e25_true c b, (e26_true c b, (e27_true c b, (e28_true c b, (e29_true c b, (e30_true c b, (e31_true c b, (e32_true c b, (e33_true c b, (e34_true c b, (e35_true c b, (e36_true c b, tt))))))))))))

fourth_equations_true : (calls : Calls) (base : Env) → AreTrue calls base fourth_equations
unfolding fourth_equations
fourth_equations_true c b = (e37_true c b, (e38_true c b, (e39_true c b, (e40_true c b, (e41_true c b, (e42_true c b, (e43_true c b, (e44_true c b, (e45_true c b, (e46_true c b, (e47_true c b, (e48_true c b, tt))))))))))))

first_implications_true : (calls : Calls) (base : Env) → AreTrue calls base first_implications
unfolding first_implications
first_implications_true c b = (m1_true c b, (m2_true c b, (m3_true c b, (m4_true c b, (m5_true c b, (m6_true c b, (m7_true c b, (m8_true c b, (m9_true c b, (m10_true c b, tt))))))))))

second_implications_true : (calls : Calls) (base : Env) → AreTrue calls base second_implications
unfolding second_implications
second_implications_true c b = (m11_true c b, (m12_true c b, (m13_true c b, (m14_true c b, (m15_true c b, (m16_true c b, (m17_true c b, (m18_true c b, (m19_true c b, (m20_true c b, tt))))))))))

joined : (calls : Calls) (base : Env) (xs ys : List Law) → AreTrue calls base xs → AreTrue calls base ys → AreTrue calls base (xs ++ ys)
joined calls base [] ys h k = k
joined calls base (x ∷ xs) ys h k = (h.0, joined calls base xs ys h.1 k)

laws_true : (kind : LawKind) (calls : Calls) (base : Env) → AreTrue calls base (laws_of kind)
laws_true Equation c b = joined c b first_equations _ (first_equations_true c b) (joined c b second_equations _ (second_equations_true c b) (joined c b third_equations fourth_equations (third_equations_true c b) (fourth_equations_true c b)))
laws_true Implication c b = joined c b first_implications second_implications (first_implications_true c b) (second_implications_true c b)

none_at : (l : Law) → let o : Option Law = None in o ≡ Some l → ⊥
none_at l e = cc

one_law : (l k : Law) → Some l ≡ Some k → l ≡ k
one_law l k e = cc

-- what a test says of each law of a list
passed_at : (f : Law → Bool) (ls : List Law) (i : ℕ) (l : Law) → list_all f ls ≡ true → law_at ls i ≡ Some l → f l ≡ true
passed_at f [] zero l h e = absurd (none_at l e)
passed_at f [] (suc i) l h e = absurd (none_at l e)
passed_at f (k ∷ ls) zero l h e = absurd (none_at l e)
passed_at f (k ∷ ls) (suc zero) l h e = ap f (sym (one_law k l e)) ∙ (and_parts (f k) (list_all f ls) h).0
passed_at f (k ∷ ls) (suc (suc i)) l h e = passed_at f ls (suc i) l (and_parts (f k) (list_all f ls) h).1 e

true_at : (calls : Calls) (base : Env) (ls : List Law) (i : ℕ) (l : Law) → AreTrue calls base ls → law_at ls i ≡ Some l → IsTrue calls base l
true_at calls base [] zero l h e = absurd (none_at l e)
true_at calls base [] (suc i) l h e = absurd (none_at l e)
true_at calls base (k ∷ ls) zero l h e = absurd (none_at l e)
true_at calls base (k ∷ ls) (suc zero) l h e = subst (IsTrue calls base) (one_law k l e) h.0
true_at calls base (k ∷ ls) (suc (suc i)) l h e = true_at calls base ls (suc i) l h.1 e

pub instances_true : InstancesAreTrue
instances_true kind n l σ defs names env s s' at sound allowed fits e f h =
    instance_true defs names env sound allowed fits σ l s s' (passed_at is_lawful (laws_of kind) n l (is_lawful_each kind) at) (true_at (calls_of defs) env (laws_of kind) n l (laws_true kind (calls_of defs) env) at)
    (sort_of_ok defs names (substituted σ l.left) s e).2 (sort_of_ok defs names (substituted σ l.right) s' f).2 h

-- ---- the right side of an implication

is_true_term : PlainTerm → Bool
is_true_term (truth b) = b
is_true_term t = false

the_true_term : (t : PlainTerm) → is_true_term t ≡ true → t ≡ truth true
unfolding is_true_term
the_true_term (var x) e = cc
the_true_term (number n) e = cc
the_true_term (truth b) e = ap truth e
the_true_term (tag x) e = cc
the_true_term (app h ts) e = cc
the_true_term (bind b x t u) e = cc

is_true_each : list_all (λ l. is_true_term l.right) implications ≡ true
unfolding first_implications second_implications is_true_term
is_true_each = refl

pub conclusion_true : (n : ℕ) (l : Law) → law_at implications n ≡ Some l → l.right ≡ truth true
conclusion_true n l at = the_true_term l.right (passed_at (λ k. is_true_term k.right) implications n l is_true_each at)
