-- A term after a line keeps its value and has a sort, and what a rule concludes is true and has one.
use Rattle.std.proofs.Common.{◌≡◌, ℕ, true, List, [], ◌∷◌, Option, Some, None, Result, Ok, Err, refl, sym, ap, ◌∙◌, subst}
use Rattle.kid_value.specs.PlainSort.{PlainSort}
use Rattle.kid_term.specs.Chain.{◌>>=◌}
use Rattle.kid_term.specs.Eval.{Env, eval, calls_of}
use Rattle.kid_term.specs.Fitting.{AreAllowed, AreSound, Fits}
use Rattle.kid_term.specs.Names.{Names, PlainDef, latest_first}
use Rattle.kid_term.specs.Places.{put_at}
use Rattle.kid_term.specs.PlainTerm.{PlainTerm}
use Rattle.kid_term.specs.PlainTheory.{PlainTheory}
use Rattle.kid_term.specs.Sorted.{Sorted}
use Rattle.kid_term.specs.Sorting.{sort_of}
use Rattle.kid_term.specs.Truths.{IsTrueAt, AllTrue}
use Rattle.kid_term.specs.declared.why.Why.{Why}
use Rattle.kid_laws.specs.Applied.{PlainApplied, concluded_by}
use Rattle.kid_laws.specs.declared.parts.ApplyFault.{ApplyFault}
use Rattle.kid_laws.proofs.AppliedTrue.{implications_are_true}
use Rattle.kid_scope.specs.Cases.{IsScope, IsSoundTheory, Meets}
use Rattle.kid_scope.specs.Holds.{holds}
use Rattle.kid_scope.specs.Rewriting.{PlainInstance, all_within, unless, unmet, unsorted, misfitting, licensed, settled, made}
use Rattle.kid_scope.specs.Scope.{PlainScope, scope_at}
use Rattle.kid_scope.proofs.RewriteLemmas.{staged, unless_ok, sorted_ok, fitting_ok, all_true, rewritten_keeps}
use Rattle.kid_scope.proofs.LawRuleLemmas.{law_conclusion-true}
use Rattle.kid_moves.specs.PlainRule.{PlainRule, by_equation, by_implication, by_binder, by_law, by_unfolding, by_folding, by_computing, by_fact, by_holding, by_failing, by_uncasting, PlainLine}
use Rattle.kid_kernel.specs.Rules.{rule_of, rewritten_by, lines_rewritten, of_law, conclusion_by, kept_conclusion, concluded}
use Rattle.kid_kernel.specs.RulesKeep.{rules_keep}

abbrev ok_sort : PlainSort → Sorted
ok_sort s = Ok s

abbrev ok_term : PlainTerm → Result PlainTerm Why
ok_term t = Ok t

-- ---- lines

pub rewritten_by-kept : (t : PlainTheory) (sc : PlainScope) (line : PlainLine) (old new : PlainTerm) (s : PlainSort) (env : Env) → IsSoundTheory t → IsScope t sc → Meets t sc env
    → sort_of t.signature.definitions sc.names old ≡ Ok s → rewritten_by t sc line old ≡ Ok new → eval (calls_of t.signature.definitions) env new ≡ eval (calls_of t.signature.definitions) env old
rewritten_by-kept t sc line old new s env sound scope met p q =
    rewritten_keeps (rule_of line.rule line.back line.args) (rules_keep line.rule line.back line.args) t sc old line.path new s env sound scope met p q

-- what stands has a sort, and its terms lie within theirs
pub record Standing (defs : List PlainDef) (sc : PlainScope) (names : Names) (found : PlainInstance) (whole new : PlainTerm) : Type 0 where
  pub is : whole ≡ new
  pub sort : PlainSort
  pub sorted : sort_of defs names new ≡ Ok sort
  pub within : all_within defs sc.names found.within ≡ true

pub stands : (defs : List PlainDef) (sc : PlainScope) (names : Names) (found : PlainInstance) (whole new : PlainTerm) → settled defs sc names found whole ≡ Ok new → Standing defs sc names found whole new
stands defs sc names found whole new p =
    let z = staged (unless (unsorted (sort_of defs names whole)) whole) (λ sorted. unless (misfitting (all_within defs sc.names found.within)) sorted) new p in
    let a = unless_ok (unsorted (sort_of defs names whole)) whole z.0 z.1 in
    let b = unless_ok (misfitting (all_within defs sc.names found.within)) z.0 new z.2 in
    let s = sorted_ok (sort_of defs names whole) a.0 in
    record {
      is = a.1 ∙ b.1;
      sort = s.0;
      sorted = subst (λ u. sort_of defs names u ≡ Ok s.0) (a.1 ∙ b.1) s.1;
      within = fitting_ok (all_within defs sc.names found.within) b.0;
    }

pub rewritten_by-sorted : (t : PlainTheory) (sc : PlainScope) (line : PlainLine) (old new : PlainTerm) → rewritten_by t sc line old ≡ Ok new → (s : PlainSort) × (sort_of t.signature.definitions sc.names new ≡ Ok s)
rewritten_by-sorted t sc line old new p =
    let inner = scope_at (latest_first t.signature.definitions) old line.path sc in
    let rule = rule_of line.rule line.back line.args in
    let v = staged (made rule t sc old line.path) (λ n. settled t.signature.definitions inner sc.names n (put_at old line.path n.term)) new p in
    let z = stands t.signature.definitions inner sc.names v.0 (put_at old line.path v.0.term) new v.2 in
    (z.sort, z.sorted)

pub lines_rewritten-kept : (t : PlainTheory) (sc : PlainScope) (lines : List PlainLine) (old new : PlainTerm) (s : PlainSort) (env : Env) → IsSoundTheory t → IsScope t sc → Meets t sc env
    → sort_of t.signature.definitions sc.names old ≡ Ok s → lines_rewritten t sc lines old ≡ Ok new → eval (calls_of t.signature.definitions) env new ≡ eval (calls_of t.signature.definitions) env old
lines_rewritten-kept t sc [] old new s env sound scope met p q = let e : old ≡ new = cc in ap (eval (calls_of t.signature.definitions) env) (sym e)
lines_rewritten-kept t sc (line ∷ lines) old new s env sound scope met p q =
    let r = staged (rewritten_by t sc line old) (λ u. lines_rewritten t sc lines u) new q in
    let w = rewritten_by-sorted t sc line old r.0 r.1 in
    lines_rewritten-kept t sc lines r.0 new w.0 env sound scope met w.1 r.2 ∙ rewritten_by-kept t sc line old r.0 s env sound scope met p r.1

pub lines_rewritten-sorted : (t : PlainTheory) (sc : PlainScope) (lines : List PlainLine) (old new : PlainTerm) (s : PlainSort) → sort_of t.signature.definitions sc.names old ≡ Ok s
    → lines_rewritten t sc lines old ≡ Ok new → (s' : PlainSort) × (sort_of t.signature.definitions sc.names new ≡ Ok s')
lines_rewritten-sorted t sc [] old new s p q = let e : old ≡ new = cc in (s, subst (λ u. sort_of t.signature.definitions sc.names u ≡ ok_sort s) e p)
lines_rewritten-sorted t sc (line ∷ lines) old new s p q =
    let r = staged (rewritten_by t sc line old) (λ u. lines_rewritten t sc lines u) new q in
    let w = rewritten_by-sorted t sc line old r.0 r.1 in
    lines_rewritten-sorted t sc lines r.0 new w.0 w.1 r.2

-- ---- conclusions

-- what a rule concludes is true, where it has a sort, its terms lie within theirs and its conditions are true
conclusion_by-true : (t : PlainTheory) (sc : PlainScope) (rule : PlainRule) (ts : List PlainTerm) (found : PlainInstance) (s : PlainSort) (env : Env) → IsSoundTheory t → IsScope t sc → Meets t sc env
    → conclusion_by t rule ts ≡ Ok found → sort_of t.signature.definitions sc.names found.term ≡ Ok s → all_within t.signature.definitions sc.names found.within ≡ true
    → AllTrue (calls_of t.signature.definitions) env found.conditions → IsTrueAt (calls_of t.signature.definitions) env found.term
conclusion_by-true t sc (by_equation n) ts found s env sound scope met p q w a = cc
conclusion_by-true t sc (by_implication n) ts found s env sound scope met p q w a =
    by (concluded_by n ts) (λ b e. implications_are_true n ts b e t.signature.definitions sc.names env) p
  where
    by : (r : Result PlainApplied ApplyFault) → ((b : PlainApplied) → r ≡ Ok b → (s' : PlainSort) → AreSound t.signature.definitions → AreAllowed sc.names → Fits sc.names env
        → sort_of t.signature.definitions sc.names b.term ≡ Ok s' → AllTrue (calls_of t.signature.definitions) env b.conditions → IsTrueAt (calls_of t.signature.definitions) env b.term)
        → of_law r ≡ Ok found → IsTrueAt (calls_of t.signature.definitions) env found.term
    by (Ok b) true_of e =
        let f : record { conditions = b.conditions; term = b.term; within = [] } ≡ found = cc in
        subst (λ n. IsTrueAt (calls_of t.signature.definitions) env n.term) f
        (true_of b refl s sound.definitions scope.allowed met.case.fits (subst (λ n. sort_of t.signature.definitions sc.names n.term ≡ ok_sort s) (sym f) q)
        (subst (λ n. AllTrue (calls_of t.signature.definitions) env n.conditions) (sym f) a))
    by (Err x) true_of e = cc
conclusion_by-true t sc (by_law f) ts found s env sound scope met p q w a = law_conclusion-true f ts t sc env found p sound scope met w a
conclusion_by-true t sc (by_binder n) ts found s env sound scope met p q w a = cc
conclusion_by-true t sc by_unfolding ts found s env sound scope met p q w a = cc
conclusion_by-true t sc (by_folding f) ts found s env sound scope met p q w a = cc
conclusion_by-true t sc by_computing ts found s env sound scope met p q w a = cc
conclusion_by-true t sc (by_fact k) ts found s env sound scope met p q w a = cc
conclusion_by-true t sc by_holding ts found s env sound scope met p q w a = cc
conclusion_by-true t sc by_failing ts found s env sound scope met p q w a = cc
conclusion_by-true t sc by_uncasting ts found s env sound scope met p q w a = cc

-- the instance behind a conclusion
pub record Conclusion (t : PlainTheory) (sc : PlainScope) (rule : PlainRule) (ts : List PlainTerm) (new : PlainTerm) : Type 0 where
  pub found : PlainInstance
  pub by_rule : conclusion_by t rule ts ≡ Ok found
  pub conditions : unmet (holds t.signature.definitions sc) 1 found.conditions ≡ None
  pub standing : Standing t.signature.definitions sc sc.names found found.term new

pub concluding : (t : PlainTheory) (sc : PlainScope) (rule : PlainRule) (ts : List PlainTerm) (new : PlainTerm) → concluded t sc rule ts ≡ Ok new → Conclusion t sc rule ts new
concluding t sc rule ts new p =
    let v = staged (conclusion_by t rule ts) (λ found. kept_conclusion t.signature.definitions sc sc.names found) new p in
    let l = staged (licensed t.signature.definitions sc v.0) (λ n. settled t.signature.definitions sc sc.names n n.term) new v.2 in
    let u = unless_ok (unmet (holds t.signature.definitions sc) 1 v.0.conditions) v.0 l.0 l.1 in
    record {
      found = v.0;
      by_rule = v.1;
      conditions = u.0;
      standing = stands t.signature.definitions sc sc.names v.0 v.0.term new (subst (λ n. settled t.signature.definitions sc sc.names n n.term ≡ ok_term new) (sym u.1) l.2);
    }

pub concluded-true : (t : PlainTheory) (sc : PlainScope) (rule : PlainRule) (ts : List PlainTerm) (new : PlainTerm) (env : Env) → IsSoundTheory t → IsScope t sc → Meets t sc env
    → concluded t sc rule ts ≡ Ok new → IsTrueAt (calls_of t.signature.definitions) env new
concluded-true t sc rule ts new env sound scope met p =
    let c = concluding t sc rule ts new p in
    subst (IsTrueAt (calls_of t.signature.definitions) env) c.standing.is
    (conclusion_by-true t sc rule ts c.found c.standing.sort env sound scope met c.by_rule (subst (λ u. sort_of t.signature.definitions sc.names u ≡ ok_sort c.standing.sort) (sym c.standing.is) c.standing.sorted)
    c.standing.within (all_true t sc env sound (record { scope = scope; met = met }) 1 c.found.conditions c.conditions))

pub concluded-sorted : (t : PlainTheory) (sc : PlainScope) (rule : PlainRule) (ts : List PlainTerm) (new : PlainTerm) → concluded t sc rule ts ≡ Ok new
    → (s : PlainSort) × (sort_of t.signature.definitions sc.names new ≡ Ok s)
concluded-sorted t sc rule ts new p = let c = concluding t sc rule ts new p in (c.standing.sort, c.standing.sorted)
