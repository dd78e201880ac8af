-- How deep calls may lie does not matter beyond the calls that are left, and so a run that came to its end is the same with more fuel.
use Rattle.std.proofs.Common.{◌≡◌, ℕ, zero, suc, ◌≤◌, Bool, true, false, List, [], ◌∷◌, ◌++◌, Option, Some, None, refl, sym, ap, ◌∙◌, cond, arith, append_assoc, append-nil}
use Rattle.std.specs.List.{flat_map}
use Rattle.kid_value.specs.PlainValue.{PlainValue}
use Rattle.kid_value.specs.Rows.Parts.{truth_of, members_of}
use Rattle.kid_term.specs.PlainTerm.{term_row}
use Rattle.kid_term.specs.Eval.{Env, Calls, eval, evals, calls_of}
use Rattle.kid_prog.specs.Events.{Event, called, found, Procedure, events, search_env, procedure, program_events}
use Rattle.kid_prog.specs.PlainStmt.{PlainStmts, no_stmt, stmt, assign, when, each, emit, call}
use Rattle.kid_prog.specs.PlainProgram.{PlainProgram}
use Rattle.kid_prog.specs.Running.{upto_value, finding, calling, within, run_of}
use Rattle.kid_prog.proofs.EventLists.{within-more}

-- as far as l calls reach, the events are the same, however many values are wanted
abbrev pub Agree : ℕ → List Event → List Event → Type 0
Agree l es fs = (w : Option ℕ) (k : ℕ) → k ≤ l → within k (upto_value w es) ≡ within k (upto_value w fs)

-- as far as l calls reach, calls do the same, whatever comes after them
abbrev pub Alike : ℕ → Procedure → Procedure → Type 0
Alike l f g = (vs : List PlainValue) (ys zs : List Event) → Agree l ys zs → Agree l (f vs ++ ys) (g vs ++ zs)

agree-found : (l : ℕ) (v : PlainValue) (es fs : List Event) → Agree l es fs → Agree l (found v ∷ es) (found v ∷ fs)
agree-found l v es fs a None k le = ap (finding v) (a None k le)
agree-found l v es fs a (Some zero) k le = refl
agree-found l v es fs a (Some (suc w)) k le = ap (finding v) (a (Some w) k le)

agree-called : (l : ℕ) (es fs : List Event) → Agree l es fs → Agree (suc l) (called ∷ es) (called ∷ fs)
agree-called l es fs a None zero le = refl
agree-called l es fs a None (suc k) le = ap calling (a None k (omega (arith, le)))
agree-called l es fs a (Some zero) k le = refl
agree-called l es fs a (Some (suc w)) zero le = refl
agree-called l es fs a (Some (suc w)) (suc k) le = ap calling (a (Some (suc w)) k (omega (arith, le)))

agree-at_none : (es fs : List Event) → Agree 0 (called ∷ es) (called ∷ fs)
agree-at_none es fs None zero le = refl
agree-at_none es fs (Some zero) zero le = refl
agree-at_none es fs (Some (suc w)) zero le = refl
agree-at_none es fs w (suc k) le = let none : ⊥ = omega (arith, le) in absurd none

agree-below : (l : ℕ) (es fs : List Event) → Agree (suc l) es fs → Agree l es fs
agree-below l es fs a w k le = a w k (omega (arith, le))

agree-assoc : (l : ℕ) (a b ys c d zs : List Event) → Agree l (a ++ (b ++ ys)) (c ++ (d ++ zs)) → Agree l ((a ++ b) ++ ys) ((c ++ d) ++ zs)
agree-assoc l a b ys c d zs h w k le =
    ap (λ es. within k (upto_value w es)) (append_assoc a b ys) ∙ h w k le ∙ sym (ap (λ es. within k (upto_value w es)) (append_assoc c d zs))

agree-when : (l : ℕ) (b : Bool) (bs cs ys zs : List Event) → Agree l (bs ++ ys) (cs ++ zs) → Agree l ys zs → Agree l (cond b bs [] ++ ys) (cond b cs [] ++ zs)
agree-when l true bs cs ys zs h a = h
agree-when l false bs cs ys zs h a = a

agree-each : (l : ℕ) (f g : PlainValue → List Event) → ((v : PlainValue) (ys zs : List Event) → Agree l ys zs → Agree l (f v ++ ys) (g v ++ zs))
    → (vs : List PlainValue) (ys zs : List Event) → Agree l ys zs → Agree l (flat_map f vs ++ ys) (flat_map g vs ++ zs)
agree-each l f g h [] ys zs a = a
agree-each l f g h (v ∷ vs) ys zs a =
    agree-assoc l (f v) (flat_map f vs) ys (g v) (flat_map g vs) zs (h v (flat_map f vs ++ ys) (flat_map g vs ++ zs) (agree-each l f g h vs ys zs a))

-- statements do the same where calls do
pub events-alike : (l : ℕ) (defs : Calls) (f g : Procedure) → Alike l f g → (env : Env) (ss : PlainStmts) (ys zs : List Event) → Agree l ys zs
    → Agree l (events defs f env ss ++ ys) (events defs g env ss ++ zs)
events-alike l defs f g h env no_stmt ys zs a = a
events-alike l defs f g h env (stmt (assign x t) ss) ys zs a = events-alike l defs f g h ((x, eval defs env t) ∷ env) ss ys zs a
events-alike l defs f g h env (stmt (when t body) ss) ys zs a =
    let rest = events-alike l defs f g h env ss ys zs a in
    agree-assoc l (cond (truth_of (eval defs env t)) (events defs f env body) []) (events defs f env ss) ys
    (cond (truth_of (eval defs env t)) (events defs g env body) []) (events defs g env ss) zs
    (agree-when l (truth_of (eval defs env t)) (events defs f env body) (events defs g env body) (events defs f env ss ++ ys) (events defs g env ss ++ zs)
    (events-alike l defs f g h env body (events defs f env ss ++ ys) (events defs g env ss ++ zs) rest) rest)
events-alike l defs f g h env (stmt (each x t body) ss) ys zs a =
    agree-assoc l (flat_map (λ v. events defs f ((x, v) ∷ env) body) (members_of (eval defs env t))) (events defs f env ss) ys
    (flat_map (λ v. events defs g ((x, v) ∷ env) body) (members_of (eval defs env t))) (events defs g env ss) zs
    (agree-each l (λ v. events defs f ((x, v) ∷ env) body) (λ v. events defs g ((x, v) ∷ env) body)
    (λ v us ws b. events-alike l defs f g h ((x, v) ∷ env) body us ws b) (members_of (eval defs env t)) (events defs f env ss ++ ys) (events defs g env ss ++ zs)
    (events-alike l defs f g h env ss ys zs a))
events-alike l defs f g h env (stmt (emit t) ss) ys zs a =
    agree-found l (eval defs env t) (events defs f env ss ++ ys) (events defs g env ss ++ zs) (events-alike l defs f g h env ss ys zs a)
events-alike l defs f g h env (stmt (call ts) ss) ys zs a =
    agree-assoc l (f (evals defs env (term_row ts))) (events defs f env ss) ys (g (evals defs env (term_row ts))) (events defs g env ss) zs
    (h (evals defs env (term_row ts)) (events defs f env ss ++ ys) (events defs g env ss ++ zs) (events-alike l defs f g h env ss ys zs a))

-- as far as n calls reach, a call does the same at every depth from n on
pub procedure-alike : (p : PlainProgram) (x : Env) (n m : ℕ) → n ≤ m → Alike n (procedure p x n) (procedure p x m)
procedure-alike p x zero zero le vs ys zs a = agree-at_none ys zs
procedure-alike p x zero (suc m) le vs ys zs a = agree-at_none ys (events (calls_of p.definitions) (procedure p x m) (search_env p x vs) p.search ++ zs)
procedure-alike p x (suc n) zero le vs ys zs a = let none : ⊥ = omega (arith, le) in absurd none
procedure-alike p x (suc n) (suc m) le vs ys zs a =
    agree-called n (events (calls_of p.definitions) (procedure p x n) (search_env p x vs) p.search ++ ys) (events (calls_of p.definitions) (procedure p x m) (search_env p x vs) p.search ++ zs)
    (events-alike n (calls_of p.definitions) (procedure p x n) (procedure p x m) (procedure-alike p x n m (omega (arith, le))) (search_env p x vs) p.search ys zs (agree-below n ys zs a))

-- what comes of statements with other events after them is the same at every depth from the calls left on
pub within-deeper : (p : PlainProgram) (x : Env) (n m : ℕ) → n ≤ m → (defs : Calls) (env : Env) (ss : PlainStmts) (ys : List Event) (w : Option ℕ) (l : ℕ) → l ≤ n
    → within l (upto_value w (events defs (procedure p x n) env ss ++ ys)) ≡ within l (upto_value w (events defs (procedure p x m) env ss ++ ys))
within-deeper p x n m le defs env ss ys w l within = events-alike n defs (procedure p x n) (procedure p x m) (procedure-alike p x n m le) env ss ys ys (λ u k b. refl) w l within

-- a run is the same at every depth from its fuel on
pub run_of-deeper : (p : PlainProgram) (x : Env) (fuel m : ℕ) → fuel ≤ m → run_of p x fuel ≡ within fuel (upto_value p.first (program_events p x m))
run_of-deeper p x fuel m le =
    ap (λ es. within fuel (upto_value p.first es)) (sym (append-nil (program_events p x fuel)))
    ∙ within-deeper p x fuel m le (calls_of p.definitions) x p.main [] p.first fuel (omega arith)
    ∙ ap (λ es. within fuel (upto_value p.first es)) (append-nil (program_events p x m))

-- a run that came to its end is the same with more fuel
pub run_of-more : (p : PlainProgram) (x : Env) (n m : ℕ) → n ≤ m → (run_of p x n).whole ≡ true → run_of p x m ≡ run_of p x n
run_of-more p x n m le whole =
    let e = run_of-deeper p x n m le in
    within-more (upto_value p.first (program_events p x m)) n m le (ap (λ r. r.whole) (sym e) ∙ whole) ∙ sym e
