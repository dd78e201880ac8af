-- A step of a machine keeps what is still done, and leaves less.
use Rattle.std.proofs.Common.{◌≡◌, ℕ, ◌+◌, ◌<◌, ◌≤◌, Bool, true, false, List, [], ◌∷◌, ◌++◌, length, drop, Some, refl, sym, ap, ◌∙◌, cond, subst, arith, append_assoc}
use Rattle.std.specs.Prelude.{◌&&◌, nat_le}
use Rattle.std.specs.List.{flat_map}
use Rattle.std.proofs.lemmas.Bool.Decides.{nat_tests}
use Rattle.kid_value.specs.PlainValue.{PlainValue}
use Rattle.kid_value.specs.PlainSort.{PlainSort, bools, sets}
use Rattle.kid_value.specs.Rows.Parts.{truth_of, members_of}
use Rattle.kid_value.proofs.SortLemmas.{and_parts, has_sort-subsort}
use Rattle.kid_codec.specs.ValueSpelling.{is_spelled_value}
use Rattle.kid_codec.proofs.SortedSpelled.{sorted-spelled}
use Rattle.kid_term.specs.PlainTerm.{PlainTerm, term_row}
use Rattle.kid_term.specs.Eval.{Env, Calls, eval, evals, calls_of}
use Rattle.kid_term.specs.Small.{StaysSmall, all_stay_small, checks_of}
use Rattle.kid_term.specs.Sorting.{sort_of}
use Rattle.kid_term.specs.Fitting.{IsOfSort, Fits}
use Rattle.kid_term.proofs.Members.{Each, members_sound}
use Rattle.kid_term.proofs.SortedValue.{element_allowed, sorted_evaluates}
use Rattle.kid_prog.specs.PlainStmt.{PlainStmt, assign, when, each, emit, call, PlainStmts, no_stmt, stmt}
use Rattle.kid_prog.specs.PlainProgram.{PlainProgram}
use Rattle.kid_sorting.specs.Declaring.{is_truth, is_within, with_name}
use Rattle.kid_prog.specs.Rules.{setting_of, obey, ranges, sorts_of, call_fits, IsRunnable, search_scope}
use Rattle.kid_prog.specs.Events.{found, Procedure, events, search_env}
use Rattle.kid_run.specs.Frames.{PlainFrame, rest, over, caller, PlainMachine, Move, goes, finds, calls, ends, machine, kept, keeping, overs, below, first, step_at, step, waiting, entered, frames_do, doing}
use Rattle.kid_run.specs.Scope.{CanRun, CanRunOver, AllOfSort, FramesCanRun, MachineCanRun, AreArguments}
use Rattle.kid_run.proofs.Scopes.{Fits-end, AreAllowed-end, Fits-inside, AreAllowed-inside, parameters-fit, binds_ok, ranges_ok, is_truth_ok, is_within_ok, call_fits_ok, terms-evaluate}

-- ---- names that are kept

pub kept-more : (n : ℕ) (e : List ℕ × PlainValue) (env : Env) → n ≤ length env → kept n (e ∷ env) ≡ kept n env
kept-more n e env le = let t : nat_le n (length env) ≡ true = grind (arith, nat_tests) in ap (λ b. cond b (kept n env) (e ∷ env)) t

pub kept-few : (n : ℕ) (env : Env) → length env ≤ n → kept n env ≡ env
kept-few n [] le = refl
kept-few n (e ∷ env) le = let t : nat_le n (length env) ≡ false = grind (arith, nat_tests) in ap (λ b. cond b (kept n env) (e ∷ env)) t

pub kept-drop : (n : ℕ) (env : Env) → n < length env → kept n (drop 1 env) ≡ kept n env
kept-drop n [] lt = absurd (omega arith)
kept-drop n (e ∷ env) lt = sym (kept-more n e env (omega (arith, lt)))

pub kept-all : (env : Env) → kept (length env) env ≡ env
kept-all env = kept-few (length env) env (omega arith)

pub kept-length : (n : ℕ) (env : Env) → n ≤ length env → length (kept n env) ≡ n
kept-length n [] le = omega (arith, le)
kept-length n (e ∷ env) le = by (nat_le n (length env)) refl (λ h. kept-length n env h)
  where
    by : (c : Bool) → nat_le n (length env) ≡ c → (n ≤ length env → length (kept n env) ≡ n) → length (cond c (kept n env) (e ∷ env)) ≡ n
    by true q k = let h : n ≤ length env = grind (arith, nat_tests) in k h
    by false q k = let h : length env < n = grind (arith, nat_tests) in omega (arith, le, h)

-- ---- how much there is to do

abbrev pub each_work : (PlainValue → ℕ) → List PlainValue → ℕ
each_work f [] = 0
each_work f (v ∷ vs) = 1 + f v + each_work f vs

-- steps of statements, a call counted as one
abbrev pub work : Calls → Env → PlainStmts → ℕ
work defs env no_stmt = 0
work defs env (stmt (assign x t) ss) = 1 + work defs ((x, eval defs env t) ∷ env) ss
work defs env (stmt (when t body) ss) = 2 + cond (truth_of (eval defs env t)) (work defs env body) 0 + work defs env ss
work defs env (stmt (each x t body) ss) = 3 + each_work (λ v. work defs ((x, v) ∷ env) body) (members_of (eval defs env t)) + work defs env ss
work defs env (stmt (emit t) ss) = 1 + work defs env ss
work defs env (stmt (call ts) ss) = 1 + work defs env ss

abbrev pub frames_work : Calls → Env → List PlainFrame → ℕ
frames_work defs env [] = 0
frames_work defs env (rest n ss ∷ fs) = 1 + work defs (kept n env) ss + frames_work defs (kept n env) fs
frames_work defs env (over n x vs ss ∷ fs) = 1 + each_work (λ v. work defs ((x, v) ∷ kept n env) ss) vs + frames_work defs (kept n env) fs
frames_work defs env (caller e ∷ fs) = 1 + frames_work defs e fs

abbrev pub machine_work : Calls → PlainMachine → ℕ
machine_work defs m = work defs m.env m.stmts + frames_work defs m.env m.frames

-- ---- a further name is not seen by what waits

module _ (p : PlainProgram) where
  abbrev defs : Calls
  defs = calls_of p.definitions

  do-under : (f : Procedure) (e : List ℕ × PlainValue) (env : Env) (fs : List PlainFrame) → FramesCanRun (setting_of p) env fs → frames_do defs f (e ∷ env) fs ≡ frames_do defs f env fs
  do-under f e env [] h = refl
  do-under f e env (rest n ss ∷ fs) h = ap (λ z. events defs f z ss ++ frames_do defs f z fs) (kept-more n e env h.0)
  do-under f e env (over n x vs ss ∷ fs) h = ap (λ z. flat_map (λ v. events defs f ((x, v) ∷ z) ss) vs ++ frames_do defs f z fs) (kept-more n e env h.0)
  do-under f e env (caller d ∷ fs) h = refl

  work-under : (e : List ℕ × PlainValue) (env : Env) (fs : List PlainFrame) → FramesCanRun (setting_of p) env fs → frames_work defs (e ∷ env) fs ≡ frames_work defs env fs
  work-under e env [] h = refl
  work-under e env (rest n ss ∷ fs) h = ap (λ z. 1 + work defs z ss + frames_work defs z fs) (kept-more n e env h.0)
  work-under e env (over n x vs ss ∷ fs) h = ap (λ z. 1 + each_work (λ v. work defs ((x, v) ∷ z) ss) vs + frames_work defs z fs) (kept-more n e env h.0)
  work-under e env (caller d ∷ fs) h = refl

  can-under : (e : List ℕ × PlainValue) (env : Env) (fs : List PlainFrame) → FramesCanRun (setting_of p) env fs → FramesCanRun (setting_of p) (e ∷ env) fs
  can-under e env [] h = tt
  can-under e env (rest n ss ∷ fs) h =
      let k = subst (λ z. CanRun (setting_of p) z ss × FramesCanRun (setting_of p) z fs) (sym (kept-more n e env h.0)) (h.1, h.2) in (omega (arith, h.0), k.0, k.1)
  can-under e env (over n x vs ss ∷ fs) h =
      let k = subst (λ z. CanRunOver (setting_of p) z x vs ss × FramesCanRun (setting_of p) z fs) (sym (kept-more n e env h.0)) (h.1, h.2) in (omega (arith, h.0), k.0, k.1)
  can-under e env (caller d ∷ fs) h = h

  -- ---- statements that wait

  do-keeping : (f : Procedure) (env : Env) (ss : PlainStmts) (fs : List PlainFrame) → frames_do defs f env (keeping (length env) ss fs) ≡ events defs f env ss ++ frames_do defs f env fs
  do-keeping f env no_stmt fs = refl
  do-keeping f env (stmt s ss) fs = ap (λ z. events defs f z (stmt s ss) ++ frames_do defs f z fs) (kept-all env)

  work-keeping : (env : Env) (ss : PlainStmts) (fs : List PlainFrame) → frames_work defs env (keeping (length env) ss fs) ≤ 1 + work defs env ss + frames_work defs env fs
  work-keeping env no_stmt fs = omega arith
  work-keeping env (stmt s ss) fs =
      let e : 1 + work defs (kept (length env) env) (stmt s ss) + frames_work defs (kept (length env) env) fs ≡ 1 + work defs env (stmt s ss) + frames_work defs env fs
      = ap (λ z. 1 + work defs z (stmt s ss) + frames_work defs z fs) (kept-all env) in
      omega (arith, e)

  can-keeping : (env : Env) (ss : PlainStmts) (fs : List PlainFrame) → CanRun (setting_of p) env ss → FramesCanRun (setting_of p) env fs → FramesCanRun (setting_of p) env (keeping (length env) ss fs)
  can-keeping env no_stmt fs c h = h
  can-keeping env (stmt s ss) fs c h =
      let k = subst (λ z. CanRun (setting_of p) z (stmt s ss) × FramesCanRun (setting_of p) z fs) (sym (kept-all env)) (c, h) in (omega arith, k.0, k.1)

  -- ---- values that wait

  do-overs : (f : Procedure) (env : Env) (n : ℕ) (x : List ℕ) (vs : List PlainValue) (ss : PlainStmts) (fs : List PlainFrame) → kept n env ≡ env
      → frames_do defs f env (overs n x vs ss fs) ≡ flat_map (λ v. events defs f ((x, v) ∷ env) ss) vs ++ frames_do defs f env fs
  do-overs f env n x [] ss fs e = refl
  do-overs f env n x (v ∷ vs) ss fs e = ap (λ z. flat_map (λ v. events defs f ((x, v) ∷ z) ss) (v ∷ vs) ++ frames_do defs f z fs) e

  work-overs : (env : Env) (n : ℕ) (x : List ℕ) (vs : List PlainValue) (ss : PlainStmts) (fs : List PlainFrame) → kept n env ≡ env
      → frames_work defs env (overs n x vs ss fs) ≤ 1 + each_work (λ v. work defs ((x, v) ∷ env) ss) vs + frames_work defs env fs
  work-overs env n x [] ss fs e = omega arith
  work-overs env n x (v ∷ vs) ss fs e =
      let q : 1 + each_work (λ v. work defs ((x, v) ∷ kept n env) ss) (v ∷ vs) + frames_work defs (kept n env) fs ≡ 1 + each_work (λ v. work defs ((x, v) ∷ env) ss) (v ∷ vs) + frames_work defs env fs
      = ap (λ z. 1 + each_work (λ v. work defs ((x, v) ∷ z) ss) (v ∷ vs) + frames_work defs z fs) e in
      omega (arith, q)

  can-overs : (env : Env) (n : ℕ) (x : List ℕ) (vs : List PlainValue) (ss : PlainStmts) (fs : List PlainFrame) → kept n env ≡ env → n ≤ length env → CanRunOver (setting_of p) env x vs ss
      → FramesCanRun (setting_of p) env fs → FramesCanRun (setting_of p) env (overs n x vs ss fs)
  can-overs env n x [] ss fs e le c h = h
  can-overs env n x (v ∷ vs) ss fs e le c h =
      let k = subst (λ z. CanRunOver (setting_of p) z x (v ∷ vs) ss × FramesCanRun (setting_of p) z fs) (sym e) (c, h) in (le, k.0, k.1)

  -- ---- a step

  abbrev pub Comes : PlainMachine → Move → Type 0
  Comes m (goes new) = ((f : Procedure) → doing defs f m ≡ doing defs f new) × MachineCanRun p new × (machine_work defs new < machine_work defs m)
  Comes m (finds v new) =
      ((f : Procedure) → doing defs f m ≡ found v ∷ doing defs f new) × MachineCanRun p new × (machine_work defs new < machine_work defs m) × (is_spelled_value v ≡ true)
  Comes m (calls vs new) = ((f : Procedure) → doing defs f m ≡ f vs ++ doing defs f new) × MachineCanRun p new × AreArguments p vs
  Comes m ends = (f : Procedure) → doing defs f m ≡ []

  can_nothing : (env : Env) → CanRun (setting_of p) env no_stmt
  can_nothing env = record { names = []; allowed = λ x s e. cc; fits = λ x s e. cc; obeys = refl }

  below-comes : (env : Env) (fs : List PlainFrame) → FramesCanRun (setting_of p) env fs → Comes (machine env no_stmt fs) (below env fs)
  below-comes env [] h = λ f. refl
  below-comes env (rest n ss ∷ fs) h = ((λ f. refl), (h.1, h.2), omega arith)
  below-comes env (over n x [] ss ∷ fs) h = ((λ f. refl), (can_nothing (kept n env), h.2), omega arith)
  below-comes env (over n x (v ∷ vs) ss ∷ fs) h =
      let k : Env = kept n env in
      let l : length k ≡ n = kept-length n env h.0 in
      let e : kept n k ≡ k = kept-few n k (omega (arith, l)) in
      let c : CanRunOver (setting_of p) k x vs ss
      = record { names = h.1.names; allowed = h.1.allowed; fits = h.1.fits; sort = h.1.sort; sort_allowed = h.1.sort_allowed; is_new = h.1.is_new; of_sort = h.1.of_sort.1; obeys = h.1.obeys } in
      let o : FramesCanRun (setting_of p) k (overs n x vs ss fs) = can-overs k n x vs ss fs e (omega (arith, l)) c h.2 in
      let w = work-under (x, v) k (overs n x vs ss fs) o in
      let u = work-overs k n x vs ss fs e in (
        (λ f. append_assoc (events defs f ((x, v) ∷ k) ss) (flat_map (λ v. events defs f ((x, v) ∷ k) ss) vs) (frames_do defs f k fs)
            ∙ ap (λ z. events defs f ((x, v) ∷ k) ss ++ z) (sym (do-under f (x, v) k (overs n x vs ss fs) o ∙ do-overs f k n x vs ss fs e))),
        (
          record {
            names = with_name h.1.names x h.1.sort;
            allowed = AreAllowed-end x h.1.sort h.1.names h.1.is_new h.1.sort_allowed h.1.allowed;
            fits = Fits-end x h.1.sort v h.1.names k h.1.is_new h.1.of_sort.0 h.1.fits;
            obeys = h.1.obeys;
          },
          can-under (x, v) k (overs n x vs ss fs) o,
        ),
        omega (arith, w, u),
      )
  below-comes env (caller e ∷ fs) h = ((λ f. refl), (can_nothing e, h), omega arith)

  when-comes : (env : Env) (body ss : PlainStmts) (fs : List PlainFrame) → CanRun (setting_of p) env body → CanRun (setting_of p) env ss → FramesCanRun (setting_of p) env fs → (b : Bool)
      → ((f : Procedure) → (cond b (events defs f env body) [] ++ events defs f env ss) ++ frames_do defs f env fs ≡ doing defs f (cond b (machine env body (keeping (length env) ss fs)) (machine env ss fs)))
      × MachineCanRun p (cond b (machine env body (keeping (length env) ss fs)) (machine env ss fs))
      × (machine_work defs (cond b (machine env body (keeping (length env) ss fs)) (machine env ss fs)) < 2 + cond b (work defs env body) 0 + work defs env ss + frames_work defs env fs)
  when-comes env body ss fs c d h true = (
    (λ f. append_assoc (events defs f env body) (events defs f env ss) (frames_do defs f env fs) ∙ ap (λ z. events defs f env body ++ z) (sym (do-keeping f env ss fs))),
    (c, can-keeping env ss fs d h),
    omega (arith, work-keeping env ss fs),
  )
  when-comes env body ss fs c d h false = ((λ f. refl), (d, h), omega arith)

  all-members : (a : PlainSort) (vs : List PlainValue) → Each (IsOfSort a) vs → AllOfSort a vs
  all-members a [] h = tt
  all-members a (v ∷ vs) h = (h.0, all-members a vs h.1)

  first-comes : IsRunnable p → (env : Env) (s : PlainStmt) (ss : PlainStmts) (fs : List PlainFrame) → CanRun (setting_of p) env (stmt s ss) → FramesCanRun (setting_of p) env fs
      → Comes (machine env (stmt s ss) fs) (first defs s (machine env ss fs))
  first-comes runs env (assign x t) ss fs c h =
      let r = binds_ok c.names x (sort_of p.definitions c.names t) (λ more. obey (setting_of p) more ss) c.obeys in
      let k = sorted_evaluates p.definitions c.names env t r.0 runs.sound c.allowed c.fits r.1 in
      let w = work-under (x, eval defs env t) env fs h in (
        (λ f. ap (λ z. events defs f ((x, eval defs env t) ∷ env) ss ++ z) (sym (do-under f (x, eval defs env t) env fs h))),
        (
          record {
            names = with_name c.names x r.0;
            allowed = AreAllowed-end x r.0 c.names r.2 k.sound.sort_allowed c.allowed;
            fits = Fits-end x r.0 (eval defs env t) c.names env r.2 k.sound.of_sort c.fits;
            obeys = r.3;
          },
          can-under (x, eval defs env t) env fs h,
        ),
        omega (arith, w),
      )
  first-comes runs env (when t body) ss fs c h =
      let q = and_parts (is_truth (sort_of p.definitions c.names t) && obey (setting_of p) c.names body) (obey (setting_of p) c.names ss) c.obeys in
      let r = and_parts (is_truth (sort_of p.definitions c.names t)) (obey (setting_of p) c.names body) q.0 in
      when-comes env body ss fs (record { names = c.names; allowed = c.allowed; fits = c.fits; obeys = r.1 }) (record { names = c.names; allowed = c.allowed; fits = c.fits; obeys = q.1 }) h
      (truth_of (eval defs env t))
  first-comes runs env (each x t body) ss fs c h =
      let q = and_parts (ranges c.names x (sort_of p.definitions c.names t) (λ more. obey (setting_of p) more body)) (obey (setting_of p) c.names ss) c.obeys in
      let r = ranges_ok c.names x (sort_of p.definitions c.names t) (λ more. obey (setting_of p) more body) q.0 in
      let k = sorted_evaluates p.definitions c.names env t (sets r.0) runs.sound c.allowed c.fits r.1 in
      let ms : List PlainValue = members_of (eval defs env t) in
      let o : CanRunOver (setting_of p) env x ms body
      = record {
        names = c.names;
        allowed = c.allowed;
        fits = c.fits;
        sort = r.0;
        sort_allowed = element_allowed r.0 k.sound.sort_allowed;
        is_new = r.2;
        of_sort = all-members r.0 ms (members_sound r.0 (eval defs env t) k.sound.of_sort).each;
        obeys = r.3;
      } in
      let d : CanRun (setting_of p) env ss = record { names = c.names; allowed = c.allowed; fits = c.fits; obeys = q.1 } in
      let n = can-keeping env ss fs d h in
      let w = work-overs env (length env) x ms body (keeping (length env) ss fs) (kept-all env) in
      let u = work-keeping env ss fs in (
        (λ f. append_assoc (flat_map (λ v. events defs f ((x, v) ∷ env) body) ms) (events defs f env ss) (frames_do defs f env fs)
            ∙ ap (λ z. flat_map (λ v. events defs f ((x, v) ∷ env) body) ms ++ z) (sym (do-keeping f env ss fs))
            ∙ sym (do-overs f env (length env) x ms body (keeping (length env) ss fs) (kept-all env))),
        (can_nothing env, can-overs env (length env) x ms body (keeping (length env) ss fs) (kept-all env) (omega arith) o n),
        omega (arith, w, u),
      )
  first-comes runs env (emit t) ss fs c h =
      let q = and_parts (is_within p.sort (sort_of p.definitions c.names t)) (obey (setting_of p) c.names ss) c.obeys in
      let r = is_within_ok p.sort (sort_of p.definitions c.names t) q.0 in
      let k = sorted_evaluates p.definitions c.names env t r.0 runs.sound c.allowed c.fits r.1 in (
        (λ f. refl),
        (record { names = c.names; allowed = c.allowed; fits = c.fits; obeys = q.1 }, h),
        omega arith,
        sorted-spelled p.sort (eval defs env t) runs.spelled (has_sort-subsort r.0 p.sort (eval defs env t) r.2 k.sound.of_sort.has),
      )
  first-comes runs env (call ts) ss fs c h =
      let q = and_parts (call_fits (Some p.parameters) (sorts_of p.definitions c.names ts)) (obey (setting_of p) c.names ss) c.obeys in
      let r = call_fits_ok p.parameters (sorts_of p.definitions c.names ts) q.0 in
      let k = terms-evaluate p.definitions c.names env ts r.0 runs.sound c.allowed c.fits r.1 in (
        (λ f. append_assoc (f (evals defs env (term_row ts))) (events defs f env ss) (frames_do defs f env fs)),
        (record { names = c.names; allowed = c.allowed; fits = c.fits; obeys = q.1 }, h),
        parameters-fit p.parameters r.0 (evals defs env (term_row ts)) r.2 k.of_sorts,
      )

  pub step-comes : IsRunnable p → (m : PlainMachine) → MachineCanRun p m → Comes m (step defs m)
  step-comes runs m h = by m.stmts h.0
    where
      by : (ss : PlainStmts) → CanRun (setting_of p) m.env ss → Comes (machine m.env ss m.frames) (step_at defs m.env ss m.frames)
      by no_stmt c = below-comes m.env m.frames h.1
      by (stmt s ss) c = first-comes runs m.env s ss m.frames c h.1

  -- ---- terms that are evaluated

  pub assign-small : IsRunnable p → (env : Env) (x : List ℕ) (t : PlainTerm) (ss : PlainStmts) → CanRun (setting_of p) env (stmt (assign x t) ss) → StaysSmall p.definitions env t
  assign-small runs env x t ss c =
      let r = binds_ok c.names x (sort_of p.definitions c.names t) (λ more. obey (setting_of p) more ss) c.obeys in
      (sorted_evaluates p.definitions c.names env t r.0 runs.sound c.allowed c.fits r.1).stays

  pub when-small : IsRunnable p → (env : Env) (t : PlainTerm) (body ss : PlainStmts) → CanRun (setting_of p) env (stmt (when t body) ss) → StaysSmall p.definitions env t
  when-small runs env t body ss c =
      let q = and_parts (is_truth (sort_of p.definitions c.names t) && obey (setting_of p) c.names body) (obey (setting_of p) c.names ss) c.obeys in
      let r = and_parts (is_truth (sort_of p.definitions c.names t)) (obey (setting_of p) c.names body) q.0 in
      (sorted_evaluates p.definitions c.names env t bools runs.sound c.allowed c.fits (is_truth_ok (sort_of p.definitions c.names t) r.0)).stays

  pub each-small : IsRunnable p → (env : Env) (x : List ℕ) (t : PlainTerm) (body ss : PlainStmts) → CanRun (setting_of p) env (stmt (each x t body) ss) → StaysSmall p.definitions env t
  each-small runs env x t body ss c =
      let q = and_parts (ranges c.names x (sort_of p.definitions c.names t) (λ more. obey (setting_of p) more body)) (obey (setting_of p) c.names ss) c.obeys in
      let r = ranges_ok c.names x (sort_of p.definitions c.names t) (λ more. obey (setting_of p) more body) q.0 in
      (sorted_evaluates p.definitions c.names env t (sets r.0) runs.sound c.allowed c.fits r.1).stays

  pub emit-small : IsRunnable p → (env : Env) (t : PlainTerm) (ss : PlainStmts) → CanRun (setting_of p) env (stmt (emit t) ss) → StaysSmall p.definitions env t
  emit-small runs env t ss c =
      let q = and_parts (is_within p.sort (sort_of p.definitions c.names t)) (obey (setting_of p) c.names ss) c.obeys in
      let r = is_within_ok p.sort (sort_of p.definitions c.names t) q.0 in
      (sorted_evaluates p.definitions c.names env t r.0 runs.sound c.allowed c.fits r.1).stays

  pub call-small : IsRunnable p → (env : Env) (ts : List PlainTerm) (ss : PlainStmts) → CanRun (setting_of p) env (stmt (call ts) ss)
      → all_stay_small (calls_of p.definitions) (checks_of p.definitions) env (term_row ts) ≡ true
  call-small runs env ts ss c =
      let q = and_parts (call_fits (Some p.parameters) (sorts_of p.definitions c.names ts)) (obey (setting_of p) c.names ss) c.obeys in
      let r = call_fits_ok p.parameters (sorts_of p.definitions c.names ts) q.0 in
      (terms-evaluate p.definitions c.names env ts r.0 runs.sound c.allowed c.fits r.1).stay

  pub condition-small : IsRunnable p → (env : Env) → Fits p.inputs env → StaysSmall p.definitions env p.condition
  condition-small runs env h = (sorted_evaluates p.definitions p.inputs env p.condition bools runs.sound runs.inputs_allowed h runs.condition).stays

  -- ---- a call, and the start

  do-waiting : (f : Procedure) (new env : Env) (fs : List PlainFrame) → frames_do defs f new (waiting env fs) ≡ frames_do defs f env fs
  do-waiting f new env [] = refl
  do-waiting f new env (rest n ss ∷ fs) = refl
  do-waiting f new env (over n x vs ss ∷ fs) = refl
  do-waiting f new env (caller e ∷ fs) = refl

  can-waiting : (new env : Env) (fs : List PlainFrame) → FramesCanRun (setting_of p) env fs → FramesCanRun (setting_of p) new (waiting env fs)
  can-waiting new env [] h = tt
  can-waiting new env (rest n ss ∷ fs) h = h
  can-waiting new env (over n x vs ss ∷ fs) h = h
  can-waiting new env (caller e ∷ fs) h = h

  -- a call does what the search procedure does, and then what is still done
  pub entered-does : (f : Procedure) (x : Env) (vs : List PlainValue) (m : PlainMachine) → doing defs f (entered p x vs m) ≡ events defs f (search_env p x vs) p.search ++ doing defs f m
  entered-does f x vs m =
      ap (λ z. events defs f (search_env p x vs) p.search ++ z)
      (do-waiting f (search_env p x vs) m.env (keeping (length m.env) m.stmts m.frames) ∙ do-keeping f m.env m.stmts m.frames)

  pub entered-can : IsRunnable p → (x : Env) (vs : List PlainValue) (m : PlainMachine) → Fits p.inputs x → AreArguments p vs → MachineCanRun p m → MachineCanRun p (entered p x vs m)
  entered-can runs x vs m hx hv h = (
    record {
      names = search_scope p;
      allowed = AreAllowed-inside p.parameters p.inputs runs.parameters_allowed runs.inputs_allowed;
      fits = Fits-inside p.parameters vs p.inputs x hv.0 hv.1 hx;
      obeys = runs.search;
    },
    can-waiting (search_env p x vs) m.env (keeping (length m.env) m.stmts m.frames) (can-keeping m.env m.stmts m.frames h.0 h.1),
  )

  pub start-can : IsRunnable p → (x : Env) → Fits p.inputs x → MachineCanRun p (machine x p.main [])
  start-can runs x h = (record { names = p.inputs; allowed = runs.inputs_allowed; fits = h; obeys = runs.main }, tt)
