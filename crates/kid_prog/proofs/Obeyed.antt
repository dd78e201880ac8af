-- Statements that meet the rules cast to allowed sorts alone.
use Rattle.std.proofs.Common.{◌≡◌, Bool, true, List, Option, Some, None, Result, Ok, Err, refl}
use Rattle.std.specs.Prelude.{ℕ, not, ◌&&◌}
use Rattle.kid_value.specs.PlainSort.{PlainSort, sets, bools}
use Rattle.kid_value.proofs.SortLemmas.{and_parts, and_both}
use Rattle.kid_term.specs.Names.{Names, is_named}
use Rattle.kid_term.specs.PlainTerm.{term_row}
use Rattle.kid_term.specs.Sorted.{Fault, Sorted}
use Rattle.kid_term.specs.Sorting.{sort_of}
use Rattle.kid_sorting.specs.Declaring.{is_truth, is_within, with_name}
use Rattle.kid_codec.specs.TermSpelling.{casts_are_allowed, all_casts_are_allowed}
use Rattle.kid_prog.specs.PlainStmt.{PlainStmt, assign, when, each, emit, call, PlainStmts, no_stmt, stmt}
use Rattle.kid_prog.specs.Rules.{Setting, sorts_of, call_fits, binds, ranges, obey}
use Rattle.kid_prog.proofs.Casts.{sorted_casts, all_sorted_casts, truth_sorted}

-- whether each sort that a statement's terms cast to is allowed
abbrev mutual
  pub stmt_casts : PlainStmt → Bool
  stmt_casts (assign x t) = casts_are_allowed t
  stmt_casts (when t ss) = casts_are_allowed t && stmts_cast ss
  stmt_casts (each x t ss) = casts_are_allowed t && stmts_cast ss
  stmt_casts (emit t) = casts_are_allowed t
  stmt_casts (call ts) = all_casts_are_allowed (term_row ts)

  pub stmts_cast : PlainStmts → Bool
  stmts_cast no_stmt = true
  stmts_cast (stmt s ss) = stmt_casts s && stmts_cast ss

bound : (names : Names) (x : List ℕ) (r : Sorted) (rest : Names → Bool) → binds names x r rest ≡ true → (s : PlainSort) × (r ≡ Ok s) × (rest (with_name names x s) ≡ true)
bound names x (Ok s) rest h = (s, refl, (and_parts (not (is_named x names)) (rest (with_name names x s)) h).1)
bound names x (Err fault) rest h = cc

ranged : (names : Names) (x : List ℕ) (r : Sorted) (body : Names → Bool) → ranges names x r body ≡ true → (a : PlainSort) × (r ≡ Ok (sets a)) × (body (with_name names x a) ≡ true)
ranged names x (Ok (sets a)) body h = (a, refl, (and_parts (not (is_named x names)) (body (with_name names x a)) h).1)
ranged names x r body h = cc

emitted : (s : PlainSort) (r : Sorted) → is_within s r ≡ true → (a : PlainSort) × (r ≡ Ok a)
emitted s (Ok a) h = (a, refl)
emitted s (Err fault) h = cc

called : (ps : Option Names) (r : Result (List PlainSort) Fault) → call_fits ps r ≡ true → (ss : List PlainSort) × (r ≡ Ok ss)
called ps (Ok ss) h = (ss, refl)
called None (Err fault) h = cc
called (Some ps) (Err fault) h = cc

pub obey_casts : (g : Setting) (names : Names) (ss : PlainStmts) → obey g names ss ≡ true → stmts_cast ss ≡ true
obey_casts g names no_stmt h = refl
obey_casts g names (stmt (assign x t) ss) h =
    let r = bound names x (sort_of g.definitions names t) (λ more. obey g more ss) h in
    and_both (casts_are_allowed t) (stmts_cast ss) (sorted_casts g.definitions names t r.0 r.1) (obey_casts g (with_name names x r.0) ss r.2)
obey_casts g names (stmt (when t body) ss) h =
    let r = and_parts (is_truth (sort_of g.definitions names t) && obey g names body) (obey g names ss) h in
    let q = and_parts (is_truth (sort_of g.definitions names t)) (obey g names body) r.0 in
    and_both (casts_are_allowed t && stmts_cast body) (stmts_cast ss)
    (and_both (casts_are_allowed t) (stmts_cast body) (sorted_casts g.definitions names t bools (truth_sorted (sort_of g.definitions names t) q.0)) (obey_casts g names body q.1))
    (obey_casts g names ss r.1)
obey_casts g names (stmt (each x t body) ss) h =
    let r = and_parts (ranges names x (sort_of g.definitions names t) (λ more. obey g more body)) (obey g names ss) h in
    let q = ranged names x (sort_of g.definitions names t) (λ more. obey g more body) r.0 in
    and_both (casts_are_allowed t && stmts_cast body) (stmts_cast ss)
    (and_both (casts_are_allowed t) (stmts_cast body) (sorted_casts g.definitions names t (sets q.0) q.1) (obey_casts g (with_name names x q.0) body q.2))
    (obey_casts g names ss r.1)
obey_casts g names (stmt (emit t) ss) h =
    let r = and_parts (is_within g.sort (sort_of g.definitions names t)) (obey g names ss) h in
    let q = emitted g.sort (sort_of g.definitions names t) r.0 in
    and_both (casts_are_allowed t) (stmts_cast ss) (sorted_casts g.definitions names t q.0 q.1) (obey_casts g names ss r.1)
obey_casts g names (stmt (call ts) ss) h =
    let r = and_parts (call_fits g.parameters (sorts_of g.definitions names ts)) (obey g names ss) h in
    let q = called g.parameters (sorts_of g.definitions names ts) r.0 in
    and_both (all_casts_are_allowed (term_row ts)) (stmts_cast ss) (all_sorted_casts g.definitions names ts q.0 q.1) (obey_casts g names ss r.1)
