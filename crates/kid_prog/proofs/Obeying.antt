-- Statements that meet the rules one after another.
use Rattle.std.proofs.Common.{◌≡◌, ℕ, ◌+◌, ◌<◌, ◌≤◌, Bool, true, false, not, ◌&&◌, if◌then◌else◌, List, ◌∷◌, length, get_or, drop, map, Option, Some, None, Ok, Err, refl, sym, ap, ◌∙◌, arith, subst}
use Rattle.std.proofs.lemmas.List.{drop_all}
use Rattle.kid_value.specs.PlainSort.{never, bools, ints, pairs, sets, seqs, maps, enums}
use Rattle.kid_term.specs.Names.{Names, is_named}
use Rattle.kid_term.specs.Sorted.{Sorted}
use Rattle.kid_term.specs.Sorting.{sort_of}
use Rattle.kid_sorting.specs.Declaring.{is_within, with_name}
use Rattle.kid_codec.proofs.Each.{cons_at}
use Rattle.kid_prog.specs.PlainStmt.{PlainStmt, assign, when, each, emit, call, PlainStmts, stmt, stmt_depth, stmts_depth, stmt_row}
use Rattle.kid_prog.specs.StmtView.{plain_stmt}
use Rattle.kid_prog.specs.declared.statement.Stmt.{Stmt}
use Rattle.kid_prog.specs.Rules.{Setting, sorts_of, call_fits, binds, ranges, obey}
use Rattle.kid_prog.specs.Steps.{bound, ranged, held, if_obeys, for_obeys, kept, step}

-- a test of the names after a new one
new-held : (b : Bool) (more : Names) (test : Names → Bool) → (not b && test more) ≡ held (if b then None else Some more) test
new-held true more test = refl
new-held false more test = refl

binds-held : (names : Names) (x : List ℕ) (r : Sorted) (test : Names → Bool) → binds names x r test ≡ held (bound names x r) test
binds-held names x (Ok s) test = new-held (is_named x names) (with_name names x s) test
binds-held names x (Err fault) test = refl

ranges-held : (names : Names) (x : List ℕ) (r : Sorted) (test : Names → Bool) → ranges names x r test ≡ held (ranged names x r) test
ranges-held names x (Ok never) test = refl
ranges-held names x (Ok bools) test = refl
ranges-held names x (Ok (ints lo hi)) test = refl
ranges-held names x (Ok (pairs a b)) test = refl
ranges-held names x (Ok (sets a)) test = new-held (is_named x names) (with_name names x a) test
ranges-held names x (Ok (seqs a n)) test = refl
ranges-held names x (Ok (maps a b)) test = refl
ranges-held names x (Ok (enums ns)) test = refl
ranges-held names x (Err fault) test = refl

kept-held : (b : Bool) (names : Names) (test : Names → Bool) → (b && test names) ≡ held (kept names b) test
kept-held true names test = refl
kept-held false names test = refl

-- the first statement, and then the others over the names after it
pub obey-first : (g : Setting) (names : Names) (s : PlainStmt) (ss : PlainStmts) → obey g names (stmt s ss) ≡ held (step g names s) (λ more. obey g more ss)
obey-first g names (assign x t) ss = binds-held names x (sort_of g.definitions names t) (λ more. obey g more ss)
obey-first g names (when t body) ss = kept-held (if_obeys g names t body) names (λ more. obey g more ss)
obey-first g names (each x t body) ss =
    ap (λ b. b && obey g names ss) (ranges-held names x (sort_of g.definitions names t) (λ more. obey g more body))
    ∙ kept-held (for_obeys g names x t body) names (λ more. obey g more ss)
obey-first g names (emit t) ss = kept-held (is_within g.sort (sort_of g.definitions names t)) names (λ more. obey g more ss)
obey-first g names (call ts) ss = kept-held (call_fits g.parameters (sorts_of g.definitions names ts)) names (λ more. obey g more ss)

obey-front : (g : Setting) (names : Names) (xs : List Stmt) (i : ℕ) (item : Stmt) → i < length xs → item ≡ get_or xs i item
    → obey g names (stmt_row (map plain_stmt (drop i xs))) ≡ held (step g names (plain_stmt item)) (λ more. obey g more (stmt_row (map plain_stmt (drop (i + 1) xs))))
obey-front g names xs i item within is =
    ap (λ (ys : List Stmt). obey g names (stmt_row (map plain_stmt ys))) (cons_at xs i item within is)
    ∙ obey-first g names (plain_stmt item) (stmt_row (map plain_stmt (drop (i + 1) xs)))

pub obey-next : (g : Setting) (names more : Names) (xs : List Stmt) (i : ℕ) (item : Stmt) (total : Bool) → i < length xs → item ≡ get_or xs i item
    → Some more ≡ step g names (plain_stmt item) → obey g names (stmt_row (map plain_stmt (drop i xs))) ≡ total → obey g more (stmt_row (map plain_stmt (drop (i + 1) xs))) ≡ total
obey-next g names more xs i item total within is stands told =
    ap (λ (o : Option Names). held o (λ ns. obey g ns (stmt_row (map plain_stmt (drop (i + 1) xs))))) stands
    ∙ sym (obey-front g names xs i item within is) ∙ told

pub obey-refused : (g : Setting) (names : Names) (xs : List Stmt) (i : ℕ) (item : Stmt) (total : Bool) → i < length xs → item ≡ get_or xs i item
    → None ≡ step g names (plain_stmt item) → obey g names (stmt_row (map plain_stmt (drop i xs))) ≡ total → false ≡ total
obey-refused g names xs i item total within is falls told =
    ap (λ (o : Option Names). held o (λ ns. obey g ns (stmt_row (map plain_stmt (drop (i + 1) xs))))) falls
    ∙ sym (obey-front g names xs i item within is) ∙ told

pub obey-end : (g : Setting) (names : Names) (xs : List Stmt) (i : ℕ) (total : Bool) → length xs ≤ i
    → obey g names (stmt_row (map plain_stmt (drop i xs))) ≡ total → true ≡ total
obey-end g names xs i total over told =
    sym (ap (λ (ys : List Stmt). obey g names (stmt_row (map plain_stmt ys))) (drop_all i xs over)) ∙ told

-- the depth of what is left
pub depth-next : (xs : List Stmt) (i : ℕ) (item : Stmt) (n : ℕ) → i < length xs → item ≡ get_or xs i item
    → stmts_depth (stmt_row (map plain_stmt (drop i xs))) ≤ n → stmts_depth (stmt_row (map plain_stmt (drop (i + 1) xs))) ≤ n
depth-next xs i item n within is le =
    let cut : stmts_depth (stmt_row (map plain_stmt (item ∷ drop (i + 1) xs))) ≤ n = subst (λ (ys : List Stmt). stmts_depth (stmt_row (map plain_stmt ys)) ≤ n) (cons_at xs i item within is) le in
    omega arith

pub depth-item : (xs : List Stmt) (i : ℕ) (item : Stmt) (n : ℕ) → i < length xs → item ≡ get_or xs i item
    → stmts_depth (stmt_row (map plain_stmt (drop i xs))) ≤ n → stmt_depth (plain_stmt item) ≤ n
depth-item xs i item n within is le =
    let cut : stmts_depth (stmt_row (map plain_stmt (item ∷ drop (i + 1) xs))) ≤ n = subst (λ (ys : List Stmt). stmts_depth (stmt_row (map plain_stmt ys)) ≤ n) (cons_at xs i item within is) le in
    omega arith
