-- How the logic stores a statement.
use Rattle.std.specs.Prelude.{◌≡◌, ℕ, List, refl}
use Rattle.std.proofs.Common.{ap}
use Rattle.std.specs.Coded.{Coded, coded_list}
use base.Stored.{Gv, gnil, gcons}
use Rattle.kid_value.specs.SortCode.{left_of, right_of, mark}
use Rattle.kid_term.specs.TermCode.{coded_name, coded_term, coded_terms}
use Rattle.kid_prog.specs.PlainStmt.{PlainStmt, assign, when, each, emit, call, PlainStmts, no_stmt, stmt, stmts_depth, stmt_row}

abbrev mutual
  pub stmt_code : PlainStmt → Gv
  stmt_code (assign x t) = gcons (mark 0) (gcons (coded_name.code x) (coded_term.code t))
  stmt_code (when t ss) = gcons (mark 1) (gcons (coded_term.code t) (stmt_codes ss))
  stmt_code (each x t ss) = gcons (mark 2) (gcons (coded_name.code x) (gcons (coded_term.code t) (stmt_codes ss)))
  stmt_code (emit t) = gcons (mark 3) (coded_term.code t)
  stmt_code (call ts) = gcons (mark 4) (coded_terms.code ts)

  pub stmt_codes : PlainStmts → Gv
  stmt_codes no_stmt = gnil
  stmt_codes (stmt s ss) = gcons (stmt_code s) (stmt_codes ss)

mutual
  pub stmt_inj : (s t : PlainStmt) → stmt_code s ≡ stmt_code t → s ≡ t
  stmt_inj (assign x t) (assign y u) p =
      let e = coded_name.inj x y (ap (λ z. left_of (right_of z)) p) in
      let f = coded_term.inj t u (ap (λ z. right_of (right_of z)) p) in
      λ i. assign (e i) (f i)
  stmt_inj (when t ss) (when u rs) p =
      let e = coded_term.inj t u (ap (λ z. left_of (right_of z)) p) in
      let f = stmts_inj ss rs (ap (λ z. right_of (right_of z)) p) in
      λ i. when (e i) (f i)
  stmt_inj (each x t ss) (each y u rs) p =
      let e = coded_name.inj x y (ap (λ z. left_of (right_of z)) p) in
      let f = coded_term.inj t u (ap (λ z. left_of (right_of (right_of z))) p) in
      let g = stmts_inj ss rs (ap (λ z. right_of (right_of (right_of z))) p) in
      λ i. each (e i) (f i) (g i)
  stmt_inj (emit t) (emit u) p = ap emit (coded_term.inj t u (ap right_of p))
  stmt_inj (call ts) (call us) p = ap call (coded_terms.inj ts us (ap right_of p))
  stmt_inj s t p = cc

  pub stmts_inj : (ss ts : PlainStmts) → stmt_codes ss ≡ stmt_codes ts → ss ≡ ts
  stmts_inj no_stmt no_stmt p = refl
  stmts_inj (stmt s ss) (stmt t ts) p = let e = stmt_inj s t (ap left_of p) in let f = stmts_inj ss ts (ap right_of p) in λ i. stmt (e i) (f i)
  stmts_inj ss ts p = cc

abbrev pub coded_stmt : Coded PlainStmt
coded_stmt = record { code = stmt_code; inj = stmt_inj }

abbrev pub coded_stmts : Coded (List PlainStmt)
coded_stmts = coded_list coded_stmt

-- the depth of a list
abbrev pub list_depth : List PlainStmt → ℕ
list_depth ss = stmts_depth (stmt_row ss)
