-- The trees of names, sorts and statements read back to them.
use Rattle.std.proofs.Common.{◌≡◌, ℕ, Bool, true, List, [], ◌∷◌, Some, None, refl, ap, ◌∙◌}
use Rattle.std.specs.Prelude.{◌&&◌, option_map, if◌then◌else◌}
use Rattle.std.specs.List.{list_all}
use Rattle.kid_value.specs.PlainSort.{PlainSort}
use Rattle.kid_value.specs.SortOrder.{both}
use Rattle.kid_value.proofs.SortLemmas.{and_parts}
use Rattle.kid_term.specs.Names.{Names}
use Rattle.kid_term.specs.PlainTerm.{PlainTerm, terms, term_row}
use Rattle.kid_codec.specs.Name.{is_name}
use Rattle.kid_codec.specs.Reading.{◌>>=◌}
use Rattle.kid_codec.specs.SortSpelling.{is_spelled_sort}
use Rattle.kid_codec.specs.TermSpelling.{is_spelled_term}
use Rattle.kid_codec.proofs.SortBack.{spelled_parts}
use Rattle.kid_codec.proofs.TermBack.{term_back, terms_back}
use Rattle.kid_prog.specs.Forms.{named_pair, spelled_names}
use Rattle.kid_prog.specs.PlainStmt.{PlainStmt, assign, when, each, emit, call, PlainStmts, no_stmt, stmt}
use Rattle.kid_prog.specs.Spelling.{stmt_spelling, stmt_spellings, named_spelling, names_spelling, is_spelled_stmt, are_spelled_stmts, is_spelled_name}
use Rattle.kid_prog.specs.StmtShape.{spelled_stmt, spelled_stmts}

name_read : (x : List ℕ) → is_name x ≡ true → (if is_name x then Some x else None) ≡ Some x
name_read x h = ap (λ (b : Bool). if b then Some x else None) h

pub named_back : (n : List ℕ × PlainSort) → is_spelled_name n ≡ true → named_pair (named_spelling n) ≡ Some n
named_back n h =
    let r = and_parts (is_name n.0) (is_spelled_sort n.1) h in
    let p = name_read n.0 r.0 in
    let q = (spelled_parts n.1 r.1).1 in
    λ i. both (λ name sort. (name, sort)) (p i) (q i)

pub names_back : (ns : Names) → list_all is_spelled_name ns ≡ true → spelled_names (names_spelling ns) ≡ Some ns
names_back [] h = refl
names_back (n ∷ ns) h =
    let r = and_parts (is_spelled_name n) (list_all is_spelled_name ns) h in
    let p = named_back n r.0 in
    let q = names_back ns r.1 in
    λ i. both (λ m ms. m ∷ ms) (p i) (q i)

row_terms : (ts : List PlainTerm) → terms (term_row ts) ≡ ts
row_terms [] = refl
row_terms (t ∷ ts) = ap (λ (l : List PlainTerm). t ∷ l) (row_terms ts)

mutual
  pub stmt_back : (s : PlainStmt) → is_spelled_stmt s ≡ true → spelled_stmt (stmt_spelling s) ≡ Some s
  stmt_back (assign x t) h =
      let r = and_parts (is_name x) (is_spelled_term t) h in
      let p = name_read x r.0 in
      let q = term_back t r.1 in
      λ i. both assign (p i) (q i)
  stmt_back (when t ss) h =
      let r = and_parts (is_spelled_term t) (are_spelled_stmts ss) h in
      let p = term_back t r.0 in
      let q = stmts_back ss r.1 in
      λ i. both when (p i) (q i)
  stmt_back (each x t ss) h =
      let r = and_parts (is_name x && is_spelled_term t) (are_spelled_stmts ss) h in
      let n = and_parts (is_name x) (is_spelled_term t) r.0 in
      let o = name_read x n.0 in
      let p = term_back t n.1 in
      let q = stmts_back ss r.1 in
      λ i. o i >>= λ name. both (each name) (p i) (q i)
  stmt_back (emit t) h = ap (option_map emit) (term_back t h)
  stmt_back (call ts) h = ap (option_map call) (terms_back (term_row ts) h ∙ ap (λ (l : List PlainTerm). Some l) (row_terms ts))

  pub stmts_back : (ss : PlainStmts) → are_spelled_stmts ss ≡ true → spelled_stmts (stmt_spellings ss) ≡ Some ss
  stmts_back no_stmt h = refl
  stmts_back (stmt s ss) h =
      let r = and_parts (is_spelled_stmt s) (are_spelled_stmts ss) h in
      let p = stmt_back s r.0 in
      let q = stmts_back ss r.1 in
      λ i. both stmt (p i) (q i)
