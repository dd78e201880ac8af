-- A tree that has the shape of a statement is the tree of that statement.
use Rattle.std.proofs.Common.{◌≡◌, inl, inr, ℕ, true, List, Some, None, refl, sym, ap, ◌∙◌, subst}
use Rattle.std.specs.Prelude.{◌&&◌, option_map, if◌then◌else◌, codes}
use Rattle.std.specs.Str.{bytes_eq}
use Rattle.kid_sexp.specs.Plain.{Plain, Plains, atom, list, none, more, one}
use Rattle.kid_value.specs.SortOrder.{both}
use Rattle.kid_value.proofs.SortLemmas.{and_parts, and_both}
use Rattle.kid_term.specs.PlainTerm.{PlainTerm}
use Rattle.kid_codec.specs.Name.{is_name}
use Rattle.kid_codec.specs.Reading.{◌>>=◌}
use Rattle.kid_codec.specs.Shape.{single, couple}
use Rattle.kid_codec.specs.NameSpelling.{spelled_name}
use Rattle.kid_codec.specs.TermSpelling.{is_spelled_term, casts_are_allowed, spelled_term, spelled_terms}
use Rattle.kid_codec.proofs.Found.{same_some, if_some, if_else, mapped, both_some, bind_some}
use Rattle.kid_codec.proofs.Numbers.{bytes_eq-true}
use Rattle.kid_codec.proofs.ShapeTold.{single_told, couple_told}
use Rattle.kid_codec.proofs.TermTold.{name_told, term_told}
use Rattle.kid_prog.specs.PlainStmt.{PlainStmt, assign, when, each, emit, call, PlainStmts, no_stmt, stmt}
use Rattle.kid_prog.specs.Spelling.{stmt_spelling, stmt_spellings, is_spelled_stmt, are_spelled_stmts}
use Rattle.kid_prog.specs.StmtShape.{spelled_let, spelled_emit, spelled_call, stmt_of_word, spelled_stmt, spelled_stmts, spelled_if, spelled_for}
use Rattle.kid_prog.proofs.FormTold.{terms_told}
use Rattle.kid_prog.proofs.Obeyed.{stmt_casts, stmts_cast}

pub record StmtTold (t : Plain) (s : PlainStmt) : Type 0 where
  pub tree : t ≡ stmt_spelling s
  pub spelled : is_spelled_stmt s ≡ true

pub record StmtsTold (ts : Plains) (ss : PlainStmts) : Type 0 where
  pub trees : ts ≡ stmt_spellings ss
  pub spelled : are_spelled_stmts ss ≡ true

-- a list that begins with the word
abbrev after : List ℕ → Plains → Plain
after w ts = list (more (atom w) ts)

let_told : (ts : Plains) (s : PlainStmt) → spelled_let ts ≡ Some s → stmt_casts s ≡ true → StmtTold (after (codes "let") ts) s
let_told ts s p h =
    let c = bind_some (couple ts) (λ (q : Plain × Plain). both assign (spelled_name q.0) (spelled_term q.1)) s p in
    let m = both_some assign (spelled_name c.0.0) (spelled_term c.0.1) s c.2 in
    let x : List ℕ = m.0 in
    let u : PlainTerm = m.1 in
    let n = name_told c.0.0 x m.2 in
    let k = term_told c.0.1 u m.3 (ap stmt_casts m.4 ∙ h) in
    let d = n.0 in
    let e = k.tree in
    let is = couple_told ts c.0 c.1 ∙ (λ i. more (d i) (one (e i))) in
    subst (StmtTold (after (codes "let") ts)) m.4
    (record { tree = ap (after (codes "let")) is; spelled = and_both (is_name x) (is_spelled_term u) n.1 k.spelled })

emit_told : (ts : Plains) (s : PlainStmt) → spelled_emit ts ≡ Some s → stmt_casts s ≡ true → StmtTold (after (codes "emit") ts) s
emit_told ts s p h =
    let c = bind_some (single ts) (λ (t : Plain). option_map emit (spelled_term t)) s p in
    let m = mapped emit (spelled_term c.0) s c.2 in
    let k = term_told c.0 m.0 m.1 (ap stmt_casts m.2 ∙ h) in
    let is = single_told ts c.0 c.1 ∙ ap one k.tree in
    subst (StmtTold (after (codes "emit") ts)) m.2 (record { tree = ap (after (codes "emit")) is; spelled = k.spelled })

call_told : (ts : Plains) (s : PlainStmt) → spelled_call ts ≡ Some s → stmt_casts s ≡ true → StmtTold (after (codes "call") ts) s
call_told ts s p h =
    let m = mapped call (spelled_terms ts) s p in
    let k = terms_told ts m.0 m.1 (ap stmt_casts m.2 ∙ h) in
    subst (StmtTold (after (codes "call") ts)) m.2 (record { tree = ap (after (codes "call")) k.trees; spelled = k.spelled })

-- what a part of a list tells
abbrev TellsStmts : Plains → Type 0
TellsStmts ts = (ss : PlainStmts) → spelled_stmts ts ≡ Some ss → stmts_cast ss ≡ true → StmtsTold ts ss

abbrev TellsIf : Plains → Type 0
TellsIf ts = (s : PlainStmt) → spelled_if ts ≡ Some s → stmt_casts s ≡ true → StmtTold (after (codes "if") ts) s

abbrev TellsFor : Plains → Type 0
TellsFor ts = (s : PlainStmt) → spelled_for ts ≡ Some s → stmt_casts s ≡ true → StmtTold (after (codes "for") ts) s

when_told : (t : Plain) (ts : Plains) (s : PlainStmt) → TellsStmts ts → both when (spelled_term t) (spelled_stmts ts) ≡ Some s → stmt_casts s ≡ true → StmtTold (after (codes "if") (more t ts)) s
when_told t ts s f p h =
    let m = both_some when (spelled_term t) (spelled_stmts ts) s p in
    let u : PlainTerm = m.0 in
    let ss : PlainStmts = m.1 in
    let r = and_parts (casts_are_allowed u) (stmts_cast ss) (ap stmt_casts m.4 ∙ h) in
    let j = term_told t u m.2 r.0 in
    let k = f ss m.3 r.1 in
    let d = j.tree in
    let e = k.trees in
    subst (StmtTold (after (codes "if") (more t ts))) m.4
    (record { tree = λ i. after (codes "if") (more (d i) (e i)); spelled = and_both (is_spelled_term u) (are_spelled_stmts ss) j.spelled k.spelled })

each_told : (x t : Plain) (ts : Plains) (s : PlainStmt) → TellsStmts ts → (spelled_name x >>= λ name. both (each name) (spelled_term t) (spelled_stmts ts)) ≡ Some s → stmt_casts s ≡ true
    → StmtTold (after (codes "for") (more x (more t ts))) s
each_told x t ts s f p h =
    let n = bind_some (spelled_name x) (λ (name : List ℕ). both (each name) (spelled_term t) (spelled_stmts ts)) s p in
    let y : List ℕ = n.0 in
    let m = both_some (each y) (spelled_term t) (spelled_stmts ts) s n.2 in
    let u : PlainTerm = m.0 in
    let ss : PlainStmts = m.1 in
    let r = and_parts (casts_are_allowed u) (stmts_cast ss) (ap stmt_casts m.4 ∙ h) in
    let i = name_told x y n.1 in
    let j = term_told t u m.2 r.0 in
    let k = f ss m.3 r.1 in
    let c = i.0 in
    let d = j.tree in
    let e = k.trees in
    subst (StmtTold (after (codes "for") (more x (more t ts)))) m.4
    (record {
      tree = λ z. after (codes "for") (more (c z) (more (d z) (e z)));
      spelled = and_both (is_name y && is_spelled_term u) (are_spelled_stmts ss) (and_both (is_name y) (is_spelled_term u) i.1 j.spelled) k.spelled;
    })

at_word : (w v : List ℕ) (ts : Plains) (s : PlainStmt) → bytes_eq w v ≡ true → StmtTold (after v ts) s → StmtTold (after w ts) s
at_word w v ts s q told = subst (λ (u : List ℕ). StmtTold (after u ts) s) (sym (bytes_eq-true w v q)) told

word_told : (w : List ℕ) (ts : Plains) (s : PlainStmt) → TellsIf ts → TellsFor ts → stmt_of_word w ts (spelled_if ts) (spelled_for ts) ≡ Some s → stmt_casts s ≡ true → StmtTold (after w ts) s
word_told w ts s f g p h =
    let calls = if bytes_eq w (codes "call") then spelled_call ts else None in
    let emits = if bytes_eq w (codes "emit") then spelled_emit ts else calls in
    let loops = if bytes_eq w (codes "for") then spelled_for ts else emits in
    let ifs = if bytes_eq w (codes "if") then spelled_if ts else loops in
    elim (if_else (bytes_eq w (codes "let")) (spelled_let ts) ifs s p) [
      | inl r ↦ at_word w (codes "let") ts s r.0 (let_told ts s r.1 h)
      | inr r ↦ elim (if_else (bytes_eq w (codes "if")) (spelled_if ts) loops s r.1) [
        | inl q ↦ at_word w (codes "if") ts s q.0 (f s q.1 h)
        | inr q ↦ elim (if_else (bytes_eq w (codes "for")) (spelled_for ts) emits s q.1) [
          | inl o ↦ at_word w (codes "for") ts s o.0 (g s o.1 h)
          | inr o ↦ elim (if_else (bytes_eq w (codes "emit")) (spelled_emit ts) calls s o.1) [
            | inl u ↦ at_word w (codes "emit") ts s u.0 (emit_told ts s u.1 h)
            | inr u ↦ let v = if_some (bytes_eq w (codes "call")) (spelled_call ts) s u.1 in at_word w (codes "call") ts s v.0 (call_told ts s v.1 h)
          ]
        ]
      ]
    ]

abbrev TellsStmt : Plain → Type 0
TellsStmt t = (s : PlainStmt) → spelled_stmt t ≡ Some s → stmt_casts s ≡ true → StmtTold t s

more_told : (t : Plain) (ts : Plains) (ss : PlainStmts) → TellsStmt t → TellsStmts ts → both stmt (spelled_stmt t) (spelled_stmts ts) ≡ Some ss → stmts_cast ss ≡ true → StmtsTold (more t ts) ss
more_told t ts ss f g p h =
    let m = both_some stmt (spelled_stmt t) (spelled_stmts ts) ss p in
    let s : PlainStmt = m.0 in
    let others : PlainStmts = m.1 in
    let r = and_parts (stmt_casts s) (stmts_cast others) (ap stmts_cast m.4 ∙ h) in
    let j = f s m.2 r.0 in
    let k = g others m.3 r.1 in
    let d = j.tree in
    let e = k.trees in
    subst (StmtsTold (more t ts)) m.4 (record { trees = λ i. more (d i) (e i); spelled = and_both (is_spelled_stmt s) (are_spelled_stmts others) j.spelled k.spelled })

mutual
  pub stmt_told : (t : Plain) (s : PlainStmt) → spelled_stmt t ≡ Some s → stmt_casts s ≡ true → StmtTold t s
  stmt_told (atom w) s p h = cc
  stmt_told (list none) s p h = cc
  stmt_told (list (more (list us) ts)) s p h = cc
  stmt_told (list (more (atom w) ts)) s p h = word_told w ts s (λ r q k. if_told ts r q k) (λ r q k. for_told ts r q k) p h

  pub stmts_told : (ts : Plains) (ss : PlainStmts) → spelled_stmts ts ≡ Some ss → stmts_cast ss ≡ true → StmtsTold ts ss
  stmts_told none ss p h = subst (StmtsTold none) (same_some no_stmt ss p) (record { trees = refl; spelled = refl })
  stmts_told (more t ts) ss p h = more_told t ts ss (λ r q k. stmt_told t r q k) (λ rs q k. stmts_told ts rs q k) p h

  if_told : (ts : Plains) (s : PlainStmt) → spelled_if ts ≡ Some s → stmt_casts s ≡ true → StmtTold (after (codes "if") ts) s
  if_told none s p h = cc
  if_told (more t ts) s p h = when_told t ts s (λ rs q k. stmts_told ts rs q k) p h

  for_told : (ts : Plains) (s : PlainStmt) → spelled_for ts ≡ Some s → stmt_casts s ≡ true → StmtTold (after (codes "for") ts) s
  for_told none s p h = cc
  for_told (more x none) s p h = cc
  for_told (more x (more t ts)) s p h = each_told x t ts s (λ rs q k. stmts_told ts rs q k) p h
