-- Statements as they are spelled, where the sorts in them may be allowed or not.
use Rattle.std.specs.Prelude.{ℕ, List, Option, Some, None, option_map, if◌then◌else◌, codes}
use Rattle.std.specs.Str.{bytes_eq}
use Rattle.kid_sexp.specs.Plain.{Plain, Plains, atom, list, none, more}
use Rattle.kid_value.specs.SortOrder.{both}
use Rattle.kid_codec.specs.Reading.{◌>>=◌}
use Rattle.kid_codec.specs.Shape.{single, couple}
use Rattle.kid_codec.specs.NameSpelling.{spelled_name}
use Rattle.kid_codec.specs.TermSpelling.{spelled_term, spelled_terms}
use Rattle.kid_prog.specs.PlainStmt.{PlainStmt, assign, when, each, emit, call, PlainStmts, no_stmt, stmt}

-- what stands behind the words let, emit and call
abbrev pub spelled_let : Plains → Option PlainStmt
spelled_let ts = couple ts >>= λ p. both assign (spelled_name p.0) (spelled_term p.1)

abbrev pub spelled_emit : Plains → Option PlainStmt
spelled_emit ts = single ts >>= λ t. option_map emit (spelled_term t)

abbrev pub spelled_call : Plains → Option PlainStmt
spelled_call ts = option_map call (spelled_terms ts)

-- what a word makes of the trees after it, by what they are behind if and for
abbrev pub stmt_of_word : List ℕ → Plains → Option PlainStmt → Option PlainStmt → Option PlainStmt
stmt_of_word w ts conditional loop =
    if bytes_eq w (codes "let") then spelled_let ts
    else (if bytes_eq w (codes "if") then conditional
    else (if bytes_eq w (codes "for") then loop
    else (if bytes_eq w (codes "emit") then spelled_emit ts
    else (if bytes_eq w (codes "call") then spelled_call ts else None))))

abbrev mutual
  pub spelled_stmt : Plain → Option PlainStmt
  spelled_stmt (atom w) = None
  spelled_stmt (list none) = None
  spelled_stmt (list (more (list us) ts)) = None
  spelled_stmt (list (more (atom w) ts)) = stmt_of_word w ts (spelled_if ts) (spelled_for ts)

  pub spelled_stmts : Plains → Option PlainStmts
  spelled_stmts none = Some no_stmt
  spelled_stmts (more t ts) = both stmt (spelled_stmt t) (spelled_stmts ts)

  -- a term and statements
  pub spelled_if : Plains → Option PlainStmt
  spelled_if none = None
  spelled_if (more t ts) = both when (spelled_term t) (spelled_stmts ts)

  -- a name, a term and statements
  pub spelled_for : Plains → Option PlainStmt
  spelled_for none = None
  spelled_for (more x none) = None
  spelled_for (more x (more t ts)) = spelled_name x >>= λ name. both (each name) (spelled_term t) (spelled_stmts ts)
