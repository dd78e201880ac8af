-- A program as a forest.
use Rattle.std.specs.Prelude.{ℕ, pos, Bool, true, ◌&&◌, Option, Some, None, codes}
use Rattle.std.specs.List.{list_all}
use Rattle.kid_sexp.specs.Plain.{Plain, Plains, atom, list, none, more, one}
use Rattle.kid_term.specs.PlainSpec.{is_wanted}
use Rattle.kid_term.specs.PlainTerm.{term_row}
use Rattle.kid_codec.specs.Name.{is_name}
use Rattle.kid_codec.specs.SortSpelling.{number_tree, headed}
pub use Rattle.kid_codec.specs.DeclaredSpelling.{named_spelling, names_spelling, definition_spelling, definitions_before, inputs_before, is_spelled_name, is_spelled_definition}
use Rattle.kid_codec.specs.TermSpelling.{term_spelling, term_spellings, is_spelled_term, are_spelled_terms}
use Rattle.kid_prog.specs.PlainStmt.{PlainStmt, assign, when, each, emit, call, PlainStmts, no_stmt, stmt}
use Rattle.kid_prog.specs.PlainProgram.{PlainProgram}
use Rattle.kid_prog.specs.Formats.{format_number, format_for}
use Rattle.kid_prog.specs.Tags.{program_has_tags}
use Rattle.kid_prog.specs.declared.format.Format.{Format}

abbrev mutual
  pub stmt_spelling : PlainStmt → Plain
  stmt_spelling (assign x t) = headed (codes "let") (more (atom x) (one (term_spelling t)))
  stmt_spelling (when t ss) = headed (codes "if") (more (term_spelling t) (stmt_spellings ss))
  stmt_spelling (each x t ss) = headed (codes "for") (more (atom x) (more (term_spelling t) (stmt_spellings ss)))
  stmt_spelling (emit t) = headed (codes "emit") (one (term_spelling t))
  stmt_spelling (call ts) = headed (codes "call") (term_spellings (term_row ts))

  pub stmt_spellings : PlainStmts → Plains
  stmt_spellings no_stmt = none
  stmt_spellings (stmt s ss) = more (stmt_spelling s) (stmt_spellings ss)

abbrev pub first_spelling : ℕ → Plain
first_spelling n = headed (codes "first") (one (number_tree (pos n)))

-- where not all values are wanted, the form that says how many, and then the forms after it
abbrev pub first_before : Option ℕ → Plains → Plains
first_before None rest = rest
first_before (Some n) rest = more (first_spelling n) rest

-- the last forms
abbrev pub main_forms : PlainProgram → Plains
main_forms p =
    more (headed (codes "main") (stmt_spellings p.main))
    (one (headed (codes "search") (more (list (names_spelling p.parameters)) (stmt_spellings p.search))))

-- the forms after the inputs
abbrev pub last_forms : PlainProgram → Plains
last_forms p =
    more (headed (codes "require") (one (term_spelling p.condition)))
    (more (headed (codes "output") (named_spelling (p.output, p.sort)))
    (first_before p.first (main_forms p)))

abbrev pub format_spelling : Format → Plain
format_spelling f = headed (codes "program") (one (number_tree (pos (format_number f))))

-- the forms of a program in their order, in a file of the format
abbrev pub spelling_in : Format → PlainProgram → Plains
spelling_in f p = more (format_spelling f) (definitions_before p.definitions (inputs_before p.inputs (last_forms p)))

-- in the first format in which it may stand
abbrev pub program_spelling : PlainProgram → Plains
program_spelling p = spelling_in (format_for (program_has_tags p)) p

-- ---- the programs that have a spelling

abbrev mutual
  pub is_spelled_stmt : PlainStmt → Bool
  is_spelled_stmt (assign x t) = is_name x && is_spelled_term t
  is_spelled_stmt (when t ss) = is_spelled_term t && are_spelled_stmts ss
  is_spelled_stmt (each x t ss) = is_name x && is_spelled_term t && are_spelled_stmts ss
  is_spelled_stmt (emit t) = is_spelled_term t
  is_spelled_stmt (call ts) = are_spelled_terms (term_row ts)

  pub are_spelled_stmts : PlainStmts → Bool
  are_spelled_stmts no_stmt = true
  are_spelled_stmts (stmt s ss) = is_spelled_stmt s && are_spelled_stmts ss

abbrev pub is_spelled_program : PlainProgram → Bool
is_spelled_program p =
    list_all is_spelled_definition p.definitions && list_all is_spelled_name p.inputs && is_spelled_term p.condition
    && is_spelled_name (p.output, p.sort) && is_wanted p.first && are_spelled_stmts p.main
    && list_all is_spelled_name p.parameters && are_spelled_stmts p.search
