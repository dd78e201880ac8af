-- Which parts of a program hold an enum sort or a tag.
use Rattle.std.specs.Prelude.{ℕ, Bool, false, ◌||◌, List}
use Rattle.std.specs.List.{list_any}
use Rattle.kid_value.specs.PlainSort.{PlainSort}
use Rattle.kid_term.specs.Names.{Names, PlainDef}
use Rattle.kid_term.specs.PlainTerm.{term_row}
use Rattle.kid_codec.specs.NamedValues.{sort_has_tags, term_has_tags, terms_have_tags}
use Rattle.kid_prog.specs.PlainStmt.{PlainStmt, assign, when, each, emit, call, PlainStmts, no_stmt, stmt}
use Rattle.kid_prog.specs.PlainProgram.{PlainProgram}

-- the sort beside a name does
abbrev pub name_has_tags : List ℕ × PlainSort → Bool
name_has_tags n = sort_has_tags n.1

abbrev pub names_have_tags : Names → Bool
names_have_tags ns = list_any name_has_tags ns

abbrev pub definition_has_tags : PlainDef → Bool
definition_has_tags d = names_have_tags d.parameters || sort_has_tags d.sort || term_has_tags d.body

abbrev mutual
  pub stmt_has_tags : PlainStmt → Bool
  stmt_has_tags (assign x t) = term_has_tags t
  stmt_has_tags (when t ss) = term_has_tags t || stmts_have_tags ss
  stmt_has_tags (each x t ss) = term_has_tags t || stmts_have_tags ss
  stmt_has_tags (emit t) = term_has_tags t
  stmt_has_tags (call ts) = terms_have_tags (term_row ts)

  pub stmts_have_tags : PlainStmts → Bool
  stmts_have_tags no_stmt = false
  stmts_have_tags (stmt s ss) = stmt_has_tags s || stmts_have_tags ss

-- the parameters or the statements of the search procedure do
abbrev pub search_has_tags : Names × PlainStmts → Bool
search_has_tags p = names_have_tags p.0 || stmts_have_tags p.1

-- also where no call and no value comes to them
abbrev pub program_has_tags : PlainProgram → Bool
program_has_tags p =
    list_any definition_has_tags p.definitions || names_have_tags p.inputs || term_has_tags p.condition || sort_has_tags p.sort
    || stmts_have_tags p.main || search_has_tags (p.parameters, p.search)
