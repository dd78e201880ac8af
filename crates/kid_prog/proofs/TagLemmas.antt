-- The statements that are left, and whether one of them has tags.
use Rattle.std.proofs.Common.{◌≡◌, ℕ, ◌+◌, ◌<◌, Bool, false, List, length, get_or, drop, map, sym, ap, ◌∙◌}
use Rattle.std.specs.Prelude.{◌||◌}
use Rattle.kid_codec.proofs.Each.{cons_at}
use Rattle.kid_prog.specs.PlainStmt.{stmt_row}
use Rattle.kid_prog.specs.StmtView.{plain_stmt}
use Rattle.kid_prog.specs.Tags.{stmt_has_tags, stmts_have_tags}
use Rattle.kid_prog.specs.declared.statement.Stmt.{Stmt}

abbrev tags_in : List Stmt → Bool
tags_in ss = stmts_have_tags (stmt_row (map plain_stmt ss))

-- where the next has none, the others decide
pub tags-next : (ss : List Stmt) (i : ℕ) (s : Stmt) (b whole : Bool) → i < length ss → s ≡ get_or ss i s → b ≡ stmt_has_tags (plain_stmt s) → b ≡ false
    → tags_in (drop i ss) ≡ whole → tags_in (drop (i + 1) ss) ≡ whole
tags-next ss i s b whole within is e none told =
    ap (λ (c : Bool). c || tags_in (drop (i + 1) ss)) (sym none ∙ e) ∙ sym (ap tags_in (cons_at ss i s within is)) ∙ told
