-- What statements are judged against, where its parts were found one by one.
use Rattle.std.proofs.Common.{◌≡◌, Bool, true, List, ◌++◌, Option, Some, sym, ap, ◌∙◌}
use Rattle.std.specs.Prelude.{◌&&◌}
use Rattle.kid_value.specs.PlainSort.{PlainSort}
use Rattle.kid_term.specs.Names.{Names, PlainDef}
use Rattle.kid_sorting.specs.Declaring.{are_allowed}
use Rattle.kid_term.specs.PlainSignature.{PlainSignature}
use Rattle.kid_prog.specs.Forms.{setting, main_sorted, search_sorted}
use Rattle.kid_prog.specs.PlainStmt.{PlainStmt, stmt_row}
use Rattle.kid_prog.specs.Rules.{obey}

pub main-sorted : (s : PlainSignature) (a : PlainSort) (ps : Option Names) (defs : List PlainDef) (inputs names : Names) (row statements : List PlainStmt)
    → defs ≡ s.definitions → inputs ≡ s.inputs → names ≡ inputs → row ≡ statements
    → obey (setting defs a ps) names (stmt_row row) ≡ main_sorted s a ps (stmt_row statements)
main-sorted s a ps defs inputs names row statements d n copied r =
    let all = copied ∙ n in λ i. obey (setting (d i) a ps) (all i) (stmt_row (r i))

pub search-sorted : (s : PlainSignature) (a : PlainSort) (ps : Names) (defs : List PlainDef) (inputs names : Names) (row statements : List PlainStmt)
    → are_allowed ps ≡ true → defs ≡ s.definitions → inputs ≡ s.inputs → names ≡ ps ++ inputs → row ≡ statements
    → obey (setting defs a (Some ps)) names (stmt_row row) ≡ search_sorted s a (ps, stmt_row statements)
search-sorted s a ps defs inputs names row statements allowed d n joined r =
    let all = joined ∙ ap (λ (ns : Names). ps ++ ns) n in
    (λ i. obey (setting (d i) a (Some ps)) (all i) (stmt_row (r i)))
    ∙ ap (λ (b : Bool). b && obey (setting s.definitions a (Some ps)) (ps ++ s.inputs) (stmt_row statements)) (sym allowed)
