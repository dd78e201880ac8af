-- What a form holds that was not refused keeps the rules.
use Rattle.std.proofs.Common.{◌≡◌, ℕ, true, List, [], Ok, sym, ap, ◌∙◌}
use Rattle.std.specs.Prelude.{not, ◌&&◌}
use Rattle.kid_sexp.specs.Plain.{Plain, Plains}
use Rattle.kid_value.proofs.SortLemmas.{and_parts, and_both}
use Rattle.kid_term.specs.Names.{Names, PlainDef}
use Rattle.kid_term.specs.PlainTerm.{PlainTerm}
use Rattle.kid_term.specs.Sorting.{sort_of}
use Rattle.kid_sorting.specs.Declaring.{is_truth, is_sorted_definition, is_shallow}
use Rattle.kid_kernel.specs.Wordless.{is_wordless, is_wordless_definition}
use Rattle.kid_theory.specs.Ahead.{calls_ahead}
use Rattle.kid_theory.specs.Formed.{is_formed_definition}
use Rattle.kid_theory.specs.Forms.{judged_definition, definition_form, condition_form}
use Rattle.kid_theory.specs.Judged.{Judged, tested}
use Rattle.kid_theory.specs.Known.{names_of}
use Rattle.kid_theory.specs.Shapes.{lone_term, definition_shape}
use Rattle.kid_theory.specs.Taken.{Taken, is_free, are_free}
use Rattle.kid_theory.specs.declared.fault.TheoryCode.TheVariants as code
use Rattle.kid_theory.proofs.Passed.{found, found_same, tested_ok, shaped_ok}
use Rattle.kid_theory.proofs.ShapeKept.{lone_kept, definition_shape_kept}

pub condition_kept : (word : List ℕ) (defs : List PlainDef) (names : Names) (t : Plain) (c : PlainTerm) → condition_form word defs names t ≡ Ok c → is_wordless c ≡ true
condition_kept word defs names t c p =
    let judge : PlainTerm → Judged PlainTerm = λ d. tested (is_truth (sort_of defs names d)) code.Sort (Ok d) in
    let s = shaped_ok (lone_term word t) judge c p in
    let d : PlainTerm = s.0 in
    let q = tested_ok (is_truth (sort_of defs names d)) code.Sort (found d) c s.2 in
    ap is_wordless (sym (found_same d c q.1)) ∙ lone_kept word t d s.1

pub definition_kept : (before : List PlainDef) (later : Plains) (t : Plain) (d : PlainDef) → definition_form before (names_of before) later t ≡ Ok d
    → (is_formed_definition before later d ≡ true) × (is_wordless_definition d ≡ true)
definition_kept before later t d p =
    let taken : Taken = names_of before in
    let s = shaped_ok (definition_shape t) (judged_definition before taken later) d p in
    let g : PlainDef = s.0 in
    let sorted : Judged PlainDef = tested (is_sorted_definition before g) code.Sort (Ok g) in
    let ordered : Judged PlainDef = tested (not (calls_ahead g.name later g.body)) code.Cycle sorted in
    let named : Judged PlainDef = tested (is_free taken g.name && are_free [] g.parameters) code.Name ordered in
    let a = tested_ok (is_shallow before g) code.Limit named d s.2 in
    let b = tested_ok (is_free taken g.name && are_free [] g.parameters) code.Name ordered d a.1 in
    let c = tested_ok (not (calls_ahead g.name later g.body)) code.Cycle sorted d b.1 in
    let e = tested_ok (is_sorted_definition before g) code.Sort (found g) d c.1 in
    let same = found_same g d e.1 in
    let names = and_parts (is_free taken g.name) (are_free [] g.parameters) b.0 in
    let two = and_both (is_shallow before g) (is_free taken g.name) a.0 names.0 in
    let three = and_both (is_shallow before g && is_free taken g.name) (are_free [] g.parameters) two names.1 in
    let four = and_both (is_shallow before g && is_free taken g.name && are_free [] g.parameters) (not (calls_ahead g.name later g.body)) three c.0 in
    let all = and_both (is_shallow before g && is_free taken g.name && are_free [] g.parameters && not (calls_ahead g.name later g.body)) (is_sorted_definition before g) four e.0 in
    (ap (is_formed_definition before later) (sym same) ∙ all, ap is_wordless_definition (sym same) ∙ definition_shape_kept t g s.1)
