-- A program that has a spelling is printed as words and brackets.
use Rattle.std.proofs.Common.{◌≡◌, ℕ, ◌<◌, Bool, true, false, List, [], ◌∷◌, Option, Some, None, refl, arith}
use Rattle.std.specs.Prelude.{pos, ◌&&◌, nat_le, not}
use Rattle.std.specs.List.{list_all}
use Rattle.std.specs.Fmt.{decimal, signed_decimal}
use Rattle.std.proofs.lemmas.Bool.Decides.{nat_tests}
use Rattle.kid_sexp.specs.Plain.{Plains}
use Rattle.kid_sexp.specs.Printing.{is_word, is_printable_tree, is_printable}
use Rattle.kid_value.specs.PlainSort.{PlainSort, never, bools, ints, pairs, sets, seqs, maps, enums, has_never}
use Rattle.kid_value.specs.SortCount.{count_of}
use Rattle.kid_value.specs.SortLimits.{sort_depth, is_bounded, is_allowed}
use Rattle.kid_value.proofs.SortLemmas.{and_parts, and_both}
use Rattle.kid_term.specs.Names.{Names, PlainDef}
use Rattle.kid_term.specs.PlainSpec.{is_wanted}
use Rattle.kid_term.specs.PlainTerm.{op, call, cast, PlainTerm, var, number, truth, tag, app, bind, PlainTerms, no_term, term, terms, term_row}
use Rattle.kid_codec.specs.Name.{is_name}
use Rattle.kid_codec.specs.NameSpelling.{name_spellings, tag_word}
use Rattle.kid_codec.specs.Number.{number_of}
use Rattle.kid_codec.specs.SortSpelling.{sort_spelling, has_spelled_names, is_spelled_sort}
use Rattle.kid_codec.specs.TermSpelling.{term_spelling, term_spellings, is_spelled_head, is_spelled_term, are_spelled_terms}
use Rattle.kid_codec.specs.Word.{operator_word, binder_word}
use Rattle.kid_codec.proofs.Found.{both_some}
use Rattle.kid_codec.proofs.SortBack.{sort_back}
use Rattle.kid_prog.specs.PlainStmt.{PlainStmt, assign, when, each, emit, call as calling, PlainStmts, no_stmt, stmt}
use Rattle.kid_prog.specs.PlainProgram.{PlainProgram}
use Rattle.kid_prog.specs.Formats.{format_for}
use Rattle.kid_prog.specs.Tags.{program_has_tags}
use Rattle.kid_prog.specs.declared.format.Format.{Format}
use Rattle.kid_prog.specs.declared.format.Format.TheVariants.{One, Two}
use Rattle.kid_prog.specs.Spelling.{stmt_spelling, stmt_spellings, names_spelling, definition_spelling, definitions_before, inputs_before, first_before, main_forms, last_forms, format_spelling, program_spelling, is_spelled_stmt, are_spelled_stmts, is_spelled_name, is_spelled_definition, is_spelled_program}
use Rattle.kid_prog.proofs.FormBack.{count_small}
use Rattle.kid_prog.proofs.ProgramParts.{spelled_parts}
use Rattle.kid_prog.proofs.Words.{name_word, decimal_word, number_word, read_number_word, op_word, binder_is_word}

alone : (b : Bool) → b ≡ true → (b && true) ≡ true
alone b h = and_both b true h refl

bound_word : (n : ℕ) → nat_le n 65536 ≡ true → is_word (decimal n) ≡ true
bound_word n h = decimal_word n (let k : n < 65537 = grind (arith, nat_tests) in omega arith)

names_are_words : (ns : List (List ℕ)) → list_all is_name ns ≡ true → is_printable (name_spellings ns) ≡ true
names_are_words [] h = refl
names_are_words (n ∷ ns) h =
    let r = and_parts (is_name n) (list_all is_name ns) h in
    and_both (is_word n) (is_printable (name_spellings ns)) (name_word n r.0) (names_are_words ns r.1)

sort_printable : (s : PlainSort) → is_bounded s ≡ true → has_spelled_names s ≡ true → is_printable_tree (sort_spelling s) ≡ true
sort_printable never b h = refl
sort_printable bools b h = refl
sort_printable (ints lo hi) b h =
    let m = both_some ints (number_of (signed_decimal lo)) (number_of (signed_decimal hi)) (ints lo hi) (sort_back (ints lo hi) b refl refl) in
    and_both (is_word (signed_decimal lo)) (is_word (signed_decimal hi) && true) (read_number_word (signed_decimal lo) m.0 m.2) (alone (is_word (signed_decimal hi)) (read_number_word (signed_decimal hi) m.1 m.3))
sort_printable (pairs s t) b h =
    let r = and_parts (is_bounded s) (is_bounded t) b in
    let n = and_parts (has_spelled_names s) (has_spelled_names t) h in
    and_both (is_printable_tree (sort_spelling s)) (is_printable_tree (sort_spelling t) && true) (sort_printable s r.0 n.0) (alone (is_printable_tree (sort_spelling t)) (sort_printable t r.1 n.1))
sort_printable (sets s) b h =
    alone (is_printable_tree (sort_spelling s)) (sort_printable s (and_parts (is_bounded s) (nat_le (count_of s) 65536) b).0 h)
sort_printable (seqs s k) b h =
    let r = and_parts (is_bounded s) (nat_le k 65536) b in
    and_both (is_printable_tree (sort_spelling s)) (is_word (decimal k) && true) (sort_printable s r.0 h) (alone (is_word (decimal k)) (bound_word k r.1))
sort_printable (maps s t) b h =
    let r = and_parts (is_bounded s && nat_le (count_of s) 65536) (is_bounded t) b in
    let u = and_parts (is_bounded s) (nat_le (count_of s) 65536) r.0 in
    let n = and_parts (has_spelled_names s) (has_spelled_names t) h in
    and_both (is_printable_tree (sort_spelling s)) (is_printable_tree (sort_spelling t) && true) (sort_printable s u.0 n.0) (alone (is_printable_tree (sort_spelling t)) (sort_printable t r.1 n.1))
sort_printable (enums ns) b h = names_are_words ns h

spelled_sort_printable : (s : PlainSort) → is_spelled_sort s ≡ true → is_printable_tree (sort_spelling s) ≡ true
spelled_sort_printable s h =
    let q = and_parts (is_allowed s && not (has_never s)) (has_spelled_names s) h in
    let r = and_parts (is_allowed s) (not (has_never s)) q.0 in
    sort_printable s (and_parts (nat_le (sort_depth s) 8) (is_bounded s) r.0).1 q.1

-- an apostrophe may stand in a word
tag_is_word : (n : List ℕ) → is_name n ≡ true → is_word (tag_word n) ≡ true
tag_is_word [] h = cc
tag_is_word (c ∷ cs) h = name_word (c ∷ cs) h

mutual
  term_printable : (t : PlainTerm) → is_spelled_term t ≡ true → is_printable_tree (term_spelling t) ≡ true
  term_printable (var x) h = name_word x h
  term_printable (number n) h = number_word n h
  term_printable (truth true) h = refl
  term_printable (truth false) h = refl
  term_printable (tag n) h = tag_is_word n h
  term_printable (app (op o) ts) h =
      let r = and_parts (is_spelled_head (op o) (terms ts)) (are_spelled_terms ts) h in
      and_both (is_word (operator_word o)) (is_printable (term_spellings ts)) (op_word o) (terms_printable ts r.1)
  term_printable (app (call f) ts) h =
      let r = and_parts (is_name f) (are_spelled_terms ts) h in
      and_both (is_word f) (is_printable (term_spellings ts)) (name_word f r.0) (terms_printable ts r.1)
  term_printable (app (cast s) ts) h =
      let r = and_parts (is_spelled_head (cast s) (terms ts)) (are_spelled_terms ts) h in
      let q = and_parts _ (is_spelled_sort s) r.0 in
      and_both (is_printable_tree (sort_spelling s)) (is_printable (term_spellings ts)) (spelled_sort_printable s q.1) (terms_printable ts r.1)
  term_printable (bind b x s t) h =
      let r = and_parts (is_name x && is_spelled_term s) (is_spelled_term t) h in
      let q = and_parts (is_name x) (is_spelled_term s) r.0 in
      and_both (is_word (binder_word b)) _ (binder_is_word b)
      (and_both (is_word x) _ (name_word x q.0)
      (and_both (is_printable_tree (term_spelling s)) _ (term_printable s q.1) (alone (is_printable_tree (term_spelling t)) (term_printable t r.1))))

  terms_printable : (ts : PlainTerms) → are_spelled_terms ts ≡ true → is_printable (term_spellings ts) ≡ true
  terms_printable no_term h = refl
  terms_printable (term t ts) h =
      let r = and_parts (is_spelled_term t) (are_spelled_terms ts) h in
      and_both (is_printable_tree (term_spelling t)) (is_printable (term_spellings ts)) (term_printable t r.0) (terms_printable ts r.1)

mutual
  stmt_printable : (s : PlainStmt) → is_spelled_stmt s ≡ true → is_printable_tree (stmt_spelling s) ≡ true
  stmt_printable (assign x t) h =
      let r = and_parts (is_name x) (is_spelled_term t) h in
      and_both (is_word x) _ (name_word x r.0) (alone (is_printable_tree (term_spelling t)) (term_printable t r.1))
  stmt_printable (when t ss) h =
      let r = and_parts (is_spelled_term t) (are_spelled_stmts ss) h in
      and_both (is_printable_tree (term_spelling t)) (is_printable (stmt_spellings ss)) (term_printable t r.0) (stmts_printable ss r.1)
  stmt_printable (each x t ss) h =
      let r = and_parts (is_name x && is_spelled_term t) (are_spelled_stmts ss) h in
      let q = and_parts (is_name x) (is_spelled_term t) r.0 in
      and_both (is_word x) _ (name_word x q.0)
      (and_both (is_printable_tree (term_spelling t)) (is_printable (stmt_spellings ss)) (term_printable t q.1) (stmts_printable ss r.1))
  stmt_printable (emit t) h = alone (is_printable_tree (term_spelling t)) (term_printable t h)
  stmt_printable (calling ts) h = terms_printable (term_row ts) h

  stmts_printable : (ss : PlainStmts) → are_spelled_stmts ss ≡ true → is_printable (stmt_spellings ss) ≡ true
  stmts_printable no_stmt h = refl
  stmts_printable (stmt s ss) h =
      let r = and_parts (is_spelled_stmt s) (are_spelled_stmts ss) h in
      and_both (is_printable_tree (stmt_spelling s)) (is_printable (stmt_spellings ss)) (stmt_printable s r.0) (stmts_printable ss r.1)

-- a name before its sort
name_printable : (x : List ℕ) (s : PlainSort) → is_spelled_name (x, s) ≡ true → (is_word x && (is_printable_tree (sort_spelling s) && true)) ≡ true
name_printable x s h =
    let r = and_parts (is_name x) (is_spelled_sort s) h in
    and_both (is_word x) _ (name_word x r.0) (alone (is_printable_tree (sort_spelling s)) (spelled_sort_printable s r.1))

names_printable : (ns : Names) → list_all is_spelled_name ns ≡ true → is_printable (names_spelling ns) ≡ true
names_printable [] h = refl
names_printable (n ∷ ns) h =
    let r = and_parts (is_spelled_name n) (list_all is_spelled_name ns) h in
    and_both _ (is_printable (names_spelling ns)) (name_printable n.0 n.1 r.0) (names_printable ns r.1)

definition_printable : (d : PlainDef) → is_spelled_definition d ≡ true → is_printable_tree (definition_spelling d) ≡ true
definition_printable d h =
    let a = and_parts _ (is_spelled_term d.body) h in
    let b = and_parts _ (is_spelled_sort d.sort) a.0 in
    let c = and_parts (is_name d.name) (list_all is_spelled_name d.parameters) b.0 in
    and_both (is_word d.name) _ (name_word d.name c.0)
    (and_both (is_printable (names_spelling d.parameters)) _ (names_printable d.parameters c.1)
    (and_both (is_printable_tree (sort_spelling d.sort)) _ (spelled_sort_printable d.sort b.1) (alone (is_printable_tree (term_spelling d.body)) (term_printable d.body a.1))))

definitions_printable : (ds : List PlainDef) (rest : Plains) → list_all is_spelled_definition ds ≡ true → is_printable rest ≡ true → is_printable (definitions_before ds rest) ≡ true
definitions_printable [] rest h k = k
definitions_printable (d ∷ ds) rest h k =
    let r = and_parts (is_spelled_definition d) (list_all is_spelled_definition ds) h in
    and_both (is_printable_tree (definition_spelling d)) (is_printable (definitions_before ds rest)) (definition_printable d r.0) (definitions_printable ds rest r.1 k)

inputs_printable : (ns : Names) (rest : Plains) → list_all is_spelled_name ns ≡ true → is_printable rest ≡ true → is_printable (inputs_before ns rest) ≡ true
inputs_printable [] rest h k = k
inputs_printable (n ∷ ns) rest h k =
    let r = and_parts (is_spelled_name n) (list_all is_spelled_name ns) h in
    and_both _ (is_printable (inputs_before ns rest)) (name_printable n.0 n.1 r.0) (inputs_printable ns rest r.1 k)

first_printable : (first : Option ℕ) (rest : Plains) → is_wanted first ≡ true → is_printable rest ≡ true → is_printable (first_before first rest) ≡ true
first_printable None rest h k = k
first_printable (Some n) rest h k =
    and_both (is_word (decimal n) && true) (is_printable rest) (alone (is_word (decimal n)) (number_word (pos n) (count_small n h))) k

format_printable : (f : Format) → is_printable_tree (format_spelling f) ≡ true
format_printable One = alone (is_word (decimal 1)) (number_word (pos 1) refl)
format_printable Two = alone (is_word (decimal 2)) (number_word (pos 2) refl)

pub program_printable : (p : PlainProgram) → is_spelled_program p ≡ true → is_printable (program_spelling p) ≡ true
program_printable p h =
    let s = spelled_parts p h in
    let search : (is_printable (names_spelling p.parameters) && is_printable (stmt_spellings p.search)) ≡ true =
    and_both (is_printable (names_spelling p.parameters)) (is_printable (stmt_spellings p.search)) (names_printable p.parameters s.parameters) (stmts_printable p.search s.search) in
    let last : is_printable (last_forms p) ≡ true =
    and_both (is_printable_tree (term_spelling p.condition) && true) _ (alone (is_printable_tree (term_spelling p.condition)) (term_printable p.condition s.condition))
    (and_both (is_word p.output && (is_printable_tree (sort_spelling p.sort) && true)) _ (name_printable p.output p.sort s.output)
    (first_printable p.first (main_forms p) s.wanted
    (and_both (is_printable (stmt_spellings p.main)) _ (stmts_printable p.main s.main) (alone _ search)))) in
    and_both (is_printable_tree (format_spelling (format_for (program_has_tags p)))) _ (format_printable (format_for (program_has_tags p)))
    (definitions_printable p.definitions (inputs_before p.inputs (last_forms p)) s.definitions (inputs_printable p.inputs (last_forms p) s.inputs last))
