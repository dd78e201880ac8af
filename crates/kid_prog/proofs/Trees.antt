-- The forms of a program one after another.
use Rattle.std.proofs.Common.{◌≡◌, ℕ, ◌+◌, ◌≤◌, ◌<◌, Bool, true, List, ◌∷◌, length, get_or, drop, map, refl, sym, ap, ◌∙◌, arith, subst}
use Rattle.std.specs.Prelude.{◌&&◌, codes}
use Rattle.std.specs.List.{list_all}
use Rattle.kid_sexp.specs.Plain.{Plain, Plains, atom, list, none, more, one, join}
use Rattle.kid_value.specs.NameView.{plain_name}
use Rattle.kid_value.specs.PlainSort.{PlainSort}
use Rattle.kid_value.specs.declared.sort.Sort.{Sort}
use Rattle.kid_value.proofs.SortLemmas.{and_parts}
use Rattle.kid_term.specs.DefView.{plain_def}
use Rattle.kid_term.specs.PlainTerm.{term_row}
use Rattle.kid_term.specs.TermView.{plain_term}
use Rattle.kid_term.specs.declared.Term.{Term}
use Rattle.kid_term.specs.declared.definition.Def.{Def}
use Rattle.kid_codec.specs.SortSpelling.{headed, sort_spelling}
use Rattle.kid_codec.specs.TermSpelling.{is_spelled_term, are_spelled_terms}
use Rattle.kid_codec.proofs.Each.{PrintsEach, cons_at, join-one}
use Rattle.kid_prog.specs.PlainStmt.{stmt_depth, stmts_depth, stmt_row}
use Rattle.kid_prog.specs.StmtView.{plain_stmt}
use Rattle.kid_prog.specs.Spelling.{stmt_spelling, stmt_spellings, named_spelling, names_spelling, definition_spelling, definitions_before, inputs_before, is_spelled_stmt, are_spelled_stmts, is_spelled_name, is_spelled_definition}
use Rattle.kid_prog.specs.declared.statement.Stmt.{Stmt}

abbrev pub stmt_tree : Stmt → Plain
stmt_tree s = stmt_spelling (plain_stmt s)

abbrev pub stmt_trees : List Stmt → Plains
stmt_trees ss = stmt_spellings (stmt_row (map plain_stmt ss))

abbrev pub name_tree : List ℕ × Sort → Plain
name_tree n = list (named_spelling (plain_name n))

abbrev pub name_trees : List (List ℕ × Sort) → Plains
name_trees ns = names_spelling (map plain_name ns)

abbrev pub def_tree : Def → Plain
def_tree d = definition_spelling (plain_def d)

abbrev pub def_trees : List Def → Plains
def_trees ds = definitions_before (map plain_def ds) none

abbrev pub input_tree : List ℕ × Sort → Plain
input_tree n = headed (codes "input") (named_spelling (plain_name n))

abbrev pub input_trees : List (List ℕ × Sort) → Plains
input_trees ns = inputs_before (map plain_name ns) none

pub stmts_print : PrintsEach stmt_tree stmt_trees
stmts_print = record { at_none = refl; at_more = λ s ss. refl }

pub names_print : PrintsEach name_tree name_trees
names_print = record { at_none = refl; at_more = λ n ns. refl }

pub defs_print : PrintsEach def_tree def_trees
defs_print = record { at_none = refl; at_more = λ d ds. refl }

pub inputs_print : PrintsEach input_tree input_trees
inputs_print = record { at_none = refl; at_more = λ n ns. refl }

-- a test of a list that tests each item
pub record TestsEach {X : Type 0} (f : X → Bool) (g : List X → Bool) : Type 0 where
  pub at_more : (x : X) (xs : List X) → g (x ∷ xs) ≡ (f x && g xs)

pub terms_test : TestsEach (λ (t : Term). is_spelled_term (plain_term t)) (λ (ts : List Term). are_spelled_terms (term_row (map plain_term ts)))
terms_test = record { at_more = λ t ts. refl }

pub stmts_test : TestsEach (λ (s : Stmt). is_spelled_stmt (plain_stmt s)) (λ (ss : List Stmt). are_spelled_stmts (stmt_row (map plain_stmt ss)))
stmts_test = record { at_more = λ s ss. refl }

pub names_test : TestsEach (λ (n : List ℕ × Sort). is_spelled_name (plain_name n)) (λ (ns : List (List ℕ × Sort)). list_all is_spelled_name (map plain_name ns))
names_test = record { at_more = λ n ns. refl }

pub defs_test : TestsEach (λ (d : Def). is_spelled_definition (plain_def d)) (λ (ds : List Def). list_all is_spelled_definition (map plain_def ds))
defs_test = record { at_more = λ d ds. refl }

-- where the rest of a list passes the test, its first item passes and so does the rest after it
pub test-step : {X : Type 0} {f : X → Bool} {g : List X → Bool} → TestsEach f g → (xs : List X) (i : ℕ) (item : X) → i < length xs → item ≡ get_or xs i item
    → g (drop i xs) ≡ true → (f item ≡ true) × (g (drop (i + 1) xs) ≡ true)
test-step {f = f} {g = g} each xs i item within is h =
    and_parts (f item) (g (drop (i + 1) xs)) (sym (each.at_more item (drop (i + 1) xs)) ∙ ap g (sym (cons_at xs i item within is)) ∙ h)

pub stmts_deep : (ss : List Stmt) (i : ℕ) (s : Stmt) (n : ℕ) → i < length ss → s ≡ get_or ss i s → stmts_depth (stmt_row (map plain_stmt (drop i ss))) ≤ n
    → stmts_depth (stmt_row (map plain_stmt (drop (i + 1) ss))) ≤ n
stmts_deep ss i s n within is le =
    let cut : stmts_depth (stmt_row (map plain_stmt (s ∷ drop (i + 1) ss))) ≤ n = subst (λ (xs : List Stmt). stmts_depth (stmt_row (map plain_stmt xs)) ≤ n) (cons_at ss i s within is) le in
    omega arith

pub stmt_item : (ss : List Stmt) (i : ℕ) (s : Stmt) (n : ℕ) → i < length ss → s ≡ get_or ss i s → stmts_depth (stmt_row (map plain_stmt (drop i ss))) ≤ n
    → stmt_depth (plain_stmt s) ≤ n
stmt_item ss i s n within is le =
    let cut : stmts_depth (stmt_row (map plain_stmt (s ∷ drop (i + 1) ss))) ≤ n = subst (λ (xs : List Stmt). stmts_depth (stmt_row (map plain_stmt xs)) ≤ n) (cons_at ss i s within is) le in
    omega arith

two-joined : (ts : Plains) (t u : Plain) → join (join ts (one t)) (one u) ≡ join ts (more t (one u))
two-joined ts t u = join-one ts t (one u)

-- a name and its sort after other trees
pub named-joined : (trees mid new : Plains) (word sort : Plain) (x : List ℕ) (s : PlainSort) → mid ≡ join trees (one word) → new ≡ join mid (one sort) → word ≡ atom x → sort ≡ sort_spelling s
    → new ≡ join trees (named_spelling (x, s))
named-joined trees mid new word sort x s p q d e =
    q ∙ (λ i. join (p i) (one (e i))) ∙ two-joined trees word (sort_spelling s) ∙ ap (λ (t : Plain). join trees (more t (one (sort_spelling s)))) d
