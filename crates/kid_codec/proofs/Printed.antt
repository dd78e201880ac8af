-- Lists as they are printed.
use Rattle.std.proofs.Common.{◌≡◌, ℕ, ◌+◌, ◌<◌, ◌≤◌, List, ◌∷◌, length, get_or, drop, map, refl, arith, subst}
use Rattle.kid_sexp.specs.Plain.{Plain, Plains, atom, list, more, one}
use Rattle.kid_value.specs.PlainValue.{heights, entry_heights, row, table}
use Rattle.kid_value.specs.ValueView.{plain, plain_entry}
use Rattle.kid_value.specs.declared.value.Value.{Value}
use Rattle.kid_term.specs.declared.Term.{Term}
use Rattle.kid_term.specs.PlainTerm.{depths, term_row}
use Rattle.kid_term.specs.TermView.{plain_term}
use Rattle.kid_codec.specs.NameSpelling.{name_spellings}
use Rattle.kid_codec.specs.ValueSpelling.{value_spelling, value_spellings, entry_spellings}
use Rattle.kid_codec.specs.TermSpelling.{term_spelling, term_spellings}
use Rattle.kid_codec.proofs.Each.{PrintsEach, cons_at}

abbrev pub value_tree : Value → Plain
value_tree v = value_spelling (plain v)

abbrev pub value_trees : List Value → Plains
value_trees vs = value_spellings (row (map plain vs))

abbrev pub entry_tree : Value × Value → Plain
entry_tree e = list (more (value_spelling (plain e.0)) (one (value_spelling (plain e.1))))

abbrev pub entry_trees : List (Value × Value) → Plains
entry_trees es = entry_spellings (table (map plain_entry es))

abbrev pub term_tree : Term → Plain
term_tree t = term_spelling (plain_term t)

abbrev pub term_trees : List Term → Plains
term_trees ts = term_spellings (term_row (map plain_term ts))

pub values_print : PrintsEach value_tree value_trees
values_print = record { at_none = refl; at_more = λ v vs. refl }

pub entries_print : PrintsEach entry_tree entry_trees
entries_print = record { at_none = refl; at_more = λ e es. refl }

pub terms_print : PrintsEach term_tree term_trees
terms_print = record { at_none = refl; at_more = λ t ts. refl }

pub values_deep : (vs : List Value) (i : ℕ) (v : Value) (n : ℕ) → i < length vs → v ≡ get_or vs i v → heights (row (map plain (drop i vs))) ≤ n → heights (row (map plain (drop (i + 1) vs))) ≤ n
values_deep vs i v n within is le =
    let cut : heights (row (map plain (v ∷ drop (i + 1) vs))) ≤ n = subst (λ (xs : List Value). heights (row (map plain xs)) ≤ n) (cons_at vs i v within is) le in
    omega arith

pub entries_deep : (vs : List (Value × Value)) (i : ℕ) (v : Value × Value) (n : ℕ) → i < length vs → v ≡ get_or vs i v → entry_heights (table (map plain_entry (drop i vs))) ≤ n → entry_heights (table (map plain_entry (drop (i + 1) vs))) ≤ n
entries_deep vs i v n within is le =
    let cut : entry_heights (table (map plain_entry (v ∷ drop (i + 1) vs))) ≤ n = subst (λ (xs : List (Value × Value)). entry_heights (table (map plain_entry xs)) ≤ n) (cons_at vs i v within is) le in
    omega arith

pub terms_deep : (vs : List Term) (i : ℕ) (v : Term) (n : ℕ) → i < length vs → v ≡ get_or vs i v → depths (term_row (map plain_term (drop i vs))) ≤ n → depths (term_row (map plain_term (drop (i + 1) vs))) ≤ n
terms_deep vs i v n within is le =
    let cut : depths (term_row (map plain_term (v ∷ drop (i + 1) vs))) ≤ n = subst (λ (xs : List Term). depths (term_row (map plain_term xs)) ≤ n) (cons_at vs i v within is) le in
    omega arith

pub names_print : PrintsEach (λ (n : List ℕ). atom n) name_spellings
names_print = record { at_none = refl; at_more = λ n ns. refl }
