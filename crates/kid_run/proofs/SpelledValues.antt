-- The spelling of a value can be printed.
use Rattle.std.proofs.Common.{◌≡◌, ℕ, true, false, List, [], ◌∷◌, refl, ap, ◌∙◌}
use Rattle.std.specs.Prelude.{IsTrue, ◌&&◌}
use Rattle.kid_value.specs.PlainValue.{PlainValue, int, bool, pair, set, seq, map_of, tag, PlainValues, none, more, PlainEntries, no_entry, entry}
use Rattle.kid_value.proofs.SortLemmas.{and_parts, and_both}
use Rattle.kid_codec.specs.Name.{is_name}
use Rattle.kid_codec.specs.NameSpelling.{tag_word}
use Rattle.kid_codec.specs.ValueSpelling.{value_spelling, value_spellings, entry_spellings, is_spelled_value, are_spelled_values, are_spelled_entries}
use Rattle.kid_prog.proofs.Words.{name_word, number_word}
use Rattle.kid_sexp.specs.Plain as tree
use Rattle.kid_sexp.specs.Plain.{Plain, Plains, join, one}
use Rattle.kid_sexp.specs.Printing.{is_word, is_printable_tree, is_printable}

tag-word : (n : List ℕ) → is_name n ≡ true → is_word (tag_word n) ≡ true
tag-word [] h = cc
tag-word (c ∷ n) h = name_word (c ∷ n) h

mutual
  pub value-printable : (v : PlainValue) → is_spelled_value v ≡ true → is_printable_tree (value_spelling v) ≡ true
  value-printable (int n) h = number_word n h
  value-printable (bool true) h = refl
  value-printable (bool false) h = refl
  value-printable (pair a b) h =
      let r = and_parts (is_spelled_value a) (is_spelled_value b) h in
      and_both (is_printable_tree (value_spelling a)) (is_printable_tree (value_spelling b) && true) (value-printable a r.0)
      (and_both (is_printable_tree (value_spelling b)) true (value-printable b r.1) refl)
  value-printable (set vs) h = values-printable vs h
  value-printable (seq vs) h = values-printable vs h
  value-printable (map_of es) h = entries-printable es h
  value-printable (tag n) h = tag-word n h

  values-printable : (vs : PlainValues) → are_spelled_values vs ≡ true → is_printable (value_spellings vs) ≡ true
  values-printable none h = refl
  values-printable (more v vs) h =
      let r = and_parts (is_spelled_value v) (are_spelled_values vs) h in
      and_both (is_printable_tree (value_spelling v)) (is_printable (value_spellings vs)) (value-printable v r.0) (values-printable vs r.1)

  entries-printable : (es : PlainEntries) → are_spelled_entries es ≡ true → is_printable (entry_spellings es) ≡ true
  entries-printable no_entry h = refl
  entries-printable (entry k v es) h =
      let q = and_parts (is_spelled_value k && is_spelled_value v) (are_spelled_entries es) h in
      let r = and_parts (is_spelled_value k) (is_spelled_value v) q.0 in
      and_both (is_printable_tree (value_spelling k) && (is_printable_tree (value_spelling v) && true)) (is_printable (entry_spellings es))
      (and_both (is_printable_tree (value_spelling k)) (is_printable_tree (value_spelling v) && true) (value-printable k r.0)
      (and_both (is_printable_tree (value_spelling v)) true (value-printable v r.1) refl))
      (entries-printable es q.1)

-- a forest of one value
pub forest-printable : (trees before : Plains) (t : Plain) (v : PlainValue) → trees ≡ join before (one t) → before ≡ tree.none → t ≡ value_spelling v → is_spelled_value v ≡ true → IsTrue (is_printable trees)
forest-printable trees before t v e f g h =
    let p : is_printable trees ≡ true
    = ap is_printable (e ∙ (λ i. join (f i) (one (g i)))) ∙ and_both (is_printable_tree (value_spelling v)) true (value-printable v h) refl in
    p
