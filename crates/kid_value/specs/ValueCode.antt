-- How the logic stores a value.
use Rattle.std.specs.Prelude.{◌≡◌, ℕ, List, [], ◌∷◌, refl, pos, negsuc, true, false}
use Rattle.std.proofs.Common.{ap, ◌∙◌, sym}
use Rattle.std.specs.Coded.{Coded, coded_list, coded×}
use base.Stored.{Gv, gnil, gnum, gcons}
use Rattle.kid_value.specs.PlainValue.{PlainValue, int, bool, pair, set, seq, map_of, tag, PlainValues, none, more, PlainEntries, no_entry, entry}

abbrev pub name_code : List ℕ → Gv
name_code [] = gnil
name_code (n ∷ ns) = gcons (gnum n) (name_code ns)

abbrev pub decoded_name : Gv → List ℕ
decoded_name gnil = []
decoded_name (gnum n) = []
decoded_name (gcons gnil x) = []
decoded_name (gcons (gnum n) x) = n ∷ decoded_name x
decoded_name (gcons (gcons a b) x) = []

pub decoded-name_code : (n : List ℕ) → decoded_name (name_code n) ≡ n
decoded-name_code [] = refl
decoded-name_code (n ∷ ns) = ap (λ z. n ∷ z) (decoded-name_code ns)

abbrev mutual
  pub code : PlainValue → Gv
  code (int (pos n)) = gnum n
  code (int (negsuc n)) = gcons (gnum n) gnil
  code (bool true) = gcons gnil gnil
  code (bool false) = gnil
  code (pair a b) = gcons gnil (gcons (code a) (code b))
  code (set vs) = gcons (gcons gnil gnil) (codes vs)
  code (seq vs) = gcons (gcons (gnum 0) gnil) (codes vs)
  code (map_of es) = gcons (gcons (gcons gnil gnil) gnil) (entry_codes es)
  code (tag n) = gcons (gnum 0) (gcons gnil (name_code n))

  pub codes : PlainValues → Gv
  codes none = gnil
  codes (more v vs) = gcons (code v) (codes vs)

  pub entry_codes : PlainEntries → Gv
  entry_codes no_entry = gnil
  entry_codes (entry k v es) = gcons (gcons (code k) (code v)) (entry_codes es)

abbrev mutual
  pub decoded : Gv → PlainValue
  decoded gnil = bool false
  decoded (gnum n) = int (pos n)
  decoded (gcons (gnum n) gnil) = int (negsuc n)
  decoded (gcons (gnum n) (gnum m)) = int (negsuc n)
  decoded (gcons (gnum n) (gcons a b)) = tag (decoded_name b)
  decoded (gcons gnil gnil) = bool true
  decoded (gcons gnil (gnum n)) = bool true
  decoded (gcons gnil (gcons a b)) = pair (decoded a) (decoded b)
  decoded (gcons (gcons gnil t) x) = set (decoded_items x)
  decoded (gcons (gcons (gnum n) t) x) = seq (decoded_items x)
  decoded (gcons (gcons (gcons s u) t) x) = map_of (decoded_entries x)

  pub decoded_items : Gv → PlainValues
  decoded_items gnil = none
  decoded_items (gnum n) = none
  decoded_items (gcons a b) = more (decoded a) (decoded_items b)

  pub decoded_entries : Gv → PlainEntries
  decoded_entries gnil = no_entry
  decoded_entries (gnum n) = no_entry
  decoded_entries (gcons gnil b) = no_entry
  decoded_entries (gcons (gnum n) b) = no_entry
  decoded_entries (gcons (gcons k v) b) = entry (decoded k) (decoded v) (decoded_entries b)

mutual
  pub decoded-code : (v : PlainValue) → decoded (code v) ≡ v
  decoded-code (int (pos n)) = refl
  decoded-code (int (negsuc n)) = refl
  decoded-code (bool true) = refl
  decoded-code (bool false) = refl
  decoded-code (pair a b) = λ i. pair (decoded-code a i) (decoded-code b i)
  decoded-code (set vs) = ap set (decoded-codes vs)
  decoded-code (seq vs) = ap seq (decoded-codes vs)
  decoded-code (map_of es) = ap map_of (decoded-entry_codes es)
  decoded-code (tag n) = ap tag (decoded-name_code n)

  pub decoded-codes : (vs : PlainValues) → decoded_items (codes vs) ≡ vs
  decoded-codes none = refl
  decoded-codes (more v vs) = λ i. more (decoded-code v i) (decoded-codes vs i)

  pub decoded-entry_codes : (es : PlainEntries) → decoded_entries (entry_codes es) ≡ es
  decoded-entry_codes no_entry = refl
  decoded-entry_codes (entry k v es) = λ i. entry (decoded-code k i) (decoded-code v i) (decoded-entry_codes es i)

abbrev pub coded_value : Coded PlainValue
coded_value = record { code = code; inj = λ x y p. sym (decoded-code x) ∙ ap decoded p ∙ decoded-code y }

abbrev pub coded_values : Coded (List PlainValue)
coded_values = coded_list coded_value

abbrev pub coded_entries : Coded (List (PlainValue × PlainValue))
coded_entries = coded_list (coded× coded_value coded_value)
