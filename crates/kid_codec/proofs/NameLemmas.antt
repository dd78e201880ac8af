-- Names and tags, read and told.
use Rattle.std.proofs.Common.{◌≡◌, ℕ, Bool, true, List, [], ◌∷◌, Some, None, refl, sym, ap, ◌∙◌, arith}
use Rattle.std.specs.Prelude.{◌==◌, option_map, if◌then◌else◌}
use Rattle.std.specs.List.{list_all}
use Rattle.std.proofs.lemmas.Bool.Decides.{nat_tests}
use Rattle.kid_sexp.specs.Plain.{Plain, Plains, atom, list, none, more}
use Rattle.kid_value.specs.PlainValue as value
use Rattle.kid_value.specs.PlainValue.{int}
use Rattle.kid_value.proofs.SortLemmas.{and_parts, and_both}
use Rattle.kid_term.specs.PlainTerm as term
use Rattle.kid_term.specs.PlainTerm.{number}
use Rattle.kid_codec.specs.Name.{is_name}
use Rattle.kid_codec.specs.NameSpelling.{spelled_name, spelled_names, name_spellings, tag_word, is_tag, tag_name}
use Rattle.kid_codec.specs.Number.{number_of}
use Rattle.kid_codec.specs.Reading.{◌>>=◌}
use Rattle.kid_codec.specs.TermSpelling.{atom_term}
use Rattle.kid_codec.specs.ValueSpelling.{atom_value}
use Rattle.kid_codec.proofs.Found.{same_some, if_some, mapped, bind_some}

named : (w x : List ℕ) → (if is_name w then Some w else None) ≡ Some x → (w ≡ x) × (is_name x ≡ true)
named w x p = let r = if_some (is_name w) (Some w) x p in let e = same_some w x r.1 in (e, ap is_name (sym e) ∙ r.0)

pub name_told : (t : Plain) (x : List ℕ) → spelled_name t ≡ Some x → (t ≡ atom x) × (is_name x ≡ true)
name_told (atom w) x p = let r = named w x p in (ap atom r.0, r.1)
name_told (list ts) x p = cc

pub names_told : (ts : Plains) (ns : List (List ℕ)) → spelled_names ts ≡ Some ns → (ts ≡ name_spellings ns) × (list_all is_name ns ≡ true)
names_told none ns p = let is = same_some [] ns p in (ap name_spellings is, ap (list_all is_name) (sym is))
names_told (more t ts) ns p =
    let m = bind_some (spelled_name t) (λ (n : List ℕ). option_map (λ (l : List (List ℕ)). n ∷ l) (spelled_names ts)) ns p in
    let x : List ℕ = m.0 in
    let k = mapped (λ (l : List (List ℕ)). x ∷ l) (spelled_names ts) ns m.2 in
    let xs : List (List ℕ) = k.0 in
    let is : x ∷ xs ≡ ns = k.2 in
    let one = name_told t x m.1 in
    let rest = names_told ts xs k.1 in
    let c = one.0 in
    let d = rest.0 in
    ((λ i. more (c i) (d i)) ∙ ap name_spellings is, ap (list_all is_name) (sym is) ∙ and_both (is_name x) (list_all is_name xs) one.1 rest.1)

pub names_back : (ns : List (List ℕ)) → list_all is_name ns ≡ true → spelled_names (name_spellings ns) ≡ Some ns
names_back [] h = refl
names_back (n ∷ ns) h =
    let r = and_parts (is_name n) (list_all is_name ns) h in
    let p = r.0 in
    let q = names_back ns r.1 in
    λ i. (if p i then Some n else None) >>= λ x. option_map (λ (l : List (List ℕ)). x ∷ l) (q i)

counted : (m n : ℕ) → (m == n) ≡ true → m ≡ n
counted m n p = grind (arith, nat_tests)

pub tag_told : (w : List ℕ) → is_tag w ≡ true → (w ≡ tag_word (tag_name w)) × (is_name (tag_name w) ≡ true)
tag_told [] h = cc
tag_told (c ∷ n) h =
    let r = and_parts (c == 39) (is_name n) h in
    let p = counted c 39 r.0 in
    (λ i. p i ∷ n, r.1)

pub tag_read : (n : List ℕ) → is_name n ≡ true → atom_value (tag_word n) ≡ Some (value.tag n)
tag_read n h = ap (λ (b : Bool). if b then Some (value.tag n) else option_map int (number_of (tag_word n))) h

pub tag_term_read : (n : List ℕ) → is_name n ≡ true → atom_term (tag_word n) ≡ Some (term.tag n)
tag_term_read n h = ap (λ (b : Bool). if b then Some (term.tag n) else option_map number (number_of (tag_word n))) h
