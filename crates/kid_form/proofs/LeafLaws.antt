-- The laws of the forms of names, numbers, sorts and terms, and of names with their sorts.
use Rattle.std.proofs.Common.{◌≡◌, ℕ, ℤ, pos, negsuc, Bool, true, List, Some, None, sym, ap, ◌∙◌}
use Rattle.std.specs.Prelude.{not, nat_le, if◌then◌else◌}
use Rattle.kid_term.specs.WordTerms.{holds_word_operator}
use Rattle.kid_codec.specs.Name.{is_name}
use Rattle.kid_codec.proofs.Found.{same_some, if_some, number_from}
use Rattle.kid_codec.proofs.Numbers.{number_of-decimal}
use Rattle.kid_codec.proofs.SortBack.{spelled_parts}
use Rattle.kid_codec.proofs.SortTold.{sort_whole}
use Rattle.kid_codec.proofs.TermBack.{term_back}
use Rattle.kid_codec.proofs.TermTold.{term_told}
use Rattle.kid_codec.proofs.ValueBack.{value_back}
use Rattle.kid_sexp.specs.Plain.{Plain}
use Rattle.kid_form.specs.Form.{Form, Lawful}
use Rattle.kid_form.specs.FormLaws.{ValuesAreReadBack}
use Rattle.kid_form.specs.Leaves.{word_form, name_form, digits_form, number_form, natural_up_to, up_to, index_form, path_form, sort_form, term_form, allowed_term_form, theory_term_form, declared, declared_names}
use Rattle.kid_form.proofs.DataLaws.{narrowed-lawful, restricted-lawful, strict-lawful}
use Rattle.kid_form.proofs.ListLaws.{two-lawful, each-lawful}
use Rattle.kid_form.proofs.TreeLaws.{word-lawful, as_atom-lawful, listed-lawful}

pub word_form-lawful : Lawful word_form
word_form-lawful = word-lawful is_name

pub name_form-lawful : Lawful name_form
name_form-lawful = strict-lawful word_form-lawful

pub digits_form-lawful : Lawful digits_form
digits_form-lawful = record {
  told = λ w n e h. let k = number_from w n e in record { tree = k.0; spelled = k.1 };
  back = number_of-decimal;
}

pub number_form-lawful : Lawful number_form
number_form-lawful = as_atom-lawful digits_form-lawful

natural_got : (top : ℕ) (z : ℤ) (n : ℕ) → natural_up_to top z ≡ Some n → (z ≡ pos n) × (nat_le n top ≡ true)
natural_got top (pos m) n e = let r = if_some (nat_le m top) (Some m) n e in let is = same_some m n r.1 in (ap pos is, ap (λ (k : ℕ). nat_le k top) (sym is) ∙ r.0)
natural_got top (negsuc m) n e = cc

pub up_to-lawful : {T : Type 0} (top : ℕ) {f : Form T ℤ} → Lawful f → Lawful (up_to top f)
up_to-lawful top lawful = narrowed-lawful (λ n. nat_le n top) (natural_up_to top) pos lawful (natural_got top) (λ n h. ap (λ (b : Bool). if b then Some n else None) h)

pub index_form-lawful : Lawful index_form
index_form-lawful = up_to-lawful 4294967295 number_form-lawful

pub path_form-lawful : Lawful path_form
path_form-lawful = listed-lawful (each-lawful index_form-lawful)

pub sort_form-lawful : Lawful sort_form
sort_form-lawful = record {
  told = λ t s e h. let k = sort_whole t s e h in record { tree = k.0; spelled = k.1 };
  back = λ s h. (spelled_parts s h).1;
}

pub term_form-lawful : Lawful term_form
term_form-lawful = record {
  told = λ t u e h. let k = term_told t u e h in record { tree = k.tree; spelled = k.spelled };
  back = term_back;
}

pub allowed_term_form-lawful : Lawful allowed_term_form
allowed_term_form-lawful = strict-lawful term_form-lawful

pub theory_term_form-lawful : Lawful theory_term_form
theory_term_form-lawful = restricted-lawful (λ t. not (holds_word_operator t)) term_form-lawful

-- a canonical value is read back; a tree may list the members of its sets in another order
pub value_form_back : ValuesAreReadBack
value_form_back = value_back

pub declared-lawful : {n : Form Plain (List ℕ)} → Lawful n → Lawful (declared n)
declared-lawful lawful = two-lawful lawful sort_form-lawful

pub declared_names-lawful : {n : Form Plain (List ℕ)} → Lawful n → Lawful (declared_names n)
declared_names-lawful lawful = listed-lawful (each-lawful (listed-lawful (declared-lawful lawful)))
