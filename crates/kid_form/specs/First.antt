-- The form that says how many answers are wanted.
use Rattle.std.specs.Prelude.{ℕ, ℤ, pos, negsuc, Bool, ◌&&◌, nat_le, Option, Some, None, if◌then◌else◌, codes}
use Rattle.kid_sexp.specs.Plain.{Plain}
use Rattle.kid_form.specs.Form.{Form}
use Rattle.kid_form.specs.FormData.{narrowed}
use Rattle.kid_form.specs.FormLists.{one}
use Rattle.kid_form.specs.FormTrees.{headed}
use Rattle.kid_form.specs.Leaves.{number_form}

-- from 1 to 1,000,000
abbrev pub is_count : ℕ → Bool
is_count n = nat_le 1 n && nat_le n 1000000

abbrev pub count_of : ℤ → Option ℕ
count_of (pos n) = if is_count n then Some n else None
count_of (negsuc n) = None

-- (first NUMBER)
abbrev pub first_form : Form Plain ℕ
first_form = headed (codes "first") (one (narrowed is_count count_of pos number_form))
