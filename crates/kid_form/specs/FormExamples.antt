-- Each builder of forms at work: a small form of each, what it reads, and what it refuses.
use Rattle.std.proofs.Common.{◌⊎◌, inl, inr}
use Rattle.std.specs.Prelude.{◌≡◌, ℕ, pos, negsuc, Bool, true, false, ◌==◌, List, [], ◌∷◌, Some, None, codes}
use Rattle.kid_sexp.specs.Plain.{Plain, atom, list, none, more}
use Rattle.kid_codec.specs.SortSpelling.{number_tree, headed as headed_tree}
use Rattle.kid_form.specs.First.{first_form}
use Rattle.kid_form.specs.Form.{Form, Lawful}
use Rattle.kid_form.specs.FormData.{renamed, restricted, strict, split}
use Rattle.kid_form.specs.FormLists.{one, two, four, next, each}
use Rattle.kid_form.specs.FormTrees.{word, as_atom, listed, headed, either, applied}
use Rattle.kid_form.specs.FormWords.{among, letter}

-- ---- forms of words: red or green, either after an e, and one of these

abbrev pub color_word : Bool → List ℕ
color_word true = codes "red"
color_word false = codes "green"

abbrev pub color : Form (List ℕ) Bool
color = among color_word (true ∷ false ∷ [])

abbrev pub extra_color : Form (List ℕ) Bool
extra_color = letter 101 color

abbrev pub begins_with_e : List ℕ → Bool
begins_with_e [] = false
begins_with_e (c ∷ cs) = c == 101

abbrev pub any_color : Form Plain (Bool ⊎ Bool)
any_color = as_atom (split begins_with_e extra_color color)

-- ---- what they make of trees

abbrev pub a : Plain
a = atom (codes "a")

abbrev pub b : Plain
b = atom (codes "b")

abbrev pub is_a : List ℕ → Bool
is_a [] = false
is_a (c ∷ cs) = c == 97

abbrev pub any_word : Form Plain (List ℕ)
any_word = word is_a

-- forms of words
pub record WordExamples : Type 0 where
  pub among_read : color.read (codes "green") ≡ Some false
  pub among_refused : color.read (codes "greener") ≡ None
  pub letter_read : extra_color.read (codes "ered") ≡ Some true
  pub letter_refused : extra_color.read (codes "red") ≡ None
  pub split_read : any_color.read (atom (codes "egreen")) ≡ Some (inl false)
  pub split_else : any_color.read (atom (codes "red")) ≡ Some (inr true)
  pub as_atom_refused : any_color.read (list none) ≡ None
  pub lawful : Lawful any_color

-- forms of lists
pub record ListExamples : Type 0 where
  pub one_read : (one any_word).read (more a none) ≡ Some (codes "a")
  pub one_refused : (one any_word).read (more a (more b none)) ≡ None
  pub two_read : (two any_word any_word).read (more a (more b none)) ≡ Some (codes "a", codes "b")
  pub two_refused : (two any_word any_word).read (more a none) ≡ None
  pub four_read : (four any_word any_word any_word any_word).read (more a (more b (more a (more b none)))) ≡ Some (codes "a", codes "b", codes "a", codes "b")
  pub four_refused : (four any_word any_word any_word any_word).read (more a (more b (more a none))) ≡ None
  pub next_read : (next any_word (each any_word)).read (more a (more b none)) ≡ Some (codes "a", codes "b" ∷ [])
  pub next_refused : (next any_word (each any_word)).read none ≡ None
  pub each_read : (each any_word).read none ≡ Some []
  pub each_refused : (each any_word).read (more a (more (list none) none)) ≡ None

-- forms of trees, and of other data
pub record TreeExamples : Type 0 where
  pub word_read : any_word.read b ≡ Some (codes "b")
  pub strict_refused : (strict any_word).read b ≡ None
  pub listed_read : (listed (one any_word)).read (list (more a none)) ≡ Some (codes "a")
  pub listed_refused : (listed (one any_word)).read a ≡ None
  pub headed_read : (headed (codes "b") (one any_word)).read (list (more b (more a none))) ≡ Some (codes "a")
  pub headed_refused : (headed (codes "b") (one any_word)).read (list (more a (more a none))) ≡ None
  pub either_read : (either (codes "b") (each any_word) any_word).read (list (more b (more a none))) ≡ Some (inl (codes "a" ∷ []))
  pub either_else : (either (codes "b") (each any_word) any_word).read b ≡ Some (inr (codes "b"))
  pub applied_read : (applied color any_word).read (list (more (atom (codes "red")) (more a none))) ≡ Some (true, codes "a" ∷ [])
  pub applied_alone : (applied color any_word).read (atom (codes "red")) ≡ Some (true, [])
  pub applied_refused : (applied color any_word).read (list (more (atom (codes "red")) none)) ≡ None
  pub renamed_read : (renamed (λ w. w ∷ []) (λ ws. codes "a") any_word).read b ≡ Some (codes "b" ∷ [])
  pub restricted_refused : (restricted is_a any_word).read b ≡ None

-- numbers of answers, which are numbers that are narrowed
pub record CountExamples : Type 0 where
  pub count_read : first_form.read (headed_tree (codes "first") (more (number_tree (pos 20)) none)) ≡ Some 20
  pub zero_refused : first_form.read (headed_tree (codes "first") (more (number_tree (pos 0)) none)) ≡ None
  pub lower_refused : first_form.read (headed_tree (codes "first") (more (number_tree (negsuc 4)) none)) ≡ None

pub record FormExamples : Type 0 where
  pub words : WordExamples
  pub lists : ListExamples
  pub trees : TreeExamples
  pub counts : CountExamples
