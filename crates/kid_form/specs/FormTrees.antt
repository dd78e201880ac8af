-- Forms of one tree.
use Rattle.std.proofs.Common.{◌⊎◌, inl, inr}
use Rattle.std.specs.Prelude.{ℕ, Bool, ◌&&◌, List, [], ◌∷◌, Option, Some, None, option_map}
use Rattle.std.specs.List.{list_all}
use Rattle.kid_sexp.specs.Plain.{Plain, Plains, atom, list, none, more}
use Rattle.kid_value.specs.SortOrder.{both}
use Rattle.kid_codec.specs.Shape.{form}
use Rattle.kid_codec.specs.SortSpelling.{headed as headed_tree}
use Rattle.kid_form.specs.Form.{Form}
use Rattle.kid_form.specs.FormLists.{read_each, spell_each}

-- any word; those that pass the test have a spelling
abbrev pub read_word : Plain → Option (List ℕ)
read_word (atom w) = Some w
read_word (list ts) = None

abbrev pub word : (List ℕ → Bool) → Form Plain (List ℕ)
word p = record { read = read_word; spell = λ w. atom w; valid = p; spelled = p }

-- a word of a form of words
abbrev pub read_atom : {A : Type 0} → Form (List ℕ) A → Plain → Option A
read_atom f (atom w) = f.read w
read_atom f (list ts) = None

abbrev pub as_atom : {A : Type 0} → Form (List ℕ) A → Form Plain A
as_atom f = record { read = read_atom f; spell = λ a. atom (f.spell a); valid = f.valid; spelled = f.spelled }

-- a list of trees without a word of its own
abbrev pub read_listed : {A : Type 0} → Form Plains A → Plain → Option A
read_listed g (atom w) = None
read_listed g (list ts) = g.read ts

abbrev pub listed : {A : Type 0} → Form Plains A → Form Plain A
listed g = record { read = read_listed g; spell = λ a. list (g.spell a); valid = g.valid; spelled = g.spelled }

-- a list that begins with a word of its own
abbrev pub read_parts : {A : Type 0} → Form Plains A → Option Plains → Option A
read_parts g None = None
read_parts g (Some ts) = g.read ts

abbrev pub headed : {A : Type 0} → List ℕ → Form Plains A → Form Plain A
headed w g = record { read = λ t. read_parts g (form w t); spell = λ a. headed_tree w (g.spell a); valid = g.valid; spelled = g.spelled }

-- one or the other
abbrev pub test_either : {A B : Type 0} → (A → Bool) → (B → Bool) → A ⊎ B → Bool
test_either p q (inl a) = p a
test_either p q (inr b) = q b

-- a list that begins with the word, or else another form
abbrev pub read_either : {A B : Type 0} → Form Plains A → Form Plain B → Option Plains → Plain → Option (A ⊎ B)
read_either g f (Some ts) t = option_map (λ a. inl a) (g.read ts)
read_either g f None t = option_map (λ b. inr b) (f.read t)

abbrev pub spell_either : {A B : Type 0} → List ℕ → Form Plains A → Form Plain B → A ⊎ B → Plain
spell_either w g f (inl a) = headed_tree w (g.spell a)
spell_either w g f (inr b) = f.spell b

abbrev pub either : {A B : Type 0} → List ℕ → Form Plains A → Form Plain B → Form Plain (A ⊎ B)
either w g f = record {
  read = λ t. read_either g f (form w t) t;
  spell = spell_either w g f;
  valid = test_either g.valid f.valid;
  spelled = test_either g.spelled f.spelled;
}

-- a word alone, or a list of a word and one or more trees
abbrev pub read_some : {A : Type 0} → Form Plain A → Plains → Option (List A)
read_some f none = None
read_some f (more t ts) = read_each f (more t ts)

abbrev pub read_applied : {A B : Type 0} → Form (List ℕ) A → Form Plain B → Plain → Option (A × List B)
read_applied f g (atom w) = option_map (λ a. (a, [])) (f.read w)
read_applied f g (list none) = None
read_applied f g (list (more (list us) ts)) = None
read_applied f g (list (more (atom w) ts)) = both (λ a bs. (a, bs)) (f.read w) (read_some g ts)

abbrev pub spell_applied : {A B : Type 0} → Form (List ℕ) A → Form Plain B → A → List B → Plain
spell_applied f g a [] = atom (f.spell a)
spell_applied f g a (b ∷ bs) = list (more (atom (f.spell a)) (spell_each g (b ∷ bs)))

abbrev pub applied : {A B : Type 0} → Form (List ℕ) A → Form Plain B → Form Plain (A × List B)
applied f g = record {
  read = read_applied f g;
  spell = λ p. spell_applied f g p.0 p.1;
  valid = λ p. f.valid p.0 && list_all g.valid p.1;
  spelled = λ p. f.spelled p.0 && list_all g.spelled p.1;
}
