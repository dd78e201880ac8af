-- Forms of the same texts for other data.
use Rattle.std.proofs.Common.{◌⊎◌, inl, inr}
use Rattle.std.specs.Prelude.{Bool, true, false, ◌&&◌, Option, Some, None, option_map, option_and_then, if◌then◌else◌}
use Rattle.kid_form.specs.Form.{Form}
use Rattle.kid_form.specs.FormTrees.{test_either}

-- data that are seen as other data, and back
abbrev pub renamed : {T A B : Type 0} → (A → B) → (B → A) → Form T A → Form T B
renamed into from f = record { read = λ t. option_map into (f.read t); spell = λ b. f.spell (from b); valid = λ b. f.valid (from b); spelled = λ b. f.spelled (from b) }

-- some of the data, seen as those other data that pass a test
abbrev pub narrowed : {T A B : Type 0} → (B → Bool) → (A → Option B) → (B → A) → Form T A → Form T B
narrowed p get put f = record { read = λ t. option_and_then get (f.read t); spell = λ b. f.spell (put b); valid = λ b. f.valid (put b); spelled = λ b. f.spelled (put b) && p b }

abbrev pub if_passed : {A : Type 0} → (A → Bool) → A → Option A
if_passed p a = if p a then Some a else None

-- those of the data that pass a test
abbrev pub restricted : {T A : Type 0} → (A → Bool) → Form T A → Form T A
restricted p f = record { read = λ t. option_and_then (if_passed p) (f.read t); spell = f.spell; valid = f.valid; spelled = λ a. f.spelled a && p a }

-- valid data alone, so that no test is left to others
abbrev pub strict : {T A : Type 0} → Form T A → Form T A
strict f = record { read = λ t. option_and_then (if_passed f.valid) (f.read t); spell = f.spell; valid = λ a. true; spelled = λ a. f.spelled a && f.valid a }

-- one form for the texts that pass a test, and another for the rest
abbrev pub read_split : {T A B : Type 0} → Form T A → Form T B → Bool → T → Option (A ⊎ B)
read_split f g true t = option_map (λ a. inl a) (f.read t)
read_split f g false t = option_map (λ b. inr b) (g.read t)

abbrev pub spell_split : {T A B : Type 0} → Form T A → Form T B → A ⊎ B → T
spell_split f g (inl a) = f.spell a
spell_split f g (inr b) = g.spell b

abbrev pub split : {T A B : Type 0} → (T → Bool) → Form T A → Form T B → Form T (A ⊎ B)
split test f g = record { read = λ t. read_split f g (test t) t; spell = spell_split f g; valid = test_either f.valid g.valid; spelled = test_either f.spelled g.spelled }
