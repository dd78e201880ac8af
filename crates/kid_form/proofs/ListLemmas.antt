-- Lists of trees are read and put one after another.
use Rattle.std.proofs.Common.{◌≡◌, List, [], ◌∷◌, ◌++◌, map, Some, refl, ap, ◌∙◌}
use Rattle.std.proofs.lemmas.List.{map-append}
use Rattle.kid_sexp.specs.Plain.{Plain}
use Rattle.kid_codec.proofs.Each.{ReadsEach, PrintsEach}
use Rattle.kid_codec.proofs.Taken.{pushed}
use Rattle.kid_form.specs.Form.{Form}
use Rattle.kid_form.specs.FormLists.{read_each, spell_each}

pub reads : {A : Type 0} (f : Form Plain A) → ReadsEach f.read (read_each f)
reads f = record { at_none = refl; at_more = λ t ts. refl }

pub puts : {X A : Type 0} (view : X → A) (f : Form Plain A) → PrintsEach (λ x. f.spell (view x)) (λ xs. spell_each f (map view xs))
puts view f = record { at_none = refl; at_more = λ x xs. refl }

-- what was pushed is seen after the others
pub seen : {X A : Type 0} (view : X → A) (old new : List X) (x : X) (others : List A) → new ≡ old ++ x ∷ [] → Some (map view old ++ view x ∷ others) ≡ Some (map view new ++ others)
seen view old new x others is = pushed (map view old) (map view new) (view x) others (ap (map view) is ∙ map-append view old (x ∷ []))
