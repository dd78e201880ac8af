-- Names of facts.
use Rattle.std.proofs.Common.{◌≡◌, ℕ, true, not, ◌||◌, List, [], ◌∷◌, ◌++◌, refl, sym, ap, ◌∙◌}
use Rattle.std.proofs.lemmas.List.{map-append}
use Rattle.kid_value.proofs.SortLemmas.{and_parts, and_both}
use Rattle.kid_value.specs.NameSet.{is_among}
use Rattle.kid_term.specs.Names.{Names, same_name, is_named}
use Rattle.kid_term.specs.PlainTheory.{PlainTheory}
use Rattle.kid_sorting.specs.Declaring.{is_new, are_new, are_allowed}
use Rattle.kid_sorting.proofs.SoundDefinitions.{names-allowed}
use Rattle.kid_kernel.specs.Differ.{words_of, differ, are_apart}
use Rattle.kid_kernel.specs.Held.{AreNames}
use Rattle.kid_kernel.proofs.Differing.{apart_parts}

named_among : (x : List ℕ) (ns : Names) → is_named x ns ≡ is_among x (words_of ns)
named_among x [] = refl
named_among x (n ∷ ns) = ap (λ b. same_name x n.0 || b) (named_among x ns)

-- new names differ, from one another and from those that are taken
new_differ : (taken ns : Names) → are_new taken ns ≡ true → (are_apart (words_of ns) (words_of taken) ≡ true) × (differ (words_of ns) ≡ true)
new_differ taken [] p = (refl, refl)
new_differ taken (n ∷ ns) p =
    let a = and_parts (is_new taken n.0) (are_new (taken ++ n ∷ []) ns) p in
    let b = new_differ (taken ++ n ∷ []) ns a.1 in
    let more = sym (ap (are_apart (words_of ns)) (map-append (λ m. m.0) taken (n ∷ []))) in
    let c = apart_parts (words_of ns) (words_of taken) n.0 (more ∙ b.0) in (
      and_both (not (is_among n.0 (words_of taken))) (are_apart (words_of ns) (words_of taken)) (ap not (sym (named_among n.0 taken)) ∙ a.0) c.0,
      and_both (not (is_among n.0 (words_of ns))) (differ (words_of ns)) (ap not c.1) b.1,
    )

pub names_are : (t : PlainTheory) (taken more names : Names) → names ≡ t.signature.inputs ++ more → are_new taken names ≡ true → are_allowed names ≡ true → AreNames t names
names_are t taken more names e p q = record { differ = (new_differ taken names p).1; more = more; inputs_first = e; allowed = names-allowed names q }
