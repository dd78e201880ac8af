-- Values, members, entries and terms as they are taken in.
use Rattle.std.proofs.Common.{◌≡◌, List, [], ◌∷◌, ◌++◌, Option, Some, None, refl, sym, ap, ◌∙◌, append_assoc, append-nil}
use Rattle.std.specs.Prelude.{option_map}
use Rattle.kid_value.specs.PlainValue.{PlainValue}
use Rattle.kid_value.specs.ValueSet.{put, set_of}
use Rattle.kid_codec.specs.NameSpelling.{spelled_name, spelled_names}
use Rattle.kid_codec.specs.Reading.{◌>>=◌}
use Rattle.kid_codec.specs.ValueSpelling.{spelled_value, spelled_values, spelled_entry, spelled_entries, with_entry, with_entries}
use Rattle.kid_codec.specs.TermSpelling.{spelled_term, spelled_terms}
use Rattle.kid_codec.proofs.Each.{ReadsEach}
use Rattle.kid_codec.proofs.Puts.{puts, puts-set}

pub names_each : ReadsEach spelled_name spelled_names
names_each = record { at_none = refl; at_more = λ t ts. refl }

pub values_each : ReadsEach spelled_value spelled_values
values_each = record { at_none = refl; at_more = λ t ts. refl }

pub entries_each : ReadsEach spelled_entry spelled_entries
entries_each = record { at_none = refl; at_more = λ t ts. refl }

pub terms_each : ReadsEach spelled_term spelled_terms
terms_each = record { at_none = refl; at_more = λ t ts. refl }

pub pushed : {A : Type 0} (old new : List A) (x : A) (xs : List A) → new ≡ old ++ x ∷ [] → Some (old ++ x ∷ xs) ≡ Some (new ++ xs)
pushed {A = A} old new x xs is = ap Some (sym (append_assoc old (x ∷ []) xs) ∙ ap (λ (l : List A). l ++ xs) (sym is))

pub ended : {A : Type 0} (xs : List A) → Some (xs ++ []) ≡ Some xs
ended xs = ap Some (append-nil xs)

pub member_put : (old new : List PlainValue) (v : PlainValue) (vs : List PlainValue) → new ≡ put v old → Some (puts old (v ∷ vs)) ≡ Some (puts new vs)
member_put old new v vs is = ap (λ (l : List PlainValue). Some (puts l vs)) (sym is)

pub set_read : (o : Option (List PlainValue)) → option_map set_of o ≡ (o >>= λ vs. Some (puts [] vs))
set_read None = refl
set_read (Some vs) = ap Some (sym (puts-set vs))

pub entry_put : (old new : List (PlainValue × PlainValue)) (e : PlainValue × PlainValue) (es : List (PlainValue × PlainValue)) → with_entry old e ≡ Some new → with_entries old (e ∷ es) ≡ with_entries new es
entry_put old new e es is = ap (λ (o : Option (List (PlainValue × PlainValue))). o >>= λ more. with_entries more es) is

pub entry_refused : (old : List (PlainValue × PlainValue)) (e : PlainValue × PlainValue) (es : List (PlainValue × PlainValue)) → with_entry old e ≡ None → with_entries old (e ∷ es) ≡ None
entry_refused old e es is = ap (λ (o : Option (List (PlainValue × PlainValue))). o >>= λ more. with_entries more es) is
