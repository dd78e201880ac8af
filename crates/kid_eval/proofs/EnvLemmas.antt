-- The name that was put last comes first.
use Rattle.std.proofs.Common.{◌≡◌, ℕ, ◌+◌, true, false, List, [], ◌∷◌, ◌++◌, map, length, min, suc, refl, sym, ap, ◌∙◌}
use Rattle.std.specs.Prelude.{reverse}
use Rattle.std.proofs.lemmas.List.{map-append, reverse-append, length-map, length-reverse, length-append}
use Rattle.std.proofs.Math.Nat.{zero-min, min-zero, suc-min-suc}
use Rattle.kid_value.specs.PlainValue.{PlainValue}
use Rattle.kid_value.specs.ValueView.{plain}
use Rattle.kid_value.specs.NameView.{plain_name}
use Rattle.kid_value.specs.declared.value.Value.{Value}
use Rattle.kid_value.specs.declared.sort.Sort.{Sort}
use Rattle.kid_term.specs.Names.{same_name, Names}
use Rattle.kid_term.specs.Eval.{Env, value_at, bound}
use Rattle.kid_eval.specs.EnvView.{plain_binding}
use Rattle.kid_eval.specs.declared.env.Binding.{Binding}

pub pushed_first : (all earlier : List Binding) (b : Binding) (outer : Env) → all ≡ earlier ++ b ∷ [] → reverse (map plain_binding all) ++ outer ≡ plain_binding b ∷ reverse (map plain_binding earlier) ++ outer
pushed_first all earlier b outer e =
    ap (λ z. reverse (map plain_binding z) ++ outer) e ∙ ap (λ z. reverse z ++ outer) (map-append plain_binding earlier (b ∷ []))
    ∙ ap (λ z. z ++ outer) (reverse-append (map plain_binding earlier) (plain_binding b ∷ []))

pub latest_here : (all earlier : List Binding) (b : Binding) (x : List ℕ) (outer : Env) → all ≡ earlier ++ b ∷ [] → same_name x b.name.now ≡ true
    → value_at x (reverse (map plain_binding all) ++ outer) ≡ plain b.value
latest_here all earlier b x outer e h = ap (value_at x) (pushed_first all earlier b outer e) ∙ rw h refl

pub latest_earlier : (all earlier : List Binding) (b : Binding) (x : List ℕ) (outer : Env) → all ≡ earlier ++ b ∷ [] → same_name x b.name.now ≡ false
    → value_at x (reverse (map plain_binding all) ++ outer) ≡ value_at x (reverse (map plain_binding earlier) ++ outer)
latest_earlier all earlier b x outer e h = ap (value_at x) (pushed_first all earlier b outer e) ∙ rw h refl

length-bound : (ns : Names) (vs : List PlainValue) → length (bound ns vs) ≡ min (length ns) (length vs)
length-bound [] vs = sym (zero-min (length vs))
length-bound (n ∷ ns) [] = sym (min-zero (suc (length ns)))
length-bound (n ∷ ns) (v ∷ vs) = ap suc (length-bound ns vs) ∙ sym (suc-min-suc (length ns) (length vs))

pub length_env : (items : List Binding) (names : List (List ℕ × Sort)) (values : List Value)
    → length (reverse (map plain_binding items) ++ bound (map plain_name names) (map plain values)) ≡ length items + min (length names) (length values)
length_env items names values =
    length-append (reverse (map plain_binding items)) (bound (map plain_name names) (map plain values))
    ∙ (λ i. (length-reverse (map plain_binding items) ∙ length-map items plain_binding) i + length-bound (map plain_name names) (map plain values) i)
    ∙ (λ i. length items + min (length-map names plain_name i) (length-map values plain i))
