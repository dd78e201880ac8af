-- Names that are new one after another.
use Rattle.std.proofs.Common.{◌≡◌, ℕ, ◌+◌, ◌<◌, Bool, true, false, not, ◌&&◌, ◌||◌, List, [], ◌∷◌, ◌++◌, length, get_or, drop, take, map, refl, sym, ap, ◌∙◌, append_assoc}
use Rattle.std.proofs.lemmas.List.{map-append, take_more, drop_more}
use Rattle.kid_value.specs.NameView.{plain_name}
use Rattle.kid_value.specs.declared.sort.Sort.{Sort}
use Rattle.kid_term.specs.Names.{Names, same_name, is_named}
use Rattle.kid_sorting.specs.Declaring.{is_new, are_new}

or_assoc : (a b c : Bool) → (a || (b || c)) ≡ (a || b || c)
or_assoc true b c = refl
or_assoc false b c = refl

-- a name is among the one list and the other
pub is_named_append : (x : List ℕ) (ns ms : Names) → is_named x (ns ++ ms) ≡ (is_named x ns || is_named x ms)
is_named_append x [] ms = refl
is_named_append x (n ∷ ns) ms = ap (λ b. same_name x n.0 || b) (is_named_append x ns ms) ∙ or_assoc (same_name x n.0) (is_named x ns) (is_named x ms)

are_new-front : (taken : Names) (xs : List (List ℕ × Sort)) (i : ℕ) (item : List ℕ × Sort) → i < length xs → item ≡ get_or xs i item
    → are_new (taken ++ map plain_name (take i xs)) (map plain_name (drop i xs))
    ≡ (is_new (taken ++ map plain_name (take i xs)) item.0 && are_new (taken ++ map plain_name (take (i + 1) xs)) (map plain_name (drop (i + 1) xs)))
are_new-front taken xs i item within is =
    let grown : map plain_name (take (i + 1) xs) ≡ map plain_name (take i xs) ++ plain_name item ∷ [] =
    ap (map plain_name) (take_more xs i item within) ∙ map-append plain_name (take i xs) (get_or xs i item ∷ [])
    ∙ ap (λ (y : List ℕ × Sort). map plain_name (take i xs) ++ plain_name y ∷ []) (sym is) in
    let all : (taken ++ map plain_name (take i xs)) ++ plain_name item ∷ [] ≡ taken ++ map plain_name (take (i + 1) xs) =
    append_assoc taken (map plain_name (take i xs)) (plain_name item ∷ []) ∙ ap (λ (ns : Names). taken ++ ns) (sym grown) in
    ap (λ (ys : List (List ℕ × Sort)). are_new (taken ++ map plain_name (take i xs)) (map plain_name ys)) (drop_more xs i item within ∙ ap (λ (y : List ℕ × Sort). y ∷ drop (i + 1) xs) (sym is))
    ∙ ap (λ (ns : Names). is_new (taken ++ map plain_name (take i xs)) item.0 && are_new ns (map plain_name (drop (i + 1) xs))) all

pub are_new-next : (taken : Names) (xs : List (List ℕ × Sort)) (i : ℕ) (item : List ℕ × Sort) (total : Bool) → i < length xs → item ≡ get_or xs i item
    → is_named item.0 (taken ++ map plain_name (take i xs)) ≡ false
    → are_new (taken ++ map plain_name (take i xs)) (map plain_name (drop i xs)) ≡ total
    → are_new (taken ++ map plain_name (take (i + 1) xs)) (map plain_name (drop (i + 1) xs)) ≡ total
are_new-next taken xs i item total within is new told =
    ap (λ b. not b && are_new (taken ++ map plain_name (take (i + 1) xs)) (map plain_name (drop (i + 1) xs))) (sym new)
    ∙ sym (are_new-front taken xs i item within is) ∙ told

pub are_new-refused : (taken : Names) (xs : List (List ℕ × Sort)) (i : ℕ) (item : List ℕ × Sort) (total : Bool) → i < length xs → item ≡ get_or xs i item
    → is_named item.0 (taken ++ map plain_name (take i xs)) ≡ true
    → are_new (taken ++ map plain_name (take i xs)) (map plain_name (drop i xs)) ≡ total → false ≡ total
are_new-refused taken xs i item total within is named told =
    ap (λ b. not b && are_new (taken ++ map plain_name (take (i + 1) xs)) (map plain_name (drop (i + 1) xs))) (sym named)
    ∙ sym (are_new-front taken xs i item within is) ∙ told
