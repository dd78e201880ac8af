-- Members and entries that are put one after another.
use Rattle.std.proofs.Common.{◌≡◌, ◌≢◌, ℕ, suc, Bool, true, false, List, [], ◌∷◌, length, Some, None, refl, sym, ap, ◌∙◌, arith}
use Rattle.std.specs.Prelude.{◌||◌, if◌then◌else◌}
use Rattle.std.specs.declared.cmp.Ordering.{Ordering}
use Rattle.std.specs.declared.cmp.Ordering.TheVariants.{Less, Equal, Greater}
use Rattle.std.specs.Ordering.{is_eq}
use Rattle.kid_value.specs.PlainValue.{PlainValue}
use Rattle.kid_value.specs.ValueMap.{put_entry, keys}
use Rattle.kid_value.specs.ValueOrder.{value_cmp}
use Rattle.kid_value.specs.ValueSet.{Ascends, AllAfter, value_eq, is_member, put, put_by, union, set_of}
use Rattle.kid_codec.specs.ValueSpelling.{with_entry}
use Rattle.kid_value.proofs.CanonicalLemmas.{keys-put_entry}
use Rattle.kid_value.proofs.ValueSetLaws.{Ascends-put, Ascends-union, is_member-put, is_member-union, is_member-after, AllAfter-before, same_members}

-- each is put in turn
abbrev pub puts : List PlainValue → List PlainValue → List PlainValue
puts known [] = known
puts known (v ∷ vs) = puts (put v known) vs

or_swap : (a b c : Bool) → ((a || b) || c) ≡ (b || (a || c))
or_swap true true c = refl
or_swap true false c = refl
or_swap false true c = refl
or_swap false false c = refl

or_assoc : (a b c : Bool) → ((a || b) || c) ≡ (a || (b || c))
or_assoc true b c = refl
or_assoc false b c = refl

union-put : (v : PlainValue) (vs known : List PlainValue) → Ascends known → union vs (put v known) ≡ put v (union vs known)
union-put v vs known up =
    same_members _ _ (Ascends-union vs (put v known) (Ascends-put v known up)) (Ascends-put v (union vs known) (Ascends-union vs known up))
    (λ x. is_member-union x vs (put v known) ∙ ap (λ (b : Bool). is_member x vs || b) (is_member-put x v known)
    ∙ sym (or_swap (value_eq x v) (is_member x vs) (is_member x known))
    ∙ or_assoc (value_eq x v) (is_member x vs) (is_member x known)
    ∙ ap (λ (b : Bool). value_eq x v || b) (sym (is_member-union x vs known)) ∙ sym (is_member-put x v (union vs known)))

pub puts-union : (known vs : List PlainValue) → Ascends known → puts known vs ≡ union vs known
puts-union known [] up = refl
puts-union known (v ∷ vs) up = puts-union (put v known) vs (Ascends-put v known up) ∙ union-put v vs known up

pub puts-set : (vs : List PlainValue) → puts [] vs ≡ set_of vs
puts-set vs = puts-union [] vs tt

-- a set grows by one where the member is new
abbrev grown : Bool → ℕ → ℕ
grown true n = n
grown false n = suc n

grown-suc : (b : Bool) (n : ℕ) → suc (grown b n) ≡ grown b (suc n)
grown-suc true n = refl
grown-suc false n = refl

by_order : (v w : PlainValue) (vs : List PlainValue) (n : ℕ) → AllAfter w vs → (o : Ordering) → value_cmp v w ≡ o → n ≡ grown (is_member v vs) (length vs) → length (put v vs) ≡ n
    → length (put_by o v w vs (put v vs)) ≡ grown (is_eq o || is_member v vs) (suc (length vs))
by_order v w vs n after Less p g h =
    let away = is_member-after v vs (AllAfter-before v w vs p after) in
    ap (λ (m : ℕ). suc (suc m)) refl ∙ ap (λ (b : Bool). grown b (suc (length vs))) (sym away)
by_order v w vs n after Equal p g h = refl
by_order v w vs n after Greater p g h = ap suc (h ∙ g) ∙ grown-suc (is_member v vs) (length vs)

put-length : (v : PlainValue) (vs : List PlainValue) → Ascends vs → length (put v vs) ≡ grown (is_member v vs) (length vs)
put-length v [] up = refl
put-length v (w ∷ vs) up = by_order v w vs (length (put v vs)) up.0 (value_cmp v w) refl (put-length v vs up.1) refl

length-keys : (es : List (PlainValue × PlainValue)) → length (keys es) ≡ length es
length-keys [] = refl
length-keys (e ∷ es) = ap suc (length-keys es)

entry-length : (k v : PlainValue) (es : List (PlainValue × PlainValue)) → Ascends (keys es) → length (put_entry k v es) ≡ grown (is_member k (keys es)) (length es)
entry-length k v es up =
    sym (length-keys (put_entry k v es)) ∙ ap length (keys-put_entry k v es) ∙ put-length k (keys es) up ∙ ap (grown (is_member k (keys es))) (length-keys es)

absent : (b : Bool) (m n : ℕ) → m ≡ grown b n → m ≢ n → b ≡ false
absent true m n p q = absurd (q p)
absent false m n p q = refl

present : (b : Bool) (m n : ℕ) → m ≡ grown b n → m ≡ n → b ≡ true
present true m n p q = refl
present false m n p q = absurd (omega arith)

chosen_none : (b : Bool) (x : List (PlainValue × PlainValue)) → b ≡ true → (if b then None else Some x) ≡ None
chosen_none b x p = rw p refl

chosen_some : (b : Bool) (x y : List (PlainValue × PlainValue)) → b ≡ false → y ≡ x → (if b then None else Some x) ≡ Some y
chosen_some b x y p q = rw (p, q) refl

-- an entry is refused where the map does not grow
pub with_entry-none : (known new : List (PlainValue × PlainValue)) (k v : PlainValue) → Ascends (keys known) → new ≡ put_entry k v known → length new ≡ length known → with_entry known (k, v) ≡ None
with_entry-none known new k v up is same = chosen_none _ _ (present (is_member k (keys known)) (length new) (length known) (ap length is ∙ entry-length k v known up) same)

pub with_entry-some : (known new : List (PlainValue × PlainValue)) (k v : PlainValue) → Ascends (keys known) → new ≡ put_entry k v known → length new ≢ length known → with_entry known (k, v) ≡ Some new
with_entry-some known new k v up is other = chosen_some _ _ _ (absent (is_member k (keys known)) (length new) (length known) (ap length is ∙ entry-length k v known up) other) is
