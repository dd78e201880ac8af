-- Lists of trees of another length than is wanted.
use Rattle.std.proofs.Common.{◌≡◌, ◌≢◌, ℕ, ◌<◌, ◌≤◌, List, [], ◌∷◌, length, get_or, refl, sym, arith, None}
use Rattle.kid_sexp.specs.declared.tree.Tree.{Tree}
use Rattle.kid_sexp.specs.Tree.{plains}
use Rattle.kid_codec.specs.SortSpelling.{sort_of_parts}
use Rattle.kid_codec.specs.ValueSpelling.{spelled_pair, key_and_value}
use Rattle.kid_codec.specs.TermSpelling.{spelled_cast, spelled_body}

pub one_item : {A : Type 0} (xs : List A) (x : A) → 1 ≤ length xs → length xs < 2 → x ≡ get_or xs 0 x → xs ≡ x ∷ []
one_item [] x l h p = absurd (omega arith)
one_item (a ∷ []) x l h p = λ i. sym p i ∷ []
one_item (a ∷ b ∷ xs) x l h p = absurd (omega arith)

pub two_items : {A : Type 0} (xs : List A) (x y : A) → 2 ≤ length xs → length xs < 3 → x ≡ get_or xs 0 x → y ≡ get_or xs 1 y → xs ≡ x ∷ y ∷ []
two_items [] x y l h p q = absurd (omega arith)
two_items (a ∷ []) x y l h p q = absurd (omega arith)
two_items (a ∷ b ∷ []) x y l h p q = λ i. sym p i ∷ sym q i ∷ []
two_items (a ∷ b ∷ c ∷ xs) x y l h p q = absurd (omega arith)

pub three_items : {A : Type 0} (xs : List A) (x y z : A) → 3 ≤ length xs → length xs < 4 → x ≡ get_or xs 0 x → y ≡ get_or xs 1 y → z ≡ get_or xs 2 z → xs ≡ x ∷ y ∷ z ∷ []
three_items [] x y z l h p q r = absurd (omega arith)
three_items (a ∷ []) x y z l h p q r = absurd (omega arith)
three_items (a ∷ b ∷ []) x y z l h p q r = absurd (omega arith)
three_items (a ∷ b ∷ c ∷ []) x y z l h p q r = λ i. sym p i ∷ sym q i ∷ sym r i ∷ []
three_items (a ∷ b ∷ c ∷ d ∷ xs) x y z l h p q r = absurd (omega arith)

pub ruleset items = (one_item, two_items, three_items)

pub sort_of_parts-none : (ts : List Tree) (w : List ℕ) → length ts ≢ 1 → length ts ≢ 2 → sort_of_parts (plains ts) w ≡ None
sort_of_parts-none [] w h k = refl
sort_of_parts-none (a ∷ []) w h k = absurd (omega arith)
sort_of_parts-none (a ∷ b ∷ []) w h k = absurd (omega arith)
sort_of_parts-none (a ∷ b ∷ c ∷ ts) w h k = refl

pub spelled_pair-none : (ts : List Tree) → length ts ≢ 2 → spelled_pair (plains ts) ≡ None
spelled_pair-none [] h = refl
spelled_pair-none (a ∷ []) h = refl
spelled_pair-none (a ∷ b ∷ []) h = absurd (omega arith)
spelled_pair-none (a ∷ b ∷ c ∷ ts) h = refl

pub key_and_value-none : (ts : List Tree) → length ts ≢ 2 → key_and_value (plains ts) ≡ None
key_and_value-none [] h = refl
key_and_value-none (a ∷ []) h = refl
key_and_value-none (a ∷ b ∷ []) h = absurd (omega arith)
key_and_value-none (a ∷ b ∷ c ∷ ts) h = refl

pub spelled_cast-none : (ts : List Tree) → length ts ≢ 2 → spelled_cast (plains ts) ≡ None
spelled_cast-none [] h = refl
spelled_cast-none (a ∷ []) h = refl
spelled_cast-none (a ∷ b ∷ []) h = absurd (omega arith)
spelled_cast-none (a ∷ b ∷ c ∷ ts) h = refl

pub spelled_body-none : (ts : List Tree) → length ts ≢ 3 → spelled_body (plains ts) ≡ None
spelled_body-none [] h = refl
spelled_body-none (a ∷ []) h = refl
spelled_body-none (a ∷ b ∷ []) h = refl
spelled_body-none (a ∷ b ∷ c ∷ []) h = absurd (omega arith)
spelled_body-none (a ∷ b ∷ c ∷ d ∷ ts) h = refl

pub ruleset lengths = (sort_of_parts-none, spelled_pair-none, key_and_value-none, spelled_cast-none, spelled_body-none)
