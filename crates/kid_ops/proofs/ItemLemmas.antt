-- The items of a sequence by their places.
use Rattle.std.proofs.Common.{◌≡◌, ℕ, ◌-◌, ◌<◌, zero, suc, ℤ, pos, negsuc, List, map, get_or, refl, sym, ap, ◌∙◌, arith}
use Rattle.std.proofs.Math.ListN.{get_or-map}
use Rattle.kid_value.specs.PlainValue.{PlainValue}
use Rattle.kid_value.specs.Rows.Kinds.{natural}
use Rattle.kid_value.specs.Rows.Seq.{item_at}
use Rattle.kid_value.specs.ValueView.{plain}
use Rattle.kid_value.specs.declared.value.Value.{Value}
use Rattle.kid_ops.specs.Items.{item_from_one}

pub item_at_natural : (vs : List PlainValue) (i : ℤ) (d : PlainValue) → item_from_one vs (natural i) d ≡ item_at vs i d
item_at_natural vs (pos zero) d = refl
item_at_natural vs (pos (suc n)) d = refl
item_at_natural vs (negsuc n) d = refl

pub item_from_one-there : (items : List Value) (place : ℕ) (item d : Value) → 0 < place → item ≡ get_or items (place - 1) d → plain item ≡ item_from_one (map plain items) place (plain d)
item_from_one-there items zero item d l p = absurd (omega arith)
item_from_one-there items (suc n) item d l p = let e : suc n - 1 ≡ n = omega arith in ap plain (p ∙ ap (λ k. get_or items k d) e) ∙ sym (get_or-map plain items n d)
