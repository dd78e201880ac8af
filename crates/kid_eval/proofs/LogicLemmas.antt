-- When two values are both true.
use Rattle.std.proofs.Common.{◌≡◌, true, false, [], ◌∷◌, refl}
use Rattle.std.specs.Prelude.{◌&&◌}
use Rattle.kid_value.specs.PlainValue.{PlainValue, int, bool, pair, set, seq, map_of, tag}
use Rattle.kid_value.specs.Rows.Parts.{truth_of}
use Rattle.kid_term.specs.LogicRows.{logic_value}
use Rattle.kid_term.specs.declared.operator.LogicOp.TheVariants.{And}

pub and_both : (x y : PlainValue) → logic_value And (x ∷ y ∷ []) ≡ bool (truth_of x && truth_of y)
and_both (bool p) (bool q) = refl
and_both (bool true) (int n) = refl
and_both (bool true) (pair a b) = refl
and_both (bool true) (set vs) = refl
and_both (bool true) (seq vs) = refl
and_both (bool true) (map_of es) = refl
and_both (bool true) (tag n) = refl
and_both (bool false) (int n) = refl
and_both (bool false) (pair a b) = refl
and_both (bool false) (set vs) = refl
and_both (bool false) (seq vs) = refl
and_both (bool false) (map_of es) = refl
and_both (bool false) (tag n) = refl
and_both (int n) y = refl
and_both (pair a b) y = refl
and_both (set vs) y = refl
and_both (seq vs) y = refl
and_both (map_of es) y = refl
and_both (tag n) y = refl
