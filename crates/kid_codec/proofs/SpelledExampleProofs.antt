-- The examples of spelled values.
use Rattle.std.proofs.Common.{◌≡◌, inl, inr, Bool, true, false, pos, refl, sym, ap, arith, subst}
use Rattle.std.specs.Prelude.{◌||◌, codes}
use Rattle.std.specs.Str.{bytes_eq}
use Rattle.std.proofs.lemmas.Fmt.{decimal_digit}
use Rattle.kid_sexp.specs.Plain as tree
use Rattle.kid_sexp.specs.Plain.{Plains, atom, one}
use Rattle.kid_value.specs.PlainValue.{PlainValue, int, bool, pair, set, seq, map_of, tag, none, more, items}
use Rattle.kid_value.specs.ValueSet.{value_eq, is_member}
use Rattle.kid_value.proofs.ValueSetLaws.{value_eq-true}
use Rattle.kid_codec.specs.SpelledExamples.{SpelledExamples, set_with_a_repeat, map_with_a_repeat}
use Rattle.kid_codec.specs.SpelledValue.{Spells, SomeSpells}

spells_1 : Spells (atom (codes "1")) (int (pos 1))
spells_1 = (sym (decimal_digit 1 (omega arith)), refl)

spells_2 : Spells (atom (codes "2")) (int (pos 2))
spells_2 = (sym (decimal_digit 2 (omega arith)), refl)

-- either of two members is spelled
one_of_two : (ts : Plains) (a b v : PlainValue) → SomeSpells ts a → SomeSpells ts b → is_member v (items (more a (more b none))) ≡ true → SomeSpells ts v
one_of_two ts a b v p q h = first (value_eq v a) refl h
  where
    first : (c : Bool) → value_eq v a ≡ c → (c || (value_eq v b || false)) ≡ true → SomeSpells ts v
    first true e r = subst (SomeSpells ts) (sym (value_eq-true v a e)) p
    first false e r = second (value_eq v b) refl r
      where
        second : (d : Bool) → value_eq v b ≡ d → (d || false) ≡ true → SomeSpells ts v
        second true f s = subst (SomeSpells ts) (sym (value_eq-true v b f)) q
        second false f s = cc

set_example : Spells set_with_a_repeat (set (more (int (pos 1)) (more (int (pos 2)) none)))
set_example = (
  refl,
  ((refl, tt), (tt, tt)),
  ((int (pos 2), spells_2, refl), ((int (pos 1), spells_1, refl), ((int (pos 2), spells_2, refl), tt))),
  λ v h. one_of_two (tree.more (atom (codes "2")) (tree.more (atom (codes "1")) (one (atom (codes "2"))))) (int (pos 1)) (int (pos 2)) v (inr (inl spells_1)) (inl spells_2) h,
)

differs : {A : Type 0} → true ≡ false → A
differs p = cc

map_example : (v : PlainValue) → Spells map_with_a_repeat v → ⊥
map_example (map_of es) h = h.4.0 (int (pos 1)) (int (pos 2)) (int (pos 2)) (spells_1, spells_2) (inl (spells_1, spells_2))
map_example (pair a b) h = differs (ap (bytes_eq (codes "map")) h.0)
map_example (set vs) h = differs (ap (bytes_eq (codes "map")) h.0)
map_example (seq vs) h = differs (ap (bytes_eq (codes "map")) h.0)
map_example (int n) h = h
map_example (bool b) h = h
map_example (tag n) h = h

pub examples : SpelledExamples
examples = record { repeated_member = set_example; repeated_key = λ v h. map_example v h }
