-- Each example by computation.
use Rattle.std.proofs.Common.{pos, [], ◌∷◌, refl}
use Rattle.kid_value.specs.PlainValue.{int}
use Rattle.kid_kernel.specs.TheoryExamples.{x, LawExamples, GoodExamples}

pub law_examples : LawExamples
law_examples = record {
  sorted = refl;
  condition_is_a_number = refl;
  condition_has_a_binder = refl;
  names_another = refl;
  common_sort = refl;
  no_common_sort = refl;
  names = refl;
  names_differ = refl;
  name_twice = refl;
  apart = refl;
  own_variable = refl;
  variable_of_an_input = refl;
}

pub good_examples : GoodExamples
good_examples = record {
  condition_false = λ g. let h = g.condition in cc;
  law_false = λ g. let h = g.axioms.0 (int (pos 1) ∷ []) (record { has = refl; canonical = tt }, tt) (refl, tt) in cc;
  another_sort = λ g. let h = (g.fits x _ refl).has in cc;
}
