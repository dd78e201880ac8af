-- A name with its value as plain data.
use Rattle.std.specs.Prelude.{ℕ, List}
use Rattle.kid_value.specs.PlainValue.{PlainValue}
use Rattle.kid_value.specs.ValueView.{plain}
use Rattle.kid_eval.specs.declared.env.Binding.{Binding}

abbrev pub plain_binding : Binding → List ℕ × PlainValue
plain_binding b = (b.name.now, plain b.value)
