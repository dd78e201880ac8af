-- The order of values at the parts of two sequences, two sets or two maps.
use Rattle.std.specs.declared.cmp.Ordering.{Ordering}
use Rattle.std.specs.Ordering.{ordering_then, ordering_reverse}
use Rattle.kid_value.specs.ValueOrder.{value_cmp}
use Rattle.kid_value.specs.ValueView.{plain}
use Rattle.kid_value.specs.declared.value.Value.{Value}

abbrev pub in_sequences : Value → Value → Ordering
in_sequences v w = value_cmp (plain v) (plain w)

abbrev pub in_sets : Value → Value → Ordering
in_sets v w = ordering_reverse (value_cmp (plain v) (plain w))

abbrev pub in_maps : Value × Value → Value × Value → Ordering
in_maps e f = ordering_then (ordering_reverse (value_cmp (plain e.0) (plain f.0))) (value_cmp (plain e.1) (plain f.1))
