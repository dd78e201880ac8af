-- What the operators on sequences give. At arguments of another kind or count the value is false.
use Rattle.std.specs.Prelude.{List, [], ◌∷◌}
use Rattle.kid_value.specs.PlainValue.{PlainValue}
use Rattle.kid_value.specs.Rows.Kinds.{wrong_kind}
use Rattle.kid_value.specs.Rows.Seq as row
use Rattle.kid_term.specs.declared.operator.SeqOp.{SeqOp}
use Rattle.kid_term.specs.declared.operator.SeqOp.TheVariants.{Seq, Len, At, Snoc, Rest, Items, Total, Prefix}

abbrev pub seq_value : SeqOp → List PlainValue → PlainValue
seq_value Seq vs = row.sequence_of_values vs
seq_value Len (v ∷ []) = row.len v
seq_value At (v ∷ i ∷ d ∷ []) = row.at v i d
seq_value Snoc (v ∷ x ∷ []) = row.snoc v x
seq_value Rest (v ∷ i ∷ []) = row.rest v i
seq_value Items (v ∷ []) = row.items v
seq_value Total (v ∷ []) = row.total v
seq_value Prefix (v ∷ w ∷ []) = row.prefix v w
seq_value o vs = wrong_kind
