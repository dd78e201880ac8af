-- What the operators on words and rows give. At arguments of another kind or count the value is false.
use Rattle.std.specs.Prelude.{List, [], ◌∷◌}
use Rattle.kid_value.specs.PlainValue.{PlainValue}
use Rattle.kid_value.specs.Rows.Kinds.{wrong_kind}
use Rattle.kid_value.specs.Rows.Word as row
use Rattle.kid_term.specs.declared.operator.WordOp.{WordOp}
use Rattle.kid_term.specs.declared.operator.WordOp.TheVariants.{Wenc, Wdec, Wor, Wand, Wnot, Wcard, Win, Wleast, Renc, Rdec, Rget, Rput, Rdrop}

abbrev pub word_value : WordOp → List PlainValue → PlainValue
word_value Wenc (lo ∷ k ∷ s ∷ []) = row.wenc lo k s
word_value Wdec (lo ∷ k ∷ r ∷ []) = row.wdec lo k r
word_value Wor (r ∷ s ∷ []) = row.wor r s
word_value Wand (r ∷ s ∷ []) = row.wand r s
word_value Wnot (r ∷ s ∷ []) = row.wnot r s
word_value Wcard (r ∷ []) = row.wcard r
word_value Win (lo ∷ a ∷ r ∷ []) = row.win lo a r
word_value Wleast (lo ∷ d ∷ r ∷ []) = row.wleast lo d r
word_value Renc (lo ∷ n ∷ m ∷ []) = row.renc lo n m
word_value Rdec (lo ∷ g ∷ []) = row.rdec lo g
word_value Rget (lo ∷ g ∷ a ∷ d ∷ []) = row.rget lo g a d
word_value Rput (lo ∷ g ∷ a ∷ x ∷ []) = row.rput lo g a x
word_value Rdrop (lo ∷ g ∷ a ∷ []) = row.rdrop lo g a
word_value o vs = wrong_kind
