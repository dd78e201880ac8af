-- The operators on sequences. Places count from 1.
use Rattle.std.specs.Prelude.{zero, suc, ℤ, pos, negsuc, Bool, true, false, ◌&&◌, List, [], ◌∷◌, ◌++◌, length, get_or, drop}
use Rattle.kid_value.specs.PlainValue.{PlainValue, int, bool}
use Rattle.kid_value.specs.PlainValue as value
use Rattle.kid_value.specs.Rows.Kinds.{wrong_kind, set_of_all, sequence_from, natural}
use Rattle.kid_value.specs.Rows.Parts.{total as total_of}
use Rattle.kid_value.specs.ValueSet.{value_eq}

-- the item at a place, or d where there is none
abbrev pub item_at : List PlainValue → ℤ → PlainValue → PlainValue
item_at vs (pos zero) d = d
item_at vs (pos (suc n)) d = get_or vs n d
item_at vs (negsuc n) d = d

abbrev pub is_prefix : List PlainValue → List PlainValue → Bool
is_prefix [] ws = true
is_prefix (v ∷ vs) [] = false
is_prefix (v ∷ vs) (w ∷ ws) = value_eq v w && is_prefix vs ws

abbrev pub sequence_of_values : List PlainValue → PlainValue
sequence_of_values vs = sequence_from vs

abbrev pub len : PlainValue → PlainValue
len (value.seq vs) = int (pos (length (value.items vs)))
len v = wrong_kind

abbrev pub at : PlainValue → PlainValue → PlainValue → PlainValue
at (value.seq vs) (int i) d = item_at (value.items vs) i d
at v w d = wrong_kind

abbrev pub snoc : PlainValue → PlainValue → PlainValue
snoc (value.seq vs) x = sequence_from (value.items vs ++ x ∷ [])
snoc v x = wrong_kind

abbrev pub rest : PlainValue → PlainValue → PlainValue
rest (value.seq vs) (int i) = sequence_from (drop (natural i) (value.items vs))
rest v w = wrong_kind

abbrev pub items : PlainValue → PlainValue
items (value.seq vs) = set_of_all (value.items vs)
items v = wrong_kind

abbrev pub total : PlainValue → PlainValue
total (value.seq vs) = int (total_of (value.items vs))
total v = wrong_kind

abbrev pub prefix : PlainValue → PlainValue → PlainValue
prefix (value.seq vs) (value.seq ws) = bool (is_prefix (value.items vs) (value.items ws))
prefix v w = wrong_kind
