-- A value of the program as a plain tree.
use Rattle.kid_value.specs.PlainValue.{PlainValue, int, bool, pair, set, seq, map_of, tag, row, table}
use Rattle.kid_value.specs.declared.value.Value.{Value}
use Rattle.kid_value.specs.declared.value.Value.TheVariants.{Int, Bool, Pair, Set, Seq, Map, Tag}

abbrev pub plain : Value → PlainValue
plain (Int n) = int n
plain (Bool b) = bool b
plain (Pair a b) = pair a b
plain (Set vs) = set (row vs)
plain (Seq vs) = seq (row vs)
plain (Map es) = map_of (table es)
plain (Tag n) = tag n

-- a pair of values as a pair of plain trees
abbrev pub plain_entry : Value × Value → PlainValue × PlainValue
plain_entry e = (plain e.0, plain e.1)
