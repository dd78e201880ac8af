-- Names, and the words that are none.
use Rattle.std.specs.Prelude.{ℕ, Bool, false, not, ◌&&◌, ◌||◌, ◌==◌, nat_le, List, [], ◌∷◌, length}
use Rattle.std.specs.List.{list_all}
use Rattle.kid_value.specs.NameSet.{is_among}
use Rattle.kid_codec.specs.Reserved.{reserved_words}

abbrev pub is_letter : ℕ → Bool
is_letter c = nat_le 97 c && nat_le c 122

abbrev pub is_digit : ℕ → Bool
is_digit c = nat_le 48 c && nat_le c 57

abbrev pub is_name_byte : ℕ → Bool
is_name_byte c = is_letter c || is_digit c || c == 45

abbrev pub starts_rule : ℕ → Bool
starts_rule c = c == 101 || c == 109 || c == 98

-- one of the letters e, m and b before digits
abbrev pub is_rule_number : List ℕ → Bool
is_rule_number [] = false
is_rule_number (c ∷ cs) = starts_rule c && not (length cs == 0) && list_all is_digit cs

unfoldable pub is_reserved : List ℕ → Bool
is_reserved word = is_among word reserved_words || is_rule_number word

abbrev pub starts_with_letter : List ℕ → Bool
starts_with_letter [] = false
starts_with_letter (c ∷ cs) = is_letter c

-- a letter, and then letters, digits and dashes
abbrev pub is_name : List ℕ → Bool
is_name word = starts_with_letter word && nat_le (length word) 32 && list_all is_name_byte word && not (is_reserved word)
