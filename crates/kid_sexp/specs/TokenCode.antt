-- How the logic stores tokens.
use Rattle.std.specs.Prelude.{◌≡◌, ℕ, List, Bool, true, false, ◌⊎◌, refl}
use Rattle.std.specs.Coded.{Coded, code_by, coded_list, coded_ℕ, coded⊎, coded_bool}
use Rattle.std.proofs.Common.{inl, inr}
use Rattle.kid_sexp.specs.Token.{Token, opens, closes, word}

abbrev split : Token → List ℕ ⊎ Bool
split opens = inr true
split closes = inr false
split (word bytes) = inl bytes

abbrev unsplit : List ℕ ⊎ Bool → Token
unsplit (inl bytes) = word bytes
unsplit (inr true) = opens
unsplit (inr false) = closes

pub unsplit-split : (t : Token) → unsplit (split t) ≡ t
unsplit-split opens = refl
unsplit-split closes = refl
unsplit-split (word bytes) = refl

abbrev pub tokens_code : Coded (List Token)
tokens_code = coded_list (code_by (List ℕ ⊎ Bool) (coded⊎ (coded_list coded_ℕ) coded_bool) split unsplit unsplit-split)
