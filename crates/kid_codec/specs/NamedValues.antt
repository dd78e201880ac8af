-- Sorts and terms that hold named values, at any depth.
use Rattle.std.specs.Prelude.{Bool, true, false, ◌||◌}
use Rattle.kid_value.specs.PlainSort.{PlainSort, never, bools, ints, pairs, sets, seqs, maps, enums}
use Rattle.kid_term.specs.PlainTerm.{PlainHead, op, call, cast, PlainTerm, var, number, truth, tag, app, bind, PlainTerms, no_term, term}

abbrev pub sort_has_tags : PlainSort → Bool
sort_has_tags never = false
sort_has_tags bools = false
sort_has_tags (ints lo hi) = false
sort_has_tags (pairs a b) = sort_has_tags a || sort_has_tags b
sort_has_tags (sets a) = sort_has_tags a
sort_has_tags (seqs a n) = sort_has_tags a
sort_has_tags (maps a b) = sort_has_tags a || sort_has_tags b
sort_has_tags (enums ns) = true

abbrev pub head_has_tags : PlainHead → Bool
head_has_tags (op o) = false
head_has_tags (call f) = false
head_has_tags (cast s) = sort_has_tags s

abbrev mutual
  pub term_has_tags : PlainTerm → Bool
  term_has_tags (var x) = false
  term_has_tags (number n) = false
  term_has_tags (truth b) = false
  term_has_tags (tag n) = true
  term_has_tags (app h ts) = head_has_tags h || terms_have_tags ts
  term_has_tags (bind b x s t) = term_has_tags s || term_has_tags t

  pub terms_have_tags : PlainTerms → Bool
  terms_have_tags no_term = false
  terms_have_tags (term t ts) = term_has_tags t || terms_have_tags ts
