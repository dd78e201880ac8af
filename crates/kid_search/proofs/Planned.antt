-- A search that is planned for a problem finds its answers.
use Rattle.std.proofs.Common.{sym, subst}
use Rattle.kid_value.specs.InSort.{in_sort}
use Rattle.kid_term.specs.Answer.{relates, AllAnswers}
use Rattle.kid_search.specs.SearchLaws.{SearchesFindAll, SearchesFindFirst}
use Rattle.kid_search.specs.Searching.{values_of, search}
use Rattle.kid_search.proofs.Found.{values_of-search, values_of-upto_value}
use Rattle.kid_search.proofs.SearchTheorem.{values_from-answer}

pub searches_find_all : SearchesFindAll
searches_find_all calls spec x s p start planned =
    let answer = values_from-answer s (in_sort spec.sort) (relates calls spec x) p planned.lawful planned.necessary start planned.good planned.complete in
    subst (λ vs. AllAnswers calls spec x vs) (sym (values_of-search s (relates calls spec x) p start)) (record { ascends = answer.ascends; exact = answer.members })

pub searches_find_first : SearchesFindFirst
searches_find_first calls spec x s p start planned = record {
  all = values_of (search s (relates calls spec x) p start);
  are_all = searches_find_all calls spec x s p start planned;
  first = values_of-upto_value spec.first (search s (relates calls spec x) p start);
}
