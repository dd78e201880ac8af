-- Small searches compute.
use Rattle.std.proofs.Common.{refl}
use Rattle.kid_search.specs.SearchExamples.{SearchExamples}

pub search_examples : SearchExamples
search_examples = record {
  finds = refl;
  visits = refl;
  count = refl;
  none = refl;
  one_visit = refl;
  first = refl;
  first_count = refl;
  filtered = refl;
  filtered_count = refl;
  cut = refl;
  emptied = refl;
}
