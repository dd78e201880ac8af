use Rattle.kid_search.proofs.ExampleLemmas.{search_examples}
use Rattle.kid_search.proofs.law.searches_by_example.Goals as goal

pub returns : goal.returns
returns c = search_examples
