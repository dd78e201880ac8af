-- Facts over a theory as plain data.
use Rattle.std.specs.Prelude.{ℕ, List, refl}
use Rattle.std.specs.Coded.{Coded, code_by, coded_list, coded_ℕ, coded×}
use Rattle.kid_term.specs.Names.{Names}
use Rattle.kid_term.specs.PlainTerm.{PlainTerm}
use Rattle.kid_term.specs.TermCode.{coded_terms}
use Rattle.kid_term.specs.DefCode.{coded_names}

-- the key of the theory, the names, the facts that are taken as true, and all facts, of which these come first
pub record PlainFacts : Type 0 where
  pub theory : List ℕ
  pub names : Names
  pub start : List PlainTerm
  pub facts : List PlainTerm

abbrev pub coded_facts : Coded PlainFacts
coded_facts =
    code_by (List ℕ × (Names × (List PlainTerm × List PlainTerm))) (coded× (coded_list coded_ℕ) (coded× coded_names (coded× coded_terms coded_terms)))
    (λ f. (f.theory, (f.names, (f.start, f.facts)))) (λ p. record { theory = p.0; names = p.1.0; start = p.1.1.0; facts = p.1.1.1 }) (λ _. refl)
