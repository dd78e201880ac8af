-- The way down to a place of a term that is neither too large nor too deep.
use Rattle.std.specs.Prelude.{◌≡◌, ◌≤◌, ℕ, List}
use Rattle.kid_term.specs.PlainTerm.{PlainTerm, PlainTerms, node_count, node_counts, depth, depths}
use Rattle.kid_term.specs.Names.{Names, PlainDef}
use Rattle.kid_scope.specs.Scope.{scope_at, scope_among}

pub record IsBounded (t : PlainTerm) : Type 0 where
  pub size : node_count t ≤ 4096
  pub deep : depth t ≤ 128

pub record AreBounded (ts : PlainTerms) : Type 0 where
  pub size : node_counts ts ≤ 4096
  pub deep : depths ts ≤ 128

-- from these names and assumed terms the way leads to those, whatever the facts
abbrev pub Leads : List PlainDef → PlainTerm → List ℕ → Names → List PlainTerm → Names → List PlainTerm → Type 0
Leads known t path names assumed names' assumed' =
    (facts : List PlainTerm) → scope_at known t path (record { names = names; facts = facts; assumed = assumed }) ≡ record { names = names'; facts = facts; assumed = assumed' }

abbrev pub LeadsAmong : List PlainDef → PlainTerms → ℕ → List ℕ → Names → List PlainTerm → Names → List PlainTerm → Type 0
LeadsAmong known ts i path names assumed names' assumed' =
    (facts : List PlainTerm) → scope_among known ts i path (record { names = names; facts = facts; assumed = assumed }) ≡ record { names = names'; facts = facts; assumed = assumed' }
