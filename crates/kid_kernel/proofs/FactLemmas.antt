-- Facts as a scope, and what is true in it.
use Rattle.std.proofs.Common.{◌≡◌, Bool, true, List, [], ◌∷◌, Ok, ap, ◌∙◌}
use Rattle.std.specs.Prelude.{◌||◌}
use Rattle.kid_value.specs.PlainSort.{PlainSort}
use Rattle.kid_term.specs.PlainTerm.{PlainTerm}
use Rattle.kid_term.specs.PlainTheory.{PlainTheory}
use Rattle.kid_term.specs.Names.{Names, PlainDef, is_named}
use Rattle.kid_term.specs.Sorted.{Sorted}
use Rattle.kid_term.specs.Sorting.{sort_of}
use Rattle.kid_term.specs.Eval.{Env, calls_of}
use Rattle.kid_term.specs.Truths.{AllTrue}
use Rattle.kid_sorting.proofs.NewNames.{is_named_append}
use Rattle.kid_scope.specs.Cases.{AllClosed, IsCase, IsScope, Meets}
use Rattle.kid_scope.specs.Holds.{has_a_sort}
use Rattle.kid_scope.proofs.ClosedSorts.{sort_there, sorted-closed}
use Rattle.kid_kernel.specs.Held.{AllSorted, LawsHold, Held}
use Rattle.kid_kernel.specs.Placed.{top_scope}

pub there_sort : (r : Sorted) (s : PlainSort) → r ≡ Ok s → has_a_sort r ≡ true
there_sort r s p = ap has_a_sort p

all_closed : (defs : List PlainDef) (names : Names) (ts : List PlainTerm) → AllSorted defs names ts → AllClosed names ts
all_closed defs names [] a = tt
all_closed defs names (t ∷ ts) a = let s = sort_there (sort_of defs names t) a.0 in (sorted-closed defs names t s.0 s.1, all_closed defs names ts a.1)

or_first : (b c : Bool) → b ≡ true → (b || c) ≡ true
or_first b c p = ap (λ z. z || c) p

pub scope_stands : (t : PlainTheory) (names : Names) (start facts : List PlainTerm) → Held t names start facts → IsScope t (top_scope names facts)
scope_stands t names start facts h = record {
  covers = λ y m. ap (is_named y) h.named.inputs_first ∙ is_named_append y t.signature.inputs h.named.more ∙ or_first (is_named y t.signature.inputs) (is_named y h.named.more) m;
  allowed = h.named.allowed;
  facts_closed = all_closed t.signature.definitions names facts h.sorted;
  assumed_closed = tt;
}

pub case_meets : (t : PlainTheory) (names : Names) (start facts : List PlainTerm) → Held t names start facts → LawsHold t → (env : Env) → IsCase t names env
    → AllTrue (calls_of t.signature.definitions) env start → Meets t (top_scope names facts) env
case_meets t names start facts h laws env case s = record { case = case; facts = h.follow laws env case s; assumed = tt }
