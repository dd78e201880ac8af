-- Definitions that are sound one after another, and names with allowed sorts.
use Rattle.std.proofs.Common.{◌≡◌, ◌⊎◌, inl, inr, Bool, true, false, cond, List, [], ◌∷◌, ◌++◌, refl, sym, ap, ◌∙◌}
use Rattle.std.specs.Prelude.{◌&&◌, nat_le, Ok, Err}
use Rattle.kid_value.specs.PlainSort.{PlainSort}
use Rattle.kid_value.specs.SortOrder.{is_subsort}
use Rattle.kid_value.specs.SortLimits.{is_allowed}
use Rattle.kid_value.proofs.SortLemmas.{and_parts}
use Rattle.kid_term.specs.Fitting.{AreAllowed, IsSound, AreSoundOver, AreSound}
use Rattle.kid_term.specs.Names.{Names, PlainDef, same_name, latest_over, latest_first}
use Rattle.kid_term.specs.PlainTerm.{PlainTerm, node_count, depth}
use Rattle.kid_term.specs.Sorted.{Sorted, Size, TermDeep}
use Rattle.kid_term.specs.Sorting.{sort_at, least_sort, sort_of}
use Rattle.kid_term.proofs.Inversions.{ok, ok_same}
use Rattle.kid_sorting.specs.Declaring.{are_allowed, is_within, is_sorted_definition}

first_or_rest : (b : Bool) (a : PlainSort) (r : Sorted) (s : PlainSort) → cond b (ok a) r ≡ ok s → (a ≡ s) ⊎ (r ≡ ok s)
first_or_rest true a r s p = inl (ok_same a s p)
first_or_rest false a r s p = inr p

pub names-allowed : (ns : Names) → are_allowed ns ≡ true → AreAllowed ns
names-allowed [] h x s p = cc
names-allowed (n ∷ ns) h x s p =
    let r = and_parts (is_allowed n.1) (are_allowed ns) h in
    elim (first_or_rest (same_name x n.0) n.1 (sort_at x ns) s p) [
      | inl e ↦ ap is_allowed (sym e) ∙ r.0
      | inr e ↦ names-allowed ns r.1 x s e
    ]

-- a term that is not too large has its least sort
sized : (small flat : Bool) (r : Sorted) (s : PlainSort) → cond small (cond flat r (Err TermDeep)) (Err Size) ≡ ok s → r ≡ ok s
sized true true r s p = p
sized true false r s p = cc
sized false flat r s p = cc

pub least-of : (defs : List PlainDef) (names : Names) (t : PlainTerm) (s : PlainSort) → sort_of defs names t ≡ Ok s → least_sort (latest_first defs) names t ≡ Ok s
least-of defs names t s p = sized (nat_le (node_count t) 4096) (nat_le (depth t) 128) (least_sort (latest_first defs) names t) s p

record Within (s : PlainSort) (r : Sorted) : Type 0 where
  found : PlainSort
  is_found : r ≡ Ok found
  is_below : is_subsort found s ≡ true

within : (s : PlainSort) (r : Sorted) → is_within s r ≡ true → Within s r
within s (Ok a) p = record { found = a; is_found = refl; is_below = p }
within s (Err fault) p = cc

sound-one : (defs : List PlainDef) (d : PlainDef) → is_sorted_definition defs d ≡ true → IsSound (latest_first defs) d
sound-one defs d h =
    let r = and_parts (are_allowed d.parameters && is_allowed d.sort) (is_within d.sort (sort_of defs d.parameters d.body)) h in
    let q = and_parts (are_allowed d.parameters) (is_allowed d.sort) r.0 in
    let w = within d.sort (sort_of defs d.parameters d.body) r.1 in
    record {
      parameters_allowed = names-allowed d.parameters q.0;
      sort_allowed = q.1;
      of_body = w.found;
      body_sorted = least-of defs d.parameters d.body w.found w.is_found;
      within = w.is_below;
    }

sound-last : (known ds : List PlainDef) (d : PlainDef) → AreSoundOver known ds → IsSound (latest_over known ds) d → AreSoundOver known (ds ++ d ∷ [])
sound-last known [] d h last = (last, tt)
sound-last known (e ∷ ds) d h last = (h.0, sound-last (e ∷ known) ds d h.1 last)

-- a further definition that is sorted over those that are sound
pub sound-more : (defs : List PlainDef) (d : PlainDef) → AreSound defs → is_sorted_definition defs d ≡ true → AreSound (defs ++ d ∷ [])
sound-more defs d h sorted = sound-last [] defs d h (sound-one defs d sorted)
