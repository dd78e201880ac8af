-- A term that has a sort casts to allowed sorts alone.
use Rattle.std.proofs.Common.{◌≡◌, Bool, true, false, List, ◌∷◌, Result, Ok, Err, refl, ap, ◌∙◌, cond}
use Rattle.std.specs.Prelude.{nat_le}
use Rattle.kid_value.specs.PlainSort.{PlainSort, has_never}
use Rattle.kid_value.specs.SortLimits.{is_allowed}
use Rattle.kid_value.proofs.SortLemmas.{and_both}
use Rattle.kid_term.specs.Names.{Names, PlainDef, latest_first}
use Rattle.kid_term.specs.PlainTerm.{PlainHead, op, call, cast, PlainTerm, var, number, truth, tag, app, bind, PlainTerms, no_term, term, node_count, depth}
use Rattle.kid_term.specs.Sorted.{Fault, Size, TermDeep, Bounds, Sorted, ◌>>=◌, allowed, with_set}
use Rattle.kid_term.specs.Sorting.{head_sort, binder_sort, unshadowed, least_sort, least_sorts, sort_of}
use Rattle.kid_term.specs.Written.{Numbers, written}
use Rattle.kid_term.proofs.Inversions.{bind_ok, ok, allowed_ok, with_one_ok, with_set_ok}
use Rattle.kid_codec.specs.TermSpelling.{is_allowed_head, casts_are_allowed, all_casts_are_allowed}

unless : (b : Bool) (r : Sorted) (f : Fault) (s : PlainSort) → cond b (Err f) r ≡ ok s → r ≡ ok s
unless true r f s p = cc
unless false r f s p = p

within : (b : Bool) (r : Sorted) (f : Fault) (s : PlainSort) → cond b r (Err f) ≡ ok s → r ≡ ok s
within true r f s p = p
within false r f s p = cc

head_allowed : (known : List PlainDef) (h : PlainHead) (ns : Numbers) (ss : List PlainSort) (s : PlainSort) → head_sort known h ns ss ≡ Ok s → is_allowed_head h ≡ true
head_allowed known (op o) ns ss s p = refl
head_allowed known (call f) ns ss s p = refl
head_allowed known (cast a) ns ss s p =
    let r = with_one_ok ss (λ _. cond (has_never a) (Err Bounds) (allowed a)) s p in
    let q = allowed_ok a s (unless (has_never a) (allowed a) Bounds s r.2) in
    ap is_allowed q.0 ∙ q.1

mutual
  least_casts : (known : List PlainDef) (names : Names) (t : PlainTerm) (s : PlainSort) → least_sort known names t ≡ Ok s → casts_are_allowed t ≡ true
  least_casts known names (var x) s p = refl
  least_casts known names (number n) s p = refl
  least_casts known names (truth b) s p = refl
  least_casts known names (tag n) s p = refl
  least_casts known names (app h ts) s p =
      let r = bind_ok (least_sorts known names ts) (head_sort known h (written ts)) s p in
      and_both (is_allowed_head h) (all_casts_are_allowed ts) (head_allowed known h (written ts) r.0 s r.2) (all_least_casts known names ts r.0 r.1)
  least_casts known names (bind b x d t) s p =
      let after : PlainSort → PlainSort → Sorted = λ a body. binder_sort b a body >>= unshadowed x names in
      let inner : PlainSort → Sorted = λ a. least_sort known ((x, a) ∷ names) t >>= after a in
      let q = bind_ok (least_sort known names d) (λ set. with_set set inner) s p in
      let r = with_set_ok q.0 inner s q.2 in
      let v = bind_ok (least_sort known ((x, r.0) ∷ names) t) (after r.0) s r.2 in
      and_both (casts_are_allowed d) (casts_are_allowed t) (least_casts known names d q.0 q.1) (least_casts known ((x, r.0) ∷ names) t v.0 v.1)

  all_least_casts : (known : List PlainDef) (names : Names) (ts : PlainTerms) (ss : List PlainSort) → least_sorts known names ts ≡ Ok ss → all_casts_are_allowed ts ≡ true
  all_least_casts known names no_term ss p = refl
  all_least_casts known names (term t ts) ss p =
      let gather : PlainSort → List PlainSort → Result (List PlainSort) Fault = λ s us. Ok (s ∷ us) in
      let q = bind_ok (least_sort known names t) (λ s. least_sorts known names ts >>= gather s) ss p in
      let r = bind_ok (least_sorts known names ts) (gather q.0) ss q.2 in
      and_both (casts_are_allowed t) (all_casts_are_allowed ts) (least_casts known names t q.0 q.1) (all_least_casts known names ts r.0 r.1)

pub sorted_casts : (defs : List PlainDef) (names : Names) (t : PlainTerm) (s : PlainSort) → sort_of defs names t ≡ Ok s → casts_are_allowed t ≡ true
sorted_casts defs names t s p =
    let least = least_sort (latest_first defs) names t in
    let q = within (nat_le (node_count t) 4096) (cond (nat_le (depth t) 128) least (Err TermDeep)) Size s p in
    least_casts (latest_first defs) names t s (within (nat_le (depth t) 128) least TermDeep s q)
