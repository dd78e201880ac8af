-- Rules are tried where the term has a sort, and what is put in its place may be taken back.
use Rattle.std.proofs.Common.{◌≡◌, ℕ, Bool, true, List, Option, Some, None, Result, Ok, Err, refl, sym, ap, ◌∙◌, subst}
use Rattle.std.specs.Prelude.{IfOk, ⊤}
use Rattle.kid_value.specs.PlainSort.{PlainSort}
use Rattle.kid_term.specs.Chain.{◌>>=◌}
use Rattle.kid_term.specs.Names.{Names, PlainDef, latest_first}
use Rattle.kid_term.specs.Places.{put_at}
use Rattle.kid_term.specs.PlainTerm.{PlainTerm}
use Rattle.kid_term.specs.PlainTheory.{PlainTheory}
use Rattle.kid_term.specs.Replacing.{subterm}
use Rattle.kid_term.specs.Sorted.{Sorted}
use Rattle.kid_term.specs.Sorting.{sort_of}
use Rattle.kid_term.specs.TermView.{plain_term}
use Rattle.kid_term.specs.declared.Term.{Term}
use Rattle.kid_term.specs.declared.why.Why.{Why}
use Rattle.kid_scope.specs.Holds.{has_a_sort}
use Rattle.kid_scope.specs.InstanceView.{plain_instance}
use Rattle.kid_scope.specs.Rewriting.{PlainInstance, Rule, KeepsValue, placed, made, settled, rewritten}
use Rattle.kid_scope.specs.Scope.{PlainScope, scope_at}
use Rattle.kid_scope.specs.declared.instance.Instance.{Instance}
use Rattle.kid_scope.proofs.Places.{part_sorted}
use Rattle.kid_scope.proofs.RewriteLemmas.{staged, placed_ok, rewritten_keeps}
use Rattle.kid_kernel.specs.Placed.{top_scope, IsThere, licensed_by, Finds, Rewrote, KeepsAt}
use Rattle.kid_kernel.specs.ScopeView.{plain_scope}
use Rattle.kid_kernel.specs.declared.scope.Scope.{Scope}

pub sort_there : (r : Sorted) → has_a_sort r ≡ true → (s : PlainSort) × (r ≡ Ok s)
sort_there (Ok s) p = (s, refl)
sort_there (Err f) p = cc

-- a part of a term that has a sort has one in its scope
pub placed_below : (defs : List PlainDef) (names : Names) (facts : List PlainTerm) (whole : PlainTerm) (path : List ℕ) (old : PlainTerm) → has_a_sort (sort_of defs names whole) ≡ true
    → subterm whole path ≡ Some old → has_a_sort (sort_of defs (scope_at (latest_first defs) whole path (top_scope names facts)).names old) ≡ true
placed_below defs names facts whole path old p q =
    let w = sort_there (sort_of defs names whole) p in
    let r = part_sorted defs whole path old (top_scope names facts) w.0 q w.1 in
    ap has_a_sort r.1

-- what is made is made of a subterm
pub made_there : (rule : Rule) (t : PlainTheory) (sc : PlainScope) (whole : PlainTerm) (path : List ℕ) (new : PlainInstance) → made rule t sc whole path ≡ Ok new → IsThere whole path
made_there rule t sc whole path new p =
    let r = staged (placed (subterm whole path)) (λ old. licensed_by rule t (scope_at (latest_first t.signature.definitions) whole path sc) old) new p in
    (r.0, placed_ok (subterm whole path) r.0 r.1)

-- what is answered of the term with the instance at the path is answered of the rewriting
pub exchanged_said : (rule : Rule) (t : PlainTheory) (top : PlainScope) (whole : PlainTerm) (path : List ℕ) (p : Scope × Instance) (r : Result Term (Term × Why))
    → made rule t top whole path ≡ Ok (plain_instance p.1) → plain_scope p.0 ≡ scope_at (latest_first t.signature.definitions) whole path top → p.0.definitions.now ≡ t.signature.definitions
    → Rewrote r whole (settled p.0.definitions.now (plain_scope p.0) top.names (plain_instance p.1) (put_at whole path (plain_term p.1.term))) → Rewrote r whole (rewritten rule t top whole path)
exchanged_said rule t top whole path p r e f g h =
    let k : made rule t top whole path >>= (λ new. settled t.signature.definitions (scope_at (latest_first t.signature.definitions) whole path top) top.names new (put_at whole path new.term))
    ≡ settled p.0.definitions.now (plain_scope p.0) top.names (plain_instance p.1) (put_at whole path (plain_term p.1.term)) =
    ap (λ m. m >>= λ new. settled t.signature.definitions (scope_at (latest_first t.signature.definitions) whole path top) top.names new (put_at whole path new.term)) e
    ∙ ap (λ d. settled d (scope_at (latest_first t.signature.definitions) whole path top) top.names (plain_instance p.1) (put_at whole path (plain_term p.1.term))) (sym g)
    ∙ ap (λ sc. settled p.0.definitions.now sc top.names (plain_instance p.1) (put_at whole path (plain_term p.1.term))) (sym f) in
    subst (λ z. Rewrote r whole z) (sym k) h

-- a rewritten term has the old one's value
pub kept_if : (rule : Rule) → KeepsValue rule → (t : PlainTheory) (names : Names) (sc : PlainScope) (whole : PlainTerm) (path : List ℕ) (r : Result Term (Term × Why)) → sc.names ≡ names
    → has_a_sort (sort_of t.signature.definitions names whole) ≡ true → Rewrote r whole (rewritten rule t sc whole path) → IfOk r (λ new. KeepsAt t sc whole (plain_term new))
kept_if rule keeps t names sc whole path (Ok u) e sorted p =
    let w = sort_there (sort_of t.signature.definitions sc.names whole) (ap (λ z. has_a_sort (sort_of t.signature.definitions z whole)) e ∙ sorted) in
    λ env sound scope met. rewritten_keeps rule keeps t sc whole path (plain_term u) w.0 env sound scope met w.1 p
kept_if rule keeps t names sc whole path (Err x) e sorted p = tt
