-- What is counted of a run, step by step.
use Rattle.std.proofs.Common.{◌≡◌, ℕ, ◌+◌, suc, false, List, Option, [], ◌∷◌, ◌++◌, map, length, sym, ap, ◌∙◌, subst, arith, append_assoc}
use Rattle.kid_value.specs.PlainValue.{PlainValue}
use Rattle.kid_term.specs.Eval.{calls_of}
use Rattle.kid_prog.specs.PlainProgram.{PlainProgram}
use Rattle.kid_prog.specs.Rules.{IsRunnable}
use Rattle.kid_prog.specs.Events.{Event, found}
use Rattle.kid_prog.specs.Running.{Run, finding, calling, upto_value, within}
use Rattle.kid_run.specs.Lines.{value_line, shown}
use Rattle.kid_run.specs.Frames.{PlainMachine, step}
use Rattle.kid_run.specs.Scope.{MachineCanRun}
use Rattle.kid_run.specs.Account.{account, told, with_events}
use Rattle.kid_run.specs.MoveView.{plain_move}
use Rattle.kid_run.specs.Wanted.{has_all, after_one}
use Rattle.kid_run.specs.declared.moves.Move.{Move as Moved}
use Rattle.kid_run.specs.declared.tally.Tally.{Tally}
use Rattle.kid_run.proofs.Steps.{Comes, step-comes}
use Rattle.kid_run.proofs.WantedLemmas.{upto-found}

shown-more : (a n : ℕ) → shown (a + suc n) ≡ shown (shown (a + 1) + n)
shown-more a n = omega arith

account-found : (lines : List (List ℕ)) (a s : ℕ) (v : PlainValue) (r : Run) → account lines a s (finding v r) ≡ account (lines ++ value_line v ∷ []) (shown (a + 1)) s r
account-found lines a s v r =
    let e : lines ++ value_line v ∷ map value_line r.values ≡ (lines ++ value_line v ∷ []) ++ map value_line r.values = sym (append_assoc lines (value_line v ∷ []) (map value_line r.values)) in
    let f : shown (a + suc (length r.values)) ≡ shown (shown (a + 1) + length r.values) = shown-more a (length r.values) in
    λ i. record { lines = e i; answers = f i; splits = s + r.calls; whole = r.whole }

account-called : (lines : List (List ℕ)) (a s : ℕ) (r : Run) → account lines a s (calling r) ≡ account lines a (s + 1) r
account-called lines a s r =
    let e : s + suc r.calls ≡ (s + 1) + r.calls = omega arith in
    λ i. record { lines = lines ++ map value_line r.values; answers = shown (a + length r.values); splits = e i; whole = r.whole }

-- a value that was counted
pub told-found : (t u : Tally) (v : PlainValue) (r : Run) → u.lines.items ≡ t.lines.items ++ value_line v ∷ [] → u.answers ≡ shown (t.answers + 1) → u.splits ≡ t.splits
    → told t (finding v r) ≡ told u r
told-found t u v r e f g = account-found t.lines.items t.answers t.splits v r ∙ sym (λ i. account (e i) (f i) (g i) r)

-- so it is with the events after it
pub events-found : (t u : Tally) (l : ℕ) (v : PlainValue) (es : List Event) → has_all t.wanted ≡ false
    → u.lines.items ≡ t.lines.items ++ value_line v ∷ [] → u.answers ≡ shown (t.answers + 1) → u.splits ≡ t.splits → u.wanted ≡ after_one t.wanted
    → with_events t l (found v ∷ es) ≡ with_events u l es
events-found t u l v es more e f g h =
    ap (λ fs. told t (within l fs)) (upto-found t.wanted v es more)
    ∙ told-found t u v (within l (upto_value (after_one t.wanted) es)) e f g
    ∙ ap (λ (w : Option ℕ). told u (within l (upto_value w es))) (sym h)

-- a call that was counted
pub told-called : (t u : Tally) (r : Run) → u.lines.items ≡ t.lines.items → u.answers ≡ t.answers → u.splits ≡ t.splits + 1 → told t (calling r) ≡ told u r
told-called t u r e f g = account-called t.lines.items t.answers t.splits r ∙ sym (λ i. account (e i) (f i) (g i) r)

-- what a step of the program comes to
pub moved : (p : PlainProgram) → IsRunnable p → (m : PlainMachine) → MachineCanRun p m → (made : Moved) (n : PlainMachine) → plain_move made n ≡ step (calls_of p.definitions) m
    → (is : Moved) → made ≡ is → Comes p m (plain_move is n)
moved p runs m can made n e is q = subst (λ (z : Moved). Comes p m (plain_move z n)) q (subst (Comes p m) (sym e) (step-comes p runs m can))
