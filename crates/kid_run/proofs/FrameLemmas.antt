-- Frames of the program as plain frames.
use Rattle.std.proofs.Common.{◌≡◌, ℕ, ◌<◌, ◌≤◌, ◌+◌, zero, suc, List, [], ◌∷◌, ◌++◌, map, length, drop, get_or, refl, sym, ap, ◌∙◌, subst, arith}
use Rattle.std.specs.Prelude.{reverse}
use Rattle.std.proofs.lemmas.List.{map-append, reverse-append, drop_all}
use Rattle.kid_value.specs.PlainValue.{PlainValue}
use Rattle.kid_value.specs.ValueView.{plain}
use Rattle.kid_value.specs.declared.value.Value.{Value}
use Rattle.kid_term.specs.Eval.{Env}
use Rattle.kid_prog.specs.PlainStmt.{PlainStmts}
use Rattle.kid_prog.specs.declared.statement.Stmt.{Stmt}
use Rattle.kid_run.specs.Frames.{PlainFrame, PlainMachine, machine, goes, next_of, keeping, overs, rest, over}
use Rattle.kid_run.specs.FrameView.{plain_stmts, plain_frame, plain_frames}
use Rattle.kid_run.specs.declared.frame.Frame.{Frame}

pub pushed_first : (all earlier : List Frame) (f : Frame) → all ≡ earlier ++ f ∷ [] → plain_frames all ≡ plain_frame f ∷ plain_frames earlier
pushed_first all earlier f e =
    ap (λ z. reverse (map plain_frame z)) e ∙ ap reverse (map-append plain_frame earlier (f ∷ [])) ∙ reverse-append (map plain_frame earlier) (plain_frame f ∷ [])

pub keeping-none : (n : ℕ) (ss : List Stmt) (fs : List PlainFrame) → length ss ≡ 0 → keeping n (plain_stmts ss) fs ≡ fs
keeping-none n [] fs e = refl
keeping-none n (s ∷ ss) fs e = let none : ⊥ = omega (arith, e) in absurd none

pub keeping-some : (n : ℕ) (ss : List Stmt) (fs : List PlainFrame) → 0 < length ss → keeping n (plain_stmts ss) fs ≡ rest n (plain_stmts ss) ∷ fs
keeping-some n [] fs e = let none : ⊥ = omega (arith, e) in absurd none
keeping-some n (s ∷ ss) fs e = refl

pub overs-none : (n : ℕ) (x : List ℕ) (i : ℕ) (vs : List PlainValue) (ss : PlainStmts) (fs : List PlainFrame) → length vs ≤ i → overs n x (drop i vs) ss fs ≡ fs
overs-none n x i vs ss fs le = ap (λ z. overs n x z ss fs) (drop_all i vs le)

pub overs-some : (n : ℕ) (x : List ℕ) (i : ℕ) (vs : List PlainValue) (ss : PlainStmts) (fs : List PlainFrame) → i < length vs → overs n x (drop i vs) ss fs ≡ over n x (drop i vs) ss ∷ fs
overs-some n x i [] ss fs lt = let none : ⊥ = omega (arith, lt) in absurd none
overs-some n x zero (v ∷ vs) ss fs lt = refl
overs-some n x (suc i) (v ∷ vs) ss fs lt = overs-some n x i vs ss fs (omega (arith, lt))

-- the first of the members that are left
pub left-first : (vs : List Value) (ms : List PlainValue) (i : ℕ) (v : Value) → map plain vs ≡ ms → i < length vs → v ≡ get_or vs i v → drop i ms ≡ plain v ∷ drop (i + 1) ms
left-first vs ms i v e lt is =
    let one : suc i ≡ i + 1 = omega arith in
    subst (λ z. drop i z ≡ plain v ∷ drop (i + 1) z) e (by vs i lt is ∙ ap (λ n. plain v ∷ drop n (map plain vs)) one)
  where
    by : (vs : List Value) (i : ℕ) → i < length vs → v ≡ get_or vs i v → drop i (map plain vs) ≡ plain v ∷ drop (suc i) (map plain vs)
    by [] i lt is = let none : ⊥ = omega (arith, lt) in absurd none
    by (u ∷ vs) zero lt is = ap (λ z. plain z ∷ map plain vs) (sym is)
    by (u ∷ vs) (suc i) lt is = by vs i (omega (arith, lt)) is

pub next-some : (n : ℕ) (x : List ℕ) (vs : List PlainValue) (v : PlainValue) (ws : List PlainValue) (ss : PlainStmts) (m : PlainMachine) (env : Env) (fs : List PlainFrame)
    → vs ≡ v ∷ ws → env ≡ (x, v) ∷ m.env → fs ≡ overs n x ws ss m.frames → goes (machine env ss fs) ≡ next_of n x vs ss m
next-some n x vs v ws ss m env fs e f g = (λ i. goes (machine (f i) ss (g i))) ∙ ap (λ z. next_of n x z ss m) (sym e)
