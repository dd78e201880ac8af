-- One stage after another.
use Rattle.std.proofs.Common.{◌≡◌, ◌≤◌, ℕ, List, Option, Some, None, option_map, Result, Ok, sym, ap, ◌∙◌, subst, arith, inl, inr, ⊎_elim}
use Rattle.std.specs.Global.{Vec}
use Rattle.kid_outer.specs.Causes.{Rose, NeverFall}
use Rattle.kid_outer.specs.Held.{Held}
use Rattle.kid_term.specs.PlainTheory.{PlainTheory}
use Rattle.kid_kernel.specs.TheoryView.{plain_theory}
use Rattle.kid_kernel.specs.declared.theory.Theory.{Theory}
use Rattle.kid_theory.specs.Reading.{theory_reading}
use Rattle.kid_prog.specs.ProgramView.{plain_program}
use Rattle.kid_prog.specs.declared.program.Program.{Program}
use Rattle.kid_top.specs.declared.stop.Stop.{Stop}
use Rattle.kid_top.specs.Emitted.{program_for}
use Rattle.kid_top.specs.Files.{script_file}
use Rattle.kid_top.specs.Outcome.{Comes, Outcomes, load_stage, theory_or, theory_file, theory_stage, stage, emitted_or, script_program, ◌>>=◌}
use Rattle.kid_top.specs.Risen.{Counts, TheoryRose, SolveRose, DeriveRose}

-- the script was read, and then this came of the theory
pub after_script : (h : Option Held) (t : PlainTheory) (script : List ℕ) (u : Unit {0}) (r : Result Program Stop)
    → Outcomes {X = Unit {0}} {Y = Unit {0}} h (λ u. u) (Ok u) (λ files. stage 2 script_file (files script))
    → Comes plain_program r (emitted_or (program_for t)) → Outcomes h plain_program r (λ files. script_program t (files script))
after_script None t script u r first rest = tt
after_script (Some files) t script u r first rest =
    subst (λ (o : Result (Unit {0}) Stop). Comes plain_program r (o >>= λ v. emitted_or (program_for t))) (sym first) rest

-- the theory's file was read, and this came of its bytes
pub after_load : (h : Option Held) (k : ℕ) (name text : List ℕ) (bytes : Vec ℕ) (o : Option (Vec ℕ)) (r : Result Theory Stop)
    → Outcomes {X = Option (Vec ℕ)} {Y = Option (List ℕ)} h (option_map (λ b. b.items)) (Ok o) (λ files. load_stage k (files name))
    → o ≡ Some bytes → text ≡ bytes.items → Comes plain_theory r (theory_or (theory_reading text)) → Outcomes h plain_theory r (λ files. theory_stage k (files name))
after_load None k name text bytes o r first is same comes = tt
after_load (Some files) k name text bytes o r first is same comes =
    subst (λ (there : Result PlainTheory Stop). Comes plain_theory r there)
    (sym
    (ap (λ (there : Result (Option (List ℕ)) Stop). there >>= theory_file) first
    ∙ ap (λ (p : Option (Vec ℕ)). theory_file (option_map (λ b. b.items) p)) is
    ∙ ap (λ (t : List ℕ). theory_or (theory_reading t)) (sym same)))
    comes

-- one stage gave this, and then that came of the next
pub after_stage : {X Y Z W : Type 0} (h : Option Held) (view : X → Y) (x : X) (later : Z → W) (r : Result Z Stop) (first : Held → Result Y Stop) (rest : Held → Y → Result W Stop)
    → Outcomes h view (Ok x) first → Outcomes h later r (λ files. rest files (view x)) → Outcomes h later r (λ files. first files >>= rest files)
after_stage None view x later r first rest e comes = tt
after_stage {Y = Y} (Some files) view x later r first rest e comes = subst (λ (o : Result Y Stop). Comes later r (o >>= rest files)) (sym e) comes

-- what comes whatever is held
pub at_any : {Z W : Type 0} (h : Option Held) (later : Z → W) (r : Result Z Stop) (o : Result W Stop) → Comes later r o → Outcomes h later r (λ files. o)
at_any None later r o comes = tt
at_any (Some files) later r o comes = comes

-- ---- counts that rose after others

pub rose_later : (a b c : ℕ) → a ≤ b → Rose b c → Rose a c
rose_later a b c le rose = omega (arith, le, rose)

pub derive_rose : (h : Option Held) (before mid now : Counts) (theory script : List ℕ) (t : Theory) → NeverFall before mid
    → Outcomes {X = Theory} {Y = PlainTheory} h plain_theory (Ok t) (λ files. theory_stage 1 (files theory)) → Rose (mid script) (now script)
    → DeriveRose h before now theory script
derive_rose None before mid now theory script t never read rose = inr (rose_later (before script) (mid script) (now script) (never script) rose)
derive_rose (Some files) before mid now theory script t never read rose =
    inr (plain_theory t, read, rose_later (before script) (mid script) (now script) (never script) rose)

pub solve_rose : (h : Option Held) (before mid now : Counts) (theory script inputs : List ℕ) (t : Theory) → NeverFall before mid
    → Outcomes {X = Theory} {Y = PlainTheory} h plain_theory (Ok t) (λ files. theory_stage 1 (files theory)) → TheoryRose h mid now (plain_theory t) script inputs
    → SolveRose h before now theory script inputs
solve_rose None before mid now theory script inputs t never read rose =
    inr (⊎_elim (λ r. inl (rose_later (before script) (mid script) (now script) (never script) r)) (λ r. inr (rose_later (before inputs) (mid inputs) (now inputs) (never inputs) r)) rose)
solve_rose (Some files) before mid now theory script inputs t never read rose =
    inr (
      plain_theory t,
      read,
      ⊎_elim (λ r. inl (rose_later (before script) (mid script) (now script) (never script) r)) (λ r. inr (r.0, r.1, rose_later (before inputs) (mid inputs) (now inputs) (never inputs) r.2)) rose,
    )
