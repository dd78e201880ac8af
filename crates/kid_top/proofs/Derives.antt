-- What is saved where a theory is derived: the texts of the derivation and of a program that solves the theory.
use Rattle.std.proofs.Common.{◌≡◌, ◌≢◌, ℕ, ℤ, Bool, true, false, List, Option, Some, Result, Ok, refl, sym, ap, ◌∙◌, subst, arith}
use Rattle.std.specs.Prelude.{nat_le, if◌then◌else◌}
use Rattle.std.specs.Str.{bytes_eq}
use Rattle.std.proofs.lemmas.Bool.Decides.{nat_tests}
use Rattle.kid_outer.specs.Held.{Held, update}
use Rattle.kid_term.specs.Eval.{Env}
use Rattle.kid_codec.proofs.Numbers.{bytes_eq-itself, bytes_eq-true}
use Rattle.kid_term.specs.PlainTheory.{PlainTheory}
use Rattle.kid_theory.specs.IsRead.{IsRead}
use Rattle.kid_prog.specs.ProgramText.{program_text}
use Rattle.kid_prog.specs.PlainProgram.{PlainProgram}
use Rattle.kid_top.specs.declared.stop.Stop.{Stop}
use Rattle.kid_top.specs.Derivation.{derivation_text}
use Rattle.kid_top.specs.Emitted.{emitted}
use Rattle.kid_top.specs.Done.{Derived}
use Rattle.kid_top.specs.Finishing.{WorkSaves}
use Rattle.kid_top.specs.Outcome.{Work, saves, theory_stage, script_program, derive_theory, derive_work}
use Rattle.kid_top.specs.Printed.{FindsAnswers, Implements}
use Rattle.kid_top.specs.RangeSearch.{range_count}
use Rattle.kid_top.specs.TheoryAt.{relates_at}
use Rattle.kid_top.proofs.EmittedSearch.{Searchable, emitted-whole}
use Rattle.kid_top.proofs.Headline.{emitted-answer}
use Rattle.kid_top.proofs.Outcomes.{bind_ok, same_ok, stage_theory, script_searches}
use Rattle.kid_top.proofs.Searches.{Searches}

-- ---- the program solves the theory

emitted_finds : (t : PlainTheory) (lo hi : ℤ) (x : Env) → Searchable t lo hi → FindsAnswers t (emitted t lo hi) x
emitted_finds t lo hi x can =
    let n : ℕ = range_count (relates_at t x) t.spec.first (lo, hi) in
    let enough : nat_le n n ≡ true = grind (arith, nat_tests) in
    let whole = emitted-whole t lo hi x n can ∙ enough in
    record { fuel = n; answer = emitted-answer t lo hi x n can whole; whole = whole }

pub searched_implements : (t : PlainTheory) (p : PlainProgram) → Searches t p → Implements t p
searched_implements t p s x = subst (λ (q : PlainProgram). FindsAnswers t q x) (sym s.is) (emitted_finds t s.lo s.hi x s.can)

pub derived_implements : (t : PlainTheory) (script : Option (List ℕ)) (p : PlainProgram) → IsRead t → script_program t script ≡ Ok p → Implements t p
derived_implements t script p is e = searched_implements t p (script_searches t script p is e)

-- ---- the work of deriving

pub record Derives (files : Held) (theory script derivation program : List ℕ) (w : Work) : Type 0 where
  pub of_theory : PlainTheory
  pub theory_read : theory_stage 1 (files theory) ≡ Ok of_theory
  pub of_program : PlainProgram
  pub derived : script_program of_theory (files script) ≡ Ok of_program
  pub is : saves derivation program (derivation_text of_program) (program_text of_program) ≡ w

pub derive_parts : (files : Held) (theory script derivation program : List ℕ) (w : Work) → derive_work files theory script derivation program ≡ Ok w
    → Derives files theory script derivation program w
derive_parts files theory script derivation program w e =
    let a = bind_ok (theory_stage 1 (files theory)) (derive_theory files script derivation program) w e in
    let t : PlainTheory = a.0 in
    let ready : PlainProgram → Result Work Stop = λ p. Ok (saves derivation program (derivation_text p) (program_text p)) in
    let b = bind_ok (script_program t (files script)) ready w a.2 in
    let p : PlainProgram = b.0 in
    record { of_theory = t; theory_read = a.1; of_program = p; derived = b.1; is = same_ok (ready p) (saves derivation program (derivation_text p) (program_text p)) w refl b.2 }

-- ---- what the names hold

-- where the names differ
differ : (b : Bool) (x y : List ℕ) → bytes_eq x y ≡ b → y ≢ x → b ≡ false
differ true x y e apart = absurd (apart (sym (bytes_eq-true x y e)))
differ false x y e apart = refl

pub held_last : (files : Held) (derivation program bytes text : List ℕ) → update program text (update derivation bytes files) program ≡ Some text
held_last files derivation program bytes text = ap (λ (b : Bool). if b then Some text else update derivation bytes files program) (bytes_eq-itself program)

pub held_first : (files : Held) (derivation program bytes text : List ℕ) → derivation ≢ program → update program text (update derivation bytes files) derivation ≡ Some bytes
held_first files derivation program bytes text apart =
    ap (λ (b : Bool). if b then Some text else update derivation bytes files derivation) (differ (bytes_eq program derivation) program derivation refl apart)
    ∙ ap (λ (b : Bool). if b then Some bytes else files derivation) (bytes_eq-itself derivation)

same_held : (files after : Held) → Some after ≡ Some files → after ≡ files
same_held files after e = cc

-- what is held after both texts are saved
pub derive_held : (files after : Held) (theory script derivation program : List ℕ) (w : Work) → derivation ≢ program → derive_work files theory script derivation program ≡ Ok w
    → WorkSaves w (Some files) (Some after) → Derived files after theory script derivation program
derive_held files after theory script derivation program w apart e saved =
    let r = derive_parts files theory script derivation program w e in
    let p : PlainProgram = r.of_program in
    let bytes : List ℕ = derivation_text p in
    let text : List ℕ = program_text p in
    let both : Some after ≡ Some (update program text (update derivation bytes files)) = subst (λ (v : Work). WorkSaves v (Some files) (Some after)) (sym r.is) saved in
    let is = same_held (update program text (update derivation bytes files)) after both in
    record {
      of_theory = r.of_theory;
      theory_read = r.theory_read;
      of_program = p;
      derived = r.derived;
      implements = derived_implements r.of_theory (files script) p (stage_theory 1 (files theory) r.of_theory r.theory_read) r.derived;
      derivation_saved = ap (λ (held : Held). held derivation) is ∙ held_first files derivation program bytes text apart;
      program_saved = ap (λ (held : Held). held program) is ∙ held_last files derivation program bytes text;
    }
