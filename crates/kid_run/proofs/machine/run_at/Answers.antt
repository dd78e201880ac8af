use Rattle.std.proofs.Common.{◌≡◌, ◌≤◌, suc, ◌+◌, ◌-◌, [], ap, sym, ◌∙◌, subst, refl, map, option_map, arith}
use Rattle.kid_value.specs.ValueView.{plain}
use Rattle.kid_term.specs.Eval.{bound, calls_of}
use Rattle.kid_prog.specs.PlainStmt.{stmt_row}
use Rattle.kid_prog.specs.ProgramView.{plain_program}
use Rattle.kid_run.specs.Account.{account, told, with_events, Advances}
use Rattle.kid_run.specs.Frames.{machine, doing, entered}
use Rattle.kid_run.specs.FrameView.{plain_machine, plain_frames}
use Rattle.kid_prog.specs.Events.{procedure}
use Rattle.kid_prog.specs.Running.{upto_value, within}
use Rattle.kid_run.specs.Scope.{MachineCanRun}
use Rattle.kid_run.specs.declared.tally.Tally.{Tally}
use Rattle.kid_run.proofs.Accounts.{told-called}
use Rattle.kid_run.proofs.Calls.{all-to_do, call-goes_on, call-stops}
use Rattle.kid_run.proofs.Steps.{start-can, entered-can}
use Rattle.kid_run.proofs.machine.run_at.Goals as goal

pub loop-tally-init : goal.loop-tally-init
loop-tally-init c =
    let p = plain_program c.args.program.now in
    let x = bound p.inputs (map plain c.args.inputs.now) in
    let f = procedure p x c.args.fuel in
    let e : plain_machine (record { env = c.input_env.result; stmts = c.items.result; frames = c.new.result }) ≡ machine x p.main []
    = λ i. machine (c.input_env.ensures i) (stmt_row (c.items.ensures i)) (plain_frames (c.new.ensures.items i)) in
    let es = doing (calls_of p.definitions) f (plain_machine (record { env = c.input_env.result; stmts = c.items.result; frames = c.new.result })) in
    let t : with_events c.new-tally.result c.args.fuel es ≡ account [] 0 0 (within c.args.fuel (upto_value p.first es))
    = λ i. account (c.new-tally.ensures.lines i) (c.new-tally.ensures.answers i) (c.new-tally.ensures.splits i) (within c.args.fuel (upto_value (c.new-tally.ensures.wanted i) es)) in
    record {
      same = t ∙ ap (λ m. account [] 0 0 (within c.args.fuel (upto_value p.first (doing (calls_of p.definitions) f m)))) e ∙ ap (account [] 0 0) (all-to_do p x c.args.fuel);
      can = subst (MachineCanRun p) (sym e) (start-can p c.requires.runs x c.requires.fits);
      count = omega (arith, c.new-tally.ensures.splits);
    }

pub returns-in_default : goal.returns-in_default
returns-in_default c =
    let p = plain_program c.args.program.now in
    let x = bound p.inputs (map plain c.args.inputs.now) in
    let k = subst (λ z. Advances p c.loop-tally.tally (plain_machine c.loop-tally.machine) c.advance.new.tally (plain_machine c.advance.new.machine) (option_map (λ vs. vs.items) z)) c.in_default.is
    c.in_ok-values.ensures.advances in
    sym (k (procedure p x c.args.fuel) c.loop-tally.left) ∙ c.loop-tally.invariant.same

pub returns-then-left-eq0 : goal.returns-then-left-eq0
returns-then-left-eq0 c =
    let p = plain_program c.args.program.now in
    let x = bound p.inputs (map plain c.args.inputs.now) in
    let f = procedure p x c.args.fuel in
    let n = plain_machine c.advance.new.machine in
    let vs = map plain c.in-Some.values.items in
    let k = subst (λ z. Advances p c.loop-tally.tally (plain_machine c.loop-tally.machine) c.advance.new.tally n (option_map (λ vs. vs.items) z)) c.in-Some.is c.in_ok-values.ensures.advances in
    let none : c.loop-tally.left ≡ 0 = omega (arith, c.if-left-eq0.true) in
    ap (told c.advance.new.tally) (sym (call-stops p x c.args.fuel c.loop-tally.left none c.advance.new.tally.wanted k.3 vs (doing (calls_of p.definitions) f n)))
    ∙ sym (k.0 f c.loop-tally.left)
    ∙ c.loop-tally.invariant.same

pub loop-tally-preserved : goal.loop-tally-preserved
loop-tally-preserved c =
    let p = plain_program c.args.program.now in
    let x = bound p.inputs (map plain c.args.inputs.now) in
    let f = procedure p x c.args.fuel in
    let n = plain_machine c.advance.new.machine in
    let t = c.advance.new.tally in
    let u : Tally = record { lines = t.lines; answers = t.answers; splits = t.splits + 1; wanted = t.wanted } in
    let vs = map plain c.in-Some.values.items in
    let left = c.loop-tally.left in
    let k = subst (λ z. Advances p c.loop-tally.tally (plain_machine c.loop-tally.machine) t n (option_map (λ vs. vs.items) z)) c.in-Some.is c.in_ok-values.ensures.advances in
    let e : left ≡ suc (left - 1) = omega (arith, c.if-left-eq0.false) in
    let le : left ≤ c.args.fuel = omega (arith, c.loop-tally.invariant.count) in
    record {
      same =
          ap (λ m. with_events u (left - 1) (doing (calls_of p.definitions) f m)) c.in_ok-enter.ensures
          ∙ sym (told-called t u (within (left - 1) (upto_value t.wanted (doing (calls_of p.definitions) f (entered p x vs n)))) refl refl refl)
          ∙ ap (told t) (sym (call-goes_on p x c.args.fuel left (left - 1) e le t.wanted k.3 vs n))
          ∙ sym (k.0 f left)
          ∙ c.loop-tally.invariant.same;
      can = subst (MachineCanRun p) (sym c.in_ok-enter.ensures) (entered-can p c.requires.runs x vs n c.requires.fits k.2 k.1);
      count = omega (arith, c.loop-tally.invariant.count, c.in_ok-values.ensures.splits, c.if-left-eq0.false);
    }
