use Rattle.std.proofs.Common.{◌≡◌, true, false, rules, ap, sym, ◌∙◌}
use Rattle.kid_value.specs.ValueView.{plain}
use Rattle.kid_term.specs.Eval.{calls_of}
use Rattle.kid_prog.specs.ProgramView.{plain_program}
use Rattle.kid_prog.proofs.EventLists.{upto-none}
use Rattle.kid_run.specs.Account.{told, with_events}
use Rattle.kid_run.specs.Frames.{doing}
use Rattle.kid_run.specs.FrameView.{plain_machine}
use Rattle.kid_prog.specs.Running.{within}
use Rattle.kid_run.specs.declared.moves.Move.TheVariants.{Goes, Finds, Calls, Ends}
use Rattle.kid_run.specs.Wanted.{has_all}
use Rattle.kid_run.proofs.Accounts.{moved, events-found}
use Rattle.kid_run.proofs.WantedLemmas.{upto-all}
use Rattle.kid_run.proofs.machine.advance.Goals as goal

pub loop-alloc-smaller-in-Goes : goal.loop-alloc-smaller-in-Goes
loop-alloc-smaller-in-Goes c =
    (moved (plain_program c.args.program.now) c.requires.runs (plain_machine c.loop-alloc.machine) c.loop-alloc.invariant.can c.in_ok-step.field-0 (plain_machine c.step.new.machine)
    c.in_ok-step.ensures Goes c.in-Goes.is).2

pub loop-alloc-preserved-in-Goes : goal.loop-alloc-preserved-in-Goes
loop-alloc-preserved-in-Goes c =
    let k = moved (plain_program c.args.program.now) c.requires.runs (plain_machine c.loop-alloc.machine) c.loop-alloc.invariant.can c.in_ok-step.field-0 (plain_machine c.step.new.machine)
    c.in_ok-step.ensures Goes c.in-Goes.is in
    record {
      same = λ f n. c.loop-alloc.invariant.same f n ∙ ap (with_events c.loop-alloc.tally n) (k.0 f);
      can = k.1;
      splits = c.loop-alloc.invariant.splits;
    }

pub count-requires : goal.count-requires
count-requires c =
    (moved (plain_program c.args.program.now) c.requires.runs (plain_machine c.loop-alloc.machine) c.loop-alloc.invariant.can c.in_ok-step.field-0 (plain_machine c.step.new.machine)
    c.in_ok-step.ensures (Finds c.in-Finds.value) c.in-Finds.is).3

pub loop-alloc-preserved : goal.loop-alloc-preserved
loop-alloc-preserved c =
    let p = plain_program c.args.program.now in
    let k = moved p c.requires.runs (plain_machine c.loop-alloc.machine) c.loop-alloc.invariant.can c.in_ok-step.field-0 (plain_machine c.step.new.machine) c.in_ok-step.ensures
    (Finds c.in-Finds.value) c.in-Finds.is in
    let more : has_all c.loop-alloc.tally.wanted ≡ false = sym c.has_all.ensures ∙ search rules in
    record {
      same =
          λ f n. c.loop-alloc.invariant.same f n
          ∙ ap (with_events c.loop-alloc.tally n) (k.0 f)
          ∙ events-found c.loop-alloc.tally c.count.new.tally n (plain c.in-Finds.value) (doing (calls_of p.definitions) f (plain_machine c.step.new.machine)) more
          c.in_ok-count-in-Finds.ensures.lines c.in_ok-count-in-Finds.ensures.answers c.in_ok-count-in-Finds.ensures.splits c.in_ok-count-in-Finds.ensures.wanted;
      can = k.1;
      splits = c.in_ok-count-in-Finds.ensures.splits ∙ c.loop-alloc.invariant.splits;
    }

pub returns-in-Calls-clause-advances : goal.returns-in-Calls-clause-advances
returns-in-Calls-clause-advances c =
    let k = moved (plain_program c.args.program.now) c.requires.runs (plain_machine c.loop-alloc.machine) c.loop-alloc.invariant.can c.in_ok-step.field-0 (plain_machine c.step.new.machine)
    c.in_ok-step.ensures (Calls c.in-Calls.values) c.in-Calls.is in
    let more : has_all c.loop-alloc.tally.wanted ≡ false = sym c.has_all.ensures ∙ search rules in
    ((λ f l. c.loop-alloc.invariant.same f l ∙ ap (with_events c.loop-alloc.tally l) (k.0 f)), k.1, k.2, more)

pub returns-in-Ends-clause-advances : goal.returns-in-Ends-clause-advances
returns-in-Ends-clause-advances c =
    let k = moved (plain_program c.args.program.now) c.requires.runs (plain_machine c.loop-alloc.machine) c.loop-alloc.invariant.can c.in_ok-step.field-0 (plain_machine c.step.new.machine)
    c.in_ok-step.ensures Ends c.in-Ends.is in
    λ f l. c.loop-alloc.invariant.same f l
    ∙ ap (with_events c.loop-alloc.tally l) (k f)
    ∙ ap (λ es. told c.loop-alloc.tally (within l es)) (upto-none c.loop-alloc.tally.wanted)

pub returns-then-has_all-clause-advances : goal.returns-then-has_all-clause-advances
returns-then-has_all-clause-advances c =
    let p = plain_program c.args.program.now in
    let all : has_all c.loop-alloc.tally.wanted ≡ true = sym c.has_all.ensures ∙ search rules in
    λ f l. c.loop-alloc.invariant.same f l
    ∙ ap (λ es. told c.loop-alloc.tally (within l es)) (upto-all c.loop-alloc.tally.wanted (doing (calls_of p.definitions) f (plain_machine c.loop-alloc.machine)) all)
