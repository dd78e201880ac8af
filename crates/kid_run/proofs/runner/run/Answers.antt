use Rattle.std.proofs.Common.{◌≡◌, ◌++◌, ◌+◌, ◌∷◌, [], sym, ◌∙◌, subst, option_map, take}
use Rattle.kid_outer.specs.Written.{AppendsPrefix}
use Rattle.kid_prog.specs.ProgramView.{plain_program}
use Rattle.kid_run.specs.InputReading.{AllFit}
use Rattle.kid_run.specs.Lines.{input_lines}
use Rattle.kid_term.specs.Eval.{bound}
use Rattle.kid_run.proofs.Runs.{Inputs, inputs_text, input_text, fits-at, text-next, report-next, put-next, front-done, front-part, printed-front, printed-whole}
use Rattle.kid_run.proofs.runner.run.Goals as goal

pub run_input-requires-clause-fits : goal.run_input-requires-clause-fits
run_input-requires-clause-fits g c =
    let p = plain_program c.args.program.now in
    fits-at p.inputs c.items-input-items.result.now c.loop-input.input-index c.input-item.result c.loop-input-test.true c.input-item.is
    (subst (AllFit p.inputs) (sym c.items-input-items.ensures) c.requires.fit)

pub returns-in_err-printed-clause-front : goal.returns-in_err-printed-clause-front
returns-in_err-printed-clause-front g c =
    let p = plain_program c.args.program.now in
    let old = g.O.Sink.written c.args.out.now in
    let new = g.O.Sink.written c.loop-input.out in
    subst (λ (xs : Inputs). AppendsPrefix (inputs_text p c.args.fuel xs) old new) c.items-input-items.ensures
    (front-done p c.args.fuel c.items-input-items.result.now c.loop-input.input-index old new c.loop-input.invariant.put)

pub returns-in_err-push-clause-front : goal.returns-in_err-push-clause-front
returns-in_err-push-clause-front g c =
    let p = plain_program c.args.program.now in
    let old = g.O.Sink.written c.args.out.now in
    let new = g.O.Sink.written c.loop-input.out in
    subst (λ (xs : Inputs). AppendsPrefix (inputs_text p c.args.fuel xs) old new) c.items-input-items.ensures
    (front-done p c.args.fuel c.items-input-items.result.now c.loop-input.input-index old new c.loop-input.invariant.put)

pub returns-in_err-put_lines-clause-front : goal.returns-in_err-put_lines-clause-front
returns-in_err-put_lines-clause-front g c =
    let p = plain_program c.args.program.now in
    let old = g.O.Sink.written c.args.out.now in
    let mid = g.O.Sink.written c.loop-input.out in
    let new = g.O.Sink.written c.put_lines.new.out in
    let part = printed-front c.deref.result.now c.in_ok-printed.printed.lines.items (input_lines p c.args.fuel (bound p.inputs c.input-item.result)) mid new c.deref.ensures.value
    c.in_ok-printed.ensures.lines c.put_lines.ensures.front in
    subst (λ (xs : Inputs). AppendsPrefix (inputs_text p c.args.fuel xs) old new) c.items-input-items.ensures
    (front-part p c.args.fuel c.items-input-items.result.now c.loop-input.input-index c.input-item.result old mid new c.loop-input-test.true c.input-item.is c.loop-input.invariant.put part)

pub loop-input-preserved : goal.loop-input-preserved
loop-input-preserved g c =
    let p = plain_program c.args.program.now in
    let inputs = c.items-input-items.result.now in
    let i = c.loop-input.input-index in
    let old = g.O.Sink.written c.args.out.now in
    let mid = g.O.Sink.written c.loop-input.out in
    let new = g.O.Sink.written c.put_lines.new.out in
    let more : new ≡ option_map (λ w. w ++ input_text p c.args.fuel c.input-item.result) mid
    = printed-whole c.deref.result.now c.in_ok-printed.printed.lines.items (input_lines p c.args.fuel (bound p.inputs c.input-item.result)) mid new c.deref.ensures.value
    c.in_ok-printed.ensures.lines c.in_ok-put_lines.ensures.ok in
    record {
      put =
          put-next (inputs_text p c.args.fuel (take i inputs)) (input_text p c.args.fuel c.input-item.result) (inputs_text p c.args.fuel (take (i + 1) inputs)) old mid new
          (text-next p c.args.fuel inputs i c.input-item.result c.loop-input-test.true c.input-item.is) c.loop-input.invariant.put more;
      reported =
          c.in_ok-push.ensures.items
          ∙ (λ k. c.loop-input.invariant.reported k ++ c.in_ok-printed.ensures.entry k ∷ [])
          ∙ sym (report-next p c.args.fuel inputs i c.input-item.result c.loop-input-test.true c.input-item.is);
      still = c.in_ok-put_lines.ensures.still ∙ c.loop-input.invariant.still;
    }

pub returns-clause-front : goal.returns-clause-front
returns-clause-front g c =
    let p = plain_program c.args.program.now in
    let old = g.O.Sink.written c.args.out.now in
    let new = g.O.Sink.written c.loop-input.out in
    subst (λ (xs : Inputs). AppendsPrefix (inputs_text p c.args.fuel xs) old new) c.items-input-items.ensures
    (front-done p c.args.fuel c.items-input-items.result.now c.loop-input.input-index old new c.loop-input.invariant.put)
