-- A machine of the program as plain data.
use Rattle.std.specs.Prelude.{List, map, drop, reverse}
use Rattle.kid_value.specs.PlainValue.{PlainValue}
use Rattle.kid_value.specs.ValueView.{plain}
use Rattle.kid_value.specs.Rows.Parts.{members_of}
use Rattle.kid_prog.specs.PlainStmt.{PlainStmts, stmt_row}
use Rattle.kid_prog.specs.StmtView.{plain_stmt}
use Rattle.kid_prog.specs.declared.statement.Stmt.{Stmt}
use Rattle.kid_run.specs.Frames.{PlainFrame, rest, over, caller, PlainMachine, machine}
use Rattle.kid_run.specs.declared.frame.Frame.{Frame}
use Rattle.kid_run.specs.declared.frame.Frame.TheVariants.{Rest, Each, Caller}
use Rattle.kid_run.specs.declared.frame.Walk.{Walk}
use Rattle.kid_run.specs.declared.frame.Machine.{Machine}

abbrev pub plain_stmts : List Stmt → PlainStmts
plain_stmts ss = stmt_row (map plain_stmt ss)

-- the members that are left
abbrev pub members_left : Walk → List PlainValue
members_left w = drop w.next (members_of (plain w.set))

abbrev pub plain_frame : Frame → PlainFrame
plain_frame (Rest ss n) = rest n (plain_stmts ss.now)
plain_frame (Each w) = over w.names w.name.now (members_left w) (plain_stmts w.body.now)
plain_frame (Caller env) = caller env

-- the frames, the last first
abbrev pub plain_frames : List Frame → List PlainFrame
plain_frames fs = reverse (map plain_frame fs)

abbrev pub plain_machine : Machine → PlainMachine
plain_machine m = machine m.env (plain_stmts m.stmts.now) (plain_frames m.frames.items)
