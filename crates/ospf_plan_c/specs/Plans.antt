-- How a run of a script ends, and what it leaves in the rooms of a host.
use Rattle.std.specs.Prelude.{◌≡◌, ◌<◌, ◌⊎◌, ℕ, List, Some, length}
use Rattle.plan_slices.specs.Room.{IsCopied}
use Rattle.plan_slices.specs.Texts.{end_text, text_if}
use Rattle.whole_run.specs.Run.{run_answers, run_text, final_dump, final_session}
use Rattle.whole_run.specs.WholeRun.{IsSummaryOf, MayEndRun}
use Rattle.whole_run.specs.declared.fault.RunFault.{RunFault}
use Rattle.whole_run.specs.declared.fault.RunFault.TheVariants.{Dump, Read, Write, TooLarge, OutOfMemory}
use Rattle.ospf_plan_c.specs.Status.{IsReported, done, no_memory, no_room, refused, too_large}
use Rattle.ospf_plan_c.specs.declared.planning.PlanReport.{PlanReport}
use Rattle.ospf_plan_c.specs.declared.planning.PlanWanted.{PlanWanted}

-- the report of a run that was carried out: the lengths of the texts that are wanted, and what is counted
pub record IsReportOf (wanted : PlanWanted) (dump script : List ℕ) (report : PlanReport) : Type 0 where
  pub replies : report.replies ≡ length (text_if wanted.replies (run_text dump script))
  pub out : report.dump ≡ length (text_if wanted.dump (final_dump dump script))
  pub session : report.session ≡ length (text_if wanted.session (final_session dump script))
  pub fault : report.fault ≡ 0
  pub summary : IsSummaryOf (run_answers dump script) (record { commands = report.commands; refused = report.refused })

-- the texts that are wanted are in their rooms
pub record AreInRooms (wanted : PlanWanted) (dump script replies new_replies out new_out session new_session : List ℕ) (report : PlanReport)
    (status : ℕ) : Type 0 where
  pub in_replies : IsCopied (text_if wanted.replies (run_text dump script)) replies new_replies
  pub in_out : IsCopied (text_if wanted.dump (final_dump dump script)) out new_out
  pub in_session : IsCopied (text_if wanted.session (final_session dump script)) session new_session
  pub report_is : IsReportOf wanted dump script report
  pub verdict : status ≡ done

-- a room is shorter than its text
pub record LacksRoom (wanted : PlanWanted) (dump script replies out session : List ℕ) (report : PlanReport) (status : ℕ) : Type 0 where
  pub too_small : (length replies < report.replies) ⊎ ((length out < report.dump) ⊎ (length session < report.session))
  pub report_is : IsReportOf wanted dump script report
  pub verdict : status ≡ no_room

-- the status of a run that ended early, the one of the program for the same fault; a write to memory fails for want of it
abbrev pub status_of : RunFault → ℕ
status_of (Dump fault) = refused
status_of Read = too_large
status_of Write = no_memory
status_of TooLarge = too_large
status_of OutOfMemory = no_memory

-- the report of a run that ended early, whose line has this length
abbrev pub no_texts : ℕ → PlanReport
no_texts fault = record { replies = 0; dump = 0; session = 0; fault = fault; commands = 0; refused = 0 }

-- a run ended early, with its status and its line
pub record EndsEarly (dump script fault new_fault : List ℕ) (report : PlanReport) (status : ℕ) : Type 0 where
  pub end : RunFault
  pub may_end : MayEndRun (Some dump) (Some script) end
  pub reported : IsReported (end_text end) report.fault fault new_fault
  pub report_is : report ≡ no_texts report.fault
  pub verdict : status ≡ status_of end
