-- How what a supervisor answers is told to C.
use Rattle.std.specs.Prelude.{ℕ, ◌-◌, ◌++◌, List, [], length, replicate, true, false, Option, None, Some, if◌then◌else◌}
use Rattle.sup_types.specs.Status.{is_running}
use Rattle.sup_types.specs.declared.reason.Reason.{Reason}
use Rattle.sup_types.specs.declared.reason.Reason.TheVariants as reason
use Rattle.sup_types.specs.declared.history.Operation.{Operation}
use Rattle.sup_types.specs.declared.history.Operation.TheVariants as operation
use Rattle.sup_types.specs.declared.history.Answer.{Answer}
use Rattle.sup_types.specs.declared.history.Answer.TheVariants as answer
use Rattle.sup_types.specs.declared.history.Entry.{Entry}
use Rattle.sup_types.specs.declared.history.Reply.{Reply}
use Rattle.sup_types.specs.declared.history.Reply.TheVariants as reply
use Rattle.sup_types.specs.declared.view.Counts.{Counts}
use Rattle.sup_types.specs.declared.view.Row.{Row}
use Rattle.sup_types.specs.declared.view.Seen.{Seen}
use Rattle.sup_types.specs.declared.view.Seen.TheVariants as seen
use Rattle.sup_c.specs.declared.c.CText.{CText}
use Rattle.sup_c.specs.declared.c.CEntry.{CEntry}
use Rattle.sup_c.specs.declared.c.CReply.{CReply}
use Rattle.sup_c.specs.declared.c.CCounts.{CCounts}
use Rattle.sup_c.specs.declared.c.CRow.{CRow}

abbrev pub told_text : List ℕ → CText
told_text bytes = record { len = length bytes; bytes = bytes ++ replicate (40 - length bytes) 0 }

abbrev pub no_text : CText
no_text = told_text []

-- the argument that is asked about, if there is one
abbrev pub told_asked : Option (List ℕ) → CText
told_asked None = no_text
told_asked (Some argument) = told_text argument

abbrev pub reply_with : ℕ → ℕ → ℕ → ℕ → CReply
reply_with kind code number next = record { kind = kind; code = code; number = number; next = next }

abbrev pub told_reply : Reply → CReply
told_reply (reply.Started number) = reply_with 0 0 number 0
told_reply reply.Undefined = reply_with 1 0 0 0
told_reply (reply.StartFailed code) = reply_with 2 code 0 0
told_reply reply.Full = reply_with 3 0 0 0
told_reply (reply.Removed number) = reply_with 4 0 number 0
told_reply (reply.ShutDown number) = reply_with 5 0 number 0
told_reply (reply.Restarted number next) = reply_with 6 0 number next
told_reply (reply.Restarting number code) = reply_with 7 code number 0
told_reply (reply.Ignored number) = reply_with 8 0 number 0
told_reply (reply.Stray number) = reply_with 9 0 number 0
told_reply reply.NotFound = reply_with 10 0 0 0
told_reply reply.Ended = reply_with 11 0 0 0
told_reply reply.Stopped = reply_with 12 0 0 0
told_reply reply.GaveUp = reply_with 13 0 0 0
told_reply reply.Down = reply_with 14 0 0 0

-- how many entries there were, and how many children there are
abbrev pub told_counts : ℕ → Seen Counts → CCounts
told_counts stamp (seen.Up counts) =
    record { specs = counts.specs; active = counts.active; supervisors = counts.supervisors; workers = counts.workers; stamp = stamp; is_down = false }
told_counts stamp seen.Down = record { specs = 0; active = 0; supervisors = 0; workers = 0; stamp = stamp; is_down = true }

-- a child, or that none is listed, or that the supervisor is down
abbrev pub told_child : Seen (Option Row) → CRow
told_child (seen.Up (Some row)) =
    record { number = row.number; status = if is_running row.status then 1 else 2; arg = told_text row.arg }
told_child (seen.Up None) = record { number = 0; status = 0; arg = no_text }
told_child seen.Down = record { number = 0; status = 3; arg = no_text }

-- ---- entries: the operation's number, its child's and its reason's, and its text

abbrev pub reason_number : Reason → ℕ
reason_number reason.Normal = 0
reason_number reason.Shutdown = 1
reason_number (reason.ShutdownWith term) = 2
reason_number (reason.Other word) = 3

abbrev pub reason_text : Reason → CText
reason_text reason.Normal = no_text
reason_text reason.Shutdown = no_text
reason_text (reason.ShutdownWith term) = told_text term
reason_text (reason.Other word) = told_text word

abbrev pub answer_number : Answer → ℕ
answer_number answer.Running = 0
answer_number answer.Ignore = 1
answer_number (answer.Failed code) = 2

abbrev pub answer_code : Answer → ℕ
answer_code answer.Running = 0
answer_code answer.Ignore = 0
answer_code (answer.Failed code) = code

abbrev pub entry_with : Entry → ℕ → ℕ → ℕ → CText → CEntry
entry_with e operation number reason text =
    record {
      handle = e.handle;
      serial = e.serial;
      moment = e.moment;
      number = number;
      operation = operation;
      reason = reason;
      answer = answer_number e.answer;
      code = answer_code e.answer;
      text = text;
    }

abbrev pub entry_doing : Entry → Operation → CEntry
entry_doing e (operation.Start argument) = entry_with e 0 0 0 (told_text argument)
entry_doing e (operation.Exit number reason) = entry_with e 1 number (reason_number reason) (reason_text reason)
entry_doing e (operation.Retry number) = entry_with e 2 number 0 no_text
entry_doing e (operation.Terminate number) = entry_with e 3 number 0 no_text
entry_doing e operation.Stop = entry_with e 4 0 0 no_text

abbrev pub told_entry : Entry → CEntry
told_entry e = entry_doing e e.operation
