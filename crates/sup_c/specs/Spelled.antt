-- What C spells: texts, operations, answers and entries in its structs, and when they spell one; a template in a text.
use Rattle.std.specs.Prelude.{◌≡◌, ◌≤◌, ◌==◌, ◌⊎◌, ◌^◌, ℕ, List, [], take, if◌then◌else◌}
use Rattle.sup_types.specs.Text.{IsText, IsWord}
use Rattle.sup_types.specs.declared.reason.Reason.{Reason}
use Rattle.sup_types.specs.declared.reason.Reason.TheVariants as reason
use Rattle.sup_types.specs.declared.template.Template.{Template}
use Rattle.sup_types.specs.declared.history.Operation.{Operation}
use Rattle.sup_types.specs.declared.history.Operation.TheVariants as operation
use Rattle.sup_types.specs.declared.history.Answer.{Answer}
use Rattle.sup_types.specs.declared.history.Answer.TheVariants as answer
use Rattle.sup_types.specs.declared.history.Entry.{Entry}
use Rattle.sup_format.specs.declared.fault.Fault.{Fault}
use Rattle.sup_format.specs.declared.fault.Fault.TheVariants as fault
use Rattle.sup_format.specs.Reading.History.{template_parts}
use Rattle.sup_format.specs.Reading.HistoryReading.{IsReadTo, HistoryStops}
use Rattle.sup_c.specs.declared.c.CText.{CText}
use Rattle.sup_c.specs.declared.c.CEntry.{CEntry}

-- ---- texts

abbrev pub spelled_text : CText → List ℕ
spelled_text text = take text.len text.bytes

abbrev pub IsSpelledText : CText → Type 0
IsSpelledText text = (text.len ≤ 40) × IsText (spelled_text text)

abbrev pub IsSpelledWord : CText → Type 0
IsSpelledWord text = (text.len ≤ 40) × IsWord (spelled_text text)

-- ---- entries

abbrev pub spelled_reason : ℕ → CText → Reason
spelled_reason number text =
    if number == 0 then reason.Normal else if number == 1 then reason.Shutdown
    else if number == 2 then reason.ShutdownWith (spelled_text text) else reason.Other (spelled_text text)

pub record IsSpelledReason (number : ℕ) (text : CText) : Type 0 where
  pub known : number ≤ 3
  pub term : number ≡ 2 → IsSpelledText text
  pub word : number ≡ 3 → IsSpelledWord text

abbrev pub spelled_operation : CEntry → Operation
spelled_operation c =
    if c.operation == 0 then operation.Start (spelled_text c.text) else if c.operation == 1 then operation.Exit c.number (spelled_reason c.reason c.text)
    else if c.operation == 2 then operation.Retry c.number else if c.operation == 3 then operation.Terminate c.number else operation.Stop

pub record IsSpelledOperation (c : CEntry) : Type 0 where
  pub known : c.operation ≤ 4
  pub argument : c.operation ≡ 0 → IsSpelledText c.text
  pub reason : c.operation ≡ 1 → IsSpelledReason c.reason c.text

abbrev pub spelled_answer : ℕ → ℕ → Answer
spelled_answer number code = if number == 0 then answer.Running else if number == 1 then answer.Ignore else answer.Failed code

abbrev pub spelled_entry : CEntry → Entry
spelled_entry c =
    record {
      handle = c.handle;
      serial = c.serial;
      moment = c.moment;
      operation = spelled_operation c;
      answer = spelled_answer c.answer c.code;
    }

abbrev pub IsSpelledEntry : CEntry → Type 0
IsSpelledEntry c = IsSpelledOperation c × (c.answer ≤ 2)

-- ---- templates

-- the first line of a history text gives this template, but for how many entries there may be
pub record IsTemplateOf (template : Template) (text : List ℕ) (entries : ℕ) : Type 0 where
  pub read : Template
  pub rest : List ℕ
  pub begun : IsReadTo text rest read [] 2
  pub same : template_parts template ≡ template_parts read
  pub entries_are : template.entries ≡ entries

-- the first line gives a template, and the number of entries is out of range
pub record AreOutOfRange (text : List ℕ) (entries : ℕ) : Type 0 where
  pub read : Template
  pub rest : List ℕ
  pub begun : IsReadTo text rest read [] 2
  pub out : 1 ≤ entries → entries ≤ 2 ^ 62 → ⊥

-- why nothing is opened: memory was refused though there is a template, or there is none
abbrev pub IsUnfit : List ℕ → ℕ → Fault → Type 0
IsUnfit text entries fault.OutOfMemory = (template : Template) × IsTemplateOf template text entries
IsUnfit text entries fault.BadTemplate = HistoryStops text 1 fault.BadTemplate ⊎ AreOutOfRange text entries
IsUnfit text entries fault.BadLine = HistoryStops text 1 fault.BadLine
IsUnfit text entries fault.ReadFault = ⊥
IsUnfit text entries fault.WriteFault = ⊥
IsUnfit text entries fault.TooLong = ⊥
