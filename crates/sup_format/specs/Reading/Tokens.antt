-- How the values of a line are spelled: each by one word, and an operation by its name and the words of its arguments.
use Rattle.std.specs.Prelude.{◌≡◌, ◌≢◌, ℕ, ◌<◌, ◌^◌, Bool, true, false, List, [], ◌∷◌, ◌++◌, Option, None, Some, codes}
use Rattle.std.specs.Fmt.{decimal}
use Rattle.sup_types.specs.Text.{IsText, IsWord}
use Rattle.sup_types.specs.declared.reason.Reason.{Reason}
use Rattle.sup_types.specs.declared.reason.Reason.TheVariants as reason
use Rattle.sup_types.specs.declared.template.Restart.{Restart}
use Rattle.sup_types.specs.declared.template.Restart.TheVariants as restart
use Rattle.sup_types.specs.declared.template.Kind.{Kind}
use Rattle.sup_types.specs.declared.template.Kind.TheVariants as kind
use Rattle.sup_types.specs.declared.template.AutoShutdown.{AutoShutdown}
use Rattle.sup_types.specs.declared.template.AutoShutdown.TheVariants as auto
use Rattle.sup_types.specs.declared.history.Operation.{Operation}
use Rattle.sup_types.specs.declared.history.Operation.TheVariants as operation
use Rattle.sup_format.specs.declared.spelled.Verb.{Verb}
use Rattle.sup_format.specs.declared.spelled.Verb.TheVariants as verb

abbrev pub restart_word : Restart → List ℕ
restart_word restart.Permanent = codes "permanent"
restart_word restart.Transient = codes "transient"
restart_word restart.Temporary = codes "temporary"

abbrev pub kind_word : Kind → List ℕ
kind_word kind.Worker = codes "worker"
kind_word kind.Supervisor = codes "supervisor"

-- whether the children are significant
abbrev pub mark_word : Bool → List ℕ
mark_word true = codes "significant"
mark_word false = codes "plain"

abbrev pub auto_word : AutoShutdown → List ℕ
auto_word auto.Never = codes "never"
auto_word auto.Any = codes "any"
auto_word auto.All = codes "all"

abbrev pub reason_word : Reason → List ℕ
reason_word reason.Normal = codes "normal"
reason_word reason.Shutdown = codes "shutdown"
reason_word (reason.ShutdownWith term) = codes "shutdown:" ++ term
reason_word (reason.Other word) = word

-- the name of an operation
abbrev pub verb_word : Verb → List ℕ
verb_word verb.Start = codes "start"
verb_word verb.Exit = codes "exit"
verb_word verb.Retry = codes "retry"
verb_word verb.Terminate = codes "terminate"
verb_word verb.Stop = codes "stop"

abbrev pub operation_verb : Operation → Verb
operation_verb (operation.Start argument) = verb.Start
operation_verb (operation.Exit number r) = verb.Exit
operation_verb (operation.Retry number) = verb.Retry
operation_verb (operation.Terminate number) = verb.Terminate
operation_verb operation.Stop = verb.Stop

-- its arguments; a number is spelled by its digits, with no sign and no leading zero
abbrev pub argument_words : Operation → List (List ℕ)
argument_words (operation.Start argument) = argument ∷ []
argument_words (operation.Exit number r) = decimal number ∷ reason_word r ∷ []
argument_words (operation.Retry number) = decimal number ∷ []
argument_words (operation.Terminate number) = decimal number ∷ []
argument_words operation.Stop = []

-- ---- what has a spelling: numbers below 2^64, and texts and words as they are

abbrev pub IsReason : Reason → Type 0
IsReason reason.Normal = Unit {0}
IsReason reason.Shutdown = Unit {0}
IsReason (reason.ShutdownWith term) = IsText term
IsReason (reason.Other word) = IsWord word

abbrev pub IsOperation : Operation → Type 0
IsOperation (operation.Start argument) = IsText argument
IsOperation (operation.Exit number r) = (number < 2 ^ 64) × IsReason r
IsOperation (operation.Retry number) = number < 2 ^ 64
IsOperation (operation.Terminate number) = number < 2 ^ 64
IsOperation operation.Stop = Unit {0}

-- ---- what a word, or the remaining words, do not begin with

-- the value that a word spells, if it spells one
abbrev pub IsWordOf : {X : Type 0} → (X → List ℕ) → List ℕ → Option X → Type 0
IsWordOf spelled word None = (x : _) → word ≢ spelled x
IsWordOf spelled word (Some x) = word ≡ spelled x

-- the remaining words begin with none of these values
abbrev pub HasNoValue : {X : Type 0} → (X → List ℕ) → List (List ℕ) → Type 0
HasNoValue spelled words = (x : _) (more : List (List ℕ)) → words ≡ spelled x ∷ more → ⊥

abbrev pub HasOtherWord : List (List ℕ) → List ℕ → Type 0
HasOtherWord words word = (more : List (List ℕ)) → words ≡ word ∷ more → ⊥

abbrev pub HasNoNumber : List (List ℕ) → Type 0
HasNoNumber words = (n : ℕ) (more : List (List ℕ)) → n < 2 ^ 64 → words ≡ decimal n ∷ more → ⊥

abbrev pub HasNoCode : List (List ℕ) → Type 0
HasNoCode words = (code : ℕ) (more : List (List ℕ)) → code < 2 ^ 32 → words ≡ decimal code ∷ more → ⊥

abbrev pub HasNoText : List (List ℕ) → Type 0
HasNoText words = (text : List ℕ) (more : List (List ℕ)) → IsText text → words ≡ text ∷ more → ⊥

abbrev pub HasNoReason : List (List ℕ) → Type 0
HasNoReason words = (r : Reason) (more : List (List ℕ)) → IsReason r → words ≡ reason_word r ∷ more → ⊥

abbrev pub HasNoArguments : Verb → List (List ℕ) → Type 0
HasNoArguments v words = (o : Operation) (more : List (List ℕ)) → IsOperation o → operation_verb o ≡ v → words ≡ argument_words o ++ more → ⊥
