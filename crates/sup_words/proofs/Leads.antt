-- Where the words lead: the grammar is of clap's simple kind, and what it makes of the two words that need no option.
use Rattle.std.proofs.Common.{◌≡◌, ◌∙◌, ℕ, true, List, [], ◌∷◌, Option, Some, None, refl, sym, ap, ap₂, subst, arith, get_or, codes, inl, inr}
use Rattle.std.specs.Borrow.{Bor}
use Rattle.std.specs.Box.{box_value}
use Rattle.std.proofs.lemmas.Bool.{false≢true}
use Rattle.std.specs.Result.{IsErr, IsErrAnd}
use Rattle.std.specs.Prelude.{option_map, Box, MatchOption, Result, Ok, Err}
use Rattle.clap.specs.Faults.{is_simple_and_free}
use Rattle.clap.specs.Kinds.{HasKind, IsAmong, Kinds}
use Rattle.clap.specs.Matches.{subcommand_name_of}
use Rattle.clap.specs.Simple.{is_simple, subcommand_rows, subcommand_rows_of}
use Rattle.clap.specs.Values.{kind_of}
use Rattle.clap.specs.Walk.{Row, Text, first_of, one_of}
use Rattle.clap.specs.declared.error.Error.{Error}
use Rattle.clap.specs.declared.parser.matches.ArgMatches.{ArgMatches}
use Rattle.clap.specs.declared.parser.matches.ArgMatches.TheViews.{out-ArgMatches, out-SubCommand}
use Rattle.clap.specs.declared.parser.matches.SubCommand.{SubCommand}
use Rattle.clap.specs.declared.error.kind.ErrorKind.TheVariants.{InvalidSubcommand, OutOfMemory}
use Rattle.clap.proofs.OnLiterals.{clap_on_literals}
use Rattle.sup_words.specs.Grammar.{supload_app}
use Rattle.sup_words.specs.Ranges.{IsWithin}
use Rattle.sup_words.specs.Orders.{AreNumbers, Command, IsDetail, IsOrder, IsRefusal, IsSource, IsTextOf, LeadsTo, WordsLeadTo, command_at, kinds_at}
use Rattle.sup_script.specs.declared.runs.answer.Detail.{Detail}
use Rattle.sup_script.specs.declared.runs.answer.Detail.TheVariants as detail
use Rattle.sup_script.specs.declared.runs.answer.Input.TheVariants as input
use Rattle.sup_words.specs.declared.words.Order.{Order}
use Rattle.sup_words.specs.declared.words.Order.TheVariants as order

pub grammar_is_simple : is_simple supload_app ≡ true
grammar_is_simple = refl

pub grammar_is_free : is_simple_and_free supload_app ≡ true
grammar_is_free = refl

-- clap took the words, so its kinds are none, and what was made of its matches is what the words lead to
pub leads : (kinds : Kinds) (command found : Command) (o : Order) → kinds ≡ [] → found ≡ command → IsOrder found o → LeadsTo kinds command (Ok o)
leads kinds command found o none same is = (none, subst (λ (c : Command). IsOrder c o) same is)

pub leads_nowhere : (kinds : Kinds) (command found : Command) (e : Error) → kinds ≡ [] → found ≡ command → ((o : Order) → IsOrder found o → ⊥)
    → IsAmong (kind_of e) (InvalidSubcommand ∷ OutOfMemory ∷ []) → LeadsTo kinds command (Err e)
leads_nowhere kinds command found e none same nothing (inl told) =
    inr (inr (none, record { none = λ o is. nothing o (subst (λ (c : Command). IsOrder c o) (sym same) is); told = told }))
leads_nowhere kinds command found e none same nothing (inr (inl memory)) = inl memory
leads_nowhere kinds command found e none same nothing (inr (inr other)) = elim other [ ]

-- clap refused the words, and its error is handed on
pub refused_by : (kinds : Kinds) (command : Command) (x : Error) (result : Result Order Error) → HasKind kinds x → IsErr result → IsErrAnd result (λ e. e ≡ x)
    → LeadsTo kinds command result
refused_by kinds command x (Ok o) has failed same = absurd (false≢true failed)
refused_by kinds command x (Err e) has failed same = go (subst (HasKind kinds) (sym same) has)
  where
    go : HasKind kinds e → LeadsTo kinds command (Err e)
    go (inl memory) = inl memory
    go (inr among) = inr (inl among)

same_in : {X : Type 0} {a b : X} → Some a ≡ Some b → a ≡ b
same_in e = cc

unfoldable pub first_byte : Command → ℕ
first_byte None = 0
first_byte (Some (name, rows)) = get_or name 0 0

unfoldable pub rows_in : Command → List Row
rows_in None = []
rows_in (Some (name, rows)) = rows

unfoldable pub second_byte : Command → ℕ
second_byte None = 0
second_byte (Some (name, rows)) = get_or name 1 0

no_source : (given : Option Text) (path : Option (Bor Text)) → given ≡ None → IsSource given path → path ≡ None
no_source given None none is = refl
no_source given (Some path) none is = let bad : Some path.now ≡ None = is.0 ∙ none in absurd cc

same_detail : (rows : List Row) (d : Detail) → one_of (codes "explain") rows ≡ Some (codes "false") → IsDetail rows d → d ≡ detail.Number
same_detail rows d silent is = is.left_out silent

-- the word `script` alone
script_order : (command : Command) (rows : List Row) (o : Order) → command ≡ Some (codes "script", rows) → first_of (codes "file") rows ≡ None
    → one_of (codes "explain") rows ≡ Some (codes "false") → IsOrder command o → o ≡ order.Text (input.Script None) detail.Number
unfolding first_byte second_byte rows_in
script_order command rows (order.Text (input.Script path) d) is bare silent given =
    let same : given.0 ≡ rows = ap rows_in (sym given.1.0 ∙ is) in
    ap₂ (λ (p : Option (Bor Text)) (e : Detail). order.Text (input.Script p) e)
    (no_source _ path (ap (first_of (codes "file")) same ∙ bare) given.1.1) (same_detail given.0 d (ap (one_of (codes "explain")) same ∙ silent) given.2)
script_order command rows (order.Text (input.History path) d) is bare silent given = let bad : ◌≡◌ {A = ℕ} 114 115 = ap first_byte (sym given.1.0 ∙ is) in absurd (omega arith)
script_order command rows (order.Text (input.Journal path) d) is bare silent given = let bad : ◌≡◌ {A = ℕ} 106 115 = ap first_byte (sym given.1.0 ∙ is) in absurd (omega arith)
script_order command rows (order.Follow path) is bare silent given = let bad : ◌≡◌ {A = ℕ} 106 115 = ap first_byte (sym given.1 ∙ is) in absurd (omega arith)
script_order command rows (order.Load load path d) is bare silent given = let bad : ◌≡◌ {A = ℕ} 108 115 = ap first_byte (sym given.1 ∙ is) in absurd (omega arith)
script_order command rows (order.Serve how) is bare silent given = let bad : ◌≡◌ {A = ℕ} 101 99 = ap second_byte (sym given.1 ∙ is) in absurd (omega arith)

-- the word `replay` alone
replay_order : (command : Command) (rows : List Row) (o : Order) → command ≡ Some (codes "replay", rows) → first_of (codes "file") rows ≡ None
    → one_of (codes "explain") rows ≡ Some (codes "false") → IsOrder command o → o ≡ order.Text (input.History None) detail.Number
unfolding first_byte rows_in
replay_order command rows (order.Text (input.History path) d) is bare silent given =
    let same : given.0 ≡ rows = ap rows_in (sym given.1.0 ∙ is) in
    ap₂ (λ (p : Option (Bor Text)) (e : Detail). order.Text (input.History p) e)
    (no_source _ path (ap (first_of (codes "file")) same ∙ bare) given.1.1) (same_detail given.0 d (ap (one_of (codes "explain")) same ∙ silent) given.2)
replay_order command rows (order.Text (input.Script path) d) is bare silent given = let bad : ◌≡◌ {A = ℕ} 115 114 = ap first_byte (sym given.1.0 ∙ is) in absurd (omega arith)
replay_order command rows (order.Text (input.Journal path) d) is bare silent given = let bad : ◌≡◌ {A = ℕ} 106 114 = ap first_byte (sym given.1.0 ∙ is) in absurd (omega arith)
replay_order command rows (order.Follow path) is bare silent given = let bad : ◌≡◌ {A = ℕ} 106 114 = ap first_byte (sym given.1 ∙ is) in absurd (omega arith)
replay_order command rows (order.Load load path d) is bare silent given = let bad : ◌≡◌ {A = ℕ} 108 114 = ap first_byte (sym given.1 ∙ is) in absurd (omega arith)
replay_order command rows (order.Serve how) is bare silent given = let bad : ◌≡◌ {A = ℕ} 115 114 = ap first_byte (sym given.1 ∙ is) in absurd (omega arith)

-- where clap takes the words and there is an order, an error is one of memory
only_memory : (kinds : Kinds) (command : Command) (o : Order) (e : Error) → kinds ≡ [] → IsOrder command o → IsRefusal kinds command (kind_of e) → kind_of e ≡ OutOfMemory
only_memory kinds command o e none is (inl memory) = memory
only_memory kinds command o e none is (inr (inl among)) = absurd (subst (IsAmong (kind_of e)) none among)
only_memory kinds command o e none is (inr (inr other)) = absurd (other.1.none o is)

-- a command without options
pub script_leads : (name : Text) (result : Result Order Error) → WordsLeadTo (name ∷ codes "script" ∷ []) result → IsTextOf (input.Script None) result
unfolding clap_on_literals kinds_at command_at
script_leads name (Ok o) led = script_order _ _ o refl refl refl led.1
script_leads name (Err e) led =
    only_memory _ _ (order.Text (input.Script None) detail.Number) e refl (_, (refl, inl refl), record { given = λ e. cc; left_out = λ e. refl }) led

pub replay_leads : (name : Text) (result : Result Order Error) → WordsLeadTo (name ∷ codes "replay" ∷ []) result → IsTextOf (input.History None) result
unfolding clap_on_literals kinds_at command_at
replay_leads name (Ok o) led = replay_order _ _ o refl refl refl led.1
replay_leads name (Err e) led =
    only_memory _ _ (order.Text (input.History None) detail.Number) e refl (_, (refl, inl refl), record { given = λ e. cc; left_out = λ e. refl }) led

-- a load whose options are not four numbers within their ranges is no order
pub no_order : (command : Command) (rows : List Row) → command ≡ Some (codes "load", rows)
    → ((w n r t : ℕ) → AreNumbers rows w n r t → IsWithin w n r t → ⊥) → (o : Order) → IsOrder command o → ⊥
unfolding first_byte rows_in
no_order command rows is outside (order.Load load path answer) other =
    let same : rows ≡ other.0 = ap rows_in (sym is ∙ other.1) in
    outside load.workers load.children load.readers load.turns
    (subst (λ (R : List Row). AreNumbers R load.workers load.children load.readers load.turns) (sym same) other.2)
    (load.crew.0, load.crew.1, load.crowd.0, load.crowd.1, load.asking, load.asked.0, load.asked.1)
no_order command rows is outside (order.Text (input.Script path) answer) other = let bad : ◌≡◌ {A = ℕ} 108 115 = ap first_byte (sym is ∙ other.1.0) in absurd (omega arith)
no_order command rows is outside (order.Text (input.History path) answer) other = let bad : ◌≡◌ {A = ℕ} 108 114 = ap first_byte (sym is ∙ other.1.0) in absurd (omega arith)
no_order command rows is outside (order.Text (input.Journal path) answer) other = let bad : ◌≡◌ {A = ℕ} 108 106 = ap first_byte (sym is ∙ other.1.0) in absurd (omega arith)
no_order command rows is outside (order.Follow path) other = let bad : ◌≡◌ {A = ℕ} 108 106 = ap first_byte (sym is ∙ other.1) in absurd (omega arith)
no_order command rows is outside (order.Serve how) other = let bad : ◌≡◌ {A = ℕ} 108 115 = ap first_byte (sym is ∙ other.1) in absurd (omega arith)

-- the name and the rows of what clap found are those of one command
pub found_is : (m : ArgMatches) (name : Text) (rows : List Row) → Some name ≡ subcommand_name_of m → Some rows ≡ option_map (λ p. p.1) (subcommand_rows_of m)
    → subcommand_rows_of m ≡ Some (name, rows)
found_is m name rows = go (out-ArgMatches m).subcommand
  where
    go : {Z : Type 0} (o : Option (Box SubCommand Z)) → Some name ≡ option_map (λ b. (out-SubCommand (box_value b)).name.now) o
        → Some rows ≡ option_map (λ p. p.1) (subcommand_rows o) → subcommand_rows o ≡ Some (name, rows)
    go None named is = cc
    go (Some b) named is =
        let one : (out-SubCommand (box_value b)).name.now ≡ name = same_in (sym named) in
        ap Some (ap₂ (λ (n : Text) (r : List Row). (n, r)) one (same_in (sym is)))

-- no order was read, and the command has none
pub is_none : (command : Command) (result : Option Order) → result ≡ None → ((o : Order) → IsOrder command o → ⊥)
    → MatchOption result ((o : Order) → IsOrder command o → ⊥) (IsOrder command)
is_none command result is none = rw is none
