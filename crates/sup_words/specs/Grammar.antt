-- What the command line may say: the commands, their options, and the ranges of the numbers.
use Rattle.std.specs.Prelude.{ℕ, Bool, List, true, false, Some, codes}
use Rattle.sup_words.specs.Settings.{Setting, workers, children, readers, turns, name_of, least_of, most_of}
use Rattle.clap.specs.Words.{App, Rule, new_app, new_rule, with_rule, with_subcommand}
use Rattle.clap.specs.declared.builder.action.ArgAction.TheVariants.{Set, SetTrue}
use Rattle.clap.specs.declared.builder.value_parser.ValueParser.TheVariants.{Unsigned}

-- an option that takes no value
abbrev pub flag_rule : List ℕ → Rule
flag_rule name = record (new_rule name) { long = Some name; action = Some SetTrue }

abbrev pub explain_rule : Rule
explain_rule = flag_rule (codes "explain")

-- an option that has to be given once, with one number of this range
abbrev pub number_rule : List ℕ → ℕ → ℕ → Rule
number_rule name least most = record (new_rule name) {
  long = Some name;
  value_names = 1;
  required = true;
  action = Some Set;
  parser = Some (Unsigned least most);
}

abbrev pub setting_rule : Setting → Rule
setting_rule s = number_rule (name_of s) (least_of s) (most_of s)

-- a word that is the path of a file
abbrev pub file_rule : Bool → Rule
file_rule required = record (new_rule (codes "file")) {
  value_names = 1;
  required = required;
  action = Some Set;
}

-- a command that may explain a fault
abbrev pub explained_app : List ℕ → App
explained_app name = with_rule (new_app name) explain_rule

-- one that answers a text, which may be in a file
abbrev pub text_app : List ℕ → App
text_app name = with_rule (explained_app name) (file_rule false)

-- the same of a journal, which is in a file: it may be followed
abbrev pub journal_app : App
journal_app = with_rule (with_rule (explained_app (codes "journal")) (flag_rule (codes "follow"))) (file_rule true)

abbrev pub status_rule : Rule
status_rule = flag_rule (codes "status")

-- `--journal`, which may be given once, with a path
abbrev pub journal_rule : Rule
journal_rule = record (new_rule (codes "journal")) {
  long = Some (codes "journal");
  value_names = 1;
  action = Some Set;
}

-- the server: it may say by itself how many sessions there are, and may have a journal, in which a new history may begin
abbrev pub serve_app : App
serve_app = with_rule (with_rule (with_rule (new_app (codes "serve")) status_rule) journal_rule) (flag_rule (codes "anew"))

-- the load, with its four numbers, and perhaps a journal; it may explain a fault
abbrev pub load_app : App
load_app = with_rule (with_rule (with_rule (with_rule (with_rule (with_rule (new_app (codes "load"))
    (setting_rule workers)) (setting_rule children)) (setting_rule readers)) (setting_rule turns)) journal_rule) explain_rule

-- the program has a version and asks for a command
abbrev pub bare_app : App
bare_app = record (new_app (codes "supload")) {
  top = record (new_app (codes "supload")).top { has_version = true; subcommand_required = true };
}

abbrev pub supload_app : App
supload_app = with_subcommand (with_subcommand (with_subcommand (with_subcommand (with_subcommand bare_app
    (text_app (codes "script")).top) (text_app (codes "replay")).top) journal_app.top)
    load_app.top) serve_app.top
