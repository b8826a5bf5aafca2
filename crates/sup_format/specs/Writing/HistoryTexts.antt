-- History texts, line after line: the first line is the text with no entry, and each line more is one entry more.
use Rattle.std.specs.Prelude.{ℕ, ◌<◌, ◌≤◌, List, [], ◌∷◌, ◌++◌, length, take}
use Rattle.sup_types.specs.declared.template.Template.{Template}
use Rattle.sup_types.specs.declared.history.Entry.{Entry}
use Rattle.sup_format.specs.Reading.History.{first_words, entry_words, SpellsAs}
use Rattle.sup_format.specs.Writing.Replies.{line_of}

abbrev pub header_line : Template → List ℕ
header_line t = line_of (first_words t)

abbrev pub entry_line : Entry → List ℕ
entry_line e = line_of (entry_words e)

-- after each history text, this line makes the text of one entry more
abbrev pub SpellsOneMore : List ℕ → Entry → Type 0
SpellsOneMore line e = (text : List ℕ) (template : Template) (entries : List Entry) → SpellsAs text template entries → SpellsAs (text ++ line) template (entries ++ e ∷ [])

-- the text spells these entries and the first of the further ones, and not all of them if bytes of their text remain
pub record SpellsFirstsOf (text left : List ℕ) (template : Template) (entries more : List Entry) : Type 0 where
  pub count : ℕ
  pub inside : count ≤ length more
  pub some_left : 0 < length left → count < length more
  pub spelled : SpellsAs text template (entries ++ take count more)
